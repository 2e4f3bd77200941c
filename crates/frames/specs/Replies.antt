-- The line that answers a line.
use Rattle.std.specs.Prelude.{◌≡◌, ℕ, ◌+◌, ◌-◌, ◌<◌, ◌≤◌, Bool, true, false, if◌then◌else◌, List, [], ◌∷◌, ◌++◌, Ok, Err, vec_items, vec_len, vec_capacity, Result, Vec}
use Rattle.std.specs.Int.{w64, to_be_bytes}
use Rattle.fault.specs.declared.fault.Fault.{Fault}
use Rattle.fault.specs.Numbers.{fault_number}
use Rattle.book.specs.State.{State}
use Rattle.history.specs.declared.call.Call.{Call}
use Rattle.history.specs.declared.call.Answer.{Answer}
use Rattle.history.specs.declared.call.Answer.TheVariants.{Done, Amount}
use Rattle.history.specs.Step.{answer, after}
use Rattle.history.specs.Law.{Performed}
use Rattle.frames.specs.Hex.{hex_text}
use Rattle.frames.specs.Calls.{line_call}

-- what an accepted call answers after its 00
abbrev pub result_bytes : Answer → List ℕ
result_bytes Done = []
result_bytes (Amount n) = to_be_bytes w64 n

-- 00 and the result, or FF and the number of the refusal
abbrev pub answer_bytes : Result Answer Fault → List ℕ
answer_bytes (Ok a) = 0 ∷ result_bytes a
answer_bytes (Err f) = 255 ∷ (fault_number f ∷ [])

-- in capital hexadecimal digits, with the end of the line
abbrev pub answer_line : Result Answer Fault → List ℕ
answer_line r = hex_text (answer_bytes r) ++ (10 ∷ [])

-- no answer's line is longer: two digits for each of nine bytes, and the end of the line
abbrev pub longest : ℕ
longest = 19

-- the answer of what was read, and the state after it
abbrev pub said_answer : State → Result Call Fault → Result Answer Fault
said_answer s (Ok c) = answer s c
said_answer s (Err f) = Err f

abbrev pub after_said : State → Result Call Fault → State
after_said s (Ok c) = after s c
after_said s (Err f) = s

-- the answer of a line
abbrev pub line_answer : State → List ℕ → Result Answer Fault
line_answer s line = said_answer s (line_call line)

-- the state after a line
abbrev pub after_line : State → List ℕ → State
after_line s line = after_said s (line_call line)

-- what a line promises: the answer and the state by the rules, and of a call the law over whatever history led to s
pub record LineAnswered (line : List ℕ) (s : State) (r : Result Answer Fault) (t : State) : Type 0 where
  pub answered : r ≡ line_answer s line
  pub becomes : t ≡ after_line s line
  pub performed : (c : Call) → line_call line ≡ Ok c → Performed s c r t

-- the room that is left
abbrev pub spare : {Z : Type 0} → Vec ℕ Z → ℕ
spare v = vec_capacity v - vec_len v

-- a line was answered by a line, or, where it was not done for want of room and memory, nothing changed
pub record Responded {Z : Type 0} (line : List ℕ) (s t : State) (out out' : Vec ℕ Z) (done : Bool) : Type 0 where
  pub written : vec_items out' ≡ (if done then vec_items out ++ answer_line (line_answer s line) else vec_items out)
  pub becomes : t ≡ (if done then after_line s line else s)
  pub answered : done ≡ true → LineAnswered line s (line_answer s line) t
  pub stopped : done ≡ false → spare out < longest
  -- it takes at most the longest line's room, and the capacity never shrinks
  pub used : spare out ≤ spare out' + (if done then longest else 0)
  pub keeps_room : vec_capacity out ≤ vec_capacity out'
