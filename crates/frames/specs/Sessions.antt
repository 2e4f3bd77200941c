-- Text that comes in chunks: the lines in it, and what they do one after the other.
use Rattle.std.specs.Prelude.{◌≡◌, ℕ, ◌+◌, ◌*◌, ◌<◌, ◌≤◌, Bool, true, false, if◌then◌else◌, List, [], ◌∷◌, ◌++◌, length, map, Ok, Err, Option, vec_items, vec_capacity, Result, Vec, ◌==◌}
use Rattle.std.specs.Io.KnownBytes.{Appends}
use Rattle.fault.specs.declared.fault.Fault.{Fault}
use Rattle.book.specs.Opening.{Opening}
use Rattle.book.specs.State.{State}
use Rattle.history.specs.declared.call.Call.{Call}
use Rattle.history.specs.Step.{answer}
use Rattle.history.specs.History.{Event, Leads, event}
use Rattle.history.specs.Law.{Lawful}
use Rattle.frames.specs.Calls.{line_call}
use Rattle.frames.specs.Hex.{line_bytes}
use Rattle.frames.specs.Replies.{after_line, answer_line, line_answer, longest, spare}
use Rattle.frames.specs.Stream.{kept}

-- the whole lines in the text of an unfinished line followed by a chunk: each newline ends one
-- Stays: the new form is no plainer: the library's slice_split would cut at a newline of p too, and p is text whatever it has
abbrev pub lines : List ℕ → List ℕ → List (List ℕ)
lines p [] = []
lines p (c ∷ cs) = if c == 10 then p ∷ lines [] cs else lines (p ++ c ∷ []) cs

-- what is left of an unfinished line
abbrev pub rest : List ℕ → List ℕ → List ℕ
rest p [] = p
rest p (c ∷ cs) = if c == 10 then rest [] cs else rest (p ++ c ∷ []) cs

-- at the end of the input what is left is a line too, unless nothing is
abbrev pub last_line : List ℕ → List (List ℕ)
last_line [] = []
last_line (c ∷ cs) = (c ∷ cs) ∷ []

-- the law: how the text is cut into chunks does not matter
abbrev pub ChunksAlike : Type 0
ChunksAlike =
    (p a b : List ℕ) → (lines p (a ++ b) ≡ lines p a ++ lines (rest p a) b)
    × (rest p (a ++ b) ≡ rest (rest p a) b)

-- the law: what is kept of the text before a chunk does what that text does. The lines that then
-- end say the same, the same is kept after it, and at the end of the input the last line says the same
abbrev pub TextsAlike : Type 0
TextsAlike =
    (p chunk : List ℕ) → (map line_bytes (lines (kept p) chunk) ≡ map line_bytes (lines p chunk))
    × (kept (rest (kept p) chunk) ≡ kept (rest p chunk))
    × (map line_bytes (last_line (kept p)) ≡ map line_bytes (last_line p))

-- all the lines of a text that follows an unfinished line
abbrev pub text_lines : List ℕ → List ℕ → List (List ℕ)
text_lines p text = lines p text ++ last_line (rest p text)

-- the state after lines
abbrev pub after_lines : State → List (List ℕ) → State
after_lines s [] = s
after_lines s (line ∷ ls) = after_lines (after_line s line) ls

-- their answers, each over the state that the lines before it left
abbrev pub answers : State → List (List ℕ) → List ℕ
answers s [] = []
answers s (line ∷ ls) = answer_line (line_answer s line) ++ answers (after_line s line) ls

-- the event of what a line says, put before earlier ones: a line that says no call is none
abbrev pub said_event : State → Result Call Fault → List Event → List Event
said_event s (Ok c) h = event c (answer s c) ∷ h
said_event s (Err f) h = h

-- the events of lines, put before earlier ones
abbrev pub events : State → List (List ℕ) → List Event → List Event
events s [] h = h
events s (line ∷ ls) h = events (after_line s line) ls (said_event s (line_call line) h)

-- the law: whatever history led to s leads on by lines, lawfully
abbrev pub LinesLawful : Type 0
LinesLawful =
    (o : Opening) (h : List Event) (s : State) (ls : List (List ℕ)) → Leads o h s
    → Leads o (events s ls h) (after_lines s ls) × Lawful o (events s ls h) (after_lines s ls)

-- lines were answered, one after the other; each takes at most the longest line's room, and the
-- capacity never shrinks
pub record LinesAnswered {Z : Type 0} (ls : List (List ℕ)) (s t : State) (out out' : Vec ℕ Z) : Type 0 where
  pub written : vec_items out' ≡ vec_items out ++ answers s ls
  pub becomes : t ≡ after_lines s ls
  pub used : spare out ≤ spare out' + longest * length ls
  pub keeps_room : vec_capacity out ≤ vec_capacity out'

-- the first of them were, and then room and memory were wanting
pub record Stopped {Z : Type 0} (ls : List (List ℕ)) (s t : State) (out out' : Vec ℕ Z) : Type 0 where
  pub first : List (List ℕ)
  pub others : List (List ℕ)
  pub all : ls ≡ first ++ others
  pub answered : LinesAnswered first s t out out'
  pub stopped : spare out < longest * length ls

-- a chunk after the text p of an unfinished line: its lines were answered, and q is kept of what is
-- left, or the first of the lines were answered
abbrev pub Fed : {Z : Type 0} → List ℕ → List ℕ → State → State → Vec ℕ Z → Vec ℕ Z → List ℕ
    → Bool → Type 0
Fed p chunk s t out out' q true = LinesAnswered (lines p chunk) s t out out' × (q ≡ kept (rest p chunk))
Fed p chunk s t out out' q false = Stopped (lines p chunk) s t out out'

-- a last line was answered, or, where it was not done for want of room and memory, nothing changed
pub record Ended {Z : Type 0} (ls : List (List ℕ)) (s t : State) (out out' : Vec ℕ Z) (done : Bool)
    : Type 0 where
  pub answered : LinesAnswered (if done then ls else []) s t out out'
  pub stopped : done ≡ false → spare out < longest

-- every line of a text that follows an unfinished line was answered into what a writer holds
pub record Serves (p text : List ℕ) (s t : State) (held held' : Option (List ℕ)) : Type 0 where
  pub written : Appends held held' (answers s (text_lines p text))
  pub becomes : t ≡ after_lines s (text_lines p text)
