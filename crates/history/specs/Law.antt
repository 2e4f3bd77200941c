-- The law of every history, in the words of accounts, calls and answers.
use Rattle.std.specs.Prelude.{◌≡◌, ℕ, ◌+◌, ◌<◌, ◌≤◌, Bool, true, false, if◌then◌else◌, ◌&&◌, ◌||◌, List, [], ◌∷◌, length, ℤ, pos, ◌+ℤ◌, neg_ℤ, ◌≤ℤ◌, is_ok, Some, None, Ok, Err, Result, ◌==◌, nat_lt}
use Rattle.std.specs.List.{AllByRecursion}
use Rattle.register.specs.Holdings.{total}
use Rattle.fault.specs.declared.fault.Fault.{Fault}
use Rattle.fault.specs.Numbers.{fault_number}
use Rattle.book.specs.State.{State, holdings}
use Rattle.movement.specs.declared.movement.Movement.{Movement}
use Rattle.book.specs.Daily.{on_book}
use Rattle.book.specs.Opening.{Opening, failed_question}
use Rattle.history.specs.declared.call.Call.{Call}
use Rattle.history.specs.declared.call.Call.TheVariants.{PayIn, PayOut, Terms, Trade, Consent, Cancel, Tell}
use Rattle.history.specs.declared.call.Answer.{Answer}
use Rattle.history.specs.Step.{Stepped, answer}
use Rattle.history.specs.History.{Event, event, Leads, history}
use Rattle.history.specs.Statement.{at_opening, statement}

-- neither a number of the opening's (1 to 4) nor one of a register's (91 to 94)
abbrev pub of_a_call : Fault → Bool
of_a_call f = nat_lt 4 (fault_number f) && (nat_lt (fault_number f) 91 || nat_lt 94 (fault_number f))

-- an event that is accepted, or refused by a number of the call's own
abbrev pub AnsweredByCall : Event → Type 0
AnsweredByCall e = (f : Fault) → e.answer ≡ Err f → of_a_call f ≡ true

-- what an accepted call pays into a kind, less what it pays out
abbrev pub paid : Call → ℕ → ℕ → ℤ
paid (PayIn p n) side k = if side == p.side && k == p.kind then pos n else pos 0
paid (PayOut p n) side k = if side == p.side && k == p.kind then neg_ℤ (pos n) else pos 0
paid (Terms t) side k = pos 0
paid (Trade t) side k = pos 0
paid (Consent n p) side k = pos 0
paid (Cancel n) side k = pos 0
paid (Tell p) side k = pos 0

-- .. and what a whole history does
abbrev pub paid_by : List Event → ℕ → ℕ → ℤ
paid_by [] side k = pos 0
paid_by (e ∷ h) side k = (if is_ok e.answer then paid e.call side k else pos 0) +ℤ paid_by h side k

-- how often a number was accepted as a trade's
abbrev pub traded_by : Call → ℕ → ℕ
traded_by (PayIn p m) n = 0
traded_by (PayOut p m) n = 0
traded_by (Terms t) n = 0
traded_by (Trade t) n = if t.number == n then 1 else 0
traded_by (Consent m p) n = 0
traded_by (Cancel m) n = 0
traded_by (Tell p) n = 0

-- how often it was cancelled
abbrev pub cancelled_by : Call → ℕ → ℕ
cancelled_by (PayIn p m) n = 0
cancelled_by (PayOut p m) n = 0
cancelled_by (Terms t) n = 0
cancelled_by (Trade t) n = 0
cancelled_by (Consent m p) n = 0
cancelled_by (Cancel m) n = if m == n then 1 else 0
cancelled_by (Tell p) n = 0

-- the sum over the accepted calls of a history
abbrev pub over : (Call → ℕ → ℕ) → List Event → ℕ → ℕ
over f [] n = 0
over f (e ∷ h) n = (if is_ok e.answer then f e.call n else 0) + over f h n

-- a number is on the book while a cancel now would not get 50
abbrev pub got_50 : Result Answer Fault → Bool
got_50 (Ok a) = false
got_50 (Err f) = fault_number f == 50

abbrev pub on_the_book : State → ℕ → ℕ
on_the_book s n = if got_50 (answer s (Cancel n)) then 0 else 1

-- the amounts of the state s to which the history h leads from the opening o
pub record LawfulAmounts (o : Opening) (h : List Event) (s : State) : Type 0 where
  -- each account equals its account statement
  pub accounts : (side k a : ℕ) → side < 2 → pos ((holdings s side).amount k a) ≡ (statement o h).amount side k a
  -- .. which is never negative
  pub covered : (side k a : ℕ) → side < 2 → pos 0 ≤ℤ (statement o h).amount side k a
  -- each kind's sum changes by pay-ins and pay-outs alone
  pub sums : (side k : ℕ) → side < 2 → pos (total (holdings s side) k) ≡ pos (total (at_opening o side) k) +ℤ paid_by h side k
  -- the depository's own account ends as it began
  pub depository : (side k : ℕ) → side < 2 → (holdings s side).amount k 0 ≡ (at_opening o side).amount k 0
  -- the numbers of kinds and of accounts stay
  pub kinds : (side : ℕ) → side < 2 → (holdings s side).kinds ≡ (at_opening o side).kinds
  pub numbered : (side : ℕ) → side < 2 → (holdings s side).accounts ≡ (at_opening o side).accounts

-- the answers
pub record LawfulAnswers (o : Opening) (h : List Event) (s : State) : Type 0 where
  -- a failed opening stays failed
  pub for_good : s.failed ≡ failed_question o
  -- after a passed opening no call is refused by a number of the opening's or of a register's
  pub passed : failed_question o ≡ None → AllByRecursion AnsweredByCall h
  -- after a failed one every call is refused by its number
  pub refused : (f : Fault) → failed_question o ≡ Some f → AllByRecursion (λ e. e.answer ≡ Err f) h

-- the trades
pub record LawfulTrades (o : Opening) (h : List Event) (s : State) : Type 0 where
  -- each accepted trade is on the book or cancelled, one of these and once; no other number is either
  pub placed : failed_question o ≡ None → (n : ℕ) → on_the_book s n + over cancelled_by h n ≡ over traded_by h n
  -- no number is accepted twice
  pub once : (n : ℕ) → over traded_by h n ≤ 1
  -- each movement on the book is as the statement notes it
  pub noted : (n : ℕ) (m : Movement) → on_book n s.daily.movements ≡ Some m → on_book n (statement o h).trades ≡ Some m
  -- the book goes by the terms that were noted
  pub terms : s.daily.terms ≡ (statement o h).terms

-- what holds of the state s to which the history h leads from the opening o
pub record Lawful (o : Opening) (h : List Event) (s : State) : Type 0 where
  pub amounts : LawfulAmounts o h s
  pub answers : LawfulAnswers o h s
  pub trades : LawfulTrades o h s

-- one event more: whatever history led to s leads on to t, lawfully
abbrev pub Extends : State → Event → State → Type 0
Extends s e t = (o : Opening) (h : List Event) → Leads o h s → Leads o (e ∷ h) t × Lawful o (e ∷ h) t

-- what one call promises: the answer and the state by the rules, nothing changed by a refusal, and the law over whatever came before
pub record Performed (s : State) (c : Call) (r : Result Answer Fault) (t : State) : Type 0 where
  pub stepped : Stepped s c r t
  pub unchanged : is_ok r ≡ false → t ≡ s
  pub extends : Extends s (event c r) t

-- a whole run: every call answered, each as the rules have it, and the law
pub record Ran (o : Opening) (cs : List Call) (rs : List (Result Answer Fault)) (s : State) : Type 0 where
  pub answered : length rs ≡ length cs
  pub leads : Leads o (history cs rs) s
  pub lawful : Lawful o (history cs rs) s
