-- Histories: the calls since the opening with their answers, the newest first.
use Rattle.std.specs.Prelude.{List, [], ◌∷◌, Result}
use Rattle.fault.specs.declared.fault.Fault.{Fault}
use Rattle.book.specs.State.{State}
use Rattle.book.specs.Opening.{Opening, opened}
use Rattle.history.specs.declared.call.Call.{Call}
use Rattle.history.specs.declared.call.Answer.{Answer}
use Rattle.history.specs.Step.{answer, after}

pub record Event : Type 0 where
  pub call : Call
  pub answer : Result Answer Fault

abbrev pub event : Call → Result Answer Fault → Event
event c r = record { call = c; answer = r }

-- the events of a list of calls and their answers, put before earlier ones
abbrev pub history_onto : List Event → List Call → List (Result Answer Fault) → List Event
history_onto h [] rs = h
history_onto h (c ∷ cs) [] = h
history_onto h (c ∷ cs) (r ∷ rs) = history_onto (event c r ∷ h) cs rs

abbrev pub history : List Call → List (Result Answer Fault) → List Event
history cs rs = history_onto [] cs rs

-- the history leads from the opening to the state: each call was answered as the rules have it, in turn
pub data Leads (o : Opening) : List Event → State → Type 0 where
  opens : Leads o [] (opened o)
  goes : {h : List Event} {s : State} (c : Call) → Leads o h s → Leads o (event c (answer s c) ∷ h) (after s c)
