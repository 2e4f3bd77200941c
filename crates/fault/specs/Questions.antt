-- A call asks questions in order; the first no is its answer, and then it changes nothing.
use Rattle.std.specs.Prelude.{Bool, if◌then◌else◌, List, [], ◌∷◌, Some, None, Ok, Err, Option, Result}
use Rattle.fault.specs.declared.fault.Fault.{Fault}

-- what is asked, and the fault of a no
pub record Question : Type 0 where
  pub holds : Bool
  pub fault : Fault

-- the question whether b, f its fault
abbrev pub ask : Bool → Fault → Question
ask b f = record { holds = b; fault = f }

-- the fault of the first no
abbrev pub first_no : List Question → Option Fault
first_no [] = None
first_no (q ∷ qs) = if q.holds then first_no qs else Some q.fault

-- refused by the fault, if there is one
abbrev pub unless : {A : Type 0} → Option Fault → Result A Fault → Result A Fault
unless None r = r
unless (Some f) r = Err f

-- v, unless a question is answered no
abbrev pub asked : {A : Type 0} → List Question → A → Result A Fault
asked qs v = unless (first_no qs) (Ok v)

-- nothing more to answer, unless a question is answered no
abbrev pub passes : List Question → Result Unit Fault
passes qs = asked qs tt

-- the value, or refused by f where there is none
abbrev pub or_fault : {A : Type 0} → Fault → Option A → Result A Fault
or_fault f None = Err f
or_fault f (Some v) = Ok v
