-- One call by the rules: what is asked, what is answered, and the state after it.
use Rattle.std.specs.Prelude.{◌≡◌, if◌then◌else◌, List, is_ok, Result}
use Rattle.fault.specs.declared.fault.Fault.{Fault}
use Rattle.movement.specs.Settings.{terms_questions}
use Rattle.book.specs.Daily.{trade_questions, consent_questions, cancel_questions, agreed_to, entered, consented_to, cancelled}
use Rattle.book.specs.State.{State, with_daily}
use Rattle.fault.specs.Questions.{Question}
use Rattle.book.specs.Questions.{answer_to}
use Rattle.book.specs.Paying.{pay_questions, tell_questions, with_payment, amount_at}
use Rattle.register.specs.declared.entry.Entry.TheVariants.{Put, Take}
use Rattle.history.specs.declared.call.Call.{Call}
use Rattle.history.specs.declared.call.Call.TheVariants.{PayIn, PayOut, Terms, Trade, Consent, Cancel, Tell}
use Rattle.history.specs.declared.call.Answer.{Answer}
use Rattle.history.specs.declared.call.Answer.TheVariants.{Done, Amount}

abbrev pub questions : State → Call → List Question
questions s (PayIn p n) = pay_questions s p (Put n)
questions s (PayOut p n) = pay_questions s p (Take n)
questions s (Terms t) = terms_questions s.daily.accounts t
questions s (Trade t) = trade_questions s.daily t
questions s (Consent n p) = consent_questions s.daily n p
questions s (Cancel n) = cancel_questions s.daily n
questions s (Tell p) = tell_questions s p

-- what an accepted call answers
abbrev pub result : State → Call → Answer
result s (PayIn p n) = Done
result s (PayOut p n) = Done
result s (Terms t) = Done
result s (Trade t) = Done
result s (Consent n p) = Done
result s (Cancel n) = Done
result s (Tell p) = Amount (amount_at s p)

-- the state after an accepted call
abbrev pub effect : State → Call → State
effect s (PayIn p n) = with_payment s p (Put n)
effect s (PayOut p n) = with_payment s p (Take n)
effect s (Terms t) = with_daily s (agreed_to s.daily t)
effect s (Trade t) = with_daily s (entered s.daily t)
effect s (Consent n p) = with_daily s (consented_to s.daily n p)
effect s (Cancel n) = with_daily s (cancelled s.daily n)
effect s (Tell p) = s

-- the answer of a call
abbrev pub answer : State → Call → Result Answer Fault
answer s c = answer_to s (questions s c) (result s c)

-- the state after a call
abbrev pub after : State → Call → State
after s c = if is_ok (answer s c) then effect s c else s

-- answered by the rules
pub record Stepped (s : State) (c : Call) (r : Result Answer Fault) (t : State) : Type 0 where
  pub answered : r ≡ answer s c
  pub becomes : t ≡ after s c
