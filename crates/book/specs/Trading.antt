-- Terms, trade, consent and cancel: what the calls promise.
use Rattle.std.specs.Prelude.{ℕ, Result}
use Rattle.register.specs.Answers.{Changed}
use Rattle.fault.specs.declared.fault.Fault.{Fault}
use Rattle.fault.specs.Questions.{passes}
use Rattle.movement.specs.declared.terms.Setting.{Setting}
use Rattle.movement.specs.declared.trade.Trade.{Trade}
use Rattle.movement.specs.Settings.{terms_questions}
use Rattle.book.specs.Daily.{Daily, agreed_to, trade_questions, entered, consent_questions, consented_to, cancel_questions, cancelled}
use Rattle.book.specs.State.{State, with_daily}
use Rattle.book.specs.Questions.{answer_to}

-- of the day, the members and the movements
abbrev pub AgreedTo : Daily → Setting → Result Unit Fault → Daily → Type 0
AgreedTo d t = Changed d (passes (terms_questions d.accounts t)) (agreed_to d t)

abbrev pub Entered : Daily → Trade → Result Unit Fault → Daily → Type 0
Entered d t = Changed d (passes (trade_questions d t)) (entered d t)

abbrev pub ConsentedTo : Daily → ℕ → ℕ → Result Unit Fault → Daily → Type 0
ConsentedTo d n p = Changed d (passes (consent_questions d n p)) (consented_to d n p)

abbrev pub Cancelled : Daily → ℕ → Result Unit Fault → Daily → Type 0
Cancelled d n = Changed d (passes (cancel_questions d n)) (cancelled d n)

-- of the whole book
abbrev pub TermsSet : State → Setting → Result Unit Fault → State → Type 0
TermsSet s t = Changed s (answer_to s (terms_questions s.daily.accounts t) tt) (with_daily s (agreed_to s.daily t))

abbrev pub Traded : State → Trade → Result Unit Fault → State → Type 0
Traded s t = Changed s (answer_to s (trade_questions s.daily t) tt) (with_daily s (entered s.daily t))

abbrev pub Consented : State → ℕ → ℕ → Result Unit Fault → State → Type 0
Consented s n p = Changed s (answer_to s (consent_questions s.daily n p) tt) (with_daily s (consented_to s.daily n p))

abbrev pub CancelDone : State → ℕ → Result Unit Fault → State → Type 0
CancelDone s n = Changed s (answer_to s (cancel_questions s.daily n) tt) (with_daily s (cancelled s.daily n))
