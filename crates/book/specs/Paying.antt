-- Pay in, pay out and tell.
use Rattle.std.specs.Prelude.{ℕ, ◌+◌, ◌&&◌, List, [], ◌∷◌, Result, nat_le, nat_lt}
use Rattle.register.specs.Holdings.{Holdings, limit, total}
use Rattle.register.specs.Answers.{Changed}
use Rattle.register.specs.Entry.{holdings_after}
use Rattle.register.specs.declared.entry.Entry.{Entry}
use Rattle.register.specs.declared.entry.Entry.TheVariants.{Put, Take}
use Rattle.fault.specs.declared.fault.Fault.{Fault}
use Rattle.fault.specs.declared.fault.Fault.TheVariants.{UnknownSide, UnknownKind, UnknownAccount, AmountRange, SumRange, HoldsLess}
use Rattle.movement.specs.Limits.{most_moved}
use Rattle.movement.specs.Bounds.{from_one_to}
use Rattle.book.specs.declared.place.Place.{Place}
use Rattle.book.specs.State.{State, holdings, with_holdings}
use Rattle.fault.specs.Questions.{Question, ask, passes}
use Rattle.book.specs.Questions.{answer_to}

-- the side is 0 or 1
abbrev pub side_known : Place → Question
side_known p = ask (nat_lt p.side 2) UnknownSide

abbrev pub kind_known : Holdings → Place → Question
kind_known h p = ask (nat_lt p.kind h.kinds) UnknownKind

-- account 0 is the depository's own: nothing is paid into it or out of it
abbrev pub participant_known : Holdings → Place → Question
participant_known h p = ask (nat_le 1 p.account && nat_lt p.account h.accounts) UnknownAccount

abbrev pub account_known : Holdings → Place → Question
account_known h p = ask (nat_lt p.account h.accounts) UnknownAccount

-- what an entry moves
abbrev pub amount_of : Entry → ℕ
amount_of (Put n) = n
amount_of (Take n) = n

abbrev pub amount_fits : ℕ → Question
amount_fits n = ask (from_one_to most_moved n) AmountRange

-- the kind's sum stays within the limit, and no more is taken than the account holds
abbrev pub entry_fits : Holdings → Place → Entry → Question
entry_fits h p (Put n) = ask (nat_le (total h p.kind + n) limit) SumRange
entry_fits h p (Take n) = ask (nat_le n (h.amount p.kind p.account)) HoldsLess

-- what is asked of one register when an entry is paid
abbrev pub payment_questions : Holdings → Place → Entry → List Question
payment_questions h p e =
    kind_known h p ∷ (participant_known h p ∷ (amount_fits (amount_of e) ∷ (entry_fits h p e ∷ [])))

-- .. when an amount is told
abbrev pub inquiry_questions : Holdings → Place → List Question
inquiry_questions h p = kind_known h p ∷ (account_known h p ∷ [])

-- what the register shows after the entry
abbrev pub with_entry : Holdings → Place → Entry → Holdings
with_entry h p e = holdings_after h p.kind p.account e

abbrev pub pay_questions : State → Place → Entry → List Question
pay_questions s p e = side_known p ∷ payment_questions (holdings s p.side) p e

abbrev pub tell_questions : State → Place → List Question
tell_questions s p = side_known p ∷ inquiry_questions (holdings s p.side) p

-- the state after the entry
abbrev pub with_payment : State → Place → Entry → State
with_payment s p e = with_holdings s p.side (with_entry (holdings s p.side) p e)

-- the amount of a place
abbrev pub amount_at : State → Place → ℕ
amount_at s p = (holdings s p.side).amount p.kind p.account

-- what a payment promises of one register
abbrev pub Pays : Holdings → Place → Entry → Result Unit Fault → Holdings → Type 0
Pays h p e = Changed h (passes (payment_questions h p e)) (with_entry h p e)

-- .. and of the whole book
abbrev pub Paid : State → Place → Entry → Result Unit Fault → State → Type 0
Paid s p e = Changed s (answer_to s (pay_questions s p e) tt) (with_payment s p e)

abbrev pub told : State → Place → Result ℕ Fault
told s p = answer_to s (tell_questions s p) (amount_at s p)
