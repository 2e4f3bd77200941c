-- What the questions of a payment tell where none was answered no.
use Rattle.std.proofs.Common.{◌≡◌, ℕ, ◌<◌, ◌≤◌, None, Ok, Err, Result, arith}
use Rattle.std.proofs.lemmas.Bool.Decides.{nat_tests}
use Rattle.register.specs.Holdings.{Holdings}
use Rattle.register.proofs.Sums.{range_term}
use Rattle.register.specs.Answers.{entry_answer}
use Rattle.register.specs.declared.entry.Entry.{Entry}
use Rattle.register.specs.declared.entry.Entry.TheVariants.{Put, Take}
use Rattle.register.specs.declared.refusal.Refusal.{Refusal}
use Rattle.book.specs.declared.place.Place.{Place}
use Rattle.book.specs.State.{State, holdings}
use Rattle.fault.specs.Questions.{first_no, passes}
use Rattle.fault.proofs.Asking.{all_hold}
use Rattle.book.specs.Paying.{payment_questions, pay_questions, amount_at}

-- after its questions the register does not refuse a payment
pub entry_passes : (h : Holdings) (p : Place) (e : Entry) → passes (payment_questions h p e) ≡ Ok tt → entry_answer h p.kind p.account e ≡ Ok tt
entry_passes h p (Put n) passed = let held = range_term (h.amount p.kind) h.accounts p.account in grind (arith, nat_tests)
entry_passes h p (Take n) passed = grind (arith, nat_tests)

-- an answer is no refusal
pub not_both : {r : Result Unit Refusal} {e : Refusal} → Err e ≡ r → r ≡ Ok tt → ⊥
not_both {r} {e} p q = let z : ◌≡◌ {A = ℕ} 0 1 = cc in omega arith

-- the place of a payment is a participant's account of one of the two sides
pub record Payable (s : State) (p : Place) : Type 0 where
  pub side : p.side < 2
  pub participant : 1 ≤ p.account
  pub account : p.account < (holdings s p.side).accounts

pub payable : (s : State) (p : Place) (e : Entry) → first_no (pay_questions s p e) ≡ None → Payable s p
payable s p e asked =
    let all = all_hold (pay_questions s p e) asked in
    record { side = grind (arith, nat_tests); participant = grind (arith, nat_tests); account = grind (arith, nat_tests) }

-- what is taken is held
pub take_covered : (s : State) (p : Place) (n : ℕ) → first_no (pay_questions s p (Take n)) ≡ None → n ≤ amount_at s p
take_covered s p n asked = let all = all_hold (pay_questions s p (Take n)) asked in grind (arith, nat_tests)
