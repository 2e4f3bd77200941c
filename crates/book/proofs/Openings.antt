-- What the answer to the questions of an opening makes of a book.
use Rattle.std.proofs.Common.{◌≡◌, ℕ, Option, Result, Ok, None, Some, refl, ap, ◌∙◌}
use Rattle.std.specs.Result.{result_err, result_unwrap_or}
use Rattle.fault.specs.declared.fault.Fault.{Fault}
use Rattle.fault.specs.Questions.{asked, first_no, unless}
use Rattle.book.specs.Daily.{Daily}
use Rattle.book.specs.Opening.{Opening, opening_questions, sizes_of, morning, opened}
use Rattle.book.specs.State.{State}

-- the fault of an answer is that of the question that failed
pub failed_by : {A : Type 0} (o : Option Fault) (v : A) → result_err (unless o (Ok v)) ≡ o
failed_by None v = refl
failed_by (Some f) v = refl

pub opened_by : (o : Opening) {answer : Result (ℕ × ℕ) Fault} {failed : Option Fault} {sizes : ℕ × ℕ} {d : Daily} → answer ≡ asked (opening_questions o) (sizes_of o) → failed ≡ result_err answer → sizes ≡ result_unwrap_or answer (0, 0) → d ≡ morning sizes.0 sizes.1 o.day → ◌≡◌ {A = State} (record { failed = failed; daily = d; securities = o.securities; cash = o.cash }) (opened o)
opened_by o {answer} {failed} {sizes} {d} asks fails noted begins =
    ap (λ f. record { failed = f; daily = d; securities = o.securities; cash = o.cash }) (fails ∙ ap result_err asks ∙ failed_by (first_no (opening_questions o)) (sizes_of o))
    ∙ ap (λ x. record (opened o) { daily = x }) (begins ∙ ap (λ s. morning s.0 s.1 o.day) (noted ∙ ap (λ r. result_unwrap_or r (0, 0)) asks))
