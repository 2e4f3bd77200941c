-- A book is sound from its opening on.
use Rattle.std.proofs.Common.{◌≡◌, ℕ, ◌+◌, ◌<◌, ◌≤◌, true, leb, get_or, is_ok, None, Some, Ok, Option, Result, sym, refl, ap, ◌∙◌, ⊎_elim, arith}
use Rattle.std.proofs.lemmas.Bool.{and_parts, cases_eq, cond_both, false≢true}
use Rattle.std.proofs.lemmas.Bool.Decides.{nat_tests}
use Rattle.std.proofs.lemmas.List.FromFn.{get_or-range_with_len, length-range_with_len}
use Rattle.std.proofs.lemmas.List.Sums.{AllPass-from_list_all}
use Rattle.std.specs.List.{range_with_len}
use Rattle.std.specs.Result.{result_err, result_unwrap_or}
use Rattle.register.specs.Holdings.{Holdings, limit, total, with_amount}
use Rattle.register.specs.declared.entry.Entry.{Entry}
use Rattle.register.specs.declared.entry.Entry.TheVariants.{Put, Take}
use Rattle.fault.specs.declared.fault.Fault.{Fault}
use Rattle.fault.specs.Questions.{asked, first_no, passes, unless}
use Rattle.fault.proofs.Asking.{all_hold}
use Rattle.book.specs.declared.place.Place.{Place}
use Rattle.book.specs.Daily.{Daily}
use Rattle.book.specs.Opening.{Opening, opening_questions, sizes_of, morning, sums_within}
use Rattle.book.specs.Paying.{payment_questions, with_entry, Pays}
use Rattle.book.specs.Sound.{SumsFit, FitsBook, IsOpen}
use Rattle.book.proofs.Openings.{failed_by}
use Rattle.book.proofs.Totals.{total_changed, total_kept}

-- the sums fit after one amount was changed
written_fits : (h : Holdings) (k a n : ℕ) → a < h.accounts → total h k + n ≤ limit + h.amount k a → SumsFit h → SumsFit (with_amount h k a n)
written_fits h k a n account stays fit j known =
    ⊎_elim
    (λ (q : j ≡ k). let changed = total_changed h k a n account in let same = ap (total (with_amount h k a n)) q in omega arith)
    (λ (q : j ≡ k → ⊥). let kept = total_kept h k a n j q in let before = fit j known in omega arith)
    (cases_eq j k)

paid_fits : (h : Holdings) (p : Place) (e : Entry) → SumsFit h → first_no (payment_questions h p e) ≡ None → SumsFit (with_entry h p e)
paid_fits h p (Put n) fit asked =
    let all = all_hold (payment_questions h p (Put n)) asked in
    written_fits h p.kind p.account (h.amount p.kind p.account + n) (grind (arith, nat_tests)) (grind (arith, nat_tests)) fit
paid_fits h p (Take n) fit asked =
    let all = all_hold (payment_questions h p (Take n)) asked in
    let before = fit p.kind in
    written_fits h p.kind p.account _ (grind (arith, nat_tests)) (grind (arith, nat_tests)) fit

-- an accepted call was asked nothing that was answered no
accepted_passed : (o : Option Fault) → is_ok (unless {A = Unit {0}} o (Ok tt)) ≡ true → o ≡ None
accepted_passed None e = refl
accepted_passed (Some f) e = absurd (false≢true e)

paid_fits_book : {accounts kinds : ℕ} (h : Holdings) (p : Place) (e : Entry) {r : Result Unit Fault} {h' : Holdings} → Pays h p e r h' → FitsBook accounts kinds h → FitsBook accounts kinds h'
paid_fits_book {accounts} {kinds} h p e {r} {h'} pays before =
    rw pays.after
    (cond_both (is_ok (passes (payment_questions h p e))) (with_entry h p e) h (FitsBook accounts kinds)
    (λ accepted. record {
      same_accounts = before.same_accounts;
      same_kinds = before.same_kinds;
      sums = paid_fits h p e before.sums (accepted_passed (first_no (payment_questions h p e)) accepted);
    })
    (λ refused. before))

-- a payment on either side
module _ {accounts kinds : ℕ} {securities cash h : Holdings} (p : Place) (e : Entry) {r : Result Unit Fault} (before : IsOpen accounts kinds securities cash) where
  pub securities_paid : Pays securities p e r h → IsOpen accounts kinds h cash
  securities_paid pays = record {
    some_accounts = before.some_accounts;
    few_accounts = before.few_accounts;
    some_kinds = before.some_kinds;
    few_kinds = before.few_kinds;
    securities_fit = paid_fits_book securities p e pays before.securities_fit;
    cash_fits = before.cash_fits;
  }

  pub cash_paid : Pays cash p e r h → IsOpen accounts kinds securities h
  cash_paid pays = record {
    some_accounts = before.some_accounts;
    few_accounts = before.few_accounts;
    some_kinds = before.some_kinds;
    few_kinds = before.few_kinds;
    securities_fit = before.securities_fit;
    cash_fits = paid_fits_book cash p e pays before.cash_fits;
  }

sums_fit : (h : Holdings) → sums_within h ≡ true → SumsFit h
sums_fit h e k known =
    let each = AllPass-from_list_all (λ j. leb (total h j) limit) (range_with_len 0 h.kinds) e k 0 (rw length-range_with_len known) in
    let here : total h (get_or (range_with_len 0 h.kinds) k 0) ≡ total h k = ap (total h) (get_or-range_with_len 0 h.kinds k 0 known ∙ omega arith) in
    grind (arith, nat_tests)

-- the first morning after a passed opening
pub opened_open : (o : Opening) {answer : Result (ℕ × ℕ) Fault} {failed : Option Fault} {sizes : ℕ × ℕ} {d : Daily} → answer ≡ asked (opening_questions o) (sizes_of o) → failed ≡ result_err answer → sizes ≡ result_unwrap_or answer (0, 0) → d ≡ morning sizes.0 sizes.1 o.day → failed ≡ None → IsOpen d.accounts d.kinds o.securities o.cash
opened_open o {answer} {failed} {sizes} {d} asks fails noted begins none =
    let passed : first_no (opening_questions o) ≡ None =
    sym (fails ∙ ap result_err asks ∙ failed_by (first_no (opening_questions o)) (sizes_of o)) ∙ none in
    let known : sizes ≡ sizes_of o =
    noted ∙ ap (λ r. result_unwrap_or r (0, 0)) asks ∙ ap (λ f. result_unwrap_or (unless f (Ok (sizes_of o))) (0, 0)) passed in
    let all = all_hold (opening_questions o) passed in
    let sums = and_parts (sums_within o.securities) (sums_within o.cash) all.1.1.0 in
    rw (begins ∙ ap (λ s. morning s.0 s.1 o.day) known)
    (record {
      some_accounts = grind (arith, nat_tests);
      few_accounts = grind (arith, nat_tests);
      some_kinds = grind (arith, nat_tests);
      few_kinds = grind (arith, nat_tests);
      securities_fit = record { same_accounts = refl; same_kinds = refl; sums = sums_fit o.securities sums.0 };
      cash_fits = record { same_accounts = grind (arith, nat_tests); same_kinds = grind (arith, nat_tests); sums = sums_fit o.cash sums.1 };
    })
