-- The first movement of a number.
use Rattle.std.proofs.Common.{◌≡◌, ℕ, ◌≤◌, true, cond, List, [], ◌∷◌, length, get_or, set, is_some, Some, None, Ok, Option, sym, refl, ap, ◌∙◌, arith}
use Rattle.std.proofs.lemmas.Bool.{lt-ltb}
use Rattle.std.proofs.lemmas.List.{length-set}
use Rattle.std.proofs.lemmas.List.Folds.{find_at}
use Rattle.std.proofs.lemmas.List.Quantifiers.{position-Some}
use Rattle.std.proofs.lemmas.List.Sums.{position_or_len_is}
use Rattle.std.proofs.lemmas.Option.{slice_get-get_or, slice_get_within, none-some}
use Rattle.std.specs.List.{position, slice_get}
use Rattle.std.specs.Option.{MatchOption, option_map_or}
use Rattle.fault.specs.declared.fault.Fault.TheVariants.{NotOnBook, NoDuty, AlreadyConsented}
use Rattle.fault.specs.Questions.{ask, passes}
use Rattle.fault.proofs.Asking.{accepted}
use Rattle.arrayvec.specs.ArrayVec.{ArrayVec, with_items}
use Rattle.arrayvec.proofs.ArrayVecLemmas.{items-with_items}
use Rattle.movement.specs.declared.half.Half.{Half}
use Rattle.movement.specs.declared.movement.Movement.{Movement}
use Rattle.movement.specs.Bounds.{all_fit, movement_fits}
use Rattle.movement.specs.Consents.{has_duty, silent, consented}
use Rattle.movement.proofs.Fitting.{fit_at, fit_set}
use Rattle.book.specs.Daily.{Daily, has_number, on_book, place_of, changed_at, whether, consent_questions, with_movements}
use Rattle.book.specs.Found.{FoundAt}
use Rattle.book.specs.Rising.{IsRising}
use Rattle.book.specs.Trading.{ConsentedTo}
use Rattle.book.proofs.Ordering.{rising_set}

found_at : (ms : List Movement) (n i : ℕ) → position (has_number n) ms ≡ Some i → FoundAt ms n i
found_at [] n i e = absurd (none-some i e)
found_at (m ∷ ms) n i e =
    let all = m ∷ ms in
    let at = position-Some (has_number n) all i m e in
    let place : place_of n all ≡ i = position_or_len_is (has_number n) all i m (omega arith) at.2 (λ within. at.1) in
    record {
      within = at.0;
      place = place;
      found = λ d. find_at (has_number n) all ∙ ap (slice_get all) place ∙ slice_get-get_or all i d at.0;
    }

none_found : (ms : List Movement) (n : ℕ) → position (has_number n) ms ≡ None → on_book n ms ≡ None
none_found ms n e =
    elim (on_book n ms) as (λ o. on_book n ms ≡ o → o ≡ None) [
      | None ↦ λ found. refl
      | Some m ↦ λ found.
          let within = slice_get_within ms (place_of n ms) m (sym (find_at (has_number n) ms) ∙ found) in
          absurd (none-some (place_of n ms) (sym e ∙ ap (λ b. cond b (Some (place_of n ms)) None) (lt-ltb (place_of n ms) (length ms) within)))
    ] refl

-- what the place of a number tells
pub found_by : (ms : List Movement) (n : ℕ) (r : Option ℕ) → r ≡ position (has_number n) ms → MatchOption r (on_book n ms ≡ None) (FoundAt ms n)
found_by ms n None e = none_found ms n (sym e)
found_by ms n (Some i) e = found_at ms n i (sym e)

module _ (d : Daily) (n p i : ℕ) (at : FoundAt d.movements n i) where
  consent_passes : (m : Movement) → has_duty (get_or d.movements i m) p ≡ true → silent (get_or d.movements i m) p ≡ true → passes (consent_questions d n p) ≡ Ok tt
  consent_passes m duty without_consent =
      ap (λ o. passes (ask (is_some o) NotOnBook ∷ (ask (whether (λ x. has_duty x p) o) NoDuty ∷ (ask (whether (λ x. silent x p) o) AlreadyConsented ∷ [])))) (at.found m)
      ∙ ap (λ b. passes (ask b NoDuty ∷ (ask (silent (get_or d.movements i m) p) AlreadyConsented ∷ []))) duty
      ∙ ap (λ b. passes (ask b AlreadyConsented ∷ [])) without_consent

  changed_found : (f : Movement → Movement) (m : Movement) → changed_at n f d.movements ≡ set d.movements i (f (get_or d.movements i m))
  changed_found f m =
      ap (λ o. option_map_or (λ x. set d.movements (place_of n d.movements) (f x)) o d.movements) (at.found m)
      ∙ ap (λ j. set d.movements j (f (get_or d.movements i m))) at.place

  -- the movement read, and the consent written in its place
  pub consent_done : (seen left : List Movement) (m x : Movement) → seen ≡ d.movements → has_duty (get_or seen i m) p ≡ true → silent (get_or seen i m) p ≡ true → x ≡ consented (get_or seen i m) p d.half → left ≡ set d.movements i x → ConsentedTo d n p (Ok tt) (with_movements d d.highest left)
  consent_done seen left m x same duty without_consent given written =
      accepted (consent_passes m (rw same at duty) (rw same at without_consent))
      (ap (with_movements d d.highest)
      (written ∙ ap (set d.movements i) (given ∙ ap (λ ms. consented (get_or ms i m) p d.half) same) ∙ sym (changed_found (λ y. consented y p d.half) m)))

  -- .. and it stays within its bounds
  pub consented_fit : (accounts kinds : ℕ) (half : Half) (seen left : List Movement) (m x : Movement) → all_fit accounts kinds d.movements ≡ true → seen ≡ d.movements → x ≡ consented (get_or seen i m) p half → left ≡ set d.movements i x → all_fit accounts kinds left ≡ true
  consented_fit accounts kinds half seen left m x bounds same given written =
      let fits : movement_fits accounts kinds (get_or seen i m) ≡ true = rw same (fit_at accounts kinds d.movements i m bounds at.within) in
      rw written (fit_set accounts kinds d.movements i x bounds (rw given fits))

  -- .. and in its order
  pub consented_rising : (highest : ℕ) (half : Half) (seen left : List Movement) (m x : Movement) → IsRising highest d.movements → seen ≡ d.movements → x ≡ consented (get_or seen i m) p half → left ≡ set d.movements i x → IsRising highest left
  consented_rising highest half seen left m x rising same given written =
      let number : x.number ≡ (get_or d.movements i m).number = ap (λ y. y.number) (given ∙ ap (λ ms. consented (get_or ms i m) p half) same) in
      rw written (rising_set d.movements i m x at.within number highest rising)

-- as many as before where one is written over another
pub consented_few : (most i : ℕ) (before left : List Movement) (x : Movement) → length before ≤ most → left ≡ set before i x → length left ≤ most
consented_few most i before left x few written = rw written (simp (length-set before i x) few)

-- a movement written in its place
pub written_at : (v : ArrayVec Movement) (i : ℕ) (seen : List Movement) (x : Movement) → seen ≡ v.items → (with_items v (set seen i x)).items ≡ set v.items i x
written_at v i seen x same = items-with_items v (set seen i x) (simp length-set (ap length same)) ∙ ap (λ ms. set ms i x) same
