-- An amount of one place changed by z: what the registers show then.
use Rattle.std.proofs.Common.{◌≡◌, ℕ, zero, suc, ◌<◌, Bool, true, false, cond, ◌&&◌, eqb, ℤ, pos, ◌+ℤ◌, refl, ap, ⊎_elim, arith}
use Rattle.std.proofs.lemmas.Int.{ints}
use Rattle.std.proofs.lemmas.Bool.Decides.{nat_tests}
use Rattle.std.proofs.lemmas.Bool.{cases_eq}
use Rattle.register.specs.Holdings.{Holdings, with_amount, total}
use Rattle.book.specs.State.{State, holdings, with_holdings}
use Rattle.book.proofs.Totals.{total_changed, total_kept}

-- h' is h with z more at a kind and account where here is true, and h itself where it is false
pub record Booked (h : Holdings) (here : Bool) (k a : ℕ) (z : ℤ) (h' : Holdings) : Type 0 where
  pub amounts : (j b : ℕ) → pos (h'.amount j b) ≡ pos (h.amount j b) +ℤ cond (here && (eqb j k && eqb b a)) z (pos 0)
  pub sums : (j : ℕ) → pos (total h' j) ≡ pos (total h j) +ℤ cond (here && eqb j k) z (pos 0)
  pub kinds : h'.kinds ≡ h.kinds
  pub accounts : h'.accounts ≡ h.accounts

kept : (h : Holdings) (k a : ℕ) (z : ℤ) → Booked h false k a z h
kept h k a z = record {
  amounts = λ j b. omega (arith, ints);
  sums = λ j. omega (arith, ints);
  kinds = refl;
  accounts = refl;
}

module _ (h : Holdings) (k a m : ℕ) (z : ℤ) (known : a < h.accounts) (change : pos m ≡ pos (h.amount k a) +ℤ z) where
  total_after : (j : ℕ) → pos (total (with_amount h k a m) j) ≡ pos (total h j) +ℤ cond (eqb j k) z (pos 0)
  total_after j =
      ⊎_elim
      (λ (q : j ≡ k).
      let here = total_changed h k a m known in
      let e = ap (total (with_amount h k a m)) q in
      let d = ap (total h) q in
      grind (arith, nat_tests, ints))
      (λ (q : j ≡ k → ⊥). let kept = total_kept h k a m j q in grind (arith, nat_tests, ints))
      (cases_eq j k)

  amount_after : (j b : ℕ) → pos ((with_amount h k a m).amount j b) ≡ pos (h.amount j b) +ℤ cond (eqb j k && eqb b a) z (pos 0)
  amount_after j b =
      ⊎_elim
      (λ (q : j ≡ k).
      ⊎_elim
      (λ (p : b ≡ a). let e = ap (h.amount j) p in let d = ap (λ i. h.amount i a) q in grind (arith, nat_tests, ints))
      (λ (p : b ≡ a → ⊥). grind (arith, nat_tests, ints))
      (cases_eq b a))
      (λ (q : j ≡ k → ⊥). grind (arith, nat_tests, ints))
      (cases_eq j k)

  changed : Booked h true k a z (with_amount h k a m)
  changed = record { amounts = amount_after; sums = total_after; kinds = refl; accounts = refl }

-- one place of the state
pub booked_at : (s : State) (side k a m : ℕ) (z : ℤ) → side < 2 → a < (holdings s side).accounts → pos m ≡ pos ((holdings s side).amount k a) +ℤ z → (side' : ℕ) → side' < 2 → Booked (holdings s side') (eqb side' side) k a z (holdings (with_holdings s side (with_amount (holdings s side) k a m)) side')
booked_at s zero k a m z h known change zero l = changed s.securities k a m z known change
booked_at s zero k a m z h known change (suc zero) l = kept s.cash k a z
booked_at s zero k a m z h known change (suc (suc n)) l = absurd (omega arith)
booked_at s (suc zero) k a m z h known change zero l = kept s.securities k a z
booked_at s (suc zero) k a m z h known change (suc zero) l = changed s.cash k a m z known change
booked_at s (suc zero) k a m z h known change (suc (suc n)) l = absurd (omega arith)
booked_at s (suc (suc n)) k a m z h known change side' l = absurd (omega arith)
