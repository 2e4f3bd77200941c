-- The numbers of movements go on rising.
use Rattle.std.proofs.Common.{◌≡◌, ℕ, suc, ◌<◌, ◌≤◌, List, [], ◌∷◌, ◌++◌, length, get_or, set, take, drop, sym, ap, ◌∙◌, ⊎_elim, arith}
use Rattle.std.proofs.lemmas.Bool.{cases_eq}
use Rattle.std.proofs.lemmas.List.{length-set, get_or-set_other, get_or_default}
use Rattle.std.proofs.lemmas.Grind.{get_or-set_at}
use Rattle.std.proofs.lemmas.List.Elements.{All-nil, All-push, All-weaker, All-append, All-take, All-drop}
use Rattle.std.proofs.lemmas.List.Quantifiers.{all_pairs_push, all_pairs_remove}
use Rattle.std.specs.List.{remove}
use Rattle.movement.specs.declared.movement.Movement.{Movement}
use Rattle.book.specs.Rising.{IsRising}

pub rising_none : (ms : List Movement) → ms ≡ [] → IsRising 0 ms
rising_none ms none = rw none (record { rises = λ i j d before within. absurd (omega arith); below = All-nil (λ m. m.number ≤ 0) })

-- a movement of a higher number at the end
pub rising_push : (highest n : ℕ) (ms : List Movement) (m : Movement) → m.number ≡ n → highest < n → IsRising highest ms → IsRising n (ms ++ m ∷ [])
rising_push highest n ms m number above before = record {
  rises = all_pairs_push (λ a b. a.number < b.number) ms m before.rises (λ k d within. let under = before.below k d within in omega arith);
  below = All-push (λ x. x.number ≤ n) ms m
      (All-weaker (λ x. x.number ≤ highest) (λ x. x.number ≤ n) (λ x under. omega arith) ms before.below)
      (omega arith);
}

-- one movement fewer
pub rising_removed : (highest : ℕ) (ms : List Movement) (i : ℕ) → i < length ms → IsRising highest ms → IsRising highest (remove ms i)
rising_removed highest ms i within before = record {
  rises = all_pairs_remove (λ a b. a.number < b.number) ms i within before.rises;
  below = All-append (λ m. m.number ≤ highest) (take i ms) (drop (suc i) ms)
      (All-take (λ m. m.number ≤ highest) i ms before.below)
      (All-drop (λ m. m.number ≤ highest) (suc i) ms before.below);
}

-- a movement written over one of the same number
module _ (ms : List Movement) (i : ℕ) (m x : Movement) (within : i < length ms) (same : x.number ≡ (get_or ms i m).number) where
  number_kept : (k : ℕ) (d : Movement) → (get_or (set ms i x) k d).number ≡ (get_or ms k d).number
  number_kept k d =
      ⊎_elim
      (λ (q : k ≡ i).
      ap (λ y. y.number) (get_or-set_at ms i k x d q within)
      ∙ same
      ∙ ap (λ y. y.number) (get_or_default ms i m d within ∙ ap (λ j. get_or ms j d) (sym q)))
      (λ (q : k ≡ i → ⊥). ap (λ y. y.number) (get_or-set_other ms i k x d q))
      (cases_eq k i)

  pub rising_set : (highest : ℕ) → IsRising highest ms → IsRising highest (set ms i x)
  rising_set highest before = record {
    rises = λ j k d before_k within_k.
        let first = number_kept j d in
        let second = number_kept k d in
        let rise = before.rises j k d before_k (omega (arith, length-set ms i x)) in
        omega arith;
    below = λ k d within_k.
        let here = number_kept k d in
        let under = before.below k d (omega (arith, length-set ms i x)) in
        omega arith;
  }
