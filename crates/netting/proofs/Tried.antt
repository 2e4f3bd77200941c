-- Whoever settles was tried.
use Rattle.std.proofs.Common.{◌≡◌, ℕ, ◌<◌, Bool, true, false, List, length, set, Some, None, Option, sym, refl, ap, ◌∙◌, subst, ⊎_elim}
use Rattle.std.proofs.lemmas.List.{length-set, get_or-set_same, get_or-set_other}
use Rattle.std.proofs.lemmas.Bool.{cases_eq, both_ways}
use Rattle.movement.specs.declared.movement.Movement.{Movement}
use Rattle.netting.specs.Positions.{in_package, size}
use Rattle.netting.specs.Strikes.{marked, struck_next, strike, after_strikes}
use Rattle.netting.specs.Rejoins.{rejoins_next, rejoin, how_many_struck, settling}
use Rattle.netting.specs.Theorems.{OnlyTried}
use Rattle.netting.proofs.Sums.{marked_within}
use Rattle.netting.proofs.Search.{times_keeps}
use Rattle.netting.proofs.Rejoining.{rejoins}

-- a mark taken away is not there
unmarked : (marks : List Bool) (i : ℕ) → in_package (set marks i false) i ≡ true → ⊥
unmarked marks i e =
    let within : i < length marks = subst (λ n. i < n) (length-set marks i false) (marked_within (set marks i false) i e) in
    both_ways _ (get_or-set_same marks i false false within) e

module _ (movements : List Movement) (amounts : List ℕ) (tried : List Bool) where
  struck_tried : (marks : List Bool) (next : Option ℕ) → OnlyTried tried marks → OnlyTried tried (marked false marks next)
  struck_tried marks None holds = holds
  struck_tried marks (Some i) holds = λ j e.
      ⊎_elim
      (λ (q : j ≡ i). absurd (unmarked marks i (subst (λ k. in_package (set marks i false) k ≡ true) q e)))
      (λ (q : j ≡ i → ⊥). holds j (sym (get_or-set_other marks i j false false q) ∙ e))
      (cases_eq j i)

  joined_tried : (marks : List Bool) (next : Option ℕ) → rejoins_next movements amounts tried marks ≡ next → OnlyTried tried marks → OnlyTried tried (marked true marks next)
  joined_tried marks None found holds = holds
  joined_tried marks (Some i) found holds = λ j e.
      ⊎_elim
      (λ (q : j ≡ i). ap (in_package tried) q ∙ (rejoins movements amounts tried marks i found).was_tried)
      (λ (q : j ≡ i → ⊥). holds j (sym (get_or-set_other marks i j true false q) ∙ e))
      (cases_eq j i)

  pub settling_only_tried : OnlyTried tried (settling movements amounts tried)
  settling_only_tried =
      let struck = times_keeps (strike movements amounts) (OnlyTried tried) (λ w. struck_tried w (struck_next movements amounts w)) (size movements tried) tried (λ i e. e) in
      let begin = after_strikes movements amounts tried in
      times_keeps (rejoin movements amounts tried) (OnlyTried tried) (λ w. joined_tried w (rejoins_next movements amounts tried w) refl) (how_many_struck movements tried begin) begin struck
