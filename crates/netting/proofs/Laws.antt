-- The theorems of step 1, and of the marks that both steps leave.
use Rattle.std.proofs.Common.{◌≡◌, ℕ, ◌≤◌, Bool, List, length, sym, subst}
use Rattle.std.proofs.lemmas.Bool.{and_parts, and_from, not_from_false}
use Rattle.movement.specs.declared.movement.Movement.{Movement}
use Rattle.netting.specs.Strikes.{after_strikes}
use Rattle.netting.specs.Rejoins.{settling}
use Rattle.netting.proofs.Within.{Fitting}
use Rattle.netting.specs.Theorems.{SomeTaker, NoneShort, StrikesEnd, NoneCovered}
use Rattle.netting.proofs.Shortage.{short_taker, none_short_at}
use Rattle.netting.proofs.Striking.{strikes_end}
use Rattle.netting.proofs.Rejoining.{strikes_sound, rejoins_sound, none_covered}

module _ (movements : List Movement) (amounts : List ℕ) (fitting : Fitting movements) where
  pub some_taker : SomeTaker movements amounts
  some_taker marks p lacks =
      let taker = short_taker movements amounts marks p fitting lacks in
      let parts = and_parts _ _ taker.2 in
      (taker.0, taker.1, parts.0, parts.1)

  pub step_1_ends : StrikesEnd movements amounts
  step_1_ends marks = none_short_at movements amounts (after_strikes movements amounts marks) (strikes_end movements amounts marks fitting)

  module _ (tried marks : List Bool) (long : length movements ≤ length tried) (end : marks ≡ settling movements amounts tried) where
    pub settling_none_short : NoneShort movements amounts marks
    settling_none_short =
        let struck = after_strikes movements amounts tried in
        subst (NoneShort movements amounts) (sym end) (none_short_at movements amounts (settling movements amounts tried) (rejoins_sound movements amounts tried struck (strikes_sound movements amounts tried tried fitting long)).safe)

    pub settling_none_covered : NoneCovered movements amounts tried marks
    settling_none_covered =
        let sound = strikes_sound movements amounts tried tried fitting long in
        subst (NoneCovered movements amounts tried) (sym end) (λ i below was_tried outside. none_covered movements amounts tried (after_strikes movements amounts tried) i fitting sound below (and_from _ _ was_tried (not_from_false _ outside)))
