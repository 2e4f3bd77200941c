-- Step 2: the lowest of the struck that can rejoin with no place short rejoins, again from the lowest until none can.
use Rattle.std.specs.Prelude.{◌≡◌, ℕ, ◌≤◌, Bool, true, not, ◌&&◌, ◌||◌, List, length, ℤ, pos, Option, ◌==◌, int_le, slice_set, if◌then◌else◌}
use Rattle.movement.specs.declared.movement.Movement.{Movement}
use Rattle.netting.specs.declared.leg.Leg.{Leg}
use Rattle.netting.specs.Search.{first_below, times}
use Rattle.movement.specs.declared.side.Side.TheVariants.{Securities, Cash}
use Rattle.netting.specs.Places.{leg_of}
use Rattle.netting.specs.Positions.{in_package, sum_marked}
use Rattle.netting.specs.Strikes.{marked, none_short, after_strikes}

-- a mark for each movement, and no place short
pub record Sound (movements : List Movement) (amounts : List ℕ) (marks : List Bool) : Type 0 where
  pub long : length movements ≤ length marks
  pub safe : none_short movements amounts marks ≡ true

-- tried, and not in the package any more
abbrev pub struck : List Bool → List Bool → ℕ → Bool
struck tried marks i = in_package tried i && not (in_package marks i)

-- the account that a leg leaves holds the amount, or the leg enters the same account
abbrev pub leg_covered : (ℕ → ℤ) → Leg → Bool
leg_covered amount leg = leg.from == leg.to || int_le (pos leg.amount) (amount leg.from)

abbrev pub covered : (ℕ → ℤ) → Movement → Bool
covered amount m = leg_covered amount (leg_of Securities m) && leg_covered amount (leg_of Cash m)

abbrev pub can_rejoin : List Movement → List ℕ → List Bool → List Bool → ℕ → Bool
can_rejoin movements amounts tried marks i = struck tried marks i && none_short movements amounts (slice_set marks i true)

abbrev pub rejoins_next : List Movement → List ℕ → List Bool → List Bool → Option ℕ
rejoins_next movements amounts tried marks = first_below (length movements) (can_rejoin movements amounts tried marks)

abbrev pub rejoin : List Movement → List ℕ → List Bool → List Bool → List Bool
rejoin movements amounts tried marks = marked true marks (rejoins_next movements amounts tried marks)

abbrev pub how_many_struck : List Movement → List Bool → List Bool → ℕ
how_many_struck movements tried marks = sum_marked (length movements) tried (λ i. if in_package marks i then 0 else 1)

-- at most as many rejoin as are struck
abbrev pub after_rejoins : List Movement → List ℕ → List Bool → List Bool → List Bool
after_rejoins movements amounts tried marks = times (how_many_struck movements tried marks) (rejoin movements amounts tried) marks

-- who settles of those that are tried
abbrev pub settling : List Movement → List ℕ → List Bool → List Bool
settling movements amounts tried = after_rejoins movements amounts tried (after_strikes movements amounts tried)
