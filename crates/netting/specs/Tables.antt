-- A table of what places have after posting that is kept up to date.
use Rattle.std.specs.Prelude.{◌≡◌, ℕ, ◌+◌, ◌*◌, ◌<◌, ◌≤◌, Bool, true, false, List, ℤ, pos, ◌+ℤ◌, ◌-ℤ◌, neg_ℤ, ◌≤ℤ◌, slice_index_or}
use Rattle.register.specs.Holdings.{limit}
use Rattle.movement.specs.declared.movement.Movement.{Movement}
use Rattle.netting.specs.declared.leg.Leg.{Leg}
use Rattle.netting.specs.Positions.{position}
use Rattle.movement.specs.Limits.{most_moved, most_movements}
use Rattle.netting.specs.Sizes.{most_places}

-- a table of what places have after a package is posted, by what they had before
abbrev pub Kept : (ℕ → ℤ) → List Movement → List Bool → List ℤ → Type 0
Kept before movements marks table = (p : ℕ) → p < most_places → slice_index_or table p (pos 0) ≡ before p +ℤ position movements marks p

-- a change as a movement enters the package, or taken back as it leaves
abbrev pub signed : Bool → ℤ → ℤ
signed true change = change
signed false change = neg_ℤ change

-- a table before and after so much is brought to each place and so much taken from it, or the other way round
abbrev pub Posted : List ℤ → List ℤ → Bool → (ℕ → ℕ) → (ℕ → ℕ) → Type 0
Posted before after inside brings takes =
    (p : ℕ) → slice_index_or after p (pos 0) ≡ slice_index_or before p (pos 0) +ℤ signed inside (pos (brings p) -ℤ pos (takes p))

-- how many legs a package has at most
abbrev pub most_legs : ℕ
most_legs = 2 * most_movements

-- no further from 0 than what a place can hold and so many legs can bring it
pub record IsNear (legs : ℕ) (z : ℤ) : Type 0 where
  pub above : neg_ℤ (pos (limit + legs * most_moved)) ≤ℤ z
  pub below : z ≤ℤ pos (limit + legs * most_moved)

-- so is every place of a table
abbrev pub IsRoomy : ℕ → List ℤ → Type 0
IsRoomy legs table = (p : ℕ) → p < most_places → IsNear legs (slice_index_or table p (pos 0))

-- a leg between two places, of an amount that a movement may move
pub record LegFits (leg : Leg) : Type 0 where
  pub from : leg.from < most_places
  pub to : leg.to < most_places
  pub amount : leg.amount ≤ most_moved
