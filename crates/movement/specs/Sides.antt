-- The two sides of a trade, by number.
use Rattle.std.specs.Prelude.{ℕ, [], ◌∷◌, Option, ◌==◌}
use Rattle.std.specs.List.{find}
use Rattle.movement.specs.declared.side.Side.{Side}
use Rattle.movement.specs.declared.side.Side.TheVariants.{Securities, Cash}

-- the number of each side
abbrev pub side_number : Side → ℕ
side_number Securities = 0
side_number Cash = 1

-- the side of a number
abbrev pub side_of : ℕ → Option Side
side_of n = find (λ s. side_number s == n) (Securities ∷ Cash ∷ [])
