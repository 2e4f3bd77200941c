-- The numbers of the movements on a book.
use Rattle.std.specs.Prelude.{ℕ, ◌<◌, ◌≤◌, List, All, AllPairs}
use Rattle.movement.specs.declared.movement.Movement.{Movement}

-- they rise, and none is above the highest number accepted
pub record IsRising (highest : ℕ) (ms : List Movement) : Type 0 where
  pub rises : AllPairs (λ a b. a.number < b.number) ms
  pub below : All (λ m. m.number ≤ highest) ms
