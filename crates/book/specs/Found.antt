-- Where the movement of a number stands in a list.
use Rattle.std.specs.Prelude.{◌≡◌, ℕ, ◌<◌, List, length, Some, slice_index_or}
use Rattle.movement.specs.declared.movement.Movement.{Movement}
use Rattle.book.specs.Daily.{on_book, place_of}

-- the movement of number n is the one at i
pub record FoundAt (ms : List Movement) (n i : ℕ) : Type 0 where
  pub within : i < length ms
  pub place : place_of n ms ≡ i
  pub found : (d : Movement) → on_book n ms ≡ Some (slice_index_or ms i d)
