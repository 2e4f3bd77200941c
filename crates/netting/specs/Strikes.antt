-- Step 1: while a place is short, a movement that takes from the first such place is struck.
use Rattle.std.specs.Prelude.{ℕ, Bool, false, ◌&&◌, List, length, Some, None, Option, slice_set}
use Rattle.movement.specs.declared.movement.Movement.{Movement}
use Rattle.netting.specs.Search.{first_below, last_below, none_below, times}
use Rattle.netting.specs.Places.{places, at, only_takes}
use Rattle.netting.specs.Positions.{in_package, size, short}

-- whom to strike for a short place: of the package, the last that takes from it without bringing to it
abbrev pub chosen : List Movement → List Bool → ℕ → Option ℕ
chosen movements marks p = last_below (length movements) (λ i. in_package marks i && only_takes (at movements i) p)

-- .. for the first short place, if there is one
abbrev pub chosen_at : List Movement → List Bool → Option ℕ → Option ℕ
chosen_at movements marks None = None
chosen_at movements marks (Some p) = chosen movements marks p

-- the marks with one movement inside or not, if one is given
abbrev pub marked : Bool → List Bool → Option ℕ → List Bool
marked mark marks None = marks
marked mark marks (Some i) = slice_set marks i mark

-- the first place whose amount after posting is below 0
abbrev pub first_short : List Movement → List ℕ → List Bool → Option ℕ
first_short movements amounts marks = first_below places (short movements amounts marks)

-- no place is short
abbrev pub none_short : List Movement → List ℕ → List Bool → Bool
none_short movements amounts marks = none_below places (short movements amounts marks)

-- who is struck next
abbrev pub struck_next : List Movement → List ℕ → List Bool → Option ℕ
struck_next movements amounts marks = chosen_at movements marks (first_short movements amounts marks)

-- one strike, if a place is short
abbrev pub strike : List Movement → List ℕ → List Bool → List Bool
strike movements amounts marks = marked false marks (struck_next movements amounts marks)

-- at most as many strikes as the package has movements
abbrev pub after_strikes : List Movement → List ℕ → List Bool → List Bool
after_strikes movements amounts marks = times (size movements marks) (strike movements amounts) marks
