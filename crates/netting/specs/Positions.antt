-- What a package brings to a place and takes from it. A package is a list of marks beside the movements.
use Rattle.std.specs.Prelude.{ℕ, Bool, false, List, length, ℤ, pos, ◌+ℤ◌, ◌-ℤ◌, int_lt, slice_index, slice_index_or, if◌then◌else◌}
use Rattle.register.specs.Holdings.{sum_below}
use Rattle.movement.specs.declared.movement.Movement.{Movement}
use Rattle.netting.specs.Places.{at, takes, brings}

abbrev pub in_package : List Bool → ℕ → Bool
in_package marks i = slice_index_or marks i false

-- the sum of f over those below n that are marked
abbrev pub sum_marked : ℕ → List Bool → (ℕ → ℕ) → ℕ
sum_marked n marks f = sum_below n (λ i. if in_package marks i then f i else 0)

-- what the first n movements of a package bring to a place and take from it
-- Stays: the new form is no plainer: the theorems speak of what is taken and of what is brought by these names.
abbrev pub brought_by : ℕ → List Movement → List Bool → ℕ → ℕ
brought_by n movements marks p = sum_marked n marks (λ i. brings (at movements i) p)

abbrev pub taken_by : ℕ → List Movement → List Bool → ℕ → ℕ
taken_by n movements marks p = sum_marked n marks (λ i. takes (at movements i) p)

abbrev pub position_by : ℕ → List Movement → List Bool → ℕ → ℤ
position_by n movements marks p = pos (brought_by n movements marks p) -ℤ pos (taken_by n movements marks p)

-- what the whole package does
abbrev pub brought : List Movement → List Bool → ℕ → ℕ
brought movements = brought_by (length movements) movements

abbrev pub taken : List Movement → List Bool → ℕ → ℕ
taken movements = taken_by (length movements) movements

abbrev pub position : List Movement → List Bool → ℕ → ℤ
position movements = position_by (length movements) movements

-- how many movements a package has
abbrev pub size : List Movement → List Bool → ℕ
size movements marks = sum_marked (length movements) marks (λ i. 1)

-- the amount of a place after the package is posted
abbrev pub after_posting : List Movement → List ℕ → List Bool → ℕ → ℤ
after_posting movements amounts marks p = pos (slice_index amounts p) +ℤ position movements marks p

abbrev pub short : List Movement → List ℕ → List Bool → ℕ → Bool
short movements amounts marks p = int_lt (after_posting movements amounts marks p) (pos 0)
