-- A package as contracts see it, and what the two steps do to it.
use Rattle.std.specs.Prelude.{ℕ, Bool, ◌&&◌, List, ℤ, Option, slice_set}
use Rattle.movement.specs.declared.movement.Movement.{Movement}
use Rattle.netting.specs.Places.{at, only_takes}
use Rattle.netting.specs.Positions.{in_package, after_posting, short}
use Rattle.netting.specs.Strikes.{none_short, struck_next, after_strikes}
use Rattle.netting.specs.Rejoins.{Sound, can_rejoin, rejoins_next, after_rejoins}

-- the movements, the amounts of all places, a mark for each movement that is tried and one for each that is inside
pub record Held : Type 0 where
  pub movements : List Movement
  pub amounts : List ℕ
  pub tried : List Bool
  pub marks : List Bool

-- the same with one movement inside or not
abbrev pub marking : Held → ℕ → Bool → Held
marking h i inside = record h { marks = slice_set h.marks i inside }

-- the amount of a place after the package is posted
abbrev pub amount_after : Held → ℕ → ℤ
amount_after h = after_posting h.movements h.amounts h.marks

-- the amount of a place after posting is below 0
abbrev pub is_short : Held → ℕ → Bool
is_short h = short h.movements h.amounts h.marks

-- no place is short
abbrev pub no_place_is_short : Held → Bool
no_place_is_short h = none_short h.movements h.amounts h.marks

-- inside, and it takes from the place without bringing to it
abbrev pub is_taker : Held → ℕ → ℕ → Bool
is_taker h place i = in_package h.marks i && only_takes (at h.movements i) place

-- who is struck next
abbrev pub next_struck : Held → Option ℕ
next_struck h = struck_next h.movements h.amounts h.marks

-- struck, and no place would be short with it inside
abbrev pub can_rejoin_with : Held → ℕ → Bool
can_rejoin_with h = can_rejoin h.movements h.amounts h.tried h.marks

-- who rejoins next
abbrev pub next_rejoined : Held → Option ℕ
next_rejoined h = rejoins_next h.movements h.amounts h.tried h.marks

-- a mark for each movement, and no place short
abbrev pub IsSafe : Held → Type 0
IsSafe h = Sound h.movements h.amounts h.marks

-- after step 1
abbrev pub with_strikes : Held → Held
with_strikes h = record h { marks = after_strikes h.movements h.amounts h.marks }

-- after step 2
abbrev pub with_rejoins : Held → Held
with_rejoins h = record h { marks = after_rejoins h.movements h.amounts h.tried h.marks }
