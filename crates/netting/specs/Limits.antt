-- What the netting takes: movements in rising number, known kinds and accounts, amounts within limits.
use Rattle.std.specs.Prelude.{ℕ, ◌+◌, ◌-◌, Bool, ◌&&◌, List, length, nat_le, nat_lt, slice_index}
use Rattle.std.specs.List.{list_all}
use Rattle.register.specs.Holdings.{limit}
use Rattle.movement.specs.declared.movement.Movement.{Movement}
use Rattle.movement.specs.declared.party.Party.{Party}
use Rattle.netting.specs.Search.{none_below}
use Rattle.netting.specs.Places.{at, places}
use Rattle.movement.specs.Limits.{currencies, most_accounts, most_moved, most_movements, most_securities}

-- both custodians of a party are accounts that there can be
abbrev pub known_accounts : Party → Bool
known_accounts party = nat_lt party.securities most_accounts && nat_lt party.cash most_accounts

-- so are both kinds of a movement
abbrev pub known_kinds : Movement → Bool
known_kinds m = nat_lt m.security most_securities && nat_lt m.currency currencies

-- no leg moves more than a movement may
abbrev pub amounts_fit : Movement → Bool
amounts_fit m = nat_le m.quantity most_moved && nat_le m.sum most_moved

-- a movement that can be netted
abbrev pub fits : Movement → Bool
fits m = known_kinds m && amounts_fit m && known_accounts m.seller && known_accounts m.buyer

-- movements that can be netted, whatever their order
abbrev pub fitting : List Movement → Bool
fitting movements = nat_le (length movements) most_movements && list_all fits movements

-- the next number is no higher
abbrev pub falls : List Movement → ℕ → Bool
falls movements i = nat_le (at movements (i + 1)).number (at movements i).number

-- the amount of a place is more than it can hold
abbrev pub too_large : List ℕ → ℕ → Bool
too_large amounts p = nat_lt limit (slice_index amounts p)

-- amounts that places can hold
abbrev pub small : List ℕ → Bool
small amounts = none_below places (too_large amounts)

-- what is netted
abbrev pub bounded : List Movement → List ℕ → Bool
bounded movements amounts = fitting movements && none_below (length movements - 1) (falls movements) && small amounts
