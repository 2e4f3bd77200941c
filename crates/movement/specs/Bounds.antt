-- Within which bounds the numbers of terms and movements lie, for a book of so many accounts and securities.
use Rattle.std.specs.Prelude.{◌≡◌, ℕ, Bool, true, ◌&&◌, List, Some, None, Option, nat_le, nat_lt}
use Rattle.std.specs.List.{list_all}
use Rattle.movement.specs.declared.category.Category.{Category}
use Rattle.movement.specs.declared.movement.Movement.{Movement}
use Rattle.movement.specs.declared.party.Party.{Party}
use Rattle.movement.specs.Agreed.{Agreed}
use Rattle.movement.specs.Limits.{currencies, most_moved}
use Rattle.movement.specs.Settings.{participant_known}

-- from 1 to the most
abbrev pub from_one_to : ℕ → ℕ → Bool
from_one_to most n = nat_le 1 n && nat_le n most

-- both custodians are participants
abbrev pub pair_fits : ℕ → ℕ × ℕ → Bool
pair_fits accounts p = participant_known accounts p.0 && participant_known accounts p.1

-- .. where a pair is there
abbrev pub agreed_fits : ℕ → Option (ℕ × ℕ) → Bool
agreed_fits accounts None = true
agreed_fits accounts (Some p) = pair_fits accounts p

-- every pair of custodians that is agreed is one of participants
abbrev pub TermsFit : ℕ → Agreed → Type 0
TermsFit accounts t = (m : ℕ) (c : Category) → agreed_fits accounts (t m c) ≡ true

-- the custodians of a party and its standard pair are participants
abbrev pub party_fits : ℕ → Party → Bool
party_fits accounts x = pair_fits accounts (x.securities, x.cash) && pair_fits accounts x.standard

-- every number of a movement is one that a trade can have
abbrev pub movement_fits : ℕ → ℕ → Movement → Bool
movement_fits accounts kinds m =
    nat_le 1 m.number
    && (nat_lt m.security kinds
    && (from_one_to most_moved m.quantity
    && (nat_lt m.currency currencies
    && (from_one_to most_moved m.sum
    && (party_fits accounts m.seller && party_fits accounts m.buyer)))))

-- every movement is within them
abbrev pub all_fit : ℕ → ℕ → List Movement → Bool
all_fit accounts kinds ms = list_all (movement_fits accounts kinds) ms
