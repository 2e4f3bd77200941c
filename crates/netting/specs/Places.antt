-- The places, and what the two legs of a movement take from them and bring to them.
use Rattle.std.specs.Prelude.{ℕ, ◌+◌, ◌*◌, Bool, false, ◌&&◌, List, ◌==◌, nat_lt, slice_index_or, if◌then◌else◌}
use Rattle.movement.specs.declared.movement.Movement.{Movement}
use Rattle.movement.specs.declared.class.Class.TheVariants.{Central}
use Rattle.movement.specs.Movements.{giver, receiver, payer, payee}
use Rattle.movement.specs.declared.side.Side.{Side}
use Rattle.movement.specs.declared.side.Side.TheVariants.{Securities, Cash}
use Rattle.netting.specs.declared.leg.Leg.{Leg}
use Rattle.movement.specs.Limits.{most_accounts, most_securities}
use Rattle.netting.specs.Sizes.{most_places}

-- how many accounts a kind has places for
unfoldable pub accounts : ℕ
accounts = most_accounts

-- how many places there are: 16 kinds of securities, then 2 of cash
unfoldable pub places : ℕ
places = most_places

-- the place of an account: rows 0 to 15 are the kinds of securities, rows 16 and 17 those of cash
abbrev pub place : ℕ → ℕ → ℕ
place row account = most_accounts * row + account

-- the row of a kind
abbrev pub row_of : Side → ℕ → ℕ
row_of Securities kind = kind
row_of Cash kind = most_securities + kind

abbrev pub place_of : Side → ℕ → ℕ → ℕ
place_of side kind account = place (row_of side kind) account

-- the two legs of a movement
abbrev pub leg_of : Side → Movement → Leg
leg_of Securities m = record {
  from = place_of Securities m.security (giver m);
  to = place_of Securities m.security (receiver m);
  amount = m.quantity;
}
leg_of Cash m = record {
  from = place_of Cash m.currency (payer m);
  to = place_of Cash m.currency (payee m);
  amount = m.sum;
}

-- what a leg takes from a place, and what it brings to it
-- Stays: the new form is no plainer: the theorems speak of what is taken and of what is brought by these names.
abbrev pub leg_takes : Leg → ℕ → ℕ
leg_takes leg p = if p == leg.from then leg.amount else 0

abbrev pub leg_brings : Leg → ℕ → ℕ
leg_brings leg p = if p == leg.to then leg.amount else 0

-- what a movement takes from a place
abbrev pub takes : Movement → ℕ → ℕ
takes m p = leg_takes (leg_of Securities m) p + leg_takes (leg_of Cash m) p

-- what a movement brings to a place
abbrev pub brings : Movement → ℕ → ℕ
brings m p = leg_brings (leg_of Securities m) p + leg_brings (leg_of Cash m) p

-- it takes from the place without bringing to it
abbrev pub only_takes : Movement → ℕ → Bool
only_takes m p = nat_lt 0 (takes m p) && brings m p == 0

-- stands for a movement past the end of the list
abbrev pub nothing : Movement
nothing = record {
  number = 0;
  class = Central;
  security = 0;
  quantity = 0;
  currency = 0;
  sum = 0;
  day = 0;
  seller = record { securities = 0; cash = 0; standard = (0, 0); one_off = false; consented = false };
  buyer = record { securities = 0; cash = 0; standard = (0, 0); one_off = false; consented = false };
  late = false;
}

abbrev pub at : List Movement → ℕ → Movement
at movements i = slice_index_or movements i nothing
