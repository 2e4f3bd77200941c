-- Worked cases: who settles, given the movements and what accounts hold.
-- Stays: the new form is no plainer; a constant may call no function, so a table for these and src/tests.rt would be rows of nine bare numbers, each made a movement by either.
use Rattle.std.specs.Prelude.{◌≡◌, ℕ, Bool, true, false, List, [], ◌∷◌, length, replicate, slice_set}
use Rattle.movement.specs.declared.movement.Movement.{Movement}
use Rattle.movement.specs.declared.class.Class.TheVariants.{Central}
use Rattle.movement.specs.declared.side.Side.TheVariants.{Securities, Cash}
use Rattle.netting.specs.Places.{place_of}
use Rattle.netting.specs.Rejoins.{settling}
use Rattle.netting.specs.Sizes.{most_places}

pub record Case : Type 0 where
  pub movements : List Movement
  -- places and what they hold; the others hold nothing
  pub held : List (ℕ × ℕ)
  -- a mark for each movement
  pub settles : List Bool

abbrev pub holding : List (ℕ × ℕ) → List ℕ
holding [] = replicate most_places 0
holding (h ∷ held) = slice_set (holding held) h.0 h.1

-- all movements of the case are tried
abbrev pub Holds : Case → Type 0
Holds case = settling case.movements (holding case.held) (replicate (length case.movements) true) ≡ case.settles

abbrev pub AllHold : List Case → Type 0
AllHold [] = Unit
AllHold (case ∷ cases) = Holds case × AllHold cases

-- a movement by its kinds, amounts and four accounts
abbrev moving : (number security quantity giver receiver currency sum payer payee : ℕ) → Movement
moving number security quantity giver receiver currency sum payer payee = record {
  number = number;
  class = Central;
  security = security;
  quantity = quantity;
  currency = currency;
  sum = sum;
  day = 0;
  seller = record { securities = giver; cash = payee; standard = (0, 0); one_off = false; consented = true };
  buyer = record { securities = receiver; cash = payer; standard = (0, 0); one_off = false; consented = true };
  late = false;
}

-- security 0 from the first account to the second, against litas from the second to the first
abbrev trade : (number quantity sum first second : ℕ) → Movement
trade number quantity sum first second = moving number 0 quantity first second 0 sum second first

-- the places of an account: of security 0 and of both currencies
abbrev pieces : ℕ → ℕ
pieces = place_of Securities 0

abbrev litas : ℕ → ℕ
litas = place_of Cash 0

abbrev euro : ℕ → ℕ
euro = place_of Cash 1

-- account 1 sells to account 2, which sells on to account 3; account 1 holds this much
abbrev chain : ℕ → List Bool → Case
chain amount settles = record {
  movements = trade 1 10 500 1 2 ∷ trade 2 10 500 2 3 ∷ [];
  held = (pieces 1, amount) ∷ (litas 3, 500) ∷ [];
  settles = settles;
}

-- the third of three sales still fits once the second is out
abbrev three_sales : Case
three_sales = record {
  movements = trade 1 6 60 1 2 ∷ trade 2 5 50 1 3 ∷ trade 3 4 40 1 4 ∷ [];
  held = (pieces 1, 10) ∷ (litas 2, 60) ∷ (litas 3, 50) ∷ (litas 4, 40) ∷ [];
  settles = true ∷ false ∷ true ∷ [];
}

-- all three are struck; 3 rejoins and brings account 2 what 1 takes, so that a second look lets 1 rejoin
abbrev second_look : Case
second_look = record {
  movements = trade 1 5 50 2 5 ∷ trade 2 8 80 1 4 ∷ trade 3 5 50 1 2 ∷ [];
  held = (pieces 1, 5) ∷ (litas 5, 50) ∷ (litas 4, 80) ∷ (litas 2, 50) ∷ [];
  settles = true ∷ false ∷ true ∷ [];
}

-- a leg from account 1 to itself takes and brings the same: it needs nothing held, and is not struck where account 1 is short
abbrev self_leg : Case
self_leg = record {
  movements = trade 1 5 50 1 2 ∷ moving 2 0 100 1 1 0 30 3 4 ∷ [];
  held = (pieces 1, 4) ∷ (litas 2, 50) ∷ (litas 3, 30) ∷ [];
  settles = false ∷ true ∷ [];
}

-- account 3 lacks both litas and euro
abbrev both_currencies : Case
both_currencies = record {
  movements = moving 1 0 5 1 3 0 50 3 1 ∷ moving 2 0 5 1 3 1 50 3 1 ∷ moving 3 0 5 1 4 0 50 4 1 ∷ [];
  held = (pieces 1, 15) ∷ (litas 3, 49) ∷ (euro 3, 49) ∷ (litas 4, 50) ∷ [];
  settles = false ∷ false ∷ true ∷ [];
}

-- security 0 of account 1 is short and so is account 5 in litas. Securities come first, so 2 is struck, and 3 and 4, which only settle together, stay
abbrev order_of_places : Case
order_of_places = record {
  movements = trade 1 5 50 1 2 ∷ trade 2 5 50 1 5 ∷ moving 3 1 5 6 7 0 50 5 6 ∷ moving 4 1 5 7 6 0 50 8 7 ∷ [];
  held = (pieces 1, 5) ∷ (litas 2, 50) ∷ (litas 5, 50) ∷ (litas 8, 50) ∷ [];
  settles = true ∷ false ∷ true ∷ true ∷ [];
}

abbrev pub cases : List Case
cases = chain 10 (true ∷ true ∷ []) ∷ chain 9 (false ∷ false ∷ []) ∷ three_sales ∷ second_look ∷ self_leg ∷ both_currencies ∷ order_of_places ∷ []
