-- What holds of the two steps.
use Rattle.std.specs.Prelude.{◌≡◌, ℕ, ◌+◌, ◌<◌, ◌≤◌, Bool, true, false, List, length, Some}
use Rattle.register.specs.Holdings.{sum_below}
use Rattle.movement.specs.declared.movement.Movement.{Movement}
use Rattle.netting.specs.Search.{times}
use Rattle.netting.specs.Places.{accounts, place, at, only_takes}
use Rattle.netting.specs.Positions.{in_package, size, brought, taken, after_posting, short}
use Rattle.netting.specs.Strikes.{first_short, struck_next, strike}
use Rattle.netting.specs.Rejoins.{covered, can_rejoin, rejoins_next}
use Rattle.movement.specs.Limits.{currencies, most_securities}
use Rattle.netting.specs.Sizes.{most_places}

module _ (movements : List Movement) (amounts : List ℕ) where
  -- where a place is short, some movement of the package takes from it without bringing to it
  abbrev pub SomeTaker : Type 0
  SomeTaker = (marks : List Bool) (p : ℕ) → short movements amounts marks p ≡ true → (i : ℕ) × (i < length movements) × (in_package marks i ≡ true) × (only_takes (at movements i) p ≡ true)

  -- no place is short
  abbrev pub NoneShort : List Bool → Type 0
  NoneShort marks = (p : ℕ) → p < most_places → short movements amounts marks p ≡ false

  -- step 1 ends within as many strikes as the package has movements
  abbrev pub StrikesEnd : Type 0
  StrikesEnd = (marks : List Bool) → NoneShort (times (size movements marks) (strike movements amounts) marks)

  -- no struck movement has both its legs covered by the amounts after posting
  abbrev pub NoneCovered : List Bool → List Bool → Type 0
  NoneCovered tried marks = (i : ℕ) → i < length movements → in_package tried i ≡ true → in_package marks i ≡ false → covered (after_posting movements amounts marks) (at movements i) ≡ false

  -- who is struck has the highest number of those of the package that take from the first short place without bringing to it
  abbrev pub HighestStruck : Type 0
  HighestStruck = (marks : List Bool) (p i j : ℕ) → first_short movements amounts marks ≡ Some p → struck_next movements amounts marks ≡ Some i → j < length movements → in_package marks j ≡ true → only_takes (at movements j) p ≡ true → (at movements j).number ≤ (at movements i).number

  -- who rejoins has the lowest number of those that can
  abbrev pub LowestRejoins : List Bool → Type 0
  LowestRejoins tried = (marks : List Bool) (i j : ℕ) → rejoins_next movements amounts tried marks ≡ Some i → j < length movements → can_rejoin movements amounts tried marks j ≡ true → (at movements i).number ≤ (at movements j).number

-- whoever is marked was tried
abbrev pub OnlyTried : List Bool → List Bool → Type 0
OnlyTried tried marks = (i : ℕ) → in_package marks i ≡ true → in_package tried i ≡ true

-- of each kind as much is brought, over all accounts, as is taken
abbrev pub Balanced : List Movement → List Bool → Type 0
Balanced movements marks = (row : ℕ) → row < most_securities + currencies → sum_below accounts (λ account. brought movements marks (place row account)) ≡ sum_below accounts (λ account. taken movements marks (place row account))
