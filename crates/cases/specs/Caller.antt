-- The book that the caller opens, and the movement that its trade forms.
use Rattle.std.specs.Prelude.{false}
use Rattle.register.specs.Holdings.{zero_holdings}
use Rattle.movement.specs.declared.class.Class.TheVariants.{Central}
use Rattle.movement.specs.declared.movement.Movement.{Movement}
use Rattle.book.specs.State.{State}
use Rattle.book.specs.Opening.{opened, opens_on}

-- 1 security and 2 currencies on 3 accounts, everything 0, day 0
abbrev pub new_book : State
new_book = opened (opens_on (zero_holdings 1 3) (zero_holdings 2 3) 0)

-- participant 1 gives 6 pieces, participant 2 pays 300; neither has consented
abbrev pub sale : Movement
sale = record {
  number = 1;
  class = Central;
  security = 0;
  quantity = 6;
  currency = 0;
  sum = 300;
  day = 2;
  seller = record { securities = 1; cash = 1; standard = (1, 1); one_off = false; consented = false };
  buyer = record { securities = 2; cash = 2; standard = (2, 2); one_off = false; consented = false };
  late = false;
}
