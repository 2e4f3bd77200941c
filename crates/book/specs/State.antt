-- The state of a book, as the rules see it.
use Rattle.std.specs.Prelude.{ℕ, if◌then◌else◌, Option, ◌==◌}
use Rattle.register.specs.Holdings.{Holdings}
use Rattle.fault.specs.declared.fault.Fault.{Fault}
use Rattle.book.specs.Daily.{Daily}

pub record State : Type 0 where
  -- the opening question that failed, if one did
  pub failed : Option Fault
  -- the day, the members and the movements
  pub daily : Daily
  -- what the two registers show
  pub securities : Holdings
  pub cash : Holdings

-- what the register of a side shows: side 0 is securities, side 1 cash
abbrev pub holdings : State → ℕ → Holdings
holdings s side = if side == 0 then s.securities else s.cash

-- the same state with other holdings on one side
abbrev pub with_holdings : State → ℕ → Holdings → State
with_holdings s side h = record s {
  securities = if side == 0 then h else s.securities;
  cash = if side == 0 then s.cash else h;
}

-- the same state with other movements, terms or day
abbrev pub with_daily : State → Daily → State
with_daily s d = record s { daily = d }
