-- The state that a book is in, over any two registers.
use Rattle.std.specs.Prelude.{Option}
use Rattle.register.specs.Holdings.{Holdings}
use Rattle.fault.specs.declared.fault.Fault.{Fault}
use Rattle.book.specs.declared.daybook.Daybook.{Daybook}
use Rattle.movement.specs.Terms.{accounts_of, agreed}
use Rattle.book.specs.Daily.{Daily}
use Rattle.book.specs.Parts.{Parts}
use Rattle.book.specs.State.{State}

-- what a day book keeps
abbrev pub daily_of : Daybook → Daily
daily_of d = record {
  accounts = accounts_of d.terms;
  kinds = d.kinds;
  day = d.day;
  half = d.half;
  highest = d.highest;
  terms = agreed d.terms;
  movements = d.movements.items;
}

-- a book, by its fields
abbrev pub parts : {S C : Type 0} → Option Fault → Daybook → S → C → Parts S C
parts failed daybook securities cash =
    record { failed = failed; daybook = daybook; securities = securities; cash = cash }

-- .. and the state that it is in, by what its registers show
abbrev pub state_of : {S C : Type 0} → (S → Holdings) → (C → Holdings) → Parts S C → State
state_of securities cash b = record {
  failed = b.failed;
  daily = daily_of b.daybook;
  securities = securities b.securities;
  cash = cash b.cash;
}
