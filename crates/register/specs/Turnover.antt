-- A turnover register: credits and debits for each amount.
use Rattle.register.specs.Columns.{balance, empty}
use Rattle.register.specs.Holdings.{Holdings}
use Rattle.register.specs.RowRegister.{holdings_of}
use Rattle.register.specs.declared.columns.Columns.{Columns}
use Rattle.register.specs.declared.row_register.RowRegister.{RowRegister}

-- what a turnover register shows
abbrev pub turnover_shows : RowRegister Columns → Holdings
turnover_shows t = holdings_of balance empty t
