-- A table register: a signed row for each amount.
use Rattle.std.specs.Prelude.{List, ℤ, pos}
use Rattle.register.specs.Holdings.{Holdings}
use Rattle.register.specs.RowRegister.{rows_of, holdings_of}
use Rattle.register.specs.declared.row_register.RowRegister.{RowRegister}
pub use Rattle.register.specs.SignedRow.{counted}

-- the rows of a table
abbrev pub table_rows : RowRegister ℤ → List ℤ
table_rows t = rows_of t

-- what a table shows
abbrev pub table_shows : RowRegister ℤ → Holdings
table_shows t = holdings_of counted (pos 0) t
