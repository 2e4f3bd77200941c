-- A signed row of a table register.
use Rattle.std.specs.Prelude.{◌≡◌, ℕ, min, ℤ, pos, negsuc}
use Rattle.register.specs.Entry.{amount_after}
use Rattle.register.specs.Holdings.{limit}
use Rattle.register.specs.declared.entry.Entry.{Entry}

-- a row below 0 counts as 0, one above the limit as the limit
abbrev pub counted : ℤ → ℕ
counted (pos n) = min n limit
counted (negsuc n) = 0

-- the row that an entry leaves
abbrev pub counted_after : ℤ → Entry → ℤ
counted_after row e = pos (amount_after (counted row) e)

-- a row that says what it counts as
abbrev pub IsAmount : ℤ → Type 0
IsAmount row = row ≡ pos (counted row)
