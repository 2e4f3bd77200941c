-- A row of two columns: what was put and what was taken.
use Rattle.std.specs.Prelude.{ℕ, ◌+◌, ◌-◌, ◌≤◌, min, Bool, ◌&&◌, nat_le, if◌then◌else◌}
use Rattle.register.specs.Holdings.{limit}
use Rattle.register.specs.declared.entry.Entry.{Entry}
use Rattle.register.specs.declared.entry.Entry.TheVariants.{Put, Take}
use Rattle.register.specs.declared.columns.Columns.{Columns}

-- no column that a register writes is larger: 10^18
abbrev pub column_limit : ℕ
column_limit = 1000000000000000000

-- credits less debits: below 0 it counts as 0, above the limit as the limit
abbrev pub balance : Columns → ℕ
balance c = min (c.credits - c.debits) limit

-- nothing put and nothing taken
abbrev pub empty : Columns
empty = record { credits = 0; debits = 0 }

-- the balance brought forward
abbrev pub forward : Columns → Columns
forward c = record { credits = balance c; debits = 0 }

-- whether the difference is from 0 to the limit, and n more credits do not pass the column's limit
abbrev pub open_for : Columns → ℕ → Bool
open_for c n = nat_le c.debits c.credits && nat_le (c.credits - c.debits) limit && nat_le (c.credits + n) column_limit

-- the columns that an entry is made in
abbrev pub ready : Columns → ℕ → Columns
ready c n = if open_for c n then c else forward c

-- n put
abbrev pub credited : Columns → ℕ → Columns
credited c n = record { credits = (ready c n).credits + n; debits = (ready c n).debits }

-- n taken; debits do not pass credits
abbrev pub debited : Columns → ℕ → Columns
debited c n = record { credits = (ready c 0).credits; debits = (ready c 0).debits + n }

-- the columns that an entry leaves
abbrev pub columns_after : Columns → Entry → Columns
columns_after c (Put n) = credited c n
columns_after c (Take n) = debited c n

-- no column is above its limit
pub record Fits (c : Columns) : Type 0 where
  pub credits : c.credits ≤ column_limit
  pub debits : c.debits ≤ column_limit
