-- A register over rows of the host.
use Rattle.std.specs.Prelude.{◌≡◌, ℕ, true, List, is_ok, vec_items, Result, slice_index_or}
use Rattle.register.specs.Holdings.{Holdings}
use Rattle.register.specs.Rows.{laid, left_by, place}
use Rattle.register.specs.declared.refusal.Refusal.{Refusal}
use Rattle.register.specs.declared.row_register.RowRegister.{RowRegister}

-- the rows as they stand
abbrev pub rows_of : {X : Type 0} → RowRegister X → List X
rows_of r = vec_items r.rows

-- the number of kinds that the rows are of
abbrev pub kinds_of : {X : Type 0} → RowRegister X → ℕ
kinds_of r = r.kinds

-- what the register shows, each row counting as `counts` says; none stands for a row that is not there
abbrev pub holdings_of : {X : Type 0} → (X → ℕ) → X → RowRegister X → Holdings
holdings_of counts none r = laid (kinds_of r) (rows_of r) counts none

-- the row of a kind and an account
abbrev pub row_of : {X : Type 0} → X → RowRegister X → ℕ → ℕ → X
row_of none r k a = slice_index_or (rows_of r) (place (kinds_of r) (rows_of r) k a) none

-- what a call leaves of the rows
pub record Entered {X : Type 0} (none : X) (kept : X → Type 0) (t : RowRegister X) (k a : ℕ) (row : X) (r : Result Unit Refusal) (t' : RowRegister X) : Type 0 where
  -- where it was answered, one row is written; else none
  pub rows : rows_of t' ≡ left_by (kinds_of t) (rows_of t) r k a row
  -- of the row that was written holds what a register keeps of each
  pub fits : is_ok r ≡ true → kept (row_of none t' k a)
