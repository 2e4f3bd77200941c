-- What a table's rows are after an entry, by the amounts that it showed.
use Rattle.std.proofs.Common.{◌≡◌, ℕ, ◌+◌, ◌-◌, Ok, Err, Result, ℤ, pos, sym, ap, ◌∙◌, arith}
use Rattle.std.proofs.lemmas.Bool.Decides.{nat_tests}
use Rattle.register.specs.Answers.{Put, Taken}
use Rattle.register.specs.SignedRow.{counted, counted_after, IsAmount}
use Rattle.register.specs.Table.{table_shows, table_rows}
use Rattle.register.specs.Rows.{left_by, written}
use Rattle.register.specs.RowRegister.{Entered, row_of, kinds_of}
use Rattle.register.specs.declared.entry.Entry.TheVariants.{Put as putting, Take as taking}
use Rattle.register.specs.declared.refusal.Refusal.{Refusal}
use Rattle.register.specs.declared.row_register.RowRegister.{RowRegister}

-- the row written is the amount that was shown and n more
pub put_rows : (t t' : RowRegister ℤ) (k a n : ℕ) (r : Result Unit Refusal) → Put (table_shows t) k a n r (table_shows t') →
    Entered (pos 0) IsAmount t k a (counted_after (row_of (pos 0) t k a) (putting n)) r t' →
    table_rows t' ≡ left_by (kinds_of t) (table_rows t) r k a (pos ((table_shows t).amount k a + n))
put_rows t t' k a n (Err e) put entered = entered.rows
put_rows t t' k a n (Ok u) put entered =
    let shown : (table_shows t).amount k a ≡ counted (row_of (pos 0) t k a) = let e = put.answered in grind (arith, nat_tests) in
    entered.rows ∙ ap (λ m. written (kinds_of t) (table_rows t) k a (pos (m + n))) (sym shown)

-- .. and n less
pub take_rows : (t t' : RowRegister ℤ) (k a n : ℕ) (r : Result Unit Refusal) → Taken (table_shows t) k a n r (table_shows t') →
    Entered (pos 0) IsAmount t k a (counted_after (row_of (pos 0) t k a) (taking n)) r t' →
    table_rows t' ≡ left_by (kinds_of t) (table_rows t) r k a (pos ((table_shows t).amount k a - n))
take_rows t t' k a n (Err e) taken entered = entered.rows
take_rows t t' k a n (Ok u) taken entered =
    let shown : (table_shows t).amount k a ≡ counted (row_of (pos 0) t k a) = let e = taken.answered in grind (arith, nat_tests) in
    entered.rows ∙ ap (λ m. written (kinds_of t) (table_rows t) k a (pos (m - n))) (sym shown)
