-- Rows that go kind by kind, as many for each kind.
use Rattle.std.specs.Prelude.{ℕ, ◌+◌, ◌*◌, ◌/◌, ◌≤◌, min, ◌&&◌, List, length, is_ok, Result, nat_lt, slice_index_or, slice_set, if◌then◌else◌}
use Rattle.std.proofs.Math.Nat.{le-add_right}
use Rattle.std.proofs.lemmas.Bool.{cond_both}
use Rattle.register.specs.Holdings.{Holdings, limit, most}
use Rattle.register.specs.declared.refusal.Refusal.{Refusal}

module _ {X : Type 0} (kinds : ℕ) (rows : List X) where
  -- how many rows each kind has: what is left over is unused, and of 0 kinds none has a row
  abbrev pub stride : ℕ
  stride = length rows / kinds

  -- the kinds that are shown
  abbrev pub shown_kinds : ℕ
  shown_kinds = min kinds most

  -- the accounts that are shown
  abbrev pub shown_accounts : ℕ
  shown_accounts = min stride most

  -- where the row of a kind and an account stands
  abbrev pub place : ℕ → ℕ → ℕ
  place k a = k * stride + a

  -- the rows with x for a kind and an account
  abbrev pub written : ℕ → ℕ → X → List X
  written k a x = slice_set rows (place k a) x

  -- the rows as a call leaves them: written where it was answered, else as before
  abbrev pub left_by : Result Unit Refusal → ℕ → ℕ → X → List X
  left_by r k a x = if is_ok r then written k a x else rows

  -- what rows show, each counting as `counts` says; none stands for a row that is not there
  abbrev pub laid : (X → ℕ) → X → Holdings
  laid counts none = record {
    kinds = shown_kinds;
    accounts = shown_accounts;
    amount = λ k a. if nat_lt k shown_kinds && nat_lt a shown_accounts then counts (slice_index_or rows (place k a) none) else 0;
  }

-- no amount is above the limit where no row counts for more
pub laid_bounded : {X : Type 0} (kinds : ℕ) (rows : List X) (counts : X → ℕ) (none : X) → ((x : X) → counts x ≤ limit) →
    (k a : ℕ) → (laid kinds rows counts none).amount k a ≤ limit
laid_bounded kinds rows counts none bounded k a =
    cond_both _ _ 0 (λ n. n ≤ limit) (λ _. bounded _) (λ _. le-add_right 0 limit)
