-- What a register means: one amount for each kind and account.
use Rattle.std.specs.Prelude.{ℕ, zero, suc, ◌+◌, ◌-◌, ◌&&◌, ◌==◌, if◌then◌else◌}
use Rattle.std.specs.List.{sum_by, range_with_len}

-- the number of kinds, the number of accounts, and the amount of each kind on each account
pub record Holdings : Type 0 where
  pub kinds : ℕ
  pub accounts : ℕ
  pub amount : ℕ → ℕ → ℕ

-- no amount is larger: 10^15
abbrev pub limit : ℕ
limit = 1000000000000000

-- no register shows more kinds, or more accounts
abbrev pub most : ℕ
most = 1000

-- nothing of any kind on any account
abbrev pub zero_holdings : ℕ → ℕ → Holdings
zero_holdings kinds accounts = record { kinds = kinds; accounts = accounts; amount = λ k a. 0 }

-- the same with n at one kind and account
abbrev pub with_amount : Holdings → ℕ → ℕ → ℕ → Holdings
with_amount h k a n = record h { amount = λ j b. if j == k && b == a then n else h.amount j b }

-- n more on one account
abbrev pub raised : Holdings → ℕ → ℕ → ℕ → Holdings
raised h k a n = with_amount h k a (h.amount k a + n)

-- n less on one account
abbrev pub lowered : Holdings → ℕ → ℕ → ℕ → Holdings
lowered h k a n = with_amount h k a (h.amount k a - n)

-- n from one account to another; from an account to itself nothing changes
abbrev pub moved : Holdings → ℕ → ℕ → ℕ → ℕ → Holdings
moved h k from to n = if from == to then h else raised (lowered h k from n) k to n

-- f 0 + f 1 + .. + f (n - 1)
-- Stays: the new form is no plainer: it gives its last term at once, by which netting's sums are proved, where a sum over a
-- range, as in `total`, needs a lemma for that at each step.
abbrev pub sum_below : ℕ → (ℕ → ℕ) → ℕ
sum_below zero f = 0
sum_below (suc n) f = sum_below n f + f n

-- what all accounts hold of a kind together
abbrev pub total : Holdings → ℕ → ℕ
total h k = sum_by (h.amount k) (range_with_len 0 h.accounts)
