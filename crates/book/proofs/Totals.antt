-- Sums over the accounts of a register, where one amount was changed.
use Rattle.std.proofs.Common.{◌≡◌, ℕ, ◌+◌, ◌<◌, arith}
use Rattle.std.proofs.lemmas.Bool.Decides.{nat_tests}
use Rattle.register.specs.Holdings.{Holdings, total, with_amount}
use Rattle.register.proofs.Sums.{range_changed, range_same}

-- the sum of the kind of which one account's amount was changed
pub total_changed : (h : Holdings) (k a n : ℕ) → a < h.accounts → total (with_amount h k a n) k + h.amount k a ≡ total h k + n
total_changed h k a n known =
    let here : (with_amount h k a n).amount k a ≡ n = grind (arith, nat_tests) in
    let changed = range_changed (h.amount k) ((with_amount h k a n).amount k) h.accounts a known (λ j _ other. grind (arith, nat_tests)) in
    omega arith

-- .. and of every other kind
pub total_kept : (h : Holdings) (k a n j : ℕ) → (j ≡ k → ⊥) → total (with_amount h k a n) j ≡ total h j
total_kept h k a n j other = range_same ((with_amount h k a n).amount j) (h.amount j) h.accounts (λ b l. grind (arith, nat_tests))
