-- Searches and repetition over the numbers below a number.
use Rattle.std.specs.Prelude.{◌≡◌, ℕ, zero, suc, ◌<◌, true, false, Bool, not, is_some, Some, None, Option, MatchOption, if◌then◌else◌}

-- what was found before, else n where it passes
abbrev pub or_at : Option ℕ → Bool → ℕ → Option ℕ
or_at (Some i) passes n = Some i
or_at None passes n = if passes then Some n else None

-- the lowest number below n that passes
-- Stays: the new form is no plainer: `find` over a range is as long, and what is proved here goes by the last number,
-- where `find` goes by the first.
abbrev pub first_below : ℕ → (ℕ → Bool) → Option ℕ
first_below zero passes = None
first_below (suc n) passes = or_at (first_below n passes) (passes n) n

-- the highest number below n that passes
abbrev pub last_below : ℕ → (ℕ → Bool) → Option ℕ
last_below zero passes = None
last_below (suc n) passes = if passes n then Some n else last_below n passes

-- whether no number below n passes
abbrev pub none_below : ℕ → (ℕ → Bool) → Bool
none_below n passes = not (is_some (first_below n passes))

-- what a search up finds of the numbers below n: the first that passes, or none where none passes
abbrev pub FindsFirst : ℕ → (ℕ → Bool) → Option ℕ → Type 0
FindsFirst n passes found =
    MatchOption found ((k : ℕ) → k < n → passes k ≡ false) (λ i. (i < n) × (passes i ≡ true) × ((k : ℕ) → k < i → passes k ≡ false))

-- what a search down finds of them: the last
abbrev pub FindsLast : ℕ → (ℕ → Bool) → Option ℕ → Type 0
FindsLast n passes found =
    MatchOption found ((k : ℕ) → k < n → passes k ≡ false) (λ i. (i < n) × (passes i ≡ true) × ((k : ℕ) → k < n → i < k → passes k ≡ false))

-- a step taken n times
-- Stays: the new form is no plainer: the theorem that strikes end says how many steps it takes.
abbrev pub times : {X : Type 0} → ℕ → (X → X) → X → X
times zero step x = x
times (suc n) step x = times n step (step x)
