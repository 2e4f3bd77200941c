-- Sums over the numbers below a number, and over those that are marked.
use Rattle.std.proofs.Common.{◌≡◌, ℕ, zero, suc, ◌+◌, ◌<◌, ◌≤◌, Bool, true, false, cond, List, length, get_or, set, sym, refl, ap, ◌∙◌, ⊎_elim, arith}
use Rattle.std.proofs.lemmas.Bool.{cases_lt, both_ways, cond-true, cond-false}
use Rattle.std.proofs.lemmas.List.{get_or-set_same, get_or-set_other, get_or_past}
use Rattle.register.specs.Holdings.{sum_below}
use Rattle.register.proofs.Sums.{sum_changed}
use Rattle.netting.specs.Positions.{sum_marked, in_package}

-- where one sum is larger than another, so is one of its terms
pub sum_exceeds : (f g : ℕ → ℕ) (n : ℕ) → sum_below n f < sum_below n g → (i : ℕ) × (i < n) × (f i < g i)
sum_exceeds f g zero more = absurd (omega arith)
sum_exceeds f g (suc n) more =
    ⊎_elim
    (λ (q : f n < g n). (n, omega arith, q))
    (λ (q : g n ≤ f n). let before = sum_exceeds f g n (omega arith) in (before.0, omega (arith, before.1), before.2))
    (cases_lt (f n) (g n))

pub sum_of_both : (f g : ℕ → ℕ) (n : ℕ) → sum_below n (λ i. f i + g i) ≡ sum_below n f + sum_below n g
sum_of_both f g zero = refl
sum_of_both f g (suc n) = omega (arith, sum_of_both f g n)

pub sum_of_none : (n : ℕ) → sum_below n (λ i. 0) ≡ 0
sum_of_none zero = refl
sum_of_none (suc n) = omega (arith, sum_of_none n)

-- first over rows or first over columns
pub sum_exchanged : (f : ℕ → ℕ → ℕ) (m n : ℕ) → sum_below m (λ i. sum_below n (f i)) ≡ sum_below n (λ j. sum_below m (λ i. f i j))
sum_exchanged f zero n = sym (sum_of_none n)
sum_exchanged f (suc m) n = ap (λ s. s + sum_below n (f m)) (sum_exchanged f m n) ∙ sym (sum_of_both (λ j. sum_below m (λ i. f i j)) (f m) n)

-- a mark that is set stands within the list
pub marked_within : (marks : List Bool) (i : ℕ) → get_or marks i false ≡ true → i < length marks
marked_within marks i e =
    ⊎_elim (λ (q : i < length marks). q) (λ (q : length marks ≤ i). absurd (both_ways (get_or marks i false) (get_or_past marks i false q) e)) (cases_lt i (length marks))

-- a movement more in the package
pub marked_more : (n : ℕ) (marks : List Bool) (f : ℕ → ℕ) (i : ℕ) → i < n → i < length marks → in_package marks i ≡ false → sum_marked n (set marks i true) f ≡ sum_marked n marks f + f i
marked_more n marks f i below within out =
    let here = get_or-set_same marks i true false within in
    let now_in : cond (in_package (set marks i true) i) (f i) 0 ≡ f i = cond-true _ (f i) 0 here in
    let was_out : cond (in_package marks i) (f i) 0 ≡ 0 = cond-false _ (f i) 0 out in
    let changed = sum_changed (λ j. cond (in_package marks j) (f j) 0) (λ j. cond (in_package (set marks i true) j) (f j) 0) n i below (λ j _ other. ap (λ b. cond b (f j) 0) (get_or-set_other marks i j true false other)) in
    omega arith

-- a movement less
pub marked_less : (n : ℕ) (marks : List Bool) (f : ℕ → ℕ) (i : ℕ) → i < n → in_package marks i ≡ true → sum_marked n (set marks i false) f + f i ≡ sum_marked n marks f
marked_less n marks f i below inside =
    let here = get_or-set_same marks i false false (marked_within marks i inside) in
    let now_out : cond (in_package (set marks i false) i) (f i) 0 ≡ 0 = cond-false _ (f i) 0 here in
    let was_in : cond (in_package marks i) (f i) 0 ≡ f i = cond-true _ (f i) 0 inside in
    let changed = sum_changed (λ j. cond (in_package marks j) (f j) 0) (λ j. cond (in_package (set marks i false) j) (f j) 0) n i below (λ j _ other. ap (λ b. cond b (f j) 0) (get_or-set_other marks i j false false other)) in
    omega arith
