-- Of each kind as much is brought as is taken.
use Rattle.std.proofs.Common.{◌≡◌, ℕ, ◌<◌, Bool, true, false, cond, eqb, List, length, sym, refl, ◌∙◌, ⊎_elim, arith}
use Rattle.std.proofs.lemmas.Bool.{cases_eq, cond-false, ne_eqb}
use Rattle.std.proofs.lemmas.Bool.Decides.{nat_tests}
use Rattle.register.specs.Holdings.{sum_below}
use Rattle.movement.specs.declared.movement.Movement.{Movement}
use Rattle.movement.specs.Movements.{giver, receiver, payer, payee}
use Rattle.movement.specs.declared.side.Side.TheVariants.{Securities, Cash}
use Rattle.netting.specs.Places.{accounts, place, row_of, place_of, at, takes, brings}
use Rattle.netting.specs.Positions.{in_package}
use Rattle.netting.specs.Limits.{fits}
use Rattle.netting.proofs.Within.{Fitting}
use Rattle.netting.specs.Theorems.{Balanced}
use Rattle.register.proofs.Sums.{sum_same, sum_changed}
use Rattle.netting.proofs.Sums.{sum_of_both, sum_of_none, sum_exchanged}
use Rattle.movement.specs.Limits.{most_accounts}

-- an amount at one place, summed over the accounts of a row
row_sum : (row of account n : ℕ) → account < most_accounts → sum_below accounts (λ a. cond (eqb (place row a) (place of account)) n 0) ≡ cond (eqb row of) n 0
unfolding accounts
row_sum row of account n known =
    ⊎_elim
    (λ (q : row ≡ of).
    let changed = sum_changed (λ a. 0) (λ a. cond (eqb (place row a) (place of account)) n 0) accounts account known (λ a h other. grind (arith, nat_tests)) in
    let none = sum_of_none accounts in
    let here : cond (eqb (place row account) (place of account)) n 0 ≡ n = grind (arith, nat_tests) in
    let same : cond (eqb row of) n 0 ≡ n = grind (arith, nat_tests) in
    omega arith)
    (λ (q : row ≡ of → ⊥).
    let none : cond (eqb row of) n 0 ≡ 0 = cond-false _ n 0 (ne_eqb row of q) in
    sum_same (λ a. cond (eqb (place row a) (place of account)) n 0) (λ a. 0) accounts (λ a h. cond-false _ n 0 (ne_eqb _ _ (λ (e : place row a ≡ place of account). q (omega arith)))) ∙ sum_of_none accounts ∙ sym none)
    (cases_eq row of)

-- one movement, in a row
movement_balanced : (m : Movement) (row : ℕ) → fits m ≡ true → sum_below accounts (λ a. brings m (place row a)) ≡ sum_below accounts (λ a. takes m (place row a))
movement_balanced m row known =
    let securities : ℕ → ℕ → ℕ = λ account. λ a. cond (eqb (place row a) (place_of Securities m.security account)) m.quantity 0 in
    let cash : ℕ → ℕ → ℕ = λ account. λ a. cond (eqb (place row a) (place_of Cash m.currency account)) m.sum 0 in
    let brought = sum_of_both (securities (receiver m)) (cash (payee m)) accounts in
    let taken = sum_of_both (securities (giver m)) (cash (payer m)) accounts in
    let given = row_sum row m.security (giver m) m.quantity (grind (arith, nat_tests)) in
    let received = row_sum row m.security (receiver m) m.quantity (grind (arith, nat_tests)) in
    let paid = row_sum row (row_of Cash m.currency) (payer m) m.sum (grind (arith, nat_tests)) in
    let got = row_sum row (row_of Cash m.currency) (payee m) m.sum (grind (arith, nat_tests)) in
    omega arith

marked_balanced : (m : Movement) (row : ℕ) (inside : Bool) → fits m ≡ true → sum_below accounts (λ a. cond inside (brings m (place row a)) 0) ≡ sum_below accounts (λ a. cond inside (takes m (place row a)) 0)
marked_balanced m row true known = movement_balanced m row known
marked_balanced m row false known = refl

pub balanced : (movements : List Movement) (marks : List Bool) → Fitting movements → Balanced movements marks
balanced movements marks fitting row known =
    sum_exchanged (λ a. λ i. cond (in_package marks i) (brings (at movements i) (place row a)) 0) accounts (length movements)
    ∙ sum_same _ _ (length movements) (λ i h. marked_balanced (at movements i) row (in_package marks i) (fitting.fit i h))
    ∙ sym (sum_exchanged (λ a. λ i. cond (in_package marks i) (takes (at movements i) (place row a)) 0) accounts (length movements))
