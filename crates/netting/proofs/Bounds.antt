-- How far from 0 lies what places have after posting.
use Rattle.std.proofs.Common.{ℕ, ◌*◌, ◌<◌, ◌≤◌, Bool, cond, List, length, ℤ, pos, ◌+ℤ◌, arith}
use Rattle.std.proofs.lemmas.Int.{ints}
use Rattle.std.proofs.lemmas.Bool.{cond_both}
use Rattle.register.specs.Holdings.{limit}
use Rattle.movement.specs.declared.movement.Movement.{Movement}
use Rattle.netting.specs.Places.{at, takes, brings}
use Rattle.netting.specs.Positions.{sum_marked, in_package, position_by}
use Rattle.netting.proofs.Within.{Fitting}
use Rattle.netting.specs.Tables.{Kept, IsNear, IsRoomy, most_legs}
use Rattle.netting.proofs.Legs.{takes_most, brings_most}
use Rattle.register.proofs.Sums.{sum_bound}
use Rattle.movement.specs.Limits.{most_moved, most_movements}
use Rattle.netting.specs.Sizes.{most_places}

pub amount_near : (amount : ℕ) → amount ≤ limit → IsNear 0 (pos amount)
amount_near amount h = record { above = omega (arith, ints); below = omega (arith, ints) }

-- a sum over at most so many that are marked
marked_most : (n : ℕ) (marks : List Bool) (f : ℕ → ℕ) → n ≤ most_movements → ((i : ℕ) → i < n → f i ≤ 2 * most_moved) → sum_marked n marks f ≤ most_legs * most_moved
marked_most n marks f few each =
    let bound = sum_bound (λ i. cond (in_package marks i) (f i) 0) (2 * most_moved) n (λ i h. cond_both (in_package marks i) (f i) 0 (λ x. x ≤ 2 * most_moved) (λ _. each i h) (λ _. omega arith)) in
    omega arith

-- so is what a place has after posting
pub posted_near : (movements : List Movement) (marks : List Bool) (n p : ℕ) (before : ℤ) → Fitting movements → n ≤ length movements → IsNear 0 before →
    IsNear most_legs (before +ℤ position_by n movements marks p)
posted_near movements marks n p before fitting within near =
    let few = fitting.few in
    let b = marked_most n marks (λ i. brings (at movements i) p) (omega arith) (λ i h. brings_most (at movements i) p (fitting.fit i (omega arith))) in
    let t = marked_most n marks (λ i. takes (at movements i) p) (omega arith) (λ i h. takes_most (at movements i) p (fitting.fit i (omega arith))) in
    record { above = omega (arith, ints, near.above, near.below); below = omega (arith, ints, near.above, near.below) }

pub kept_roomy : (before : ℕ → ℤ) (movements : List Movement) (marks : List Bool) (table : List ℤ) → Fitting movements → ((p : ℕ) → p < most_places → IsNear 0 (before p)) →
    Kept before movements marks table → IsRoomy most_legs table
kept_roomy before movements marks table fitting near kept p h = rw (kept p h) (posted_near movements marks (length movements) p (before p) fitting (omega arith) (near p h))
