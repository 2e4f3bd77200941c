-- What the legs of a movement take and bring, one place at a time.
use Rattle.std.proofs.Common.{◌≡◌, ℕ, ◌+◌, ◌*◌, ◌<◌, ◌≤◌, Bool, true, false, not, cond, nat_eq, ℤ, pos, ◌+ℤ◌, ◌-ℤ◌, to_z, of_z, w64, refl, ap, ◌∙◌, arith}
use Rattle.std.proofs.lemmas.Int.{ints}
use Rattle.std.proofs.lemmas.Bool.Decides.{nat_tests}
use Rattle.movement.specs.declared.movement.Movement.{Movement}
use Rattle.movement.specs.declared.side.Side.{Side}
use Rattle.movement.specs.declared.side.Side.TheVariants.{Securities, Cash}
use Rattle.netting.specs.declared.leg.Leg.{Leg}
use Rattle.netting.specs.Places.{leg_of, leg_takes, leg_brings, takes, brings, only_takes}
use Rattle.netting.specs.Limits.{fits}
use Rattle.netting.specs.Tables.{LegFits, IsNear, signed}
use Rattle.movement.specs.Limits.{most_moved}

-- no leg takes or brings more than its amount
leg_takes_most : (leg : Leg) (p : ℕ) → leg_takes leg p ≤ leg.amount
leg_takes_most leg p = grind (arith, nat_tests)

leg_brings_most : (leg : Leg) (p : ℕ) → leg_brings leg p ≤ leg.amount
leg_brings_most leg p = grind (arith, nat_tests)

pub leg_fits : (side : Side) (m : Movement) → fits m ≡ true → LegFits (leg_of side m)
leg_fits Securities m h = record { from = grind (arith, nat_tests); to = grind (arith, nat_tests); amount = grind (arith, nat_tests) }
leg_fits Cash m h = record { from = grind (arith, nat_tests); to = grind (arith, nat_tests); amount = grind (arith, nat_tests) }

-- what a place has after one more change
signed_near : (legs : ℕ) (inside : Bool) (brought taken : ℕ) (x y : ℤ) → brought ≤ most_moved → taken ≤ most_moved → IsNear legs x → y ≡ x +ℤ signed inside (pos brought -ℤ pos taken) → IsNear (legs + 1) y
signed_near legs true brought taken x y b t near e = record { above = omega (arith, ints, near.above); below = omega (arith, ints, near.below) }
signed_near legs false brought taken x y b t near e = record { above = omega (arith, ints, near.above); below = omega (arith, ints, near.below) }

pub near_posted : (legs : ℕ) (leg : Leg) (inside : Bool) (x y : ℤ) (p : ℕ) → LegFits leg → IsNear legs x → y ≡ x +ℤ signed inside (pos (leg_brings leg p) -ℤ pos (leg_takes leg p)) → IsNear (legs + 1) y
near_posted legs leg inside x y p fits =
    let amount = fits.amount in
    let b = leg_brings_most leg p in
    let t = leg_takes_most leg p in
    signed_near legs inside (leg_brings leg p) (leg_takes leg p) x y (omega arith) (omega arith)

-- a change fits the type of positions
pub signed_fits : (inside : Bool) (n : ℕ) → n ≤ most_moved → to_z w64 (of_z w64 (signed inside (pos n))) ≡ signed inside (pos n)
signed_fits true n h = omega (arith, ints)
signed_fits false n h = omega (arith, ints)

-- a position after what a leg takes and then what it brings
one_shift : (here inside : Bool) (n : ℕ) → cond here (signed inside (pos n)) (pos 0) ≡ signed inside (pos (cond here n 0))
one_shift true inside n = refl
one_shift false true n = refl
one_shift false false n = omega (arith, ints)

both_shifts : (inside : Bool) (brought taken : ℕ) (x : ℤ) → x +ℤ signed (not inside) (pos taken) +ℤ signed inside (pos brought) ≡ x +ℤ signed inside (pos brought -ℤ pos taken)
both_shifts true brought taken x = omega (arith, ints)
both_shifts false brought taken x = omega (arith, ints)

pub leg_posted : (leg : Leg) (inside : Bool) (x y z less more : ℤ) (p : ℕ) → less ≡ signed (not inside) (pos leg.amount) → more ≡ signed inside (pos leg.amount) →
    y ≡ x +ℤ cond (nat_eq p leg.from) less (pos 0) → z ≡ y +ℤ cond (nat_eq p leg.to) more (pos 0) → z ≡ x +ℤ signed inside (pos (leg_brings leg p) -ℤ pos (leg_takes leg p))
leg_posted leg inside x y z less more p less-is more-is first second =
    let taken = rw (less-is, one_shift (nat_eq p leg.from) (not inside) leg.amount) at first in
    let brought = rw (more-is, one_shift (nat_eq p leg.to) inside leg.amount) at second in
    brought ∙ ap (λ w. w +ℤ signed inside (pos (leg_brings leg p))) taken ∙ both_shifts inside (leg_brings leg p) (leg_takes leg p) x

-- two changes in the same direction
pub signed_both : (inside : Bool) (a b c d : ℕ) → signed inside (pos (a + b) -ℤ pos (c + d)) ≡ signed inside (pos a -ℤ pos c) +ℤ signed inside (pos b -ℤ pos d)
signed_both true a b c d = omega (arith, ints)
signed_both false a b c d = omega (arith, ints)

pub takes_most : (m : Movement) (p : ℕ) → fits m ≡ true → takes m p ≤ 2 * most_moved
takes_most m p h = grind (arith, nat_tests)

pub brings_most : (m : Movement) (p : ℕ) → fits m ≡ true → brings m p ≤ 2 * most_moved
brings_most m p h = grind (arith, nat_tests)

-- what takes more than it brings takes without bringing
pub takes_only : (m : Movement) (p : ℕ) → fits m ≡ true → brings m p < takes m p → only_takes m p ≡ true
takes_only m p h more = grind (arith, nat_tests)
