-- How positions change with the package.
use Rattle.std.proofs.Common.{◌≡◌, ℕ, ◌+◌, ◌<◌, Bool, true, false, cond, not, List, length, set, ℤ, pos, ◌+ℤ◌, ◌-ℤ◌, arith}
use Rattle.std.proofs.lemmas.Int.{ints}
use Rattle.std.proofs.lemmas.Bool.{cond-true, cond-false}
use Rattle.movement.specs.declared.movement.Movement.{Movement}
use Rattle.netting.specs.Places.{at, takes, brings}
use Rattle.netting.specs.Positions.{sum_marked, in_package, position_by, position}
use Rattle.netting.specs.Tables.{Kept, Posted}
use Rattle.register.proofs.Sums.{sum_more}
use Rattle.netting.proofs.Sums.{marked_more, marked_less}

-- one more summand, of a movement in the package or not
sum_in : (n : ℕ) (marks : List Bool) (f : ℕ → ℕ) → in_package marks n ≡ true → sum_marked (n + 1) marks f ≡ sum_marked n marks f + f n
sum_in n marks f inside = let more = sum_more (λ i. cond (in_package marks i) (f i) 0) n in let here = cond-true (in_package marks n) (f n) 0 inside in omega arith

sum_out : (n : ℕ) (marks : List Bool) (f : ℕ → ℕ) → in_package marks n ≡ false → sum_marked (n + 1) marks f ≡ sum_marked n marks f
sum_out n marks f outside = let more = sum_more (λ i. cond (in_package marks i) (f i) 0) n in let here = cond-false (in_package marks n) (f n) 0 outside in omega arith

module _ (movements : List Movement) (marks : List Bool) where
  pub position_none : (p : ℕ) (before : ℤ) → before ≡ before +ℤ position_by 0 movements marks p
  position_none p before = omega (arith, ints)

  pub position_in : (n p : ℕ) → in_package marks n ≡ true → position_by (n + 1) movements marks p ≡ position_by n movements marks p +ℤ pos (brings (at movements n) p) -ℤ pos (takes (at movements n) p)
  position_in n p inside =
      let b = sum_in n marks (λ i. brings (at movements i) p) inside in
      let t = sum_in n marks (λ i. takes (at movements i) p) inside in
      omega (arith, ints)

  pub position_out : (n p : ℕ) → in_package marks n ≡ false → position_by (n + 1) movements marks p ≡ position_by n movements marks p
  position_out n p outside =
      let b = sum_out n marks (λ i. brings (at movements i) p) outside in
      let t = sum_out n marks (λ i. takes (at movements i) p) outside in
      omega (arith, ints)

  pub position_rejoined : (i p : ℕ) → i < length movements → i < length marks → in_package marks i ≡ false →
      position movements (set marks i true) p ≡ position movements marks p +ℤ pos (brings (at movements i) p) -ℤ pos (takes (at movements i) p)
  position_rejoined i p below within outside =
      let b = marked_more (length movements) marks (λ j. brings (at movements j) p) i below within outside in
      let t = marked_more (length movements) marks (λ j. takes (at movements j) p) i below within outside in
      omega (arith, ints)

  pub position_struck : (i p : ℕ) → i < length movements → in_package marks i ≡ true →
      position movements (set marks i false) p ≡ position movements marks p +ℤ pos (takes (at movements i) p) -ℤ pos (brings (at movements i) p)
  position_struck i p below inside =
      let b = marked_less (length movements) marks (λ j. brings (at movements j) p) i below inside in
      let t = marked_less (length movements) marks (λ j. takes (at movements j) p) i below inside in
      omega (arith, ints)

  -- the table after a movement was entered or taken out
  pub kept_marked : (before : ℕ → ℤ) (i : ℕ) (inside : Bool) (table table' : List ℤ) → i < length movements → i < length marks → in_package marks i ≡ not inside → Kept before movements marks table →
      Posted table table' inside (brings (at movements i)) (takes (at movements i)) → Kept before movements (set marks i inside) table'
  kept_marked before i true table table' below within outside kept posted p h =
      let changed = position_rejoined i p below within outside in
      let was = kept p h in
      let after = posted p in
      omega (arith, ints)
  kept_marked before i false table table' below within inside kept posted p h =
      let changed = position_struck i p below inside in
      let was = kept p h in
      let after = posted p in
      omega (arith, ints)
