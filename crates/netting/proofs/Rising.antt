-- The order of the list is the order of numbers.
use Rattle.std.proofs.Common.{◌≡◌, ℕ, zero, suc, ◌+◌, ◌-◌, ◌<◌, ◌≤◌, Bool, ◌&&◌, List, length, ⊎_elim, add-zero, arith}
use Rattle.std.proofs.lemmas.Bool.{cases_lt, and_from, both_ways}
use Rattle.movement.specs.declared.movement.Movement.{Movement}
use Rattle.netting.specs.Places.{at, only_takes}
use Rattle.netting.specs.Positions.{in_package}
use Rattle.netting.specs.Rejoins.{can_rejoin}
use Rattle.netting.proofs.Within.{Bounded}
use Rattle.netting.specs.Theorems.{HighestStruck, LowestRejoins}
use Rattle.netting.proofs.Search.{first_some, last_some}

module _ (movements : List Movement) (amounts : List ℕ) (bounded : Bounded movements amounts) where
  further : (i d : ℕ) → i + d < length movements → (at movements i).number ≤ (at movements (i + d)).number
  further i zero h = rw add-zero (omega arith)
  further i (suc d) h =
      let e : i + suc d ≡ i + d + 1 = omega arith in
      let before = further i d (omega arith) in
      let step = bounded.rising (i + d) (omega arith) in
      rw e (omega arith)

  in_order : (i j : ℕ) → i ≤ j → j < length movements → (at movements i).number ≤ (at movements j).number
  in_order i j h below = let e : i + (j - i) ≡ j = omega arith in rw e at (further i (j - i) (omega arith))

  pub highest_struck : HighestStruck movements amounts
  highest_struck marks p i j place struck below inside only =
      let chosen = rw place at struck in
      let last = last_some (λ k. in_package marks k && only_takes (at movements k) p) (length movements) i chosen in
      ⊎_elim
      (λ (q : i < j). absurd (both_ways _ (last.2 j below q) (and_from _ _ inside only)))
      (λ (q : j ≤ i). in_order j i q last.0)
      (cases_lt i j)

  pub lowest_rejoins : (tried : List Bool) → LowestRejoins movements amounts tried
  lowest_rejoins tried marks i j next below can =
      let first = first_some (can_rejoin movements amounts tried marks) (length movements) i next in
      ⊎_elim
      (λ (q : j < i). absurd (both_ways _ (first.2 j q) can))
      (λ (q : i ≤ j). in_order i j q below)
      (cases_lt j i)
