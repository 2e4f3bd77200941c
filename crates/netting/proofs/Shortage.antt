-- Short places, and who takes from them.
use Rattle.std.proofs.Common.{◌≡◌, ℕ, ◌+◌, ◌<◌, Bool, true, false, cond, ◌&&◌, List, length, get_or, pos, ◌+ℤ◌, ◌-ℤ◌, refl, arith}
use lib.Signed.{lt_z}
use Rattle.std.proofs.lemmas.Int.{ints}
use Rattle.std.proofs.lemmas.Bool.{and_from}
use Rattle.movement.specs.declared.movement.Movement.{Movement}
use Rattle.netting.specs.Places.{places, at, takes, brings, only_takes}
use Rattle.netting.specs.Positions.{in_package, brought, taken, short}
use Rattle.netting.specs.Strikes.{none_short}
use Rattle.netting.proofs.Within.{Fitting}
use Rattle.netting.proofs.Legs.{takes_only}
use Rattle.netting.proofs.Search.{none_at, none_all, none_fails}
use Rattle.netting.proofs.Sums.{sum_exceeds}
use Rattle.netting.specs.Sizes.{most_places}

-- more is taken than is there and is brought
taken_more : (a b t : ℕ) → lt_z (pos a +ℤ (pos b -ℤ pos t)) (pos 0) ≡ true → a + b < t
taken_more a b t e = grind (arith, ints)

cond_more : (b : Bool) (x y : ℕ) → cond b x 0 < cond b y 0 → (b ≡ true) × (x < y)
cond_more true x y more = (refl, more)
cond_more false x y more = absurd (omega arith)

module _ (movements : List Movement) (amounts : List ℕ) (marks : List Bool) where
  -- who takes from a short place without bringing to it
  pub short_taker : (p : ℕ) → Fitting movements → short movements amounts marks p ≡ true → (i : ℕ) × (i < length movements) × ((in_package marks i && only_takes (at movements i) p) ≡ true)
  short_taker p fitting lacks =
      let more = taken_more (get_or amounts p 0) (brought movements marks p) (taken movements marks p) lacks in
      let taker = sum_exceeds (λ i. cond (in_package marks i) (brings (at movements i) p) 0) (λ i. cond (in_package marks i) (takes (at movements i) p) 0) (length movements) (omega arith) in
      let parts = cond_more (in_package marks taker.0) (brings (at movements taker.0) p) (takes (at movements taker.0) p) taker.2 in
      (taker.0, taker.1, and_from _ _ parts.0 (takes_only (at movements taker.0) p (fitting.fit taker.0 taker.1) parts.1))

  -- no place is short, as a fact of each place
  pub none_short_at : none_short movements amounts marks ≡ true → (p : ℕ) → p < most_places → short movements amounts marks p ≡ false
  unfolding places
  none_short_at = none_at (short movements amounts marks) places

  pub none_short_all : ((p : ℕ) → p < most_places → short movements amounts marks p ≡ false) → none_short movements amounts marks ≡ true
  unfolding places
  none_short_all = none_all (short movements amounts marks) places

  pub some_short : (p : ℕ) → p < most_places → short movements amounts marks p ≡ true → none_short movements amounts marks ≡ false
  unfolding places
  some_short = none_fails (short movements amounts marks) places
