-- A movement can rejoin with no place short where both its legs are covered.
use Rattle.std.proofs.Common.{◌≡◌, ℕ, ◌<◌, ◌≤◌, Bool, true, false, ◌&&◌, List, length, set, ℤ, pos, ◌+ℤ◌, ◌-ℤ◌, ◌≤ℤ◌, ◌<ℤ◌, sym, ap, ◌∙◌, ⊎_elim, arith}
use lib.Signed.{lt_z}
use Rattle.std.proofs.lemmas.Int.{ints}
use Rattle.std.proofs.lemmas.Bool.{cases_lt, cases_eq, cases_Bool, and_parts, and_cases, and_left, not-true}
use Rattle.std.proofs.lemmas.Bool.Decides.{nat_tests}
use Rattle.movement.specs.declared.movement.Movement.{Movement}
use Rattle.movement.specs.declared.side.Side.TheVariants.{Securities, Cash}
use Rattle.netting.specs.declared.leg.Leg.{Leg}
use Rattle.netting.specs.Places.{at, place_of, leg_takes, leg_brings, leg_of, takes, brings}
use Rattle.netting.specs.Positions.{in_package, after_posting}
use Rattle.netting.specs.Strikes.{none_short}
use Rattle.netting.specs.Limits.{fits}
use Rattle.netting.proofs.Within.{Fitting}
use Rattle.netting.specs.Rejoins.{leg_covered, covered, struck, can_rejoin}
use Rattle.netting.proofs.Changes.{position_rejoined}
use Rattle.netting.proofs.Shortage.{none_short_at, none_short_all, some_short}
use Rattle.netting.specs.Sizes.{most_places}

-- the places of securities end where those of cash begin
abbrev first_cash : ℕ
first_cash = place_of Cash 0 0

-- the legs of a movement have no place in common
cash_apart : (m : Movement) (p : ℕ) → p < first_cash → (leg_takes (leg_of Cash m) p ≡ 0) × (leg_brings (leg_of Cash m) p ≡ 0)
cash_apart m p h = (grind (arith, nat_tests), grind (arith, nat_tests))

securities_apart : (m : Movement) (p : ℕ) → fits m ≡ true → first_cash ≤ p → (leg_takes (leg_of Securities m) p ≡ 0) × (leg_brings (leg_of Securities m) p ≡ 0)
securities_apart m p known h = (grind (arith, nat_tests), grind (arith, nat_tests))

-- a covered leg leaves no amount below 0, and another leg does
leg_keeps : (amount : ℕ → ℤ) (leg : Leg) (p : ℕ) → pos 0 ≤ℤ amount p → leg_covered amount leg ≡ true → pos 0 ≤ℤ (amount p +ℤ pos (leg_brings leg p) -ℤ pos (leg_takes leg p))
leg_keeps amount leg p enough cover =
    ⊎_elim
    (λ (q : p ≡ leg.from). let e = ap amount q in grind (arith, nat_tests, ints))
    (λ (q : p ≡ leg.from → ⊥). grind (arith, nat_tests, ints))
    (cases_eq p leg.from)

leg_lacks : (amount : ℕ → ℤ) (leg : Leg) → leg_covered amount leg ≡ false → (amount leg.from +ℤ pos (leg_brings leg leg.from) -ℤ pos (leg_takes leg leg.from)) <ℤ pos 0
leg_lacks amount leg cover = grind (arith, nat_tests, ints)

module _ (amount : ℕ → ℤ) (m : Movement) (known : fits m ≡ true) where
  -- what a movement leaves at a place
  abbrev left_at : ℕ → ℤ
  left_at p = amount p +ℤ pos (brings m p) -ℤ pos (takes m p)

  covered_keeps : (p : ℕ) → pos 0 ≤ℤ amount p → covered amount m ≡ true → pos 0 ≤ℤ left_at p
  covered_keeps p enough cover =
      let parts = and_parts (leg_covered amount (leg_of Securities m)) (leg_covered amount (leg_of Cash m)) cover in
      ⊎_elim
      (λ (q : p < first_cash). let apart = cash_apart m p q in let keeps = leg_keeps amount (leg_of Securities m) p enough parts.0 in omega (arith, ints))
      (λ (q : first_cash ≤ p). let apart = securities_apart m p known q in let keeps = leg_keeps amount (leg_of Cash m) p enough parts.1 in omega (arith, ints))
      (cases_lt p first_cash)

  uncovered_lacks : covered amount m ≡ false → (p : ℕ) × (p < most_places) × (left_at p <ℤ pos 0)
  uncovered_lacks cover =
      ⊎_elim
      (λ (q : leg_covered amount (leg_of Securities m) ≡ false).
      let from = (leg_of Securities m).from in
      let low : from < first_cash = grind (arith, nat_tests) in
      let apart = cash_apart m from low in
      let lacks = leg_lacks amount (leg_of Securities m) q in
      (from, omega arith, omega (arith, ints)))
      (λ (q : leg_covered amount (leg_of Cash m) ≡ false).
      let from = (leg_of Cash m).from in
      let high : first_cash ≤ from = omega arith in
      let apart = securities_apart m from known high in
      let lacks = leg_lacks amount (leg_of Cash m) q in
      (from, grind (arith, nat_tests), omega (arith, ints)))
      (and_cases (leg_covered amount (leg_of Securities m)) (leg_covered amount (leg_of Cash m)) cover)

at_least : (z : ℤ) → lt_z z (pos 0) ≡ false → pos 0 ≤ℤ z
at_least z e = grind (arith, ints)

not_below : (z : ℤ) → pos 0 ≤ℤ z → lt_z z (pos 0) ≡ false
not_below z h = grind (arith, ints)

below_none : (z : ℤ) → z <ℤ pos 0 → lt_z z (pos 0) ≡ true
below_none z h = grind (arith, ints)

module _ (movements : List Movement) (amounts : List ℕ) (marks : List Bool) (i : ℕ) (fitting : Fitting movements) (below : i < length movements) (within : i < length marks) (safe : none_short movements amounts marks ≡ true) where
  -- what a place has after a movement rejoined
  left_is : (p : ℕ) → in_package marks i ≡ false → after_posting movements amounts (set marks i true) p ≡ left_at (after_posting movements amounts marks) (at movements i) (fitting.fit i below) p
  left_is p outside = let changed = position_rejoined movements marks i p below within outside in omega (arith, ints)

  safe_if_covered : in_package marks i ≡ false → none_short movements amounts (set marks i true) ≡ covered (after_posting movements amounts marks) (at movements i)
  safe_if_covered outside =
      let amount = after_posting movements amounts marks in
      let known = fitting.fit i below in
      ⊎_elim
      (λ (q : covered amount (at movements i) ≡ true).
      none_short_all movements amounts (set marks i true) (λ p h. not_below (after_posting movements amounts (set marks i true) p) (rw (left_is p outside) (covered_keeps amount (at movements i) known p (at_least (amount p) (none_short_at movements amounts marks safe p h)) q))) ∙ sym q)
      (λ (q : covered amount (at movements i) ≡ false).
      let lacks = uncovered_lacks amount (at movements i) known q in
      some_short movements amounts (set marks i true) lacks.0 lacks.1 (below_none (after_posting movements amounts (set marks i true) lacks.0) (rw (left_is lacks.0 outside) lacks.2)) ∙ sym q)
      (cases_Bool (covered amount (at movements i)))

  pub rejoins_if_covered : (tried : List Bool) → can_rejoin movements amounts tried marks i ≡ (struck tried marks i && covered (after_posting movements amounts marks) (at movements i))
  rejoins_if_covered tried =
      ⊎_elim
      (λ (q : struck tried marks i ≡ true). ap (λ b. struck tried marks i && b) (safe_if_covered (not-true (in_package marks i) (and_parts _ _ q).1)))
      (λ (q : struck tried marks i ≡ false). and_left _ _ q ∙ sym (and_left _ _ q))
      (cases_Bool (struck tried marks i))
