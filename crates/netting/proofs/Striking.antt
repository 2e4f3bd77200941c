-- Step 1 ends, and then no place is short.
use Rattle.std.proofs.Common.{◌≡◌, ℕ, suc, ◌<◌, Bool, true, false, ◌&&◌, List, length, Some, None, Option, slice_set, sym, refl, ap, ◌∙◌, arith}
use Rattle.std.proofs.lemmas.Bool.{both_ways, and_parts}
use Rattle.movement.specs.declared.movement.Movement.{Movement}
use Rattle.netting.specs.Places.{places, at, only_takes}
use Rattle.netting.specs.Positions.{in_package, size, short}
use Rattle.netting.specs.Strikes.{chosen_at, marked, first_short, none_short, struck_next, strike, after_strikes}
use Rattle.netting.specs.Held.{Held, marking, is_short, is_taker, next_struck, with_strikes}
use Rattle.netting.specs.Search.{FindsFirst, FindsLast}
use Rattle.netting.proofs.Within.{Fitting}
use Rattle.netting.proofs.Search.{first_found, last_found, last_some, last_none, first_some, none_from, ends, times_same, times_less}
use Rattle.netting.proofs.Sums.{marked_less}
use Rattle.netting.proofs.Shortage.{short_taker}
use Rattle.netting.specs.Sizes.{most_places}

never_found : (i : ℕ) → ◌≡◌ {A = Option ℕ} None (Some i) → ⊥
never_found i e = let z : ◌≡◌ {A = ℕ} 0 1 = cc in omega arith

module _ (movements : List Movement) (amounts : List ℕ) where
  chosen_at_inside : (marks : List Bool) (place : Option ℕ) (i : ℕ) → chosen_at movements marks place ≡ Some i → (i < length movements) × (in_package marks i ≡ true)
  chosen_at_inside marks None i e = absurd (never_found i e)
  chosen_at_inside marks (Some p) i e =
      let last = last_some (λ j. in_package marks j && only_takes (at movements j) p) (length movements) i e in
      (last.0, (and_parts _ _ last.1).0)

  -- whoever is struck is on the list and in the package
  pub struck_inside : (marks : List Bool) (i : ℕ) → struck_next movements amounts marks ≡ Some i → (i < length movements) × (in_package marks i ≡ true)
  struck_inside marks i e = chosen_at_inside marks (first_short movements amounts marks) i e

  pub strike_shrinks : (marks : List Bool) (i : ℕ) → struck_next movements amounts marks ≡ Some i → size movements marks ≡ suc (size movements (strike movements amounts marks))
  strike_shrinks marks i e =
      let inside = struck_inside marks i e in
      let less = marked_less (length movements) marks (λ j. 1) i inside.0 inside.1 in
      rw e (omega arith)

  strike_still : (marks : List Bool) → struck_next movements amounts marks ≡ None → strike movements amounts marks ≡ marks
  strike_still marks e = rw e

  -- where a place is short, someone is struck
  none_chosen : (marks : List Bool) (place : Option ℕ) → Fitting movements → first_short movements amounts marks ≡ place → chosen_at movements marks place ≡ None → place ≡ None
  none_chosen marks None fitting found e = refl
  none_chosen marks (Some p) fitting found e =
      let lacks = (first_some (short movements amounts marks) places p found).1 in
      let taker = short_taker movements amounts marks p fitting lacks in
      let nobody = last_none (λ j. in_package marks j && only_takes (at movements j) p) (length movements) e in
      absurd (both_ways _ (nobody taker.0 taker.1) taker.2)

  pub none_struck : (marks : List Bool) → Fitting movements → struck_next movements amounts marks ≡ None → none_short movements amounts marks ≡ true
  none_struck marks fitting e = none_from (short movements amounts marks) places (none_chosen marks (first_short movements amounts marks) fitting refl e)

  pub strikes_end : (marks : List Bool) → Fitting movements → none_short movements amounts (after_strikes movements amounts marks) ≡ true
  strikes_end marks fitting =
      none_struck (after_strikes movements amounts marks) fitting (ends (struck_next movements amounts) (strike movements amounts) (size movements) (λ _. Unit {0}) strike_still (λ w i _ e. (strike_shrinks w i e, tt)) marks tt)

-- who is struck next, by what two searches find
pub next_struck_none : (h : Held) → FindsFirst most_places (is_short h) None → next_struck h ≡ None
unfolding places
next_struck_none h none = ap (chosen_at h.movements h.marks) (first_found (is_short h) places None none)

pub next_struck_by : (h : Held) (p : ℕ) (found : Option ℕ) → FindsFirst most_places (is_short h) (Some p) → FindsLast (length h.movements) (is_taker h p) found → next_struck h ≡ found
unfolding places
next_struck_by h p found first last = ap (chosen_at h.movements h.marks) (first_found (is_short h) places (Some p) first) ∙ last_found (is_taker h p) (length h.movements) found last

-- a strike was made, or none was left to make
pub struck_one : (h next : Held) (i : ℕ) → next_struck h ≡ Some i → next ≡ marking h i false → (size next.movements next.marks < size h.movements h.marks) × (with_strikes next ≡ with_strikes h)
struck_one h next i found e =
    let step : strike h.movements h.amounts h.marks ≡ slice_set h.marks i false = ap (marked false h.marks) found in
    let less = strike_shrinks h.movements h.amounts h.marks i found in
    let same = times_less (strike h.movements h.amounts) (size h.movements) h.marks less in
    rw e (rw (sym step) (omega arith, ap (λ w. record h { marks = w }) (sym same)))

pub struck_none : (h : Held) → next_struck h ≡ None → h ≡ with_strikes h
struck_none h none = ap (λ w. record h { marks = w }) (sym (times_same (size h.movements h.marks) (strike h.movements h.amounts) h.marks (strike_still h.movements h.amounts h.marks none)))
