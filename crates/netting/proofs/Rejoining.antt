-- Step 2 ends, no place is short then, and no struck movement has both its legs covered.
use Rattle.std.proofs.Common.{◌≡◌, ℕ, suc, ◌<◌, ◌≤◌, Bool, true, false, cond, ◌&&◌, List, length, set, slice_set, Some, None, Option, sym, refl, ap, ◌∙◌, arith}
use Rattle.std.proofs.lemmas.List.{length-set, get_or-set_same, get_or-set_other}
use Rattle.std.proofs.lemmas.Bool.{and_parts, not-true, cond-true, cond-false}
use Rattle.movement.specs.declared.movement.Movement.{Movement}
use Rattle.netting.specs.Places.{at}
use Rattle.netting.specs.Positions.{in_package, size, after_posting}
use Rattle.netting.specs.Strikes.{none_short, marked, struck_next, strike, after_strikes}
use Rattle.netting.specs.Held.{Held, marking, IsSafe, next_rejoined, with_rejoins}
use Rattle.netting.specs.Rejoins.{Sound, struck, covered, can_rejoin, rejoins_next, rejoin, how_many_struck, after_rejoins}
use Rattle.netting.proofs.Within.{Fitting}
use Rattle.netting.proofs.Search.{first_some, first_none, ends, times_same, times_less, times_keeps}
use Rattle.register.proofs.Sums.{sum_changed}
use Rattle.netting.proofs.Striking.{strikes_end}
use Rattle.netting.proofs.Covering.{rejoins_if_covered}

module _ (movements : List Movement) (amounts : List ℕ) (tried : List Bool) where
  -- who rejoins is on the list, was tried and struck, and leaves no place short
  pub record Rejoins (marks : List Bool) (i : ℕ) : Type 0 where
    pub below : i < length movements
    pub was_tried : in_package tried i ≡ true
    pub outside : in_package marks i ≡ false
    pub safe : none_short movements amounts (set marks i true) ≡ true

  pub rejoins : (marks : List Bool) (i : ℕ) → rejoins_next movements amounts tried marks ≡ Some i → Rejoins marks i
  rejoins marks i e =
      let first = first_some (can_rejoin movements amounts tried marks) (length movements) i e in
      let parts = and_parts (struck tried marks i) _ first.1 in
      let struck_parts = and_parts (in_package tried i) _ parts.0 in
      record { below = first.0; was_tried = struck_parts.0; outside = not-true (in_package marks i) struck_parts.1; safe = parts.1 }

  marked_sound : (marks : List Bool) (next : Option ℕ) → rejoins_next movements amounts tried marks ≡ next → Sound movements amounts marks → Sound movements amounts (marked true marks next)
  marked_sound marks None e sound = sound
  marked_sound marks (Some i) e sound = record { long = simp length-set sound.long; safe = (rejoins marks i e).safe }

  pub rejoin_sound : (marks : List Bool) → Sound movements amounts marks → Sound movements amounts (rejoin movements amounts tried marks)
  rejoin_sound marks sound = marked_sound marks (rejoins_next movements amounts tried marks) refl sound

  pub rejoin_shrinks : (marks : List Bool) (i : ℕ) → length movements ≤ length marks → rejoins_next movements amounts tried marks ≡ Some i →
      how_many_struck movements tried marks ≡ suc (how_many_struck movements tried (rejoin movements amounts tried marks))
  rejoin_shrinks marks i long e =
      let who = rejoins marks i e in
      let below = who.below in
      let counts : List Bool → ℕ → ℕ = λ w j. cond (in_package tried j) (cond (in_package w j) 0 1) 0 in
      let inside = get_or-set_same marks i true false (omega arith) in
      let now_none : counts (set marks i true) i ≡ 0 = cond-true (in_package tried i) _ 0 who.was_tried ∙ cond-true _ 0 1 inside in
      let was_one : counts marks i ≡ 1 = cond-true (in_package tried i) _ 0 who.was_tried ∙ cond-false _ 0 1 who.outside in
      let changed = sum_changed (counts marks) (counts (set marks i true)) (length movements) i below (λ j _ other. ap (λ b. cond (in_package tried j) (cond b 0 1) 0) (get_or-set_other marks i j true false other)) in
      rw e (omega arith)

  rejoin_still : (marks : List Bool) → rejoins_next movements amounts tried marks ≡ None → rejoin movements amounts tried marks ≡ marks
  rejoin_still marks e = rw e

  pub rejoins_sound : (marks : List Bool) → Sound movements amounts marks → Sound movements amounts (after_rejoins movements amounts tried marks)
  rejoins_sound marks sound = times_keeps (rejoin movements amounts tried) (Sound movements amounts) rejoin_sound (how_many_struck movements tried marks) marks sound

  none_rejoins : (marks : List Bool) → Sound movements amounts marks → rejoins_next movements amounts tried (after_rejoins movements amounts tried marks) ≡ None
  none_rejoins marks sound =
      ends (rejoins_next movements amounts tried) (rejoin movements amounts tried) (how_many_struck movements tried) (Sound movements amounts) rejoin_still (λ w i holds e. (rejoin_shrinks w i holds.long e, rejoin_sound w holds)) marks sound

  pub none_covered : (marks : List Bool) (i : ℕ) → Fitting movements → Sound movements amounts marks → i < length movements →
      struck tried (after_rejoins movements amounts tried marks) i ≡ true → covered (after_posting movements amounts (after_rejoins movements amounts tried marks)) (at movements i) ≡ false
  none_covered marks i fitting sound below out =
      let end = after_rejoins movements amounts tried marks in
      let holds = rejoins_sound marks sound in
      let long = holds.long in
      let cannot = first_none (can_rejoin movements amounts tried end) (length movements) (none_rejoins marks sound) i below in
      let is = rejoins_if_covered movements amounts end i fitting below (omega arith) holds.safe tried in
      sym (ap (λ b. b && covered (after_posting movements amounts end) (at movements i)) out) ∙ sym is ∙ cannot

  marked_length : (mark : Bool) (marks : List Bool) (next : Option ℕ) → length (marked mark marks next) ≡ length marks
  marked_length mark marks None = refl
  marked_length mark marks (Some i) = length-set marks i mark

  -- what step 1 leaves
  pub strikes_sound : (marks : List Bool) → Fitting movements → length movements ≤ length marks → Sound movements amounts (after_strikes movements amounts marks)
  strikes_sound marks fitting long =
      let kept = times_keeps (strike movements amounts) (λ w. length w ≡ length marks) (λ w e. marked_length false w (struck_next movements amounts w) ∙ e) (size movements marks) marks refl in
      record { long = omega arith; safe = strikes_end movements amounts marks fitting }

-- one rejoined, or none could
pub rejoined_one : (h next : Held) (i : ℕ) → IsSafe h → next_rejoined h ≡ Some i → next ≡ marking h i true →
    (how_many_struck next.movements next.tried next.marks < how_many_struck h.movements h.tried h.marks) × IsSafe next × (with_rejoins next ≡ with_rejoins h)
rejoined_one h next i safe found e =
    let step : rejoin h.movements h.amounts h.tried h.marks ≡ slice_set h.marks i true = ap (marked true h.marks) found in
    let less = rejoin_shrinks h.movements h.amounts h.tried h.marks i safe.long found in
    let same = times_less (rejoin h.movements h.amounts h.tried) (how_many_struck h.movements h.tried) h.marks less in
    rw e (rw (sym step) (omega arith, rejoin_sound h.movements h.amounts h.tried h.marks safe, ap (λ w. record h { marks = w }) (sym same)))

pub rejoined_none : (h : Held) → next_rejoined h ≡ None → h ≡ with_rejoins h
rejoined_none h none = ap (λ w. record h { marks = w }) (sym (times_same (how_many_struck h.movements h.tried h.marks) (rejoin h.movements h.amounts h.tried) h.marks (rejoin_still h.movements h.amounts h.tried h.marks none)))
