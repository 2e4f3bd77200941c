use Rattle.std.proofs.Common.{◌≡◌, slice_index, get_or, to_z, w64, pos, ⊎_elim, ◌∙◌, arith}
use Rattle.std.proofs.lemmas.Int.{ints}
use Rattle.std.proofs.lemmas.Bool.{cases_eq}
use Rattle.std.proofs.lemmas.List.{length-set, get_or-set_same, get_or-set_other}
use Rattle.netting.proofs.package.as_signed.Goals as goal

pub loop-place-preserved : goal.loop-place-preserved
loop-place-preserved c =
    let place = c.loop-place.place in
    let small = c.requires place (omega arith) in
    let here : to_z w64 (get_or c.args.amounts.now place 0) ≡ pos (slice_index c.args.amounts.now place) = omega (arith, ints) in (
      simp length-set c.loop-place.invariant.0,
      λ p h. ⊎_elim
          (λ (q : p ≡ place). rw q (get_or-set_same c.loop-place.signed place _ (pos 0) (omega arith) ∙ here))
          (λ (q : p ≡ place → ⊥). get_or-set_other c.loop-place.signed place p _ (pos 0) q ∙ c.loop-place.invariant.1 p (omega arith))
          (cases_eq p place),
    )
