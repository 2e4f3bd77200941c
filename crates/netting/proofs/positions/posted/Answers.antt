use Rattle.std.proofs.Common.{◌≡◌, ◌+◌, true, false, length, ◌∷◌, [], ◌++◌, sym, ◌∙◌, arith, rules}
use Rattle.std.proofs.lemmas.List.{length-append}
use Rattle.std.proofs.lemmas.Int.{ints}
use Rattle.std.proofs.lemmas.Slice.Zip.{zip_turn, zip_end}
use Rattle.netting.specs.Places.{nothing}
use Rattle.netting.specs.Positions.{in_package}
use Rattle.netting.proofs.Within.{fitting_facts}
use Rattle.netting.proofs.Bounds.{posted_near}
use Rattle.netting.proofs.Changes.{position_none, position_in, position_out}
use Rattle.netting.proofs.positions.posted.Goals as goal

pub loop-m-init : goal.loop-m-init
loop-m-init c = ((tt, tt), tt, λ p h. position_none c.args.movements.now c.args.marks.now p _)

pub post-requires-clause-room : goal.post-requires-clause-room
post-requires-clause-room c p h =
    let turn = zip_turn c.args.movements.now c.args.marks.now c.loop-m.yielded c.into_iter-m-iterator.result c.loop-m.m-iterator c.next.new.self c.next.result (search rules) (search rules) c.loop-m.yielded_by (c.in-Some.m, c.in-Some.inside) c.in-Some.is c.next.ensures.steps in
    let fitting = fitting_facts c.args.movements.now c.requires.fitting in
    rw (c.loop-m.invariant.2 p h) (posted_near c.args.movements.now c.args.marks.now (length c.loop-m.yielded) p _ fitting (omega arith) (c.requires.room p h))

pub loop-m-preserved-then-inside : goal.loop-m-preserved-then-inside
loop-m-preserved-then-inside c =
    let turn = zip_turn c.args.movements.now c.args.marks.now c.loop-m.yielded c.into_iter-m-iterator.result c.loop-m.m-iterator c.next.new.self c.next.result (search rules) (search rules) c.loop-m.yielded_by (c.in-Some.m, c.in-Some.inside) c.in-Some.is c.next.ensures.steps in
    let more : length (c.loop-m.yielded ++ (c.in-Some.m, c.in-Some.inside) ∷ []) ≡ length c.loop-m.yielded + 1 = simp length-append in
    let inside : in_package c.args.marks.now (length c.loop-m.yielded) ≡ true = sym (turn.3 false) ∙ c.if-inside.true in (
      (tt, tt),
      tt,
      λ p h.
          let posted = rw (turn.2 nothing) at (c.post.ensures p) in
          let before = c.loop-m.invariant.2 p h in
          let after = position_in c.args.movements.now c.args.marks.now (length c.loop-m.yielded) p inside in
          rw more (omega (arith, ints)),
    )

pub loop-m-preserved : goal.loop-m-preserved
loop-m-preserved c =
    let turn = zip_turn c.args.movements.now c.args.marks.now c.loop-m.yielded c.into_iter-m-iterator.result c.loop-m.m-iterator c.next.new.self c.next.result (search rules) (search rules) c.loop-m.yielded_by (c.in-Some.m, c.in-Some.inside) c.in-Some.is c.next.ensures.steps in
    let more : length (c.loop-m.yielded ++ (c.in-Some.m, c.in-Some.inside) ∷ []) ≡ length c.loop-m.yielded + 1 = simp length-append in
    let outside : in_package c.args.marks.now (length c.loop-m.yielded) ≡ false = sym (turn.3 false) ∙ c.if-inside.false in (
      (tt, tt),
      tt,
      λ p h.
          let before = c.loop-m.invariant.2 p h in
          let after = position_out c.args.movements.now c.args.marks.now (length c.loop-m.yielded) p outside in
          rw more (omega (arith, ints)),
    )

pub returns : goal.returns
returns c p h =
    let fitting = fitting_facts c.args.movements.now c.requires.fitting in
    let end = zip_end c.args.movements.now c.args.marks.now c.loop-m.yielded c.into_iter-m-iterator.result c.loop-m.m-iterator c.next.new.self c.next.result (search rules) (search rules) c.loop-m.yielded_by c.in-None.is c.next.ensures.steps in
    let all : length c.loop-m.yielded ≡ length c.args.movements.now = omega (arith, fitting.few) in
    rw all at (c.loop-m.invariant.2 p h)
