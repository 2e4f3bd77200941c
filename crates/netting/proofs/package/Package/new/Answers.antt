use Rattle.std.proofs.Common.{slice_index}
use Rattle.netting.proofs.Within.{bounded_facts, bounded_fitting}
use Rattle.netting.proofs.Bounds.{amount_near}
use Rattle.netting.proofs.package.Package.new.Goals as goal

pub as_signed-requires : goal.as_signed-requires
as_signed-requires c p h = (bounded_facts c.args.movements.now c.args.amounts.now c.requires).small p h

pub posted-requires-clause-room : goal.posted-requires-clause-room
posted-requires-clause-room c p h =
    let small = (bounded_facts c.args.movements.now c.args.amounts.now c.requires).small p h in
    rw (c.as_signed.ensures p h) (amount_near (slice_index c.args.amounts.now p) small)

pub posted-requires-clause-fitting : goal.posted-requires-clause-fitting
posted-requires-clause-fitting c = bounded_fitting c.args.movements.now c.args.amounts.now c.requires

pub invariant_of-result : goal.invariant_of-result
invariant_of-result c = record {
  bounded = c.requires;
  kept = λ p h. rw (c.as_signed.ensures p h) at (c.posted.ensures p h);
}
