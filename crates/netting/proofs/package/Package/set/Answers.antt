use Rattle.std.proofs.Common.{◌≡◌, ◌<◌, not, length, pos, slice_index, arith}
use Rattle.netting.specs.Positions.{in_package}
use Rattle.netting.proofs.Fields.{fitting, room}
use Rattle.netting.proofs.Changes.{kept_marked}
use Rattle.netting.proofs.package.Package.set.Goals as goal

pub post-requires-clause-room : goal.post-requires-clause-room
post-requires-clause-room c = room c.self.inside c.self.invariant

pub invariant_of-self : goal.invariant_of-self
invariant_of-self c =
    let fields = c.self.inside in
    let below : c.args.i < length fields.movements.now = rw (← c.self.view_is) at c.requires.below in
    let other : in_package fields.marks c.args.i ≡ not c.args.inside = rw (← c.self.view_is) at c.requires.other in
    let few = (fitting fields c.self.invariant).few in
    record {
      bounded = c.self.invariant.bounded;
      kept = kept_marked fields.movements.now fields.marks (λ p. pos (slice_index fields.amounts.now p)) c.args.i c.args.inside _ _ below (omega arith) other c.self.invariant.kept c.post.ensures;
    }
