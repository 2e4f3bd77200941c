use Rattle.std.proofs.Common.{arith}
use Rattle.std.proofs.lemmas.Int.{ints}
use Rattle.netting.proofs.Fields.{room}
use Rattle.netting.proofs.package.Package.amount_after.Goals as goal

pub returns : goal.returns
returns c =
    let near = room c.self.inside c.self.invariant c.args.place c.requires in
    let kept = c.self.invariant.kept c.args.place c.requires in
    rw (← c.self.view_is) (omega (arith, ints, near.above, near.below))
