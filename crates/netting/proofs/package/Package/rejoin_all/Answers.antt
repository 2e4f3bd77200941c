use Rattle.std.proofs.Common.{sym, ◌∙◌}
use Rattle.netting.proofs.Rejoining.{rejoins, rejoined_one, rejoined_none}
use Rattle.netting.proofs.package.Package.rejoin_all.Goals as goal

pub set-requires-clause-below : goal.set-requires-clause-below
set-requires-clause-below c = (rejoins c.loop-i.self.movements c.loop-i.self.amounts c.loop-i.self.tried c.loop-i.self.marks c.in-Some.i (sym c.in-Some.ensures)).below

pub set-requires-clause-other : goal.set-requires-clause-other
set-requires-clause-other c = (rejoins c.loop-i.self.movements c.loop-i.self.amounts c.loop-i.self.tried c.loop-i.self.marks c.in-Some.i (sym c.in-Some.ensures)).outside

pub loop-i-smaller : goal.loop-i-smaller
loop-i-smaller c = (rejoined_one c.loop-i.self _ c.in-Some.i c.loop-i.invariant.0 (sym c.in-Some.ensures) c.set.ensures).0

pub loop-i-preserved : goal.loop-i-preserved
loop-i-preserved c =
    let one = rejoined_one c.loop-i.self _ c.in-Some.i c.loop-i.invariant.0 (sym c.in-Some.ensures) c.set.ensures in
    (one.1, one.2 ∙ c.loop-i.invariant.1)

pub returns : goal.returns
returns c = rejoined_none c.loop-i.self (sym c.in_default.ensures) ∙ c.loop-i.invariant.1
