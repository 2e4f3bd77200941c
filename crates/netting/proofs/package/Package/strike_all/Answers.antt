use Rattle.std.proofs.Common.{sym, ◌∙◌}
use Rattle.netting.proofs.Striking.{struck_inside, struck_one, struck_none}
use Rattle.netting.proofs.package.Package.strike_all.Goals as goal

pub set-requires-clause-below : goal.set-requires-clause-below
set-requires-clause-below c = (struck_inside c.loop-i.self.movements c.loop-i.self.amounts c.loop-i.self.marks c.in-Some.i (sym c.in-Some.ensures)).0

pub set-requires-clause-other : goal.set-requires-clause-other
set-requires-clause-other c = (struck_inside c.loop-i.self.movements c.loop-i.self.amounts c.loop-i.self.marks c.in-Some.i (sym c.in-Some.ensures)).1

pub loop-i-smaller : goal.loop-i-smaller
loop-i-smaller c = (struck_one c.loop-i.self _ c.in-Some.i (sym c.in-Some.ensures) c.set.ensures).0

pub loop-i-preserved : goal.loop-i-preserved
loop-i-preserved c = (struck_one c.loop-i.self _ c.in-Some.i (sym c.in-Some.ensures) c.set.ensures).1 ∙ c.loop-i.invariant

pub returns : goal.returns
returns c = struck_none c.loop-i.self (sym c.in_default.ensures) ∙ c.loop-i.invariant
