use Rattle.std.proofs.Common.{◌≡◌}
use Rattle.netting.specs.Rejoins.{how_many_struck}
use Rattle.netting.specs.Held.{IsSafe, with_rejoins}
use Rattle.netting.proofs.package.Package.rejoin_all.Given as goal

abbrev pub invariant-loop-i : goal.invariant-loop-i
invariant-loop-i l = IsSafe l.self × (with_rejoins l.self ≡ with_rejoins l.initial.self)

abbrev pub decreases-loop-i : goal.decreases-loop-i
decreases-loop-i l = how_many_struck l.self.movements l.self.tried l.self.marks
