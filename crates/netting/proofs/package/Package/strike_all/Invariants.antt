use Rattle.std.proofs.Common.{◌≡◌}
use Rattle.netting.specs.Positions.{size}
use Rattle.netting.specs.Held.{with_strikes}
use Rattle.netting.proofs.package.Package.strike_all.Given as goal

abbrev pub invariant-loop-i : goal.invariant-loop-i
invariant-loop-i l = with_strikes l.self ≡ with_strikes l.initial.self

abbrev pub decreases-loop-i : goal.decreases-loop-i
decreases-loop-i l = size l.self.movements l.self.marks
