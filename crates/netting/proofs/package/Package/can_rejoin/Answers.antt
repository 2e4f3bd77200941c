use Rattle.std.proofs.Common.{◌≡◌, ◌<◌, true, length, arith, rules}
use Rattle.netting.specs.Strikes.{none_short}
use Rattle.netting.proofs.Fields.{fitting}
use Rattle.netting.proofs.Covering.{rejoins_if_covered}
use Rattle.netting.proofs.package.Package.can_rejoin.Goals as goal

pub returns-then-was_struck : goal.returns-then-was_struck
returns-then-was_struck c =
    let fields = c.self.inside in
    let fit = fitting fields c.self.invariant in
    let below : c.args.i < length fields.movements.now = rw (← c.self.view_is) at c.requires.below in
    let safe : none_short fields.movements.now fields.amounts.now fields.marks ≡ true = rw (← c.self.view_is) at c.requires.safe in
    let is = rejoins_if_covered fields.movements.now fields.amounts.now fields.marks c.args.i fit below (omega (arith, fit.few)) safe fields.tried.now in
    let struck = rw (← c.self.view_is) at c.was_struck.ensures in
    let covered = rw (← c.self.view_is) at c.covers_both.ensures in
    rw (← c.self.view_is) (search rules)
