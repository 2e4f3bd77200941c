use Rattle.std.proofs.Common.{arith}
use Rattle.movement.specs.Terms.{agreed}
use Rattle.movement.proofs.Fitting.{wider_fit}
use Rattle.movement.proofs.terms.Terms.agree_for.Goals as goal

pub invariant_of-self : goal.invariant_of-self
invariant_of-self c =
    let self = c.args.self.now in
    record { fit = wider_fit self.accounts _ (agreed self) (omega arith) self.fit }
