use Rattle.std.proofs.Common.{ap}
use Rattle.movement.specs.Bounds.{agreed_fits}
use Rattle.movement.proofs.TermTables.{new_agreed}
use Rattle.movement.proofs.terms.Terms.new.Goals as goal

pub returns-clause-none : goal.returns-clause-none
returns-clause-none c = new_agreed

pub invariant_of-result : goal.invariant_of-result
invariant_of-result c = record { fit = λ m k. ap (λ t. agreed_fits c.args.accounts (t m k)) new_agreed }
