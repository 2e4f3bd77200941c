use Rattle.std.proofs.Common.{ap, arith}
use Rattle.movement.specs.Bounds.{all_fit}
use Rattle.movement.specs.Terms.{accounts_of}
use Rattle.book.proofs.Ordering.{rising_none}
use Rattle.book.proofs.daybook.Daybook.new.Goals as goal

pub invariant_of-result : goal.invariant_of-result
invariant_of-result c = record {
  bounds = ap (all_fit (accounts_of c.new.result) c.args.kinds) c.new-2.ensures;
  rising = rising_none _ c.new-2.ensures;
  few = rw c.new-2.ensures (omega arith);
}
