use Rattle.std.proofs.Common.{ap, ◌∙◌, rules, arith}
use Rattle.movement.specs.Bounds.{all_fit}
use Rattle.movement.specs.Terms.{accounts_of}
use Rattle.movement.proofs.Fitting.{fit_removed}
use Rattle.book.specs.Found.{FoundAt}
use Rattle.book.proofs.Ordering.{rising_removed}
use Rattle.book.proofs.daybook.Daybook.cancel.Goals as goal

pub invariant_of-self : goal.invariant_of-self
invariant_of-self c =
    let self = c.args.self.now in
    let at : FoundAt self.movements.items c.args.number c.in_ok-i.i = search rules in
    record {
      bounds = ap (all_fit (accounts_of self.terms) self.kinds) c.remove.ensures.items
          ∙ fit_removed (accounts_of self.terms) self.kinds self.movements.items c.in_ok-i.i self.bounds;
      rising = rw c.remove.ensures.items (rising_removed self.highest self.movements.items c.in_ok-i.i at.within self.rising);
      few = let fewer = c.remove.ensures.len in let before = self.few in omega arith;
    }
