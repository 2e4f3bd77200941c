use Rattle.std.proofs.Common.{ap, ◌∙◌}
use Rattle.movement.specs.Bounds.{all_fit}
use Rattle.book.proofs.daybook.Daybook.agree.Goals as goal

pub invariant_of-self : goal.invariant_of-self
invariant_of-self c =
    let self = c.args.self.now in
    record {
      bounds = ap (λ a. all_fit a self.kinds self.movements.items) c.agree.ensures.accounts ∙ self.bounds;
      rising = self.rising;
      few = self.few;
    }
