use Rattle.std.proofs.Common.{rules}
use Rattle.movement.specs.Limits.{most_movements}
use Rattle.movement.specs.Terms.{accounts_of}
use Rattle.book.specs.Books.{daily_of}
use Rattle.book.specs.Found.{FoundAt}
use Rattle.book.proofs.Finding.{consent_done, consented_few, consented_fit, consented_rising, written_at}
use Rattle.book.proofs.daybook.Daybook.consent.Goals as goal

pub returns : goal.returns
returns c =
    let self = c.args.self.now in
    let at : FoundAt self.movements.items c.args.number c.in_ok-i.i = search rules in
    consent_done (daily_of self) c.args.number c.args.participant c.in_ok-i.i at _ _ _ _ c.deref.ensures.0 (search rules) (search rules) c.consented.ensures
    (written_at self.movements c.in_ok-i.i _ _ c.deref_mut.ensures.value)

pub invariant_of-self : goal.invariant_of-self
invariant_of-self c =
    let self = c.args.self.now in
    let at : FoundAt self.movements.items c.args.number c.in_ok-i.i = search rules in
    record {
      bounds = consented_fit (daily_of self) c.args.number c.args.participant c.in_ok-i.i at (accounts_of self.terms) self.kinds _ _ _ _ _ self.bounds c.deref.ensures.0 c.consented.ensures
          (written_at self.movements c.in_ok-i.i _ _ c.deref_mut.ensures.value);
      rising = consented_rising (daily_of self) c.args.number c.args.participant c.in_ok-i.i at self.highest _ _ _ _ _ self.rising c.deref.ensures.0 c.consented.ensures
          (written_at self.movements c.in_ok-i.i _ _ c.deref_mut.ensures.value);
      few = consented_few most_movements c.in_ok-i.i self.movements.items _ _ self.few
          (written_at self.movements c.in_ok-i.i _ _ c.deref_mut.ensures.value);
    }
