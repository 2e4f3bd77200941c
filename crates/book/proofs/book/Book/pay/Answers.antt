use Rattle.book.proofs.Soundness.{securities_paid, cash_paid}
use Rattle.book.proofs.book.Book.pay.Goals as goal

pub invariant_of-self : goal.invariant_of-self
invariant_of-self g c passed = securities_paid c.args.place c.args.entry (c.self.invariant passed) c.pay.ensures

pub invariant_of-self-in-Cash : goal.invariant_of-self-in-Cash
invariant_of-self-in-Cash g c passed = cash_paid c.args.place c.args.entry (c.self.invariant passed) c.pay-in-Cash.ensures
