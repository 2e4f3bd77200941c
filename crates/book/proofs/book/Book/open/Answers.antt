use Rattle.book.specs.Opening.{opens_on}
use Rattle.book.proofs.Openings.{opened_by}
use Rattle.book.proofs.Soundness.{opened_open}
use Rattle.book.proofs.book.Book.open.Goals as goal

pub returns : goal.returns
returns g c =
    opened_by (opens_on (g.S.Register.shows c.args.securities) (g.C.Register.shows c.args.cash) c.args.first_day)
    c.sizes-sizes.ensures c.err.ensures.value c.unwrap_or-accounts.ensures c.new.ensures

pub invariant_of-result : goal.invariant_of-result
invariant_of-result g c passed =
    opened_open (opens_on (g.S.Register.shows c.args.securities) (g.C.Register.shows c.args.cash) c.args.first_day)
    c.sizes-sizes.ensures c.err.ensures.value c.unwrap_or-accounts.ensures c.new.ensures passed
