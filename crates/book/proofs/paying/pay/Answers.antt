use Rattle.std.proofs.Common.{sym}
use Rattle.book.proofs.Payments.{entry_passes, not_both}
use Rattle.book.proofs.paying.pay.Goals as goal

pub returns-in_err-enter : goal.returns-in_err-enter
returns-in_err-enter g c =
    absurd
    (not_both c.in_err-enter.ensures.answered
    (rw (c.from.ensures, c.from-2.ensures)
    (entry_passes (g.R.Register.shows c.args.register.now) c.args.place c.args.entry (sym c.in_ok-payable.ensures))))
