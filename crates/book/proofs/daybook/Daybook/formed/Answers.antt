use Rattle.std.proofs.Common.{sym}
use Rattle.std.proofs.lemmas.Result.{err_from_is_err_and}
use Rattle.book.specs.Books.{daily_of}
use Rattle.book.proofs.Trades.{refused_first, refused_then, refused_last, formed_last}
use Rattle.book.proofs.daybook.Daybook.formed.Goals as goal

pub returns-in_err-class-clause-formed : goal.returns-in_err-class-clause-formed
returns-in_err-class-clause-formed c =
    let p = err_from_is_err_and c.from_residual.result c.from_residual.ensures.1 in
    rw (p.1, p.2) (sym (refused_first (daily_of c.args.self.now) c.args.trade (sym c.in_err-class.ensures)))

pub returns-in_err-movement-clause-formed : goal.returns-in_err-movement-clause-formed
returns-in_err-movement-clause-formed c =
    let p = err_from_is_err_and c.from_residual-in_err-movement.result c.from_residual-in_err-movement.ensures.1 in
    rw (p.1, p.2) (sym (refused_then (daily_of c.args.self.now) c.args.trade (sym c.in_ok-class.ensures) (sym c.in_err-movement.ensures)))

pub returns-in_err-ask-clause-formed : goal.returns-in_err-ask-clause-formed
returns-in_err-ask-clause-formed c =
    let p = err_from_is_err_and c.from_residual-in_err-ask.result c.from_residual-in_err-ask.ensures.1 in
    rw (p.1, p.2)
    (sym
    (refused_last (daily_of c.args.self.now) c.args.trade (sym c.in_ok-class.ensures) (sym c.in_ok-movement.ensures)
    (rw c.len.ensures.value at (sym c.in_err-ask.ensures))))

pub returns-clause-formed : goal.returns-clause-formed
returns-clause-formed c =
    sym
    (formed_last (daily_of c.args.self.now) c.args.trade (sym c.in_ok-class.ensures) (sym c.in_ok-movement.ensures)
    (rw c.len.ensures.value at (sym c.in_ok-ask.ensures)))
