use Rattle.std.proofs.Common.{sym, ◌∙◌}
use Rattle.std.proofs.lemmas.Result.{err_from_is_err_and}
use Rattle.fault.proofs.Asking.{asked_stops, asked_goes, asked_fault, asked_value}
use Rattle.movement.specs.Forming.{movement_of, party_of, side_questions}
use Rattle.movement.specs.Terms.{agreed}
use Rattle.movement.proofs.forming.form_for.Goals as goal

pub returns-in_err-seller : goal.returns-in_err-seller
returns-in_err-seller c =
    let t = agreed c.args.terms.now in
    let trade = c.args.trade in
    let asked_of = side_questions t c.args.accounts in
    let p = err_from_is_err_and c.from_residual.result c.from_residual.ensures.1 in
    rw (p.1, p.2)
    (sym (asked_stops (asked_of trade.seller) (asked_of trade.buyer) (party_of t trade.seller) (movement_of t c.args.class trade) (sym c.in_err-seller.ensures)))

pub returns-in_err-buyer : goal.returns-in_err-buyer
returns-in_err-buyer c =
    let t = agreed c.args.terms.now in
    let trade = c.args.trade in
    let asked_of = side_questions t c.args.accounts in
    let whole = movement_of t c.args.class trade in
    let p = err_from_is_err_and c.from_residual-in_err-buyer.result c.from_residual-in_err-buyer.ensures.1 in
    rw (p.1, p.2)
    (sym
    (asked_goes (asked_of trade.seller) (asked_of trade.buyer) (party_of t trade.seller) whole (sym c.in_ok-seller.ensures)
    ∙ asked_fault (asked_of trade.buyer) (party_of t trade.buyer) whole (sym c.in_err-buyer.ensures)))

pub returns : goal.returns
returns c =
    let t = agreed c.args.terms.now in
    let trade = c.args.trade in
    let asked_of = side_questions t c.args.accounts in
    let whole = movement_of t c.args.class trade in
    let seller = asked_value (asked_of trade.seller) (party_of t trade.seller) whole (sym c.in_ok-seller.ensures) in
    let buyer = asked_value (asked_of trade.buyer) (party_of t trade.buyer) whole (sym c.in_ok-buyer.ensures) in
    let goes = asked_goes (asked_of trade.seller) (asked_of trade.buyer) (party_of t trade.seller) whole (sym c.in_ok-seller.ensures) in
    rw (← seller.0, ← buyer.0) (sym (goes ∙ buyer.1))
