use Rattle.cases.proofs.Calling.{accepted, pays, seller_agrees, buyer_agrees, sells, tells, enters}
use Rattle.cases.proofs.caller.sell.Goals as goal

pub returns-in_err-pay_in : goal.returns-in_err-pay_in
returns-in_err-pay_in c = accepted (pays c.requires c.pay_in.ensures).0 c.in_err-pay_in.was

pub returns-in_err-set_terms : goal.returns-in_err-set_terms
returns-in_err-set_terms c =
    let paid = pays c.requires c.pay_in.ensures in
    accepted (seller_agrees paid.1 c.set_terms.ensures).0 c.in_err-set_terms.was

pub returns-in_err-set_terms-2 : goal.returns-in_err-set_terms-2
returns-in_err-set_terms-2 c =
    let paid = pays c.requires c.pay_in.ensures in
    let seller = seller_agrees paid.1 c.set_terms.ensures in
    accepted (buyer_agrees seller.1 c.set_terms-2.ensures).0 c.in_err-set_terms-2.was

pub returns-in_err-trade : goal.returns-in_err-trade
returns-in_err-trade c =
    let paid = pays c.requires c.pay_in.ensures in
    let seller = seller_agrees paid.1 c.set_terms.ensures in
    let buyer = buyer_agrees seller.1 c.set_terms-2.ensures in
    accepted (sells buyer.1 c.trade.ensures).0 c.in_err-trade.was

pub returns : goal.returns
returns c =
    let paid = pays c.requires c.pay_in.ensures in
    let seller = seller_agrees paid.1 c.set_terms.ensures in
    let buyer = buyer_agrees seller.1 c.set_terms-2.ensures in
    let sale = sells buyer.1 c.trade.ensures in
    record { told = tells sale.1 c.tell.ensures; entered = enters sale.1 }
