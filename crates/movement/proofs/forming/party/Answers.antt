use Rattle.std.proofs.Common.{◌≡◌, Ok, Some, sym, ap, ◌∙◌, rules}
use Rattle.std.proofs.lemmas.Result.{err_from_is_err_and}
use Rattle.fault.proofs.Asking.{asked_fault, asked_value}
use Rattle.movement.specs.Agreed.{lookup}
use Rattle.movement.specs.Letters.{category_of}
use Rattle.movement.specs.Clearing.{clearing_questions, one_off_of}
use Rattle.movement.specs.Forming.{formed, party_of}
use Rattle.movement.specs.Terms.{agreed}
use Rattle.movement.proofs.Sides.{clearing_left, party_formed}
use Rattle.movement.proofs.forming.party.Goals as goal

pub returns-in_err-one_off : goal.returns-in_err-one_off
returns-in_err-one_off c =
    let t = agreed c.args.terms.now in
    let side = c.args.side in
    let accounts = c.args.accounts in
    let category : category_of side.category ≡ Some c.in_ok-category.category = search rules in
    let terms : lookup t side.member c.in_ok-category.category ≡ Some c.in_ok-standard.standard = search rules in
    let p = err_from_is_err_and c.from_residual-in_err-one_off.result c.from_residual-in_err-one_off.ensures.1 in
    rw (p.1, p.2)
    (sym
    (clearing_left t accounts side category terms (party_of t side)
    ∙ asked_fault (clearing_questions accounts side.clearing) (one_off_of side.clearing) (party_of t side) (search rules)))

pub returns : goal.returns
returns c =
    let t = agreed c.args.terms.now in
    let side = c.args.side in
    let accounts = c.args.accounts in
    let category : category_of side.category ≡ Some c.in_ok-category.category = search rules in
    let terms : lookup t side.member c.in_ok-category.category ≡ Some c.in_ok-standard.standard = search rules in
    let value = asked_value (clearing_questions accounts side.clearing) (one_off_of side.clearing) (party_of t side) {x = c.in_ok-one_off.one_off} (search rules) in
    ap Ok (c.party_with.ensures ∙ ap (formed c.in_ok-standard.standard) (sym value.0) ∙ sym (party_formed t accounts side category terms))
    ∙ sym (clearing_left t accounts side category terms (party_of t side) ∙ value.1)
