use Rattle.std.proofs.Common.{◌≡◌, true, [], ◌∷◌, ◌++◌, Ok, sym, refl, ap, ◌∙◌, arith}
use Rattle.std.proofs.lemmas.Result.{err_from_is_err_and}
use Rattle.fault.specs.Questions.{first_no}
use Rattle.fault.proofs.Asking.{asked_fault, asked_value, accepted, refused, unless_none}
use Rattle.movement.specs.Bounds.{all_fit, movement_fits}
use Rattle.movement.specs.Terms.{accounts_of}
use Rattle.movement.proofs.Fitting.{fit_push}
use Rattle.book.specs.Books.{daily_of}
use Rattle.book.specs.Daily.{trade_questions, traded, with_movements}
use Rattle.book.proofs.Ordering.{rising_push}
use Rattle.book.proofs.Trades.{trade_fits, trade_rises}
use Rattle.book.proofs.daybook.Daybook.trade.Goals as goal

pub returns-in_err-movement : goal.returns-in_err-movement
returns-in_err-movement c =
    let d = daily_of c.args.self.now in
    let p = err_from_is_err_and c.from_residual.result c.from_residual.ensures.1 in
    refused c.from_residual.result (rw p.2 at p.1)
    (asked_fault (trade_questions d c.args.trade) (traded d c.args.trade) tt (sym c.in_err-movement.ensures.formed))

pub invariant_of-self : goal.invariant_of-self
invariant_of-self c =
    let self = c.args.self.now in
    let d = daily_of self in
    let formed = sym c.in_ok-movement.ensures.formed in
    let same = (asked_value (trade_questions d c.args.trade) (traded d c.args.trade) (traded d c.args.trade) formed).0 in
    let passed = (unless_none (first_no (trade_questions d c.args.trade)) (Ok (traded d c.args.trade)) _ formed).0 in
    let fits : movement_fits (accounts_of self.terms) self.kinds c.in_ok-movement.movement ≡ true =
    ap (movement_fits (accounts_of self.terms) self.kinds) (sym same) ∙ trade_fits d c.args.trade self.terms.fit passed in
    let after : all_fit (accounts_of self.terms) self.kinds c.push.new.self.items ≡ true =
    ap (all_fit (accounts_of self.terms) self.kinds) c.push.ensures.items
    ∙ fit_push (accounts_of self.terms) self.kinds self.movements.items c.in_ok-movement.movement self.bounds fits in
    record {
      bounds = after;
      rising = rw c.push.ensures.items
          (rising_push self.highest c.args.trade.number self.movements.items c.in_ok-movement.movement (ap (λ m. m.number) (sym same)) (trade_rises d c.args.trade passed) self.rising);
      few = let room = c.in_ok-movement.ensures.room refl in let longer = c.push.ensures.len in omega arith;
    }

pub returns : goal.returns
returns c =
    let d = daily_of c.args.self.now in
    let value = asked_value (trade_questions d c.args.trade) (traded d c.args.trade) tt (sym c.in_ok-movement.ensures.formed) in
    accepted value.1
    (ap (with_movements d c.args.trade.number) (c.push.ensures.items ∙ ap (λ m. c.args.self.now.movements.items ++ (m ∷ [])) (sym value.0)))
