-- The questions of a trade, asked in parts.
use Rattle.std.proofs.Common.{◌≡◌, ◌<◌, true, ltb, leb, ◌++◌, None, Ok, Err, Result, ap, ◌∙◌, arith}
use Rattle.std.proofs.lemmas.Bool.{and_from, and_parts}
use Rattle.std.proofs.lemmas.Bool.Decides.{nat_tests}
use Rattle.fault.specs.declared.fault.Fault.{Fault}
use Rattle.fault.specs.Questions.{asked, first_no, passes}
use Rattle.fault.proofs.Asking.{all_hold, asked_stops, asked_goes, asked_fault, asked_value, first_no_parts}
use Rattle.movement.specs.declared.class.Class.{Class}
use Rattle.movement.specs.declared.movement.Movement.{Movement}
use Rattle.movement.specs.declared.trade.Trade.{Trade}
use Rattle.movement.specs.Bounds.{TermsFit, from_one_to, movement_fits, party_fits}
use Rattle.movement.specs.Limits.{most_moved}
use Rattle.movement.specs.Forming.{movement_of, side_questions}
use Rattle.movement.proofs.Fitting.{party_fit}
use Rattle.book.specs.Daily.{Daily, basic_questions, both_sides, room_left, trade_questions, class_known, traded}

module _ (d : Daily) (t : Trade) where
  abbrev class_answer : Result Class Fault
  class_answer = asked (basic_questions d t) (class_known t.class)

  abbrev sides_answer : Class → Result Movement Fault
  sides_answer class = asked (both_sides d t) (movement_of d.terms class t)

  pub refused_first : {f : Fault} → class_answer ≡ Err f → asked (trade_questions d t) (traded d t) ≡ Err f
  refused_first e = asked_stops (basic_questions d t) (both_sides d t ++ room_left d) (class_known t.class) (traded d t) e

  module _ {class : Class} (known : class_answer ≡ Ok class) where
    sides_left : asked (trade_questions d t) (traded d t) ≡ asked (both_sides d t ++ room_left d) (traded d t)
    sides_left = asked_goes (basic_questions d t) (both_sides d t ++ room_left d) (class_known t.class) (traded d t) known

    pub refused_then : {f : Fault} → sides_answer class ≡ Err f → asked (trade_questions d t) (traded d t) ≡ Err f
    refused_then e = sides_left ∙ asked_stops (both_sides d t) (room_left d) (movement_of d.terms class t) (traded d t) e

    room_asked : {m : Movement} → sides_answer class ≡ Ok m → asked (trade_questions d t) (traded d t) ≡ asked (room_left d) (traded d t)
    room_asked e = sides_left ∙ asked_goes (both_sides d t) (room_left d) (movement_of d.terms class t) (traded d t) e

    pub refused_last : {m : Movement} → sides_answer class ≡ Ok m → {f : Fault} → passes (room_left d) ≡ Err f → asked (trade_questions d t) (traded d t) ≡ Err f
    refused_last e full = room_asked e ∙ asked_fault (room_left d) tt (traded d t) full

    pub formed_last : {m : Movement} → sides_answer class ≡ Ok m → passes (room_left d) ≡ Ok tt → asked (trade_questions d t) (traded d t) ≡ Ok m
    formed_last {m} e room =
        let same : class_known t.class ≡ class = (asked_value (basic_questions d t) (class_known t.class) (class_known t.class) known).0 in
        let made : movement_of d.terms class t ≡ m = (asked_value (both_sides d t) (movement_of d.terms class t) (traded d t) e).0 in
        room_asked e
        ∙ (asked_value (room_left d) tt (traded d t) room).1
        ∙ ap (λ x. Ok (movement_of d.terms x t)) same
        ∙ ap Ok made

-- a trade whose questions were passed forms a movement within its bounds
pub trade_fits : (d : Daily) (t : Trade) → TermsFit d.accounts d.terms → first_no (trade_questions d t) ≡ None → movement_fits d.accounts d.kinds (traded d t) ≡ true
trade_fits d t fit passed =
    let parts = first_no_parts (basic_questions d t) (both_sides d t ++ room_left d) passed in
    let sides = first_no_parts (both_sides d t) (room_left d) parts.1 in
    let each = first_no_parts (side_questions d.terms d.accounts t.seller) (side_questions d.terms d.accounts t.buyer) sides.0 in
    let basic = all_hold (basic_questions d t) parts.0 in
    let m = traded d t in
    let seller = party_fit d.accounts d.terms t.seller fit each.0 in
    let buyer = party_fit d.accounts d.terms t.buyer fit each.1 in
    and_from (leb 1 t.number) _ (and_parts (leb 1 t.number) (ltb d.highest t.number) basic.0).0
    (and_from (ltb t.security d.kinds) _ basic.1.1.0
    (and_from (from_one_to most_moved t.quantity) _ basic.1.1.1.0
    (and_from (ltb t.currency 2) _ basic.1.1.1.1.0
    (and_from (from_one_to most_moved t.sum) _ basic.1.1.1.1.1.0
    (and_from (party_fits d.accounts m.seller) (party_fits d.accounts m.buyer) seller buyer)))))

-- .. of a number above every one before
pub trade_rises : (d : Daily) (t : Trade) → first_no (trade_questions d t) ≡ None → d.highest < t.number
trade_rises d t passed = let all = all_hold (trade_questions d t) passed in grind (arith, nat_tests)
