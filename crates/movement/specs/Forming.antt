-- Forming a movement from a trade.
use Rattle.std.specs.Prelude.{ℕ, true, false, List, ◌∷◌, is_some, Some, None, Option}
use Rattle.std.specs.Option.{option_and_then, unwrap_or}
use Rattle.fault.specs.declared.fault.Fault.TheVariants.{UnknownCategory, NoTerms}
use Rattle.fault.specs.Questions.{Question, ask}
use Rattle.movement.specs.declared.class.Class.{Class}
use Rattle.movement.specs.declared.movement.Movement.{Movement}
use Rattle.movement.specs.declared.party.Party.{Party}
use Rattle.movement.specs.declared.trade.Trade.{Trade}
use Rattle.movement.specs.declared.trade.TradeSide.{TradeSide}
use Rattle.movement.specs.Letters.{category_of}
use Rattle.movement.specs.Agreed.{Agreed, lookup}
use Rattle.movement.specs.Clearing.{clearing_questions, one_off_of}

-- the custodians that the terms give a side, if its category is known
abbrev pub standard_pair : Agreed → TradeSide → Option (ℕ × ℕ)
standard_pair t side = option_and_then (lookup t side.member) (category_of side.category)

-- the category is known, the member has terms for it, then what is asked of the clearing field
abbrev pub side_questions : Agreed → ℕ → TradeSide → List Question
side_questions t accounts side =
    ask (is_some (category_of side.category)) UnknownCategory
    ∷ (ask (is_some (standard_pair t side)) NoTerms
    ∷ clearing_questions accounts side.clearing)

-- the party with a standard pair: the participant of one-off terms has both duties
abbrev pub formed : ℕ × ℕ → Option ℕ → Party
formed pair None = record { securities = pair.0; cash = pair.1; standard = pair; one_off = false; consented = false }
formed pair (Some p) = record { securities = p; cash = p; standard = pair; one_off = true; consented = false }

-- the party of a side; the questions see to it that the terms give a pair
abbrev pub party_of : Agreed → TradeSide → Party
party_of t side = formed (unwrap_or (standard_pair t side) (0, 0)) (one_off_of side.clearing)

-- the movement of a trade, nobody having consented yet
abbrev pub movement_of : Agreed → Class → Trade → Movement
movement_of t class trade = record {
  number = trade.number;
  class = class;
  security = trade.security;
  quantity = trade.quantity;
  currency = trade.currency;
  sum = trade.sum;
  day = trade.day;
  seller = party_of t trade.seller;
  buyer = party_of t trade.buyer;
  late = false;
}
