-- The questions of one side of a trade, once its category and its terms are known.
use Rattle.std.proofs.Common.{◌≡◌, ℕ, ◌∷◌, is_some, Some, ap, ◌∙◌}
use Rattle.std.specs.Option.{option_and_then, unwrap_or}
use Rattle.fault.specs.declared.fault.Fault.TheVariants.{UnknownCategory, NoTerms}
use Rattle.fault.specs.Questions.{ask, asked}
use Rattle.movement.specs.declared.category.Category.{Category}
use Rattle.movement.specs.declared.trade.TradeSide.{TradeSide}
use Rattle.movement.specs.Letters.{category_of}
use Rattle.movement.specs.Agreed.{Agreed, lookup}
use Rattle.movement.specs.Clearing.{clearing_questions, one_off_of}
use Rattle.movement.specs.Forming.{standard_pair, side_questions, formed, party_of}

module _ (t : Agreed) (accounts : ℕ) (side : TradeSide) {c : Category} {pair : ℕ × ℕ} (category : category_of side.category ≡ Some c) (terms : lookup t side.member c ≡ Some pair) where
  gives : standard_pair t side ≡ Some pair
  gives = ap (option_and_then (lookup t side.member)) category ∙ terms

  pub clearing_left : {A : Type 0} (v : A) → asked (side_questions t accounts side) v ≡ asked (clearing_questions accounts side.clearing) v
  clearing_left v =
      ap (λ o. asked (ask (is_some o) UnknownCategory ∷ (ask (is_some (standard_pair t side)) NoTerms ∷ clearing_questions accounts side.clearing)) v) category
      ∙ ap (λ o. asked (ask (is_some o) NoTerms ∷ clearing_questions accounts side.clearing) v) gives

  pub party_formed : party_of t side ≡ formed pair (one_off_of side.clearing)
  party_formed = ap (λ o. formed (unwrap_or o (0, 0)) (one_off_of side.clearing)) gives
