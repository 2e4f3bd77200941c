-- Setting terms.
use Rattle.std.specs.Prelude.{ℕ, Bool, ◌&&◌, List, [], ◌∷◌, is_some, nat_le, nat_lt}
use Rattle.std.specs.Option.{option_map_or}
use Rattle.fault.specs.declared.fault.Fault.TheVariants.{UnknownMember, TermsCategory, TermsCustodian}
use Rattle.fault.specs.Questions.{Question, ask}
use Rattle.movement.specs.declared.terms.Setting.{Setting}
use Rattle.movement.specs.Letters.{category_of}
use Rattle.movement.specs.Agreed.{Agreed, member_known, with_terms}

-- account 0 is the depository's own
abbrev pub participant_known : ℕ → ℕ → Bool
participant_known accounts a = nat_le 1 a && nat_lt a accounts

-- the member is one, the category is known, both custodians are participants
abbrev pub terms_questions : ℕ → Setting → List Question
terms_questions accounts t =
    ask (member_known t.member) UnknownMember
    ∷ (ask (is_some (category_of t.category)) TermsCategory
    ∷ (ask (participant_known accounts t.securities && participant_known accounts t.cash) TermsCustodian
    ∷ []))

-- the terms with the category set, if it is known
abbrev pub terms_after : Agreed → Setting → Agreed
terms_after a t = option_map_or (λ c. with_terms a t.member c (t.securities, t.cash)) (category_of t.category) a
