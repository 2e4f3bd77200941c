-- The clearing field: four characters.
use Rattle.std.specs.Prelude.{ℕ, ◌+◌, ◌-◌, ◌*◌, Bool, if◌then◌else◌, ◌&&◌, ◌||◌, List, [], ◌∷◌, Some, None, Option, ◌==◌, nat_le, nat_lt, slice_index}
use Rattle.std.specs.Char.{is_ascii_digit}
use Rattle.fault.specs.declared.fault.Fault.TheVariants.{ClearingField, ClearingLetter, ClearingParticipant}
use Rattle.fault.specs.Questions.{Question, ask}

-- the character at a place of the field
abbrev pub character : List ℕ → ℕ → ℕ
character f i = slice_index f i

-- four spaces: no one-off terms
abbrev pub blank : List ℕ → Bool
blank f = character f 0 == 32 && (character f 1 == 32 && (character f 2 == 32 && character f 3 == 32))

-- a letter V, R or T and three digits
abbrev pub shaped : List ℕ → Bool
shaped f =
    (character f 0 == 86 || (character f 0 == 82 || character f 0 == 84))
    && (is_ascii_digit (character f 1) && (is_ascii_digit (character f 2) && is_ascii_digit (character f 3)))

-- the number that the digits write
abbrev pub digits : List ℕ → ℕ
digits f = 100 * (character f 1 - 48) + 10 * (character f 2 - 48) + (character f 3 - 48)

-- blank, or of that shape; unless blank: the letter is V, the digits name a participant
abbrev pub clearing_questions : ℕ → List ℕ → List Question
clearing_questions accounts f =
    ask (blank f || shaped f) ClearingField
    ∷ (ask (blank f || character f 0 == 86) ClearingLetter
    ∷ (ask (blank f || (nat_le 1 (digits f) && nat_lt (digits f) accounts)) ClearingParticipant
    ∷ []))

-- the participant of one-off terms, if there are any
abbrev pub one_off_of : List ℕ → Option ℕ
one_off_of f = if blank f then None else Some (digits f)
