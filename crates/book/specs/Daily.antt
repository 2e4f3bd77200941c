-- What a book keeps of its day, its members and its movements.
use Rattle.std.specs.Prelude.{ℕ, ◌+◌, Bool, false, not, ◌&&◌, ◌||◌, List, [], ◌∷◌, ◌++◌, length, is_some, Some, None, Option, ◌==◌, nat_le, nat_lt, find, remove, slice_set}
use Rattle.std.specs.List.{position_or_len}
use Rattle.std.specs.Option.{unwrap_or, option_map_or}
use Rattle.fault.specs.declared.fault.Fault.TheVariants.{TradeNumber, UnknownClass, UnknownSecurity, QuantityRange, UnknownCurrency, TradeSum, SettlementDay, BookFull, NotOnBook, NoDuty, AlreadyConsented, CancelTooLate}
use Rattle.fault.specs.Questions.{Question, ask}
use Rattle.movement.specs.declared.class.Class.{Class}
use Rattle.movement.specs.declared.class.Class.TheVariants.{Central}
use Rattle.movement.specs.declared.half.Half.{Half}
use Rattle.movement.specs.declared.movement.Movement.{Movement}
use Rattle.movement.specs.declared.terms.Setting.{Setting}
use Rattle.movement.specs.declared.trade.Trade.{Trade}
use Rattle.movement.specs.Letters.{class_of}
use Rattle.movement.specs.Agreed.{Agreed}
use Rattle.movement.specs.Bounds.{from_one_to}
use Rattle.movement.specs.Limits.{currencies, most_moved, most_movements}
use Rattle.movement.specs.Settings.{terms_after}
use Rattle.movement.specs.Forming.{side_questions, movement_of}
use Rattle.movement.specs.Consents.{has_duty, silent, consented, is_afternoon}

-- what a book keeps
pub record Daily : Type 0 where
  -- the numbers of accounts and of securities, 0 where the opening failed
  pub accounts : ℕ
  pub kinds : ℕ
  pub day : ℕ
  pub half : Half
  -- the highest trade number accepted
  pub highest : ℕ
  pub terms : Agreed
  -- the movements on the book
  pub movements : List Movement

-- other terms
abbrev pub with_agreed : Daily → Agreed → Daily
with_agreed d t = record d { terms = t }

-- other movements, and the highest number as given
abbrev pub with_movements : Daily → ℕ → List Movement → Daily
with_movements d n ms = record d { highest = n; movements = ms }

-- how far ahead a trade can settle
abbrev pub longest_wait : ℕ
longest_wait = 30

-- what is asked of a trade before its sides
abbrev pub basic_questions : Daily → Trade → List Question
basic_questions d t =
    ask (nat_le 1 t.number && nat_lt d.highest t.number) TradeNumber
    ∷ (ask (is_some (class_of t.class)) UnknownClass
    ∷ (ask (nat_lt t.security d.kinds) UnknownSecurity
    ∷ (ask (from_one_to most_moved t.quantity) QuantityRange
    ∷ (ask (nat_lt t.currency currencies) UnknownCurrency
    ∷ (ask (from_one_to most_moved t.sum) TradeSum
    ∷ (ask (nat_le d.day t.day && nat_le t.day (d.day + longest_wait)) SettlementDay
    ∷ []))))))

-- the seller's questions, then the buyer's
abbrev pub both_sides : Daily → Trade → List Question
both_sides d t = side_questions d.terms d.accounts t.seller ++ side_questions d.terms d.accounts t.buyer

abbrev pub room_left : Daily → List Question
room_left d = ask (nat_lt (length d.movements) most_movements) BookFull ∷ []

abbrev pub trade_questions : Daily → Trade → List Question
trade_questions d t = basic_questions d t ++ (both_sides d t ++ room_left d)

-- the class of a letter; the questions see to it that it is one
abbrev pub class_known : ℕ → Class
class_known letter = unwrap_or (class_of letter) Central

-- the movement that a trade forms by the terms as they stand
abbrev pub traded : Daily → Trade → Movement
traded d t = movement_of d.terms (class_known t.class) t

-- a trade entered: its movement is the newest, its number the highest
abbrev pub entered : Daily → Trade → Daily
entered d t = with_movements d t.number (d.movements ++ (traded d t ∷ []))

-- terms set
abbrev pub agreed_to : Daily → Setting → Daily
agreed_to d t = with_agreed d (terms_after d.terms t)

-- whether a movement has the number
abbrev pub has_number : ℕ → Movement → Bool
has_number n m = m.number == n

-- the movement of a number
abbrev pub on_book : ℕ → List Movement → Option Movement
on_book n ms = find (has_number n) ms

-- where it stands, or how many there are if there is none
abbrev pub place_of : ℕ → List Movement → ℕ
place_of n ms = position_or_len (has_number n) ms

-- the movements without that of a number
abbrev pub without : ℕ → List Movement → List Movement
without n ms = remove ms (place_of n ms)

-- the movements with that of a number changed
abbrev pub changed_at : ℕ → (Movement → Movement) → List Movement → List Movement
changed_at n f ms = option_map_or (λ m. slice_set ms (place_of n ms) (f m)) (on_book n ms) ms

-- a test of the movement of a number, if it is there
abbrev pub whether : (Movement → Bool) → Option Movement → Bool
whether test (Some m) = test m
whether test None = false

abbrev pub consent_questions : Daily → ℕ → ℕ → List Question
consent_questions d n p =
    ask (is_some (on_book n d.movements)) NotOnBook
    ∷ (ask (whether (λ m. has_duty m p) (on_book n d.movements)) NoDuty
    ∷ (ask (whether (λ m. silent m p) (on_book n d.movements)) AlreadyConsented
    ∷ []))

abbrev pub consented_to : Daily → ℕ → ℕ → Daily
consented_to d n p = with_movements d d.highest (changed_at n (λ m. consented m p d.half) d.movements)

abbrev pub is_morning : Half → Bool
is_morning half = not (is_afternoon half)

-- today is before the day of settlement, or its morning
abbrev pub cancellable : Daily → Movement → Bool
cancellable d m = nat_lt d.day m.day || (d.day == m.day && is_morning d.half)

abbrev pub cancel_questions : Daily → ℕ → List Question
cancel_questions d n =
    ask (is_some (on_book n d.movements)) NotOnBook
    ∷ (ask (whether (cancellable d) (on_book n d.movements)) CancelTooLate
    ∷ [])

abbrev pub cancelled : Daily → ℕ → Daily
cancelled d n = with_movements d d.highest (without n d.movements)
