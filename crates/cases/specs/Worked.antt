-- Worked cases: what the rules answer to one call after a few others.
use Rattle.std.specs.Prelude.{◌≡◌, ℕ, zero, suc, List, [], ◌∷◌, ◌++◌, map, Ok, Err, codes, Result}
use Rattle.register.specs.Holdings.{zero_holdings}
use Rattle.fault.specs.declared.fault.Fault.{Fault}
use Rattle.fault.specs.Numbers.{fault_number}
use Rattle.movement.specs.declared.trade.TradeSide.{TradeSide}
use Rattle.book.specs.declared.place.Place.{Place}
use Rattle.book.specs.State.{State}
use Rattle.book.specs.Opening.{opened, opens_on}
use Rattle.history.specs.declared.call.Call.{Call}
use Rattle.history.specs.declared.call.Call.TheVariants.{PayIn, PayOut, Terms, Trade, Consent, Cancel, Tell}
use Rattle.history.specs.declared.call.Answer.{Answer}
use Rattle.history.specs.declared.call.Answer.TheVariants.{Done, Amount}
use Rattle.history.specs.Step.{answer, after}

-- the opening of every case: 4 securities, 2 currencies, 32 accounts, everything 0, day 0
abbrev pub at_first : State
at_first = opened (opens_on (zero_holdings 4 32) (zero_holdings 2 32) 0)

-- the state after calls, one after the other
abbrev pub after_all : State → List Call → State
after_all s [] = s
after_all s (c ∷ cs) = after_all (after s c) cs

-- the answer with the number of its fault
abbrev pub numbered : Result Answer Fault → Result Answer ℕ
numbered (Ok a) = Ok a
numbered (Err f) = Err (fault_number f)

-- the calls made before, the call, and what it gets
pub record WorkedCase : Type 0 where
  pub before : List Call
  pub call : Call
  pub gets : Result Answer ℕ

abbrev pub worked : List Call → Call → Result Answer ℕ → WorkedCase
worked before call gets = record { before = before; call = call; gets = gets }

-- what the rules answer to the call of a case
abbrev pub by_rules : WorkedCase → Result Answer ℕ
by_rules c = numbered (answer (after_all at_first c.before) c.call)

-- a member's terms for a category, by its letter: the custodians of securities and of cash
abbrev pub terms : ℕ → ℕ → ℕ → ℕ → Call
terms member category securities cash = Terms (record { member = member; category = category; securities = securities; cash = cash })

-- .. for main, by "-", and for clients, by "C"
abbrev pub main_terms : ℕ → ℕ → ℕ → Call
main_terms member = terms member 45

abbrev pub client_terms : ℕ → ℕ → ℕ → Call
client_terms member = terms member 67

-- member 1 has the custodians 1 and 2, member 2 has 3 and 4
abbrev pub both_terms : List Call
both_terms = main_terms 1 1 2 ∷ main_terms 2 3 4 ∷ []

abbrev pub blank_field : List ℕ
blank_field = codes "    "

-- a client of a member
abbrev pub client : ℕ → List ℕ → TradeSide
client member clearing = record { member = member; category = 67; clearing = clearing }

-- a client of member 1 sells to one of member 2 for 1 litas cent, today: the number, the quantity, the seller's clearing field
abbrev pub trade_cleared_by : ℕ → ℕ → List ℕ → Call
trade_cleared_by number quantity clearing =
    Trade (record {
      number = number;
      class = 67;
      security = 0;
      quantity = quantity;
      currency = 0;
      sum = 1;
      day = 0;
      seller = client 1 clearing;
      buyer = client 2 blank_field;
    })

abbrev pub trade_of : ℕ → Call
trade_of quantity = trade_cleared_by 1 quantity blank_field

abbrev pub trade_cleared : List ℕ → Call
trade_cleared clearing = trade_cleared_by 1 1 clearing

abbrev pub trade_numbered : ℕ → Call
trade_numbered number = trade_cleared_by number 1 blank_field

-- trades 1 to n
abbrev pub trades_to : ℕ → List Call
trades_to zero = []
trades_to (suc n) = trades_to n ++ (trade_numbered (suc n) ∷ [])

-- a security of an account
abbrev pub shares : ℕ → ℕ → Place
shares kind account = record { side = 0; kind = kind; account = account }

-- the quantity and the clearing field of a trade
abbrev pub fields : List WorkedCase
fields =
    worked both_terms (trade_of 0) (Err 23)
    ∷ worked both_terms (trade_of 1000000000000) (Ok Done)
    ∷ worked both_terms (trade_of 1000000000001) (Err 23)
    ∷ worked both_terms (trade_cleared (codes "V001")) (Ok Done)
    ∷ worked both_terms (trade_cleared (codes "V031")) (Ok Done)
    ∷ worked both_terms (trade_cleared (codes "V032")) (Err 31)
    ∷ worked both_terms (trade_cleared (codes "V000")) (Err 31)
    ∷ worked both_terms (trade_cleared (codes "R002")) (Err 30)
    ∷ worked both_terms (trade_cleared (codes "T002")) (Err 30)
    ∷ worked both_terms (trade_cleared (codes "v002")) (Err 29)
    ∷ worked both_terms (trade_cleared (codes "V2  ")) (Err 29)
    ∷ []

-- the number of a trade: a refused one does not use its number up, a cancelled one does
abbrev pub numbers : List WorkedCase
numbers =
    worked both_terms (trade_numbered 0) (Err 20)
    ∷ worked (both_terms ++ (trade_numbered 7 ∷ [])) (trade_numbered 7) (Err 20)
    ∷ worked (both_terms ++ (trade_numbered 7 ∷ [])) (trade_numbered 8) (Ok Done)
    ∷ worked (trade_numbered 7 ∷ both_terms) (trade_numbered 7) (Ok Done)
    ∷ worked (both_terms ++ (trade_numbered 7 ∷ Cancel 7 ∷ [])) (trade_numbered 7) (Err 20)
    ∷ worked (both_terms ++ (trade_numbered 7 ∷ Cancel 7 ∷ [])) (Cancel 7) (Err 50)
    ∷ []

-- a full book
abbrev pub fullness : List WorkedCase
fullness =
    worked (both_terms ++ trades_to 127) (trade_numbered 128) (Ok Done)
    ∷ worked (both_terms ++ trades_to 128) (trade_numbered 129) (Err 32)
    ∷ worked (both_terms ++ (trades_to 128 ++ (Cancel 1 ∷ []))) (trade_numbered 129) (Ok Done)
    ∷ []

-- the terms that a trade takes: as they stand when it is formed, of main where its category was never set
abbrev pub taken_terms : List WorkedCase
taken_terms =
    worked [] (trade_numbered 7) (Err 27)
    ∷ worked (both_terms ++ (trade_numbered 7 ∷ [])) (Consent 7 1) (Ok Done)
    ∷ worked (both_terms ++ (client_terms 1 5 6 ∷ trade_numbered 7 ∷ [])) (Consent 7 1) (Err 51)
    ∷ worked (both_terms ++ (client_terms 1 5 6 ∷ trade_numbered 7 ∷ [])) (Consent 7 5) (Ok Done)
    ∷ worked (both_terms ++ (trade_numbered 7 ∷ client_terms 1 5 6 ∷ [])) (Consent 7 1) (Ok Done)
    ∷ worked (both_terms ++ (trade_numbered 7 ∷ client_terms 1 5 6 ∷ [])) (Consent 7 5) (Err 51)
    ∷ worked [] (main_terms 1 1 31) (Ok Done)
    ∷ worked [] (main_terms 1 1 32) (Err 42)
    ∷ worked [] (main_terms 17 1 2) (Err 40)
    ∷ []

-- consent: of giver and payer, once
abbrev pub consents : List WorkedCase
consents =
    worked (both_terms ++ (trade_numbered 7 ∷ [])) (Consent 7 4) (Ok Done)
    ∷ worked (both_terms ++ (trade_numbered 7 ∷ [])) (Consent 7 2) (Err 51)
    ∷ worked (both_terms ++ (trade_numbered 7 ∷ [])) (Consent 8 1) (Err 50)
    ∷ worked (both_terms ++ (trade_numbered 7 ∷ Consent 7 1 ∷ [])) (Consent 7 1) (Err 52)
    ∷ worked (both_terms ++ (trade_cleared_by 7 1 (codes "V004") ∷ Consent 7 4 ∷ [])) (Consent 7 4) (Err 52)
    ∷ worked (both_terms ++ (trade_cleared_by 7 1 (codes "V004") ∷ [])) (Consent 7 1) (Err 51)
    ∷ []

-- pay in, pay out and tell
abbrev pub payments : List WorkedCase
payments =
    worked [] (PayIn (shares 3 31) 1000000000000) (Ok Done)
    ∷ worked [] (PayIn (shares 3 31) 1000000000001) (Err 13)
    ∷ worked [] (PayIn (shares 3 32) 1) (Err 12)
    ∷ worked [] (PayIn (shares 3 0) 1) (Err 12)
    ∷ worked [] (PayIn (shares 4 31) 1) (Err 11)
    ∷ worked (PayIn (shares 3 31) 5 ∷ []) (PayOut (shares 3 31) 6) (Err 15)
    ∷ worked (PayIn (shares 3 31) 5 ∷ PayOut (shares 3 31) 3 ∷ []) (Tell (shares 3 31)) (Ok (Amount 2))
    ∷ []

abbrev pub table : List WorkedCase
table = fields ++ numbers ++ fullness ++ taken_terms ++ consents ++ payments

-- the rules answer the call of each case by what the case has
abbrev pub WorkedCases : Type 0
WorkedCases = map by_rules table ≡ map (λ c. c.gets) table
