-- The opening of a book.
use Rattle.std.specs.Prelude.{ℕ, Bool, ◌&&◌, List, [], ◌∷◌, Option, ◌==◌, nat_le}
use Rattle.std.specs.List.{list_all, range_with_len}
use Rattle.std.specs.Result.{result_unwrap_or}
use Rattle.register.specs.Holdings.{Holdings, limit, total}
use Rattle.fault.specs.declared.fault.Fault.TheVariants.{AccountCount, KindCount, OpeningSum, FirstDay}
use Rattle.fault.specs.declared.fault.Fault.{Fault}
use Rattle.movement.specs.Limits.{most_accounts, most_securities, currencies}
use Rattle.movement.specs.declared.half.Half.TheVariants.{Morning}
use Rattle.movement.specs.Agreed.{none_agreed}
use Rattle.book.specs.Daily.{Daily}
use Rattle.book.specs.State.{State}
use Rattle.fault.specs.Questions.{Question, ask, asked, first_no}

-- what a book opens on
pub record Opening : Type 0 where
  pub securities : Holdings
  pub cash : Holdings
  pub day : ℕ

abbrev pub opens_on : Holdings → Holdings → ℕ → Opening
opens_on securities cash day = record { securities = securities; cash = cash; day = day }

-- no kind's sum over all accounts passes 10^15
abbrev pub sums_within : Holdings → Bool
sums_within h = list_all (λ k. nat_le (total h k) limit) (range_with_len 0 h.kinds)

-- the last day on which a book can open
abbrev pub last_day : ℕ
last_day = 60000

-- from 2 to 32 accounts, as many in both registers
abbrev pub accounts_fit : Opening → Bool
accounts_fit o =
    o.securities.accounts == o.cash.accounts
    && (nat_le 2 o.securities.accounts && nat_le o.securities.accounts most_accounts)

-- from 1 to 16 securities, and 2 currencies
abbrev pub kinds_fit : Opening → Bool
kinds_fit o =
    nat_le 1 o.securities.kinds
    && (nat_le o.securities.kinds most_securities && o.cash.kinds == currencies)

abbrev pub opening_questions : Opening → List Question
opening_questions o =
    ask (accounts_fit o) AccountCount
    ∷ (ask (kinds_fit o) KindCount
    ∷ (ask (sums_within o.securities && sums_within o.cash) OpeningSum
    ∷ (ask (nat_le o.day last_day) FirstDay
    ∷ [])))

-- the first question that is answered no
abbrev pub failed_question : Opening → Option Fault
failed_question o = first_no (opening_questions o)

-- the numbers of accounts and of securities
abbrev pub sizes_of : Opening → ℕ × ℕ
sizes_of o = (o.securities.accounts, o.securities.kinds)

-- .. 0 where the opening failed
abbrev pub noted_sizes : Opening → ℕ × ℕ
noted_sizes o = result_unwrap_or (asked (opening_questions o) (sizes_of o)) (0, 0)

-- the first morning: no trade accepted, no terms set, nothing on the book
abbrev pub morning : ℕ → ℕ → ℕ → Daily
morning accounts kinds day = record {
  accounts = accounts;
  kinds = kinds;
  day = day;
  half = Morning;
  highest = 0;
  terms = none_agreed;
  movements = [];
}

abbrev pub first_morning : Opening → Daily
first_morning o = morning (noted_sizes o).0 (noted_sizes o).1 o.day

abbrev pub opened : Opening → State
opened o = record {
  failed = failed_question o;
  daily = first_morning o;
  securities = o.securities;
  cash = o.cash;
}
