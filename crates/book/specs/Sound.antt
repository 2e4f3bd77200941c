-- What the questions of a passed opening go on to say of a book.
use Rattle.std.specs.Prelude.{◌≡◌, ℕ, ◌<◌, ◌≤◌, None}
use Rattle.register.specs.Holdings.{Holdings, limit, total}
use Rattle.movement.specs.Limits.{most_accounts, most_securities, currencies}
use Rattle.book.specs.State.{State}

-- no kind's sum over all accounts passes the limit
abbrev pub SumsFit : Holdings → Type 0
SumsFit h = (k : ℕ) → k < h.kinds → total h k ≤ limit

-- a register shows so many accounts and kinds, and its sums fit
pub record FitsBook (accounts kinds : ℕ) (h : Holdings) : Type 0 where
  pub same_accounts : h.accounts ≡ accounts
  pub same_kinds : h.kinds ≡ kinds
  pub sums : SumsFit h

-- a book of so many accounts and securities, and its registers
pub record IsOpen (accounts kinds : ℕ) (securities cash : Holdings) : Type 0 where
  pub some_accounts : 2 ≤ accounts
  pub few_accounts : accounts ≤ most_accounts
  pub some_kinds : 1 ≤ kinds
  pub few_kinds : kinds ≤ most_securities
  pub securities_fit : FitsBook accounts kinds securities
  pub cash_fits : FitsBook accounts currencies cash

-- the opening failed, or what it asked still holds
abbrev pub IsSound : State → Type 0
IsSound s = s.failed ≡ None → IsOpen s.daily.accounts s.daily.kinds s.securities s.cash
