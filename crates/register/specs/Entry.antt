-- What an entry asks of a held amount, and what it leaves of it.
use Rattle.std.specs.Prelude.{ℕ, ◌+◌, ◌-◌, Ok, Result, nat_lt}
use Rattle.register.specs.Holdings.{Holdings, limit, with_amount}
use Rattle.register.specs.Refusals.{refuses}
use Rattle.register.specs.declared.entry.Entry.{Entry}
use Rattle.register.specs.declared.entry.Entry.TheVariants.{Put, Take}
use Rattle.register.specs.declared.refusal.Refusal.{Refusal}
use Rattle.register.specs.declared.refusal.Refusal.TheVariants.{HoldsLess, OverLimit}

-- nothing is put past the limit, and no more is taken than is held
abbrev pub room_for : ℕ → Entry → Result Unit Refusal
room_for held (Put n) = refuses (nat_lt limit (held + n)) OverLimit (Ok tt)
room_for held (Take n) = refuses (nat_lt held n) HoldsLess (Ok tt)

-- the amount that an entry leaves
abbrev pub amount_after : ℕ → Entry → ℕ
amount_after held (Put n) = held + n
amount_after held (Take n) = held - n

-- the holdings that an entry on one account leaves
abbrev pub holdings_after : Holdings → ℕ → ℕ → Entry → Holdings
holdings_after h k a e = with_amount h k a (amount_after (h.amount k a) e)
