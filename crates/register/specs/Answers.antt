-- When an entry and a transfer are refused, and what they leave.
use Rattle.std.specs.Prelude.{◌≡◌, ℕ, ◌+◌, not, ◌&&◌, ◌||◌, is_ok, Ok, Result, ◌==◌, nat_le, nat_lt, if◌then◌else◌}
use Rattle.register.specs.Holdings.{Holdings, limit, raised, lowered, moved}
use Rattle.register.specs.Entry.{room_for, holdings_after}
use Rattle.register.specs.declared.entry.Entry.{Entry}
use Rattle.register.specs.declared.entry.Entry.TheVariants.{Put as putting, Take as taking}
use Rattle.register.specs.declared.refusal.Refusal.{Refusal}
use Rattle.register.specs.declared.refusal.Refusal.TheVariants.{UnknownKind, UnknownAccount, HoldsLess, OverLimit}
pub use Rattle.register.specs.Refusals.{refusal_number, refuses}

-- refused where the kind or the account is not shown, else answered as r says
abbrev pub unless_unknown : {A : Type 0} → Holdings → ℕ → ℕ → Result A Refusal → Result A Refusal
unless_unknown h k a r = refuses (nat_le h.kinds k) UnknownKind (refuses (nat_le h.accounts a) UnknownAccount r)

-- whether a kind and an account are shown
abbrev pub known_answer : Holdings → ℕ → ℕ → Result Unit Refusal
known_answer h k a = unless_unknown h k a (Ok tt)

-- what is answered to an entry
abbrev pub entry_answer : Holdings → ℕ → ℕ → Entry → Result Unit Refusal
entry_answer h k a e = unless_unknown h k a (room_for (h.amount k a) e)

-- .. to an amount put
abbrev pub put_answer : Holdings → ℕ → ℕ → ℕ → Result Unit Refusal
put_answer h k a n = entry_answer h k a (putting n)

-- .. to an amount taken
abbrev pub take_answer : Holdings → ℕ → ℕ → ℕ → Result Unit Refusal
take_answer h k a n = entry_answer h k a (taking n)

-- what is answered to a transfer
abbrev pub transfer_answer : Holdings → ℕ → ℕ → ℕ → ℕ → Result Unit Refusal
transfer_answer h k from to n =
    refuses (nat_le h.kinds k) UnknownKind
    (refuses (nat_le h.accounts from || nat_le h.accounts to) UnknownAccount
    (refuses (nat_lt (h.amount k from) n) HoldsLess
    (refuses (not (from == to) && nat_lt limit (h.amount k to + n)) OverLimit (Ok tt))))

-- what a call promises: the answer r, and what it leaves, which is done where it was accepted and before where it was refused
pub record Changed {A E X : Type 0} (before : X) (answer : Result A E) (done : X) (r : Result A E) (left : X) : Type 0 where
  pub answered : r ≡ answer
  pub after : left ≡ if is_ok answer then done else before

-- what an entry promises
abbrev pub Enters : Holdings → ℕ → ℕ → Entry → Result Unit Refusal → Holdings → Type 0
Enters h k a e = Changed h (entry_answer h k a e) (holdings_after h k a e)

-- what put promises
abbrev pub Put : Holdings → ℕ → ℕ → ℕ → Result Unit Refusal → Holdings → Type 0
Put h k a n = Changed h (put_answer h k a n) (raised h k a n)

-- what take promises
abbrev pub Taken : Holdings → ℕ → ℕ → ℕ → Result Unit Refusal → Holdings → Type 0
Taken h k a n = Changed h (take_answer h k a n) (lowered h k a n)

-- what transfer promises
abbrev pub Transferred : Holdings → ℕ → ℕ → ℕ → ℕ → Result Unit Refusal → Holdings → Type 0
Transferred h k from to n = Changed h (transfer_answer h k from to n) (moved h k from to n)
