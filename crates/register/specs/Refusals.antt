-- Why a register refuses an entry, and by which number.
use Rattle.std.specs.Prelude.{ℕ, Bool, Err, Result, if◌then◌else◌}
use Rattle.register.specs.declared.refusal.Refusal.{Refusal}
use Rattle.register.specs.declared.refusal.Refusal.TheVariants.{UnknownKind, UnknownAccount, HoldsLess, OverLimit}

-- the number of each refusal
abbrev pub refusal_number : Refusal → ℕ
refusal_number UnknownKind = 91
refusal_number UnknownAccount = 92
refusal_number HoldsLess = 93
refusal_number OverLimit = 94

-- refused by e where b holds, else answered as r says
abbrev pub refuses : {A : Type 0} → Bool → Refusal → Result A Refusal → Result A Refusal
refuses b e r = if b then Err e else r
