-- The legs of a movement, and when it may be tried.
use Rattle.std.specs.Prelude.{ℕ, Bool, ◌&&◌, nat_le}
use Rattle.movement.specs.declared.movement.Movement.{Movement}

-- the securities leg goes from the seller's custodian of securities to the buyer's
abbrev pub giver : Movement → ℕ
giver m = m.seller.securities

-- .. whom they reach
abbrev pub receiver : Movement → ℕ
receiver m = m.buyer.securities

-- the cash leg goes from the buyer's custodian of cash to the seller's
abbrev pub payer : Movement → ℕ
payer m = m.buyer.cash

-- .. whom it reaches
abbrev pub payee : Movement → ℕ
payee m = m.seller.cash

-- giver and payer have consented; receivers need not
abbrev pub ready : Movement → Bool
ready m = m.seller.consented && m.buyer.consented

-- the day of settlement is today or earlier
abbrev pub due : ℕ → Movement → Bool
due today m = nat_le m.day today
