-- What the terms of a book say.
use Rattle.std.specs.Prelude.{ℕ}
use Rattle.movement.specs.declared.terms.Terms.{Terms}
use Rattle.movement.specs.Agreed.{Agreed}
use Rattle.movement.specs.MemberRows.{agreed_in}

-- the terms that members have set
abbrev pub agreed : Terms → Agreed
agreed t = agreed_in t.rows

-- how many accounts the book has
abbrev pub accounts_of : Terms → ℕ
accounts_of t = t.accounts
