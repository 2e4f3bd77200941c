-- The terms that members have set: for each member and category a pair of custodians, of securities and of cash.
use Rattle.std.specs.Prelude.{ℕ, Bool, if◌then◌else◌, ◌&&◌, Some, None, Option, ◌==◌, nat_le}
use Rattle.std.specs.Option.{option_or}
use Rattle.movement.specs.declared.category.Category.{Category}
use Rattle.movement.specs.declared.category.Category.TheVariants.{Main}
use Rattle.movement.specs.Letters.{row}
use Rattle.movement.specs.Limits.{members}

-- what each member has set for each category, if anything
abbrev pub Agreed : Type 0
Agreed = ℕ → Category → Option (ℕ × ℕ)

-- no terms are set yet
abbrev pub none_agreed : Agreed
none_agreed m c = None

-- members are numbered from 1
abbrev pub member_known : ℕ → Bool
member_known m = nat_le 1 m && nat_le m members

-- one category of one member set
-- Stays: the new form is no plainer: `==` in definitions is of numbers, and a category's row tells which it is.
abbrev pub with_terms : Agreed → ℕ → Category → (ℕ × ℕ) → Agreed
with_terms t m c p = λ n d. if n == m && row d == row c then Some p else t n d

-- the custodians of a member's category, of main where the category was never set
abbrev pub lookup : Agreed → ℕ → Category → Option (ℕ × ℕ)
lookup t m c = if member_known m then option_or (t m c) (t m Main) else None
