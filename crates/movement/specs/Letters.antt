-- What the letters of a trade stand for.
use Rattle.std.specs.Prelude.{ℕ, [], ◌∷◌, Option, ◌==◌}
use Rattle.std.specs.List.{find}
use Rattle.movement.specs.declared.class.Class.{Class}
use Rattle.movement.specs.declared.class.Class.TheVariants.{Central, Direct}
use Rattle.movement.specs.declared.category.Category.{Category}
use Rattle.movement.specs.declared.category.Category.TheVariants.{Client, Own, MarketMaker, Issuer, Main}

-- C and D
abbrev pub class_letter : Class → ℕ
class_letter Central = 67
class_letter Direct = 68

-- the class of a letter
abbrev pub class_of : ℕ → Option Class
class_of letter = find (λ c. class_letter c == letter) (Central ∷ Direct ∷ [])

-- C, O, M, I and -
abbrev pub category_letter : Category → ℕ
category_letter Client = 67
category_letter Own = 79
category_letter MarketMaker = 77
category_letter Issuer = 73
category_letter Main = 45

-- the category of a letter
abbrev pub category_of : ℕ → Option Category
category_of letter = find (λ c. category_letter c == letter) (Client ∷ Own ∷ MarketMaker ∷ Issuer ∷ Main ∷ [])

-- the row of each category in a member's terms
abbrev pub row : Category → ℕ
row Client = 0
row Own = 1
row MarketMaker = 2
row Issuer = 3
row Main = 4
