-- Two registers shown as one.
use Rattle.std.specs.Prelude.{◌≡◌, ℕ, ◌+◌, ◌-◌, min, ◌&&◌, is_ok, Result, nat_le, nat_lt, if◌then◌else◌}
use Rattle.register.specs.Holdings.{Holdings, most}
use Rattle.register.specs.declared.refusal.Refusal.{Refusal}
use Rattle.register.specs.declared.joined.Joined.{Joined}

module _ (f s : Holdings) where
  -- the kinds of the first, then those of the second, as many as may be shown
  abbrev pub joined_kinds : ℕ
  joined_kinds = min (f.kinds + s.kinds) most

  -- the accounts that both have
  abbrev pub joined_accounts : ℕ
  joined_accounts = min f.accounts s.accounts

  -- what the two show as one
  abbrev pub joined_holdings : Holdings
  joined_holdings = record {
    kinds = joined_kinds;
    accounts = joined_accounts;
    amount = λ k a.
        if nat_lt k joined_kinds && nat_lt a joined_accounts
        then (if nat_lt k f.kinds then f.amount k a else s.amount (k - f.kinds) a)
        else 0;
  }

  -- what a call leaves of the parts: the one that has the kind is changed where the call was answered, the other is not
  pub record PartsLeft (change : Holdings → ℕ → Holdings) (k : ℕ) (r : Result Unit Refusal) (f' s' : Holdings) : Type 0 where
    pub first : f' ≡ if is_ok r && nat_lt k f.kinds then change f k else f
    pub second : s' ≡ if is_ok r && nat_le f.kinds k then change s (k - f.kinds) else s

-- the first of the two registers, and the second
abbrev pub first_of : {S C : Type 0} → Joined S C → S
first_of j = j.first

abbrev pub second_of : {S C : Type 0} → Joined S C → C
second_of j = j.second

-- what a joined register shows, by what its parts show
abbrev pub joined_shows : {S C : Type 0} → (S → Holdings) → (C → Holdings) → Joined S C → Holdings
joined_shows first second j = joined_holdings (first (first_of j)) (second (second_of j))
