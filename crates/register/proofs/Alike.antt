-- When two holdings are the same.
use Rattle.std.proofs.Common.{◌≡◌, ℕ}
use mathlib.Core.Path.{fun_ext}
use Rattle.register.specs.Holdings.{Holdings}

-- holdings with the same kinds, accounts and amounts
pub same_holdings : {h h' : Holdings} → h.kinds ≡ h'.kinds → h.accounts ≡ h'.accounts →
    ((k a : ℕ) → h.amount k a ≡ h'.amount k a) → h ≡ h'
same_holdings kinds accounts amounts = λ i. record {
  kinds = kinds i;
  accounts = accounts i;
  amount = fun_ext (λ k. fun_ext (amounts k)) i;
}
