-- Registers in which nothing stands.
use Rattle.std.proofs.Common.{◌≡◌, ℕ, ◌+◌, ◌*◌, ◌<◌, ◌≤◌, ◌&&◌, Bool, cond, min, nat_lt, List, length, get_or, replicate, refl, ap, ◌∙◌, arith}
use Rattle.std.proofs.Math.Nat.{mul-div_cancel_left}
use Rattle.std.proofs.lemmas.Bool.{cond_both}
use Rattle.std.proofs.lemmas.Bool.Decides.{nat_tests}
use Rattle.std.proofs.lemmas.List.{length-replicate, get_or-replicate}
use Rattle.register.specs.Holdings.{most, zero_holdings}
use Rattle.register.specs.Joined.{joined_holdings}
use Rattle.register.specs.Rows.{stride, place, laid}
use Rattle.register.proofs.Alike.{same_holdings}
use Rattle.register.proofs.Places.{place_within}

-- an amount that is 0 either way
none_either_way : (b : Bool) (n : ℕ) → (b ≡ Bool.true → n ≡ 0) → cond b n 0 ≡ 0
none_either_way b n none = cond_both b n 0 (λ m. m ≡ 0) none (λ _. refl)

-- as many rows as there are kinds and accounts, each of which counts for nothing, show nothing
pub zero_rows : {X : Type 0} (counts : X → ℕ) (none each : X) (kinds accounts : ℕ) (rows : List X) → counts each ≡ 0 → rows ≡ replicate (kinds * accounts) each →
    0 < kinds → kinds ≤ most → accounts ≤ most → laid kinds rows counts none ≡ zero_holdings kinds accounts
zero_rows counts none each kinds accounts rows nothing same some few_kinds few_accounts =
    let long : length rows ≡ kinds * accounts = rw (same, length-replicate (kinds * accounts) each) in
    let wide : stride kinds rows ≡ accounts = rw (long, mul-div_cancel_left accounts some) in
    same_holdings (omega arith) (omega arith) (λ k a.
    none_either_way (nat_lt k (min kinds most) && nat_lt a (min (stride kinds rows) most)) _ (λ shown.
    let within = place_within kinds rows k a (grind (arith, nat_tests)) in
    let read : get_or rows (place kinds rows k a) none ≡ each = ap (λ xs. get_or xs (place kinds rows k a) none) same ∙ get_or-replicate (kinds * accounts) _ each none (omega arith) in
    rw read nothing))

-- two registers in which nothing stands, shown as one
pub joined_zero : (kinds kinds' accounts accounts' : ℕ) →
    joined_holdings (zero_holdings kinds accounts) (zero_holdings kinds' accounts') ≡ zero_holdings (min (kinds + kinds') most) (min accounts accounts')
joined_zero kinds kinds' accounts accounts' = same_holdings refl refl (λ k a.
    none_either_way (nat_lt k (min (kinds + kinds') most) && nat_lt a (min accounts accounts')) _ (λ _. none_either_way (nat_lt k kinds) 0 (λ _. refl)))
