use Rattle.std.proofs.Common.{◌≡◌, ◌-◌, ⊎_elim, rules, arith}
use Rattle.std.proofs.lemmas.Bool.{cases_eq}
use Rattle.netting.proofs.package.Package.last_taker.Goals as goal

pub loop-i-preserved : goal.loop-i-preserved
loop-i-preserved c k above below =
    ⊎_elim
    (λ (q : k ≡ c.loop-i.i - 1). search rules)
    (λ (q : k ≡ c.loop-i.i - 1 → ⊥). c.loop-i.invariant k (omega arith) below)
    (cases_eq k (c.loop-i.i - 1))
