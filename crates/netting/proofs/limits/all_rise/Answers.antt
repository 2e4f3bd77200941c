use Rattle.std.proofs.Common.{◌≡◌, ℕ, ◌+◌, ◌<◌, ◌↔◌, false, IsTrue, length, rules}
use Rattle.netting.specs.Limits.{falls}
use Rattle.netting.proofs.Within.{rising_is}
use Rattle.netting.proofs.limits.all_rise.Goals as goal

pub returns : goal.returns
returns c =
    let movements = c.args.movements.now in
    let decides : IsTrue c.all.result ↔ ((i : ℕ) → i + 1 < length movements → falls movements i ≡ false) = search rules in
    rising_is movements c.all.result decides
