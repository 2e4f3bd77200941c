use Rattle.std.proofs.Common.{◌≡◌, ℕ, ◌<◌, ◌≤◌, false, length}
use Rattle.netting.specs.Held.{is_taker}
use Rattle.netting.proofs.package.Package.last_taker.Given as goal

abbrev pub invariant-loop-i : goal.invariant-loop-i
invariant-loop-i l = (k : ℕ) → l.i ≤ k → k < length l.self.movements → is_taker l.self l.place k ≡ false
