-- The bytes so far, and then those of what is left of the line, are the bytes of the whole line.
use Rattle.std.proofs.Common.{◌≡◌, ◌+◌, ◌*◌, length, take}
use Rattle.frames.specs.Hex.{pairs}
use Rattle.frames.proofs.Pairs.{after}
use Rattle.frames.proofs.line.paired.Given as goal

abbrev pub invariant-loop-rest : goal.invariant-loop-rest
invariant-loop-rest l =
    (length l.bytes ≡ 38)
    × (2 * l.len + length l.rest ≡ length l.line)
    × (after (take l.len l.bytes) (pairs l.rest) ≡ pairs l.line)

abbrev pub decreases-loop-rest : goal.decreases-loop-rest
decreases-loop-rest l = length l.rest
