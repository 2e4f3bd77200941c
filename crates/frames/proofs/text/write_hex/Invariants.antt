-- The digits of the bytes so far are written, and there is room for those of the others.
use Rattle.std.proofs.Common.{◌≡◌, ◌+◌, ◌*◌, ◌++◌, take, vec_items, vec_len, vec_capacity}
use Rattle.frames.specs.Hex.{hex_text}
use Rattle.frames.proofs.text.write_hex.Given as goal

abbrev pub invariant-loop-b : goal.invariant-loop-b
invariant-loop-b l =
    (vec_items l.out ≡ vec_items l.initial.out ++ hex_text (take l.b-index l.bytes))
    × (vec_len l.out ≡ vec_len l.initial.out + 2 * l.b-index)
    × (vec_capacity l.out ≡ vec_capacity l.initial.out)
