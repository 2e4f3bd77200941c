-- Numbers as bytes, the most significant byte first.
use Rattle.std.specs.Prelude.{ℕ, List, take, drop}
use Rattle.std.specs.Int.{Width, byte_len, from_be_bytes}

-- the number that the bytes from a place on write, as many as its width has
abbrev pub number_at : Width → ℕ → List ℕ → ℕ
number_at w place bytes = from_be_bytes w (take (byte_len w) (drop place bytes))
