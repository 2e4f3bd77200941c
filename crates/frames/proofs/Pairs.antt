-- Reading a line two digits at a time.
use Rattle.std.proofs.Common.{◌≡◌, ℕ, ◌-◌, ◌≤◌, List, [], ◌∷◌, ◌++◌, length, get_or, take, drop, Some, None, Option, refl, ap, append_assoc, arith}
use Rattle.std.specs.Option.{option_map}
use Rattle.std.proofs.lemmas.List.{take_rest}
use Rattle.frames.specs.Hex.{before, byte_of, digit_value, pairs}

-- a list, and then another if it is there
abbrev pub after : List ℕ → Option (List ℕ) → Option (List ℕ)
after front rest = option_map (λ bs. front ++ bs) rest

pub after_none : (rest : Option (List ℕ)) → after [] rest ≡ rest
after_none None = refl
after_none (Some bs) = refl

-- one more byte in front
after_push : (bytes : List ℕ) (b : ℕ) (rest : Option (List ℕ)) → after (bytes ++ b ∷ []) rest ≡ after bytes (before (Some b) rest)
after_push bytes b None = refl
after_push bytes b (Some bs) = ap (λ all. Some all) (append_assoc bytes (b ∷ []) bs)

-- the byte of the first two digits of what is left, after the bytes so far
pub next_byte : (bytes line : List ℕ) (b : ℕ) → 2 ≤ length line → byte_of (digit_value (get_or line 0 0)) (digit_value (get_or line 1 0)) ≡ Some b
    → after (bytes ++ b ∷ []) (pairs (take (length line - 2) (drop 2 line))) ≡ after bytes (pairs line)
next_byte bytes [] b two is = absurd (omega arith)
next_byte bytes (x ∷ []) b two is = absurd (omega arith)
next_byte bytes (x ∷ y ∷ line) b two is = rw (take_rest (x ∷ y ∷ line) 2, is) (after_push bytes b (pairs line))
