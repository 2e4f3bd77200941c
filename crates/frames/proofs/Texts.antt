-- What is written is read back.
use Rattle.std.proofs.Common.{◌≡◌, ℕ, ◌+◌, ◌*◌, ◌/◌, ◌%◌, ◌<◌, List, [], ◌∷◌, ◌++◌, length, get_or, take, Some, sym, refl, arith}
use Rattle.std.specs.List.{AllByRecursion}
use Rattle.std.proofs.lemmas.List.{flat_map_more, take_more}
use Rattle.std.proofs.lemmas.Bool.Decides.{nat_tests}
use Rattle.frames.specs.Hex.{RoundTrip, digit_value, hex_of, hex_text, letter_of, pairs}

-- the digit of a number stands for it
letter_value : (n : ℕ) → n < 16 → digit_value (letter_of n) ≡ Some n
letter_value n h = grind (arith, nat_tests)

length_text : (bytes : List ℕ) → length (hex_text bytes) ≡ 2 * length bytes
length_text [] = refl
length_text (b ∷ bytes) = let rest = length_text bytes in omega arith

pairs_text : (bytes : List ℕ) → AllByRecursion (λ b. b < 256) bytes → pairs (hex_text bytes) ≡ Some bytes
pairs_text [] h = refl
pairs_text (b ∷ bytes) h =
    let high : b / 16 < 16 = omega (arith, h.0) in
    let low : b % 16 < 16 = omega arith in
    let whole : b / 16 * 16 + b % 16 ≡ b = omega arith in
    rw (letter_value (b / 16) high, letter_value (b % 16) low, pairs_text bytes h.1, whole)

pub read_back : RoundTrip
read_back bytes small some few =
    let long = length_text bytes in
    let said = pairs_text bytes small in
    grind (arith, nat_tests)

-- one more byte is written
pub text_more : (front bytes : List ℕ) (i : ℕ)
    → i < length bytes
    → front ++ hex_text (take (i + 1) bytes) ≡ (front ++ hex_text (take i bytes)) ++ hex_of (get_or bytes i 0)
text_more front bytes i h = rw (take_more bytes i 0 h) (sym (flat_map_more hex_of front (take i bytes) (get_or bytes i 0)))
