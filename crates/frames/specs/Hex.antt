-- Hexadecimal digits: what each character stands for, and what a line of them says.
use Rattle.std.specs.Prelude.{◌≡◌, ℕ, ◌+◌, ◌-◌, ◌*◌, ◌/◌, ◌%◌, ◌<◌, ◌≤◌, Bool, ◌&&◌, List, [], ◌∷◌, length, Some, None, Option, ◌==◌, nat_lt, if◌then◌else◌}
use Rattle.std.specs.Int.{is_in_range}
use Rattle.std.specs.List.{flat_map, AllByRecursion}

-- the number that a character stands for: 0 to 9, A to F, a to f
abbrev pub digit_value : ℕ → Option ℕ
digit_value c =
    if is_in_range 48 57 c then Some (c - 48)
    else (if is_in_range 65 70 c then Some (c - 55)
    else (if is_in_range 97 102 c then Some (c - 87) else None))

-- what an entry of the table of digits says: a number below 16 is a digit's, any other no digit's
abbrev pub entry_value : ℕ → Option ℕ
entry_value v = if nat_lt v 16 then Some v else None

-- the byte of two digits, the first of which counts sixteen times
abbrev pub byte_of : Option ℕ → Option ℕ → Option ℕ
byte_of (Some high) (Some low) = Some (high * 16 + low)
byte_of (Some high) None = None
byte_of None low = None

-- a byte and then others, if all are there
abbrev pub before : Option ℕ → Option (List ℕ) → Option (List ℕ)
before (Some b) (Some bs) = Some (b ∷ bs)
before (Some b) None = None
before None bs = None

-- the bytes of a list of digits, two digits for each
abbrev pub pairs : List ℕ → Option (List ℕ)
pairs [] = Some []
pairs (a ∷ []) = None
pairs (a ∷ b ∷ rest) = before (byte_of (digit_value a) (digit_value b)) (pairs rest)

-- no line says more bytes
abbrev pub most_bytes : ℕ
most_bytes = 38

-- how many characters a line may have: an even number, for 1 to 38 bytes
abbrev pub has_right_length : ℕ → Bool
has_right_length n = is_in_range 2 (2 * most_bytes) n && n % 2 == 0

-- the bytes that a line says, if it is one of digits and of the right length
abbrev pub line_bytes : List ℕ → Option (List ℕ)
line_bytes line = if has_right_length (length line) then pairs line else None

-- the digit of a number below 16, a capital letter from ten on
abbrev pub letter_of : ℕ → ℕ
letter_of n = if nat_lt n 10 then 48 + n else 55 + n

-- the two digits of a byte
abbrev pub hex_of : ℕ → List ℕ
hex_of b = letter_of (b / 16) ∷ letter_of (b % 16) ∷ []

-- the digits of each byte, one byte after the other
abbrev pub hex_text : List ℕ → List ℕ
hex_text bytes = flat_map hex_of bytes

-- the law: what is written of 1 to 38 bytes is a line that says them
abbrev pub RoundTrip : Type 0
RoundTrip =
    (bytes : List ℕ) → AllByRecursion (λ b. b < 256) bytes → 1 ≤ length bytes → length bytes ≤ most_bytes
    → line_bytes (hex_text bytes) ≡ Some bytes
