-- Text that is cut into chunks.
use Rattle.std.proofs.Common.{◌≡◌, ℕ, zero, suc, eqb, List, [], ◌∷◌, ◌++◌, length, take, drop, map, sym, refl, ap, append_assoc, append-nil, suc-le-suc, zero-le, arith}
use Rattle.std.proofs.lemmas.List.{take-take}
use Rattle.std.proofs.lemmas.Bool.{false_from_ne_true}
use Rattle.std.proofs.lemmas.Bool.Decides.{nat_tests}
use Rattle.memchr.specs.Find.{NoneBefore, Nowhere, Passes, is_byte}
use Rattle.frames.specs.Hex.{line_bytes}
use Rattle.frames.specs.Sessions.{ChunksAlike, TextsAlike, last_line, lines, rest}
use Rattle.frames.specs.Stream.{kept}
use Rattle.frames.proofs.Streams.{cut_alike, kept_joined}

pub chunks_alike : ChunksAlike
chunks_alike p [] b = (refl, refl)
chunks_alike p (c ∷ a) b =
    let ended = chunks_alike [] a b in
    let longer = chunks_alike (p ++ (c ∷ [])) a b in
    (grind (arith, nat_tests), grind (arith, nat_tests))

-- ---- the first newline of a text

-- a newline is at place n
abbrev pub Newline : List ℕ → ℕ → Type 0
Newline = Passes (is_byte 10)

later : (c : ℕ) (cs : List ℕ) (n : ℕ) → Nowhere (Newline (c ∷ cs)) 0 (suc n) → Nowhere (Newline cs) 0 n
later c cs n h = λ k low below. h (suc k) zero-le (suc-le-suc below)

-- a text without a newline
pub no_line : (p text : List ℕ) → Nowhere (Newline text) 0 (length text) → (lines p text ≡ []) × (rest p text ≡ p ++ text)
no_line p [] h = (refl, sym (append-nil p))
no_line p (c ∷ cs) h =
    let q = no_line (p ++ (c ∷ [])) cs (later c cs (length cs) h) in
    rw (false_from_ne_true (eqb c 10) (h 0 zero-le (omega arith))) (q.0, rw append_assoc at q.1)

-- the first line of a text that has one
pub first_line : (p text : List ℕ) (n : ℕ)
    → NoneBefore (Newline text) 0 (length text) n
    → Newline text n
    → (lines p text ≡ (p ++ take n text) ∷ lines [] (drop (suc n) text)) × (rest p text ≡ rest [] (drop (suc n) text))
first_line p [] n f is = absurd (omega (arith, f.high))
first_line p (c ∷ cs) zero f is = rw (is, append-nil) (refl, refl)
first_line p (c ∷ cs) (suc n) f is =
    let q = first_line (p ++ (c ∷ [])) cs n (record { low = zero-le; high = omega (arith, f.high); before = later c cs n f.before }) is in
    rw (false_from_ne_true (eqb c 10) (f.before 0 zero-le (omega arith))) (rw append_assoc at q.0, q.1)

-- ---- what is kept of the text before a chunk

lines_alike : (p chunk : List ℕ) → map line_bytes (lines (kept p) chunk) ≡ map line_bytes (lines p chunk)
lines_alike p [] = refl
lines_alike p (c ∷ cs) =
    let same = cut_alike p in
    let short = lines_alike (kept p ++ (c ∷ [])) cs in
    let long = lines_alike (p ++ (c ∷ [])) cs in
    let joined = kept_joined p (c ∷ []) in
    grind (arith, nat_tests)

rest_alike : (p chunk : List ℕ) → kept (rest (kept p) chunk) ≡ kept (rest p chunk)
rest_alike p [] = take-take 77 77 p (omega arith)
rest_alike p (c ∷ cs) =
    let short = rest_alike (kept p ++ (c ∷ [])) cs in
    let long = rest_alike (p ++ (c ∷ [])) cs in
    let joined = kept_joined p (c ∷ []) in
    grind (arith, nat_tests)

last_alike : (p : List ℕ) → map line_bytes (last_line (kept p)) ≡ map line_bytes (last_line p)
last_alike [] = refl
last_alike (c ∷ cs) = ap (λ said. said ∷ []) (cut_alike (c ∷ cs))

pub texts_alike : TextsAlike
texts_alike p chunk = (lines_alike p chunk, rest_alike p chunk, last_alike p)
