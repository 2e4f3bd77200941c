-- A line that is cut short.
use Rattle.std.proofs.Common.{◌≡◌, ℕ, ◌+◌, ◌-◌, ◌<◌, ◌≤◌, min, List, ◌++◌, length, take, inl, inr, arith, rules}
use borrow.Rule.Slice.PartMut.{put_mid}
use Rattle.std.proofs.lemmas.List.{places, same_lists, length-take, take_all}
use Rattle.std.proofs.lemmas.Slice.{take-put_mid}
use Rattle.std.proofs.lemmas.Bool.{cases_lt}
use Rattle.std.proofs.lemmas.Bool.Decides.{nat_tests}
use Rattle.frames.specs.Hex.{line_bytes}
use Rattle.frames.specs.Stream.{CutAlike, kept}

-- some of a part is written after the first len characters, as much as there is room for
pub fitting : (chars part put : List ℕ) (len count middle most : ℕ)
    → len ≤ length chars
    → len ≤ most
    → count ≡ min (length part) (most - len)
    → put ≡ take count part
    → take (len + count) (put_mid len middle chars put) ≡ take most (take len chars ++ part)
fitting chars part put len count middle most inside room e is =
    let long : length put ≡ count = rw (is, length-take) (omega arith) in
    let end : len + count ≡ len + length put = omega arith in
    rw (take-put_mid len middle chars put (len + count) end inside, is)
    (same_lists _ _ (search (rules, places)) (λ k d h. grind (arith, places)))

cut_line : (most : ℕ) (line : List ℕ) → 76 < most → line_bytes (take most line) ≡ line_bytes line
cut_line most line h =
    elim (cases_lt most (length line)) [
      | inl more ↦ let cut = length-take most line in grind (arith, nat_tests)
      | inr few ↦ rw (take_all most line few)
    ]

pub cut_alike : CutAlike
cut_alike line = cut_line 77 line (omega arith)

joined : (most : ℕ) (text part : List ℕ) → take most (take most text ++ part) ≡ take most (text ++ part)
joined most text part = same_lists _ _ (search (rules, places)) (λ k d h. grind (arith, places))

-- a part after what is kept of a text
pub kept_joined : (text part : List ℕ) → kept (kept text ++ part) ≡ kept (text ++ part)
kept_joined text part = joined 77 text part
