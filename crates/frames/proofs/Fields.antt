-- Fields of a frame, one after the other: what each says, by its place.
use Rattle.std.proofs.Common.{◌≡◌, ℕ, ◌+◌, ◌<◌, List, drop, take, get_or, ap, ◌∙◌, add-zero}
use Rattle.std.specs.Int.{Width, byte_len, from_be_bytes}
use Rattle.std.proofs.lemmas.List.{drop-drop, get_or-drop, get_or-take}
use Rattle.frames.specs.Bytes.{number_at}
use Rattle.frames.specs.Calls.{side_at}

module _ (fields : List ℕ) (n : ℕ) {left : List ℕ} where
  -- what is left after m more bytes
  pub left_on : (m : ℕ) {after : List ℕ} → left ≡ drop n fields → after ≡ drop m left → after ≡ drop (n + m) fields
  left_on m p q = q ∙ ap (λ l. drop m l) p ∙ drop-drop m n fields

  -- a byte of the next field
  pub byte_on : (k i : ℕ) {field : List ℕ} → left ≡ drop n fields → field ≡ take k left → i < k → get_or field i 0 ≡ get_or fields (n + i) 0
  byte_on k i p q h = ap (λ l. get_or l i 0) (q ∙ ap (λ l. take k l) p) ∙ get_or-take k (drop n fields) i 0 h ∙ get_or-drop n fields i 0

  -- the number that the next field writes
  pub number_on : (w : Width) {field : List ℕ} → left ≡ drop n fields → field ≡ take (byte_len w) left → from_be_bytes w field ≡ number_at w n fields
  number_on w p q = ap (from_be_bytes w) (q ∙ ap (λ l. take (byte_len w) l) p)

  -- the side of a trade
  pub side_on : left ≡ drop n fields → side_at 0 left ≡ side_at n fields
  side_on p = ap (side_at 0) p ∙ simp (get_or-drop, add-zero)
