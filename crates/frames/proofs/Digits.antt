-- A table of the digits' values has the rule of `digit_value`.
use Rattle.std.proofs.Common.{◌≡◌, ℕ, ◌<◌, List, length, map, get_or, None, sym, ap, ◌∙◌, zero-add, arith}
use Rattle.std.specs.List.{range_with_len}
use Rattle.std.proofs.lemmas.List.{get_or-map, length-map}
use Rattle.std.proofs.lemmas.List.FromFn.{get_or-range_with_len}
use Rattle.frames.specs.Hex.{digit_value, entry_value}

-- a table that passes the test, which is computed: what the entries say, one after the other, is what the rule says
pub entry_digit : (table : List ℕ) → map entry_value table ≡ map digit_value (range_with_len 0 256) → (c : ℕ) → c < 256 → entry_value (get_or table c 0) ≡ digit_value c
entry_digit table test c h =
    let all = range_with_len 0 256 in
    let long : length table ≡ 256 = sym (length-map table entry_value) ∙ ap length test in
    sym (get_or-map entry_value table c 0 None (omega arith)) ∙ ap (λ said. get_or said c None) test
    ∙ get_or-map digit_value all c 0 None h ∙ ap digit_value (get_or-range_with_len 0 256 c 0 h ∙ zero-add c)
