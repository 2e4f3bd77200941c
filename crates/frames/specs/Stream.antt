-- What is kept of a line that comes in parts.
use Rattle.std.specs.Prelude.{◌≡◌, ℕ, List, take}
use Rattle.frames.specs.Hex.{line_bytes}

-- how many characters of a line are kept: one more than the longest line that says bytes
abbrev pub most_kept : ℕ
most_kept = 77

-- the first characters of a text: a line that has more is refused whatever they are
abbrev pub kept : List ℕ → List ℕ
kept text = take most_kept text

-- the law: what is kept of a line says what the whole line says
abbrev pub CutAlike : Type 0
CutAlike = (line : List ℕ) → line_bytes (kept line) ≡ line_bytes line
