-- How many places there are. The code has a constant of its own; that it is this is proved.
use Rattle.std.specs.Prelude.{ℕ}

-- 32 accounts of each of 16 kinds of securities, then of each of 2 kinds of cash
abbrev pub most_places : ℕ
most_places = 576
