-- What has come of a line so far.
use Rattle.std.specs.Prelude.{ℕ, List, take}
use Rattle.frames.specs.declared.partial.Partial.{Partial}

-- the characters that are kept
abbrev pub characters : Partial → List ℕ
characters partial = take partial.len partial.bytes
