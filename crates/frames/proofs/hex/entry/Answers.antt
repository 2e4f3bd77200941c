-- The table passes its test, which is computed here.
use Rattle.std.proofs.Common.{refl, rules}
use Rattle.frames.specs.declared.hex.TheConstants.{VALUES}
use Rattle.frames.proofs.Digits.{entry_digit}
use Rattle.frames.proofs.hex.entry.Goals as goal

pub returns : goal.returns
returns c = entry_digit VALUES refl c.args.c (search rules)
