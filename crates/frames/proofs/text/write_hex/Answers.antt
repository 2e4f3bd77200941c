use Rattle.std.proofs.Common.{rules}
use Rattle.std.proofs.lemmas.List.{take_all}
use Rattle.frames.proofs.Texts.{read_back, text_more}
use Rattle.frames.proofs.text.write_hex.Goals as goal

pub loop-b-preserved : goal.loop-b-preserved
loop-b-preserved c = search (rules, text_more)

pub returns : goal.returns
returns c = search (rules, read_back, take_all)
