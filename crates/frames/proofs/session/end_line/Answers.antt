use Rattle.std.proofs.Common.{◌++◌, ◌<◌, length, length-append, rules}
use Rattle.frames.specs.Partials.{characters}
use Rattle.frames.proofs.Feeding.{ended_whole, last_is}
use Rattle.frames.proofs.session.end_line.Goals as goal

pub returns-clause-answers : goal.returns-clause-answers
returns-clause-answers g c =
    let text = characters c.args.pending.now ++ c.args.part.now in
    let some : 0 < length text = search (rules, length-append) in
    rw (last_is text some) at (ended_whole text _ (rw c.extend.ensures.keeps at c.finish.ensures.answers))
