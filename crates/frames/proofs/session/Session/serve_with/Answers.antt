use Rattle.std.proofs.Common.{rules}
use Rattle.std.proofs.KnownBytes.{Consumes-trans, Consumes-whole}
use Rattle.frames.proofs.Reading.{nothing_more, reads_all, reads_on}
use Rattle.frames.proofs.session.Session.serve_with.Goals as goal

pub returns-then-count-eq0 : goal.returns-then-count-eq0
returns-then-count-eq0 g c =
    let (text, read, so_far, some, room) = c.loop.invariant in
    let (consumed, end) = c.in_ok-count.ensures.bytes in
    let none = c.if-count-eq0.true in
    let told = c.in_ok-answer_last.ensures in
    Consumes-whole _ _ text _ (nothing_more _ _ _ text c.read.new.buf c.in_ok-count.count none read consumed) (end none (search rules)) (reads_all so_far told.written told.becomes)

pub loop-preserved : goal.loop-preserved
loop-preserved g c =
    let (text, read, so_far, some, room) = c.loop.invariant in
    let (consumed, end) = c.in_ok-count.ensures.bytes in
    let told = c.in_ok-answer_chunk.ensures in (
      _,
      Consumes-trans _ _ _ text _ read consumed,
      reads_on so_far _ told.written told.becomes told.keeps,
      search rules,
      search rules,
    )
