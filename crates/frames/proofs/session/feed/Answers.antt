use Rattle.std.proofs.Common.{true, false, rules}
use Rattle.std.proofs.lemmas.Result.{err_from_is_err_and}
use Rattle.frames.specs.Partials.{characters}
use Rattle.frames.proofs.Chunks.{chunks_alike, texts_alike}
use Rattle.frames.proofs.Feeding.{begins, ends, goes_on, lines_lawful, stops, whole_text}
use Rattle.frames.proofs.session.feed.Goals as goal

pub loop-end-init : goal.loop-end-init
loop-end-init g c = begins _ _ _ _

pub returns-in_err-end_line : goal.returns-in_err-end_line
returns-in_err-end_line g c =
    let err = err_from_is_err_and c.from_residual.result c.from_residual.ensures.1 in
    let (found, is) = c.in-Some.ensures in
    let feeds = stops (characters c.end_line.new.pending) _ c.in-Some.end c.loop-end.invariant found is c.in_err-end_line.ensures.answers in
    record {
      feeds = rw err.1 feeds;
      whole = λ text e. rw err.1 (whole_text (characters c.args.pending.now) c.args.chunk.now (characters c.end_line.new.pending) _ _ _ _ false feeds text e);
      texts = texts_alike;
      chunks = chunks_alike;
      lawful = lines_lawful;
    }

pub loop-end-preserved : goal.loop-end-preserved
loop-end-preserved g c =
    let (found, is) = c.in-Some.ensures in
    let told = c.in_ok-end_line.ensures in
    goes_on c.in-Some.end c.loop-end.invariant found is (search rules) (search rules) told.answers told.clears

pub returns : goal.returns
returns g c =
    let feeds = ends _ c.loop-end.invariant c.in_default.ensures (search rules) in
    record {
      feeds = feeds;
      whole = whole_text (characters c.args.pending.now) c.args.chunk.now _ _ _ _ _ true feeds;
      texts = texts_alike;
      chunks = chunks_alike;
      lawful = lines_lawful;
    }
