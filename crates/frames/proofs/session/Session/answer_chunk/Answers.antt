use Rattle.std.proofs.Common.{rules}
use Rattle.frames.proofs.Reading.{never_stops}
use Rattle.frames.proofs.session.Session.answer_chunk.Goals as goal

pub unwrap-requires : goal.unwrap-requires
unwrap-requires g c = never_stops _ c.args.chunk.now _ _ _ _ _ _ c.feed.ensures.feeds (search rules)
