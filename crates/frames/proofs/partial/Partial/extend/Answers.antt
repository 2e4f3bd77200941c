use Rattle.std.proofs.Common.{rules}
use Rattle.frames.proofs.Streams.{cut_alike, fitting}
use Rattle.frames.proofs.partial.Partial.extend.Goals as goal

pub returns : goal.returns
returns c =
    let put = c.copy_from_slice.new.self in
    record {
      keeps = fitting _ c.args.part.now put _ c.fitting-count.result _ 77 (search rules) (search rules) c.fitting-count.ensures (search rules);
      same = cut_alike;
    }
