-- The lines before what is left of the chunk are answered.
use Rattle.std.proofs.Common.{length}
use Rattle.frames.specs.Partials.{characters}
use Rattle.frames.proofs.Feeding.{Underway}
use Rattle.frames.proofs.session.feed.Given as goal

abbrev pub invariant-loop-end : goal.invariant-loop-end
invariant-loop-end g l =
    Underway (characters l.initial.pending) l.chunk (characters l.pending) l.left
    (g.B.Settlement.state l.initial.book) (g.B.Settlement.state l.book)
    l.initial.out l.out

abbrev pub decreases-loop-end : goal.decreases-loop-end
decreases-loop-end g l = length l.left
