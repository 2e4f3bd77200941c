-- The lines of what is read so far are answered, and there is room for the answers to a chunk.
use Rattle.std.proofs.Common.{◌*◌, ◌<◌, ◌≤◌, ℕ, List, length, vec_capacity}
use Rattle.std.specs.Io.KnownBytes.{Consumes}
use Rattle.frames.specs.Partials.{characters}
use Rattle.frames.specs.Replies.{longest}
use Rattle.frames.proofs.Reading.{IsRead}
use Rattle.frames.proofs.session.Session.serve_with.Given as goal

abbrev pub invariant-loop : goal.invariant-loop
invariant-loop g l = (text : List ℕ)
    × Consumes (g.R.Read.remaining l.initial.input) (g.R.Read.remaining l.input) text
    × IsRead (characters l.initial.self.pending) text (characters l.self.pending)
    (g.B.Settlement.state l.initial.self.book) (g.B.Settlement.state l.self.book)
    (g.W.Write.contents l.initial.output) (g.W.Write.contents l.output)
    × (0 < length l.chunk)
    × (longest * length l.chunk ≤ vec_capacity l.out)
