use Rattle.std.proofs.Common.{true, rules}
use Rattle.frames.specs.Partials.{characters}
use Rattle.frames.specs.Sessions.{Ended, last_line}
use Rattle.frames.proofs.Feeding.{ended_whole}
use Rattle.frames.proofs.session.finish.Goals as goal

pub returns-in_ok-respond-clause-whole : goal.returns-in_ok-respond-clause-whole
returns-in_ok-respond-clause-whole g c =
    let ended : Ended (last_line (characters c.args.pending.now)) (g.B.Settlement.state c.args.book.now) (g.B.Settlement.state c.respond.new.book) c.args.out.now c.respond.new.out true = search rules in
    λ text e. ended_whole text true (rw e at ended)
