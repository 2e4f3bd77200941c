use Rattle.std.proofs.Common.{◌-◌, rules}
use Rattle.register.proofs.Parts.{enters_through, first_within, second_within}
use Rattle.register.proofs.joined.JoinedRegister.enter.Goals as goal

pub returns-then-kind-first-clause-enters : goal.returns-then-kind-first-clause-enters
returns-then-kind-first-clause-enters g c =
    enters_through c.args.entry (first_within {s = g.C.Register.shows c.args.self.now.second} (search rules) (search rules)) c.enter.ensures

pub returns-else-kind-first-clause-enters : goal.returns-else-kind-first-clause-enters
returns-else-kind-first-clause-enters g c =
    enters_through c.args.entry (second_within {f = g.S.Register.shows c.args.self.now.first} {p = c.args.kind - c.kinds-first.result} (search rules) (search rules)) c.enter-else-kind-first.ensures
