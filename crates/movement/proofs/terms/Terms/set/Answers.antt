use Rattle.std.proofs.Common.{rules}
use Rattle.movement.proofs.TermTables.{set_agreed, set_fit}
use Rattle.movement.proofs.terms.Terms.set.Goals as goal

pub returns-clause-terms : goal.returns-clause-terms
returns-clause-terms c =
    set_agreed c.args.self.now.rows c.args.member c.args.category c.args.custodians _ c.requires.member (search rules) c.set.ensures.pairs

pub invariant_of-self : goal.invariant_of-self
invariant_of-self c =
    let self = c.args.self.now in
    record {
      fit = set_fit self.rows c.args.member c.args.category c.args.custodians _ c.requires.member (search rules) c.set.ensures.pairs
          self.accounts self.fit c.requires.participants;
    }
