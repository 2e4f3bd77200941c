use Rattle.std.proofs.Common.{◌≡◌, ap, ◌∙◌, rules}
use Rattle.movement.specs.Agreed.{lookup}
use Rattle.movement.specs.Bounds.{agreed_fits}
use Rattle.movement.specs.Terms.{agreed}
use Rattle.movement.proofs.Fitting.{lookup_fits}
use Rattle.movement.proofs.terms.Terms.look_up.Goals as goal

pub returns-clause-participants : goal.returns-clause-participants
returns-clause-participants c =
    let self = c.args.self.now in
    let same : c.or.result ≡ lookup (agreed self) c.args.member c.args.category = search rules in
    ap (agreed_fits self.accounts) same ∙ lookup_fits self.accounts (agreed self) c.args.member c.args.category self.fit
