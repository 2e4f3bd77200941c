use Rattle.history.proofs.Lawfulness.{performed}
use Rattle.history.proofs.dispatch.perform.Goals as goal

pub returns : goal.returns
returns g c = performed _ _ _ _ c.dispatch.ensures
