use Rattle.settle.proofs.Beginning.{begins_with_nothing}
use Rattle.settle.proofs.opening.open.Goals as goal

pub returns : goal.returns
returns c = begins_with_nothing _ _ _ _ _ c.open.ensures c.in_ok-securities.ensures.shows c.new.ensures.shows c.in_ok-litas.ensures.shows c.in_ok-euro.ensures.shows
