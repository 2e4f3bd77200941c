use Rattle.cases.proofs.Calling.{opens_new}
use Rattle.cases.proofs.caller.open.Goals as goal

pub returns : goal.returns
returns c = opens_new c.open.ensures c.in_ok-securities.ensures.shows c.in_ok-cash.ensures.shows
