use Rattle.std.proofs.Common.{refl}
use Rattle.netting.specs.Places.{places}
use Rattle.netting.proofs.cases.cases_hold.Goals as goal

pub returns : goal.returns
unfolding places
returns c = (refl, (refl, (refl, (refl, (refl, (refl, (refl, tt)))))))
