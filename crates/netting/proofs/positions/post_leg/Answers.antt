use Rattle.std.proofs.Common.{not}
use Rattle.netting.proofs.Legs.{signed_fits, leg_posted}
use Rattle.netting.proofs.positions.post_leg.Goals as goal

pub returns : goal.returns
returns c p =
    let less = signed_fits (not c.args.inside) c.args.leg.amount c.requires.fits.amount in
    let more = signed_fits c.args.inside c.args.leg.amount c.requires.fits.amount in
    leg_posted c.args.leg c.args.inside _ _ _ _ _ p (rw c.signed.ensures less) (rw c.signed-2.ensures more) (c.shift.ensures p) (c.shift-2.ensures p)
