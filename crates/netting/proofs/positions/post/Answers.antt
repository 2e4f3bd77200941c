use Rattle.std.proofs.Common.{arith}
use Rattle.std.proofs.lemmas.Int.{ints}
use Rattle.movement.specs.declared.side.Side.TheVariants.{Securities, Cash}
use Rattle.netting.specs.Places.{leg_of, leg_takes, leg_brings}
use Rattle.netting.specs.Tables.{most_legs}
use Rattle.netting.proofs.Legs.{leg_fits, near_posted, signed_both}
use Rattle.netting.proofs.positions.post.Goals as goal

pub post_leg-requires-2-clause-room : goal.post_leg-requires-2-clause-room
post_leg-requires-2-clause-room c p h =
    near_posted most_legs c.of.result c.args.inside _ _ p (rw c.of.ensures (leg_fits Securities c.args.m.now c.requires.fits)) (c.requires.room p h) (c.post_leg.ensures p)

pub returns : goal.returns
returns c p =
    let securities = leg_of Securities c.args.m.now in
    let cash = leg_of Cash c.args.m.now in
    let first = rw c.of.ensures at (c.post_leg.ensures p) in
    let second = rw c.of-2.ensures at (c.post_leg-2.ensures p) in
    let both = signed_both c.args.inside (leg_brings securities p) (leg_brings cash p) (leg_takes securities p) (leg_takes cash p) in
    omega (arith, ints)
