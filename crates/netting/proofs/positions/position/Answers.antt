use Rattle.std.proofs.Common.{pos, arith}
use Rattle.std.proofs.lemmas.Int.{ints}
use Rattle.std.proofs.lemmas.List.{get_or-replicate}
use Rattle.netting.proofs.Bounds.{amount_near}
use Rattle.netting.proofs.positions.position.Goals as goal
use Rattle.netting.specs.Sizes.{most_places}

pub posted-requires-clause-room : goal.posted-requires-clause-room
posted-requires-clause-room c p h = rw (get_or-replicate most_places p (pos 0) (pos 0) h) (amount_near 0 (omega arith))

pub returns-then-fitting-clause-value : goal.returns-then-fitting-clause-value
returns-then-fitting-clause-value c =
    let none = get_or-replicate most_places c.args.place (pos 0) (pos 0) (omega arith) in
    let posted = c.posted.ensures c.args.place (omega arith) in
    omega (arith, ints)
