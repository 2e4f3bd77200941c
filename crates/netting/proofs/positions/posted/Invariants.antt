use Rattle.std.proofs.Common.{◌≡◌, ℕ, ◌<◌, length, slice_index_or, pos, ◌+ℤ◌}
use Rattle.netting.specs.Positions.{position_by}
use Rattle.netting.proofs.positions.posted.Given as goal
use Rattle.netting.specs.Sizes.{most_places}

abbrev pub invariant-loop-m : goal.invariant-loop-m
invariant-loop-m l =
    (goal.iterator-loop-m).can_next l.m-iterator × (goal.iterator-loop-m).is_finite l.m-iterator
    × ((p : ℕ) → p < most_places → slice_index_or l.amounts p (pos 0) ≡ slice_index_or l.fn.before p (pos 0) +ℤ position_by (length l.yielded) l.movements l.marks p)
