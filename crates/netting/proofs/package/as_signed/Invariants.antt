use Rattle.std.proofs.Common.{◌≡◌, ℕ, ◌<◌, length, slice_index, slice_index_or, pos}
use Rattle.netting.proofs.package.as_signed.Given as goal
use Rattle.netting.specs.Sizes.{most_places}

abbrev pub invariant-loop-place : goal.invariant-loop-place
invariant-loop-place l =
    (length l.signed ≡ most_places) × ((p : ℕ) → p < l.place → slice_index_or l.signed p (pos 0) ≡ pos (slice_index l.amounts p))
