-- What the members' rows of terms say.
use Rattle.std.specs.Prelude.{ℕ, ◌-◌, List, [], if◌then◌else◌, None, Option, slice_index_or}
use Rattle.movement.specs.declared.terms.MemberRow.{MemberRow}
use Rattle.movement.specs.declared.category.Category.{Category}
use Rattle.movement.specs.Letters.{row}
use Rattle.movement.specs.Agreed.{Agreed, member_known}

-- a row in which nothing is set
abbrev pub empty_row : MemberRow
empty_row = record { pairs = [] }

-- the pair of a category in a member's row
abbrev pub pair_in : MemberRow → Category → Option (ℕ × ℕ)
pair_in r c = slice_index_or r.pairs (row c) None

-- member m has the row m - 1
abbrev pub agreed_in : List MemberRow → Agreed
agreed_in rows m c = if member_known m then pair_in (slice_index_or rows (m - 1) empty_row) c else None
