-- What is true of every package.
use Rattle.std.specs.Prelude.{IsTrue, pos, slice_index}
use Rattle.netting.specs.declared.package.Package.TheInside.{Inside}
use Rattle.netting.specs.Held.{Held}
use Rattle.netting.specs.Limits.{bounded}
use Rattle.netting.specs.Tables.{Kept}

-- what a package's contracts see: what places have after posting follows from it
abbrev pub held : Inside → Held
held a = record { movements = a.movements.now; amounts = a.amounts.now; tried = a.tried.now; marks = a.marks }

-- it is within the limits, and what places have after posting is kept up to date
pub record Holds (a : Inside) : Type 0 where
  pub bounded : IsTrue (bounded a.movements.now a.amounts.now)
  pub kept : Kept (λ p. pos (slice_index a.amounts.now p)) a.movements.now a.marks a.after_posting
