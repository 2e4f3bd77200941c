-- What is known of a package's fields.
use Rattle.std.proofs.Common.{slice_index, pos}
use Rattle.netting.specs.declared.package.Package.TheInside.{Inside}
use Rattle.netting.specs.Tables.{IsRoomy, most_legs}
use Rattle.netting.specs.Package.{Holds}
use Rattle.netting.proofs.Within.{Fitting, bounded_facts}
use Rattle.netting.proofs.Bounds.{amount_near, kept_roomy}

module _ (a : Inside) (holds : Holds a) where
  pub fitting : Fitting a.movements.now
  fitting = (bounded_facts a.movements.now a.amounts.now holds.bounded).fitting

  pub room : IsRoomy most_legs a.after_posting
  room =
      let small = (bounded_facts a.movements.now a.amounts.now holds.bounded).small in
      kept_roomy (λ p. pos (slice_index a.amounts.now p)) a.movements.now a.marks a.after_posting fitting (λ p h. amount_near (slice_index a.amounts.now p) (small p h)) holds.kept
