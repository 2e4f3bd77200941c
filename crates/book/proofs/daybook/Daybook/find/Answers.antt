use Rattle.std.proofs.Common.{rules, tests}
use Rattle.std.proofs.lemmas.Iterator.{YieldsList-from_slice}
use Rattle.std.proofs.lemmas.Iterator.Search.{position_from_yields_List}
use Rattle.book.specs.Daily.{has_number}
use Rattle.book.proofs.Finding.{found_by}
use Rattle.book.proofs.daybook.Daybook.find.Goals as goal

pub returns-clause-found : goal.returns-clause-found
returns-clause-found c =
    found_by c.args.self.now.movements.items c.args.number _
    (position_from_yields_List (has_number c.args.number) _ _ _ c.position.ensures.ran (YieldsList-from_slice c.args.self.now.movements.items cc) (λ x b q k. search (rules, tests)))
