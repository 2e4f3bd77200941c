use Rattle.std.proofs.Common.{◌≡◌, true, false, length, rules, sym, ap}
use Rattle.std.proofs.lemmas.Iterator.{first_from_Range}
use Rattle.netting.specs.Held.{Held, can_rejoin_with}
use Rattle.netting.proofs.Search.{finds_first, first_found}
use Rattle.netting.proofs.package.Package.next_to_rejoin.Goals as goal

pub returns : goal.returns
returns c =
    let held = c.args.self.now in
    let searched = first_from_Range _ _ _ _ (λ i. can_rejoin_with held i ≡ true) (λ i. can_rejoin_with held i ≡ false) c.find.ensures.ran (λ x q k. search rules) (λ x q k. search rules) in
    let finds = finds_first (can_rejoin_with held) (length c.self.inside.movements.now) (length held.movements) c.find.result searched (ap (λ (h : Held). length h.movements) c.self.view_is) in
    sym (first_found (can_rejoin_with held) (length held.movements) c.find.result finds)
