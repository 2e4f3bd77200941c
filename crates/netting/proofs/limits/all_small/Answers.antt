use Rattle.std.proofs.Common.{◌≡◌, ◌∙◌, nat_le, rules, tests}
use Rattle.std.proofs.lemmas.Iterator.{YieldsList-from_slice}
use Rattle.std.proofs.lemmas.Iterator.Search.{all_from_yields_List}
use Rattle.std.specs.List.{list_all}
use Rattle.register.specs.Holdings.{limit}
use Rattle.netting.specs.Places.{places}
use Rattle.netting.proofs.Within.{small_is}
use Rattle.netting.proofs.limits.all_small.Goals as goal

pub returns : goal.returns
unfolding places
returns c =
    let amounts = c.args.amounts.now in
    let each : c.all.result ≡ list_all (λ amount. nat_le amount limit) amounts =
    all_from_yields_List (λ amount. nat_le amount limit) _ _ _ c.all.ensures.ran (YieldsList-from_slice amounts cc) (λ x b q k. search (rules, tests)) in
    each ∙ small_is amounts places (search rules)
