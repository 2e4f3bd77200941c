use Rattle.std.proofs.Common.{◌≡◌, ◌≤◌, refl, ap, ◌∙◌, rules, tests, arith}
use Rattle.std.proofs.lemmas.Iterator.{YieldsList-from_map, YieldsList-from_range}
use Rattle.std.proofs.lemmas.Iterator.Consumers.{sum_by_from_yields_List, YieldsList-at}
use Rattle.std.proofs.lemmas.Iterator.Adapters.{fits_from_length, at_most_from_yields_List}
use Rattle.std.proofs.lemmas.List.FromFn.{length-range_with_len}
use Rattle.std.specs.List.{sum_by, range_with_len}
use Rattle.register.specs.Holdings.{total}
use Rattle.register.proofs.Sums.{range_bound}
use Rattle.book.proofs.sums.sum.Goals as goal

pub sum-requires-clause-fits : goal.sum-requires-clause-fits
sum-requires-clause-fits g c =
    let laws = g.met.R.Register in
    let few : c.accounts.result ≤ 1000 = omega (arith, c.accounts.ensures, laws.few_accounts c.args.register.now) in
    fits_from_length _ _ 1000 _
    (at_most_from_yields_List (YieldsList-from_range 0 c.accounts.result c.accounts.result c.map.ensures.source (omega arith)) (rw length-range_with_len few))
    c.map.ensures.closure (omega arith)
    (λ x r q k. let small : (g.R.Register.shows c.args.register.now).amount c.args.kind x ≤ 1000000000000000 = laws.bounded c.args.register.now c.args.kind x in search (rules, tests))

pub returns-clause-bound : goal.returns-clause-bound
returns-clause-bound g c =
    let laws = g.met.R.Register in
    let h = g.R.Register.shows c.args.register.now in
    let few = laws.few_accounts c.args.register.now in
    let value : c.sum.result ≡ total h c.args.kind =
    sum_by_from_yields_List (h.amount c.args.kind) (range_with_len 0 c.accounts.result) _ _ c.sum.ensures.ran
    (YieldsList-from_map _ (h.amount c.args.kind)
    (YieldsList-at c.map.ensures.source (YieldsList-from_range 0 c.accounts.result c.accounts.result refl (omega arith)))
    c.map.ensures.closure (λ x r q k. search (rules, tests)))
    ∙ ap (λ n. sum_by (h.amount c.args.kind) (range_with_len 0 n)) c.accounts.ensures in
    omega (arith, value, range_bound (h.amount c.args.kind) 1000000000000000 h.accounts (λ i _. laws.bounded c.args.register.now c.args.kind i))
