use Rattle.std.proofs.Common.{◌≡◌, length, vec_items, rules}
use Rattle.history.specs.History.{Leads, history}
use Rattle.book.specs.Books.{state_of}
use Rattle.book.specs.Opening.{opens_on}
use Rattle.history.proofs.Histories.{begins, leads_more, leads_all}
use Rattle.history.proofs.Lawfulness.{all_lawful}
use Rattle.history.proofs.runs.run.Goals as goal

pub loop-call-init : goal.loop-call-init
loop-call-init g c = (search rules, search rules, λ o e. begins o _ e)

pub loop-call-preserved : goal.loop-call-preserved
loop-call-preserved g c = (
  search rules,
  search rules,
  λ o e.
      let same : length (vec_items c.loop-call.answers) ≡ c.loop-call.call-index = search rules in
      rw c.push_reserved.ensures.items
      (leads_more o c.args.calls.now c.loop-call.call-index (vec_items c.loop-call.answers) _ _ _ _ (search rules) same c.perform.ensures.extends (c.loop-call.invariant.2 o e)),
)

pub returns : goal.returns
returns g c =
    let o = opens_on (g.S.Register.shows c.args.securities) (g.C.Register.shows c.args.cash) c.args.first_day in
    let state = state_of g.S.Register.shows g.C.Register.shows in
    let leads : Leads o (history c.args.calls.now (vec_items c.loop-call.answers)) (state c.loop-call.book) =
    leads_all o c.args.calls.now c.loop-call.call-index _ _ (search rules) (c.loop-call.invariant.2 o c.open-book.ensures) in
    record { answered = search rules; leads = leads; lawful = all_lawful leads }
