use Rattle.std.proofs.Common.{◌≡◌, ◌≤◌, length, take, vec_items, vec_len, vec_capacity}
use Rattle.book.specs.Books.{state_of}
use Rattle.book.specs.Opening.{Opening, opened}
use Rattle.history.specs.History.{Leads, history}
use Rattle.history.proofs.runs.run.Given as goal

abbrev pub invariant-loop-call : goal.invariant-loop-call
invariant-loop-call g l =
    let state = state_of g.S.Register.shows g.C.Register.shows in
    (vec_len l.answers ≡ l.call-index)
    × (length l.calls ≤ vec_capacity l.answers)
    × ((o : Opening) → state l.initial.book ≡ opened o → Leads o (history (take l.call-index l.calls) (vec_items l.answers)) (state l.book))
