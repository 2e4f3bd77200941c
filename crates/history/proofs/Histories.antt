-- One call more at the end of a run.
use Rattle.std.proofs.Common.{◌≡◌, ℕ, ◌+◌, ◌<◌, ◌≤◌, List, [], ◌∷◌, ◌++◌, length, get_or, take, Result, sym, refl, ap, ◌∙◌, arith}
use Rattle.std.proofs.lemmas.List.{take_more, take_all, length-take-le}
use Rattle.fault.specs.declared.fault.Fault.{Fault}
use Rattle.book.specs.State.{State}
use Rattle.book.specs.Opening.{Opening, opened}
use Rattle.history.specs.declared.call.Call.{Call}
use Rattle.history.specs.declared.call.Answer.{Answer}
use Rattle.history.specs.History.{Event, event, history, history_onto, Leads, opens}
use Rattle.history.specs.Law.{Extends}

onto_more : (h : List Event) (cs : List Call) (rs : List (Result Answer Fault)) (c : Call) (r : Result Answer Fault) → length rs ≡ length cs → history_onto h (cs ++ (c ∷ [])) (rs ++ (r ∷ [])) ≡ event c r ∷ history_onto h cs rs
onto_more h [] [] c r same = refl
onto_more h [] (q ∷ rs) c r same = absurd (omega arith)
onto_more h (b ∷ cs) [] c r same = absurd (omega arith)
onto_more h (b ∷ cs) (q ∷ rs) c r same = onto_more (event b q ∷ h) cs rs c r (omega arith)

pub begins : (o : Opening) (s : State) → s ≡ opened o → Leads o [] s
begins o s e = rw e opens

-- the call at i, answered by r, leads on
pub leads_more : (o : Opening) (cs : List Call) (i : ℕ) (rs : List (Result Answer Fault)) (s t : State) (d : Call) (r : Result Answer Fault) → i < length cs → length rs ≡ i → Extends s (event (get_or cs i d) r) t → Leads o (history (take i cs) rs) s → Leads o (history (take (i + 1) cs) (rs ++ (r ∷ []))) t
leads_more o cs i rs s t d r within same extends before =
    let more : history (take (i + 1) cs) (rs ++ (r ∷ [])) ≡ event (get_or cs i d) r ∷ history (take i cs) rs =
    ap (λ xs. history xs (rs ++ (r ∷ []))) (take_more cs i d within)
    ∙ onto_more [] (take i cs) rs (get_or cs i d) r (same ∙ sym (length-take-le i cs (omega arith))) in
    rw more (extends o (history (take i cs) rs) before).0

-- .. and after the last call
pub leads_all : (o : Opening) (cs : List Call) (i : ℕ) (rs : List (Result Answer Fault)) (s : State) → length cs ≤ i → Leads o (history (take i cs) rs) s → Leads o (history cs rs) s
leads_all o cs i rs s end before = rw take_all at before
