-- What the answer of a call tells of the opening and of the questions.
use Rattle.std.proofs.Common.{◌≡◌, ℕ, Bool, true, false, cond, ◌&&◌, List, [], ◌∷◌, Some, None, Ok, Err, sym, refl, ap, ◌∙◌, arith}
use Rattle.std.proofs.lemmas.Bool.{and_parts}
use Rattle.fault.specs.declared.fault.Fault.{Fault}
use Rattle.book.specs.State.{State}
use Rattle.fault.specs.Questions.{Question, first_no, asked}
use Rattle.fault.proofs.Asking.{unless_fault, unless_none}
use Rattle.history.specs.declared.call.Call.{Call}
use Rattle.history.specs.declared.call.Call.TheVariants.{PayIn, PayOut, Terms, Trade, Consent, Cancel, Tell}
use Rattle.history.specs.declared.call.Answer.{Answer}
use Rattle.history.specs.Step.{questions, result, answer}
use Rattle.history.specs.Law.{of_a_call}

-- every fault that these questions can give is a call's own
own_faults : List Question → Bool
own_faults [] = true
own_faults (q ∷ qs) = of_a_call q.fault && own_faults qs

first_no_own : (qs : List Question) (f : Fault) → own_faults qs ≡ true → first_no qs ≡ Some f → of_a_call f ≡ true
unfolding own_faults
first_no_own [] f own e = let z : ◌≡◌ {A = ℕ} 0 1 = cc in absurd (omega arith)
first_no_own (q ∷ qs) f own e =
    let parts = and_parts (of_a_call q.fault) (own_faults qs) own in
    elim q.holds as (λ b. cond b (first_no qs) (Some q.fault) ≡ Some f → of_a_call f ≡ true) [
      | true ↦ λ (d : first_no qs ≡ Some f). first_no_own qs f parts.1 d
      | false ↦ λ (d : Some q.fault ≡ Some f). let same : q.fault ≡ f = cc in ap of_a_call (sym same) ∙ parts.0
    ] e

call_faults : (s : State) (c : Call) → own_faults (questions s c) ≡ true
unfolding own_faults
call_faults s (PayIn p n) = refl
call_faults s (PayOut p n) = refl
call_faults s (Terms t) = refl
call_faults s (Trade t) = refl
call_faults s (Consent n p) = refl
call_faults s (Cancel n) = refl
call_faults s (Tell p) = refl

-- after a passed opening a refusal has a number of the call's own
pub refused_by_call : (s : State) (c : Call) (f : Fault) → s.failed ≡ None → answer s c ≡ Err f → of_a_call f ≡ true
refused_by_call s c f passed e =
    first_no_own (questions s c) f (call_faults s c)
    (unless_fault (first_no (questions s c)) (result s c) f (rw passed at e))

-- after a failed one it has the opening's
pub refused_by_opening : (s : State) (c : Call) (f : Fault) → s.failed ≡ Some f → answer s c ≡ Err f
refused_by_opening s c f failed = rw failed

-- an accepted call was asked every question and none was answered no
pub accepted_asked : (s : State) (c : Call) (v : Answer) → answer s c ≡ Ok v → first_no (questions s c) ≡ None
accepted_asked s c v e =
    (unless_none (first_no (questions s c)) (Ok (result s c)) v (unless_none s.failed (asked (questions s c) (result s c)) v e).1).0
