-- Every history is lawful.
use Rattle.std.proofs.Common.{◌≡◌, ℕ, Bool, true, false, cond, List, [], ◌∷◌, is_some, is_ok, Some, None, Ok, Err, Option, Result, sym, refl, ap, ◌∙◌, arith}
use Rattle.std.proofs.lemmas.Bool.{cond-false, false≢true}
use Rattle.std.proofs.lemmas.Bool.Decides.{nat_tests}
use Rattle.fault.specs.declared.fault.Fault.{Fault}
use Rattle.fault.specs.declared.fault.Fault.TheVariants.{NotOnBook, CancelTooLate}
use Rattle.fault.specs.Questions.{first_no, ask, asked, unless}
use Rattle.fault.proofs.Asking.{all_hold}
use Rattle.movement.specs.declared.movement.Movement.{Movement}
use Rattle.book.specs.State.{State}
use Rattle.movement.specs.Settings.{terms_after}
use Rattle.book.specs.Daily.{Daily, on_book, whether, cancellable}
use Rattle.book.specs.Opening.{Opening, opened, failed_question}
use Rattle.history.specs.declared.call.Call.{Call}
use Rattle.history.specs.declared.call.Call.TheVariants.{PayIn, PayOut, Terms, Trade, Consent, Cancel, Tell}
use Rattle.history.specs.declared.call.Answer.{Answer}
use Rattle.history.specs.declared.call.Answer.TheVariants.{Done}
use Rattle.history.specs.Step.{questions, answer, after, effect, Stepped}
use Rattle.history.specs.History.{Event, event, Leads, opens, goes}
use Rattle.history.specs.Statement.{Statement, statement, read_call}
use Rattle.history.specs.Law.{Lawful, LawfulAnswers, LawfulTrades, Extends, Performed, traded_by, cancelled_by, got_50, on_the_book}
use Rattle.history.proofs.Numbers.{count, counted_once}
use Rattle.history.proofs.Answering.{refused_by_call, refused_by_opening, accepted_asked}
use Rattle.history.proofs.Amounts.{opened_amounts, nothing_booked, accepted_amounts}
use Rattle.history.proofs.Counts.{Counted, neither, consented_counted, cancelled_counted, entered_counted}

-- what the cancel of a number would get tells whether it is on the book
told_by_cancel : (s : State) (n : ℕ) → s.failed ≡ None → on_the_book s n ≡ cond (is_some (on_book n s.daily.movements)) 1 0
told_by_cancel s n passed =
    ap (λ o. cond (got_50 (unless o (asked (questions s (Cancel n)) Done))) 0 1) passed ∙ by_book (on_book n s.daily.movements)
  where
    by_test : (b : Bool) → ◌≡◌ {A = ℕ} (cond (got_50 (asked (ask b CancelTooLate ∷ []) Done)) 0 1) 1
    by_test true = refl
    by_test false = refl

    by_book : (o : Option Movement) → ◌≡◌ {A = ℕ} (cond (got_50 (asked (ask (is_some o) NotOnBook ∷ (ask (whether (cancellable s.daily) o) CancelTooLate ∷ [])) Done)) 0 1) (cond (is_some o) 1 0)
    by_book (Some m) = by_test (cancellable s.daily m)
    by_book None = refl

-- the law, with what its proof needs besides
record Sound (o : Opening) (h : List Event) (s : State) : Type 0 where
  pub lawful : Lawful o h s
  pub counted : Counted h s.daily (statement o h)

lawful_trades : (o : Opening) (h : List Event) (s : State) → s.failed ≡ failed_question o → Counted h s.daily (statement o h) → LawfulTrades o h s
lawful_trades o h s good c = record {
  placed = λ passed n.
      let told = told_by_cancel s n (good ∙ passed) in
      let counts = c.counts n in
      let once = c.once n in
      let single = counted_once n s.daily.movements (omega arith) in
      omega arith;
  once = c.once;
  noted = c.noted;
  terms = c.terms;
}

opened_sound : (o : Opening) → Sound o [] (opened o)
opened_sound o = record {
  lawful = record {
    amounts = opened_amounts o;
    answers = record { for_good = refl; passed = λ e. tt; refused = λ f e. tt };
    trades = lawful_trades o [] (opened o) refl nothing_yet;
  };
  counted = nothing_yet;
}
  where
    nothing_yet : Counted [] (opened o).daily (statement o [])
    nothing_yet = record {
      counts = λ n. refl;
      fresh = λ n above. refl;
      once = λ n. omega arith;
      recorded = λ n. refl;
      noted = λ n m e. let z : ◌≡◌ {A = ℕ} 0 1 = cc in absurd (omega arith);
      terms = refl;
      half = refl;
    }

module _ (o : Opening) (h : List Event) (s : State) (c : Call) (sound : Sound o h s) where
  -- the answer is one that the law allows
  answers_after : (r : Result Answer Fault) (t : State) → answer s c ≡ r → t.failed ≡ s.failed → LawfulAnswers o (event c r ∷ h) t
  answers_after r t e same =
      let before = sound.lawful.answers in
      record {
        for_good = same ∙ before.for_good;
        passed = λ passed. (λ f d. refused_by_call s c f (before.for_good ∙ passed) (e ∙ d), before.passed passed);
        refused = λ f failed. (sym e ∙ refused_by_opening s c f (before.for_good ∙ failed), before.refused f failed);
      }

  refused_sound : (f : Fault) → answer s c ≡ Err f → Sound o (event c (Err f) ∷ h) s
  refused_sound f e =
      let before = sound.counted in
      let counted : Counted (event c (Err f) ∷ h) s.daily (statement o h) =
      neither h s.daily (statement o h) before (event c (Err f)) s.daily (statement o h) (λ n. refl) (λ n. refl) refl (λ n. refl) (λ n. refl) before.noted before.terms before.half in
      record {
        lawful = record {
          amounts = nothing_booked o h s sound.lawful.amounts (event c (Err f)) s (λ side. refl) refl (λ side k. refl);
          answers = answers_after (Err f) s e refl;
          trades = lawful_trades o (event c (Err f) ∷ h) s sound.lawful.answers.for_good counted;
        };
        counted = counted;
      }

  -- a call that enters, cancels and notes no trade
  unlisted : (v : Answer) (d : Daily) (t : Statement) → ((n : ℕ) → traded_by c n ≡ 0) → ((n : ℕ) → cancelled_by c n ≡ 0) → d.highest ≡ s.daily.highest → d.movements ≡ s.daily.movements → t.trades ≡ (statement o h).trades → d.terms ≡ t.terms → d.half ≡ t.half → Counted (event c (Ok v) ∷ h) d t
  unlisted v d t enters cancels highest movements trades terms half =
      let before = sound.counted in
      neither h s.daily (statement o h) before (event c (Ok v)) d t enters cancels highest
      (λ n. ap (count n) movements)
      (λ n. ap (count n) trades)
      (λ n m e. ap (on_book n) trades ∙ before.noted n m (ap (on_book n) (sym movements) ∙ e))
      terms
      half

some_of : (o : Option Movement) → is_some o ≡ true → (m : Movement) × (o ≡ Some m)
some_of (Some m) e = (m, refl)
some_of None e = absurd (false≢true e)

effect_counted : (o : Opening) (h : List Event) (s : State) (c : Call) (sound : Sound o h s) (v : Answer) → first_no (questions s c) ≡ None → Counted (event c (Ok v) ∷ h) (effect s c).daily (read_call c (statement o h))
effect_counted o h s (PayIn p n) sound v passed =
    unlisted o h s (PayIn p n) sound v _ _ (λ n. refl) (λ n. refl) refl refl refl sound.counted.terms sound.counted.half
effect_counted o h s (PayOut p n) sound v passed =
    unlisted o h s (PayOut p n) sound v _ _ (λ n. refl) (λ n. refl) refl refl refl sound.counted.terms sound.counted.half
effect_counted o h s (Terms t) sound v passed =
    unlisted o h s (Terms t) sound v _ _ (λ n. refl) (λ n. refl) refl refl refl (ap (λ a. terms_after a t) sound.counted.terms) sound.counted.half
effect_counted o h s (Trade t) sound v passed =
    entered_counted h s.daily (statement o h) sound.counted t v (let all = all_hold (questions s (Trade t)) passed in grind (arith, nat_tests))
effect_counted o h s (Consent n p) sound v passed = consented_counted h s.daily (statement o h) sound.counted n p v
effect_counted o h s (Cancel n) sound v passed =
    let found = some_of (on_book n s.daily.movements) (all_hold (questions s (Cancel n)) passed).0 in
    cancelled_counted h s.daily (statement o h) sound.counted n v found.0 found.1
effect_counted o h s (Tell p) sound v passed =
    unlisted o h s (Tell p) sound v _ _ (λ n. refl) (λ n. refl) refl refl refl sound.counted.terms sound.counted.half

effect_good : (s : State) (c : Call) → (effect s c).failed ≡ s.failed
effect_good s (PayIn p n) = refl
effect_good s (PayOut p n) = refl
effect_good s (Terms t) = refl
effect_good s (Trade t) = refl
effect_good s (Consent n p) = refl
effect_good s (Cancel n) = refl
effect_good s (Tell p) = refl

accepted_sound : (o : Opening) (h : List Event) (s : State) (c : Call) (sound : Sound o h s) (v : Answer) → answer s c ≡ Ok v → Sound o (event c (Ok v) ∷ h) (effect s c)
accepted_sound o h s c sound v e =
    let passed = accepted_asked s c v e in
    let counted = effect_counted o h s c sound v passed in
    record {
      lawful = record {
        amounts = accepted_amounts o h s sound.lawful.amounts c v passed;
        answers = answers_after o h s c sound (Ok v) (effect s c) e (effect_good s c);
        trades = lawful_trades o (event c (Ok v) ∷ h) (effect s c) (effect_good s c ∙ sound.lawful.answers.for_good) counted;
      };
      counted = counted;
    }

step_sound : (o : Opening) (h : List Event) (s : State) (c : Call) (sound : Sound o h s) (r : Result Answer Fault) → answer s c ≡ r → Sound o (event c r ∷ h) (cond (is_ok r) (effect s c) s)
step_sound o h s c sound (Ok v) e = accepted_sound o h s c sound v e
step_sound o h s c sound (Err f) e = refused_sound o h s c sound f e

all_sound : {o : Opening} {h : List Event} {s : State} → Leads o h s → Sound o h s
all_sound {o} opens = opened_sound o
all_sound {o} (goes {h} {s} c before) = step_sound o h s c (all_sound before) (answer s c) refl

pub all_lawful : {o : Opening} {h : List Event} {s : State} → Leads o h s → Lawful o h s
all_lawful leads = (all_sound leads).lawful

extends : (s : State) (c : Call) → Extends s (event c (answer s c)) (after s c)
extends s c o h before = let leads : Leads o (event c (answer s c) ∷ h) (after s c) = goes c before in (leads, all_lawful leads)

pub performed : (s : State) (c : Call) (r : Result Answer Fault) (t : State) → Stepped s c r t → Performed s c r t
performed s c r t steps = record {
  stepped = steps;
  unchanged = λ e. steps.becomes ∙ cond-false (is_ok (answer s c)) (effect s c) s (ap is_ok (sym steps.answered) ∙ e);
  extends = rw (steps.answered, steps.becomes) (extends s c);
}
