-- Every trade is counted once: on the book, or cancelled; and noted as it is on the book.
use Rattle.std.proofs.Common.{◌≡◌, ℕ, ◌+◌, ◌<◌, ◌≤◌, cond, eqb, List, [], ◌∷◌, ◌++◌, is_ok, Some, None, Ok, Option, sym, refl, ap, ◌∙◌, ⊎_elim, arith}
use Rattle.std.proofs.lemmas.Bool.{cases_eq, eq-eqb, ne_eqb}
use Rattle.std.specs.Option.{option_map}
use Rattle.movement.specs.declared.movement.Movement.{Movement}
use Rattle.movement.specs.declared.trade.Trade.{Trade as Report}
use Rattle.movement.specs.Forming.{movement_of}
use Rattle.movement.specs.Consents.{consented}
use Rattle.book.specs.Daily.{Daily, on_book, without, changed_at, class_known, traded, entered, consented_to, cancelled}
use Rattle.history.specs.declared.call.Call.TheVariants.{Trade, Consent, Cancel}
use Rattle.history.specs.declared.call.Answer.{Answer}
use Rattle.history.specs.History.{Event, event}
use Rattle.history.specs.Statement.{Statement, read_call}
use Rattle.history.specs.Law.{over, traded_by, cancelled_by}
use Rattle.history.proofs.Numbers.{count, count_push, count_changed, changed_here, changed_there, counts_same, counts_other, count_left, count_left_other, left_other, found_counts, none_counted, pushed_found, pushed_new}

-- what the movements d on the book, the history h and the statement t have to do with one another
pub record Counted (h : List Event) (d : Daily) (t : Statement) : Type 0 where
  pub counts : (n : ℕ) → count n d.movements + over cancelled_by h n ≡ over traded_by h n
  -- no number above the highest was accepted
  pub fresh : (n : ℕ) → d.highest < n → over traded_by h n ≡ 0
  pub once : (n : ℕ) → over traded_by h n ≤ 1
  pub recorded : (n : ℕ) → count n t.trades ≡ over traded_by h n
  pub noted : (n : ℕ) (m : Movement) → on_book n d.movements ≡ Some m → on_book n t.trades ≡ Some m
  pub terms : d.terms ≡ t.terms
  pub half : d.half ≡ t.half

abbrev NotedIn : Daily → Statement → Type 0
NotedIn d t = (n : ℕ) (m : Movement) → on_book n d.movements ≡ Some m → on_book n t.trades ≡ Some m

module _ (h : List Event) (d : Daily) (t : Statement) (c : Counted h d t) where
  -- an event that enters and cancels nothing
  pub neither : (e : Event) (d' : Daily) (t' : Statement) → ((n : ℕ) → cond (is_ok e.answer) (traded_by e.call n) 0 ≡ 0) → ((n : ℕ) → cond (is_ok e.answer) (cancelled_by e.call n) 0 ≡ 0) → d'.highest ≡ d.highest → ((n : ℕ) → count n d'.movements ≡ count n d.movements) → ((n : ℕ) → count n t'.trades ≡ count n t.trades) → NotedIn d' t' → d'.terms ≡ t'.terms → d'.half ≡ t'.half → Counted (e ∷ h) d' t'
  neither e d' t' enters cancels highest book trades noted terms half = record {
    counts = λ n. let before = c.counts n in let now = book n in let a = enters n in let b = cancels n in omega arith;
    fresh = λ n above. let before = c.fresh n (omega arith) in let a = enters n in omega arith;
    once = λ n. let before = c.once n in let a = enters n in omega arith;
    recorded = λ n. let before = c.recorded n in let now = trades n in let a = enters n in omega arith;
    noted = noted;
    terms = terms;
    half = half;
  }

  -- a consent changes the movement of a number on the book and in the statement alike
  consent_noted : (f : Movement → Movement) → ((m : Movement) → (f m).number ≡ m.number) → (k : ℕ) (n : ℕ) (m : Movement) → on_book n (changed_at k f d.movements) ≡ Some m → on_book n (changed_at k f t.trades) ≡ Some m
  consent_noted f same k n m e =
      ⊎_elim
      (λ (q : n ≡ k).
      let here : option_map f (on_book k d.movements) ≡ Some m = sym (changed_here f same k d.movements) ∙ ap (λ i. on_book i (changed_at k f d.movements)) (sym q) ∙ e in
      let there : on_book n (changed_at k f t.trades) ≡ option_map f (on_book k t.trades) = ap (λ i. on_book i (changed_at k f t.trades)) q ∙ changed_here f same k t.trades in
      there ∙ mapped_noted f k m here)
      (λ (q : n ≡ k → ⊥).
      changed_there f same n k t.trades q ∙ c.noted n m (sym (changed_there f same n k d.movements q) ∙ e))
      (cases_eq n k)
    where
      mapped_noted : (g : Movement → Movement) (i : ℕ) (x : Movement) → option_map g (on_book i d.movements) ≡ Some x → option_map g (on_book i t.trades) ≡ Some x
      mapped_noted g i x p =
          elim (on_book i d.movements) as (λ o. on_book i d.movements ≡ o → option_map g o ≡ Some x → option_map g (on_book i t.trades) ≡ Some x) [
            | None ↦ λ r p. let z : ◌≡◌ {A = ℕ} 0 1 = cc in absurd (omega arith)
            | Some y ↦ λ r p. ap (option_map g) (c.noted i y r) ∙ p
          ] refl p

  pub consented_counted : (k p : ℕ) (v : Answer) → Counted (event (Consent k p) (Ok v) ∷ h) (consented_to d k p) (read_call (Consent k p) t)
  consented_counted k p v =
      let f : Movement → Movement = λ m. consented m p d.half in
      let g : Movement → Movement = λ m. consented m p t.half in
      let alike : changed_at k g t.trades ≡ changed_at k f t.trades = ap (λ x. changed_at k (λ m. consented m p x) t.trades) (sym c.half) in
      neither (event (Consent k p) (Ok v)) (consented_to d k p) (read_call (Consent k p) t) (λ n. refl) (λ n. refl) refl
      (λ n. count_changed f (λ m. refl) n k d.movements)
      (λ n. count_changed g (λ m. refl) n k t.trades)
      (λ n m e. ap (on_book n) alike ∙ consent_noted f (λ m. refl) k n m e)
      c.terms
      c.half

  -- a cancel: the movement leaves the book, its note stays
  pub cancelled_counted : (k : ℕ) (v : Answer) (x : Movement) → on_book k d.movements ≡ Some x → Counted (event (Cancel k) (Ok v) ∷ h) (cancelled d k) t
  cancelled_counted k v x found = record {
    counts = λ n.
        ⊎_elim
        (λ (q : n ≡ k).
        let before = c.counts n in
        let left = count_left k d.movements x found n in
        omega arith)
        (λ (q : n ≡ k → ⊥).
        let before = c.counts n in
        let left = count_left_other n k d.movements q in
        let none = counts_other k n (λ (p : k ≡ n). q (sym p)) in
        omega arith)
        (cases_eq n k);
    fresh = λ n above. let before = c.fresh n above in omega arith;
    once = λ n. let before = c.once n in omega arith;
    recorded = λ n. let before = c.recorded n in omega arith;
    noted = λ n m e.
        ⊎_elim
        (λ (q : n ≡ k).
        let again = found_counts n (without k d.movements) m e in
        let left = count_left k d.movements x found n in
        let here = counts_same k n (sym q) in
        let before = c.counts n in
        let single = c.once n in
        absurd (omega arith))
        (λ (q : n ≡ k → ⊥). c.noted n m (sym (left_other n k d.movements q) ∙ e))
        (cases_eq n k);
    terms = c.terms;
    half = c.half;
  }

  -- a trade of a new number
  pub entered_counted : (x : Report) (v : Answer) → d.highest < x.number → Counted (event (Trade x) (Ok v) ∷ h) (entered d x) (read_call (Trade x) t)
  entered_counted x v above =
      let new : over traded_by h x.number ≡ 0 = c.fresh x.number above in
      let alike : movement_of t.terms (class_known x.class) x ≡ traded d x = ap (λ a. movement_of a (class_known x.class) x) (sym c.terms) in
      record {
        counts = λ n. let before = c.counts n in let more = count_push n d.movements (traded d x) in omega arith;
        fresh = λ n higher.
            let before = c.fresh n (omega arith) in
            let other = ap (λ b. cond {A = ℕ} b 1 0) (ne_eqb x.number n (λ (q : x.number ≡ n). omega arith)) in
            omega arith;
        once = λ n.
            ⊎_elim
            (λ (q : x.number ≡ n). let before = ap (over traded_by h) (sym q) ∙ new in let one = ap (λ b. cond {A = ℕ} b 1 0) (eq-eqb x.number n q) in omega arith)
            (λ (q : x.number ≡ n → ⊥). let before = c.once n in let none = ap (λ b. cond {A = ℕ} b 1 0) (ne_eqb x.number n q) in omega arith)
            (cases_eq x.number n);
        recorded = λ n. let before = c.recorded n in let more = count_push n t.trades (movement_of t.terms (class_known x.class) x) in omega arith;
        noted = λ n m e. ap (λ y. on_book n (t.trades ++ (y ∷ []))) alike ∙ pushed_noted n m e (on_book n d.movements) refl;
        terms = c.terms;
        half = c.half;
      }
    where
      pushed_noted : (n : ℕ) (m : Movement) → on_book n (d.movements ++ (traded d x ∷ [])) ≡ Some m → (o : Option Movement) → on_book n d.movements ≡ o → on_book n (t.trades ++ (traded d x ∷ [])) ≡ Some m
      pushed_noted n m e (Some y) found =
          let same : Some y ≡ Some m = sym (pushed_found n d.movements (traded d x) y found) ∙ e in
          pushed_found n t.trades (traded d x) y (c.noted n y found) ∙ same
      pushed_noted n m e None found =
          let here : cond (eqb x.number n) (Some (traded d x)) None ≡ Some m = sym (pushed_new n d.movements (traded d x) found) ∙ e in
          ⊎_elim
          (λ (q : x.number ≡ n).
          let none : on_book n t.trades ≡ None = none_counted n t.trades (c.recorded n ∙ ap (over traded_by h) (sym q) ∙ c.fresh x.number above) in
          pushed_new n t.trades (traded d x) none ∙ here)
          (λ (q : x.number ≡ n → ⊥).
          let never : ◌≡◌ {A = Option Movement} None (Some m) = sym (ap (λ b. cond b (Some (traded d x)) None) (ne_eqb x.number n q)) ∙ here in
          let z : ◌≡◌ {A = ℕ} 0 1 = cc in
          absurd (omega arith))
          (cases_eq x.number n)
