-- What searches find, and what repetition comes to.
use Rattle.std.proofs.Common.{◌≡◌, ℕ, zero, suc, ◌<◌, ◌≤◌, Bool, true, false, cond, not, is_some, Some, None, Option, MatchOption, refl, ap, ◌∙◌, ⊎_elim, arith}
use Rattle.std.proofs.lemmas.Bool.{cases_eq, cases_lt, cases_Bool, cond-false, both_ways, false≢true}
use Rattle.netting.specs.Search.{or_at, first_below, last_below, none_below, FindsFirst, FindsLast, times}

first_more : (passes : ℕ → Bool) (n : ℕ) (found : Option ℕ) (here : Bool) → passes n ≡ here → FindsFirst n passes found → FindsFirst (suc n) passes (or_at found here n)
first_more passes n (Some i) here e known = (omega (arith, known.0), known.1, known.2)
first_more passes n None true e known = (omega arith, e, known)
first_more passes n None false e known = λ j h. ⊎_elim (λ (q : j ≡ n). ap passes q ∙ e) (λ (q : j ≡ n → ⊥). known j (omega arith)) (cases_eq j n)

pub first_known : (passes : ℕ → Bool) (n : ℕ) → FindsFirst n passes (first_below n passes)
first_known passes zero = λ j h. absurd (omega arith)
first_known passes (suc n) = first_more passes n (first_below n passes) (passes n) refl (first_known passes n)

-- no other is found
first_unique : (passes : ℕ → Bool) (n : ℕ) (a b : Option ℕ) → FindsFirst n passes a → FindsFirst n passes b → a ≡ b
first_unique passes n None None x y = refl
first_unique passes n None (Some j) x y = absurd (both_ways _ (x j y.0) y.1)
first_unique passes n (Some i) None x y = absurd (both_ways _ (y i x.0) x.1)
first_unique passes n (Some i) (Some j) x y =
    ⊎_elim
    (λ (q : i ≡ j). ap Some q)
    (λ (q : i ≡ j → ⊥). ⊎_elim (λ (l : i < j). absurd (both_ways _ (y.2 i l) x.1)) (λ (l : j ≤ i). absurd (both_ways _ (x.2 j (omega arith)) y.1)) (cases_lt i j))
    (cases_eq i j)

pub finds_first : (passes : ℕ → Bool) (m n : ℕ) (found : Option ℕ) →
    MatchOption found ((k : ℕ) → 0 ≤ k → k < m → passes k ≡ false) (λ i. (0 ≤ i) × (i < m) × (passes i ≡ true) × ((k : ℕ) → 0 ≤ k → k < i → passes k ≡ false)) → m ≡ n → FindsFirst n passes found
finds_first passes m n None none e = λ k h. none k (omega arith) (omega arith)
finds_first passes m n (Some i) some e = let below = some.1 in (omega arith, some.2, λ k h. some.3 k (omega arith) h)

pub first_found : (passes : ℕ → Bool) (n : ℕ) (found : Option ℕ) → FindsFirst n passes found → first_below n passes ≡ found
first_found passes n found finds = first_unique passes n _ found (first_known passes n) finds

-- two tests with the same answers
pub first_same : (passes other : ℕ → Bool) (n : ℕ) → ((i : ℕ) → i < n → passes i ≡ other i) → first_below n passes ≡ first_below n other
first_same passes other zero same = refl
first_same passes other (suc n) same = rw (first_same passes other n (λ i h. same i (omega arith)), same n (omega arith))

-- the same where something is known to be found, or not
pub first_some : (passes : ℕ → Bool) (n i : ℕ) → first_below n passes ≡ Some i → FindsFirst n passes (Some i)
first_some passes n i e = rw e at (first_known passes n)

pub first_none : (passes : ℕ → Bool) (n : ℕ) → first_below n passes ≡ None → FindsFirst n passes None
first_none passes n e = rw e at (first_known passes n)

pub first_passes_none : (passes : ℕ → Bool) (n : ℕ) → ((i : ℕ) → i < n → passes i ≡ false) → first_below n passes ≡ None
first_passes_none passes zero each = refl
first_passes_none passes (suc n) each = rw (first_passes_none passes n (λ i h. each i (omega arith))) (cond-false (passes n) (Some n) None (each n (omega arith)))

last_more : (passes : ℕ → Bool) (n : ℕ) (found : Option ℕ) (here : Bool) → passes n ≡ here → FindsLast n passes found → FindsLast (suc n) passes (cond here (Some n) found)
last_more passes n found true e known = (omega arith, e, λ j h above. absurd (omega arith))
last_more passes n None false e known = λ j h. ⊎_elim (λ (q : j ≡ n). ap passes q ∙ e) (λ (q : j ≡ n → ⊥). known j (omega arith)) (cases_eq j n)
last_more passes n (Some i) false e known = (
  omega (arith, known.0),
  known.1,
  λ j h above. ⊎_elim (λ (q : j ≡ n). ap passes q ∙ e) (λ (q : j ≡ n → ⊥). known.2 j (omega arith) above) (cases_eq j n),
)

pub last_known : (passes : ℕ → Bool) (n : ℕ) → FindsLast n passes (last_below n passes)
last_known passes zero = λ j h. absurd (omega arith)
last_known passes (suc n) = last_more passes n (last_below n passes) (passes n) refl (last_known passes n)

last_same : (passes : ℕ → Bool) (n : ℕ) (a b : Option ℕ) → FindsLast n passes a → FindsLast n passes b → a ≡ b
last_same passes n None None x y = refl
last_same passes n None (Some j) x y = absurd (both_ways _ (x j y.0) y.1)
last_same passes n (Some i) None x y = absurd (both_ways _ (y i x.0) x.1)
last_same passes n (Some i) (Some j) x y =
    ⊎_elim
    (λ (q : i ≡ j). ap Some q)
    (λ (q : i ≡ j → ⊥). ⊎_elim (λ (l : i < j). absurd (both_ways _ (x.2 j y.0 l) y.1)) (λ (l : j ≤ i). absurd (both_ways _ (y.2 i x.0 (omega arith)) x.1)) (cases_lt i j))
    (cases_eq i j)

pub last_found : (passes : ℕ → Bool) (n : ℕ) (found : Option ℕ) → FindsLast n passes found → last_below n passes ≡ found
last_found passes n found finds = last_same passes n _ found (last_known passes n) finds

pub last_some : (passes : ℕ → Bool) (n i : ℕ) → last_below n passes ≡ Some i → FindsLast n passes (Some i)
last_some passes n i e = rw e at (last_known passes n)

pub last_none : (passes : ℕ → Bool) (n : ℕ) → last_below n passes ≡ None → FindsLast n passes None
last_none passes n e = rw e at (last_known passes n)

-- what every step keeps
pub times_keeps : {X : Type 0} (step : X → X) (Holds : X → Type 0) → ((x : X) → Holds x → Holds (step x)) → (n : ℕ) (x : X) → Holds x → Holds (times n step x)
times_keeps step Holds keeps zero x holds = holds
times_keeps step Holds keeps (suc n) x holds = times_keeps step Holds keeps n (step x) (keeps x holds)

-- a step that changes nothing, repeated
pub times_same : {X : Type 0} (n : ℕ) (step : X → X) (x : X) → step x ≡ x → times n step x ≡ x
times_same zero step x same = refl
times_same (suc n) step x same = rw same (times_same n step x same)

module _ {X : Type 0} (next : X → Option ℕ) (step : X → X) (left : X → ℕ) (Holds : X → Type 0)
    (still : (x : X) → next x ≡ None → step x ≡ x)
    (falls : (x : X) (i : ℕ) → Holds x → next x ≡ Some i → (left x ≡ suc (left (step x))) × Holds (step x)) where
  comes : (n : ℕ) (x : X) (found : Option ℕ) → next x ≡ found → left x ≡ n → Holds x → next (times n step x) ≡ None
  comes n x None e count holds = rw (times_same n step x (still x e)) e
  comes zero x (Some i) e count holds = let more = (falls x i holds e).0 in absurd (omega arith)
  comes (suc n) x (Some i) e count holds =
      let more = falls x i holds e in
      comes n (step x) (next (step x)) refl (let fall = more.0 in omega arith) more.1

  -- a step taken as often as is left comes to an end
  pub ends : (x : X) → Holds x → next (times (left x) step x) ≡ None
  ends x holds = comes (left x) x (next x) refl refl holds

-- one step less to take
pub times_less : {X : Type 0} (step : X → X) (left : X → ℕ) (x : X) → left x ≡ suc (left (step x)) → times (left x) step x ≡ times (left (step x)) step (step x)
times_less step left x fall = rw fall

nothing_found : (found : Option ℕ) → not (is_some found) ≡ true → found ≡ None
nothing_found None e = refl
nothing_found (Some i) e = absurd (false≢true e)

module _ (passes : ℕ → Bool) (n : ℕ) where
  pub none_from : first_below n passes ≡ None → none_below n passes ≡ true
  none_from e = rw e

  pub none_at : none_below n passes ≡ true → (i : ℕ) → i < n → passes i ≡ false
  none_at e = first_none passes n (nothing_found (first_below n passes) e)

  pub none_all : ((i : ℕ) → i < n → passes i ≡ false) → none_below n passes ≡ true
  none_all each = none_from (first_passes_none passes n each)

  pub none_fails : (i : ℕ) → i < n → passes i ≡ true → none_below n passes ≡ false
  none_fails i h here =
      ⊎_elim
      (λ (e : none_below n passes ≡ true). absurd (both_ways (passes i) (none_at e i h) here))
      (λ (e : none_below n passes ≡ false). e)
      (cases_Bool (none_below n passes))
