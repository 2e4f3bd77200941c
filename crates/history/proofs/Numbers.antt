-- How often a number stands in a list of movements, and which movement it finds there.
use Rattle.std.proofs.Common.{◌≡◌, ℕ, suc, ◌+◌, ◌<◌, ◌≤◌, Bool, true, false, not, cond, eqb, List, [], ◌∷◌, ◌++◌, length, get_or, set, take, drop, is_some, Some, None, Option, sym, refl, ap, ◌∙◌, ⊎_elim, add-one, arith}
use Rattle.std.proofs.lemmas.Bool.{cases_eq, eqb-true, eq-eqb, ne_eqb}
use Rattle.std.proofs.lemmas.List.Folds.{find_at, find-set, find_past, find-append}
use Rattle.std.proofs.lemmas.List.Sums.{sum_by-cons, sum_by_push, sum_by-set, sum_by-remove, passes_at_first, split_at_first}
use Rattle.std.proofs.lemmas.Option.{get_or_from_slice_get, slice_get_within, none-some}
use Rattle.std.specs.List.{count_by, find, remove, slice_get}
use Rattle.std.specs.Option.{option_map, option_map_or, option_or}
use Rattle.movement.specs.declared.movement.Movement.{Movement}
use Rattle.book.specs.Daily.{has_number, on_book, place_of, without, changed_at}

abbrev pub count : ℕ → List Movement → ℕ
count n ms = count_by (has_number n) ms

-- whether the movement counts
abbrev counts : ℕ → Movement → ℕ
counts n m = cond (eqb m.number n) 1 0

pub counts_same : (n k : ℕ) → n ≡ k → cond {A = ℕ} (eqb n k) 1 0 ≡ 1
counts_same n k e = ap (λ b. cond {A = ℕ} b 1 0) (eq-eqb n k e)

pub counts_other : (n k : ℕ) → (n ≡ k → ⊥) → cond {A = ℕ} (eqb n k) 1 0 ≡ 0
counts_other n k e = ap (λ b. cond {A = ℕ} b 1 0) (ne_eqb n k e)

-- the movement m that stands at the place of its number n
record Stands (ms : List Movement) (n : ℕ) (m : Movement) : Type 0 where
  within : place_of n ms < length ms
  read : (d : Movement) → get_or ms (place_of n ms) d ≡ m
  number : m.number ≡ n

stands : (n : ℕ) (ms : List Movement) (m : Movement) → on_book n ms ≡ Some m → Stands ms n m
stands n ms m found =
    let at : slice_get ms (place_of n ms) ≡ Some m = sym (find_at (has_number n) ms) ∙ found in
    let within = slice_get_within ms (place_of n ms) m at in
    let read = λ (d : Movement). get_or_from_slice_get ms (place_of n ms) m d at in
    record {
      within = within;
      read = read;
      number = eqb-true m.number n (ap (has_number n) (sym (read m)) ∙ passes_at_first (has_number n) ms m within);
    }

pub count_push : (n : ℕ) (ms : List Movement) (x : Movement) → count n (ms ++ (x ∷ [])) ≡ count n ms + cond (eqb x.number n) 1 0
count_push n ms x = sum_by_push (counts n) ms x

-- by cases of what a number finds
by_found : (P : Option Movement → Type 0) (n : ℕ) (ms : List Movement) → (on_book n ms ≡ None → P None) → ((m : Movement) → on_book n ms ≡ Some m → P (Some m)) → P (on_book n ms)
by_found P n ms none some =
    elim (on_book n ms) as (λ o. on_book n ms ≡ o → P o) [ None ↦ none | Some m ↦ some m ] refl

module _ (f : Movement → Movement) (same : (m : Movement) → (f m).number ≡ m.number) where
  -- the list with what the number k found changed
  abbrev left_by : ℕ → List Movement → Option Movement → List Movement
  left_by k ms o = option_map_or (λ x. set ms (place_of k ms) (f x)) o ms

  pub count_changed : (n k : ℕ) (ms : List Movement) → count n (changed_at k f ms) ≡ count n ms
  count_changed n k ms =
      by_found (λ o. count n (left_by k ms o) ≡ count n ms) k ms
      (λ none. refl)
      (λ m found.
      let at = stands k ms m found in
      let written = sum_by-set (counts n) ms (place_of k ms) (f m) m at.within in
      let read = ap (counts n) (at.read m) in
      let alike = ap (λ x. cond {A = ℕ} (eqb x n) 1 0) (same m) in
      omega arith)

  -- the movement of the number is changed
  pub changed_here : (n : ℕ) (ms : List Movement) → on_book n (changed_at n f ms) ≡ option_map f (on_book n ms)
  changed_here n ms =
      by_found (λ o. on_book n (left_by n ms o) ≡ option_map f o) n ms
      (λ none. none)
      (λ m found.
      let at = stands n ms m found in
      find-set (has_number n) ms (place_of n ms) (f m) refl at.within (eq-eqb (f m).number n (same m ∙ at.number)))

  -- .. and no other
  pub changed_there : (k n : ℕ) (ms : List Movement) → (k ≡ n → ⊥) → on_book k (changed_at n f ms) ≡ on_book k ms
  changed_there k n ms other =
      by_found (λ o. on_book k (left_by n ms o) ≡ on_book k ms) n ms
      (λ none. refl)
      (λ m found.
      let at = stands n ms m found in
      find_past (has_number k) ms (place_of n ms) (f m) m
      (ap (has_number k) (at.read m) ∙ ne_eqb m.number k (λ (q : m.number ≡ k). other (sym q ∙ at.number)))
      (ne_eqb (f m).number k (λ (q : (f m).number ≡ k). other (sym q ∙ same m ∙ at.number))))

-- the movement x of number n left the list
module _ (n : ℕ) (ms : List Movement) (x : Movement) (found : on_book n ms ≡ Some x) where
  pub count_left : (k : ℕ) → count k (without n ms) + cond (eqb n k) 1 0 ≡ count k ms
  count_left k =
      let at = stands n ms x found in
      let left = sum_by-remove (counts k) ms (place_of n ms) x at.within in
      let read = ap (counts k) (at.read x) in
      let alike = ap (λ i. cond {A = ℕ} (eqb i k) 1 0) at.number in
      omega arith

  pub found_counts : 1 ≤ count n ms
  found_counts = let left = count_left n in let here = counts_same n n refl in omega arith

  found_left_other : (k : ℕ) → (k ≡ n → ⊥) → on_book k (without n ms) ≡ on_book k ms
  found_left_other k other =
      let at = stands n ms x found in
      let i = place_of n ms in
      let skips : has_number k (get_or ms i x) ≡ false =
      ap (has_number k) (at.read x) ∙ ne_eqb x.number k (λ (q : x.number ≡ k). other (sym q ∙ at.number)) in
      let parts = find-append (has_number k) (take i ms) (get_or ms i x ∷ drop (i + 1) ms) in
      find-append (has_number k) (take i ms) (drop (suc i) ms)
      ∙ ap (λ j. option_or (find (has_number k) (take i ms)) (find (has_number k) (drop j ms))) (sym (add-one i))
      ∙ sym
      (ap (find (has_number k)) (split_at_first (has_number n) ms x at.within)
      ∙ parts
      ∙ ap (λ b. option_or (find (has_number k) (take i ms)) (cond b (Some (get_or ms i x)) (find (has_number k) (drop (i + 1) ms)))) skips)

-- a number that is not on the book leaves every movement there
without_absent : (n : ℕ) (ms : List Movement) → on_book n ms ≡ None → without n ms ≡ ms
without_absent n [] none = refl
without_absent n (m ∷ ms) none = by (eqb m.number n) (without_absent n ms) none
  where
    by : (b : Bool) → (on_book n ms ≡ None → without n ms ≡ ms) → cond b (Some m) (on_book n ms) ≡ None → remove (m ∷ ms) (cond (not b) (1 + place_of n ms) 0) ≡ m ∷ ms
    by true rest q = absurd (none-some m (sym q))
    by false rest q =
        let next : 1 + place_of n ms ≡ suc (place_of n ms) = omega arith in
        ap (remove (m ∷ ms)) next ∙ ap (λ xs. m ∷ xs) (rest q)

-- a number that leaves, on the book or not, takes no movement of another
pub count_left_other : (k n : ℕ) (ms : List Movement) → (k ≡ n → ⊥) → count k (without n ms) ≡ count k ms
count_left_other k n ms other =
    by_found (λ o. count k (without n ms) ≡ count k ms) n ms
    (λ none. ap (count k) (without_absent n ms none))
    (λ x found.
    let left = count_left n ms x found k in
    let none = counts_other n k (λ (q : n ≡ k). other (sym q)) in
    omega arith)

pub left_other : (k n : ℕ) (ms : List Movement) → (k ≡ n → ⊥) → on_book k (without n ms) ≡ on_book k ms
left_other k n ms other =
    by_found (λ o. on_book k (without n ms) ≡ on_book k ms) n ms
    (λ none. ap (on_book k) (without_absent n ms none))
    (λ x found. found_left_other n ms x found k other)

pub none_counted : (n : ℕ) (ms : List Movement) → count n ms ≡ 0 → on_book n ms ≡ None
none_counted n ms zero_counted =
    by_found (λ o. o ≡ None) n ms (λ none. refl) (λ x found. let some = found_counts n ms x found in absurd (omega arith))

not_counted : (n : ℕ) (ms : List Movement) → on_book n ms ≡ None → count n ms ≡ 0
not_counted n [] none = refl
not_counted n (m ∷ ms) none =
    let first = sum_by-cons (counts n) m ms in
    ⊎_elim
    (λ (q : m.number ≡ n). absurd (none-some m (sym none ∙ ap (λ b. cond b (Some m) (on_book n ms)) (eq-eqb m.number n q))))
    (λ (q : m.number ≡ n → ⊥).
    let rest = not_counted n ms (sym (ap (λ b. cond b (Some m) (on_book n ms)) (ne_eqb m.number n q)) ∙ none) in
    let here = counts_other m.number n q in
    omega arith)
    (cases_eq m.number n)

-- a number counted once is the number of one movement
pub counted_once : (n : ℕ) (ms : List Movement) → count n ms ≤ 1 → cond (is_some (on_book n ms)) 1 0 ≡ count n ms
counted_once n ms once =
    by_found (λ o. cond (is_some o) 1 0 ≡ count n ms) n ms
    (λ none. sym (not_counted n ms none))
    (λ m found. let some = found_counts n ms m found in omega arith)

-- one more at the end
pub pushed_found : (n : ℕ) (ms : List Movement) (x y : Movement) → on_book n ms ≡ Some y → on_book n (ms ++ (x ∷ [])) ≡ Some y
pushed_found n ms x y found = find-append (has_number n) ms (x ∷ []) ∙ ap (λ o. option_or o (on_book n (x ∷ []))) found

pub pushed_new : (n : ℕ) (ms : List Movement) (x : Movement) → on_book n ms ≡ None → on_book n (ms ++ (x ∷ [])) ≡ cond (eqb x.number n) (Some x) None
pushed_new n ms x none = find-append (has_number n) ms (x ∷ []) ∙ ap (λ o. option_or o (on_book n (x ∷ []))) none
