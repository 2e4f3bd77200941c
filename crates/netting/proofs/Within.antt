-- The limits as facts.
use Rattle.std.proofs.Common.{◌≡◌, ℕ, ◌+◌, ◌-◌, ◌<◌, ◌≤◌, ◌↔◌, Bool, true, false, List, length, sym, refl, ◌∙◌, IsTrue, nat_le, slice_index, ⊎_elim, arith}
use Rattle.std.proofs.lemmas.Bool.{and_parts, both_ways, cases_Bool, false≢true, leb-true, leb-false}
use Rattle.std.proofs.lemmas.Grind.{get_or_default_zero}
use Rattle.std.proofs.lemmas.Bool.Decides.{nat_tests}
use Rattle.netting.specs.Sizes.{most_places}
use Rattle.std.proofs.lemmas.List.Sums.{AllPass-from_list_all, list_all-from_AllPass}
use Rattle.std.specs.List.{list_all}
use Rattle.register.specs.Holdings.{limit}
use Rattle.movement.specs.declared.movement.Movement.{Movement}
use Rattle.netting.specs.Search.{none_below}
use Rattle.netting.specs.Places.{at, nothing, places}
use Rattle.netting.specs.Limits.{fits, falls, small, too_large, fitting, bounded}
use Rattle.netting.proofs.Search.{none_at, none_all}
use Rattle.movement.specs.Limits.{most_movements}

pub record Fitting (movements : List Movement) : Type 0 where
  pub few : length movements ≤ most_movements
  pub fit : (i : ℕ) → i < length movements → IsTrue (fits (at movements i))

pub record Bounded (movements : List Movement) (amounts : List ℕ) : Type 0 where
  pub fitting : Fitting movements
  pub rising : (i : ℕ) → i + 1 < length movements → (at movements i).number < (at movements (i + 1)).number
  pub small : (p : ℕ) → p < most_places → slice_index amounts p ≤ limit

pub fitting_facts : (movements : List Movement) → IsTrue (fitting movements) → Fitting movements
fitting_facts movements e =
    let parts = and_parts _ (list_all fits movements) e in
    record { few = leb-true (length movements) most_movements parts.0; fit = λ i h. AllPass-from_list_all fits movements parts.1 i nothing h }

-- the test of the order, from what it decides
pub rising_is : (movements : List Movement) (test : Bool) → (IsTrue test ↔ ((i : ℕ) → i + 1 < length movements → falls movements i ≡ false)) → test ≡ none_below (length movements - 1) (falls movements)
rising_is movements true decides = sym (none_all (falls movements) (length movements - 1) (λ i h. decides.0 refl i (omega arith)))
rising_is movements false decides =
    ⊎_elim
    (λ (e : none_below (length movements - 1) (falls movements) ≡ true). absurd (false≢true (decides.1 (λ i h. none_at (falls movements) (length movements - 1) e i (omega arith)))))
    (λ (e : none_below (length movements - 1) (falls movements) ≡ false). sym e)
    (cases_Bool (none_below (length movements - 1) (falls movements)))

-- the test of the amounts one by one is the test of the places
pub small_is : (amounts : List ℕ) (n : ℕ) → length amounts ≡ n → list_all (λ amount. nat_le amount limit) amounts ≡ none_below n (too_large amounts)
small_is amounts n long =
    ⊎_elim
    (λ (e : none_below n (too_large amounts) ≡ true).
    list_all-from_AllPass (λ amount. nat_le amount limit) amounts (λ p d h.
    let holds = none_at (too_large amounts) n e p (omega arith) in
    rw (get_or_default_zero amounts p d h) (grind (arith, nat_tests)))
    ∙ sym e)
    (λ (e : none_below n (too_large amounts) ≡ false).
    ⊎_elim
    (λ (all : list_all (λ amount. nat_le amount limit) amounts ≡ true).
    absurd (both_ways _ e (none_all (too_large amounts) n (λ p h.
    let few = AllPass-from_list_all (λ amount. nat_le amount limit) amounts all p 0 (omega arith) in
    grind (arith, nat_tests)))))
    (λ (some : list_all (λ amount. nat_le amount limit) amounts ≡ false). some ∙ sym e)
    (cases_Bool (list_all (λ amount. nat_le amount limit) amounts)))
    (cases_Bool (none_below n (too_large amounts)))

amounts_small : (amounts : List ℕ) → IsTrue (small amounts) → (p : ℕ) → p < most_places → slice_index amounts p ≤ limit
unfolding places
amounts_small amounts e p h = let holds = none_at (too_large amounts) places e p h in grind (arith, nat_tests)

pub bounded_fitting : (movements : List Movement) (amounts : List ℕ) → IsTrue (bounded movements amounts) → IsTrue (fitting movements)
bounded_fitting movements amounts e =
    let parts = and_parts _ (small amounts) e in
    (and_parts (fitting movements) (none_below (length movements - 1) (falls movements)) parts.0).0

pub bounded_facts : (movements : List Movement) (amounts : List ℕ) → IsTrue (bounded movements amounts) → Bounded movements amounts
bounded_facts movements amounts e =
    let parts = and_parts _ (small amounts) e in
    let front = and_parts (fitting movements) (none_below (length movements - 1) (falls movements)) parts.0 in
    record {
      fitting = fitting_facts movements (bounded_fitting movements amounts e);
      rising = λ i h. leb-false _ _ (none_at (falls movements) (length movements - 1) front.1 i (omega arith));
      small = amounts_small amounts parts.1;
    }
