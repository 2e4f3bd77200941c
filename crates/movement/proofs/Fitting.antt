-- Terms and movements stay within their bounds.
use Rattle.std.proofs.Common.{◌≡◌, ℕ, zero, suc, ◌<◌, ◌≤◌, Bool, true, cond, ◌&&◌, ◌||◌, eqb, List, [], ◌∷◌, ◌++◌, length, get_or, set, is_some, is_ok, Some, None, Ok, Option, Result, refl, ◌∙◌, arith}
use Rattle.std.proofs.lemmas.Bool.{and_from, cond_both}
use Rattle.std.proofs.lemmas.Bool.Decides.{nat_tests}
use Rattle.std.proofs.lemmas.List.Elements.{All-get_or, All-set}
use Rattle.std.proofs.lemmas.List.Folds.{list_all-append}
use Rattle.std.proofs.lemmas.List.Sums.{AllPass-from_list_all, list_all-from_AllPass}
use Rattle.std.specs.List.{list_all, remove}
use Rattle.std.specs.Option.{option_and_then, option_map_or, option_or, unwrap_or}
use Rattle.register.specs.Answers.{Changed}
use Rattle.fault.specs.declared.fault.Fault.{Fault}
use Rattle.fault.specs.Questions.{first_no, passes, unless}
use Rattle.fault.proofs.Asking.{all_hold}
use Rattle.movement.specs.declared.category.Category.{Category}
use Rattle.movement.specs.declared.category.Category.TheVariants.{Main}
use Rattle.movement.specs.declared.movement.Movement.{Movement}
use Rattle.movement.specs.declared.terms.Setting.{Setting}
use Rattle.movement.specs.declared.trade.TradeSide.{TradeSide}
use Rattle.movement.specs.Agreed.{Agreed, lookup, member_known, with_terms}
use Rattle.movement.specs.Letters.{category_of, row}
use Rattle.movement.specs.Clearing.{blank, digits, one_off_of}
use Rattle.movement.specs.Forming.{standard_pair, side_questions, formed, party_of}
use Rattle.movement.specs.Settings.{participant_known, terms_after, terms_questions}
use Rattle.movement.specs.Bounds.{pair_fits, agreed_fits, TermsFit, party_fits, movement_fits, all_fit}

-- a participant of a book is one of a larger book too
wider_fits : (accounts more : ℕ) (o : Option (ℕ × ℕ)) → accounts ≤ more → agreed_fits accounts o ≡ true → agreed_fits more o ≡ true
wider_fits accounts more o most fits = grind (arith, nat_tests)

pub wider_fit : (accounts more : ℕ) (t : Agreed) → accounts ≤ more → TermsFit accounts t → TermsFit more t
wider_fit accounts more t most fit m c = wider_fits accounts more (t m c) most (fit m c)

-- one category set to participants
pub with_fit : (accounts : ℕ) (t : Agreed) (m : ℕ) (c : Category) (pair : ℕ × ℕ) → TermsFit accounts t → pair_fits accounts pair ≡ true → TermsFit accounts (with_terms t m c pair)
with_fit accounts t m c pair before fits n d =
    cond_both (eqb n m && eqb (row d) (row c)) (Some pair) (t n d) (λ o. agreed_fits accounts o ≡ true) (λ q. fits) (λ q. before n d)

-- a setting whose questions were passed
pub after_fit : (accounts : ℕ) (t : Agreed) (x : Setting) → TermsFit accounts t → first_no (terms_questions accounts x) ≡ None → TermsFit accounts (terms_after t x)
after_fit accounts t x before passed =
    by_category (category_of x.category)
  where
    by_category : (o : Option Category) → TermsFit accounts (option_map_or (λ c. with_terms t x.member c (x.securities, x.cash)) o t)
    by_category (Some c) = with_fit accounts t x.member c (x.securities, x.cash) before (all_hold (terms_questions accounts x) passed).1.1.0
    by_category None = before

-- terms that were set, or refused
pub changed_fit : (accounts : ℕ) (t : Agreed) (x : Setting) {r : Result Unit Fault} {u : Agreed} → TermsFit accounts t → Changed t (passes (terms_questions accounts x)) (terms_after t x) r u → TermsFit accounts u
changed_fit accounts t x {r} {u} fit change =
    by_question (first_no (terms_questions accounts x)) refl change.after
  where
    by_question : (o : Option Fault) → first_no (terms_questions accounts x) ≡ o → u ≡ cond (is_ok (unless {A = Unit {0}} o (Ok tt))) (terms_after t x) t → TermsFit accounts u
    by_question None e after = rw after (after_fit accounts t x fit e)
    by_question (Some f) e after = rw after fit

-- what the lookup answers
pub lookup_fits : (accounts : ℕ) (t : Agreed) (m : ℕ) (c : Category) → TermsFit accounts t → agreed_fits accounts (lookup t m c) ≡ true
lookup_fits accounts t m c fit =
    either (member_known m) (t m c) (t m Main) (fit m c) (fit m Main)
  where
    either : (known : Bool) (o main : Option (ℕ × ℕ)) → agreed_fits accounts o ≡ true → agreed_fits accounts main ≡ true → agreed_fits accounts (cond known (option_or o main) None) ≡ true
    either known o main first second = grind arith

standard_fits : (accounts : ℕ) (t : Agreed) (m : ℕ) (o : Option Category) → TermsFit accounts t → agreed_fits accounts (option_and_then (lookup t m) o) ≡ true
standard_fits accounts t m (Some c) fit = lookup_fits accounts t m c fit
standard_fits accounts t m None fit = refl

-- a party that is formed by a pair of participants, and by a clearing field that is blank or names one
formed_fits : (accounts : ℕ) (o : Option (ℕ × ℕ)) (f : List ℕ) → agreed_fits accounts o ≡ true → is_some o ≡ true → (blank f || participant_known accounts (digits f)) ≡ true → party_fits accounts (formed (unwrap_or o (0, 0)) (one_off_of f)) ≡ true
formed_fits accounts o f fits some known = grind arith

-- the party of a side whose questions were passed
pub party_fit : (accounts : ℕ) (t : Agreed) (side : TradeSide) → TermsFit accounts t → first_no (side_questions t accounts side) ≡ None → party_fits accounts (party_of t side) ≡ true
party_fit accounts t side fit passed =
    let holds = all_hold (side_questions t accounts side) passed in
    formed_fits accounts (standard_pair t side) side.clearing (standard_fits accounts t side.member (category_of side.category) fit) holds.1.0 holds.1.1.1.1.0

-- what a removal leaves passes a test that all passed
pass_removed : {X : Type 0} (p : X → Bool) (xs : List X) (i : ℕ) → list_all p xs ≡ true → list_all p (remove xs i) ≡ true
pass_removed p [] zero all = refl
pass_removed p [] (suc i) all = refl
pass_removed p (x ∷ xs) zero all = grind arith
pass_removed p (x ∷ xs) (suc i) all = let rest = pass_removed p xs i in grind arith

-- lists of movements
module _ (accounts kinds : ℕ) where
  abbrev test : Movement → Bool
  test = movement_fits accounts kinds

  pub fit_push : (ms : List Movement) (m : Movement) → all_fit accounts kinds ms ≡ true → movement_fits accounts kinds m ≡ true → all_fit accounts kinds (ms ++ (m ∷ [])) ≡ true
  fit_push ms m all fits = list_all-append test ms (m ∷ []) ∙ and_from (list_all test ms) _ all (and_from (test m) true fits refl)

  pub fit_at : (ms : List Movement) (i : ℕ) (d : Movement) → all_fit accounts kinds ms ≡ true → i < length ms → movement_fits accounts kinds (get_or ms i d) ≡ true
  fit_at ms i d all within = All-get_or (λ m. test m ≡ true) ms i d within (AllPass-from_list_all test ms all)

  pub fit_set : (ms : List Movement) (i : ℕ) (m : Movement) → all_fit accounts kinds ms ≡ true → movement_fits accounts kinds m ≡ true → all_fit accounts kinds (set ms i m) ≡ true
  fit_set ms i m all fits = list_all-from_AllPass test (set ms i m) (All-set (λ x. test x ≡ true) ms i m fits (AllPass-from_list_all test ms all))

  pub fit_removed : (ms : List Movement) (i : ℕ) → all_fit accounts kinds ms ≡ true → all_fit accounts kinds (remove ms i) ≡ true
  fit_removed ms i all = pass_removed test ms i all
