-- What the table of terms says when it is new, and after one of its elements is written.
use Rattle.std.proofs.Common.{◌≡◌, ℕ, ◌-◌, ◌<◌, true, cond, eqb, List, length, get_or, set, replicate, Some, None, sym, subst, arith}
use mathlib.Core.Path.{fun_ext}
use Rattle.std.proofs.lemmas.List.{get_or-replicate, get_or-set_other}
use Rattle.std.proofs.lemmas.Grind.{get_or-set_at}
use Rattle.std.proofs.lemmas.Bool.Decides.{nat_tests}
use Rattle.movement.specs.declared.category.Category.{Category}
use Rattle.movement.specs.declared.limits.TheConstants.{MEMBERS, CATEGORIES}
use Rattle.movement.specs.declared.terms.MemberRow.{MemberRow}
use Rattle.movement.specs.Letters.{row}
use Rattle.movement.specs.Agreed.{member_known, none_agreed, with_terms}
use Rattle.movement.specs.Bounds.{TermsFit, pair_fits}
use Rattle.movement.specs.MemberRows.{agreed_in, empty_row, pair_in}
use Rattle.movement.proofs.Fitting.{with_fit}

row_few : (c : Category) → row c < CATEGORIES
row_few c = grind arith

no_pair : (m : ℕ) (c : Category) → agreed_in (replicate MEMBERS (record { pairs = replicate CATEGORIES None })) m c ≡ none_agreed m c
no_pair m c = let few = row_few c in grind (arith, nat_tests, get_or-replicate)

pub new_agreed : agreed_in (replicate MEMBERS (record { pairs = replicate CATEGORIES None })) ≡ none_agreed
new_agreed = fun_ext (λ m. fun_ext (λ c. no_pair m c))

-- a member's row changed in one category
module _ (rows : List MemberRow) (m : ℕ) (c : Category) (p : ℕ × ℕ) (after : MemberRow) (known : member_known m ≡ true) (all_members : length rows ≡ MEMBERS) (changed : (d : Category) → pair_in after d ≡ cond (eqb (row d) (row c)) (Some p) (pair_in (get_or rows (m - 1) empty_row) d)) where
  set_at : (n : ℕ) (d : Category) → agreed_in (set rows (m - 1) after) n d ≡ with_terms (agreed_in rows) m c p n d
  set_at n d = let here = changed d in grind (arith, nat_tests, get_or-set_at, get_or-set_other)

  pub set_agreed : agreed_in (set rows (m - 1) after) ≡ with_terms (agreed_in rows) m c p
  set_agreed = fun_ext (λ n. fun_ext (λ d. set_at n d))

  pub set_fit : (accounts : ℕ) → TermsFit accounts (agreed_in rows) → pair_fits accounts p ≡ true → TermsFit accounts (agreed_in (set rows (m - 1) after))
  set_fit accounts before fits = subst (TermsFit accounts) (sym set_agreed) (with_fit accounts (agreed_in rows) m c p before fits)
