-- Where the rows of kinds and accounts stand, and what a row rewritten changes.
use Rattle.std.proofs.Common.{◌≡◌, ℕ, ◌+◌, ◌*◌, ◌/◌, ◌%◌, ◌<◌, List, Ok, length, get_or, slice_set, sym, refl, ap, ◌∙◌, div-mul-le_self, arith}
use Rattle.std.proofs.lemmas.Nat.{mul-add-lt, div-mul-add, mod-mul-add}
use Rattle.std.proofs.lemmas.List.{length-set, get_or_default, get_or-set_same, get_or-set_other}
use Rattle.std.proofs.lemmas.Bool.Decides.{nat_tests}
use Rattle.register.specs.Answers.{entry_answer, Enters}
use Rattle.register.specs.Entry.{room_for, amount_after}
use Rattle.register.specs.declared.entry.Entry.{Entry}
use Rattle.register.specs.Holdings.{with_amount}
use Rattle.register.specs.Rows.{stride, place, written, laid, shown_kinds, shown_accounts}
use Rattle.register.proofs.Alike.{same_holdings}

-- that a kind and an account are shown
pub record Known {X : Type 0} (kinds : ℕ) (rows : List X) (k a : ℕ) : Type 0 where
  pub kind : k < shown_kinds kinds rows
  pub account : a < shown_accounts kinds rows

-- each place that is shown is that of a row
pub place_within : {X : Type 0} (kinds : ℕ) (rows : List X) (k a : ℕ) → Known kinds rows k a → place kinds rows k a < length rows
place_within kinds rows k a known =
    let kind : k < kinds = omega arith in
    let account : a < stride kinds rows = omega arith in
    omega (arith, mul-add-lt k (stride kinds rows) a kinds kind account, div-mul-le_self (length rows) kinds)

-- two kinds and accounts with one place are the same
place_apart : (w j b k a : ℕ) → b < w → a < w → j * w + b ≡ k * w + a → (j ≡ k) × (b ≡ a)
place_apart w j b k a p q e = (
  sym (div-mul-add j w b p) ∙ ap (λ n. n / w) e ∙ div-mul-add k w a q,
  sym (mod-mul-add j w b p) ∙ ap (λ n. n % w) e ∙ mod-mul-add k w a q,
)

-- a row rewritten is one amount changed
pub rewritten : {X : Type 0} (counts : X → ℕ) (none : X) (kinds : ℕ) (rows : List X) (k a : ℕ) (x : X) → Known kinds rows k a →
    laid kinds (written kinds rows k a x) counts none ≡ with_amount (laid kinds rows counts none) k a (counts x)
rewritten {X} counts none kinds rows k a x known =
    let w = stride kinds rows in
    let here = place kinds rows k a in
    let within = place_within kinds rows k a known in
    same_holdings refl (simp length-set) (λ j b. simp length-set (grind (arith, nat_tests, get_or-set_same rows here x none within, get_or-set_other rows here (j * w + b) x none, place_apart w j b k a)))

-- a row reads as it was written
pub read_back : {X : Type 0} (none : X) (kinds : ℕ) (rows : List X) (k a : ℕ) (x : X) → Known kinds rows k a →
    get_or (written kinds rows k a x) (place kinds (written kinds rows k a x) k a) none ≡ x
read_back none kinds rows k a x known = let within = place_within kinds rows k a known in simp length-set (get_or-set_same rows (place kinds rows k a) x none within)

-- an entry in the row of a kind and an account is one in what the rows show
pub row_enters : {X : Type 0} (counts : X → ℕ) (none : X) (kinds : ℕ) (rows : List X) (k a : ℕ) (e : Entry) (p : ℕ) (old new : X) → Known kinds rows k a → p ≡ place kinds rows k a →
    old ≡ get_or rows p old → room_for (counts old) e ≡ Ok tt → counts new ≡ amount_after (counts old) e →
    Enters (laid kinds rows counts none) k a e (Ok tt) (laid kinds (slice_set rows p new) counts none)
row_enters counts none kinds rows k a e p old new known same read room after =
    let h = laid kinds rows counts none in
    let other : get_or rows (place kinds rows k a) none ≡ get_or rows (place kinds rows k a) old = get_or_default rows (place kinds rows k a) none old (place_within kinds rows k a known) in
    let row : get_or rows (place kinds rows k a) none ≡ old = other ∙ ap (λ q. get_or rows q old) (sym same) ∙ sym read in
    let here : h.amount k a ≡ counts old = rw row (grind (arith, nat_tests)) in
    let answer : entry_answer h k a e ≡ Ok tt = rw here (grind (arith, nat_tests)) in
    record {
      answered = sym answer;
      after = rw same (rewritten counts none kinds rows k a new known ∙ rw (answer, after, here));
    }
