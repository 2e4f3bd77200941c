-- How the parts of a joined register sit in the whole.
use Rattle.std.proofs.Common.{◌≡◌, ℕ, ◌+◌, ◌<◌, Bool, true, false, cond, is_ok, Result, refl, ap, ◌∙◌, arith}
use Rattle.std.proofs.lemmas.Bool.Decides.{nat_tests}
use Rattle.register.specs.Answers.{Changed, Enters}
use Rattle.register.specs.Entry.{amount_after}
use Rattle.register.specs.Holdings.{Holdings, with_amount}
use Rattle.register.specs.Joined.{joined_kinds, joined_accounts, joined_holdings}
use Rattle.register.specs.declared.entry.Entry.{Entry}
use Rattle.register.specs.declared.refusal.Refusal.{Refusal}
use Rattle.register.proofs.Alike.{same_holdings}

-- that a kind and an account are shown
pub record Shown (f s : Holdings) (k a : ℕ) : Type 0 where
  pub kind : k < joined_kinds f s
  pub account : a < joined_accounts f s

-- kind p of a part is kind k of the whole that is made of it, and both know account a
pub record Within (whole : Holdings → Holdings) (part : Holdings) (p k a : ℕ) : Type 0 where
  pub part_kind : p < part.kinds
  pub part_account : a < part.accounts
  pub kind : k < (whole part).kinds
  pub account : a < (whole part).accounts
  pub same : part.amount p a ≡ (whole part).amount k a
  pub changes : (m : ℕ) → whole (with_amount part p a m) ≡ with_amount (whole part) k a m

whole_cond : (whole : Holdings → Holdings) (b : Bool) (h h' : Holdings) → whole (cond b h h') ≡ cond b (whole h) (whole h')
whole_cond whole true h h' = refl
whole_cond whole false h h' = refl

-- a change of a part is one of the whole
through : (whole : Holdings → Holdings) {part part' done done' : Holdings} {answer answer' r : Result Unit Refusal} →
    answer ≡ answer' → whole done ≡ done' → Changed part answer done r part' → Changed (whole part) answer' done' r (whole part')
through whole {part} {part'} {done} {done'} {answer} {answer'} e d c = record {
  answered = c.answered ∙ e;
  after = ap whole c.after ∙ whole_cond whole (is_ok answer) done part ∙ rw (e, d);
}

-- what is entered in a part is entered in the whole
pub enters_through : {whole : Holdings → Holdings} {part part' : Holdings} {p k a : ℕ} (e : Entry) {r : Result Unit Refusal} →
    Within whole part p k a → Enters part p a e r part' → Enters (whole part) k a e r (whole part')
enters_through {whole} {part} {part'} {p} {k} {a} e w c =
    through whole (rw w.same (grind (arith, nat_tests))) (w.changes (amount_after (part.amount p a) e) ∙ ap (λ x. with_amount (whole part) k a (amount_after x e)) w.same) c

-- a kind of the first register
pub first_within : {f s : Holdings} {k a : ℕ} → Shown f s k a → k < f.kinds → Within (λ f. joined_holdings f s) f k k a
first_within {f} {s} {k} {a} shown in_first = record {
  part_kind = in_first;
  part_account = omega arith;
  kind = shown.kind;
  account = shown.account;
  same = grind (arith, nat_tests);
  changes = λ m. same_holdings refl refl (λ j b. grind (arith, nat_tests));
}

-- a kind of the second register
pub second_within : {f s : Holdings} {p k a : ℕ} → Shown f s k a → f.kinds + p ≡ k → Within (joined_holdings f) s p k a
second_within {f} {s} {p} {k} {a} shown in_second = record {
  part_kind = omega arith;
  part_account = omega arith;
  kind = shown.kind;
  account = shown.account;
  same = grind (arith, nat_tests);
  changes = λ m. same_holdings refl refl (λ j b. grind (arith, nat_tests));
}
