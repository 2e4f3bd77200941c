-- The amounts stay lawful.
use Rattle.std.proofs.Common.{◌≡◌, ℕ, ◌+◌, ◌-◌, ◌<◌, ◌≤◌, cond, ◌&&◌, eqb, List, [], ◌∷◌, ℤ, pos, ◌+ℤ◌, neg_ℤ, is_ok, None, Ok, sym, refl, ap, ◌∙◌, arith}
use Rattle.std.proofs.lemmas.Int.{ints}
use Rattle.std.proofs.lemmas.Bool.Decides.{nat_tests}
use Rattle.register.specs.Holdings.{total}
use Rattle.fault.specs.Questions.{first_no}
use Rattle.book.specs.declared.place.Place.{Place}
use Rattle.book.specs.State.{State, holdings}
use Rattle.book.specs.Opening.{Opening, opened}
use Rattle.register.specs.declared.entry.Entry.TheVariants.{Put, Take}
use Rattle.book.specs.Paying.{with_payment, amount_at}
use Rattle.book.proofs.Payments.{payable, take_covered}
use Rattle.history.specs.declared.call.Call.{Call}
use Rattle.history.specs.declared.call.Call.TheVariants.{PayIn, PayOut, Terms, Trade, Consent, Cancel, Tell}
use Rattle.history.specs.declared.call.Answer.{Answer}
use Rattle.history.specs.Step.{questions, effect}
use Rattle.history.specs.History.{Event, event}
use Rattle.history.specs.Statement.{is_place, booked, read_call, statement}
use Rattle.history.specs.Law.{LawfulAmounts, paid}
use Rattle.history.proofs.Booking.{Booked, booked_at}

pub opened_amounts : (o : Opening) → LawfulAmounts o [] (opened o)
opened_amounts o = record {
  accounts = λ side k a h. refl;
  covered = λ side k a h. omega (arith, ints);
  sums = λ side k h. omega (arith, ints);
  depository = λ side k h. refl;
  kinds = λ side h. refl;
  numbered = λ side h. refl;
}

module _ (o : Opening) (h : List Event) (s : State) (lawful : LawfulAmounts o h s) where
  -- an event that books nothing, refused or accepted, leaves the registers as they were
  pub nothing_booked : (e : Event) (t : State) → ((side : ℕ) → holdings t side ≡ holdings s side) → (statement o (e ∷ h)).amount ≡ (statement o h).amount → ((side k : ℕ) → cond (is_ok e.answer) (paid e.call side k) (pos 0) ≡ pos 0) → LawfulAmounts o (e ∷ h) t
  nothing_booked e t same reads pays = record {
    accounts = λ side k a l. ap (λ x. pos (x.amount k a)) (same side) ∙ lawful.accounts side k a l ∙ ap (λ f. f side k a) (sym reads);
    covered = λ side k a l. rw reads (lawful.covered side k a l);
    sums = λ side k l.
        let before = lawful.sums side k l in
        let now = ap (λ x. total x k) (same side) in
        let pay = pays side k in
        omega (arith, ints);
    depository = λ side k l. ap (λ x. x.amount k 0) (same side) ∙ lawful.depository side k l;
    kinds = λ side l. ap (λ x. x.kinds) (same side) ∙ lawful.kinds side l;
    numbered = λ side l. ap (λ x. x.accounts) (same side) ∙ lawful.numbered side l;
  }

  -- an accepted call that books z at one place of a participant
  booked_amounts : (c : Call) (v : Answer) (p : Place) (z : ℤ) (t : State) → 1 ≤ p.account → ((side : ℕ) → side < 2 → Booked (holdings s side) (eqb side p.side) p.kind p.account z (holdings t side)) → read_call c (statement o h) ≡ booked p z (statement o h) → ((side k : ℕ) → paid c side k ≡ cond (eqb side p.side && eqb k p.kind) z (pos 0)) → LawfulAmounts o (event c (Ok v) ∷ h) t
  booked_amounts c v p z t participant books reads pays = record {
    accounts = accounts_after;
    covered = λ side k a l. let at = accounts_after side k a l in omega (arith, ints);
    sums = λ side k l. let before = lawful.sums side k l in let now = (books side l).sums k in let pay = pays side k in omega (arith, ints);
    depository = λ side k l. let before = lawful.depository side k l in let now = (books side l).amounts k 0 in grind (arith, nat_tests, ints);
    kinds = λ side l. (books side l).kinds ∙ lawful.kinds side l;
    numbered = λ side l. (books side l).accounts ∙ lawful.numbered side l;
  }
    where
      accounts_after : (side k a : ℕ) → side < 2 → pos ((holdings t side).amount k a) ≡ (read_call c (statement o h)).amount side k a
      accounts_after side k a l =
          (books side l).amounts k a
          ∙ ap (λ x. x +ℤ cond (is_place p side k a) z (pos 0)) (lawful.accounts side k a l)
          ∙ ap (λ r. r.amount side k a) (sym reads)

  pub accepted_amounts : (c : Call) (v : Answer) → first_no (questions s c) ≡ None → LawfulAmounts o (event c (Ok v) ∷ h) (effect s c)
  accepted_amounts (PayIn p n) v asked =
      let fits = payable s p (Put n) asked in
      booked_amounts (PayIn p n) v p (pos n) (with_payment s p (Put n)) fits.participant
      (booked_at s p.side p.kind p.account (amount_at s p + n) (pos n) fits.side fits.account (omega (arith, ints)))
      refl
      (λ side k. refl)
  accepted_amounts (PayOut p n) v asked =
      let fits = payable s p (Take n) asked in
      let holds = take_covered s p n asked in
      booked_amounts (PayOut p n) v p (neg_ℤ (pos n)) (with_payment s p (Take n)) fits.participant
      (booked_at s p.side p.kind p.account (amount_at s p - n) (neg_ℤ (pos n)) fits.side fits.account (omega (arith, ints)))
      refl
      (λ side k. refl)
  accepted_amounts (Terms t) v asked = nothing_booked (event (Terms t) (Ok v)) _ (λ side. refl) refl (λ side k. refl)
  accepted_amounts (Trade t) v asked = nothing_booked (event (Trade t) (Ok v)) _ (λ side. refl) refl (λ side k. refl)
  accepted_amounts (Consent n p) v asked = nothing_booked (event (Consent n p) (Ok v)) _ (λ side. refl) refl (λ side k. refl)
  accepted_amounts (Cancel n) v asked = nothing_booked (event (Cancel n) (Ok v)) _ (λ side. refl) refl (λ side k. refl)
  accepted_amounts (Tell p) v asked = nothing_booked (event (Tell p) (Ok v)) _ (λ side. refl) refl (λ side k. refl)
