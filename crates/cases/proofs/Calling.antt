-- The states that the caller's calls go through, from the new book on.
use Rattle.std.proofs.Common.{◌≡◌, ℕ, Some, Ok, Err, Result, subst, ap, ◌∙◌, arith}
use Rattle.register.specs.Holdings.{Holdings, zero_holdings}
use Rattle.fault.specs.declared.fault.Fault.{Fault}
use Rattle.book.specs.State.{State, with_daily}
use Rattle.book.specs.Daily.{agreed_to, entered, on_book}
use Rattle.register.specs.declared.entry.Entry.TheVariants.{Put}
use Rattle.book.specs.Paying.{Paid, with_payment, told}
use Rattle.book.specs.Trading.{TermsSet, Traded}
use Rattle.book.specs.Opening.{opened, opens_on}
use Rattle.cases.specs.Caller.{new_book, sale}
use Rattle.cases.specs.declared.caller.TheConstants.{SHARES, SELLER, BUYER, SALE}

abbrev pub paid : State
paid = with_payment new_book SHARES (Put 10)

abbrev pub half_agreed : State
half_agreed = with_daily paid (agreed_to paid.daily SELLER)

abbrev pub both_agreed : State
both_agreed = with_daily half_agreed (agreed_to half_agreed.daily BUYER)

abbrev pub sold : State
sold = with_daily both_agreed (entered both_agreed.daily SALE)

-- an opening on registers in which nothing stands
pub opens_new : {s t : Holdings} {b : State} → b ≡ opened (opens_on s t 0) → s ≡ zero_holdings 1 3 → t ≡ zero_holdings 2 3 → b ≡ new_book
opens_new {t = t} e p q = e ∙ ap (λ s. opened (opens_on s t 0)) p ∙ ap (λ t. opened (opens_on (zero_holdings 1 3) t 0)) q

-- what is accepted is not refused
pub accepted : {A : Type 0} {r : Result Unit Fault} {f : Fault} → r ≡ Ok tt → r ≡ Err f → A
accepted {r = r} {f = f} ok err = absurd (let z : ◌≡◌ {A = ℕ} 0 1 = cc in omega arith)

-- each call is accepted and leads to the next state
pub pays : {s t : State} {r : Result Unit Fault} → s ≡ new_book → Paid s SHARES (Put 10) r t → (r ≡ Ok tt) × (t ≡ paid)
pays {t = t} {r = r} e c = let d = subst (λ s. Paid s SHARES (Put 10) r t) e c in (d.answered, d.after)

pub seller_agrees : {s t : State} {r : Result Unit Fault} → s ≡ paid → TermsSet s SELLER r t → (r ≡ Ok tt) × (t ≡ half_agreed)
seller_agrees {t = t} {r = r} e c = let d = subst (λ s. TermsSet s SELLER r t) e c in (d.answered, d.after)

pub buyer_agrees : {s t : State} {r : Result Unit Fault} → s ≡ half_agreed → TermsSet s BUYER r t → (r ≡ Ok tt) × (t ≡ both_agreed)
buyer_agrees {t = t} {r = r} e c = let d = subst (λ s. TermsSet s BUYER r t) e c in (d.answered, d.after)

pub sells : {s t : State} {r : Result Unit Fault} → s ≡ both_agreed → Traded s SALE r t → (r ≡ Ok tt) × (t ≡ sold)
sells {t = t} {r = r} e c = let d = subst (λ s. Traded s SALE r t) e c in (d.answered, d.after)

pub tells : {s : State} {r : Result ℕ Fault} → s ≡ sold → r ≡ told s SHARES → r ≡ Ok 10
tells {r = r} e c = subst (λ s. r ≡ told s SHARES) e c

pub enters : {s : State} → s ≡ sold → on_book 1 s.daily.movements ≡ Some sale
enters e = ap (λ s. on_book 1 s.daily.movements) e
