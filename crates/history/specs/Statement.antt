-- The account statement: what a reader of the history alone, who knows nothing of the book, works out of it.
use Rattle.std.specs.Prelude.{ℕ, Bool, if◌then◌else◌, ◌&&◌, List, [], ◌∷◌, ◌++◌, ℤ, pos, ◌+ℤ◌, neg_ℤ, is_ok, ◌==◌}
use Rattle.register.specs.Holdings.{Holdings}
use Rattle.movement.specs.declared.half.Half.{Half}
use Rattle.movement.specs.declared.half.Half.TheVariants.{Morning}
use Rattle.movement.specs.declared.movement.Movement.{Movement}
use Rattle.movement.specs.Agreed.{Agreed, none_agreed}
use Rattle.movement.specs.Settings.{terms_after}
use Rattle.movement.specs.Forming.{movement_of}
use Rattle.movement.specs.Consents.{consented}
use Rattle.book.specs.declared.place.Place.{Place}
use Rattle.book.specs.Daily.{class_known, changed_at}
use Rattle.book.specs.Opening.{Opening}
use Rattle.history.specs.declared.call.Call.{Call}
use Rattle.history.specs.declared.call.Call.TheVariants.{PayIn, PayOut, Terms, Trade, Consent, Cancel, Tell}
use Rattle.history.specs.History.{Event}

pub record Statement : Type 0 where
  -- the signed amount of each side, kind and account
  pub amount : ℕ → ℕ → ℕ → ℤ
  -- the terms noted
  pub terms : Agreed
  -- every trade noted, with its custodians, standard pairs and consents
  pub trades : List Movement
  -- the half of the day
  pub half : Half

-- what is told at the opening
abbrev pub at_opening : Opening → ℕ → Holdings
at_opening o side = if side == 0 then o.securities else o.cash

abbrev pub begun : Opening → Statement
begun o = record {
  amount = λ side k a. pos ((at_opening o side).amount k a);
  terms = none_agreed;
  trades = [];
  half = Morning;
}

abbrev pub is_place : Place → ℕ → ℕ → ℕ → Bool
is_place p side k a = side == p.side && (k == p.kind && a == p.account)

-- z more at one place
abbrev pub booked : Place → ℤ → Statement → Statement
booked p z t = record t {
  amount = λ side k a. t.amount side k a +ℤ (if is_place p side k a then z else pos 0);
}

-- other terms, or other trades
abbrev pub noting : Statement → Agreed → List Movement → Statement
noting t a ms = record t { terms = a; trades = ms }

-- an accepted call: pay-ins add, pay-outs take; terms are noted;
-- a trade is noted by its clearing fields and by lookup in the noted terms; a consent marks its duties
abbrev pub read_call : Call → Statement → Statement
read_call (PayIn p n) t = booked p (pos n) t
read_call (PayOut p n) t = booked p (neg_ℤ (pos n)) t
read_call (Terms x) t = noting t (terms_after t.terms x) t.trades
read_call (Trade x) t = noting t t.terms (t.trades ++ (movement_of t.terms (class_known x.class) x ∷ []))
read_call (Consent n p) t = noting t t.terms (changed_at n (λ m. consented m p t.half) t.trades)
read_call (Cancel n) t = t
read_call (Tell p) t = t

-- a refused call leaves the statement alone
abbrev pub read : Event → Statement → Statement
read e t = if is_ok e.answer then read_call e.call t else t

abbrev pub statement : Opening → List Event → Statement
statement o [] = begun o
statement o (e ∷ h) = read e (statement o h)
