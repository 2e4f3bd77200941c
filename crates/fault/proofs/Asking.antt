-- What an answer tells of the questions that were asked.
use Rattle.std.proofs.Common.{◌≡◌, true, List, [], ◌∷◌, ◌++◌, Some, None, Ok, Err, Option, Result, refl, arith}
use Rattle.std.specs.List.{AllByRecursion}
use Rattle.std.specs.Option.{option_or}
use Rattle.register.specs.Answers.{Changed}
use Rattle.fault.specs.declared.fault.Fault.{Fault}
use Rattle.fault.specs.Questions.{Question, first_no, unless, asked}

-- a refusal, or an answer, of a call that may be refused before
pub unless_fault : {A : Type 0} (o : Option Fault) (v : A) (f : Fault) → unless o (Ok v) ≡ Err f → o ≡ Some f
unless_fault o v f e = grind arith

pub unless_none : {A : Type 0} (o : Option Fault) (r : Result A Fault) (v : A) → unless o r ≡ Ok v → (o ≡ None) × (r ≡ Ok v)
unless_none o r v e = grind arith

-- no question was answered no
pub all_hold : (qs : List Question) → first_no qs ≡ None → AllByRecursion (λ q. q.holds ≡ true) qs
all_hold [] e = tt
all_hold (q ∷ qs) e =
    let here : (q.holds ≡ true) × (first_no qs ≡ None) = grind arith in
    (here.0, all_hold qs here.1)

-- questions and then others
pub first_no-append : (qs rs : List Question) → first_no (qs ++ rs) ≡ option_or (first_no qs) (first_no rs)
first_no-append [] rs = refl
first_no-append (q ∷ qs) rs = let rest = first_no-append qs rs in grind arith

-- none of the first was answered no, and none of the others
pub first_no_parts : (qs rs : List Question) → first_no (qs ++ rs) ≡ None → (first_no qs ≡ None) × (first_no rs ≡ None)
first_no_parts qs rs e = let both = first_no-append qs rs in grind arith

module _ {A B : Type 0} (qs rs : List Question) (v : A) (w : B) where
  -- refused by the first, refused by all
  pub asked_stops : {f : Fault} → asked qs v ≡ Err f → asked (qs ++ rs) w ≡ Err f
  asked_stops {f} e = let both = first_no-append qs rs in grind arith

  -- answered by the first, answered as the others do
  pub asked_goes : {x : A} → asked qs v ≡ Ok x → asked (qs ++ rs) w ≡ asked rs w
  asked_goes {x} e = let both = first_no-append qs rs in grind arith

-- the same questions answered by another value
pub asked_fault : {A B : Type 0} (qs : List Question) (v : A) (w : B) {f : Fault} → asked qs v ≡ Err f → asked qs w ≡ Err f
asked_fault qs v w {f} e = grind arith

pub asked_value : {A B : Type 0} (qs : List Question) (v : A) (w : B) {x : A} → asked qs v ≡ Ok x → (v ≡ x) × (asked qs w ≡ Ok w)
asked_value qs v w {x} e = grind arith

-- a call that was refused, or accepted
pub refused : {A X : Type 0} {before done : X} {answer : Result A Fault} {f : Fault} (r : Result A Fault) → r ≡ Err f → answer ≡ Err f → Changed before answer done r before
refused r p q = grind arith

pub accepted : {A X : Type 0} {before done left : X} {answer : Result A Fault} {v : A} → answer ≡ Ok v → left ≡ done → Changed before answer done (Ok v) left
accepted p q = grind arith
