-- Lines that are answered one after the other.
use Rattle.std.proofs.Common.{◌≡◌, ℕ, suc, ◌-◌, ◌<◌, List, [], ◌∷◌, ◌++◌, length, take, drop, map, Ok, Err, vec_items, Result, Vec, Bool, true, false, sym, refl, ap, ◌∙◌, append_assoc, append-nil, add-one, arith, length-append}
use Rattle.std.proofs.lemmas.List.{drop-drop, length-map, map-append, take-append-drop, take-map, take_at, take_rest}
use Rattle.fault.specs.declared.fault.Fault.{Fault}
use Rattle.book.specs.Opening.{Opening}
use Rattle.book.specs.State.{State}
use Rattle.history.specs.declared.call.Call.{Call}
use Rattle.history.specs.History.{Event, Leads, goes}
use Rattle.history.proofs.Lawfulness.{all_lawful}
use Rattle.memchr.specs.Find.{NoneBefore, Nowhere}
use Rattle.frames.specs.Calls.{call_of, line_call}
use Rattle.frames.specs.Hex.{line_bytes}
use Rattle.frames.specs.Replies.{after_line, after_said, answer_line, line_answer, said_answer}
use Rattle.frames.specs.Sessions.{Ended, Fed, LinesAnswered, LinesLawful, after_lines, answers, events, last_line, lines, rest, said_event}
use Rattle.frames.specs.Stream.{kept}
use Rattle.frames.proofs.Chunks.{Newline, first_line, no_line, texts_alike}

-- ---- the law

leads_on : {o : Opening} {h : List Event} (s : State) (said : Result Call Fault) → Leads o h s → Leads o (said_event s said h) (after_said s said)
leads_on s (Ok c) before = goes c before
leads_on s (Err f) before = before

leads_by : (o : Opening) (ls : List (List ℕ)) (h : List Event) (s : State) → Leads o h s → Leads o (events s ls h) (after_lines s ls)
leads_by o [] h s before = before
leads_by o (line ∷ ls) h s before = leads_by o ls _ _ (leads_on s (line_call line) before)

pub lines_lawful : LinesLawful
lines_lawful o h s ls before = let leads = leads_by o ls h s before in (leads, all_lawful leads)

-- ---- some lines, and then others

pub answers_more : (s : State) (a b : List (List ℕ)) → answers s (a ++ b) ≡ answers s a ++ answers (after_lines s a) b
answers_more s [] b = refl
answers_more s (line ∷ a) b =
    let more = answers_more (after_line s line) a b in
    let group = append_assoc (answer_line (line_answer s line)) (answers (after_line s line) a) (answers (after_lines (after_line s line) a) b) in
    cc

pub after_more : (s : State) (a b : List (List ℕ)) → after_lines s (a ++ b) ≡ after_lines (after_lines s a) b
after_more s [] b = refl
after_more s (line ∷ a) b = after_more (after_line s line) a b

answered_more : {Z : Type 0} (a b : List (List ℕ)) {s t u : State} {out out' out'' : Vec ℕ Z} → LinesAnswered a s t out out' → LinesAnswered b t u out' out'' → LinesAnswered (a ++ b) s u out out''
answered_more a b {s = s} {out = out} p q =
    let texts = answers_more s a b in
    let state = after_more s a b in
    let group = append_assoc (vec_items out) (answers s a) (answers (after_lines s a) b) in
    let long = length-append a b in
    record { written = cc; becomes = cc; used = omega (arith, p.used, q.used); keeps_room = omega (arith, p.keeps_room, q.keeps_room) }

-- ---- lines that say the same

pub same_answers : (s : State) (a b : List (List ℕ)) → map line_bytes a ≡ map line_bytes b → (answers s a ≡ answers s b) × (after_lines s a ≡ after_lines s b)
same_answers s [] [] e = (refl, refl)
same_answers s [] (y ∷ b) e = absurd cc
same_answers s (x ∷ a) [] e = absurd cc
same_answers s (x ∷ a) (y ∷ b) e =
    let first : line_bytes x ≡ line_bytes y = cc in
    let others = same_answers (after_line s x) a b cc in
    let next : after_line s x ≡ after_line s y = ap (λ said. after_said s (call_of said)) first in
    let answer : line_answer s x ≡ line_answer s y = ap (λ said. said_answer s (call_of said)) first in
    (rw (others.0, answer, next) refl, rw (others.1, next) refl)

answered_alike : {Z : Type 0} (a b : List (List ℕ)) {s t : State} {out out' : Vec ℕ Z} → map line_bytes a ≡ map line_bytes b → LinesAnswered a s t out out' → LinesAnswered b s t out out'
answered_alike a b {s = s} e p =
    let same = same_answers s a b e in
    let long : length a ≡ length b = sym (length-map a line_bytes) ∙ ap length e ∙ length-map b line_bytes in
    record { written = rw same.0 at p.written; becomes = rw same.1 at p.becomes; used = rw long at p.used; keeps_room = p.keeps_room }

pub ended_alike : {Z : Type 0} (a b : List (List ℕ)) {s t : State} {out out' : Vec ℕ Z} (done : Bool) → map line_bytes a ≡ map line_bytes b → Ended a s t out out' done → Ended b s t out out' done
ended_alike a b true e p = record { answered = answered_alike a b e p.answered; stopped = p.stopped }
ended_alike a b false e p = record { answered = p.answered; stopped = p.stopped }

-- ---- what is promised of the characters that are kept holds of each text of which they are kept

same_first : {X Y : Type 0} (f : X → Y) (first others all : List X) → map f (first ++ others) ≡ map f all → map f first ≡ map f (take (length first) all)
same_first f first others all e =
    let first_of : take (length first) (map f first ++ map f others) ≡ map f first = take_at (map f first) (map f others) (length first) (length-map first f) in
    sym first_of ∙ ap (take (length first)) (sym (map-append f first others) ∙ e) ∙ take-map f (length first) all

fed_whole : {Z : Type 0} (p chunk q : List ℕ) (s t : State) (out out' : Vec ℕ Z) (done : Bool) → Fed (kept p) chunk s t out out' q done → Fed p chunk s t out out' q done
fed_whole p chunk q s t out out' true (answered, keeps) =
    let (said, left, last) = texts_alike p chunk in
    (answered_alike (lines (kept p) chunk) (lines p chunk) said answered, keeps ∙ left)
fed_whole p chunk q s t out out' false fed =
    let (said, left, last) = texts_alike p chunk in
    let first = take (length fed.first) (lines p chunk) in
    let others = drop (length fed.first) (lines p chunk) in
    let same = same_first line_bytes fed.first fed.others (lines p chunk) (ap (map line_bytes) (sym fed.all) ∙ said) in
    let long : length (lines (kept p) chunk) ≡ length (lines p chunk) = sym (length-map _ line_bytes) ∙ ap length said ∙ length-map _ line_bytes in
    record {
      first = first;
      others = others;
      all = sym (take-append-drop (length fed.first) (lines p chunk));
      answered = answered_alike fed.first first same fed.answered;
      stopped = rw long at fed.stopped;
    }

pub whole_text : {Z : Type 0} (q chunk q' : List ℕ) (s t : State) (out out' : Vec ℕ Z) (done : Bool) → Fed q chunk s t out out' q' done
    → (text : List ℕ) → q ≡ kept text → Fed text chunk s t out out' q' done
whole_text q chunk q' s t out out' done fed text e = fed_whole text chunk q' s t out out' done (rw e at fed)

pub ended_whole : {Z : Type 0} (p : List ℕ) {s t : State} {out out' : Vec ℕ Z} (done : Bool) → Ended (last_line (kept p)) s t out out' done → Ended (last_line p) s t out out' done
ended_whole p done ended =
    let (said, left, last) = texts_alike p [] in
    ended_alike (last_line (kept p)) (last_line p) done last ended

pub last_is : (p : List ℕ) → 0 < length p → last_line p ≡ p ∷ []
last_is [] h = absurd (omega arith)
last_is (c ∷ cs) h = refl

-- ---- the lines of a chunk

-- the lines before what is left of a chunk are answered, and q is kept of the text before it
pub record Underway {Z : Type 0} (p chunk q left : List ℕ) (s t : State) (out out' : Vec ℕ Z) : Type 0 where
  pub first : List (List ℕ)
  pub all : lines p chunk ≡ first ++ lines q left
  pub tail : rest p chunk ≡ rest q left
  pub answered : LinesAnswered first s t out out'

pub begins : {Z : Type 0} (p chunk : List ℕ) (s : State) (out : Vec ℕ Z) → Underway p chunk p chunk s s out out
begins p chunk s out =
    record {
      first = [];
      all = refl;
      tail = refl;
      answered = record { written = sym (append-nil _); becomes = refl; used = omega arith; keeps_room = omega arith };
    }

module _ {Z : Type 0} {p chunk q left : List ℕ} {s t : State} {out out' : Vec ℕ Z} where
  -- the next line is answered
  pub goes_on : {u : State} {out'' : Vec ℕ Z} {q' part after : List ℕ} (n : ℕ) → Underway p chunk q left s t out out'
      → NoneBefore (Newline left) 0 (length left) n
      → Newline left n
      → part ≡ take n left
      → after ≡ drop n left
      → Ended ((q ++ part) ∷ []) t u out' out'' true
      → q' ≡ []
      → Underway p chunk q' (take (length after - 1) (drop 1 after)) s u out out''
  goes_on {part = part} {after = after} n w found is part_is after_is ended clear =
      let next = first_line q left n found is in
      let group = append_assoc w.first ((q ++ part) ∷ []) (lines [] (drop (suc n) left)) in
      let left_is : take (length after - 1) (drop 1 after) ≡ drop (suc n) left =
      take_rest after 1 ∙ ap (drop 1) after_is ∙ drop-drop 1 n left ∙ ap (λ k. drop k left) (add-one n) in
      record {
        first = w.first ++ ((q ++ part) ∷ []);
        all = rw (clear, left_is) cc;
        tail = rw (clear, left_is) (w.tail ∙ next.1);
        answered = answered_more w.first ((q ++ part) ∷ []) w.answered ended.answered;
      }

  -- .. or is not
  pub stops : {u : State} {out'' : Vec ℕ Z} (q' line : List ℕ) (n : ℕ) → Underway p chunk q left s t out out'
      → NoneBefore (Newline left) 0 (length left) n
      → Newline left n
      → Ended (line ∷ []) t u out' out'' false
      → Fed p chunk s u out out'' q' false
  stops q' line n w found is ended =
      let next = ap length (first_line q left n found is).0 in
      let long = length-append w.first (lines q left) in
      record {
        first = w.first;
        others = lines q left;
        all = w.all;
        answered = rw append-nil at (answered_more w.first [] w.answered ended.answered);
        stopped = rw w.all (omega (arith, w.answered.used, ended.stopped refl));
      }

  -- no line is left
  pub ends : (q' : List ℕ) → Underway p chunk q left s t out out'
      → Nowhere (Newline left) 0 (length left)
      → q' ≡ kept (q ++ left)
      → Fed p chunk s t out out' q' true
  ends q' w before more =
      let none = no_line q left before in
      let all : lines p chunk ≡ w.first = w.all ∙ rw (none.0, append-nil) in
      (rw all w.answered, more ∙ ap kept (sym (w.tail ∙ none.1)))
