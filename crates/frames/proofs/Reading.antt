-- A text that is read in chunks.
use Rattle.std.proofs.Common.{◌≡◌, ℕ, ◌*◌, ◌≤◌, Bool, true, false, List, [], ◌∷◌, ◌++◌, length, take, map, Option, Vec, sym, refl, ap, subst, ◌∙◌, append-nil, arith}
use Rattle.std.proofs.lemmas.List.{take-take}
use Rattle.std.proofs.lemmas.Bool.Decides.{nat_tests}
use Rattle.std.specs.Io.KnownBytes.{Appends, Consumes}
use Rattle.std.proofs.KnownBytes.{Appends-trans, Consumes-trans}
use Rattle.book.specs.State.{State}
use Rattle.frames.specs.Hex.{line_bytes}
use Rattle.frames.specs.Replies.{longest, spare}
use Rattle.frames.specs.Sessions.{Fed, Serves, after_lines, answers, last_line, lines, rest, text_lines}
use Rattle.frames.specs.Stream.{kept}
use Rattle.frames.proofs.Chunks.{chunks_alike, texts_alike}
use Rattle.frames.proofs.Feeding.{after_more, answers_more, same_answers}

-- ---- room for the answers to a chunk

length-lines : (p text : List ℕ) → length (lines p text) ≤ length text
length-lines p [] = omega arith
length-lines p (c ∷ cs) =
    let ended = length-lines [] cs in
    let longer = length-lines (p ++ (c ∷ [])) cs in
    grind (arith, nat_tests)

-- a chunk is answered where there is room for an answer to each character of it
pub never_stops : {Z : Type 0} (q chunk q' : List ℕ) (s t : State) (out out' : Vec ℕ Z) (done : Bool) → Fed q chunk s t out out' q' done → longest * length chunk ≤ spare out → done ≡ true
never_stops q chunk q' s t out out' true fed room = refl
never_stops q chunk q' s t out out' false fed room = absurd (omega (arith, fed.stopped, length-lines q chunk))

-- ---- the text that was read so far

-- two texts of which the same is kept say the same
same_texts : (q r chunk : List ℕ) → kept q ≡ kept r
    → (map line_bytes (lines q chunk) ≡ map line_bytes (lines r chunk)) × (kept (rest q chunk) ≡ kept (rest r chunk)) × (map line_bytes (last_line q) ≡ map line_bytes (last_line r))
same_texts q r chunk e =
    let (said, left, last) = texts_alike q chunk in
    let (said', left', last') = texts_alike r chunk in (
      sym said ∙ ap (λ k. map line_bytes (lines k chunk)) e ∙ said',
      sym left ∙ ap (λ k. kept (rest k chunk)) e ∙ left',
      sym last ∙ ap (λ k. map line_bytes (last_line k)) e ∙ last',
    )

-- a read that gave nothing
pub nothing_more : (a b c : Option (List ℕ)) (text buf : List ℕ) (n : ℕ) → n ≡ 0 → Consumes a b text → Consumes b c (take n buf) → Consumes a c text
nothing_more a b c text buf n none p q =
    subst (Consumes a c) (ap (λ k. text ++ take k buf) none ∙ append-nil text) (Consumes-trans a b c text (take n buf) p q)

-- the whole lines of the text after p that was read so far are answered, and q is kept of the rest
pub record IsRead (p text q : List ℕ) (s t : State) (held held' : Option (List ℕ)) : Type 0 where
  pub written : Appends held held' (answers s (lines p text))
  pub becomes : t ≡ after_lines s (lines p text)
  pub keeps : kept q ≡ kept (rest p text)

module _ {p text q : List ℕ} {s t u : State} {held held' held'' : Option (List ℕ)} (so_far : IsRead p text q s t held held') where
  -- one more chunk is answered
  pub reads_on : {q' : List ℕ} (more : List ℕ) → Appends held' held'' (answers t (lines q more)) → u ≡ after_lines t (lines q more) → q' ≡ kept (rest q more)
      → IsRead p (text ++ more) q' s u held held''
  reads_on {q' = q'} more written becomes keeps =
      let (whole, left) = chunks_alike p text more in
      let (said, tail, last) = same_texts q (rest p text) more so_far.keeps in
      let same = same_answers t (lines q more) (lines (rest p text) more) said in
      let before = so_far.becomes in
      let joined = answers_more s (lines p text) (lines (rest p text) more) in
      let state = after_more s (lines p text) (lines (rest p text) more) in
      let all : answers s (lines p text) ++ answers t (lines q more) ≡ answers s (lines p (text ++ more)) = cc in
      let cut : kept (kept (rest q more)) ≡ kept (rest q more) = take-take 77 77 (rest q more) (omega arith) in
      record {
        written = subst (Appends held held'') all (Appends-trans held held' held'' _ _ so_far.written written);
        becomes = cc;
        keeps = cc;
      }

  -- the last line is answered
  pub reads_all : Appends held' held'' (answers t (last_line q)) → u ≡ after_lines t (last_line q) → Serves p text s u held held''
  reads_all written becomes =
      let (said, tail, last) = same_texts q (rest p text) [] so_far.keeps in
      let same = same_answers t (last_line q) (last_line (rest p text)) last in
      let before = so_far.becomes in
      let joined = answers_more s (lines p text) (last_line (rest p text)) in
      let state = after_more s (lines p text) (last_line (rest p text)) in
      let all : answers s (lines p text) ++ answers t (last_line q) ≡ answers s (text_lines p text) = cc in
      record {
        written = subst (Appends held held'') all (Appends-trans held held' held'' _ _ so_far.written written);
        becomes = cc;
      }
