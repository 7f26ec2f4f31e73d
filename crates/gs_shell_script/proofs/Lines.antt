-- The lines of an input, one after another.
use Rattle.std.proofs.Common.{◌≡◌, ◌≢◌, ◌<◌, take_all, ◌++◌, ◌∷◌, [], ℕ, List, Bool, true, false, cond, eqb, length, Option, Some, IfSome, refl, sym, ap, subst, ◌∙◌, arith, append_assoc, append-nil}
use Rattle.std.proofs.lemmas.Grind.{flat_map-append}
use Rattle.std.proofs.lemmas.List.Elements.{All-nil}
use Rattle.std.specs.Io.KnownBytes.{Appends, Keeps}
use Rattle.std.specs.Io.BufRead.{take_through, drop_through}
use Rattle.std.proofs.KnownBytes.{Appends-nil, Appends-trans, Appends-kept, Consumes-nil}
use Rattle.gs_shell_line.specs.Line.{StaysInLine}
use Rattle.gs_shell_script.specs.Run.{lines_of, onto, Runs, AnswersLine, Turns, Wrote, Writes, StopsReading, StopsWriting, BreaksOff, AppendsBeginning, unlines}

pub lines_of-step : (xs : List ℕ) → 0 < length xs → lines_of xs ≡ take_through 10 xs ∷ lines_of (drop_through 10 xs)
lines_of-step [] some = absurd (omega arith)
lines_of-step (x ∷ []) some = at (eqb x 10)
  where
    at : (b : Bool) → cond b ((x ∷ []) ∷ []) ((x ∷ []) ∷ []) ≡ cond b (x ∷ []) (x ∷ []) ∷ lines_of (cond b [] [])
    at true = refl
    at false = refl
lines_of-step (x ∷ y ∷ ys) some = at (eqb x 10) (ap (onto x) (lines_of-step (y ∷ ys) (omega arith)))
  where
    at : (b : Bool) → onto x (lines_of (y ∷ ys)) ≡ onto x (take_through 10 (y ∷ ys) ∷ lines_of (drop_through 10 (y ∷ ys)))
        → cond b ((x ∷ []) ∷ lines_of (y ∷ ys)) (onto x (lines_of (y ∷ ys)))
        ≡ cond b (x ∷ []) (x ∷ take_through 10 (y ∷ ys)) ∷ lines_of (cond b (y ∷ ys) (drop_through 10 (y ∷ ys)))
    at true h = refl
    at false h = h

unlines-push : (texts : List (List ℕ)) (text : List ℕ) → unlines (texts ++ text ∷ []) ≡ unlines texts ++ (text ++ 10 ∷ [])
unlines-push texts text = flat_map-append (λ (t : List ℕ). t ++ 10 ∷ []) texts (text ∷ []) ∙ ap (λ l. unlines texts ++ l) (append-nil (text ++ 10 ∷ []))

-- all of some bytes is a beginning of them
pub begins-whole : (a b c : Option (List ℕ)) (xs : List ℕ) → Appends a b xs → Keeps b c → AppendsBeginning a c xs
begins-whole a b c xs whole kept = (length xs, subst (Appends a c) (sym (take_all (length xs) xs (omega arith))) (Appends-kept a b c xs whole kept))

pub stays-here : (left : Option (List ℕ)) → StaysInLine left left
stays-here left = ([], Consumes-nil left, All-nil (λ x. x ≢ 10))

module _ {S : Type 0} (A : S → List ℕ → List ℕ → S → Type 0) where
  -- one more line is answered
  Runs-push : (s : S) (lines texts : List (List ℕ)) (mid end : S) (line text : List ℕ)
      → Runs A s lines texts mid → AnswersLine A mid line text end → Runs A s (lines ++ line ∷ []) (texts ++ text ∷ []) end
  Runs-push s [] [] mid end line text same a = (end, subst (λ (m : S). AnswersLine A m line text end) same a, refl)
  Runs-push s [] (t ∷ ts) mid end line text r a = absurd r
  Runs-push s (l ∷ ls) [] mid end line text r a = absurd r
  Runs-push s (l ∷ ls) (t ∷ ts) mid end line text (next, first, rest) a = (next, first, Runs-push next ls ts mid end line text rest a)

  pub wrote_none : (s : S) (input : List ℕ) (out : Option (List ℕ)) → Wrote A s input (Some input) out out s
  wrote_none s input out = ([], [], input, refl, Appends-nil out, refl, refl)

  pub wrote_more : (s : S) (input : List ℕ) (left left' out mid out' : Option (List ℕ)) (now new : S)
      → Wrote A s input left out mid now → IfSome left (λ xs. Turns A xs left' mid out' now new true) → Wrote A s input left' out out' new
  wrote_more s input left left' out mid out' now new (texts, lines, rest, is, whole, parts, runs) turn =
      let (some, left_is, text, answers, more) = subst (λ (o : Option (List ℕ)). IfSome o (λ xs. Turns A xs left' mid out' now new true)) is turn in
      let line = take_through 10 rest in (
        texts ++ text ∷ [],
        lines ++ line ∷ [],
        drop_through 10 rest,
        left_is,
        subst (Appends out out') (sym (unlines-push texts text)) (Appends-trans out mid out' _ _ whole more),
        parts ∙ ap (λ l. lines ++ l) (lines_of-step rest some) ∙ sym (append_assoc lines (line ∷ []) (lines_of (drop_through 10 rest))),
        Runs-push s lines texts now new line text runs answers,
      )

  pub wrote_all : (s : S) (input : List ℕ) (left left' out mid out' : Option (List ℕ)) (now new : S)
      → Wrote A s input left out mid now → IfSome left (λ xs. Turns A xs left' mid out' now new false) → Writes A s input out out' new
  wrote_all s input left left' out mid out' now new (texts, lines, rest, is, whole, parts, runs) turn =
      let (none, kept, same) = subst (λ (o : Option (List ℕ)). IfSome o (λ xs. Turns A xs left' mid out' now new false)) is turn in
      let all : lines_of input ≡ lines = parts ∙ ap (λ xs. lines ++ lines_of xs) none ∙ append-nil lines in
      subst (λ (m : S). Writes A s input out out' m) (sym same) (record {
        texts = texts;
        runs = subst (λ (ls : List (List ℕ)). Runs A s ls texts now) (sym all) runs;
        whole = Appends-kept out mid out' _ whole kept;
      })

  -- a read fails
  pub stops : (s : S) (input : List ℕ) (left left' out mid out' : Option (List ℕ)) (now new : S)
      → Wrote A s input left out mid now → StaysInLine left left' → Keeps mid out' → new ≡ now → StopsReading A s input left' out out' new
  stops s input left left' out mid out' now new (texts, lines, rest, is, whole, parts, runs) stays kept same = record {
    lines = lines;
    rest = rest;
    parts = parts;
    left_in_rest = subst (λ (o : Option (List ℕ)). StaysInLine o left') is stays;
    written = record {
      texts = texts;
      runs = subst (λ (m : S). Runs A s lines texts m) (sym same) runs;
      whole = Appends-kept out mid out' _ whole kept;
    };
  }

  -- a write fails
  pub breaks : (s : S) (input : List ℕ) (left left' out mid out' : Option (List ℕ)) (now new : S)
      → Wrote A s input left out mid now → IfSome left (λ xs. BreaksOff A xs left' mid out' now new) → StopsWriting A s input left' out out' new
  breaks s input left left' out mid out' now new (texts, lines, rest, is, whole, parts, runs) broken =
      let (some, left_is, text, answers, begun) = subst (λ (o : Option (List ℕ)). IfSome o (λ xs. BreaksOff A xs left' mid out' now new)) is broken in
      record {
        lines = lines;
        line = take_through 10 rest;
        rest = drop_through 10 rest;
        parts = parts ∙ ap (λ l. lines ++ l) (lines_of-step rest some);
        left_is = left_is;
        between = mid;
        before = now;
        written = record { texts = texts; runs = runs; whole = whole };
        text = text;
        answers = answers;
        begun = begun;
      }
