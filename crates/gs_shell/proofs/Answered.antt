-- What holds of the lines of each run and of their answers holds of what a run reads and writes.
use Rattle.std.proofs.Common.{◌≡◌, ◌∙◌, ◌++◌, ◌+◌, ℕ, suc, List, [], ◌∷◌, Option, Some, None, IfSome, Result, Ok, Err, length, take, refl, sym, ap, subst, append_assoc, append-nil}
use Rattle.std.specs.Io.KnownBytes.{Appends}
use Rattle.std.proofs.KnownBytes.{Appends-trans}
use Rattle.gs_base.specs.declared.config.Config.{Config}
use Rattle.gs_shell_script.specs.Run.{AnswersLine, Runs, lines_of, unlines}
use Rattle.gs_shell_script.specs.declared.RunFault.{RunFault}
use Rattle.gs_shell_script.specs.declared.RunFault.TheVariants as fault
use Rattle.gs_shell_desk.specs.Answering.{AnswersText}
use Rattle.gs_shell_desk.specs.Starting.{Starts}
use Rattle.gs_shell_desk.specs.declared.desk.Desk.{Desk}
use Rattle.gs_shell.specs.Answering.{Answers, AnswersAll, AnswersBeforeARead, AnswersBeforeAWrite}
use Rattle.gs_shell.specs.Telling.{IsTold, ServesOver, StopsOver, Tells}
use Rattle.gs_shell.specs.Watching.{both_watched, failures_of, seen_of}
use Rattle.gs_shell.specs.declared.trouble.Trouble.{Trouble}
use Rattle.gs_shell.specs.declared.watched.Watched.{Watched}

-- there is a text for each line
pub a_text_for_each : {S : Type 0} (A : S → List ℕ → List ℕ → S → Type 0) (lines texts : List (List ℕ)) (old new : S) → Runs A old lines texts new → length texts ≡ length lines
a_text_for_each A [] [] old new same = refl
a_text_for_each A (line ∷ lines) (text ∷ texts) old new (mid, one, rest) = ap suc (a_text_for_each A lines texts mid new rest)
a_text_for_each A [] (text ∷ texts) old new never = absurd never
a_text_for_each A (line ∷ lines) [] old new never = absurd never

-- one more line
pub one_more : {S : Type 0} (A : S → List ℕ → List ℕ → S → Type 0) (lines texts : List (List ℕ)) (line text : List ℕ) (old mid new : S) → Runs A old lines texts mid → AnswersLine A mid line text new → Runs A old (lines ++ line ∷ []) (texts ++ text ∷ []) new
one_more A [] [] line text old mid new same answers = (new, subst (λ s. AnswersLine A s line text new) same answers, refl)
one_more A (first ∷ lines) (said ∷ texts) line text old mid new (next, one, rest) answers = (next, one, one_more A lines texts line text next mid new rest answers)
one_more A [] (said ∷ texts) line text old mid new never answers = absurd never
one_more A (first ∷ lines) [] line text old mid new never answers = absurd never

module _ {D : Type 0} (seen : D → List ℕ) (failures : D → ℕ) (config : Config) (disks : D × D) (trouble : Trouble) (P : List (List ℕ) → List (List ℕ) → Type 0) where
  -- So it is of the lines at the beginning of an input, and of their answers by a desk of which this is told.
  abbrev pub HoldsOfAll : Type 0
  HoldsOfAll =
      (begun ended : Desk (Watched D)) → Starts (seen_of seen) (failures_of failures) config (both_watched disks) begun → IsTold trouble ended
      → (input : List ℕ) (lines more texts : List (List ℕ)) → lines_of input ≡ lines ++ more → Runs (AnswersText (seen_of seen) (failures_of failures)) begun lines texts ended → P lines texts

  module _ (law : HoldsOfAll) (left old new : Option (List ℕ)) where
    to_the_end : (before : Option (List ℕ)) → IfSome before (λ input. (s : ServesOver seen failures config disks input old new) × IsTold trouble s.ended) → IfSome before (λ input. AnswersAll P input old new)
    to_the_end None told = tt
    to_the_end (Some input) (s, told) = record {
      texts = s.writes.texts;
      each = a_text_for_each (AnswersText (seen_of seen) (failures_of failures)) (lines_of input) s.writes.texts s.begun s.ended s.writes.runs;
      written = s.writes.whole;
      holds = law s.begun s.ended s.starts told input (lines_of input) [] s.writes.texts (sym (append-nil (lines_of input))) s.writes.runs;
    }

    until_a_read : (before : Option (List ℕ)) → (s : StopsOver seen failures config disks fault.Read before left old new) × IsTold trouble s.ended → IfSome before (λ input. AnswersBeforeARead P input left old new)
    until_a_read None told = tt
    until_a_read (Some input) (s, told) = record {
      lines = s.fails.lines;
      rest = s.fails.rest;
      parts = s.fails.parts;
      left_in_rest = s.fails.left_in_rest;
      texts = s.fails.written.texts;
      each = a_text_for_each (AnswersText (seen_of seen) (failures_of failures)) s.fails.lines s.fails.written.texts s.begun s.ended s.fails.written.runs;
      written = s.fails.written.whole;
      holds = law s.begun s.ended s.starts told input s.fails.lines (lines_of s.fails.rest) s.fails.written.texts s.fails.parts s.fails.written.runs;
    }

    until_a_write : (before : Option (List ℕ)) → (s : StopsOver seen failures config disks fault.Write before left old new) × IsTold trouble s.ended → IfSome before (λ input. AnswersBeforeAWrite P input left old new)
    until_a_write None told = tt
    until_a_write (Some input) (s, told) =
        let f = s.fails in
        let all = f.lines ++ f.line ∷ [] in
        let said = f.written.texts ++ f.text ∷ [] in
        let runs = one_more (AnswersText (seen_of seen) (failures_of failures)) f.lines f.written.texts f.line f.text s.begun f.before s.ended f.written.runs f.answers in
        let parts = f.parts ∙ sym (append_assoc f.lines (f.line ∷ []) (lines_of f.rest)) in
        record {
          lines = all;
          rest = f.rest;
          parts = parts;
          left_is = f.left_is;
          texts = f.written.texts;
          last = f.text;
          each = a_text_for_each (AnswersText (seen_of seen) (failures_of failures)) all said s.begun s.ended runs;
          count = f.begun.0;
          written = Appends-trans old f.between new _ _ f.written.whole f.begun.1;
          holds = law s.begun s.ended s.starts told input all (lines_of f.rest) said parts runs;
        }

    pub answers : (r : Result (Unit {0}) RunFault) (before : Option (List ℕ)) → Tells seen failures config disks trouble r before left old new → Answers P r before left old new
    answers (Ok done) before told = to_the_end before told
    answers (Err fault.Read) before told = until_a_read before told
    answers (Err fault.Write) before told = until_a_write before told
    answers (Err (fault.Refused refusal)) before (n, nothing) = (n.unread, n.unwritten)
