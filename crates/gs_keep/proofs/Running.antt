-- Lines are run, one after another.
use Rattle.std.proofs.Common.{◌≡◌, ◌≢◌, ◌<◌, ◌≤◌, ◌+◌, ◌++◌, ◌∷◌, [], ℕ, List, Bool, true, false, true≢false, cond, length, Option, Some, None, IfSome, Result, Ok, Err, IfOk, OnErr, refl, sym, ap, subst, ◌∙◌, arith, append_assoc, append-nil, length-append, inl, inr, codes}
use Rattle.std.specs.Io.BufRead.{ends_with_byte, take_through, drop_through}
use Rattle.std.proofs.BufReadLemmas.{take_through-nil, take_through_nonempty}
use Rattle.gs_shell_line.specs.Line.{StaysInLine, content, longest_line}
use Rattle.gs_shell_script.specs.Run.{AnswersIfShort, AnswersLine, bad_line_text, lines_of, memory_text, unlines}
use Rattle.gs_shell_script.proofs.Lines.{lines_of-step}
use Rattle.gs_shell_line.specs.Ended.{IsEndedLine}
use Rattle.gs_shell_line.specs.declared.ended.EndedLine.{EndedLine}
use Rattle.gs_shell_line.specs.declared.ended.EndedLine.TheVariants.{End, Text, Unended, TooLong, NoMemory}
use Rattle.gs_keep_mark.specs.Ledgers.{IsLedger, is_full}
use Rattle.gs_keep_mark.specs.Marks.{Totals, noted, starts_mark, text_of, with_batch}
use Rattle.gs_keep_mark.specs.Started.{IsBatch, IsPlain}
use Rattle.gs_keep_mark.specs.declared.Ledger.{Ledger}
use Rattle.gs_keep.specs.Lines.{MayStand, Turn, entries, is_away, lines_asked, texts_of, turned_away_text}
use Rattle.gs_keep.specs.Running.{LoggedAs, RunsOne, RunsSome, RunsUnless, Takes}
use Rattle.gs_keep.specs.declared.batch.Gathered.TheVariants as gathered
use Rattle.gs_keep.proofs.Batches.{all_join, answers_join, entries_join, line_read, lines_join, text_join, text_read, unlines_join, with_join}
use Rattle.gs_keep.proofs.Lines.{bad_line_is, logged_unmarked, long_test, long_unlogged, memory_is, next_plain, other_unlogged, short_logged, short_test}

module _ {S : Type 0} (A : S → List ℕ → List ℕ → S → Type 0) (is_kept : List ℕ → Bool) where
  -- ---- one line

  -- the text that is shown of an answer
  pub told : {X E : Type 0} (bytes : X → List ℕ) (answer : Result X E) (shown line : List ℕ) (old new : S) → IfOk answer (λ text. A old line (bytes text) new) → OnErr answer (A old line memory_text new)
      → IfOk answer (λ text. shown ≡ bytes text) → OnErr answer (shown ≡ memory_text) → A old line shown new
  told bytes (Ok text) shown line old new ok err same none = subst (λ (l : List ℕ). A old line l new) (sym same) ok
  told bytes (Err e) shown line old new ok err same none = subst (λ (l : List ℕ). A old line l new) (sym none) err

  -- the text of an answer that isn't one for want of memory
  pub not_lacking : {X E : Type 0} (bytes : X → List ℕ) (answer : Result X E) (shown : List ℕ) (lacks : Bool) → lacks ≡ false → IfOk answer (λ text. lacks ≡ false → bytes text ≢ memory_text)
      → OnErr answer (lacks ≡ true) → IfOk answer (λ text. shown ≡ bytes text) → shown ≢ memory_text
  not_lacking bytes (Ok text) shown lacks enough other lacking same is = other enough (sym same ∙ is)
  not_lacking bytes (Err e) shown lacks enough other lacking same is = absurd (true≢false (sym lacking ∙ enough))

  pub answers_short : (line text : List ℕ) (old new : S) → length (content line) ≤ longest_line → A old (content line) text new → AnswersLine A old line text new
  answers_short line text old new short answers =
      inr (subst (λ b. AnswersIfShort A b old (content line) text new) (sym (short_test (length (content line)) longest_line short)) answers)

module _ {S : Type 0} (A : S → List ℕ → List ℕ → S → Type 0) (is_kept : List ℕ → Bool) (turns_away : S → List ℕ → Bool) (due : S → Option (List ℕ)) where
  -- what is logged of a turn may stand there, whether it is turned away or not
  logged_stands : (old : S) (turn : Turn) (new : S) (w : Bool) → turn.logged ≡ true → RunsUnless A is_kept turns_away due w old turn new → MayStand is_kept turn.line turn.text
  logged_stands old turn new true logged r = absurd (true≢false (sym logged ∙ r.unlogged))
  logged_stands old turn new false logged r = subst (λ (k : Bool). LoggedAs A is_kept turns_away due k old turn new) logged r.logged

  pub ran : (line text : List ℕ) (old new : S) (bytes bytes' answers answers' : List ℕ) (ledger ledger' : Ledger) → length (content line) ≤ longest_line → ends_with_byte 10 line ≡ true
      → is_kept (content line) ≡ true → turns_away old (content line) ≡ false → text ≢ memory_text → A old (content line) text new → bytes' ≡ bytes ++ line → answers' ≡ answers ++ (text ++ 10 ∷ [])
      → ((t : Totals) → IsLedger ledger t → IsLedger ledger' (noted t (record { line = line; answer = text })))
      → RunsOne A is_kept turns_away due line old new bytes bytes' answers answers' ledger ledger'
  ran line text old new bytes bytes' answers answers' ledger ledger' short ends kept taken enough answered put told noted = record {
    turn = record { line = line; text = text; logged = true; away = false; own = false };
    line_is = refl;
    read = refl;
    ended = λ logged. ends;
    runs = record {
      away = sym (other_unlogged (turns_away old) line taken);
      runs = record { answers = answers_short A is_kept line text old new short answered; logged = (short_logged is_kept line short kept, enough) };
      own = tt;
    };
    logged = put ∙ ap (λ (l : List ℕ). bytes ++ l) (sym (append-nil line));
    answered = told;
    noted = noted;
  }

  pub ran_other : (line text : List ℕ) (old new : S) (bytes answers answers' : List ℕ) (ledger : Ledger) → length (content line) ≤ longest_line
      → is_kept (content line) ≡ false → turns_away old (content line) ≡ false → new ≡ old → A old (content line) text new → answers' ≡ answers ++ (text ++ 10 ∷ [])
      → RunsOne A is_kept turns_away due line old new bytes bytes answers answers' ledger ledger
  ran_other line text old new bytes answers answers' ledger short other taken same answered told = record {
    turn = record { line = line; text = text; logged = false; away = false; own = false };
    line_is = refl;
    read = refl;
    ended = λ logged. absurd (true≢false (sym logged));
    runs = record {
      away = sym (other_unlogged (turns_away old) line taken);
      runs = record { answers = answers_short A is_kept line text old new short answered; logged = (same, inl (other_unlogged is_kept line other)) };
      own = tt;
    };
    logged = sym (append-nil bytes);
    answered = told;
    noted = λ t is. is;
  }

  unheld_runs : (w away : Bool) (s : S) (line : List ℕ) → RunsUnless A is_kept turns_away due w s (record { line = line; text = memory_text; logged = false; away = away; own = false }) s
  unheld_runs true away s line = record { same = refl; unlogged = refl; told = inr refl }
  unheld_runs false away s line = record { answers = inl (refl, refl); logged = (refl, inr refl) }

  -- memory is lacking to hold a line or to log it
  pub unheld : (line : List ℕ) (s : S) (bytes bytes' answers answers' : List ℕ) (ledger : Ledger) → bytes' ≡ bytes → answers' ≡ answers ++ (codes "refused 33 Memory" ++ 10 ∷ [])
      → RunsOne A is_kept turns_away due line s s bytes bytes' answers answers' ledger ledger
  unheld line s bytes bytes' answers answers' ledger kept told = record {
    turn = record { line = line; text = memory_text; logged = false; away = is_away turns_away s line; own = false };
    line_is = refl;
    read = refl;
    ended = λ logged. absurd (true≢false (sym logged));
    runs = record { away = refl; runs = unheld_runs (is_away turns_away s line) (is_away turns_away s line) s line; own = tt };
    logged = kept ∙ sym (append-nil bytes);
    answered = told ∙ ap (λ (l : List ℕ). answers ++ (l ++ 10 ∷ [])) memory_is;
    noted = λ t is. is;
  }

  -- a line is turned away
  pub turned : (line : List ℕ) (s : S) (bytes answers answers' : List ℕ) (ledger : Ledger) → length (content line) ≤ longest_line → turns_away s (content line) ≡ true
      → answers' ≡ answers ++ (codes "refused 39 NeedsLab" ++ 10 ∷ []) → RunsOne A is_kept turns_away due line s s bytes bytes answers answers' ledger ledger
  turned line s bytes answers answers' ledger short away told = record {
    turn = record { line = line; text = turned_away_text; logged = false; away = true; own = false };
    line_is = refl;
    read = refl;
    ended = λ logged. absurd (true≢false (sym logged));
    runs = record { away = sym (short_logged (turns_away s) line short away); runs = record { same = refl; unlogged = refl; told = inl refl }; own = tt };
    logged = sym (append-nil bytes);
    answered = told;
    noted = λ t is. is;
  }

  pub too_long : (line : List ℕ) (s : S) (bytes answers answers' : List ℕ) (ledger : Ledger) → longest_line < length (content line) → answers' ≡ answers ++ (codes "refused 34 BadLine" ++ 10 ∷ [])
      → RunsOne A is_kept turns_away due line s s bytes bytes answers answers' ledger ledger
  too_long line s bytes answers answers' ledger long told = record {
    turn = record { line = line; text = bad_line_text; logged = false; away = false; own = false };
    line_is = refl;
    read = refl;
    ended = λ logged. absurd (true≢false (sym logged));
    runs = record {
      away = sym (long_unlogged (turns_away s) line long);
      runs = record {
        answers = inr (subst (λ b. AnswersIfShort A b s (content line) bad_line_text s) (sym (long_test (length (content line)) longest_line long)) (refl, refl));
        logged = (refl, inl (long_unlogged is_kept line long));
      };
      own = tt;
    };
    logged = sym (append-nil bytes);
    answered = told ∙ ap (λ (l : List ℕ). answers ++ (l ++ 10 ∷ [])) bad_line_is;
    noted = λ t is. is;
  }

  -- ---- many lines

  -- so far
  abbrev pub RunsSoFar : ℕ → List ℕ → Option (List ℕ) → S → S → List ℕ → List ℕ → Ledger → Ledger → Type 0
  RunsSoFar count xs left old new bytes answers ledger ledger' = (rest : List ℕ) × (left ≡ Some rest) × RunsSome A is_kept turns_away due count xs rest old new bytes answers ledger ledger'

  pub runs_none : (o : Option (List ℕ)) (s : S) (bytes answers : List ℕ) (ledger : Ledger) → bytes ≡ [] → answers ≡ [] → IfSome o (λ xs. RunsSoFar 0 xs o s s bytes answers ledger ledger)
  runs_none None s bytes answers ledger no_bytes no_answers = tt
  runs_none (Some xs) s bytes answers ledger no_bytes no_answers = (
    xs,
    refl,
    record { turns = []; many = omega arith; parts = refl; runs = refl; plain = tt; logged = no_bytes; answered = no_answers; noted = λ t is. is },
  )

  some_content : (whole : List ℕ) → longest_line < length (content whole) → 0 < length whole
  some_content [] h = absurd (omega (arith, h))
  some_content (x ∷ xs) h = omega arith

  ended_some : (xs : List ℕ) → ends_with_byte 10 xs ≡ true → 0 < length xs
  ended_some [] e = absurd (true≢false (sym e))
  ended_some (x ∷ xs) e = omega arith

  -- a line that is not the end has a byte
  nonempty : (whole : List ℕ) (line : EndedLine) → line ≢ End → IsEndedLine whole line → 0 < length whole
  nonempty whole End more is = absurd (more refl)
  nonempty whole (Text v) more is = ended_some whole is.1
  nonempty whole Unended more is = is.0
  nonempty whole TooLong more is = some_content whole is
  nonempty whole NoMemory more is = is

  pub runs_more : ((line : List ℕ) → is_kept (35 ∷ line) ≡ false) → (count : ℕ) (line : EndedLine) (xs : List ℕ) (left left' : Option (List ℕ)) (old now new : S) (bytes bytes' answers answers' : List ℕ) (start ledger ledger' : Ledger)
      → RunsSoFar count xs left old now bytes answers start ledger → line ≢ End → IfSome left (λ ys. IsEndedLine (take_through 10 ys) line) → IfSome left (λ ys. left' ≡ Some (drop_through 10 ys))
      → ((whole : List ℕ) → IsEndedLine whole line → RunsOne A is_kept turns_away due whole now new bytes bytes' answers answers' ledger ledger')
      → RunsSoFar (count + 1) xs left' old new bytes' answers' start ledger'
  runs_more none count line xs left left' old now new bytes bytes' answers answers' start ledger ledger' (rest, is, r) more next behind one =
      let next' = subst (λ (o : Option (List ℕ)). IfSome o (λ ys. IsEndedLine (take_through 10 ys) line)) is next in
      let behind' = subst (λ (o : Option (List ℕ)). IfSome o (λ ys. left' ≡ Some (drop_through 10 ys))) is behind in
      let o = one (take_through 10 rest) next' in
      let some = take_through_nonempty 10 rest (nonempty (take_through 10 rest) line more next') in
      let turns = r.turns in
      let last : List Turn = o.turn ∷ [] in
      let asked = line_read o.turn o.read in
      let back = lines_of (drop_through 10 rest) in (
        drop_through 10 rest,
        behind',
        record {
          turns = turns ++ last;
          many = omega (arith, r.many, ap length (lines_join turns last ∙ ap (λ (l : List (List ℕ)). lines_asked turns ++ l) asked), length-append (lines_asked turns) (o.turn.line ∷ []));
          parts = r.parts ∙ ap (λ (l : List (List ℕ)). lines_asked turns ++ l) (lines_of-step rest some ∙ ap (λ (l : List ℕ). l ∷ back) (sym o.line_is))
              ∙ sym (append_assoc (lines_asked turns) (o.turn.line ∷ []) back) ∙ ap (λ (l : List (List ℕ)). (lines_asked turns ++ l) ++ back) (sym asked)
              ∙ ap (λ (l : List (List ℕ)). l ++ back) (sym (lines_join turns last));
          runs = answers_join A is_kept turns_away due old now new turns last r.runs (new, o.runs, refl);
          plain = subst IsBatch (sym (entries_join turns last)) (all_join _ (entries turns) (entries last) r.plain (plain_last o some));
          logged = o.logged ∙ ap (λ (l : List ℕ). l ++ text_of (entries last)) r.logged ∙ sym (text_join (entries turns) (entries last)) ∙ ap text_of (sym (entries_join turns last));
          answered = o.answered ∙ ap (λ (l : List ℕ). l ++ (o.turn.text ++ 10 ∷ [])) r.answered
              ∙ ap (λ (l : List ℕ). unlines (texts_of turns) ++ l) (sym (append-nil (o.turn.text ++ 10 ∷ [])))
              ∙ ap (λ (l : List (List ℕ)). unlines (texts_of turns) ++ unlines l) (sym (text_read o.turn o.read)) ∙ sym (unlines_join turns last);
          noted = λ t told. subst (IsLedger ledger') (sym (with_join t (entries turns) (entries last)) ∙ ap (with_batch t) (sym (entries_join turns last)))
              (o.noted (with_batch t (entries turns)) (r.noted t told));
        },
      )
    where
      plain_last : (o : RunsOne A is_kept turns_away due (take_through 10 rest) now new bytes bytes' answers answers' ledger ledger') → 0 < length rest → IsBatch (entries (o.turn ∷ []))
      plain_last o some = at o.turn.logged refl
        where
          at : (k : Bool) → o.turn.logged ≡ k → IsBatch (cond k (record { line = o.turn.line; answer = o.turn.text } ∷ []) [])
          at false e = tt
          at true e =
              let (logged, enough) = logged_stands now o.turn new o.turn.away e o.runs.runs in
              let ends = subst (λ (l : List ℕ). ends_with_byte 10 l ≡ true) o.line_is (o.ended e) in
              (subst IsPlain (sym o.line_is) (next_plain rest some ends (subst (λ (l : List ℕ). starts_mark l ≡ false) o.line_is (logged_unmarked is_kept none o.turn.line logged))), tt)

  -- ---- how it ends

  fewer : (count : ℕ) (xs rest : List ℕ) (old new : S) (bytes answers : List ℕ) (ledger ledger' : Ledger) → RunsSome A is_kept turns_away due count xs rest old new bytes answers ledger ledger'
      → (most : ℕ) → most ≤ count → RunsSome A is_kept turns_away due most xs rest old new bytes answers ledger ledger'
  fewer count xs rest old new bytes answers ledger ledger' r most less = record {
    turns = r.turns;
    many = omega (arith, less, r.many);
    parts = r.parts;
    runs = r.runs;
    plain = r.plain;
    logged = r.logged;
    answered = r.answered;
    noted = r.noted;
  }

  pub gathered_some : (count : ℕ) (xs : List ℕ) (left : Option (List ℕ)) (old new : S) (bytes answers : List ℕ) (ledger ledger' : Ledger) → RunsSoFar count xs left old new bytes answers ledger ledger'
      → 1 ≤ count → Takes A is_kept turns_away due gathered.Some xs left old new bytes answers ledger ledger'
  gathered_some count xs left old new bytes answers ledger ledger' (rest, is, r) some =
      record { rest = rest; left_by = is; full = tt; runs = fewer count xs rest old new bytes answers ledger ledger' r 1 some }

  pub gathered_full : (count : ℕ) (xs : List ℕ) (left : Option (List ℕ)) (old new : S) (bytes answers : List ℕ) (ledger ledger' : Ledger) → RunsSoFar count xs left old new bytes answers ledger ledger'
      → is_full ledger' ≡ true → Takes A is_kept turns_away due gathered.Full xs left old new bytes answers ledger ledger'
  gathered_full count xs left old new bytes answers ledger ledger' (rest, is, r) full =
      record { rest = rest; left_by = is; full = full; runs = fewer count xs rest old new bytes answers ledger ledger' r 0 (omega arith) }

  pub gathered_failed : (count : ℕ) (xs : List ℕ) (left left' : Option (List ℕ)) (old new : S) (bytes answers : List ℕ) (ledger ledger' : Ledger) → RunsSoFar count xs left old new bytes answers ledger ledger'
      → StaysInLine left left' → Takes A is_kept turns_away due gathered.Failed xs left' old new bytes answers ledger ledger'
  gathered_failed count xs left left' old new bytes answers ledger ledger' (rest, is, r) stays =
      record { rest = rest; left_by = subst (λ (o : Option (List ℕ)). StaysInLine o left') is stays; full = tt; runs = fewer count xs rest old new bytes answers ledger ledger' r 0 (omega arith) }

  pub gathered_unended : (count : ℕ) (xs : List ℕ) (left left' : Option (List ℕ)) (old new : S) (bytes answers : List ℕ) (ledger ledger' : Ledger) → RunsSoFar count xs left old new bytes answers ledger ledger'
      → IfSome left (λ ys. IsEndedLine (take_through 10 ys) Unended) → IfSome left (λ ys. left' ≡ Some (drop_through 10 ys)) → Takes A is_kept turns_away due gathered.Unended xs left' old new bytes answers ledger ledger'
  gathered_unended count xs left left' old new bytes answers ledger ledger' (rest, is, r) next behind =
      let (some, ends) = subst (λ (o : Option (List ℕ)). IfSome o (λ ys. IsEndedLine (take_through 10 ys) Unended)) is next in
      record {
        rest = rest;
        left_by = ((take_through_nonempty 10 rest some, ends), subst (λ (o : Option (List ℕ)). IfSome o (λ ys. left' ≡ Some (drop_through 10 ys))) is behind);
        full = tt;
        runs = fewer count xs rest old new bytes answers ledger ledger' r 0 (omega arith);
      }

  pub gathered_all : (count : ℕ) (xs : List ℕ) (left left' : Option (List ℕ)) (old new : S) (bytes answers : List ℕ) (ledger ledger' : Ledger) → RunsSoFar count xs left old new bytes answers ledger ledger'
      → IfSome left (λ ys. IsEndedLine (take_through 10 ys) End) → IfSome left (λ ys. left' ≡ Some (drop_through 10 ys)) → Takes A is_kept turns_away due gathered.All xs left' old new bytes answers ledger ledger'
  gathered_all count xs left left' old new bytes answers ledger ledger' (rest, is, r) next behind =
      let none = take_through-nil 10 rest (ap length (subst (λ (o : Option (List ℕ)). IfSome o (λ ys. IsEndedLine (take_through 10 ys) End)) is next)) in
      let left_is = subst (λ (o : Option (List ℕ)). IfSome o (λ ys. left' ≡ Some (drop_through 10 ys))) is behind in
      record {
        rest = rest;
        left_by = (none, left_is ∙ ap (λ (l : List ℕ). Some (drop_through 10 l)) none ∙ ap (λ (l : List ℕ). Some l) (sym none));
        full = tt;
        runs = fewer count xs rest old new bytes answers ledger ledger' r 0 (omega arith);
      }
