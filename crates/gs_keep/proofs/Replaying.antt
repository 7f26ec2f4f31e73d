-- The lines of a log are run again, one after another.
use Rattle.std.proofs.Common.{◌≡◌, ◌≢◌, ◌<◌, ◌≤◌, ◌+◌, ◌++◌, ◌∷◌, ◌⊎◌, [], ℕ, List, Bool, true, false, true≢false, cond, eqb, length, Option, Some, None, IfSome, Result, Ok, Err, IfOk, IfErr, OnErr, ⊎_elim, refl, sym, ap, subst, ◌∙◌, arith, append_assoc, append-nil, length-append, inl, inr}
use Rattle.std.specs.Io.BufRead.{ends_with_byte, take_through, drop_through}
use Rattle.std.proofs.BufReadLemmas.{take_through_nonempty}
use Rattle.gs_shell_line.specs.Line.{content, longest_line}
use Rattle.gs_shell_script.specs.Run.{AnswersIfShort, bad_line_text, memory_text}
use Rattle.gs_keep_mark.specs.Ledgers.{IsLedger}
use Rattle.gs_keep_mark.specs.Marks.{Entry, Totals, mark_of, marked, noted, text_of, totals_behind, with_batch}
use Rattle.gs_keep_mark.specs.Started.{IsBatch}
use Rattle.gs_keep_mark.specs.declared.Ledger.{Ledger}
use Rattle.gs_keep.specs.Lines.{joined}
use Rattle.gs_keep.specs.Replaying.{RefusesOne, RefusesText, ReplayFails, Replays, ReplaysOne, ReplaysPart, ReplaysSoFar, ReplaysText, RunsAgain, RunsLine}
use Rattle.gs_keep.specs.declared.again.Replaying.{Replaying}
use Rattle.gs_keep.specs.declared.again.Replaying.TheVariants as replaying
use Rattle.gs_keep.specs.declared.again.ReplayFault.{ReplayFault}
use Rattle.gs_keep.specs.declared.again.ReplayFault.TheVariants as fault
use Rattle.gs_keep.proofs.Batches.{again_join, all_join, joined_join, marked_join, text_join, totals_join, with_join}
use Rattle.gs_keep.proofs.Lines.{next_plain, short_logged, short_test}

pub both_parts : (xs : List ℕ) → take_through 10 xs ++ drop_through 10 xs ≡ xs
both_parts [] = refl
both_parts (x ∷ xs) = at (eqb x 10) (both_parts xs)
  where
    at : (b : Bool) → take_through 10 xs ++ drop_through 10 xs ≡ xs → cond b (x ∷ []) (x ∷ take_through 10 xs) ++ cond b xs (drop_through 10 xs) ≡ x ∷ xs
    at true h = refl
    at false h = ap (λ (l : List ℕ). x ∷ l) h

ended_some : (xs : List ℕ) → ends_with_byte 10 xs ≡ true → 0 < length xs
ended_some [] e = absurd (true≢false (sym e))
ended_some (x ∷ xs) e = omega arith

-- this line stands next, and is no longer than a line may be
abbrev pub StandsNext : List ℕ → List ℕ → Type 0
StandsNext line xs = (line ≡ take_through 10 xs) × (ends_with_byte 10 (take_through 10 xs) ≡ true) × (length (content (take_through 10 xs)) ≤ longest_line)

stands_some : (line xs : List ℕ) → StandsNext line xs → 0 < length xs
stands_some line xs (is, ends, short) = take_through_nonempty 10 xs (ended_some (take_through 10 xs) ends)

pub text_refused : {T : Type 0} (is_kept : List ℕ → Bool) (o : Option (List ℕ)) (r : Result T ReplayFault) (number : ℕ) (line : List ℕ) (ledger : Ledger) → IfSome o (StandsNext line)
    → IfErr r (λ f. RefusesText is_kept number f line ledger) → IfErr r (λ f. IfSome o (λ xs. RefusesOne is_kept number f xs ledger))
text_refused is_kept o (Ok x) number line ledger next refused = tt
text_refused is_kept None (Err f) number line ledger next refused = tt
text_refused is_kept (Some xs) (Err f) number line ledger next refused = at f (subst (λ (l : List ℕ). RefusesText is_kept number f l ledger) next.0 refused)
  where
    at : (f : ReplayFault) → RefusesText is_kept number f (take_through 10 xs) ledger → RefusesOne is_kept number f xs ledger
    at fault.Read h = absurd h
    at fault.Memory h = tt
    at (fault.BadLine n) (same, other) = (same, stands_some line xs next, inl other)
    at (fault.Mark n wrong) h = h
    at fault.TooMany h = absurd h

module _ {S : Type 0} (A : S → List ℕ → List ℕ → S → Type 0) (is_kept : List ℕ → Bool) where
  pub logged_run : (line text : List ℕ) (old new : S) (ledger ledger' : Ledger) → length (content line) ≤ longest_line → ends_with_byte 10 line ≡ true → is_kept (content line) ≡ true → text ≢ memory_text
      → A old (content line) text new → ((t : Totals) → IsLedger ledger t → IsLedger ledger' (noted t (record { line = line; answer = text }))) → RunsLine A is_kept line old new ledger ledger'
  logged_run line text old new ledger ledger' short ends kept enough answered noted = record {
    text = text;
    logged = (short_logged is_kept line short kept, enough);
    ended = ends;
    answers = inr (subst (λ b. AnswersIfShort A b old (content line) text new) (sym (short_test (length (content line)) longest_line short)) answered);
    noted = noted;
  }

  -- an answer that only a line of the grammar is given
  pub surely_kept : {X E : Type 0} (bytes : X → List ℕ) (answer : Result X E) (lacks bad : Bool) (line : List ℕ) (old new : S) → lacks ≡ false → bad ≡ false
      → IfOk answer (λ text. lacks ≡ false → bytes text ≢ memory_text) → OnErr answer (lacks ≡ true) → IfOk answer (λ text. bad ≡ false → bytes text ≢ bad_line_text)
      → IfOk answer (λ text. A old line (bytes text) new)
      → ((text : List ℕ) → is_kept line ≡ false → A old line text new → (text ≡ bad_line_text) ⊎ (text ≡ memory_text)) → is_kept line ≡ true
  surely_kept bytes (Err e) lacks bad line old new enough sure no_memory lacking no_bad answered refused = absurd (true≢false (sym lacking ∙ enough))
  surely_kept bytes (Ok text) lacks bad line old new enough sure no_memory lacking no_bad answered refused = at (is_kept line) refl
    where
      at : (b : Bool) → is_kept line ≡ b → is_kept line ≡ true
      at true e = e
      at false e = absurd (⊎_elim (no_bad sure) (no_memory enough) (refused (bytes text) e answered))

  pub text_runs : {E : Type 0} (o left : Option (List ℕ)) (r : Result Replaying E) (line : List ℕ) (ledger ledger' : Ledger) (old new : S) → IfSome o (StandsNext line) → IfSome o (λ xs. left ≡ Some (drop_through 10 xs))
      → IfOk r (λ one. length (content line) ≤ longest_line → ends_with_byte 10 line ≡ true → ReplaysText A is_kept one line ledger ledger' old new)
      → IfOk r (λ one. IfSome o (λ xs. ReplaysOne A is_kept one xs left ledger ledger' old new))
  text_runs o left (Err e) line ledger ledger' old new next behind runs = tt
  text_runs None left (Ok one) line ledger ledger' old new next behind runs = tt
  text_runs (Some xs) left (Ok one) line ledger ledger' old new (is, ends, short) behind runs =
      at one (subst (λ (l : List ℕ). length (content l) ≤ longest_line → ends_with_byte 10 l ≡ true → ReplaysText A is_kept one l ledger ledger' old new) is runs short ends)
    where
      some : 0 < length xs
      some = stands_some line xs (is, ends, short)

      at : (one : Replaying) → ReplaysText A is_kept one (take_through 10 xs) ledger ledger' old new → ReplaysOne A is_kept one xs left ledger ledger' old new
      at replaying.End h = absurd h
      at replaying.Mark (same, marks) = (some, behind, same, marks)
      at replaying.Line (plain, runs) = (some, behind, plain, runs)

  pub replays_none : (o : Option (List ℕ)) (ledger : Ledger) (start : S) → IfSome o (λ xs. ReplaysSoFar A is_kept start xs o 0 0 false ledger ledger start)
  replays_none None ledger start = tt
  replays_none (Some xs) ledger start = (
    xs,
    refl,
    record {
      batches = [];
      last = [];
      runs = refl;
      plain = tt;
      last_plain = tt;
      counted = refl;
      numbered = refl;
      none_open = λ none. refl;
      some_open = λ some. absurd (true≢false (sym some));
      is = λ t told. (refl, told);
    },
  )

  pub replays_line : (number lines : ℕ) (is_open : Bool) (xs : List ℕ) (left left' : Option (List ℕ)) (ledger ledger' ledger'' : Ledger) (start now new : S)
      → ReplaysSoFar A is_kept start xs left number lines is_open ledger ledger' now → IfSome left (λ ys. ReplaysOne A is_kept replaying.Line ys left' ledger' ledger'' now new)
      → ReplaysSoFar A is_kept start xs left' (number + 1) (lines + 1) true ledger ledger'' new
  replays_line number lines is_open xs left left' ledger ledger' ledger'' start now new (rest, is, p) one =
      let (some, left_is, plain, r) = subst (λ (o : Option (List ℕ)). IfSome o (λ ys. ReplaysOne A is_kept replaying.Line ys left' ledger' ledger'' now new)) is one in
      let e : Entry = record { line = take_through 10 rest; answer = r.text } in
      let more : List Entry = e ∷ [] in
      let back = drop_through 10 rest in
      let all = joined p.batches in
      let grown : all ++ (p.last ++ more) ≡ (all ++ p.last) ++ more = sym (append_assoc all p.last more) in (
        back,
        left_is,
        record {
          batches = p.batches;
          last = p.last ++ more;
          runs = subst (λ (l : List Entry). RunsAgain A is_kept start l new) (sym grown) (again_join A is_kept start now new (all ++ p.last) more p.runs (new, r.logged, r.answers, refl));
          plain = p.plain;
          last_plain = all_join _ p.last more p.last_plain (next_plain rest some r.ended plain, tt);
          counted = ap length grown ∙ length-append (all ++ p.last) more ∙ ap (λ (n : ℕ). n + 1) p.counted;
          numbered = omega (arith, p.numbered);
          none_open = λ none. absurd (true≢false none);
          some_open = λ is_some. omega (arith, length-append p.last more);
          is = λ t told. (
            (p.is t told).0 ∙ ap (λ (l : List ℕ). marked t p.batches ++ l)
                (ap (λ (l : List ℕ). text_of p.last ++ l) (sym (both_parts rest)) ∙ sym (append_assoc (text_of p.last) e.line back)
                ∙ ap (λ (l : List ℕ). (text_of p.last ++ l) ++ back) (sym (append-nil e.line)) ∙ ap (λ (l : List ℕ). l ++ back) (sym (text_join p.last more))),
            subst (IsLedger ledger'') (sym (with_join (totals_behind t p.batches) p.last more)) (r.noted (with_batch (totals_behind t p.batches) p.last) (p.is t told).1),
          );
        },
      )

  pub replays_mark : (number lines : ℕ) (is_open : Bool) (xs : List ℕ) (left left' : Option (List ℕ)) (ledger ledger' ledger'' : Ledger) (start now new : S)
      → ReplaysSoFar A is_kept start xs left number lines is_open ledger ledger' now → IfSome left (λ ys. ReplaysOne A is_kept replaying.Mark ys left' ledger' ledger'' now new)
      → ReplaysSoFar A is_kept start xs left' (number + 1) lines false ledger ledger'' new
  replays_mark number lines is_open xs left left' ledger ledger' ledger'' start now new (rest, is, p) one =
      let (some, left_is, same, marks) = subst (λ (o : Option (List ℕ)). IfSome o (λ ys. ReplaysOne A is_kept replaying.Mark ys left' ledger' ledger'' now new)) is one in
      let more : List (List Entry) = p.last ∷ [] in
      let back = drop_through 10 rest in
      let all = joined p.batches in
      let grown : joined (p.batches ++ more) ++ [] ≡ all ++ p.last =
      append-nil (joined (p.batches ++ more)) ∙ joined_join p.batches more ∙ ap (λ (l : List Entry). all ++ l) (append-nil p.last) in (
        back,
        left_is,
        record {
          batches = p.batches ++ more;
          last = [];
          runs = subst (λ (s : S). RunsAgain A is_kept start (joined (p.batches ++ more) ++ []) s) (sym same) (subst (λ (l : List Entry). RunsAgain A is_kept start l now) (sym grown) p.runs);
          plain = all_join IsBatch p.batches more p.plain (p.last_plain, tt);
          last_plain = tt;
          counted = ap length grown ∙ p.counted;
          numbered = omega (arith, p.numbered, length-append p.batches more);
          none_open = λ none. refl;
          some_open = λ is_some. absurd (true≢false (sym is_some));
          is = λ t told.
              let before = totals_behind t p.batches in
              let (mark_is, told') = marks (with_batch before p.last) (p.is t told).1 in
              let m = mark_of (with_batch before p.last) in
              let front = marked t p.batches in
              let text = text_of p.last in (
                (p.is t told).0 ∙ ap (λ (l : List ℕ). front ++ (text ++ l)) (sym (both_parts rest) ∙ ap (λ (l : List ℕ). l ++ back) mark_is)
                    ∙ ap (λ (l : List ℕ). front ++ l) (sym (append_assoc text m back)) ∙ sym (append_assoc front (text ++ m) back)
                    ∙ ap (λ (l : List ℕ). (front ++ (text ++ l)) ++ back) (sym (append-nil m)) ∙ ap (λ (l : List ℕ). l ++ back) (sym (marked_join t p.batches more)),
                subst (IsLedger ledger'') (sym (totals_join t p.batches more)) told',
              );
        },
      )

  pub replays_all : (number lines marks : ℕ) (is_open : Bool) (xs : List ℕ) (left left' : Option (List ℕ)) (ledger ledger' ledger'' : Ledger) (start now new : S) → lines + marks ≡ number
      → ReplaysSoFar A is_kept start xs left number lines is_open ledger ledger' now → IfSome left (λ ys. ReplaysOne A is_kept replaying.End ys left' ledger' ledger'' now new)
      → Replays A is_kept start xs (record { lines = lines; marks = marks; is_open = is_open }) ledger ledger'' new
  replays_all number lines marks is_open xs left left' ledger ledger' ledger'' start now new sum (rest, is, p) one =
      let (none, told, same) = subst (λ (o : Option (List ℕ)). IfSome o (λ ys. ReplaysOne A is_kept replaying.End ys left' ledger' ledger'' now new)) is one in
      subst (λ (l : Ledger). ReplaysPart A is_kept start xs [] (lines + marks) lines is_open ledger l new) (sym told)
      (subst (λ (s : S). ReplaysPart A is_kept start xs [] (lines + marks) lines is_open ledger ledger' s) (sym same)
      (subst (λ (n : ℕ). ReplaysPart A is_kept start xs [] n lines is_open ledger ledger' now) (sym sum)
      (subst (λ (r : List ℕ). ReplaysPart A is_kept start xs r number lines is_open ledger ledger' now) none p)))

  pub replay_fails : (f : ReplayFault) (number lines : ℕ) (is_open : Bool) (xs : List ℕ) (left : Option (List ℕ)) (ledger ledger' : Ledger) (start now : S)
      → ReplaysSoFar A is_kept start xs left number lines is_open ledger ledger' now → IfSome left (λ ys. RefusesOne is_kept number f ys ledger') → ReplayFails A is_kept f start xs ledger
  replay_fails f number lines is_open xs left ledger ledger' start now (rest, is, p) refused = record {
    rest = rest;
    number = number;
    lines = lines;
    is_open = is_open;
    told = ledger';
    now = now;
    part = p;
    refused = subst (λ (o : Option (List ℕ)). IfSome o (λ ys. RefusesOne is_kept number f ys ledger')) is refused;
  }

  -- too many lines
  pub replay_stops : (number lines : ℕ) (is_open : Bool) (xs : List ℕ) (left : Option (List ℕ)) (ledger ledger' : Ledger) (start now : S) → 18446744073709551615 ≤ number
      → ReplaysSoFar A is_kept start xs left number lines is_open ledger ledger' now → ReplayFails A is_kept fault.TooMany start xs ledger
  replay_stops number lines is_open xs left ledger ledger' start now most (rest, is, p) =
      record { rest = rest; number = number; lines = lines; is_open = is_open; told = ledger'; now = now; part = p; refused = inl most }
