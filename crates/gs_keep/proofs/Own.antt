-- Lines of a machine's own are run behind those of the input.
use Rattle.std.proofs.Common.{◌≡◌, ◌≢◌, ◌≤◌, ◌+◌, ◌++◌, ◌∷◌, ◌⊎◌, ⊎_elim, [], ℕ, List, Bool, true, false, true≢false, length, nat_le, Option, Some, None, refl, sym, ap, subst, ◌∙◌, arith, append_assoc, append-nil, length-append, inl, inr}
use Rattle.std.proofs.lemmas.Bool.{and_parts, leb-true}
use Rattle.gs_shell_line.specs.Line.{content, longest_line}
use Rattle.gs_shell_script.specs.Run.{lines_of, memory_text, unlines}
use Rattle.gs_keep_mark.specs.Ledgers.{IsLedger, is_full}
use Rattle.gs_keep_mark.specs.Marks.{Totals, noted, text_of, with_batch}
use Rattle.gs_keep_mark.specs.Started.{IsBatch}
use Rattle.gs_keep_mark.specs.declared.Ledger.{Ledger}
use Rattle.gs_keep.specs.Lines.{IsOwnLine, Turn, entries}
use Rattle.gs_keep.specs.Running.{FullIf, Gathers, RunsDue, RunsMine, RunsOwn, Takes}
use Rattle.gs_keep.specs.declared.batch.Gathered.{Gathered}
use Rattle.gs_keep.specs.declared.batch.Gathered.TheVariants as gathered
use Rattle.gs_keep.proofs.Batches.{all_join, answers_join, entries_join, lines_with_own, own_enough, text_join, texts_with_own, with_join}
use Rattle.gs_keep.proofs.Lines.{logged_unmarked}
use Rattle.gs_keep.proofs.Running.{answers_short}

module _ {S : Type 0} (A : S → List ℕ → List ℕ → S → Type 0) (is_kept : List ℕ → Bool) (turns_away : S → List ℕ → Bool) (due : S → Option (List ℕ)) where
  pub ran_own : ((line : List ℕ) → is_kept (35 ∷ line) ≡ false) → (line text : List ℕ) (old new : S) (bytes bytes' : List ℕ) (ledger ledger' : Ledger) → due old ≡ Some line
      → IsOwnLine is_kept turns_away old line → text ≢ memory_text → A old (content line) text new → bytes' ≡ bytes ++ line
      → ((t : Totals) → IsLedger ledger t → IsLedger ledger' (noted t (record { line = line; answer = text })))
      → RunsOwn A is_kept turns_away due old new bytes bytes' ledger ledger'
  ran_own none line text old new bytes bytes' ledger ledger' is_due stands enough answered put noted =
      let short : length (content line) ≤ longest_line = leb-true (length (content line)) longest_line (and_parts (nat_le (length (content line)) longest_line) (is_kept (content line)) stands.logged).0 in
      record {
        turn = record { line = line; text = text; logged = true; away = false; own = true };
        mine = refl;
        runs = record {
          away = sym stands.taken;
          runs = record { answers = answers_short A is_kept line text old new short answered; logged = (stands.logged, enough) };
          own = (is_due, refl, refl);
        };
        plain = (record { body = stands.body; within = stands.within; ended = stands.ended; plain = logged_unmarked is_kept none line stands.logged }, tt);
        logged = put ∙ ap (λ (l : List ℕ). bytes ++ l) (sym (append-nil line));
        noted = noted;
      }

  -- so far
  abbrev pub OwnSoFar : ℕ → S → S → List ℕ → List ℕ → Ledger → Ledger → Type 0
  OwnSoFar count old new bytes bytes' ledger ledger' = (r : RunsMine A is_kept turns_away due old new bytes bytes' ledger ledger') × (length r.turns ≡ count)

  pub own_none : (s : S) (bytes : List ℕ) (ledger : Ledger) → OwnSoFar 0 s s bytes bytes ledger ledger
  own_none s bytes ledger =
      (record { turns = []; mine = tt; runs = refl; plain = tt; logged = sym (append-nil bytes); noted = λ t is. is; full = λ full. refl }, refl)

  pub own_more : (count : ℕ) (old now new : S) (bytes mid bytes' : List ℕ) (ledger told ledger' : Ledger) → OwnSoFar count old now bytes mid ledger told → is_full told ≡ false
      → RunsOwn A is_kept turns_away due now new mid bytes' told ledger' → OwnSoFar (count + 1) old new bytes bytes' ledger ledger'
  own_more count old now new bytes mid bytes' ledger told ledger' (r, many) room o =
      let turns = r.turns in
      let last : List Turn = o.turn ∷ [] in (
        record {
          turns = turns ++ last;
          mine = all_join _ turns last r.mine (o.mine, tt);
          runs = answers_join A is_kept turns_away due old now new turns last r.runs (new, o.runs, refl);
          plain = subst IsBatch (sym (entries_join turns last)) (all_join _ (entries turns) (entries last) r.plain o.plain);
          logged = o.logged ∙ ap (λ (l : List ℕ). l ++ text_of (entries last)) r.logged ∙ append_assoc bytes (text_of (entries turns)) (text_of (entries last))
              ∙ ap (λ (l : List ℕ). bytes ++ l) (sym (text_join (entries turns) (entries last)) ∙ ap text_of (sym (entries_join turns last)));
          noted = λ t is. subst (IsLedger ledger') (sym (with_join t (entries turns) (entries last)) ∙ ap (with_batch t) (sym (entries_join turns last)))
              (o.noted (with_batch t (entries turns)) (r.noted t is));
          full = λ full. absurd (true≢false (sym full ∙ ap is_full (sym (r.full full)) ∙ room));
        },
        omega (arith, many, length-append turns last),
      )

  pub own_ends : (count : ℕ) (old new : S) (bytes bytes' : List ℕ) (ledger ledger' : Ledger) → OwnSoFar count old new bytes bytes' ledger ledger' → count ≤ 32
      → (due new ≡ None) ⊎ ((32 ≤ count) ⊎ (is_full ledger' ≡ true)) → RunsDue A is_kept turns_away due old new bytes bytes' ledger ledger'
  own_ends count old new bytes bytes' ledger ledger' (r, many) most all = record {
    mine = r;
    few = omega (arith, many, most);
    all = ⊎_elim (λ none. inl none) (λ other. inr (⊎_elim (λ enough. inl (omega (arith, many, enough))) (λ full. inr full) other)) all;
  }

  still_full : (r : Gathered) (ledger ledger' : Ledger) → (is_full ledger ≡ true → ledger' ≡ ledger) → FullIf A is_kept turns_away due r ledger → FullIf A is_kept turns_away due r ledger'
  still_full gathered.Full ledger ledger' same full = ap is_full (same full) ∙ full
  still_full gathered.Some ledger ledger' same full = tt
  still_full gathered.All ledger ledger' same full = tt
  still_full gathered.Unended ledger ledger' same full = tt
  still_full gathered.Failed ledger ledger' same full = tt

  -- lines of the input, and then the machine's own
  pub gathers : (r : Gathered) (xs : List ℕ) (left : Option (List ℕ)) (old mid new : S) (bytes bytes' answers : List ℕ) (start ledger ledger' : Ledger)
      → Takes A is_kept turns_away due r xs left old mid bytes answers start ledger → RunsDue A is_kept turns_away due mid new bytes bytes' ledger ledger'
      → Gathers A is_kept turns_away due r xs left old new bytes' answers start ledger'
  gathers r xs left old mid new bytes bytes' answers start ledger ledger' g d =
      let turns = g.runs.turns in
      let m = d.mine in
      let own = m.turns in
      let lines = lines_with_own turns own m.mine in
      record {
        takes = record {
          rest = g.rest;
          left_by = g.left_by;
          full = still_full r ledger ledger' m.full g.full;
          runs = record {
            turns = turns ++ own;
            many = omega (arith, g.runs.many, ap length lines);
            parts = g.runs.parts ∙ ap (λ (l : List (List ℕ)). l ++ lines_of g.rest) (sym lines);
            runs = answers_join A is_kept turns_away due old mid new turns own g.runs.runs m.runs;
            plain = subst IsBatch (sym (entries_join turns own)) (all_join _ (entries turns) (entries own) g.runs.plain m.plain);
            logged = m.logged ∙ ap (λ (l : List ℕ). l ++ text_of (entries own)) g.runs.logged ∙ sym (text_join (entries turns) (entries own)) ∙ ap text_of (sym (entries_join turns own));
            answered = g.runs.answered ∙ ap unlines (sym (texts_with_own turns own m.mine));
            noted = λ t is. subst (IsLedger ledger') (sym (with_join t (entries turns) (entries own)) ∙ ap (with_batch t) (sym (entries_join turns own)))
                (m.noted (with_batch t (entries turns)) (g.runs.noted t is));
          };
        };
        done = ⊎_elim (λ none. inl none) (λ other. inr (⊎_elim (λ many. inl (omega (arith, many, own_enough turns own m.mine))) (λ full. inr full) other)) d.all;
      }
