-- Rounds: lines are run, logged and answered.
use Rattle.std.proofs.Common.{◌≡◌, ◌≤◌, ◌+◌, ◌++◌, ◌∷◌, ⊎_elim, [], ℕ, List, Bool, true, false, length, Option, Some, None, IfSome, Result, IfOk, IfErr, refl, sym, ap, subst, ◌∙◌, arith, append_assoc, length-append, inl, inr}
use Rattle.std.specs.Io.KnownBytes.{Appends}
use Rattle.std.proofs.KnownBytes.{Appends-nil, Appends-trans}
use Rattle.gs_keep_log.specs.Log.{Held}
use Rattle.gs_shell_script.specs.Run.{AppendsBeginning, lines_of}
use Rattle.gs_keep_mark.specs.Ledgers.{IsLedger}
use Rattle.gs_keep_mark.specs.Marks.{Entry, Totals, totals_behind}
use Rattle.gs_keep_mark.specs.Started.{IsBatch}
use Rattle.gs_keep_mark.specs.declared.Ledger.{Ledger}
use Rattle.gs_keep.specs.Lines.{Turn, entries, joined, lines_asked}
use Rattle.gs_keep.specs.Running.{Gathers, IsDone, RunsSome}
use Rattle.gs_keep.specs.Serving.{EndsWith, Ends, Fails, Keeps, RestsAt, Rounds, SealFails, Serves, ServesAll}
use Rattle.gs_keep.specs.declared.batch.Gathered.{Gathered}
use Rattle.gs_keep.specs.declared.batch.Gathered.TheVariants as gathered
use Rattle.gs_keep.specs.declared.fault.KeepFault.{KeepFault}
use Rattle.gs_keep.specs.declared.fault.KeepFault.TheVariants as fault
use Rattle.gs_keep.proofs.Batches.{all_join, answers_join, entries_join, joined_join, lines_join, own_behind, totals_join, unlines_join}
use Rattle.gs_keep.proofs.Logs.{alone, alone_behind, alone_joined, alone_plain, breaks_batch, keeps_batch, keeps_full}

module _ {S : Type 0} (A : S → List ℕ → List ℕ → S → Type 0) (is_kept : List ℕ → Bool) (turns_away : S → List ℕ → Bool) (due : S → Option (List ℕ)) where
  -- nothing is served
  unfoldable pub serves_none : (xs : List ℕ) (log : Option Held) (out : Option (List ℕ)) (ledger : Ledger) (s : S) → Serves A is_kept turns_away due s xs xs log log out out ledger ledger s
  serves_none xs log out ledger s =
      record { turns = []; batches = []; parts = refl; answers = refl; written = Appends-nil out; logged = refl; plain = tt; kept = λ t told. (told, λ rests. rests) }

  -- ---- one round

  unfoldable pub round_serves : (most : ℕ) (xs rest : List ℕ) (log log' : Option Held) (out out' : Option (List ℕ)) (start now : S) (bytes answers : List ℕ) (ledger told told' : Ledger)
      → RunsSome A is_kept turns_away due most xs rest start now bytes answers ledger told → Keeps told told' log log' bytes → Appends out out' answers → Serves A is_kept turns_away due start xs rest log log' out out' ledger told' now
  round_serves most xs rest log log' out out' start now bytes answers ledger told told' g kept sent = record {
    turns = g.turns;
    batches = alone (entries g.turns);
    parts = g.parts;
    answers = g.runs;
    written = subst (Appends out out') g.answered sent;
    logged = alone_joined (entries g.turns);
    plain = alone_plain (entries g.turns) g.plain;
    kept = λ t is. subst (λ (u : Totals). IsLedger told' u × (RestsAt log t.text → RestsAt log' u.text)) (alone_behind t (entries g.turns))
        (keeps_batch t (entries g.turns) told told' log log' bytes g.plain g.logged (g.noted t is) kept);
  }

  -- nothing of a round is logged or answered
  pub nothing_kept : (o left : Option (List ℕ)) (log log' : Option Held) (out : Option (List ℕ)) (ledger : Ledger) (s end : S) → log' ≡ log → IfSome o (λ xs. Fails A is_kept turns_away due fault.Memory s xs left log log' out out ledger end)
  nothing_kept None left log log' out ledger s end same = tt
  nothing_kept (Some xs) left log log' out ledger s end same =
      record { now = s; rest = xs; between = log; written = out; told = ledger; done = serves_none xs log out ledger s; last = (same, refl) }

  -- a batch isn't kept
  pub round_unkept : (f : KeepFault) (most : ℕ) (xs rest : List ℕ) (left : Option (List ℕ)) (log log' : Option Held) (out : Option (List ℕ)) (start now : S) (bytes answers : List ℕ) (ledger told : Ledger)
      → RunsSome A is_kept turns_away due most xs rest start now bytes answers ledger told → SealFails f told log log' bytes → Fails A is_kept turns_away due f start xs left log log' out out ledger now
  round_unkept fault.Memory most xs rest left log log' out start now bytes answers ledger told g fails =
      record { now = start; rest = xs; between = log; written = out; told = ledger; done = serves_none xs log out ledger start; last = (fails, refl) }
  round_unkept fault.Log most xs rest left log log' out start now bytes answers ledger told g fails = record {
    now = start;
    rest = xs;
    between = log;
    written = out;
    told = ledger;
    done = serves_none xs log out ledger start;
    last = (
      record { turns = g.turns; back = rest; parts = g.parts; answers = g.runs; plain = g.plain },
      λ t is rests. breaks_batch t (entries g.turns) told log log' bytes g.logged (g.noted t is) fails rests,
      refl,
    );
  }
  round_unkept fault.Read most xs rest left log log' out start now bytes answers ledger told g fails = absurd fails
  round_unkept fault.Write most xs rest left log log' out start now bytes answers ledger told g fails = absurd fails
  round_unkept fault.Unended most xs rest left log log' out start now bytes answers ledger told g fails = absurd fails
  round_unkept fault.TooMany most xs rest left log log' out start now bytes answers ledger told g fails = absurd fails

  -- answers aren't written
  pub round_unsent : (most : ℕ) (xs rest : List ℕ) (left : Option (List ℕ)) (log log' : Option Held) (out out' : Option (List ℕ)) (start now : S) (bytes answers : List ℕ) (ledger told told' : Ledger)
      → RunsSome A is_kept turns_away due most xs rest start now bytes answers ledger told → Keeps told told' log log' bytes → AppendsBeginning out out' answers → Fails A is_kept turns_away due fault.Write start xs left log log' out out' ledger now
  round_unsent most xs rest left log log' out out' start now bytes answers ledger told told' g kept sent = record {
    now = start;
    rest = xs;
    between = log;
    written = out;
    told = ledger;
    done = serves_none xs log out ledger start;
    last = (
      record { turns = g.turns; back = rest; parts = g.parts; answers = g.runs; plain = g.plain },
      λ t is. (keeps_batch t (entries g.turns) told told' log log' bytes g.plain g.logged (g.noted t is) kept).1,
      subst (AppendsBeginning out out') g.answered sent,
    );
  }

  module _ (xs : List ℕ) (left : Option (List ℕ)) (log log' : Option Held) (out out' : Option (List ℕ)) (start now : S) (bytes answers : List ℕ) (ledger told told' : Ledger) (kept : Keeps told told' log log' bytes) (sent : Appends out out' answers) where
    done_kept : (turns : List Turn) → IsDone A is_kept turns_away due turns now told → IsDone A is_kept turns_away due turns now told'
    done_kept turns done = ⊎_elim (λ none. inl none) (λ other. inr (⊎_elim (λ many. inl many) (λ full. inr (keeps_full told told' log log' bytes kept ∙ full)) other)) done

    serves_end : (rest : List ℕ) (s : Serves A is_kept turns_away due start xs rest log log' out out' ledger told' now) → IsDone A is_kept turns_away due s.turns now told' → rest ≡ []
        → ServesAll A is_kept turns_away due start xs log log' out out' ledger told' now
    serves_end [] s done none = record { serves = s; done = done }
    serves_end (x ∷ rest) s done none = absurd (omega (arith, ap length none))

    pub round_ok : (r : Gathered) (result : Result Bool KeepFault) → Ends r result → Gathers A is_kept turns_away due r xs left start now bytes answers ledger told
        → IfOk result (λ more. Rounds A is_kept turns_away due start more xs left log log' out out' ledger told' now)
    unfolding round_serves
    round_ok gathered.Some result is g = subst (λ (r : Result Bool KeepFault). IfOk r (λ more. Rounds A is_kept turns_away due start more xs left log log' out out' ledger told' now)) (sym is) (
      g.takes.rest,
      g.takes.left_by,
      round_serves 1 xs g.takes.rest log log' out out' start now bytes answers ledger told told' g.takes.runs kept sent,
      g.takes.runs.many,
      done_kept g.takes.runs.turns g.done,
    )
    round_ok gathered.All result is g = subst (λ (r : Result Bool KeepFault). IfOk r (λ more. Rounds A is_kept turns_away due start more xs left log log' out out' ledger told' now)) (sym is)
        (serves_end g.takes.rest (round_serves 0 xs g.takes.rest log log' out out' start now bytes answers ledger told told' g.takes.runs kept sent) (done_kept g.takes.runs.turns g.done) g.takes.left_by.0)
    round_ok gathered.Unended result is g = subst (λ (r : Result Bool KeepFault). IfOk r (λ more. Rounds A is_kept turns_away due start more xs left log log' out out' ledger told' now)) (sym is) tt
    round_ok gathered.Failed result is g = subst (λ (r : Result Bool KeepFault). IfOk r (λ more. Rounds A is_kept turns_away due start more xs left log log' out out' ledger told' now)) (sym is) tt
    round_ok gathered.Full result is g = subst (λ (r : Result Bool KeepFault). IfOk r (λ more. Rounds A is_kept turns_away due start more xs left log log' out out' ledger told' now)) (sym is) tt

    abbrev Failing : Result Bool KeepFault → Type 0
    Failing result = IfErr result (λ e. Fails A is_kept turns_away due e start xs left log log' out out' ledger now)

    pub round_err : (r : Gathered) (result : Result Bool KeepFault) → Ends r result → Gathers A is_kept turns_away due r xs left start now bytes answers ledger told → IfErr result (λ e. Fails A is_kept turns_away due e start xs left log log' out out' ledger now)
    round_err gathered.Some result is g = subst Failing (sym is) tt
    round_err gathered.All result is g = subst Failing (sym is) tt
    round_err gathered.Unended result is g = subst Failing (sym is) (record {
      now = now;
      rest = g.takes.rest;
      between = log';
      written = out';
      told = told';
      done = round_serves 0 xs g.takes.rest log log' out out' start now bytes answers ledger told told' g.takes.runs kept sent;
      last = (g.takes.left_by.0, g.takes.left_by.1, refl, refl, refl);
    })
    round_err gathered.Failed result is g = subst Failing (sym is) (record {
      now = now;
      rest = g.takes.rest;
      between = log';
      written = out';
      told = told';
      done = round_serves 0 xs g.takes.rest log log' out out' start now bytes answers ledger told told' g.takes.runs kept sent;
      last = (g.takes.left_by, refl, refl, refl);
    })
    round_err gathered.Full result is g = subst Failing (sym is) (record {
      now = now;
      rest = g.takes.rest;
      between = log';
      written = out';
      told = told';
      done = round_serves 0 xs g.takes.rest log log' out out' start now bytes answers ledger told told' g.takes.runs kept sent;
      last = (g.takes.left_by, inr (keeps_full told told' log log' bytes kept ∙ g.takes.full), refl, refl, refl);
    })

  -- ---- many rounds

  abbrev pub SoFar : ℕ → S → List ℕ → Option (List ℕ) → Option Held → Option Held → Option (List ℕ) → Option (List ℕ) → Ledger → Ledger → S → Type 0
  SoFar count start xs left log log' out out' ledger ledger' now =
      (rest : List ℕ) × (left ≡ Some rest) × (s : Serves A is_kept turns_away due start xs rest log log' out out' ledger ledger' now) × (count ≤ length (lines_asked s.turns))

  pub so_far_none : (o : Option (List ℕ)) (log : Option Held) (out : Option (List ℕ)) (ledger : Ledger) (s : S) → IfSome o (λ xs. SoFar 0 s xs o log log out out ledger ledger s)
  unfolding serves_none
  so_far_none None log out ledger s = tt
  so_far_none (Some xs) log out ledger s = (xs, refl, serves_none xs log out ledger s, omega arith)

  unfoldable pub serves_join : (xs mid rest : List ℕ) (log log' log'' : Option Held) (out out' out'' : Option (List ℕ)) (ledger ledger' ledger'' : Ledger) (start now end : S)
      → Serves A is_kept turns_away due start xs mid log log' out out' ledger ledger' now → Serves A is_kept turns_away due now mid rest log' log'' out' out'' ledger' ledger'' end
      → Serves A is_kept turns_away due start xs rest log log'' out out'' ledger ledger'' end
  serves_join xs mid rest log log' log'' out out' out'' ledger ledger' ledger'' start now end one two = record {
    turns = one.turns ++ two.turns;
    batches = one.batches ++ two.batches;
    parts = one.parts ∙ ap (λ (l : List (List ℕ)). lines_asked one.turns ++ l) two.parts ∙ sym (append_assoc (lines_asked one.turns) (lines_asked two.turns) (lines_of rest))
        ∙ ap (λ (l : List (List ℕ)). l ++ lines_of rest) (sym (lines_join one.turns two.turns));
    answers = answers_join A is_kept turns_away due start now end one.turns two.turns one.answers two.answers;
    written = subst (Appends out out'') (sym (unlines_join one.turns two.turns)) (Appends-trans out out' out'' _ _ one.written two.written);
    logged = entries_join one.turns two.turns ∙ ap (λ (l : List Entry). l ++ entries two.turns) one.logged ∙ ap (λ (l : List Entry). joined one.batches ++ l) two.logged ∙ sym (joined_join one.batches two.batches);
    plain = all_join IsBatch one.batches two.batches one.plain two.plain;
    kept = λ t told.
        let (told', first) = one.kept t told in
        let (told'', second) = two.kept (totals_behind t one.batches) told' in
        let same = sym (totals_join t one.batches two.batches) in
        (subst (IsLedger ledger'') same told'', λ rests. subst (λ (u : Totals). RestsAt log'' u.text) same (second (first rests)));
  }

  pub so_far_more : (count : ℕ) (xs : List ℕ) (left left' : Option (List ℕ)) (log log' log'' : Option Held) (out out' out'' : Option (List ℕ)) (ledger ledger' ledger'' : Ledger) (start now end : S)
      → SoFar count start xs left log log' out out' ledger ledger' now → IfSome left (λ ys. Rounds A is_kept turns_away due now true ys left' log' log'' out' out'' ledger' ledger'' end)
      → SoFar (count + 1) start xs left' log log'' out out'' ledger ledger'' end
  unfolding serves_join
  so_far_more count xs left left' log log' log'' out out' out'' ledger ledger' ledger'' start now end (mid, is, one, many) more =
      let (rest, left_is, two, some, done) = subst (λ (o : Option (List ℕ)). IfSome o (λ ys. Rounds A is_kept turns_away due now true ys left' log' log'' out' out'' ledger' ledger'' end)) is more in (
        rest,
        left_is,
        serves_join xs mid rest log log' log'' out out' out'' ledger ledger' ledger'' start now end one two,
        omega (arith, many, some, ap length (lines_join one.turns two.turns), length-append (lines_asked one.turns) (lines_asked two.turns)),
      )

  pub so_far_end : (count : ℕ) (xs : List ℕ) (left left' : Option (List ℕ)) (log log' log'' : Option Held) (out out' out'' : Option (List ℕ)) (ledger ledger' ledger'' : Ledger) (start now end : S)
      → SoFar count start xs left log log' out out' ledger ledger' now → IfSome left (λ ys. Rounds A is_kept turns_away due now false ys left' log' log'' out' out'' ledger' ledger'' end)
      → ServesAll A is_kept turns_away due start xs log log'' out out'' ledger ledger'' end
  unfolding serves_join
  so_far_end count xs left left' log log' log'' out out' out'' ledger ledger' ledger'' start now end (mid, is, one, many) more =
      let two = subst (λ (o : Option (List ℕ)). IfSome o (λ ys. Rounds A is_kept turns_away due now false ys left' log' log'' out' out'' ledger' ledger'' end)) is more in
      record {
        serves = serves_join xs mid [] log log' log'' out out' out'' ledger ledger' ledger'' start now end one two.serves;
        done = ⊎_elim (λ none. inl none)
            (λ other. inr (⊎_elim (λ enough. inl (omega (arith, enough, own_behind 0 one.turns two.serves.turns))) (λ full. inr full) other)) two.done;
      }

  last_more : (f : KeepFault) (now end : S) (rest : List ℕ) (left : Option (List ℕ)) (log log' : Option Held) (out out' : Option (List ℕ)) (ledger : Ledger) (before turns : List Turn)
      → EndsWith A is_kept turns_away due f now end rest left log log' out out' ledger turns → EndsWith A is_kept turns_away due f now end rest left log log' out out' ledger (before ++ turns)
  last_more fault.Memory now end rest left log log' out out' ledger before turns last = last
  last_more fault.Read now end rest left log log' out out' ledger before turns last = last
  last_more fault.Unended now end rest left log log' out out' ledger before turns last = last
  last_more fault.Write now end rest left log log' out out' ledger before turns last = last
  last_more fault.Log now end rest left log log' out out' ledger before turns last = last
  last_more fault.TooMany now end rest left log log' out out' ledger before turns (left_is, many, same, written, unrun) = (
    left_is,
    ⊎_elim (λ most. inl (omega (arith, most, ap length (lines_join before turns), length-append (lines_asked before) (lines_asked turns)))) (λ full. inr full) many,
    same,
    written,
    unrun,
  )

  pub so_far_fails : (f : KeepFault) (count : ℕ) (xs : List ℕ) (left left' : Option (List ℕ)) (log log' log'' : Option Held) (out out' out'' : Option (List ℕ)) (ledger ledger' : Ledger) (start now end : S)
      → SoFar count start xs left log log' out out' ledger ledger' now → IfSome left (λ ys. Fails A is_kept turns_away due f now ys left' log' log'' out' out'' ledger' end) → Fails A is_kept turns_away due f start xs left' log log'' out out'' ledger end
  unfolding serves_join
  so_far_fails f count xs left left' log log' log'' out out' out'' ledger ledger' start now end (mid, is, one, many) fails =
      let two = subst (λ (o : Option (List ℕ)). IfSome o (λ ys. Fails A is_kept turns_away due f now ys left' log' log'' out' out'' ledger' end)) is fails in
      record {
        now = two.now;
        rest = two.rest;
        between = two.between;
        written = two.written;
        told = two.told;
        done = serves_join xs mid two.rest log log' two.between out out' two.written ledger ledger' two.told start now two.now one two.done;
        last = last_more f two.now end two.rest left' two.between log'' two.written out'' two.told one.turns two.done.turns two.last;
      }

  -- too many rounds
  pub so_far_stops : (count : ℕ) (xs : List ℕ) (left : Option (List ℕ)) (log log' : Option Held) (out out' : Option (List ℕ)) (ledger ledger' : Ledger) (start now : S)
      → 18446744073709551615 ≤ count → SoFar count start xs left log log' out out' ledger ledger' now → Fails A is_kept turns_away due fault.TooMany start xs left log log' out out' ledger now
  so_far_stops count xs left log log' out out' ledger ledger' start now most (rest, is, one, many) =
      record { now = now; rest = rest; between = log'; written = out'; told = ledger'; done = one; last = (is, inl (omega (arith, most, many)), refl, refl, refl) }
