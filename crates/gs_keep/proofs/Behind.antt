-- A log that begins where a run over another has ended.
use Rattle.std.proofs.Common.{◌≡◌, ◌+◌, ◌++◌, ◌∷◌, [], ℕ, List, Bool, Option, length, sym, subst, ◌∙◌, arith, length-append}
use Rattle.gs_shell_script.specs.Run.{Runs}
use Rattle.gs_keep_mark.specs.Marks.{Entry, Totals, begins_from, behind, noted, totals_behind, with_batch}
use Rattle.gs_keep_mark.specs.declared.Ledger.{Ledger}
use Rattle.gs_keep.specs.Behind.{Counts, GoesOnWhereAnotherEnded, Kept, lines_run, logged, texts_run}
use Rattle.gs_keep.specs.Lines.{joined, kept_behind}

-- ---- how many lines there are

counted : (t : Totals) (batch : List Entry) → (with_batch t batch).count ≡ t.count + length batch
counted t [] = omega arith
counted t (e ∷ batch) = omega (arith, counted (noted t e) batch)

counted_behind : (t : Totals) (batches : List (List Entry)) → (totals_behind t batches).count ≡ t.count + length (joined batches)
counted_behind t [] = omega arith
counted_behind t (batch ∷ more) = omega (arith, counted_behind (behind t batch) more, counted t batch, length-append batch (joined more))

counted_kept : (t : Totals) (batch : List Entry) → (kept_behind t batch).count ≡ t.count + length batch
counted_kept t [] = omega arith
counted_kept t (e ∷ batch) = counted t (e ∷ batch)

counted_all : (head : List ℕ) (before : ℕ) (batches : List (List Entry)) (last : List Entry) (more : List (List Entry))
    → (totals_behind (kept_behind (totals_behind (begins_from head before) batches) last) more).count ≡ before + length ((joined batches ++ last) ++ joined more)
counted_all head before batches last more =
    let t = begins_from head before in
    let u = totals_behind t batches in
    omega (arith, counted_behind t batches, counted_kept u last, counted_behind (kept_behind u last) more, length-append (joined batches ++ last) (joined more), length-append (joined batches) last)

-- ---- lines one behind the other

module _ {S : Type 0} (A : S → List ℕ → List ℕ → S → Type 0) where
  runs_join : (old mid new : S) (lines texts others answers : List (List ℕ)) → Runs A old lines texts mid → Runs A mid others answers new → Runs A old (lines ++ others) (texts ++ answers) new
  runs_join old mid new [] [] others answers same all = subst (λ (s : S). Runs A s others answers new) same all
  runs_join old mid new (line ∷ lines) (text ∷ texts) others answers (next, first, rest) all = (next, first, runs_join next mid new lines texts others answers rest all)
  runs_join old mid new [] (text ∷ texts) others answers none all = absurd none
  runs_join old mid new (line ∷ lines) [] others answers none all = absurd none

module _ {S : Type 0} (A : S → List ℕ → List ℕ → S → Type 0) (is_kept : List ℕ → Bool) (turns_away : S → List ℕ → Bool) (due : S → Option (List ℕ)) where
  -- a ledger that is given back counts the lines of its log and those before it
  counts : (start : S) (before : ℕ) (ended : Ledger) (end : S) (k : Kept A is_kept turns_away due start before ended end)
      → Counts ended (before + length (logged A is_kept turns_away due start before ended end k))
  counts start before ended end k = λ t told.
      sym (counted_all k.head before k.keeps.begins.batches k.keeps.begins.last k.keeps.serves.batches) ∙ sym k.keeps.tells.lines ∙ told.lines

  pub goes_on : GoesOnWhereAnotherEnded A is_kept turns_away due
  goes_on start mid end before count told ended counted one two =
      let first = counted _ one.keeps.tells ∙ counted_all one.head before one.keeps.begins.batches one.keeps.begins.last one.keeps.serves.batches in (
        runs_join A start mid end (lines_run A is_kept turns_away due start before told mid one) (texts_run A is_kept turns_away due start before told mid one)
            (lines_run A is_kept turns_away due mid count ended end two) (texts_run A is_kept turns_away due mid count ended end two) one.keeps.together two.keeps.together,
        λ t is. omega (arith, first, counts mid count ended end two t is),
      )
