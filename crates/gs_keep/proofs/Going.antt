-- A log's lines are run again, and then the input is served.
use Rattle.std.proofs.Common.{◌≡◌, ◌<◌, ◌++◌, ◌∷◌, [], ℕ, List, Bool, true, false, Option, Some, None, IfSome, length, refl, sym, ap, subst, ◌∙◌, arith, append_assoc, append-nil}
use Rattle.gs_keep_log.specs.Log.{Held, LogDoes, shortened}
use Rattle.gs_keep_mark.specs.Ledgers.{IsLedger}
use Rattle.gs_keep_mark.specs.Marks.{Entry, Totals, begins_from, mark_of, marked, text_of, totals_behind, with_batch}
use Rattle.gs_keep_mark.specs.declared.Ledger.{Ledger}
use Rattle.gs_keep.specs.Keeping.{Begins, KeepsOn, LeavesAll, ReadsLog, StoreFails, StopsOn}
use Rattle.gs_keep.specs.Lines.{entries, joined, kept_behind}
use Rattle.gs_keep.specs.Replaying.{Replays, RunsAgain}
use Rattle.gs_keep.specs.Serving.{Closes, Fails, RestsAt, SealFails, ServesAll, at_rest}
use Rattle.gs_keep.specs.declared.again.Replayed.{Replayed}
use Rattle.gs_keep.specs.declared.fault.KeepFault.{KeepFault}
use Rattle.gs_keep.specs.declared.fault.KeepFault.TheVariants as keep
use Rattle.gs_keep.specs.declared.fault.StoreFault.TheVariants as fault
use Rattle.gs_keep.proofs.Batches.{again_join, again_then, answers_again, text_behind, text_with}
use Rattle.gs_keep.proofs.Logs.{leaves_less, most_leaves, rest_leaves}
use Rattle.gs_keep.proofs.Weaken.{if_some}

-- what a log holds once it is cut
cut_rests : (head script : List ℕ) (len : ℕ) (log log' : Option Held) → ReadsLog head len log (Some script) → LogDoes (shortened len) log log' → IfSome log (λ h. RestsAt log' (head ++ script))
cut_rests head script len None log' reads cut = tt
cut_rests head script len (Some h) log' reads cut = cut ∙ ap (λ (l : List ℕ). Some (at_rest l)) reads

-- the text of what is run again
all_text : (head : List ℕ) (before : ℕ) (batches : List (List Entry)) (last : List Entry) → head ++ (marked (begins_from head before) batches ++ text_of last) ≡ (with_batch (totals_behind (begins_from head before) batches) last).text
all_text head before batches last =
    let t = begins_from head before in
    sym (append_assoc head (marked t batches) (text_of last)) ∙ ap (λ (l : List ℕ). l ++ text_of last) (sym (text_behind t batches)) ∙ sym (text_with (totals_behind t batches) last)

kept_more : (t : Totals) (batch : List Entry) → (more : List ℕ) × ((kept_behind t batch).text ≡ t.text ++ more)
kept_more t [] = ([], sym (append-nil t.text))
kept_more t (e ∷ batch) =
    let all : List Entry = e ∷ batch in
    let m = mark_of (with_batch t all) in
    (text_of all ++ m, ap (λ (l : List ℕ). l ++ m) (text_with t all) ∙ append_assoc t.text (text_of all) m)

module _ {S : Type 0} (A : S → List ℕ → List ℕ → S → Type 0) (is_kept : List ℕ → Bool) where
  -- lines that have no mark get one
  closed : (is_open : Bool) (t : Totals) (last : List Entry) (ledger ledger' : Ledger) (log log' : Option Held) (text : List ℕ) → (is_open ≡ false → last ≡ []) → (is_open ≡ true → 0 < length last)
      → Closes is_open ledger ledger' log log' → IsLedger ledger (with_batch t last) → text ≡ (with_batch t last).text
      → IsLedger ledger' (kept_behind t last) × (RestsAt log text → RestsAt log' (kept_behind t last).text)
  closed false t [] ledger ledger' log log' text none some (same, log_same) told is = (subst (λ (l : Ledger). IsLedger l t) (sym same) told, λ rests. log_same ∙ rests ∙ ap (λ (l : List ℕ). Some (at_rest l)) is)
  closed false t (e ∷ last) ledger ledger' log log' text none some closes told is = absurd (omega (arith, ap length (none refl)))
  closed true t [] ledger ledger' log log' text none some closes told is = absurd (omega (arith, some refl))
  closed true t (e ∷ last) ledger ledger' log log' text none some closes told is =
      let (told', rests) = closes.1 (with_batch t (e ∷ last)) told in
      (told', rests text (append-nil text ∙ is))

  pub begins : (head : List ℕ) (before : ℕ) (script : List ℕ) (len : ℕ) (done : Replayed) (log log' log'' : Option Held) (first ledger ledger' : Ledger) (start mid : S) → ReadsLog head len log (Some script) → IsLedger first (begins_from head before)
      → Replays A is_kept start script done first ledger mid → LogDoes (shortened len) log log' → Closes done.is_open ledger ledger' log' log'' → Begins A is_kept start head before script len log log'' ledger' mid
  begins head before script len done log log' log'' first ledger ledger' start mid reads told p cut closes =
      let t = totals_behind (begins_from head before) p.batches in
      let (is, told') = p.is (begins_from head before) told in
      let text : script ≡ marked (begins_from head before) p.batches ++ text_of p.last = is ∙ ap (λ (l : List ℕ). marked (begins_from head before) p.batches ++ l) (append-nil (text_of p.last)) in
      let (told'', rests) = closed done.is_open t p.last ledger ledger' log' log'' (head ++ script) p.none_open p.some_open closes told' (ap (λ (l : List ℕ). head ++ l) text ∙ all_text head before p.batches p.last) in
      record {
        batches = p.batches;
        last = p.last;
        again = p.runs;
        plain = p.plain;
        last_plain = p.last_plain;
        is = text;
        told = told'';
        rests = if_some log _ _ (λ h r. rests r) (cut_rests head script len log log' reads cut);
      }

  -- no mark can be put behind lines that have none
  seal_leaves : (f : KeepFault) (ledger : Ledger) (log log' : Option Held) (t : Totals) (text : List ℕ) → SealFails f ledger log log' [] → IsLedger ledger t → RestsAt log text → LeavesAll text log'
  seal_leaves keep.Memory ledger log log' t text fails told rests = rest_leaves log' text (fails ∙ rests)
  seal_leaves keep.Log ledger log log' t text fails told rests = most_leaves log' text (mark_of t) (fails t told text rests)
  seal_leaves keep.Read ledger log log' t text fails told rests = absurd fails
  seal_leaves keep.Write ledger log log' t text fails told rests = absurd fails
  seal_leaves keep.Unended ledger log log' t text fails told rests = absurd fails
  seal_leaves keep.TooMany ledger log log' t text fails told rests = absurd fails

  pub unbegun : (f : KeepFault) (head : List ℕ) (before : ℕ) (script : List ℕ) (len : ℕ) (done : Replayed) (log log' log'' : Option Held) (first ledger : Ledger) (start mid : S) → ReadsLog head len log (Some script) → IsLedger first (begins_from head before)
      → Replays A is_kept start script done first ledger mid → LogDoes (shortened len) log log' → SealFails f ledger log' log'' [] → IfSome log (λ h. LeavesAll (head ++ script) log'')
  unbegun f head before script len done log log' log'' first ledger start mid reads told p cut fails =
      if_some log _ _ (λ h rests. seal_leaves f ledger log' log'' (with_batch (totals_behind (begins_from head before) p.batches) p.last) (head ++ script) fails (p.is (begins_from head before) told).1 rests)
      (cut_rests head script len log log' reads cut)

module _ {S : Type 0} (A : S → List ℕ → List ℕ → S → Type 0) (is_kept : List ℕ → Bool) (turns_away : S → List ℕ → Bool) (due : S → Option (List ℕ)) where
  pub keeps_on : (head : List ℕ) (before : ℕ) (script input : List ℕ) (len : ℕ) (log between log' : Option Held) (out out' : Option (List ℕ)) (ledger ledger' : Ledger) (start mid end : S)
      → Begins A is_kept start head before script len log between ledger mid → ServesAll A is_kept turns_away due mid input between log' out out' ledger ledger' end → KeepsOn A is_kept turns_away due start head before script input len log log' out out' ledger' end
  keeps_on head before script input len log between log' out out' ledger ledger' start mid end b served =
      let s = served.serves in
      let all = joined b.batches ++ b.last in
      let (told, rests) = s.kept (kept_behind (totals_behind (begins_from head before) b.batches) b.last) b.told in
      record {
        between = between;
        told = ledger;
        mid = mid;
        begins = b;
        serves = s;
        done = served.done;
        together = again_then A is_kept turns_away due start mid end all s.turns b.again s.answers;
        stands = again_join A is_kept start mid end all (joined s.batches) b.again
            (subst (λ (l : List Entry). RunsAgain A is_kept mid l end) s.logged (answers_again A is_kept turns_away due mid end s.turns s.answers));
        tells = told;
        holds = if_some log _ _ (λ h r. rests r) b.rests;
      }

  -- whatever fails, each crash leaves what was answered
  fails_leave : (f : KeepFault) (mid : S) (input : List ℕ) (left : Option (List ℕ)) (log log' : Option Held) (out out' : Option (List ℕ)) (ledger : Ledger) (end : S) (t : Totals)
      → (fails : Fails A is_kept turns_away due f mid input left log log' out out' ledger end) → IsLedger ledger t → RestsAt log t.text → LeavesAll (totals_behind t fails.done.batches).text log'
  fails_leave keep.Memory mid input left log log' out out' ledger end t fails told rests =
      rest_leaves log' (totals_behind t fails.done.batches).text (fails.last.0 ∙ (fails.done.kept t told).1 rests)
  fails_leave keep.Read mid input left log log' out out' ledger end t fails told rests =
      rest_leaves log' (totals_behind t fails.done.batches).text (fails.last.1 ∙ (fails.done.kept t told).1 rests)
  fails_leave keep.Unended mid input left log log' out out' ledger end t fails told rests =
      rest_leaves log' (totals_behind t fails.done.batches).text (fails.last.2 ∙ (fails.done.kept t told).1 rests)
  fails_leave keep.TooMany mid input left log log' out out' ledger end t fails told rests =
      rest_leaves log' (totals_behind t fails.done.batches).text (fails.last.2 ∙ (fails.done.kept t told).1 rests)
  fails_leave keep.Write mid input left log log' out out' ledger end t fails told rests =
      let u = totals_behind t fails.done.batches in
      let (w, kept, sent) = fails.last in
      let (told', rested) = fails.done.kept t told in
      let (more, is) = kept_more u (entries w.turns) in
      leaves_less log' u.text more (subst (λ (l : List ℕ). LeavesAll l log') is (rest_leaves log' (kept_behind u (entries w.turns)).text (kept u told' (rested rests))))
  fails_leave keep.Log mid input left log log' out out' ledger end t fails told rests =
      let u = totals_behind t fails.done.batches in
      let (w, breaks, same) = fails.last in
      let (told', rested) = fails.done.kept t told in
      most_leaves log' u.text (text_of (entries w.turns) ++ mark_of (with_batch u (entries w.turns))) (breaks u told' (rested rests))

  pub stops_on : (f : KeepFault) (head : List ℕ) (before : ℕ) (script input : List ℕ) (left : Option (List ℕ)) (len : ℕ) (log between log' : Option Held) (out out' : Option (List ℕ)) (ledger : Ledger) (start mid end : S)
      → Begins A is_kept start head before script len log between ledger mid → Fails A is_kept turns_away due f mid input left between log' out out' ledger end → StopsOn A is_kept turns_away due f start head before script input left len log log' out out' end
  stops_on f head before script input left len log between log' out out' ledger start mid end b fails = record {
    between = between;
    told = ledger;
    mid = mid;
    begins = b;
    fails = fails;
    crashes = if_some log _ _ (λ h r. fails_leave f mid input left between log' out out' ledger end (kept_behind (totals_behind (begins_from head before) b.batches) b.last) fails b.told r) b.rests;
  }

  pub begin_fails : (f : KeepFault) (o p : Option (List ℕ)) (head : List ℕ) (before : ℕ) (len : ℕ) (done : Replayed) (log log' log'' : Option Held) (out : Option (List ℕ)) (first ledger : Ledger) (start mid end : S)
      → IfSome o (λ script. ReadsLog head len log (Some script)) → IsLedger first (begins_from head before) → IfSome o (λ script. Replays A is_kept start script done first ledger mid) → LogDoes (shortened len) log log'
      → SealFails f ledger log' log'' [] → IfSome o (λ script. IfSome p (λ input. StoreFails A is_kept turns_away due (fault.Begin f) start head before script input p len log log'' out out end))
  begin_fails f None p head before len done log log' log'' out first ledger start mid end reads told replayed cut fails = tt
  begin_fails f (Some script) None head before len done log log' log'' out first ledger start mid end reads told replayed cut fails = tt
  begin_fails f (Some script) (Some input) head before len done log log' log'' out first ledger start mid end reads told replayed cut fails =
      (unbegun A is_kept f head before script len done log log' log'' first ledger start mid reads told replayed cut fails, refl, refl)
