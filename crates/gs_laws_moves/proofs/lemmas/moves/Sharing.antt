-- A chunk that stands in several places isn't leased, through each move.
use Rattle.std.proofs.Common.{◌≡◌, arith, ◌∙◌, ◌==◌, ◌&&◌, ◌||◌, ◌+◌, ◌-◌, ◌⊎◌, inl, inr, ℕ, Bool, true, false, not, cond, List, [], ◌∷◌, refl, ap, sym, subst}
use Rattle.std.specs.Prelude.{filter_map, is_some, map, nat_lt, option_and_then, option_map, Option, Some, None, Result, Ok, Err, if◌then◌else◌}
use Rattle.std.specs.Cmp.{nat_cmp_total}
use Rattle.std.specs.FinMap as fin
use Rattle.std.specs.List.{cons_option, list_all}
use Rattle.std.specs.Ordering.{eq_by_cmp, nat_cmp}
use Rattle.std.proofs.lemmas.Bool.{false≢true, true≢false, and_parts}
use Rattle.std.proofs.lemmas.Bool.Decides.{nat_tests}
use Rattle.gs_base.specs.Members.{is_member}
use Rattle.gs_base.specs.declared.config.Config.{Config}
use Rattle.gs_base.specs.declared.epoch.EpochEnd.TheVariants as ends
use Rattle.gs_base.specs.declared.numbers.Moment.{Moment}
use Rattle.gs_base.specs.declared.numbers.ReqId.{ReqId}
use Rattle.gs_base.specs.declared.refusal.Refusal.{Refusal}
use Rattle.gs_base.specs.declared.refusal.Refusal.TheVariants.{BadLine, Exhausted}
use Rattle.gs_edit.proofs.References.{among, get-without}
use Rattle.gs_edit.specs.Edits.{handed_over}
use Rattle.gs_edit.specs.View.{NamesView}
use Rattle.gs_edit.specs.declared.edit.Edit.TheVariants as edits
use Rattle.gs_lease.specs.Transitions.{is_for_lease, settled_view, term_of}
use Rattle.gs_lease.specs.declared.view.Purpose.{Purpose}
use Rattle.gs_lease.specs.declared.view.Purpose.TheVariants as purposes
use Rattle.gs_lease.specs.declared.view.View.{View}
use Rattle.gs_msg.specs.declared.answer.Answer.{Answer}
use Rattle.gs_msg.specs.declared.answer.Answer.TheVariants as answers
use Rattle.gs_path.specs.Path.{Path}
use Rattle.gs_master_record.specs.Plain.{PlainEdit, PlainEntry, AddChunk, Cow, Create, Forget, Hide, Mkdirs, Remove, Rename, Snapshot, Unhide, Edited, Finalize, Holder, Prepare, Propose, RollbackBegin, RollbackCommit, Said, Settle, Whole}
use Rattle.gs_master_record.specs.declared.checkpoint.Phase.TheVariants.{Ordinary, Upgrade, Rolling}
use Rattle.gs_master_record.specs.declared.entry.Answered.{Answered}
use Rattle.gs_refs.specs.Counts.{Counts, and_then, ascends, count_or_zero, is_at_zero, last_count, lowered, lowered_each, lowered_from, raised_each, raised_listed, raised_listed_from, taken_each, without_each}
use Rattle.gs_tree.specs.Chunks.{chunks_under, visible_chunks_under}
use Rattle.gs_view.specs.Choice.{answerers, greatest}
use Rattle.gs_view.specs.declared.poll.Poll.{Poll}
use Rattle.gs_master_spec.specs.Applied.{after_edit, after_undoing, applied, are_answers, are_at_rest, held_by, is_next_epoch, may_be_settled, may_edit, may_propose, proposed, replayed, restored_chunk, restored_view, rolled_back, with_edit, with_epoch, with_view, without_prepared}
use Rattle.gs_master_spec.specs.Beginning.{begin_at, copy_plan, create_plan, members_at, next_stamp}
use Rattle.gs_master_spec.specs.Calls.{accept_plan, is_shared}
use Rattle.gs_master_spec.specs.Chunks.{Chunk, asking_for, chunk_at, has_entry, heard_no, heard_yes, holder_records, is_holder, may_settle, proposed_in, target_of, view_by, with_answers}
use Rattle.gs_master_spec.specs.Durable.{Durable, Settled, is_ordinary, is_rolling, is_upgrade, prepared_view, with_prepared}
use Rattle.gs_master_spec.specs.Handling.{without_place}
use Rattle.gs_master_spec.specs.Settling.{edit_plan, end_plan, is_quiet_at, own_request, replace_plan, source_chunks}
use Rattle.gs_master_spec.specs.State.{State, Plan, Turn, answer_changes, answered, fits, keeps_refusal, said_changes, said_records, turned}
use Rattle.gs_master_spec.specs.Undoing.{edited_names, named_plain}
use Rattle.gs_master_spec.specs.Upgrades.{accepted_plan, answers_for, chunk_count, tell_all, told_of}
use Rattle.gs_master_spec.specs.Volatile.{Volatile, all_changed}
use Rattle.gs_master_spec.specs.Working.{begin_pending, scan_edits, scan_plan}
use Rattle.gs_master_spec.specs.declared.asking.Asking.{Asking}
use Rattle.gs_master_spec.specs.declared.asking.Prepared.{Prepared}
use Rattle.gs_master_spec.specs.declared.change.Change.TheVariants as changes
use Rattle.gs_master_spec.specs.declared.pending.Waiting.TheVariants as waits
use Rattle.gs_view.specs.Spoken.{with_no, with_yes}
use Rattle.gs_laws_master.specs.Promises.{AllFit}
use Rattle.gs_laws_master.specs.Standing.{Event, Comes, Ticks, Renews, Restarts, turn_of}
use Rattle.gs_laws_master.proofs.lemmas.upgrades.Beginnings.{fits_gives}
use Rattle.gs_laws_master.proofs.lemmas.names.EditsBack.{admitted, with_parts}
use Rattle.gs_laws_master.proofs.lemmas.keeping.KeptViews.{same_key}
use Rattle.gs_laws_master.proofs.lemmas.upgrades.Resting.{quiet_rests}
use Rattle.gs_laws_master.proofs.lemmas.standing.Standing.{changed_more}
use Rattle.gs_laws_master.proofs.lemmas.names.Undone.{IsNamed, was_named}
use Rattle.gs_laws_moves.proofs.lemmas.moves.Asked.{accepted_moving, answer_moving, asking_is, beside_moving, ended_asked, got, said_moving, said_usual, scan_usual, settle_view, tidied_view}
use Rattle.gs_laws_moves.proofs.lemmas.moves.Leaving.{AskedFrom, ViewFrom, all_removed, change_asked, leaves_view, records_view, same_asked, same_view}
use Rattle.gs_laws_moves.proofs.lemmas.moves.Made.{events_are_chains}
use Rattle.gs_laws_moves.proofs.lemmas.moves.Entries.{settling_names}
use Rattle.gs_laws_moves.proofs.lemmas.moves.Fitting.{split}
use Rattle.gs_laws_moves.proofs.lemmas.moves.Right.{one_fits, settled_gives}
use Rattle.gs_laws_moves.specs.moves.Guards.{ComesOf, Heard, IsMade, IsAlone, settled_chunk}
use Rattle.gs_laws_moves.specs.moves.Laws.{heard_in, met_in}
use Rattle.gs_laws_moves.specs.moves.Moves.{Chain, Rests, Moves, Then, Alone, Beside, FromNow, Further, Move, Begins, Makes, Copies, Hears, Sends, Settles, Edits, Extends, CopiesTree, Replaces, Scans, Refuses, Answers as AnswersCall, Waits, Restores, Says, Flags, Prepares, Finalizes, BeginsRollback, TellsRollback, CommitsRollback, Checkpoints, move_turn, plan_of_refusal, plan_of_restore, plan_of_rollback, with_beside}
use Rattle.gs_laws_moves.specs.moves.Shared.{EachMoveSharesSo, IsSharedSo, IsUnleased, StartsSharedSo, StaysSharedSo}

same_number : (a b : ℕ) → (a == b) ≡ true → a ≡ b
same_number a b h = grind (arith, nat_tests)

not_true : (b : Bool) → not b ≡ true → b ≡ false
not_true true h = absurd (false≢true h)
not_true false h = refl

counts_is : {a b : Counts} → ◌≡◌ {A = Result Counts Refusal} (Ok a) (Ok b) → a ≡ b
counts_is h = cc

-- ---- counts of references

module _ (chunk : ℕ) where
  abbrev several : Counts → Bool
  several m = nat_lt 1 (count_or_zero (fin.get m chunk))

  -- who has two afterwards had two before
  abbrev SharedFrom : Counts → Counts → Type 0
  SharedFrom m n = several n ≡ true → several m ≡ true

  put_shared : (m : Counts) (k v : ℕ) → (chunk ≡ k → nat_lt 1 v ≡ true → several m ≡ true) → SharedFrom m (fin.insert m k v)
  put_shared m k v here more = by_key (eq_by_cmp nat_cmp chunk k) refl (ap (λ o. nat_lt 1 (count_or_zero o)) (sym (fin.get-insert nat_cmp_total m k v chunk)) ∙ more)
    where
      by_key : (b : Bool) → eq_by_cmp nat_cmp chunk k ≡ b → nat_lt 1 (count_or_zero (cond b (Some v) (fin.get m chunk))) ≡ true → several m ≡ true
      by_key true same h = here (same_key chunk k same) h
      by_key false other h = h

  -- one less
  less_shared : (c : ℕ) → nat_lt 1 (c - 1) ≡ true → nat_lt 1 c ≡ true
  less_shared c h = grind (arith, nat_tests)

  one_lowered : (m n : Counts) (k : ℕ) → lowered m k ≡ Ok n → SharedFrom m n
  one_lowered m n k e = by_value (fin.get m k) refl e
    where
      by_value : (v : Option ℕ) → fin.get m k ≡ v → lowered_from m k v ≡ Ok n → SharedFrom m n
      by_value None is h = absurd (let g = h in cc)
      by_value (Some c) is h = by_zero (c == 0) h
        where
          by_zero : (b : Bool) → (if b then Err BadLine else Ok (fin.insert m k (c - 1))) ≡ Ok n → SharedFrom m n
          by_zero true g = absurd (let f = g in cc)
          by_zero false g = subst (SharedFrom m) (counts_is g) (put_shared m k (c - 1) (λ same more. ap (λ o. nat_lt 1 (count_or_zero o)) (ap (fin.get m) same ∙ is) ∙ less_shared c more))

  all_lowered : (hs : List ℕ) (m n : Counts) → lowered_each m hs ≡ Ok n → SharedFrom m n
  all_lowered [] m n e = λ more. ap several (counts_is e) ∙ more
  all_lowered (h ∷ hs) m n e = each (lowered m h) refl (λ o. all_lowered hs o n) e
    where
      each : (r : Result Counts Refusal) → lowered m h ≡ r → ((o : Counts) → lowered_each o hs ≡ Ok n → SharedFrom o n) → and_then r (λ o. lowered_each o hs) ≡ Ok n → SharedFrom m n
      each (Ok o) is rest g = λ more. one_lowered m o h is (rest o g more)
      each (Err f) is rest g = absurd (let k = g in cc)

  -- who is raised to two stands in the list
  abbrev RaisedFrom : List ℕ → Counts → Counts → Type 0
  RaisedFrom hs m n = several n ≡ true → (several m ≡ true) ⊎ (is_member hs chunk ≡ true)

  itself : (n : ℕ) → (n == n) ≡ true
  itself n = grind (arith, nat_tests)

  one_raised : (m n : Counts) (k : ℕ) → raised_listed m k ≡ Ok n → several n ≡ true → (several m ≡ true) ⊎ ((k == chunk) ≡ true)
  one_raised m n k e = by_value (fin.get m k) refl e
    where
      by_value : (v : Option ℕ) → fin.get m k ≡ v → raised_listed_from m k v ≡ Ok n → several n ≡ true → (several m ≡ true) ⊎ ((k == chunk) ≡ true)
      by_value None is h more = absurd (let g = h in cc)
      by_value (Some c) is h more = by_room (nat_lt c last_count) h
        where
          by_key : (b : Bool) → eq_by_cmp nat_cmp chunk k ≡ b → nat_lt 1 (count_or_zero (cond b (Some (c + 1)) (fin.get m chunk))) ≡ true → (several m ≡ true) ⊎ ((k == chunk) ≡ true)
          by_key true same g = inr (ap (λ x. k == x) (same_key chunk k same) ∙ itself k)
          by_key false other g = inl g

          by_room : (b : Bool) → (if b then Ok (fin.insert m k (c + 1)) else Err Exhausted) ≡ Ok n → (several m ≡ true) ⊎ ((k == chunk) ≡ true)
          by_room true g = by_key (eq_by_cmp nat_cmp chunk k) refl (ap (λ o. nat_lt 1 (count_or_zero o)) (sym (fin.get-insert nat_cmp_total m k (c + 1) chunk)) ∙ ap several (counts_is g) ∙ more)
          by_room false g = absurd (let f = g in cc)

  all_raised : (hs : List ℕ) (m n : Counts) → raised_each m hs ≡ Ok n → RaisedFrom hs m n
  all_raised [] m n e = λ more. inl (ap several (counts_is e) ∙ more)
  all_raised (h ∷ hs) m n e = each (raised_listed m h) refl (λ o. all_raised hs o n) e
    where
      later : (b : Bool) → is_member hs chunk ≡ true → (b || is_member hs chunk) ≡ true
      later true here = refl
      later false here = here

      first : (b : Bool) → b ≡ true → (b || is_member hs chunk) ≡ true
      first true is = refl
      first false is = absurd (false≢true is)

      both : (o : Counts) → raised_listed m h ≡ Ok o → (several o ≡ true) ⊎ (is_member hs chunk ≡ true) → (several m ≡ true) ⊎ ((h == chunk || is_member hs chunk) ≡ true)
      both o is (inr here) = inr (later (h == chunk) here)
      both o is (inl more) = by_one (one_raised m o h is more)
        where
          by_one : (several m ≡ true) ⊎ ((h == chunk) ≡ true) → (several m ≡ true) ⊎ ((h == chunk || is_member hs chunk) ≡ true)
          by_one (inl was) = inl was
          by_one (inr same) = inr (first (h == chunk) same)

      each : (r : Result Counts Refusal) → raised_listed m h ≡ r → ((o : Counts) → raised_each o hs ≡ Ok n → RaisedFrom hs o n) → and_then r (λ o. raised_each o hs) ≡ Ok n → RaisedFrom (h ∷ hs) m n
      each (Ok o) is rest g = λ more. both o is (rest o g more)
      each (Err f) is rest g = absurd (let k = g in cc)

  -- ---- edits

  abbrev is_copy : PlainEdit → Bool
  is_copy (Snapshot from to) = true
  is_copy (Mkdirs p) = false
  is_copy (Create p) = false
  is_copy (Rename from to) = false
  is_copy (Hide p moment number) = false
  is_copy (Unhide p) = false
  is_copy (Remove p) = false
  is_copy (AddChunk p added) = false
  is_copy (Cow p index old new) = false
  is_copy (Forget chunks) = false

  same_shared : (m n : Counts) → ◌≡◌ {A = Result Counts Refusal} (Ok m) (Ok n) → SharedFrom m n
  same_shared m n e more = ap several (counts_is e) ∙ more

  taken_shared : (chunks : List ℕ) (m n : Counts) → taken_each m chunks ≡ Ok n → SharedFrom m n
  taken_shared chunks m n e = by_test (ascends chunks && list_all (λ h. is_at_zero (fin.get m h)) chunks) e
    where
      left : (b : Bool) → nat_lt 1 (count_or_zero (cond b None (fin.get m chunk))) ≡ true → several m ≡ true
      left true h = absurd (false≢true h)
      left false h = h

      by_test : (b : Bool) → cond b (Ok (without_each m chunks)) (Err BadLine) ≡ Ok n → SharedFrom m n
      by_test false k = absurd (let h = k in cc)
      by_test true k = λ more. left (among chunk chunks) (ap (λ o. nat_lt 1 (count_or_zero o)) (sym (get-without chunks m chunk)) ∙ ap several (counts_is k) ∙ more)

  handed_shared : (m n : Counts) (old new : ℕ) → ◌≡◌ {A = Result Counts Refusal} (Ok (handed_over m old new)) (Ok n) → SharedFrom m n
  handed_shared m n old new e more = by_key (eq_by_cmp nat_cmp chunk old) refl (ap (λ o. nat_lt 1 (count_or_zero o)) (sym (fin.get-insert nat_cmp_total (fin.insert m new 1) old (count_or_zero (fin.get m old) - 1) chunk)) ∙ ap several (counts_is e) ∙ more)
    where
      by_key : (b : Bool) → eq_by_cmp nat_cmp chunk old ≡ b → nat_lt 1 (count_or_zero (cond b (Some (count_or_zero (fin.get m old) - 1)) (fin.get (fin.insert m new 1) chunk))) ≡ true → several m ≡ true
      by_key true same h = ap (λ c. nat_lt 1 (count_or_zero (fin.get m c))) (same_key chunk old same) ∙ less_shared (count_or_zero (fin.get m old)) h
      by_key false other h = put_shared m new 1 (λ same more. absurd (false≢true more)) h

  edit_shared : (edit : PlainEdit) (old new : NamesView) → is_copy edit ≡ false → edited_names edit old ≡ Ok new → is_shared new chunk ≡ true → is_shared old chunk ≡ true
  edit_shared edit old new plain e more = by_edit edit plain n.made
    where
      n : IsNamed edit old new
      n = was_named edit old new e

      now : several n.refs ≡ true
      now = ap (λ (x : NamesView). several x.refs) n.is ∙ more

      by_edit : (x : PlainEdit) → is_copy x ≡ false → named_plain x (fin.entries old.tree) old.refs ≡ Ok (n.rows, n.refs) → several old.refs ≡ true
      by_edit (Mkdirs p) h made = same_shared old.refs n.refs (admitted (edits.Mkdirs p) (fin.entries old.tree) old.refs (n.rows, n.refs) made).counts now
      by_edit (Create p) h made = same_shared old.refs n.refs (admitted (edits.Create p) (fin.entries old.tree) old.refs (n.rows, n.refs) made).counts now
      by_edit (Rename from to) h made = same_shared old.refs n.refs (admitted (edits.Rename from to) (fin.entries old.tree) old.refs (n.rows, n.refs) made).counts now
      by_edit (Hide p moment number) h made = same_shared old.refs n.refs (admitted (edits.Hide p (record { 0 = moment }) number) (fin.entries old.tree) old.refs (n.rows, n.refs) made).counts now
      by_edit (Unhide p) h made = same_shared old.refs n.refs (admitted (edits.Unhide p) (fin.entries old.tree) old.refs (n.rows, n.refs) made).counts now
      by_edit (Remove p) h made = all_lowered (chunks_under p (fin.entries old.tree)) old.refs n.refs (admitted (edits.Remove p) (fin.entries old.tree) old.refs (n.rows, n.refs) made).counts now
      by_edit (AddChunk p added) h made = put_shared old.refs added 1 (λ same two. absurd (false≢true two)) (ap several (counts_is (admitted (edits.AddChunk p added) (fin.entries old.tree) old.refs (n.rows, n.refs) made).counts) ∙ now)
      by_edit (Cow p index before after) h made = handed_shared old.refs n.refs before after (admitted (edits.Cow p index before after) (fin.entries old.tree) old.refs (n.rows, n.refs) made).counts now
      by_edit (Snapshot from to) h made = absurd (true≢false h)
      by_edit (Forget chunks) h made = taken_shared chunks old.refs n.refs (with_parts (Ok (fin.entries old.tree)) (taken_each old.refs chunks) (n.rows, n.refs) made).1 now

  copied_shared : (from to : Path) (old new : NamesView) → edited_names (Snapshot from to) old ≡ Ok new → is_shared new chunk ≡ true → (is_shared old chunk ≡ true) ⊎ (is_member (visible_chunks_under from (fin.entries old.tree)) chunk ≡ true)
  copied_shared from to old new e more =
      let n = was_named (Snapshot from to) old new e in
      all_raised (visible_chunks_under from (fin.entries old.tree)) old.refs n.refs (admitted (edits.Snapshot from to) (fin.entries old.tree) old.refs (n.rows, n.refs) n.made).counts (ap (λ (x : NamesView). several x.refs) n.is ∙ more)

  -- ---- records

  -- a record behind which the chunk may have more references
  abbrev shares : PlainEntry → Bool
  shares (Edited by edit) = is_copy edit
  shares (Said to refusal) = false
  shares (Propose q version) = false
  shares (Settle v) = false
  shares (Prepare epoch moment many) = false
  shares (Finalize epoch) = false
  shares (RollbackBegin epoch) = false
  shares (RollbackCommit epoch answers) = true
  shares (Whole c) = true
  shares (Holder q server) = false

  abbrev StillShared : Durable → Durable → Type 0
  StillShared d e = is_shared e.names chunk ≡ true → is_shared d.names chunk ≡ true

  same_names : (d e : Durable) → e.names ≡ d.names → StillShared d e
  same_names d e same more = ap (λ (n : NamesView). is_shared n chunk) (sym same) ∙ more

  names_given : (d e : Durable) (by : ReqId) (edit : PlainEdit) → applied d (Edited by edit) ≡ Some e → edited_names edit d.names ≡ Ok e.names
  unfolding applied
  names_given d e by edit fit = by_names (edited_names edit d.names) refl fit
    where
      by_names : (names : Result NamesView Refusal) → edited_names edit d.names ≡ names → after_edit d by edit names ≡ Some e → edited_names edit d.names ≡ Ok e.names
      by_names (Ok names) is h = is ∙ ap (λ (x : Durable). Ok x.names) (fits_gives (may_edit d edit) (with_edit d by edit names) e h).1
      by_names (Err refusal) is h = absurd (false≢true (ap is_some h))

  durable_is : {a b : Durable} → ◌≡◌ {A = Option Durable} (Some a) (Some b) → a ≡ b
  durable_is k = cc

  record_shared : (d e : Durable) (entry : PlainEntry) → shares entry ≡ false → applied d entry ≡ Some e → StillShared d e
  unfolding applied
  record_shared d e (Edited by edit) plain fit = edit_shared edit d.names e.names plain (names_given d e by edit fit)
  record_shared d e (Said to refusal) plain fit = same_names d e (ap (λ (x : Durable). x.names) (sym (durable_is fit)))
  record_shared d e (Propose q version) plain fit = same_names d e (ap (λ (x : Durable). x.names) (sym (fits_gives (may_propose d.phase d.next_handle d.next_version q version (fin.get d.chunks q)) (proposed d q version) e fit).1))
  record_shared d e (Settle v) plain fit = same_names d e (ap (λ (x : Durable). x.names) (sym (fits_gives (may_be_settled d v) (with_view d v) e fit).1))
  record_shared d e (Prepare epoch moment many) plain fit =
      same_names d e (ap (λ (x : Durable). x.names) (sym (fits_gives (is_ordinary d.phase && (is_next_epoch d.epoch epoch && are_at_rest d)) (without_prepared (with_epoch d ends.Prepare Upgrade)) e fit).1))
  record_shared d e (Finalize epoch) plain fit = same_names d e (ap (λ (x : Durable). x.names) (sym (fits_gives (is_upgrade d.phase && is_next_epoch d.epoch epoch) (without_prepared (with_epoch d ends.Finalize Ordinary)) e fit).1))
  record_shared d e (RollbackBegin epoch) plain fit = same_names d e (ap (λ (x : Durable). x.names) (sym (fits_gives (is_upgrade d.phase && is_next_epoch d.epoch epoch) (with_epoch d ends.Rollback Rolling) e fit).1))
  record_shared d e (RollbackCommit epoch answers) plain fit = absurd (true≢false plain)
  record_shared d e (Whole c) plain fit = absurd (true≢false plain)
  record_shared d e (Holder q server) plain fit =
      same_names d e (ap (λ (x : Durable). x.names) (sym (fits_gives (is_upgrade d.phase && (nat_lt server 16 && is_some (prepared_view d q))) (record d { prepared = with_prepared d q (held_by server (prepared_view d q)) }) e fit).1))

  records_shared : (entries : List PlainEntry) (d e : Durable) → list_all (λ x. not (shares x)) entries ≡ true → replayed d entries ≡ Some e → StillShared d e
  records_shared [] d e all fit = same_names d e (ap (λ (x : Durable). x.names) (sym (durable_is fit)))
  records_shared (entry ∷ entries) d e all fit =
      let parts = and_parts (not (shares entry)) (list_all (λ x. not (shares x)) entries) all in
      by_first (applied d entry) refl fit (λ n is h more. record_shared d n entry (not_true (shares entry) parts.0) is (records_shared entries n e parts.1 h more))
    where
      by_first : (o : Option Durable) → applied d entry ≡ o → option_and_then (λ n. replayed n entries) o ≡ Some e → ((n : Durable) → applied d entry ≡ Some n → replayed n entries ≡ Some e → StillShared d e) → StillShared d e
      by_first None is h rest = absurd (false≢true (ap is_some h))
      by_first (Some n) is h rest = rest n is h

  -- ---- what a plan leaves

  carried : (s u : State) → ViewFrom chunk s.durable u.durable → AskedFrom chunk s.volatile.moving u.volatile.moving → IsUnleased s chunk → IsUnleased u chunk
  carried s u view asked k = record {
    term = record { term = λ x has. (let p = view x has in ap (λ (v : View). v.term) (sym p.2) ∙ k.term.term p.0 p.1) };
    asked = λ b has. (let p = asked b has in ap (λ (a : Asking). is_for_lease a.purpose) p.2 ∙ k.asked p.0 p.1);
  }

  plan_shared : (s : State) (plan : Plan) → list_all (λ x. not (shares x)) plan.records ≡ true → list_all (leaves_view chunk) plan.records ≡ true → AskedFrom chunk s.volatile.moving (all_changed s.volatile plan.changes).moving → AllFit s (turned s plan) → IsSharedSo s chunk → IsSharedSo (turned s plan).after chunk
  plan_shared s plan none usual asked fit k more =
      let u = (turned s plan).after in carried s u (records_view chunk plan.records s.durable u.durable usual fit) asked (k (records_shared plan.records s.durable u.durable none fit more))

  -- this is asked for a chunk now
  asks_shared : (s u : State) (q : ℕ) (asking : Asking) → ViewFrom chunk s.durable u.durable → StillShared s.durable u.durable → u.volatile.moving ≡ fin.insert s.volatile.moving q asking → (q ≡ chunk → is_shared s.durable.names chunk ≡ true → is_for_lease asking.purpose ≡ false) → IsSharedSo s chunk → IsSharedSo u chunk
  asks_shared s u q asking view still moving here k more = record {
    term = record { term = λ x has. (let p = view x has in ap (λ (v : View). v.term) (sym p.2) ∙ (k (still more)).term.term p.0 p.1) };
    asked = λ b has. by_key (q == chunk) refl b has;
  }
    where
      by_key : (t : Bool) → (q == chunk) ≡ t → (b : Asking) → fin.get u.volatile.moving chunk ≡ Some b → is_for_lease b.purpose ≡ false
      by_key true same b has =
          let is = same_number q chunk same in
          ap (λ (a : Asking). is_for_lease a.purpose) (sym (asking_is (sym (got s.volatile.moving chunk asking) ∙ ap (λ c. fin.get (fin.insert s.volatile.moving c asking) chunk) (sym is) ∙ ap (λ m. fin.get m chunk) (sym moving) ∙ has))) ∙ here is (still more)
      by_key false other b has =
          let p = change_asked chunk s.volatile (changes.Ask q asking) other b (ap (λ m. fin.get m chunk) (sym moving) ∙ has) in ap (λ (a : Asking). is_for_lease a.purpose) p.2 ∙ (k (still more)).asked p.0 p.1

  -- ---- a tree is copied: what it copies is quiet

  quiet_known : (s : State) → is_quiet_at s chunk ≡ true → has_entry s chunk ≡ true
  unfolding chunk_at
  quiet_known s h = by_entry (has_entry s chunk) refl
    where
      by_entry : (b : Bool) → has_entry s chunk ≡ b → has_entry s chunk ≡ true
      by_entry true is = is
      by_entry false is = absurd (false≢true (rw is at h))

  quiet_unleased : (s : State) → is_quiet_at s chunk ≡ true → IsUnleased s chunk
  quiet_unleased s h =
      let rests = quiet_rests s chunk (quiet_known s h) h in
      record { term = record { term = λ x has. (rests.settled x has).1 }; asked = λ a has. absurd (false≢true (sym (ap is_some rests.unasked) ∙ ap is_some has)) }

  all_of : (f : ℕ → Bool) (xs : List ℕ) → list_all f xs ≡ true → is_member xs chunk ≡ true → f chunk ≡ true
  all_of f [] all here = absurd (false≢true here)
  all_of f (x ∷ xs) all here = (let parts = and_parts (f x) (list_all f xs) all in by_head (x == chunk) refl here parts.0 (all_of f xs parts.1))
    where
      by_head : (b : Bool) → (x == chunk) ≡ b → (b || is_member xs chunk) ≡ true → f x ≡ true → (is_member xs chunk ≡ true → f chunk ≡ true) → f chunk ≡ true
      by_head true same h pass rest = subst (λ c. f c ≡ true) (same_number x chunk same) pass
      by_head false other h pass rest = rest h

  copy_shared : (s u : State) (by : ReqId) (from to : Path) → list_all (is_quiet_at s) (source_chunks s from) ≡ true → replayed s.durable (Edited by (Snapshot from to) ∷ []) ≡ Some u.durable → u.volatile.moving ≡ s.volatile.moving → IsSharedSo s chunk → IsSharedSo u chunk
  copy_shared s u by from to quiet fit moving k more =
      carried s u (records_view chunk (Edited by (Snapshot from to) ∷ []) s.durable u.durable refl fit) (subst (AskedFrom chunk s.volatile.moving) (sym moving) (same_asked chunk s.volatile.moving))
      (by_was (copied_shared from to s.durable.names u.durable.names (names_given s.durable u.durable by (Snapshot from to) (one_fits s.durable u.durable (Edited by (Snapshot from to)) fit)) more))
    where
      by_was : (is_shared s.durable.names chunk ≡ true) ⊎ (is_member (source_chunks s from) chunk ≡ true) → IsUnleased s chunk
      by_was (inl was) = k was
      by_was (inr here) = quiet_unleased s (all_of (is_quiet_at s) (source_chunks s from) quiet here)

-- ---- purposes

yes_purpose : (old : Asking) (server count : ℕ) → (heard_yes old server count).purpose ≡ old.purpose
yes_purpose old server count = by_test (is_member old.asked server)
  where
    by_test : (b : Bool) → (if b then with_answers old (with_yes old.answers server count) else old).purpose ≡ old.purpose
    by_test true = refl
    by_test false = refl

no_purpose : (old : Asking) (server : ℕ) → (heard_no old server).purpose ≡ old.purpose
no_purpose old server = by_test (is_member old.asked server)
  where
    by_test : (b : Bool) → (if b then with_answers old (with_no old.answers server) else old).purpose ≡ old.purpose
    by_test true = refl
    by_test false = refl

heard_purpose : (heard : Heard) (q : ℕ) (old new : Asking) → ComesOf heard q old new → new.purpose ≡ old.purpose
heard_purpose heard q old new (inl one) = ap (λ (z : Asking). z.purpose) one.4 ∙ yes_purpose old one.0 one.1
heard_purpose heard q old new (inr one) = ap (λ (z : Asking). z.purpose) one.2 ∙ no_purpose old one.0

-- no other view has a term
no_term : (purpose : Purpose) (members : List ℕ) (moment : Moment) → is_for_lease purpose ≡ false → term_of purpose members moment ≡ None
no_term purposes.Quiet members moment h = refl
no_term purposes.Lease members moment h = absurd (true≢false h)
no_term (purposes.Copy target) members moment h = refl

view_is : {a b : View} → ◌≡◌ {A = Option View} (Some a) (Some b) → a ≡ b
view_is h = cc

pub view_term : (c : Chunk) (asking : Asking) (by : Poll) (moment : Moment) (view : View) → view_by c asking by moment ≡ Some view → is_for_lease asking.purpose ≡ false → view.term ≡ None
view_term c asking by moment view e other = by_most (greatest by.counts) e
  where
    by_test : (b : Bool) (made : View) → made.term ≡ None → (if b then Some made else None) ≡ Some view → view.term ≡ None
    by_test true made none h = ap (λ (v : View). v.term) (sym (view_is h)) ∙ none
    by_test false made none h = absurd (false≢true (ap is_some h))

    by_most : (most : Option ℕ) → option_and_then (λ (ch : List ℕ × ℕ). if may_settle asking.asked ch.0 then Some (settled_view (proposed_in c asking) ch.0 ch.1 moment) else None) (option_map (λ count. (answerers by.counts count, count)) most) ≡ Some view → view.term ≡ None
    by_most None h = absurd (false≢true (ap is_some h))
    by_most (Some count) h = by_test (may_settle asking.asked (answerers by.counts count)) (settled_view (proposed_in c asking) (answerers by.counts count) count moment) (no_term asking.purpose (answerers by.counts count) moment other) h

settled_is : {a b : Settled} → ◌≡◌ {A = Option Settled} (Some a) (Some b) → a ≡ b
settled_is k = cc

-- ---- a rollback is committed: no view has a term then

back_term : (chunk : ℕ) (d : Durable) (all : List Answered) (x : Settled) → fin.find nat_cmp chunk (filter_map (restored_chunk d) all) ≡ Some x → x.view.term ≡ None
back_term chunk d [] x e = absurd (false≢true (ap is_some e))
back_term chunk d (answer ∷ all) x e = by_prepared (back_term chunk d all x) (prepared_view d answer.handle) e
  where
    by_key : (fin.find nat_cmp chunk (filter_map (restored_chunk d) all) ≡ Some x → x.view.term ≡ None) → (p : Prepared) (b : Bool) → cond b (Some (restored_view d.epoch p answer.members)) (fin.find nat_cmp chunk (filter_map (restored_chunk d) all)) ≡ Some x → x.view.term ≡ None
    by_key rest p true h = ap (λ (z : Settled). z.view.term) (sym (settled_is h))
    by_key rest p false h = rest h

    by_prepared : (fin.find nat_cmp chunk (filter_map (restored_chunk d) all) ≡ Some x → x.view.term ≡ None) → (o : Option Prepared) → fin.find nat_cmp chunk (cons_option (option_map (λ (p : Prepared). (answer.handle, restored_view d.epoch p answer.members)) o) (filter_map (restored_chunk d) all)) ≡ Some x → x.view.term ≡ None
    by_prepared rest None h = rest h
    by_prepared rest (Some p) h = by_key rest p (eq_by_cmp nat_cmp chunk answer.handle) h

beside_all : (f : PlainEntry → Bool) (plan : Plan) (beside : Beside) → list_all f plan.records ≡ true → list_all f (with_beside beside plan).records ≡ true
beside_all f plan Alone all = all
beside_all f plan (FromNow req waiting) all = all
beside_all f plan (Further req waiting) all = all

-- ---- each move

module _ (chunk : ℕ) (config : Config) (heard : Heard) (s : State) (k : IsSharedSo s chunk) where
  plain_shared : (plan : Plan) → list_all (λ x. not (shares chunk x)) plan.records ≡ true → list_all (leaves_view chunk) plan.records ≡ true → (all_changed s.volatile plan.changes).moving ≡ s.volatile.moving → AllFit s (turned s plan) → IsSharedSo (turned s plan).after chunk
  plain_shared plan none usual moving fit = plan_shared chunk s plan none usual (subst (AskedFrom chunk s.volatile.moving) (sym moving) (same_asked chunk s.volatile.moving)) fit k

  begins_shared : (q : ℕ) (purpose : Purpose) (call : Option ReqId) (beside : Beside) → IsMade config heard s (Begins q purpose call beside) → IsSharedSo (move_turn config s (Begins q purpose call beside)).after chunk
  begins_shared q purpose call beside made =
      let plan = begin_at s q purpose call in
      let u = (move_turn config s (Begins q purpose call beside)).after in
      asks_shared chunk s u q (asking_for (next_stamp s.durable) purpose (members_at (chunk_at s q)) call)
      (records_view chunk (with_beside beside plan).records s.durable u.durable (beside_all (leaves_view chunk) plan beside refl) made.fits)
      (records_shared chunk (with_beside beside plan).records s.durable u.durable (beside_all (λ x. not (shares chunk x)) plan beside refl) made.fits) (beside_moving s plan beside) (λ same more. alone same more purpose made.may.alone) k
    where
      alone : q ≡ chunk → is_shared s.durable.names chunk ≡ true → (p : Purpose) → IsAlone s q p → is_for_lease p ≡ false
      alone same more purposes.Quiet h = refl
      alone same more purposes.Lease h = absurd (false≢true (sym h ∙ ap (is_shared s.durable.names) same ∙ more))
      alone same more (purposes.Copy target) h = refl

  new_shared : (plan : Plan) (beside : Beside) (asked : List ℕ) (req : ReqId) → list_all (λ x. not (shares chunk x)) plan.records ≡ true → list_all (leaves_view chunk) plan.records ≡ true
      → (all_changed s.volatile plan.changes).moving ≡ fin.insert s.volatile.moving s.durable.next_handle (asking_for (next_stamp s.durable) purposes.Quiet asked (Some req)) → AllFit s (turned s (with_beside beside plan)) → IsSharedSo (turned s (with_beside beside plan)).after chunk
  new_shared plan beside asked req none usual moving fit =
      let v = (turned s (with_beside beside plan)).after in
      asks_shared chunk s v s.durable.next_handle (asking_for (next_stamp s.durable) purposes.Quiet asked (Some req)) (records_view chunk (with_beside beside plan).records s.durable v.durable (beside_all (leaves_view chunk) plan beside usual) fit)
      (records_shared chunk (with_beside beside plan).records s.durable v.durable (beside_all (λ x. not (shares chunk x)) plan beside none) fit) (beside_moving s plan beside ∙ moving) (λ same more. refl) k

  settles_shared : (q : ℕ) (asking : Asking) (carried : Bool) (view : View) → IsMade config heard s (Settles q asking carried view) → IsSharedSo (move_turn config s (Settles q asking carried view)).after chunk
  settles_shared q asking carried view made more = by_key (q == chunk) refl
    where
      u : State
      u = (move_turn config s (Settles q asking carried view)).after

      was : is_shared s.durable.names chunk ≡ true
      was = ap (λ (n : NamesView). is_shared n chunk) (sym (settling_names s q asking carried view)) ∙ more

      asked : AskedFrom chunk s.volatile.moving u.volatile.moving
      asked = change_asked chunk s.volatile (changes.Settled q) refl

      holds : List PlainEntry
      holds = holder_records (is_holder s.durable.phase (prepared_view s.durable q) carried asking view) q (target_of asking.purpose)

      has : fin.get u.durable.chunks q ≡ Some (record { view = view; is_moving = false })
      has =
          let parts = split holds (Settle (record { handle = q; view = view }) ∷ []) s.durable u.durable made.fits in
          settled_gives parts.mid u.durable q view (one_fits parts.mid u.durable (Settle (record { handle = q; view = view })) parts.then)

      by_key : (b : Bool) → (q == chunk) ≡ b → IsUnleased u chunk
      by_key true same =
          let is = same_number q chunk same in
          let none = view_term (settled_chunk s q) asking made.may.by made.may.moment view made.may.view_is ((k was).asked asking (ap (fin.get s.volatile.moving) (sym is) ∙ made.may.has)) in
          record {
            term = record { term = λ x got_it. ap (λ (z : Settled). z.view.term) (settled_is (sym got_it ∙ ap (fin.get u.durable.chunks) (sym is) ∙ has)) ∙ none };
            asked = λ b got_it. (let p = asked b got_it in ap (λ (a : Asking). is_for_lease a.purpose) p.2 ∙ (k was).asked p.0 p.1);
          }
      by_key false other = carried_on (settle_view chunk s q asking carried view other made.fits)
        where
          carried_on : ViewFrom chunk s.durable u.durable → IsUnleased u chunk
          carried_on from = record {
            term = record { term = λ x got_it. (let p = from x got_it in ap (λ (v : View). v.term) (sym p.2) ∙ (k was).term.term p.0 p.1) };
            asked = λ b got_it. (let p = asked b got_it in ap (λ (a : Asking). is_for_lease a.purpose) p.2 ∙ (k was).asked p.0 p.1);
          }

  edits_shared : (req : ReqId) (edit : PlainEdit) (answer : Answer) → IsMade config heard s (Edits req edit answer) → IsSharedSo (move_turn config s (Edits req edit answer)).after chunk
  edits_shared req (Snapshot from to) answer made = copy_shared chunk s (move_turn config s (Edits req (Snapshot from to) answer)).after req from to made.may.still made.fits refl k
  edits_shared req (Mkdirs p) answer made = plain_shared (accept_plan req (Mkdirs p) answer) refl refl refl made.fits
  edits_shared req (Create p) answer made = plain_shared (accept_plan req (Create p) answer) refl refl refl made.fits
  edits_shared req (Rename from to) answer made = plain_shared (accept_plan req (Rename from to) answer) refl refl refl made.fits
  edits_shared req (Hide p moment number) answer made = plain_shared (accept_plan req (Hide p moment number) answer) refl refl refl made.fits
  edits_shared req (Unhide p) answer made = plain_shared (accept_plan req (Unhide p) answer) refl refl refl made.fits
  edits_shared req (Remove p) answer made = plain_shared (accept_plan req (Remove p) answer) refl refl refl made.fits
  edits_shared req (AddChunk p added) answer made = plain_shared (accept_plan req (AddChunk p added) answer) refl refl refl made.fits
  edits_shared req (Cow p index old new) answer made = plain_shared (accept_plan req (Cow p index old new) answer) refl refl refl made.fits
  edits_shared req (Forget chunks) answer made = plain_shared (accept_plan req (Forget chunks) answer) refl refl refl made.fits

  scan_none : (removed : List Path) (forgotten : List ℕ) → list_all (λ x. not (shares chunk x)) (map (Edited own_request) (scan_edits removed forgotten)) ≡ true
  scan_none [] [] = refl
  scan_none [] (c ∷ forgotten) = refl
  scan_none (path ∷ removed) forgotten = scan_none removed forgotten

  said_none : (req : ReqId) (refusal : Refusal) → list_all (λ x. not (shares chunk x)) (said_records (keeps_refusal s req refusal) s.log req refusal) ≡ true
  said_none req refusal = by_test (keeps_refusal s req refusal && fits s.log (Said req refusal ∷ []))
    where
      by_test : (b : Bool) → list_all (λ x. not (shares chunk x)) (if b then Said req refusal ∷ [] else []) ≡ true
      by_test true = refl
      by_test false = refl

  commits_shared : (req : ReqId) (names : NamesView) → IsMade config heard s (CommitsRollback req names) → IsSharedSo (move_turn config s (CommitsRollback req names)).after chunk
  unfolding applied
  commits_shared req names made more = record {
    term = record { term = λ x has. back_term chunk s.durable list x (sym (fin.get-from_entries nat_cmp_total (filter_map (restored_chunk s.durable) list) chunk) ∙ ap (λ (d : Durable). fin.get d.chunks chunk) gives ∙ has) };
    asked = λ b has. absurd (false≢true (sym (ap is_some (ap (λ x. fin.get x chunk) (accepted_moving s (changes.RolledBack ∷ []) req (answers.Epoch s.durable.epoch)).0 ∙ fin.get-empty nat_cmp chunk)) ∙ ap is_some has));
  }
    where
      u : State
      u = (move_turn config s (CommitsRollback req names)).after

      list : List Answered
      list = answers_for (prepared_view s.durable) (told_of s) (fin.entries names.refs)

      gives : rolled_back s.durable list names ≡ u.durable
      gives =
          (fits_gives (is_rolling s.durable.phase && ((s.durable.epoch == s.durable.epoch) && are_answers (prepared_view s.durable) (fin.entries names.refs) list)) (rolled_back s.durable list names) u.durable
          (ap (after_undoing s.durable s.durable.epoch list) (sym made.may.back) ∙ one_fits s.durable u.durable (RollbackCommit (s.durable.epoch) list) made.fits)).1

  move_shared : (move : Move) → IsMade config heard s move → IsSharedSo (move_turn config s move).after chunk
  move_shared (Begins q purpose call beside) made = begins_shared q purpose call beside made
  move_shared (Makes targets req path) made =
      let plan = create_plan (next_stamp s.durable) s.durable.next_handle targets req in
      new_shared plan (FromNow req (waits.Extend path s.durable.next_handle)) targets req refl refl refl made.fits
  move_shared (Copies old view req beside) made =
      let plan = copy_plan (next_stamp s.durable) old view s.durable.next_handle req in new_shared plan beside view.members req refl refl refl made.fits
  move_shared (Hears q new) made =
      let u = (move_turn config s (Hears q new)).after in
      asks_shared chunk s u q new (same_view chunk s.durable u.durable refl) (λ more. more) refl
      (λ same more. ap is_for_lease (heard_purpose heard q made.may.old new made.may.comes) ∙ (k more).asked made.may.old (ap (fin.get s.volatile.moving) (sym same) ∙ made.may.has)) k
  move_shared (Sends q asking source target) made =
      let u = (move_turn config s (Sends q asking source target)).after in
      asks_shared chunk s u q (record asking { source = Some source }) (same_view chunk s.durable u.durable refl) (λ more. more) refl (λ same more. (k more).asked asking (ap (fin.get s.volatile.moving) (sym same) ∙ made.may.has)) k
  move_shared (Settles q asking carried view) made = settles_shared q asking carried view made
  move_shared (Edits req edit answer) made = edits_shared req edit answer made
  move_shared (Extends req path q view) made = plain_shared (edit_plan req (AddChunk path q) (answers.Location q view s.durable.epoch) (changes.Place q ∷ [])) refl refl refl made.fits
  move_shared (CopiesTree req from to) made = copy_shared chunk s (move_turn config s (CopiesTree req from to)).after req from to made.may.1 made.fits refl k
  move_shared (Replaces path index old new) made = plain_shared (replace_plan path index old new) refl refl refl made.fits
  move_shared (Scans removed forgotten) made =
      plan_shared chunk s (scan_plan removed forgotten) (scan_none removed forgotten) (scan_usual chunk own_request (scan_edits removed forgotten)) (change_asked chunk s.volatile (changes.Forget forgotten) refl) made.fits k
  move_shared (Refuses req refusal true) made = plan_shared chunk s (plan_of_refusal s req refusal true) (said_none req refusal) (said_usual chunk s req refusal) (ended_asked chunk s req refusal).0 made.fits k
  move_shared (Refuses req refusal false) made =
      let more = changed_more (said_changes (keeps_refusal s req refusal) s.log req refusal) [] s.volatile in
      plain_shared (plan_of_refusal s req refusal false) (said_none req refusal) (said_usual chunk s req refusal) (ap (λ (v : Volatile). v.moving) more ∙ (said_moving s req refusal).0) made.fits
  move_shared (AnswersCall req answer true) made =
      let more = changed_more (answer_changes s req answer) (changes.End req ∷ []) s.volatile in plain_shared (end_plan s req answer) refl refl (ap (λ (v : Volatile). v.moving) more ∙ (answer_moving s s.volatile req answer).0) made.fits
  move_shared (AnswersCall req answer false) made = plain_shared (answered s req answer) refl refl (answer_moving s s.volatile req answer).0 made.fits
  move_shared (Waits req waiting) made = plain_shared (begin_pending req waiting) refl refl refl made.fits
  move_shared (Restores server chunks) made = plain_shared (plan_of_restore server chunks) refl refl refl made.fits
  move_shared (Says messages) made = k
  move_shared (Flags req preparing epoch) made = plain_shared (accepted_plan s req [] (changes.Prepare preparing ∷ []) [] epoch) refl refl (accepted_moving s (changes.Prepare preparing ∷ []) req (answers.Epoch epoch)).0 made.fits
  move_shared (Prepares req moment) made =
      plain_shared (accepted_plan s req (Prepare (s.durable.epoch + 1) moment.0 (chunk_count s) ∷ []) (changes.Prepare false ∷ []) (tell_all config (s.durable.epoch + 1) ends.Prepare) (s.durable.epoch + 1)) refl refl
      (accepted_moving s (changes.Prepare false ∷ []) req (answers.Epoch (s.durable.epoch + 1))).0 made.fits
  move_shared (Finalizes req) made =
      plain_shared (accepted_plan s req (Finalize (s.durable.epoch + 1) ∷ []) [] (tell_all config (s.durable.epoch + 1) ends.Finalize) (s.durable.epoch + 1)) refl refl (accepted_moving s [] req (answers.Epoch (s.durable.epoch + 1))).0 made.fits
  move_shared BeginsRollback made = plain_shared (plan_of_rollback s) refl refl refl made.fits
  move_shared (TellsRollback req epoch) made = plain_shared (accepted_plan s req [] [] (tell_all config epoch ends.Rollback) epoch) refl refl (accepted_moving s [] req (answers.Epoch epoch)).0 made.fits
  move_shared (CommitsRollback req names) made = commits_shared req names made
  move_shared Checkpoints made = λ more. carried chunk s (move_turn config s Checkpoints).after (tidied_view chunk s.durable) (λ b has. (b, all_removed chunk (without_place s) s.volatile.moving b has, refl)) (k more)

-- ---- every event

chain_shared : (chunk : ℕ) (config : Config) (heard : Heard) (s : State) (t : Turn) → Chain config (IsMade config heard) s t → IsSharedSo s chunk → IsSharedSo t.after chunk
chain_shared chunk config heard s t (Rests u said) k = k
chain_shared chunk config heard s t (Moves u move said made) k = move_shared chunk config heard u k move made
chain_shared chunk config heard s t (Then u first next a b) k = chain_shared chunk config heard first.after next b (chain_shared chunk config heard u first a k)

pub starts_shared : StartsSharedSo
starts_shared d log chunk k more = record { term = k more; asked = λ a has. absurd (false≢true (sym (ap is_some (fin.get-empty nat_cmp chunk)) ∙ ap is_some has)) }

met_shared : (chunk : ℕ) (s : State) (event : Event) → IsSharedSo s chunk → IsSharedSo (met_in s event) chunk
met_shared chunk s (Comes message moment) k = k
met_shared chunk s (Ticks moment) k = k
met_shared chunk s Renews k = k
met_shared chunk s Restarts k = starts_shared s.durable s.log chunk (λ more. (k more).term)

pub stays_shared : StaysSharedSo
stays_shared config s event chunk named firm k = chain_shared chunk config (heard_in event) (met_in s event) (turn_of config s event) (events_are_chains config s event named firm) (met_shared chunk s event k)

pub each_move_shares : EachMoveSharesSo
each_move_shares config heard s move chunk made k = move_shared chunk config heard s k move made
