-- Each settled view has a member, but for that of a chunk which is listed without a reference.
use Rattle.std.proofs.Common.{◌≡◌, ◌⊎◌, inl, inr, ◌∙◌, ◌+◌, ◌==◌, ◌&&◌, ◌||◌, ℕ, Bool, true, false, not, cond, List, [], ◌∷◌, refl, ap, sym, subst, arith}
use Rattle.std.specs.Prelude.{is_none, is_some, nat_lt, filter_map, option_map, slice_get, Option, Some, None, Result, Ok, Err, if◌then◌else◌}
use Rattle.std.specs.Cmp.{nat_cmp_total}
use Rattle.std.specs.FinMap as fin
use Rattle.std.specs.List.{cons_option, list_all, list_any, AllByRecursion}
use Rattle.std.specs.Ordering.{eq_by_cmp, nat_cmp}
use Rattle.std.proofs.lemmas.Bool.{false≢true, and_parts}
use Rattle.std.proofs.lemmas.Bool.Decides.{nat_tests}
use Rattle.gs_base.specs.declared.config.Config.{Config}
use Rattle.gs_base.specs.declared.epoch.EpochEnd.TheVariants as ends
use Rattle.gs_base.specs.declared.numbers.Moment.{Moment}
use Rattle.gs_base.specs.declared.numbers.ReqId.{ReqId}
use Rattle.gs_base.specs.declared.refusal.Refusal.{Refusal}
use Rattle.gs_base.specs.declared.refusal.Refusal.TheVariants as refusals
use Rattle.gs_edit.specs.Edits.{handed_over, has_reference, holds_chunk}
use Rattle.gs_edit.specs.View.{NamesView}
use Rattle.gs_edit.specs.declared.edit.Edit.TheVariants as edits
use Rattle.gs_edit.specs.Names.{IsCounted}
use Rattle.gs_edit.proofs.References.{among, get-without}
use Rattle.gs_edit.proofs.Sweeping.{split_chunks}
use Rattle.gs_journal.specs.declared.version.Version.TheVariants.{Two}
use Rattle.gs_path.specs.Element.{is_hidden}
use Rattle.gs_path.specs.Path.{Path, begins}
use Rattle.gs_master_record.specs.Plain.{PlainEdit, Mkdirs, Create, Rename, Hide, Unhide, Remove, AddChunk, Cow, Snapshot, Forget, PlainEntry, Edited, Said, Propose, Settle, Prepare, Finalize, RollbackBegin, RollbackCommit, Whole, Holder}
use Rattle.gs_master_record.specs.Writable.{IsEntry}
use Rattle.gs_master_record.specs.declared.checkpoint.Phase.TheVariants.{Ordinary, Upgrade, Rolling}
use Rattle.gs_master_record.specs.declared.entry.Answered.{Answered}
use Rattle.gs_master_record.specs.declared.entry.SettledView.{SettledView}
use Rattle.gs_refs.specs.Counts.{Counts, ascends, count_or_zero, is_at_zero, occurrences, taken_each, without_each}
use Rattle.gs_refs.proofs.EachLemmas.{lowered-counts, more, raised-counts}
use Rattle.gs_tree.specs.Chunks.{all_chunks, chunks_under, visible_chunks_under}
use Rattle.gs_tree.specs.Edits.{chunks_in}
use Rattle.gs_tree.specs.Find.{Rows, at}
use Rattle.gs_tree.specs.Plain.{after}
use Rattle.gs_master_spec.specs.Applied.{after_edit, after_undoing, applied, are_answers, are_at_rest, follows_view, forgotten_by, held_by, is_next_epoch, is_prepared_on, is_since, is_sound, may_be_settled, may_edit, may_propose, may_restore, proposed, restored_chunk, restored_view, rolled_back, with_edit, with_epoch, with_proposal, with_view, without_prepared}
use Rattle.gs_master_spec.specs.Durable.{Durable, Settled, has_its_primary, is_given, is_listed, is_ordinary, is_rolling, is_upgrade, prepared_view, upgrade_epoch, with_prepared}
use Rattle.gs_master_spec.specs.Handling.{checkpoint, checkpoint_body, checkpoint_tests, due, fresh, handle, tick, tidied, written_if_due, written_unless}
use Rattle.gs_master_spec.specs.State.{State, Turn, and_then, first_of, is_failed, met_by, unmoved}
use Rattle.gs_master_spec.specs.Undoing.{all_undone, edited_names, named_plain}
use Rattle.gs_master_spec.specs.Whole.{is_empty}
use Rattle.gs_master_spec.specs.declared.asking.Prepared.{Prepared}
use Rattle.gs_laws_master.specs.Membered.{EventsKeepMembers, EventsKeepMembersAtPlaces, HasMember, HaveMembers, RecordsKeepMembers, RunsHaveMembers, SettledHaveMembers, StepsKeepMembersAtPlaces, TellsMembers}
use Rattle.gs_laws_master.specs.Promises.{IsKept}
use Rattle.gs_laws_master.specs.Standing.{Event, Comes, Ticks, Renews, Restarts, IsNamed, run_of, turn_of}
use Rattle.gs_laws_master.specs.Written.{AreHeardIn, IsHeardIn, IsSteady}
use Rattle.gs_laws_master.proofs.lemmas.upgrades.Beginnings.{fits_gives}
use Rattle.gs_laws_master.proofs.lemmas.names.EditsBack.{admitted, with_parts}
use Rattle.gs_laws_master.proofs.lemmas.keeping.KeptAll.{keeps_all, tidied_kept}
use Rattle.gs_laws_master.proofs.lemmas.keeping.KeptEdits.{get_left}
use Rattle.gs_laws_master.proofs.lemmas.keeping.KeptViews.{same_key}
use Rattle.gs_laws_master.proofs.lemmas.standing.StandingRuns.{events_fit, steps_fit}
use Rattle.gs_laws_master.proofs.lemmas.telling.Tellable.{IsTellable, not_whole}
use Rattle.gs_laws_master.proofs.lemmas.telling.ToldAgain.{get_tidied, tells_all}
use Rattle.gs_laws_master.proofs.lemmas.names.Undone.{was_named}
use Rattle.gs_laws_master.proofs.lemmas.telling.Writing.{all_steps_written, events_written, messages_written, starts_steady}
use Rattle.gs_laws_master.proofs.lemmas.telling.WritingPlaces.{all_behind, all_steps, event_at_all, message_told, steps_at_all, steps_told}

-- ---- a chunk that is listed without a reference stays so, unless it is forgotten

settled_is : {a b : Settled} → ◌≡◌ {A = Option Settled} (Some a) (Some b) → a ≡ b
settled_is h = cc

durable_is : {a b : Durable} → ◌≡◌ {A = Option Durable} (Some a) (Some b) → a ≡ b
durable_is h = cc

abbrev Zero : Counts → ℕ → Type 0
Zero refs q = fin.get refs q ≡ Some 0

same_zero : (refs new : Counts) (q : ℕ) → ◌≡◌ {A = Result Counts Refusal} (Ok refs) (Ok new) → Zero refs q → Zero new q
same_zero refs new q e zero = let same : refs ≡ new = cc in ap (λ (m : Counts). fin.get m q) (sym same) ∙ zero

put_zero : (refs : Counts) (k v q : ℕ) → (q ≡ k → ⊥) → Zero refs q → Zero (fin.insert refs k v) q
put_zero refs k v q other zero = fin.get-insert nat_cmp_total refs k v q ∙ by_key (eq_by_cmp nat_cmp q k) refl
  where
    by_key : (b : Bool) → eq_by_cmp nat_cmp q k ≡ b → cond b (Some v) (fin.get refs q) ≡ Some 0
    by_key true is = absurd (other (same_key q k is))
    by_key false is = zero

-- one that isn't listed is another
unlisted_other : (refs : Counts) (k q : ℕ) → is_none (fin.get refs k) ≡ true → Zero refs q → q ≡ k → ⊥
unlisted_other refs k q none zero same = false≢true (sym (ap is_none (ap (λ c. fin.get refs c) (sym same) ∙ zero)) ∙ none)

-- and so is one that has a reference
referred_other : (refs : Counts) (k q : ℕ) → has_reference (fin.get refs k) ≡ true → Zero refs q → q ≡ k → ⊥
referred_other refs k q some zero same = false≢true (sym (ap has_reference (ap (λ c. fin.get refs c) (sym same) ∙ zero)) ∙ some)

less_zero : (k : ℕ) (v : Option ℕ) → more k v ≡ Some 0 → v ≡ Some 0
less_zero k None e = absurd (false≢true (ap is_some e))
less_zero k (Some n) e = ap (λ c. Some c) (let sum : n + k ≡ 0 = ap count_or_zero e in omega arith)

-- what a snapshot copies stands in the tree
copies_none : (from : Path) (names : NamesView) (q : ℕ) → IsCounted names → Zero names.refs q → occurrences q (visible_chunks_under from (fin.entries names.tree)) ≡ 0
copies_none from names q counted zero =
    none (count_or_zero (fin.get names.refs q)) (occurrences q (all_chunks rows)) (occurrences q (visible_chunks_under from rows)) _ (ap count_or_zero zero) (counted q) (split_chunks q (λ p. begins from p && not (list_any is_hidden (after from p))) rows)
  where
    rows : Rows ℕ
    rows = fin.entries names.tree

    none : (count all part rest : ℕ) → count ≡ 0 → count ≡ all → all ≡ part + rest → part ≡ 0
    none count all part rest z c s = omega arith

abbrev StaysZero : PlainEdit → NamesView → Type 0
StaysZero edit old = (new : Rows ℕ × Counts) (q : ℕ) → named_plain edit (fin.entries old.tree) old.refs ≡ Ok new → IsCounted old → Zero old.refs q → among q (forgotten_by edit) ≡ false → Zero new.1 q

zero_cow : (p : Path) (index before chunk : ℕ) (old : NamesView) → StaysZero (Cow p index before chunk) old
zero_cow p index before chunk old new q e counted zero out =
    let rows = fin.entries old.tree in
    let parts = admitted (edits.Cow p index before chunk) rows old.refs new e in
    let asked = and_parts (is_none (fin.get old.refs chunk)) (holds_chunk (slice_get (chunks_in (at rows p)) index) before && has_reference (fin.get old.refs before)) parts.asked in
    let has = (and_parts (holds_chunk (slice_get (chunks_in (at rows p)) index) before) (has_reference (fin.get old.refs before)) asked.1).1 in
    same_zero (handed_over old.refs before chunk) new.1 q parts.counts
    (put_zero (fin.insert old.refs chunk 1) before _ q (referred_other old.refs before q has zero) (put_zero old.refs chunk 1 q (unlisted_other old.refs chunk q asked.0 zero) zero))

zero_forget : (chunks : List ℕ) (old : NamesView) → StaysZero (Forget chunks) old
zero_forget chunks old new q e counted zero out =
    by_test (ascends chunks && list_all (λ h. is_at_zero (fin.get old.refs h)) chunks) (with_parts (Ok (fin.entries old.tree)) (taken_each old.refs chunks) new e).1
  where
    by_test : (b : Bool) → cond b (Ok (without_each old.refs chunks)) (Err refusals.BadLine) ≡ Ok new.1 → Zero new.1 q
    by_test false k = absurd (let h = k in cc)
    by_test true k = same_zero (without_each old.refs chunks) new.1 q k (get-without chunks old.refs q ∙ ap (λ b. cond b None (fin.get old.refs q)) out ∙ zero)

stays_zero : (edit : PlainEdit) (old : NamesView) → StaysZero edit old
stays_zero (Mkdirs p) old new q e counted zero out = same_zero old.refs new.1 q (admitted (edits.Mkdirs p) (fin.entries old.tree) old.refs new e).counts zero
stays_zero (Create p) old new q e counted zero out = same_zero old.refs new.1 q (admitted (edits.Create p) (fin.entries old.tree) old.refs new e).counts zero
stays_zero (Rename from to) old new q e counted zero out = same_zero old.refs new.1 q (admitted (edits.Rename from to) (fin.entries old.tree) old.refs new e).counts zero
stays_zero (Hide p moment number) old new q e counted zero out = same_zero old.refs new.1 q (admitted (edits.Hide p (record { 0 = moment }) number) (fin.entries old.tree) old.refs new e).counts zero
stays_zero (Unhide p) old new q e counted zero out = same_zero old.refs new.1 q (admitted (edits.Unhide p) (fin.entries old.tree) old.refs new e).counts zero
stays_zero (Remove p) old new q e counted zero out =
    let hs = chunks_under p (fin.entries old.tree) in
    less_zero (occurrences q hs) (fin.get new.1 q) (sym (lowered-counts hs old.refs new.1 (admitted (edits.Remove p) (fin.entries old.tree) old.refs new e).counts q) ∙ zero)
stays_zero (AddChunk p chunk) old new q e counted zero out =
    let parts = admitted (edits.AddChunk p chunk) (fin.entries old.tree) old.refs new e in
    same_zero (fin.insert old.refs chunk 1) new.1 q parts.counts (put_zero old.refs chunk 1 q (unlisted_other old.refs chunk q parts.asked zero) zero)
stays_zero (Cow p index before chunk) old new q e counted zero out = zero_cow p index before chunk old new q e counted zero out
stays_zero (Snapshot from to) old new q e counted zero out =
    let hs = visible_chunks_under from (fin.entries old.tree) in
    raised-counts hs old.refs new.1 (admitted (edits.Snapshot from to) (fin.entries old.tree) old.refs new e).counts q ∙ ap (more (occurrences q hs)) zero ∙ ap (λ n. Some (0 + n)) (copies_none from old q counted zero)
stays_zero (Forget chunks) old new q e counted zero out = zero_forget chunks old new q e counted zero out

zero_after : (edit : PlainEdit) (old new : NamesView) (q : ℕ) → edited_names edit old ≡ Ok new → IsCounted old → Zero old.refs q → among q (forgotten_by edit) ≡ false → Zero new.refs q
zero_after edit old new q e counted zero out =
    let n = was_named edit old new e in ap (λ (x : NamesView). fin.get x.refs q) (sym n.is) ∙ stays_zero edit old (n.rows, n.refs) q n.made counted zero out

-- ---- records

edit_members : (d next : Durable) (by : ReqId) (edit : PlainEdit) → IsKept d → HaveMembers d → (names : Result NamesView Refusal) → edited_names edit d.names ≡ names → after_edit d by edit names ≡ Some next → HaveMembers next
edit_members d next by edit k m (Err refusal) named e = absurd (false≢true (ap is_some e))
edit_members d next by edit k m (Ok names) named e =
    subst HaveMembers (fits_gives (may_edit d edit) (with_edit d by edit names) next e).1 (λ q settled has. by_forgotten q settled (among q (forgotten_by edit)) refl (sym (get_left d (forgotten_by edit) q) ∙ has))
  where
    by_member : (q : ℕ) (settled : Settled) → among q (forgotten_by edit) ≡ false → HasMember d q settled → HasMember (with_edit d by edit names) q settled
    by_member q settled out (inl some) = inl some
    by_member q settled out (inr zero) = inr (zero_after edit d.names names q named k.names.counted zero out)

    by_forgotten : (q : ℕ) (settled : Settled) (b : Bool) → among q (forgotten_by edit) ≡ b → cond b None (fin.get d.chunks q) ≡ Some settled → HasMember (with_edit d by edit names) q settled
    by_forgotten q settled true is h = absurd (false≢true (ap is_some h))
    by_forgotten q settled false is h = by_member q settled is (m q settled h)

proposed_members : (d : Durable) (chunk : ℕ) → HaveMembers d → (o : Option Settled) → fin.get d.chunks chunk ≡ o → (q : ℕ) (settled : Settled) → fin.get (with_proposal d chunk o) q ≡ Some settled → HasMember d q settled
proposed_members d chunk m None is q settled has = m q settled has
proposed_members d chunk m (Some s) is q settled has = by_key (eq_by_cmp nat_cmp q chunk) refl (sym (fin.get-insert nat_cmp_total d.chunks chunk (record s { is_moving = true }) q) ∙ has)
  where
    by_key : (b : Bool) → eq_by_cmp nat_cmp q chunk ≡ b → cond b (Some (record s { is_moving = true })) (fin.get d.chunks q) ≡ Some settled → HasMember d q settled
    by_key true same h = subst (HasMember d q) (settled_is h) (subst (λ c. HasMember d c (record s { is_moving = true })) (sym (same_key q chunk same)) (m chunk s is))
    by_key false same h = m q settled h

not_true : (b : Bool) → not b ≡ true → b ≡ false
not_true true h = absurd (false≢true h)
not_true false h = refl

settle_members : (d next : Durable) (v : SettledView) → HaveMembers d → may_be_settled d v ≡ true → with_view d v ≡ next → HaveMembers next
settle_members d next v m may is = subst HaveMembers is (λ q settled has. by_key q settled (eq_by_cmp nat_cmp q v.handle) (sym (fin.get-insert nat_cmp_total d.chunks v.handle (record { view = v.view; is_moving = false }) q) ∙ has))
  where
    some : is_empty v.view.members ≡ false
    some =
        let after_view = follows_view (fin.get d.chunks v.handle) v.view.stamp && is_since (upgrade_epoch d.phase d.epoch) (fin.get d.chunks v.handle) v.view.stamp in
        let b = and_parts (is_given d.next_handle v.handle) _ may in
        let c = and_parts (is_given d.next_version v.view.stamp.version) _ b.1 in
        let e = and_parts _ (is_sound v.view && after_view) c.1 in
        let sound = and_parts (is_sound v.view) after_view e.1 in not_true (is_empty v.view.members) (and_parts (not (is_empty v.view.members)) (has_its_primary v.view) sound.0).0

    by_key : (q : ℕ) (settled : Settled) (b : Bool) → cond b (Some (record { view = v.view; is_moving = false })) (fin.get d.chunks q) ≡ Some settled → HasMember d q settled
    by_key q settled true h = inl (ap (λ (s : Settled). is_empty s.view.members) (sym (settled_is h)) ∙ some)
    by_key q settled false h = m q settled h

-- ---- the commit of a rollback

same_number : (a b : ℕ) → (a == b) ≡ true → a ≡ b
same_number a b e = grind (arith, nat_tests)

restored_so : (all none some : Bool) → (all && (none || not some)) ≡ true → (none ≡ true) ⊎ (some ≡ false)
restored_so all true some h = inl refl
restored_so all false some h = inr (not_true some (and_parts all (not some) h).1)

-- a restored chunk before those of other answers
abbrev found_with : Durable → Answered → List Answered → ℕ → Option Prepared → Option Settled
found_with d a answers q o = fin.find nat_cmp q (cons_option (option_map (λ (p : Prepared). (a.handle, restored_view d.epoch p a.members)) o) (filter_map (restored_chunk d) answers))

abbrev MemberOr : Settled → Option ℕ → Type 0
MemberOr settled o = (is_empty settled.view.members ≡ false) ⊎ (o ≡ Some 0)

restored_members : (d : Durable) (refs : List (ℕ × ℕ)) (answers : List Answered) (q : ℕ) (settled : Settled) → are_answers (prepared_view d) refs answers ≡ true → fin.find nat_cmp q (filter_map (restored_chunk d) answers) ≡ Some settled
    → (is_empty settled.view.members ≡ false) ⊎ (fin.find nat_cmp q refs ≡ Some 0)
restored_members d [] [] q settled asked has = absurd (false≢true (ap is_some has))
restored_members d [] (a ∷ answers) q settled asked has = absurd (false≢true asked)
restored_members d (e ∷ refs) [] q settled asked has = absurd (false≢true asked)
restored_members d (e ∷ refs) (a ∷ answers) q settled asked has =
    by_view (λ h. restored_members d refs answers q settled rest.1 h) (prepared_view d e.0) refl rest.0 (sym (ap (found_with d a answers q) (ap (λ c. prepared_view d c) handle)) ∙ has)
  where
    first : ((a.handle == e.0) ≡ true) × ((may_restore (prepared_view d e.0) e.1 a.members && are_answers (prepared_view d) refs answers) ≡ true)
    first = and_parts (a.handle == e.0) (may_restore (prepared_view d e.0) e.1 a.members && are_answers (prepared_view d) refs answers) asked

    rest : (may_restore (prepared_view d e.0) e.1 a.members ≡ true) × (are_answers (prepared_view d) refs answers ≡ true)
    rest = and_parts (may_restore (prepared_view d e.0) e.1 a.members) (are_answers (prepared_view d) refs answers) first.1

    handle : a.handle ≡ e.0
    handle = same_number a.handle e.0 first.0

    by_rest : eq_by_cmp nat_cmp q e.0 ≡ false → (is_empty settled.view.members ≡ false) ⊎ (fin.find nat_cmp q refs ≡ Some 0) → MemberOr settled (cond (eq_by_cmp nat_cmp q e.0) (Some e.1) (fin.find nat_cmp q refs))
    by_rest other (inl some) = inl some
    by_rest other (inr zero) = inr (ap (λ b. cond b (Some e.1) (fin.find nat_cmp q refs)) other ∙ zero)

    by_answer : (p : Prepared) → eq_by_cmp nat_cmp q e.0 ≡ true → restored_view d.epoch p a.members ≡ settled → ((e.1 == 0) ≡ true) ⊎ (is_empty a.members ≡ false) → MemberOr settled (cond (eq_by_cmp nat_cmp q e.0) (Some e.1) (fin.find nat_cmp q refs))
    by_answer p same is (inl none) = inr (ap (λ b. cond b (Some e.1) (fin.find nat_cmp q refs)) same ∙ ap (λ n. Some n) (same_number e.1 0 none))
    by_answer p same is (inr some) = inl (ap (λ (s : Settled). is_empty s.view.members) (sym is) ∙ some)

    by_key : (fin.find nat_cmp q (filter_map (restored_chunk d) answers) ≡ Some settled → MemberOr settled (fin.find nat_cmp q refs)) → (p : Prepared) (b : Bool) → eq_by_cmp nat_cmp q e.0 ≡ b → may_restore (Some p) e.1 a.members ≡ true → cond b (Some (restored_view d.epoch p a.members)) (fin.find nat_cmp q (filter_map (restored_chunk d) answers)) ≡ Some settled → MemberOr settled (cond (eq_by_cmp nat_cmp q e.0) (Some e.1) (fin.find nat_cmp q refs))
    by_key go p true same may h = by_answer p same (settled_is h) (restored_so (list_all (is_prepared_on p) a.members) (e.1 == 0) (is_empty a.members) may)
    by_key go p false other may h = by_rest other (go h)

    by_view : (fin.find nat_cmp q (filter_map (restored_chunk d) answers) ≡ Some settled → MemberOr settled (fin.find nat_cmp q refs)) → (o : Option Prepared) → prepared_view d e.0 ≡ o → may_restore (prepared_view d e.0) e.1 a.members ≡ true → found_with d a answers q (prepared_view d e.0) ≡ Some settled → MemberOr settled (cond (eq_by_cmp nat_cmp q e.0) (Some e.1) (fin.find nat_cmp q refs))
    by_view go None is may h = absurd (false≢true (sym (ap (λ o. may_restore o e.1 a.members) is) ∙ may))
    by_view go (Some p) is may h =
        by_key go p (eq_by_cmp nat_cmp q e.0) refl (sym (ap (λ o. may_restore o e.1 a.members) is) ∙ may)
        (ap (λ c. cond (eq_by_cmp nat_cmp q c) (Some (restored_view d.epoch p a.members)) (fin.find nat_cmp q (filter_map (restored_chunk d) answers))) (sym handle) ∙ sym (ap (found_with d a answers q) is) ∙ h)

undone_members : (d next : Durable) (epoch : ℕ) (answers : List Answered) (names : Option NamesView) → after_undoing d epoch answers names ≡ Some next → HaveMembers next
undone_members d next epoch answers None e = absurd (false≢true (ap is_some e))
undone_members d next epoch answers (Some names) e = subst HaveMembers is.1 (λ q settled has. by_refs q settled (restored_members d (fin.entries names.refs) answers q settled asked (sym (fin.get-from_entries nat_cmp_total (filter_map (restored_chunk d) answers) q) ∙ has)))
  where
    is : ((is_rolling d.phase && ((epoch == d.epoch) && are_answers (prepared_view d) (fin.entries names.refs) answers)) ≡ true) × (rolled_back d answers names ≡ next)
    is = fits_gives (is_rolling d.phase && ((epoch == d.epoch) && are_answers (prepared_view d) (fin.entries names.refs) answers)) (rolled_back d answers names) next e

    asked : are_answers (prepared_view d) (fin.entries names.refs) answers ≡ true
    asked = (and_parts (epoch == d.epoch) (are_answers (prepared_view d) (fin.entries names.refs) answers) (and_parts (is_rolling d.phase) ((epoch == d.epoch) && are_answers (prepared_view d) (fin.entries names.refs) answers) is.0).1).1

    by_refs : (q : ℕ) (settled : Settled) → (is_empty settled.view.members ≡ false) ⊎ (fin.find nat_cmp q (fin.entries names.refs) ≡ Some 0) → HasMember (rolled_back d answers names) q settled
    by_refs q settled (inl some) = inl some
    by_refs q settled (inr zero) = inr (fin.get-entries names.refs q ∙ zero)

-- the chunks and the names stay
same_members : (d n next : Durable) → n ≡ next → n.chunks ≡ d.chunks → n.names ≡ d.names → HaveMembers d → HaveMembers next
same_members d n next is chunks names m = subst HaveMembers is (λ q settled has. by_member q settled (m q settled (ap (λ c. fin.get c q) (sym chunks) ∙ has)))
  where
    by_member : (q : ℕ) (settled : Settled) → HasMember d q settled → HasMember n q settled
    by_member q settled (inl some) = inl some
    by_member q settled (inr zero) = inr (ap (λ (x : NamesView). fin.get x.refs q) names ∙ zero)

pub records_keep_members : RecordsKeepMembers
unfolding applied
records_keep_members (Edited by edit) d next other k m e = edit_members d next by edit k m (edited_names edit d.names) refl e
records_keep_members (Said to refusal) d next other k m e = same_members d _ next (fits_gives true _ next e).1 refl refl m
records_keep_members (Propose chunk version) d next other k m e =
    subst HaveMembers (fits_gives (may_propose d.phase d.next_handle d.next_version chunk version (fin.get d.chunks chunk)) (proposed d chunk version) next e).1 (λ q settled has. proposed_members d chunk m (fin.get d.chunks chunk) refl q settled has)
records_keep_members (Settle v) d next other k m e = let is = fits_gives (may_be_settled d v) (with_view d v) next e in settle_members d next v m is.0 is.1
records_keep_members (Prepare epoch moment chunks) d next other k m e =
    let n = without_prepared (with_epoch d ends.Prepare Upgrade) in same_members d n next (fits_gives (is_ordinary d.phase && (is_next_epoch d.epoch epoch && are_at_rest d)) n next e).1 refl refl m
records_keep_members (Finalize epoch) d next other k m e =
    let n = without_prepared (with_epoch d ends.Finalize Ordinary) in same_members d n next (fits_gives (is_upgrade d.phase && is_next_epoch d.epoch epoch) n next e).1 refl refl m
records_keep_members (RollbackBegin epoch) d next other k m e = let n = with_epoch d ends.Rollback Rolling in same_members d n next (fits_gives (is_upgrade d.phase && is_next_epoch d.epoch epoch) n next e).1 refl refl m
records_keep_members (RollbackCommit epoch answers) d next other k m e = undone_members d next epoch answers (all_undone d.inverses d.names) e
records_keep_members (Whole c) d next other k m e = absurd (false≢true (sym other))
records_keep_members (Holder chunk server) d next other k m e =
    let n = record d { prepared = with_prepared d chunk (held_by server (prepared_view d chunk)) } in same_members d n next (fits_gives (is_upgrade d.phase && (nat_lt server 16 && is_some (prepared_view d chunk))) n next e).1 refl refl m

-- ---- checkpoints

tidied_members : (d : Durable) → HaveMembers d → HaveMembers (tidied d)
tidied_members d m q settled has = was (is_listed d q) (sym (get_tidied d q) ∙ has)
  where
    was : (b : Bool) → cond b (fin.get d.chunks q) None ≡ Some settled → HasMember d q settled
    was true h = m q settled h
    was false h = absurd (false≢true (ap is_some h))

pub tells_members : TellsMembers
unfolding applied
tells_members d next k m e = subst HaveMembers (durable_is (sym (tells_all d k) ∙ e)) (tidied_members d m)

pub settled_have_members : SettledHaveMembers
settled_have_members d chunk count settled m refs few has = by_member (m chunk settled has)
  where
    by_member : HasMember d chunk settled → is_empty settled.view.members ≡ false
    by_member (inl some) = some
    by_member (inr zero) = absurd (let same : count ≡ 0 = ap count_or_zero (sym refs ∙ zero) in omega arith)

-- ---- events

-- what stands, with its members
record Membered (d : Durable) : Type 0 where
  kept : IsKept d
  members : HaveMembers d

next_membered : (entry : PlainEntry) (d next : Durable) → IsTellable entry → IsEntry Two entry → Membered d → applied d entry ≡ Some next → Membered next
next_membered entry d next t f m e = let other = not_whole entry t in record { kept = keeps_all entry other d next f m.kept e; members = records_keep_members entry d next other m.kept m.members e }

membered : (s : State) → IsSteady s → HaveMembers s.durable → Membered s.durable
membered s y m = record { kept = y.firm.stands.kept; members = m }

unless_membered : (s : State) (refusal : Option Refusal) → Membered s.durable → Membered (written_unless s refusal).after.durable
unless_membered s None m = record { kept = tidied_kept s.durable m.kept; members = tidied_members s.durable m.members }
unless_membered s (Some refusal) m = m

checkpoint_membered : (s : State) → Membered s.durable → Membered (checkpoint s).after.durable
unfolding checkpoint
checkpoint_membered s m = unless_membered s (first_of (checkpoint_tests (is_failed s.fault) s.volatile.is_preparing s.log (checkpoint_body s.durable))) m

due_membered : (s : State) → Membered s.durable → Membered (written_if_due s).after.durable
due_membered s m = by_test (due s)
  where
    by_test : (b : Bool) → Membered (if b then record (checkpoint s) { said = None } else unmoved s).after.durable
    by_test true = checkpoint_membered s m
    by_test false = m

tick_membered : (s : State) (moment : Moment) → IsSteady s → Membered s.durable → Membered (tick s moment).after.durable
unfolding tick
tick_membered s moment y m = by_test (is_failed s.fault)
  where
    steps : Turn
    steps = all_steps s moment

    last : Membered steps.after.durable
    last = all_behind Membered next_membered steps.records s.durable steps.after.durable (steps_told s moment y) (all_steps_written s moment y).written m (steps_fit s moment y.firm)

    by_test : (b : Bool) → Membered (if b then met_by s refusals.Device else and_then steps written_if_due).after.durable
    by_test true = m
    by_test false = due_membered steps.after last

event_membered : (config : Config) (s : State) (event : Event) → IsNamed event → IsHeardIn s event → IsSteady s → Membered s.durable → Membered (turn_of config s event).after.durable
event_membered config s (Comes message moment) named heard y m =
    let t = handle config s message moment in
    all_behind Membered next_membered t.records s.durable t.after.durable (message_told config s message moment named heard y) (messages_written config s message moment named heard y).written m (events_fit config s (Comes message moment) named y.firm).fits
event_membered config s (Ticks moment) named heard y m = tick_membered s moment y m
event_membered config s Renews named heard y m = checkpoint_membered s m
event_membered config s Restarts named heard y m = m

pub events_keep_members : EventsKeepMembers
events_keep_members config s event named heard y m = (event_membered config s event named heard y (membered s y m)).members

pub events_keep_members_at_places : EventsKeepMembersAtPlaces
events_keep_members_at_places config s event place d named heard y m fit =
    let now = membered s y m in (event_at_all Membered next_membered config s event named heard y now (event_membered config s event named heard y now) place d fit).members

pub steps_keep_members_at_places : StepsKeepMembersAtPlaces
steps_keep_members_at_places s moment place d y m fit = (steps_at_all Membered next_membered s moment y (membered s y m) place d fit).members

run_members : (config : Config) (events : List Event) (s : State) → AllByRecursion IsNamed events → AreHeardIn config s events → IsSteady s → HaveMembers s.durable → HaveMembers (run_of config s events).after.durable
run_members config [] s named heard y m = m
run_members config (event ∷ events) s named heard y m =
    run_members config events (turn_of config s event).after named.1 heard.1 (events_written config s event named.0 heard.0 y).steady (events_keep_members config s event named.0 heard.0 y m)

pub runs_have_members : RunsHaveMembers
runs_have_members config log events room limit named heard =
    run_members config events (fresh log) named heard (starts_steady log room limit) (λ q settled has. absurd (false≢true (sym (ap is_some (fin.get-empty nat_cmp q)) ∙ ap is_some has)))
