-- The records of each call fit what they meet, and keep what stands.
use Rattle.std.proofs.Common.{◌≡◌, ◌&&◌, ◌||◌, Bool, true, false, not, [], ◌∷◌, refl, subst}
use Rattle.std.specs.Prelude.{Option, Some, None, Err, if◌then◌else◌, Result, Ok}
use Rattle.std.specs.FinMap as fin
use Rattle.std.specs.List.{list_any}
use Rattle.std.proofs.lemmas.Bool.{true≢false, and_parts}
use Rattle.gs_base.specs.declared.config.Config.{Config}
use Rattle.gs_base.specs.declared.numbers.Moment.{Moment}
use Rattle.gs_base.specs.declared.numbers.ReqId.{ReqId}
use Rattle.gs_base.specs.declared.refusal.Refusal.{Refusal}
use Rattle.gs_base.specs.declared.refusal.Refusal.TheVariants as refusals
use Rattle.gs_path.specs.Element.{is_hidden}
use Rattle.gs_path.specs.Path.{Path}
use Rattle.gs_tree.specs.Edits.{old_name, target_of}
use Rattle.gs_edit.specs.Plain.{unhide_target}
use Rattle.gs_edit.specs.Edits.{edited}
use Rattle.gs_edit.specs.declared.edit.Edit.TheVariants as edits
use Rattle.gs_msg.specs.declared.answer.Answer.TheVariants as answers
use Rattle.gs_msg.specs.declared.call.Call.{Call}
use Rattle.gs_msg.specs.declared.call.Call.TheVariants as calls
use Rattle.gs_master_record.specs.Plain.{Mkdirs, Create, Rename, Unhide}
use Rattle.gs_master_spec.specs.Calls.{found_chunk, is_always_taken, is_any_deep, is_any_hidden, is_locked, is_work, listing, location, refused_before, status, told_phase, edit_if, renames}
use Rattle.gs_master_spec.specs.Durable.{is_rolling}
use Rattle.gs_place.specs.Needs.{most_needed_of}
use Rattle.gs_master_state.specs.Sane.{IsSane}
use Rattle.gs_master_spec.specs.Working.{needs_of}
use Rattle.gs_master_spec.specs.Handling.{call_turn, called, called_unless, taken_as, numbered, replied_again, waits_still, Numbered, New, Again, Older}
use Rattle.gs_master_spec.specs.State.{State, unmoved, is_failed, is_unopened, last_reply}
use Rattle.gs_master_spec.specs.Volatile.{is_pending}
use Rattle.gs_laws_master.specs.Promises.{CallsFit, CallsKeep, IsKept, IsToldCall}
use Rattle.gs_laws_master.proofs.lemmas.fitting.Accepted.{Goes, answered_goes, deleted_goes, edited_goes, looked_goes, may_so, refused_goes, same_goes, test_goes, unhide_well}
use Rattle.gs_laws_master.proofs.lemmas.fitting.AcceptedWork.{extends_goes, found_goes, most_goes, prepare_goes, snapshot_if_goes}
use Rattle.gs_laws_master.proofs.lemmas.fitting.AcceptedForgets.{scans_goes}
use Rattle.gs_laws_master.proofs.lemmas.fitting.AcceptedUpgrades.{abort_goes, begin_goes, commit_goes, finalize_goes, first_test, rolled_goes}
use Rattle.gs_tree.proofs.Levels.{both_true}
use Rattle.gs_edit.specs.View.{NamesView}
use Rattle.gs_master_record.specs.Writable.{IsEdit, IsPath}
use Rattle.gs_master_spec.specs.Applied.{is_visible, may_edit, names_well}
use Rattle.gs_master_spec.specs.Undoing.{edited_names}
use Rattle.gs_master_state.proofs.Renames.{resolved_does}
use Rattle.gs_laws_master.proofs.lemmas.names.Resolved.{resolved_told, resolved_visible}

-- ---- what the tests before a call say

pub record Passes (s : State) (call : Call) : Type 0 where
  pub rolling : (is_rolling s.durable.phase && not (is_always_taken call)) ≡ false
  pub preparing : (s.volatile.is_preparing && is_work call) ≡ false
  pub hidden : is_any_hidden call ≡ false

pub passes : (s : State) (req : ReqId) (call : Call) → refused_before s req call ≡ None → Passes s call
passes s req call e =
    let hidden = (is_any_hidden call, refusals.HiddenName) ∷ [] in
    let locked = (is_locked s req call, refusals.Locked) ∷ hidden in
    let deep = (is_any_deep call, refusals.BadPath) ∷ locked in
    let preparing = (s.volatile.is_preparing && is_work call, refusals.Preparing) ∷ deep in
    let rolling = (is_rolling s.durable.phase && not (is_always_taken call), refusals.RollingBack) ∷ preparing in
    let one = first_test (is_failed s.fault) refusals.Device rolling e in
    let two = first_test (is_rolling s.durable.phase && not (is_always_taken call)) refusals.RollingBack preparing one.1 in
    let three = first_test (s.volatile.is_preparing && is_work call) refusals.Preparing deep two.1 in
    let four = first_test (is_any_deep call) refusals.BadPath locked three.1 in
    let five = first_test (is_locked s req call) refusals.Locked hidden four.1 in
    record { rolling = two.0; preparing = three.0; hidden = (first_test (is_any_hidden call) refusals.HiddenName [] five.1).0 }

pub left_false : (b : Bool) → (b && true) ≡ false → b ≡ false
left_false true h = h
left_false false h = refl

pub one_visible : (b : Bool) → (b || false) ≡ false → not b ≡ true
one_visible true h = absurd (true≢false h)
one_visible false h = refl

pub two_visible : (a b : Bool) → (a || (b || false)) ≡ false → (not a && not b) ≡ true
two_visible true b h = absurd (true≢false h)
two_visible false true h = absurd (true≢false h)
two_visible false false h = refl

-- ---- a rename, whose record holds the target as it was resolved

resolved_well : (s : State) (from to : Path) → (is_visible from && is_visible to) ≡ true → names_well (Rename from (target_of (fin.get s.durable.names.tree) from to)) ≡ true
resolved_well s from to well =
    let seen = and_parts (is_visible from) (is_visible to) well in
    both_true (is_visible from) (is_visible (target_of (fin.get s.durable.names.tree) from to)) seen.0 (resolved_visible (fin.get s.durable.names.tree) from to seen.0 seen.1)

pub resolved_may : (s : State) (from to : Path) → is_rolling s.durable.phase ≡ false → (is_visible from && is_visible to) ≡ true → may_edit s.durable (Rename from (target_of (fin.get s.durable.names.tree) from to)) ≡ true
resolved_may s from to rolling well = may_so s.durable (Rename from (target_of (fin.get s.durable.names.tree) from to)) rolling (resolved_well s from to well) refl refl

pub resolved_written : (s : State) (after : NamesView) (from to : Path) → (is_visible from && is_visible to) ≡ true → IsPath from × IsPath to → edited_names (Rename from to) s.durable.names ≡ Ok after → IsEdit (Rename from (target_of (fin.get s.durable.names.tree) from to))
resolved_written s after from to well told is =
    let seen = and_parts (is_visible from) (is_visible to) well in (told.0, resolved_told s.durable.names after from to told.0 told.1 seen.0 seen.1 is)

renames_goes : (T : Type 0) (s : State) (req : ReqId) (from to : Path) → is_rolling s.durable.phase ≡ false → (is_visible from && is_visible to) ≡ true → (T → IsPath from × IsPath to) → Goes T s (renames s req from to)
renames_goes T s req from to rolling well told = by_names (edited_names (Rename from to) s.durable.names) refl
  where
    by_names : (names : Result NamesView Refusal) → edited_names (Rename from to) s.durable.names ≡ names → Goes T s (edit_if s req (Rename from (target_of (fin.get s.durable.names.tree) from to)) answers.Nothing names)
    by_names (Err refusal) is = refused_goes T s req refusal
    by_names (Ok after) is =
        subst (λ names. Goes T s (edit_if s req (Rename from (target_of (fin.get s.durable.names.tree) from to)) answers.Nothing names)) (resolved_does s.durable.names after from to is)
        (edited_goes T s req (Rename from (target_of (fin.get s.durable.names.tree) from to)) answers.Nothing (λ names e. resolved_may s from to rolling well) (λ t. resolved_written s after from to well (told t) is))

-- ---- each call

called_goes : (config : Config) (s : State) (req : ReqId) (moment : Moment) (call : Call) → IsKept s.durable → IsSane s → Passes s call
    → Goes (IsToldCall s.durable moment call) s (called config s req moment call)
called_goes config s req moment (calls.Mkdirs path) k sane p =
    edited_goes (IsToldCall s.durable moment (calls.Mkdirs path)) s req (Mkdirs path) answers.Nothing
    (λ names e. may_so s.durable (Mkdirs path) (left_false (is_rolling s.durable.phase) p.rolling) (one_visible (list_any is_hidden path) p.hidden) refl refl) (λ t. t)
called_goes config s req moment (calls.Create path) k sane p =
    edited_goes (IsToldCall s.durable moment (calls.Create path)) s req (Create path) answers.Nothing
    (λ names e. may_so s.durable (Create path) (left_false (is_rolling s.durable.phase) p.rolling) (one_visible (list_any is_hidden path) p.hidden) refl refl) (λ t. t)
called_goes config s req moment (calls.Rename from to) k sane p =
    renames_goes (IsToldCall s.durable moment (calls.Rename from to)) s req from to (left_false (is_rolling s.durable.phase) p.rolling) (two_visible (list_any is_hidden from) (list_any is_hidden to) p.hidden) (λ t. t)
called_goes config s req moment (calls.Delete path recursive) k sane p =
    deleted_goes (IsToldCall s.durable moment (calls.Delete path recursive)) s req path recursive moment (left_false (is_rolling s.durable.phase) p.rolling) (one_visible (list_any is_hidden path) p.hidden) (λ t. t)
called_goes config s req moment (calls.Undelete path) k sane p =
    edited_goes (IsToldCall s.durable moment (calls.Undelete path)) s req (Unhide path) (answers.Path (unhide_target path (old_name path)))
    (λ names e. may_so s.durable (Unhide path) (left_false (is_rolling s.durable.phase) p.rolling) (unhide_well s.durable.names names path k.names e) refl refl) (λ t. t)
called_goes config s req moment (calls.Snapshot from to) k sane p =
    snapshot_if_goes (IsToldCall s.durable moment (calls.Snapshot from to)) s req (left_false (is_rolling s.durable.phase) p.rolling) from to (edited (edits.Snapshot from to) (fin.entries s.durable.names.tree)) k (two_visible (list_any is_hidden from) (list_any is_hidden to) p.hidden) (λ t. t)
called_goes config s req moment (calls.List path) k sane p = looked_goes (IsToldCall s.durable moment (calls.List path)) s req (listing (fin.entries s.durable.names.tree) path (fin.get s.durable.names.tree path))
called_goes config s req moment (calls.Status path) k sane p = looked_goes (IsToldCall s.durable moment (calls.Status path)) s req (status s.durable (fin.get s.durable.names.tree path))
called_goes config s req moment (calls.FindForReading path index) k sane p =
    looked_goes (IsToldCall s.durable moment (calls.FindForReading path index)) s req (location s.durable (found_chunk (fin.get s.durable.names.tree path) index))
called_goes config s req moment (calls.FindForWriting path index stamp) k sane p =
    found_goes (IsToldCall s.durable moment (calls.FindForWriting path index stamp)) s req (left_false (is_rolling s.durable.phase) p.rolling) path index stamp moment k (found_chunk (fin.get s.durable.names.tree path) index) refl
called_goes config s req moment (calls.Extend path index) k sane p =
    extends_goes (IsToldCall s.durable moment (calls.Extend path index)) s req (left_false (is_rolling s.durable.phase) p.rolling) config path index (fin.get s.durable.names.tree path)
called_goes config s req moment calls.Scan k sane p = scans_goes (IsToldCall s.durable moment calls.Scan) s req moment k (left_false (is_rolling s.durable.phase) p.rolling)
called_goes config s req moment calls.Replicate k sane p =
    most_goes (IsToldCall s.durable moment calls.Replicate) s req (left_false (is_rolling s.durable.phase) p.rolling) config (most_needed_of config.replicas (needs_of s)) refl
called_goes config s req moment calls.Query k sane p = answered_goes (IsToldCall s.durable moment calls.Query) s req (answers.Phase (told_phase s.volatile.is_preparing s.durable.phase) s.durable.epoch)
called_goes config s req moment calls.PrepareBegin k sane p =
    prepare_goes (IsToldCall s.durable moment calls.PrepareBegin) s req (left_false (is_rolling s.durable.phase) p.rolling) sane
called_goes config s req moment calls.PrepareCommit k sane p = commit_goes (IsToldCall s.durable moment calls.PrepareCommit) config s req moment k sane
called_goes config s req moment calls.PrepareAbort k sane p = abort_goes (IsToldCall s.durable moment calls.PrepareAbort) s req
called_goes config s req moment calls.Finalize k sane p = finalize_goes (IsToldCall s.durable moment calls.Finalize) config s req k
called_goes config s req moment calls.RollbackBegin k sane p = begin_goes (IsToldCall s.durable moment calls.RollbackBegin) config s req k
called_goes config s req moment calls.RollbackCommit k sane p = rolled_goes (IsToldCall s.durable moment calls.RollbackCommit) s req k

module _ (config : Config) (s : State) (req : ReqId) (moment : Moment) (call : Call) (k : IsKept s.durable) (sane : IsSane s) where
  unless_called : (refusal : Option Refusal) → refused_before s req call ≡ refusal → Goes (IsToldCall s.durable moment call) s (called_unless config s req moment call refusal)
  unless_called None e = called_goes config s req moment call k sane (passes s req call e)
  unless_called (Some refusal) e = refused_goes (IsToldCall s.durable moment call) s req refusal

  taken_goes : (how : Numbered) → Goes (IsToldCall s.durable moment call) s (taken_as config s req moment call how)
  taken_goes New = unless_called (refused_before s req call) refl
  taken_goes (Again result) = same_goes (IsToldCall s.durable moment call) s (replied_again s req result) refl refl
  taken_goes Older = same_goes (IsToldCall s.durable moment call) s (replied_again s req (Err refusals.Old)) refl refl

  pub call_goes : Goes (IsToldCall s.durable moment call) s (call_turn config s req moment call)
  call_goes =
      let T = IsToldCall s.durable moment call in
      let again = replied_again s req (Err refusals.Device) in
      let taken = taken_as config s req moment call (numbered (last_reply s req.client) req.number) in
      let device = same_goes T s again refl refl in
      test_goes T s (is_unopened s.fault) again (if is_pending s.volatile.pending req then waits_still s req else taken) (λ _. device)
      (λ _. test_goes T s (is_pending s.volatile.pending req) (waits_still s req) taken
      (λ _. test_goes T s (is_failed s.fault) again (unmoved s) (λ _. device) (λ _. same_goes T s (unmoved s) refl refl))
      (λ _. taken_goes (numbered (last_reply s req.client) req.number)))

pub calls_fit : CallsFit
calls_fit config s req moment call k sane = (call_goes config s req moment call k sane).fits

pub calls_keep : CallsKeep
calls_keep config s req moment call k sane told = (call_goes config s req moment call k sane).kept told k
