-- What a new call of the tree records is the command that it is, where it is accepted, and none where it is refused.
use Rattle.std.proofs.Common.{◌≡◌, ◌&&◌, ◌==◌, ◌++◌, Bool, true, false, not, List, [], ◌∷◌, refl, sym, ap, subst}
use Rattle.std.specs.Prelude.{filter_map, Option, Some, None, Result, Ok, Err, if◌then◌else◌, is_none}
use Rattle.std.specs.FinMap as fin
use Rattle.std.proofs.lemmas.Bool.{false≢true}
use Rattle.gs_base.specs.declared.config.Config.{Config}
use Rattle.gs_base.specs.declared.numbers.Moment.{Moment}
use Rattle.gs_base.specs.declared.numbers.ReqId.{ReqId}
use Rattle.gs_base.specs.declared.refusal.Refusal.{Refusal}
use Rattle.gs_base.specs.declared.refusal.Refusal.TheVariants as refusals
use Rattle.gs_edit.specs.Edits.{edited}
use Rattle.gs_edit.specs.Plain.{unhide_target}
use Rattle.gs_edit.specs.View.{NamesView}
use Rattle.gs_edit.specs.declared.edit.Edit.TheVariants as edits
use Rattle.gs_laws_plain.specs.commands.Answering.{IsAtOnce}
use Rattle.gs_laws_plain.specs.commands.Commands as commands
use Rattle.gs_laws_plain.specs.commands.Commands.{Command, command_of, command_of_edit}
use Rattle.gs_laws_plain.specs.commands.Doing.{DoesAsAnswered, NewCallsDoAsAnswered, done_by, done_if, hides, is_of_tree}
use Rattle.gs_master_record.specs.Plain.{Edited, PlainEdit, PlainEntry, Create, Hide, Mkdirs, Rename, Said, Snapshot, Unhide}
use Rattle.gs_master_spec.specs.Calls.{accept_plan, answered_with, deleted, edit_if, edited_by, has_visible_child, is_always_taken, is_any_deep, is_any_hidden, is_locked, is_work, listing, looked_up, renames}
use Rattle.gs_master_spec.specs.Durable.{is_rolling}
use Rattle.gs_master_spec.specs.Handling.{called, called_unless, new_call}
use Rattle.gs_master_spec.specs.State.{State, Turn, first_of, fits, is_failed, keeps_refusal, refused, turned}
use Rattle.gs_master_spec.specs.Undoing.{edited_names}
use Rattle.gs_master_spec.specs.Working.{begins_snapshot, snapshot_if, unquiet}
use Rattle.gs_msg.specs.declared.answer.Answer.{Answer}
use Rattle.gs_msg.specs.declared.answer.Answer.TheVariants as answers
use Rattle.gs_msg.specs.declared.call.Call.{Call}
use Rattle.gs_msg.specs.declared.call.Call.TheVariants as calls
use Rattle.gs_path.specs.Path.{Path}
use Rattle.gs_tree.specs.Edits.{hidden_path, old_name, same_path, target_of}
use Rattle.gs_tree.specs.Entry.{Entry}
use Rattle.gs_tree.specs.Find.{Rows}

-- ---- a refusal

refused_does : (s : State) (req : ReqId) (e : Refusal) (done : Answer → List Command) → DoesAsAnswered req done (refused s req e)
refused_does s req e done = record { result = Err e; sent = refl; does = by_test (keeps_refusal s req e && fits s.log (Said req e ∷ [])) }
  where
    by_test : (b : Bool) → filter_map command_of (if b then Said req e ∷ [] else []) ≡ []
    by_test true = refl
    by_test false = refl

-- ---- an edit, and what is looked up

edit_does : (s : State) (req : ReqId) (edit : PlainEdit) (answer : Answer) (done : Answer → List Command) → filter_map command_of (Edited req edit ∷ []) ≡ done answer → (names : Result NamesView Refusal) → DoesAsAnswered req done (edit_if s req edit answer names)
edit_does s req edit answer done is (Err e) = refused_does s req e done
edit_does s req edit answer done is (Ok names) = by_room (fits s.log (turned s (accept_plan req edit answer)).records)
  where
    by_room : (room : Bool) → DoesAsAnswered req done (if room then turned s (accept_plan req edit answer) else refused s req refusals.Full)
    by_room true = record { result = Ok answer; sent = refl; does = is }
    by_room false = refused_does s req refusals.Full done

answered_does : (s : State) (req : ReqId) (answer : Answer) (done : Answer → List Command) → done answer ≡ [] → DoesAsAnswered req done (answered_with s req answer)
answered_does s req answer done none = record { result = Ok answer; sent = refl; does = sym none }

looked_does : (s : State) (req : ReqId) (result : Result Answer Refusal) (done : Answer → List Command) → ((answer : Answer) → done answer ≡ []) → DoesAsAnswered req done (looked_up s req result)
looked_does s req (Ok answer) done none = answered_does s req answer done (none answer)
looked_does s req (Err e) done none = refused_does s req e done

-- ---- the calls

deleted_does : (s : State) (req : ReqId) (path : Path) (recursive : Bool) (moment : Moment) → DoesAsAnswered req (hides path moment s) (deleted s req path recursive moment)
deleted_does s req path recursive moment = each (same_path path []) (is_none (fin.get s.durable.names.tree path)) (not recursive && has_visible_child (fin.entries s.durable.names.tree) path) (s.durable.next_hidden == 0)
  where
    hidden : Turn
    hidden = edited_by s req (Hide path moment.0 s.durable.next_hidden) (answers.Path (hidden_path path moment.0 s.durable.next_hidden))

    each : (root none some last : Bool) → DoesAsAnswered req (hides path moment s)
        (if root then refused s req refusals.IsRoot else if none then answered_with s req answers.Absent else if some then refused s req refusals.NotEmpty else if last then refused s req refusals.Exhausted
        else edited_by s req (Hide path moment.0 s.durable.next_hidden) (answers.Path (hidden_path path moment.0 s.durable.next_hidden)))
    each true none some last = refused_does s req refusals.IsRoot (hides path moment s)
    each false true some last = answered_does s req answers.Absent (hides path moment s) refl
    each false false true last = refused_does s req refusals.NotEmpty (hides path moment s)
    each false false false true = refused_does s req refusals.Exhausted (hides path moment s)
    each false false false false =
        edit_does s req (Hide path moment.0 s.durable.next_hidden) (answers.Path (hidden_path path moment.0 s.durable.next_hidden)) (hides path moment s) refl (edited_names (Hide path moment.0 s.durable.next_hidden) s.durable.names)

snapshot_does : (s : State) (req : ReqId) (from to : Path) (rows : Result (Rows _) Refusal) → unquiet s from ≡ [] → DoesAsAnswered req (λ answer. commands.Snapshot from to ∷ []) (snapshot_if s req from to rows)
snapshot_does s req from to (Ok rows) once =
    subst (λ chunks. DoesAsAnswered req (λ answer. commands.Snapshot from to ∷ []) (begins_snapshot s req from to chunks)) (sym once)
    (edit_does s req (Snapshot from to) answers.Nothing (λ answer. commands.Snapshot from to ∷ []) refl (edited_names (Snapshot from to) s.durable.names))
snapshot_does s req from to (Err e) once = refused_does s req e (λ answer. commands.Snapshot from to ∷ [])

called_does : (config : Config) (s : State) (req : ReqId) (moment : Moment) (call : Call) → is_of_tree call ≡ true → IsAtOnce s call → DoesAsAnswered req (done_by s moment call) (called config s req moment call)
called_does config s req moment (calls.Mkdirs path) tree once = edit_does s req (Mkdirs path) answers.Nothing (done_by s moment (calls.Mkdirs path)) refl (edited_names (Mkdirs path) s.durable.names)
called_does config s req moment (calls.Create path) tree once = edit_does s req (Create path) answers.Nothing (done_by s moment (calls.Create path)) refl (edited_names (Create path) s.durable.names)
called_does config s req moment (calls.Rename from to) tree once =
    edit_does s req (Rename from (target_of (fin.get s.durable.names.tree) from to)) answers.Nothing (done_by s moment (calls.Rename from to)) refl (edited_names (Rename from to) s.durable.names)
called_does config s req moment (calls.Delete path recursive) tree once = deleted_does s req path recursive moment
called_does config s req moment (calls.Undelete path) tree once =
    edit_does s req (Unhide path) (answers.Path (unhide_target path (old_name path))) (done_by s moment (calls.Undelete path)) refl (edited_names (Unhide path) s.durable.names)
called_does config s req moment (calls.Snapshot from to) tree once = snapshot_does s req from to (edited (edits.Snapshot from to) (fin.entries s.durable.names.tree)) once
called_does config s req moment (calls.List path) tree once = looked_does s req (listing (fin.entries s.durable.names.tree) path (fin.get s.durable.names.tree path)) (done_by s moment (calls.List path)) (λ answer. refl)
called_does config s req moment call tree once = absurd (false≢true tree)

-- behind the tests that come before its own
pub calls_do : NewCallsDoAsAnswered
calls_do config s req moment call tree once =
    each (is_failed s.fault) (is_rolling s.durable.phase && not (is_always_taken call)) (s.volatile.is_preparing && is_work call) (is_any_deep call) (is_locked s req call) (is_any_hidden call)
  where
    done : Answer → List Command
    done = done_by s moment call

    each : (failed rolling preparing deep locked hidden : Bool) → DoesAsAnswered req (done_by s moment call)
        (called_unless config s req moment call (first_of ((failed, refusals.Device) ∷ (rolling, refusals.RollingBack) ∷ (preparing, refusals.Preparing) ∷ (deep, refusals.BadPath) ∷ (locked, refusals.Locked) ∷ (hidden, refusals.HiddenName) ∷ [])))
    each true rolling preparing deep locked hidden = refused_does s req refusals.Device (done_by s moment call)
    each false true preparing deep locked hidden = refused_does s req refusals.RollingBack (done_by s moment call)
    each false false true deep locked hidden = refused_does s req refusals.Preparing (done_by s moment call)
    each false false false true locked hidden = refused_does s req refusals.BadPath (done_by s moment call)
    each false false false false true hidden = refused_does s req refusals.Locked (done_by s moment call)
    each false false false false false true = refused_does s req refusals.HiddenName (done_by s moment call)
    each false false false false false false = called_does config s req moment call tree once
