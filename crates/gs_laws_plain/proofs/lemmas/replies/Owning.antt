-- What a new call of the tree records, where nothing waits for it, is under its number.
use Rattle.std.proofs.Common.{◌≡◌, ◌&&◌, ◌==◌, Bool, true, false, not, [], ◌∷◌, refl, sym, ap, subst}
use Rattle.std.specs.Prelude.{Result, Ok, Err, if◌then◌else◌, is_none}
use Rattle.std.specs.FinMap as fin
use Rattle.std.specs.List.{list_all}
use Rattle.std.proofs.lemmas.Bool.{false≢true}
use Rattle.gs_base.specs.declared.config.Config.{Config}
use Rattle.gs_base.specs.declared.numbers.Moment.{Moment}
use Rattle.gs_base.specs.declared.numbers.ReqId.{ReqId}
use Rattle.gs_base.specs.declared.refusal.Refusal.{Refusal}
use Rattle.gs_base.specs.declared.refusal.Refusal.TheVariants as refusals
use Rattle.gs_edit.specs.Edits.{edited}
use Rattle.gs_edit.specs.Plain.{unhide_target}
use Rattle.gs_edit.specs.View.{NamesView}
use Rattle.gs_edit.specs.declared.edit.Edit.TheVariants as edits
use Rattle.gs_laws_moves.proofs.lemmas.answers.Kept.{itself}
use Rattle.gs_laws_plain.specs.commands.Answering.{IsAtOnce}
use Rattle.gs_laws_plain.specs.commands.Doing.{is_of_tree}
use Rattle.gs_master_record.specs.Plain.{PlainEdit, Create, Hide, Mkdirs, Rename, Said, Snapshot, Unhide}
use Rattle.gs_master_spec.specs.Calls.{accept_plan, answered_with, deleted, edit_if, edited_by, has_visible_child, is_always_taken, is_any_deep, is_any_hidden, is_locked, is_work, listing, looked_up}
use Rattle.gs_master_spec.specs.Durable.{is_rolling}
use Rattle.gs_master_spec.specs.Handling.{called, called_unless, new_call}
use Rattle.gs_master_spec.specs.State.{State, Turn, first_of, fits, is_failed, keeps_refusal, refused, turned}
use Rattle.gs_master_spec.specs.Undoing.{edited_names}
use Rattle.gs_master_spec.specs.Working.{begins_snapshot, snapshot_if, unquiet}
use Rattle.gs_laws_plain.specs.replies.Replies.{is_its_own}
use Rattle.gs_msg.specs.declared.answer.Answer.{Answer}
use Rattle.gs_msg.specs.declared.answer.Answer.TheVariants as answers
use Rattle.gs_msg.specs.declared.call.Call.{Call}
use Rattle.gs_msg.specs.declared.call.Call.TheVariants as calls
use Rattle.gs_path.specs.Path.{Path}
use Rattle.gs_tree.specs.Edits.{hidden_path, old_name, same_path, target_of}
use Rattle.gs_tree.specs.Find.{Rows}

module _ (s : State) (req : ReqId) where
  abbrev Own : Turn → Type 0
  Own t = list_all (is_its_own req) t.records ≡ true

  pub refused_own : (e : Refusal) → Own (refused s req e)
  refused_own e = by_test (keeps_refusal s req e && fits s.log (Said req e ∷ []))
    where
      by_test : (b : Bool) → list_all (is_its_own req) (if b then Said req e ∷ [] else []) ≡ true
      by_test true = ap (λ b. b && true) (itself req)
      by_test false = refl

  -- an edit, and what is looked up
  edit_own : (edit : PlainEdit) (answer : Answer) (names : Result NamesView Refusal) → Own (edit_if s req edit answer names)
  edit_own edit answer (Err e) = refused_own e
  edit_own edit answer (Ok names) = by_room (fits s.log (turned s (accept_plan req edit answer)).records)
    where
      by_room : (room : Bool) → Own (if room then turned s (accept_plan req edit answer) else refused s req refusals.Full)
      by_room true = ap (λ b. b && true) (itself req)
      by_room false = refused_own refusals.Full

  looked_own : (result : Result Answer Refusal) → Own (looked_up s req result)
  looked_own (Ok answer) = refl
  looked_own (Err e) = refused_own e

  -- the calls
  deleted_own : (path : Path) (recursive : Bool) (moment : Moment) → Own (deleted s req path recursive moment)
  deleted_own path recursive moment = each (same_path path []) (is_none (fin.get s.durable.names.tree path)) (not recursive && has_visible_child (fin.entries s.durable.names.tree) path) (s.durable.next_hidden == 0)
    where
      each : (root none some last : Bool) → Own (if root then refused s req refusals.IsRoot else if none then answered_with s req answers.Absent else if some then refused s req refusals.NotEmpty else if last then refused s req refusals.Exhausted
          else edited_by s req (Hide path moment.0 s.durable.next_hidden) (answers.Path (hidden_path path moment.0 s.durable.next_hidden)))
      each true none some last = refused_own refusals.IsRoot
      each false true some last = refl
      each false false true last = refused_own refusals.NotEmpty
      each false false false true = refused_own refusals.Exhausted
      each false false false false = edit_own (Hide path moment.0 s.durable.next_hidden) (answers.Path (hidden_path path moment.0 s.durable.next_hidden)) (edited_names (Hide path moment.0 s.durable.next_hidden) s.durable.names)

  snapshot_own : (from to : Path) (rows : Result (Rows _) Refusal) → unquiet s from ≡ [] → Own (snapshot_if s req from to rows)
  snapshot_own from to (Ok rows) once = subst (λ chunks. Own (begins_snapshot s req from to chunks)) (sym once) (edit_own (Snapshot from to) answers.Nothing (edited_names (Snapshot from to) s.durable.names))
  snapshot_own from to (Err e) once = refused_own e

  module _ (config : Config) (moment : Moment) where
    called_own : (call : Call) → is_of_tree call ≡ true → IsAtOnce s call → Own (called config s req moment call)
    called_own (calls.Mkdirs path) tree once = edit_own (Mkdirs path) answers.Nothing (edited_names (Mkdirs path) s.durable.names)
    called_own (calls.Create path) tree once = edit_own (Create path) answers.Nothing (edited_names (Create path) s.durable.names)
    called_own (calls.Rename from to) tree once = edit_own (Rename from (target_of (fin.get s.durable.names.tree) from to)) answers.Nothing (edited_names (Rename from to) s.durable.names)
    called_own (calls.Delete path recursive) tree once = deleted_own path recursive moment
    called_own (calls.Undelete path) tree once = edit_own (Unhide path) (answers.Path (unhide_target path (old_name path))) (edited_names (Unhide path) s.durable.names)
    called_own (calls.Snapshot from to) tree once = snapshot_own from to (edited (edits.Snapshot from to) (fin.entries s.durable.names.tree)) once
    called_own (calls.List path) tree once = looked_own (listing (fin.entries s.durable.names.tree) path (fin.get s.durable.names.tree path))
    called_own call tree once = absurd (false≢true tree)

-- behind the tests that come before its own
pub calls_own : (config : Config) (s : State) (req : ReqId) (moment : Moment) (call : Call) → is_of_tree call ≡ true → IsAtOnce s call → Own s req (new_call config s req moment call)
calls_own config s req moment call tree once = each (is_failed s.fault) (is_rolling s.durable.phase && not (is_always_taken call)) (s.volatile.is_preparing && is_work call) (is_any_deep call) (is_locked s req call) (is_any_hidden call)
  where
    each : (failed rolling preparing deep locked hidden : Bool) →
        Own s req (called_unless config s req moment call (first_of ((failed, refusals.Device) ∷ (rolling, refusals.RollingBack) ∷ (preparing, refusals.Preparing) ∷ (deep, refusals.BadPath) ∷ (locked, refusals.Locked) ∷ (hidden, refusals.HiddenName) ∷ [])))
    each true rolling preparing deep locked hidden = refused_own s req refusals.Device
    each false true preparing deep locked hidden = refused_own s req refusals.RollingBack
    each false false true deep locked hidden = refused_own s req refusals.Preparing
    each false false false true locked hidden = refused_own s req refusals.BadPath
    each false false false false true hidden = refused_own s req refusals.Locked
    each false false false false false true = refused_own s req refusals.HiddenName
    each false false false false false false = called_own s req config moment call tree once
