-- The calls of the tree and of an upgrade: each is one request.
use Rattle.std.specs.Prelude.{◌≡◌, ℕ, List, [], ◌∷◌, Bool, true, Option, None, Result, Ok, Err, codes, refl}
use Rattle.gs_base.specs.declared.refusal.Refusal.{Refusal}
use Rattle.gs_base.specs.declared.refusal.Refusal.TheVariants as refusals
use Rattle.gs_path.specs.Path.{Path}
use Rattle.gs_client_dialogue.specs.Dialogues.{ask, run}
use Rattle.gs_client_dialogue.specs.Dialogues.{Call as AnyCall}
use Rattle.gs_msg.specs.declared.call.Call.{Call as Called}
use Rattle.gs_msg.specs.declared.call.Call.TheVariants as calls
use Rattle.gs_msg.specs.declared.event.Request.{Request}
use Rattle.gs_msg.specs.declared.event.Request.TheVariants as requests
use Rattle.gs_msg.specs.declared.answer.Answer.{Answer}
use Rattle.gs_msg.specs.declared.answer.Answer.TheVariants as answers
use Rattle.gs_msg.specs.declared.answer.Copied.{Copied}
use Rattle.gs_msg.specs.declared.answer.Phase.{Phase}
use Rattle.gs_msg.specs.declared.answer.Status.{Status}
use Rattle.gs_msg.specs.declared.lists.ListedName.{ListedName}
use Rattle.gs_client.specs.declared.link.Reply.{Reply}
use Rattle.gs_client.specs.declared.link.Reply.TheVariants as replies
use Rattle.gs_client.specs.Replies.{changed, looked, nothing_in, path_in, deleted_in, names_in, status_in, scanned_in, copied_in, epoch_in, phase_in}

-- a call of the client: a dialogue of its requests
abbrev pub Call : Type 0 → Type 0
Call A = AnyCall Request Reply A

abbrev pub and_then : {A B : Type 0} → (A → Result B Refusal) → Result A Refusal → Result B Refusal
and_then go (Ok x) = go x
and_then go (Err refusal) = Err refusal

-- one call of the master that changes something, and one that only looks
abbrev pub change : {A : Type 0} → Called → (Answer → Result A Refusal) → Call A
change call says = ask (requests.Call call) (λ reply. and_then says (changed reply))

abbrev pub look : {A : Type 0} → Called → (Answer → Result A Refusal) → Call A
look call says = ask (requests.Call call) (λ reply. and_then says (looked reply))

abbrev pub mkdirs_call : Path → Call (Unit {0})
mkdirs_call path = change (calls.Mkdirs path) nothing_in

abbrev pub create_call : Path → Call (Unit {0})
create_call path = change (calls.Create path) nothing_in

abbrev pub rename_call : Path → Path → Call (Unit {0})
rename_call from to = change (calls.Rename from to) nothing_in

abbrev pub delete_call : Path → Bool → Call (Option Path)
delete_call path recursive = change (calls.Delete path recursive) deleted_in

abbrev pub undelete_call : Path → Call Path
undelete_call path = change (calls.Undelete path) path_in

abbrev pub snapshot_call : Path → Path → Call (Unit {0})
snapshot_call from to = change (calls.Snapshot from to) nothing_in

abbrev pub list_call : Path → Call (List ListedName)
list_call path = look (calls.List path) names_in

abbrev pub status_call : Path → Call Status
status_call path = look (calls.Status path) status_in

abbrev pub scan_call : Call (ℕ × ℕ)
scan_call = change calls.Scan scanned_in

abbrev pub replicate_call : Call (Option Copied)
replicate_call = change calls.Replicate copied_in

abbrev pub query_call : Call (Phase × ℕ)
query_call = look calls.Query phase_in

abbrev pub prepare_begin_call : Call ℕ
prepare_begin_call = change calls.PrepareBegin epoch_in

abbrev pub prepare_commit_call : Call ℕ
prepare_commit_call = change calls.PrepareCommit epoch_in

abbrev pub prepare_abort_call : Call ℕ
prepare_abort_call = change calls.PrepareAbort epoch_in

abbrev pub finalize_call : Call ℕ
finalize_call = change calls.Finalize epoch_in

abbrev pub rollback_begin_call : Call ℕ
rollback_begin_call = change calls.RollbackBegin epoch_in

abbrev pub rollback_commit_call : Call ℕ
rollback_commit_call = change calls.RollbackCommit epoch_in

-- Worked: a master that answers each request so.
abbrev pub says : Reply → Unit {0} → Request → Reply × Unit {0}
says reply world asked = (reply, world)

a_directory_is_made : run (says (replies.Answer answers.Nothing)) (mkdirs_call (codes "a" ∷ [])) tt ≡ (Ok tt, tt)
a_directory_is_made = refl

nothing_to_delete : run (says (replies.Answer answers.Absent)) (delete_call (codes "a" ∷ []) true) tt ≡ (Ok None, tt)
nothing_to_delete = refl

a_list_that_nobody_answers : run (says replies.Lost) (list_call []) tt ≡ (Err refusals.NoReplica, tt)
a_list_that_nobody_answers = refl

a_rename_that_nobody_answers : run (says replies.Lost) (rename_call [] []) tt ≡ (Err refusals.Unsure, tt)
a_rename_that_nobody_answers = refl
