-- Worked: what lines ask, and what comes of it.
use Rattle.std.specs.Prelude.{◌≡◌, List, [], ◌∷◌, Option, Some, None, Result, Ok, Err, codes, false, refl}
use Rattle.gs_base.specs.declared.refusal.Refusal.{Refusal}
use Rattle.gs_base.specs.declared.refusal.Refusal.TheVariants as refusals
use Rattle.gs_path.specs.Path.{Path}
use Rattle.gs_client_dialogue.specs.Dialogues.{Grow, Say, run}
use Rattle.gs_msg.specs.declared.answer.Answer.TheVariants as masters
use Rattle.gs_msg.specs.declared.answer.Status.TheVariants as statuses
use Rattle.gs_msg.specs.declared.call.Call.TheVariants as calls
use Rattle.gs_msg.specs.declared.event.Request.TheVariants as requests
use Rattle.gs_client.specs.Small.{Talk, at, f, next, replied, write, written}
use Rattle.gs_client.specs.Trees.{Call}
use Rattle.gs_client.specs.declared.link.Reply.{Reply}
use Rattle.gs_client.specs.declared.link.Reply.TheVariants as replies
use Rattle.gs_shell_grammar.specs.Grammar as lines
use Rattle.gs_shell_grammar.specs.Grammar.{Request}
use Rattle.gs_shell_grammar.specs.declared.command.Upgrade.TheVariants as upgrades
use Rattle.gs_shell_calls.specs.Asked.{asked_by, on}
use Rattle.gs_shell_calls.specs.declared.answer.Answer.{Answer}
use Rattle.gs_shell_calls.specs.declared.answer.Answer.TheVariants as answers

abbrev pub told : Option (Call Answer) → Talk → Option (Result Answer Refusal × Talk)
told None talk = None
told (Some call) talk = Some (run next call talk)

-- what a line comes to where these replies come, on chunks of 16 bytes, and what was asked
abbrev pub comes_to : Request → List Reply → Option (Result Answer Refusal × Talk)
comes_to line replies = told (asked_by 16 line) (replied replies)

a_directory_is_made : comes_to (lines.Mkdir (codes "/f")) (replies.Answer masters.Nothing ∷ []) ≡ Some (Ok answers.Done, ([], requests.Call (calls.Mkdirs f) ∷ []))
a_directory_is_made = refl

nothing_to_delete : comes_to (lines.Rm (codes "/f") false) (replies.Answer masters.Absent ∷ []) ≡ Some (Ok answers.Missing, ([], requests.Call (calls.Delete f false) ∷ []))
nothing_to_delete = refl

-- one chunk is added, and written
a_write : comes_to (lines.Write (codes "/f") 0 (97 ∷ [])) (replies.Answer (masters.Status (statuses.File [])) ∷ at 1 1 ∷ at 1 2 ∷ written ∷ [])
    ≡ Some (Ok answers.Done, ([], requests.Call (calls.Status f) ∷ requests.Call (calls.Extend f 0) ∷ requests.Call (calls.FindForWriting f 0 None) ∷ write 1 2 0 (97 ∷ []) ∷ []))
a_write = refl

-- what was begun is given up where a chunk isn't quiet, and the refusal is told
a_prepare_is_given_up : comes_to (lines.RollingUpgrade upgrades.Prepare) (replies.Answer (masters.Epoch 0) ∷ replies.Refused (refusals.NotQuiet 5) ∷ replies.Answer (masters.Epoch 0) ∷ [])
    ≡ Some (Err (refusals.NotQuiet 5), ([], requests.Call calls.PrepareBegin ∷ requests.Call calls.PrepareCommit ∷ requests.Call calls.PrepareAbort ∷ []))
a_prepare_is_given_up = refl

-- after another refusal nothing is given up
a_prepare_is_refused : comes_to (lines.RollingUpgrade upgrades.Prepare) (replies.Answer (masters.Epoch 0) ∷ replies.Refused refusals.NotUpgrading ∷ [])
    ≡ Some (Err refusals.NotUpgrading, ([], requests.Call calls.PrepareBegin ∷ requests.Call calls.PrepareCommit ∷ []))
a_prepare_is_refused = refl

-- a text that is no path, and one whose second path is none: nothing is asked
a_refused_path : comes_to (lines.Mkdir (codes "f")) [] ≡ Some (Err refusals.BadPath, ([], []))
a_refused_path = refl

a_refused_target : comes_to (lines.Mv (codes "/f") (codes "/.deleted.x")) [] ≡ Some (Err refusals.HiddenName, ([], []))
a_refused_target = refl

any_refused_path : {A : Type 0} (refusal : Refusal) (call : Path → Call A) (answer : A → Answer) → on (Err refusal) call answer ≡ Grow (Say (Err refusal))
any_refused_path refusal call answer = refl

a_line_about_nodes : asked_by 16 (lines.Beat 1) ≡ None
a_line_about_nodes = refl

a_tick : asked_by 16 lines.Tick ≡ None
a_tick = refl
