-- What the client of a desk is told by the master where the desk stands for a machine: of the entry at a path, and of where a chunk of a file is.
use Rattle.std.specs.Prelude.{[], ◌≡◌, ◌⊎◌, Err, List, Result, Some, false, refl, ℕ}
use Rattle.std.proofs.Common.{inl}
use Rattle.gs_base.specs.declared.config.Config.{Config}
use Rattle.gs_base.specs.declared.refusal.Refusal.{Refusal}
use Rattle.gs_base.specs.declared.refusal.Refusal.TheVariants as refusals
use Rattle.gs_client.specs.Replies.{looked}
use Rattle.gs_client.specs.Sends.{Sends}
use Rattle.gs_client.specs.declared.link.Reply.{Reply}
use Rattle.gs_client.specs.declared.link.Reply.TheVariants as replies
use Rattle.gs_master_spec.specs.Calls.{is_any_deep}
use Rattle.gs_msg.specs.declared.answer.Answer.{Answer as Said}
use Rattle.gs_msg.specs.declared.call.Call.{Call}
use Rattle.gs_msg.specs.declared.call.Call.TheVariants as calls
use Rattle.gs_msg.specs.declared.event.Request.TheVariants as requests
use Rattle.gs_path.specs.Path.{Path}
use Rattle.gs_shell_desk.specs.Lines.{carried}
use Rattle.gs_shell_desk.specs.declared.desk.Desk.{Desk}
use Rattle.gs_tree.specs.Entry.{File}
use Rattle.gs_tree.specs.Find.{at}
use Rattle.gs_laws_scripts.specs.explained.Asking.{AreShort, TellsIndex}
use Rattle.gs_laws_scripts.specs.explained.Machine.{Machine, Text}
use Rattle.gs_laws_scripts.specs.explained.Standing.{Stands}
use Rattle.gs_laws_scripts.specs.explained.Told.{TellsStatus}

-- a desk asks the master this for its client, and gets this reply
abbrev pub LooksUp : {D : Type 0} → (D → List ℕ) → (D → ℕ) → Desk D → Call → Reply → Desk D → Type 0
LooksUp seen failures old call reply new = Sends (carried seen failures) (old.caller.client, old.wire) (requests.Call call) reply (new.caller.client, new.wire)

-- where a chunk of a file is, or that nobody is sure of the look-up
abbrev pub TellsIndexOr : Machine → ℕ → List Text → Result Said Refusal → Type 0
TellsIndexOr m index texts result = (result ≡ Err refusals.Unsure) ⊎ TellsIndex m index texts result

-- ---- what is to hold

-- A status is told of the entry that stands in the machine, refusals too, and the desk stands for it still.
abbrev pub StatusesAreToldThere : Type 0 → Type 0
StatusesAreToldThere D = (seen : D → List ℕ) (failures : D → ℕ) (config : Config) (old new : Desk D) (m : Machine) (p : Path) (reply : Reply) → Stands seen config old m → AreShort m → is_any_deep (calls.Status p) ≡ false →
    LooksUp seen failures old (calls.Status p) reply new → TellsStatus m p (looked reply) × Stands seen config new m

-- So is the place of a chunk of a file.
abbrev pub PlacesAreToldThere : Type 0 → Type 0
PlacesAreToldThere D = (seen : D → List ℕ) (failures : D → ℕ) (config : Config) (old new : Desk D) (m : Machine) (p : Path) (index : ℕ) (texts : List Text) (reply : Reply) → Stands seen config old m → at m.plain.tree p ≡ Some (File texts) →
    is_any_deep (calls.FindForReading p index) ≡ false → LooksUp seen failures old (calls.FindForReading p index) reply new → TellsIndexOr m index texts (looked reply) × Stands seen config new m

-- ---- Worked
nobody_is_sure : (m : Machine) (index : ℕ) → TellsIndexOr m index [] (looked (replies.Refused refusals.Unsure))
nobody_is_sure m index = inl refl
