-- What the master answers to a look-up that is new to it, where a machine shows what it stands on: refusals too.
use Rattle.std.specs.Prelude.{[], ◌<◌, ◌∷◌, ◌≡◌, ◌⊎◌, ◌≤◌, Err, List, Ok, Result, Some, codes, false, length, refl, ℕ}
use Rattle.std.specs.FinMap as fin
use Rattle.gs_base.specs.declared.config.Config.{Config}
use Rattle.gs_base.specs.declared.numbers.Moment.{Moment}
use Rattle.gs_base.specs.declared.numbers.ReqId.{ReqId}
use Rattle.gs_base.specs.declared.refusal.Refusal.{Refusal}
use Rattle.gs_base.specs.declared.refusal.Refusal.TheVariants as refusals
use Rattle.gs_client_part.specs.Writing.{most_chunks}
use Rattle.gs_edit.specs.Mapped.{mapped_rows}
use Rattle.gs_laws_moves.specs.answers.AtOnce.{OneSays}
use Rattle.gs_master_spec.specs.Calls.{is_any_deep, told_phase}
use Rattle.gs_master_spec.specs.Handling.{new_call}
use Rattle.gs_master_spec.specs.State.{State}
use Rattle.gs_msg.specs.declared.answer.Answer.{Answer as Said}
use Rattle.gs_msg.specs.declared.answer.Answer.TheVariants as says
use Rattle.gs_msg.specs.declared.call.Call.{Call}
use Rattle.gs_msg.specs.declared.call.Call.TheVariants as calls
use Rattle.gs_path.specs.Path.{Path}
use Rattle.gs_tree.specs.Entry.{File}
use Rattle.gs_tree.specs.Find.{at}
use Rattle.gs_laws_scripts.specs.explained.Lines.{AsksNow, IsOfStore}
use Rattle.gs_laws_scripts.specs.explained.Machine.{Machine, Text}
use Rattle.gs_laws_scripts.specs.explained.Told.{TellsStatus}

-- The machine's tree has the names on which the master stands, with some text in the place of each chunk. Its epoch is the master's, and its phase is as a query tells it.
pub record ShowsState (s : State) (m : Machine) : Type 0 where
  pub text : ℕ → Text
  pub tree : m.plain.tree ≡ mapped_rows text (fin.entries s.durable.names.tree)
  pub epoch : m.epoch ≡ s.durable.epoch
  pub phase : m.phase ≡ told_phase s.volatile.is_preparing s.durable.phase

-- a reply to this request is said in the turn of the call, which is new
abbrev pub Replies : Config → State → ReqId → Moment → Call → Result Said Refusal → Type 0
Replies config s req moment call result = OneSays req result (new_call config s req moment call).sent

-- no file has more chunks than one may have
abbrev pub AreShort : Machine → Type 0
AreShort m = (p : Path) (texts : List Text) → at m.plain.tree p ≡ Some (File texts) → length texts ≤ most_chunks

-- where a chunk of a file of some texts is: at an index of it, or it has none there
abbrev pub TellsIndex : Machine → ℕ → List Text → Result Said Refusal → Type 0
TellsIndex m index texts (Ok (says.Location handle view epoch)) = (index < length texts) × (epoch ≡ m.epoch)
TellsIndex m index texts (Ok said) = ⊥
TellsIndex m index texts (Err refusal) = IsOfStore refusal ⊎ ((refusal ≡ refusals.Range) × (length texts ≤ index))

-- ---- what is to hold

-- A list, and a query, is answered as the machine answers it, or refused by the store.
abbrev pub ListsAreTold : Type 0
ListsAreTold = (config : Config) (s : State) (req : ReqId) (moment : Moment) (m : Machine) (p : Path) (result : Result Said Refusal) → ShowsState s m → is_any_deep (calls.List p) ≡ false → Replies config s req moment (calls.List p) result → AsksNow (calls.List p) m result m

abbrev pub QueriesAreTold : Type 0
QueriesAreTold = (config : Config) (s : State) (req : ReqId) (moment : Moment) (m : Machine) (result : Result Said Refusal) → ShowsState s m → Replies config s req moment calls.Query result → AsksNow calls.Query m result m

-- So is a status of the entry that stands there, and the place of a chunk of a file.
abbrev pub StatusesAreTold : Type 0
StatusesAreTold = (config : Config) (s : State) (req : ReqId) (moment : Moment) (m : Machine) (p : Path) (result : Result Said Refusal) → ShowsState s m → AreShort m → is_any_deep (calls.Status p) ≡ false → Replies config s req moment (calls.Status p) result → TellsStatus m p result

abbrev pub PlacesAreTold : Type 0
PlacesAreTold = (config : Config) (s : State) (req : ReqId) (moment : Moment) (m : Machine) (p : Path) (index : ℕ) (texts : List Text) (result : Result Said Refusal) → ShowsState s m → at m.plain.tree p ≡ Some (File texts) → is_any_deep (calls.FindForReading p index) ≡ false →
    Replies config s req moment (calls.FindForReading p index) result → TellsIndex m index texts result

-- ---- Worked
a_shallow_list : is_any_deep (calls.List (codes "d" ∷ [])) ≡ false
a_shallow_list = refl
