-- What the look-ups of a file are answered: its status, and where its chunks are.
use Rattle.std.specs.Prelude.{[], ◌∷◌, ◌≡◌, Err, List, None, Ok, Result, Some, codes, false, map, refl, slice_get, ℕ}
use Rattle.std.specs.FinMap as fin
use Rattle.gs_base.specs.declared.config.Config.{Config}
use Rattle.gs_base.specs.declared.numbers.Moment.{Moment}
use Rattle.gs_base.specs.declared.numbers.ReqId.{ReqId}
use Rattle.gs_base.specs.declared.refusal.Refusal.{Refusal}
use Rattle.gs_path.specs.Path.{Path}
use Rattle.gs_tree.specs.Entry.{File}
use Rattle.gs_lease.specs.declared.view.View.{View}
use Rattle.gs_msg.specs.declared.answer.Answer.{Answer}
use Rattle.gs_msg.specs.declared.answer.Answer.TheVariants as answers
use Rattle.gs_msg.specs.declared.answer.ChunkStatus.{ChunkStatus}
use Rattle.gs_msg.specs.declared.answer.Status.TheVariants as statuses
use Rattle.gs_msg.specs.declared.call.Call.TheVariants as calls
use Rattle.gs_master_spec.specs.Applied.{view_in}
use Rattle.gs_master_spec.specs.Calls.{found_chunk, location, status}
use Rattle.gs_master_spec.specs.Durable.{Durable, is_rolling}
use Rattle.gs_master_spec.specs.Handling.{new_call}
use Rattle.gs_master_spec.specs.State.{State, is_failed}
use Rattle.gs_laws_moves.specs.answers.AtOnce.{OneSays}

-- What a look-up gives is this answer. No disk has failed, and no rollback is begun.
pub record IsLookedUp (s : State) (gives : Result Answer Refusal) (answer : Answer) : Type 0 where
  pub is : gives ≡ Ok answer
  pub sound : is_failed s.fault ≡ false
  pub rolling : is_rolling s.durable.phase ≡ false

-- A file stands at the path, and this chunk at the place in it. The answer tells the view that the chunk is settled on, and the epoch.
pub record Locates (d : Durable) (path : Path) (index : ℕ) (answer : Answer) : Type 0 where
  pub chunks : List ℕ
  pub file : fin.get d.names.tree path ≡ Some (File chunks)
  pub chunk : ℕ
  pub place : slice_get chunks index ≡ Some chunk
  pub found : found_chunk (fin.get d.names.tree path) index ≡ Ok chunk
  pub view : View
  pub settled : view_in (fin.get d.chunks chunk) ≡ Some view
  pub says : answer ≡ answers.Location chunk view d.epoch

-- ---- what is to hold

-- What a status is answered is the status by the names and the settled views.
abbrev pub StatusesAreAnswered : Type 0
StatusesAreAnswered = (config : Config) (s : State) (req : ReqId) (moment : Moment) (path : Path) (answer : Answer) → OneSays req (Ok answer) (new_call config s req moment (calls.Status path)).sent →
    IsLookedUp s (status s.durable (fin.get s.durable.names.tree path)) answer

-- The chunks that it tells of a file are those of the file that stands at the path, in their order.
abbrev pub StatusesTellFiles : Type 0
StatusesTellFiles = (d : Durable) (path : Path) (chunks : List ChunkStatus) → status d (fin.get d.names.tree path) ≡ Ok (answers.Status (statuses.File chunks)) →
    fin.get d.names.tree path ≡ Some (File (map (λ (c : ChunkStatus). c.handle) chunks))

-- What finding for reading is answered is where the chunk is, by the names and the settled views.
abbrev pub LocationsAreAnswered : Type 0
LocationsAreAnswered = (config : Config) (s : State) (req : ReqId) (moment : Moment) (path : Path) (index : ℕ) (answer : Answer) → OneSays req (Ok answer) (new_call config s req moment (calls.FindForReading path index)).sent →
    IsLookedUp s (location s.durable (found_chunk (fin.get s.durable.names.tree path) index)) answer

-- So it tells the chunk at this place of the file that stands at the path.
abbrev pub LocationsTellChunks : Type 0
LocationsTellChunks = (d : Durable) (path : Path) (index : ℕ) (answer : Answer) → location d (found_chunk (fin.get d.names.tree path) index) ≡ Ok answer → Locates d path index answer

-- ---- examples: a file of one chunk on servers 0 and 1

abbrev f : Path
f = codes "f" ∷ []

abbrev a_view : View
a_view = record { stamp = record { epoch = 0; version = 5 }; count = 2; members = 0 ∷ 1 ∷ []; term = None }

its_chunk_is_located : (d : Durable) (file : fin.get d.names.tree f ≡ Some (File (7 ∷ []))) → found_chunk (fin.get d.names.tree f) 0 ≡ Ok 7 → view_in (fin.get d.chunks 7) ≡ Some a_view → Locates d f 0 (answers.Location 7 a_view d.epoch)
its_chunk_is_located d file found settled = record { chunks = 7 ∷ []; file = file; chunk = 7; place = refl; found = found; view = a_view; settled = settled; says = refl }

a_refusal_is_no_answer : (s : State) (refusal : Refusal) (answer : Answer) → IsLookedUp s (Err refusal) answer → ⊥
a_refusal_is_no_answer s refusal answer looked = never looked.is
  where
    never : Err refusal ≡ Ok answer → ⊥
    never is = cc
