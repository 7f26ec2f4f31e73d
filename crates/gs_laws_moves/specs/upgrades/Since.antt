-- What stands of a prepare while its upgrade stands and while it is rolled back, and what the commit of the rollback leaves.
use Rattle.std.specs.Prelude.{◌≡◌, ◌<◌, ◌↔◌, ℕ, true, false, List, None, Some, option_map, slice_get, take, length}
use Rattle.std.specs.FinMap as fin
use Rattle.gs_base.specs.Members.{is_member}
use Rattle.gs_base.specs.declared.config.Config.{Config}
use Rattle.gs_master_record.specs.Plain.{PlainEntry}
use Rattle.gs_master_spec.specs.Applied.{applied, replayed, view_in}
use Rattle.gs_master_spec.specs.Durable.{Durable, Settled, is_listed, is_ordinary, is_rolling, is_upgrade, prepared_view}
use Rattle.gs_master_spec.specs.State.{State, Turn}
use Rattle.gs_master_spec.specs.Undoing.{all_undone}
use Rattle.gs_master_spec.specs.declared.asking.Prepared.{Prepared}
use Rattle.gs_laws_master.specs.Promises.{HasTold, IsKept, IsRestored, IsWritten}
use Rattle.gs_laws_moves.specs.moves.Epochs.{EndsOnce}
use Rattle.gs_laws_moves.specs.moves.Guards.{Heard, IsMade}

-- Since a prepare, behind whose record this was durable: its upgrade stands, or is rolled back. Taking back the edits since leads to the names of then, and of each
-- chunk that a file had then, or before, the prepared view is the one of then.
pub record IsSince (prepared now : Durable) : Type 0 where
  pub kept : IsKept now
  pub stands : is_ordinary now.phase ≡ false
  pub back : all_undone now.inverses now.names ≡ Some prepared.names
  pub views : (chunk : ℕ) → is_listed prepared chunk ≡ true → option_map (λ (p : Prepared). p.view) (prepared_view now chunk) ≡ view_in (fin.get prepared.chunks chunk)

-- of each chunk that stood in a file at the prepare a server that had it then, or was sent it since with its sealed image, has told
abbrev pub AreRestored : State → Durable → Type 0
AreRestored s prepared = (chunk count : ℕ) → fin.get prepared.names.refs chunk ≡ Some count → 0 < count → IsRestored s chunk

-- Behind a rollback a chunk is settled: nobody leads its view, which has the first stamp of the epoch, and whose members are just those that have told of the chunk.
pub record IsGivenBack (s : State) (next : Durable) (chunk : ℕ) : Type 0 where
  pub settled : Settled
  pub here : fin.get next.chunks chunk ≡ Some settled
  pub still : settled.is_moving ≡ false
  pub unled : settled.view.term ≡ None
  pub stamp : settled.view.stamp ≡ record { epoch = s.durable.epoch; version = 0 }
  pub members : (server : ℕ) → (is_member settled.view.members server ≡ true) ↔ HasTold s chunk server

-- so it is of each chunk that stood in a file at the prepare, or before
abbrev pub AreGiven : State → Durable → Durable → Type 0
AreGiven s prepared next = (chunk count : ℕ) → fin.get prepared.names.refs chunk ≡ Some count → IsGivenBack s next chunk

-- So it goes on: what is durable next is so too. But where a rollback ends, the names are those of the prepare, servers had told of all chunks, and those are the members behind it.
pub record GoesOnSince (s : State) (prepared next : Durable) : Type 0 where
  pub since : is_ordinary next.phase ≡ false → IsSince prepared next
  pub names : is_rolling s.durable.phase ≡ true → is_ordinary next.phase ≡ true → next.names ≡ prepared.names
  pub restored : is_rolling s.durable.phase ≡ true → is_ordinary next.phase ≡ true → AreRestored s prepared
  pub given : is_rolling s.durable.phase ≡ true → is_ordinary next.phase ≡ true → AreGiven s prepared next

-- ---- what is to hold, of turns of which each record can be written; as are each event of a steady master, and what a tick does before its checkpoint

-- Where one leads from an ordinary phase to another, it was a prepare: so it is right behind it.
abbrev pub TurnsBegin : Type 0
TurnsBegin = (config : Config) (heard : Heard) (s : State) (t : Turn) → EndsOnce config (IsMade config heard) s t → IsWritten t → IsKept s.durable → is_ordinary s.durable.phase ≡ true → is_ordinary t.after.durable.phase ≡ false
    → (is_upgrade t.after.durable.phase ≡ true) × IsSince t.after.durable t.after.durable

-- And so it goes on over each,
abbrev pub TurnsLead : Type 0
TurnsLead = (config : Config) (heard : Heard) (s : State) (t : Turn) (prepared : Durable) → EndsOnce config (IsMade config heard) s t → IsWritten t → IsSince prepared s.durable → GoesOnSince s prepared t.after.durable

-- and where the append of a record fails: behind those before it, and if it stands too.
pub record GoesOnSinceAt (s : State) (prepared : Durable) (records : List PlainEntry) (place : ℕ) (d : Durable) : Type 0 where
  pub since : IsSince prepared d
  pub doubt : (entry : PlainEntry) (next : Durable) → slice_get records place ≡ Some entry → applied d entry ≡ Some next → GoesOnSince s prepared next

abbrev pub CutsLead : Type 0
CutsLead = (config : Config) (heard : Heard) (s : State) (t : Turn) (prepared : Durable) (place : ℕ) (d : Durable) → EndsOnce config (IsMade config heard) s t → IsWritten t → IsSince prepared s.durable
    → place < length t.records → replayed s.durable (take place t.records) ≡ Some d → GoesOnSinceAt s prepared t.records place d
