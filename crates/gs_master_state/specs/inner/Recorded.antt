-- What the master's memory of its records holds, without where it lies.
use Rattle.std.specs.Prelude.{◌≡◌, ◌<◌, ◌==◌, ◌&&◌, ℕ, vec_len, vec_capacity, Bool, true, false, List, [], ◌∷◌, ◌++◌, map, filter_map, Option, Some, None, option_map, is_some, Result, Ok, Err, if◌then◌else◌}
use Rattle.std.specs.Ordering.{nat_cmp}
use Rattle.std.specs.FinMap as fin
use Rattle.gs_base.specs.declared.numbers.Stamp.{Stamp}
use Rattle.gs_base.specs.declared.refusal.Refusal.{Refusal}
use Rattle.gs_base.specs.declared.refusal.Refusal.TheVariants as refusals
use Rattle.gs_lease.specs.Told.{told_of}
use Rattle.gs_lease.specs.declared.lease.Lease.{Lease}
use Rattle.gs_lease.specs.declared.view.View.{View}
use Rattle.gs_master_record.specs.Plain.{PlainEdit, Mkdirs, Create, Rename, Hide, Unhide, Remove, AddChunk, Cow, Snapshot, Forget, PlainEntry, PlainInverse, Edited, Said, Propose, Settle, Prepare, Finalize, RollbackBegin, RollbackCommit, Whole, Holder, plain_inverse}
use Rattle.gs_master_record.specs.declared.entry.Answered.{Answered}
use Rattle.gs_master_record.specs.declared.checkpoint.Phase.{Phase}
use Rattle.gs_master_record.specs.declared.checkpoint.Phase.TheVariants.{Ordinary, Upgrade, Rolling}
use Rattle.gs_edit.specs.declared.listed.ListedInverse.{ListedInverse}
use Rattle.gs_tree.specs.Find.{Rows}
use Rattle.gs_base_table.specs.Slots.{live, HasRoom, KeepsRoom}
use Rattle.gs_master_spec.specs.Applied.{applied, forgotten_by, is_at_rest, may_restore, restored_chunk}
use Rattle.gs_master_spec.specs.Durable.{Durable, Settled}
use Rattle.gs_master_spec.specs.Replies.{client_cmp}
use Rattle.gs_master_spec.specs.Undoing.{inverse_of}
use Rattle.gs_master_spec.specs.declared.asking.Prepared.{Prepared}
use Rattle.gs_master_state.specs.declared.recorded.Recorded.{Recorded}

-- ---- chunks

abbrev pub settled_as : Option View → Option Stamp → Option Settled
settled_as None proposed = None
settled_as (Some view) proposed = Some (record { view = view; is_moving = is_some proposed })

-- what a lease tells of the view that was settled last
abbrev pub settled_by : Lease → Option Settled
settled_by lease = settled_as (told_of lease).settled (told_of lease).proposed

-- the settled chunks of a table of leases
unfoldable pub chunks_of : fin.FinMap nat_cmp Lease → fin.FinMap nat_cmp Settled
chunks_of leases = live nat_cmp (map (λ e. (e.0, settled_by e.1)) (fin.entries leases))

-- a chunk that isn't settled is nobody's yet
abbrev pub rests : Option Settled → Bool
rests None = true
rests (Some settled) = is_at_rest settled

-- ---- all that is held

abbrev pub durable_of : Recorded → Durable
durable_of r = record {
  names = r.names.names;
  chunks = chunks_of (live nat_cmp r.leases);
  next_handle = r.next_handle;
  next_version = r.next_version;
  next_hidden = r.next_hidden;
  epoch = r.epoch;
  phase = r.phase;
  ends = r.ends.items;
  replies = live client_cmp r.replies;
  inverses = map plain_inverse r.inverses.items;
  prepared = live nat_cmp r.prepared;
}

-- ---- records

-- a record is applied where it fits, and else nothing changes
abbrev pub Applies : {X : Type 0} → PlainEntry → Result X Refusal → Durable → Durable → Type 0
Applies entry (Ok done) old new = applied old entry ≡ Some new
Applies entry (Err refusal) old new = (applied old entry ≡ None) × (refusal ≡ refusals.BadLine) × (new ≡ old)

-- ---- edits

-- what is said of an edit that the names refuse
abbrev pub unfit : Refusal → Refusal
unfit refusal = if is_memory refusal then refusals.Memory else refusals.BadLine
  where
    is_memory : Refusal → Bool
    is_memory refusals.Memory = true
    is_memory other = false

-- a prepared view is kept while an upgrade stands
abbrev pub RoomToKeep : Phase → List (ℕ × Option Prepared) → ℕ → Type 0
RoomToKeep Ordinary prepared chunk = Unit {0}
RoomToKeep Upgrade prepared chunk = HasRoom nat_cmp prepared chunk
RoomToKeep Rolling prepared chunk = HasRoom nat_cmp prepared chunk

abbrev pub RoomForEach : Phase → List (ℕ × Option Prepared) → List ℕ → Type 0
RoomForEach phase prepared [] = Unit {0}
RoomForEach phase prepared (chunk ∷ chunks) = RoomToKeep phase prepared chunk × RoomForEach phase prepared chunks

abbrev pub inverses_and : List PlainInverse → Option ListedInverse → List PlainInverse
inverses_and inverses None = inverses
inverses_and inverses (Some inverse) = inverses ++ plain_inverse inverse ∷ []

-- while an upgrade stands it is told what takes the edit back, and else nothing
abbrev pub IsToldBack : Durable → PlainEdit → Option ListedInverse → Type 0
IsToldBack d edit inverse = by_phase d.phase
  where
    by_phase : Phase → Type 0
    by_phase Ordinary = inverse ≡ None
    by_phase Upgrade = option_map plain_inverse inverse ≡ Some (inverse_of edit (fin.entries d.names.tree))
    by_phase Rolling = inverse ≡ None

-- ---- room

-- what a record wants besides memory for the names, so that applying it takes none
abbrev pub RoomFor : Recorded → PlainEntry → Type 0
RoomFor r (Edited by edit) = HasRoom client_cmp r.replies by.client × ((vec_len r.inverses < vec_capacity r.inverses) × RoomForEach r.phase r.prepared (forgotten_by edit))
RoomFor r (Said to refusal) = HasRoom client_cmp r.replies to.client
RoomFor r (Propose chunk version) = HasRoom nat_cmp r.leases chunk
RoomFor r (Settle v) = HasRoom nat_cmp r.leases v.handle × RoomToKeep r.phase r.prepared v.handle
RoomFor r (Prepare epoch moment chunks) = vec_len r.ends < vec_capacity r.ends
RoomFor r (Finalize epoch) = vec_len r.ends < vec_capacity r.ends
RoomFor r (RollbackBegin epoch) = vec_len r.ends < vec_capacity r.ends
RoomFor r (RollbackCommit epoch answers) = Unit {0}
RoomFor r (Whole c) = Unit {0}
RoomFor r (Holder chunk server) = RoomToKeep r.phase r.prepared chunk

-- what has room keeps it
pub record KeepsRooms (old new : Recorded) : Type 0 where
  pub leases : KeepsRoom nat_cmp old.leases new.leases
  pub replies : KeepsRoom client_cmp old.replies new.replies
  pub prepared : KeepsRoom nat_cmp old.prepared new.prepared
  pub places : new.names.places ≡ old.names.places

-- ---- a rollback

-- the chunks as they stood at prepare, on the servers that have answered
abbrev pub restored_chunks : Durable → List Answered → fin.FinMap nat_cmp Settled
restored_chunks d answers = fin.from_entries (filter_map (restored_chunk d) answers)

-- an answer for one listed chunk
abbrev pub answers_for_one : (ℕ → Option Prepared) → ℕ × ℕ → Answered → Bool
answers_for_one prepared e answer = (answer.handle == e.0) && may_restore (prepared e.0) e.1 answer.members

-- the names say what takes these edits back
abbrev pub needs_names : PlainEdit → Bool
needs_names (Mkdirs p) = true
needs_names (Create p) = true
needs_names (Rename from to) = true
needs_names (Hide p moment number) = false
needs_names (Unhide p) = false
needs_names (Remove p) = true
needs_names (AddChunk p chunk) = false
needs_names (Cow p index old new) = false
needs_names (Snapshot from to) = false
needs_names (Forget chunks) = false

-- what takes an edit back, where the edit alone says it
abbrev pub alone : PlainEdit → Option PlainInverse
alone edit = if needs_names edit then None else Some (inverse_of edit [])

-- that is so whatever the names are
abbrev pub SayAlone : Type 0
SayAlone = (edit : PlainEdit) (rows : Rows ℕ) → needs_names edit ≡ false → Some (inverse_of edit rows) ≡ alone edit
