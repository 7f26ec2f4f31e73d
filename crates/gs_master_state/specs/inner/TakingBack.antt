-- What takes a record back once it was applied: what stood before, as far as the record has changed it.
use Rattle.std.specs.Prelude.{◌≡◌, ◌⊎◌, ◌∷◌, ◌++◌, [], ℕ, Bool, true, false, List, map, Option, Some, None, option_and_then, Result, Ok, Err, refl}
use Rattle.std.specs.declared.cmp.Ordering.{Ordering}
use Rattle.std.specs.Ordering.{nat_cmp}
use Rattle.std.specs.FinMap as fin
use Rattle.gs_base.specs.declared.numbers.ClientId.{ClientId}
use Rattle.gs_base.specs.declared.refusal.Refusal.{Refusal}
use Rattle.gs_base.specs.declared.refusal.Refusal.TheVariants as refusals
use Rattle.gs_edit.specs.Names.{NamesTakenBack, takes_memory}
use Rattle.gs_edit.specs.View.{NamesView}
use Rattle.gs_edit.specs.declared.edit.Inverse.TheVariants.{Tree}
use Rattle.std.specs.List.{list_any}
use Rattle.gs_path.specs.Path.{Path, begins}
use Rattle.gs_refs.specs.Counts.{raised_each}
use Rattle.gs_tree.specs.Find.{at}
use Rattle.gs_tree.specs.Plain.{Same, with_at}
use Rattle.gs_tree.specs.declared.inverse.TreeInverse.TheVariants.{Moved}
use Rattle.gs_edit.specs.declared.listed.ListedInverse.{ListedInverse}
use Rattle.gs_lease.specs.declared.lease.Lease.{Lease}
use Rattle.gs_lease_table.specs.Settlings.{tells_settled}
use Rattle.gs_master_record.specs.Encoding.{new_store}
use Rattle.gs_master_record.specs.Plain.{plain_inverse, PlainEdit, Mkdirs, Create, Rename, Hide, Unhide, Remove, AddChunk, Cow, Snapshot, Forget, PlainEntry, Edited, Propose, Prepare, Whole}
use Rattle.gs_master_record.specs.declared.checkpoint.Phase.TheVariants.{Rolling, Upgrade}
use Rattle.gs_base_table.specs.Slots.{live, set_live, HasRoom}
use Rattle.gs_master_spec.specs.Applied.{applied}
use Rattle.gs_master_spec.specs.Durable.{Durable, Settled}
use Rattle.gs_master_state.specs.inner.Held.{IsLedBy, KeepsAll, StandsBy, all_but_last, without_kept}
use Rattle.gs_master_state.specs.inner.Recorded.{IsToldBack, KeepsRooms, chunks_of, durable_of, settled_by}
use Rattle.gs_master_spec.specs.Replies.{client_cmp}
use Rattle.gs_master_state.specs.declared.recorded.Recorded.{Recorded}
use Rattle.gs_master_spec.specs.declared.reply.KeptReply.{KeptReply}
use Rattle.gs_master_state.specs.declared.undo.ChunkBefore.{ChunkBefore}
use Rattle.gs_master_state.specs.declared.undo.EditBefore.{EditBefore}
use Rattle.gs_master_state.specs.declared.undo.EpochBefore.{EpochBefore}
use Rattle.gs_master_state.specs.declared.undo.ProposalBefore.{ProposalBefore}
use Rattle.gs_master_state.specs.declared.undo.KeptBefore.{KeptBefore}
use Rattle.gs_master_state.specs.declared.undo.NamesBefore.{NamesBefore}
use Rattle.gs_master_state.specs.declared.undo.NamesBefore.TheVariants.{Undone, Moved as MovedTo, Removed as RemovedFrom, Kept}
use Rattle.gs_master_state.specs.declared.undo.MovedNames.{MovedNames}
use Rattle.gs_master_state.specs.declared.undo.RemovedNames.{RemovedNames}
use Rattle.gs_master_state.specs.declared.undo.ReplyBefore.{ReplyBefore}
use Rattle.gs_master_state.specs.declared.undo.StoodNames.{StoodNames}
use Rattle.gs_master_state.specs.declared.undo.RollbackBefore.{RollbackBefore}
use Rattle.gs_master_state.specs.declared.undo.Undo.{Undo}
use Rattle.gs_master_state.specs.declared.undo.Undo.TheVariants as undos

-- ---- the parts

-- the replies, where one was put in another's place
abbrev pub with_reply_before : Option ReplyBefore → fin.FinMap client_cmp KeptReply → fin.FinMap client_cmp KeptReply
with_reply_before None replies = replies
with_reply_before (Some before) replies = set_live before.client before.reply replies

-- the settled chunks, where this one's lease stood so
abbrev pub with_settled_before : ℕ → Option Lease → fin.FinMap nat_cmp Settled → fin.FinMap nat_cmp Settled
with_settled_before chunk lease chunks = set_live chunk (option_and_then settled_by lease) chunks

-- a chunk as it stood
abbrev pub with_chunk_before : ChunkBefore → Durable → Durable
with_chunk_before before d = record d {
  chunks = with_settled_before before.chunk before.lease d.chunks;
  prepared = set_live before.chunk before.prepared d.prepared;
}

-- several chunks, the last first
abbrev pub with_chunks_before : List ChunkBefore → Durable → Durable
with_chunks_before [] d = d
with_chunks_before (before ∷ more) d = with_chunk_before before (with_chunks_before more d)

-- a chunk for which a view was proposed, if it was settled
abbrev pub with_proposed_before : ℕ → Option Lease → fin.FinMap nat_cmp Settled → fin.FinMap nat_cmp Settled
with_proposed_before chunk None chunks = chunks
with_proposed_before chunk (Some lease) chunks = with_settled_before chunk (Some lease) chunks

-- the names: what was made of them is undone without memory, what was moved or removed goes back, or they were kept
abbrev pub AreNamesBefore : NamesBefore → NamesView → NamesView → Type 0
AreNamesBefore (Undone inverse) before after = NamesTakenBack inverse before after × (takes_memory inverse ≡ false)
AreNamesBefore (MovedTo m) before after = NamesTakenBack (Tree (Moved m.from m.to)) before after × StandsBy m.spare before
AreNamesBefore (RemovedFrom r) before after = Same (fin.get before.tree) (with_at r.path (at r.out.node) (fin.get after.tree)) × (raised_each after.refs r.out.chunks.items ≡ Ok before.refs)
AreNamesBefore (Kept stood) before after = (before ≡ without_kept stood.places.items stood.names) × IsLedBy stood.following (without_kept stood.places.items stood.names) after × KeepsAll stood.places.items stood.names

-- The paths that were kept before an edit, by those that are kept since: where something is undone or moved back none was,
-- and of a removal its own is the last.
abbrev pub places_before : NamesBefore → List Path → List Path
places_before (Undone inverse) now = []
places_before (MovedTo m) now = []
places_before (RemovedFrom r) now = all_but_last now
places_before (Kept stood) now = stood.places.items

-- the last path is that of a removal, and no other lies at or under it
abbrev pub IsLastPlace : List Path → Path → Type 0
IsLastPlace now path = (others : List Path) × ((now ≡ others ++ path ∷ []) × (list_any (begins path) others ≡ false))

-- what has to be kept so that an edit can be taken back
abbrev pub HasPlaceBack : List Path → NamesBefore → Type 0
HasPlaceBack now (Undone inverse) = now ≡ []
HasPlaceBack now (MovedTo m) = now ≡ m.from ∷ []
HasPlaceBack now (RemovedFrom r) = IsLastPlace now r.path
HasPlaceBack now (Kept stood) = KeepsAll stood.places.items stood.names

-- the paths that are kept before and after an edit
abbrev pub ArePlacesBefore : NamesBefore → List Path → List Path → Type 0
ArePlacesBefore before old new = (old ≡ places_before before new) × HasPlaceBack new before

-- an edit that its inverse takes back without memory
abbrev pub is_made_in_place : PlainEdit → Bool
is_made_in_place (Mkdirs p) = true
is_made_in_place (Create p) = true
is_made_in_place (Rename from to) = false
is_made_in_place (Hide p moment number) = false
is_made_in_place (Unhide p) = false
is_made_in_place (Remove p) = false
is_made_in_place (AddChunk p chunk) = true
is_made_in_place (Cow p index old new) = true
is_made_in_place (Snapshot from to) = false
is_made_in_place (Forget chunks) = false

-- an edit that neither that nor a kept place takes back without memory
abbrev pub wants_copy : PlainEdit → Bool
wants_copy (Mkdirs p) = false
wants_copy (Create p) = false
wants_copy (Rename from to) = false
wants_copy (Hide p moment number) = false
wants_copy (Unhide p) = false
wants_copy (Remove p) = false
wants_copy (AddChunk p chunk) = false
wants_copy (Cow p index old new) = false
wants_copy (Snapshot from to) = true
wants_copy (Forget chunks) = true

-- whether the names of before are kept whole
abbrev pub is_kept : NamesBefore → Bool
is_kept (Undone inverse) = false
is_kept (MovedTo m) = false
is_kept (RemovedFrom r) = false
is_kept (Kept stood) = true

-- all but the last, where one was put behind them
abbrev pub AreItemsBefore : {X : Type 0} → Bool → List X → List X → Type 0
AreItemsBefore {X} true before after = (last : X) × (after ≡ before ++ last ∷ [])
AreItemsBefore false before after = before ≡ after

pub record IsEditBefore (e : EditBefore) (before after : Durable) : Type 0 where
  pub names : AreNamesBefore e.names before.names after.names
  pub inverses : AreItemsBefore e.keeps_inverse before.inverses after.inverses
  pub rest : before ≡ record (with_chunks_before e.forgotten.items after) {
    names = before.names;
    next_hidden = e.next_hidden;
    replies = with_reply_before e.reply after.replies;
    inverses = before.inverses;
  }

-- what was kept since prepare
abbrev pub with_kept_before : KeptBefore → Durable → Durable
with_kept_before kept d = record d { inverses = map plain_inverse kept.inverses.items; prepared = live nat_cmp kept.prepared }

abbrev pub with_proposal_before : ProposalBefore → Durable → Durable
with_proposal_before p d = record d { chunks = with_proposed_before p.chunk p.lease d.chunks; next_handle = p.next_handle; next_version = p.next_version }

-- ---- a record

-- what takes a record back leads from what stands after it to what stood before
abbrev pub TakesBack : Undo → Durable → Durable → Type 0
TakesBack (undos.Said reply) before after = before ≡ record after { replies = with_reply_before reply after.replies }
TakesBack (undos.Propose p) before after = before ≡ with_proposal_before p after
TakesBack (undos.Settle chunk) before after = before ≡ with_chunk_before chunk after
TakesBack (undos.Holder chunk prepared) before after = before ≡ record after { prepared = set_live chunk prepared after.prepared }
TakesBack (undos.RollbackBegin epoch) before after =
    AreItemsBefore true before.ends after.ends × (before ≡ record after { epoch = epoch; phase = Upgrade; ends = before.ends })
TakesBack (undos.Edit e) before after = IsEditBefore e before after
TakesBack (undos.Epoch e) before after =
    AreItemsBefore true before.ends after.ends × (before ≡ record (with_kept_before e.kept after) { epoch = e.epoch; phase = e.phase; ends = before.ends })
TakesBack (undos.RollbackCommit b) before after =
    before ≡ record (with_kept_before b.kept after) { names = b.names.names; chunks = chunks_of (live nat_cmp b.leases); phase = Rolling }

-- several records, the last first
abbrev pub TakeBack : List Undo → Durable → Durable → Type 0
TakeBack [] before after = before ≡ after
TakeBack (undo ∷ undos) before after = (between : Durable) × (TakesBack undo before between × TakeBack undos between after)

-- ---- leases, of which the durable value tells less

abbrev pub with_leases_before : List ChunkBefore → fin.FinMap nat_cmp Lease → fin.FinMap nat_cmp Lease
with_leases_before [] leases = leases
with_leases_before (before ∷ more) leases = set_live before.chunk before.lease (with_leases_before more leases)

abbrev pub with_moved_before : ℕ → Option Lease → fin.FinMap nat_cmp Lease → fin.FinMap nat_cmp Lease
with_moved_before chunk None leases = leases
with_moved_before chunk (Some lease) leases = fin.insert leases chunk lease

-- the leases before a record
abbrev pub leases_before : Undo → fin.FinMap nat_cmp Lease → fin.FinMap nat_cmp Lease
leases_before (undos.Said reply) leases = leases
leases_before (undos.Propose p) leases = with_moved_before p.chunk p.lease leases
leases_before (undos.Settle chunk) leases = set_live chunk.chunk chunk.lease leases
leases_before (undos.Holder chunk prepared) leases = leases
leases_before (undos.RollbackBegin epoch) leases = leases
leases_before (undos.Edit e) leases = with_leases_before e.forgotten.items leases
leases_before (undos.Epoch e) leases = leases
leases_before (undos.RollbackCommit b) leases = live nat_cmp b.leases

-- the leases before several records, the last first
abbrev pub all_leases_before : List Undo → fin.FinMap nat_cmp Lease → fin.FinMap nat_cmp Lease
all_leases_before [] leases = leases
all_leases_before (undo ∷ undos) leases = leases_before undo (all_leases_before undos leases)

-- ---- room

-- what stood at a key can be put there without memory
abbrev pub RoomAt : {K V : Type 0} → (K → K → Ordering) → List (K × Option V) → K → Option V → Type 0
RoomAt R slots key None = Unit {0}
RoomAt R slots key (Some value) = HasRoom R slots key

-- and so can a lease, which tells a settled view
abbrev pub LeaseAt : List (ℕ × Option Lease) → ℕ → Option Lease → Type 0
LeaseAt slots chunk None = Unit {0}
LeaseAt slots chunk (Some lease) = HasRoom nat_cmp slots chunk × (tells_settled lease ≡ true)

abbrev pub RoomForReply : List (ClientId × Option KeptReply) → Option ReplyBefore → Type 0
RoomForReply slots None = Unit {0}
RoomForReply slots (Some before) = RoomAt client_cmp slots before.client before.reply

abbrev pub RoomForChunk : Recorded → ChunkBefore → Type 0
RoomForChunk r before = LeaseAt r.leases before.chunk before.lease × RoomAt nat_cmp r.prepared before.chunk before.prepared

abbrev pub RoomForChunks : Recorded → List ChunkBefore → Type 0
RoomForChunks r [] = Unit {0}
RoomForChunks r (before ∷ more) = RoomForChunk r before × RoomForChunks r more

-- a table that a record has given up is put back with the room that it had, and so is a path that was kept
abbrev pub rooms_before : Undo → Recorded → Recorded
rooms_before (undos.Said reply) r = r
rooms_before (undos.Propose p) r = r
rooms_before (undos.Settle chunk) r = r
rooms_before (undos.Holder chunk prepared) r = r
rooms_before (undos.RollbackBegin epoch) r = r
rooms_before (undos.Edit e) r = record r { names = record r.names { places = places_before e.names r.names.places } }
rooms_before (undos.Epoch e) r = record r { prepared = e.kept.prepared }
rooms_before (undos.RollbackCommit b) r = record r { names = b.names; leases = b.leases; prepared = b.kept.prepared }

-- several records, the last first
abbrev pub all_rooms_before : List Undo → Recorded → Recorded
all_rooms_before [] r = r
all_rooms_before (undo ∷ undos) r = rooms_before undo (all_rooms_before undos r)

-- what taking a record back wants, so that it takes no memory
abbrev pub RoomBack : Recorded → Undo → Type 0
RoomBack r (undos.Said reply) = RoomForReply r.replies reply
RoomBack r (undos.Propose p) = LeaseAt r.leases p.chunk p.lease
RoomBack r (undos.Settle chunk) = RoomForChunk r chunk
RoomBack r (undos.Holder chunk prepared) = RoomAt nat_cmp r.prepared chunk prepared
RoomBack r (undos.RollbackBegin epoch) = Unit {0}
RoomBack r (undos.Edit e) = RoomForReply r.replies e.reply × RoomForChunks r e.forgotten.items × HasPlaceBack r.names.places e.names
RoomBack r (undos.Epoch e) = Unit {0}
RoomBack r (undos.RollbackCommit b) = Unit {0}

-- each has its room once those behind it are taken back
abbrev pub RoomForAll : Recorded → List Undo → Type 0
RoomForAll r [] = Unit {0}
RoomForAll r (undo ∷ undos) = RoomBack (all_rooms_before undos r) undo × RoomForAll r undos

-- ---- entering a record

-- a record that isn't entered with others: a checkpoint takes the place of all
abbrev pub comes_alone : PlainEntry → Bool
comes_alone (Whole c) = true
comes_alone entry = false

-- what takes an edit back is told while an upgrade stands
abbrev pub IsToldFor : Durable → PlainEntry → Option ListedInverse → Type 0
IsToldFor d (Edited by edit) inverse = IsToldBack d edit inverse
IsToldFor d entry inverse = Unit {0}

-- a record is applied where it fits, or memory is wanted, and else nothing changes
abbrev pub Enters : {X : Type 0} → PlainEntry → Result X Refusal → Durable → Durable → Type 0
Enters entry (Ok done) old new = applied old entry ≡ Some new
Enters entry (Err refusal) old new = ((refusal ≡ refusals.Memory) ⊎ ((applied old entry ≡ None) × (refusal ≡ refusals.BadLine))) × (new ≡ old)

-- a record that comes alone is refused
abbrev pub IsRefused : {X : Type 0} → Result X Refusal → Durable → Durable → Type 0
IsRefused result old new = (result ≡ Err refusals.BadLine) × (new ≡ old)

-- what is answered takes it back, and has the room for that
pub record IsUndo (old new : Recorded) (undo : Undo) : Type 0 where
  pub value : TakesBack undo (durable_of old) (durable_of new)
  pub leases : live nat_cmp old.leases ≡ leases_before undo (live nat_cmp new.leases)
  pub room : RoomBack new undo
  pub keeps : KeepsRooms old (rooms_before undo new)

-- whatever several records led from, it is led from still; another may have come behind them
abbrev pub StillTakeBack : List Undo → Durable → List Undo → Durable → Type 0
StillTakeBack undos now more new = (before : Durable) → TakeBack undos before now → TakeBack more before new

-- one more takes back what has come last
pub record TakesOneMore (undos : List Undo) (old : Durable) (more : List Undo) (new : Durable) : Type 0 where
  pub last : Undo
  pub behind : more ≡ undos ++ last ∷ []
  pub takes : TakesBack last old new

-- ---- examples

the_last_is_left_out : AreItemsBefore {X = ℕ} true (1 ∷ []) (1 ∷ 2 ∷ [])
the_last_is_left_out = (2, refl)

nothing_was_put_there : AreItemsBefore {X = ℕ} false (1 ∷ 2 ∷ []) (1 ∷ 2 ∷ [])
nothing_was_put_there = refl

a_new_chunk_is_left : (chunks : fin.FinMap nat_cmp Settled) → with_proposed_before 3 None chunks ≡ chunks
a_new_chunk_is_left chunks = refl

a_client_without_a_reply : (replies : fin.FinMap client_cmp KeptReply) (client : ClientId) → with_reply_before (Some (record { client = client; reply = None })) replies ≡ fin.remove replies client
a_client_without_a_reply replies client = refl

what_stood_nowhere_needs_no_room : RoomAt {V = ℕ} nat_cmp [] 3 None
what_stood_nowhere_needs_no_room = tt

-- a directory is made behind a move, so on a copy: once that is taken back, the place of the move is kept again
the_place_is_kept_again : (from : Path) (e : EditBefore) (stood : StoodNames) (r : Recorded) → stood.places.items ≡ from ∷ [] → (rooms_before (undos.Edit (record e { names = Kept stood })) r).names.places ≡ from ∷ []
the_place_is_kept_again from e stood r is = is

what_goes_back_needs_its_place : (m : MovedNames) → HasPlaceBack (m.from ∷ []) (MovedTo m) ≡ ((m.from ∷ []) ≡ (m.from ∷ []))
what_goes_back_needs_its_place m = refl

-- behind two removals the second is taken back first, and the place of the first is kept still
the_places_before_are_kept : (first second : Path) (r : RemovedNames) → places_before (RemovedFrom r) (first ∷ second ∷ []) ≡ first ∷ []
the_places_before_are_kept first second r = refl

a_move_wants_no_copy : (from to : Path) → wants_copy (Rename from to) ≡ false
a_move_wants_no_copy from to = refl

a_checkpoint_comes_alone : comes_alone (Whole new_store) ≡ true
a_checkpoint_comes_alone = refl

a_prepare_comes_with_others : comes_alone (Prepare 1 5 2) ≡ false
a_prepare_comes_with_others = refl

-- behind a prepare a holder is entered: to take it back it has its room in the table of now
abbrev prepared_then_held : EpochBefore → List Undo
prepared_then_held e = undos.Epoch e ∷ undos.Holder 3 None ∷ []

the_table_of_before_is_put_back : (e : EpochBefore) (r : Recorded) → (all_rooms_before (prepared_then_held e) r).prepared ≡ e.kept.prepared
the_table_of_before_is_put_back e r = refl

the_chunks_of_before_stand_again : (b : RollbackBefore) (leases : fin.FinMap nat_cmp Lease) → leases_before (undos.RollbackCommit b) leases ≡ live nat_cmp b.leases
the_chunks_of_before_stand_again b leases = refl

a_proposal_comes_with_others : comes_alone (Propose 3 7) ≡ false
a_proposal_comes_with_others = refl

-- each record was applied to what the one before it had left, and is taken back by its own
abbrev pub Leads : List PlainEntry → List Undo → Durable → Durable → Type 0
Leads [] [] before now = before ≡ now
Leads [] (undo ∷ undos) before now = ⊥
Leads (entry ∷ entries) [] before now = ⊥
Leads (entry ∷ entries) (undo ∷ undos) before now =
    (next : Durable) × ((applied before entry ≡ Some next) × (TakesBack undo before next × Leads entries undos next now))
