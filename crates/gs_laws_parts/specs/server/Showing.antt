-- What a chunkserver keeps of one chunk, as the machine of that chunk has it.
use Rattle.std.specs.Prelude.{◌≡◌, ◌≢◌, ℕ, ◌+◌, ◌<◌, ◌≤◌, cond, true, List, [], ◌∷◌, ◌++◌, length, Option, Some, None, is_some, Contains, refl, ◌⊎◌}
use Rattle.gs_base.specs.declared.numbers.Stamp.{Stamp}
use Rattle.gs_base.specs.declared.numbers.ReqId.{ReqId}
use Rattle.gs_base.specs.declared.epoch.EpochEnd.TheVariants.{Prepare, Rollback}
use Rattle.gs_replica.specs.Stands.{Edit, replica_of, outcome_at}
use Rattle.gs_replica.specs.Seals.{Sealed, lowest_damaged}
use Rattle.gs_msg.specs.declared.op.Op.{Op}
use Rattle.gs_msg.specs.Ops.{in_replica, length_of}
use Rattle.gs_store.specs.Slots.{Live, Slot, sealed_of, nothing}
use Rattle.gs_store.specs.Standing.{StandsIn, StoodIn, LiveUndamaged}
use Rattle.gs_server_lease.specs.declared.lease.Open.{Open as Waiting}
use Rattle.gs_server_lease.specs.Leases as primary
use Rattle.gs_server_lease.specs.Leases.{told_by}
use Rattle.gs_server.specs.Places.{Place, Here, empty_place}
use Rattle.gs_server.specs.Edits.{has_bytes}
use Rattle.gs_server.specs.Servers.{Server, place_of}
use Rattle.gs_laws_chunk.specs.machine.Stamps.{epoch_of, stamp_at}
use Rattle.gs_laws_chunk.specs.machine.Machine.{Open, MemberLease, Member, Known, ChunkWorld}
use Rattle.gs_laws_chunk.specs.machine.Events.{no_member}

-- What a store has throughout: the sizes of a block and of a chunk, and which bytes each request has; and the epoch in which the
-- chunk was born.
pub record Setting : Type 0 where
  pub block : ℕ
  pub size : ℕ
  pub bytes : ReqId → List ℕ
  pub born : ℕ

-- that of a server
abbrev pub setting_of : (ReqId → List ℕ) → ℕ → Server → Setting
setting_of bytes born s = record { block = s.block; size = s.chunk; bytes = bytes; born = born }

abbrev pub setting_at : (ReqId → List ℕ) → ℕ → Here → Setting
setting_at bytes born h = record { block = h.block; size = h.chunk; bytes = bytes; born = born }

-- the live replica stands for the machine's list, and the sealed image for that of the image
abbrev pub ShowsLive : Setting → Slot → Option (List Edit) → Type 0
ShowsLive c s None = s.live ≡ None
ShowsLive c s (Some edits) = StandsIn c.block c.size s edits

abbrev pub ShowsImage : Setting → Slot → Option (List Edit) → Type 0
ShowsImage c s None = sealed_of s ≡ None
ShowsImage c s (Some edits) = StoodIn c.block c.size s edits

-- no lease was taken, or one of this stamp was taken last
abbrev pub ShowsTaken : Option Stamp → ℕ → Type 0
ShowsTaken None taken = taken ≡ 0
ShowsTaken (Some stamp) taken = stamp ≡ stamp_at taken

-- A request's edit, as messages say it: with the bytes of the request, where such an edit has bytes.
pub record Says (c : Setting) (asked : ReqId) (said : Op) (e : Edit) : Type 0 where
  pub req : e.req ≡ asked
  pub op : e.op ≡ in_replica said
  pub bytes : e.bytes ≡ cond (has_bytes said) (c.bytes asked) []
  pub long : length e.bytes ≡ length_of said

-- An edit waits at its place in a list, under the number behind the place; what its client will be told is the outcome of the text
-- before it.
pub record Waits (c : Setting) (list : List Edit) (number : ℕ) (w : Waiting) (o : Open) : Type 0 where
  pub numbered : number ≡ o.place + 1
  pub says : Says c w.req w.op o.edit
  pub bytes : w.bytes ≡ o.edit.bytes
  pub before : List Edit
  pub behind : List Edit
  pub stands : list ≡ before ++ o.edit ∷ behind
  pub placed : o.place ≡ length before
  pub outcome : w.outcome ≡ outcome_at o.edit.op (length (replica_of c.size before).bytes)

-- A lease as the machine has it: of the same stamp and members; no server has told more than it has in the machine; and the same
-- edits wait. The lists are those of views, by stamp.
pub record ShowsLease (c : Setting) (list : ℕ → List Edit) (l : primary.PrimaryLease) (m : MemberLease) : Type 0 where
  pub stamp : l.grant.stamp ≡ stamp_at m.stamp
  pub members : m.members ≡ l.grant.members
  pub told : (server : ℕ) → told_by l.told server ≤ m.told server
  pub waits : (number : ℕ) (w : Waiting) → Contains l.outbox (number, w) → (o : Open) × Contains m.waiting o × Waits c (list m.stamp) number w o
  pub opens : (o : Open) → Contains m.waiting o → (number : ℕ) × (w : Waiting) × Contains l.outbox (number, w) × Waits c (list m.stamp) number w o

abbrev pub ShowsLeaseAt : Setting → (ℕ → List Edit) → Option primary.PrimaryLease → Option MemberLease → Type 0
ShowsLeaseAt c list None None = Unit {0}
ShowsLeaseAt c list None (Some m) = ⊥
ShowsLeaseAt c list (Some l) None = ⊥
ShowsLeaseAt c list (Some l) (Some m) = ShowsLease c list l m

-- no block of what undoing gives is damaged
abbrev pub SealUndamaged : Option Sealed → Type 0
SealUndamaged None = Unit {0}
SealUndamaged (Some t) = lowest_damaged t.undone ≡ None

-- what a server of an epoch has sealed may yet be rolled back to: the next epoch isn't known to be anything but a rollback
abbrev pub SealCounts : Known → ℕ → Type 0
SealCounts k epoch = epoch + 1 ≤ k.current → k.how (epoch + 1) ≡ Rollback

-- What a server of an epoch has live counts for an upgrade: a prepare is known of which it hasn't learned yet, and then it will be sealed;
-- or its epoch began by a rollback, by which it was made live.
abbrev pub LiveCounts : Known → ℕ → Type 0
LiveCounts k epoch = ((x : ℕ) × (epoch < x) × (x ≤ k.current) × (k.how x ≡ Prepare)) ⊎ (k.how epoch ≡ Rollback)

-- what is live at a server of the epoch of the last prepare counts no more: it was sealed, and that counts
abbrev pub LiveIsLater : Known → ℕ → Type 0
LiveIsLater k epoch = (k.how epoch ≡ Prepare) × ((x : ℕ) → epoch < x → x ≤ k.current → k.how x ≢ Prepare)

-- a live replica that is a later one than what was sealed: nothing of that is kept in it
abbrev pub IsLaterOne : Slot → Type 0
IsLaterOne s = (l : Live) × (s.live ≡ Some l) × (l.replica.sealed ≡ None)

-- What is kept of a chunk by a server of an epoch. One of an epoch before the chunk's birth keeps nothing, and counts as one of that
-- of the birth. Where the machine has a server intact, no block of its live replica is damaged, as long as that counts, nor of its
-- sealed image, as long as that may yet be rolled back to.
pub record ShowsPlace (c : Setting) (k : Known) (epoch : ℕ) (p : Place) (m : Member) : Type 0 where
  pub epoch_is : c.born ≤ epoch → m.epoch ≡ epoch
  pub early : epoch < c.born → (m.epoch ≡ c.born) × (p.slot ≡ nothing)
  pub promise : p.slot.promise ≡ stamp_at m.promise
  pub carried : m.carried ≡ p.slot.carried
  pub live : ShowsLive c p.slot m.live
  pub image : ShowsImage c p.slot m.image
  pub taken : ShowsTaken p.slot.taken m.taken
  pub lease : ShowsLeaseAt c k.list p.lease m.lease
  pub promised : is_some m.live ≡ true → (0 < m.promise) × (c.born ≤ epoch_of m.promise)
  pub intact : m.intact ≡ true → (LiveCounts k m.epoch → LiveUndamaged p.slot.live) × (SealCounts k m.epoch → SealUndamaged (sealed_of p.slot))

-- the machine's member of a server is what the server keeps of the chunk
abbrev pub ShowsMember : Setting → ℕ → ChunkWorld → Server → Type 0
ShowsMember c chunk w s = ShowsPlace c w.known s.kept.epoch (place_of chunk s) (w.members s.me)

-- the bytes in a buffer are those of the requests for which they were pushed
abbrev pub BuffersRight : Setting → Server → Type 0
BuffersRight c s = (req : ReqId) (bytes : List ℕ) → Contains s.dropped.buffer (req, bytes) → bytes ≡ c.bytes req

-- Worked: at the birth of a chunk, a server of that epoch that has heard nothing of it is shown.
at_birth : (c : Setting) (k : Known) → ShowsPlace c k c.born empty_place (no_member c.born)
at_birth c k = record {
  epoch_is = λ late. refl;
  early = λ early. (refl, refl);
  promise = refl;
  carried = refl;
  live = refl;
  image = refl;
  taken = refl;
  lease = tt;
  promised = λ none. absurd (cc);
  intact = λ none. absurd (cc);
}
