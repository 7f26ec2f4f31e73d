-- What a message makes a replica apply.
use Rattle.std.specs.Prelude.{◌≡◌, ◌<◌, ℕ, ◌+◌, ◌==◌, ◌++◌, false, List, [], ◌∷◌, length, true, Option, Some, None, Ok, refl}
use Rattle.std.specs.FinMap as fin
use Rattle.std.specs.Ordering.{nat_cmp}
use Rattle.gs_base.specs.declared.numbers.Stamp.{Stamp}
use Rattle.gs_base.specs.declared.numbers.ReqId.{ReqId}
use Rattle.gs_base.specs.Stamps.{is_same}
use Rattle.gs_replica.specs.declared.op.Done.{Done}
use Rattle.gs_msg.specs.declared.op.Op.{Op}
use Rattle.gs_msg.specs.declared.op.Op.TheVariants.{Append, Pad}
use Rattle.gs_msg.specs.Ops.{in_replica}
use Rattle.gs_msg.specs.declared.node.NodeId.{NodeId}
use Rattle.gs_msg.specs.declared.chunk.Chunk.TheVariants as chunks
use Rattle.gs_store.specs.Slots.{Live, Slot, sound, empty_replica}
use Rattle.gs_store.specs.Serving.{apply, done_in}
use Rattle.gs_server.specs.declared.turn.KeptRefusal.{KeptRefusal}
use Rattle.gs_server_lease.specs.declared.lease.Open.{Open}
use Rattle.gs_server_lease.specs.Leases.{PrimaryLease, granted, is_over, stamp_of, request_of, forwards, done_at_once, opens_edit}
use Rattle.gs_server_lease.specs.Numbering.{is_too_long, numbered_op, is_passed}
use Rattle.gs_server.specs.Places.{Place, Here, Part, LeaseStays, LeaseBecomes, about}
use Rattle.gs_server.specs.Holding.{grant_of, quiet}
use Rattle.gs_server.specs.Edits.{bytes_of, opened, last_count, pushed_here, led}

-- A member takes an edit as the next one of its live replica, with the bytes that came with it or that were pushed for it. It tells the
-- sender alone, and leaves its lease.
pub record IsTakenBy (h : Here) (p : Place) (from : NodeId) (stamp : Stamp) (number : ℕ) (req : ReqId) (op : Op) (carried : Option (List ℕ)) (part : Part) (s : Slot) : Type 0 where
  pub live : Live
  pub lives : p.slot.live ≡ Some live
  pub next : number ≡ live.replica.held.count + 1
  pub bytes : List ℕ
  pub there : bytes_of op carried h.pushed ≡ Some bytes
  pub applied : apply stamp number req (in_replica op) bytes p.slot ≡ Ok s
  pub sent : part.sent ≡ about h from (chunks.Ack stamp number) ∷ []
  pub lease : part.lease ≡ LeaseStays

-- the edit as it is numbered: an append that doesn't fit is a pad, which has no bytes
abbrev pub numbered_edit : Here → ReqId → Op → List ℕ → Live → Open
numbered_edit h req op bytes live = opened req (numbered_op h.chunk (length live.replica.held.chunk.bytes) op) bytes live

-- A primary numbers an edit as the next one of its live replica, under its lease, with the bytes that were pushed for it, and applies it
-- so. The same edit under the same number waits in its lease, and goes to the others.
pub record IsNumberedBy (h : Here) (p : Place) (req : ReqId) (stamp : Stamp) (op : Op) (part : Part) (s : Slot) : Type 0 where
  pub live : Live
  pub lives : p.slot.live ≡ Some live
  pub lease : PrimaryLease
  pub held : p.lease ≡ Some lease
  pub asked : is_same stamp lease.grant.stamp ≡ true
  pub bytes : List ℕ
  pub there : bytes_of op None h.pushed ≡ Some bytes
  pub applied : apply lease.grant.stamp (live.replica.held.count + 1) req (in_replica (numbered_edit h req op bytes live).op) (numbered_edit h req op bytes live).bytes p.slot ≡ Ok s
  pub waits : part.lease ≡ LeaseBecomes (opens_edit h.me (live.replica.held.count + 1) (numbered_edit h req op bytes live) lease)
  pub sent : part.sent ≡ forwards h.me h.handle lease (live.replica.held.count + 1, numbered_edit h req op bytes live) ++ done_at_once h.me (live.replica.held.count + 1) (numbered_edit h req op bytes live) lease

-- A forward that a member takes, if its replica does: it is of the promise and the next one, and its bytes are there.
pub record MayBeTaken (h : Here) (p : Place) (stamp : Stamp) (number : ℕ) (op : Op) (carried : Option (List ℕ)) (live : Live) (bytes : List ℕ) : Type 0 where
  pub lives : p.slot.live ≡ Some live
  pub promised : is_same stamp p.slot.promise ≡ true
  pub next : number ≡ live.replica.held.count + 1
  pub there : bytes_of op carried h.pushed ≡ Some bytes

-- a request above the client's last that was applied, and above its last that was refused
abbrev pub IsAboveDone : ReqId → Option Done → Type 0
IsAboveDone req None = Unit {0}
IsAboveDone req (Some last) = last.number < req.number

abbrev pub IsAboveKept : ReqId → Option KeptRefusal → Type 0
IsAboveKept req None = Unit {0}
IsAboveKept req (Some kept) = kept.number < req.number

-- A client's edit that a primary numbers, if its replica takes it: of a new request, under a lease that is held, of the stamp that is asked
-- for and of the promise, before its end; its bytes are there, a record is no longer than it may be and finds room, and a number is left.
pub record MayBeNumbered (h : Here) (p : Place) (req : ReqId) (stamp : Stamp) (op : Op) (live : Live) (l : PrimaryLease) (bytes : List ℕ) : Type 0 where
  pub lives : p.slot.live ≡ Some live
  pub held : p.lease ≡ Some l
  pub fresh : IsAboveDone req (done_in p.slot.live req.client.0)
  pub unrefused : IsAboveKept req h.refused
  pub asked : is_same stamp l.grant.stamp ≡ true
  pub promised : is_same l.grant.stamp p.slot.promise ≡ true
  pub in_time : is_over h.moment l ≡ false
  pub there : bytes_of op None h.pushed ≡ Some bytes
  pub short : is_too_long h.chunk op ≡ false
  pub room : is_passed h.chunk (length live.replica.held.chunk.bytes) op ≡ false
  pub left : (live.replica.held.count == last_count) ≡ false

-- Worked: at a chunk of 16 bytes, of which none is stored.
abbrev none_stored : Live
none_stored = sound (empty_replica (stamp_of 2 1))

that_fits : (numbered_edit pushed_here (request_of 7 2) (Append 2) (97 ∷ 98 ∷ []) none_stored).bytes ≡ 97 ∷ 98 ∷ []
that_fits = refl

that_does_not_fit : (numbered_edit pushed_here (request_of 7 2) (Append 17) (97 ∷ 98 ∷ []) none_stored).op ≡ Pad
that_does_not_fit = refl

which_has_no_bytes : (numbered_edit pushed_here (request_of 7 2) (Append 17) (97 ∷ 98 ∷ []) none_stored).bytes ≡ []
which_has_no_bytes = refl

-- and such messages that may be taken, at a member and at a primary
a_forward_that_may_be : MayBeTaken pushed_here quiet (stamp_of 2 1) 1 (Append 2) None none_stored (97 ∷ 98 ∷ [])
a_forward_that_may_be = record { lives = refl; promised = refl; next = refl; there = refl }

an_edit_that_may_be : MayBeNumbered pushed_here led (request_of 7 2) (stamp_of 2 1) (Append 2) none_stored (granted (grant_of 2 1)) (97 ∷ 98 ∷ [])
an_edit_that_may_be = record {
  lives = refl;
  held = refl;
  fresh = rw (fin.get-empty nat_cmp 7) tt;
  unrefused = tt;
  asked = refl;
  promised = refl;
  in_time = refl;
  there = refl;
  short = refl;
  room = refl;
  left = refl;
}
