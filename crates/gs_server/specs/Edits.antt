-- Edits: what a primary numbers, and what a member applies.
use Rattle.std.specs.Prelude.{◌≡◌, ℕ, ◌+◌, ◌-◌, ◌^◌, ◌==◌, ◌&&◌, ◌||◌, not, nat_le, nat_lt, cond, Bool, true, false, List, [], ◌∷◌, ◌++◌, length, Option, Some, None, Result, Ok, Err, refl}
use Rattle.gs_base.specs.declared.numbers.Moment.{Moment}
use Rattle.gs_base.specs.declared.numbers.Stamp.{Stamp}
use Rattle.gs_base.specs.declared.numbers.ReqId.{ReqId}
use Rattle.gs_base.specs.Stamps.{is_same}
use Rattle.gs_base.specs.declared.refusal.Refusal.{Refusal}
use Rattle.gs_base.specs.declared.refusal.Refusal.TheVariants as refusals
use Rattle.gs_replica.specs.declared.op.EditOutcome.{EditOutcome}
use Rattle.gs_replica.specs.declared.op.EditOutcome.TheVariants.{Appended, Padded}
use Rattle.gs_replica.specs.declared.op.Done.{Done}
use Rattle.gs_replica.specs.Edits.{outcome_of}
use Rattle.gs_msg.specs.declared.op.Op.{Op}
use Rattle.gs_msg.specs.declared.op.Op.TheVariants.{Write, Append, Pad}
use Rattle.gs_msg.specs.Ops.{in_replica}
use Rattle.gs_msg.specs.declared.node.NodeId.{NodeId}
use Rattle.gs_msg.specs.declared.node.NodeId.TheVariants as nodes
use Rattle.gs_msg.specs.declared.message.Message.{Message}
use Rattle.gs_msg.specs.declared.body.Body.TheVariants as bodies
use Rattle.gs_msg.specs.declared.chunk.Chunk.TheVariants as chunks
use Rattle.gs_store.specs.Slots.{Live, Slot, first_of, when, unless_live, unless_promised, standing, dropped, empty_replica, sealed_replica}
use Rattle.gs_store.specs.Serving.{apply, done_in}
use Rattle.gs_server_lease.specs.declared.lease.Open.{Open}
use Rattle.gs_server.specs.declared.turn.KeptRefusal.{KeptRefusal}
use Rattle.gs_server_lease.specs.Leases.{PrimaryLease, tell, is_over, waits, opens_edit, done_at_once, forwards, granted, stamp_of, moment_of, request_of}
use Rattle.gs_server_lease.specs.Numbering.{is_too_long, numbered_op, is_passed}
use Rattle.gs_server.specs.Places.{Place, Here, SlotStays, SlotBecomes, LeaseStays, LeaseBecomes, Part, about, sending, refused, or_else, damaged_block, marked_by, tells_bad}
use Rattle.gs_server.specs.Promises.{here, unleased}
use Rattle.gs_server.specs.Holding.{quiet, numbering, grant_of}

-- The bytes of an edit: those that come with it, or else those that were pushed for its request, where they are as many as it
-- says. A pad has none.
abbrev pub as_many : ℕ → Option (List ℕ) → Option (List ℕ)
as_many many None = None
as_many many (Some bytes) = cond (length bytes == many) (Some bytes) None

abbrev pub or_pushed : Option (List ℕ) → Option (List ℕ) → Option (List ℕ)
or_pushed (Some bytes) pushed = Some bytes
or_pushed None pushed = pushed

abbrev pub bytes_of : Op → Option (List ℕ) → Option (List ℕ) → Option (List ℕ)
bytes_of (Write offset many) carried pushed = as_many many (or_pushed carried pushed)
bytes_of (Append many) carried pushed = as_many many (or_pushed carried pushed)
bytes_of Pad carried pushed = Some []

abbrev pub unless_there : Option (List ℕ) → Option Refusal
unless_there None = Some refusals.NoData
unless_there (Some bytes) = None

abbrev pub bytes_or_none : Option (List ℕ) → List ℕ
bytes_or_none None = []
bytes_or_none (Some bytes) = bytes

-- bytes leave the buffer when they are applied
abbrev pub has_bytes : Op → Bool
has_bytes (Write offset many) = true
has_bytes (Append many) = true
has_bytes Pad = false

abbrev pub applied_bytes : Op → List ℕ → List ℕ
applied_bytes op bytes = cond (has_bytes op) bytes []

-- the client is told of its edit
abbrev pub done : Here → ReqId → Result EditOutcome Refusal → Message
done h req result = tell h.me (nodes.Client req.client) (bodies.Done req result)

-- A refusal that isn't kept.
abbrev pub refused_once : Here → ReqId → Refusal → Part
refused_once h req refusal = record { slot = SlotStays; lease = LeaseStays; kept = None; used = false; sent = done h req (Err refusal) ∷ []; said = Some refusal }

-- A refusal that is kept for the client.
abbrev pub refused_edit : Here → Place → ReqId → Refusal → Part
refused_edit h p req refusal = record {
  slot = marked_by (damaged_block refusal);
  lease = LeaseStays;
  kept = Some (record { number = req.number; refusal = refusal });
  used = false;
  sent = done h req (Err refusal) ∷ tells_bad h p.slot (damaged_block refusal);
  said = Some refusal;
}

-- No edit is numbered without a lease whose stamp is asked for and is the promise.
abbrev pub unless_holding : Stamp → Slot → Option PrimaryLease → Option Refusal
unless_holding stamp s None = Some refusals.NotPrimary
unless_holding stamp s (Some l) = when (not (is_same stamp l.grant.stamp) || not (is_same l.grant.stamp s.promise)) (refusals.Stamp s.promise)

-- nor from the lease's end on
abbrev pub unless_over : Moment → Option PrimaryLease → Option Refusal
unless_over moment None = None
unless_over moment (Some l) = when (is_over moment l) refusals.LeaseOver

-- counts end at the greatest number of 64 bits
abbrev pub last_count : ℕ
last_count = 2 ^ 64 - 1

abbrev pub opened : ReqId → Op → List ℕ → Live → Open
opened req op bytes live = record { req = req; op = op; bytes = applied_bytes op bytes; outcome = outcome_of (in_replica op) live.replica.held.chunk }

-- The edit is applied, waits for the members, and goes to the others; with one member its client is told at once.
abbrev pub numbers : Here → Slot → PrimaryLease → ℕ → Open → Part
numbers h s l number edit = record {
  slot = SlotBecomes s;
  lease = LeaseBecomes (opens_edit h.me number edit l);
  kept = None;
  used = has_bytes edit.op;
  sent = forwards h.me h.handle l (number, edit) ++ done_at_once h.me number edit l;
  said = None;
}

-- The replica refuses Range and Damaged; then the count may be at its last value.
abbrev pub numbers_if : Here → Place → PrimaryLease → ℕ → Open → Result Slot Refusal → Part
numbers_if h p l count edit (Err refusal) = refused_edit h p edit.req refusal
numbers_if h p l count edit (Ok s) = cond (count == last_count) (refused_edit h p edit.req refusals.Exhausted) (numbers h s l (count + 1) edit)

abbrev pub numbers_as : Here → Place → Live → PrimaryLease → Open → Part
numbers_as h p live l edit =
    numbers_if h p l live.replica.held.count edit (apply l.grant.stamp (live.replica.held.count + 1) edit.req (in_replica edit.op) edit.bytes p.slot)

-- a full chunk is passed without an edit
abbrev pub numbers_or_passes : Here → Place → ReqId → Op → List ℕ → Option Live → Option PrimaryLease → Part
numbers_or_passes h p req op bytes None lease = refused_edit h p req refusals.NoReplica
numbers_or_passes h p req op bytes (Some live) None = refused_edit h p req refusals.NotPrimary
numbers_or_passes h p req op bytes (Some live) (Some l) =
    cond (is_passed h.chunk (length live.replica.held.chunk.bytes) op) (sending (done h req (Ok Padded) ∷ []))
    (numbers_as h p live l (opened req (numbered_op h.chunk (length live.replica.held.chunk.bytes) op) bytes live))

-- An edit that wasn't heard before.
abbrev pub unless_numbered : Here → Place → Stamp → Op → Option Refusal
unless_numbered h p stamp op = first_of (
    unless_live p.slot.live
    ∷ unless_holding stamp p.slot p.lease
    ∷ unless_over h.moment p.lease
    ∷ unless_there (bytes_of op None h.pushed)
    ∷ when (is_too_long h.chunk op) refusals.TooLong
    ∷ [])

abbrev pub new_edit : Here → Place → ReqId → Stamp → Op → Part
new_edit h p req stamp op =
    or_else (unless_numbered h p stamp op) (refused_edit h p req)
    (numbers_or_passes h p req op (bytes_or_none (bytes_of op None h.pushed)) p.slot.live p.lease)

-- The client's last edit again: the same answer, once every member has it. That is known only under a lease of the promise.
abbrev pub is_known_of_all : ReqId → Slot → Option PrimaryLease → Bool
is_known_of_all req s None = false
is_known_of_all req s (Some l) = is_same l.grant.stamp s.promise && not (waits req l)

abbrev pub repeated : Here → Place → ReqId → EditOutcome → Part
repeated h p req outcome = cond (is_known_of_all req p.slot p.lease) (sending (done h req (Ok outcome) ∷ [])) (sending [])

-- What is kept of a client's edits that were refused: a lower number is old, and the same is refused again in the same way.
abbrev pub unless_kept : Here → ReqId → Option KeptRefusal → Part → Part
unless_kept h req None part = part
unless_kept h req (Some kept) part =
    cond (nat_lt req.number kept.number) (refused_once h req refusals.Old)
    (cond (req.number == kept.number) (refused_once h req kept.refusal) part)

-- The done table of the live replica comes first: the client's last request is no new edit, and a lower one is old.
abbrev pub unless_done : Here → Place → ReqId → Option Done → Part → Part
unless_done h p req None part = part
unless_done h p req (Some last) part =
    cond (req.number == last.number) (repeated h p req last.outcome)
    (cond (nat_lt req.number last.number) (refused_once h req refusals.Old) part)

abbrev pub edit : Here → Place → ReqId → Stamp → Op → Part
edit h p req stamp op = unless_done h p req (done_in p.slot.live req.client.0) (unless_kept h req h.refused (new_edit h p req stamp op))

-- Forwards. The primary hears what the member has, or why it has not.
abbrev pub acknowledges : Here → NodeId → Stamp → ℕ → Part
acknowledges h from stamp count = sending (about h from (chunks.Ack stamp count) ∷ [])

abbrev pub declines : Here → Place → NodeId → Stamp → Refusal → Part
declines h p from stamp refusal = refused h p.slot (about h from (chunks.Nack stamp refusal)) refusal

-- The replica refuses Old where the client's last request isn't below, then Range and Damaged.
abbrev pub takes_if : Here → Place → NodeId → Stamp → ℕ → Op → Result Slot Refusal → Part
takes_if h p from stamp number op (Err refusal) = declines h p from stamp refusal
takes_if h p from stamp number op (Ok s) = record {
  slot = SlotBecomes s;
  lease = LeaseStays;
  kept = None;
  used = has_bytes op;
  sent = about h from (chunks.Ack stamp number) ∷ [];
  said = None;
}

abbrev pub unless_next : ℕ → ℕ → Option (List ℕ) → Option Refusal
unless_next count number bytes = first_of (when (nat_lt (count + 1) number) (refusals.Gap count) ∷ unless_there bytes ∷ [])

abbrev pub takes_next : Here → Place → NodeId → Stamp → ℕ → ReqId → Op → Option (List ℕ) → ℕ → Part
takes_next h p from stamp number req op bytes count =
    or_else (unless_next count number bytes) (declines h p from stamp)
    (takes_if h p from stamp number op (apply stamp number req (in_replica op) (bytes_or_none bytes) p.slot))

-- an edit that is applied already is acknowledged again
abbrev pub takes : Here → Place → NodeId → Stamp → ℕ → ReqId → Op → Option (List ℕ) → Option Live → Part
takes h p from stamp number req op bytes None = declines h p from stamp refusals.NoReplica
takes h p from stamp number req op bytes (Some live) =
    cond (nat_le number live.replica.held.count) (acknowledges h from stamp live.replica.held.count)
    (takes_next h p from stamp number req op bytes live.replica.held.count)

abbrev pub forward : Here → Place → NodeId → Stamp → ℕ → ReqId → Op → Option (List ℕ) → Part
forward h p from stamp number req op carried =
    or_else (first_of (unless_live p.slot.live ∷ unless_promised stamp p.slot ∷ [])) (declines h p from stamp)
    (takes h p from stamp number req op (bytes_of op carried h.pushed) p.slot.live)

-- Worked: chunk 1 under the promise 2.1, led by server 0 with servers 1 and 2 up to the moment 60; client 7 has pushed two bytes.
abbrev pub led : Place
led = record { slot = standing (empty_replica (stamp_of 2 1)); lease = Some (granted (grant_of 2 1)) }

abbrev pub pushed_here : Here
pushed_here = record { me = 0; handle = 1; block = 4; chunk = 16; moment = moment_of 0; epoch = 2; refused = None; pushed = Some (97 ∷ 98 ∷ []) }

abbrev late : Here
late = record { me = 0; handle = 1; block = 4; chunk = 16; moment = moment_of 60; epoch = 2; refused = None; pushed = None }

abbrev asked : ReqId
asked = request_of 7 2

abbrev an_append : Open
an_append = record { req = asked; op = Append 2; bytes = 97 ∷ 98 ∷ []; outcome = Appended 0 }

-- what the replica becomes is gs_store's; here it is any slot
numbered_and_forwarded : (s : Slot) → numbers_if pushed_here led (granted (grant_of 2 1)) 0 an_append (Ok s) ≡ record {
  slot = SlotBecomes s;
  lease = LeaseBecomes (opens_edit 0 1 an_append (granted (grant_of 2 1)));
  kept = None;
  used = true;
  sent = forwards 0 1 (granted (grant_of 2 1)) (1, an_append);
  said = None;
}
numbered_and_forwarded s = refl

refused_in_this_order : first_of (unless_live None ∷ unless_holding (stamp_of 2 2) led.slot None ∷ []) ≡ Some refusals.NoReplica
refused_in_this_order = refl

without_a_replica : new_edit late (unleased (dropped (sealed_replica (stamp_of 2 1)))) asked (stamp_of 2 2) (Append 9) ≡ refused_edit late led asked refusals.NoReplica
without_a_replica = refl

without_a_lease : new_edit late quiet asked (stamp_of 2 2) (Append 9) ≡ refused_edit late led asked refusals.NotPrimary
without_a_lease = refl

under_another_stamp : new_edit late led asked (stamp_of 2 2) (Append 9) ≡ refused_edit late led asked (refusals.Stamp (stamp_of 2 1))
under_another_stamp = refl

under_a_lease_below_the_promise : new_edit here (record { slot = standing (empty_replica (stamp_of 2 3)); lease = led.lease }) asked (stamp_of 2 1) (Append 2) ≡ refused_edit here led asked (refusals.Stamp (stamp_of 2 3))
under_a_lease_below_the_promise = refl

from_the_end_on : new_edit late led asked (stamp_of 2 1) (Append 9) ≡ refused_edit late led asked refusals.LeaseOver
from_the_end_on = refl

without_bytes : new_edit here led asked (stamp_of 2 1) (Append 9) ≡ refused_edit here led asked refusals.NoData
without_bytes = refl

bytes_of_another_length : new_edit pushed_here led asked (stamp_of 2 1) (Append 3) ≡ refused_edit here led asked refusals.NoData
bytes_of_another_length = refl

at_the_last_count : (s : Slot) → numbers_if pushed_here led (granted (grant_of 2 1)) last_count an_append (Ok s) ≡ refused_edit pushed_here led asked refusals.Exhausted
at_the_last_count s = refl

-- Damaged comes before that, marks the replica, and is told behind the answer
a_damaged_block : (numbers_if pushed_here led (granted (grant_of 2 1)) last_count an_append (Err (refusals.Damaged 3))).sent ≡
    done pushed_here asked (Err (refusals.Damaged 3)) ∷ about pushed_here nodes.Master (chunks.Bad (stamp_of 2 1)) ∷ []
a_damaged_block = refl

a_pad_wants_no_bytes : bytes_of Pad None None ≡ Some []
a_pad_wants_no_bytes = refl

-- the client's last request again: while it waits there is no answer, then always the same
abbrev last_done : Done
last_done = record { number = 1; outcome = Appended 0 }

not_known_of_all : (part : Part) → unless_done here numbering (request_of 7 1) (Some last_done) part ≡ sending []
not_known_of_all part = refl

known_of_all : (part : Part) → unless_done here led (request_of 7 1) (Some last_done) part ≡ sending (done here (request_of 7 1) (Ok (Appended 0)) ∷ [])
known_of_all part = refl

not_known_without_a_lease : (part : Part) → unless_done here quiet (request_of 7 1) (Some last_done) part ≡ sending []
not_known_without_a_lease part = refl

below_the_last : (part : Part) → unless_done here led (request_of 7 0) (Some last_done) part ≡ refused_once here (request_of 7 0) refusals.Old
below_the_last part = refl

refused_before : (part : Part) → unless_kept here asked (Some (record { number = 2; refusal = refusals.NoData })) part ≡ refused_once here asked refusals.NoData
refused_before part = refl

below_what_was_refused : (part : Part) → unless_kept here asked (Some (record { number = 3; refusal = refusals.NoData })) part ≡ refused_once here asked refusals.Old
below_what_was_refused part = refl

-- at a member: taken once, acknowledged as often as it comes
taken_as_the_next : (s : Slot) → takes_if pushed_here quiet (nodes.Server 0) (stamp_of 2 1) 1 (Append 2) (Ok s) ≡ record {
  slot = SlotBecomes s;
  lease = LeaseStays;
  kept = None;
  used = true;
  sent = about pushed_here (nodes.Server 0) (chunks.Ack (stamp_of 2 1) 1) ∷ [];
  said = None;
}
taken_as_the_next s = refl

acknowledged_again : forward here quiet (nodes.Server 0) (stamp_of 2 1) 0 asked (Append 2) None ≡ acknowledges here (nodes.Server 0) (stamp_of 2 1) 0
acknowledged_again = refl

without_a_live_replica : forward here (unleased (dropped (sealed_replica (stamp_of 2 1)))) (nodes.Server 0) (stamp_of 2 2) 2 asked (Append 2) None ≡ declines here quiet (nodes.Server 0) (stamp_of 2 2) refusals.NoReplica
without_a_live_replica = refl

-- so a member of a later view takes no late forward
below_a_later_promise : forward pushed_here (unleased (standing (empty_replica (stamp_of 2 3)))) (nodes.Server 0) (stamp_of 2 1) 1 asked (Append 2) None ≡ declines pushed_here quiet (nodes.Server 0) (stamp_of 2 1) (refusals.Stamp (stamp_of 2 3))
below_a_later_promise = refl

past_the_next : forward here quiet (nodes.Server 0) (stamp_of 2 1) 2 asked (Append 2) None ≡ declines here quiet (nodes.Server 0) (stamp_of 2 1) (refusals.Gap 0)
past_the_next = refl

its_bytes_are_missing : forward here quiet (nodes.Server 0) (stamp_of 2 1) 1 asked (Append 2) None ≡ declines here quiet (nodes.Server 0) (stamp_of 2 1) refusals.NoData
its_bytes_are_missing = refl
