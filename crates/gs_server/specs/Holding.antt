-- Messages by which a primary holds its lease, and learns what the members have: grant, renewed, ack, nack.
use Rattle.std.specs.Prelude.{◌≡◌, ℕ, not, cond, Bool, true, false, List, [], ◌∷◌, Option, Some, None, Result, Ok, Err, refl}
use Rattle.gs_base.specs.declared.numbers.Moment.{Moment}
use Rattle.gs_base.specs.declared.numbers.Stamp.{Stamp}
use Rattle.gs_base.specs.Stamps.{is_same}
use Rattle.gs_base.specs.declared.refusal.Refusal.{Refusal}
use Rattle.gs_base.specs.declared.refusal.Refusal.TheVariants as refusals
use Rattle.gs_lease.specs.declared.held.Grant.{Grant}
use Rattle.gs_msg.specs.declared.node.NodeId.{NodeId}
use Rattle.gs_msg.specs.declared.node.NodeId.TheVariants as nodes
use Rattle.gs_msg.specs.declared.message.Message.{Message}
use Rattle.gs_store.specs.Slots.{Slot, first_of, when, check_grant, take_lease, taking, standing, empty_replica}
use Rattle.gs_server_lease.specs.Leases.{PrimaryLease, granted, hears, settled, dones, supplies, renews, stamp_of, moment_of, waiting, two_bytes, done_of, forward_of}
use Rattle.gs_server.specs.Places.{Place, Here, SlotStays, SlotBecomes, LeaseBecomes, Part, after, changing, sending, unanswered, or_else, other_epoch}
use Rattle.gs_server.specs.Promises.{here, unleased}

abbrev pub is_held : Stamp → Option PrimaryLease → Bool
is_held stamp None = false
is_held stamp (Some l) = is_same l.grant.stamp stamp

abbrev pub takes : Grant → Result Slot Refusal → Part
takes given (Ok s) = changing (SlotBecomes s) (LeaseBecomes (granted given)) []
takes given (Err refusal) = unanswered refusal

-- A grant is of the promise. A lease that is held stays as it is, and one that is spent is never taken again.
abbrev pub grant : Here → Place → Grant → Part
grant h p given =
    or_else (first_of (other_epoch h given.stamp.epoch ∷ check_grant given.stamp p.slot ∷ [])) unanswered
    (cond (is_held given.stamp p.lease) (sending []) (takes given (take_lease given.stamp p.slot)))

-- what is said of a lease is heard under its own stamp alone
abbrev pub unless_leased : Stamp → Slot → Option PrimaryLease → Option Refusal
unless_leased stamp s None = Some refusals.NotPrimary
unless_leased stamp s (Some l) = when (not (is_same stamp l.grant.stamp)) (refusals.Stamp s.promise)

-- a lease goes on, and some messages are sent
abbrev pub goes_on : (PrimaryLease → PrimaryLease) → (PrimaryLease → List Message) → Option PrimaryLease → Part
goes_on next sent None = sending []
goes_on next sent (Some l) = changing SlotStays (LeaseBecomes (next l)) (sent l)

abbrev pub of_lease : Place → Stamp → (PrimaryLease → PrimaryLease) → (PrimaryLease → List Message) → Part
of_lease p stamp next sent = or_else (unless_leased stamp p.slot p.lease) unanswered (goes_on next sent p.lease)

-- the greater end stays
abbrev pub renewed : Place → Stamp → Moment → Part
renewed p stamp end = of_lease p stamp (renews end) (λ l. [])

-- A member tells its count, and each client is told whose edit every member has now.
abbrev pub ack : Here → Place → ℕ → Stamp → ℕ → Part
ack h p server stamp count = of_lease p stamp (λ l. settled (hears server count l)) (λ l. dones h.me (hears server count l))

-- A member that hasn't the bytes gets them. No other refusal changes anything.
abbrev pub wants_bytes : Refusal → Bool
wants_bytes refusals.NoData = true
wants_bytes refusal = false

abbrev pub supplies_to : Here → Refusal → ℕ → Option PrimaryLease → Part
supplies_to h refusal server None = sending []
supplies_to h refusal server (Some l) = sending (cond (wants_bytes refusal) (supplies h.me h.handle server l) [])

abbrev pub nack : Here → Place → ℕ → Stamp → Refusal → Part
nack h p server stamp refusal = or_else (unless_leased stamp p.slot p.lease) unanswered (supplies_to h refusal server p.lease)

-- members of a lease are servers
abbrev pub from_server : NodeId → (ℕ → Part) → Part
from_server (nodes.Server server) part = part server
from_server node part = unanswered refusals.Stray

-- Worked: chunk 1 under the promise 2.1.
abbrev pub grant_of : ℕ → ℕ → Grant
grant_of epoch version = record { stamp = stamp_of epoch version; members = 0 ∷ 1 ∷ 2 ∷ []; end = moment_of 60 }

abbrev pub quiet : Place
quiet = unleased (standing (empty_replica (stamp_of 2 1)))

-- the lease of 0.2 under which an edit waits, at a slot of that promise
abbrev pub numbering : Place
numbering = record { slot = standing (empty_replica (stamp_of 0 2)); lease = Some waiting }

taken : grant here quiet (grant_of 2 1) ≡ changing (SlotBecomes (taking (stamp_of 2 1) quiet.slot)) (LeaseBecomes (granted (grant_of 2 1))) []
taken = refl

-- with what members have told since
abbrev held_since : Place
held_since = record { slot = taking (stamp_of 2 1) quiet.slot; lease = Some (hears 1 5 (granted (grant_of 2 1))) }

held_already : grant here held_since (grant_of 2 1) ≡ sending []
held_already = refl

-- also after a restart, which leaves what was taken last
spent_for_good : grant here (unleased (taking (stamp_of 2 1) quiet.slot)) (grant_of 2 1) ≡ unanswered refusals.Old
spent_for_good = refl

granted_in_another_epoch : grant here quiet (grant_of 1 7) ≡ unanswered (refusals.Epoch 2)
granted_in_another_epoch = refl

granted_under_another_promise : grant here quiet (grant_of 2 2) ≡ unanswered (refusals.Stamp (stamp_of 2 1))
granted_under_another_promise = refl

acknowledged_by_one : (ack here numbering 1 (stamp_of 0 2) 1).sent ≡ []
acknowledged_by_one = refl

acknowledged_by_all : (ack here (after numbering (ack here numbering 1 (stamp_of 0 2) 1)) 2 (stamp_of 0 2) 1).sent ≡ done_of 0 (1, two_bytes) ∷ []
acknowledged_by_all = refl

acknowledged_without_a_lease : ack here quiet 1 (stamp_of 2 1) 1 ≡ unanswered refusals.NotPrimary
acknowledged_without_a_lease = refl

acknowledged_under_another_stamp : ack here numbering 1 (stamp_of 0 1) 1 ≡ unanswered (refusals.Stamp (stamp_of 0 2))
acknowledged_under_another_stamp = refl

sent_again_with_bytes : nack here numbering 2 (stamp_of 0 2) refusals.NoData ≡ sending (forward_of 0 1 waiting (Some (97 ∷ 98 ∷ [])) (1, two_bytes) 2 ∷ [])
sent_again_with_bytes = refl

any_other_no_changes_nothing : nack here numbering 2 (stamp_of 0 2) (refusals.Gap 3) ≡ sending []
any_other_no_changes_nothing = refl

renewed_up_to : (after numbering (renewed numbering (stamp_of 0 2) (moment_of 90))).lease ≡ Some (renews (moment_of 90) waiting)
renewed_up_to = refl

nobody_else_acknowledges : from_server nodes.Master (λ server. ack here numbering server (stamp_of 0 2) 1) ≡ unanswered refusals.Stray
nobody_else_acknowledges = refl
