-- What a live replica stands for, event by event.
use Rattle.std.specs.Prelude.{◌≡◌, ℕ, ◌==◌, Bool, true, false, List, [], ◌∷◌, ◌++◌, Option, Some, None, refl}
use Rattle.gs_base.specs.Stamps.{is_before}
use Rattle.gs_replica.specs.Stands.{Edit}
use Rattle.gs_replica.specs.declared.op.Op.TheVariants as applied
use Rattle.gs_msg.specs.declared.op.Op.TheVariants.{Append}
use Rattle.gs_base.specs.declared.epoch.EpochEnd.TheVariants.{Prepare}
use Rattle.gs_msg.specs.declared.node.NodeId.TheVariants as nodes
use Rattle.gs_msg.specs.declared.body.Body.TheVariants as bodies
use Rattle.gs_msg.specs.declared.chunk.Chunk.TheVariants as chunks
use Rattle.gs_store.specs.Slots.{Slot, nothing, standing, empty_replica}
use Rattle.gs_store.specs.Standing.{IsToldIn}
use Rattle.gs_store.specs.Calls.{Call, Creates, CopiesIn, TakesCopy, Applies, Damages, RollsBack}
use Rattle.gs_server_lease.specs.Leases.{stamp_of, moment_of, request_of}
use Rattle.gs_server.specs.Holding.{quiet}
use Rattle.gs_server.specs.Edits.{pushed_here}
use Rattle.gs_server.specs.Servers.{Server, new}
use Rattle.gs_server.specs.Runs.{Event, Hears, behind, slot_in}
use Rattle.gs_laws_server.specs.servers.Calling.{asked_call, call_by}

-- the edit that a call applies, if it applies one
abbrev pub applied_edit : Call → Option Edit
applied_edit (Applies stamp number req op bytes) = Some (record { req = req; op = op; bytes = bytes })
applied_edit c = None

abbrev pub edit_in : Option Call → Option Edit
edit_in None = None
edit_in (Some c) = applied_edit c

abbrev pub lengthened : List Edit → Option Edit → List Edit
lengthened edits None = edits
lengthened edits (Some e) = edits ++ e ∷ []

-- the edits of a chunk behind an event: those before, and the one that the event applies
abbrev pub edits_behind : ℕ → Event → Server → List Edit → List Edit
edits_behind handle e s edits = lengthened edits (edit_in (call_by handle e s))

abbrev pub edits_behind_all : ℕ → List Event → Server → List Edit → List Edit
edits_behind_all handle [] s edits = edits
edits_behind_all handle (e ∷ events) s edits = edits_behind_all handle events (behind e s) (edits_behind handle e s edits)

-- Calls that make a replica anew: a create and a copy under a stamp above the promise, and a rollback.
abbrev pub remakes_by : Slot → Call → Bool
remakes_by s (Creates stamp) = is_before s.promise stamp
remakes_by s (CopiesIn stamp image sealed) = is_before s.promise stamp
remakes_by s (TakesCopy h) = is_before s.promise h.promise
remakes_by s (RollsBack epoch) = true
remakes_by s c = false

abbrev pub remakes_in : Slot → Option Call → Bool
remakes_in s None = false
remakes_in s (Some c) = remakes_by s c

abbrev pub remakes : ℕ → Event → Server → Bool
remakes handle e s = remakes_in (slot_in handle s) (call_by handle e s)

abbrev pub NoneRemakes : ℕ → List Event → Server → Type 0
NoneRemakes handle [] s = Unit {0}
NoneRemakes handle (e ∷ events) s = (remakes handle e s ≡ false) × NoneRemakes handle events (behind e s)

-- damage of a block
abbrev pub damages_by : ℕ → Call → Bool
damages_by k (Damages index) = k == index
damages_by k c = false

abbrev pub damages_in : ℕ → Option Call → Bool
damages_in k None = false
damages_in k (Some c) = damages_by k c

abbrev pub damages : ℕ → ℕ → Event → Server → Bool
damages handle k e s = damages_in k (call_by handle e s)

abbrev pub NoneDamages : ℕ → ℕ → List Event → Server → Type 0
NoneDamages handle k [] s = Unit {0}
NoneDamages handle k (e ∷ events) s = (damages handle k e s ≡ false) × NoneDamages handle k events (behind e s)

-- where an edit is applied, digests tell the blocks of the replica from those of its list of edits, where they differ
abbrev pub IfEdits : Option Edit → Type 0 → Type 0
IfEdits None P = Unit {0}
IfEdits (Some e) P = P

abbrev pub IsToldBefore : ℕ → Event → Server → List Edit → Type 0
IsToldBefore handle e s edits = IfEdits (edit_in (call_by handle e s)) (IsToldIn s.block s.chunk (slot_in handle s) edits)

abbrev pub AreToldBefore : ℕ → List Event → Server → List Edit → Type 0
AreToldBefore handle [] s edits = Unit {0}
AreToldBefore handle (e ∷ events) s edits = IsToldBefore handle e s edits × AreToldBefore handle events (behind e s) (edits_behind handle e s edits)

-- Worked: the edit of a forward of two bytes, and what is made anew.
a_forward_is_an_edit : edit_in (asked_call pushed_here quiet (chunks.Forward (stamp_of 2 1) 1 (request_of 7 2) (Append 2) None)) ≡ Some (record { req = request_of 7 2; op = applied.Append; bytes = 97 ∷ 98 ∷ [] })
a_forward_is_an_edit = refl

abbrev prepares : Event
prepares = Hears (record { from = nodes.Master; to = nodes.Server 0; body = bodies.Epoch 1 Prepare }) (moment_of 0)

an_epoch_is_none : (edits : List Edit) → edits_behind 7 prepares (new 0 4 16) edits ≡ edits
an_epoch_is_none edits = refl

nor_does_it_remake : remakes 7 prepares (new 0 4 16) ≡ false
nor_does_it_remake = refl

a_create_above_the_promise_does : remakes_by nothing (Creates (stamp_of 0 1)) ≡ true
a_create_above_the_promise_does = refl

a_repeated_one_does_not : remakes_by (standing (empty_replica (stamp_of 0 1))) (Creates (stamp_of 0 1)) ≡ false
a_repeated_one_does_not = refl

another_block_is_damaged : damages_by 3 (Damages 4) ≡ false
another_block_is_damaged = refl

that_block_is_damaged : damages_by 3 (Damages 3) ≡ true
that_block_is_damaged = refl
