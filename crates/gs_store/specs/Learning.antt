-- What a slot becomes where its server learns of an epoch.
use Rattle.std.specs.Prelude.{◌≡◌, ℕ, ◌&&◌, Bool, true, false, Option, Some, None, Result, Ok, Err, refl}
use Rattle.gs_base.specs.declared.numbers.Stamp.{Stamp}
use Rattle.gs_base.specs.Stamps.{is_same}
use Rattle.gs_base.specs.declared.refusal.Refusal.{Refusal}
use Rattle.gs_block.specs.Stored.{count_of, are_digests}
use Rattle.gs_replica.specs.Held.{Held}
use Rattle.gs_replica.specs.Seals.{State, seal, unseal, roll_back_to}
use Rattle.gs_store_seal.specs.Rollback.{later}
use Rattle.gs_store.specs.Slots.{Live, Slot, sound, lost, nothing, standing, dropped, empty_replica, sealed_replica, stamp_of, sealed_of}

-- at a prepare what is live is sealed, and nothing else
abbrev pub sealed_live : Option Live → Option Live
sealed_live None = None
sealed_live (Some l) = Some (record { replica = seal l.replica; bad = l.bad })

abbrev pub prepared : Slot → Slot
prepared s = record { promise = s.promise; carried = s.carried; live = sealed_live s.live; trash = None; taken = s.taken }

abbrev pub held_in : Option Live → Option Held
held_in None = None
held_in (Some l) = Some l.replica.held

-- at a finalize what was sealed goes
abbrev pub unsealed_live : Option Live → Option Live
unsealed_live None = None
unsealed_live (Some l) = Some (record { replica = unseal l.replica; bad = l.bad })

abbrev pub finalized : Slot → Slot
finalized s = record { promise = s.promise; carried = s.carried; live = unsealed_live s.live; trash = None; taken = s.taken }

-- the stamp with which an epoch starts
abbrev pub start_of : ℕ → Stamp
start_of epoch = record { epoch = epoch; version = 0 }

-- At a rollback what was sealed is live again and is not bad, where each block of it has its sealed digest; every other replica
-- goes. The promise is never less than the one before.
abbrev pub rolled_to : Stamp → Result State Refusal → Slot → Slot
rolled_to promise (Ok r) s = record { promise = promise; carried = false; live = Some (sound r); trash = None; taken = s.taken }
rolled_to promise (Err e) s = lost s

abbrev pub rolled_back : ℕ → Slot → Slot
rolled_back epoch s = rolled_to (later s.promise (start_of epoch)) (roll_back_to (later s.promise (start_of epoch)) (sealed_of s)) s

-- what a server names of a rollback: what is live under its first stamp, each block with its digest
abbrev pub is_sound : Option Live → Bool
is_sound None = false
is_sound (Some l) = are_digests l.replica.held.chunk.block l.replica.held.chunk.bytes l.replica.held.chunk.digests

abbrev pub is_named : ℕ → Slot → Bool
is_named epoch s = is_same s.promise (start_of epoch) && is_sound s.live

sealed_at_a_prepare : prepared (standing (empty_replica (stamp_of 0 1))) ≡ standing (sealed_replica (stamp_of 0 1))
sealed_at_a_prepare = refl

given_up_at_a_finalize : finalized (dropped (sealed_replica (stamp_of 0 1))) ≡ lost (dropped (sealed_replica (stamp_of 0 1)))
given_up_at_a_finalize = refl

live_again_at_a_rollback : rolled_back 2 (standing (sealed_replica (stamp_of 0 1))) ≡ standing (empty_replica (stamp_of 2 0))
live_again_at_a_rollback = refl

from_the_trash_too : rolled_back 2 (dropped (sealed_replica (stamp_of 1 4))) ≡ standing (empty_replica (stamp_of 2 0))
from_the_trash_too = refl

an_unsealed_replica_goes : rolled_back 2 (standing (empty_replica (stamp_of 1 4))) ≡ lost (standing (empty_replica (stamp_of 1 4)))
an_unsealed_replica_goes = refl

the_empty_slot_stays : (epoch : ℕ) → rolled_back epoch nothing ≡ nothing
the_empty_slot_stays epoch = refl

named_by_a_rollback : is_named 2 (rolled_back 2 (dropped (sealed_replica (stamp_of 1 4)))) ≡ true
unfolding count_of
named_by_a_rollback = refl

not_named_once_gone : is_named 2 (rolled_back 2 (standing (empty_replica (stamp_of 1 4)))) ≡ false
not_named_once_gone = refl
