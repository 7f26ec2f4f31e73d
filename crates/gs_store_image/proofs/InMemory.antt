-- What stands in memory is read again, where it can be written.
use Rattle.std.proofs.Common.{ℕ, List, [], ◌∷◌, Option, Some, None, refl, subst}
use Rattle.std.specs.FinMap as fin
use Rattle.std.specs.List.{AllByRecursion}
use Rattle.gs_fields.specs.Writable.{IsOption}
use Rattle.gs_replica.specs.Seals.{State}
use Rattle.gs_store.specs.Slots.{Live, Slot}
use Rattle.gs_store.specs.Stores.{Store, restarted}
use Rattle.gs_store.specs.Whole.{HasSizes, LiveHasSizes, TrashHasSizes, IsSlotOf}
use Rattle.gs_store_image.specs.Inside.{LiveHeld, TrashHeld}
use Rattle.gs_store_image.specs.StoreWritable.{IsReplicaHeld, IsSlotHeld, IsLiveTold, IsKeptTold, IsStoreTold, IsLive, IsKept, AreSlotsOf, IsStore}
use Rattle.gs_store_image.specs.Writable.{IsTold, IsReplica}

held_of_sizes : (block chunk : ℕ) (r : State) → IsReplicaHeld r → HasSizes block chunk r → IsTold r → IsReplica block chunk r
held_of_sizes block chunk r held sizes told =
    subst (λ n. IsReplica n chunk r) sizes.block_is (subst (λ n. IsReplica r.held.chunk.block n r) sizes.chunk_is (held told))

live_held : (block chunk : ℕ) (o : Option Live) → LiveHeld o → LiveHasSizes block chunk o → IsOption IsLiveTold o → IsOption (IsLive block chunk) o
live_held block chunk None held sizes told = tt
live_held block chunk (Some l) held sizes told = (held_of_sizes block chunk l.replica held sizes told.0, told.1)

trash_held : (block chunk : ℕ) (o : Option State) → TrashHeld o → TrashHasSizes block chunk o → IsOption IsTold o → IsOption (IsReplica block chunk) o
trash_held block chunk None held sizes told = tt
trash_held block chunk (Some r) held sizes told = held_of_sizes block chunk r held sizes told

pub slot_held : (s : Slot) → LiveHeld s.live → TrashHeld s.trash → IsSlotHeld s
slot_held s live trash block chunk of told = (
  (told.0, (tt, (live_held block chunk s.live live of.live told.1.1.0, (trash_held block chunk s.trash trash of.trash told.1.1.1.0, told.1.1.1.1)))),
  of.keeps,
)

abbrev Entries : Type 0
Entries = List (ℕ × Slot)

each_held : (block chunk : ℕ) (es : Entries) → AllByRecursion (λ e. IsSlotHeld e.1) es → AllByRecursion (λ e. IsSlotOf block chunk e.1) es → AllByRecursion IsKeptTold es → AllByRecursion (IsKept block chunk) es
each_held block chunk [] held of told = tt
each_held block chunk (e ∷ es) held of told = ((told.0.0, held.0 block chunk of.0 told.0.1), each_held block chunk es held.1 of.1 told.1)

pub store_held : (s : Store) → AllByRecursion (λ e. IsSlotHeld e.1) (fin.entries s.slots) → IsStoreTold s → AreSlotsOf s.block s.chunk s.slots → IsStore s.block s.chunk (restarted s)
store_held s held told of = record {
  block_is = refl;
  chunk_is = refl;
  none_pushed = refl;
  epoch = told.0;
  kept = (told.1.0, each_held s.block s.chunk (fin.entries s.slots) held of told.1.1);
  slots = of;
}
