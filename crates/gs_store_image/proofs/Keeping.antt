-- The tests of slots tell what the definitions of stores say.
use Rattle.std.proofs.Common.{◌≡◌, ℕ, Bool, true, false, not, List, [], ◌∷◌, Option, Some, None, Decides, refl}
use Rattle.std.specs.Prelude.{◌&&◌, ◌==◌, is_some}
use Rattle.std.specs.List.{AllByRecursion}
use Rattle.std.proofs.lemmas.Bool.Decides.{Decides-eqb}
use Rattle.gs_base.specs.declared.numbers.Stamp.{Stamp}
use Rattle.gs_base.specs.Stamps.{is_before}
use Rattle.gs_replica.specs.Seals.{Sealed, State, stamp_of}
use Rattle.gs_store.specs.Slots.{Live, Slot, sealed_of}
use Rattle.gs_store.specs.Whole.{LiveUnder, TrashSealed, Reaches, Keeps, SealHasSizes, HasSizes, LiveHasSizes, TrashHasSizes, IsSlotOf, is_sealed}
use Rattle.gs_store.proofs.Parted.{decides_stamp}
use Rattle.gs_store_image.specs.Keeping.{is_under, is_trash, reaches, keeps, seal_has_sizes, has_sizes, live_has_sizes, trash_has_sizes, is_slot_of, are_slots_of}
use Rattle.gs_store_image.proofs.Belonging.{decides_both, decides_as}

decides_not : (b : Bool) → Decides (not b) (b ≡ false)
decides_not true = (λ h. absurd (cc), λ h. absurd (cc))
decides_not false = (λ h. refl, λ h. refl)

decides_under : (promise : Stamp) (o : Option Live) → Decides (is_under promise o) (LiveUnder promise o)
decides_under promise None = (λ h. tt, λ h. refl)
decides_under promise (Some l) = decides_stamp l.replica.held.promise promise

decides_trash : (o : Option State) → Decides (is_trash o) (TrashSealed o)
decides_trash None = (λ h. tt, λ h. refl)
decides_trash (Some r) = (λ h. h, λ h. h)

decides_reaches : (promise : Stamp) (o : Option Stamp) → Decides (reaches promise o) (Reaches promise o)
decides_reaches promise None = (λ h. tt, λ h. refl)
decides_reaches promise (Some stamp) = decides_not (is_before promise stamp)

pub decides_keeps : (s : Slot) → Decides (keeps s) (Keeps s.promise s.live s.trash s.taken)
decides_keeps s =
    decides_as (keeps s)
    (λ h. record { live_is = h.0; trash_is = h.1.0; one = h.1.1.0; taken_is = h.1.1.1 })
    (λ h. (h.live_is, (h.trash_is, (h.one, h.taken_is))))
    (decides_both (is_under s.promise s.live) (is_trash s.trash && (not (is_sealed s.live && is_some s.trash) && reaches s.promise s.taken)) (decides_under s.promise s.live)
    (decides_both (is_trash s.trash) (not (is_sealed s.live && is_some s.trash) && reaches s.promise s.taken) (decides_trash s.trash)
    (decides_both (not (is_sealed s.live && is_some s.trash)) (reaches s.promise s.taken) (decides_not (is_sealed s.live && is_some s.trash)) (decides_reaches s.promise s.taken))))

decides_seal : (block chunk : ℕ) (o : Option Sealed) → Decides (seal_has_sizes block chunk o) (SealHasSizes block chunk o)
decides_seal block chunk None = (λ h. tt, λ h. refl)
decides_seal block chunk (Some t) = decides_both (t.undone.block == block) (t.undone.chunk == chunk) (Decides-eqb t.undone.block block) (Decides-eqb t.undone.chunk chunk)

decides_sizes : (block chunk : ℕ) (r : State) → Decides (has_sizes block chunk r) (HasSizes block chunk r)
decides_sizes block chunk r =
    decides_as (has_sizes block chunk r)
    (λ h. record { block_is = h.0; chunk_is = h.1.0; undone = h.1.1 })
    (λ h. (h.block_is, (h.chunk_is, h.undone)))
    (decides_both (r.held.chunk.block == block) ((r.held.chunk.chunk == chunk) && seal_has_sizes block chunk r.sealed) (Decides-eqb r.held.chunk.block block)
    (decides_both (r.held.chunk.chunk == chunk) (seal_has_sizes block chunk r.sealed) (Decides-eqb r.held.chunk.chunk chunk) (decides_seal block chunk r.sealed)))

decides_live : (block chunk : ℕ) (o : Option Live) → Decides (live_has_sizes block chunk o) (LiveHasSizes block chunk o)
decides_live block chunk None = (λ h. tt, λ h. refl)
decides_live block chunk (Some l) = decides_sizes block chunk l.replica

decides_trash_sizes : (block chunk : ℕ) (o : Option State) → Decides (trash_has_sizes block chunk o) (TrashHasSizes block chunk o)
decides_trash_sizes block chunk None = (λ h. tt, λ h. refl)
decides_trash_sizes block chunk (Some r) = decides_sizes block chunk r

pub decides_slot_of : (block chunk : ℕ) (s : Slot) → Decides (is_slot_of block chunk s) (IsSlotOf block chunk s)
decides_slot_of block chunk s =
    decides_as (is_slot_of block chunk s)
    (λ h. record { keeps = h.0; live = h.1.0; trash = h.1.1.0; sealed = h.1.1.1 })
    (λ h. (h.keeps, (h.live, (h.trash, h.sealed))))
    (decides_both (keeps s) (live_has_sizes block chunk s.live && (trash_has_sizes block chunk s.trash && reaches s.promise (stamp_of (sealed_of s)))) (decides_keeps s)
    (decides_both (live_has_sizes block chunk s.live) (trash_has_sizes block chunk s.trash && reaches s.promise (stamp_of (sealed_of s))) (decides_live block chunk s.live)
    (decides_both (trash_has_sizes block chunk s.trash) (reaches s.promise (stamp_of (sealed_of s))) (decides_trash_sizes block chunk s.trash) (decides_reaches s.promise (stamp_of (sealed_of s))))))

pub decides_all : (block chunk : ℕ) (es : List (ℕ × Slot)) → Decides (are_slots_of block chunk es) (AllByRecursion (λ e. IsSlotOf block chunk e.1) es)
decides_all block chunk [] = (λ h. tt, λ h. refl)
decides_all block chunk (e ∷ es) = decides_both (is_slot_of block chunk e.1) (are_slots_of block chunk es) (decides_slot_of block chunk e.1) (decides_all block chunk es)
