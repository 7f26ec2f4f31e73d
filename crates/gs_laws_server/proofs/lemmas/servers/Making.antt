-- What a replica that is made anew stands for.
use Rattle.std.proofs.Common.{◌≡◌, ◌≤◌, ℕ, Bool, true, false, cond, List, [], ◌∷◌, Option, Some, None, refl, sym, ap, subst, ◌∙◌}
use Rattle.std.specs.Prelude.{Result, Ok, Err}
use Rattle.gs_base.specs.declared.numbers.Moment.{Moment}
use Rattle.gs_base.specs.declared.numbers.Stamp.{Stamp}
use Rattle.gs_base.specs.declared.refusal.Refusal.{Refusal}
use Rattle.gs_base.specs.Stamps.{is_before}
use Rattle.gs_block.specs.Stored.{Stored}
use Rattle.gs_block.specs.Edits as blocks
use Rattle.gs_replica.specs.Edits as edits
use Rattle.gs_replica.specs.Edits.{fresh}
use Rattle.gs_replica.specs.Held.{Held}
use Rattle.gs_replica.specs.Seals.{State}
use Rattle.gs_replica.specs.Copies.{Image, SealedImage, image, and_then}
use Rattle.gs_replica.specs.Stands.{Edit, StandsFor, replica_of}
use Rattle.gs_replica.proofs.Own.{own, alike_stands}
use Rattle.gs_replica.proofs.Keeping.{copied_stands}
use Rattle.gs_msg.specs.declared.node.NodeId.{NodeId}
use Rattle.gs_msg.specs.declared.node.NodeId.TheVariants as nodes
use Rattle.gs_msg.specs.declared.message.Message.{Message}
use Rattle.gs_msg.specs.declared.chunk.Chunk.TheVariants as chunks
use Rattle.gs_store.specs.Slots.{Slot, sealed_of, again, replaced}
use Rattle.gs_store.specs.Slots as slots
use Rattle.gs_store.specs.Moves.{sound_image, source, live_in, copied_from, take_copy, copy_in}
use Rattle.gs_store.specs.Moves as moves
use Rattle.gs_store.specs.Standing.{LiveUndamaged, StandsIn, IsToldIn}
use Rattle.gs_store.proofs.Laws.{of_ok, of_cond}
use Rattle.gs_store.proofs.Standing.{fresh_in, same_ok, unless_ok}
use Rattle.gs_store.proofs.Copying.{then_ok, live_stands, live_told, image_stands, of_above, Arrives, arrived}
use Rattle.gs_server.specs.Places.{Place, Here, about, or_else, other_epoch, promising}
use Rattle.gs_server.specs.Promises as messages
use Rattle.gs_server.specs.Promises.{Copying}
use Rattle.gs_server.specs.Servers.{Server, new, place_of, here_of, copies, handle_chunk, make_copy}
use Rattle.gs_server.specs.Runs.{Event, behind, behind_all, slot_in, IsReached}
use Rattle.gs_server.proofs.Behind.{event_sizes}
use Rattle.gs_laws_server.specs.servers.Sealing.{HasSizes, IsImageOf}
use Rattle.gs_laws_server.proofs.lemmas.servers.Tests.{never_both}
use Rattle.gs_laws_server.proofs.lemmas.servers.Calling.{own_part}
use Rattle.gs_laws_server.proofs.lemmas.servers.Sealing.{accepts, becomes_it, taken_copy}

-- ---- a create

pub created_stands : (s : Server) (from : NodeId) (handle : ℕ) (stamp : Stamp) (moment : Moment) → HasSizes s → is_before (slot_in handle s).promise stamp ≡ true → (handle_chunk s from handle (chunks.Create stamp) moment).said ≡ None
    → StandsIn s.block s.chunk (slot_in handle (handle_chunk s from handle (chunks.Create stamp) moment).after) []
created_stands s from handle stamp moment sizes above said =
    let h : Here = here_of s moment handle None in
    let p : Place = place_of handle s in
    let made : Result Slot Refusal = slots.create s.block s.chunk stamp p.slot in
    of_ok (λ (x : Slot). StandsIn s.block s.chunk x []) made _ (becomes_it handle (messages.create h p stamp) s made (accepts h p stamp (other_epoch h stamp.epoch) made said))
    (of_cond (λ (x : Slot). StandsIn s.block s.chunk x []) (is_before p.slot.promise stamp) (Ok (replaced stamp false (record { held = fresh s.block s.chunk stamp; sealed = None }) p.slot)) (again stamp p.slot)
    (λ _. fresh_in s.block s.chunk stamp sizes.some_block sizes.block_fits sizes.chunk_fits) (λ below. never_both (is_before p.slot.promise stamp) above below))

-- ---- a copy that is sent, and one that is taken

record Sends (h : Here) (target : ℕ) (stamp : Stamp) (sent : List Message) (m : Result (Image × Option SealedImage) Refusal) : Type 0 where
  copy : Image × Option SealedImage
  made : m ≡ Ok copy
  is : sent ≡ about h (nodes.Server target) (chunks.CopyIn stamp copy.0 copy.1) ∷ []

sends : (h : Here) (p : Place) (stamp : Stamp) (target : ℕ) (o : Option Refusal) (m : Result (Image × Option SealedImage) Refusal) → (or_else o (messages.unpromised h p stamp) (messages.sends_copy h p stamp target m)).said ≡ None
    → Sends h target stamp (or_else o (messages.unpromised h p stamp) (messages.sends_copy h p stamp target m)).sent m
sends h p stamp target (Some e) m said = absurd (cc)
sends h p stamp target None (Err e) said = absurd (cc)
sends h p stamp target None (Ok copy) said = record { copy = copy; made = refl; is = refl }

copy_is : (block chunk : ℕ) (stamp : Stamp) (with_sealed : Bool) (s : Slot) (copy : Image × Option SealedImage) (xs : List Edit) → StandsIn block chunk s xs → IsToldIn block chunk s xs → moves.copy_out stamp with_sealed s ≡ Ok copy
    → copy ≡ (replica_of chunk xs, cond with_sealed (sound_image (sealed_of s)) None)
copy_is block chunk stamp with_sealed s copy xs stands told is =
    let sealed : Option SealedImage = cond with_sealed (sound_image (sealed_of s)) None in
    let a = then_ok (source stamp s) (λ r. and_then {B = Image × Option SealedImage} (image r) (λ i. Ok (i, sealed))) copy is in
    let b = then_ok (image a.first) (λ i. Ok (i, sealed)) copy a.then in
    let r : live_in s.live ≡ Ok a.first = unless_ok _ (live_in s.live) a.first a.made in
    same_ok (b.first, sealed) copy b.then
    ∙ ap (λ (i : Image). (let q : Image × Option SealedImage = (i, sealed) in q)) (image_stands block chunk a.first b.first xs (live_stands block chunk s.live a.first xs stands r) (live_told block chunk s.live a.first xs told r) b.made)

pub sent_is : (s : Server) (from : NodeId) (handle : ℕ) (stamp : Stamp) (target : ℕ) (with_sealed : Bool) (moment : Moment) (xs : List Edit) → StandsIn s.block s.chunk (slot_in handle s) xs → IsToldIn s.block s.chunk (slot_in handle s) xs
    → (handle_chunk s from handle (chunks.CopyOut stamp target with_sealed) moment).said ≡ None
    → (handle_chunk s from handle (chunks.CopyOut stamp target with_sealed) moment).sent ≡ about (here_of s moment handle None) (nodes.Server target) (chunks.CopyIn stamp (replica_of s.chunk xs) (cond with_sealed (sound_image (sealed_of (slot_in handle s))) None)) ∷ []
sent_is s from handle stamp target with_sealed moment xs stands told said =
    let h : Here = here_of s moment handle None in
    let p : Place = place_of handle s in
    let m : Result (Image × Option SealedImage) Refusal = moves.copy_out stamp with_sealed p.slot in
    let a = sends h p stamp target (other_epoch h stamp.epoch) m said in
    a.is ∙ ap (λ (q : Image × Option SealedImage). about h (nodes.Server target) (chunks.CopyIn stamp q.0 q.1) ∷ []) (copy_is s.block s.chunk stamp with_sealed p.slot a.copy xs stands told a.made)

pub arrived_stands : (s : Server) (from : NodeId) (handle : ℕ) (stamp : Stamp) (i : Image) (sealed : Option SealedImage) (moment : Moment) (xs : List Edit) → HasSizes s → IsImageOf i xs s → is_before (slot_in handle s).promise stamp ≡ true
    → (handle_chunk s from handle (chunks.CopyIn stamp i sealed) moment).said ≡ None
    → StandsIn s.block s.chunk (slot_in handle (handle_chunk s from handle (chunks.CopyIn stamp i sealed) moment).after) xs × LiveUndamaged (slot_in handle (handle_chunk s from handle (chunks.CopyIn stamp i sealed) moment).after).live
arrived_stands s from handle stamp i sealed moment xs sizes of above said =
    of_ok (λ (x : Slot). Arrives s.block s.chunk xs x.live) (copy_in s.block s.chunk stamp i sealed (slot_in handle s)) _ (taken_copy s from handle stamp i sealed moment said)
    (of_above (λ (x : Slot). Arrives s.block s.chunk xs x.live) s.block s.chunk stamp i sealed (slot_in handle s) above (arrived s.block s.chunk stamp i sealed (slot_in handle s) xs sizes.some_block sizes.block_fits sizes.chunk_fits of.taken of.is))

-- ---- a copy under a new handle

promise_is : (stamp : Stamp) (r h : Held) (m : Result Stored Refusal) → edits.held_of stamp r.count r.done m ≡ Ok h → h.promise ≡ stamp
promise_is stamp r h (Ok c) is = ap (λ (x : Held). x.promise) (same_ok _ h is)
promise_is stamp r h (Err e) is = absurd (cc)

abbrev Stands : ℕ → ℕ → List Edit → Slot → Type 0
Stands block chunk xs t = StandsIn block chunk t xs × LiveUndamaged t.live

made_stands : (block chunk : ℕ) (at stamp : Stamp) (old target t : Slot) (xs : List Edit) → StandsIn block chunk old xs → is_before target.promise stamp ≡ true → moves.make_copy at stamp old target ≡ Ok t → Stands block chunk xs t
made_stands block chunk at stamp old target t xs stands above is =
    let a = then_ok (copied_from at stamp old) (λ h. take_copy h target) t is in
    let held : Held = a.first in
    let b = then_ok (source at old) (λ (r : State). edits.copied stamp r.held) held a.made in
    let r : Held = b.first.held in
    let there : StandsFor block chunk r xs = live_stands block chunk old.live b.first xs stands (unless_ok _ (live_in old.live) b.first b.made) in
    let c = copied_stands stamp r held xs (own block chunk r xs there) b.then in
    let promise : held.promise ≡ stamp = promise_is stamp r held (blocks.copied r.chunk) b.then in
    of_ok (Stands block chunk xs) (take_copy held target) t a.then
    (of_cond (Stands block chunk xs) (is_before target.promise held.promise) (Ok (replaced held.promise false (record { held = held; sealed = None }) target)) (again held.promise target)
    (λ _. (alike_stands block chunk r held xs xs there c.0 c.1, c.2))
    (λ below. never_both (is_before target.promise held.promise) (ap (is_before target.promise) promise ∙ above) below))

copying_stands : (s : Server) (handle new_handle : ℕ) (h new : Here) (at stamp : Stamp) (xs : List Edit) (o : Option Refusal) (m : Result Slot Refusal) → ((t : Slot) → m ≡ Ok t → Stands s.block s.chunk xs t)
    → (messages.or_copy o (messages.not_copied h (place_of handle s) new stamp) (messages.copies h (place_of handle s) new (place_of new_handle s) stamp m)).target.said ≡ None
    → Stands s.block s.chunk xs (slot_in new_handle (copies handle new_handle (messages.or_copy o (messages.not_copied h (place_of handle s) new stamp) (messages.copies h (place_of handle s) new (place_of new_handle s) stamp m)) s).after)
copying_stands s handle new_handle h new at stamp xs (Some e) m each said = absurd (cc)
copying_stands s handle new_handle h new at stamp xs None (Err e) each said = absurd (cc)
copying_stands s handle new_handle h new at stamp xs None (Ok t) each said =
    subst (Stands s.block s.chunk xs) (sym (own_part new_handle None (promising t (place_of new_handle s) (messages.promised new stamp t ∷ [])) s)) (each t refl)

pub copy_stands : (s : Server) (handle : ℕ) (at : Stamp) (new_handle : ℕ) (stamp : Stamp) (moment : Moment) (xs : List Edit) → StandsIn s.block s.chunk (slot_in handle s) xs → is_before (slot_in new_handle s).promise stamp ≡ true
    → (make_copy s handle at new_handle stamp moment).said ≡ None
    → StandsIn s.block s.chunk (slot_in new_handle (make_copy s handle at new_handle stamp moment).after) xs × LiveUndamaged (slot_in new_handle (make_copy s handle at new_handle stamp moment).after).live
copy_stands s handle at new_handle stamp moment xs stands above said =
    let h : Here = here_of s moment handle None in
    let new : Here = here_of s moment new_handle None in
    copying_stands s handle new_handle h new at stamp xs (other_epoch h stamp.epoch) (moves.make_copy at stamp (slot_in handle s) (slot_in new_handle s))
    (λ t is. made_stands s.block s.chunk at stamp (slot_in handle s) (slot_in new_handle s) t xs stands above is) said

-- ---- the sizes of each server that is reached

same_sizes : (events : List Event) (s : Server) → ((behind_all events s).block ≡ s.block) × ((behind_all events s).chunk ≡ s.chunk)
same_sizes [] s = (refl, refl)
same_sizes (e ∷ events) s =
    let sizes = event_sizes e s in
    let rest = same_sizes events (behind e s) in
    (rest.0 ∙ sizes.block, rest.1 ∙ sizes.chunk)

pub reached_sizes : (s : Server) → IsReached s → HasSizes s
reached_sizes s r =
    let sizes = same_sizes r.events (new r.me r.block r.chunk) in
    let block : s.block ≡ r.block = ap (λ (x : Server). x.block) r.is ∙ sizes.0 in
    let chunk : s.chunk ≡ r.chunk = ap (λ (x : Server). x.chunk) r.is ∙ sizes.1 in
    record { some_block = subst (λ n. 1 ≤ n) (sym block) r.some_block; block_fits = subst (λ n. n ≤ 65536) (sym block) r.block_fits; chunk_fits = subst (λ n. n ≤ 67108864) (sym chunk) r.chunk_fits }
