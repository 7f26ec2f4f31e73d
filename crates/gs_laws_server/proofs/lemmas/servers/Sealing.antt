-- What is sealed of a chunk, over all events of its server.
use Rattle.std.proofs.Common.{◌≡◌, ℕ, ◌+◌, Bool, true, false, List, [], ◌∷◌, Option, Some, None, refl, sym, ap, subst, ◌∙◌, inl, inr}
use Rattle.std.specs.Prelude.{Result, Ok, Err, is_some}
use Rattle.gs_base.specs.declared.numbers.Moment.{Moment}
use Rattle.gs_base.specs.declared.numbers.Stamp.{Stamp}
use Rattle.gs_base.specs.declared.refusal.Refusal.{Refusal}
use Rattle.gs_block.specs.Edits.{unless_damaged}
use Rattle.gs_replica.specs.Seals.{Sealed, State, lowest_damaged, roll_back_to}
use Rattle.gs_replica.specs.Copies.{Image, SealedImage, as_sealed}
use Rattle.gs_replica.specs.Stands.{Edit}
use Rattle.gs_msg.specs.declared.node.NodeId.{NodeId}
use Rattle.gs_msg.specs.declared.node.NodeId.TheVariants as nodes
use Rattle.gs_msg.specs.declared.body.Body.TheVariants as bodies
use Rattle.gs_msg.specs.declared.chunk.Chunk.TheVariants as chunks
use Rattle.gs_store.specs.Slots.{Slot, sealed_of}
use Rattle.gs_store.specs.Moves.{sound_image, unless_lost, copy_in}
use Rattle.gs_store_seal.specs.Rollback.{later}
use Rattle.gs_store.specs.Learning.{start_of, rolled_to}
use Rattle.gs_store.specs.Standing.{StandsIn, StoodIn, LiveUndamaged}
use Rattle.gs_store.specs.Calls.{TakesLease}
use Rattle.gs_store.proofs.Laws.{of_ok}
use Rattle.gs_store.proofs.Copying.{of_above, ArrivesSealed, arrived_sealed}
use Rattle.gs_store.proofs.Sealing.{run_stood, back}
use Rattle.gs_store.proofs.Sparing.{run_same}
use Rattle.gs_server.specs.Places.{Place, Here, Part, SlotChange, SlotBecomes, slot_after, or_else, other_epoch}
use Rattle.gs_server.specs.Promises as messages
use Rattle.gs_server.specs.Servers.{Server, place_of, here_of, changed_by, handle_chunk}
use Rattle.gs_server.specs.Runs.{Event, Hears, behind, behind_all, slot_in, rolled_back, reseals, KeepSeal, Spares, AllSpare}
use Rattle.gs_server.proofs.Behind.{event_sizes, rolled_slot}
use Rattle.gs_server.proofs.Happening.{goes_at, IsCopied}
use Rattle.gs_server.proofs.Walks.{Goes, Suits}
use Rattle.gs_laws_server.specs.servers.Sealing.{TakesSealed}
use Rattle.gs_laws_server.proofs.lemmas.servers.Calling.{own_part}

-- ---- what is sealed stays

goes_stood : (block chunk now : ℕ) (seals : Bool) (Comes : _) (Spared : Type 0) (xs : List Edit) (p q : Place) → seals ≡ false → Goes block chunk (Suits now seals Comes Spared p.slot) p q → StoodIn block chunk p.slot xs → StoodIn block chunk q.slot xs
goes_stood block chunk now seals Comes Spared xs p q kept (inl still) stood = subst (λ (x : Slot). StoodIn block chunk x xs) (sym still.slot) stood
goes_stood block chunk now seals Comes Spared xs p q kept (inr (inl m)) stood = run_stood block chunk xs p.slot q.slot (m.call ∷ []) (m.fits.seal kept, tt) (q.slot, m.is, refl) stood
goes_stood block chunk now seals Comes Spared xs p q kept (inr (inr t)) stood = run_stood block chunk xs p.slot q.slot (TakesLease t.given.stamp ∷ []) (tt, tt) (q.slot, t.is, refl) stood

sized : (a b c d : ℕ) (t : Slot) (xs : List Edit) → a ≡ c → b ≡ d → StoodIn a b t xs → StoodIn c d t xs
sized a b c d t xs first second stood = subst (λ n. StoodIn n d t xs) first (subst (λ n. StoodIn a n t xs) second stood)

pub run_seals : (block chunk handle : ℕ) (events : List Event) (s : Server) (xs : List Edit) → s.block ≡ block → s.chunk ≡ chunk → KeepSeal handle events s → StoodIn block chunk (slot_in handle s) xs → StoodIn block chunk (slot_in handle (behind_all events s)) xs
run_seals block chunk handle [] s xs b c keep stood = stood
run_seals block chunk handle (e ∷ events) s xs b c keep stood =
    let next : Server = behind e s in
    let sizes = event_sizes e s in
    run_seals block chunk handle events next xs (sizes.block ∙ b) (sizes.chunk ∙ c) keep.1
    (sized s.block s.chunk block chunk (slot_in handle next) xs b c
    (goes_stood s.block s.chunk next.kept.epoch (reseals handle e s) (IsCopied s) (Spares handle e s) xs (place_of handle s) (place_of handle next) keep.0 (goes_at handle e s)
    (sized block chunk s.block s.chunk (slot_in handle s) xs (sym b) (sym c) stood)))

-- and with each block of it, where damage was of touched blocks
abbrev Same : Slot → Slot → Type 0
Same s t = sound_image (sealed_of t) ≡ sound_image (sealed_of s)

goes_same : (block chunk now : ℕ) (seals : Bool) (Comes : _) (Spared : Type 0) (p q : Place) → seals ≡ false → Spared → Goes block chunk (Suits now seals Comes Spared p.slot) p q → Same p.slot q.slot
goes_same block chunk now seals Comes Spared p q kept spared (inl still) = ap (λ (x : Slot). sound_image (sealed_of x)) still.slot
goes_same block chunk now seals Comes Spared p q kept spared (inr (inl m)) = run_same block chunk p.slot q.slot (m.call ∷ []) (m.fits.seal kept, tt) (q.slot, m.is, m.fits.spares spared, refl)
goes_same block chunk now seals Comes Spared p q kept spared (inr (inr t)) = run_same block chunk p.slot q.slot (TakesLease t.given.stamp ∷ []) (tt, tt) (q.slot, t.is, tt, refl)

pub run_images : (handle : ℕ) (events : List Event) (s : Server) → KeepSeal handle events s → AllSpare handle events s → Same (slot_in handle s) (slot_in handle (behind_all events s))
run_images handle [] s keep spare = refl
run_images handle (e ∷ events) s keep spare =
    run_images handle events (behind e s) keep.1 spare.1
    ∙ goes_same s.block s.chunk (behind e s).kept.epoch (reseals handle e s) (IsCopied s) (Spares handle e s) (place_of handle s) (place_of handle (behind e s)) keep.0 spare.0 (goes_at handle e s)

-- ---- a copy that is accepted carries it there

pub record Accepts (part : Part) (m : Result Slot Refusal) : Type 0 where
  pub slot : Slot
  pub made : m ≡ Ok slot
  pub becomes : part.slot ≡ SlotBecomes slot

pub accepts : (h : Here) (p : Place) (stamp : Stamp) (o : Option Refusal) (m : Result Slot Refusal) → (or_else o (messages.unpromised h p stamp) (messages.promises h p stamp m)).said ≡ None → Accepts (or_else o (messages.unpromised h p stamp) (messages.promises h p stamp m)) m
accepts h p stamp (Some e) m said = absurd (cc)
accepts h p stamp None (Err e) said = absurd (cc)
accepts h p stamp None (Ok s) said = record { slot = s; made = refl; becomes = refl }

pub becomes_it : (handle : ℕ) (part : Part) (s : Server) (m : Result Slot Refusal) → Accepts part m → m ≡ Ok (slot_in handle (changed_by handle None part s))
becomes_it handle part s m a = a.made ∙ ap (λ (x : Slot). (let r : Result Slot Refusal = Ok x in r)) (sym (own_part handle None part s ∙ ap (λ (c : SlotChange). slot_after (slot_in handle s) c) a.becomes))

pub taken_copy : (s : Server) (from : NodeId) (handle : ℕ) (stamp : Stamp) (image : Image) (sealed : Option SealedImage) (moment : Moment) → (handle_chunk s from handle (chunks.CopyIn stamp image sealed) moment).said ≡ None
    → copy_in s.block s.chunk stamp image sealed (slot_in handle s) ≡ Ok (slot_in handle (handle_chunk s from handle (chunks.CopyIn stamp image sealed) moment).after)
taken_copy s from handle stamp image sealed moment said =
    let h : Here = here_of s moment handle None in
    let p : Place = place_of handle s in
    becomes_it handle (messages.copy_in h p stamp image sealed) s (copy_in s.block s.chunk stamp image sealed p.slot) (accepts h p stamp (other_epoch h stamp.epoch) (copy_in s.block s.chunk stamp image sealed p.slot) said)

carried_there : (handle : ℕ) (edits : List Edit) (s next : Server) (takes : TakesSealed handle edits s next) → ArrivesSealed s.block s.chunk edits takes.sealed (sealed_of (slot_in handle next))
carried_there handle edits s next takes =
    let image = takes.is_sealed.image in
    let copy : Result Slot Refusal = copy_in s.block s.chunk takes.stamp takes.image (Some takes.sealed) (slot_in handle s) in
    subst (λ (x : Server). ArrivesSealed s.block s.chunk edits takes.sealed (sealed_of (slot_in handle x))) (sym takes.is)
    (of_ok (λ (x : Slot). ArrivesSealed s.block s.chunk edits takes.sealed (sealed_of x)) copy _ (taken_copy s takes.from handle takes.stamp takes.image (Some takes.sealed) takes.moment takes.taken)
    (of_above (λ (x : Slot). ArrivesSealed s.block s.chunk edits takes.sealed (sealed_of x)) s.block s.chunk takes.stamp takes.image (Some takes.sealed) (slot_in handle s) takes.above
    (arrived_sealed s.block s.chunk takes.stamp takes.image takes.sealed (slot_in handle s) edits takes.sizes.some_block takes.sizes.block_fits takes.sizes.chunk_fits image.taken image.is takes.is_sealed.digests)))

-- ---- and a rollback makes it live

live_where : (promise : Stamp) (d : Option ℕ) (r : State) (i : SealedImage) (s : Slot) → is_some (rolled_to promise (unless_damaged d r) s).live ≡ is_some (unless_lost d i)
live_where promise None r i s = refl
live_where promise (Some block) r i s = refl

live_then : (promise : Stamp) (o : Option Sealed) (s : Slot) → is_some (rolled_to promise (roll_back_to promise o) s).live ≡ is_some (sound_image o)
live_then promise None s = refl
live_then promise (Some t) s = live_where promise (lowest_damaged t.undone) _ (as_sealed t) s

pub rolled_stands : (block chunk handle : ℕ) (s : Server) (xs : List Edit) → StoodIn block chunk (slot_in handle s) xs → is_some (slot_in handle (rolled_back s)).live ≡ true → StandsIn block chunk (slot_in handle (rolled_back s)) xs × LiveUndamaged (slot_in handle (rolled_back s)).live
rolled_stands block chunk handle s xs stood live =
    let rolled = rolled_slot handle s in
    subst (λ (x : Slot). StandsIn block chunk x xs × LiveUndamaged x.live) (sym rolled) (back block chunk xs (s.kept.epoch + 1) (slot_in handle s) stood (subst (λ (x : Slot). is_some x.live ≡ true) rolled live))

pub rolled_lives : (handle : ℕ) (s : Server) → is_some (slot_in handle (rolled_back s)).live ≡ is_some (sound_image (sealed_of (slot_in handle s)))
rolled_lives handle s =
    let t : Slot = slot_in handle s in
    ap (λ (x : Slot). is_some x.live) (rolled_slot handle s) ∙ live_then (later t.promise (start_of (s.kept.epoch + 1))) (sealed_of t) t

module _ (handle : ℕ) (edits : List Edit) (events : List Event) (s next : Server) (takes : TakesSealed handle edits s next) (keep : KeepSeal handle events next) where
  abbrev heard : Event
  heard = Hears (record { from = takes.from; to = nodes.Master; body = bodies.About handle (chunks.CopyIn takes.stamp takes.image (Some takes.sealed)) }) takes.moment

  copied_end : StoodIn s.block s.chunk (slot_in handle (behind_all events next)) edits
  copied_end =
      let sizes = event_sizes heard s in
      run_seals s.block s.chunk handle events next edits (ap (λ (x : Server). x.block) takes.is ∙ sizes.block) (ap (λ (x : Server). x.chunk) takes.is ∙ sizes.chunk) keep (carried_there handle edits s next takes).0

  pub copied_stands : is_some (slot_in handle (rolled_back (behind_all events next))).live ≡ true → StandsIn s.block s.chunk (slot_in handle (rolled_back (behind_all events next))) edits × LiveUndamaged (slot_in handle (rolled_back (behind_all events next))).live
  copied_stands live = rolled_stands s.block s.chunk handle (behind_all events next) edits copied_end live

  pub copied_lives : AllSpare handle events next → is_some (slot_in handle (rolled_back (behind_all events next))).live ≡ true
  copied_lives spare = rolled_lives handle (behind_all events next) ∙ ap is_some (run_images handle events next keep spare ∙ (carried_there handle edits s next takes).1)
