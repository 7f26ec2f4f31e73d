-- Each slot of a server is one of a store of its sizes, where no copy that it heard of carried an image that was sealed under a stamp above its own.
use Rattle.std.proofs.Common.{◌≡◌, ◌∙◌, ◌+◌, ◌==◌, ℕ, Bool, true, false, cond, List, [], ◌∷◌, length, Option, Some, None, Result, Ok, Err, ap, refl, subst, sym}
use Rattle.std.specs.Prelude.{T}
use Rattle.std.specs.Cmp.{eq_by_cmp_equiv, nat_cmp_total}
use Rattle.std.specs.FinMap as fin
use Rattle.std.specs.FinMap.Entries.{below_all}
use Rattle.std.specs.List.{AllByRecursion}
use Rattle.std.specs.Ordering.{eq_by_cmp, is_lt, nat_cmp}
use Rattle.gs_base.specs.declared.epoch.EpochEnd.{EpochEnd}
use Rattle.gs_base.specs.declared.epoch.EpochEnd.TheVariants.{Prepare, Finalize, Rollback}
use Rattle.gs_base.specs.declared.numbers.Moment.{Moment}
use Rattle.gs_base.specs.declared.numbers.ReqId.{ReqId}
use Rattle.gs_base.specs.declared.numbers.Stamp.{Stamp}
use Rattle.gs_base.specs.declared.refusal.Refusal.{Refusal}
use Rattle.gs_block.specs.Edits.{unless_damaged}
use Rattle.gs_block.specs.Stored.{Stored, first_damaged}
use Rattle.gs_msg.specs.declared.body.Body.{Body}
use Rattle.gs_msg.specs.declared.body.Body.TheVariants as bodies
use Rattle.gs_msg.specs.declared.chunk.Chunk.{Chunk}
use Rattle.gs_msg.specs.declared.chunk.Chunk.TheVariants as chunks
use Rattle.gs_msg.specs.declared.node.NodeId.{NodeId}
use Rattle.gs_msg.specs.declared.op.Op.{Op}
use Rattle.gs_replica.specs.Copies.{and_then}
use Rattle.gs_replica.specs.Edits.{copied, held_of}
use Rattle.gs_replica.specs.Held.{Held}
use Rattle.gs_replica.specs.Seals.{State}
use Rattle.gs_store.specs.Calls.{Call, Damages, Fits, Loses, called}
use Rattle.gs_store.specs.Moves.{copied_from, live_in, source}
use Rattle.gs_store.specs.Slots.{Live, Slot, first_of, if_bad, unless, unless_live, unless_promised}
use Rattle.gs_store.specs.Slots as slots
use Rattle.gs_store.specs.Stores.{or_nothing}
use Rattle.gs_store.specs.Whole.{IsSlotOf, LiveHasSizes}
use Rattle.gs_store.proofs.Keeping.{nothing_whole, stays_whole}
use Rattle.gs_store.proofs.Keys.{first, not_tied, second}
use Rattle.gs_store.proofs.Laws.{of_ok}
use Rattle.gs_store.proofs.Places.{same_key}
use Rattle.gs_server.specs.Places.{Here, Place, SlotChange, SlotBecomes, SlotMarked, SlotStays}
use Rattle.gs_server.specs.Promises.{Copying}
use Rattle.gs_server.specs.Promises as promises
use Rattle.gs_server.specs.Runs.{BecomesBy, Event, Hears, Restarts, Ticks, behind, slot_in}
use Rattle.gs_server.specs.Runs as runs
use Rattle.gs_server.specs.Servers.{Server, about_chunk, here_of, new, place_of, request_in}
use Rattle.gs_laws_server.specs.servers.Calling.{asked_call, call_at, call_by, copy_taken, end_call, first_call, heard_call, if_done, made_by, numbered_call}
use Rattle.gs_laws_server.proofs.lemmas.servers.Calling.{event_calls}
use Rattle.gs_store_image.specs.StoreWritable.{AreSlotsOf}
use Rattle.gs_laws_image.specs.Slots.{IsSealedBody, IsSealedAbout}

-- each slot is one of a store of these sizes
abbrev pub AllSlotsOf : ℕ → ℕ → Server → Type 0
AllSlotsOf block chunk s = (handle : ℕ) → IsSlotOf block chunk (slot_in handle s)

-- what a server hears, if it hears something, carries no image that was sealed above
abbrev pub HearsSealed : Event → Type 0
HearsSealed (Hears message moment) = IsSealedBody message.body
HearsSealed e = Unit {0}

module _ (block chunk : ℕ) where
  -- of a call, if there is one
  abbrev FitsIf : Option Call → Type 0
  FitsIf None = Unit {0}
  FitsIf (Some c) = Fits block chunk c

  if_fits : (b : Bool) (o : Option Call) → FitsIf o → FitsIf (cond b o None)
  if_fits true o fits = fits
  if_fits false o fits = tt

  first_fits : (first second : Option Call) → FitsIf first → FitsIf second → FitsIf (first_call first second)
  first_fits None second one other = other
  first_fits (Some c) second one other = one

  made_fits : (change : SlotChange) (asked : Option Call) → FitsIf asked → FitsIf (made_by change asked)
  made_fits SlotStays asked fits = tt
  made_fits (SlotBecomes s) asked fits = fits
  made_fits (SlotMarked index) asked fits = tt

  numbered_fits : (h : Here) (req : ReqId) (stamp : Stamp) (op : Op) (live : Option Live) → FitsIf (numbered_call h req stamp op live)
  numbered_fits h req stamp op None = tt
  numbered_fits h req stamp op (Some live) = tt

  asked_fits : (h : Here) (p : Place) (said : Chunk) → IsSealedAbout said → FitsIf (asked_call h p said)
  asked_fits h p (chunks.Create stamp) sealed = tt
  asked_fits h p (chunks.Advance stamp) sealed = tt
  asked_fits h p (chunks.Grant given) sealed = tt
  asked_fits h p (chunks.Edit req stamp op) sealed = numbered_fits h req stamp op p.slot.live
  asked_fits h p (chunks.Forward stamp number req op carried) sealed = tt
  asked_fits h p (chunks.CopyIn stamp image of) sealed = sealed
  asked_fits h p (chunks.Drop epoch promise) sealed = tt
  asked_fits h p said sealed = tt

  -- ---- a copy under a new handle has the sizes of its source

  abbrev HaveSizes : Stored → Type 0
  HaveSizes c = (c.block ≡ block) × (c.chunk ≡ chunk)

  abbrev FoundSizes : Result State Refusal → Type 0
  FoundSizes (Ok r) = HaveSizes r.held.chunk
  FoundSizes (Err e) = Unit {0}

  source_sizes : (o : Option Refusal) (live : Option Live) → LiveHasSizes block chunk live → FoundSizes (unless o (live_in live))
  source_sizes None None sizes = tt
  source_sizes None (Some l) sizes = (sizes.block_is, sizes.chunk_is)
  source_sizes (Some e) live sizes = tt

  held_fits : (o : Option ℕ) (stamp : Stamp) (r : Held) → HaveSizes r.chunk → FitsIf (copy_taken (held_of stamp r.count r.done (unless_damaged o r.chunk)))
  held_fits None stamp r sizes = sizes
  held_fits (Some index) stamp r sizes = tt

  taken_fits : (m : Result State Refusal) (stamp : Stamp) → FoundSizes m → FitsIf (copy_taken (and_then m (λ r. copied stamp r.held)))
  taken_fits (Ok r) stamp sizes = held_fits (first_damaged r.held.chunk.block r.held.chunk.bytes r.held.chunk.digests 0 (length r.held.chunk.digests)) stamp r.held sizes
  taken_fits (Err e) stamp sizes = tt

  copy_fits : (at stamp : Stamp) (s : Slot) → IsSlotOf block chunk s → FitsIf (copy_taken (copied_from at stamp s))
  copy_fits at stamp s of = taken_fits (source at s) stamp (source_sizes (first_of (unless_promised at s ∷ unless_live s.live ∷ if_bad s.live ∷ [])) s.live of.live)

  -- ---- an event

  epoch_fits : (here next : Bool) (epoch : ℕ) (end : EpochEnd) → FitsIf (cond here None (cond next (Some (end_call epoch end)) None))
  epoch_fits true next epoch end = tt
  epoch_fits false false epoch end = tt
  epoch_fits false true epoch Prepare = tt
  epoch_fits false true epoch Finalize = tt
  epoch_fits false true epoch Rollback = tt

  heard_fits : (q : ℕ) (s : Server) (from : NodeId) (body : Body) (moment : Moment) → AllSlotsOf block chunk s → IsSealedBody body → FitsIf (heard_call q s from body moment)
  heard_fits q s from (bodies.About other said) moment all sealed =
      let h : Here = here_of s moment other (request_in said) in
      if_fits (q == other) (call_at h (place_of other s) from said)
      (made_fits (about_chunk h (place_of other s) from said).slot (asked_call h (place_of other s) said) (asked_fits h (place_of other s) said sealed))
  heard_fits q s from (bodies.MakeCopy old_handle at new_handle stamp) moment all sealed =
      let copying : Copying = promises.make_copy (here_of s moment old_handle None) (place_of old_handle s) at (here_of s moment new_handle None) (place_of new_handle s) stamp in
      let taken : Option Call = copy_taken (copied_from at stamp (slot_in old_handle s)) in
      first_fits (cond (q == new_handle) (made_by copying.target.slot taken) None) (cond (q == old_handle) (made_by copying.source None) None)
      (if_fits (q == new_handle) (made_by copying.target.slot taken) (made_fits copying.target.slot taken (copy_fits at stamp (slot_in old_handle s) (all old_handle))))
      (if_fits (q == old_handle) (made_by copying.source None) (made_fits copying.source None tt))
  heard_fits q s from (bodies.Epoch epoch end) moment all sealed = epoch_fits (epoch == s.kept.epoch) (epoch == s.kept.epoch + 1) epoch end
  heard_fits q s from body moment all sealed = tt

  done_fits : (c : Call) (m : Result Slot Refusal) → Fits block chunk c → FitsIf (if_done c m)
  done_fits c (Ok s) fits = fits
  done_fits c (Err e) fits = tt

  event_fits : (q : ℕ) (e : Event) (s : Server) → AllSlotsOf block chunk s → HearsSealed e → FitsIf (call_by q e s)
  event_fits q (Hears message moment) s all sealed = heard_fits q s message.from message.body moment all sealed
  event_fits q (Ticks moment) s all sealed = tt
  event_fits q Restarts s all sealed = tt
  event_fits q (runs.Loses other) s all sealed = if_fits (q == other) (if_done Loses (slots.lose (slot_in other s))) (done_fits Loses (slots.lose (slot_in other s)) tt)
  event_fits q (runs.Damages other index) s all sealed = if_fits (q == other) (if_done (Damages index) (slots.damage index (slot_in other s))) (done_fits (Damages index) (slots.damage index (slot_in other s)) tt)

  slot_on : (c : Option Call) (s after : Slot) → FitsIf c → IsSlotOf block chunk s → BecomesBy block chunk s c after → IsSlotOf block chunk after
  slot_on None s after fits of is = subst (IsSlotOf block chunk) (sym is) of
  slot_on (Some c) s after fits of is = of_ok (IsSlotOf block chunk) (called block chunk c s) after is (stays_whole block chunk c s fits of)

  pub slots_behind : (e : Event) (s : Server) → s.block ≡ block → s.chunk ≡ chunk → HearsSealed e → AllSlotsOf block chunk s → AllSlotsOf block chunk (behind e s)
  slots_behind e s b c sealed all q =
      slot_on (call_by q e s) (slot_in q s) (slot_in q (behind e s)) (event_fits q e s all sealed) (all q)
      (subst (λ n. BecomesBy n chunk (slot_in q s) (call_by q e s) (slot_in q (behind e s))) b
      (subst (λ n. BecomesBy s.block n (slot_in q s) (call_by q e s) (slot_in q (behind e s))) c (event_calls q e s)))

  pub new_slots : (me : ℕ) → AllSlotsOf block chunk (new me block chunk)
  new_slots me q = subst (λ (o : Option Slot). IsSlotOf block chunk (or_nothing o)) (sym (fin.get-empty nat_cmp q)) (nothing_whole block chunk)

  -- ---- of each slot that is kept

  none_found : (k : ℕ) (es : List (ℕ × Slot)) → T (below_all nat_cmp k es) → fin.find nat_cmp k es ≡ None
  none_found k [] below = refl
  none_found k (e ∷ es) below =
      ap (λ b. cond b (Some e.1) (fin.find nat_cmp k es)) (not_tied (nat_cmp k e.0) (first (is_lt (nat_cmp k e.0)) (below_all nat_cmp k es) below))
      ∙ none_found k es (second (is_lt (nat_cmp k e.0)) (below_all nat_cmp k es) below)

  -- what is found under each key is every entry
  entries_of : (es : List (ℕ × Slot)) → T (fin.is_sorted nat_cmp es) → ((q : ℕ) → IsSlotOf block chunk (or_nothing (fin.find nat_cmp q es))) → AllByRecursion (λ (e : ℕ × Slot). IsSlotOf block chunk e.1) es
  entries_of [] sorted each = tt
  entries_of (e ∷ es) sorted each = (
    subst (λ b. IsSlotOf block chunk (or_nothing (cond b (Some e.1) (fin.find nat_cmp e.0 es)))) ((eq_by_cmp_equiv nat_cmp_total).refl e.0) (each e.0),
    entries_of es (second (below_all nat_cmp e.0 es) (fin.is_sorted nat_cmp es) sorted) (λ q. by_case q (eq_by_cmp nat_cmp q e.0) refl (each q)),
  )
    where
      by_case : (q : ℕ) (b : Bool) → eq_by_cmp nat_cmp q e.0 ≡ b → IsSlotOf block chunk (or_nothing (cond b (Some e.1) (fin.find nat_cmp q es))) → IsSlotOf block chunk (or_nothing (fin.find nat_cmp q es))
      by_case q true is of =
          subst (λ (o : Option Slot). IsSlotOf block chunk (or_nothing o)) (sym (ap (λ k. fin.find nat_cmp k es) (same_key q e.0 is) ∙ none_found e.0 es (first (below_all nat_cmp e.0 es) (fin.is_sorted nat_cmp es) sorted)))
          (nothing_whole block chunk)
      by_case q false is of = of

  pub each_kept : (s : Server) → AllSlotsOf block chunk s → AreSlotsOf block chunk s.kept.slots
  each_kept s all =
      entries_of (fin.entries s.kept.slots) (fin.entries_sorted s.kept.slots) (λ q. subst (λ (o : Option Slot). IsSlotOf block chunk (or_nothing o)) (fin.get-entries s.kept.slots q) (all q))
