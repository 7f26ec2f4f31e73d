-- While the master rolls back no server that has learned of it drops what it has of a chunk.
use Rattle.std.proofs.Common.{◌≡◌, ◌∙◌, ◌+◌, ◌<◌, ◌≤◌, ℕ, [], ◌∷◌, Bool, true, false, cond, List, None, Option, Some, Result, Ok, Err, refl, sym, ap, subst, slice_get, arith}
use Rattle.std.specs.Prelude.{◌==◌, if◌then◌else◌, is_some}
use Rattle.std.proofs.lemmas.Bool.{eqb-true, false≢true}
use Rattle.gs_base.specs.declared.epoch.EpochEnd.{EpochEnd}
use Rattle.gs_base.specs.declared.epoch.EpochEnd.TheVariants.{Finalize, Prepare, Rollback}
use Rattle.gs_base.specs.declared.numbers.Moment.{Moment}
use Rattle.gs_base.specs.declared.numbers.ReqId.{ReqId}
use Rattle.gs_base.specs.declared.numbers.Stamp.{Stamp}
use Rattle.gs_base.specs.declared.refusal.Refusal.{Refusal}
use Rattle.gs_laws_chunk.proofs.lemmas.machine.Facts.{reached_world}
use Rattle.gs_laws_chunk.proofs.lemmas.machine.Known.{Later}
use Rattle.gs_laws_chunk.proofs.lemmas.machine.Worlds.{WorldOk, leads_later, leads_world, said}
use Rattle.gs_laws_chunk.specs.machine.Events.{Leads}
use Rattle.gs_laws_chunk.specs.machine.Machine as machine
use Rattle.gs_laws_chunk.specs.machine.Machine.{ChunkWorld, WasTold}
use Rattle.gs_laws_chunk.specs.machine.Stamps.{start_of}
use Rattle.gs_msg.specs.declared.body.Body.{Body}
use Rattle.gs_msg.specs.declared.body.Body.TheVariants as bodies
use Rattle.gs_msg.specs.declared.chunk.Chunk.{Chunk}
use Rattle.gs_msg.specs.declared.chunk.Chunk.TheVariants as chunks
use Rattle.gs_msg.specs.declared.event.Happening.{Happening}
use Rattle.gs_msg.specs.declared.event.Happening.TheVariants as happenings
use Rattle.gs_msg.specs.declared.message.Message.{Message}
use Rattle.gs_msg.specs.declared.message.MsgId.{MsgId}
use Rattle.gs_msg.specs.declared.node.NodeId.{NodeId}
use Rattle.gs_msg.specs.declared.node.NodeId.TheVariants as nodes
use Rattle.gs_msg.specs.declared.op.Op.{Op}
use Rattle.gs_replica.specs.Held.{Held}
use Rattle.gs_server.proofs.Walks.{of_epoch}
use Rattle.gs_server.specs.Places.{Here, Place, SlotBecomes, SlotChange, SlotMarked, SlotStays, or_else, other_epoch, unanswered}
use Rattle.gs_server.specs.Promises as promises
use Rattle.gs_server.specs.Promises.{Copying, drops}
use Rattle.gs_server.specs.Runs as at_server
use Rattle.gs_server.specs.Runs.{slot_in}
use Rattle.gs_server.specs.Servers.{Server, about_chunk, here_of, place_of, request_in}
use Rattle.gs_laws_server.specs.servers.Calling.{asked_call, call_at, call_by, copy_taken, end_call, epoch_call, first_call, heard_call, if_done, made_by, numbered_call}
use Rattle.gs_laws_parts.proofs.lemmas.server.Leasing.{shown_late}
use Rattle.gs_laws_parts.proofs.lemmas.server.Tests.{head_none, live_there, tail_none}
use Rattle.gs_laws_parts.specs.server.Showing.{Setting, ShowsPlace}
use Rattle.gs_laws_parts.specs.server.Telling.{TellsBody}
use Rattle.gs_store.specs.Calls as calls
use Rattle.gs_store.specs.Calls.{Call}
use Rattle.gs_store.specs.Moves.{copied_from}
use Rattle.gs_store.specs.Slots as slots
use Rattle.gs_store.specs.Slots.{Live, Slot, first_of, removed, unless, unless_live, unless_promised}
use Rattle.gs_world.specs.Histories.{History}
use Rattle.gs_world.specs.Runs.{Comes, Step, Takes}
use Rattle.gs_world.specs.Sent.{message_of}
use Rattle.gs_laws_chunks.specs.accounts.Accounts.{Account}
use Rattle.gs_laws_chunks.specs.accounts.Moving.{call_in, comes_to, event_at, happens_at, is_server, server_of}
use Rattle.gs_laws_chunks.specs.accounts.Running.{Setup}
use Rattle.gs_laws_chunks.specs.accounts.Joined.{IsSeen}
use Rattle.gs_laws_chunks.specs.accounts.Upgrading.{is_drop}
use Rattle.gs_laws_lift.specs.stores.Showing.{setting}

-- ---- which calls are no drops

made_kept : (change : SlotChange) (o : Option Call) → is_drop o ≡ false → is_drop (made_by change o) ≡ false
made_kept SlotStays o kept = refl
made_kept (SlotBecomes t) o kept = kept
made_kept (SlotMarked block) o kept = refl

where_kept : (t : Bool) (o : Option Call) → is_drop o ≡ false → is_drop (cond t o None) ≡ false
where_kept true o kept = kept
where_kept false o kept = refl

either_kept : (a b : Option Call) → is_drop a ≡ false → is_drop b ≡ false → is_drop (first_call a b) ≡ false
either_kept None b first second = second
either_kept (Some c) b first second = first

done_kept : (c : Call) (r : Result Slot Refusal) → is_drop (Some c) ≡ false → is_drop (if_done c r) ≡ false
done_kept c (Ok s) kept = kept
done_kept c (Err refusal) kept = refl

numbered_kept : (h : Here) (req : ReqId) (stamp : Stamp) (op : Op) (live : Option Live) → is_drop (numbered_call h req stamp op live) ≡ false
numbered_kept h req stamp op None = refl
numbered_kept h req stamp op (Some l) = refl

taken_kept : (r : Result Held Refusal) → is_drop (copy_taken r) ≡ false
taken_kept (Ok h) = refl
taken_kept (Err refusal) = refl

end_kept : (epoch : ℕ) (end : EpochEnd) → is_drop (Some (end_call epoch end)) ≡ false
end_kept epoch Prepare = refl
end_kept epoch Finalize = refl
end_kept epoch Rollback = refl

epoch_kept : (stands epoch : ℕ) (end : EpochEnd) → is_drop (epoch_call stands epoch end) ≡ false
epoch_kept stands epoch end = by_case (epoch == stands) (epoch == stands + 1)
  where
    by_case : (again next : Bool) → is_drop (cond again None (cond next (Some (end_call epoch end)) None)) ≡ false
    by_case true next = refl
    by_case false false = refl
    by_case false true = end_kept epoch end

-- a drop is taken of a live replica, in the epoch of its server
drop_kept : (h : Here) (p : Place) (from : NodeId) (epoch : ℕ) (promise : Stamp) → (epoch ≡ h.epoch → is_some p.slot.live ≡ true → ⊥) → is_drop (call_at h p from (chunks.Drop epoch promise)) ≡ false
drop_kept h p from epoch promise never = by_epoch (other_epoch h epoch) refl
  where
    by_slot : (o : Option Refusal) → first_of (unless_promised promise p.slot ∷ unless_live p.slot.live ∷ []) ≡ o → epoch ≡ h.epoch → is_drop (made_by (drops (unless o (Ok (removed p.slot)))).slot (Some (calls.Drops promise))) ≡ false
    by_slot (Some e) is here = refl
    by_slot None is here = absurd (never here (live_there p.slot.live (head_none (unless_live p.slot.live) [] (tail_none (unless_promised promise p.slot) (unless_live p.slot.live ∷ []) is))))

    by_epoch : (o : Option Refusal) → other_epoch h epoch ≡ o → is_drop (made_by (or_else o unanswered (drops (slots.drop_replica promise p.slot))).slot (Some (calls.Drops promise))) ≡ false
    by_epoch (Some e) is = refl
    by_epoch None is = by_slot (first_of (unless_promised promise p.slot ∷ unless_live p.slot.live ∷ [])) refl (of_epoch h epoch is)

module _ (chunk : ℕ) (s : Server) (from : NodeId) (moment : Moment) where
  asked_kept : (h : Here) (p : Place) (said : Chunk) → ((epoch : ℕ) (promise : Stamp) → said ≡ chunks.Drop epoch promise → epoch ≡ h.epoch → is_some p.slot.live ≡ true → ⊥) → is_drop (call_at h p from said) ≡ false
  asked_kept h p (chunks.Drop epoch promise) never = drop_kept h p from epoch promise (never epoch promise refl)
  asked_kept h p (chunks.Edit req stamp op) never = made_kept (about_chunk h p from (chunks.Edit req stamp op)).slot (numbered_call h req stamp op p.slot.live) (numbered_kept h req stamp op p.slot.live)
  asked_kept h p said never = made_kept (about_chunk h p from said).slot (asked_call h p said) refl

  heard_kept : (body : Body) → ((epoch : ℕ) (promise : Stamp) → body ≡ bodies.About chunk (chunks.Drop epoch promise) → epoch ≡ s.kept.epoch → is_some (slot_in chunk s).live ≡ true → ⊥) → is_drop (heard_call chunk s from body moment) ≡ false
  heard_kept (bodies.About other said) never = by_same (chunk == other) refl
    where
      by_same : (t : Bool) → (chunk == other) ≡ t → is_drop (cond t (call_at (here_of s moment other (request_in said)) (place_of other s) from said) None) ≡ false
      by_same false is = refl
      by_same true is =
          let same : chunk ≡ other = eqb-true chunk other is in
          asked_kept (here_of s moment other (request_in said)) (place_of other s) said
          (λ epoch promise told here live. never epoch promise (ap (λ k. bodies.About k said) (sym same) ∙ ap (bodies.About chunk) told) here (subst (λ k. is_some (slot_in k s).live ≡ true) (sym same) live))
  heard_kept (bodies.MakeCopy old at new stamp) never =
      let copying : Copying = promises.make_copy (here_of s moment old None) (place_of old s) at (here_of s moment new None) (place_of new s) stamp in
      let taken : Option Call = copy_taken (copied_from at stamp (slot_in old s)) in
      either_kept (cond (chunk == new) (made_by copying.target.slot taken) None) (cond (chunk == old) (made_by copying.source None) None)
      (where_kept (chunk == new) (made_by copying.target.slot taken) (made_kept copying.target.slot taken (taken_kept (copied_from at stamp (slot_in old s)))))
      (where_kept (chunk == old) (made_by copying.source None) (made_kept copying.source None refl))
  heard_kept (bodies.Epoch epoch end) never = epoch_kept s.kept.epoch epoch end
  heard_kept body never = refl

-- ---- in the machine

-- A rollback goes on that began the epoch behind this one, and a server has learned of it.
pub record IsRollingAt (w : ChunkWorld) (e id : ℕ) : Type 0 where
  pub current : w.known.current ≡ e + 1
  pub how : w.known.how (e + 1) ≡ Rollback
  pub ahead : w.known.view < start_of (e + 1)
  pub member : (w.members id).epoch ≡ e + 1

-- So it is where it goes on in a later world.
pub rolling_at : (w v : ChunkWorld) → WorldOk w → Leads w v → v.entry.is_rolling ≡ true → (e id : ℕ) → v.entry.epoch ≡ e + 1 → e + 1 ≤ (w.members id).epoch → IsRollingAt w e id
rolling_at w v ok leads rolling e id is low =
    let last : WorldOk v = leads_world w v leads ok in
    let later : Later w.known v.known = leads_later w v leads ok in
    let r = (last.entry).rolling rolling in
    let next : v.known.current ≡ r.e + 1 = r.next in
    let same : v.entry.epoch ≡ v.known.current = (last.entry).epoch in
    let here : (w.members id).epoch ≤ w.known.current = (ok.seals id).learned in
    let on : w.known.current ≤ v.known.current = later.current in
    let at : r.e ≡ e = omega arith in
    record {
      current = omega arith;
      how = sym (later.how (e + 1) (omega arith)) ∙ ap (λ n. v.known.how (n + 1)) (sym at) ∙ r.how;
      ahead = (
          let below : v.known.top < start_of (r.e + 1) = r.below in
          let top : v.known.view ≤ v.known.top = (last.known).viewtop in
          let view : w.known.view ≤ v.known.view = later.view in
          let start : start_of (r.e + 1) ≡ start_of (e + 1) = ap (λ n. start_of (n + 1)) at in omega arith
          );
      member = omega arith;
    }

-- It was told of no drop in that epoch.
never_dropped : (w : ChunkWorld) → WorldOk w → (e id : ℕ) → IsRollingAt w e id → (t : ℕ) → WasTold w id (machine.Drop (e + 1) t) → ⊥
never_dropped w ok e id is t told =
    let low : start_of (e + 1) ≤ w.known.view = (said w ok id (machine.Drop (e + 1) t) told).done is.how in
    let ahead : w.known.view < start_of (e + 1) = is.ahead in omega arith

-- ---- at a step

to_server : (id : ℕ) (n : NodeId) → is_server id (server_of n) ≡ true → n ≡ nodes.Server id
to_server id nodes.Master is = absurd (false≢true is)
to_server id (nodes.Server to) is = ap nodes.Server (eqb-true to id is)
to_server id (nodes.Client client) is = absurd (false≢true is)

none_kept : (chunk : ℕ) (o : Option at_server.Event) → is_drop (call_in chunk o None) ≡ false
none_kept chunk None = refl
none_kept chunk (Some event) = refl

module _ {D : Type 0} (x : Setup D) (bytes : ReqId → List ℕ) (chunk id e : ℕ) (old : History D) (a : Account) (seen : IsSeen x bytes chunk old a) (rolling : IsRollingAt seen.alive.world e id) where
  abbrev w : ChunkWorld
  w = seen.alive.world

  abbrev c : Setting
  c = setting x.config bytes seen.alive.reached.0.epoch

  module _ (s : Server) (at : slice_get old.nodes.servers id ≡ Some s) where
    never : (message : Message) (place : MsgId) → message_of old.sent place ≡ Some message → message.to ≡ nodes.Server id → (epoch : ℕ) (promise : Stamp) → message.body ≡ bodies.About chunk (chunks.Drop epoch promise) → epoch ≡ s.kept.epoch → is_some (slot_in chunk s).live ≡ true → ⊥
    never message place there to epoch promise body here live =
        let shows : ShowsPlace c w.known s.kept.epoch (place_of chunk s) (w.members id) = seen.alive.shows.members id s at in
        let late = shown_late c w.known s.kept.epoch (place_of chunk s) (w.members id) shows live in
        let same : epoch ≡ e + 1 = here ∙ sym (shows.epoch_is late) ∙ rolling.member in
        let tells : TellsBody c chunk w message.from (nodes.Server id) (bodies.About chunk (chunks.Drop epoch promise)) =
        subst (TellsBody c chunk w message.from (nodes.Server id)) body (subst (λ n. TellsBody c chunk w message.from n message.body) to (seen.alive.shows.sent place message there)) in
        let told = (tells refl).1 in
        never_dropped w (reached_world w seen.alive.reached) e id rolling told.0 (subst (λ n. WasTold w id (machine.Drop n told.0)) same told.2)

    by_message : (o : Option Message) (place : MsgId) (moment : Moment) → message_of old.sent place ≡ o → is_drop (call_in chunk (comes_to o moment id) (Some s)) ≡ false
    by_message None place moment there = refl
    by_message (Some message) place moment there = by_to (is_server id (server_of message.to)) refl
      where
        by_to : (t : Bool) → is_server id (server_of message.to) ≡ t → is_drop (call_in chunk (if t then Some (at_server.Hears message moment) else None) (Some s)) ≡ false
        by_to false is = refl
        by_to true is = heard_kept chunk s message.from moment message.body (never message place there (to_server id message.to is))

    own_kept : (t : Bool) (event : at_server.Event) → is_drop (call_by chunk event s) ≡ false → is_drop (call_in chunk (if t then Some event else None) (Some s)) ≡ false
    own_kept true event kept = kept
    own_kept false event kept = refl

    by_happening : (happening : Happening) (moment : Moment) → is_drop (call_in chunk (happens_at moment happening old.sent id) (Some s)) ≡ false
    by_happening (happenings.Deliver place) moment = by_message (message_of old.sent place) place moment refl
    by_happening (happenings.Lose server handle) moment =
        own_kept (server == id) (at_server.Loses handle) (where_kept (chunk == handle) (if_done calls.Loses (slots.lose (slot_in handle s))) (done_kept calls.Loses (slots.lose (slot_in handle s)) refl))
    by_happening (happenings.Damage server handle block) moment =
        own_kept (server == id) (at_server.Damages handle block) (where_kept (chunk == handle) (if_done (calls.Damages block) (slots.damage block (slot_in handle s))) (done_kept (calls.Damages block) (slots.damage block (slot_in handle s)) refl))
    by_happening happening moment = refl

    by_step : (step : Step) → is_drop (call_in chunk (event_at step old.sent id) (Some s)) ≡ false
    by_step (Comes event) = by_happening event.happening event.moment
    by_step (Takes client) = refl

  -- then it drops nothing
  pub step_keeps : (step : Step) → is_drop (call_in chunk (event_at step old.sent id) (slice_get old.nodes.servers id)) ≡ false
  step_keeps step = by_server (slice_get old.nodes.servers id) refl
    where
      by_server : (o : Option Server) → slice_get old.nodes.servers id ≡ o → is_drop (call_in chunk (event_at step old.sent id) o) ≡ false
      by_server None at = none_kept chunk (event_at step old.sent id)
      by_server (Some s) at = by_step s at step
