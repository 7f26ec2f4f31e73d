-- A replica that is live behind a rollback stays so, where nothing of it is lost, damaged or dropped, until its server makes a greater promise.
use Rattle.gs_laws_lift.specs.stores.Left.{left_in}
use Rattle.std.proofs.Common.{◌≡◌, ◌≢◌, ◌∙◌, ◌+◌, ◌<◌, ◌≤◌, ◌⊎◌, ◌&&◌, ◌==◌, inl, inr, ℕ, List, [], ◌∷◌, Bool, true, false, cond, None, Option, Some, Result, Ok, Err, refl, sym, ap, subst, slice_get, arith}
use Rattle.std.specs.Prelude.{if◌then◌else◌, is_some}
use Rattle.std.proofs.lemmas.Bool.{cases_eq, cases_lt, false≢true}
use Rattle.std.proofs.lemmas.Bool.Decides.{nat_tests}
use Rattle.gs_base.specs.Stamps.{is_before}
use Rattle.gs_base.specs.declared.epoch.EpochEnd.{EpochEnd}
use Rattle.gs_base.specs.declared.epoch.EpochEnd.TheVariants.{Finalize, Prepare, Rollback}
use Rattle.gs_base.specs.declared.numbers.Moment.{Moment}
use Rattle.gs_base.specs.declared.numbers.ReqId.{ReqId}
use Rattle.gs_base.specs.declared.numbers.Stamp.{Stamp}
use Rattle.gs_base.specs.declared.refusal.Refusal.{Refusal}
use Rattle.gs_laws_chunks.specs.accounts.Accounts.{Account}
use Rattle.gs_laws_chunks.specs.accounts.Moving.{call_in, event_at}
use Rattle.gs_laws_chunks.specs.accounts.Running.{IsGiven, Runs, Setup}
use Rattle.gs_block.specs.Written.{TellsApart}
use Rattle.gs_laws_chunk.proofs.lemmas.machine.Facts.{reached_world}
use Rattle.gs_laws_chunk.proofs.lemmas.machine.Known.{Later}
use Rattle.gs_laws_chunk.proofs.lemmas.machine.Lasting.{stays_known}
use Rattle.gs_laws_chunk.proofs.lemmas.machine.Worlds.{WorldOk, leads_later, said}
use Rattle.gs_laws_chunk.specs.machine.Events.{Leads}
use Rattle.gs_laws_chunk.specs.machine.Laws.{IsReached}
use Rattle.gs_laws_chunk.specs.machine.Machine as machine
use Rattle.gs_laws_chunk.specs.machine.Machine.{Member, WasTold, ChunkWorld}
use Rattle.gs_laws_chunk.specs.machine.Stamps as stamps
use Rattle.gs_laws_chunk.specs.machine.Stamps.{epoch_of, stamp_at}
use Rattle.gs_laws_lift.proofs.lemmas.stores.Among.{told_there}
use Rattle.gs_laws_lift.proofs.lemmas.stores.Running.{before}
use Rattle.gs_laws_lift.proofs.lemmas.stores.Serving.{is_shown, set_found}
use Rattle.gs_laws_lift.specs.stores.Going.{AllSent, Beats, Damages, Hears, IsMet, Loses, Restarts, ServerGoes, Ticks, heard_in}
use Rattle.gs_laws_lift.specs.stores.Joint.{AtMaster, AtServer, Elsewhere, GoesBy}
use Rattle.gs_laws_lift.specs.stores.Living.{GoesOn, LivesOn, TextsOf}
use Rattle.gs_laws_lift.specs.stores.Saying.{PushRight}
use Rattle.gs_laws_lift.specs.stores.Showing.{AreToldApart, IsAlive, Keeps, Life, ShowsNodes, setting}
use Rattle.gs_laws_parts.proofs.lemmas.server.Leasing.{shown_late}
use Rattle.gs_laws_parts.proofs.lemmas.server.Promising.{lives}
use Rattle.gs_laws_parts.proofs.lemmas.server.Stamps.{before_less, not_before, start_epoch, start_stamp}
use Rattle.gs_laws_parts.specs.server.Moving.{IsShown}
use Rattle.gs_laws_parts.specs.server.Requests.{Asked, IsOfOneEdit, bytes_in}
use Rattle.gs_laws_parts.specs.server.Showing.{Setting, ShowsImage, setting_of}
use Rattle.gs_laws_parts.specs.server.Telling.{TellsBody}
use Rattle.gs_msg.specs.declared.body.Body.{Body}
use Rattle.gs_msg.specs.declared.body.Body.TheVariants as bodies
use Rattle.gs_msg.specs.declared.chunk.Chunk.{Chunk}
use Rattle.gs_msg.specs.declared.chunk.Chunk.TheVariants as chunks
use Rattle.gs_msg.specs.declared.message.Message.{Message}
use Rattle.gs_msg.specs.declared.node.NodeId.{NodeId}
use Rattle.gs_msg.specs.declared.node.NodeId.TheVariants as nodes
use Rattle.gs_msg.specs.declared.op.Op.{Op}
use Rattle.gs_replica.specs.Held.{Held}
use Rattle.gs_replica.specs.Seals.{Sealed}
use Rattle.gs_replica.specs.Stands.{Edit, StoodFor}
use Rattle.gs_world.specs.Histories.{History}
use Rattle.gs_world.specs.Runs.{Step}
use Rattle.gs_server.specs.Places.{Here, Place, SlotBecomes, SlotChange, SlotMarked, SlotStays}
use Rattle.gs_server.specs.Promises as promises
use Rattle.gs_server.specs.Promises.{Copying}
use Rattle.gs_server.specs.Runs as at_server
use Rattle.gs_server.specs.Runs.{BecomesBy, slot_in}
use Rattle.gs_server.specs.Servers.{Server, about_chunk, here_of, place_of, request_in}
use Rattle.gs_laws_server.proofs.lemmas.servers.Calling.{event_calls}
use Rattle.gs_laws_server.specs.servers.Calling.{asked_call, call_at, call_by, copy_taken, copying_call, epoch_call, end_call, first_call, heard_call, if_done, made_by, numbered_call}
use Rattle.gs_store.proofs.Laws.{not_before_itself}
use Rattle.gs_store.specs.Calls as calls
use Rattle.gs_store.specs.Calls.{Call}
use Rattle.gs_store.specs.Learning.{start_of}
use Rattle.gs_store.specs.Moves.{copied_from}
use Rattle.gs_store.specs.Slots.{Live, Slot, sealed_of}
use Rattle.gs_store.specs.Slots as slots
use Rattle.gs_laws_chunks.proofs.lemmas.accounts.Well.{IsWell}
use Rattle.gs_laws_chunks.proofs.lemmas.accounts.Edits.{AreNumbered}
use Rattle.gs_laws_chunks.proofs.lemmas.accounts.Intact.{heard_event, same_number, set_other}
use Rattle.gs_laws_chunks.proofs.lemmas.accounts.Reached.{run_stays}
use Rattle.gs_laws_chunks.proofs.lemmas.accounts.Sealed.{alternates, sealed_there}
use Rattle.gs_laws_chunks.proofs.lemmas.accounts.SeeingThrough.{SeesNextThrough, sees_step_through}
use Rattle.gs_laws_chunks.proofs.lemmas.accounts.Spared.{AllowsIn, StillLive, stays_by}
use Rattle.gs_laws_chunks.specs.accounts.Seeing.{Sees}
use Rattle.gs_laws_chunks.specs.accounts.Upgrading.{DropsNone, Spare, HarmsOrDropsNone, is_drop, is_harm, is_harm_or_drop}

-- ---- small facts

turned : (a b : ℕ) → (a == b) ≡ true → (b == a) ≡ true
turned a b is = grind (arith, nat_tests)

number_is : (a b : ℕ) → (a == b) ≡ true → a ≡ b
number_is a b is = grind (arith, nat_tests)

less_before : (a b : ℕ) → a < b → is_before (stamp_at a) (stamp_at b) ≡ true
less_before a b less = by_case (is_before (stamp_at a) (stamp_at b)) refl
  where
    by_case : (t : Bool) → is_before (stamp_at a) (stamp_at b) ≡ t → t ≡ true
    by_case true is = refl
    by_case false is = absurd (let most = not_before a b is in omega arith)

image_there : (block size : ℕ) (o : Option Sealed) (xs : List Edit) → StoodFor block size o xs → is_some o ≡ true
image_there block size None xs stood = absurd stood
image_there block size (Some t) xs stood = refl

-- ---- what a step spares

-- a step is no loss, damage or drop of what the server has of the chunk, or is one that the server refuses
abbrev pub SparedBy : ℕ → ℕ → Step → Option Call → Type 0
SparedBy chunk id step call = ((is_harm chunk id step ≡ false) × (is_drop call ≡ false)) ⊎ (is_harm_or_drop call ≡ false)

no_drop : (o : Option Call) → is_harm_or_drop o ≡ false → is_drop o ≡ false
no_drop (Some (calls.Drops promise)) is = absurd (false≢true (sym is))
no_drop (Some (calls.Creates stamp)) is = refl
no_drop (Some (calls.Advances stamp)) is = refl
no_drop (Some (calls.CopiesIn stamp image sealed)) is = refl
no_drop (Some (calls.TakesCopy h)) is = refl
no_drop (Some (calls.TakesLease stamp)) is = refl
no_drop (Some calls.Loses) is = refl
no_drop (Some (calls.Damages block)) is = refl
no_drop (Some (calls.MarksBad block)) is = refl
no_drop (Some (calls.Applies stamp number req op bytes)) is = refl
no_drop (Some calls.Seals) is = refl
no_drop (Some calls.Unseals) is = refl
no_drop (Some (calls.RollsBack epoch)) is = refl
no_drop None is = refl

none_dropped : (chunk id : ℕ) (step : Step) (call : Option Call) → SparedBy chunk id step call → is_drop call ≡ false
none_dropped chunk id step call (inl both) = both.1
none_dropped chunk id step call (inr kept) = no_drop call kept

lost_done : (r : Result Slot Refusal) (slot : Slot) → is_harm_or_drop (if_done calls.Loses r) ≡ false → AllowsIn slot (if_done calls.Loses r)
lost_done (Ok t) slot is = absurd (false≢true (sym is))
lost_done (Err refusal) slot is = tt

damaged_done : (block : ℕ) (r : Result Slot Refusal) (slot : Slot) → is_harm_or_drop (if_done (calls.Damages block) r) ≡ false → AllowsIn slot (if_done (calls.Damages block) r)
damaged_done block (Ok t) slot is = absurd (false≢true (sym is))
damaged_done block (Err refusal) slot is = tt

-- ---- what is heard

-- Of what a server hears about a chunk each call is one by which a replica stays, but a drop; and a rollback where nothing is sealed.
module _ (chunk : ℕ) (s : Server) (from to : NodeId) (moment : Moment) where
  abbrev slot : Slot
  slot = slot_in chunk s

  made_allowed : (change : SlotChange) (o : Option Call) → AllowsIn slot o → AllowsIn slot (made_by change o)
  made_allowed SlotStays o allowed = tt
  made_allowed (SlotBecomes t) o allowed = allowed
  made_allowed (SlotMarked block) o allowed = tt

  numbered_allowed : (h : Here) (req : ReqId) (stamp : Stamp) (op : Op) (live : Option Live) → AllowsIn slot (numbered_call h req stamp op live)
  numbered_allowed h req stamp op None = tt
  numbered_allowed h req stamp op (Some l) = tt

  asked_allowed : (h : Here) (p : Place) (said : Chunk) → is_drop (asked_call h p said) ≡ false → AllowsIn slot (asked_call h p said)
  asked_allowed h p (chunks.Edit req stamp op) kept = numbered_allowed h req stamp op p.slot.live
  asked_allowed h p (chunks.Drop epoch promise) kept = absurd (false≢true (sym kept))
  asked_allowed h p said kept = tt

  -- what is refused is no call
  kept_allowed : (change : SlotChange) (o : Option Call) → (is_drop o ≡ false → AllowsIn slot o) → is_drop (made_by change o) ≡ false → AllowsIn slot (made_by change o)
  kept_allowed SlotStays o allowed kept = tt
  kept_allowed (SlotBecomes t) o allowed kept = allowed kept
  kept_allowed (SlotMarked block) o allowed kept = tt

  taken_allowed : (r : Result Held Refusal) → AllowsIn slot (copy_taken r)
  taken_allowed (Ok h) = tt
  taken_allowed (Err refusal) = tt

  either_allowed : (a b : Option Call) → AllowsIn slot a → AllowsIn slot b → AllowsIn slot (first_call a b)
  either_allowed None b first second = second
  either_allowed (Some c) b first second = first

  where_allowed : (t : Bool) (o : Option Call) → AllowsIn slot o → AllowsIn slot (cond t o None)
  where_allowed true o allowed = allowed
  where_allowed false o allowed = tt

  copying_allowed : (old new : ℕ) (copying : Copying) (taken : Option Call) → AllowsIn slot taken → AllowsIn slot (copying_call chunk old new copying taken)
  copying_allowed old new copying taken allowed =
      either_allowed (cond (chunk == new) (made_by copying.target.slot taken) None) (cond (chunk == old) (made_by copying.source None) None)
      (where_allowed (chunk == new) (made_by copying.target.slot taken) (made_allowed copying.target.slot taken allowed)) (where_allowed (chunk == old) (made_by copying.source None) (made_allowed copying.source None tt))

  end_allowed : (epoch : ℕ) (end : EpochEnd) → (end ≡ Rollback → is_some (sealed_of slot) ≡ true) → AllowsIn slot (Some (end_call epoch end))
  end_allowed epoch Prepare rolls = tt
  end_allowed epoch Finalize rolls = tt
  end_allowed epoch Rollback rolls = rolls refl

  epoch_allowed : (stands epoch : ℕ) (end : EpochEnd) → (end ≡ Rollback → epoch ≡ stands + 1 → is_some (sealed_of slot) ≡ true) → AllowsIn slot (epoch_call stands epoch end)
  epoch_allowed stands epoch end rolls = by_case (epoch == stands) (epoch == stands + 1) refl
    where
      by_case : (again next : Bool) → (epoch == stands + 1) ≡ next → AllowsIn slot (cond again None (cond next (Some (end_call epoch end)) None))
      by_case true next is = tt
      by_case false false is = tt
      by_case false true is = end_allowed epoch end (λ end_is. rolls end_is (number_is epoch (stands + 1) is))

  pub heard_allowed : (body : Body) → is_drop (heard_call chunk s from body moment) ≡ false → ((epoch : ℕ) → body ≡ bodies.Epoch epoch Rollback → epoch ≡ s.kept.epoch + 1 → is_some (sealed_of slot) ≡ true)
      → AllowsIn slot (heard_call chunk s from body moment)
  heard_allowed (bodies.About other said) kept rolls = by_same (chunk == other) kept
    where
      by_same : (t : Bool) → is_drop (cond t (call_at (here_of s moment other (request_in said)) (place_of other s) from said) None) ≡ false → AllowsIn slot (cond t (call_at (here_of s moment other (request_in said)) (place_of other s) from said) None)
      by_same false kept = tt
      by_same true kept =
          kept_allowed (about_chunk (here_of s moment other (request_in said)) (place_of other s) from said).slot (asked_call (here_of s moment other (request_in said)) (place_of other s) said)
          (asked_allowed (here_of s moment other (request_in said)) (place_of other s) said) kept
  heard_allowed (bodies.MakeCopy old at new stamp) kept rolls =
      copying_allowed old new (promises.make_copy (here_of s moment old None) (place_of old s) at (here_of s moment new None) (place_of new s) stamp) (copy_taken (copied_from at stamp (slot_in old s))) (taken_allowed (copied_from at stamp (slot_in old s)))
  heard_allowed (bodies.Epoch epoch end) kept rolls = epoch_allowed s.kept.epoch epoch end (λ is next. rolls epoch (ap (bodies.Epoch epoch) is) next)
  heard_allowed body kept rolls = tt

-- ---- a server to which something happens

module _ {D : Type 0} (x : Setup D) (bytes : ReqId → List ℕ) (chunk id e : ℕ) where
  abbrev pub bound : Stamp
  bound = start_of (e + 1)

  -- A server has promised the first stamp of the rollback's epoch; and it has promised more since, or a replica is live there, and undamaged.
  pub record IsStaying (h : History D) (w : ChunkWorld) (s : Server) : Type 0 where
    pub at : slice_get h.nodes.servers id ≡ Some s
    pub least : stamps.start_of (e + 1) ≤ (w.members id).promise
    pub within : e + 1 ≤ w.known.current
    pub how : w.known.how (e + 1) ≡ Rollback
    pub still : (stamps.start_of (e + 1) < (w.members id).promise) ⊎ StillLive (slot_in chunk s)

  module _ (step : Step) (old : History D) (w : ChunkWorld) (reached : IsReached w) (keeps : Keeps x.config bytes old) (nodes_shown : ShowsNodes x.config bytes reached.0.epoch chunk old w) (apart : AreToldApart chunk old w) (s : Server)
      (at : slice_get old.nodes.servers id ≡ Some s) (promise : (w.members id).promise ≡ stamps.start_of (e + 1)) (within : e + 1 ≤ w.known.current) (how : w.known.how (e + 1) ≡ Rollback) (k : StillLive (slot_in chunk s)) where
    abbrev c : Setting
    c = setting_of bytes reached.0.epoch s

    ok : WorldOk w
    ok = reached_world w reached

    me : s.me ≡ id
    me = (keeps.servers id s at).me

    abbrev m : Member
    m = w.members s.me

    shown : IsShown c chunk w s
    shown = is_shown x.seen x.config bytes reached.0.epoch chunk old w reached nodes_shown keeps apart id s at

    promise_is : m.promise ≡ stamps.start_of (e + 1)
    promise_is = ap (λ i. (w.members i).promise) me ∙ promise

    late : reached.0.epoch ≤ s.kept.epoch
    late = shown_late c w.known s.kept.epoch (place_of chunk s) m shown.shows k.live

    epoch_there : m.epoch ≡ s.kept.epoch
    epoch_there = shown.shows.epoch_is late

    -- where it goes on to a rollback, something is sealed there
    sealed_then : (epoch : ℕ) → WasTold w s.me (machine.Epoch epoch Rollback) → epoch ≡ s.kept.epoch + 1 → is_some (sealed_of (slot_in chunk s)) ≡ true
    sealed_then epoch told next =
        let was = said w ok s.me (machine.Epoch epoch Rollback) told in
        let current = (ok.entry).epoch in
        let epoch_is = epoch_there in
        let rolled_at : w.entry.how (s.kept.epoch + 1) ≡ Rollback = (ok.entry).how (s.kept.epoch + 1) ∙ ap w.known.how (sym next) ∙ was.1 in
        let before : w.entry.how s.kept.epoch ≡ Prepare = alternates w reached s.kept.epoch late (let low = was.0 in omega arith) rolled_at in
        let how_there : w.known.how m.epoch ≡ Prepare = ap w.known.how epoch_is ∙ sym ((ok.entry).how s.kept.epoch) ∙ before in
        let l = lives c (slot_in chunk s) m.live shown.shows.live k.live in
        by_image m.image refl (sealed_there w reached s.me l.0 l.1 (above how_there) how_there) shown.shows.image
      where
        above : w.known.how m.epoch ≡ Prepare → epoch_of m.promise < m.epoch
        above prepared =
            let low = (ok.seals s.me).low in
            let first : epoch_of m.promise ≡ e + 1 = ap epoch_of promise_is ∙ start_epoch (e + 1) in
            elim (cases_eq m.epoch (e + 1)) [
              | inl here ↦ absurd (let other : Rollback ≡ Prepare = sym how ∙ ap w.known.how (sym here) ∙ prepared in cc)
              | inr apart ↦ strict (epoch_of m.promise) m.epoch low (λ same. apart (sym same ∙ first))
            ]
          where
            strict : (a b : ℕ) → a ≤ b → a ≢ b → a < b
            strict a b low apart = elim (cases_lt a b) [
              | inl less ↦ less
              | inr over ↦ absurd (apart (omega arith))
            ]

        by_image : (o : Option (List Edit)) → m.image ≡ o → m.image ≢ None → ShowsImage c (slot_in chunk s) m.image → is_some (sealed_of (slot_in chunk s)) ≡ true
        by_image None is some image = absurd (some is)
        by_image (Some ys) is some image = image_there c.block c.size (sealed_of (slot_in chunk s)) ys (subst (ShowsImage c (slot_in chunk s)) is image)

    abbrev Stays : Slot → Type 0
    Stays t = (is_before bound t.promise ≡ true) ⊎ StillLive t

    stays_then : (o : Option Call) (t : Slot) → AllowsIn (slot_in chunk s) o → BecomesBy s.block s.chunk (slot_in chunk s) o t → Stays t
    stays_then o t allowed becomes =
        let l = lives c (slot_in chunk s) m.live shown.shows.live k.live in
        let same : (slot_in chunk s).promise ≡ bound = shown.shows.promise ∙ ap stamp_at promise_is ∙ start_stamp (e + 1) in
        stays_by s.block s.chunk m bound (slot_in chunk s) l.0 l.2 (shown.apart.live l.0 l.1) (ap (λ p. is_before p bound) same ∙ not_before_itself bound) k o t allowed becomes

    behind_event : (event : at_server.Event) (after : Server) → after ≡ at_server.behind event s → AllowsIn (slot_in chunk s) (call_by chunk event s) → Stays (slot_in chunk after)
    behind_event event after is allowed = subst (λ (t : Server). Stays (slot_in chunk t)) (sym is) (stays_then (call_by chunk event s) (slot_in chunk (at_server.behind event s)) allowed (event_calls chunk event s))

    own_stays : (after : Server) (messages : List Message) (goes : ServerGoes old.sent id s after messages) → IsMet step goes → SparedBy chunk id step (call_in chunk (event_at step old.sent id) (slice_get old.nodes.servers id)) → Stays (slot_in chunk after)
    own_stays after messages (Hears message moment was to is sends) (msg, there, comes) spared =
        behind_event (at_server.Hears message moment) after is (heard_allowed chunk s message.from message.to moment message.body (subst (λ (o : Option Server). is_drop (call_in chunk (Some (at_server.Hears message moment)) o) ≡ false) at (subst (λ (o : Option at_server.Event). is_drop (call_in chunk o (slice_get old.nodes.servers id)) ≡ false) (heard_event step old.sent id msg message moment there to comes) (none_dropped chunk id step _ spared))) rolls)
      where
        rolls : (epoch : ℕ) → message.body ≡ bodies.Epoch epoch Rollback → epoch ≡ s.kept.epoch + 1 → is_some (sealed_of (slot_in chunk s)) ≡ true
        rolls epoch body next =
            let tells : TellsBody (setting x.config bytes reached.0.epoch) chunk w message.from (nodes.Server id) (bodies.Epoch epoch Rollback) =
            subst (TellsBody (setting x.config bytes reached.0.epoch) chunk w message.from (nodes.Server id)) body (subst (λ n. TellsBody (setting x.config bytes reached.0.epoch) chunk w message.from n message.body) to (nodes_shown.sent was.0 message was.1)) in
            sealed_then epoch (subst (λ i. WasTold w i (machine.Epoch epoch Rollback)) (sym me) (tells (let low = late in omega arith))) next
    own_stays after messages (Ticks moment is sends) met spared = behind_event (at_server.Ticks moment) after is tt
    own_stays after messages (Beats is sends) met spared = inr (subst (λ (t : Server). StillLive (slot_in chunk t)) (sym is) k)
    own_stays after messages (Restarts is sends) met spared = behind_event at_server.Restarts after is tt
    own_stays after messages (Loses handle is sends) (moment, comes) spared = behind_event (at_server.Loses handle) after is (elim spared [
      | inl no_harm ↦ by_other (chunk == handle) refl no_harm.0
      | inr kept ↦ where_done (chunk == handle) (subst (λ (o : Option Server). is_harm_or_drop (call_in chunk (Some (at_server.Loses handle)) o) ≡ false) at (subst (λ (o : Option at_server.Event). is_harm_or_drop (call_in chunk o (slice_get old.nodes.servers id)) ≡ false) (event_is) kept))
    ])
      where
        event_is : event_at step old.sent id ≡ Some (at_server.Loses handle)
        event_is = ap (λ (y : Step). event_at y old.sent id) comes ∙ ap (λ b. if b then Some (at_server.Loses handle) else None) (same_number id)

        by_other : (t : Bool) → (chunk == handle) ≡ t → is_harm chunk id step ≡ false → AllowsIn (slot_in chunk s) (cond t (if_done calls.Loses (slots.lose (slot_in handle s))) None)
        by_other false is harmless = tt
        by_other true is harmless =
            let other : (handle == chunk) ≡ false = sym (ap (λ b. b && (handle == chunk)) (same_number id)) ∙ sym (ap (is_harm chunk id) comes) ∙ harmless in
            absurd (false≢true (sym other ∙ turned chunk handle is))

        where_done : (t : Bool) → is_harm_or_drop (cond t (if_done calls.Loses (slots.lose (slot_in handle s))) None) ≡ false → AllowsIn (slot_in chunk s) (cond t (if_done calls.Loses (slots.lose (slot_in handle s))) None)
        where_done false kept = tt
        where_done true kept = lost_done (slots.lose (slot_in handle s)) (slot_in chunk s) kept
    own_stays after messages (Damages handle block is sends) (moment, comes) spared = behind_event (at_server.Damages handle block) after is (elim spared [
      | inl no_harm ↦ by_other (chunk == handle) refl no_harm.0
      | inr kept ↦ where_done (chunk == handle) (subst (λ (o : Option Server). is_harm_or_drop (call_in chunk (Some (at_server.Damages handle block)) o) ≡ false) at (subst (λ (o : Option at_server.Event). is_harm_or_drop (call_in chunk o (slice_get old.nodes.servers id)) ≡ false) (event_is) kept))
    ])
      where
        event_is : event_at step old.sent id ≡ Some (at_server.Damages handle block)
        event_is = ap (λ (y : Step). event_at y old.sent id) comes ∙ ap (λ b. if b then Some (at_server.Damages handle block) else None) (same_number id)

        by_other : (t : Bool) → (chunk == handle) ≡ t → is_harm chunk id step ≡ false → AllowsIn (slot_in chunk s) (cond t (if_done (calls.Damages block) (slots.damage block (slot_in handle s))) None)
        by_other false is harmless = tt
        by_other true is harmless =
            let other : (handle == chunk) ≡ false = sym (ap (λ b. b && (handle == chunk)) (same_number id)) ∙ sym (ap (is_harm chunk id) comes) ∙ harmless in
            absurd (false≢true (sym other ∙ turned chunk handle is))

        where_done : (t : Bool) → is_harm_or_drop (cond t (if_done (calls.Damages block) (slots.damage block (slot_in handle s))) None) ≡ false → AllowsIn (slot_in chunk s) (cond t (if_done (calls.Damages block) (slots.damage block (slot_in handle s))) None)
        where_done false kept = tt
        where_done true kept = damaged_done block (slots.damage block (slot_in handle s)) (slot_in chunk s) kept

  -- ---- a step

  module _ (step : Step) (old new : History D) (l : IsAlive x.seen x.config bytes chunk old) (n : IsAlive x.seen x.config bytes chunk new) (same : n.reached.0 ≡ l.reached.0) (leads : Leads l.world n.world) (keeps : Keeps x.config bytes old) (apart : AreToldApart chunk old l.world) (s : Server) (was : IsStaying old l.world s)
      (spared : SparedBy chunk id step (call_in chunk (event_at step old.sent id) (slice_get old.nodes.servers id))) where
    onward : Later l.world.known n.world.known
    onward = leads_later l.world n.world leads (reached_world l.world l.reached)

    rises : (l.world.members id).promise ≤ (n.world.members id).promise
    rises = (stays_known l.world (reached_world l.world l.reached) n.world leads).promises id

    with_still : (t : Server) → slice_get new.nodes.servers id ≡ Some t → (stamps.start_of (e + 1) < (n.world.members id).promise) ⊎ StillLive (slot_in chunk t) → IsStaying new n.world t
    with_still t at still = record {
      at = at;
      least = (let low = was.least in let up = rises in omega arith);
      within = (let low = was.within in let up = onward.current in omega arith);
      how = onward.how (e + 1) was.within ∙ was.how;
      still = still;
    }

    -- a server that is as it was
    still_there : slice_get new.nodes.servers id ≡ slice_get old.nodes.servers id → (t : Server) × IsStaying new n.world t
    still_there alike = (
      s,
      with_still s (alike ∙ was.at) (elim was.still [
        | inl up ↦ inl (let more = rises in omega arith)
        | inr k ↦ inr k
      ]),
    )

    own_there : (after : Server) (messages : List Message) → slice_get new.nodes.servers id ≡ Some after → (goes : ServerGoes old.sent id s after messages) → IsMet step goes → (t : Server) × IsStaying new n.world t
    own_there after messages at goes met = (
      after,
      with_still after at (elim was.still [
        | inl up ↦ inl (let more = rises in omega arith)
        | inr k ↦ elim (cases_lt (stamps.start_of (e + 1)) (l.world.members id).promise) [
          | inl up ↦ inl (let more = rises in omega arith)
          | inr most ↦ elim (own_stays step old l.world l.reached keeps (record { members = l.shows.members; sent = l.shows.sent }) apart s was.at (let low = was.least in omega arith) was.within was.how k after messages goes met spared) [
            | inl above ↦ inl (before_less (stamps.start_of (e + 1)) (n.world.members id).promise
                (ap (λ p. is_before p (stamp_at (n.world.members id).promise)) (start_stamp (e + 1)) ∙ ap (is_before bound) (sym (n.shows.members id after at).promise) ∙ above))
            | inr k ↦ inr k
          ]
        ]
      ]),
    )

    stays_on : GoesBy x.seen x.config bytes l.reached.0.epoch chunk step old new l.world n.world → (t : Server) × IsStaying new n.world t
    stays_on (AtServer by) = elim (cases_eq id by.id) [
      | inl here ↦
          let found : slice_get old.nodes.servers id ≡ Some by.server = ap (slice_get old.nodes.servers) here ∙ by.found in
          let server : by.server ≡ s = (let one = was.at in cc) in
          let got : slice_get new.nodes.servers by.id ≡ Some by.after = subst (λ xs. slice_get xs by.id ≡ Some by.after) (sym by.servers) (set_found old.nodes.servers by.id by.server by.after by.found) in
          at_own by.id here by.server server by.after by.messages got by.goes by.met
      | inr other ↦ still_there (ap (λ xs. slice_get xs id) by.servers ∙ set_other old.nodes.servers by.id id by.after other)
    ]
      where
        at_own : (i : ℕ) → id ≡ i → (r : Server) → r ≡ s → (after : Server) (messages : List Message) → slice_get new.nodes.servers i ≡ Some after → (goes : ServerGoes old.sent i r after messages) → IsMet step goes → (t : Server) × IsStaying new n.world t
        at_own i here r server after messages got =
            subst (λ j. slice_get new.nodes.servers j ≡ Some after → (goes : ServerGoes old.sent j r after messages) → IsMet step goes → (t : Server) × IsStaying new n.world t) here
            (subst (λ (q : Server). slice_get new.nodes.servers id ≡ Some after → (goes : ServerGoes old.sent id q after messages) → IsMet step goes → (t : Server) × IsStaying new n.world t) (sym server) (own_there after messages)) got
    stays_on (AtMaster by) = still_there (ap (λ xs. slice_get xs id) by.servers)
    stays_on (Elsewhere still servers master node messages moment are posted) = still_there (ap (λ xs. slice_get xs id) servers)

-- ---- many steps

module _ (law : AreNumbered) {D : Type 0} (x : Setup D) (asked : ℕ → Asked) (given : IsGiven x) (chunk id e : ℕ) where
  -- each of some steps spares it
  abbrev pub AreSpared : (steps : List Step) (old : History D) (a : Account) (new : History D) (b : Account) → Runs x steps old a new b → Type 0
  AreSpared [] old a new b runs = Unit {0}
  AreSpared (step ∷ steps) old a new b (mid, c, moves, rest) = SparedBy chunk id step (call_in chunk (event_at step old.sent id) (slice_get old.nodes.servers id)) × AreSpared steps mid c new b rest

  pub spared_whole : (steps : List Step) (old : History D) (a : Account) (new : History D) (b : Account) (runs : Runs x steps old a new b) → Spare chunk id steps → DropsNone x chunk id steps old a new b runs → AreSpared steps old a new b runs
  spared_whole [] old a new b runs spare drops = tt
  spared_whole (step ∷ steps) old a new b (mid, c, moves, rest) spare drops = (inl (spare.0, drops.0), spared_whole steps mid c new b rest spare.1 drops.1)

  pub spared_unharmed : (steps : List Step) (old : History D) (a : Account) (new : History D) (b : Account) (runs : Runs x steps old a new b) → HarmsOrDropsNone x chunk id steps old a new b runs → AreSpared steps old a new b runs
  spared_unharmed [] old a new b runs kept = tt
  spared_unharmed (step ∷ steps) old a new b (mid, c, moves, rest) kept = (inr kept.0, spared_unharmed steps mid c new b rest kept.1)

  abbrev Ends : History D → Type 0
  Ends new = (r : Server) × (slice_get new.nodes.servers id ≡ Some r) × ((is_before (start_of (e + 1)) (slot_in chunk r).promise ≡ true) ⊎ StillLive (slot_in chunk r))

  ends_there : (h : History D) (l : IsAlive x.seen x.config (bytes_in asked) chunk h) (s : Server) → IsStaying x (bytes_in asked) chunk id e h l.world s → Ends h
  ends_there h l s is = (
    s,
    is.at,
    elim is.still [
      | inl up ↦ inl (ap (is_before (start_of (e + 1))) (l.shows.members id s is.at).promise ∙ sym (ap (λ p. is_before p (stamp_at (l.world.members id).promise)) (start_stamp (e + 1))) ∙ less_before (stamps.start_of (e + 1)) (l.world.members id).promise up)
      | inr k ↦ inr k
    ],
  )

  -- a chunk lives on over a step, and the replica stays
  step_on : TellsApart x.among → (step : Step) (old mid : History D) (a c : Account) (first : Sees x asked (left_in old) a) (next : SeesNextThrough x asked given law step old mid a c first) (l : IsAlive x.seen x.config (bytes_in asked) chunk (left_in old)) → first.lives.life chunk ≡ inr l
      → (s : Server) → IsStaying x (bytes_in asked) chunk id e (left_in old) l.world s → SparedBy chunk id step (call_in chunk (event_at step old.sent id) (slice_get old.nodes.servers id))
      → (m : IsAlive x.seen x.config (bytes_in asked) chunk (left_in mid)) × (next.goes.last.life chunk ≡ inr m) × (t : Server) × IsStaying x (bytes_in asked) chunk id e (left_in mid) m.world t
  step_on apart step old mid a c first next l is s staying spared =
      by_life (next.goes.last.life chunk) refl (subst (λ life. GoesOn x.seen x.config (bytes_in asked) chunk step (heard_in x.seen x.failures x.armed next.goes.kind) (left_in old) (left_in mid) life (next.goes.last.life chunk)) is (next.goes.goes chunk))
    where
      by_life : (life : Life x.seen x.config (bytes_in asked) chunk (left_in mid)) → next.goes.last.life chunk ≡ life → GoesOn x.seen x.config (bytes_in asked) chunk step (heard_in x.seen x.failures x.armed next.goes.kind) (left_in old) (left_in mid) (inr l) (next.goes.last.life chunk)
          → (m : IsAlive x.seen x.config (bytes_in asked) chunk (left_in mid)) × (next.goes.last.life chunk ≡ inr m) × (t : Server) × IsStaying x (bytes_in asked) chunk id e (left_in mid) m.world t
      by_life (inl unborn) at goes = absurd (subst (GoesOn x.seen x.config (bytes_in asked) chunk step (heard_in x.seen x.failures x.armed next.goes.kind) (left_in old) (left_in mid) (inr l)) at goes)
      by_life (inr alive) at goes =
          let on : LivesOn x.seen x.config (bytes_in asked) chunk step (heard_in x.seen x.failures x.armed next.goes.kind) (left_in old) (left_in mid) l alive = subst (GoesOn x.seen x.config (bytes_in asked) chunk step (heard_in x.seen x.failures x.armed next.goes.kind) (left_in old) (left_in mid) (inr l)) at goes in
          let told = told_there x.config (bytes_in asked) x.among chunk (left_in old) l.world l.reached first.lives.keeps apart (subst (TextsOf x.seen x.config (bytes_in asked) x.among chunk (left_in old)) is (first.lives.texts chunk)) (first.lives.held chunk) in
          let stayed = stays_on x (bytes_in asked) chunk id e step (left_in old) (left_in mid) l alive on.same on.leads first.lives.keeps told s staying spared on.by in
          (alive, at, stayed.0, stayed.1)

  pub staying_on : TellsApart x.among → (steps : List Step) (old new : History D) (a b : Account) (first : Sees x asked (left_in old) a) → IsWell x old → (runs : Runs x steps old a new b) → AllSent (PushRight (bytes_in asked)) new.sent → AllSent (IsOfOneEdit asked) new.sent
      → (l : IsAlive x.seen x.config (bytes_in asked) chunk (left_in old)) → first.lives.life chunk ≡ inr l → (s : Server) → IsStaying x (bytes_in asked) chunk id e (left_in old) l.world s → AreSpared steps old a new b runs → Ends new
  staying_on apart [] old new a b first well runs right one l is s staying spared = subst Ends (sym runs.0) (ends_there (left_in old) l s staying)
  staying_on apart (step ∷ steps) old new a b first well (mid, c, moves, rest) right one l is s staying spared =
      let stays = run_stays x asked given steps mid new c b rest in
      let next = sees_step_through x asked given law apart step old mid a c first well moves (before x.seen x.failures x.armed (PushRight (bytes_in asked)) mid.sent new.sent stays right) (before x.seen x.failures x.armed (IsOfOneEdit asked) mid.sent new.sent stays one) in
      let behind : Sees x asked (left_in mid) c = record { lives = next.goes.last; tells = next.tells; agrees = next.agrees; intact = next.intact } in
      let on = step_on apart step old mid a c first next l is s staying spared.0 in
      staying_on apart steps mid new c b behind next.well rest right one on.0 on.1 on.2 on.3 spared.1
