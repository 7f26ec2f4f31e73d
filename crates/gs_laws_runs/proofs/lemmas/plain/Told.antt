-- A chunk of which a view is settled was made on a server, or was told to be a copy: so was each that a call is to put in the place of another, and each that a step puts there.
use Rattle.std.proofs.Common.{◌≡◌, ◌∙◌, ℕ, Bool, true, false, List, [], ◌∷◌, Option, Some, None, refl, ap, sym, subst, slice_get}
use Rattle.std.specs.Prelude.{is_some}
use Rattle.std.specs.FinMap as fin
use Rattle.std.specs.List.{AllByRecursion}
use Rattle.gs_base.specs.Told.{IsNumber}
use Rattle.gs_base.specs.declared.numbers.Moment.{Moment}
use Rattle.gs_base.specs.declared.numbers.Stamp.{Stamp}
use Rattle.gs_lease.specs.declared.view.View.{View}
use Rattle.gs_master.proofs.Idle.{nothing_recorded}
use Rattle.gs_master.proofs.Renewed.{failed_tick}
use Rattle.gs_master.specs.Masters.{MasterOf}
use Rattle.gs_laws_lift.proofs.lemmas.copies.Made.{once_puts, puts_weaker}
use Rattle.gs_laws_lift.proofs.lemmas.copies.Waiting.{all_in_weaker}
use Rattle.gs_laws_lift.specs.copies.Made.{AreOfCopies, IsOfCopy, PutsCopy}
use Rattle.gs_laws_master.specs.Standing.{Comes as HearsAt, IsFirm, IsNamedBody, Ticks as TicksAt}
use Rattle.gs_laws_moves.proofs.lemmas.moves.Made.{events_end_once}
use Rattle.gs_master_record.specs.Plain.{PlainEntry}
use Rattle.gs_master_spec.specs.Applied.{view_in}
use Rattle.gs_master_spec.specs.Durable.{Settled, is_given}
use Rattle.gs_master_spec.specs.Handling.{handle, tick}
use Rattle.gs_master_spec.specs.State.{Turn, is_failed}
use Rattle.gs_master_spec.specs.declared.pending.Waiting.{Waiting}
use Rattle.gs_master_spec.specs.declared.pending.Waiting.TheVariants as waits
use Rattle.gs_msg.specs.declared.event.Happening.{Happening}
use Rattle.gs_msg.specs.declared.event.Happening.TheVariants as happenings
use Rattle.gs_msg.specs.declared.message.Message.{Message}
use Rattle.gs_msg.specs.declared.message.MsgId.{MsgId}
use Rattle.gs_msg.specs.declared.node.NodeId.{NodeId}
use Rattle.gs_msg.specs.declared.node.NodeId.TheVariants as nodes
use Rattle.gs_msg.specs.declared.node.StoreNode.TheVariants as keepers
use Rattle.gs_nodes.specs.declared.place.MasterPlace.{MasterPlace}
use Rattle.gs_nodes.specs.declared.place.MasterPlace.TheVariants.{Away, Closed, Standing}
use Rattle.gs_world.proofs.Reaching.{HaveSizes}
use Rattle.gs_world.specs.Histories.{History}
use Rattle.gs_laws_world.specs.lasting.Lasting.{HearsNamed, Lasts, StepNamed}
use Rattle.gs_world.specs.Runs.{Comes, Step, Takes}
use Rattle.gs_world.specs.Sent.{message_of}
use Rattle.gs_laws_chunks.proofs.lemmas.accounts.Edits.{AreNumbered}
use Rattle.gs_laws_chunks.proofs.lemmas.accounts.Holding.{reach_more}
use Rattle.gs_laws_chunks.proofs.lemmas.accounts.Runs.{has_told}
use Rattle.gs_laws_chunks.proofs.lemmas.accounts.SeeingThrough.{each_is_seen_through, reached_through}
use Rattle.gs_laws_chunks.proofs.lemmas.accounts.Told.{named}
use Rattle.gs_laws_chunks.specs.accounts.Accounts.{Account}
use Rattle.gs_laws_chunks.specs.accounts.Hearing.{to_master}
use Rattle.gs_laws_chunks.specs.accounts.Running.{IsReached, Moves, Setup}
use Rattle.gs_laws_lift.specs.stores.Copying.{copied_from, is_copied}
use Rattle.gs_laws_lift.specs.stores.Doing.{HasDurable}
use Rattle.gs_laws_lift.specs.stores.Going.{Elsewhere, Kind, OfMaster, OfServer}
use Rattle.gs_laws_lift.specs.stores.Left.{as_left, left_in, left_of}
use Rattle.gs_laws_runs.proofs.lemmas.plain.Brought.{absent_there, kind_there, left_lasts}
use Rattle.gs_laws_runs.proofs.lemmas.plain.Peopled.{never_settled}
use Rattle.gs_laws_runs.proofs.lemmas.plain.Unmade.{OfCopiesAt, copies_there}
use Rattle.gs_laws_runs.proofs.lemmas.plain.Writing.{has_one}
use Rattle.gs_laws_runs.specs.plain.Told.{IsMadeNowhere, PutWereTold, SettledWereMade, WaitingWereTold}
use Rattle.gs_laws_runs.specs.plain.Written.{records_at, records_of_message, records_of_tick}

module _ (sizes : HaveSizes) (law : AreNumbered) {D : Type 0} (x : Setup D) where
  -- ---- in a world

  row_there : (o : Option Settled) (view : View) → view_in o ≡ Some view → is_some o ≡ true
  row_there None view is = absurd (cc)
  row_there (Some y) view is = refl

  settled_made : (now : History D) (a : Account) (chunk : ℕ) → IsReached x now a → is_some (fin.get a.durable.chunks chunk) ≡ true → IsMadeNowhere now.sent chunk → is_copied now.sent chunk ≡ true
  settled_made now a chunk r some made = by_copied (copied_from now.sent chunk) refl
    where
      by_copied : (o : Option (ℕ × Stamp)) → copied_from now.sent chunk ≡ o → is_some o ≡ true
      by_copied (Some source) is = refl
      by_copied None is = absurd (never_settled x chunk sizes law now a r (absent_there sizes law x chunk now a r made is).servers some)

  pub settled_were_made : SettledWereMade x
  settled_were_made now a chunk view r told made = settled_made now a chunk r (row_there (fin.get a.durable.chunks chunk) view told) made

  pub waiting_were_told : WaitingWereTold x
  waiting_were_told now a m r at = all_in_weaker _ _ (λ p. by_waiting p.waits) m.state.volatile.pending (subst (OfCopiesAt x now.sent) at (copies_there sizes law x now a r)).waiting
    where
      by_waiting : (w : Waiting) → IsOfCopy (λ copy. (is_given m.state.durable.next_handle copy ≡ true) × IsMadeNowhere now.sent copy) w → IsOfCopy (λ copy. is_some (fin.get a.durable.chunks copy) ≡ true → is_copied now.sent copy ≡ true) w
      by_waiting (waits.Copy path index old new) of = λ some. settled_made now a new r some of.1
      by_waiting (waits.Extend path new) of = tt
      by_waiting (waits.Lease path index chunk) of = tt
      by_waiting (waits.Quiet path index chunk) of = tt
      by_waiting (waits.Snapshot from to) of = tt
      by_waiting (waits.Replicate chunk target) of = tt

  -- ---- at a step

  module _ (step : Step) (old new : History D) (a b : Account) (r : IsReached x old a) (moves : Moves x step old a new b) where
    reached : IsReached x new b
    reached = reach_more x old new a b (step ∷ []) r (new, b, moves, (refl, refl))

    has_at : (now : History D) (c : Account) → IsReached x now c → HasDurable x.seen (as_left now.nodes.master) c.durable
    has_at now c there = (let seen = each_is_seen_through sizes law x now c there in has_told x seen.0 (left_in now) c seen.2)

    -- where the master is as it was
    still_made : new.nodes.master ≡ old.nodes.master → (chunk : ℕ) → IsMadeNowhere old.sent chunk → is_some (fin.get b.durable.chunks chunk) ≡ true → is_copied old.sent chunk ≡ true
    still_made master chunk made some =
        let same = has_one x (as_left old.nodes.master) a.durable b.durable (has_at old a r) (subst (λ place. HasDurable x.seen (as_left place) b.durable) master (has_at new b reached)) in
        settled_made old a chunk r (ap (λ d. is_some (fin.get d.chunks chunk)) same ∙ some) made

    -- a view that is settled then is of one that was told so before
    step_made : (chunk : ℕ) → IsMadeNowhere old.sent chunk → is_some (fin.get b.durable.chunks chunk) ≡ true → is_copied old.sent chunk ≡ true
    step_made chunk made some = by_kind (kind_there sizes law x step old new a b r moves)
      where
        by_copied : new.nodes.servers ≡ old.nodes.servers → (o : Option (ℕ × Stamp)) → copied_from old.sent chunk ≡ o → is_some o ≡ true
        by_copied servers (Some source) is = refl
        by_copied servers None is =
            absurd (never_settled x chunk sizes law new b reached (λ id s found. (absent_there sizes law x chunk old a r made is).servers id s (subst (λ ss. slice_get ss id ≡ Some s) servers found)) some)

        by_kind : Kind x.seen x.failures x.armed step old new → is_copied old.sent chunk ≡ true
        by_kind (OfServer id s after messages moment found goes met servers master posted) = still_made master chunk made some
        by_kind (Elsewhere by messages moment are servers master posted) = still_made master chunk made some
        by_kind (OfMaster place messages moment goes servers master posted) = by_copied servers (copied_from old.sent chunk) refl

    abbrev TellsAll : List PlainEntry → Type 0
    TellsAll records = AllByRecursion (PutsCopy (λ copy. is_some (fin.get b.durable.chunks copy) ≡ true → is_copied old.sent copy ≡ true)) records

    -- a master of which a disk has failed records nothing
    by_fault : (m : MasterOf D) (failed : Bool) → is_failed m.state.fault ≡ failed → old.nodes.master ≡ Standing m → (records : List PlainEntry) → (failed ≡ true → records ≡ []) → (IsFirm m.state → AreOfCopies (IsMadeNowhere old.sent) m.state → TellsAll records) → TellsAll records
    by_fault m true is at records none sound = subst TellsAll (sym (none refl)) tt
    by_fault m false is at records none sound =
        let left : as_left old.nodes.master ≡ Standing m = ap as_left at ∙ ap (λ b. left_of b m) is in
        sound (subst (Lasts x.seen) left (left_lasts sizes law x old a r)).firm (subst (OfCopiesAt x old.sent) left (copies_there sizes law x old a r))

    heard_told : (place : MasterPlace D) → old.nodes.master ≡ place → (message : Message) (moment : Moment) → IsNamedBody message.body × IsNumber moment.0 → TellsAll (records_of_message place moment (Some message))
    heard_told (Standing m) at message moment meets =
        by_fault m (is_failed m.state.fault) refl at (handle m.config m.state message moment).records (λ failed. nothing_recorded m.config m.state message moment failed)
        (λ firm of. puts_weaker _ _ (λ copy k some. step_made copy k.0 some) (handle m.config m.state message moment).records
        (once_puts m.config _ (IsMadeNowhere old.sent) m.state (handle m.config m.state message moment) (events_end_once m.config m.state (HearsAt message moment) meets firm) of))
    heard_told (Closed first second) at message moment meets = tt
    heard_told Away at message moment meets = tt

    ticked_told : (place : MasterPlace D) → old.nodes.master ≡ place → (moment : Moment) → TellsAll (records_of_tick place moment)
    ticked_told (Standing m) at moment =
        by_fault m (is_failed m.state.fault) refl at (tick m.state moment).records (λ failed. ap (λ (t : Turn). t.records) (failed_tick m.state moment failed))
        (λ firm of. puts_weaker _ _ (λ copy k some. step_made copy k.0 some) (tick m.state moment).records
        (once_puts m.config _ (IsMadeNowhere old.sent) m.state (tick m.state moment) (events_end_once m.config m.state (TicksAt moment) tt firm) of))
    ticked_told (Closed first second) at moment = tt
    ticked_told Away at moment = tt

    -- what comes to others is heard by them
    nobody : (message : Message) (to : NodeId) → message.to ≡ to → to_master (Some (record message { to = to })) ≡ None → to_master (Some message) ≡ None
    nobody message to is none = ap (λ n. to_master (Some (record message { to = n }))) is ∙ none

    nothing_told : (place : MasterPlace D) (moment : Moment) → TellsAll (records_of_message place moment None)
    nothing_told (Standing m) moment = tt
    nothing_told (Closed first second) moment = tt
    nothing_told Away moment = tt

    delivered_told : (moment : Moment) (id : MsgId) → HearsNamed moment (happenings.Deliver id) old → (found : Option Message) → message_of old.sent id ≡ found → TellsAll (records_of_message old.nodes.master moment (to_master found))
    delivered_told moment id heard None is = nothing_told old.nodes.master moment
    delivered_told moment id heard (Some message) is = by_to message.to refl
      where
        by_to : (to : NodeId) → message.to ≡ to → TellsAll (records_of_message old.nodes.master moment (to_master (Some message)))
        by_to nodes.Master to = subst (λ o. TellsAll (records_of_message old.nodes.master moment o)) (sym (rw to refl)) (heard_told old.nodes.master refl message moment (heard message is to))
        by_to (nodes.Server server) to = subst (λ o. TellsAll (records_of_message old.nodes.master moment o)) (sym (nobody message (nodes.Server server) to refl)) (nothing_told old.nodes.master moment)
        by_to (nodes.Client client) to = subst (λ o. TellsAll (records_of_message old.nodes.master moment o)) (sym (nobody message (nodes.Client client) to refl)) (nothing_told old.nodes.master moment)

    came_told : (moment : Moment) (happening : Happening) → HearsNamed moment happening old → TellsAll (records_at (Comes (record { moment = moment; happening = happening })) old)
    came_told moment (happenings.Deliver id) heard = delivered_told moment id heard (message_of old.sent id) refl
    came_told moment (happenings.Tick keepers.Master) meets = ticked_told old.nodes.master refl moment
    came_told moment (happenings.Tick (keepers.Server server)) meets = tt
    came_told moment happening meets = tt

    pub records_told : StepNamed step old → TellsAll (records_at step old)
    records_told = by_step step
      where
        by_step : (one : Step) → StepNamed one old → TellsAll (records_at one old)
        by_step (Comes event) meets = came_told event.moment event.happening meets
        by_step (Takes client) meets = tt

  pub put_were_told : PutWereTold x
  put_were_told old new a b step r moves = records_told step old new a b r moves (named x step old moves.steps.within (reached_through x old a r).types)
