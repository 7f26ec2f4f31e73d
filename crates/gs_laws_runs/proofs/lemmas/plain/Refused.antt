-- A step at which the master refuses a request writes no edit of it.
use Rattle.std.proofs.Common.{◌≡◌, ◌∙◌, Bool, true, false, List, [], Option, Some, None, refl, sym, ap, subst}
use Rattle.std.specs.List.{list_any}
use Rattle.gs_base.specs.declared.numbers.Moment.{Moment}
use Rattle.gs_base.specs.declared.numbers.ReqId.{ReqId}
use Rattle.gs_master.proofs.Idle.{nothing_recorded}
use Rattle.gs_master.proofs.Renewed.{failed_tick}
use Rattle.gs_master.specs.Masters.{MasterOf}
use Rattle.gs_laws_master.specs.Standing.{Comes as HearsAt, IsNamed, Ticks as TicksAt}
use Rattle.gs_laws_moves.proofs.lemmas.moves.Refused.{refused_makes_no_edit}
use Rattle.gs_laws_moves.specs.moves.Over.{refuses, tells_edit_of}
use Rattle.gs_master_record.specs.Plain.{PlainEntry}
use Rattle.gs_master_spec.specs.Applied.{replayed}
use Rattle.gs_master_spec.specs.Handling.{handle, tick}
use Rattle.gs_master_spec.specs.State.{Turn, is_failed}
use Rattle.gs_msg.specs.declared.event.Happening.{Happening}
use Rattle.gs_msg.specs.declared.event.Happening.TheVariants as happenings
use Rattle.gs_msg.specs.declared.message.Message.{Message}
use Rattle.gs_msg.specs.declared.node.NodeId.{NodeId}
use Rattle.gs_msg.specs.declared.node.NodeId.TheVariants as nodes
use Rattle.gs_msg.specs.declared.node.StoreNode.TheVariants as keepers
use Rattle.gs_nodes.specs.declared.place.MasterPlace.{MasterPlace}
use Rattle.gs_nodes.specs.declared.place.MasterPlace.TheVariants.{Standing, Closed, Away}
use Rattle.gs_world.proofs.Reaching.{HaveSizes}
use Rattle.gs_world.specs.Histories.{History}
use Rattle.gs_laws_world.specs.lasting.Lasting.{HearsNamed}
use Rattle.gs_world.specs.Runs.{Comes, Step, Takes}
use Rattle.gs_world.specs.Sent.{message_of}
use Rattle.gs_laws_chunks.proofs.lemmas.accounts.Edits.{AreNumbered}
use Rattle.gs_laws_chunks.proofs.lemmas.accounts.SeeingThrough.{reached_well}
use Rattle.gs_laws_chunks.proofs.lemmas.accounts.Well.{IsWell, step_within, well_steady}
use Rattle.gs_laws_chunks.specs.accounts.Accounts.{Account}
use Rattle.gs_laws_chunks.specs.accounts.Hearing.{to_master}
use Rattle.gs_laws_chunks.specs.accounts.Running.{Setup}
use Rattle.gs_laws_world.specs.steady.Steady.{LastsSteady, StandsSteady, StepWithin}
use Rattle.gs_laws_lift.specs.stores.Left.{as_left, left_of}
use Rattle.gs_laws_runs.proofs.lemmas.plain.Cut.{taken_of}
use Rattle.gs_laws_runs.proofs.lemmas.plain.Onward.{had, has}
use Rattle.gs_laws_runs.proofs.lemmas.plain.Over.{any_taken}
use Rattle.gs_laws_runs.proofs.lemmas.plain.Writing.{Keeps, Turns, Writes, writes}
use Rattle.gs_laws_runs.specs.plain.Over.{RefusedMakeNoEdits, WritesNoEdit}
use Rattle.gs_laws_runs.specs.plain.Written.{messages_at, messages_of_message, messages_of_tick, records_at, records_of_message, records_of_tick}

module _ (req : ReqId) where
  abbrev Refusing : List Message → Type 0
  Refusing messages = list_any (λ (m : Message). refuses req m.body) messages ≡ true

  abbrev Silent : List PlainEntry → Type 0
  Silent records = list_any (tells_edit_of req) records ≡ false

  none_of : (records : List PlainEntry) → records ≡ [] → Silent records
  none_of records none = ap (list_any (tells_edit_of req)) none

  module _ {D : Type 0} (x : Setup D) where
    -- a master of which no disk has failed does its turn; once one has, it records nothing
    by_fault : (m : MasterOf D) (b : Bool) (P : Type 0) → is_failed m.state.fault ≡ b → LastsSteady x.seen (left_of b m) → (is_failed m.state.fault ≡ true → P) → (StandsSteady x.seen m → P) → P
    by_fault m true P failed lasts f g = f failed
    by_fault m false P sound lasts f g = g lasts

    -- where nothing comes to it
    nothing_heard : (place : MasterPlace D) (moment : Moment) → Silent (records_of_message place moment None)
    nothing_heard (Standing m) moment = refl
    nothing_heard (Closed first second) moment = refl
    nothing_heard Away moment = refl

    by_message : (place : MasterPlace D) (moment : Moment) (message : Message) → LastsSteady x.seen (as_left place) → IsNamed (HearsAt message moment) → Refusing (messages_of_message place moment (Some message)) → Silent (records_of_message place moment (Some message))
    by_message (Standing m) moment message lasts named some =
        by_fault m (is_failed m.state.fault) (Silent (handle m.config m.state message moment).records) refl lasts
        (λ failed. none_of (handle m.config m.state message moment).records (nothing_recorded m.config m.state message moment failed))
        (λ h. (refused_makes_no_edit m.config m.state (HearsAt message moment) req named h.steady.firm some).edits)
    by_message (Closed first second) moment message lasts named some = refl
    by_message Away moment message lasts named some = refl

    by_tick : (place : MasterPlace D) (moment : Moment) → LastsSteady x.seen (as_left place) → Refusing (messages_of_tick place moment) → Silent (records_of_tick place moment)
    by_tick (Standing m) moment lasts some =
        by_fault m (is_failed m.state.fault) (Silent (tick m.state moment).records) refl lasts
        (λ failed. none_of (tick m.state moment).records (ap (λ (t : Turn). t.records) (failed_tick m.state moment failed)))
        (λ h. (refused_makes_no_edit m.config m.state (TicksAt moment) req tt h.steady.firm some).edits)
    by_tick (Closed first second) moment lasts some = refl
    by_tick Away moment lasts some = refl

    by_happening : (old : History D) (moment : Moment) (happening : Happening) → LastsSteady x.seen (as_left old.nodes.master) → HearsNamed moment happening old → Refusing (messages_at (Comes (record { moment = moment; happening = happening })) old)
        → Silent (records_at (Comes (record { moment = moment; happening = happening })) old)
    by_happening old moment (happenings.Deliver id) lasts named some = by_found (message_of old.sent id) refl some
      where
        by_to : (message : Message) → message_of old.sent id ≡ Some message → (to : NodeId) → message.to ≡ to → Refusing (messages_of_message old.nodes.master moment (to_master (Some message))) → Silent (records_of_message old.nodes.master moment (to_master (Some message)))
        by_to message found nodes.Master to h =
            let heard : to_master (Some message) ≡ Some message = rw to refl in
            subst (λ o. Silent (records_of_message old.nodes.master moment o)) (sym heard)
            (by_message old.nodes.master moment message lasts (named message found to) (subst (λ o. Refusing (messages_of_message old.nodes.master moment o)) heard h))
        by_to message found (nodes.Server server) to h =
            let nobody : to_master (Some message) ≡ None = rw to refl in subst (λ o. Silent (records_of_message old.nodes.master moment o)) (sym nobody) (nothing_heard old.nodes.master moment)
        by_to message found (nodes.Client client) to h =
            let nobody : to_master (Some message) ≡ None = rw to refl in subst (λ o. Silent (records_of_message old.nodes.master moment o)) (sym nobody) (nothing_heard old.nodes.master moment)

        by_found : (o : Option Message) → message_of old.sent id ≡ o → Refusing (messages_of_message old.nodes.master moment (to_master o)) → Silent (records_of_message old.nodes.master moment (to_master o))
        by_found None found h = nothing_heard old.nodes.master moment
        by_found (Some message) found h = by_to message found message.to refl h
    by_happening old moment (happenings.Tick keepers.Master) lasts named some = by_tick old.nodes.master moment lasts some
    by_happening old moment (happenings.Tick (keepers.Server id)) lasts named some = refl
    by_happening old moment (happenings.Ask by request) lasts named some = refl
    by_happening old moment (happenings.Beat id) lasts named some = refl
    by_happening old moment (happenings.Restart node) lasts named some = refl
    by_happening old moment (happenings.Lose id handle) lasts named some = refl
    by_happening old moment (happenings.Damage id handle block) lasts named some = refl
    by_happening old moment (happenings.FailDisk disk call) lasts named some = refl

    records_none : (step : Step) (old : History D) → IsWell x old → StepWithin step old → Refusing (messages_at step old) → Silent (records_at step old)
    records_none (Comes event) old well within some = by_happening old event.moment event.happening (well_steady x old well) within.0 some
    records_none (Takes client) old well within some = refl

    none_written : (step : Step) (old new : History D) (a b : Account) → Silent (records_at step old) → Writes (records_at step old) old.nodes.master new.nodes.master a.durable b.durable → WritesNoEdit req step old a b
    none_written step old new a b none (Keeps same) = record { written = 0; records = ap Some (sym same); none = refl }
    none_written step old new a b none (Turns m heard t many all at first turn written low stands are but whole) =
        let is = taken_of many all t.records (records_at step old) are low in
        record { written = many; records = ap (replayed a.durable) (sym is) ∙ stands; none = any_taken (tells_edit_of req) many (records_at step old) none }

pub refused_make_no_edits : HaveSizes → AreNumbered → {D : Type 0} (x : Setup D) → RefusedMakeNoEdits x
refused_make_no_edits sizes law x old new a b step req r moves some =
    let well = reached_well x old a r in
    none_written req x step old new a b (records_none req x step old well (step_within x r.begins.given step old new well moves.steps) some)
    (writes x r.begins.given step old new a.durable b.durable well moves.steps (had sizes law x step old new a b r moves) (has sizes law x step old new a b r moves))
