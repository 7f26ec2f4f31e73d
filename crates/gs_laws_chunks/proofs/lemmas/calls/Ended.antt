-- The call by which an epoch ends comes at the step, and is answered its epoch.
use Rattle.std.proofs.Common.{◌≡◌, ◌∙◌, ◌⊎◌, inl, inr, ℕ, Bool, true, false, List, [], ◌∷◌, Option, Some, None, Ok, refl, sym, ap, subst}
use Rattle.std.specs.Prelude.{if◌then◌else◌}
use Rattle.std.specs.List.{AllByRecursion}
use Rattle.gs_base.specs.declared.config.Config.{Config}
use Rattle.gs_base.specs.declared.numbers.Moment.{Moment}
use Rattle.gs_base.specs.declared.numbers.ReqId.{ReqId}
use Rattle.gs_base.specs.declared.refusal.Refusal.TheVariants as refusals
use Rattle.gs_master.specs.Masters.{MasterOf}
use Rattle.gs_laws_lift.proofs.lemmas.calls.Ended.{ends_are_answered}
use Rattle.gs_laws_lift.specs.copies.Held.{IsIn}
use Rattle.gs_laws_lift.specs.calls.Ended.{IsAnsweredOnly, epoch_told}
use Rattle.gs_laws_lift.specs.calls.Recorded.{IsRecordedFor}
use Rattle.gs_laws_moves.specs.moves.ForCalls.{IsNew}
use Rattle.gs_laws_moves.specs.moves.Laws.{said_from}
use Rattle.gs_master_record.specs.Plain.{Finalize, PlainEntry, Prepare, RollbackBegin, RollbackCommit}
use Rattle.gs_master_spec.specs.Handling.{call_turn, from_node, handle}
use Rattle.gs_master_spec.specs.State.{State, Turn, is_failed, met_by}
use Rattle.gs_msg.specs.declared.answer.Answer.TheVariants as answers
use Rattle.gs_msg.specs.declared.body.Body.{Body}
use Rattle.gs_msg.specs.declared.body.Body.TheVariants as bodies
use Rattle.gs_msg.specs.declared.call.Call.{Call}
use Rattle.gs_msg.specs.declared.call.Call.TheVariants as calls
use Rattle.gs_msg.specs.declared.event.DiskId.{DiskId}
use Rattle.gs_msg.specs.declared.event.Happening.{Happening}
use Rattle.gs_msg.specs.declared.event.Happening.TheVariants as happenings
use Rattle.gs_msg.specs.declared.message.Message.{Message}
use Rattle.gs_msg.specs.declared.node.NodeId.{NodeId}
use Rattle.gs_msg.specs.declared.node.NodeId.TheVariants as nodes
use Rattle.gs_msg.specs.declared.node.StoreNode.TheVariants as keepers
use Rattle.gs_nodes.specs.declared.place.MasterPlace.{MasterPlace}
use Rattle.gs_world.proofs.Reaching.{HaveSizes}
use Rattle.gs_world.specs.Histories.{History}
use Rattle.gs_world.specs.Runs.{Comes, Step, Takes}
use Rattle.gs_laws_world.specs.steady.Through.{Turns, TurnsAt}
use Rattle.gs_laws_chunks.proofs.lemmas.calls.Runs.{turns_for}
use Rattle.gs_laws_chunks.proofs.lemmas.calls.Turns.{said_is}
use Rattle.gs_laws_chunks.specs.calls.Asked.{EndsAreCalled, IsEndCalled, heard_at, heard_of}

none_some : {A : Type 0} {a : A} → ◌≡◌ {A = Option A} None (Some a) → ⊥
none_some h = absurd (cc)

one_among : (P : PlainEntry → Type 0) (entry : PlainEntry) (records : List PlainEntry) → AllByRecursion P records → IsIn entry records → P entry
one_among P entry [] all among = absurd among
one_among P entry (x ∷ records) all (inl is) = subst P is all.0
one_among P entry (x ∷ records) all (inr among) = one_among P entry records all.1 among

none_among : (entry : PlainEntry) (records : List PlainEntry) → records ≡ [] → IsIn entry records → ⊥
none_among entry records none among = subst (IsIn entry) none among

-- ---- what is heard is the call, and the turn is its own

call_is : {a b : ReqId} {x y : Call} → bodies.Call a x ≡ bodies.Call b y → (a ≡ b) × (x ≡ y)
call_is h = (cc, cc)

module _ (config : Config) (s : State) (moment : Moment) (by : ℕ) (req : ReqId) (call : Call) where
  abbrev IsOwn : Turn → Type 0
  IsOwn t = (t ≡ call_turn config s req moment call) ⊎ (t.records ≡ [])

  of_server : (server : ℕ) (body : Body) → body ≡ bodies.Call req call → IsOwn (from_node config s moment body (nodes.Server server))
  of_server server body is = inr (subst (λ b. (from_node config s moment b (nodes.Server server)).records ≡ []) (sym is) (by_fault (is_failed s.fault)))
    where
      by_fault : (b : Bool) → (if b then met_by s refusals.Device else met_by s refusals.Stray).records ≡ []
      by_fault true = refl
      by_fault false = refl

  own_turn : (from : NodeId) (body : Body) → said_from from body ≡ Some (by, bodies.Call req call) → IsOwn (from_node config s moment body from)
  own_turn (nodes.Server server) body is = of_server server body (said_is (nodes.Server server) body by req call is)
  own_turn (nodes.Client client) (bodies.Call r c) is =
      let same = call_is (said_is (nodes.Client client) (bodies.Call r c) by req call is) in
      inl (λ i. call_turn config s (same.0 i) moment (same.1 i))
  own_turn (nodes.Client client) body is = inr refl
  own_turn nodes.Master body is = inr refl

  handled : (message : Message) → said_from message.from message.body ≡ Some (by, bodies.Call req call) → IsOwn (handle config s message moment)
  unfolding handle
  handled message is = own_turn message.from message.body is

module _ {D : Type 0} (now : History D) (m : MasterOf D) (t : Turn) (by : ℕ) (req : ReqId) (call : Call) where
  by_happening : (moment : Moment) (happening : Happening) → Turns moment happening now m t → heard_at (Comes (record { moment = moment; happening = happening })) now.sent ≡ Some (by, bodies.Call req call) → (at : Moment) × IsOwn m.config m.state at by req call t
  by_happening moment (happenings.Deliver id) (message, found, to, made) is = (moment, subst (IsOwn m.config m.state moment by req call) (sym made) (handled m.config m.state moment by req call message (sym (ap heard_of found) ∙ is)))
  by_happening moment (happenings.Tick keepers.Master) made is = absurd (none_some is)
  by_happening moment (happenings.Tick (keepers.Server id)) made is = absurd made
  by_happening moment (happenings.Ask other request) made is = absurd made
  by_happening moment (happenings.Beat id) made is = absurd made
  by_happening moment (happenings.Restart node) made is = absurd made
  by_happening moment (happenings.Lose id handle) made is = absurd made
  by_happening moment (happenings.Damage id handle block) made is = absurd made
  by_happening moment (happenings.FailDisk disk number) made is = absurd made

  own_at : (step : Step) → TurnsAt step now m t → heard_at step now.sent ≡ Some (by, bodies.Call req call) → (at : Moment) × IsOwn m.config m.state at by req call t
  own_at (Comes event) made is = by_happening event.moment event.happening made is
  own_at (Takes client) made is = absurd made

module _ {D : Type 0} (now : History D) (step : Step) (m : MasterOf D) (t : Turn) (made : TurnsAt step now m t) (entry : PlainEntry) (among : IsIn entry t.records) where
  called : (req : ReqId) (call : Call) (epoch : ℕ) → IsNew (heard_at step now.sent) m.state req call → epoch_told call entry ≡ Some epoch → IsEndCalled step now entry t
  called req call epoch new told = record { from = new.heard_so.0; req = req; call = call; epoch = epoch; comes = new.heard_so.1; tells = told; answered = (let own = own_at now m t new.heard_so.0 req call step made new.heard_so.1 in by_turn own.0 own.1) }
    where
      by_turn : (at : Moment) → IsOwn m.config m.state at new.heard_so.0 req call t → IsAnsweredOnly req (Ok (answers.Epoch epoch)) t.sent
      by_turn at (inl is) =
          subst (λ (u : Turn). IsAnsweredOnly req (Ok (answers.Epoch epoch)) u.sent) (sym is) (ends_are_answered m.config m.state req at call entry epoch new.rests (subst (λ (u : Turn). IsIn entry u.records) is among) told)
      by_turn at (inr none) = absurd (none_among entry t.records none among)

by_entry : {D : Type 0} (now : History D) (step : Step) (m : MasterOf D) (t : Turn) → TurnsAt step now m t → (all : List (ReqId × Call)) (call : Call) (entry : PlainEntry) (epoch : ℕ) → epoch_told call entry ≡ Some epoch → IsIn entry t.records → IsRecordedFor all m.config (heard_at step now.sent) m.state t entry
    → IsEndCalled step now entry t
by_entry now step m t made all calls.PrepareCommit (Prepare e moment chunks) epoch told among is = called now step m t made (Prepare e moment chunks) among is.0 calls.PrepareCommit epoch is.1 told
by_entry now step m t made all calls.PrepareCommit entry epoch told among is = absurd (none_some told)
by_entry now step m t made all calls.Finalize (Finalize e) epoch told among is = called now step m t made (Finalize e) among is.0 calls.Finalize epoch is.1 told
by_entry now step m t made all calls.Finalize entry epoch told among is = absurd (none_some told)
by_entry now step m t made all calls.RollbackBegin (RollbackBegin e) epoch told among is = called now step m t made (RollbackBegin e) among is.0 calls.RollbackBegin epoch is.1 told
by_entry now step m t made all calls.RollbackBegin entry epoch told among is = absurd (none_some told)
by_entry now step m t made all calls.RollbackCommit (RollbackCommit e given) epoch told among is = called now step m t made (RollbackCommit e given) among is.0 calls.RollbackCommit epoch is.1 told
by_entry now step m t made all calls.RollbackCommit entry epoch told among is = absurd (none_some told)
by_entry now step m t made all call entry epoch told among is = absurd (none_some told)

pub ends_called : {D : Type 0} (seen : D → List ℕ) (failures : D → ℕ) (armed : DiskId → ℕ → MasterPlace D → MasterPlace D) → HaveSizes → EndsAreCalled seen failures armed
ends_called seen failures armed sizes now step m t entry r is at sound made end among =
    let calls_of = turns_for seen failures armed sizes now step m t r is at sound made in
    by_entry now step m t made calls_of.all end.0 entry end.1 end.2 among (one_among (IsRecordedFor calls_of.all m.config (heard_at step now.sent) m.state t) entry t.records calls_of.turn.records among)
