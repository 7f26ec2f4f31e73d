-- That a master which stands firm, within its log's limit, refuses for memory alone what records can tell.
use Rattle.std.proofs.Common.{◌≡◌, ◌∙◌, inl, inr, ◌+◌, ◌≤◌, ℕ, true, List, [], ◌∷◌, Err, refl, ap, sym, arith}
use Rattle.std.specs.Prelude.{is_some, nat_le}
use Rattle.std.proofs.lemmas.Bool.{false≢true}
use Rattle.std.proofs.lemmas.Bool.Decides.{nat_tests}
use Rattle.gs_base.specs.Told.{IsNumber}
use Rattle.gs_base.specs.declared.numbers.Moment.{Moment}
use Rattle.gs_base.specs.declared.refusal.Refusal.{Refusal}
use Rattle.gs_base.specs.declared.refusal.Refusal.TheVariants as refusals
use Rattle.gs_laws_master.proofs.lemmas.rooms.RoomsOfTurns.{messages_have_room, ticks_have_room}
use Rattle.gs_laws_master.proofs.lemmas.standing.StandingAnswers.{pressed_good}
use Rattle.gs_laws_master.proofs.lemmas.standing.StandingRuns.{events_fit}
use Rattle.gs_laws_master.proofs.lemmas.standing.StandingTurns.{Good, Holds, same_good, then_good}
use Rattle.gs_laws_master.proofs.lemmas.telling.Writing.{all_steps_written, messages_written}
use Rattle.gs_laws_master.specs.Promises.{AllFit, IsWritten}
use Rattle.gs_laws_master.specs.Rooms.{HasRoom}
use Rattle.gs_laws_master.specs.Standing.{Comes, IsFirm, IsNamedBody}
use Rattle.gs_laws_master.specs.Written.{IsHeardBody, IsSteady}
use Rattle.gs_master.specs.Masters.{MasterOf, WhyNot}
use Rattle.gs_master.specs.Ticking.{pressed_all}
use Rattle.gs_msg.specs.declared.message.Message.{Message}
use Rattle.gs_laws_world.specs.lasting.Lasting.{StandsFirm}
use Rattle.gs_master_spec.specs.Handling.{granted, handle, pressed, proposals}
use Rattle.gs_master_spec.specs.State.{State, Turn, fits, for_each, unmoved}
use Rattle.gs_nodes.specs.Happenings.{MasterHears, MasterTicks}
use Rattle.gs_nodes.specs.declared.place.MasterPlace.{MasterPlace}
use Rattle.gs_nodes.specs.declared.place.MasterPlace.TheVariants.{Standing}
use Rattle.gs_laws_world.specs.steady.Refusing.{RefusesAlone}

nothing_fits : (size limit : ℕ) → size ≤ limit → nat_le (size + 0) limit ≡ true
nothing_fits size limit within = grind (arith, nat_tests)

has_room : (s : State) (t : Turn) → s.log.size ≤ s.log.limit → HasRoom s t → fits s.log t.records ≡ true
has_room s t within (inl none) = ap (fits s.log) none ∙ nothing_fits s.log.size s.log.limit within
has_room s t within (inr room) = room

refused : (s : State) (t : Turn) (e : Refusal) → fits s.log t.records ≡ true → AllFit s t → WhyNot t s e → RefusesAlone t e
refused s t e room fit (inl memory) = inl memory
refused s t e room fit (inr (inl (full, none))) = absurd (false≢true (sym none ∙ room))
refused s t e room fit (inr (inr (bad, inl unfit))) = absurd (false≢true (ap is_some (sym unfit ∙ fit)))
refused s t e room fit (inr (inr (bad, inr unwritten))) = inr (bad, unwritten)

each_good : {A : Type 0} (xs : List A) (step : A → State → Turn) → ((x : A) (s : State) → Holds true s → Good true s (step x s)) → (s : State) → Holds true s → Good true s (for_each s xs step)
each_good [] step f s h = same_good true s (unmoved s) refl refl h
each_good (x ∷ xs) step f s h = let one = f x s h in then_good true s (step x s) (λ next. for_each next xs step) one (each_good xs step f (step x s).after one.holds)

-- the records of all steps of a tick fit
steps_fit : (s : State) (moment : Moment) → IsFirm s → AllFit s (pressed_all s moment)
steps_fit s moment f =
    let all = for_each s (proposals s) (pressed moment) in
    let first = each_good (proposals s) (pressed moment) (λ proposal next k. pressed_good next k moment proposal) s (record { stands = f.stands; rolling = λ c r. f.rolling r }) in
    (then_good true s all granted first (same_good true all.after (granted all.after) refl refl first.holds)).fits

module _ {D : Type 0} (seen : D → List ℕ) (failures : D → ℕ) (moment : Moment) (m : MasterOf D) (e : Refusal) (new : MasterPlace D) (h : StandsFirm seen m) (within : m.state.log.size ≤ m.state.log.limit) where
  pub message_refused : (message : Message) → IsNamedBody message.body × IsNumber moment.0 → MasterHears seen failures message moment (Standing m) (Err e) new → RefusesAlone (handle m.config m.state message moment) e
  message_refused message named (after, is, (why, still)) =
      let t = handle m.config m.state message moment in
      refused m.state t e (has_room m.state t within (messages_have_room m.config m.state message moment)) (events_fit m.config m.state (Comes message moment) named h.firm).fits why

  pub tick_refused : MasterTicks seen failures moment (Standing m) (Err e) new → RefusesAlone (pressed_all m.state moment) e
  tick_refused (after, is, (why, still)) =
      let t = pressed_all m.state moment in refused m.state t e (has_room m.state t within (ticks_have_room m.state moment)) (steps_fit m.state moment h.firm) why

-- where each record can be written, memory is wanting
for_memory : (t : Turn) (e : Refusal) → IsWritten t → RefusesAlone t e → e ≡ refusals.Memory
for_memory t e written (inl memory) = memory
for_memory t e written (inr (bad, unwritten)) = absurd (unwritten written)

module _ {D : Type 0} (seen : D → List ℕ) (failures : D → ℕ) (moment : Moment) (m : MasterOf D) (e : Refusal) (new : MasterPlace D) (h : StandsFirm seen m) (steady : IsSteady m.state) where
  pub message_refused_for_memory : (message : Message) → IsNamedBody message.body × IsNumber moment.0 → IsHeardBody m.state.durable.names message.body → MasterHears seen failures message moment (Standing m) (Err e) new → e ≡ refusals.Memory
  message_refused_for_memory message named within heard =
      for_memory (handle m.config m.state message moment) e (messages_written m.config m.state message moment named within steady).written
      (message_refused seen failures moment m e new h steady.room message named heard)

  pub tick_refused_for_memory : MasterTicks seen failures moment (Standing m) (Err e) new → e ≡ refusals.Memory
  tick_refused_for_memory ticked = for_memory (pressed_all m.state moment) e (all_steps_written m.state moment steady).written (tick_refused seen failures moment m e new h steady.room ticked)
