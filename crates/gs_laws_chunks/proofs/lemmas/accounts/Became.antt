-- What becomes of the master in a step.
use Rattle.std.proofs.Common.{◌≡◌, ◌∙◌, inl, inr, ◌-◌, ◌<◌, ◌≤◌, ◌&&◌, not, ℕ, Bool, true, false, List, [], length, arith, Option, Some, None, MatchOption, Result, Ok, Err, refl, ap, subst, sym, slice_get, slice_set}
use Rattle.std.specs.Prelude.{is_some, take}
use Rattle.gs_base.specs.declared.numbers.ReqId.{ReqId}
use Rattle.gs_master.proofs.Idle.{nothing_recorded}
use Rattle.gs_master.proofs.Renewed.{failed_tick}
use Rattle.gs_master_record.specs.Plain.{PlainEntry}
use Rattle.gs_master_spec.specs.Applied.{replayed}
use Rattle.gs_master_spec.specs.Outcomes.{caller_of}
use Rattle.gs_laws_world.proofs.lemmas.steady.Through.{Onward, reopens_as, step_on, tells_some, waits_as}
use Rattle.gs_laws_world.specs.steady.Through.{LastsThrough, TellsAt, TellsOn, TurnsAt, Turns as TurnsOf}
use Rattle.gs_laws_lift.specs.stores.Left.{as_left}
use Rattle.gs_laws_chunks.proofs.lemmas.accounts.Through.{arming_through, telling_through}
use Rattle.std.proofs.lemmas.Bool.{false≢true}
use Rattle.gs_base.specs.Told.{IsNumber}
use Rattle.gs_base.specs.declared.config.Config.{Config}
use Rattle.gs_base.specs.declared.numbers.ClientId.{ClientId}
use Rattle.gs_base.specs.declared.numbers.Moment.{Moment}
use Rattle.gs_base.specs.declared.refusal.Refusal.{Refusal}
use Rattle.gs_base.specs.declared.refusal.Refusal.TheVariants as refusals
use Rattle.gs_base.specs.Calls.{Does}
use Rattle.gs_client.specs.Nodes.{Node, given_up}
use Rattle.gs_journal.specs.Journal.{failures_of_both}
use Rattle.gs_journal.specs.Records.{standing}
use Rattle.gs_laws_master.proofs.lemmas.rooms.RoomsOfTurns.{steps_leave, ticks_leave}
use Rattle.gs_laws_master.proofs.lemmas.standing.StandingRuns.{steps_fit}
use Rattle.gs_laws_master.proofs.lemmas.telling.Writing.{all_steps_written, events_written}
use Rattle.gs_laws_master.specs.Promises.{IsWritten}
use Rattle.gs_laws_master.specs.Rooms.{restored_in}
use Rattle.gs_laws_master.specs.Standing.{Comes as HearsAt, IsNamedBody, Ticks as TicksAt}
use Rattle.gs_laws_master.specs.Written.{IsHeardBody}
use Rattle.gs_master.specs.Masters.{MasterAnswers, MasterOf, with_journal}
use Rattle.gs_master.specs.Ticking.{AnswersAs, AnswersTick, is_written, lacking, pressed_all, writes_one}
use Rattle.gs_master.specs.declared.turn.Turn.{Turn as Told}
use Rattle.gs_laws_moves.proofs.lemmas.moves.Made.{events_end_once, ticks_end_once}
use Rattle.gs_laws_moves.specs.moves.Epochs.{EndsOnce}
use Rattle.gs_laws_moves.specs.moves.Guards.{Heard, IsMade}
use Rattle.gs_laws_moves.specs.moves.Laws.{said_from}
use Rattle.gs_msg.specs.declared.event.Event.{Event}
use Rattle.gs_msg.specs.declared.event.Happening.{Happening}
use Rattle.gs_msg.specs.declared.event.Happening.TheVariants as happenings
use Rattle.gs_msg.specs.declared.message.Message.{Message}
use Rattle.gs_msg.specs.declared.message.MsgId.{MsgId}
use Rattle.gs_msg.specs.declared.node.NodeId.{NodeId}
use Rattle.gs_msg.specs.declared.node.NodeId.TheVariants as nodes
use Rattle.gs_msg.specs.declared.node.StoreNode.TheVariants as keepers
use Rattle.gs_laws_chunks.proofs.lemmas.accounts.Once.{told_once}
use Rattle.gs_laws_chunks.specs.accounts.Running.{IsArmed, IsGiven, Setup, StepsWithin}
use Rattle.gs_world.specs.Histories.{AtNode, ComesTo, History, Upshot, Tells, told as told_of_turn}
use Rattle.gs_laws_world.specs.lasting.Lasting.{HearsNamed, IsToldIn, OpensAs, WaitsAs, failures_at}
use Rattle.gs_world.specs.Runs.{Comes, Goes, Step, Takes}
use Rattle.gs_world.specs.Sent.{Sent, message_of}
use Rattle.gs_laws_world.proofs.lemmas.steady.Refusing.{message_refused_for_memory}
use Rattle.gs_laws_world.specs.steady.Steady.{HearsWithin, IsHeardAt, LastsSteady, StandsSteady, StepWithin}
use Rattle.gs_laws_lift.proofs.lemmas.stores.Reopening.{never, standing_is, started}
use Rattle.gs_laws_lift.specs.stores.Doing.{HasDurable}
use Rattle.gs_server.specs.Servers.{Server}
use Rattle.gs_server.specs.Servers as servers
use Rattle.gs_master_spec.specs.Durable.{Durable}
use Rattle.gs_master_spec.specs.Handling.{due, handle, restarted, tick}
use Rattle.gs_master_spec.specs.State.{Log, State, Turn, is_failed}
use Rattle.gs_nodes.specs.Happenings.{AtClient, AtServer, ClientAsks, ClientHears, Delivers, Hears, MasterHears, MasterTicks, Opens, Reopens, ServerDoes, client_in, met_by}
use Rattle.gs_nodes.specs.Nodes.{Nodes, with_clients, with_master, with_servers}
use Rattle.gs_nodes.specs.declared.place.MasterPlace.{MasterPlace}
use Rattle.gs_nodes.specs.declared.place.MasterPlace.TheVariants.{Standing, Closed, Away}
use Rattle.gs_laws_chunks.proofs.lemmas.accounts.Well.{IsWell, armed_left, left_failed, left_sound, steady_left, step_within, tells_has, well_steady}
use Rattle.gs_laws_chunks.specs.accounts.Accepting.{met_at, restarts_master}
use Rattle.gs_laws_chunks.specs.accounts.Hearing.{heard_by_master, to_master}

-- ---- what is durable is one

pub has_one : {D : Type 0} (seen : D → List ℕ) (place : MasterPlace D) (d e : Durable) → HasDurable seen place d → HasDurable seen place e → d ≡ e
has_one seen (Standing m) d e p q = sym p ∙ q
has_one seen (Closed first second) d e p q = told_once (standing (seen first) (seen second)) d e p q
has_one seen Away d e p q = absurd p

-- ---- what becomes of it

-- The turn is that of the message that is heard at the step; or the master acts by itself, hears none, and leaves who has told of chunks.
pub data IsHearing (step : Step) (sent : Sent) (said : Result (Unit {0}) Refusal) (config : Config) (s : State) (heard : Heard) (t : Turn) : Type 0 where
  ByItself : heard ≡ None → heard_by_master step sent ≡ None → restored_in t.after ≡ restored_in s → IsHearing step sent said config s heard t
  ByMessage : (message : Message) (moment : Moment) → heard_by_master step sent ≡ Some message → heard ≡ said_from message.from message.body → t ≡ handle config s message moment → said ≡ met_by t.said → IsHearing step sent said config s heard t

-- It is as it was, but perhaps for a failure that is arranged, and refuses what it hears for want of memory. Or it has done a turn. Or it is opened on what it had.
-- Or its disks wait, and tell that.
pub data Became {D : Type 0} (seen : D → List ℕ) (step : Step) (sent : Sent) (said : Result (Unit {0}) Refusal) (old new : MasterPlace D) : Type 0 where
  Stays : (m after : MasterOf D) → old ≡ Standing m → new ≡ Standing after → after.state ≡ m.state → ((message : Message) → heard_by_master step sent ≡ Some message → said ≡ Err refusals.Memory) → restarts_master step ≡ false → Became seen step sent said old new
  Turns : (m after : MasterOf D) (heard : Heard) (t : Turn) → old ≡ Standing m → new ≡ Standing after → EndsOnce m.config (IsMade m.config heard) m.state t → IsWritten t → after.state ≡ t.after → IsHearing step sent said m.config m.state heard t
      → restarts_master step ≡ false → Became seen step sent said old new
  Opened : (after : MasterOf D) (d : Durable) (log : Log) → HasDurable seen old d → new ≡ Standing after → after.state ≡ restarted d log → heard_by_master step sent ≡ None → restarts_master step ≡ true → Became seen step sent said old new
  Waits : ((m : MasterOf D) → new ≡ Standing m → ⊥) → ((d : Durable) → HasDurable seen old d → HasDurable seen new d) → ((m : MasterOf D) → old ≡ Standing m → heard_by_master step sent ≡ None) → Became seen step sent said old new

-- where a message is heard, the turn is that of it
abbrev pub HandlesAt : {D : Type 0} → Step → Sent → MasterOf D → Turn → Type 0
HandlesAt step sent m t = (message : Message) → heard_by_master step sent ≡ Some message → (moment : Moment) × (t ≡ handle m.config m.state message moment)

-- So it is of what is left of it. Or a disk fails at a turn: so many of its records stand, and its disks tell what they lead to.
pub data BecameAll {D : Type 0} (seen : D → List ℕ) (step : Step) (sent : Sent) (said : Result (Unit {0}) Refusal) (Holds : Type 0) (old new : MasterPlace D) : Type 0 where
  Whole : Became seen step sent said old new → BecameAll seen step sent said Holds old new
  Loses : (m : MasterOf D) → old ≡ Standing m → ((z : MasterOf D) → new ≡ Standing z → ⊥) → (Holds → ⊥) → ((d : Durable) → HasDurable seen old d → HasDurable seen new d) → BecameAll seen step sent said Holds old new
  Cuts : (m : MasterOf D) (heard : Heard) (t : Turn) (many : ℕ) (d : Durable) → old ≡ Standing m → ((z : MasterOf D) → new ≡ Standing z → ⊥) → (Holds → ⊥) → EndsOnce m.config (IsMade m.config heard) m.state t → IsWritten t
      → many ≤ length t.records → replayed m.state.durable (take many t.records) ≡ Some d → HasDurable seen new d → HandlesAt step sent m t → BecameAll seen step sent said Holds old new

-- a disk failed at a turn
data Rough {D : Type 0} (seen : D → List ℕ) (failures : D → ℕ) (step : Step) (sent : Sent) (said : Result (Unit {0}) Refusal) (old new : MasterPlace D) : Type 0 where
  Done : Became seen step sent said (as_left old) (as_left new) → Rough seen failures step sent said old new
  Lost : (m : MasterOf D) → old ≡ Standing m → is_failed m.state.fault ≡ false → ((z : MasterOf D) → as_left new ≡ Standing z → ⊥) → (failures_at failures new ≡ failures_at failures old → ⊥) → Rough seen failures step sent said old new

-- a message to the master is heard by it, and no other
to_it : (message : Message) → message.to ≡ nodes.Master → to_master (Some message) ≡ Some message
to_it message h = rw h refl

to_server : (message : Message) (id : ℕ) → message.to ≡ nodes.Server id → to_master (Some message) ≡ None
to_server message id h = rw h refl

to_client : (message : Message) (id : ClientId) → message.to ≡ nodes.Client id → to_master (Some message) ≡ None
to_client message id h = rw h refl

pub closed_not : {D : Type 0} (first second : D) (m : MasterOf D) → ◌≡◌ {A = MasterPlace D} (Closed first second) (Standing m) → ⊥
closed_not first second m e = absurd (cc)

message_is : {a b : Message} → ◌≡◌ {A = Option Message} (Some a) (Some b) → a ≡ b
message_is e = cc

above : (n m : ℕ) → n < m → m ≡ 0 → ⊥
above n m below none = omega arith

module _ {D : Type 0} (x : Setup D) where
  pub opened_state : (config : Config) (first second : D) (d : Durable) (turn : Told) (place : MasterPlace D) → IsToldIn (standing (x.seen first) (x.seen second)) d → OpensAs x.seen d place → Opens x.seen x.failures config (first, second) (Ok turn) place
      → (after : MasterOf D) × (place ≡ Standing after) × ((log : Log) × (after.state ≡ restarted d log))
  opened_state config first second d turn place told found (after, is, opening, said) =
      let same = standing_is found.0 after (sym found.1 ∙ is) in
      let start = started x.seen x.failures config first second d after turn.sent.items told (subst (λ (y : MasterOf D). y.state.durable ≡ d) same (ap (λ (s : State). s.durable) found.2)) opening in (after, is, (start.log, start.state))

module _ {D : Type 0} (x : Setup D) (given : IsGiven x) (step : Step) (sent : Sent) (said : Result (Unit {0}) Refusal) where
  abbrev B : MasterPlace D → MasterPlace D → Type 0
  B old new = Rough x.seen x.failures step sent said old new

  abbrev W : MasterPlace D → MasterPlace D → Type 0
  W old new = Became x.seen step sent said old new

  abbrev Refused : Type 0
  Refused = (message : Message) → heard_by_master step sent ≡ Some message → said ≡ Err refusals.Memory

  -- what hears nothing refuses nothing
  unheard : heard_by_master step sent ≡ None → Refused
  unheard none message found = absurd (false≢true (ap is_some (sym none ∙ found)))

  -- ---- the master stays where it is

  kept_at : (old new : MasterPlace D) → new ≡ old → restarts_master step ≡ false → Refused → LastsSteady x.seen old → W old new
  kept_at (Standing m) new is calm none h = Stays m m refl is refl none calm
  kept_at (Closed first second) new is calm none h =
      Waits (λ m same. closed_not first second m (sym is ∙ same)) (λ d k. subst (λ p. HasDurable x.seen p d) (sym is) k) (λ m at. absurd (closed_not first second m at))
  kept_at Away new is calm none h = absurd h

  kept_there : (old new : MasterPlace D) → new ≡ old → restarts_master step ≡ false → Refused → LastsThrough x.seen old → B old new
  kept_there old new is calm none h = Done (kept_at (as_left old) (as_left new) (ap as_left is) calm none (steady_left x.seen old h))

  armed_at : (old new : MasterPlace D) → IsArmed x.seen old new → restarts_master step ≡ false → Refused → LastsSteady x.seen old → W old new
  armed_at (Standing m) new (j, is, alike) calm none h = Stays m (with_journal m j) refl is refl none calm
  armed_at (Closed first second) new (other, another, is, one, two) calm none h =
      Waits (λ m same. closed_not other another m (sym is ∙ same))
      (λ d k. subst (λ p. HasDurable x.seen p d) (sym is) (subst (λ t. IsToldIn t d) (sym (ap (λ s. standing s (x.seen another)) one ∙ ap (standing (x.seen first)) two)) k)) (λ m at. absurd (closed_not first second m at))
  armed_at Away new is calm none h = absurd h

  armed_there : (old new : MasterPlace D) → IsArmed x.seen old new → restarts_master step ≡ false → Refused → LastsThrough x.seen old → B old new
  armed_there old new is calm none h = Done (armed_at (as_left old) (as_left new) (armed_left x.seen old new is) calm none (steady_left x.seen old h))

  -- what a master of which a disk had failed leaves
  waits_at : (old new : MasterPlace D) (first second : D) → old ≡ Closed first second → new ≡ old → W old new
  waits_at old new first second at is =
      Waits (λ m same. closed_not first second m (sym at ∙ sym is ∙ same)) (λ d k. subst (λ p. HasDurable x.seen p d) (sym is) k) (λ m other. absurd (closed_not first second m (sym at ∙ other)))

  stands_not : (after : MasterOf D) (new : MasterPlace D) → new ≡ Standing after → is_failed after.state.fault ≡ true → (z : MasterOf D) → as_left new ≡ Standing z → ⊥
  stands_not after new at failed z same = closed_not after.journal.first after.journal.second z (sym (left_failed x.seen after failed) ∙ ap as_left (sym at) ∙ same)

  left_at : (after : MasterOf D) (new : MasterPlace D) → new ≡ Standing after → is_failed after.state.fault ≡ false → as_left new ≡ Standing after
  left_at after new at sound = ap as_left at ∙ left_sound x.seen after sound

  idle : (caller : Option ReqId) (m : MasterOf D) (t : Turn) (result : Result Told Refusal) (after : MasterOf D) (new : MasterPlace D) → new ≡ Standing after → is_failed m.state.fault ≡ true → t.records ≡ [] → MasterAnswers x.seen x.failures caller t m result after → B (Standing m) new
  idle caller m t (Ok told) after new at failed none (inl is) =
      Done (waits_at (as_left (Standing m)) (as_left new) m.journal.first m.journal.second (left_failed x.seen m failed)
      (ap as_left at ∙ left_failed x.seen after (ap is_failed is.fault ∙ failed) ∙ (λ i. Closed (is.still none i).first (is.still none i).second) ∙ sym (left_failed x.seen m failed)))
  idle caller m t (Ok told) after new at failed none (inr (place, is)) = absurd (above place (length t.records) is.cut.within (ap (λ (xs : List PlainEntry). length xs) none))
  idle caller m t (Err e) after new at failed none (why, still) =
      Done (waits_at (as_left (Standing m)) (as_left new) m.journal.first m.journal.second (left_failed x.seen m failed) (ap as_left (at ∙ ap (λ (k : MasterOf D). Standing k) still)))

  -- ---- it hears something

  -- what is said of a turn
  abbrev Says : Result Told Refusal → Type 0
  Says (Ok turn) = said ≡ met_by turn.said
  Says (Err refusal) = said ≡ Err refusal

  hears : (message : Message) (moment : Moment) (old : MasterPlace D) (result : Result Told Refusal) (new : MasterPlace D) → heard_by_master step sent ≡ Some message → restarts_master step ≡ false
      → IsNamedBody message.body × IsNumber moment.0 → ((m : MasterOf D) → old ≡ Standing m → IsHeardBody m.state.durable.names message.body) → Says result → LastsThrough x.seen old
      → MasterHears x.seen x.failures message moment old result new → B old new
  hears message moment (Standing m) result new found calm named low is lasts (after, at, answers) = by_fault (is_failed m.state.fault) refl
    where
      by_answer : (result : Result Told Refusal) → Says result → is_failed m.state.fault ≡ false → MasterAnswers x.seen x.failures (caller_of message.body) (handle m.config m.state message moment) m result after → B (Standing m) new
      by_answer (Ok turn) is sound (inl done) =
          let t = handle m.config m.state message moment in
          let h : StandsSteady x.seen m = subst (LastsSteady x.seen) (left_sound x.seen m sound) (steady_left x.seen (Standing m) lasts) in
          Done (Turns m after (said_from message.from message.body) t (left_sound x.seen m sound) (left_at after new at (ap is_failed done.fault ∙ sound)) (events_end_once m.config m.state (HearsAt message moment) named h.steady.firm) done.are_entries done.done.after
          (ByMessage message moment found refl refl (is ∙ ap met_by done.done.says)) calm)
      by_answer (Ok turn) is sound (inr (place, cut)) =
          Lost m refl sound (stands_not after new at (ap (λ (s : State). is_failed s.fault) cut.cut.after)) (λ same. never (failures_of_both x.failures m.journal) (failures_of_both x.failures after.journal) cut.cause (sym (ap (failures_at x.failures) at) ∙ same))
      by_answer (Err e) is sound (why, still) =
          let h : StandsSteady x.seen m = subst (LastsSteady x.seen) (left_sound x.seen m sound) (steady_left x.seen (Standing m) lasts) in
          Done (Stays m after (left_sound x.seen m sound) (left_at after new at (ap (λ (k : MasterOf D). is_failed k.state.fault) still ∙ sound)) (ap (λ (k : MasterOf D). k.state) still)
          (λ other heard. is ∙ ap Err (message_refused_for_memory x.seen x.failures moment m e new h.firm h.steady message named (low m refl) (after, at, (why, still)))) calm)

      by_fault : (b : Bool) → is_failed m.state.fault ≡ b → B (Standing m) new
      by_fault true failed = idle (caller_of message.body) m (handle m.config m.state message moment) result after new at failed (nothing_recorded m.config m.state message moment failed) answers
      by_fault false sound = by_answer result is sound answers
  hears message moment (Closed first second) (Ok turn) new found calm named low is h meets = Done (waits_at (Closed first second) (as_left new) first second refl (ap as_left meets.0))
  hears message moment (Closed first second) (Err e) new found calm named low is h meets = Done (waits_at (Closed first second) (as_left new) first second refl (ap as_left meets.0))
  hears message moment Away result new found calm named low is h meets = absurd h

  -- ---- it ticks

  whole_ticked : (moment : Moment) (m after : MasterOf D) (turn : Told) (b : Bool) (new : MasterPlace D) → AnswersAs x.seen x.failures b (tick m.state moment) (pressed_all m.state moment) m turn after → new ≡ Standing after → restarts_master step ≡ false
      → heard_by_master step sent ≡ None → StandsSteady x.seen m → B (Standing m) new
  whole_ticked moment m after turn true new (inl done) at calm none h =
      Done (Turns m after None (tick m.state moment) (left_sound x.seen m h.firm.sound) (left_at after new at (ap is_failed done.fault ∙ h.firm.sound)) (events_end_once m.config m.state (TicksAt moment) tt h.steady.firm) (events_written m.config m.state (TicksAt moment) tt tt h.steady).written done.done.after (ByItself refl none (ticks_leave m.state moment)) calm)
  whole_ticked moment m after turn false new (inl done) at calm none h =
      Done (Turns m after None (tick m.state moment) (left_sound x.seen m h.firm.sound) (left_at after new at (ap is_failed done.fault ∙ h.firm.sound)) (events_end_once m.config m.state (TicksAt moment) tt h.steady.firm) (events_written m.config m.state (TicksAt moment) tt tt h.steady).written done.done.after (ByItself refl none (ticks_leave m.state moment)) calm)
  whole_ticked moment m after turn true new (inr (place, cut)) at calm none h =
      Lost m refl h.firm.sound (stands_not after new at (ap (λ (s : State). is_failed s.fault) cut.cut.after)) (λ same. never (failures_of_both x.failures m.journal) (failures_of_both x.failures after.journal) cut.cause (sym (ap (failures_at x.failures) at) ∙ same))
  whole_ticked moment m after turn false new (inr (place, cut)) at calm none h =
      Lost m refl h.firm.sound (stands_not after new at (ap (λ (s : State). is_failed s.fault) cut.cut.after)) (λ same. never (failures_of_both x.failures m.journal) (failures_of_both x.failures after.journal) cut.cause (sym (ap (failures_at x.failures) at) ∙ same))

  lacks : (moment : Moment) (m after : MasterOf D) (turn : Told) (new : MasterPlace D) → MasterAnswers x.seen x.failures None (lacking (pressed_all m.state moment)) m (Ok turn) after → new ≡ Standing after → restarts_master step ≡ false
      → heard_by_master step sent ≡ None → StandsSteady x.seen m → B (Standing m) new
  lacks moment m after turn new (inl done) at calm none h =
      Done (Turns m after None (pressed_all m.state moment) (left_sound x.seen m h.firm.sound) (left_at after new at (ap is_failed done.fault ∙ h.firm.sound)) (ticks_end_once m.config m.state moment h.steady.firm (steps_fit m.state moment h.steady.firm)) (all_steps_written m.state moment h.steady).written done.done.after (ByItself refl none (steps_leave m.state moment)) calm)
  lacks moment m after turn new (inr (place, cut)) at calm none h =
      Lost m refl h.firm.sound (stands_not after new at (ap (λ (s : State). is_failed s.fault) cut.cut.after)) (λ same. never (failures_of_both x.failures m.journal) (failures_of_both x.failures after.journal) cut.cause (sym (ap (failures_at x.failures) at) ∙ same))

  ticks : (moment : Moment) (old : MasterPlace D) (result : Result Told Refusal) (new : MasterPlace D) → restarts_master step ≡ false → heard_by_master step sent ≡ None → LastsThrough x.seen old → MasterTicks x.seen x.failures moment old result new → B old new
  ticks moment (Standing m) result new calm none lasts (after, at, answers) = by_fault (is_failed m.state.fault) refl result answers
    where
      by_fault : (b : Bool) → is_failed m.state.fault ≡ b → (result : Result Told Refusal) → AnswersTick x.seen x.failures moment m result after → B (Standing m) new
      by_fault true failed (Ok turn) (inl whole) =
          idle None m (tick m.state moment) (Ok turn) after new at failed (ap (λ (t : Turn). t.records) (failed_tick m.state moment failed))
          (subst (λ b. AnswersAs x.seen x.failures b (tick m.state moment) (pressed_all m.state moment) m turn after) (ap (λ b. not b && (due (pressed_all m.state moment).after && is_written (pressed_all m.state moment).after)) failed) whole)
      by_fault true failed (Ok turn) (inr (sound, is_due, wanting, done)) = absurd (false≢true (sym sound ∙ failed))
      by_fault true failed (Err e) (why, still) =
          Done (waits_at (as_left (Standing m)) (as_left new) m.journal.first m.journal.second (left_failed x.seen m failed) (ap as_left (at ∙ ap (λ (k : MasterOf D). Standing k) still)))
      by_fault false sound (Ok turn) (inl whole) = whole_ticked moment m after turn (writes_one m.state (pressed_all m.state moment)) new whole at calm none (subst (LastsSteady x.seen) (left_sound x.seen m sound) (steady_left x.seen (Standing m) lasts))
      by_fault false sound (Ok turn) (inr (still, is_due, wanting, done)) = lacks moment m after turn new done at calm none (subst (LastsSteady x.seen) (left_sound x.seen m sound) (steady_left x.seen (Standing m) lasts))
      by_fault false sound (Err e) (why, still) =
          Done (Stays m after (left_sound x.seen m sound) (left_at after new at (ap (λ (k : MasterOf D). is_failed k.state.fault) still ∙ sound)) (ap (λ (k : MasterOf D). k.state) still) (unheard none) calm)
  ticks moment (Closed first second) (Ok turn) new calm none h meets = kept_there (Closed first second) new meets.0 calm (unheard none) h
  ticks moment (Closed first second) (Err e) new calm none h meets = kept_there (Closed first second) new meets.0 calm (unheard none) h
  ticks moment Away result new calm none h meets = absurd h

  -- ---- it is started again

  opens : (config : Config) (first second : D) (turn : Told) (old new : MasterPlace D) (d : Durable) → HasDurable x.seen (as_left old) d → IsToldIn (standing (x.seen first) (x.seen second)) d → OpensAs x.seen d new
      → heard_by_master step sent ≡ None → restarts_master step ≡ true → Opens x.seen x.failures config (first, second) (Ok turn) new → B old new
  opens config first second turn old new d has told found none again opening =
      let o = opened_state x config first second d turn new told found opening in
      Done (Opened o.0 d o.2.0 has (left_at o.0 new o.1 (ap (λ (s : State). is_failed s.fault) o.2.1)) o.2.1 none again)

  unopened : (old new : MasterPlace D) (d : Durable) → HasDurable x.seen (as_left old) d → WaitsAs x.seen d new → heard_by_master step sent ≡ None → B old new
  unopened old new d has (first, second, is, told) none =
      Done (Waits (λ m stands_so. closed_not first second m (sym (ap as_left is) ∙ stands_so)) (λ e had. subst (λ p. HasDurable x.seen (as_left p) e) (sym is) (subst (IsToldIn (standing (x.seen first) (x.seen second))) (has_one x.seen (as_left old) d e has had) told)) (λ m at. none))

  reopens : (config : Config) (old : MasterPlace D) (result : Result Told Refusal) (new : MasterPlace D) → heard_by_master step sent ≡ None → restarts_master step ≡ true → LastsThrough x.seen old → Reopens x.seen x.failures config old result new → B old new
  reopens config old (Err e) new none again h opening =
      let d = tells_some x.seen x.failures old h in
      unopened old new d.0 (tells_has x.seen x.failures old d.0 h d.1) (waits_as x.seen x.failures config old d.0 e new h d.1 opening) none
  reopens config (Standing m) (Ok turn) new none again h opening =
      let d = tells_some x.seen x.failures (Standing m) h in
      opens config m.journal.first m.journal.second turn (Standing m) new d.0 (tells_has x.seen x.failures (Standing m) d.0 h d.1) d.1 (reopens_as x.seen x.failures config (Standing m) d.0 turn new h d.1 opening) none again opening
  reopens config (Closed first second) (Ok turn) new none again h opening =
      let d = tells_some x.seen x.failures (Closed first second) h in
      opens config first second turn (Closed first second) new d.0 d.1 d.1 (reopens_as x.seen x.failures config (Closed first second) d.0 turn new h d.1 opening) none again opening
  reopens config Away (Ok turn) new none again h opening = absurd h

  -- ---- the other nodes

  server_leaves : {A : Type 0} (found : Option Server) (id : ℕ) (does : Server → Result A Refusal → Server → Type 0) (old : Nodes D) (result : Result A Refusal) (new : Nodes D)
      → MatchOption found ((new ≡ old) × (result ≡ Err refusals.Range)) (λ s. (after : Server) × (new ≡ with_servers (slice_set old.servers id after) old) × does s result after) → new.master ≡ old.master
  server_leaves None id does old result new (is, refused) = ap (λ (n : Nodes D). n.master) is
  server_leaves (Some s) id does old result new (after, is, done) = ap (λ (n : Nodes D). n.master) is

  at_server : {A : Type 0} (id : ℕ) (does : Server → Result A Refusal → Server → Type 0) (old : Nodes D) (result : Result A Refusal) (new : Nodes D) → AtServer id does old result new → new.master ≡ old.master
  at_server id does old result new at = server_leaves (slice_get old.servers id) id does old result new at

  client_leaves : {A : Type 0} (found : Option Node) (id : ClientId) (none : A) (does : Node → A → Node → Type 0) (old : Nodes D) (result : A) (new : Nodes D)
      → MatchOption found ((new ≡ old) × (result ≡ none)) (λ n. (after : Node) × (new ≡ with_clients (slice_set old.clients (id.0 - 1) after) old) × does n result after) → new.master ≡ old.master
  client_leaves None id none does old result new (is, refused) = ap (λ (n : Nodes D). n.master) is
  client_leaves (Some n) id none does old result new (after, is, done) = ap (λ (n : Nodes D). n.master) is

  at_client : {A : Type 0} (id : ClientId) (none : A) (does : Node → A → Node → Type 0) (old : Nodes D) (result : A) (new : Nodes D) → AtClient id none does old result new → new.master ≡ old.master
  at_client id none does old result new at = client_leaves (client_in old.clients id) id none does old result new at

  -- ---- an event

  abbrev Becomes : Nodes D → Nodes D → Type 0
  Becomes old new = LastsThrough x.seen old.master → B old.master new.master

  leaves : (old new : Nodes D) → restarts_master step ≡ false → Refused → new.master ≡ old.master → Becomes old new
  leaves old new calm none is h = kept_there old.master new.master is calm none h

  moved : (place : MasterPlace D) (old new : Nodes D) → new ≡ with_master place old → (LastsThrough x.seen old.master → B old.master place) → Becomes old new
  moved place old new is f h = subst (B old.master) (sym (ap (λ (n : Nodes D). n.master) is)) (f h)

  -- what a message to the master is
  pub record IsToMaster (message : Message) (moment : Moment) (old : Nodes D) : Type 0 where
    pub found : heard_by_master step sent ≡ Some message
    pub named : IsNamedBody message.body × IsNumber moment.0
    pub low : (m : MasterOf D) → old.master ≡ Standing m → IsHeardBody m.state.durable.names message.body

  heard : (message : Message) (moment : Moment) (to : NodeId) (old : Nodes D) (turn : Result Told Refusal) (new : Nodes D) → restarts_master step ≡ false → (to ≡ nodes.Master → IsToMaster message moment old) → (to_master (Some message) ≡ None → Refused) → message.to ≡ to
      → Says turn → Hears x.seen x.failures message moment to old turn new → Becomes old new
  heard message moment nodes.Master old turn new calm within none to is (place, at, hear) =
      moved place old new at (λ h. (let k = within refl in hears message moment old.master turn place k.found calm k.named k.low is h hear))
  heard message moment (nodes.Server id) old turn new calm within none to is at =
      leaves old new calm (none (to_server message id to)) (at_server id (λ s. ServerDoes (servers.handle s message moment) s) old turn new at)
  heard message moment (nodes.Client id) old turn new calm within none to is (what, at, says) =
      leaves old new calm (none (to_client message id to)) (at_client id None (ClientHears message.body) old what new at)

  delivered : (message : Message) (moment : Moment) (old : Nodes D) (turn : Result Told Refusal) (new : Nodes D) → restarts_master step ≡ false → (message.to ≡ nodes.Master → IsToMaster message moment old) → (to_master (Some message) ≡ None → Refused)
      → Says turn → Delivers x.seen x.failures message moment old turn new → Becomes old new
  unfolding Delivers
  delivered message moment old turn new calm within none is hear = heard message moment message.to old turn new calm within none refl is hear

calm_of : (event : Event) (h : Happening) → event.happening ≡ h → {b : Bool} → restarts_master (Comes (record { moment = event.moment; happening = h })) ≡ b → restarts_master (Comes event) ≡ b
calm_of event h is calm = ap (λ k. restarts_master (Comes (record { moment = event.moment; happening = k }))) is ∙ calm

heard_as : (event : Event) (sent : Sent) (h : Happening) → event.happening ≡ h → heard_by_master (Comes event) sent ≡ heard_by_master (Comes (record { moment = event.moment; happening = h })) sent
heard_as event sent h is = ap (λ k. heard_by_master (Comes (record { moment = event.moment; happening = k })) sent) is

module _ {D : Type 0} (x : Setup D) (given : IsGiven x) where
  told_so : (moment : Moment) (by : NodeId) (old : Sent) (said : Result (Unit {0}) Refusal) (new : Sent) (step : Step) (sent : Sent) (result : Result Told Refusal) → Tells x.seen x.failures x.armed moment by (told_of_turn result) old said new → Says x given step sent said result
  told_so moment by old said new step sent (Ok turn) t = t.1
  told_so moment by old said new step sent (Err refusal) t = t.1

  module _ (event : Event) (old new : History D) (said : Result (Unit {0}) Refusal) where
    abbrev Next : Type 0
    Next = Becomes x given (Comes event) old.sent said old.nodes new.nodes

    -- something elsewhere, of which the master hears nothing
    elsewhere : (h : Happening) → event.happening ≡ h → restarts_master (Comes (record { moment = event.moment; happening = h })) ≡ false → heard_by_master (Comes (record { moment = event.moment; happening = h })) old.sent ≡ None → new.nodes.master ≡ old.nodes.master → Next
    elsewhere h is calm none same = leaves x given (Comes event) old.sent said old.nodes new.nodes (calm_of event h is calm) (unheard x given (Comes event) old.sent said (heard_as event old.sent h is ∙ none)) same

    came : (id : MsgId) → event.happening ≡ happenings.Deliver id → (by : NodeId) (outcome : Upshot) → Tells x.seen x.failures x.armed event.moment by outcome old.sent said new.sent → HearsNamed event.moment (happenings.Deliver id) old × HearsWithin (happenings.Deliver id) old
        → (found : Option Message) → message_of old.sent id ≡ found → MatchOption found ((outcome ≡ Err refusals.Range) × (new.nodes ≡ old.nodes) × (by ≡ id.sender)) (λ message. ComesTo x.seen x.failures x.armed id.sender message event.moment old.nodes by outcome new.nodes) → Next
    came id is by outcome tells within None found (refused, same, from) = elsewhere (happenings.Deliver id) is refl (ap to_master found) (ap (λ (n : Nodes D). n.master) same)
    came id is by outcome tells within (Some message) found (inl (by_is, turn, delivers, told)) =
        delivered x given (Comes event) old.sent said message event.moment old.nodes turn new.nodes (calm_of event (happenings.Deliver id) is refl)
        (λ to. record {
          found = heard_as event old.sent (happenings.Deliver id) is ∙ ap to_master found ∙ to_it message to;
          named = within.0 message found to;
          low = λ m at. subst (λ p. IsHeardAt p message.body) at (within.1 message found to);
        })
        (λ none. unheard x given (Comes event) old.sent said (heard_as event old.sent (happenings.Deliver id) is ∙ ap to_master found ∙ none))
        (told_so event.moment by old.sent said new.sent (Comes event) old.sent turn (subst (λ o. Tells x.seen x.failures x.armed event.moment by o old.sent said new.sent) told tells)) delivers
    came id is by outcome tells within (Some message) found (inr (refused, same, from)) =
        leaves x given (Comes event) old.sent said old.nodes new.nodes (calm_of event (happenings.Deliver id) is refl) (λ other heard. (subst (λ o. Tells x.seen x.failures x.armed event.moment by o old.sent said new.sent) refused tells).1) (ap (λ (n : Nodes D). n.master) same)

    at_node : (happening : Happening) → event.happening ≡ happening → (by : NodeId) (outcome : Upshot) → AtNode x.seen x.failures x.armed event.moment happening old by outcome new.nodes → Tells x.seen x.failures x.armed event.moment by outcome old.sent said new.sent
        → HearsNamed event.moment happening old × HearsWithin happening old → Next
    at_node (happenings.Ask req request) is by outcome (by_is, (out, at, told)) tells within =
        elsewhere (happenings.Ask req request) is refl refl (at_client x given (Comes event) old.sent said req.client (Err refusals.Range) (ClientAsks req.number request) old.nodes out new.nodes at)
    at_node (happenings.Deliver id) is by outcome comes tells within = came id is by outcome tells within (message_of old.sent id) refl comes
    at_node (happenings.Tick keepers.Master) is by outcome (by_is, (place, turn, does, at, told)) tells within =
        moved x given (Comes event) old.sent said place old.nodes new.nodes at
        (λ h. ticks x given (Comes event) old.sent said event.moment old.nodes.master turn place (calm_of event (happenings.Tick keepers.Master) is refl) (heard_as event old.sent (happenings.Tick keepers.Master) is) h does)
    at_node (happenings.Tick (keepers.Server id)) is by outcome (by_is, (turn, at, told)) tells within =
        elsewhere (happenings.Tick (keepers.Server id)) is refl refl (at_server x given (Comes event) old.sent said id (λ s. ServerDoes (servers.tick s event.moment) s) old.nodes turn new.nodes at)
    at_node (happenings.Beat id) is by outcome (by_is, (same, told)) tells within = elsewhere (happenings.Beat id) is refl refl (ap (λ (n : Nodes D). n.master) same)
    at_node (happenings.Restart keepers.Master) is by outcome (by_is, (place, turn, does, at, told)) tells within =
        moved x given (Comes event) old.sent said place old.nodes new.nodes at
        (λ h. reopens x given (Comes event) old.sent said old.nodes.config old.nodes.master turn place (heard_as event old.sent (happenings.Restart keepers.Master) is) (calm_of event (happenings.Restart keepers.Master) is refl) h does)
    at_node (happenings.Restart (keepers.Server id)) is by outcome (by_is, (done, at, told)) tells within =
        elsewhere (happenings.Restart (keepers.Server id)) is refl refl (at_server x given (Comes event) old.sent said id (λ s done after. (done ≡ Ok tt) × (after ≡ servers.restart s)) old.nodes done new.nodes at)
    at_node (happenings.Lose id handle) is by outcome (by_is, (done, at, told)) tells within =
        elsewhere (happenings.Lose id handle) is refl refl (at_server x given (Comes event) old.sent said id (λ s done after. Does (servers.lose handle s) done s after) old.nodes done new.nodes at)
    at_node (happenings.Damage id handle block) is by outcome (by_is, (done, at, told)) tells within =
        elsewhere (happenings.Damage id handle block) is refl refl (at_server x given (Comes event) old.sent said id (λ s done after. Does (servers.damage handle block s) done s after) old.nodes done new.nodes at)
    at_node (happenings.FailDisk disk call) is by outcome (by_is, (with, told)) tells within =
        moved x given (Comes event) old.sent said (x.armed disk call old.nodes.master) old.nodes new.nodes with
        (λ h. armed_there x given (Comes event) old.sent said old.nodes.master (x.armed disk call old.nodes.master) (given.armed disk call old.nodes.master) (calm_of event (happenings.FailDisk disk call) is refl)
        (unheard x given (Comes event) old.sent said (heard_as event old.sent (happenings.FailDisk disk call) is)) h)

  rough : (step : Step) (old new : History D) → IsWell x old → StepWithin step old → (goes : Goes x.seen x.failures x.armed step old new) → Rough x.seen x.failures step old.sent (met_at x step old new goes) old.nodes.master new.nodes.master
  rough (Comes event) old new well within (said, h) = at_node event old new said event.happening refl h.by h.outcome h.at h.tells within well.steady
  rough (Takes client) old new well within (found, takes, same) =
      leaves x given (Takes client) old.sent (Ok tt) old.nodes new.nodes refl (unheard x given (Takes client) old.sent (Ok tt) refl) (at_client x given (Takes client) old.sent (Ok tt) client None (λ n reply after. (reply ≡ n.reply) × (after ≡ given_up n)) old.nodes found new.nodes takes) well.steady

  -- ---- what stands of a turn

  -- a turn that a master makes, of which so many records stand
  record IsPartOf (step : Step) (sent : Sent) (m : MasterOf D) (e : Durable) : Type 0 where
    heard : Heard
    turn : Turn
    many : ℕ
    ends : EndsOnce m.config (IsMade m.config heard) m.state turn
    written : IsWritten turn
    within : many ≤ length turn.records
    stand : replayed m.state.durable (take many turn.records) ≡ Some e
    handles : HandlesAt step sent m turn

  part_of : (step : Step) (old : History D) (m : MasterOf D) (t : Turn) (many : ℕ) (e : Durable) → old.nodes.master ≡ Standing m → StandsSteady x.seen m → StepWithin step old → TurnsAt step old m t → many ≤ length t.records → replayed m.state.durable (take many t.records) ≡ Some e → IsPartOf step old.sent m e
  part_of (Takes client) old m t many e at h within made low stand = absurd made
  part_of (Comes event) old m t many e at h within made low stand = by_happening event.happening refl within made
    where
      none : (happening : Happening) → event.happening ≡ happening → heard_by_master (Comes (record { moment = event.moment; happening = happening })) old.sent ≡ None → (t : Turn) → HandlesAt (Comes event) old.sent m t
      none happening is silent t message heard = absurd (false≢true (ap is_some (sym (heard_as event old.sent happening is ∙ silent) ∙ heard)))

      by_happening : (happening : Happening) → event.happening ≡ happening → HearsNamed event.moment happening old × HearsWithin happening old → TurnsOf event.moment happening old m t → IsPartOf (Comes event) old.sent m e
      by_happening (happenings.Deliver id) same within (message, found, to, is) =
          let named = within.0 message found to in
          let low_body : IsHeardBody m.state.durable.names message.body = subst (λ p. IsHeardAt p message.body) at (within.1 message found to) in record {
            heard = said_from message.from message.body;
            turn = handle m.config m.state message event.moment;
            many = many;
            ends = events_end_once m.config m.state (HearsAt message event.moment) named h.steady.firm;
            written = (events_written m.config m.state (HearsAt message event.moment) named low_body h.steady).written;
            within = subst (λ (u : Turn). many ≤ length u.records) is low;
            stand = subst (λ (u : Turn). replayed m.state.durable (take many u.records) ≡ Some e) is stand;
            handles = λ other heard. (event.moment, ap (λ one. handle m.config m.state one event.moment) (message_is (sym (heard_as event old.sent (happenings.Deliver id) same ∙ ap to_master found ∙ to_it message to) ∙ heard)));
          }
      by_happening (happenings.Tick keepers.Master) same within (inl is) = record {
        heard = None;
        turn = tick m.state event.moment;
        many = many;
        ends = events_end_once m.config m.state (TicksAt event.moment) tt h.steady.firm;
        written = (events_written m.config m.state (TicksAt event.moment) tt tt h.steady).written;
        within = subst (λ (u : Turn). many ≤ length u.records) is low;
        stand = subst (λ (u : Turn). replayed m.state.durable (take many u.records) ≡ Some e) is stand;
        handles = none (happenings.Tick keepers.Master) same refl _;
      }
      by_happening (happenings.Tick keepers.Master) same within (inr is) = record {
        heard = None;
        turn = pressed_all m.state event.moment;
        many = many;
        ends = ticks_end_once m.config m.state event.moment h.steady.firm (steps_fit m.state event.moment h.steady.firm);
        written = (all_steps_written m.state event.moment h.steady).written;
        within = subst (λ (u : Turn). many ≤ length u.records) is low;
        stand = subst (λ (u : Turn). replayed m.state.durable (take many u.records) ≡ Some e) is stand;
        handles = none (happenings.Tick keepers.Master) same refl _;
      }
      by_happening (happenings.Tick (keepers.Server id)) same within made = absurd made
      by_happening (happenings.Ask req request) same within made = absurd made
      by_happening (happenings.Beat id) same within made = absurd made
      by_happening (happenings.Restart node) same within made = absurd made
      by_happening (happenings.Lose id handle) same within made = absurd made
      by_happening (happenings.Damage id handle block) same within made = absurd made
      by_happening (happenings.FailDisk disk call) same within made = absurd made

  pub became : (step : Step) (old new : History D) → IsWell x old → (one : StepsWithin x step old new) → BecameAll x.seen step old.sent (met_at x step old new one.goes) (failures_at x.failures new.nodes.master ≡ failures_at x.failures old.nodes.master) (as_left old.nodes.master) (as_left new.nodes.master)
  became step old new well one = by_rough (rough step old new well within one.goes)
    where
      within : StepWithin step old
      within = step_within x given step old new well one

      d : (d : Durable) × TellsAt x.seen old.nodes.master d
      d = tells_some x.seen x.failures old.nodes.master well.steady

      behind : Onward x.seen x.failures (TurnsAt step old) old.nodes.master d.0 new.nodes.master
      behind = step_on x.seen x.failures x.armed (λ disk call place h. arming_through x.seen place (x.armed disk call place) (given.armed disk call place) h) (λ d disk call place h. telling_through x.seen d place (x.armed disk call place) (given.armed disk call place) h) step old new d.0 one.goes within well.steady d.1

      has_behind : HasDurable x.seen (as_left new.nodes.master) behind.durable
      has_behind = tells_has x.seen x.failures new.nodes.master behind.durable behind.lasts behind.tells

      by_part : (m : MasterOf D) → old.nodes.master ≡ Standing m → is_failed m.state.fault ≡ false → ((z : MasterOf D) → as_left new.nodes.master ≡ Standing z → ⊥) → (failures_at x.failures new.nodes.master ≡ failures_at x.failures old.nodes.master → ⊥) → TellsOn (TurnsAt step old) old.nodes.master d.0 behind.durable
          → BecameAll x.seen step old.sent (met_at x step old new one.goes) (failures_at x.failures new.nodes.master ≡ failures_at x.failures old.nodes.master) (as_left old.nodes.master) (as_left new.nodes.master)
      by_part m at sound none fails (inl same) =
          Loses m (ap as_left at ∙ left_sound x.seen m sound) none fails
          (λ e had. subst (HasDurable x.seen (as_left new.nodes.master)) (same ∙ has_one x.seen (as_left old.nodes.master) d.0 e (tells_has x.seen x.failures old.nodes.master d.0 well.steady d.1) had) has_behind)
      by_part m at sound none fails (inr part) =
          let at_left = ap as_left at ∙ left_sound x.seen m sound in
          let h : StandsSteady x.seen m = subst (LastsSteady x.seen) at_left (well_steady x old well) in
          let is : part.master ≡ m = standing_is part.master m (sym part.place ∙ at) in
          let durable : m.state.durable ≡ d.0 = subst (λ p. HasDurable x.seen p d.0) at_left (tells_has x.seen x.failures old.nodes.master d.0 well.steady d.1) in
          let y = part_of step old m part.turn part.many behind.durable at h within (subst (λ (k : MasterOf D). TurnsAt step old k part.turn) is part.made) part.within (ap (λ z. replayed z (take part.many part.turn.records)) durable ∙ part.stand) in
          Cuts m y.heard y.turn y.many behind.durable at_left none fails y.ends y.written y.within y.stand has_behind y.handles

      by_rough : Rough x.seen x.failures step old.sent (met_at x step old new one.goes) old.nodes.master new.nodes.master → BecameAll x.seen step old.sent (met_at x step old new one.goes) (failures_at x.failures new.nodes.master ≡ failures_at x.failures old.nodes.master) (as_left old.nodes.master) (as_left new.nodes.master)
      by_rough (Done b) = Whole b
      by_rough (Lost m at sound none fails) = by_part m at sound none fails behind.on
