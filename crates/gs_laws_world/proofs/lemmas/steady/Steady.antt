-- That the master stays steady as long as no disk fails and what it hears is within its types.
use Rattle.std.proofs.Common.{◌≡◌, ◌∙◌, inl, inr, ◌+◌, ◌<◌, ◌≤◌, ◌^◌, ◌&&◌, ℕ, Bool, true, false, not, List, [], ◌∷◌, Option, Some, None, MatchOption, Result, Ok, Err, refl, ap, subst, sym, arith}
use Rattle.std.specs.Prelude.{is_none}
use Rattle.std.proofs.lemmas.Bool.{false≢true}
use Rattle.gs_base.specs.declared.config.Config.{Config}
use Rattle.gs_base.specs.declared.numbers.Moment.{Moment}
use Rattle.gs_base.specs.declared.numbers.ReqId.{ReqId}
use Rattle.gs_base.specs.declared.refusal.Refusal.{Refusal}
use Rattle.gs_base.specs.declared.refusal.Refusal.TheVariants as refusals
use Rattle.gs_base.specs.Told.{IsNumber}
use Rattle.gs_base.specs.Calls.{Does}
use Rattle.gs_client.specs.Nodes.{given_up}
use Rattle.gs_journal.specs.Faults.{Failing}
use Rattle.gs_journal.specs.Journal.{failures_of_both, text_size}
use Rattle.gs_journal.specs.Records.{Text, fresh as fresh_text, standing}
use Rattle.gs_journal.specs.declared.version.Version.TheVariants.{Two}
use Rattle.gs_laws_master.proofs.lemmas.rooms.Rooms.{Adds, each_adds, quiet_adds, then_adds}
use Rattle.gs_laws_master.proofs.lemmas.rooms.RoomsOfTurns.{logs_stay_within, pressed_roomy}
use Rattle.gs_laws_master.proofs.lemmas.standing.StandingRuns.{opens_firm}
use Rattle.gs_laws_master.proofs.lemmas.telling.Writing.{all_steps_written, events_written, messages_written, starts_steady}
use Rattle.gs_laws_master.specs.Standing.{Comes as HearsAt, IsNamedBody, Ticks as TicksAt}
use Rattle.gs_laws_master.specs.Written.{IsSteady, WritesAll}
use Rattle.gs_master.proofs.Renewed.{plain_tick, written_tick}
use Rattle.gs_master.proofs.Reopened.{after_opening}
use Rattle.gs_master.specs.Finishing.{and_checkpoint}
use Rattle.gs_master.specs.Masters.{MasterAnswers, IsAnswered, MasterOf}
use Rattle.gs_master.specs.Starting.{IsOpened, left_in}
use Rattle.gs_master.specs.Ticking.{AnswersAs, AnswersTick, IsAnsweredAnew, is_written, lacking, pressed_all, writes_one}
use Rattle.gs_master.specs.declared.turn.Turn.{Turn as Told}
use Rattle.gs_msg.specs.declared.event.DiskId.{DiskId}
use Rattle.gs_msg.specs.declared.event.DiskId.TheVariants as disks
use Rattle.gs_msg.specs.declared.event.Happening.{Happening}
use Rattle.gs_msg.specs.declared.event.Happening.TheVariants as happenings
use Rattle.gs_msg.specs.declared.message.Message.{Message}
use Rattle.gs_msg.specs.declared.node.NodeId.{NodeId}
use Rattle.gs_msg.specs.declared.node.NodeId.TheVariants as nodes
use Rattle.gs_msg.specs.declared.node.StoreNode.{StoreNode}
use Rattle.gs_msg.specs.declared.node.StoreNode.TheVariants as keepers
use Rattle.gs_master_plan.specs.Renewable.{renewal_refusal}
use Rattle.gs_server.specs.Servers.{Server}
use Rattle.gs_server.specs.Servers as servers
use Rattle.gs_master_spec.specs.Applied.{records_behind}
use Rattle.gs_master_spec.specs.Durable.{start}
use Rattle.gs_master_spec.specs.Handling.{due, granted, handle, pressed, proposals, recover, restarted, tick}
use Rattle.gs_master_spec.specs.Outcomes.{caller_of}
use Rattle.gs_master_spec.specs.State.{Log, State, Turn, for_each, is_failed}
use Rattle.gs_nodes.specs.Happenings.{ClientAsks, ClientHears, Delivers, Hears, MasterHears, MasterTicks, Opens, Reopens, ServerDoes, limit}
use Rattle.gs_nodes.specs.Nodes.{Nodes, with_master}
use Rattle.gs_nodes.specs.declared.place.MasterPlace.{MasterPlace}
use Rattle.gs_nodes.specs.declared.place.MasterPlace.TheVariants.{Standing, Closed, Away}
use Rattle.gs_laws_world.proofs.lemmas.lasting.Lasting.{faulty_run_lasts, opens_told, unarmed_run_lasts}
use Rattle.gs_world.specs.Histories.{AtNode, Begins, ComesTo, History, Upshot, Restarts, Ticks, arms, seen_of, failures_of}
use Rattle.gs_laws_world.specs.lasting.Lasting.{HearsNamed, Lasts, OpensAs, RunsSoundly, StandsFirm, StepNamed, TellsAMaster, failures_at}
use Rattle.gs_world.specs.Runs.{Goes, Step, Comes, Takes}
use Rattle.gs_world.specs.Sent.{message_of}
use Rattle.gs_laws_world.proofs.lemmas.steady.Apart.{at_client, at_server}
use Rattle.gs_laws_world.specs.steady.Steady.{HearsWithin, IsHeardAt, LastsSteady, RunsSteadily, StandsSteady, StepWithin, TellsSteady}

-- ---- numbers

within_limit : (size bound many least : ℕ) → size ≤ bound → size ≡ many → bound ≡ least → many ≤ least
within_limit size bound many least room is same = omega arith

-- ---- turns

-- a turn leaves the log's limit
abbrev Bounded : State → Turn → Type 0
Bounded s t = t.after.log.limit ≡ s.log.limit

pub steps_bounded : (s : State) (moment : Moment) → Bounded s (pressed_all s moment)
steps_bounded s moment =
    let press = for_each s (proposals s) (pressed moment) in
    let each = each_adds true (proposals s) (pressed moment) (λ proposal next. (pressed_roomy true moment proposal next).adds) s in
    let all : Adds true s (pressed_all s moment) = then_adds true s press granted each (quiet_adds true press.after (granted press.after) refl refl refl (λ told. refl)).adds in
    all.limit

-- ---- what is told again

-- what a steady master keeps, on another log
again : (s : State) (log : Log) → IsSteady s → log.size ≤ log.limit → log.limit < 2 ^ 32 → IsSteady (restarted s.durable log)
again s log y room small = record {
  firm = opens_firm s.durable log y.firm.stands.kept y.firm.stands.counters;
  within = record { low = y.within.low; spelled = y.within.spelled; replies = y.within.replies; holders = y.within.holders; back = y.within.back; unplaced = λ c here. absurd (false≢true here); calls = tt };
  room = room;
  limit = small;
}

abbrev no_log : Log
no_log = record { records = 0; size = 0; limit = 0; generation = 0 }

start_tells : TellsSteady fresh_text
start_tells = record {
  durable = start;
  told = record { entries = []; records = refl; are_entries = tt; replays = refl };
  steady = λ log room small. starts_steady log room small;
  within = omega arith;
}

pub both : (a b : Bool) → (a && b) ≡ true → (a ≡ true) × (b ≡ true)
both true true is = (refl, refl)
both true false is = absurd (false≢true is)
both false b is = absurd (false≢true is)

pub nothing : {A : Type 0} (o : Option A) → is_none o ≡ true → o ≡ None
nothing None is = refl
nothing (Some x) is = absurd (false≢true is)

-- where no disk failed before, a tick writes one where it is due
pub sound_writes : (failed due_now : Bool) → failed ≡ false → (not failed && due_now) ≡ due_now
sound_writes true due_now sound = absurd (false≢true (sym sound))
sound_writes false due_now sound = refl

-- a disk that fails is counted
never : (n m : ℕ) → n < m → m ≡ n → ⊥
never n m more same = omega arith

-- what tells a steady master tells a firm one
pub tells_one : (text : Text) → TellsSteady text → TellsAMaster text
tells_one text h =
    let firm = (h.steady no_log (omega arith) (omega arith)).firm in record { durable = h.durable; kept = firm.stands.kept; counters = firm.stands.counters; told = h.told }

has_room : (size many bound least : ℕ) → size ≡ many → many ≤ least → bound ≡ least → size ≤ bound
has_room size many bound least is within same = omega arith

module _ {D : Type 0} (seen : D → List ℕ) (failures : D → ℕ) where
  -- ---- the master

  -- it stands firm, or its disks tell one that does
  pub lasts : (place : MasterPlace D) → LastsSteady seen place → Lasts seen place
  lasts (Standing m) h = h.firm
  lasts (Closed first second) h = tells_one (standing (seen first) (seen second)) h
  lasts Away h = h

  -- what is opened is what the disks tell
  pub opened : (config : Config) (first second : D) (turn : Told) (m : MasterOf D) → TellsSteady (standing (seen first) (seen second)) →
      IsOpened seen failures config first second (standing (seen first) (seen second)) limit m turn.sent.items → turn.said ≡ None → StandsSteady seen m
  unfolding tells_one
  opened config first second turn m h is said = by_firm (opens_told seen failures config first second h.durable turn (Standing m) known.kept known.counters h.told (m, refl, is, said))
    where
      known : TellsAMaster (standing (seen first) (seen second))
      known = tells_one (standing (seen first) (seen second)) h

      log : Log
      log = record (is.log) { records = records_behind is.entries }

      state : m.state ≡ restarted is.durable log
      state = is.state ∙ after_opening config Two is.entries is.log is.durable is.turn is.tells.replays (subst (λ (t : Text). recover config t.0 is.entries is.log ≡ Ok is.turn) h.told.records is.recovers)

      text : m.journal.text ≡ standing (seen first) (seen second)
      text = subst (λ (t : Text). m.journal.text ≡ left_in t.0 t is.durable) h.told.records is.left ∙ sym h.told.records

      by_firm : OpensAs seen h.durable (Standing m) → StandsSteady seen m
      by_firm (after, same, rested, firm) =
          let it : m ≡ after = cc in
          let d : is.durable ≡ h.durable = sym (ap (λ (s : State). s.durable) state) ∙ ap (λ (x : MasterOf D). x.state.durable) it ∙ ap (λ (s : State). s.durable) rested in
          let room = has_room log.size (text_size (standing (seen first) (seen second))) log.limit limit (sym (ap (λ (s : State). s.log.size) state) ∙ is.known.size ∙ is.journal.whole ∙ ap text_size text) h.within is.limit in
          record {
            firm = subst (StandsFirm seen) (sym it) firm;
            steady = subst IsSteady (sym (state ∙ ap (λ x. restarted x log) d)) (h.steady log room (subst (λ n. n < 2 ^ 32) (sym is.limit) (omega arith)));
            bound = ap (λ (s : State). s.log.limit) state ∙ is.limit;
          }

  pub left_standing : (m : MasterOf D) → StandsSteady seen m → TellsSteady (standing (seen m.journal.first) (seen m.journal.second))
  left_standing m h = subst TellsSteady (sym h.firm.as_seen.text) (record {
    durable = m.state.durable;
    told = h.firm.told;
    steady = λ log room small. again m.state log h.steady room small;
    within = within_limit m.state.log.size m.state.log.limit (text_size m.journal.text) limit h.steady.room (h.firm.known.size ∙ h.firm.as_seen.whole) h.bound;
  })

  -- a turn that is done
  pub goes_on : (t : Turn) (old : MasterOf D) (told : Told) (new : MasterOf D) → StandsSteady seen old → StandsFirm seen new → IsSteady t.after → Bounded old.state t → IsAnswered seen failures t old told new → StandsSteady seen new
  goes_on t old told new h firm steady bounded is = record {
    firm = firm;
    steady = subst IsSteady (sym is.done.after) steady;
    bound = ap (λ (s : State). s.log.limit) is.done.after ∙ bounded ∙ h.bound;
  }

  -- steps with a checkpoint behind them
  pub goes_on_anew : (steps : Turn) (old : MasterOf D) (told : Told) (new : MasterOf D) → StandsSteady seen old → StandsFirm seen new → IsSteady (and_checkpoint steps).after → Bounded old.state steps →
      IsAnsweredAnew seen failures (and_checkpoint steps) steps old told new → StandsSteady seen new
  goes_on_anew steps old told new h firm steady bounded is = record {
    firm = firm;
    steady = subst IsSteady (sym is.done.after) steady;
    bound = ap (λ (s : State). s.log.limit) is.done.after ∙ bounded ∙ h.bound;
  }

  answered : (caller : Option ReqId) (t : Turn) (old : MasterOf D) (result : Result Told Refusal) (new : MasterOf D) → StandsSteady seen old → StandsFirm seen new → IsSteady t.after → Bounded old.state t →
      MasterAnswers seen failures caller t old result new → failures_of_both failures new.journal ≡ failures_of_both failures old.journal → StandsSteady seen new
  answered caller t old (Ok told) new h firm steady bounded (inl is) same = goes_on t old told new h firm steady bounded is
  answered caller t old (Ok told) new h firm steady bounded (inr (place, cut)) same = absurd (never (failures_of_both failures old.journal) (failures_of_both failures new.journal) cut.cause same)
  answered caller t old (Err e) new h firm steady bounded (why, still) same = subst (StandsSteady seen) (sym still) h

  -- ---- a tick

  whole_ticked : (config : Config) (moment : Moment) (old : MasterOf D) (told : Told) (new : MasterOf D) (b : Bool) → writes_one old.state (pressed_all old.state moment) ≡ b → StandsSteady seen old → StandsFirm seen new →
      AnswersAs seen failures b (tick old.state moment) (pressed_all old.state moment) old told new → failures_of_both failures new.journal ≡ failures_of_both failures old.journal → StandsSteady seen new
  whole_ticked config moment old told new false is h firm (inl done) same =
      let steps = pressed_all old.state moment in
      let plain = plain_tick old.state moment h.firm.sound (sym (sound_writes (is_failed old.state.fault) (due steps.after && is_written steps.after) h.firm.sound) ∙ is) in
      goes_on steps old told new h firm (all_steps_written old.state moment h.steady).steady (steps_bounded old.state moment) (subst (λ (t : Turn). IsAnswered seen failures t old told new) plain done)
  whole_ticked config moment old told new true is h firm (inl done) same =
      let steps = pressed_all old.state moment in
      let first = both (due steps.after) (is_written steps.after) (sym (sound_writes (is_failed old.state.fault) (due steps.after && is_written steps.after) h.firm.sound) ∙ is) in
      let t = written_tick old.state moment h.firm.sound first.0 (nothing (renewal_refusal steps.after) first.1) in
      let all : WritesAll (tick old.state moment) = events_written config old.state (TicksAt moment) tt tt h.steady in
      goes_on_anew steps old told new h firm (subst (λ (x : Turn). IsSteady x.after) t all.steady) (steps_bounded old.state moment) (subst (λ (x : Turn). IsAnsweredAnew seen failures x steps old told new) t done)
  whole_ticked config moment old told new false is h firm (inr (place, cut)) same = absurd (never (failures_of_both failures old.journal) (failures_of_both failures new.journal) cut.cause same)
  whole_ticked config moment old told new true is h firm (inr (place, cut)) same = absurd (never (failures_of_both failures old.journal) (failures_of_both failures new.journal) cut.cause same)

  ticked : (config : Config) (moment : Moment) (old : MasterOf D) (result : Result Told Refusal) (new : MasterOf D) → StandsSteady seen old → StandsFirm seen new → AnswersTick seen failures moment old result new →
      failures_of_both failures new.journal ≡ failures_of_both failures old.journal → StandsSteady seen new
  ticked config moment old (Ok told) new h firm (inl whole) same = whole_ticked config moment old told new (writes_one old.state (pressed_all old.state moment)) refl h firm whole same
  ticked config moment old (Ok told) new h firm (inr (sound, is_due, none, done)) same =
      answered None (lacking (pressed_all old.state moment)) old (Ok told) new h firm (all_steps_written old.state moment h.steady).steady (steps_bounded old.state moment) done same
  ticked config moment old (Err e) new h firm (why, still) same = subst (StandsSteady seen) (sym still) h

  -- ---- where the master is

  abbrev Same : MasterPlace D → MasterPlace D → Type 0
  Same new old = failures_at failures new ≡ failures_at failures old

  hears : (message : Message) (moment : Moment) (old : MasterPlace D) (result : Result Told Refusal) (new : MasterPlace D) → IsNamedBody message.body × IsNumber moment.0 → IsHeardAt old message.body →
      LastsSteady seen old → Lasts seen new → MasterHears seen failures message moment old result new → Same new old → LastsSteady seen new
  hears message moment (Standing m) result new named heard h firm (after, is, answers) same =
      let written = messages_written m.config m.state message moment named heard h.steady in
      let left = logs_stay_within m.config m.state (HearsAt message moment) h.steady.room in
      subst (LastsSteady seen) (sym is)
      (answered (caller_of message.body) (handle m.config m.state message moment) m result after h (subst (Lasts seen) is firm) written.steady left.1 answers
      (sym (ap (failures_at failures) is) ∙ same))
  hears message moment (Closed first second) (Ok turn) new named heard h firm meets same = subst (LastsSteady seen) (sym meets.0) h
  hears message moment (Closed first second) (Err e) new named heard h firm meets same = subst (LastsSteady seen) (sym meets.0) h
  hears message moment Away (Ok turn) new named heard h firm meets same = subst (LastsSteady seen) (sym meets.0) h
  hears message moment Away (Err e) new named heard h firm meets same = subst (LastsSteady seen) (sym meets.0) h

  ticks : (config : Config) (moment : Moment) (old : MasterPlace D) (result : Result Told Refusal) (new : MasterPlace D) → LastsSteady seen old → Lasts seen new → MasterTicks seen failures moment old result new → Same new old → LastsSteady seen new
  ticks config moment (Standing m) result new h firm (after, is, answers) same =
      subst (LastsSteady seen) (sym is) (ticked config moment m result after h (subst (Lasts seen) is firm) answers (sym (ap (failures_at failures) is) ∙ same))
  ticks config moment (Closed first second) (Ok turn) new h firm meets same = subst (LastsSteady seen) (sym meets.0) h
  ticks config moment (Closed first second) (Err e) new h firm meets same = subst (LastsSteady seen) (sym meets.0) h
  ticks config moment Away (Ok turn) new h firm meets same = subst (LastsSteady seen) (sym meets.0) h
  ticks config moment Away (Err e) new h firm meets same = subst (LastsSteady seen) (sym meets.0) h

  opens : (config : Config) (pair : D × D) (result : Result Told Refusal) (new : MasterPlace D) → TellsSteady (standing (seen pair.0) (seen pair.1)) → Opens seen failures config pair result new →
      failures_at failures new ≡ failures pair.0 + failures pair.1 → LastsSteady seen new
  opens config pair (Ok turn) new left (after, is, opening, said) same = subst (LastsSteady seen) (sym is) (opened config pair.0 pair.1 turn after left opening said)
  opens config pair (Err e) new left (u, is, refusal, inl (device, more)) same =
      absurd (never (failures pair.0 + failures pair.1) (failures u.first + failures u.second) more (sym (ap (failures_at failures) is) ∙ same))
  opens config pair (Err e) new left (u, is, refusal, inr why) same = subst (LastsSteady seen) (sym is) (subst TellsSteady (sym why.0) left)

  reopens : (config : Config) (old : MasterPlace D) (result : Result Told Refusal) (new : MasterPlace D) → LastsSteady seen old → Reopens seen failures config old result new → Same new old → LastsSteady seen new
  reopens config (Standing m) result new h opening same = opens config (m.journal.first, m.journal.second) result new (left_standing m h) opening same
  reopens config (Closed first second) result new h opening same = opens config (first, second) result new h opening same
  reopens config Away result new h (still, refused) same = subst (LastsSteady seen) (sym still) h

  -- a new store begins steady
  pub begins_steady : (armed : DiskId → ℕ → MasterPlace D → MasterPlace D) (config : Config) (clients : ℕ) (pair : D × D) (new : History D) → standing (seen pair.0) (seen pair.1) ≡ fresh_text →
      Begins seen failures armed config clients pair new → LastsSteady seen new.nodes.master
  begins_steady armed config clients pair new none begun = subst (λ (n : Nodes D). LastsSteady seen n.master) (sym begun.nodes) (opened_there begun.place begun.turn begun.opens)
    where
      opened_there : (place : MasterPlace D) (turn : Told) → Opens seen failures config pair (Ok turn) place → LastsSteady seen place
      opened_there place turn (after, is, opening, said) = subst (LastsSteady seen) (sym is) (opened config pair.0 pair.1 turn after (subst TellsSteady (sym none) start_tells) opening said)

  -- ---- an event

  abbrev Kept : Nodes D → Nodes D → Type 0
  Kept old new = Same new.master old.master → LastsSteady seen old.master → Lasts seen new.master → LastsSteady seen new.master

  -- where the master stays where it is
  stays : (old new : Nodes D) → new.master ≡ old.master → Kept old new
  stays old new is same h firm = subst (LastsSteady seen) (sym is) h

  moved : (place : MasterPlace D) (old new : Nodes D) → new ≡ with_master place old → (Same place old.master → LastsSteady seen old.master → Lasts seen place → LastsSteady seen place) → Kept old new
  moved place old new is steady same h firm =
      let at = ap (λ (n : Nodes D). n.master) is in subst (LastsSteady seen) (sym at) (steady (sym (ap (failures_at failures) at) ∙ same) h (subst (Lasts seen) at firm))

  -- what the master is to hear
  abbrev Takes_in : Nodes D → Message → Moment → Type 0
  Takes_in old message moment = (IsNamedBody message.body × IsNumber moment.0) × IsHeardAt old.master message.body

  heard : (message : Message) (moment : Moment) (to : NodeId) (old : Nodes D) (turn : Result Told Refusal) (new : Nodes D) → (to ≡ nodes.Master → Takes_in old message moment) →
      Hears seen failures message moment to old turn new → Kept old new
  heard message moment nodes.Master old turn new within (place, is, hear) =
      moved place old new is (λ same h firm. hears message moment old.master turn place (within refl).0 (within refl).1 h firm hear same)
  heard message moment (nodes.Server id) old turn new within at = stays old new (at_server id (λ s. ServerDoes (servers.handle s message moment) s) old turn new at)
  heard message moment (nodes.Client id) old turn new within (said, at, says) = stays old new (at_client id None (ClientHears message.body) old said new at)

  delivered : (message : Message) (moment : Moment) (old : Nodes D) (turn : Result Told Refusal) (new : Nodes D) → (message.to ≡ nodes.Master → Takes_in old message moment) →
      Delivers seen failures message moment old turn new → Kept old new
  unfolding Delivers
  delivered message moment old turn new within hear = heard message moment message.to old turn new within hear

  module _ (armed : DiskId → ℕ → MasterPlace D → MasterPlace D) (lasting : (steps : List Step) (old new : History D) → RunsSoundly seen failures armed steps old new → Lasts seen old.nodes.master → Lasts seen new.nodes.master)
      (arming : (disk : DiskId) (call : ℕ) (place : MasterPlace D) → LastsSteady seen place → Lasts seen (armed disk call place) → LastsSteady seen (armed disk call place)) where
    came : (found : Option Message) (sender : NodeId) (moment : Moment) (old : Nodes D) (by : NodeId) (outcome : Upshot) (new : Nodes D)
        → ((message : Message) → found ≡ Some message → message.to ≡ nodes.Master → Takes_in old message moment)
        → MatchOption found ((outcome ≡ Err refusals.Range) × (new ≡ old) × (by ≡ sender)) (λ message. ComesTo seen failures armed sender message moment old by outcome new) → Kept old new
    came None sender moment old by outcome new within (refused, is, from) = stays old new (ap (λ (n : Nodes D). n.master) is)
    came (Some message) sender moment old by outcome new within comes = elim comes [
      | inl (is, turn, delivers, told) ↦ delivered message moment old turn new (within message refl) delivers
      | inr (refused, is, from) ↦ stays old new (ap (λ (n : Nodes D). n.master) is)
    ]

    tick_kept : (moment : Moment) (node : StoreNode) (old : Nodes D) (outcome : Upshot) (new : Nodes D) → Ticks seen failures armed moment node old outcome new → Kept old new
    tick_kept moment keepers.Master old outcome new (place, turn, does, is, told) = moved place old new is (λ same h firm. ticks old.config moment old.master turn place h firm does same)
    tick_kept moment (keepers.Server id) old outcome new (turn, at, told) = stays old new (at_server id (λ s. ServerDoes (servers.tick s moment) s) old turn new at)

    restart_kept : (node : StoreNode) (old : Nodes D) (outcome : Upshot) (new : Nodes D) → Restarts seen failures armed node old outcome new → Kept old new
    restart_kept keepers.Master old outcome new (place, turn, does, is, told) = moved place old new is (λ same h firm. reopens old.config old.master turn place h does same)
    restart_kept (keepers.Server id) old outcome new (done, at, told) = stays old new (at_server id (λ s done after. (done ≡ Ok tt) × (after ≡ servers.restart s)) old done new at)

    at_node : (moment : Moment) (happening : Happening) (old : History D) (by : NodeId) (outcome : Upshot) (new : Nodes D)
        → AtNode seen failures armed moment happening old by outcome new → HearsNamed moment happening old → HearsWithin happening old → Kept old.nodes new
    at_node moment (happenings.Ask req request) old by outcome new (is, (out, at, told)) named within =
        stays old.nodes new (at_client req.client (Err refusals.Range) (ClientAsks req.number request) old.nodes out new at)
    at_node moment (happenings.Deliver id) old by outcome new comes named within =
        came (message_of old.sent id) id.sender moment old.nodes by outcome new (λ message found to. (named message found to, within message found to)) comes
    at_node moment (happenings.Tick node) old by outcome new (is, does) named within = tick_kept moment node old.nodes outcome new does
    at_node moment (happenings.Beat id) old by outcome new (is, (still, told)) named within = stays old.nodes new (ap (λ (n : Nodes D). n.master) still)
    at_node moment (happenings.Restart node) old by outcome new (is, does) named within = restart_kept node old.nodes outcome new does
    at_node moment (happenings.Lose id handle) old by outcome new (is, (done, at, told)) named within =
        stays old.nodes new (at_server id (λ s done after. Does (servers.lose handle s) done s after) old.nodes done new at)
    at_node moment (happenings.Damage id handle block) old by outcome new (is, (done, at, told)) named within =
        stays old.nodes new (at_server id (λ s done after. Does (servers.damage handle block s) done s after) old.nodes done new at)
    at_node moment (happenings.FailDisk disk call) old by outcome new (is, (with, told)) named within =
        moved (armed disk call old.nodes.master) old.nodes new with (λ same h firm. arming disk call old.nodes.master h firm)

    step_kept : (step : Step) (old new : History D) → Goes seen failures armed step old new → StepWithin step old → Kept old.nodes new.nodes
    step_kept (Comes event) old new (said, h) within = at_node event.moment event.happening old h.by h.outcome new.nodes h.at within.0 within.1
    step_kept (Takes client) old new (found, takes, is) within =
        stays old.nodes new.nodes (at_client client None (λ n reply after. (reply ≡ n.reply) × (after ≡ given_up n)) old.nodes found new.nodes takes)

    named_only : (step : Step) (old : History D) → StepWithin step old → StepNamed step old
    named_only (Comes event) old within = within.0
    named_only (Takes client) old within = tt

    pub run_steady : (steps : List Step) (old new : History D) → RunsSteadily seen failures armed steps old new → LastsSteady seen old.nodes.master → LastsSteady seen new.nodes.master
    run_steady [] old new is h = subst (λ (x : History D). LastsSteady seen x.nodes.master) (sym is) h
    run_steady (step ∷ steps) old new (mid, goes, within, same, rest) h =
        let firm = lasting (step ∷ []) old mid (mid, goes, named_only step old within, same, refl) (lasts old.nodes.master h) in
        run_steady steps mid new rest (step_kept step old mid goes within same h firm)

  -- ---- where no failure can be made to come

  pub unarmed_run_steady : (armed : DiskId → ℕ → MasterPlace D → MasterPlace D) (steps : List Step) (old new : History D) → ((disk : DiskId) (call : ℕ) (place : MasterPlace D) → armed disk call place ≡ place) →
      RunsSteadily seen failures armed steps old new → LastsSteady seen old.nodes.master → LastsSteady seen new.nodes.master
  unarmed_run_steady armed steps old new leaves runs h =
      run_steady armed (λ steps old new runs h. unarmed_run_lasts seen failures armed steps old new leaves runs h) (λ disk call place steady firm. subst (LastsSteady seen) (sym (leaves disk call place)) steady) steps old new runs h

-- ---- disks of which calls fail

module _ {D : Type 0} (seen : D → List ℕ) (failures : D → ℕ) where
  -- a fault that is to come changes nothing that is seen
  arming : (disk : DiskId) (call : ℕ) (place : MasterPlace (Failing D)) → LastsSteady (seen_of seen) place → Lasts (seen_of seen) (arms disk call place) → LastsSteady (seen_of seen) (arms disk call place)
  arming disks.First call (Standing m) h firm = record { firm = firm; steady = h.steady; bound = h.bound }
  arming disks.First call (Closed first second) h firm = h
  arming disks.First call Away h firm = h
  arming disks.Second call (Standing m) h firm = record { firm = firm; steady = h.steady; bound = h.bound }
  arming disks.Second call (Closed first second) h firm = h
  arming disks.Second call Away h firm = h

  pub faulty_run_steady : (steps : List Step) (old new : History (Failing D)) → RunsSteadily (seen_of seen) (failures_of failures) arms steps old new → LastsSteady (seen_of seen) old.nodes.master → LastsSteady (seen_of seen) new.nodes.master
  faulty_run_steady steps old new runs h =
      run_steady (seen_of seen) (failures_of failures) arms (λ steps old new runs h. faulty_run_lasts seen failures steps old new runs h) arming steps old new runs h
