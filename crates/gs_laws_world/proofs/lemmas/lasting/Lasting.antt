-- That the master stands firm as long as no disk fails, and that a restart opens what stood.
use Rattle.std.proofs.Common.{◌≡◌, ◌∙◌, inl, inr, ◌+◌, ◌-◌, ◌<◌, ◌&&◌, ◌++◌, ℕ, Bool, true, false, not, List, [], ◌∷◌, map, Option, Some, None, MatchOption, Result, Ok, Err, refl, ap, subst, sym, arith, slice_get, slice_set}
use Rattle.std.specs.Prelude.{is_none, option_and_then, unwrap_or}
use Rattle.std.specs.List.{AllByRecursion}
use Rattle.std.proofs.lemmas.Bool.{false≢true}
use Rattle.std.proofs.lemmas.List.{map-append}
use Rattle.gs_base.specs.declared.config.Config.{Config}
use Rattle.gs_base.specs.declared.numbers.ClientId.{ClientId}
use Rattle.gs_base.specs.declared.numbers.Moment.{Moment}
use Rattle.gs_base.specs.declared.numbers.ReqId.{ReqId}
use Rattle.gs_base.specs.declared.refusal.Refusal.{Refusal}
use Rattle.gs_base.specs.declared.refusal.Refusal.TheVariants as refusals
use Rattle.gs_base.specs.Told.{IsNumber}
use Rattle.gs_base.specs.Calls.{Does}
use Rattle.gs_client.specs.Nodes.{Node, given_up}
use Rattle.gs_journal.specs.Faults.{Failing}
use Rattle.gs_journal.specs.Journal.{failures_of_both}
use Rattle.gs_journal.specs.Records.{Text, fresh as fresh_text, standing}
use Rattle.gs_journal.specs.declared.version.Version.TheVariants.{Two}
use Rattle.gs_laws_master.proofs.lemmas.standing.StandingAnswers.{pressed_good}
use Rattle.gs_laws_master.proofs.lemmas.standing.StandingRuns.{events_fit, opens_firm, starts_firm}
use Rattle.gs_laws_master.proofs.lemmas.standing.StandingTurns.{Good, Holds, same_good, then_good}
use Rattle.gs_laws_master.specs.Promises.{IsKept}
use Rattle.gs_laws_master.specs.Standing.{AreCounters, Comes as HearsAt, FitsAndStands, IsFirm, IsNamedBody, Ticks as TicksAt}
use Rattle.gs_master.proofs.Composing.{all_joined, replayed_both}
use Rattle.gs_master.proofs.Renewed.{written_tick}
use Rattle.gs_master.proofs.Reopened.{after_opening}
use Rattle.gs_master.proofs.Turning.{replayed_behind}
use Rattle.gs_master.specs.Finishing.{and_checkpoint}
use Rattle.gs_master.specs.Masters.{MasterAnswers, IsAnswered, MasterOf}
use Rattle.gs_master_guard.specs.Reading.{AreRecordsOf}
use Rattle.gs_master.specs.Starting.{IsOpened, left_in}
use Rattle.gs_master.specs.Ticking.{AnswersAs, AnswersTick, IsAnsweredAnew, is_written, lacking, pressed_all, writes_one}
use Rattle.gs_master.specs.declared.turn.Turn.{Turn as Told}
use Rattle.gs_msg.specs.declared.event.DiskId.{DiskId}
use Rattle.gs_msg.specs.declared.event.DiskId.TheVariants as disks
use Rattle.gs_msg.specs.declared.event.Happening.{Happening}
use Rattle.gs_msg.specs.declared.event.Happening.TheVariants as happenings
use Rattle.gs_msg.specs.declared.message.Message.{Message}
use Rattle.gs_msg.specs.declared.node.NodeId.{NodeId}
use Rattle.gs_msg.specs.declared.node.NodeId.TheVariants as nodes
use Rattle.gs_msg.specs.declared.node.StoreNode.{StoreNode}
use Rattle.gs_msg.specs.declared.node.StoreNode.TheVariants as keepers
use Rattle.gs_master_plan.specs.Renewable.{renewal_refusal}
use Rattle.gs_master_record.specs.Encoding.{encoded}
use Rattle.gs_master_record.specs.Plain.{PlainCheckpoint, PlainEntry, Whole}
use Rattle.gs_master_record.specs.Writable.{IsEntry}
use Rattle.gs_server.specs.Servers.{Server}
use Rattle.gs_server.specs.Servers as servers
use Rattle.gs_master_spec.specs.Applied.{applied, records_behind, replayed}
use Rattle.gs_master_spec.specs.Durable.{Durable, start}
use Rattle.gs_master_spec.specs.Handling.{due, handle, pressed, proposals, recover, restarted, tick}
use Rattle.gs_master_spec.specs.Outcomes.{caller_of}
use Rattle.gs_master_spec.specs.State.{Log, State, Turn, for_each, is_failed, unmoved}
use Rattle.gs_master_spec.specs.Whole.{checkpoint_of}
use Rattle.gs_nodes.specs.Happenings.{AtClient, AtServer, ClientAsks, ClientHears, Delivers, Hears, MasterHears, MasterTicks, Opens, Reopens, ServerDoes, client_in, limit}
use Rattle.gs_nodes.specs.Nodes.{Nodes, with_clients, with_master, with_servers}
use Rattle.gs_nodes.specs.declared.place.MasterPlace.{MasterPlace}
use Rattle.gs_nodes.specs.declared.place.MasterPlace.TheVariants.{Standing, Closed, Away}
use Rattle.gs_world.specs.Histories.{AtNode, Begins, ComesTo, History, Upshot, Restarts, Ticks, arms, seen_of, failures_of}
use Rattle.gs_laws_world.proofs.lemmas.lasting.Entries.{same_entries}
use Rattle.gs_laws_world.specs.lasting.Lasting.{HearsNamed, IsToldIn, Lasts, OpensAs, RunsSoundly, StandsFirm, StepNamed, TellsAMaster, WaitsAs, failures_at}
use Rattle.gs_world.specs.Runs.{Goes, Step, Comes, Takes}
use Rattle.gs_world.specs.Sent.{message_of}

-- ---- records

-- what a checkpoint tells doesn't depend on what it meets
whole_alike : (d e : Durable) (c : PlainCheckpoint) → replayed d (Whole c ∷ []) ≡ replayed e (Whole c ∷ [])
unfolding applied
whole_alike d e c = refl

-- ---- the steps of a tick

each_good : {A : Type 0} (xs : List A) (step : A → State → Turn) → ((x : A) (s : State) → Holds true s → Good true s (step x s)) → (s : State) → Holds true s → Good true s (for_each s xs step)
each_good [] step f s h = same_good true s (unmoved s) refl refl h
each_good (x ∷ xs) step f s h = let one = f x s h in then_good true s (step x s) (λ next. for_each next xs step) one (each_good xs step f (step x s).after one.holds)

-- they leave the master firm
steps_firm : (s : State) (moment : Moment) → IsFirm s → IsFirm (pressed_all s moment).after
steps_firm s moment f =
    let first = each_good (proposals s) (pressed moment) (λ proposal next k. pressed_good next k moment proposal) s (record { stands = f.stands; rolling = λ c r. f.rolling r }) in
    record { stands = first.holds.stands; rolling = λ r. first.holds.rolling refl r }

both : (a b : Bool) → (a && b) ≡ true → (a ≡ true) × (b ≡ true)
both true true is = (refl, refl)
both true false is = absurd (false≢true is)
both false b is = absurd (false≢true is)

not_true : (b : Bool) → not b ≡ true → b ≡ false
not_true true is = absurd (false≢true is)
not_true false is = refl

nothing : {A : Type 0} (o : Option A) → is_none o ≡ true → o ≡ None
nothing None is = refl
nothing (Some x) is = absurd (false≢true is)

-- ---- the master

module _ {D : Type 0} (seen : D → List ℕ) (failures : D → ℕ) where
  -- what is opened is what the disks tell
  opened : (config : Config) (first second : D) (d : Durable) (m : MasterOf D) (sent : List Message) → IsKept d → AreCounters d → IsToldIn (standing (seen first) (seen second)) d →
      IsOpened seen failures config first second (standing (seen first) (seen second)) limit m sent → StandsFirm seen m × (m.state ≡ restarted d m.state.log)
  opened config first second d m sent kept counters told is = (
    record {
      sound = ap (λ (s : State). is_failed s.fault) state;
      firm = subst IsFirm (sym state) (opens_firm d log kept counters);
      as_seen = is.journal;
      known = is.known;
      told = record {
        entries = told.entries;
        records = subst (λ (t : Text). m.journal.text ≡ left_in t.0 t is.durable) told.records is.left;
        are_entries = told.are_entries;
        replays = told.replays ∙ ap (λ (s : State). Some s.durable) (sym state);
      };
    },
    state ∙ ap (λ (s : State). restarted d s.log) (sym state),
  )
    where
      log : Log
      log = record (is.log) { records = records_behind is.entries }

      records : AreRecordsOf Two (map (encoded Two) told.entries) is.entries
      records = subst (λ (t : Text). AreRecordsOf t.0 t.1 is.entries) told.records is.tells.records

      durable : is.durable ≡ d
      durable =
          let entries = same_entries Two told.entries is.entries told.are_entries records.are_entries records.written in
          ap (λ (o : Option Durable). unwrap_or o d) (sym is.tells.replays ∙ ap (replayed start) (sym entries) ∙ told.replays)

      state : m.state ≡ restarted d log
      state =
          is.state ∙ after_opening config Two is.entries is.log is.durable is.turn is.tells.replays (subst (λ (t : Text). recover config t.0 is.entries is.log ≡ Ok is.turn) told.records is.recovers)
          ∙ ap (λ (x : Durable). restarted x log) durable

  told_there : (m : MasterOf D) → StandsFirm seen m → IsToldIn (standing (seen m.journal.first) (seen m.journal.second)) m.state.durable
  told_there m h = subst (λ (t : Text). IsToldIn t m.state.durable) (sym h.as_seen.text) h.told

  left_standing : (m : MasterOf D) → StandsFirm seen m → TellsAMaster (standing (seen m.journal.first) (seen m.journal.second))
  left_standing m h = record { durable = m.state.durable; kept = h.firm.stands.kept; counters = h.firm.stands.counters; told = told_there m h }

  -- a turn that is done
  goes_on : (t : Turn) (old : MasterOf D) (told : Told) (new : MasterOf D) → StandsFirm seen old → IsFirm t.after → IsAnswered seen failures t old told new → StandsFirm seen new
  goes_on t old told new h firm is =
      let sound = ap is_failed is.fault ∙ h.sound in record {
        sound = sound;
        firm = subst IsFirm (sym is.done.after) firm;
        as_seen = is.as_seen sound;
        known = is.known sound;
        told = record {
          entries = h.told.entries ++ t.records;
          records = is.text ∙ (λ i. ((h.told.records i).0, (h.told.records i).1 ++ map (encoded Two) t.records)) ∙ (λ i. (Two, sym (map-append (encoded Two) h.told.entries t.records) i));
          are_entries = all_joined (IsEntry Two) h.told.entries t.records h.told.are_entries is.are_entries;
          replays = replayed_behind start old.state.durable new.state.durable h.told.entries t.records h.told.replays is.fit;
        };
      }

  -- steps with a checkpoint behind them
  goes_on_anew : (steps : Turn) (old : MasterOf D) (told : Told) (new : MasterOf D) → StandsFirm seen old → FitsAndStands old.state (and_checkpoint steps) →
      IsAnsweredAnew seen failures (and_checkpoint steps) steps old told new → StandsFirm seen new
  goes_on_anew steps old told new h fits is = record {
    sound = ap is_failed is.fault ∙ h.sound;
    firm = subst IsFirm (sym is.done.after) fits.firm;
    as_seen = is.as_seen;
    known = is.known;
    told = record {
      entries = whole;
      records = is.text;
      are_entries = (is.is_entry, tt);
      replays = whole_alike start steps.after.durable (checkpoint_of steps.after.durable) ∙ sym behind ∙ fits.fits ∙ ap (λ (s : State). Some s.durable) (sym is.done.after);
    };
  }
    where
      whole : List PlainEntry
      whole = Whole (checkpoint_of steps.after.durable) ∷ []

      behind : replayed old.state.durable (steps.records ++ whole) ≡ replayed steps.after.durable whole
      behind = replayed_both old.state.durable steps.records whole ∙ ap (option_and_then (λ mid. replayed mid whole)) is.fit

  -- a disk that fails is counted
  never : (n m : ℕ) → n < m → m ≡ n → ⊥
  never n m more same = omega arith

  answered : (caller : Option ReqId) (t : Turn) (old : MasterOf D) (result : Result Told Refusal) (new : MasterOf D) → StandsFirm seen old → IsFirm t.after → MasterAnswers seen failures caller t old result new →
      failures_of_both failures new.journal ≡ failures_of_both failures old.journal → StandsFirm seen new
  answered caller t old (Ok told) new h firm (inl is) same = goes_on t old told new h firm is
  answered caller t old (Ok told) new h firm (inr (place, cut)) same = absurd (never (failures_of_both failures old.journal) (failures_of_both failures new.journal) cut.cause same)
  answered caller t old (Err e) new h firm (why, still) same = subst (StandsFirm seen) (sym still) h

  -- ---- a tick

  whole_ticked : (config : Config) (moment : Moment) (old : MasterOf D) (told : Told) (new : MasterOf D) (b : Bool) → writes_one old.state (pressed_all old.state moment) ≡ b → StandsFirm seen old →
      AnswersAs seen failures b (tick old.state moment) (pressed_all old.state moment) old told new → failures_of_both failures new.journal ≡ failures_of_both failures old.journal → StandsFirm seen new
  whole_ticked config moment old told new false is h (inl done) same =
      goes_on (tick old.state moment) old told new h (events_fit config old.state (TicksAt moment) tt h.firm).firm done
  whole_ticked config moment old told new true is h (inl done) same =
      let steps = pressed_all old.state moment in
      let first = both (not (is_failed old.state.fault)) (due steps.after && is_written steps.after) is in
      let second = both (due steps.after) (is_written steps.after) first.1 in
      let t = written_tick old.state moment (not_true (is_failed old.state.fault) first.0) second.0 (nothing (renewal_refusal steps.after) second.1) in
      goes_on_anew steps old told new h (subst (FitsAndStands old.state) t (events_fit config old.state (TicksAt moment) tt h.firm)) (subst (λ (t : Turn). IsAnsweredAnew seen failures t steps old told new) t done)
  whole_ticked config moment old told new false is h (inr (place, cut)) same = absurd (never (failures_of_both failures old.journal) (failures_of_both failures new.journal) cut.cause same)
  whole_ticked config moment old told new true is h (inr (place, cut)) same = absurd (never (failures_of_both failures old.journal) (failures_of_both failures new.journal) cut.cause same)

  ticked : (config : Config) (moment : Moment) (old : MasterOf D) (result : Result Told Refusal) (new : MasterOf D) → StandsFirm seen old → AnswersTick seen failures moment old result new →
      failures_of_both failures new.journal ≡ failures_of_both failures old.journal → StandsFirm seen new
  ticked config moment old (Ok told) new h (inl whole) same = whole_ticked config moment old told new (writes_one old.state (pressed_all old.state moment)) refl h whole same
  ticked config moment old (Ok told) new h (inr (sound, is_due, none, done)) same =
      answered None (lacking (pressed_all old.state moment)) old (Ok told) new h (steps_firm old.state moment h.firm) done same
  ticked config moment old (Err e) new h (why, still) same = subst (StandsFirm seen) (sym still) h

  -- ---- where the master is

  abbrev Same : MasterPlace D → MasterPlace D → Type 0
  Same new old = failures_at failures new ≡ failures_at failures old

  hears : (config : Config) (message : Message) (moment : Moment) (old : MasterPlace D) (result : Result Told Refusal) (new : MasterPlace D) → IsNamedBody message.body × IsNumber moment.0 → Lasts seen old →
      MasterHears seen failures message moment old result new → Same new old → Lasts seen new
  hears config message moment (Standing m) result new named h (after, is, answers) same =
      subst (Lasts seen) (sym is)
      (answered (caller_of message.body) (handle m.config m.state message moment) m result after h (events_fit m.config m.state (HearsAt message moment) named h.firm).firm answers
      (sym (ap (failures_at failures) is) ∙ same))
  hears config message moment (Closed first second) (Ok turn) new named h meets same = subst (Lasts seen) (sym meets.0) h
  hears config message moment (Closed first second) (Err e) new named h meets same = subst (Lasts seen) (sym meets.0) h
  hears config message moment Away (Ok turn) new named h meets same = subst (Lasts seen) (sym meets.0) h
  hears config message moment Away (Err e) new named h meets same = subst (Lasts seen) (sym meets.0) h

  ticks : (config : Config) (moment : Moment) (old : MasterPlace D) (result : Result Told Refusal) (new : MasterPlace D) → Lasts seen old → MasterTicks seen failures moment old result new → Same new old → Lasts seen new
  ticks config moment (Standing m) result new h (after, is, answers) same = subst (Lasts seen) (sym is) (ticked config moment m result after h answers (sym (ap (failures_at failures) is) ∙ same))
  ticks config moment (Closed first second) (Ok turn) new h meets same = subst (Lasts seen) (sym meets.0) h
  ticks config moment (Closed first second) (Err e) new h meets same = subst (Lasts seen) (sym meets.0) h
  ticks config moment Away (Ok turn) new h meets same = subst (Lasts seen) (sym meets.0) h
  ticks config moment Away (Err e) new h meets same = subst (Lasts seen) (sym meets.0) h

  pub opens : (config : Config) (pair : D × D) (result : Result Told Refusal) (new : MasterPlace D) → TellsAMaster (standing (seen pair.0) (seen pair.1)) → Opens seen failures config pair result new →
      failures_at failures new ≡ failures pair.0 + failures pair.1 → Lasts seen new
  opens config pair (Ok turn) new left (after, is, opening, said) same =
      subst (Lasts seen) (sym is) (opened config pair.0 pair.1 left.durable after turn.sent.items left.kept left.counters left.told opening).0
  opens config pair (Err e) new left (u, is, refusal, inl (device, more)) same =
      absurd (never (failures pair.0 + failures pair.1) (failures u.first + failures u.second) more (sym (ap (failures_at failures) is) ∙ same))
  opens config pair (Err e) new left (u, is, refusal, inr (text, quiet, why)) same = subst (Lasts seen) (sym is) (subst TellsAMaster (sym text) left)

  reopens : (config : Config) (old : MasterPlace D) (result : Result Told Refusal) (new : MasterPlace D) → Lasts seen old → Reopens seen failures config old result new → Same new old → Lasts seen new
  reopens config (Standing m) result new h opening same = opens config (m.journal.first, m.journal.second) result new (left_standing m h) opening same
  reopens config (Closed first second) result new h opening same = opens config (first, second) result new h opening same
  reopens config Away result new h (still, refused) same = subst (Lasts seen) (sym still) h

  -- a restart opens what the disks tell
  pub opens_told : (config : Config) (first second : D) (d : Durable) (turn : Told) (new : MasterPlace D) → IsKept d → AreCounters d → IsToldIn (standing (seen first) (seen second)) d →
      Opens seen failures config (first, second) (Ok turn) new → OpensAs seen d new
  opens_told config first second d turn new kept counters told (after, is, opening, said) =
      let firm = opened config first second d after turn.sent.items kept counters told opening in (after, is, firm.1, firm.0)

  pub opens_again : (config : Config) (m : MasterOf D) (turn : Told) (new : MasterPlace D) → StandsFirm seen m → Reopens seen failures config (Standing m) (Ok turn) new → OpensAs seen m.state.durable new
  opens_again config m turn new h opening = opens_told config m.journal.first m.journal.second m.state.durable turn new h.firm.stands.kept h.firm.stands.counters (told_there m h) opening

  -- where it isn't opened, they wait
  waits_told : (config : Config) (first second : D) (d : Durable) (e : Refusal) (new : MasterPlace D) → IsToldIn (standing (seen first) (seen second)) d →
      Opens seen failures config (first, second) (Err e) new → failures_at failures new ≡ failures first + failures second → WaitsAs seen d new
  waits_told config first second d e new told (u, is, refusal, inl (device, more)) same =
      absurd (never (failures first + failures second) (failures u.first + failures u.second) more (sym (ap (failures_at failures) is) ∙ same))
  waits_told config first second d e new told (u, is, refusal, inr (text, quiet, why)) same = (u.first, u.second, is, subst (λ (t : Text). IsToldIn t d) (sym text) told)

  pub waits_again : (config : Config) (m : MasterOf D) (e : Refusal) (new : MasterPlace D) → StandsFirm seen m → Reopens seen failures config (Standing m) (Err e) new →
      failures_at failures new ≡ failures_at failures (Standing m) → WaitsAs seen m.state.durable new
  waits_again config m e new h opening same = waits_told config m.journal.first m.journal.second m.state.durable e new (told_there m h) opening same

  -- ---- the other nodes

  server_leaves : {A : Type 0} (found : Option Server) (id : ℕ) (does : Server → Result A Refusal → Server → Type 0) (old : Nodes D) (result : Result A Refusal) (new : Nodes D)
      → MatchOption found ((new ≡ old) × (result ≡ Err refusals.Range)) (λ s. (after : Server) × (new ≡ with_servers (slice_set old.servers id after) old) × does s result after) → new.master ≡ old.master
  server_leaves None id does old result new (is, refused) = ap (λ (n : Nodes D). n.master) is
  server_leaves (Some s) id does old result new (after, is, done) = ap (λ (n : Nodes D). n.master) is

  at_server : {A : Type 0} (id : ℕ) (does : Server → Result A Refusal → Server → Type 0) (old : Nodes D) (result : Result A Refusal) (new : Nodes D) → AtServer id does old result new → new.master ≡ old.master
  at_server id does old result new at = server_leaves (slice_get old.servers id) id does old result new at

  client_leaves : {A : Type 0} (found : Option Node) (id : ClientId) (none : A) (does : Node → A → Node → Type 0) (old : Nodes D) (result : A) (new : Nodes D)
      → MatchOption found ((new ≡ old) × (result ≡ none)) (λ n. (after : Node) × (new ≡ with_clients (slice_set old.clients (id.0 - 1) after) old) × does n result after) → new.master ≡ old.master
  client_leaves None id none does old result new (is, refused) = ap (λ (n : Nodes D). n.master) is
  client_leaves (Some n) id none does old result new (after, is, done) = ap (λ (n : Nodes D). n.master) is

  at_client : {A : Type 0} (id : ClientId) (none : A) (does : Node → A → Node → Type 0) (old : Nodes D) (result : A) (new : Nodes D) → AtClient id none does old result new → new.master ≡ old.master
  at_client id none does old result new at = client_leaves (client_in old.clients id) id none does old result new at

  -- ---- an event

  abbrev Kept : Nodes D → Nodes D → Type 0
  Kept old new = Same new.master old.master → Lasts seen old.master → Lasts seen new.master

  -- where the master stays where it is
  stays : (old new : Nodes D) → new.master ≡ old.master → Kept old new
  stays old new is same h = subst (Lasts seen) (sym is) h

  moved : (place : MasterPlace D) (old new : Nodes D) → new ≡ with_master place old → (Same place old.master → Lasts seen old.master → Lasts seen place) → Kept old new
  moved place old new is lasts same h =
      let at = ap (λ (n : Nodes D). n.master) is in subst (Lasts seen) (sym at) (lasts (sym (ap (failures_at failures) at) ∙ same) h)

  heard : (message : Message) (moment : Moment) (to : NodeId) (old : Nodes D) (turn : Result Told Refusal) (new : Nodes D) → (to ≡ nodes.Master → IsNamedBody message.body × IsNumber moment.0) →
      Hears seen failures message moment to old turn new → Kept old new
  heard message moment nodes.Master old turn new named (place, is, hear) = moved place old new is (λ same h. hears old.config message moment old.master turn place (named refl) h hear same)
  heard message moment (nodes.Server id) old turn new named at = stays old new (at_server id (λ s. ServerDoes (servers.handle s message moment) s) old turn new at)
  heard message moment (nodes.Client id) old turn new named (said, at, says) = stays old new (at_client id None (ClientHears message.body) old said new at)

  delivered : (message : Message) (moment : Moment) (old : Nodes D) (turn : Result Told Refusal) (new : Nodes D) → (message.to ≡ nodes.Master → IsNamedBody message.body × IsNumber moment.0) →
      Delivers seen failures message moment old turn new → Kept old new
  unfolding Delivers
  delivered message moment old turn new named hear = heard message moment message.to old turn new named hear

  module _ (armed : DiskId → ℕ → MasterPlace D → MasterPlace D) (arming : (disk : DiskId) (call : ℕ) (place : MasterPlace D) → Lasts seen place → Lasts seen (armed disk call place)) where
    came : (found : Option Message) (sender : NodeId) (moment : Moment) (old : Nodes D) (by : NodeId) (outcome : Upshot) (new : Nodes D)
        → ((message : Message) → found ≡ Some message → message.to ≡ nodes.Master → IsNamedBody message.body × IsNumber moment.0)
        → MatchOption found ((outcome ≡ Err refusals.Range) × (new ≡ old) × (by ≡ sender)) (λ message. ComesTo seen failures armed sender message moment old by outcome new) → Kept old new
    came None sender moment old by outcome new named (refused, is, from) = stays old new (ap (λ (n : Nodes D). n.master) is)
    came (Some message) sender moment old by outcome new named comes = elim comes [
      | inl (is, turn, delivers, told) ↦ delivered message moment old turn new (named message refl) delivers
      | inr (refused, is, from) ↦ stays old new (ap (λ (n : Nodes D). n.master) is)
    ]

    tick_kept : (moment : Moment) (node : StoreNode) (old : Nodes D) (outcome : Upshot) (new : Nodes D) → Ticks seen failures armed moment node old outcome new → Kept old new
    tick_kept moment keepers.Master old outcome new (place, turn, does, is, told) = moved place old new is (λ same h. ticks old.config moment old.master turn place h does same)
    tick_kept moment (keepers.Server id) old outcome new (turn, at, told) = stays old new (at_server id (λ s. ServerDoes (servers.tick s moment) s) old turn new at)

    restart_kept : (node : StoreNode) (old : Nodes D) (outcome : Upshot) (new : Nodes D) → Restarts seen failures armed node old outcome new → Kept old new
    restart_kept keepers.Master old outcome new (place, turn, does, is, told) = moved place old new is (λ same h. reopens old.config old.master turn place h does same)
    restart_kept (keepers.Server id) old outcome new (done, at, told) = stays old new (at_server id (λ s done after. (done ≡ Ok tt) × (after ≡ servers.restart s)) old done new at)

    at_node : (moment : Moment) (happening : Happening) (old : History D) (by : NodeId) (outcome : Upshot) (new : Nodes D)
        → AtNode seen failures armed moment happening old by outcome new → HearsNamed moment happening old → Kept old.nodes new
    at_node moment (happenings.Ask req request) old by outcome new (is, (out, at, told)) named =
        stays old.nodes new (at_client req.client (Err refusals.Range) (ClientAsks req.number request) old.nodes out new at)
    at_node moment (happenings.Deliver id) old by outcome new comes named = came (message_of old.sent id) id.sender moment old.nodes by outcome new named comes
    at_node moment (happenings.Tick node) old by outcome new (is, does) named = tick_kept moment node old.nodes outcome new does
    at_node moment (happenings.Beat id) old by outcome new (is, (still, told)) named = stays old.nodes new (ap (λ (n : Nodes D). n.master) still)
    at_node moment (happenings.Restart node) old by outcome new (is, does) named = restart_kept node old.nodes outcome new does
    at_node moment (happenings.Lose id handle) old by outcome new (is, (done, at, told)) named =
        stays old.nodes new (at_server id (λ s done after. Does (servers.lose handle s) done s after) old.nodes done new at)
    at_node moment (happenings.Damage id handle block) old by outcome new (is, (done, at, told)) named =
        stays old.nodes new (at_server id (λ s done after. Does (servers.damage handle block s) done s after) old.nodes done new at)
    at_node moment (happenings.FailDisk disk call) old by outcome new (is, (with, told)) named =
        moved (armed disk call old.nodes.master) old.nodes new with (λ same h. arming disk call old.nodes.master h)

    step_kept : (step : Step) (old new : History D) → Goes seen failures armed step old new → StepNamed step old → Kept old.nodes new.nodes
    step_kept (Comes event) old new (said, h) named = at_node event.moment event.happening old h.by h.outcome new.nodes h.at named
    step_kept (Takes client) old new (found, takes, is) named =
        stays old.nodes new.nodes (at_client client None (λ n reply after. (reply ≡ n.reply) × (after ≡ given_up n)) old.nodes found new.nodes takes)

    pub run_lasts : (steps : List Step) (old new : History D) → RunsSoundly seen failures armed steps old new → Lasts seen old.nodes.master → Lasts seen new.nodes.master
    run_lasts [] old new is h = subst (λ (x : History D). Lasts seen x.nodes.master) (sym is) h
    run_lasts (step ∷ steps) old new (mid, goes, named, same, rest) h = run_lasts steps mid new rest (step_kept step old mid goes named same h)

-- ---- a new store

start_tells : TellsAMaster fresh_text
start_tells =
    let firm = starts_firm (record { records = 0; size = 0; limit = 0; generation = 0 }) in record {
      durable = start;
      kept = firm.stands.kept;
      counters = firm.stands.counters;
      told = record { entries = []; records = refl; are_entries = tt; replays = refl };
    }

module _ {D : Type 0} (seen : D → List ℕ) (failures : D → ℕ) (armed : DiskId → ℕ → MasterPlace D → MasterPlace D) where
  -- it begins firm
  pub begins_firm : (config : Config) (clients : ℕ) (pair : D × D) (new : History D) → standing (seen pair.0) (seen pair.1) ≡ fresh_text → Begins seen failures armed config clients pair new → Lasts seen new.nodes.master
  begins_firm config clients pair new none begun =
      subst (λ (n : Nodes D). Lasts seen n.master) (sym begun.nodes)
      (opened_there begun.place begun.turn begun.opens)
    where
      opened_there : (place : MasterPlace D) (turn : Told) → Opens seen failures config pair (Ok turn) place → Lasts seen place
      opened_there place turn (after, is, opening, said) =
          let left = subst TellsAMaster (sym none) start_tells in
          subst (Lasts seen) (sym is) (opened seen failures config pair.0 pair.1 left.durable after turn.sent.items left.kept left.counters left.told opening).0

-- ---- disks of which calls fail

module _ {D : Type 0} (seen : D → List ℕ) where
  -- a fault that is to come changes nothing that is seen
  arming : (disk : DiskId) (call : ℕ) (place : MasterPlace (Failing D)) → Lasts (seen_of seen) place → Lasts (seen_of seen) (arms disk call place)
  arming disks.First call (Standing m) h = record {
    sound = h.sound;
    firm = h.firm;
    as_seen = record { text = h.as_seen.text; size = h.as_seen.size; generation = h.as_seen.generation; whole = h.as_seen.whole };
    known = record { is_open = h.known.is_open; size = h.known.size; limit = h.known.limit; generation = h.known.generation };
    told = h.told;
  }
  arming disks.First call (Closed first second) h = h
  arming disks.First call Away h = h
  arming disks.Second call (Standing m) h = record {
    sound = h.sound;
    firm = h.firm;
    as_seen = record { text = h.as_seen.text; size = h.as_seen.size; generation = h.as_seen.generation; whole = h.as_seen.whole };
    known = record { is_open = h.known.is_open; size = h.known.size; limit = h.known.limit; generation = h.known.generation };
    told = h.told;
  }
  arming disks.Second call (Closed first second) h = h
  arming disks.Second call Away h = h

  pub faulty_run_lasts : (failures : D → ℕ) (steps : List Step) (old new : History (Failing D)) → RunsSoundly (seen_of seen) (failures_of failures) arms steps old new → Lasts (seen_of seen) old.nodes.master → Lasts (seen_of seen) new.nodes.master
  faulty_run_lasts failures steps old new runs h = run_lasts (seen_of seen) (failures_of failures) arms arming steps old new runs h

-- ---- where no failure can be made to come

module _ {D : Type 0} (seen : D → List ℕ) (failures : D → ℕ) (armed : DiskId → ℕ → MasterPlace D → MasterPlace D) where
  pub unarmed_run_lasts : (steps : List Step) (old new : History D) → ((disk : DiskId) (call : ℕ) (place : MasterPlace D) → armed disk call place ≡ place) → RunsSoundly seen failures armed steps old new
      → Lasts seen old.nodes.master → Lasts seen new.nodes.master
  unarmed_run_lasts steps old new leaves runs h =
      run_lasts seen failures armed (λ disk call place lasts. subst (Lasts seen) (sym (leaves disk call place)) lasts) steps old new runs h
