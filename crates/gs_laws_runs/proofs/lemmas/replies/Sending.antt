-- Each reply that is sent at a step is of its turn; or it refuses the call that comes, since a disk fails, or no master stands.
use Rattle.std.proofs.Common.{◌≡◌, inl, inr, ◌∙◌, ◌++◌, ◌<◌, ℕ, Bool, true, false, not, List, [], ◌∷◌, refl, ap, sym, subst}
use Rattle.std.specs.Prelude.{option_map, MatchBool, Option, Some, None, Result, Ok, Err, if◌then◌else◌}
use Rattle.std.specs.List.{AllByRecursion}
use Rattle.std.proofs.lemmas.Bool.{false≢true, true≢false}
use Rattle.gs_base.specs.Members.{count_from}
use Rattle.gs_base.specs.declared.config.Config.{Config}
use Rattle.gs_base.specs.declared.epoch.EpochEnd.{EpochEnd}
use Rattle.gs_base.specs.declared.epoch.EpochEnd.TheVariants as ends
use Rattle.gs_base.specs.declared.numbers.Moment.{Moment}
use Rattle.gs_base.specs.declared.numbers.ReqId.{ReqId}
use Rattle.gs_base.specs.declared.refusal.Refusal.{Refusal}
use Rattle.gs_base.specs.declared.refusal.Refusal.TheVariants as refusals
use Rattle.gs_client.specs.Nodes.{messages_of, pushes, with_bytes}
use Rattle.gs_journal.specs.Records.{standing}
use Rattle.gs_journal.specs.declared.version.Version.{Version}
use Rattle.gs_journal.specs.declared.version.Version.TheVariants as versions
use Rattle.gs_master.specs.Journaled.{text_seen}
use Rattle.gs_master.specs.Masters.{MasterAnswers, MasterOf}
use Rattle.gs_master.specs.Ticking.{AnswersAs, lacking, pressed_all, writes_one}
use Rattle.gs_master.specs.declared.turn.Turn.{Turn as Told_turn}
use Rattle.gs_laws_master.proofs.lemmas.standing.StandingRuns.{events_fit, steps_fit}
use Rattle.gs_laws_master.specs.Standing.{Comes as HearsAt, IsNamed, Ticks as TicksAt}
use Rattle.gs_laws_plain.specs.commands.Doing.{NewCallsDoAsAnswered}
use Rattle.gs_master_record.specs.Plain.{PlainEntry}
use Rattle.gs_master_spec.specs.Applied.{records_behind, replayed}
use Rattle.gs_master_spec.specs.Durable.{Durable, is_rolling, start}
use Rattle.gs_master_spec.specs.Handling.{anew, answered_or, checkpoint, checkpoint_body, checkpoint_tests, due, handle, recover, recovered_from, reopened, restarted, tick, told_again, written_if_due, written_unless}
use Rattle.gs_master_spec.specs.Outcomes.{IsDone, caller_of, unsure}
use Rattle.gs_master_spec.specs.State.{Log, State, Turn, and_then, first_of, is_failed, met_by, post, to_each, unmoved}
use Rattle.gs_master_spec.specs.Upgrades.{tell_all}
use Rattle.gs_master_spec.specs.Whole.{checkpoint_of}
use Rattle.gs_laws_moves.proofs.lemmas.answers.Answering.{pick}
use Rattle.gs_laws_plain.proofs.lemmas.replies.Steady.{message_meek}
use Rattle.gs_laws_plain.specs.replies.Waited.{RepliesSo}
use Rattle.gs_msg.specs.declared.body.Body.{Body}
use Rattle.gs_msg.specs.declared.body.Body.TheVariants as bodies
use Rattle.gs_msg.specs.declared.event.Happening.{Happening}
use Rattle.gs_msg.specs.declared.event.Happening.TheVariants as happenings
use Rattle.gs_msg.specs.declared.event.Request.{Request}
use Rattle.gs_msg.specs.declared.event.Request.TheVariants as requests
use Rattle.gs_msg.specs.declared.message.Message.{Message}
use Rattle.gs_msg.specs.declared.message.MsgId.{MsgId}
use Rattle.gs_msg.specs.declared.node.NodeId.TheVariants as nodes
use Rattle.gs_msg.specs.declared.node.StoreNode.TheVariants as keepers
use Rattle.gs_nodes.specs.Happenings.{MasterHears, MasterTicks, Opens, Reopens, refusal_of_call}
use Rattle.gs_nodes.specs.Nodes.{Nodes}
use Rattle.gs_nodes.specs.declared.place.MasterPlace.{MasterPlace}
use Rattle.gs_nodes.specs.declared.place.MasterPlace.TheVariants.{Standing, Closed, Away}
use Rattle.gs_laws_parts.proofs.lemmas.server.Elsewhere.{ByServer}
use Rattle.gs_laws_parts.specs.server.Answering.{IsByServer}
use Rattle.gs_world.specs.Histories.{History, Upshot, told}
use Rattle.gs_laws_world.specs.lasting.Lasting.{HearsNamed, IsToldIn}
use Rattle.gs_world.specs.Runs.{Comes, Step}
use Rattle.gs_world.specs.Sent.{message_of}
use Rattle.gs_laws_chunks.proofs.lemmas.answers.Parts as parts
use Rattle.gs_laws_chunks.proofs.lemmas.answers.Parts.{Part, part_of}
use Rattle.gs_laws_chunks.specs.answers.Answered.{sent_by}
use Rattle.gs_laws_chunks.proofs.lemmas.accounts.SeeingThrough.{reached_well}
use Rattle.gs_laws_chunks.proofs.lemmas.accounts.Well.{step_within}
use Rattle.gs_laws_chunks.specs.accounts.Accounts.{Account}
use Rattle.gs_laws_chunks.specs.accounts.Hearing.{to_master}
use Rattle.gs_laws_chunks.specs.accounts.Running.{IsToldAt, Setup}
use Rattle.gs_laws_world.specs.steady.Steady.{StandsSteady}
use Rattle.gs_laws_world.specs.steady.Through.{is_sound_at}
use Rattle.gs_laws_runs.specs.plain.Written.{IsAllBut, messages_at, messages_of_message, messages_of_tick, records_at, records_of_message, records_of_tick}
use Rattle.std.proofs.Common.{arith, length}
use Rattle.std.specs.Prelude.{take}
use Rattle.std.proofs.Math.Seq.{take-length}
use Rattle.gs_world.proofs.Reaching.{HaveSizes}
use Rattle.gs_laws_chunks.proofs.lemmas.accounts.Edits.{AreNumbered}
use Rattle.gs_laws_chunks.specs.accounts.Back.{EachIsOfAPrepare, GivesNoOtherBack, GivesSettledBack}
use Rattle.gs_laws_chunks.specs.accounts.Running.{IsGiven}
use Rattle.gs_laws_world.specs.steady.Steady.{HearsWithin}
use Rattle.gs_laws_world.specs.steady.Through.{Turns as TurnsOf}
use Rattle.gs_laws_runs.proofs.lemmas.plain.Stepped.{turn_there}
use Rattle.gs_laws_runs.proofs.lemmas.plain.Writing.{WritesTurn, by_happening}
use Rattle.gs_laws_runs.specs.plain.Plainly.{IsPlainStep}
use Rattle.gs_laws_master.specs.Promises.{AllFit}
use Rattle.gs_laws_runs.specs.plain.Told.{PutWereTold}
use Rattle.gs_laws_runs.proofs.lemmas.replies.Answering.{all_but_said, Had, has_at, replies_plain}
use Rattle.gs_laws_runs.specs.replies.Answered as answered
use Rattle.gs_laws_runs.specs.replies.Answered.{AtStep, IsSentAsPlain, SentAreAsPlain, StandsWhole, heard_at}

-- ---- messages of which none is a reply

abbrev NoReply : Body → Type 0
NoReply body = RepliesSo (λ req result. ⊥) body

abbrev NoReplies : List Message → Type 0
NoReplies messages = AllByRecursion (λ (m : Message). NoReply m.body) messages

both_none : (xs ys : List Message) → NoReplies xs → NoReplies ys → NoReplies (xs ++ ys)
both_none [] ys first second = second
both_none (m ∷ xs) ys first second = (first.0, both_none xs ys first.1 second)

servers_none : (messages : List Message) → ByServer messages → NoReplies messages
servers_none [] by = tt
servers_none (m ∷ messages) by = (one m.body by.0, servers_none messages by.1)
  where
    one : (body : Body) → IsByServer body → NoReply body
    one (bodies.Reply req result) by = absurd by
    one body by = tt

pushes_none : (req : ReqId) (members bytes : List ℕ) → NoReplies (pushes req members bytes)
pushes_none req [] bytes = tt
pushes_none req (member ∷ members) bytes = (tt, pushes_none req members bytes)

request_none : (req : ReqId) (request : Request) → NoReplies (messages_of req request)
request_none req (requests.Call call) = (tt, tt)
request_none req (requests.Write handle members primary stamp op bytes) = both_none (pushes req (with_bytes members op) bytes) _ (pushes_none req (with_bytes members op) bytes) (tt, tt)
request_none req (requests.Fetch to handle stamp epoch asked) = (tt, tt)

-- ---- a restart

told_none : (config : Config) (epoch : ℕ) (end : EpochEnd) → NoReplies (tell_all config epoch end)
told_none config epoch end = each (count_from 0 config.servers)
  where
    each : (servers : List ℕ) → NoReplies (to_each servers (λ server. post (nodes.Server server) (bodies.Epoch epoch end)))
    each [] = tt
    each (server ∷ servers) = (tt, each servers)

again_none : (config : Config) (d : Durable) → NoReplies (told_again config d)
again_none config d = by_phase (is_rolling d.phase)
  where
    by_phase : (b : Bool) → NoReplies (if b then tell_all config d.epoch ends.Rollback else [])
    by_phase true = told_none config d.epoch ends.Rollback
    by_phase false = tt

anew_none : (version : Version) (s : State) → NoReplies (anew version s).sent
anew_none versions.One s = by_test (first_of (checkpoint_tests false false s.log (checkpoint_body s.durable)))
  where
    by_test : (refusal : Option Refusal) → NoReplies (written_unless s refusal).sent
    by_test None = tt
    by_test (Some refusal) = tt
anew_none versions.Two s = tt

recovered_none : (config : Config) (version : Version) (entries : List PlainEntry) (log : Log) (t : Turn) → recover config version entries log ≡ Ok t → NoReplies t.sent
unfolding recover
recovered_none config version entries log t is = by_durable (record log { records = records_behind entries }) (replayed start entries) is
  where
    ok_is : (u v : Turn) → ◌≡◌ {A = Result Turn Refusal} (Ok u) (Ok v) → u ≡ v
    ok_is u v h = cc

    never : (e : Refusal) (v : Turn) → ◌≡◌ {A = Result Turn Refusal} (Err e) (Ok v) → ⊥
    never e v h = cc

    by_said : (u : Turn) (said : Option Refusal) → NoReplies u.sent → answered_or u said ≡ Ok t → NoReplies t.sent
    by_said u None said h = subst (λ (v : Turn). NoReplies v.sent) (ok_is u t h) said
    by_said u (Some e) said h = absurd (never e t h)

    by_durable : (l : Log) (o : Option Durable) → recovered_from config version l o ≡ Ok t → NoReplies t.sent
    by_durable l None h = absurd (never refusals.BadLine t h)
    by_durable l (Some d) h =
        let first = anew version (restarted d l) in
        let u = and_then first (reopened config) in by_said u u.said (both_none first.sent (reopened config first.after).sent (anew_none version (restarted d l)) (again_none config first.after.durable)) h

-- ---- a tick with its checkpoint or without

-- a checkpoint is the last record, and says nothing
record WrittenBehind (t u : Turn) : Type 0 where
  pub sent : List Message
  pub says : u.sent ≡ t.sent ++ sent
  pub records : IsAllBut u.records t.records

nothing_more : {A : Type 0} (xs : List A) → xs ≡ xs ++ []
nothing_more [] = refl
nothing_more (y ∷ xs) = ap (λ zs. y ∷ zs) (nothing_more xs)

written_behind : (t : Turn) (refusal : Option Refusal) → WrittenBehind t (and_then t (λ u. record (written_unless u refusal) { said = None }))
written_behind t None = record { sent = []; says = refl; records = inr (checkpoint_of t.after.durable, refl) }
written_behind t (Some refusal) = record { sent = []; says = refl; records = inl (nothing_more t.records) }

due_behind : (t : Turn) → WrittenBehind t (and_then t written_if_due)
unfolding checkpoint
due_behind t =
    pick (λ u. WrittenBehind t (and_then t (λ v. u))) (due t.after) (record (checkpoint t.after) { said = None }) (unmoved t.after)
    (written_behind t (first_of (checkpoint_tests (is_failed t.after.fault) t.after.volatile.is_preparing t.after.log (checkpoint_body t.after.durable)))) (record { sent = []; says = refl; records = inl (nothing_more t.records) })

tick_behind : (s : State) (moment : Moment) → is_failed s.fault ≡ false → WrittenBehind (pressed_all s moment) (tick s moment)
unfolding tick
tick_behind s moment sound = subst (λ b. WrittenBehind (pressed_all s moment) (if b then met_by s refusals.Device else and_then (pressed_all s moment) written_if_due)) (sym sound) (due_behind (pressed_all s moment))

first_all : {A : Type 0} (S : A → Type 0) (xs ys : List A) → AllByRecursion S (xs ++ ys) → AllByRecursion S xs
first_all S [] ys all = tt
first_all S (x ∷ xs) ys all = (all.0, first_all S xs ys all.1)

-- ---- a step

module _ (law : NewCallsDoAsAnswered) {D : Type 0} (x : Setup D) (given : IsGiven x) (old new : History D) (a b : Account) (moment : Moment) (behind : IsToldAt x.seen new.nodes.master b.durable) (had : (m : MasterOf D) → old.nodes.master ≡ Standing m → Had law x a m) where
  abbrev step_of : Happening → Step
  step_of happening = Comes (record { moment = moment; happening = happening })

  abbrev Says : Happening → List Message → Type 0
  Says happening messages = AllByRecursion (λ (n : Message). RepliesSo (IsSentAsPlain x.config.chunk (step_of happening) old new a b) n.body) messages

  -- what is known of what the turn says
  abbrev Known : Happening → Type 0
  Known happening = (m : MasterOf D) → old.nodes.master ≡ Standing m → AllByRecursion (λ (n : Message). RepliesSo (AtStep (step_of happening) old a m) n.body) (messages_at (step_of happening) old)

  none_said : (happening : Happening) (messages : List Message) → NoReplies messages → Says happening messages
  none_said happening [] none = tt
  none_said happening (n ∷ messages) none = (one n.body none.0, none_said happening messages none.1)
    where
      one : (body : Body) → NoReply body → RepliesSo (IsSentAsPlain x.config.chunk (step_of happening) old new a b) body
      one (bodies.Reply req result) never = absurd never
      one body never = tt

  of_turn : (happening : Happening) (m : MasterOf D) → old.nodes.master ≡ Standing m → (is_sound_at old.nodes.master ≡ true → StandsWhole x.config.chunk (step_of happening) old new a b) → (messages : List Message)
      → AllByRecursion (λ (n : Message). RepliesSo (AtStep (step_of happening) old a m) n.body) messages → Says happening messages
  of_turn happening m at stands [] all = tt
  of_turn happening m at stands (n ∷ messages) all = (one n.body all.0, of_turn happening m at stands messages all.1)
    where
      one : (body : Body) → RepliesSo (AtStep (step_of happening) old a m) body → RepliesSo (IsSentAsPlain x.config.chunk (step_of happening) old new a b) body
      one (bodies.Reply req result) is = answered.OfTurn m at is stands
      one body is = tt

  -- the plain machine goes on by what is written
  abbrev PlainAt : Happening → Type 0
  PlainAt happening = WritesTurn (records_at (step_of happening) old) old.nodes.master new.nodes.master a.durable b.durable →
      (p : IsPlainStep x.config.chunk (step_of happening) old new a b) × (is_sound_at new.nodes.master ≡ true → IsAllBut (records_at (step_of happening) old) (take p.written (records_at (step_of happening) old)))

  -- what a turn that was done has recorded stands
  stands_whole : (happening : Happening) (m after : MasterOf D) (t : Turn) → HearsNamed moment happening old × HearsWithin happening old → TurnsOf moment happening old m t → PlainAt happening → old.nodes.master ≡ Standing m → new.nodes.master ≡ Standing after → after.state.fault ≡ m.state.fault
      → after.state.durable ≡ t.after.durable → IsAllBut (records_at (step_of happening) old) t.records → (StandsSteady x.seen m → AllFit m.state t) → is_sound_at old.nodes.master ≡ true → StandsWhole x.config.chunk (step_of happening) old new a b
  stands_whole happening m after t within made plain at to fault leaves but fits sound = by (had m at)
    where
      off : (c : Bool) → not c ≡ true → c ≡ false
      off false h = refl
      off true h = absurd (false≢true h)

      sound_m : is_failed m.state.fault ≡ false
      sound_m = off (is_failed m.state.fault) (sym (ap is_sound_at at) ∙ sound)

      sound_after : is_sound_at new.nodes.master ≡ true
      sound_after = ap is_sound_at to ∙ ap not (ap is_failed fault ∙ sound_m)

      told_is : (c : Bool) → c ≡ false → MatchBool c (IsToldIn (text_seen x.seen after.journal) b.durable) (b.durable ≡ after.state.durable) → b.durable ≡ after.state.durable
      told_is true h is = absurd (true≢false h)
      told_is false h is = is

      last : b.durable ≡ t.after.durable
      last = told_is (is_failed after.state.fault) (ap is_failed fault ∙ sound_m) (subst (λ p. IsToldAt x.seen p b.durable) to behind) ∙ leaves

      by : Had law x a m → StandsWhole x.config.chunk (step_of happening) old new a b
      by (inl has) =
          let stand : replayed a.durable t.records ≡ Some b.durable = ap (λ d. replayed d t.records) has.0 ∙ fits has.1 ∙ ap Some (sym last) in
          let goes = plain (by_happening x given old m t (length t.records) a.durable b.durable at sound_m has.1 (sym has.0) (omega arith) (ap (replayed a.durable) (take-length t.records) ∙ stand) new.nodes.master (λ h. refl) moment happening within made) in
          record { these = t.records; all = but; stand = stand; goes = goes.0; commands = goes.0.others ∙ all_but_said (records_at (step_of happening) old) (take goes.0.written (records_at (step_of happening) old)) (goes.1 sound_after) }
      by (inr failed) = absurd (true≢false (sym failed ∙ sound_m))

  -- ---- a message comes to the master

  module _ (id : MsgId) (message : Message) (found : message_of old.sent id ≡ Some message) (to : message.to ≡ nodes.Master) (named : IsNamed (HearsAt message moment)) (within : HearsNamed moment (happenings.Deliver id) old × HearsWithin (happenings.Deliver id) old) (plain : PlainAt (happenings.Deliver id)) where
    abbrev H : Happening
    H = happenings.Deliver id

    its : to_master (message_of old.sent id) ≡ Some message
    its = ap to_master found ∙ one message to
      where
        one : (n : Message) → n.to ≡ nodes.Master → to_master (Some n) ≡ Some n
        one n h = rw h refl

    heard_is : heard_at (step_of H) old ≡ Some message.body
    heard_is = ap (option_map (λ (n : Message). n.body)) its

    said_is : (m : MasterOf D) → old.nodes.master ≡ Standing m → messages_at (step_of H) old ≡ (handle m.config m.state message moment).sent
    said_is m at = ap (messages_of_message old.nodes.master moment) its ∙ ap (λ p. messages_of_message p moment (Some message)) at

    records_are : (m : MasterOf D) → old.nodes.master ≡ Standing m → records_at (step_of H) old ≡ (handle m.config m.state message moment).records
    records_are m at = ap (records_of_message old.nodes.master moment) its ∙ ap (λ p. records_of_message p moment (Some message)) at

    -- a disk fails: of none that had failed, since that records nothing
    unsure_said : is_sound_at old.nodes.master ≡ true → is_sound_at new.nodes.master ≡ false → (body : Body) → heard_at (step_of H) old ≡ Some body → Says H (unsure (caller_of body))
    unsure_said before behind (bodies.Call req call) heard = (answered.Unsure call heard refl before behind, tt)
    unsure_said before behind body heard = tt

    was_sound : (m : MasterOf D) (place : ℕ) → place < length (handle m.config m.state message moment).records → (b : Bool) → is_failed m.state.fault ≡ b → not b ≡ true
    was_sound m place within false fault = refl
    was_sound m place within true fault = (let none = ap length (message_meek m.config m.state message moment fault).none in absurd (omega arith))

    -- none stands
    closed_said : is_sound_at old.nodes.master ≡ false → (body : Body) → heard_at (step_of H) old ≡ Some body → Says H (refusal_of_call (caller_of body))
    closed_said none (bodies.Call req call) heard = (answered.Closed call heard refl none, tt)
    closed_said none body heard = tt

    hears : (place : MasterPlace D) (turn : Told_turn) (next : MasterPlace D) → old.nodes.master ≡ place → new.nodes.master ≡ next → MasterHears x.seen x.failures message moment place (Ok turn) next → Known H → Says H turn.sent.items
    hears (Standing m) turn next at is (after, next_is, inl done) known =
        subst (Says H) (sym done.done.sends)
        (of_turn H m at
        (stands_whole H m after (handle m.config m.state message moment) within (message, found, to, refl) plain at (is ∙ next_is) done.fault (ap (λ (s : State). s.durable) done.done.after) (inl (sym (records_are m at)))
        (λ has. (events_fit m.config m.state (HearsAt message moment) named has.steady.firm).fits)) (handle m.config m.state message moment).sent
        (subst (AllByRecursion (λ (n : Message). RepliesSo (AtStep (step_of H) old a m) n.body)) (said_is m at) (known m at)))
    hears (Standing m) turn next at is (after, next_is, inr (place, cut)) known =
        subst (Says H) (sym cut.cut.sends)
        (unsure_said (ap is_sound_at at ∙ was_sound m place cut.cut.within (is_failed m.state.fault) refl) (ap is_sound_at (is ∙ next_is) ∙ ap (λ (s : State). not (is_failed s.fault)) cut.cut.after) message.body heard_is)
    hears (Closed first second) turn next at is meets known = subst (Says H) (sym meets.1) (closed_said (ap is_sound_at at) message.body heard_is)
    hears Away turn next at is meets known = subst (Says H) (sym meets.1) (closed_said (ap is_sound_at at) message.body heard_is)

  -- ---- it ticks

  abbrev T : Happening
  T = happenings.Tick keepers.Master

  tick_said : (m : MasterOf D) → old.nodes.master ≡ Standing m → messages_at (step_of T) old ≡ (tick m.state moment).sent
  tick_said m at = ap (λ p. messages_of_tick p moment) at

  tick_records : (m : MasterOf D) → old.nodes.master ≡ Standing m → records_at (step_of T) old ≡ (tick m.state moment).records
  tick_records m at = ap (λ p. records_of_tick p moment) at

  module _ (within : HearsNamed moment T old × HearsWithin T old) (plain : PlainAt T) where
    abbrev Ticking : MasterOf D → List Message → Type 0
    Ticking m messages = AllByRecursion (λ (n : Message). RepliesSo (AtStep (step_of T) old a m) n.body) messages

    tick_done : (m after : MasterOf D) (turn : Told_turn) → old.nodes.master ≡ Standing m → new.nodes.master ≡ Standing after → after.state.fault ≡ m.state.fault → IsDone (tick m.state moment) turn.sent.items turn.said after.state → Known T → Says T turn.sent.items
    tick_done m after turn at is fault done known =
        subst (Says T) (sym done.sends)
        (of_turn T m at (stands_whole T m after (tick m.state moment) within (inl refl) plain at is fault (ap (λ (s : State). s.durable) done.after) (inl (sym (tick_records m at))) (λ has. (events_fit m.config m.state (TicksAt moment) tt has.steady.firm).fits))
        (tick m.state moment).sent (subst (Ticking m) (tick_said m at) (known m at)))

    as_ticks : (c : Bool) (m after : MasterOf D) (turn : Told_turn) → old.nodes.master ≡ Standing m → new.nodes.master ≡ Standing after → AnswersAs x.seen x.failures c (tick m.state moment) (pressed_all m.state moment) m turn after → Known T → Says T turn.sent.items
    as_ticks true m after turn at is (inl done) known = tick_done m after turn at is done.fault done.done known
    as_ticks true m after turn at is (inr (place, cut)) known = subst (Says T) (sym cut.cut.sends) tt
    as_ticks false m after turn at is (inl done) known = tick_done m after turn at is done.fault done.done known
    as_ticks false m after turn at is (inr (place, cut)) known = subst (Says T) (sym cut.cut.sends) tt

    lacking_ticks : (m after : MasterOf D) (turn : Told_turn) → old.nodes.master ≡ Standing m → new.nodes.master ≡ Standing after → is_failed m.state.fault ≡ false → MasterAnswers x.seen x.failures None (lacking (pressed_all m.state moment)) m (Ok turn) after → Known T → Says T turn.sent.items
    lacking_ticks m after turn at is sound (inl done) known =
        let written = tick_behind m.state moment sound in
        subst (Says T) (sym done.done.sends)
        (of_turn T m at
        (stands_whole T m after (lacking (pressed_all m.state moment)) within (inr refl) plain at is done.fault (ap (λ (s : State). s.durable) done.done.after)
        (subst (λ rs. IsAllBut rs (pressed_all m.state moment).records) (sym (tick_records m at)) written.records) (λ has. steps_fit m.state moment has.steady.firm))
        (pressed_all m.state moment).sent (first_all (λ (n : Message). RepliesSo (AtStep (step_of T) old a m) n.body) (pressed_all m.state moment).sent written.sent (subst (Ticking m) (tick_said m at ∙ written.says) (known m at))))
    lacking_ticks m after turn at is sound (inr (place, cut)) known = subst (Says T) (sym cut.cut.sends) tt

    ticks : (place : MasterPlace D) (turn : Told_turn) (next : MasterPlace D) → old.nodes.master ≡ place → new.nodes.master ≡ next → MasterTicks x.seen x.failures moment place (Ok turn) next → Known T → Says T turn.sent.items
    ticks (Standing m) turn next at is (after, next_is, inl whole) known = as_ticks (writes_one m.state (pressed_all m.state moment)) m after turn at (is ∙ next_is) whole known
    ticks (Standing m) turn next at is (after, next_is, inr (sound, is_due, none, answers)) known = lacking_ticks m after turn at (is ∙ next_is) sound answers known
    ticks (Closed first second) turn next at is meets known = subst (Says T) (sym meets.1) tt
    ticks Away turn next at is meets known = subst (Says T) (sym meets.1) tt

  -- ---- it is started again

  opens_said : (happening : Happening) (config : Config) (pair : D × D) (turn : Result Told_turn Refusal) (next : MasterPlace D) → Opens x.seen x.failures config pair turn next → Says happening (sent_by (told turn))
  opens_said happening config pair (Ok turn) next (after, is, opening, said) =
      subst (Says happening) (sym opening.sends) (none_said happening opening.turn.sent (recovered_none config (standing (x.seen pair.0) (x.seen pair.1)).0 opening.entries opening.log opening.turn opening.recovers))
  opens_said happening config pair (Err refusal) next why = tt

  reopens_said : (happening : Happening) (config : Config) (place : MasterPlace D) (turn : Result Told_turn Refusal) (next : MasterPlace D) → Reopens x.seen x.failures config place turn next → Says happening (sent_by (told turn))
  reopens_said happening config (Standing m) turn next opens = opens_said happening config (m.journal.first, m.journal.second) turn next opens
  reopens_said happening config (Closed first second) turn next opens = opens_said happening config (first, second) turn next opens
  reopens_said happening config Away turn next (same, refused) = subst (λ (r : Result Told_turn Refusal). Says happening (sent_by (told r))) (sym refused) tt

  -- ---- all that happens

  by_part : (happening : Happening) (outcome : Upshot) → HearsNamed moment happening old × HearsWithin happening old → PlainAt happening → Known happening → Part x.seen x.failures x.armed old moment happening outcome new.nodes → Says happening (sent_by outcome)
  by_part happening outcome within plain known (parts.Heard id message turn place it found to does tells same) =
      subst (λ h. Says h (sent_by outcome)) (sym it)
      (subst (Says (happenings.Deliver id)) (sym (ap sent_by tells))
      (hears id message found to ((subst (λ h. HearsNamed moment h old × HearsWithin h old) it within).0 message found to) (subst (λ h. HearsNamed moment h old × HearsWithin h old) it within) (subst PlainAt it plain) old.nodes.master turn place refl (ap (λ (n : Nodes D). n.master) same) does (subst Known it known)))
  by_part happening outcome within plain known (parts.Ticked turn place it does tells same) =
      subst (λ h. Says h (sent_by outcome)) (sym it) (subst (Says T) (sym (ap sent_by tells)) (ticks (subst (λ h. HearsNamed moment h old × HearsWithin h old) it within) (subst PlainAt it plain) old.nodes.master turn place refl (ap (λ (n : Nodes D). n.master) same) does (subst Known it known)))
  by_part happening outcome within plain known (parts.Opened turn place it does tells same) = subst (Says happening) (sym (ap sent_by tells)) (reopens_said happening old.nodes.config old.nodes.master turn place does)
  by_part happening outcome within plain known (parts.Armed disk call it none same) = subst (Says happening) (sym none) tt
  by_part happening outcome within plain known (parts.Served by clients master) = none_said happening (sent_by outcome) (servers_none (sent_by outcome) by)
  by_part happening outcome within plain known (parts.Asked req request n it there fresh sends same) = subst (Says happening) (sym sends) (none_said happening (messages_of _ request) (request_none _ request))
  by_part happening outcome within plain known (parts.Told id message client n it found there none same) = subst (Says happening) (sym none) tt
  by_part happening outcome within plain known (parts.Rested none same) = subst (Says happening) (sym none) tt

pub sent_plain : NewCallsDoAsAnswered → HaveSizes → AreNumbered → {D : Type 0} (x : Setup D) → EachIsOfAPrepare x → GivesSettledBack x → GivesNoOtherBack x → PutWereTold x → SentAreAsPlain x
sent_plain law sizes edits x of_prepare settled_back no_other were_told old new a b event said r moves h =
    by_part law x r.begins.given old new a b event.moment moves.told (λ m at. has_at x old a m law r at) event.happening h.outcome (step_within x r.begins.given (Comes event) old new (reached_well x old a r) moves.steps)
    (λ w. turn_there sizes edits x of_prepare settled_back no_other (Comes event) old new a b r moves were_told w) (λ m at. replies_plain law x old new a b (Comes event) m r moves at) (part_of x.seen x.failures x.armed old event.moment event.happening h.by h.outcome new.nodes h.at)
