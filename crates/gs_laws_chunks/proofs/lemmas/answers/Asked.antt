-- Of each reply in a store its client has asked: at each event.
use Rattle.std.proofs.Common.{if◌then◌else◌, ◌≡◌, ◌∙◌, ◌⊎◌, inl, inr, ◌+◌, ◌-◌, ◌<◌, ◌≤◌, ◌==◌, ◌++◌, ℕ, zero, suc, Bool, true, false, List, [], ◌∷◌, length, Option, Some, None, MatchOption, Result, Ok, Err, refl, sym, ap, subst, arith, nat_le, slice_get, slice_set}
use Rattle.std.specs.Prelude.{take}
use Rattle.std.specs.FinMap as fin
use Rattle.std.specs.List.{AllByRecursion}
use Rattle.std.proofs.lemmas.Bool.{false≢true}
use Rattle.std.proofs.lemmas.Bool.Decides.{nat_tests}
use Rattle.gs_base.specs.Members.{count_from}
use Rattle.gs_base.specs.declared.config.Config.{Config}
use Rattle.gs_base.specs.declared.epoch.EpochEnd.TheVariants as ends
use Rattle.gs_base.specs.declared.numbers.ClientId.{ClientId}
use Rattle.gs_base.specs.declared.numbers.Moment.{Moment}
use Rattle.gs_base.specs.declared.numbers.ReqId.{ReqId}
use Rattle.gs_base.specs.declared.refusal.Refusal.{Refusal}
use Rattle.gs_base.specs.declared.refusal.Refusal.TheVariants as refusals
use Rattle.gs_client.specs.Nodes.{Node, given_up, hears, messages_of, pushes, request_of, silent, takes, with_bytes}
use Rattle.gs_client.specs.declared.link.Reply.{Reply}
use Rattle.gs_journal.specs.Faults.{Failing}
use Rattle.gs_journal.specs.Records.{standing}
use Rattle.gs_journal.specs.declared.version.Version.{Version}
use Rattle.gs_journal.specs.declared.version.Version.TheVariants as versions
use Rattle.gs_master.specs.Masters.{MasterAnswers, MasterOf}
use Rattle.gs_master.specs.Ticking.{AnswersAs, AnswersTick, lacking, pressed_all, writes_one}
use Rattle.gs_master.specs.declared.turn.Turn.{Turn as Told_turn}
use Rattle.gs_msg.specs.declared.body.Body.{Body}
use Rattle.gs_msg.specs.declared.body.Body.TheVariants as bodies
use Rattle.gs_msg.specs.declared.event.DiskId.{DiskId}
use Rattle.gs_msg.specs.declared.event.DiskId.TheVariants as disks
use Rattle.gs_msg.specs.declared.event.Request.{Request}
use Rattle.gs_msg.specs.declared.event.Request.TheVariants as requests
use Rattle.gs_msg.specs.declared.event.Happening.{Happening}
use Rattle.gs_msg.specs.declared.message.Message.{Message}
use Rattle.gs_msg.specs.declared.node.NodeId.{NodeId}
use Rattle.gs_msg.specs.declared.node.NodeId.TheVariants as nodes
use Rattle.gs_master_record.specs.Plain.{Edited, PlainEntry, PlainReply, Said, Whole}
use Rattle.gs_master_spec.specs.Applied.{replayed}
use Rattle.gs_master_spec.specs.Durable.{Durable, start}
use Rattle.gs_master_spec.specs.Handling.{handle, restarted, tick}
use Rattle.gs_master_spec.specs.Outcomes.{IsCut, IsDone, caller_of, cut, unsure}
use Rattle.gs_master_spec.specs.Replies.{client_cmp}
use Rattle.gs_master_spec.specs.State.{Log, State, Turn, and_then}
use Rattle.gs_master_spec.specs.Volatile.{Volatile, is_pending}
use Rattle.gs_master_spec.specs.declared.reply.KeptReply.{KeptReply}
use Rattle.gs_laws_moves.specs.answers.Concerned.{AnswersOnly, IsConcerned, IsToldIn, Keeps, KeepsOn, OneTells, RepliesTo, TellsOf, TellsReply}
use Rattle.gs_laws_moves.proofs.lemmas.answers.Concerning.{messages_concerned, steps_concerned, ticks_concerned}
use Rattle.gs_laws_moves.proofs.lemmas.answers.Kept.{keeps_on, kept_told, none_kept}
use Rattle.gs_laws_moves.proofs.lemmas.answers.Plans.{volatile_still}
use Rattle.gs_nodes.specs.Happenings.{MasterHears, MasterTicks, Opens, Reopens, client_in, refusal_of_call}
use Rattle.gs_nodes.specs.Nodes.{Nodes, new_clients, with_master}
use Rattle.gs_nodes.specs.declared.place.MasterPlace.{MasterPlace}
use Rattle.gs_nodes.specs.declared.place.MasterPlace.TheVariants.{Standing, Closed, Away}
use Rattle.gs_laws_parts.proofs.lemmas.server.Elsewhere.{ByServer}
use Rattle.gs_laws_parts.specs.server.Answering.{IsByServer}
use Rattle.gs_world.specs.Histories.{History, Upshot, told}
use Rattle.gs_world.specs.Runs.{Comes, Goes, RunsTo, Step, Takes}
use Rattle.gs_world.specs.Sent.{Sent}
use Rattle.gs_base.specs.declared.epoch.EpochEnd.{EpochEnd}
use Rattle.gs_master_spec.specs.Applied.{records_behind}
use Rattle.gs_master_spec.specs.Durable.{is_rolling}
use Rattle.gs_master_spec.specs.Handling.{anew, answered_or, checkpoint_body, checkpoint_tests, recover, recovered_from, reopened, told_again, written_unless}
use Rattle.gs_master_spec.specs.State.{first_of, post, to_each}
use Rattle.gs_master_spec.specs.Upgrades.{tell_all}
use Rattle.gs_laws_world.proofs.lemmas.steady.Through.{reopens_as, step_on, tells_once, tells_some}
use Rattle.gs_laws_world.specs.steady.Through.{LastsThrough, TellsAt, TellsOn, TurnsAt}
use Rattle.std.proofs.lemmas.Grind.{common_steps}
use Rattle.std.proofs.lemmas.List.{length-append}
use Rattle.gs_msg.specs.declared.event.Happening.TheVariants as happenings
use Rattle.gs_msg.specs.declared.node.StoreNode.TheVariants as keepers
use Rattle.gs_master_spec.specs.State.{is_failed}
use Rattle.gs_world.proofs.Reaching.{HaveSizes}
use Rattle.gs_world.specs.Histories.{Tells, arms, failures_of, seen_of}
use Rattle.gs_laws_world.proofs.lemmas.steady.Keeping.{step_keeps, step_within}
use Rattle.gs_laws_world.proofs.lemmas.steady.Through.{arms_last, arms_tell, begins_through, sound_tells}
use Rattle.gs_laws_world.specs.steady.Saying.{IsStepWithin, KeepsTypes}
use Rattle.gs_laws_world.specs.steady.Through.{Turns}
use Rattle.gs_laws_lift.proofs.lemmas.stores.Beginning.{begins_none, begins_restarted}
use Rattle.gs_laws_lift.proofs.lemmas.stores.Posting.{posted_all, sent_then}
use Rattle.gs_laws_lift.specs.stores.Going.{AllSent, Posts}
use Rattle.gs_laws_chunks.specs.answers.Asked.{BeginsAsked, StaysAsked, StaysAskedUnarmed}
use Rattle.std.proofs.Common.{◌^◌}
use Rattle.gs_shell_desk.specs.Ways.{way_of}
use Rattle.gs_laws_world.proofs.lemmas.steady.Keeping.{begins_keeping}
use Rattle.gs_laws_chunks.specs.desks.Reached.{history}
use Rattle.gs_laws_world.specs.steady.Unarmed.{unarmed}
use Rattle.gs_laws_chunks.specs.answers.Asked.{ScriptsAsked, IsNumbered, AreAsked, HasAsked, KeepsOf, KeepsOfAt, SaysOf}
use Rattle.gs_laws_chunks.specs.answers.Answered.{sent_by}
use Rattle.gs_laws_chunks.proofs.lemmas.answers.Parts.{Armed, Asked, Heard, Opened, Part, Rested, Served, Ticked, Told, asking, hearing, part_of, with_client}

-- ---- what is said

module _ (P : ReqId → Type 0) where
  abbrev pub AllSaid : List Message → Type 0
  AllSaid messages = AllByRecursion (λ (m : Message). SaysOf P m.from m.body) messages

  reply_said : (Q : ReqId → Type 0) → ((req : ReqId) → Q req → P req) → (from : NodeId) (body : Body) → RepliesTo Q body → SaysOf P from body
  reply_said Q of from (bodies.Reply req result) is = of req is
  reply_said Q of from (bodies.Call req call) is = absurd is
  reply_said Q of from body is = tt

  replies_said : (Q : ReqId → Type 0) → ((req : ReqId) → Q req → P req) → (messages : List Message) → AllByRecursion (λ (m : Message). RepliesTo Q m.body) messages → AllSaid messages
  replies_said Q of [] all = tt
  replies_said Q of (m ∷ messages) all = (reply_said Q of m.from m.body all.0, replies_said Q of messages all.1)

  unsure_said : (caller : Option ReqId) → ((req : ReqId) → caller ≡ Some req → P req) → AllSaid (unsure caller)
  unsure_said None of = tt
  unsure_said (Some req) of = (of req refl, tt)

  refusal_said : (caller : Option ReqId) → ((req : ReqId) → caller ≡ Some req → P req) → AllSaid (refusal_of_call caller)
  refusal_said None of = tt
  refusal_said (Some req) of = (of req refl, tt)

  server_said : (from : NodeId) (body : Body) → IsByServer body → SaysOf P from body
  server_said from (bodies.Reply req result) by = absurd by
  server_said from (bodies.Call req call) by = absurd by
  server_said from body by = tt

  pub servers_said : (messages : List Message) → ByServer messages → AllSaid messages
  servers_said [] by = tt
  servers_said (m ∷ messages) by = (server_said m.from m.body by.0, servers_said messages by.1)

  pub pushes_said : (req : ReqId) (members bytes : List ℕ) → AllSaid (pushes req members bytes)
  pushes_said req [] bytes = tt
  pushes_said req (member ∷ members) bytes = (tt, pushes_said req members bytes)

  pub both_said : (xs ys : List Message) → AllSaid xs → AllSaid ys → AllSaid (xs ++ ys)
  both_said [] ys first second = second
  both_said (x ∷ xs) ys first second = (first.0, both_said xs ys first.1 second)

  pub request_said : (req : ReqId) (request : Request) → P req → AllSaid (messages_of req request)
  request_said req (requests.Call call) is = ((refl, is), tt)
  request_said req (requests.Write handle members primary stamp op bytes) is = both_said (pushes req (with_bytes members op) bytes) _ (pushes_said req (with_bytes members op) bytes) (tt, tt)
  request_said req (requests.Fetch to handle stamp epoch asked) is = (tt, tt)

  -- who calls
  pub caller_said : (from : NodeId) (body : Body) → SaysOf P from body → (req : ReqId) → caller_of body ≡ Some req → P req
  caller_said from (bodies.Call other call) said req is = subst P (some_is other req is) said.1
    where
      some_is : (a b : ReqId) → Some a ≡ Some b → a ≡ b
      some_is a b h = cc
  caller_said from (bodies.Reply other result) said req is = absurd cc
  caller_said from (bodies.About handle chunk) said req is = absurd cc
  caller_said from (bodies.Push other bytes) said req is = absurd cc
  caller_said from (bodies.Done other result) said req is = absurd cc
  caller_said from (bodies.Bytes other result) said req is = absurd cc
  caller_said from (bodies.MakeCopy handle at new_handle stamp) said req is = absurd cc
  caller_said from (bodies.Report epoch replicas) said req is = absurd cc
  caller_said from (bodies.Epoch epoch end) said req is = absurd cc
  caller_said from (bodies.Learned epoch handles) said req is = absurd cc
  caller_said from (bodies.Behind epoch) said req is = absurd cc

  -- ---- what is kept

  kept_further : (Q : ReqId → Type 0) → ((req : ReqId) → Q req → P req) → (old new : fin.FinMap client_cmp KeptReply) → KeepsOn Q old new → ((req : ReqId) → Keeps old req → P req) → (req : ReqId) → Keeps new req → P req
  kept_further Q of old new on before req k = by (keeps_on Q old new on req k)
    where
      by : Keeps old req ⊎ Q req → P req
      by (inl kept) = before req kept
      by (inr is) = of req is

  concerned_so : (s : State) (caller : Option ReqId) → KeepsOf P s → ((req : ReqId) → caller ≡ Some req → P req) → (req : ReqId) → IsConcerned s caller req → P req
  concerned_so s caller keeps calls req (inl is) = calls req is
  concerned_so s caller keeps calls req (inr waits) = keeps.waits req waits

  done_keeps : (s : State) (caller : Option ReqId) (t : Turn) → AnswersOnly (IsConcerned s caller) s t → KeepsOf P s → ((req : ReqId) → caller ≡ Some req → P req) → KeepsOf P t.after
  done_keeps s caller t only keeps calls = (let of = concerned_so s caller keeps calls in record {
    durable = kept_further (IsConcerned s caller) of s.durable.replies t.after.durable.replies only.durable keeps.durable;
    memory = kept_further (IsConcerned s caller) of s.volatile.replies t.after.volatile.replies only.memory keeps.memory;
    waits = λ req there. of req (only.waits req there);
  })

  pub cut_keeps : (s : State) (caller : Option ReqId) (t : Turn) (place : ℕ) → place < length t.records → AnswersOnly (IsConcerned s caller) s t → KeepsOf P s → ((req : ReqId) → caller ≡ Some req → P req) → KeepsOf P (cut s t.records place)
  cut_keeps s caller t place within only keeps calls = (let same = volatile_still (take place t.records) s in record {
    durable = kept_further (IsConcerned s caller) (concerned_so s caller keeps calls) s.durable.replies (cut s t.records place).durable.replies (only.cuts place within) keeps.durable;
    memory = λ req k. keeps.memory req (subst (λ (v : Volatile). Keeps v.replies req) same k);
    waits = λ req there. keeps.waits req (subst (λ (v : Volatile). is_pending v.pending req ≡ true) same there);
  })

-- ---- the master

one_told : (Q : ReqId → Type 0) (replies : List PlainReply) (req : ReqId) → AllByRecursion (λ (r : PlainReply). Q r.to) replies → IsToldIn replies req → Q req
one_told Q [] req all told = absurd told
one_told Q (r ∷ replies) req all (inl is) = subst Q is all.0
one_told Q (r ∷ replies) req all (inr told) = one_told Q replies req all.1 told

tells_so : (Q : ReqId → Type 0) (entry : PlainEntry) (req : ReqId) → TellsOf Q entry → TellsReply entry req → Q req
tells_so Q (Edited by edit) req (inl none) tells = absurd (false≢true (sym tells.0 ∙ none))
tells_so Q (Edited by edit) req (inr is) tells = subst Q tells.1 is
tells_so Q (Said to refusal) req is tells = subst Q tells is
tells_so Q (Whole c) req is tells = one_told Q c.replies req is tells
tells_so Q entry req is tells = absurd tells

one_tells : (Q : ReqId → Type 0) (entries : List PlainEntry) (req : ReqId) → AllByRecursion (TellsOf Q) entries → OneTells entries req → Q req
one_tells Q [] req all one = absurd one
one_tells Q (entry ∷ entries) req all (inl tells) = tells_so Q entry req all.0 tells
one_tells Q (entry ∷ entries) req all (inr one) = one_tells Q entries req all.1 one

some_tell : (Q : ReqId → Type 0) (many : ℕ) (entries : List PlainEntry) → AllByRecursion (TellsOf Q) entries → AllByRecursion (TellsOf Q) (take many entries)
some_tell Q zero entries all = tt
some_tell Q (suc many) [] all = tt
some_tell Q (suc many) (entry ∷ entries) all = (all.0, some_tell Q many entries all.1)

tells_further : (Q P : ReqId → Type 0) → ((req : ReqId) → Q req → P req) → (entry : PlainEntry) → TellsOf Q entry → TellsOf P entry
tells_further Q P more (Edited by edit) (inl none) = inl none
tells_further Q P more (Edited by edit) (inr is) = inr (more by is)
tells_further Q P more (Said to refusal) is = more to is
tells_further Q P more (Whole c) is = each c.replies is
  where
    each : (replies : List PlainReply) → AllByRecursion (λ (r : PlainReply). Q r.to) replies → AllByRecursion (λ (r : PlainReply). P r.to) replies
    each [] all = tt
    each (r ∷ replies) all = (more r.to all.0, each replies all.1)
tells_further Q P more entry is = tt

all_further : (Q P : ReqId → Type 0) → ((req : ReqId) → Q req → P req) → (entries : List PlainEntry) → AllByRecursion (TellsOf Q) entries → AllByRecursion (TellsOf P) entries
all_further Q P more [] all = tt
all_further Q P more (entry ∷ entries) all = (tells_further Q P more entry all.0, all_further Q P more entries all.1)

told_of : (P : ReqId → Type 0) (s : State) (caller : Option ReqId) (t : Turn) → AnswersOnly (IsConcerned s caller) s t → KeepsOf P s → ((req : ReqId) → caller ≡ Some req → P req) → AllByRecursion (TellsOf P) t.records
told_of P s caller t only keeps calls = all_further (λ req. Keeps s.durable.replies req ⊎ IsConcerned s caller req) P by t.records only.records
  where
    by : (req : ReqId) → Keeps s.durable.replies req ⊎ IsConcerned s caller req → P req
    by req (inl kept) = keeps.durable req kept
    by req (inr is) = concerned_so P s caller keeps calls req is

module _ {D : Type 0} (seen : D → List ℕ) (failures : D → ℕ) (P : ReqId → Type 0) where
  -- what a turn leaves, and sends
  abbrev Left : MasterPlace D → List Message → Type 0
  Left place messages = KeepsOfAt P place × AllSaid P messages

  done_left : (caller : Option ReqId) (t : Turn) (old new : MasterOf D) (turn : Told_turn) → AnswersOnly (IsConcerned old.state caller) old.state t → KeepsOf P old.state → ((req : ReqId) → caller ≡ Some req → P req)
      → IsDone t turn.sent.items turn.said new.state → Left (Standing new) turn.sent.items
  done_left caller t old new turn only keeps calls is = (
    subst (KeepsOf P) (sym is.after) (done_keeps P old.state caller t only keeps calls),
    subst (AllSaid P) (sym is.sends) (replies_said P (IsConcerned old.state caller) (concerned_so P old.state caller keeps calls) t.sent only.sent),
  )

  cut_left : (caller : Option ReqId) (t : Turn) (old new : MasterOf D) (turn : Told_turn) (place : ℕ) → AnswersOnly (IsConcerned old.state caller) old.state t → KeepsOf P old.state → ((req : ReqId) → caller ≡ Some req → P req)
      → IsCut old.state caller t place turn.sent.items turn.said new.state → Left (Standing new) turn.sent.items
  cut_left caller t old new turn place only keeps calls is = (
    subst (KeepsOf P) (sym is.after) (cut_keeps P old.state caller t place is.within only keeps calls),
    subst (AllSaid P) (sym is.sends) (unsure_said P caller calls),
  )

  answers_left : (caller : Option ReqId) (t : Turn) (old new : MasterOf D) (turn : Told_turn) → AnswersOnly (IsConcerned old.state caller) old.state t → KeepsOf P old.state → ((req : ReqId) → caller ≡ Some req → P req)
      → MasterAnswers seen failures caller t old (Ok turn) new → Left (Standing new) turn.sent.items
  answers_left caller t old new turn only keeps calls (inl is) = done_left caller t old new turn only keeps calls is.done
  answers_left caller t old new turn only keeps calls (inr (place, is)) = cut_left caller t old new turn place only keeps calls is.cut

  nobody_calls : (req : ReqId) → ◌≡◌ {A = Option ReqId} None (Some req) → P req
  nobody_calls req is = absurd cc

  as_left : (b : Bool) (t steps : Turn) (old new : MasterOf D) (turn : Told_turn) → AnswersOnly (IsConcerned old.state None) old.state t → KeepsOf P old.state → AnswersAs seen failures b t steps old turn new → Left (Standing new) turn.sent.items
  as_left true t steps old new turn only keeps (inl is) = done_left None t old new turn only keeps nobody_calls is.done
  as_left true t steps old new turn only keeps (inr (place, is)) = cut_left None t old new turn place only keeps nobody_calls is.cut
  as_left false t steps old new turn only keeps (inl is) = done_left None t old new turn only keeps nobody_calls is.done
  as_left false t steps old new turn only keeps (inr (place, is)) = cut_left None t old new turn place only keeps nobody_calls is.cut

  -- what it does before a checkpoint, where memory is wanting for that
  pub lacking_only : (s : State) (moment : Moment) → AnswersOnly (IsConcerned s None) s (lacking (pressed_all s moment))
  lacking_only s moment = (let only = steps_concerned s moment in record { sent = only.sent; records = only.records; durable = only.durable; memory = only.memory; waits = only.waits; still = only.still; rests = only.rests; cut_rests = only.cut_rests; cuts = only.cuts })

  tick_left : (moment : Moment) (old new : MasterOf D) (turn : Told_turn) → KeepsOf P old.state → AnswersTick seen failures moment old (Ok turn) new → Left (Standing new) turn.sent.items
  tick_left moment old new turn keeps (inl whole) = as_left (writes_one old.state (pressed_all old.state moment)) (tick old.state moment) (pressed_all old.state moment) old new turn (ticks_concerned old.state moment) keeps whole
  tick_left moment old new turn keeps (inr (sound, is_due, none, done)) = answers_left None (lacking (pressed_all old.state moment)) old new turn (lacking_only old.state moment) keeps nobody_calls done

  pub hears_left : (message : Message) (moment : Moment) (old new : MasterPlace D) (turn : Told_turn) → KeepsOfAt P old → ((req : ReqId) → caller_of message.body ≡ Some req → P req) → MasterHears seen failures message moment old (Ok turn) new → Left new turn.sent.items
  hears_left message moment (Standing m) new turn keeps calls (after, is, answers) =
      let left = answers_left (caller_of message.body) (handle m.config m.state message moment) m after turn (messages_concerned m.config m.state message moment) keeps calls answers in
      (subst (KeepsOfAt P) (sym is) left.0, left.1)
  hears_left message moment (Closed first second) new turn keeps calls meets = (subst (KeepsOfAt P) (sym meets.0) tt, subst (AllSaid P) (sym meets.1) (refusal_said P (caller_of message.body) calls))
  hears_left message moment Away new turn keeps calls meets = (subst (KeepsOfAt P) (sym meets.0) tt, subst (AllSaid P) (sym meets.1) (refusal_said P (caller_of message.body) calls))

  pub ticks_left : (moment : Moment) (old new : MasterPlace D) (turn : Told_turn) → KeepsOfAt P old → MasterTicks seen failures moment old (Ok turn) new → Left new turn.sent.items
  ticks_left moment (Standing m) new turn keeps (after, is, answers) = (let left = tick_left moment m after turn keeps answers in (subst (KeepsOfAt P) (sym is) left.0, left.1))
  ticks_left moment (Closed first second) new turn keeps meets = (subst (KeepsOfAt P) (sym meets.0) tt, subst (AllSaid P) (sym meets.1) tt)
  ticks_left moment Away new turn keeps meets = (subst (KeepsOfAt P) (sym meets.0) tt, subst (AllSaid P) (sym meets.1) tt)

  -- ---- a restart

  told_none : (config : Config) (epoch : ℕ) (end : EpochEnd) → AllSaid P (tell_all config epoch end)
  told_none config epoch end = each (count_from 0 config.servers)
    where
      each : (servers : List ℕ) → AllSaid P (to_each servers (λ server. post (nodes.Server server) (bodies.Epoch epoch end)))
      each [] = tt
      each (server ∷ servers) = (tt, each servers)

  again_said : (config : Config) (d : Durable) → AllSaid P (told_again config d)
  again_said config d = by_phase (is_rolling d.phase)
    where
      by_phase : (b : Bool) → AllSaid P (if b then tell_all config d.epoch ends.Rollback else [])
      by_phase true = told_none config d.epoch ends.Rollback
      by_phase false = tt

  anew_said : (version : Version) (s : State) → AllSaid P (anew version s).sent
  anew_said versions.One s = by_test (first_of (checkpoint_tests false false s.log (checkpoint_body s.durable)))
    where
      by_test : (refusal : Option Refusal) → AllSaid P (written_unless s refusal).sent
      by_test None = tt
      by_test (Some refusal) = tt
  anew_said versions.Two s = tt

  recovered_said : (config : Config) (version : Version) (entries : List PlainEntry) (log : Log) (t : Turn) → recover config version entries log ≡ Ok t → AllSaid P t.sent
  unfolding recover
  recovered_said config version entries log t is = by_durable (record log { records = records_behind entries }) (replayed start entries) is
    where
      ok_is : (x y : Turn) → ◌≡◌ {A = Result Turn Refusal} (Ok x) (Ok y) → x ≡ y
      ok_is x y h = cc

      never : (e : Refusal) (y : Turn) → ◌≡◌ {A = Result Turn Refusal} (Err e) (Ok y) → ⊥
      never e y h = cc

      by_said : (u : Turn) (said : Option Refusal) → AllSaid P u.sent → answered_or u said ≡ Ok t → AllSaid P t.sent
      by_said u None said h = subst (λ (x : Turn). AllSaid P x.sent) (ok_is u t h) said
      by_said u (Some e) said h = absurd (never e t h)

      by_durable : (l : Log) (o : Option Durable) → recovered_from config version l o ≡ Ok t → AllSaid P t.sent
      by_durable l None h = absurd (never refusals.BadLine t h)
      by_durable l (Some d) h =
          let first = anew version (restarted d l) in
          let u = and_then first (reopened config) in by_said u u.said (both_said P first.sent (reopened config first.after).sent (anew_said version (restarted d l)) (again_said config first.after.durable)) h

  opens_said : (config : Config) (pair : D × D) (turn : Result Told_turn Refusal) (new : MasterPlace D) → Opens seen failures config pair turn new → AllSaid P (sent_by (told turn))
  opens_said config pair (Ok turn) new (after, is, opening, said) = subst (AllSaid P) (sym opening.sends) (recovered_said config (standing (seen pair.0) (seen pair.1)).0 opening.entries opening.log opening.turn opening.recovers)
  opens_said config pair (Err refusal) new why = tt

  pub reopens_said : (config : Config) (old : MasterPlace D) (turn : Result Told_turn Refusal) (new : MasterPlace D) → Reopens seen failures config old turn new → AllSaid P (sent_by (told turn))
  reopens_said config (Standing m) turn new opens = opens_said config (m.journal.first, m.journal.second) turn new opens
  reopens_said config (Closed first second) turn new opens = opens_said config (first, second) turn new opens
  reopens_said config Away turn new (same, refused) = subst (λ (r : Result Told_turn Refusal). AllSaid P (sent_by (told r))) (sym refused) tt

  restarted_keeps : (d : Durable) (log : Log) → ((req : ReqId) → Keeps d.replies req → P req) → KeepsOf P (restarted d log)
  restarted_keeps d log kept = record { durable = kept; memory = λ req k. absurd (none_kept P req k); waits = λ req there. absurd (false≢true there) }

  unopened_keeps : (config : Config) (old : MasterPlace D) (e : Refusal) (new : MasterPlace D) → Reopens seen failures config old (Err e) new → KeepsOfAt P new
  unopened_keeps config (Standing m) e new (u, is, refused, why) = subst (KeepsOfAt P) (sym is) tt
  unopened_keeps config (Closed first second) e new (u, is, refused, why) = subst (KeepsOfAt P) (sym is) tt
  unopened_keeps config Away e new (same, refused) = subst (KeepsOfAt P) (sym same) tt

  pub opens_left : (config : Config) (old new : MasterPlace D) (d : Durable) (turn : Result Told_turn Refusal) → LastsThrough seen old → TellsAt seen old d → ((req : ReqId) → Keeps d.replies req → P req) → Reopens seen failures config old turn new → Left new (sent_by (told turn))
  opens_left config old new d turn lasts tells kept opens = (by_turn turn opens, reopens_said config old turn new opens)
    where
      by_turn : (turn : Result Told_turn Refusal) → Reopens seen failures config old turn new → KeepsOfAt P new
      by_turn (Ok t) opens =
          let opened = reopens_as seen failures config old d t new lasts tells opens in subst (KeepsOfAt P) (sym opened.1) (subst (KeepsOf P) (sym opened.2) (restarted_keeps d opened.0.state.log kept))
      by_turn (Err e) opens = unopened_keeps config old e new opens

-- ---- clients

set_found : (xs : List Node) (i j : ℕ) (n after node : Node) → slice_get xs i ≡ Some n → slice_get xs j ≡ Some node → n.last ≤ after.last → (x : Node) × (slice_get (slice_set xs i after) j ≡ Some x) × (node.last ≤ x.last)
set_found [] i j n after node is there up = absurd cc
set_found (y ∷ xs) zero zero n after node is there up = (after, refl, subst (λ (x : Node). x.last ≤ after.last) same up)
  where
    same : n ≡ node
    same = cc
set_found (y ∷ xs) zero (suc j) n after node is there up = (node, there, omega arith)
set_found (y ∷ xs) (suc i) zero n after node is there up = (node, there, omega arith)
set_found (y ∷ xs) (suc i) (suc j) n after node is there up = set_found xs i j n after node is there up

numbered : (nought : Bool) (found : Option Node) (n : Node) → (if nought then None else found) ≡ Some n → (nought ≡ false) × (found ≡ Some n)
numbered true found n is = absurd cc
numbered false found n is = (refl, is)

in_clients : (nought : Bool) (found : Option Node) (x : Node) → nought ≡ false → found ≡ Some x → (if nought then None else found) ≡ Some x
in_clients true found x not is = absurd cc
in_clients false found x not is = is

-- where one of them goes on, and none goes back, what was asked is so still
pub asked_further : (clients : List Node) (id : ClientId) (n after : Node) → client_in clients id ≡ Some n → n.last ≤ after.last → (req : ReqId) → HasAsked clients req → HasAsked (slice_set clients (id.0 - 1) after) req
asked_further clients id n after found up req has =
    let mine = numbered (id.0 == 0) (slice_get clients (id.0 - 1)) n found in
    let its = numbered (req.client.0 == 0) (slice_get clients (req.client.0 - 1)) has.node has.there in
    let x = set_found clients (id.0 - 1) (req.client.0 - 1) n after has.node mine.1 its.1 up in
    record { node = x.0; there = in_clients (req.client.0 == 0) (slice_get (slice_set clients (id.0 - 1) after) (req.client.0 - 1)) x.0 its.0 x.1; number = more req.number has.node.last x.0.last has.number x.2 }
  where
    more : (a b c : ℕ) → a ≤ b → b ≤ c → a ≤ c
    more a b c first second = omega arith

set_at : (xs : List Node) (i : ℕ) (n after : Node) → slice_get xs i ≡ Some n → slice_get (slice_set xs i after) i ≡ Some after
set_at [] i n after is = absurd cc
set_at (y ∷ xs) zero n after is = refl
set_at (y ∷ xs) (suc i) n after is = set_at xs i n after is

pub found_now : (clients : List Node) (id : ClientId) (n after : Node) → client_in clients id ≡ Some n → client_in (slice_set clients (id.0 - 1) after) id ≡ Some after
found_now clients id n after found =
    let mine = numbered (id.0 == 0) (slice_get clients (id.0 - 1)) n found in in_clients (id.0 == 0) (slice_get (slice_set clients (id.0 - 1) after) (id.0 - 1)) after mine.0 (set_at clients (id.0 - 1) n after mine.1)

-- who has asked has
pub asked_now : (clients : List Node) (id : ClientId) (n after : Node) (number : ℕ) → client_in clients id ≡ Some n → number ≤ after.last → HasAsked (slice_set clients (id.0 - 1) after) (record { client = id; number = number })
asked_now clients id n after number found below = record { node = after; there = found_now clients id n after found; number = below }

abbrev pub Numbered_all : List Node → Type 0
Numbered_all clients = (place : ℕ) (n : Node) → slice_get clients place ≡ Some n → IsNumbered place n

abbrev pub Waits : Node → Type 0
Waits n = (number : ℕ) → n.waiting ≡ Some number → number ≡ n.last

its_own : (a : ℕ) → (a == 0) ≡ false → (a - 1) + 1 ≡ a
its_own a is = grind (arith, nat_tests)

pub own_id : (clients : List Node) → Numbered_all clients → (id : ClientId) (n : Node) → client_in clients id ≡ Some n → n.id ≡ id
own_id clients all id n found =
    let mine = numbered (id.0 == 0) (slice_get clients (id.0 - 1)) n found in let same : n.id.0 ≡ id.0 = (all (id.0 - 1) n mine.1).id ∙ its_own id.0 mine.0 in (λ i. record { 0 = same i })

set_numbered : (xs : List Node) (i : ℕ) (n after : Node) (base : ℕ) → slice_get xs i ≡ Some n → after.id ≡ n.id → Waits after → ((place : ℕ) (x : Node) → slice_get xs place ≡ Some x → IsNumbered (base + place) x)
    → (place : ℕ) (x : Node) → slice_get (slice_set xs i after) place ≡ Some x → IsNumbered (base + place) x
set_numbered [] i n after base is own waits all place x there = absurd cc
set_numbered (y ∷ xs) zero n after base is own waits all zero x there =
    let same : after ≡ x = cc in subst (IsNumbered (base + 0)) same (record { id = ap (λ (c : ClientId). c.0) own ∙ (all zero n is).id; waits = waits })
set_numbered (y ∷ xs) zero n after base is own waits all (suc place) x there = all (suc place) x there
set_numbered (y ∷ xs) (suc i) n after base is own waits all zero x there = all zero x there
set_numbered (y ∷ xs) (suc i) n after base is own waits all (suc place) x there =
    subst (λ k. IsNumbered k x) (sym (moved base place)) (set_numbered xs i n after (base + 1) is own waits (λ p z at. subst (λ k. IsNumbered k z) (moved base p) (all (suc p) z at)) place x there)
  where
    moved : (a b : ℕ) → a + suc b ≡ a + 1 + b
    moved a b = omega arith

pub still_numbered : (clients : List Node) (id : ClientId) (n after : Node) → client_in clients id ≡ Some n → after.id ≡ n.id → (Waits n → Waits after) → Numbered_all clients → Numbered_all (slice_set clients (id.0 - 1) after)
still_numbered clients id n after found own waits all place x there =
    let mine = numbered (id.0 == 0) (slice_get clients (id.0 - 1)) n found in
    subst (λ k. IsNumbered k x) (sym (from_nought place))
    (set_numbered clients (id.0 - 1) n after 0 mine.1 own (waits (all (id.0 - 1) n mine.1).waits) (λ p z at. subst (λ k. IsNumbered k z) (from_nought p) (all p z at)) place x there)
  where
    from_nought : (a : ℕ) → a ≡ 0 + a
    from_nought a = omega arith

-- what a client hears leaves its number, and what it has asked
abbrev Same : Node → Node → Type 0
Same n after = (after.id ≡ n.id) × (after.last ≡ n.last) × (Waits n → Waits after)

takes_same : (req : ReqId) (reply : Reply) (n : Node) → Same n (takes req reply n)
takes_same req reply n = by_test _
  where
    by_test : (b : Bool) → Same n (if b then record { id = n.id; last = n.last; waiting = None; reply = Some reply } else n)
    by_test true = (refl, refl, λ waits number is. absurd (never is))
      where
        never : {k : ℕ} → ◌≡◌ {A = Option ℕ} None (Some k) → ⊥
        never is = cc
    by_test false = (refl, refl, λ waits. waits)

pub hearing_same : (body : Body) (n : Node) → Same n (hearing (hears body n) n)
hearing_same (bodies.Reply req result) n = takes_same req _ n
hearing_same (bodies.Done req result) n = takes_same req _ n
hearing_same (bodies.Bytes req result) n = takes_same req _ n
hearing_same (bodies.About handle said) n = (refl, refl, λ waits. waits)
hearing_same (bodies.Call req call) n = (refl, refl, λ waits. waits)
hearing_same (bodies.Push req bytes) n = (refl, refl, λ waits. waits)
hearing_same (bodies.MakeCopy handle at new_handle stamp) n = (refl, refl, λ waits. waits)
hearing_same (bodies.Report epoch replicas) n = (refl, refl, λ waits. waits)
hearing_same (bodies.Epoch epoch end) n = (refl, refl, λ waits. waits)
hearing_same (bodies.Learned epoch handles) n = (refl, refl, λ waits. waits)
hearing_same (bodies.Behind epoch) n = (refl, refl, λ waits. waits)

-- ---- an event

pub says_further : (P Q : ReqId → Type 0) → ((req : ReqId) → P req → Q req) → (from : NodeId) (body : Body) → SaysOf P from body → SaysOf Q from body
says_further P Q more from (bodies.Call req call) said = (said.0, more req said.1)
says_further P Q more from (bodies.Reply req result) said = more req said
says_further P Q more from body said = tt

pub keeps_further : {D : Type 0} (P Q : ReqId → Type 0) → ((req : ReqId) → P req → Q req) → (place : MasterPlace D) → KeepsOfAt P place → KeepsOfAt Q place
keeps_further P Q more (Standing m) keeps = record { durable = λ req k. more req (keeps.durable req k); memory = λ req k. more req (keeps.memory req k); waits = λ req there. more req (keeps.waits req there) }
keeps_further P Q more (Closed first second) keeps = tt
keeps_further P Q more Away keeps = tt

module _ {D : Type 0} (seen : D → List ℕ) (failures : D → ℕ) (armed : DiskId → ℕ → MasterPlace D → MasterPlace D) (arming : (P : ReqId → Type 0) (disk : DiskId) (call : ℕ) (place : MasterPlace D) → KeepsOfAt P place → KeepsOfAt P (armed disk call place)) where
  -- what an event leaves of clients and of the master, and sends
  pub record Leaves (old : History D) (outcome : Upshot) (new : Nodes D) : Type 0 where
    pub further : (req : ReqId) → HasAsked old.nodes.clients req → HasAsked new.clients req
    pub said : AllSaid (HasAsked new.clients) (sent_by outcome)
    pub master : KeepsOfAt (HasAsked new.clients) new.master
    pub numbered : Numbered_all new.clients

  module _ (old : History D) (are : AreAsked seen old) (lasts : LastsThrough seen old.nodes.master) (moment : Moment) (happening : Happening) (outcome : Upshot) where
    abbrev P : ReqId → Type 0
    P = HasAsked old.nodes.clients

    L : Nodes D → Type 0
    L new = Leaves old outcome new

    at_master : (place : MasterPlace D) (new : Nodes D) → new ≡ with_master place old.nodes → AllSaid P (sent_by outcome) → KeepsOfAt P place → Leaves old outcome new
    at_master place new same said keeps = subst (λ n. Leaves old outcome n) (sym same) (record { further = λ req has. has; said = said; master = keeps; numbered = are.numbered })

    at_client : (id : ClientId) (n after : Node) (new : Nodes D) → client_in old.nodes.clients id ≡ Some n → n.last ≤ after.last → after.id ≡ n.id → (Waits n → Waits after) → new ≡ with_client id after old.nodes
        → (((req : ReqId) → P req → HasAsked (slice_set old.nodes.clients (id.0 - 1) after) req) → AllSaid (HasAsked (slice_set old.nodes.clients (id.0 - 1) after)) (sent_by outcome)) → Leaves old outcome new
    at_client id n after new found up own waits same said =
        let more = asked_further old.nodes.clients id n after found up in
        subst (λ x. Leaves old outcome x) (sym same)
        (record { further = more; said = said more; master = keeps_further P (HasAsked (slice_set old.nodes.clients (id.0 - 1) after)) more old.nodes.master are.master; numbered = still_numbered old.nodes.clients id n after found own waits are.numbered })

    elsewhere : (new : Nodes D) → new.clients ≡ old.nodes.clients → new.master ≡ old.nodes.master → AllSaid P (sent_by outcome) → Leaves old outcome new
    elsewhere new clients master said = record {
      further = λ req has. subst (λ cs. HasAsked cs req) (sym clients) has;
      said = subst (λ cs. AllSaid (HasAsked cs) (sent_by outcome)) (sym clients) said;
      master = subst (λ cs. KeepsOfAt (HasAsked cs) new.master) (sym clients) (subst (KeepsOfAt P) (sym master) are.master);
      numbered = subst Numbered_all (sym clients) are.numbered;
    }

    none_said : (Q : ReqId → Type 0) → sent_by outcome ≡ [] → AllSaid Q (sent_by outcome)
    none_said Q none = subst (AllSaid Q) (sym none) tt

    told_said : (turn : Result Told_turn Refusal) → outcome ≡ told turn → AllSaid P (sent_by (told turn)) → AllSaid P (sent_by outcome)
    told_said turn is said = subst (λ o. AllSaid P (sent_by o)) (sym is) said

    above : (number last : ℕ) → nat_le number last ≡ false → last ≤ number
    above number last is = grind (arith, nat_tests)

    some_leaves : (new : Nodes D) → Part seen failures armed old moment happening outcome new → Leaves old outcome new
    some_leaves new (Heard id message turn place it was to hears is same) =
        let left = hears_left seen failures P message moment old.nodes.master place turn are.master (caller_said P message.from message.body (are.sent id message was)) hears in at_master place new same (told_said (Ok turn) is left.1) left.0
    some_leaves new (Ticked turn place it ticks is same) = (let left = ticks_left seen failures P moment old.nodes.master place turn are.master ticks in at_master place new same (told_said (Ok turn) is left.1) left.0)
    some_leaves new (Opened turn place it opens is same) =
        let d = tells_some seen failures old.nodes.master lasts in
        let left = opens_left seen failures P old.nodes.config old.nodes.master place d.0 turn lasts d.1 (are.told d.0 d.1) opens in at_master place new same (told_said turn is left.1) left.0
    some_leaves new (Armed disk call it none same) = at_master (armed disk call old.nodes.master) new same (none_said P none) (arming P disk call old.nodes.master are.master)
    some_leaves new (Served by clients master) = elsewhere new clients master (servers_said P (sent_by outcome) by)
    some_leaves new (Asked req request n it found number sends same) =
        at_client req.client n (asking n req.number) new found (above req.number n.last number) refl (λ waits k is. its_last is) same
        (λ more. subst (AllSaid _) (sym sends)
        (request_said (HasAsked (slice_set old.nodes.clients (req.client.0 - 1) (asking n req.number))) (request_of n req.number) request
        (subst (λ (id : ClientId). HasAsked (slice_set old.nodes.clients (req.client.0 - 1) (asking n req.number)) (record { client = id; number = req.number })) (sym (own_id old.nodes.clients are.numbered req.client n found))
        (asked_now old.nodes.clients req.client n (asking n req.number) req.number found (omega arith)))))
      where
        its_last : {a b : ℕ} → ◌≡◌ {A = Option ℕ} (Some a) (Some b) → b ≡ a
        its_last is = cc
    some_leaves new (Told id message client n it was found none same) =
        let kept = hearing_same message.body n in
        at_client client n (hearing (hears message.body n) n) new found (no_less n.last (hearing (hears message.body n) n).last kept.1) kept.0 kept.2 same (λ more. none_said _ none)
      where
        no_less : (a b : ℕ) → b ≡ a → a ≤ b
        no_less a b is = omega arith
    some_leaves new (Rested none same) = elsewhere new (ap (λ (n : Nodes D). n.clients) same) (ap (λ (n : Nodes D). n.master) same) (none_said P none)

  -- ---- what is told, and a step

  module _ (lasting : (disk : DiskId) (call : ℕ) (place : MasterPlace D) → LastsThrough seen place → LastsThrough seen (armed disk call place))
      (telling : (d : Durable) (disk : DiskId) (call : ℕ) (place : MasterPlace D) → TellsAt seen place d → TellsAt seen (armed disk call place) d) where
    -- each record of a turn is of what was asked
    turn_tells : (moment : Moment) (happening : Happening) (old : History D) (are : AreAsked seen old) (m : MasterOf D) (t : Turn) → old.nodes.master ≡ Standing m → Turns moment happening old m t → AllByRecursion (TellsOf (HasAsked old.nodes.clients)) t.records
    turn_tells moment (happenings.Deliver id) old are m t there (message, was, to, is) =
        subst (λ (u : Turn). AllByRecursion (TellsOf (HasAsked old.nodes.clients)) u.records) (sym is)
        (told_of (HasAsked old.nodes.clients) m.state (caller_of message.body) (handle m.config m.state message moment) (messages_concerned m.config m.state message moment) (subst (KeepsOfAt (HasAsked old.nodes.clients)) there are.master)
        (caller_said (HasAsked old.nodes.clients) message.from message.body (are.sent id message was)))
    turn_tells moment (happenings.Tick keepers.Master) old are m t there (inl is) =
        subst (λ (u : Turn). AllByRecursion (TellsOf (HasAsked old.nodes.clients)) u.records) (sym is)
        (told_of (HasAsked old.nodes.clients) m.state None (tick m.state moment) (ticks_concerned m.state moment) (subst (KeepsOfAt (HasAsked old.nodes.clients)) there are.master) (nobody_calls seen failures (HasAsked old.nodes.clients)))
    turn_tells moment (happenings.Tick keepers.Master) old are m t there (inr is) =
        subst (λ (u : Turn). AllByRecursion (TellsOf (HasAsked old.nodes.clients)) u.records) (sym is)
        (told_of (HasAsked old.nodes.clients) m.state None (lacking (pressed_all m.state moment)) (lacking_only seen failures (HasAsked old.nodes.clients) m.state moment) (subst (KeepsOfAt (HasAsked old.nodes.clients)) there are.master)
        (nobody_calls seen failures (HasAsked old.nodes.clients)))
    turn_tells moment (happenings.Tick (keepers.Server id)) old are m t there turns = absurd turns
    turn_tells moment (happenings.Ask req request) old are m t there turns = absurd turns
    turn_tells moment (happenings.Beat id) old are m t there turns = absurd turns
    turn_tells moment (happenings.Restart node) old are m t there turns = absurd turns
    turn_tells moment (happenings.Lose id handle) old are m t there turns = absurd turns
    turn_tells moment (happenings.Damage id handle block) old are m t there turns = absurd turns
    turn_tells moment (happenings.FailDisk disk call) old are m t there turns = absurd turns

    at_tells : (step : Step) (old : History D) (are : AreAsked seen old) (m : MasterOf D) (t : Turn) → old.nodes.master ≡ Standing m → TurnsAt step old m t → AllByRecursion (TellsOf (HasAsked old.nodes.clients)) t.records
    at_tells (Comes event) old are m t there turns = turn_tells event.moment event.happening old are m t there turns
    at_tells (Takes client) old are m t there turns = absurd turns

    -- what is told then was told, or a record of the turn tells it
    told_on : (step : Step) (old : History D) (d e : Durable) → AreAsked seen old → TellsAt seen old.nodes.master d → TellsOn (TurnsAt step old) old.nodes.master d e → (req : ReqId) → Keeps e.replies req → HasAsked old.nodes.clients req
    told_on step old d e are tells (inl same) req k = are.told d tells req (subst (λ (x : Durable). Keeps x.replies req) same k)
    told_on step old d e are tells (inr part) req k = by (kept_told (take part.many part.turn.records) d e req part.stand k)
      where
        by : Keeps d.replies req ⊎ OneTells (take part.many part.turn.records) req → HasAsked old.nodes.clients req
        by (inl kept) = are.told d tells req kept
        by (inr one) =
            one_tells (HasAsked old.nodes.clients) (take part.many part.turn.records) req (some_tell (HasAsked old.nodes.clients) part.many part.turn.records (at_tells step old are part.master part.turn part.place part.made)) one

    tells_new : (step : Step) (old new : History D) → Goes seen failures armed step old new → IsStepWithin step → KeepsTypes old → LastsThrough seen old.nodes.master → AreAsked seen old → (f : Durable) → TellsAt seen new.nodes.master f → (req : ReqId) → Keeps f.replies req → HasAsked old.nodes.clients req
    tells_new step old new goes within keeps lasts are f told req k =
        let d = tells_some seen failures old.nodes.master lasts in
        let on = step_on seen failures armed lasting telling step old new d.0 goes (step_within seen failures armed step old within keeps) lasts d.1 in
        told_on step old d.0 on.durable are d.1 on.on req (subst (λ (x : Durable). Keeps x.replies req) (tells_once seen failures new.nodes.master f on.durable told on.tells) k)

    posts : (moment : Moment) (by : NodeId) (outcome : Upshot) (old : Sent) (result : Result (Unit {0}) Refusal) (new : Sent) → Tells seen failures armed moment by outcome old result new → Posts moment by (sent_by outcome) old new
    posts moment by (Ok (messages, said)) old result new (posted, is) = inl posted
    posts moment by (Err refusal) old result new (same, is) = inr same

    abbrev Of : List Node → Message → Type 0
    Of clients m = SaysOf (HasAsked clients) m.from m.body

    pub step_asked : (step : Step) (old new : History D) → Goes seen failures armed step old new → IsStepWithin step → KeepsTypes old → LastsThrough seen old.nodes.master → AreAsked seen old → AreAsked seen new
    step_asked (Comes event) old new (said, h) within keeps lasts are =
        let part = part_of seen failures armed old event.moment event.happening h.by h.outcome new.nodes h.at in
        let leaves = some_leaves old are lasts event.moment event.happening h.outcome new.nodes part in record {
          sent = posted_all (Of new.nodes.clients) event.moment h.by (sent_by h.outcome) old.sent new.sent (posts event.moment h.by h.outcome old.sent said new.sent h.tells)
              (sent_then (Of old.nodes.clients) (Of new.nodes.clients) old.sent (λ m was. says_further (HasAsked old.nodes.clients) (HasAsked new.nodes.clients) leaves.further m.from m.body was) are.sent) leaves.said;
          master = leaves.master;
          told = λ f told req k. leaves.further req (tells_new (Comes event) old new (said, h) within keeps lasts are f told req k);
          numbered = leaves.numbered;
        }
    step_asked (Takes client) old new (found, takes, same) within keeps lasts are = by_client (client_in old.nodes.clients client) refl takes
      where
        left : (more : (req : ReqId) → HasAsked old.nodes.clients req → HasAsked new.nodes.clients req) → new.nodes.master ≡ old.nodes.master → Numbered_all new.nodes.clients → AreAsked seen new
        left more master numbered = record {
          sent = subst (AllSent (Of new.nodes.clients)) (sym same) (sent_then (Of old.nodes.clients) (Of new.nodes.clients) old.sent (λ m was. says_further (HasAsked old.nodes.clients) (HasAsked new.nodes.clients) more m.from m.body was) are.sent);
          master = subst (KeepsOfAt (HasAsked new.nodes.clients)) (sym master) (keeps_further (HasAsked old.nodes.clients) (HasAsked new.nodes.clients) more old.nodes.master are.master);
          told = λ f told req k. more req (tells_new (Takes client) old new (found, takes, same) within keeps lasts are f told req k);
          numbered = numbered;
        }

        by_client : (o : Option Node) → client_in old.nodes.clients client ≡ o
            → MatchOption o ((new.nodes ≡ old.nodes) × (found ≡ None)) (λ n. (after : Node) × (new.nodes ≡ with_client client after old.nodes) × ((found ≡ n.reply) × (after ≡ given_up n))) → AreAsked seen new
        by_client None was (still, none) =
            let clients = ap (λ (n : Nodes D). n.clients) still in left (λ req has. subst (λ cs. HasAsked cs req) (sym clients) has) (ap (λ (n : Nodes D). n.master) still) (subst Numbered_all (sym clients) are.numbered)
        by_client (Some n) was (after, there, did) =
            let clients = ap (λ (x : Nodes D). x.clients) there in
            let last : n.last ≤ after.last = no_less n.last after.last (ap (λ (x : Node). x.last) did.1) in
            left (λ req has. subst (λ cs. HasAsked cs req) (sym clients) (asked_further old.nodes.clients client n after was last req has)) (ap (λ (x : Nodes D). x.master) there)
            (subst Numbered_all (sym clients) (still_numbered old.nodes.clients client n after was (ap (λ (x : Node). x.id) did.1) (λ waits. subst Waits (sym did.1) waits) are.numbered))
          where
            no_less : (a b : ℕ) → b ≡ a → a ≤ b
            no_less a b is = omega arith

    pub run_asked : (steps : List Step) (old new : History D) → RunsTo seen failures armed steps old new → AllByRecursion IsStepWithin steps → KeepsTypes old → LastsThrough seen old.nodes.master → AreAsked seen old → AreAsked seen new
    run_asked [] old new same within keeps lasts are = subst (AreAsked seen) (sym same) are
    run_asked (step ∷ steps) old new (mid, goes, rest) within keeps lasts are =
        let d = tells_some seen failures old.nodes.master lasts in
        let on = step_on seen failures armed lasting telling step old mid d.0 goes (step_within seen failures armed step old within.0 keeps) lasts d.1 in
        run_asked steps mid new rest within.1 (step_keeps seen failures armed step old mid goes within.0 keeps) on.lasts (step_asked step old mid goes within.0 keeps lasts are)

-- ---- a new store

pub one_or_last : {A : Type 0} (xs : List A) (x : A) (place : ℕ) (y : A) → slice_get (xs ++ x ∷ []) place ≡ Some y → (slice_get xs place ≡ Some y) ⊎ ((place ≡ length xs) × (y ≡ x))
one_or_last [] x zero y is = inr (refl, cc)
one_or_last [] x (suc place) y is = absurd cc
one_or_last (z ∷ xs) x zero y is = inl is
one_or_last (z ∷ xs) x (suc place) y is = by (one_or_last xs x place y is)
  where
    by : (slice_get xs place ≡ Some y) ⊎ ((place ≡ length xs) × (y ≡ x)) → (slice_get xs place ≡ Some y) ⊎ ((suc place ≡ length (z ∷ xs)) × (y ≡ x))
    by (inl before) = inl before
    by (inr last) = inr (ap suc last.0, last.1)

new_many : (many : ℕ) → length (new_clients many) ≡ many
new_many zero = refl
new_many (suc many) = (let long = length-append (new_clients many) (silent (record { 0 = many + 1 }) ∷ []) in let before = new_many many in grind (arith, common_steps))

pub new_numbered : (many : ℕ) → Numbered_all (new_clients many)
new_numbered zero place n is = absurd cc
new_numbered (suc many) place n is = by (one_or_last (new_clients many) (silent (record { 0 = many + 1 })) place n is) (new_numbered many place n)
  where
    never : {k : ℕ} → ◌≡◌ {A = Option ℕ} None (Some k) → ⊥
    never is = cc

    by : (slice_get (new_clients many) place ≡ Some n) ⊎ ((place ≡ length (new_clients many)) × (n ≡ silent (record { 0 = many + 1 }))) → (slice_get (new_clients many) place ≡ Some n → IsNumbered place n) → IsNumbered place n
    by (inl before) earlier = earlier before
    by (inr last) earlier = record { id = ap (λ (x : Node). x.id.0) last.1 ∙ ap (λ k. k + 1) (sym (last.0 ∙ new_many many)); waits = λ number is. absurd (never (sym (ap (λ (x : Node). x.waiting) last.1) ∙ is)) }

nothing_kept : (P : ReqId → Type 0) (log : Log) → KeepsOf P (restarted start log)
nothing_kept P log = record { durable = λ req k. absurd (none_kept P req k); memory = λ req k. absurd (none_kept P req k); waits = λ req there. absurd (false≢true there) }

pub begins_asked : HaveSizes → {D : Type 0} (seen : D → List ℕ) → BeginsAsked seen
begins_asked sizes {D} seen failures armed config clients pair new none begun =
    let found = begins_restarted seen failures armed config clients pair new none begun in record {
      sent = begins_none seen failures armed sizes config (λ req. []) clients pair new none begun (λ (m : Message). SaysOf (HasAsked new.nodes.clients) m.from m.body);
      master = subst (KeepsOfAt (HasAsked new.nodes.clients)) (sym found.2) (subst (KeepsOf (HasAsked new.nodes.clients)) (sym found.3) (nothing_kept (HasAsked new.nodes.clients) found.0));
      told = λ d tells req k. absurd (none_told found.1 found.0 found.2 found.3 d tells req k);
      numbered = subst (λ (n : Nodes D). Numbered_all n.clients) (sym begun.nodes) (new_numbered clients);
    }
  where
    lasts : LastsThrough seen new.nodes.master
    lasts = begins_through seen failures armed config clients pair new none begun

    none_told : (m : MasterOf D) (log : Log) → new.nodes.master ≡ Standing m → m.state ≡ restarted start log → (d : Durable) → TellsAt seen new.nodes.master d → (req : ReqId) → Keeps d.replies req → ⊥
    none_told m log there is d tells req k =
        let sound = sound_tells seen failures m (ap (λ (s : State). is_failed s.fault) is) (subst (LastsThrough seen) there lasts) in
        let same : d ≡ m.state.durable = tells_once seen failures (Standing m) d m.state.durable (subst (λ p. TellsAt seen p d) there tells) sound in
        none_kept (λ r. ⊥) req (subst (λ (x : Durable). Keeps x.replies req) (same ∙ ap (λ (s : State). s.durable) is) k)

-- ---- where failures of disks are arranged, and where none are

pub stays_asked : {D : Type 0} → StaysAsked D
stays_asked {D} seen failures steps old new runs within keeps lasts are = run_asked (seen_of seen) (failures_of failures) arms arming (arms_last seen) (arms_tell seen) steps old new runs within keeps lasts are
  where
    arming : (P : ReqId → Type 0) (disk : DiskId) (call : ℕ) (place : MasterPlace (Failing D)) → KeepsOfAt P place → KeepsOfAt P (arms disk call place)
    arming P disks.First call (Standing m) keeps = keeps
    arming P disks.First call (Closed first second) keeps = tt
    arming P disks.First call Away keeps = tt
    arming P disks.Second call (Standing m) keeps = keeps
    arming P disks.Second call (Closed first second) keeps = tt
    arming P disks.Second call Away keeps = tt

pub stays_unarmed : {D : Type 0} → StaysAskedUnarmed D
stays_unarmed {D} seen failures armed steps old new leaves runs within keeps lasts are =
    run_asked seen failures armed (λ P disk call place kept. subst (KeepsOfAt P) (sym (leaves disk call place)) kept) (λ disk call place lasts. subst (LastsThrough seen) (sym (leaves disk call place)) lasts)
    (λ d disk call place tells. subst (λ p. TellsAt seen p d) (sym (leaves disk call place)) tells) steps old new runs within keeps lasts are

-- what a script leaves is such a store behind such a run
one_client : 1 < 2 ^ 32
one_client = omega arith

pub scripts_asked : HaveSizes → {D : Type 0} → ScriptsAsked D
scripts_asked sizes {D} seen failures config disks desk r none =
    let began = r.reached.begins in
    stays_unarmed seen failures unarmed r.reached.steps r.reached.begun (history r.sent (way_of desk.wire)) (λ disk call place. refl) r.reached.runs r.within (begins_keeping seen failures unarmed config 1 disks r.reached.begun one_client began)
    (begins_through seen failures unarmed config 1 disks r.reached.begun none began) (begins_asked sizes seen failures unarmed config 1 disks r.reached.begun none began)
