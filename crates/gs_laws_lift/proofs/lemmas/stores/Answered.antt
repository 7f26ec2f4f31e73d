-- Each edit that a client is told is done is done in the machine of its chunk.
use Rattle.std.proofs.Common.{◌≡◌, ◌∙◌, ◌⊎◌, inl, inr, ◌+◌, ℕ, Bool, true, false, cond, List, [], ◌∷◌, Option, Some, None, refl, sym, ap, subst, slice_get}
use Rattle.std.specs.Prelude.{Result, Ok, Err, ◌==◌, nat_lt}
use Rattle.std.specs.FinMap as fin
use Rattle.std.specs.List.{AllByRecursion}
use Rattle.gs_base.specs.declared.config.Config.{Config}
use Rattle.gs_base.specs.declared.epoch.EpochEnd.{EpochEnd}
use Rattle.gs_base.specs.declared.numbers.Moment.{Moment}
use Rattle.gs_base.specs.declared.numbers.ReqId.{ReqId}
use Rattle.gs_base.specs.declared.numbers.Stamp.{Stamp}
use Rattle.gs_base.specs.declared.refusal.Refusal.{Refusal}
use Rattle.gs_base.specs.declared.refusal.Refusal.TheVariants as refusals
use Rattle.gs_replica.specs.declared.op.EditOutcome.{EditOutcome}
use Rattle.gs_msg.specs.declared.body.Body.{Body}
use Rattle.gs_msg.specs.declared.body.Body.TheVariants as bodies
use Rattle.gs_msg.specs.declared.chunk.Chunk.{Chunk}
use Rattle.gs_msg.specs.declared.chunk.Chunk.TheVariants as chunks
use Rattle.gs_msg.specs.declared.event.DiskId.{DiskId}
use Rattle.gs_msg.specs.declared.event.Request.TheVariants as requests
use Rattle.gs_msg.specs.declared.message.Message.{Message}
use Rattle.gs_msg.specs.declared.node.NodeId.{NodeId}
use Rattle.gs_msg.specs.declared.node.NodeId.TheVariants as nodes
use Rattle.gs_msg.specs.declared.op.Op.{Op}
use Rattle.gs_server_lease.specs.Leases.{PrimaryLease, is_over, reminds, tell}
use Rattle.gs_store.specs.Moves as moves
use Rattle.gs_store.specs.Slots.{Slot}
use Rattle.gs_store.specs.Stores as stores
use Rattle.gs_server.specs.Edits.{edit, new_edit, refused_once, unless_kept}
use Rattle.gs_server.specs.Places.{Here, Place, damaged_block, empty_place, other_epoch, tells_bad}
use Rattle.gs_server.specs.Promises.{copies, not_copied, or_copy}
use Rattle.gs_server.specs.Servers.{Server, about_chunk, handle_body, here_of, learned, leases_after, place_of, request_in, store_of, with_leases, with_store}
use Rattle.gs_server.specs.Servers as servers
use Rattle.gs_server.specs.declared.turn.KeptRefusal.{KeptRefusal}
use Rattle.gs_nodes.specs.declared.place.MasterPlace.{MasterPlace}
use Rattle.gs_world.specs.Histories.{History}
use Rattle.gs_laws_world.specs.lasting.Lasting.{failures_at}
use Rattle.gs_world.proofs.Sending.{sent_still}
use Rattle.gs_world.specs.Sent.{IsSent, Sent, none_sent}
use Rattle.gs_laws_chunk.specs.machine.Machine.{ChunkWorld}
use Rattle.gs_laws_chunk.specs.machine.Laws.{Birth}
use Rattle.gs_laws_parts.specs.server.Answering.{AnswersBody, AnswersOf, IsAnswered, NoYes, PassesHeard, handle_in}
use Rattle.gs_laws_parts.specs.server.Causes.{Calm, Cause, Edits, Strikes, cause_in, cause_of}
use Rattle.gs_laws_parts.specs.server.Requests.{Asked, IsOfOneEdit, bytes_in, named}
use Rattle.gs_laws_parts.specs.server.Showing.{Setting}
use Rattle.gs_laws_parts.specs.server.Unborn.{KeepsNothing}
use Rattle.gs_laws_parts.proofs.lemmas.server.Elsewhere.{NoYeses, chunk_says, quiet_sent, reminds_sent}
use Rattle.gs_laws_parts.proofs.lemmas.server.Lists.{all_flat}
use Rattle.gs_laws_parts.proofs.lemmas.server.Reading.{answered_on, passed_on}
use Rattle.gs_laws_lift.specs.stores.Saying.{AreOfClient, AreOfMaster, IsOfClient, IsOfMaster}
use Rattle.gs_world.specs.Runs.{StaySent, Step}
use Rattle.gs_laws_lift.specs.stores.Going.{AllSent, Beats, Damages, Hears, Kind, Loses, OfMaster, OfServer, Posts, Restarts, ServerGoes, Ticks, about_of, cause_at, heard_in}
use Rattle.gs_laws_lift.specs.stores.Going as going
use Rattle.gs_laws_lift.specs.stores.Joint.{AtMaster, AtServer, Elsewhere, GoesBy, heard_by}
use Rattle.gs_laws_lift.specs.stores.Living.{GoesOn}
use Rattle.gs_laws_lift.specs.stores.Showing.{IsAlive, Life, setting}
use Rattle.gs_laws_lift.specs.stores.Answers.{AnswersBegin, AnswersGoOn, DonesAreAnswered, HasDone, HasDoneBody, HasPassed, LivesOf}
use Rattle.gs_laws_lift.specs.stores.Waiting.{AllWaitAsked, AsksFor}
use Rattle.gs_laws_lift.proofs.lemmas.stores.AskingRuns.{does_say}
use Rattle.gs_laws_lift.proofs.lemmas.stores.Beginning.{begins_silent, none_of}
use Rattle.gs_laws_lift.proofs.lemmas.stores.Doing.{masters_do}
use Rattle.gs_laws_lift.proofs.lemmas.stores.Posting.{posted_all, posts_stay, sent_then}
use Rattle.gs_laws_lift.proofs.lemmas.stores.Waiting.{YesAsks, YesesAsk, waits_begin, yeses_asked}

-- ---- where no client is told so

bad_quiet : (h : Here) (slot : Slot) (o : Option ℕ) → NoYeses (tells_bad h slot o)
bad_quiet h slot None = tt
bad_quiet h slot (Some block) = (tt, tt)

copy_quiet : (h new : Here) (source target : Place) (stamp : Stamp) (o : Option Refusal) (m : Result Slot Refusal) → NoYeses (or_copy o (not_copied h source new stamp) (copies h source new target stamp m)).target.sent
copy_quiet h new source target stamp (Some e) m = (tt, bad_quiet h source.slot (damaged_block e))
copy_quiet h new source target stamp None (Err e) = (tt, bad_quiet h source.slot (damaged_block e))
copy_quiet h new source target stamp None (Ok s) = (tt, tt)

learn_quiet : (s : Server) (epoch : ℕ) (end : EpochEnd) → NoYeses (servers.learn s epoch end).sent
learn_quiet s epoch end = by_case (epoch == s.kept.epoch) (epoch == s.kept.epoch + 1)
  where
    by_case : (a b : Bool) → NoYeses (cond a (learned s epoch end s) (cond b (learned s epoch end (with_leases (leases_after end s.dropped.leases) (with_store (stores.learned epoch end (store_of s)) s)))
        (record { after = s; sent = tell s.me nodes.Master (bodies.Behind s.kept.epoch) ∷ []; said = Some (refusals.Epoch s.kept.epoch) }))).sent
    by_case true b = (tt, tt)
    by_case false true = (tt, tt)
    by_case false false = (tt, tt)

tick_quiet : (s : Server) (moment : Moment) → NoYeses (servers.tick s moment).sent
tick_quiet s moment = all_flat (λ (m : Message). NoYes m.body) (λ (e : ℕ × PrimaryLease). cond (is_over moment e.1) [] (reminds s.me e.0 e.1)) (fin.entries s.dropped.leases) (λ e there. by_case e (is_over moment e.1))
  where
    by_case : (e : ℕ × PrimaryLease) (b : Bool) → NoYeses (cond b [] (reminds s.me e.0 e.1))
    by_case e true = tt
    by_case e false = quiet_sent e.0 (reminds s.me e.0 e.1) (reminds_sent (here_of s moment e.0 None) false e.1 e.1.outbox)

-- a message about no chunk
body_quiet : (s : Server) (from : NodeId) (body : Body) (moment : Moment) → handle_in body ≡ None → NoYeses (handle_body s from body moment).sent
body_quiet s from (bodies.About handle said) moment none = absurd (cc)
body_quiet s from (bodies.MakeCopy handle at new_handle stamp) moment none =
    let h : Here = here_of s moment handle None in
    copy_quiet h (here_of s moment new_handle None) (place_of handle s) (place_of new_handle s) stamp (other_epoch h stamp.epoch) (moves.make_copy at stamp (place_of handle s).slot (place_of new_handle s).slot)
body_quiet s from (bodies.Epoch epoch end) moment none = learn_quiet s epoch end
body_quiet s from (bodies.Push req bytes) moment none = tt
body_quiet s from (bodies.Call req call) moment none = tt
body_quiet s from (bodies.Reply req result) moment none = tt
body_quiet s from (bodies.Done req result) moment none = tt
body_quiet s from (bodies.Bytes req result) moment none = tt
body_quiet s from (bodies.Report epoch replicas) moment none = tt
body_quiet s from (bodies.Learned epoch handles) moment none = tt
body_quiet s from (bodies.Behind epoch) moment none = tt

pub goes_quiet : (sent : Sent) (id : ℕ) (s after : Server) (messages : List Message) (goes : ServerGoes sent id s after messages) → about_of goes ≡ None → NoYeses messages
goes_quiet sent id s after messages (Hears message moment was to is sends) none = subst NoYeses (sym sends) (body_quiet s message.from message.body moment none)
goes_quiet sent id s after messages (Ticks moment is sends) none = subst NoYeses (sym sends) (tick_quiet s moment)
goes_quiet sent id s after messages (Beats is sends) none = subst NoYeses (sym sends) (tt, tt)
goes_quiet sent id s after messages (Restarts is sends) none = subst NoYeses (sym sends) tt
goes_quiet sent id s after messages (Loses handle is sends) none = subst NoYeses (sym sends) tt
goes_quiet sent id s after messages (Damages handle block is sends) none = subst NoYeses (sym sends) tt

-- ---- a message about a chunk of which nothing is kept

edit_quiet : (h : Here) (req : ReqId) (stamp : Stamp) (op : Op) → NoYeses (edit h empty_place req stamp op).sent
edit_quiet h req stamp op = by_kept h.refused
  where
    by_tests : (kept : KeptRefusal) (a b : Bool) → NoYeses (cond a (refused_once h req refusals.Old) (cond b (refused_once h req kept.refusal) (new_edit h empty_place req stamp op))).sent
    by_tests kept true b = (tt, tt)
    by_tests kept false true = (tt, tt)
    by_tests kept false false = (tt, tt)

    by_kept : (o : Option KeptRefusal) → NoYeses (unless_kept h req o (new_edit h empty_place req stamp op)).sent
    by_kept None = (tt, tt)
    by_kept (Some kept) = by_tests kept (nat_lt req.number kept.number) (req.number == kept.number)

ack_quiet : (h : Here) (from : NodeId) (stamp : Stamp) (count : ℕ) → NoYeses (about_chunk h empty_place from (chunks.Ack stamp count)).sent
ack_quiet h nodes.Master stamp count = tt
ack_quiet h (nodes.Client client) stamp count = tt
ack_quiet h (nodes.Server server) stamp count = tt

place_quiet : (h : Here) (from : NodeId) (said : Chunk) → NoYeses (about_chunk h empty_place from said).sent
place_quiet h from (chunks.Edit req stamp op) = edit_quiet h req stamp op
place_quiet h from (chunks.Ack stamp count) = ack_quiet h from stamp count
place_quiet h from said = quiet_sent h.handle (about_chunk h empty_place from said).sent (chunk_says h false empty_place from said (λ may. absurd (cc)))

about_quiet : (s : Server) (from : NodeId) (body : Body) (moment : Moment) (chunk : ℕ) → handle_in body ≡ Some chunk → KeepsNothing chunk s → NoYeses (handle_body s from body moment).sent
about_quiet s from (bodies.About handle said) moment chunk is nothing =
    let same : handle ≡ chunk = cc in
    let h : Here = here_of s moment handle (request_in said) in
    subst (λ p. NoYeses (about_chunk h p from said).sent) (sym (subst (λ k. place_of k s ≡ empty_place) (sym same) nothing)) (place_quiet h from said)
about_quiet s from body moment chunk is nothing = absurd (cc)

goes_nothing : (sent : Sent) (id : ℕ) (s after : Server) (messages : List Message) (goes : ServerGoes sent id s after messages) (chunk : ℕ) → about_of goes ≡ Some chunk → KeepsNothing chunk s → NoYeses messages
goes_nothing sent id s after messages (Hears message moment was to is sends) chunk about nothing = subst NoYeses (sym sends) (about_quiet s message.from message.body moment chunk about nothing)
goes_nothing sent id s after messages (Ticks moment is sends) chunk about nothing = absurd (cc)
goes_nothing sent id s after messages (Beats is sends) chunk about nothing = absurd (cc)
goes_nothing sent id s after messages (Restarts is sends) chunk about nothing = absurd (cc)
goes_nothing sent id s after messages (Loses handle is sends) chunk about nothing = absurd (cc)
goes_nothing sent id s after messages (Damages handle block is sends) chunk about nothing = absurd (cc)

-- ---- neither the master nor clients tell so

master_quiet : (body : Body) → IsOfMaster body → NoYes body
master_quiet (bodies.Done req result) of = absurd of
master_quiet body of = tt

pub of_master_quiet : (messages : List Message) → AreOfMaster messages → NoYeses messages
of_master_quiet [] of = tt
of_master_quiet (m ∷ messages) of = (master_quiet m.body of.0, of_master_quiet messages of.1)

client_quiet : (body : Body) → IsOfClient body → NoYes body
client_quiet (bodies.Done req result) of = absurd of
client_quiet body of = tt

pub of_client_quiet : (messages : List Message) → AreOfClient messages → NoYeses messages
of_client_quiet [] of = tt
of_client_quiet (m ∷ messages) of = (client_quiet m.body of.0, of_client_quiet messages of.1)

-- ---- the edit that is heard was asked for

-- of a client's edit that is heard, the request for it, and the message
record IsHeard (asked : ℕ → Asked) (sent : Sent) (chunk : ℕ) (under : Stamp) (req : ReqId) (op : Op) : Type 0 where
  members : List ℕ
  primary : ℕ
  bytes : List ℕ
  asks : named asked req ≡ Some (requests.Write chunk members primary under op bytes)
  message : Message
  was : IsSent message sent
  says : message.body ≡ bodies.About chunk (chunks.Edit req under op)

abbrev IsAskedBy : (ℕ → Asked) → Sent → ℕ → Cause → Type 0
IsAskedBy asked sent chunk (Edits under req op) = IsHeard asked sent chunk under req op
IsAskedBy asked sent chunk Strikes = Unit {0}
IsAskedBy asked sent chunk Calm = Unit {0}

said_asked : (asked : ℕ → Asked) (sent : Sent) (chunk : ℕ) (said : Chunk) → ((req : ReqId) (stamp : Stamp) (op : Op) → said ≡ chunks.Edit req stamp op → IsHeard asked sent chunk stamp req op) → IsAskedBy asked sent chunk (cause_of said)
said_asked asked sent chunk (chunks.Edit req stamp op) heard = heard req stamp op refl
said_asked asked sent chunk said heard = tt

goes_asked : (asked : ℕ → Asked) (chunk : ℕ) (sent : Sent) (id : ℕ) (s after : Server) (messages : List Message) → AllSent (IsOfOneEdit asked) sent → (goes : ServerGoes sent id s after messages) → about_of goes ≡ Some chunk → IsAskedBy asked sent chunk (cause_at chunk goes)
goes_asked asked chunk sent id s after messages one (Hears message moment was to is sends) about = by_body message.body (one was.0 message was.1) refl about
  where
    by_body : (body : Body) → IsOfOneEdit asked message → message.body ≡ body → handle_in body ≡ Some chunk → IsAskedBy asked sent chunk (cause_in chunk body)
    by_body (bodies.About handle said) heard body about = by_handle (chunk == handle)
      where
        same : handle ≡ chunk
        same = cc

        by_handle : (b : Bool) → IsAskedBy asked sent chunk (cond b (cause_of said) Calm)
        by_handle true = said_asked asked sent chunk said (λ req stamp op is.
            let says = body ∙ ap (bodies.About handle) is in
            let e = heard.edits handle req stamp op says in
            subst (λ k. IsHeard asked sent k stamp req op) same (record { members = e.0; primary = e.1; bytes = bytes_in asked req; asks = e.2; message = message; was = was; says = says }))
        by_handle false = tt
    by_body body heard is about = absurd (cc)
goes_asked asked chunk sent id s after messages one (Ticks moment is sends) about = absurd (cc)
goes_asked asked chunk sent id s after messages one (Beats is sends) about = absurd (cc)
goes_asked asked chunk sent id s after messages one (Restarts is sends) about = absurd (cc)
goes_asked asked chunk sent id s after messages one (Loses handle is sends) about = absurd (cc)
goes_asked asked chunk sent id s after messages one (Damages handle block is sends) about = absurd (cc)

heard_passed : (asked : ℕ → Asked) (chunk : ℕ) (old new : Sent) → StaySent old new → (c : Setting) (w : ChunkWorld) (cause : Cause) (req : ReqId) (outcome : EditOutcome) → IsAskedBy asked old chunk cause → PassesHeard cause c w req outcome → HasPassed asked chunk new c w req outcome
heard_passed asked chunk old new stays c w (Edits under other op) req outcome heard (same, passed) = record {
  members = heard.members;
  primary = heard.primary;
  under = under;
  op = op;
  bytes = heard.bytes;
  asks = ap (named asked) (sym same) ∙ heard.asks;
  message = heard.message;
  was = sent_still heard.message old new stays heard.was;
  says = heard.says ∙ ap (λ r. bodies.About chunk (chunks.Edit r under op)) same;
  passed = passed;
}
heard_passed asked chunk old new stays c w Strikes req outcome heard passes = absurd passes
heard_passed asked chunk old new stays c w Calm req outcome heard passes = absurd passes

-- ---- a step

module _ {D : Type 0} (seen : D → List ℕ) (config : Config) (bytes : ReqId → List ℕ) (step : Step) (hears : Option ℕ) (old new : History D) (stays : StaySent old.sent new.sent)
    (asked : ℕ → Asked) (before : LivesOf seen config bytes old) (behind : LivesOf seen config bytes new) (each : (chunk : ℕ) → GoesOn seen config bytes chunk step hears old new (before chunk) (behind chunk)) where
  abbrev IsDone : Message → Type 0
  IsDone m = HasDoneBody seen config bytes asked new behind m.body

  -- what was done is done still
  done_on : (chunk : ℕ) (req : ReqId) (outcome : EditOutcome) → HasDone seen config bytes asked chunk old (before chunk) req outcome → HasDone seen config bytes asked chunk new (behind chunk) req outcome
  done_on chunk req outcome has = by_lives (before chunk) (behind chunk) (each chunk) has
    where
      by_lives : (l : Life seen config bytes chunk old) (m : Life seen config bytes chunk new) → GoesOn seen config bytes chunk step hears old new l m → HasDone seen config bytes asked chunk old l req outcome → HasDone seen config bytes asked chunk new m req outcome
      by_lives (inl unborn) life goes has = absurd has
      by_lives (inr a) (inl unborn) goes has = absurd goes
      by_lives (inr a) (inr b) goes (me, is) = (
        me,
        subst (λ epoch. IsAnswered (setting config bytes epoch) b.world me req outcome ⊎ HasPassed asked chunk new.sent (setting config bytes epoch) b.world req outcome) (sym (ap (λ (x : Birth). x.epoch) goes.same))
            (elim is [
              | inl answered ↦ inl (answered_on (setting config bytes a.reached.0.epoch) a.world b.world a.reached goes.leads me req outcome answered)
              | inr has ↦ inr (record { members = has.members; primary = has.primary; under = has.under; op = has.op; bytes = has.bytes; asks = has.asks; message = has.message; was = sent_still has.message old.sent new.sent stays has.was; says = has.says; passed = passed_on (setting config bytes a.reached.0.epoch) a.world b.world a.reached goes.leads has.under req has.op outcome has.passed })
            ]),
      )

  old_done : (m : Message) → HasDoneBody seen config bytes asked old before m.body → IsDone m
  old_done m has = by_body m.body has
    where
      by_body : (body : Body) → HasDoneBody seen config bytes asked old before body → HasDoneBody seen config bytes asked new behind body
      by_body (bodies.Done req (Ok outcome)) (chunk, has, asks) = (chunk, done_on chunk req outcome has, asks)
      by_body body has = tt

  quiet_done : (messages : List Message) → NoYeses messages → AllByRecursion IsDone messages
  quiet_done [] none = tt
  quiet_done (m ∷ messages) none = (by_body m.body none.0, quiet_done messages none.1)
    where
      by_body : (body : Body) → NoYes body → HasDoneBody seen config bytes asked new behind body
      by_body (bodies.Done req (Ok outcome)) none = absurd none
      by_body body none = tt

  module _ (one : AllSent (IsOfOneEdit asked) old.sent) (waits : AllWaitAsked asked old) (answered : DonesAreAnswered seen config bytes asked old before) where
    first : AllSent IsDone old.sent
    first = sent_then (λ (m : Message). HasDoneBody seen config bytes asked old before m.body) IsDone old.sent old_done answered

    pub nothing_new : (by : NodeId) (messages : List Message) (moment : Moment) → Posts moment by messages old.sent new.sent → NoYeses messages → AllSent IsDone new.sent
    nothing_new by messages moment posted none = posted_all IsDone moment by messages old.sent new.sent posted first (quiet_done messages none)

    -- the machine of the chunk that a server hears about has done what it tells
    module _ (chunk : ℕ) (a : IsAlive seen config bytes chunk old) (b : IsAlive seen config bytes chunk new) (now : behind chunk ≡ inr b) (birth : b.reached.0 ≡ a.reached.0) where
      all_done : (cause : Cause) (v : ChunkWorld) (me : ℕ) (messages : List Message) → IsAskedBy asked old.sent chunk cause → b.world ≡ v → YesesAsk (AsksFor asked chunk) messages → AllByRecursion (AnswersOf cause (setting config bytes a.reached.0.epoch) chunk v me (Some chunk)) messages → AllByRecursion IsDone messages
      all_done cause v me [] heard is asks all = tt
      all_done cause v me (m ∷ messages) heard is asks all = (by_body m.body asks.0 (all.0.1 refl), all_done cause v me messages heard is asks.1 all.1)
        where
          by_body : (body : Body) → YesAsks (AsksFor asked chunk) body → AnswersBody cause (setting config bytes a.reached.0.epoch) v me body → HasDoneBody seen config bytes asked new behind body
          by_body (bodies.Done req (Ok outcome)) asks has = (
            chunk,
            subst (λ l. HasDone seen config bytes asked chunk new l req outcome) (sym now) (
              me,
              subst (λ epoch. IsAnswered (setting config bytes epoch) b.world me req outcome ⊎ HasPassed asked chunk new.sent (setting config bytes epoch) b.world req outcome) (sym (ap (λ (x : Birth). x.epoch) birth))
                  (subst (λ x. IsAnswered (setting config bytes a.reached.0.epoch) x me req outcome ⊎ HasPassed asked chunk new.sent (setting config bytes a.reached.0.epoch) x req outcome) (sym is)
                  (elim has [ inl answered ↦ inl answered | inr passes ↦ inr (heard_passed asked chunk old.sent new.sent stays (setting config bytes a.reached.0.epoch) v cause req outcome heard passes) ])),
            ),
            asks,
          )
          by_body body asks has = tt

      heard_done : (by : GoesBy seen config bytes a.reached.0.epoch chunk step old new a.world b.world) → heard_by seen config bytes a.reached.0.epoch chunk step old new a.world b.world by ≡ Some chunk → AllSent IsDone new.sent
      heard_done (AtServer by) about = posted_all IsDone by.moment (nodes.Server by.id) by.messages old.sent new.sent by.posted first
          (all_done (cause_at chunk by.goes) by.steps.world by.id by.messages (goes_asked asked chunk old.sent by.id by.server by.after by.messages one by.goes about) by.world (yeses_asked asked old.sent by.id by.server by.after by.messages by.goes chunk one (waits by.id by.server by.found) about) (subst (λ o. AllByRecursion (AnswersOf (cause_at chunk by.goes) (setting config bytes a.reached.0.epoch) chunk by.steps.world by.id o) by.messages) about by.steps.answers))
      heard_done (AtMaster by) about = absurd (cc)
      heard_done (Elsewhere still servers master by said moment are sent) about = absurd (cc)

    -- whatever a server hears about
    pub server_done : (id : ℕ) (s after : Server) (messages : List Message) (moment : Moment) (goes : ServerGoes old.sent id s after messages) → slice_get old.nodes.servers id ≡ Some s → Posts moment (nodes.Server id) messages old.sent new.sent
        → hears ≡ about_of goes → AllSent IsDone new.sent
    server_done id s after messages moment goes found posted same = by_about (about_of goes) refl
      where
        none_new : NoYeses messages → AllSent IsDone new.sent
        none_new none = nothing_new (nodes.Server id) messages moment posted none

        by_lives : (chunk : ℕ) → about_of goes ≡ Some chunk → (l : Life seen config bytes chunk old) (m : Life seen config bytes chunk new) → behind chunk ≡ m → GoesOn seen config bytes chunk step hears old new l m → AllSent IsDone new.sent
        by_lives chunk about (inl unborn) life now goes_so = none_new (goes_nothing old.sent id s after messages goes chunk about (unborn.servers id s found).0)
        by_lives chunk about (inr a) (inl unborn) now goes_so = absurd goes_so
        by_lives chunk about (inr a) (inr b) now goes_so = heard_done chunk a b now goes_so.same goes_so.by (goes_so.heard ∙ same ∙ about)

        by_about : (o : Option ℕ) → about_of goes ≡ o → AllSent IsDone new.sent
        by_about None none = none_new (goes_quiet old.sent id s after messages goes none)
        by_about (Some chunk) about = by_lives chunk about (before chunk) (behind chunk) refl (each chunk)

pub answers_go_on : {D : Type 0} (seen : D → List ℕ) (failures : D → ℕ) (armed : DiskId → ℕ → MasterPlace D → MasterPlace D) (config : Config) (bytes : ReqId → List ℕ) (asked : ℕ → Asked) → AnswersGoOn seen failures armed config bytes asked
answers_go_on seen failures armed config bytes asked step old new (OfServer id s after messages moment found goes met servers master posted) one waits lasts quiet before behind each answered =
    server_done seen config bytes step (about_of goes) old new (posts_stay moment (nodes.Server id) messages old.sent new.sent posted) asked before behind each one waits answered id s after messages moment goes found posted refl
answers_go_on seen failures armed config bytes asked step old new (OfMaster place messages moment goes servers master posted) one waits lasts quiet before behind each answered =
    nothing_new seen config bytes step None old new (posts_stay moment nodes.Master messages old.sent new.sent posted) asked before behind each one waits answered nodes.Master messages moment posted
    (of_master_quiet messages (does_say seen armed old.sent old.nodes.master place messages (masters_do seen failures armed old.nodes.config old.sent old.nodes.master place messages lasts (sym (ap (failures_at failures) master) ∙ quiet) goes)))
answers_go_on seen failures armed config bytes asked step old new (going.Elsewhere by messages moment are servers master posted) one waits lasts quiet before behind each answered =
    nothing_new seen config bytes step None old new (posts_stay moment by messages old.sent new.sent posted) asked before behind each one waits answered by messages moment posted (of_client_quiet messages are)

pub answers_begin : {D : Type 0} (seen : D → List ℕ) (failures : D → ℕ) (armed : DiskId → ℕ → MasterPlace D → MasterPlace D) (config : Config) (bytes : ReqId → List ℕ) (asked : ℕ → Asked) → AnswersBegin seen failures armed config bytes asked
answers_begin seen failures armed config bytes asked clients disks begun none begins = (
  waits_begin seen failures armed config clients disks begun (AsksFor asked) begins,
  λ lives. posted_all (λ (m : Message). HasDoneBody seen config bytes asked begun lives m.body) (record { 0 = 0 }) nodes.Master begins.turn.sent.items (none_sent config.servers clients) begun.sent (inl begins.sent)
      (none_of (λ (m : Message). HasDoneBody seen config bytes asked begun lives m.body) config.servers clients)
      (subst (AllByRecursion (λ (m : Message). HasDoneBody seen config bytes asked begun lives m.body)) (sym (begins_silent seen failures armed config clients disks begun none begins)) tt),
)
