-- For whom servers work, at each event and over runs. So what a client has as its reply to a call is the master's.
use Rattle.std.proofs.Common.{if◌then◌else◌, ◌≡◌, ◌∙◌, ◌⊎◌, inl, inr, ◌-◌, ◌<◌, ◌≤◌, ◌==◌, ◌++◌, ◌^◌, ℕ, Bool, true, false, List, [], ◌∷◌, Option, Some, None, MatchOption, Result, Ok, Err, refl, sym, ap, subst, arith, nat_le, slice_set}
use Rattle.std.specs.List.{AllByRecursion}
use Rattle.std.specs.Prelude.{nat_lt}
use Rattle.std.specs.FinMap as fin
use Rattle.std.proofs.lemmas.Bool.{false≢true}
use Rattle.std.proofs.lemmas.Bool.Decides.{nat_tests}
use Rattle.gs_base.specs.declared.numbers.ClientId.{ClientId}
use Rattle.gs_base.specs.declared.numbers.Moment.{Moment}
use Rattle.gs_base.specs.declared.numbers.ReqId.{ReqId}
use Rattle.gs_base.specs.declared.refusal.Refusal.{Refusal}
use Rattle.gs_client.specs.Nodes.{Node, answered, given_up, hears, messages_of, pushes, request_of, with_bytes}
use Rattle.gs_client.specs.declared.link.Reply.{Reply}
use Rattle.gs_client.specs.declared.link.Reply.TheVariants as replies
use Rattle.gs_laws_chunks.proofs.lemmas.accounts.Giving.{GivesOr, IsFetchOf, handled_tells, ticks_give}
use Rattle.gs_laws_chunks.proofs.lemmas.accounts.Well.{lasts_left}
use Rattle.gs_laws_chunks.proofs.lemmas.answers.Answered.{RefusesIf, asked_follows, says_are_made}
use Rattle.gs_laws_chunks.proofs.lemmas.answers.Asked.{asked_further, asked_now, begins_asked, hearing_same, own_id, step_asked}
use Rattle.gs_laws_chunks.proofs.lemmas.answers.Parts.{Armed, Asked, Heard, Opened, Part, Rested, Served, Ticked, Told, asking, hearing, part_of, with_client}
use Rattle.gs_laws_chunks.proofs.lemmas.answers.Replied.{run_replied}
use Rattle.gs_laws_chunks.proofs.lemmas.answers.Sparing.{AllSpare, asked_spared, lasts_spared}
use Rattle.gs_laws_chunks.proofs.lemmas.calls.Arming.{unarmed_alone}
use Rattle.gs_laws_chunks.proofs.lemmas.calls.Runs.{arming, posts}
use Rattle.gs_laws_chunks.specs.answers.Alone.{IsAnsweredAlone, LoneCallsAreForTheMaster, LoneRefusalsAreMade}
use Rattle.gs_laws_chunks.specs.answers.Answered.{AsksFresh, Passes, sent_by, spares_master}
use Rattle.gs_laws_chunks.specs.answers.Asked.{AreAsked, HasAsked, KeepsOf, KeepsOfAt}
use Rattle.gs_laws_chunks.specs.answers.Behind.{asks_call}
use Rattle.gs_laws_chunks.specs.answers.Replied.{SaysReply, WasReplied}
use Rattle.gs_laws_chunks.specs.answers.Served.{AreServed, BeginsServed, CallsAreForTheMaster, IsOfServer, IsUnjudged, RefusalsAreMade, ScriptsServed, ServesOf, StaysServed}
use Rattle.gs_laws_chunks.specs.calls.Asked.{ArmsAlone}
use Rattle.gs_laws_chunks.specs.desks.Reached.{history}
use Rattle.gs_laws_lift.proofs.lemmas.stores.Answered.{goes_quiet}
use Rattle.gs_laws_lift.proofs.lemmas.stores.AskingServers.{handled_by, tick_by}
use Rattle.gs_laws_lift.proofs.lemmas.stores.Beginning.{begins_none}
use Rattle.gs_laws_lift.proofs.lemmas.stores.DoingAll.{masters_do_all}
use Rattle.gs_laws_lift.proofs.lemmas.stores.Placing.{kind_of}
use Rattle.gs_laws_lift.proofs.lemmas.stores.Posting.{posted_all, sent_then}
use Rattle.gs_laws_lift.proofs.lemmas.stores.TellingAll.{does_all_say}
use Rattle.gs_laws_lift.proofs.lemmas.stores.Waiting.{HeardAsked, YesAsks, YesesAsk, none_yes, waits_begin, waits_go, yeses_for}
use Rattle.gs_laws_lift.specs.stores.Going.{AllSent, Beats, Damages, Elsewhere, Hears, Kind, Loses, MasterGoes, MasterHeard, MasterOpened, MasterTicked, OfMaster, OfServer, Posts, Restarts, ServerGoes, Ticks, about_of}
use Rattle.gs_laws_lift.specs.stores.Left.{as_left}
use Rattle.gs_laws_lift.specs.stores.Waiting.{AllWaitFor, OutboxAsks, WaitsFor}
use Rattle.gs_laws_lift.specs.stores.Saying.{AreOfClient, AreOfMaster, IsOfClient, IsOfMaster}
use Rattle.gs_laws_moves.proofs.lemmas.answers.AtOnce.{at_once}
use Rattle.gs_laws_moves.specs.answers.Concerned.{answered_by}
use Rattle.gs_master.specs.Masters.{MasterOf}
use Rattle.gs_master_spec.specs.Handling.{Again, New, Numbered, Older, numbered}
use Rattle.gs_master_spec.specs.Replies.{later}
use Rattle.gs_master_spec.specs.State.{State, last_reply}
use Rattle.gs_master_spec.specs.declared.reply.KeptReply.{KeptReply}
use Rattle.gs_laws_parts.proofs.lemmas.server.Elsewhere.{ByServer}
use Rattle.gs_laws_parts.specs.server.Answering.{IsByServer}
use Rattle.gs_laws_server.proofs.lemmas.refusals.Telling.{quiet_ticks, tells_refusals}
use Rattle.gs_laws_server.specs.refusals.Refused.{Only, TellsOwn}
use Rattle.gs_laws_world.proofs.lemmas.steady.Keeping.{begins_keeping, step_keeps, step_within}
use Rattle.gs_laws_world.proofs.lemmas.steady.Through.{begins_through, step_on, tells_some}
use Rattle.gs_laws_world.specs.lasting.Lasting.{HearsNamed, Lasts, StepNamed}
use Rattle.gs_laws_world.specs.steady.Asking.{asks_at}
use Rattle.gs_laws_world.specs.steady.Saying.{IsStepWithin, KeepsTypes, MayBeHeard, MayBeSaid}
use Rattle.gs_laws_world.specs.steady.Through.{LastsThrough}
use Rattle.gs_laws_world.specs.steady.Unarmed.{unarmed}
use Rattle.gs_msg.specs.declared.answer.Answer.{Answer}
use Rattle.gs_msg.specs.declared.body.Body.{Body}
use Rattle.gs_msg.specs.declared.body.Body.TheVariants as bodies
use Rattle.gs_msg.specs.declared.call.Call.{Call}
use Rattle.gs_msg.specs.declared.chunk.Chunk.TheVariants as chunks
use Rattle.gs_msg.specs.declared.event.DiskId.{DiskId}
use Rattle.gs_msg.specs.declared.event.Happening.{Happening}
use Rattle.gs_msg.specs.declared.event.Happening.TheVariants as happenings
use Rattle.gs_msg.specs.declared.event.Request.{Request}
use Rattle.gs_msg.specs.declared.event.Request.TheVariants as requests
use Rattle.gs_msg.specs.declared.message.Message.{Message}
use Rattle.gs_msg.specs.declared.node.NodeId.{NodeId}
use Rattle.gs_msg.specs.declared.node.NodeId.TheVariants as nodes
use Rattle.gs_nodes.specs.Happenings.{client_in}
use Rattle.gs_nodes.specs.Nodes.{Nodes}
use Rattle.gs_nodes.specs.declared.place.MasterPlace.{MasterPlace}
use Rattle.gs_nodes.specs.declared.place.MasterPlace.TheVariants.{Standing}
use Rattle.gs_server.specs.Runs as at_server
use Rattle.gs_server.specs.Servers.{Server, place_of}
use Rattle.gs_server_lease.specs.Leases.{PrimaryLease}
use Rattle.gs_server.specs.Servers as servers
use Rattle.gs_shell_desk.specs.Ways.{way_of}
use Rattle.gs_world.proofs.Reaching.{HaveSizes}
use Rattle.gs_world.specs.Histories.{History, Upshot}
use Rattle.gs_world.specs.Runs.{Comes, Goes, RunsTo, Step, Takes}
use Rattle.gs_world.specs.Sent.{Sent}

-- ---- a request above all of which a reply is kept isn't an old one

module _ (s : State) (req : ReqId) (low : (reply : KeptReply) → (fin.get s.durable.replies req.client ≡ Some reply) ⊎ (fin.get s.volatile.replies req.client ≡ Some reply) → reply.number ≤ req.number) where
  abbrev is_older : Numbered → Bool
  is_older New = false
  is_older (Again result) = false
  is_older Older = true

  by_tests : (reply : KeptReply) → reply.number ≤ req.number → (b c : Bool) → nat_lt req.number reply.number ≡ c → (if b then Again reply.result else if c then Older else New) ≡ Older → ⊥
  by_tests reply most true c less is = false≢true (ap is_older is)
  by_tests reply most false true less is = grind (arith, nat_tests)
  by_tests reply most false false less is = false≢true (ap is_older is)

  by_one : (reply : KeptReply) → reply.number ≤ req.number → numbered (Some reply) req.number ≡ Older → ⊥
  by_one reply most is = by_tests reply most (reply.number == req.number) (nat_lt req.number reply.number) refl is

  by_later : (b : Bool) (a o : KeptReply) → a.number ≤ req.number → o.number ≤ req.number → numbered (if b then Some o else Some a) req.number ≡ Older → ⊥
  by_later true a o first second is = by_one o second is
  by_later false a o first second is = by_one a first is

  by_replies : (a o : Option KeptReply) → fin.get s.durable.replies req.client ≡ a → fin.get s.volatile.replies req.client ≡ o → numbered (later a o) req.number ≡ Older → ⊥
  by_replies None None durable memory is = false≢true (ap is_older is)
  by_replies None (Some o) durable memory is = by_one o (low o (inr memory)) is
  by_replies (Some a) None durable memory is = by_one a (low a (inl durable)) is
  by_replies (Some a) (Some o) durable memory is = by_later (nat_lt a.number o.number) a o (low a (inl durable)) (low o (inr memory)) is

  none_older : numbered (last_reply s req.client) req.number ≡ Older → ⊥
  none_older is = by_replies (fin.get s.durable.replies req.client) (fin.get s.volatile.replies req.client) refl refl is

-- ---- what is said

abbrev Serves : (ReqId → Type 0) → List Message → Type 0
Serves P messages = AllByRecursion (λ (m : Message). ServesOf P m.body) messages

serves_more : (P Q : ReqId → Type 0) → ((req : ReqId) → P req → Q req) → (body : Body) → ServesOf P body → ServesOf Q body
serves_more P Q more (bodies.About chunk (chunks.Edit req stamp op)) serves = more req serves
serves_more P Q more (bodies.About chunk (chunks.Fetch req stamp epoch asked)) serves = more req serves
serves_more P Q more (bodies.Done req result) serves = more req serves
serves_more P Q more (bodies.Bytes req result) serves = more req serves
serves_more P Q more body serves = tt

-- the master says none of it
master_serves : (P : ReqId → Type 0) (body : Body) → IsOfMaster body → ServesOf P body
master_serves P (bodies.About chunk (chunks.Edit req stamp op)) of = absurd of
master_serves P (bodies.About chunk (chunks.Fetch req stamp epoch asked)) of = absurd of
master_serves P (bodies.Done req result) of = absurd of
master_serves P (bodies.Bytes req result) of = absurd of
master_serves P body of = tt

masters_serve : (P : ReqId → Type 0) (messages : List Message) → AreOfMaster messages → Serves P messages
masters_serve P [] of = tt
masters_serve P (m ∷ messages) of = (master_serves P m.body of.0, masters_serve P messages of.1)

-- nor what both a client and a server may say
neither_serves : (P : ReqId → Type 0) (body : Body) → IsOfClient body → IsByServer body → ServesOf P body
neither_serves P (bodies.About chunk (chunks.Edit req stamp op)) of by = absurd by
neither_serves P (bodies.About chunk (chunks.Fetch req stamp epoch asked)) of by = absurd by
neither_serves P (bodies.Done req result) of by = absurd of
neither_serves P (bodies.Bytes req result) of by = absurd of
neither_serves P body of by = tt

-- ---- a server

heard_is : (m n : Message) (a b : Moment) → at_server.Hears m a ≡ at_server.Hears n b → m ≡ n
heard_is m n a b is = cc

all_four : (A B C D E : Message → Type 0) → ((m : Message) → A m → B m → C m → D m → E m) → (messages : List Message) → AllByRecursion A messages → AllByRecursion B messages → AllByRecursion C messages → AllByRecursion D messages → AllByRecursion E messages
all_four A B C D E each [] one two three four = tt
all_four A B C D E each (m ∷ messages) one two three four = (each m one.0 two.0 three.0 four.0, all_four A B C D E each messages one.1 two.1 three.1 four.1)

module _ (P : ReqId → Type 0) where
  -- what it tells is of the request that it hears, or of one for which it waits
  heard_serves : (s : Server) (message : Message) (moment : Moment) → ServesOf P message.body → (body : Body) → IsByServer body → Only (TellsOwn s message moment) body → GivesOr (IsFetchOf message.body) (IsFetchOf message.body) body → YesAsks P body → ServesOf P body
  heard_serves s message moment served (bodies.About chunk (chunks.Edit req stamp op)) by told gives tells = absurd by
  heard_serves s message moment served (bodies.About chunk (chunks.Fetch req stamp epoch asked)) by told gives tells = absurd by
  heard_serves s message moment served (bodies.Done req (Ok outcome)) by told gives tells = tells
  heard_serves s message moment served (bodies.Done req (Err refusal)) by told gives tells =
      let k = told.hears in
      let same = heard_is message (record { from = k.from; to = k.to; body = bodies.About k.handle (chunks.Edit req k.stamp k.op) }) moment k.moment k.is in subst (ServesOf P) (ap (λ (m : Message). m.body) same) served
  heard_serves s message moment served (bodies.Bytes req (Ok given)) by told (chunk, stamp, epoch, asked, is) tells = subst (ServesOf P) is served
  heard_serves s message moment served (bodies.Bytes req (Err refusal)) by told (chunk, stamp, epoch, asked, is) tells = subst (ServesOf P) is served
  heard_serves s message moment served body by told gives tells = tt

  -- it tells nothing of the kind by itself
  quiet_serves : (body : Body) → IsByServer body → Only (λ req refusal. ⊥) body → GivesOr (λ req. ⊥) (λ req. ⊥) body → YesAsks P body → ServesOf P body
  quiet_serves (bodies.About chunk (chunks.Edit req stamp op)) by told gives tells = absurd by
  quiet_serves (bodies.About chunk (chunks.Fetch req stamp epoch asked)) by told gives tells = absurd by
  quiet_serves (bodies.Done req (Ok outcome)) by told gives tells = tells
  quiet_serves (bodies.Done req (Err refusal)) by told gives tells = absurd told
  quiet_serves (bodies.Bytes req (Ok given)) by told gives tells = absurd gives
  quiet_serves (bodies.Bytes req (Err refusal)) by told gives tells = absurd gives
  quiet_serves body by told gives tells = tt

  -- what it hears asks so
  all_heard : (sent : Sent) → AllSent (λ (m : Message). ServesOf P m.body) sent → AllSent (λ (m : Message). HeardAsked (λ chunk. P) m.body) sent
  all_heard sent all id m was handle req stamp op is = subst (ServesOf P) is (all id m was)

  -- so of those whom it tells that their edits are done
  yeses_serve : (sent : Sent) → AllSent (λ (m : Message). ServesOf P m.body) sent → (id : ℕ) (s after : Server) (messages : List Message) → ServerGoes sent id s after messages → WaitsFor (λ chunk. P) s → YesesAsk P messages
  yeses_serve sent all id s after messages goes waits = by_chunk (about_of goes) refl
    where
      by_chunk : (o : Option ℕ) → about_of goes ≡ o → YesesAsk P messages
      by_chunk None about = none_yes P messages (goes_quiet sent id s after messages goes about)
      by_chunk (Some chunk) about = yeses_for (λ c. P) sent id s after messages goes chunk (all_heard sent all) waits about

  server_serves : (sent : Sent) → AllSent (λ (m : Message). ServesOf P m.body) sent → (id : ℕ) (s after : Server) (messages : List Message) → ServerGoes sent id s after messages → YesesAsk P messages → Serves P messages
  server_serves sent all id s after messages (Hears message moment was to is sends) tells =
      subst (Serves P) (sym sends)
      (all_four (λ (m : Message). IsByServer m.body) (λ (m : Message). Only (TellsOwn s message moment) m.body) (λ (m : Message). GivesOr (IsFetchOf message.body) (IsFetchOf message.body) m.body) (λ (m : Message). YesAsks P m.body) (λ (m : Message). ServesOf P m.body)
      (λ m by told gives tells. heard_serves s message moment (all was.0 message was.1) m.body by told gives tells) (servers.handle s message moment).sent (handled_by s message moment) (tells_refusals s message moment) (handled_tells s message.from message.body moment)
      (subst (YesesAsk P) sends tells))
  server_serves sent all id s after messages (Ticks moment is sends) tells =
      subst (Serves P) (sym sends)
      (all_four (λ (m : Message). IsByServer m.body) (λ (m : Message). Only (λ req refusal. ⊥) m.body) (λ (m : Message). GivesOr (λ req. ⊥) (λ req. ⊥) m.body) (λ (m : Message). YesAsks P m.body) (λ (m : Message). ServesOf P m.body)
      (λ m by told gives tells. quiet_serves m.body by told gives tells) (servers.tick s moment).sent (tick_by s moment) (quiet_ticks s moment) (ticks_give (λ req. ⊥) (λ req. ⊥) s moment) (subst (YesesAsk P) sends tells))
  server_serves sent all id s after messages (Beats is sends) tells = subst (Serves P) (sym sends) (tt, tt)
  server_serves sent all id s after messages (Restarts is sends) tells = subst (Serves P) (sym sends) tt
  server_serves sent all id s after messages (Loses handle is sends) tells = subst (Serves P) (sym sends) tt
  server_serves sent all id s after messages (Damages handle block is sends) tells = subst (Serves P) (sym sends) tt

-- where it waits for such requests, it does for others that these are
waits_more : (P Q : ReqId → Type 0) → ((req : ReqId) → P req → Q req) → (o : Option PrimaryLease) → OutboxAsks P o → OutboxAsks Q o
waits_more P Q more None asks = tt
waits_more P Q more (Some l) asks = λ number edit there. more edit.req (asks number edit there)

-- ---- a client

-- what it asks of servers is of such a request
abbrev AsksServers : (ReqId → Type 0) → ReqId → Request → Type 0
AsksServers P own (requests.Call call) = Unit {0}
AsksServers P own request = P own

asks_servers : (P : ReqId → Type 0) (own : ReqId) (request : Request) → P own → AsksServers P own request
asks_servers P own (requests.Call call) is = tt
asks_servers P own (requests.Write handle members primary stamp op bytes) is = is
asks_servers P own (requests.Fetch to handle stamp epoch asked) is = is

both_serve : (P : ReqId → Type 0) (xs ys : List Message) → Serves P xs → Serves P ys → Serves P (xs ++ ys)
both_serve P [] ys first second = second
both_serve P (x ∷ xs) ys first second = (first.0, both_serve P xs ys first.1 second)

pushed_serve : (P : ReqId → Type 0) (own : ReqId) (members bytes : List ℕ) → Serves P (pushes own members bytes)
pushed_serve P own [] bytes = tt
pushed_serve P own (member ∷ members) bytes = (tt, pushed_serve P own members bytes)

request_serves : (P : ReqId → Type 0) (own : ReqId) (request : Request) → AsksServers P own request → Serves P (messages_of own request)
request_serves P own (requests.Call call) asks = (tt, tt)
request_serves P own (requests.Write handle members primary stamp op bytes) asks = both_serve P (pushes own (with_bytes members op) bytes) _ (pushed_serve P own (with_bytes members op) bytes) (asks, tt)
request_serves P own (requests.Fetch to handle stamp epoch asked) asks = (asks, tt)

-- ---- a step

pub named : {D : Type 0} (step : Step) (old : History D) → IsStepWithin step → KeepsTypes old → StepNamed step old
named (Takes client) old within types = tt
named (Comes event) old within types = heard event.happening
  where
    heard : (happening : Happening) → HearsNamed event.moment happening old
    heard (happenings.Deliver id) = λ message is to. (let said : MayBeHeard message.body = subst (λ (n : NodeId). MayBeSaid n message.body) to (types.sent id message is) in said.named, within.0)
    heard (happenings.Ask req request) = tt
    heard (happenings.Tick node) = tt
    heard (happenings.Beat server) = tt
    heard (happenings.Restart node) = tt
    heard (happenings.Lose server handle) = tt
    heard (happenings.Damage server handle block) = tt
    heard (happenings.FailDisk disk call) = tt

-- a client asks this at a step
abbrev IsAskedAt : Step → ReqId → Request → Type 0
IsAskedAt (Comes event) req request = event.happening ≡ happenings.Ask req request
IsAskedAt (Takes client) req request = ⊥

module _ {D : Type 0} (seen : D → List ℕ) (failures : D → ℕ) (armed : DiskId → ℕ → MasterPlace D → MasterPlace D) where
  -- what clients ask of servers at a step is of such a request
  abbrev StepAsks : (ReqId → Type 0) → Step → History D → History D → Type 0
  StepAsks P step old new = (req : ReqId) (request : Request) (n : Node) → IsAskedAt step req request → client_in old.nodes.clients req.client ≡ Some n → nat_le req.number n.last ≡ false → new.nodes ≡ with_client req.client (asking n req.number) old.nodes → AsksServers P (request_of n req.number) request

  module _ (P : ReqId → Type 0) (old new : History D) (lasts : LastsThrough seen old.nodes.master) (still : LastsThrough seen new.nodes.master) (all : AllSent (λ (m : Message). ServesOf P m.body) old.sent)
      (waits : AllWaitFor (λ chunk. P) old) where
    abbrev All : Type 0
    All = AllSent (λ (m : Message). ServesOf P m.body) new.sent

    of_master : (place : MasterPlace D) (messages : List Message) → new.nodes.master ≡ place → MasterGoes seen failures armed old.nodes.config old.sent old.nodes.master place messages → AreOfMaster messages
    of_master place messages is goes =
        does_all_say seen armed old.sent old.nodes.master place messages
        (masters_do_all seen failures armed old.nodes.config old.sent old.nodes.master place messages (lasts_left seen old.nodes.master lasts) (subst (λ there. Lasts seen (as_left there)) is (lasts_left seen new.nodes.master still)) goes)

    by_kind : (step : Step) (moment : Moment) (by : NodeId) (sent : List Message) → ByServer sent → Posts moment by sent old.sent new.sent → Kind seen failures armed step old new → All
    by_kind step moment by sent of posted (OfServer id s after messages at found goes met servers master post) = posted_all (λ (m : Message). ServesOf P m.body) at (nodes.Server id) messages old.sent new.sent post all (server_serves P old.sent all id s after messages goes (yeses_serve P old.sent all id s after messages goes (waits id s found)))
    by_kind step moment by sent of posted (OfMaster place messages at goes servers master post) = posted_all (λ (m : Message). ServesOf P m.body) at nodes.Master messages old.sent new.sent post all (masters_serve P messages (of_master place messages master goes))
    by_kind step moment by sent of posted (Elsewhere other messages at are servers master post) = λ id m was. both m (clients id m was) (servers_all id m was)
      where
        client_so : (xs : List Message) → AreOfClient xs → AllByRecursion (λ (m : Message). ServesOf P m.body ⊎ IsOfClient m.body) xs
        client_so [] are = tt
        client_so (m ∷ xs) are = (inr are.0, client_so xs are.1)

        server_so : (xs : List Message) → ByServer xs → AllByRecursion (λ (m : Message). ServesOf P m.body ⊎ IsByServer m.body) xs
        server_so [] of = tt
        server_so (m ∷ xs) of = (inr of.0, server_so xs of.1)

        clients : AllSent (λ (m : Message). ServesOf P m.body ⊎ IsOfClient m.body) new.sent
        clients = posted_all (λ (m : Message). ServesOf P m.body ⊎ IsOfClient m.body) at other messages old.sent new.sent post (sent_then (λ (m : Message). ServesOf P m.body) (λ (m : Message). ServesOf P m.body ⊎ IsOfClient m.body) old.sent (λ m serves. inl serves) all) (client_so messages are)

        servers_all : AllSent (λ (m : Message). ServesOf P m.body ⊎ IsByServer m.body) new.sent
        servers_all = posted_all (λ (m : Message). ServesOf P m.body ⊎ IsByServer m.body) moment by sent old.sent new.sent posted (sent_then (λ (m : Message). ServesOf P m.body) (λ (m : Message). ServesOf P m.body ⊎ IsByServer m.body) old.sent (λ m serves. inl serves) all) (server_so sent of)

        both : (m : Message) → ServesOf P m.body ⊎ IsOfClient m.body → ServesOf P m.body ⊎ IsByServer m.body → ServesOf P m.body
        both m (inl serves) other = serves
        both m (inr client) (inl serves) = serves
        both m (inr client) (inr server) = neither_serves P m.body client server

    module _ (moment : Moment) (happening : Happening) (by : NodeId) (outcome : Upshot) (within : StepNamed (Comes (record { moment = moment; happening = happening })) old) (posted : Posts moment by (sent_by outcome) old.sent new.sent) (kind : Kind seen failures armed (Comes (record { moment = moment; happening = happening })) old new)
        (asks : StepAsks P (Comes (record { moment = moment; happening = happening })) old new) where
      says : (messages : List Message) → sent_by outcome ≡ messages → Serves P messages → All
      says messages is serves = posted_all (λ (m : Message). ServesOf P m.body) moment by (sent_by outcome) old.sent new.sent posted all (subst (Serves P) (sym is) serves)

      by_part : Part seen failures armed old moment happening outcome new.nodes → All
      by_part (Heard id message turn place it was to heard is same) =
          let is_named = subst (λ h. HearsNamed moment h old) it within message was to in
          says turn.sent.items (ap sent_by is) (masters_serve P turn.sent.items (of_master place turn.sent.items (ap (λ (n : Nodes D). n.master) same) (MasterHeard message moment turn (id, was) to is_named heard refl)))
      by_part (Ticked turn place it ticks is same) = says turn.sent.items (ap sent_by is) (masters_serve P turn.sent.items (of_master place turn.sent.items (ap (λ (n : Nodes D). n.master) same) (MasterTicked moment turn ticks refl)))
      by_part (Opened (Ok turn) place it opens is same) = says turn.sent.items (ap sent_by is) (masters_serve P turn.sent.items (of_master place turn.sent.items (ap (λ (n : Nodes D). n.master) same) (MasterOpened turn opens refl)))
      by_part (Opened (Err refusal) place it opens is same) = says [] (ap sent_by is) tt
      by_part (Armed disk call it none same) = says [] none tt
      by_part (Served of clients master) = by_kind (Comes (record { moment = moment; happening = happening })) moment by (sent_by outcome) of posted kind
      by_part (Asked req request n it found number sends same) = says (messages_of (request_of n req.number) request) sends (request_serves P (request_of n req.number) request (asks req request n it found number same))
      by_part (Told id message client n it was found none same) = says [] none tt
      by_part (Rested none same) = says [] none tt

  all_more : (P Q : ReqId → Type 0) → ((req : ReqId) → P req → Q req) → (sent : Sent) → AllSent (λ (m : Message). ServesOf P m.body) sent → AllSent (λ (m : Message). ServesOf Q m.body) sent
  all_more P Q more sent all = sent_then (λ (m : Message). ServesOf P m.body) (λ (m : Message). ServesOf Q m.body) sent (λ m serves. serves_more P Q more m.body serves) all

  all_wait : (P Q : ReqId → Type 0) → ((req : ReqId) → P req → Q req) → (h : History D) → AllWaitFor (λ chunk. P) h → AllWaitFor (λ chunk. Q) h
  all_wait P Q more h waits id s found chunk = waits_more P Q more (place_of chunk s).lease (waits id s found chunk)

  step_serves : (P Q : ReqId → Type 0) → ((req : ReqId) → P req → Q req) → (step : Step) (old new : History D) → Goes seen failures armed step old new → IsStepWithin step → KeepsTypes old → LastsThrough seen old.nodes.master → LastsThrough seen new.nodes.master → StepAsks Q step old new
      → AllSent (λ (m : Message). ServesOf P m.body) old.sent → AllWaitFor (λ chunk. P) old → AllSent (λ (m : Message). ServesOf Q m.body) new.sent
  step_serves P Q more (Comes event) old new (said, h) within types lasts still asks all waits =
      by_part Q old new lasts still (all_more P Q more old.sent all) (all_wait P Q more old waits) event.moment event.happening h.by h.outcome (named (Comes event) old within types)
      (posts seen failures armed event.moment h.by h.outcome old.sent said new.sent h.tells) (kind_of seen failures armed (Comes event) old new (said, h) (named (Comes event) old within types)) asks
      (part_of seen failures armed old event.moment event.happening h.by h.outcome new.nodes h.at)
  step_serves P Q more (Takes client) old new (found, taken, same) within types lasts still asks all waits = subst (AllSent (λ (m : Message). ServesOf Q m.body)) (sym same) (all_more P Q more old.sent all)

  step_waits : (P Q : ReqId → Type 0) → ((req : ReqId) → P req → Q req) → (step : Step) (old new : History D) → Goes seen failures armed step old new → IsStepWithin step → KeepsTypes old → AllSent (λ (m : Message). ServesOf P m.body) old.sent → AllWaitFor (λ chunk. P) old → AllWaitFor (λ chunk. Q) new
  step_waits P Q more step old new goes within types all waits =
      waits_go seen failures armed (λ chunk. Q) step old new (kind_of seen failures armed step old new goes (named step old within types)) (all_heard Q old.sent (all_more P Q more old.sent all)) (all_wait P Q more old waits)

  -- ---- what was asked

  no_more : (number last : ℕ) → nat_le number last ≡ false → last ≤ number
  no_more number last is = grind (arith, nat_tests)

  same_last : (a b : ℕ) → b ≡ a → a ≤ b
  same_last a b is = omega arith

  -- it was asked after each step too
  part_further : (old : History D) (moment : Moment) (happening : Happening) (outcome : Upshot) (new : Nodes D) → Part seen failures armed old moment happening outcome new → (req : ReqId) → HasAsked old.nodes.clients req → HasAsked new.clients req
  part_further old moment happening outcome new (Heard id message turn place it was to heard is same) req has = subst (λ (n : Nodes D). HasAsked n.clients req) (sym same) has
  part_further old moment happening outcome new (Ticked turn place it ticks is same) req has = subst (λ (n : Nodes D). HasAsked n.clients req) (sym same) has
  part_further old moment happening outcome new (Opened turn place it opens is same) req has = subst (λ (n : Nodes D). HasAsked n.clients req) (sym same) has
  part_further old moment happening outcome new (Armed disk call it none same) req has = subst (λ (n : Nodes D). HasAsked n.clients req) (sym same) has
  part_further old moment happening outcome new (Served of clients master) req has = subst (λ cs. HasAsked cs req) (sym clients) has
  part_further old moment happening outcome new (Asked other request n it found number sends same) req has =
      subst (λ (x : Nodes D). HasAsked x.clients req) (sym same) (asked_further old.nodes.clients other.client n (asking n other.number) found (no_more other.number n.last number) req has)
  part_further old moment happening outcome new (Told id message client n it was found none same) req has =
      subst (λ (x : Nodes D). HasAsked x.clients req) (sym same) (asked_further old.nodes.clients client n (hearing (hears message.body n) n) found (same_last n.last (hearing (hears message.body n) n).last (hearing_same message.body n).1) req has)
  part_further old moment happening outcome new (Rested none same) req has = subst (λ (n : Nodes D). HasAsked n.clients req) (sym same) has

  pub further : (step : Step) (old new : History D) → Goes seen failures armed step old new → (req : ReqId) → HasAsked old.nodes.clients req → HasAsked new.nodes.clients req
  further (Comes event) old new (said, h) req has = part_further old event.moment event.happening h.outcome new.nodes (part_of seen failures armed old event.moment event.happening h.by h.outcome new.nodes h.at) req has
  further (Takes client) old new (found, takes, same) req has = by_client (client_in old.nodes.clients client) refl takes
    where
      by_client : (o : Option Node) → client_in old.nodes.clients client ≡ o → MatchOption o ((new.nodes ≡ old.nodes) × (found ≡ None)) (λ n. (after : Node) × (new.nodes ≡ with_client client after old.nodes) × ((found ≡ n.reply) × (after ≡ given_up n)))
          → HasAsked new.nodes.clients req
      by_client None was (still, none) = subst (λ (n : Nodes D). HasAsked n.clients req) (sym still) has
      by_client (Some n) was (after, there, did) =
          subst (λ (x : Nodes D). HasAsked x.clients req) (sym there) (asked_further old.nodes.clients client n after was (same_last n.last after.last (ap (λ (x : Node). x.last) did.1)) req has)

  -- ---- over runs

  module _ (arms : ArmsAlone seen failures armed) where
    step_served : (step : Step) (old new : History D) → Goes seen failures armed step old new → IsStepWithin step → KeepsTypes old → LastsThrough seen old.nodes.master → LastsThrough seen new.nodes.master → AreAsked seen old → AreServed old → AreServed new
    step_served step old new goes within types lasts still are served = record {
      sent = step_serves (HasAsked old.nodes.clients) (HasAsked new.nodes.clients) (further step old new goes) step old new goes within types lasts still
          (λ req request n it found number same. asks_servers (HasAsked new.nodes.clients) (request_of n req.number) request
          (subst (λ (x : Nodes D). HasAsked x.clients (request_of n req.number)) (sym same)
          (subst (λ (id : ClientId). HasAsked (slice_set old.nodes.clients (req.client.0 - 1) (asking n req.number)) (record { client = id; number = req.number })) (sym (own_id old.nodes.clients are.numbered req.client n found))
          (asked_now old.nodes.clients req.client n (asking n req.number) req.number found (omega arith)))))
          served.sent served.waits;
      waits = step_waits (HasAsked old.nodes.clients) (HasAsked new.nodes.clients) (further step old new goes) step old new goes within types served.sent served.waits;
    }

    run_served : (steps : List Step) (old new : History D) → RunsTo seen failures armed steps old new → AllByRecursion IsStepWithin steps → KeepsTypes old → LastsThrough seen old.nodes.master → AreAsked seen old → AreServed old → AreServed new
    run_served [] old new same within types lasts are served = subst (λ (h : History D). AreServed h) (sym same) served
    run_served (step ∷ steps) old new (mid, goes, rest) within types lasts are served =
        let d = tells_some seen failures old.nodes.master lasts in
        let on = step_on seen failures armed arms.lasts arms.told step old mid d.0 goes (step_within seen failures armed step old within.0 types) lasts d.1 in
        run_served steps mid new rest within.1 (step_keeps seen failures armed step old mid goes within.0 types) on.lasts
        (step_asked seen failures armed (arming seen failures armed arms) arms.lasts arms.told step old mid goes within.0 types lasts are)
        (step_served step old mid goes within.0 types lasts on.lasts are served)

  pub stays_served : StaysServed seen failures armed
  stays_served arms steps old new runs within types lasts are served = run_served arms steps old new runs within types lasts are served

  -- ---- a call that was asked

  module _ (req : ReqId) where
    -- no server has anything to do with it
    abbrev NotIt : ReqId → Type 0
    NotIt other = other ≡ req → ⊥

    record IsApart (h : History D) : Type 0 where
      asked : AreAsked seen h
      has : HasAsked h.nodes.clients req
      types : KeepsTypes h
      lasts : LastsThrough seen h.nodes.master
      sent : AllSent (λ (m : Message). ServesOf NotIt m.body) h.sent
      waits : AllWaitFor (λ chunk. NotIt) h

    pub same_node : (a b : Node) → Some a ≡ Some b → a ≡ b
    same_node a b is = cc

    above : (number last : ℕ) → nat_le number last ≡ false → last < number
    above number last is = grind (arith, nat_tests)

    -- what is asked later isn't it
    pub later_one : (h : History D) → AreAsked seen h → HasAsked h.nodes.clients req → (other : ReqId) (n : Node) → client_in h.nodes.clients other.client ≡ Some n → nat_le other.number n.last ≡ false → NotIt (request_of n other.number)
    later_one h are has other n found number same =
        let own = own_id h.nodes.clients are.numbered other.client n found in
        let mine : other.client ≡ req.client = sym own ∙ ap (λ (r : ReqId). r.client) same in
        let node = same_node n has.node (sym (subst (λ c. client_in h.nodes.clients c ≡ Some n) mine found) ∙ has.there) in
        clash req.number has.node.last n.last other.number has.number (ap (λ (x : Node). x.last) node) (above other.number n.last number) (ap (λ (r : ReqId). r.number) same)
      where
        clash : (a b c d : ℕ) → a ≤ b → c ≡ b → c < d → d ≡ a → ⊥
        clash a b c d first same less is = omega arith

    apart_on : (step : Step) (old new : History D) → Goes seen failures armed step old new → spares_master step ≡ true → IsStepWithin step → IsApart old → IsApart new
    apart_on step old new goes spares within a =
        let still = lasts_spared seen failures armed (step ∷ []) old new (new, goes, refl) (spares, tt) (within, tt) a.types a.lasts in record {
          asked = asked_spared seen failures armed (step ∷ []) old new (new, goes, refl) (spares, tt) (within, tt) a.types a.lasts a.asked;
          has = further step old new goes req a.has;
          types = step_keeps seen failures armed step old new goes within a.types;
          lasts = still;
          sent = step_serves NotIt NotIt (λ other is. is) step old new goes within a.types a.lasts still (λ other request n it found number same. asks_servers NotIt (request_of n other.number) request (later_one old a.asked a.has other n found number)) a.sent a.waits;
          waits = step_waits NotIt NotIt (λ other is. is) step old new goes within a.types a.sent a.waits;
        }

    passes_apart : (steps : List Step) (old new : History D) (runs : RunsTo seen failures armed steps old new) → AllSpare steps → AllByRecursion IsStepWithin steps → IsApart old → (h : History D) → Passes seen failures armed h steps old new runs → IsApart h
    passes_apart [] old new same spare within a h never = absurd never
    passes_apart (step ∷ steps) old new (mid, goes, rest) spare within a h (inl here) = subst IsApart (sym here) (apart_on step old mid goes spare.0 within.0 a)
    passes_apart (step ∷ steps) old new (mid, goes, rest) spare within a h (inr there) = passes_apart steps mid new rest spare.1 within.1 (apart_on step old mid goes spare.0 within.0 a) h there

    run_apart : (steps : List Step) (old new : History D) → RunsTo seen failures armed steps old new → AllSpare steps → AllByRecursion IsStepWithin steps → IsApart old → IsApart new
    run_apart [] old new same spare within a = subst IsApart (sym same) a
    run_apart (step ∷ steps) old new (mid, goes, rest) spare within a = run_apart steps mid new rest spare.1 within.1 (apart_on step old mid goes spare.0 within.0 a)

    -- what was asked at a world on the way was asked at its end
    run_further : (steps : List Step) (old new : History D) → RunsTo seen failures armed steps old new → (other : ReqId) → HasAsked old.nodes.clients other → HasAsked new.nodes.clients other
    run_further [] old new same other has = subst (λ (h : History D). HasAsked h.nodes.clients other) (sym same) has
    run_further (step ∷ steps) old new (mid, goes, rest) other has = run_further steps mid new rest other (further step old mid goes other has)

    passes_further : (steps : List Step) (old new : History D) (runs : RunsTo seen failures armed steps old new) (h : History D) → Passes seen failures armed h steps old new runs → (other : ReqId) → HasAsked h.nodes.clients other → HasAsked new.nodes.clients other
    passes_further [] old new same h never other has = absurd never
    passes_further (step ∷ steps) old new (mid, goes, rest) h (inl here) other has = run_further steps mid new rest other (subst (λ (k : History D). HasAsked k.nodes.clients other) here has)
    passes_further (step ∷ steps) old new (mid, goes, rest) h (inr there) other has = passes_further steps mid new rest h there other has

    -- So where it is the last that its client has asked, no master on the way has the reply to a later one.
    module _ (new : History D) (node : Node) (there : client_in new.nodes.clients req.client ≡ Some node) (last : node.last ≡ req.number) where
      up_to : (number : ℕ) → HasAsked new.nodes.clients (record { client = req.client; number = number }) → number ≤ req.number
      up_to number has = below number has.node.last node.last req.number has.number (ap (λ (x : Node). x.last) (same_node has.node node (sym has.there ∙ there))) last
        where
          below : (a b c d : ℕ) → a ≤ b → b ≡ c → c ≡ d → a ≤ d
          below a b c d first second third = omega arith

      its_low : (s : State) (h : History D) → ((other : ReqId) → HasAsked h.nodes.clients other → HasAsked new.nodes.clients other) → KeepsOf (HasAsked h.nodes.clients) s
          → (reply : KeptReply) → (fin.get s.durable.replies req.client ≡ Some reply) ⊎ (fin.get s.volatile.replies req.client ≡ Some reply) → reply.number ≤ req.number
      its_low s h on keeps reply (inl has) = up_to reply.number (on (answered_by req.client reply) (keeps.durable (answered_by req.client reply) (record { reply = reply; has = has; number = refl })))
      its_low s h on keeps reply (inr has) = up_to reply.number (on (answered_by req.client reply) (keeps.memory (answered_by req.client reply) (record { reply = reply; has = has; number = refl })))

      not_older : (h : History D) → ((other : ReqId) → HasAsked h.nodes.clients other → HasAsked new.nodes.clients other) → AreAsked seen h → (m : MasterOf D) → h.nodes.master ≡ Standing m → numbered (last_reply m.state req.client) req.number ≡ Older → ⊥
      not_older h on are m at is = none_older m.state req (its_low m.state h on (subst (KeepsOfAt (HasAsked h.nodes.clients)) at are.master)) is

    refuses_none : (body : Body) → ServesOf NotIt body → RefusesIf req ⊥ body
    refuses_none (bodies.Done other (Err refusal)) serves = serves
    refuses_none (bodies.Bytes other (Err refusal)) serves = serves
    refuses_none body serves = tt

    -- nor is a reply of a server said to it
    no_answer : (reply : Reply) → IsOfServer reply → (result : Result Answer Refusal) → reply ≡ answered replies.Answer result → ⊥
    no_answer reply of (Ok answer) is = subst IsOfServer is of
    no_answer reply of (Err refusal) is = subst IsOfServer is of

    says_none : (reply : Reply) → IsOfServer reply → (body : Body) → SaysReply req reply body → ServesOf NotIt body → ⊥
    says_none reply of (bodies.Reply other result) says serves = no_answer reply of result says.1
    says_none reply of (bodies.Done other result) says serves = serves says.0
    says_none reply of (bodies.Bytes other result) says serves = serves says.0
    says_none reply of body says serves = absurd says

    none_told : (h : History D) → IsApart h → (reply : Reply) → IsOfServer reply → WasReplied h.sent req reply → ⊥
    none_told h a reply of w = says_none reply of w.message.body w.says (a.sent w.was.0 w.message w.was.1)

    -- where it is asked
    module _ (call : Call) (once : IsAnsweredAlone call) (old asked : History D) (moment : Moment) (are : AreAsked seen old) (served : AreServed old) (types : KeepsTypes old) (lasts : LastsThrough seen old.nodes.master) (x : AsksFresh seen failures armed old moment req call asked)
        (within : IsStepWithin (Comes (asks_at moment req (requests.Call call)))) where
      abbrev ask : Step
      ask = Comes (asks_at moment req (requests.Call call))

      abbrev goes : Goes seen failures armed ask old asked
      goes = (Ok tt, x.happens)

      none_asked : (other : ReqId) → HasAsked old.nodes.clients other → NotIt other
      none_asked other has same =
          let mine = subst (λ r. HasAsked old.nodes.clients r) same has in
          let node = same_node mine.node x.node (sym mine.there ∙ x.there) in
          clash req.number mine.node.last x.node.last mine.number (ap (λ (n : Node). n.last) node) x.fresh
        where
          clash : (a b c : ℕ) → a ≤ b → b ≡ c → c < a → ⊥
          clash a b c first same less = omega arith

      a_call : (other : ReqId) (request : Request) → happenings.Ask req (requests.Call call) ≡ happenings.Ask other request → (own : ReqId) → AsksServers NotIt own request
      a_call other request is own = subst (AsksServers NotIt own) (request_is is) tt
        where
          request_is : {a b : ReqId} {c d : Request} → happenings.Ask a c ≡ happenings.Ask b d → c ≡ d
          request_is e = cc

      still : LastsThrough seen asked.nodes.master
      still = lasts_spared seen failures armed (ask ∷ []) old asked (asked, goes, refl) (refl, tt) (within, tt) types lasts

      below_itself : (n : ℕ) → n ≤ n
      below_itself n = omega arith

      has_asked : HasAsked asked.nodes.clients req
      has_asked =
          let there = further ask old asked goes (record { client = req.client; number = x.node.last }) (record { node = x.node; there = x.there; number = below_itself x.node.last }) in
          record { node = there.node; there = there.there; number = (asked_follows req call seen failures armed once (λ result. Unit {0}) old asked moment are x).past there.node there.there }

      apart_first : IsApart asked
      apart_first = record {
        asked = asked_spared seen failures armed (ask ∷ []) old asked (asked, goes, refl) (refl, tt) (within, tt) types lasts are;
        has = has_asked;
        types = step_keeps seen failures armed ask old asked goes within types;
        lasts = still;
        sent = step_serves (HasAsked old.nodes.clients) NotIt none_asked ask old asked goes within types lasts still (λ other request n it found number same. a_call other request it (request_of n other.number)) served.sent served.waits;
        waits = step_waits (HasAsked old.nodes.clients) NotIt none_asked ask old asked goes within types served.sent served.waits;
      }

  -- of each call that is answered by itself
  pub lone_refusals_are_made : LoneRefusalsAreMade seen failures armed
  lone_refusals_are_made old asked new moment req call steps node refusal are served types lasts fresh once runs spare within there last reply =
      let first = apart_first req call once old asked moment are served types lasts fresh within.0 in
      says_are_made seen failures armed old asked new moment req call steps runs ⊥ (λ e. IsUnjudged e) (inl refl, inr refl) (λ none e. absurd none)
      ((λ id m was. refuses_none req m.body (first.sent id m was)), (λ m at is. absurd (not_older req new node there last asked (run_further req steps asked new runs) first.asked m at is)))
      (λ h such. (let apart = passes_apart req steps asked new runs spare within.1 first h such in ((λ id m was. refuses_none req m.body (apart.sent id m was)), (λ m at is. absurd (not_older req new node there last h (passes_further req steps asked new runs h such) apart.asked m at is))))) are fresh once spare node (Err refusal) there last reply

  pub lone_calls_are_for_the_master : LoneCallsAreForTheMaster seen failures armed
  lone_calls_are_for_the_master old asked new moment req call steps node reply are served replied types lasts fresh once runs spare within there last has of =
      let end = run_apart req steps asked new runs spare within.1 (apart_first req call once old asked moment are served types lasts fresh within.0) in
      let told = run_replied seen failures armed (asks_call moment req call ∷ steps) old new (asked, (Ok tt, fresh.happens), runs) replied in
      let its : ◌≡◌ {A = ReqId} (record { client = req.client; number = node.last }) req = λ i. record { client = req.client; number = last i } in
      none_told req new end reply of (subst (λ r. WasReplied new.sent r reply) its (told.replied req.client node reply there has))

  pub refusals_are_made : RefusalsAreMade seen failures armed
  refusals_are_made old asked new moment req call steps node refusal are served types lasts fresh once runs spare within there last reply =
      lone_refusals_are_made old asked new moment req call steps node refusal are served types lasts fresh (λ config s other now. at_once config s other now call once) runs spare within there last reply

  pub calls_are_for_the_master : CallsAreForTheMaster seen failures armed
  calls_are_for_the_master old asked new moment req call steps node reply are served replied types lasts fresh once runs spare within there last has of =
      lone_calls_are_for_the_master old asked new moment req call steps node reply are served replied types lasts fresh (λ config s other now. at_once config s other now call once) runs spare within there last has of

-- ---- a new store, and what a script leaves

pub begins_served : HaveSizes → {D : Type 0} (seen : D → List ℕ) (failures : D → ℕ) (armed : DiskId → ℕ → MasterPlace D → MasterPlace D) → BeginsServed seen failures armed
begins_served sizes seen failures armed config clients disks new none begun = record {
  sent = begins_none seen failures armed sizes config (λ req. []) clients disks new none begun (λ (m : Message). ServesOf (HasAsked new.nodes.clients) m.body);
  waits = waits_begin seen failures armed config clients disks new (λ chunk. HasAsked new.nodes.clients) begun;
}

one_client : 1 < 2 ^ 32
one_client = omega arith

pub scripts_served : HaveSizes → {D : Type 0} → ScriptsServed D
scripts_served sizes {D} seen failures config disks desk r none =
    let began = r.reached.begins in
    stays_served seen failures unarmed (unarmed_alone seen failures) r.reached.steps r.reached.begun (history r.sent (way_of desk.wire)) r.reached.runs r.within (begins_keeping seen failures unarmed config 1 disks r.reached.begun one_client began)
    (begins_through seen failures unarmed config 1 disks r.reached.begun none began) (begins_asked sizes seen failures unarmed config 1 disks r.reached.begun none began) (begins_served sizes seen failures unarmed config 1 disks r.reached.begun none began)
