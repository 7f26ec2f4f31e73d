-- What each step of a store is to its clients: one of them asks, or hears something, or takes out what came back; or none does anything.
use Rattle.std.proofs.Common.{◌≡◌, ◌∙◌, ◌⊎◌, ◌-◌, ℕ, List, [], ◌∷◌, Option, Some, None, MatchOption, Result, Ok, Err, Vec, refl, sym, ap, subst, inl, inr, slice_get, slice_set}
use Rattle.std.specs.Prelude.{}
use Rattle.std.specs.declared.alloc.Global.{Global}
use Rattle.std.specs.List.{AllByRecursion}
use Rattle.gs_base.specs.Told.{IsNumber}
use Rattle.gs_base.specs.declared.numbers.ClientId.{ClientId}
use Rattle.gs_base.specs.declared.numbers.Moment.{Moment}
use Rattle.gs_base.specs.declared.refusal.Refusal.{Refusal}
use Rattle.gs_base.specs.declared.refusal.Refusal.TheVariants as refusals
use Rattle.gs_base.specs.Calls.{Does}
use Rattle.gs_client.specs.Nodes.{Asks as AsksAt, Node, asks, given_up, hears}
use Rattle.gs_client.specs.declared.link.Reply.{Reply}
use Rattle.gs_laws_master.specs.Standing.{IsNamedBody}
use Rattle.gs_master.specs.declared.turn.Turn.{Turn}
use Rattle.gs_msg.specs.declared.body.Body.{Body}
use Rattle.gs_msg.specs.declared.event.DiskId.{DiskId}
use Rattle.gs_msg.specs.declared.event.Happening.{Happening}
use Rattle.gs_msg.specs.declared.event.Happening.TheVariants as happenings
use Rattle.gs_msg.specs.declared.event.Request.{Request}
use Rattle.gs_msg.specs.declared.message.Message.{Message}
use Rattle.gs_msg.specs.declared.node.NodeId.{NodeId}
use Rattle.gs_msg.specs.declared.node.NodeId.TheVariants as ids
use Rattle.gs_msg.specs.declared.node.StoreNode.{StoreNode}
use Rattle.gs_msg.specs.declared.node.StoreNode.TheVariants as keepers
use Rattle.gs_server.specs.Servers.{Server, Step as ServerStep}
use Rattle.gs_server.specs.Servers as servers
use Rattle.gs_nodes.specs.Happenings.{AtClient, AtServer, ClientAsks, ClientHears, Delivers, Hears as HearsAt, MasterHears, MasterTicks, Reopens, ServerDoes, client_in, met_by}
use Rattle.gs_nodes.specs.Nodes.{Nodes, with_clients, with_master, with_servers}
use Rattle.gs_nodes.specs.declared.place.MasterPlace.{MasterPlace}
use Rattle.gs_world.specs.Histories.{AtNode, ComesTo, History, Upshot, Restarts as RestartsAt, Ticks as TicksAt, asked, silent, told}
use Rattle.gs_laws_world.specs.lasting.Lasting.{HearsNamed, StepNamed}
use Rattle.gs_world.specs.Runs.{Comes, Goes, Step, Takes}
use Rattle.gs_world.specs.Sent.{IsSent, message_of}
use Rattle.gs_laws_parts.specs.server.Answering.{IsByServer, IsByServerAbout}
use Rattle.gs_laws_parts.specs.server.Requests.{Asked, HasAsked, IsNoRequest}
use Rattle.gs_laws_parts.proofs.lemmas.server.Elsewhere.{ByServer}
use Rattle.gs_laws_parts.proofs.lemmas.server.Requests.{gives_up, hears_one}
use Rattle.gs_msg.specs.declared.body.Body.TheVariants as bodies
use Rattle.gs_msg.specs.declared.chunk.Chunk.{Chunk}
use Rattle.gs_msg.specs.declared.chunk.Chunk.TheVariants as chunks
use Rattle.gs_laws_lift.specs.stores.Saying.{AreOfMaster, IsOfMaster, IsOfMasterAbout}
use Rattle.gs_laws_lift.specs.stores.Going.{MasterGoes, MasterHeard, MasterOpened, MasterTicked, Posts}
use Rattle.gs_laws_lift.proofs.lemmas.stores.AskingServers.{handled_by, tick_by}
use Rattle.gs_laws_lift.proofs.lemmas.stores.Placing.{posts, sent_by}

-- none of these pushes bytes or asks for an edit
abbrev pub NoRequests : List Message → Type 0
NoRequests messages = AllByRecursion (λ (m : Message). IsNoRequest m.body) messages

-- One of the clients asks; or it goes on in another way, so that all it has asked it has asked still, and sends nothing; or no client does anything, and what
-- is sent is of no request.
pub data ClientsGo {D : Type 0} (old new : History D) : Type 0 where
  Asks : (id : ClientId) (number : ℕ) (request : Request) (n after : Node) (messages : List Message) (moment : Moment) → client_in old.nodes.clients id ≡ Some n → asks number request n ≡ Ok (after, messages)
      → new.nodes.clients ≡ slice_set old.nodes.clients (id.0 - 1) after → Posts moment (ids.Client id) messages old.sent new.sent → ClientsGo old new
  GoesOn : (id : ClientId) (n after : Node) (by : NodeId) (moment : Moment) → client_in old.nodes.clients id ≡ Some n → ((asked : Asked) → HasAsked id.0 asked n → HasAsked id.0 asked after)
      → new.nodes.clients ≡ slice_set old.nodes.clients (id.0 - 1) after → Posts moment by [] old.sent new.sent → ClientsGo old new
  Rest : (by : NodeId) (messages : List Message) (moment : Moment) → NoRequests messages → new.nodes.clients ≡ old.nodes.clients → Posts moment by messages old.sent new.sent → ClientsGo old new

-- ---- what servers and the master say is of no request

server_about : (handle : ℕ) (said : Chunk) → IsByServerAbout said → IsNoRequest (bodies.About handle said)
server_about handle (chunks.Edit req stamp op) by = absurd by
server_about handle said by = tt

server_body : (body : Body) → IsByServer body → IsNoRequest body
server_body (bodies.About handle said) by = server_about handle said by
server_body (bodies.Push req bytes) by = absurd by
server_body body by = tt

of_servers : (messages : List Message) → ByServer messages → NoRequests messages
of_servers [] by = tt
of_servers (m ∷ messages) by = (server_body m.body by.0, of_servers messages by.1)

master_about : (handle : ℕ) (said : Chunk) → IsOfMasterAbout said → IsNoRequest (bodies.About handle said)
master_about handle (chunks.Edit req stamp op) of = absurd of
master_about handle said of = tt

master_body : (body : Body) → IsOfMaster body → IsNoRequest body
master_body (bodies.About handle said) of = master_about handle said of
master_body (bodies.Push req bytes) of = absurd of
master_body body of = tt

pub of_master : (messages : List Message) → AreOfMaster messages → NoRequests messages
of_master [] of = tt
of_master (m ∷ messages) of = (master_body m.body of.0, of_master messages of.1)

module _ {D : Type 0} (seen : D → List ℕ) (failures : D → ℕ) (armed : DiskId → ℕ → MasterPlace D → MasterPlace D) (old new : History D) (moment : Moment)
    (master : (place : MasterPlace D) (messages : List Message) → new.nodes.master ≡ place → MasterGoes seen failures armed old.nodes.config old.sent old.nodes.master place messages → NoRequests messages) where
  abbrev K : Type 0
  K = ClientsGo old new

  -- what an outcome sends is of no request
  abbrev P : Upshot → Type 0
  P outcome = NoRequests (sent_by outcome)

  rests : (by : NodeId) (outcome : Upshot) → new.nodes.clients ≡ old.nodes.clients → P outcome → Posts moment by (sent_by outcome) old.sent new.sent → K
  rests by outcome same none posted = Rest by (sent_by outcome) moment none same posted

  nothing : (by : NodeId) (outcome : Upshot) → new.nodes ≡ old.nodes → P outcome → Posts moment by (sent_by outcome) old.sent new.sent → K
  nothing by outcome same none posted = rests by outcome (ap (λ (n : Nodes D). n.clients) same) none posted

  -- ---- a server

  one_server : {A : Type 0} (found : Option Server) (id : ℕ) (does : Server → Result A Refusal → Server → Type 0) (result : Result A Refusal) (by : NodeId) (outcome : Upshot)
      → MatchOption found ((new.nodes ≡ old.nodes) × (result ≡ Err refusals.Range)) (λ s. (after : Server) × (new.nodes ≡ with_servers (slice_set old.nodes.servers id after) old.nodes) × does s result after)
      → (result ≡ Err refusals.Range → P outcome) → ((s after : Server) → does s result after → P outcome) → Posts moment by (sent_by outcome) old.sent new.sent → K
  one_server None id does result by outcome (same, refused) nobody some posted = nothing by outcome same (nobody refused) posted
  one_server (Some s) id does result by outcome (after, same, did) nobody some posted = rests by outcome (ap (λ (n : Nodes D). n.clients) same) (some s after did) posted

  at_server : {A : Type 0} (id : ℕ) (does : Server → Result A Refusal → Server → Type 0) (result : Result A Refusal) (by : NodeId) (outcome : Upshot) → AtServer id does old.nodes result new.nodes
      → (result ≡ Err refusals.Range → P outcome) → ((s after : Server) → does s result after → P outcome) → Posts moment by (sent_by outcome) old.sent new.sent → K
  at_server id does result by outcome at nobody some posted = one_server (slice_get old.nodes.servers id) id does result by outcome at nobody some posted

  refused_none : (turn : Result Turn Refusal) → turn ≡ Err refusals.Range → P (told turn)
  refused_none turn is = subst (λ r. P (told r)) (sym is) tt

  silent_none : (done : Result (Unit {0}) Refusal) → P (silent done)
  silent_none (Ok done) = tt
  silent_none (Err e) = tt

  by_step : (step : ServerStep) (s after : Server) (turn : Result Turn Refusal) → ByServer step.sent → ServerDoes step s turn after → P (told turn)
  by_step step s after (Ok turn) says (is, sends, said) = subst NoRequests (sym sends) (of_servers step.sent says)
  by_step step s after (Err e) says still = tt

  befalls : (id : ℕ) (by : NodeId) (does : Server → Result (Unit {0}) Refusal → Server → Type 0) (outcome : Upshot) (done : Result (Unit {0}) Refusal) → AtServer id does old.nodes done new.nodes → outcome ≡ silent done → Posts moment by (sent_by outcome) old.sent new.sent → K
  befalls id by does outcome done at tells posted = at_server id does done by outcome at (λ refused. none) (λ s after did. none) posted
    where
      none : P outcome
      none = subst P (sym tells) (silent_none done)

  -- ---- the master

  heard_master : (message : Message) (place : MasterPlace D) (turn : Result Turn Refusal) → IsSent message old.sent → message.to ≡ ids.Master → IsNamedBody message.body × IsNumber moment.0 → MasterHears seen failures message moment old.nodes.master turn place
      → new.nodes ≡ with_master place old.nodes → P (told turn)
  heard_master message place (Ok turn) was to named hears same = master place turn.sent.items (ap (λ (n : Nodes D). n.master) same) (MasterHeard message moment turn was to named hears refl)
  heard_master message place (Err e) was to named hears same = tt

  ticked_master : (place : MasterPlace D) (turn : Result Turn Refusal) → MasterTicks seen failures moment old.nodes.master turn place → new.nodes ≡ with_master place old.nodes → P (told turn)
  ticked_master place (Ok turn) ticks same = master place turn.sent.items (ap (λ (n : Nodes D). n.master) same) (MasterTicked moment turn ticks refl)
  ticked_master place (Err e) ticks same = tt

  opened_master : (place : MasterPlace D) (turn : Result Turn Refusal) → Reopens seen failures old.nodes.config old.nodes.master turn place → new.nodes ≡ with_master place old.nodes → P (told turn)
  opened_master place (Ok turn) opens same = master place turn.sent.items (ap (λ (n : Nodes D). n.master) same) (MasterOpened turn opens refl)
  opened_master place (Err e) opens same = tt

  -- ---- a client

  one_client : {A : Type 0} (found : Option Node) (id : ClientId) (nobody : A) (does : Node → A → Node → Type 0) (result : A) → client_in old.nodes.clients id ≡ found
      → MatchOption found ((new.nodes ≡ old.nodes) × (result ≡ nobody)) (λ n. (after : Node) × (new.nodes ≡ with_clients (slice_set old.nodes.clients (id.0 - 1) after) old.nodes) × does n result after)
      → (new.nodes ≡ old.nodes → result ≡ nobody → K)
      → ((n after : Node) → client_in old.nodes.clients id ≡ Some n → new.nodes.clients ≡ slice_set old.nodes.clients (id.0 - 1) after → does n result after → K) → K
  one_client None id nobody does result is (same, refused) none some = none same refused
  one_client (Some n) id nobody does result is (after, same, did) none some = some n after is (ap (λ (n : Nodes D). n.clients) same) did

  at_client : {A : Type 0} (id : ClientId) (nobody : A) (does : Node → A → Node → Type 0) (result : A) → AtClient id nobody does old.nodes result new.nodes
      → (new.nodes ≡ old.nodes → result ≡ nobody → K)
      → ((n after : Node) → client_in old.nodes.clients id ≡ Some n → new.nodes.clients ≡ slice_set old.nodes.clients (id.0 - 1) after → does n result after → K) → K
  at_client id nobody does result at none some = one_client (client_in old.nodes.clients id) id nobody does result refl at none some

  asked_by : (id : ClientId) (number : ℕ) (request : Request) (out : Result (Vec Message Global) Refusal) (n after : Node) → client_in old.nodes.clients id ≡ Some n → new.nodes.clients ≡ slice_set old.nodes.clients (id.0 - 1) after
      → ClientAsks number request n out after → Posts moment (ids.Client id) (sent_by (asked out)) old.sent new.sent → K
  asked_by id number request out n after found clients a posted = by_asks (asks number request n) out refl a posted
    where
      by_asks : (r : Result (Node × List Message) Refusal) (out : Result (Vec Message Global) Refusal) → asks number request n ≡ r → AsksAt r out n after → Posts moment (ids.Client id) (sent_by (asked out)) old.sent new.sent → K
      by_asks (Ok p) (Ok sent) is (same, sends) posted = Asks id number request n after sent.items moment found (is ∙ (λ i. Ok (sym same i, sym sends i))) clients posted
      by_asks (Err e) (Ok sent) is never posted = absurd never
      by_asks (Ok p) (Err f) is (memory, same) posted = GoesOn id n after (ids.Client id) moment found (λ was has. subst (HasAsked id.0 was) (sym same) has) clients posted
      by_asks (Err e) (Err f) is (refused, same) posted = GoesOn id n after (ids.Client id) moment found (λ was has. subst (HasAsked id.0 was) (sym same) has) clients posted

  heard_still : (id : ClientId) (body : Body) (said : Option Refusal) (n after : Node) → ClientHears body n said after → (was : Asked) → HasAsked id.0 was n → HasAsked id.0 was after
  heard_still id body said n after does was has = by_heard (hears body n) (met_by said) refl does
    where
      by_heard : (r : Result Node Refusal) (m : Result (Unit {0}) Refusal) → hears body n ≡ r → Does r m n after → HasAsked id.0 was after
      by_heard (Ok a) (Ok d) is same = hears_one id.0 was n after body has (is ∙ ap Ok (sym same))
      by_heard (Err e) (Ok d) is never = absurd never
      by_heard (Ok a) (Err f) is never = absurd never
      by_heard (Err e) (Err f) is (refused, same) = subst (HasAsked id.0 was) (sym same) has

  -- ---- an event

  heard : (message : Message) (to by : NodeId) (turn : Result Turn Refusal) → IsSent message old.sent → message.to ≡ to → (to ≡ ids.Master → IsNamedBody message.body × IsNumber moment.0) → HearsAt seen failures message moment to old.nodes turn new.nodes
      → Posts moment by (sent_by (told turn)) old.sent new.sent → K
  heard message ids.Master by turn was to named (place, same, hears) posted =
      rests by (told turn) (ap (λ (n : Nodes D). n.clients) same) (heard_master message place turn was to (named refl) hears same) posted
  heard message (ids.Server id) by turn was to named at posted =
      at_server id (λ s. ServerDoes (servers.handle s message moment) s) turn by (told turn) at (refused_none turn)
      (λ s after does. by_step (servers.handle s message moment) s after turn (handled_by s message moment) does) posted
  heard message (ids.Client id) by (Ok turn) was to named (said, at, says) posted =
      at_client id None (ClientHears message.body) said at (λ same none. nothing by (Ok ([], None)) same tt sent_none)
      (λ n after found clients does. GoesOn id n after by moment found (heard_still id message.body said n after does) clients sent_none)
    where
      sent_none : Posts moment by [] old.sent new.sent
      sent_none = subst (λ ms. Posts moment by ms old.sent new.sent) says.0 posted
  heard message (ids.Client id) by (Err e) was to named (said, at, says) posted = absurd says

  delivered : (message : Message) (by : NodeId) (turn : Result Turn Refusal) → IsSent message old.sent → (message.to ≡ ids.Master → IsNamedBody message.body × IsNumber moment.0) → Delivers seen failures message moment old.nodes turn new.nodes
      → Posts moment by (sent_by (told turn)) old.sent new.sent → K
  unfolding Delivers
  delivered message by turn was named hears posted = heard message message.to by turn was refl named hears posted

  as_told : (by : NodeId) (outcome other : Upshot) → outcome ≡ other → Posts moment by (sent_by outcome) old.sent new.sent → Posts moment by (sent_by other) old.sent new.sent
  as_told by outcome other is posted = subst (λ o. Posts moment by (sent_by o) old.sent new.sent) is posted

  came : (found : Option Message) (sender : NodeId) (by : NodeId) (outcome : Upshot) → ((message : Message) → found ≡ Some message → IsSent message old.sent × (message.to ≡ ids.Master → IsNamedBody message.body × IsNumber moment.0))
      → MatchOption found ((outcome ≡ Err refusals.Range) × (new.nodes ≡ old.nodes) × (by ≡ sender)) (λ message. ComesTo seen failures armed sender message moment old.nodes by outcome new.nodes)
      → Posts moment by (sent_by outcome) old.sent new.sent → K
  came None sender by outcome was (refused, same, from) posted = nothing by outcome same (subst P (sym refused) tt) posted
  came (Some message) sender by outcome was comes posted = elim comes [
    | inl (to, turn, delivers, tells) ↦ (let w = was message refl in delivered message by turn w.0 w.1 delivers (as_told by outcome (told turn) tells posted))
    | inr (refused, same, from) ↦ nothing by outcome same (subst P (sym refused) tt) posted
  ]

  ticked : (node : StoreNode) (by : NodeId) (outcome : Upshot) → TicksAt seen failures armed moment node old.nodes outcome new.nodes → Posts moment by (sent_by outcome) old.sent new.sent → K
  ticked keepers.Master by outcome (place, turn, does, same, tells) posted = rests by outcome (ap (λ (n : Nodes D). n.clients) same) (subst P (sym tells) (ticked_master place turn does same)) posted
  ticked (keepers.Server id) by outcome (turn, at, tells) posted =
      at_server id (λ s. ServerDoes (servers.tick s moment) s) turn by (told turn) at (refused_none turn) (λ s after does. by_step (servers.tick s moment) s after turn (tick_by s moment) does) (as_told by outcome (told turn) tells posted)

  restarted : (node : StoreNode) (by : NodeId) (outcome : Upshot) → RestartsAt seen failures armed node old.nodes outcome new.nodes → Posts moment by (sent_by outcome) old.sent new.sent → K
  restarted keepers.Master by outcome (place, turn, does, same, tells) posted = rests by outcome (ap (λ (n : Nodes D). n.clients) same) (subst P (sym tells) (opened_master place turn does same)) posted
  restarted (keepers.Server id) by outcome (done, at, tells) posted = befalls id by (λ s d after. (d ≡ Ok tt) × (after ≡ servers.restart s)) outcome done at tells posted

  beats : (found : Option Server) (by : NodeId) (outcome : Upshot) → new.nodes ≡ old.nodes
      → MatchOption found (outcome ≡ Err refusals.Range) (λ s. (outcome ≡ Ok (servers.beat s ∷ [], None)) ⊎ (outcome ≡ Err refusals.Memory))
      → Posts moment by (sent_by outcome) old.sent new.sent → K
  beats None by outcome same refused posted = nothing by outcome same (subst P (sym refused) tt) posted
  beats (Some s) by outcome same told_so posted = elim told_so [
    | inl told_it ↦ nothing by outcome same (subst P (sym told_it) (tt, tt)) posted
    | inr refused ↦ nothing by outcome same (subst P (sym refused) tt) posted
  ]

  at_node : (happening : Happening) (by : NodeId) (outcome : Upshot) → HearsNamed moment happening old → AtNode seen failures armed moment happening old by outcome new.nodes → Posts moment by (sent_by outcome) old.sent new.sent → K
  at_node (happenings.Ask req request) by outcome named (is, (out, at, tells)) posted =
      at_client req.client (Err refusals.Range) (ClientAsks req.number request) out at (λ same refused. nothing by outcome same (subst P (sym tells) (subst (λ o. P (asked o)) (sym refused) tt)) posted)
      (λ n after found clients does. asked_by req.client req.number request out n after found clients does (subst (λ n. Posts moment n (sent_by (asked out)) old.sent new.sent) is (as_told by outcome (asked out) tells posted)))
  at_node (happenings.Deliver id) by outcome named comes posted = came (message_of old.sent id) id.sender by outcome (λ message is. ((id, is), named message is)) comes posted
  at_node (happenings.Tick node) by outcome named (is, does) posted = ticked node by outcome does posted
  at_node (happenings.Beat id) by outcome named (is, (same, told_so)) posted = beats (slice_get old.nodes.servers id) by outcome same told_so posted
  at_node (happenings.Restart node) by outcome named (is, does) posted = restarted node by outcome does posted
  at_node (happenings.Lose id handle) by outcome named (is, (done, at, tells)) posted = befalls id by (λ s d after. Does (servers.lose handle s) d s after) outcome done at tells posted
  at_node (happenings.Damage id handle block) by outcome named (is, (done, at, tells)) posted = befalls id by (λ s d after. Does (servers.damage handle block s) d s after) outcome done at tells posted
  at_node (happenings.FailDisk disk call) by outcome named (is, (with, tells)) posted = rests by outcome (ap (λ (n : Nodes D). n.clients) with) (subst P (sym tells) tt) posted

  takes : (client : ClientId) (found : Option Reply) → AtClient client None (λ n reply after. (reply ≡ n.reply) × (after ≡ given_up n)) old.nodes found new.nodes → new.sent ≡ old.sent → K
  takes client found at same =
      at_client client None (λ n reply after. (reply ≡ n.reply) × (after ≡ given_up n)) found at (λ still none. nothing ids.Master (Ok ([], None)) still tt (inr same))
      (λ n after is clients did. GoesOn client n after ids.Master moment is (λ was has. subst (HasAsked client.0 was) (sym did.1) (gives_up client.0 was n has)) clients (inr same))

-- any step, where what the master says is its own
module _ {D : Type 0} (seen : D → List ℕ) (failures : D → ℕ) (armed : DiskId → ℕ → MasterPlace D → MasterPlace D) where
  pub clients_go : (step : Step) (old new : History D) → Goes seen failures armed step old new → StepNamed step old
      → ((place : MasterPlace D) (messages : List Message) → new.nodes.master ≡ place → MasterGoes seen failures armed old.nodes.config old.sent old.nodes.master place messages → NoRequests messages) → ClientsGo old new
  clients_go (Comes event) old new (said, h) named master = at_node seen failures armed old new event.moment master event.happening h.by h.outcome named h.at (posts seen failures armed event.moment h.by h.outcome old.sent said new.sent h.tells)
  clients_go (Takes client) old new (found, taken, same) named master = takes seen failures armed old new (record { 0 = 0 }) master client found taken same
