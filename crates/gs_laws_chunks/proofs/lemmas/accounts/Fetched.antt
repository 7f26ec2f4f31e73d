-- Whatever is given at an event, a server gives where it is asked for it, and it is of a text of the chunk.
use Rattle.gs_laws_lift.specs.stores.Left.{left_in}
use Rattle.std.proofs.Common.{◌≡◌, ◌∙◌, ◌⊎◌, inl, inr, ℕ, List, [], ◌∷◌, None, Option, Some, Result, Ok, Err, refl, ap, subst, slice_get, slice_set}
use Rattle.std.specs.Prelude.{MatchOption, Vec}
use Rattle.std.specs.List.{AllByRecursion}
use Rattle.std.specs.declared.alloc.Global.{Global}
use Rattle.gs_base.specs.declared.numbers.ReqId.{ReqId}
use Rattle.gs_base.specs.declared.numbers.Stamp.{Stamp}
use Rattle.gs_base.specs.declared.refusal.Refusal.{Refusal}
use Rattle.gs_base.specs.declared.refusal.Refusal.TheVariants as refusals
use Rattle.gs_laws_chunks.proofs.lemmas.accounts.Told.{named}
use Rattle.gs_laws_chunks.specs.accounts.Accounts.{Account}
use Rattle.gs_laws_chunks.specs.accounts.Running.{IsReached, Moves, Setup}
use Rattle.gs_client.specs.Nodes.{Asks, Node}
use Rattle.gs_client.specs.Nodes as client
use Rattle.gs_laws_lift.proofs.lemmas.stores.Placing.{asked_of_client, one_client}
use Rattle.gs_laws_lift.specs.stores.Asking.{AreAskedIn}
use Rattle.gs_laws_lift.specs.stores.Going.{MasterGoes, MasterHeard, MasterOpened, MasterTicked}
use Rattle.gs_laws_lift.specs.stores.Saying.{AreOfClient, AreOfMaster, IsOfClient, IsOfMaster}
use Rattle.gs_laws_lift.specs.stores.Showing.{Life}
use Rattle.gs_master.specs.declared.turn.Turn.{Turn}
use Rattle.gs_laws_parts.proofs.lemmas.server.Ticks.{one_of_all}
use Rattle.gs_laws_parts.specs.server.Requests.{Asked, bytes_in}
use Rattle.gs_msg.specs.declared.body.Body.{Body}
use Rattle.gs_msg.specs.declared.body.Body.TheVariants as bodies
use Rattle.gs_msg.specs.declared.body.Given.{Given}
use Rattle.gs_msg.specs.declared.chunk.Asked.{Asked as Wanted}
use Rattle.gs_msg.specs.declared.chunk.Chunk.TheVariants as chunks
use Rattle.gs_msg.specs.declared.event.Event.{Event}
use Rattle.gs_msg.specs.declared.event.Happening.{Happening}
use Rattle.gs_msg.specs.declared.event.Happening.TheVariants as happenings
use Rattle.gs_msg.specs.declared.message.Message.{Message}
use Rattle.gs_msg.specs.declared.message.MsgId.{MsgId}
use Rattle.gs_msg.specs.declared.node.NodeId.{NodeId}
use Rattle.gs_msg.specs.declared.node.NodeId.TheVariants as nodes
use Rattle.gs_msg.specs.declared.node.StoreNode.{StoreNode}
use Rattle.gs_msg.specs.declared.node.StoreNode.TheVariants as keepers
use Rattle.gs_world.proofs.Reaching.{HaveSizes}
use Rattle.gs_world.specs.Histories.{AtNode, ComesTo, Happens, History, Restarts, Ticks, asked, silent, told}
use Rattle.gs_laws_world.specs.lasting.Lasting.{HearsNamed}
use Rattle.gs_world.specs.Runs.{Comes}
use Rattle.gs_world.specs.Sent.{message_of}
use Rattle.gs_server.specs.Servers.{Server, Step as ServerStep, handle_body}
use Rattle.gs_server.specs.Servers as servers
use Rattle.gs_nodes.specs.Happenings.{AtServer, ClientAsks, Delivers, Hears, ServerDoes, client_in}
use Rattle.gs_nodes.specs.Nodes.{Nodes, with_master, with_servers}
use Rattle.gs_nodes.specs.declared.place.MasterPlace.{MasterPlace}
use Rattle.gs_laws_chunks.proofs.lemmas.accounts.Edits.{AreNumbered}
use Rattle.gs_laws_chunks.proofs.lemmas.accounts.Fetching.{nothing_given, served}
use Rattle.gs_laws_chunks.proofs.lemmas.accounts.Given.{given_of_text}
use Rattle.gs_laws_chunks.proofs.lemmas.accounts.Giving.{GivesIf, IsFetchOf, handled_gives, tick_gives, without_none}
use Rattle.gs_laws_chunks.proofs.lemmas.accounts.Runs.{seen_of}
use Rattle.gs_laws_chunks.proofs.lemmas.accounts.MasterSays.{master_says}
use Rattle.gs_laws_chunks.proofs.lemmas.accounts.Well.{step_well}
use Rattle.gs_laws_chunks.proofs.lemmas.accounts.SeeingThrough.{reached_well, each_is_seen_through}
use Rattle.gs_laws_chunks.proofs.lemmas.accounts.Standing.{unborn_none}
use Rattle.gs_laws_chunks.specs.accounts.Reading.{BytesAreFetched, GivesBytes, IsOfText, WasFetched, sent_at}
use Rattle.gs_laws_chunks.specs.accounts.Seeing.{Sees}

-- ---- who gives nothing

abbrev NoneGives : List Message → Type 0
NoneGives messages = AllByRecursion (λ (m : Message). GivesIf (λ req. ⊥) m.body) messages

client_gives : (messages : List Message) → AreOfClient messages → NoneGives messages
client_gives [] are = tt
client_gives (m ∷ messages) are = (by_body m.body are.0, client_gives messages are.1)
  where
    by_body : (body : Body) → IsOfClient body → GivesIf (λ req. ⊥) body
    by_body (bodies.Bytes req (Ok given)) is = is
    by_body body is = tt

master_gives : (messages : List Message) → AreOfMaster messages → NoneGives messages
master_gives [] are = tt
master_gives (m ∷ messages) are = (by_body m.body are.0, master_gives messages are.1)
  where
    by_body : (body : Body) → IsOfMaster body → GivesIf (λ req. ⊥) body
    by_body (bodies.Bytes req (Ok given)) is = is
    by_body body is = tt

-- what gives something gives it so
gives_so : (P : ReqId → Type 0) (messages : List Message) (req : ReqId) (given : Given) → AllByRecursion (λ (m : Message). GivesIf P m.body) messages → GivesBytes messages req given → P req
gives_so P messages req given all gives = subst (GivesIf P) gives.2 (one_of_all (λ (m : Message). GivesIf P m.body) messages gives.0 all gives.1)

-- ---- an event

module _ (sizes : HaveSizes) (law : AreNumbered) {D : Type 0} (x : Setup D) (now next : History D) (a b : Account) (event : Event) (said : Result (Unit {0}) Refusal) (req : ReqId) (given : Given) (r : IsReached x now a) (moves : Moves x (Comes event) now a next b)
    (happens : Happens x.seen x.failures x.armed event now said next) (gives : GivesBytes (sent_at happens.outcome) req given) where
  abbrev Fetched : Type 0
  Fetched = WasFetched x.config.block x.config.chunk a now.sent event happens.by req given

  -- nothing is sent, or what is sent gives nothing
  nothing : {Z : Type 0} → sent_at happens.outcome ≡ [] → Z
  nothing none = nothing_given (sent_at happens.outcome) gives.0 none gives.1

  silently : {Z : Type 0} (messages : List Message) → sent_at happens.outcome ≡ messages → NoneGives messages → Z
  silently messages is none = absurd (gives_so (λ req. ⊥) messages req given none (subst (λ ms. GivesBytes ms req given) is gives))

  -- ---- the master

  by_master : {Z : Type 0} (place : MasterPlace D) (turn : Turn) → MasterGoes x.seen x.failures x.armed now.nodes.config now.sent now.nodes.master place turn.sent.items → next.nodes ≡ with_master place now.nodes → happens.outcome ≡ told (Ok turn) → Z
  by_master place turn goes same is =
      let well = reached_well x now a r in
      silently turn.sent.items (ap sent_at is) (master_gives turn.sent.items (master_says x now next place turn.sent.items well (step_well x r.begins.given (Comes event) now next well moves.steps) (ap (λ (n : Nodes D). n.master) same) goes))

  -- ---- a server

  by_server : {Z : Type 0} (id : ℕ) (step : Server → ServerStep) (turn : Result Turn Refusal) → AtServer id (λ s. ServerDoes (step s) s) now.nodes turn next.nodes → ((s : Server) → NoneGives (step s).sent) → happens.outcome ≡ told turn → Z
  by_server id step turn at none is = by_found (slice_get now.nodes.servers id) turn at is
    where
      by_turn : {Z : Type 0} (s after : Server) (turn : Result Turn Refusal) → ServerDoes (step s) s turn after → happens.outcome ≡ told turn → Z
      by_turn s after (Ok turn) does is = silently (step s).sent (ap sent_at is ∙ does.1) (none s)
      by_turn s after (Err e) does is = nothing (ap sent_at is)

      by_found : {Z : Type 0} (o : Option Server) (turn : Result Turn Refusal) → MatchOption o ((next.nodes ≡ now.nodes) × (turn ≡ Err refusals.Range)) (λ s. (after : Server) × (next.nodes ≡ with_servers (slice_set now.nodes.servers id after) now.nodes) × ServerDoes (step s) s turn after)
          → happens.outcome ≡ told turn → Z
      by_found None turn refused is = nothing (ap sent_at (is ∙ ap told refused.1))
      by_found (Some s) turn does is = by_turn s does.0 turn does.2 is

  silent_none : {Z : Type 0} (done : Result (Unit {0}) Refusal) → happens.outcome ≡ silent done → Z
  silent_none (Ok done) is = nothing (ap sent_at is)
  silent_none (Err e) is = nothing (ap sent_at is)

  by_beat : {Z : Type 0} (o : Option Server) → MatchOption o (happens.outcome ≡ Err refusals.Range) (λ s. (happens.outcome ≡ Ok (servers.beat s ∷ [], None)) ⊎ (happens.outcome ≡ Err refusals.Memory)) → Z
  by_beat None refused = nothing (ap sent_at refused)
  by_beat (Some s) (inl is) = silently (servers.beat s ∷ []) (ap sent_at is) (tt, tt)
  by_beat (Some s) (inr refused) = nothing (ap sent_at refused)

  -- ---- a message

  -- what is given of a chunk is of a text of it; of one that isn't born nothing is
  of_chunk : (s : Server) (id chunk : ℕ) (from : NodeId) (stamp : Stamp) (epoch : ℕ) (want : Wanted) → slice_get now.nodes.servers id ≡ Some s → GivesBytes (handle_body s from (bodies.About chunk (chunks.Fetch req stamp epoch want)) event.moment).sent req given
      → IsOfText x.config.block x.config.chunk a now.sent chunk want given
  of_chunk s id chunk from stamp epoch want found gives = by_life (sees.2.lives.life chunk) refl
    where
      sees : (asked : ℕ → Asked) × AreAskedIn asked now × Sees x asked (left_in now) a
      sees = each_is_seen_through sizes law x now a r

      by_life : (life : Life x.seen x.config (bytes_in sees.0) chunk (left_in now)) → sees.2.lives.life chunk ≡ life → IsOfText x.config.block x.config.chunk a now.sent chunk want given
      by_life (inl unborn) is =
          absurd (gives_so (λ req. ⊥) (handle_body s from (bodies.About chunk (chunks.Fetch req stamp epoch want)) event.moment).sent req given
          (without_none s from chunk req stamp epoch want event.moment (unborn_none x.seen (left_in now) id chunk s unborn found)) gives)
      by_life (inr alive) is = given_of_text x (bytes_in sees.0) chunk (left_in now) a (seen_of x sees.0 (left_in now) a sees.2 r.apart chunk alive is).0 id s found from req stamp epoch want event.moment given gives

  -- a server gives it only where it is asked for it
  by_served : (at : MsgId) (message : Message) (id : ℕ) → event.happening ≡ happenings.Deliver at → message_of now.sent at ≡ Some message → message.to ≡ nodes.Server id → happens.by ≡ message.to → Fetched
  by_served at message id is found to by =
      let serves = served x.seen x.failures x.armed event now next said happens at message id gives.0 is found to gives.1 in
      let sent : List Message = (handle_body serves.server message.from message.body event.moment).sent in
      let given_there : GivesBytes sent req given = subst (λ ms. GivesBytes ms req given) serves.sends gives in
      let fetch : IsFetchOf message.body req = gives_so (IsFetchOf message.body) sent req given (handled_gives serves.server message.from message.body event.moment) given_there in
      record {
        id = at;
        message = message;
        server = id;
        comes = is;
        was = found;
        to = to;
        there = by ∙ to;
        chunk = fetch.0;
        stamp = fetch.1;
        epoch = fetch.2;
        asked = fetch.3;
        asks = fetch.4;
        of = of_chunk serves.server id fetch.0 message.from fetch.1 fetch.2 fetch.3 serves.found (subst (λ body. GivesBytes (handle_body serves.server message.from body event.moment).sent req given) fetch.4 given_there);
      }

  by_receiver : (at : MsgId) (message : Message) (node : NodeId) (turn : Result Turn Refusal) → event.happening ≡ happenings.Deliver at → message_of now.sent at ≡ Some message → message.to ≡ node → happens.by ≡ message.to → HearsNamed event.moment (happenings.Deliver at) now
      → Hears x.seen x.failures message event.moment node now.nodes turn next.nodes → happens.outcome ≡ told turn → Fetched
  by_receiver at message nodes.Master (Ok turn) is found to by named_so (place, same, hears) told_it = by_master place turn (MasterHeard message event.moment turn (at, found) to (named_so message found to) hears refl) same told_it
  by_receiver at message nodes.Master (Err e) is found to by named_so hears told_it = nothing (ap sent_at told_it)
  by_receiver at message (nodes.Server id) turn is found to by named_so hears told_it = by_served at message id is found to by
  by_receiver at message (nodes.Client id) (Ok turn) is found to by named_so (other, there, says) told_it = nothing (ap sent_at told_it ∙ says.0)
  by_receiver at message (nodes.Client id) (Err e) is found to by named_so (other, there, says) told_it = absurd says

  by_delivery : (at : MsgId) (message : Message) (turn : Result Turn Refusal) → event.happening ≡ happenings.Deliver at → message_of now.sent at ≡ Some message → happens.by ≡ message.to → HearsNamed event.moment (happenings.Deliver at) now → Delivers x.seen x.failures message event.moment now.nodes turn next.nodes → happens.outcome ≡ told turn → Fetched
  unfolding Delivers
  by_delivery at message turn is found by named_so delivers told_it = by_receiver at message message.to turn is found refl by named_so delivers told_it

  by_message : (at : MsgId) (o : Option Message) → event.happening ≡ happenings.Deliver at → message_of now.sent at ≡ o → HearsNamed event.moment (happenings.Deliver at) now
      → MatchOption o ((happens.outcome ≡ Err refusals.Range) × (next.nodes ≡ now.nodes) × (happens.by ≡ at.sender)) (λ message. ComesTo x.seen x.failures x.armed at.sender message event.moment now.nodes happens.by happens.outcome next.nodes) → Fetched
  by_message at None is found named_so refused = nothing (ap sent_at refused.0)
  by_message at (Some message) is found named_so (inl (by, turn, delivers, told_it)) = by_delivery at message turn is found by named_so delivers told_it
  by_message at (Some message) is found named_so (inr refused) = nothing (ap sent_at refused.0)

  -- ---- any event

  by_tick : {Z : Type 0} (node : StoreNode) → Ticks x.seen x.failures x.armed event.moment node now.nodes happens.outcome next.nodes → Z
  by_tick keepers.Master (place, Ok turn, ticks, same, told_it) = by_master place turn (MasterTicked event.moment turn ticks refl) same told_it
  by_tick keepers.Master (place, Err e, ticks, same, told_it) = nothing (ap sent_at told_it)
  by_tick (keepers.Server id) (turn, at, told_it) = by_server id (λ s. servers.tick s event.moment) turn at (λ s. tick_gives (λ req. ⊥) s event.moment) told_it

  by_restart : {Z : Type 0} (node : StoreNode) → Restarts x.seen x.failures x.armed node now.nodes happens.outcome next.nodes → Z
  by_restart keepers.Master (place, Ok turn, opens, same, told_it) = by_master place turn (MasterOpened turn opens refl) same told_it
  by_restart keepers.Master (place, Err e, opens, same, told_it) = nothing (ap sent_at told_it)
  by_restart (keepers.Server id) (done, at, told_it) = silent_none done told_it

  by_happening : (happening : Happening) → event.happening ≡ happening → HearsNamed event.moment happening now → AtNode x.seen x.failures x.armed event.moment happening now happens.by happens.outcome next.nodes → Fetched
  by_happening (happenings.Ask asks request) is named_so (by, (out, at, told_it)) =
      silently (sent_at (asked out)) (ap sent_at told_it) (client_gives (sent_at (asked out))
      (one_client (λ o. AreOfClient (sent_at (asked o))) (client_in now.nodes.clients asks.client) asks.client (Err refusals.Range) (ClientAsks asks.number request) now.nodes out next.nodes at tt (λ n after did. of_client n out after did)))
    where
      of_client : (n : Node) (out : Result (Vec Message Global) Refusal) (after : Node) → Asks (client.asks asks.number request n) out n after → AreOfClient (sent_at (asked out))
      of_client n (Ok sent) after did = asked_of_client asks.number request n (Ok sent) after did
      of_client n (Err e) after did = tt
  by_happening (happenings.Deliver at) is named_so comes = by_message at (message_of now.sent at) is refl named_so comes
  by_happening (happenings.Tick node) is named_so (by, does) = by_tick node does
  by_happening (happenings.Beat id) is named_so (by, (same, beats)) = by_beat (slice_get now.nodes.servers id) beats
  by_happening (happenings.Restart node) is named_so (by, does) = by_restart node does
  by_happening (happenings.Lose id handle) is named_so (by, (done, at, told_it)) = silent_none done told_it
  by_happening (happenings.Damage id handle block) is named_so (by, (done, at, told_it)) = silent_none done told_it
  by_happening (happenings.FailDisk disk call) is named_so (by, (with, told_it)) = silent_none (Ok tt) told_it

  was_fetched : Fetched
  was_fetched = let well = reached_well x now a r in by_happening event.happening refl (named x (Comes event) now moves.steps.within well.types) happens.at

pub bytes_are_fetched : HaveSizes → AreNumbered → {D : Type 0} (x : Setup D) → BytesAreFetched x
bytes_are_fetched sizes law x now next a b event said req given r moves happens gives = was_fetched sizes law x now next a b event said req given r moves happens gives
