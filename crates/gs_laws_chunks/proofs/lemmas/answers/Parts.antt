-- What an event is: something at the master, at a server or at a client; and what it leaves of the others.
use Rattle.std.proofs.Common.{if◌then◌else◌, ◌≡◌, ◌∙◌, ◌⊎◌, ◌-◌, ℕ, zero, suc, Bool, true, false, List, [], ◌∷◌, Option, Some, None, MatchOption, Result, Ok, Err, Vec, refl, sym, ap, subst, inl, inr, nat_le, slice_get, slice_set}
use Rattle.std.specs.Prelude.{}
use Rattle.std.specs.declared.alloc.Global.{Global}
use Rattle.gs_base.specs.declared.numbers.ClientId.{ClientId}
use Rattle.gs_base.specs.declared.numbers.Moment.{Moment}
use Rattle.gs_base.specs.declared.numbers.ReqId.{ReqId}
use Rattle.gs_base.specs.declared.refusal.Refusal.{Refusal}
use Rattle.gs_base.specs.declared.refusal.Refusal.TheVariants as refusals
use Rattle.gs_base.specs.Calls.{Does}
use Rattle.gs_client.specs.Nodes.{Asks, Node, asks, hears, messages_of, request_of}
use Rattle.gs_master.specs.declared.turn.Turn.{Turn}
use Rattle.gs_msg.specs.declared.event.DiskId.{DiskId}
use Rattle.gs_msg.specs.declared.event.Happening.{Happening}
use Rattle.gs_msg.specs.declared.event.Happening.TheVariants as happenings
use Rattle.gs_msg.specs.declared.event.Request.{Request}
use Rattle.gs_msg.specs.declared.message.Message.{Message}
use Rattle.gs_msg.specs.declared.message.MsgId.{MsgId}
use Rattle.gs_msg.specs.declared.node.NodeId.{NodeId}
use Rattle.gs_msg.specs.declared.node.NodeId.TheVariants as ids
use Rattle.gs_msg.specs.declared.node.StoreNode.{StoreNode}
use Rattle.gs_msg.specs.declared.node.StoreNode.TheVariants as keepers
use Rattle.gs_server.specs.Servers.{Server, Step as ServerStep}
use Rattle.gs_server.specs.Servers as servers
use Rattle.gs_nodes.specs.Happenings.{AtServer, ClientHears, Delivers, Hears, MasterHears, MasterTicks, Reopens, ServerDoes, client_in, met_by}
use Rattle.gs_nodes.specs.Nodes.{Nodes, with_clients, with_master, with_servers}
use Rattle.gs_nodes.specs.declared.place.MasterPlace.{MasterPlace}
use Rattle.gs_nodes.specs.declared.place.MasterPlace.TheVariants as places
use Rattle.gs_world.specs.Histories.{AtNode, ComesTo, History, Upshot, Restarts, Ticks, asked, silent, told}
use Rattle.gs_world.specs.Sent.{message_of}
use Rattle.gs_laws_chunks.specs.answers.Answered.{sent_by}
use Rattle.gs_laws_parts.proofs.lemmas.server.Elsewhere.{ByServer}
use Rattle.gs_laws_lift.proofs.lemmas.stores.AskingServers.{handled_by, tick_by}

-- a client that asks under this number
abbrev pub asking : Node → ℕ → Node
asking n number = record { id = n.id; last = number; waiting = Some number; reply = None }

-- a client behind what it hears: what it refuses leaves it
abbrev pub hearing : Result Node Refusal → Node → Node
hearing (Ok after) n = after
hearing (Err refusal) n = n

abbrev pub with_client : {D : Type 0} → ClientId → Node → Nodes D → Nodes D
with_client id after old = with_clients (slice_set old.clients (id.0 - 1) after) old

module _ {D : Type 0} (seen : D → List ℕ) (failures : D → ℕ) (armed : DiskId → ℕ → MasterPlace D → MasterPlace D) where
  pub data Part (old : History D) (moment : Moment) (happening : Happening) (outcome : Upshot) (new : Nodes D) : Type 0 where
    -- the master hears a message, ticks, or is opened again; or a failure of a disk of it is arranged
    Heard : (id : MsgId) (message : Message) (turn : Turn) (place : MasterPlace D) → happening ≡ happenings.Deliver id → message_of old.sent id ≡ Some message → message.to ≡ ids.Master
        → MasterHears seen failures message moment old.nodes.master (Ok turn) place → outcome ≡ told (Ok turn) → new ≡ with_master place old.nodes → Part old moment happening outcome new
    Ticked : (turn : Turn) (place : MasterPlace D) → happening ≡ happenings.Tick keepers.Master → MasterTicks seen failures moment old.nodes.master (Ok turn) place → outcome ≡ told (Ok turn) → new ≡ with_master place old.nodes → Part old moment happening outcome new
    Opened : (turn : Result Turn Refusal) (place : MasterPlace D) → happening ≡ happenings.Restart keepers.Master → Reopens seen failures old.nodes.config old.nodes.master turn place → outcome ≡ told turn → new ≡ with_master place old.nodes
        → Part old moment happening outcome new
    Armed : (disk : DiskId) (call : ℕ) → happening ≡ happenings.FailDisk disk call → sent_by outcome ≡ [] → new ≡ with_master (armed disk call old.nodes.master) old.nodes → Part old moment happening outcome new
    -- something happens at a server
    Served : ByServer (sent_by outcome) → new.clients ≡ old.nodes.clients → new.master ≡ old.nodes.master → Part old moment happening outcome new
    -- a client asks; or it hears what was sent
    Asked : (req : ReqId) (request : Request) (n : Node) → happening ≡ happenings.Ask req request → client_in old.nodes.clients req.client ≡ Some n → nat_le req.number n.last ≡ false → sent_by outcome ≡ messages_of (request_of n req.number) request
        → new ≡ with_client req.client (asking n req.number) old.nodes → Part old moment happening outcome new
    Told : (id : MsgId) (message : Message) (client : ClientId) (n : Node) → happening ≡ happenings.Deliver id → message_of old.sent id ≡ Some message → client_in old.nodes.clients client ≡ Some n → sent_by outcome ≡ []
        → new ≡ with_client client (hearing (hears message.body n) n) old.nodes → Part old moment happening outcome new
    -- nothing happens
    Rested : sent_by outcome ≡ [] → new ≡ old.nodes → Part old moment happening outcome new

  module _ (old : History D) (moment : Moment) (happening : Happening) (outcome : Upshot) (new : Nodes D) where
    abbrev P : Type 0
    P = Part old moment happening outcome new

    -- ---- a server

    found_server : {A : Type 0} (found : Option Server) (id : ℕ) (does : Server → Result A Refusal → Server → Type 0) (result : Result A Refusal)
        → MatchOption found ((new ≡ old.nodes) × (result ≡ Err refusals.Range)) (λ s. (after : Server) × (new ≡ with_servers (slice_set old.nodes.servers id after) old.nodes) × does s result after)
        → (result ≡ Err refusals.Range → sent_by outcome ≡ []) → ((s after : Server) → does s result after → ByServer (sent_by outcome)) → P
    found_server None id does result (same, refused) nobody some = Rested (nobody refused) same
    found_server (Some s) id does result (after, same, did) nobody some = Served (some s after did) (ap (λ (n : Nodes D). n.clients) same) (ap (λ (n : Nodes D). n.master) same)

    at_server : {A : Type 0} (id : ℕ) (does : Server → Result A Refusal → Server → Type 0) (result : Result A Refusal) → AtServer id does old.nodes result new
        → (result ≡ Err refusals.Range → sent_by outcome ≡ []) → ((s after : Server) → does s result after → ByServer (sent_by outcome)) → P
    at_server id does result at nobody some = found_server (slice_get old.nodes.servers id) id does result at nobody some

    none_sent : (turn : Result Turn Refusal) → outcome ≡ told turn → turn ≡ Err refusals.Range → sent_by outcome ≡ []
    none_sent turn is refused = ap sent_by is ∙ ap (λ (r : Result Turn Refusal). sent_by (told r)) refused

    by_step : (step : ServerStep) (s after : Server) (turn : Result Turn Refusal) → outcome ≡ told turn → ByServer step.sent → ServerDoes step s turn after → ByServer (sent_by outcome)
    by_step step s after (Ok turn) is by (there, sends, says) = subst ByServer (sym (ap sent_by is ∙ sends)) by
    by_step step s after (Err refusal) is by (there, memory) = subst ByServer (sym (ap sent_by is)) tt

    silent_none : (done : Result (Unit {0}) Refusal) → outcome ≡ silent done → sent_by outcome ≡ []
    silent_none (Ok done) is = ap sent_by is
    silent_none (Err refusal) is = ap sent_by is

    silent_by : (done : Result (Unit {0}) Refusal) → outcome ≡ silent done → ByServer (sent_by outcome)
    silent_by done is = subst ByServer (sym (silent_none done is)) tt

    -- ---- the master

    hears_still : (message : Message) (place before : MasterPlace D) (e : Refusal) → MasterHears seen failures message moment before (Err e) place → place ≡ before
    hears_still message place (places.Standing m) e (after, is, why) = is ∙ ap places.Standing why.1
    hears_still message place (places.Closed first second) e meets = meets.0
    hears_still message place places.Away e meets = meets.0

    ticks_still : (place before : MasterPlace D) (e : Refusal) → MasterTicks seen failures moment before (Err e) place → place ≡ before
    ticks_still place (places.Standing m) e (after, is, why) = is ∙ ap places.Standing why.1
    ticks_still place (places.Closed first second) e meets = meets.0
    ticks_still place places.Away e meets = meets.0

    stays : (place : MasterPlace D) → place ≡ old.nodes.master → new ≡ with_master place old.nodes → new ≡ old.nodes
    stays place is same = same ∙ ap (λ (p : MasterPlace D). with_master p old.nodes) is

    hears_master : (id : MsgId) (message : Message) (turn : Result Turn Refusal) (place : MasterPlace D) → happening ≡ happenings.Deliver id → message_of old.sent id ≡ Some message → message.to ≡ ids.Master
        → MasterHears seen failures message moment old.nodes.master turn place → outcome ≡ told turn → new ≡ with_master place old.nodes → P
    hears_master id message (Ok turn) place it was to hears is same = Heard id message turn place it was to hears is same
    hears_master id message (Err e) place it was to hears is same = Rested (ap sent_by is) (stays place (hears_still message place old.nodes.master e hears) same)

    ticks_master : (turn : Result Turn Refusal) (place : MasterPlace D) → happening ≡ happenings.Tick keepers.Master → MasterTicks seen failures moment old.nodes.master turn place → outcome ≡ told turn → new ≡ with_master place old.nodes → P
    ticks_master (Ok turn) place it ticks is same = Ticked turn place it ticks is same
    ticks_master (Err e) place it ticks is same = Rested (ap sent_by is) (stays place (ticks_still place old.nodes.master e ticks) same)

    -- ---- a client

    set_same : (xs : List Node) (i : ℕ) (x : Node) → slice_get xs i ≡ Some x → slice_set xs i x ≡ xs
    set_same [] i x is = refl
    set_same (y ∷ xs) zero x is = (let e : y ≡ x = cc in λ j. sym e j ∷ xs)
    set_same (y ∷ xs) (suc i) x is = ap (λ (zs : List Node). y ∷ zs) (set_same xs i x is)

    numbered : (nought : Bool) (found : Option Node) (n : Node) → (if nought then None else found) ≡ Some n → found ≡ Some n
    numbered true found n is = absurd cc
    numbered false found n is = is

    put_same : (id : ClientId) (n : Node) → client_in old.nodes.clients id ≡ Some n → with_client id n old.nodes ≡ old.nodes
    put_same id n found = ap (λ (xs : List Node). with_clients xs old.nodes) (set_same old.nodes.clients (id.0 - 1) n (numbered _ (slice_get old.nodes.clients (id.0 - 1)) n found))

    asks_one : (req : ReqId) (request : Request) (n after : Node) (out : Result (Vec Message Global) Refusal) → happening ≡ happenings.Ask req request → client_in old.nodes.clients req.client ≡ Some n → outcome ≡ asked out
        → new ≡ with_client req.client after old.nodes → Asks (asks req.number request n) out n after → P
    asks_one req request n after out it found is same a = by_old (nat_le req.number n.last) refl out is a
      where
        rests : after ≡ n → sent_by outcome ≡ [] → P
        rests still none = Rested none (same ∙ ap (λ (x : Node). with_client req.client x old.nodes) still ∙ put_same req.client n found)

        by_old : (b : Bool) → nat_le req.number n.last ≡ b → (out : Result (Vec Message Global) Refusal) → outcome ≡ asked out
            → Asks (if b then Err refusals.Old else Ok (asking n req.number, messages_of (request_of n req.number) request)) out n after → P
        by_old true test (Ok sent) is never = absurd never
        by_old true test (Err e) is (refused, still) = rests still (ap sent_by is)
        by_old false test (Ok sent) is (there, sends) = Asked req request n it found test (ap sent_by is ∙ sends) (same ∙ ap (λ (x : Node). with_client req.client x old.nodes) there)
        by_old false test (Err e) is (refused, still) = rests still (ap sent_by is)

    asks_found : (found : Option Node) (req : ReqId) (request : Request) (out : Result (Vec Message Global) Refusal) → happening ≡ happenings.Ask req request → client_in old.nodes.clients req.client ≡ found → outcome ≡ asked out
        → MatchOption found ((new ≡ old.nodes) × (out ≡ Err refusals.Range)) (λ n. (after : Node) × (new ≡ with_client req.client after old.nodes) × Asks (asks req.number request n) out n after) → P
    asks_found None req request out it found is (same, refused) = Rested (ap sent_by is ∙ ap (λ (o : Result (Vec Message Global) Refusal). sent_by (asked o)) refused) same
    asks_found (Some n) req request out it found is (after, same, a) = asks_one req request n after out it found is same a

    hears_one : (change : Result Node Refusal) (done : Result (Unit {0}) Refusal) (n after : Node) → Does change done n after → after ≡ hearing change n
    hears_one (Ok made) (Ok done) n after does = does
    hears_one (Ok made) (Err e) n after does = absurd does
    hears_one (Err refused) (Ok done) n after does = absurd does
    hears_one (Err refused) (Err e) n after does = does.1

    tells_found : (found : Option Node) (id : MsgId) (message : Message) (client : ClientId) (said : Option Refusal) → happening ≡ happenings.Deliver id → message_of old.sent id ≡ Some message → client_in old.nodes.clients client ≡ found → sent_by outcome ≡ []
        → MatchOption found ((new ≡ old.nodes) × (said ≡ None)) (λ n. (after : Node) × (new ≡ with_client client after old.nodes) × ClientHears message.body n said after) → P
    tells_found None id message client said it was found none (same, refused) = Rested none same
    tells_found (Some n) id message client said it was found none (after, same, did) =
        Told id message client n it was found none (same ∙ ap (λ (x : Node). with_client client x old.nodes) (hears_one (hears message.body n) (met_by said) n after did))

    -- ---- any event

    heard_at : (id : MsgId) (message : Message) (to : NodeId) (turn : Result Turn Refusal) → happening ≡ happenings.Deliver id → message_of old.sent id ≡ Some message → message.to ≡ to → Hears seen failures message moment to old.nodes turn new → outcome ≡ told turn → P
    heard_at id message ids.Master turn it was to (place, same, hears) is = hears_master id message turn place it was to hears is same
    heard_at id message (ids.Server server) turn it was to at is =
        at_server server (λ s. ServerDoes (servers.handle s message moment) s) turn at (none_sent turn is) (λ s after does. by_step (servers.handle s message moment) s after turn is (handled_by s message moment) does)
    heard_at id message (ids.Client client) (Ok turn) it was to (said, at, says) is = tells_found (client_in old.nodes.clients client) id message client said it was refl (ap sent_by is ∙ says.0) at
    heard_at id message (ids.Client client) (Err e) it was to (said, at, says) is = absurd says

    delivered : (id : MsgId) (message : Message) (turn : Result Turn Refusal) → happening ≡ happenings.Deliver id → message_of old.sent id ≡ Some message → Delivers seen failures message moment old.nodes turn new → outcome ≡ told turn → P
    unfolding Delivers
    delivered id message turn it was hears is = heard_at id message message.to turn it was refl hears is

    came : (found : Option Message) (id : MsgId) (by : NodeId) → happening ≡ happenings.Deliver id → message_of old.sent id ≡ found
        → MatchOption found ((outcome ≡ Err refusals.Range) × (new ≡ old.nodes) × (by ≡ id.sender)) (λ message. ComesTo seen failures armed id.sender message moment old.nodes by outcome new) → P
    came None id by it was (refused, same, from) = Rested (ap sent_by refused) same
    came (Some message) id by it was comes = elim comes [
      | inl (to, turn, delivers, tells) ↦ delivered id message turn it was delivers tells
      | inr (refused, same, from) ↦ Rested (ap sent_by refused) same
    ]

    ticked : (node : StoreNode) → happening ≡ happenings.Tick node → Ticks seen failures armed moment node old.nodes outcome new → P
    ticked keepers.Master it (place, turn, does, same, tells) = ticks_master turn place it does tells same
    ticked (keepers.Server id) it (turn, at, tells) = at_server id (λ s. ServerDoes (servers.tick s moment) s) turn at (none_sent turn tells) (λ s after does. by_step (servers.tick s moment) s after turn tells (tick_by s moment) does)

    restarted : (node : StoreNode) → happening ≡ happenings.Restart node → Restarts seen failures armed node old.nodes outcome new → P
    restarted keepers.Master it (place, turn, does, same, tells) = Opened turn place it does tells same
    restarted (keepers.Server id) it (done, at, tells) = at_server id (λ s d after. (d ≡ Ok tt) × (after ≡ servers.restart s)) done at (λ refused. silent_none done tells) (λ s after does. silent_by done tells)

    befell : (id : ℕ) (does : Server → Result (Unit {0}) Refusal → Server → Type 0) (done : Result (Unit {0}) Refusal) → AtServer id does old.nodes done new → outcome ≡ silent done → P
    befell id does done at tells = at_server id does done at (λ refused. silent_none done tells) (λ s after did. silent_by done tells)

    beats : (found : Option Server) → new ≡ old.nodes → MatchOption found (outcome ≡ Err refusals.Range) (λ s. (outcome ≡ Ok (servers.beat s ∷ [], None)) ⊎ (outcome ≡ Err refusals.Memory)) → P
    beats None same refused = Rested (ap sent_by refused) same
    beats (Some s) same told_so = elim told_so [
      | inl is ↦ Served (subst ByServer (sym (ap sent_by is)) (tt, tt)) (ap (λ (n : Nodes D). n.clients) same) (ap (λ (n : Nodes D). n.master) same)
      | inr refused ↦ Rested (ap sent_by refused) same
    ]

  pub part_of : (old : History D) (moment : Moment) (happening : Happening) (by : NodeId) (outcome : Upshot) (new : Nodes D) → AtNode seen failures armed moment happening old by outcome new → Part old moment happening outcome new
  part_of old moment (happenings.Ask req request) by outcome new (is, (out, at, tells)) = asks_found old moment (happenings.Ask req request) outcome new (client_in old.nodes.clients req.client) req request out refl refl tells at
  part_of old moment (happenings.Deliver id) by outcome new comes = came old moment (happenings.Deliver id) outcome new (message_of old.sent id) id by refl refl comes
  part_of old moment (happenings.Tick node) by outcome new (is, does) = ticked old moment (happenings.Tick node) outcome new node refl does
  part_of old moment (happenings.Beat id) by outcome new (is, (same, tells)) = beats old moment (happenings.Beat id) outcome new (slice_get old.nodes.servers id) same tells
  part_of old moment (happenings.Restart node) by outcome new (is, does) = restarted old moment (happenings.Restart node) outcome new node refl does
  part_of old moment (happenings.Lose id handle) by outcome new (is, (done, at, tells)) = befell old moment (happenings.Lose id handle) outcome new id (λ s d after. Does (servers.lose handle s) d s after) done at tells
  part_of old moment (happenings.Damage id handle block) by outcome new (is, (done, at, tells)) = befell old moment (happenings.Damage id handle block) outcome new id (λ s d after. Does (servers.damage handle block s) d s after) done at tells
  part_of old moment (happenings.FailDisk disk call) by outcome new (is, (with, tells)) = Armed disk call refl (ap sent_by tells) with
