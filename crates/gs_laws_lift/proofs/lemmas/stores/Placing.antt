-- Each step of a store is something at one server, at the master, or elsewhere.
use Rattle.std.proofs.Common.{if◌then◌else◌, ◌≡◌, ◌∙◌, ◌⊎◌, ◌++◌, ◌-◌, ℕ, zero, suc, Bool, true, false, List, [], ◌∷◌, Option, Some, None, MatchOption, Result, Ok, Err, Vec, refl, sym, ap, subst, inl, inr, nat_le, slice_get, slice_set}
use Rattle.std.specs.Prelude.{}
use Rattle.std.specs.declared.alloc.Global.{Global}
use Rattle.gs_base.specs.declared.numbers.ClientId.{ClientId}
use Rattle.gs_base.specs.declared.numbers.Moment.{Moment}
use Rattle.gs_base.specs.declared.numbers.ReqId.{ReqId}
use Rattle.gs_base.specs.declared.refusal.Refusal.{Refusal}
use Rattle.gs_base.specs.declared.refusal.Refusal.TheVariants as refusals
use Rattle.gs_base.specs.Calls.{Does}
use Rattle.gs_client.specs.Nodes.{Asks, Node, asks, given_up, messages_of, pushes, request_of, with_bytes}
use Rattle.gs_master.specs.declared.turn.Turn.{Turn}
use Rattle.gs_msg.specs.Nodes.{as_node}
use Rattle.gs_msg.specs.declared.event.DiskId.{DiskId}
use Rattle.gs_msg.specs.declared.event.Happening.{Happening}
use Rattle.gs_msg.specs.declared.event.Happening.TheVariants as happenings
use Rattle.gs_msg.specs.declared.event.Request.{Request}
use Rattle.gs_msg.specs.declared.event.Request.TheVariants as requests
use Rattle.gs_msg.specs.declared.message.Message.{Message}
use Rattle.gs_msg.specs.declared.message.MsgId.{MsgId}
use Rattle.gs_msg.specs.declared.node.NodeId.{NodeId}
use Rattle.gs_msg.specs.declared.node.NodeId.TheVariants as ids
use Rattle.gs_msg.specs.declared.node.StoreNode.{StoreNode}
use Rattle.gs_msg.specs.declared.node.StoreNode.TheVariants as keepers
use Rattle.gs_server.specs.Runs.{unless_refused}
use Rattle.gs_server.specs.Servers.{Server, Step as ServerStep}
use Rattle.gs_server.specs.Servers as servers
use Rattle.gs_nodes.specs.Happenings.{AtClient, AtServer, ClientAsks, ClientHears, Delivers, Hears as HearsAt, MasterHears, MasterTicks, Reopens, ServerDoes, client_in}
use Rattle.gs_nodes.specs.Nodes.{Nodes, with_clients, with_master, with_servers}
use Rattle.gs_nodes.specs.declared.place.MasterPlace.{MasterPlace}
use Rattle.gs_nodes.specs.declared.place.MasterPlace.TheVariants as places
use Rattle.gs_world.specs.Histories.{AtNode, ComesTo, History, Upshot, Restarts as RestartsAt, Tells, Ticks as TicksAt, asked, silent, told}
use Rattle.gs_laws_world.specs.lasting.Lasting.{HearsNamed, StepNamed}
use Rattle.gs_world.specs.Runs.{Comes, Goes, Step, Takes}
use Rattle.gs_base.specs.Told.{IsNumber}
use Rattle.gs_laws_master.specs.Standing.{IsNamedBody}
use Rattle.gs_world.specs.Sent.{IsSent, Sent, message_of}
use Rattle.gs_laws_lift.specs.stores.Saying.{AreOfClient}
use Rattle.gs_laws_lift.specs.stores.Going.{Beats, Damages, Elsewhere, Hears, Kind, Loses, MasterArmed, MasterGoes, MasterHeard, MasterOpened, MasterTicked, MasterUnopened, OfMaster, OfServer, Posts, Restarts, ServerGoes, Ticks, IsMet}

-- ---- what goes out

-- what an outcome sends
abbrev pub sent_by : Upshot → List Message
sent_by (Ok (messages, said)) = messages
sent_by (Err refusal) = []

module _ {D : Type 0} (seen : D → List ℕ) (failures : D → ℕ) (armed : DiskId → ℕ → MasterPlace D → MasterPlace D) where
  pub posts : (moment : Moment) (by : NodeId) (outcome : Upshot) (old : Sent) (result : Result (Unit {0}) Refusal) (new : Sent) → Tells seen failures armed moment by outcome old result new → Posts moment by (sent_by outcome) old new
  posts moment by (Ok (messages, said)) old result new (posted, is) = inl posted
  posts moment by (Err refusal) old result new (same, is) = inr same

-- ---- clients

pushes_of_client : (req : ReqId) (members : List ℕ) (bytes : List ℕ) → AreOfClient (pushes req members bytes)
pushes_of_client req [] bytes = tt
pushes_of_client req (member ∷ members) bytes = (tt, pushes_of_client req members bytes)

both_of_client : (xs ys : List Message) → AreOfClient xs → AreOfClient ys → AreOfClient (xs ++ ys)
both_of_client [] ys a b = b
both_of_client (x ∷ xs) ys a b = (a.0, both_of_client xs ys a.1 b)

request_of_client : (req : ReqId) (request : Request) → AreOfClient (messages_of req request)
request_of_client req (requests.Call call) = (tt, tt)
request_of_client req (requests.Write handle members primary stamp op bytes) = both_of_client (pushes req (with_bytes members op) bytes) _ (pushes_of_client req (with_bytes members op) bytes) (tt, tt)
request_of_client req (requests.Fetch to handle stamp epoch what) = (tt, tt)

pub asked_of_client : (number : ℕ) (request : Request) (n : Node) (out : Result (Vec Message Global) Refusal) (after : Node) → Asks (asks number request n) out n after → AreOfClient (sent_by (asked out))
asked_of_client number request n out after a = by_old (nat_le number n.last) out a
  where
    by_old : (b : Bool) (out : Result (Vec Message Global) Refusal)
        → Asks (if b then Err refusals.Old else Ok (record { id = n.id; last = number; waiting = Some number; reply = None }, messages_of (request_of n number) request)) out n after
        → AreOfClient (sent_by (asked out))
    by_old true (Ok sent) never = absurd never
    by_old true (Err e) same = tt
    by_old false (Ok sent) (is, sends) = subst AreOfClient (sym sends) (request_of_client (request_of n number) request)
    by_old false (Err e) same = tt

-- a client leaves the others
record Leaves {D : Type 0} (old new : Nodes D) : Type 0 where
  servers : new.servers ≡ old.servers
  master : new.master ≡ old.master

left : {D : Type 0} (old new : Nodes D) → new ≡ old → Leaves old new
left old new same = record { servers = ap (λ (n : Nodes _). n.servers) same; master = ap (λ (n : Nodes _). n.master) same }

found_client : {A D : Type 0} (found : Option Node) (id : ClientId) (none : A) (does : Node → A → Node → Type 0) (old : Nodes D) (result : A) (new : Nodes D)
    → MatchOption found ((new ≡ old) × (result ≡ none)) (λ n. (after : Node) × (new ≡ with_clients (slice_set old.clients (id.0 - 1) after) old) × does n result after) → Leaves old new
found_client None id none does old result new (same, refused) = left old new same
found_client (Some n) id none does old result new (after, same, did) = record { servers = ap (λ (n : Nodes _). n.servers) same; master = ap (λ (n : Nodes _). n.master) same }

at_client : {A D : Type 0} (id : ClientId) (none : A) (does : Node → A → Node → Type 0) (old : Nodes D) (result : A) (new : Nodes D) → AtClient id none does old result new → Leaves old new
at_client id none does old result new at = found_client (client_in old.clients id) id none does old result new at

-- what one client does, if there is one
pub one_client : {A D : Type 0} (P : A → Type 0) (found : Option Node) (id : ClientId) (none : A) (does : Node → A → Node → Type 0) (old : Nodes D) (result : A) (new : Nodes D)
    → MatchOption found ((new ≡ old) × (result ≡ none)) (λ n. (after : Node) × (new ≡ with_clients (slice_set old.clients (id.0 - 1) after) old) × does n result after)
    → P none → ((n after : Node) → does n result after → P result) → P result
one_client P None id none does old result new (same, refused) nobody some = subst P (sym refused) nobody
one_client P (Some n) id none does old result new (after, same, did) nobody some = some n after did

-- ---- a server

module _ {D : Type 0} (seen : D → List ℕ) (failures : D → ℕ) (armed : DiskId → ℕ → MasterPlace D → MasterPlace D) (step : Step) (old new : History D) (moment : Moment) where
  abbrev K : Type 0
  K = Kind seen failures armed step old new

  -- this is what the step is
  abbrev Is : Happening → Type 0
  Is happening = step ≡ Comes (record { moment = moment; happening = happening })

  -- this message is delivered
  abbrev Delivered : Message → Type 0
  Delivered message = (at : MsgId) × (message_of old.sent at ≡ Some message) × Is (happenings.Deliver at)

  -- something at a server that the step is
  abbrev Serves : ℕ → Server → Server → List Message → Type 0
  Serves id s after messages = (goes : ServerGoes old.sent id s after messages) × IsMet step goes

  -- nothing happens at the nodes, and nothing goes out
  nothing : (by : NodeId) (outcome : Upshot) → sent_by outcome ≡ [] → new.nodes ≡ old.nodes → Posts moment by (sent_by outcome) old.sent new.sent → K
  nothing by outcome none same posted =
      let l = left old.nodes new.nodes same in Elsewhere by [] moment tt l.servers l.master (subst (λ ms. Posts moment by ms old.sent new.sent) none posted)

  -- a server goes on
  goes : (id : ℕ) (s after : Server) (messages : List Message) → slice_get old.nodes.servers id ≡ Some s → Serves id s after messages
      → new.nodes ≡ with_servers (slice_set old.nodes.servers id after) old.nodes → Posts moment (ids.Server id) messages old.sent new.sent → K
  goes id s after messages found g same posted = OfServer id s after messages moment found g.0 g.1 (ap (λ (n : Nodes D). n.servers) same) (ap (λ (n : Nodes D). n.master) same) posted

  -- it stays, and sends nothing
  stays : (id : ℕ) (s after : Server) (outcome : Upshot) → slice_get old.nodes.servers id ≡ Some s → sent_by outcome ≡ [] → after ≡ s
      → new.nodes ≡ with_servers (slice_set old.nodes.servers id after) old.nodes → Posts moment (ids.Server id) (sent_by outcome) old.sent new.sent → K
  stays id s after outcome found none still same posted =
      Elsewhere (ids.Server id) [] moment tt
      (ap (λ (n : Nodes D). n.servers) same ∙ ap (λ (x : Server). slice_set old.nodes.servers id x) still ∙ set_same old.nodes.servers id s found)
      (ap (λ (n : Nodes D). n.master) same)
      (subst (λ ms. Posts moment (ids.Server id) ms old.sent new.sent) none posted)
    where
      set_same : (xs : List Server) (i : ℕ) (x : Server) → slice_get xs i ≡ Some x → slice_set xs i x ≡ xs
      set_same [] i x is = refl
      set_same (y ∷ xs) zero x is = (let e : y ≡ x = cc in λ j. sym e j ∷ xs)
      set_same (y ∷ xs) (suc i) x is = ap (λ (zs : List Server). y ∷ zs) (set_same xs i x is)

  one_server : {A : Type 0} (found : Option Server) (id : ℕ) (does : Server → Result A Refusal → Server → Type 0) (result : Result A Refusal) (outcome : Upshot) → slice_get old.nodes.servers id ≡ found
      → MatchOption found ((new.nodes ≡ old.nodes) × (result ≡ Err refusals.Range)) (λ s. (after : Server) × (new.nodes ≡ with_servers (slice_set old.nodes.servers id after) old.nodes) × does s result after)
      → (result ≡ Err refusals.Range → sent_by outcome ≡ [])
      → ((s after : Server) → slice_get old.nodes.servers id ≡ Some s → does s result after → Serves id s after (sent_by outcome) ⊎ ((after ≡ s) × (sent_by outcome ≡ [])))
      → Posts moment (ids.Server id) (sent_by outcome) old.sent new.sent → K
  one_server None id does result outcome is (same, refused) nobody some posted = nothing (ids.Server id) outcome (nobody refused) same posted
  one_server (Some s) id does result outcome is (after, same, did) nobody some posted = elim (some s after is did) [
    | inl g ↦ goes id s after (sent_by outcome) is g same posted
    | inr still ↦ stays id s after outcome is still.1 still.0 same posted
  ]

  refused_none : (turn : Result Turn Refusal) → turn ≡ Err refusals.Range → sent_by (told turn) ≡ []
  refused_none turn is = ap (λ (r : Result Turn Refusal). sent_by (told r)) is

  silent_none : (done : Result (Unit {0}) Refusal) → sent_by (silent done) ≡ []
  silent_none (Ok done) = refl
  silent_none (Err e) = refl

  -- its step, or memory is wanting
  by_step : (id : ℕ) (step : ServerStep) (s after : Server) (turn : Result Turn Refusal) → ServerDoes step s turn after
      → (after ≡ step.after → sent_by (told turn) ≡ step.sent → Serves id s after (sent_by (told turn)))
      → Serves id s after (sent_by (told turn)) ⊎ ((after ≡ s) × (sent_by (told turn) ≡ []))
  by_step id step s after (Ok turn) (is, sends, says) make = inl (make is sends)
  by_step id step s after (Err e) (is, memory) make = inr (is, refl)

  by_change : (id : ℕ) (change : Result Server Refusal) (s after : Server) (done : Result (Unit {0}) Refusal) → Does change done s after → (after ≡ unless_refused s change → Serves id s after [])
      → Serves id s after (sent_by (silent done)) ⊎ ((after ≡ s) × (sent_by (silent done) ≡ []))
  by_change id (Ok made) s after (Ok done) does make = inl (make does)
  by_change id (Ok made) s after (Err e) does make = absurd does
  by_change id (Err refused) s after (Ok done) does make = absurd does
  by_change id (Err refused) s after (Err e) does make = inr (does.1, refl)

  at_server : {A : Type 0} (id : ℕ) (does : Server → Result A Refusal → Server → Type 0) (result : Result A Refusal) (outcome : Upshot) → AtServer id does old.nodes result new.nodes
      → (result ≡ Err refusals.Range → sent_by outcome ≡ [])
      → ((s after : Server) → slice_get old.nodes.servers id ≡ Some s → does s result after → Serves id s after (sent_by outcome) ⊎ ((after ≡ s) × (sent_by outcome ≡ [])))
      → Posts moment (ids.Server id) (sent_by outcome) old.sent new.sent → K
  at_server id does result outcome at nobody some posted = one_server (slice_get old.nodes.servers id) id does result outcome refl at nobody some posted

  -- ---- the master

  at_master : (place : MasterPlace D) (messages : List Message) → MasterGoes seen failures armed old.nodes.config old.sent old.nodes.master place messages → new.nodes ≡ with_master place old.nodes
      → Posts moment ids.Master messages old.sent new.sent → K
  at_master place messages g same posted = OfMaster place messages moment g (ap (λ (n : Nodes D). n.servers) same) (ap (λ (n : Nodes D). n.master) same) posted

  -- it stays, and sends nothing
  master_stays : (place : MasterPlace D) (outcome : Upshot) → place ≡ old.nodes.master → sent_by outcome ≡ [] → new.nodes ≡ with_master place old.nodes → Posts moment ids.Master (sent_by outcome) old.sent new.sent → K
  master_stays place outcome still none same posted =
      Elsewhere ids.Master [] moment tt (ap (λ (n : Nodes D). n.servers) same) (ap (λ (n : Nodes D). n.master) same ∙ still) (subst (λ ms. Posts moment ids.Master ms old.sent new.sent) none posted)

  -- a message, for which memory was wanting
  hears_still : (message : Message) (place before : MasterPlace D) (e : Refusal) → MasterHears seen failures message moment before (Err e) place → place ≡ before
  hears_still message place (places.Standing m) e (after, is, why) = is ∙ ap places.Standing why.1
  hears_still message place (places.Closed first second) e meets = meets.0
  hears_still message place places.Away e meets = meets.0

  ticks_still : (place before : MasterPlace D) (e : Refusal) → MasterTicks seen failures moment before (Err e) place → place ≡ before
  ticks_still place (places.Standing m) e (after, is, why) = is ∙ ap places.Standing why.1
  ticks_still place (places.Closed first second) e meets = meets.0
  ticks_still place places.Away e meets = meets.0

  heard_master : (message : Message) (place : MasterPlace D) (turn : Result Turn Refusal) → IsSent message old.sent → message.to ≡ ids.Master → IsNamedBody message.body × IsNumber moment.0 → MasterHears seen failures message moment old.nodes.master turn place
      → new.nodes ≡ with_master place old.nodes → Posts moment ids.Master (sent_by (told turn)) old.sent new.sent → K
  heard_master message place (Ok turn) was to named hears same posted = at_master place turn.sent.items (MasterHeard message moment turn was to named hears refl) same posted
  heard_master message place (Err e) was to named hears same posted = master_stays place (Err e) (hears_still message place old.nodes.master e hears) refl same posted

  ticked_master : (place : MasterPlace D) (turn : Result Turn Refusal) → MasterTicks seen failures moment old.nodes.master turn place
      → new.nodes ≡ with_master place old.nodes → Posts moment ids.Master (sent_by (told turn)) old.sent new.sent → K
  ticked_master place (Ok turn) ticks same posted = at_master place turn.sent.items (MasterTicked moment turn ticks refl) same posted
  ticked_master place (Err e) ticks same posted = master_stays place (Err e) (ticks_still place old.nodes.master e ticks) refl same posted

  opened_master : (place : MasterPlace D) (turn : Result Turn Refusal) → Reopens seen failures old.nodes.config old.nodes.master turn place
      → new.nodes ≡ with_master place old.nodes → Posts moment ids.Master (sent_by (told turn)) old.sent new.sent → K
  opened_master place (Ok turn) opens same posted = at_master place turn.sent.items (MasterOpened turn opens refl) same posted
  opened_master place (Err e) opens same posted = at_master place [] (MasterUnopened e opens refl) same posted

  -- ---- an event

  heard : (message : Message) (to by : NodeId) (turn : Result Turn Refusal) → Delivered message → IsSent message old.sent → message.to ≡ to → by ≡ to → (to ≡ ids.Master → IsNamedBody message.body × IsNumber moment.0) → HearsAt seen failures message moment to old.nodes turn new.nodes
      → Posts moment by (sent_by (told turn)) old.sent new.sent → K
  heard message ids.Master by turn it was to is named (place, same, hears) posted = heard_master message place turn was to (named refl) hears same (subst (λ n. Posts moment n (sent_by (told turn)) old.sent new.sent) is posted)
  heard message (ids.Server id) by turn it was to is named at posted =
      at_server id (λ s. ServerDoes (servers.handle s message moment) s) turn (told turn) at (refused_none turn)
      (λ s after found does. by_step id (servers.handle s message moment) s after turn does (λ a b. (Hears message moment was to a b, it)))
      (subst (λ n. Posts moment n (sent_by (told turn)) old.sent new.sent) is posted)
  heard message (ids.Client id) by (Ok turn) it was to is named (said, at, says) posted =
      let l = at_client id None (ClientHears message.body) old.nodes said new.nodes at in
      Elsewhere by [] moment tt l.servers l.master (subst (λ ms. Posts moment by ms old.sent new.sent) says.0 posted)
  heard message (ids.Client id) by (Err e) it was to is named (said, at, says) posted = absurd says

  delivered : (message : Message) (by : NodeId) (turn : Result Turn Refusal) → Delivered message → IsSent message old.sent → by ≡ message.to → (message.to ≡ ids.Master → IsNamedBody message.body × IsNumber moment.0) → Delivers seen failures message moment old.nodes turn new.nodes
      → Posts moment by (sent_by (told turn)) old.sent new.sent → K
  unfolding Delivers
  delivered message by turn it was is named hears posted = heard message message.to by turn it was refl is named hears posted

  as_told : (by : NodeId) (outcome other : Upshot) → outcome ≡ other → Posts moment by (sent_by outcome) old.sent new.sent → Posts moment by (sent_by other) old.sent new.sent
  as_told by outcome other is posted = subst (λ o. Posts moment by (sent_by o) old.sent new.sent) is posted

  came : (found : Option Message) (msg : MsgId) (by : NodeId) (outcome : Upshot) → Is (happenings.Deliver msg) → message_of old.sent msg ≡ found → ((message : Message) → found ≡ Some message → message.to ≡ ids.Master → IsNamedBody message.body × IsNumber moment.0)
      → MatchOption found ((outcome ≡ Err refusals.Range) × (new.nodes ≡ old.nodes) × (by ≡ msg.sender)) (λ message. ComesTo seen failures armed msg.sender message moment old.nodes by outcome new.nodes)
      → Posts moment by (sent_by outcome) old.sent new.sent → K
  came None msg by outcome it is named (refused, same, from) posted = nothing by outcome (ap sent_by refused) same posted
  came (Some message) msg by outcome it is named comes posted = elim comes [
    | inl (to, turn, delivers, tells) ↦ delivered message by turn (msg, is, it) (msg, is) to (named message refl) delivers (as_told by outcome (told turn) tells posted)
    | inr (refused, same, from) ↦ nothing by outcome (ap sent_by refused) same posted
  ]

  ticked : (node : StoreNode) (by : NodeId) (outcome : Upshot) → Is (happenings.Tick node) → by ≡ as_node node → TicksAt seen failures armed moment node old.nodes outcome new.nodes → Posts moment by (sent_by outcome) old.sent new.sent → K
  ticked keepers.Master by outcome it is (place, turn, does, same, tells) posted =
      ticked_master place turn does same (subst (λ n. Posts moment n (sent_by (told turn)) old.sent new.sent) is (as_told by outcome (told turn) tells posted))
  ticked (keepers.Server id) by outcome it is (turn, at, tells) posted =
      at_server id (λ s. ServerDoes (servers.tick s moment) s) turn (told turn) at (refused_none turn)
      (λ s after found does. by_step id (servers.tick s moment) s after turn does (λ a b. (Ticks moment a b, (moment, it))))
      (subst (λ n. Posts moment n (sent_by (told turn)) old.sent new.sent) is (as_told by outcome (told turn) tells posted))

  restarted : (node : StoreNode) (by : NodeId) (outcome : Upshot) → Is (happenings.Restart node) → by ≡ as_node node → RestartsAt seen failures armed node old.nodes outcome new.nodes → Posts moment by (sent_by outcome) old.sent new.sent → K
  restarted keepers.Master by outcome it is (place, turn, does, same, tells) posted =
      opened_master place turn does same (subst (λ n. Posts moment n (sent_by (told turn)) old.sent new.sent) is (as_told by outcome (told turn) tells posted))
  restarted (keepers.Server id) by outcome it is (done, at, tells) posted =
      at_server id (λ s d after. (d ≡ Ok tt) × (after ≡ servers.restart s)) done (silent done) at (λ refused. silent_none done)
      (λ s after found does. inl (Restarts does.1 (silent_none done), (moment, it)))
      (subst (λ n. Posts moment n (sent_by (silent done)) old.sent new.sent) is (as_told by outcome (silent done) tells posted))

  befalls : (id : ℕ) (by : NodeId) (change : Server → Result Server Refusal) (outcome : Upshot) (done : Result (Unit {0}) Refusal) → by ≡ ids.Server id
      → AtServer id (λ s d after. Does (change s) d s after) old.nodes done new.nodes → outcome ≡ silent done
      → ((s after : Server) (messages : List Message) → after ≡ unless_refused s (change s) → messages ≡ [] → Serves id s after messages)
      → Posts moment by (sent_by outcome) old.sent new.sent → K
  befalls id by change outcome done is at tells make posted =
      at_server id (λ s d after. Does (change s) d s after) done (silent done) at (λ refused. silent_none done)
      (λ s after found does. by_change id (change s) s after done does (λ a. make s after [] a refl))
      (subst (λ n. Posts moment n (sent_by (silent done)) old.sent new.sent) is (as_told by outcome (silent done) tells posted))

  beats : (found : Option Server) (id : ℕ) (by : NodeId) (outcome : Upshot) → Is (happenings.Beat id) → slice_get old.nodes.servers id ≡ found → by ≡ ids.Server id → new.nodes ≡ old.nodes
      → MatchOption found (outcome ≡ Err refusals.Range) (λ s. (outcome ≡ Ok (servers.beat s ∷ [], None)) ⊎ (outcome ≡ Err refusals.Memory))
      → Posts moment by (sent_by outcome) old.sent new.sent → K
  beats None id by outcome it found is same refused posted = nothing by outcome (ap sent_by refused) same posted
  beats (Some s) id by outcome it found is same told_so posted = elim told_so [
    | inl told_it ↦
        let l = left old.nodes new.nodes same in
        OfServer id s s (servers.beat s ∷ []) moment found (Beats refl refl) (moment, it) (l.servers ∙ sym (set_same old.nodes.servers id s found)) l.master
        (subst (λ n. Posts moment n (servers.beat s ∷ []) old.sent new.sent) is (as_told by outcome (Ok (servers.beat s ∷ [], None)) told_it posted))
    | inr refused ↦ nothing by outcome (ap sent_by refused) same posted
  ]
    where
      set_same : (xs : List Server) (i : ℕ) (x : Server) → slice_get xs i ≡ Some x → slice_set xs i x ≡ xs
      set_same [] i x is = refl
      set_same (y ∷ xs) zero x is = (let e : y ≡ x = cc in λ j. sym e j ∷ xs)
      set_same (y ∷ xs) (suc i) x is = ap (λ (zs : List Server). y ∷ zs) (set_same xs i x is)

  at_node : (happening : Happening) (by : NodeId) (outcome : Upshot) → Is happening → HearsNamed moment happening old → AtNode seen failures armed moment happening old by outcome new.nodes → Posts moment by (sent_by outcome) old.sent new.sent → K
  at_node (happenings.Ask req request) by outcome it named (is, (out, at, tells)) posted =
      let l = at_client req.client (Err refusals.Range) (ClientAsks req.number request) old.nodes out new.nodes at in
      Elsewhere by (sent_by (asked out)) moment
      (one_client (λ o. AreOfClient (sent_by (asked o))) (client_in old.nodes.clients req.client) req.client (Err refusals.Range) (ClientAsks req.number request) old.nodes out new.nodes at tt
      (λ n after did. asked_of_client req.number request n out after did))
      l.servers l.master (as_told by outcome (asked out) tells posted)
  at_node (happenings.Deliver id) by outcome it named comes posted = came (message_of old.sent id) id by outcome it refl named comes posted
  at_node (happenings.Tick node) by outcome it named (is, does) posted = ticked node by outcome it is does posted
  at_node (happenings.Beat id) by outcome it named (is, (same, told_so)) posted = beats (slice_get old.nodes.servers id) id by outcome it refl is same told_so posted
  at_node (happenings.Restart node) by outcome it named (is, does) posted = restarted node by outcome it is does posted
  at_node (happenings.Lose id handle) by outcome it named (is, (done, at, tells)) posted =
      befalls id by (servers.lose handle) outcome done is at tells (λ s after messages a b. (Loses handle a b, (moment, it))) posted
  at_node (happenings.Damage id handle block) by outcome it named (is, (done, at, tells)) posted =
      befalls id by (servers.damage handle block) outcome done is at tells (λ s after messages a b. (Damages handle block a b, (moment, it))) posted
  at_node (happenings.FailDisk disk call) by outcome it named (is, (with, tells)) posted =
      at_master (armed disk call old.nodes.master) [] (MasterArmed disk call refl refl) with
      (subst (λ n. Posts moment n [] old.sent new.sent) is (as_told by outcome (silent (Ok tt)) tells posted))

-- any step
module _ {D : Type 0} (seen : D → List ℕ) (failures : D → ℕ) (armed : DiskId → ℕ → MasterPlace D → MasterPlace D) where
  pub kind_of : (step : Step) (old new : History D) → Goes seen failures armed step old new → StepNamed step old → Kind seen failures armed step old new
  kind_of (Comes event) old new (said, h) named = at_node seen failures armed (Comes event) old new event.moment event.happening h.by h.outcome refl named h.at (posts seen failures armed event.moment h.by h.outcome old.sent said new.sent h.tells)
  kind_of (Takes client) old new (found, takes, same) named =
      let l = at_client client None (λ n reply after. (reply ≡ n.reply) × (after ≡ given_up n)) old.nodes found new.nodes takes in
      Elsewhere ids.Master [] (record { 0 = 0 }) tt l.servers l.master (inr same)
