-- What happens to a server in a run of a store is events of its own.
use Rattle.std.proofs.Common.{◌≡◌, ◌∙◌, ◌⊎◌, ◌++◌, ◌-◌, ℕ, zero, suc, List, [], ◌∷◌, Option, Some, None, MatchOption, Result, Ok, Err, refl, sym, ap, subst, inl, inr, option_map, slice_get, slice_set}
use Rattle.std.specs.List.{AllByRecursion}
use Rattle.gs_base.specs.declared.numbers.ClientId.{ClientId}
use Rattle.gs_base.specs.declared.numbers.Moment.{Moment}
use Rattle.gs_base.specs.declared.refusal.Refusal.{Refusal}
use Rattle.gs_base.specs.declared.refusal.Refusal.TheVariants as refusals
use Rattle.gs_base.specs.Calls.{Does}
use Rattle.gs_client.specs.Nodes.{Node, given_up}
use Rattle.gs_master.specs.declared.turn.Turn.{Turn}
use Rattle.gs_msg.specs.declared.event.DiskId.{DiskId}
use Rattle.gs_msg.specs.declared.event.Happening.{Happening}
use Rattle.gs_msg.specs.declared.event.Happening.TheVariants as happenings
use Rattle.gs_msg.specs.declared.message.Message.{Message}
use Rattle.gs_msg.specs.declared.message.MsgId.{MsgId}
use Rattle.gs_msg.specs.declared.node.NodeId.{NodeId}
use Rattle.gs_msg.specs.declared.node.NodeId.TheVariants as nodes
use Rattle.gs_msg.specs.declared.node.StoreNode.{StoreNode}
use Rattle.gs_msg.specs.declared.node.StoreNode.TheVariants as keepers
use Rattle.gs_server.specs.Runs.{Event, Hears, Ticks as TicksAt, Restarts as RestartsAt, Loses, Damages, behind, behind_all, unless_refused}
use Rattle.gs_server.specs.Servers.{Server, Step}
use Rattle.gs_server.specs.Servers as servers
use Rattle.gs_nodes.specs.Happenings.{AtClient, AtServer, ClientAsks, ClientHears, Delivers, Hears as HearsAt, ServerDoes, client_in}
use Rattle.gs_nodes.specs.Nodes.{Nodes, with_clients, with_servers}
use Rattle.gs_nodes.specs.declared.place.MasterPlace.{MasterPlace}
use Rattle.gs_world.specs.Histories.{AtNode, ComesTo, History, Upshot, Restarts, Ticks}
use Rattle.gs_world.specs.Runs as runs
use Rattle.gs_world.specs.Runs.{Goes, GoesOn, RunsTo, StaySent, Comes, Takes, WasSent}
use Rattle.gs_world.specs.Sent.{IsSent, Sent, message_of}
use Rattle.gs_world.proofs.Sending.{run_stays, sent_still, step_stays}

-- ---- one server

-- what became of it is events of its own
record Becomes (id : ℕ) (sent : Sent) (s after : Server) : Type 0 where
  events : List Event
  is : after ≡ behind_all events s
  heard : AllByRecursion (WasSent id sent) events

stays : (id : ℕ) (sent : Sent) (s after : Server) → after ≡ s → Becomes id sent s after
stays id sent s after same = record { events = []; is = same; heard = tt }

by_one : (id : ℕ) (sent : Sent) (s after : Server) (event : Event) → WasSent id sent event → after ≡ behind event s → Becomes id sent s after
by_one id sent s after event heard is = record { events = event ∷ []; is = is; heard = (heard, tt) }

by_step : (id : ℕ) (sent : Sent) (s after : Server) (step : Step) (result : Result Turn Refusal) (event : Event) → WasSent id sent event → step.after ≡ behind event s
    → ServerDoes step s result after → Becomes id sent s after
by_step id sent s after step (Ok turn) event heard is does = by_one id sent s after event heard (does.0 ∙ is)
by_step id sent s after step (Err refusal) event heard is does = stays id sent s after does.0

by_change : (id : ℕ) (sent : Sent) (s after : Server) (change : Result Server Refusal) (done : Result (Unit {0}) Refusal) (event : Event) → WasSent id sent event
    → unless_refused s change ≡ behind event s → Does change done s after → Becomes id sent s after
by_change id sent s after (Ok changed) (Ok done) event heard is does = by_one id sent s after event heard (does ∙ is)
by_change id sent s after (Ok changed) (Err refusal) event heard is does = absurd does
by_change id sent s after (Err refused) (Ok done) event heard is does = absurd does
by_change id sent s after (Err refused) (Err refusal) event heard is does = stays id sent s after does.1

-- ---- one of the servers

-- what becomes of the server of a number is events of its own
record Moves (id : ℕ) (sent : Sent) (old new : List Server) : Type 0 where
  events : List Event
  is : slice_get new id ≡ option_map (behind_all events) (slice_get old id)
  heard : AllByRecursion (WasSent id sent) events

by_none : (o : Option Server) → o ≡ option_map (behind_all []) o
by_none None = refl
by_none (Some s) = refl

still : (id : ℕ) (sent : Sent) (old new : List Server) → slice_get new id ≡ slice_get old id → Moves id sent old new
still id sent old new same = record { events = []; is = same ∙ by_none (slice_get old id); heard = tt }

as_it_was : (id : ℕ) (sent : Sent) (old new : List Server) → new ≡ old → Moves id sent old new
as_it_was id sent old new same = still id sent old new (ap (λ (xs : List Server). slice_get xs id) same)

put : (o : Option Server) (s after : Server) (events : List Event) → o ≡ Some s → after ≡ behind_all events s → Some after ≡ option_map (behind_all events) o
put o s after events found is = subst (λ (o : Option Server). Some after ≡ option_map (behind_all events) o) (sym found) (ap (λ (s : Server). Some s) is)

-- this one goes on, and the others are as they were
placed : (xs : List Server) (a id : ℕ) (s after : Server) (events : List Event) → slice_get xs a ≡ Some s → after ≡ behind_all events s
    → ((a ≡ id) × (slice_get (slice_set xs a after) id ≡ option_map (behind_all events) (slice_get xs id))) ⊎ (slice_get (slice_set xs a after) id ≡ slice_get xs id)
placed [] a id s after events found is = absurd cc
placed (x ∷ xs) zero zero s after events found is = inl (refl, put (Some x) s after events found is)
placed (x ∷ xs) zero (suc id) s after events found is = inr refl
placed (x ∷ xs) (suc a) zero s after events found is = inr refl
placed (x ∷ xs) (suc a) (suc id) s after events found is = elim (placed xs a id s after events found is) [
  | inl (same, goes) ↦ inl (ap suc same, goes)
  | inr goes ↦ inr goes
]

moved : (xs : List Server) (a id : ℕ) (sent : Sent) (s after : Server) → slice_get xs a ≡ Some s → Becomes a sent s after → Moves id sent xs (slice_set xs a after)
moved xs a id sent s after found b = elim (placed xs a id s after b.events found b.is) [
  | inl (same, goes) ↦ record { events = b.events; is = goes; heard = subst (λ n. AllByRecursion (WasSent n sent) b.events) same b.heard }
  | inr goes ↦ still id sent xs (slice_set xs a after) goes
]

module _ {A D : Type 0} (a : ℕ) (does : Server → Result A Refusal → Server → Type 0) (old : Nodes D) (result : Result A Refusal) (new : Nodes D) (sent : Sent)
    (becomes : (s after : Server) → does s result after → Becomes a sent s after) where
  found : (o : Option Server) → slice_get old.servers a ≡ o
      → MatchOption o ((new ≡ old) × (result ≡ Err refusals.Range)) (λ s. (after : Server) × (new ≡ with_servers (slice_set old.servers a after) old) × does s result after)
      → (id : ℕ) → Moves id sent old.servers new.servers
  found None is (same, refused) id = as_it_was id sent old.servers new.servers (ap (λ (n : Nodes D). n.servers) same)
  found (Some s) is (after, same, done) id =
      subst (λ (n : Nodes D). Moves id sent old.servers n.servers) (sym same) (moved old.servers a id sent s after is (becomes s after done))

  one : AtServer a does old result new → (id : ℕ) → Moves id sent old.servers new.servers
  one at id = found (slice_get old.servers a) refl at id

-- ---- one of the others

known : {A D : Type 0} (o : Option Node) (client : ClientId) (none : A) (does : Node → A → Node → Type 0) (old : Nodes D) (result : A) (new : Nodes D)
    → MatchOption o ((new ≡ old) × (result ≡ none)) (λ n. (after : Node) × (new ≡ with_clients (slice_set old.clients (client.0 - 1) after) old) × does n result after)
    → new.servers ≡ old.servers
known None client none does old result new (same, refused) = ap (λ (n : Nodes _). n.servers) same
known (Some n) client none does old result new (after, same, done) = ap (λ (n : Nodes _). n.servers) same

at_client : {A D : Type 0} (client : ClientId) (none : A) (does : Node → A → Node → Type 0) (old : Nodes D) (result : A) (new : Nodes D)
    → AtClient client none does old result new → new.servers ≡ old.servers
at_client client none does old result new at = known (client_in old.clients client) client none does old result new at

-- ---- an event

heard : {D : Type 0} (seen : D → List ℕ) (failures : D → ℕ) (message : Message) (moment : Moment) (to : NodeId) (old : Nodes D) (turn : Result Turn Refusal) (new : Nodes D) (sent : Sent)
    → message.to ≡ to → IsSent message sent → HearsAt seen failures message moment to old turn new → (id : ℕ) → Moves id sent old.servers new.servers
heard seen failures message moment nodes.Master old turn new sent is was (place, same, hears) id = as_it_was id sent old.servers new.servers (ap (λ (n : Nodes _). n.servers) same)
heard seen failures message moment (nodes.Server a) old turn new sent is was at id =
    one a (λ s. ServerDoes (servers.handle s message moment) s) old turn new sent
    (λ s after done. by_step a sent s after (servers.handle s message moment) turn (Hears message moment) (is, was) refl done) at id
heard seen failures message moment (nodes.Client client) old turn new sent is was (said, at, says) id =
    as_it_was id sent old.servers new.servers (at_client client None (ClientHears message.body) old said new at)

delivered : {D : Type 0} (seen : D → List ℕ) (failures : D → ℕ) (message : Message) (moment : Moment) (old : Nodes D) (turn : Result Turn Refusal) (new : Nodes D) (sent : Sent)
    → IsSent message sent → Delivers seen failures message moment old turn new → (id : ℕ) → Moves id sent old.servers new.servers
unfolding Delivers
delivered seen failures message moment old turn new sent was hears id = heard seen failures message moment message.to old turn new sent refl was hears id

module _ {D : Type 0} (seen : D → List ℕ) (failures : D → ℕ) (armed : DiskId → ℕ → MasterPlace D → MasterPlace D) where
  came : (o : Option Message) (msg : MsgId) (moment : Moment) (old : History D) (by : NodeId) (outcome : Upshot) (new : Nodes D) → message_of old.sent msg ≡ o
      → MatchOption o ((outcome ≡ Err refusals.Range) × (new ≡ old.nodes) × (by ≡ msg.sender)) (λ message. ComesTo seen failures armed msg.sender message moment old.nodes by outcome new)
      → (id : ℕ) → Moves id old.sent old.nodes.servers new.servers
  came None msg moment old by outcome new is (refused, same, from) id = as_it_was id old.sent old.nodes.servers new.servers (ap (λ (n : Nodes D). n.servers) same)
  came (Some message) msg moment old by outcome new is comes id = elim comes [
    | inl (to, turn, delivers, told) ↦ delivered seen failures message moment old.nodes turn new old.sent (msg, is) delivers id
    | inr (refused, same, from) ↦ as_it_was id old.sent old.nodes.servers new.servers (ap (λ (n : Nodes D). n.servers) same)
  ]

  ticked : (moment : Moment) (node : StoreNode) (old : Nodes D) (outcome : Upshot) (new : Nodes D) (sent : Sent) → Ticks seen failures armed moment node old outcome new
      → (id : ℕ) → Moves id sent old.servers new.servers
  ticked moment keepers.Master old outcome new sent (place, turn, does, same, told) id = as_it_was id sent old.servers new.servers (ap (λ (n : Nodes D). n.servers) same)
  ticked moment (keepers.Server a) old outcome new sent (turn, at, told) id =
      one a (λ s. ServerDoes (servers.tick s moment) s) old turn new sent (λ s after done. by_step a sent s after (servers.tick s moment) turn (TicksAt moment) tt refl done) at id

  restarted : (node : StoreNode) (old : Nodes D) (outcome : Upshot) (new : Nodes D) (sent : Sent) → Restarts seen failures armed node old outcome new
      → (id : ℕ) → Moves id sent old.servers new.servers
  restarted keepers.Master old outcome new sent (place, turn, does, same, told) id = as_it_was id sent old.servers new.servers (ap (λ (n : Nodes D). n.servers) same)
  restarted (keepers.Server a) old outcome new sent (done, at, told) id =
      one a (λ s done after. (done ≡ Ok tt) × (after ≡ servers.restart s)) old done new sent (λ s after done. by_one a sent s after RestartsAt tt done.1) at id

  at_node : (moment : Moment) (happening : Happening) (old : History D) (by : NodeId) (outcome : Upshot) (new : Nodes D)
      → AtNode seen failures armed moment happening old by outcome new → (id : ℕ) → Moves id old.sent old.nodes.servers new.servers
  at_node moment (happenings.Ask req request) old by outcome new (is, (out, at, told)) id =
      as_it_was id old.sent old.nodes.servers new.servers (at_client req.client (Err refusals.Range) (ClientAsks req.number request) old.nodes out new at)
  at_node moment (happenings.Deliver msg) old by outcome new comes id = came (message_of old.sent msg) msg moment old by outcome new refl comes id
  at_node moment (happenings.Tick node) old by outcome new (is, ticks) id = ticked moment node old.nodes outcome new old.sent ticks id
  at_node moment (happenings.Beat server) old by outcome new (is, (same, told)) id = as_it_was id old.sent old.nodes.servers new.servers (ap (λ (n : Nodes D). n.servers) same)
  at_node moment (happenings.Restart node) old by outcome new (is, restarts) id = restarted node old.nodes outcome new old.sent restarts id
  at_node moment (happenings.Lose server handle) old by outcome new (is, (done, at, told)) id =
      one server (λ s done after. Does (servers.lose handle s) done s after) old.nodes done new old.sent
      (λ s after does. by_change server old.sent s after (servers.lose handle s) done (Loses handle) tt refl does) at id
  at_node moment (happenings.Damage server handle block) old by outcome new (is, (done, at, told)) id =
      one server (λ s done after. Does (servers.damage handle block s) done s after) old.nodes done new old.sent
      (λ s after does. by_change server old.sent s after (servers.damage handle block s) done (Damages handle block) tt refl does) at id
  at_node moment (happenings.FailDisk disk call) old by outcome new (is, (same, told)) id =
      as_it_was id old.sent old.nodes.servers new.servers (ap (λ (n : Nodes D). n.servers) same)

  moves : (step : runs.Step) (old new : History D) → Goes seen failures armed step old new → (id : ℕ) → Moves id old.sent old.nodes.servers new.nodes.servers
  moves (Comes event) old new (said, h) id = at_node event.moment event.happening old h.by h.outcome new.nodes h.at id
  moves (Takes client) old new (found, takes, same) id = as_it_was id old.sent old.nodes.servers new.nodes.servers (at_client client None (λ n reply after. (reply ≡ n.reply) × (after ≡ given_up n)) old.nodes found new.nodes takes)

-- ---- what was heard was sent, and is so from then on

sent_on : (id : ℕ) (old new : Sent) (event : Event) → StaySent old new → WasSent id old event → WasSent id new event
sent_on id old new (Hears message moment) stay (to, was) = (to, sent_still message old new stay was)
sent_on id old new (TicksAt moment) stay was = tt
sent_on id old new RestartsAt stay was = tt
sent_on id old new (Loses handle) stay was = tt
sent_on id old new (Damages handle block) stay was = tt

all_on : (id : ℕ) (old new : Sent) (events : List Event) → StaySent old new → AllByRecursion (WasSent id old) events → AllByRecursion (WasSent id new) events
all_on id old new [] stay was = tt
all_on id old new (event ∷ events) stay (first, rest) = (sent_on id old new event stay first, all_on id old new events stay rest)

all_both : (id : ℕ) (sent : Sent) (xs ys : List Event) → AllByRecursion (WasSent id sent) xs → AllByRecursion (WasSent id sent) ys → AllByRecursion (WasSent id sent) (xs ++ ys)
all_both id sent [] ys first second = second
all_both id sent (x ∷ xs) ys (one, rest) second = (one, all_both id sent xs ys rest second)

-- ---- one run behind the other

behind_both : (xs ys : List Event) (s : Server) → behind_all ys (behind_all xs s) ≡ behind_all (xs ++ ys) s
behind_both [] ys s = refl
behind_both (x ∷ xs) ys s = behind_both xs ys (behind x s)

twice : (xs ys : List Event) (o : Option Server) → option_map (behind_all ys) (option_map (behind_all xs) o) ≡ option_map (behind_all (xs ++ ys)) o
twice xs ys None = refl
twice xs ys (Some s) = ap (λ (s : Server). Some s) (behind_both xs ys s)

chained : {D : Type 0} (id : ℕ) (old mid new : History D) → StaySent mid.sent new.sent → GoesOn id old mid → GoesOn id mid new → GoesOn id old new
chained id old mid new stay first second =
    record {
      events = first.events ++ second.events;
      behind =
          second.behind
          ∙ (ap (option_map (behind_all second.events)) first.behind ∙ twice first.events second.events (slice_get old.nodes.servers id));
      heard = all_both id new.sent first.events second.events (all_on id mid.sent new.sent first.events stay first.heard) second.heard;
    }

module _ {D : Type 0} (seen : D → List ℕ) (failures : D → ℕ) (armed : DiskId → ℕ → MasterPlace D → MasterPlace D) where
  step_goes : (step : runs.Step) (old new : History D) → Goes seen failures armed step old new → (id : ℕ) → GoesOn id old new
  step_goes step old new goes id =
      let m = moves seen failures armed step old new goes id in
      record { events = m.events; behind = m.is; heard = all_on id old.sent new.sent m.events (step_stays seen failures armed step old new goes) m.heard }

  here : (id : ℕ) (h : History D) → GoesOn id h h
  here id h = record { events = []; behind = by_none (slice_get h.nodes.servers id); heard = tt }

  pub run_goes : (steps : List runs.Step) (old new : History D) → RunsTo seen failures armed steps old new → (id : ℕ) → GoesOn id old new
  run_goes [] old new same id = subst (λ (h : History D). GoesOn id old h) (sym same) (here id old)
  run_goes (step ∷ steps) old new (mid, first, rest) id =
      chained id old mid new (run_stays seen failures armed steps mid new rest) (step_goes step old mid first id) (run_goes steps mid new rest id)
