-- Who asks for a part of a chunk: a client, under a number that it hasn't asked under before.
use Rattle.std.proofs.Common.{◌≡◌, ◌∙◌, ◌++◌, ◌-◌, ◌≤◌, ℕ, zero, suc, false, List, [], ◌∷◌, Option, Some, None, MatchOption, Result, Ok, Err, refl, sym, ap, subst, arith, nat_le, slice_set}
use Rattle.std.specs.Prelude.{Contains}
use Rattle.std.specs.List.{AllByRecursion}
use Rattle.std.proofs.lemmas.Bool.Decides.{nat_tests}
use Rattle.gs_base.specs.declared.numbers.ReqId.{ReqId}
use Rattle.gs_base.specs.declared.numbers.Stamp.{Stamp}
use Rattle.gs_base.specs.declared.refusal.Refusal.{Refusal}
use Rattle.gs_client.specs.Nodes.{Node, given_up, hears, messages_of, pushes, request_of, tell, with_bytes}
use Rattle.gs_master.specs.declared.turn.Turn.{Turn}
use Rattle.gs_msg.specs.declared.body.Body.TheVariants as bodies
use Rattle.gs_msg.specs.declared.chunk.Asked.{Asked as Wanted}
use Rattle.gs_msg.specs.declared.chunk.Chunk.TheVariants as chunks
use Rattle.gs_msg.specs.declared.event.Event.{Event}
use Rattle.gs_msg.specs.declared.event.Happening.TheVariants as happenings
use Rattle.gs_msg.specs.declared.event.Request.{Request}
use Rattle.gs_msg.specs.declared.event.Request.TheVariants as requests
use Rattle.gs_msg.specs.declared.message.Message.{Message}
use Rattle.gs_msg.specs.declared.node.NodeId.TheVariants as nodes
use Rattle.gs_nodes.specs.Happenings.{client_in}
use Rattle.gs_nodes.specs.Nodes.{Nodes, with_master}
use Rattle.gs_nodes.specs.declared.place.MasterPlace.{MasterPlace}
use Rattle.gs_laws_parts.specs.server.Answering.{IsByServer}
use Rattle.gs_world.specs.Histories.{Happens, History, Upshot, told}
use Rattle.gs_laws_world.specs.lasting.Lasting.{HearsNamed}
use Rattle.gs_world.specs.Runs.{Comes, Goes, RunsTo, Step, Takes}
use Rattle.gs_laws_chunks.proofs.lemmas.answers.Asked.{asked_further, asked_now, hearing_same, own_id, stays_unarmed, begins_asked, Numbered_all}
use Rattle.gs_laws_chunks.proofs.lemmas.answers.Parts.{Armed, Asked, Heard, Opened, Part, Rested, Served, Ticked, Told, asking, hearing, part_of, with_client}
use Rattle.gs_laws_chunks.specs.answers.Answered.{sent_by}
use Rattle.gs_laws_chunks.specs.answers.Asked.{AreAsked, HasAsked}
use Rattle.gs_world.proofs.Reaching.{HaveSizes}
use Rattle.gs_laws_chunks.proofs.lemmas.accounts.MasterSays.{master_says}
use Rattle.gs_laws_chunks.proofs.lemmas.accounts.SeeingThrough.{reached_well}
use Rattle.gs_laws_chunks.proofs.lemmas.accounts.Told.{named}
use Rattle.gs_laws_chunks.proofs.lemmas.accounts.Well.{begins_well, step_well}
use Rattle.gs_laws_chunks.specs.accounts.Accounts.{Account}
use Rattle.gs_laws_chunks.specs.accounts.Reading.{sent_at}
use Rattle.gs_laws_chunks.specs.accounts.Running.{IsReached, Moves, Runs, Setup}
use Rattle.gs_laws_world.specs.steady.Saying.{IsStepWithin}
use Rattle.gs_laws_lift.specs.stores.Going.{MasterGoes, MasterHeard, MasterOpened, MasterTicked}
use Rattle.gs_laws_lift.specs.stores.Saying.{AreOfMaster, IsOfMaster}
use Rattle.gs_laws_looks.proofs.lemmas.fetching.Sending.{none_there, one_of, some_of}
use Rattle.gs_laws_world.specs.steady.Unarmed.{IsUnarmed}

same_sent : (o : Upshot) → sent_at o ≡ sent_by o
same_sent (Ok out) = refl
same_sent (Err refusal) = refl

-- ---- what is asked for

-- a message asks for this part
abbrev pub Fetches : Message → ReqId → ℕ → Stamp → ℕ → Wanted → Type 0
Fetches m req handle stamp epoch want = m.body ≡ bodies.About handle (chunks.Fetch req stamp epoch want)

module _ (m : Message) (req : ReqId) (handle : ℕ) (stamp : Stamp) (epoch : ℕ) (want : Wanted) (is : Fetches m req handle stamp epoch want) where
  not_by_master : {Z : Type 0} → IsOfMaster m.body → Z
  not_by_master of = absurd (subst IsOfMaster is of)

  not_by_server : {Z : Type 0} → IsByServer m.body → Z
  not_by_server by = absurd (subst IsByServer is by)

  -- a request under which it is asked for
  pub record IsItsRequest (own : ReqId) (request : Request) : Type 0 where
    pub to : ℕ
    pub request_is : request ≡ requests.Fetch to handle stamp epoch want
    pub message : m ≡ tell own (nodes.Server to) (bodies.About handle (chunks.Fetch own stamp epoch want))
    pub own_is : own ≡ req

  pushed_none : {Z : Type 0} (own : ReqId) (servers bytes : List ℕ) (others : List Message) → Contains (pushes own servers bytes ++ others) m → (Contains others m → Z) → Z
  pushed_none own [] bytes others there more = more there
  pushed_none {Z} own (server ∷ servers) bytes others (zero, within, same) more = absurd (never (ap (λ (n : Message). n.body) same ∙ is))
    where
      never : bodies.Push own bytes ≡ bodies.About handle (chunks.Fetch req stamp epoch want) → ⊥
      never e = cc
  pushed_none own (server ∷ servers) bytes others (suc k, within, same) more = pushed_none own servers bytes others (k, (omega arith), same) more

  of_request : (own : ReqId) (request : Request) → Contains (messages_of own request) m → IsItsRequest own request
  of_request own (requests.Call call) there = absurd (never (ap (λ (n : Message). n.body) (one_of _ m there) ∙ is))
    where
      never : bodies.Call own call ≡ bodies.About handle (chunks.Fetch req stamp epoch want) → ⊥
      never e = cc
  of_request own (requests.Write chunk members primary at op bytes) there = pushed_none own (with_bytes members op) bytes _ there (λ last. absurd (never (ap (λ (n : Message). n.body) (one_of _ m last) ∙ is)))
    where
      never : bodies.About chunk (chunks.Edit own at op) ≡ bodies.About handle (chunks.Fetch req stamp epoch want) → ⊥
      never e = cc
  of_request own (requests.Fetch to chunk at within asked) there =
      let same : tell own (nodes.Server to) (bodies.About chunk (chunks.Fetch own at within asked)) ≡ m = one_of _ m there in
      let b : bodies.About chunk (chunks.Fetch own at within asked) ≡ bodies.About handle (chunks.Fetch req stamp epoch want) = ap (λ (n : Message). n.body) same ∙ is in
      record {
        to = to;
        request_is = (λ i. requests.Fetch to (handles b i) (stamps b i) (epochs b i) (wants b i));
        message = sym same ∙ (λ i. tell own (nodes.Server to) (bodies.About (handles b i) (chunks.Fetch own (stamps b i) (epochs b i) (wants b i))));
        own_is = owns b;
      }
    where
      handles : bodies.About chunk (chunks.Fetch own at within asked) ≡ bodies.About handle (chunks.Fetch req stamp epoch want) → chunk ≡ handle
      handles e = cc

      stamps : bodies.About chunk (chunks.Fetch own at within asked) ≡ bodies.About handle (chunks.Fetch req stamp epoch want) → at ≡ stamp
      stamps e = cc

      epochs : bodies.About chunk (chunks.Fetch own at within asked) ≡ bodies.About handle (chunks.Fetch req stamp epoch want) → within ≡ epoch
      epochs e = cc

      wants : bodies.About chunk (chunks.Fetch own at within asked) ≡ bodies.About handle (chunks.Fetch req stamp epoch want) → asked ≡ want
      wants e = cc

      owns : bodies.About chunk (chunks.Fetch own at within asked) ≡ bodies.About handle (chunks.Fetch req stamp epoch want) → own ≡ req
      owns e = cc

  -- ---- an event at which it goes out

  module _ {D : Type 0} (x : Setup D) (now next : History D) (a b : Account) (event : Event) (said : Result (Unit {0}) Refusal) (r : IsReached x now a) (moves : Moves x (Comes event) now a next b) (happens : Happens x.seen x.failures x.armed event now said next)
      (sends : Contains (sent_at happens.outcome) m) where
    -- a client asks then
    pub record IsAsked : Type 0 where
      pub by : ReqId
      pub request : Request
      pub node : Node
      pub asks : event.happening ≡ happenings.Ask by request
      pub found : client_in now.nodes.clients by.client ≡ Some node
      pub new : nat_le by.number node.last ≡ false
      pub behind : next.nodes ≡ with_client by.client (asking node by.number) now.nodes
      pub its : IsItsRequest (request_of node by.number) request

    there_by : Contains (sent_by happens.outcome) m
    there_by = subst (λ ms. Contains ms m) (same_sent happens.outcome) sends

    named_so : HearsNamed event.moment event.happening now
    named_so = (let well = reached_well x now a r in named x (Comes event) now moves.steps.within well.types)

    by_master : {Z : Type 0} (place : MasterPlace D) (turn : Turn) → MasterGoes x.seen x.failures x.armed now.nodes.config now.sent now.nodes.master place turn.sent.items → next.nodes ≡ with_master place now.nodes → happens.outcome ≡ told (Ok turn) → Z
    by_master place turn goes same is =
        let well = reached_well x now a r in
        let of : AreOfMaster turn.sent.items = master_says x now next place turn.sent.items well (step_well x r.begins.given (Comes event) now next well moves.steps) (ap (λ (n : Nodes D). n.master) same) goes in
        not_by_master (some_of (λ (n : Message). IsOfMaster n.body) turn.sent.items m of (subst (λ (o : Upshot). Contains (sent_at o) m) is sends))

    nothing : {Z : Type 0} → sent_by happens.outcome ≡ [] → Z
    nothing none = none_there m (subst (λ ms. Contains ms m) none there_by)

    by_part : Part x.seen x.failures x.armed now event.moment event.happening happens.outcome next.nodes → IsAsked
    by_part (Heard id message turn place it was to hears is same) =
        by_master place turn (MasterHeard message event.moment turn (id, was) to (subst (λ h. HearsNamed event.moment h now) it named_so message was to) hears refl) same is
    by_part (Ticked turn place it ticks is same) = by_master place turn (MasterTicked event.moment turn ticks refl) same is
    by_part (Opened (Ok turn) place it opens is same) = by_master place turn (MasterOpened turn opens refl) same is
    by_part (Opened (Err e) place it opens is same) = nothing (ap sent_by is)
    by_part (Armed disk call it silent same) = nothing silent
    by_part (Served by clients master) = not_by_server (some_of (λ (n : Message). IsByServer n.body) (sent_by happens.outcome) m by there_by)
    by_part (Asked by request node it found new sends_them behind) = record { by = by; request = request; node = node; asks = it; found = found; new = new; behind = behind; its = of_request (request_of node by.number) request (subst (λ ms. Contains ms m) sends_them there_by) }
    by_part (Told id message client node it was found silent same) = nothing silent
    by_part (Rested silent same) = nothing silent

    pub who_asks : IsAsked
    who_asks = by_part (part_of x.seen x.failures x.armed now event.moment event.happening happens.by happens.outcome next.nodes happens.at)

-- ---- what was asked

module _ {D : Type 0} (x : Setup D) (unarmed : IsUnarmed x.armed) where
  no_less : (a b : ℕ) → b ≡ a → a ≤ b
  no_less a b is = omega arith

  above : (number last : ℕ) → nat_le number last ≡ false → last ≤ number
  above number last is = grind (arith, nat_tests)

  -- it was asked still behind a step
  step_further : (step : Step) (old new : History D) → Goes x.seen x.failures x.armed step old new → (req : ReqId) → HasAsked old.nodes.clients req → HasAsked new.nodes.clients req
  step_further (Comes event) old new (said, h) req has = by_part (part_of x.seen x.failures x.armed old event.moment event.happening h.by h.outcome new.nodes h.at)
    where
      same : new.nodes.clients ≡ old.nodes.clients → HasAsked new.nodes.clients req
      same is = subst (λ cs. HasAsked cs req) (sym is) has

      by_part : Part x.seen x.failures x.armed old event.moment event.happening h.outcome new.nodes → HasAsked new.nodes.clients req
      by_part (Heard id message turn place it was to hears is there) = same (ap (λ (n : Nodes D). n.clients) there)
      by_part (Ticked turn place it ticks is there) = same (ap (λ (n : Nodes D). n.clients) there)
      by_part (Opened turn place it opens is there) = same (ap (λ (n : Nodes D). n.clients) there)
      by_part (Armed disk call it silent there) = same (ap (λ (n : Nodes D). n.clients) there)
      by_part (Served by clients master) = same clients
      by_part (Asked by request node it found new_number sends behind) = subst (λ (n : Nodes D). HasAsked n.clients req) (sym behind) (asked_further old.nodes.clients by.client node (asking node by.number) found (above by.number node.last new_number) req has)
      by_part (Told id message client node it was found silent there) =
          subst (λ (n : Nodes D). HasAsked n.clients req) (sym there) (asked_further old.nodes.clients client node (hearing (hears message.body node) node) found (no_less node.last (hearing (hears message.body node) node).last (hearing_same message.body node).1) req has)
      by_part (Rested silent there) = same (ap (λ (n : Nodes D). n.clients) there)
  step_further (Takes client) old new (found, takes, sent) req has = by_client (client_in old.nodes.clients client) refl takes
    where
      by_client : (o : Option Node) → client_in old.nodes.clients client ≡ o
          → MatchOption o ((new.nodes ≡ old.nodes) × (found ≡ None)) (λ n. (after : Node) × (new.nodes ≡ with_client client after old.nodes) × ((found ≡ n.reply) × (after ≡ given_up n))) → HasAsked new.nodes.clients req
      by_client None was (still, none) = subst (λ (n : Nodes D). HasAsked n.clients req) (sym still) has
      by_client (Some n) was (after, there, did) = subst (λ (k : Nodes D). HasAsked k.clients req) (sym there) (asked_further old.nodes.clients client n after was (no_less n.last after.last (ap (λ (y : Node). y.last) did.1)) req has)

  pub asked_on : (steps : List Step) (old new : History D) (a b : Account) → Runs x steps old a new b → (req : ReqId) → HasAsked old.nodes.clients req → HasAsked new.nodes.clients req
  asked_on [] old new a b runs req has = subst (λ (h : History D). HasAsked h.nodes.clients req) (sym runs.0) has
  asked_on (step ∷ steps) old new a b (mid, c, moves, rest) req has = asked_on steps mid new c b rest req (step_further step old mid moves.steps.goes req has)

  -- ---- a store that is reached

  runs_to : (steps : List Step) (old new : History D) (a b : Account) → Runs x steps old a new b → RunsTo x.seen x.failures x.armed steps old new
  runs_to [] old new a b runs = runs.0
  runs_to (step ∷ steps) old new a b (mid, c, moves, rest) = (mid, moves.steps.goes, runs_to steps mid new c b rest)

  all_within : (steps : List Step) (old new : History D) (a b : Account) → Runs x steps old a new b → AllByRecursion IsStepWithin steps
  all_within [] old new a b runs = tt
  all_within (step ∷ steps) old new a b (mid, c, moves, rest) = (moves.steps.within, all_within steps mid new c b rest)

  pub are_asked : HaveSizes → (now : History D) (a : Account) → IsReached x now a → AreAsked x.seen now
  are_asked sizes now a r =
      let well = begins_well x r.begins.given r.begun r.begins.begins in
      stays_unarmed x.seen x.failures x.armed r.steps r.begun now unarmed (runs_to r.steps r.begun now r.first a r.runs) (all_within r.steps r.begun now r.first a r.runs) well.types well.steady
      (begins_asked sizes x.seen x.failures x.armed x.config x.clients x.disks r.begun r.begins.given.new r.begins.begins)

  -- who asks then has asked behind it
  pub asks_then : (m : Message) (req : ReqId) (handle : ℕ) (stamp : Stamp) (epoch : ℕ) (want : Wanted) (is : Fetches m req handle stamp epoch want) (now next : History D) (a b : Account) (event : Event) (said : Result (Unit {0}) Refusal) (r : IsReached x now a) (moves : Moves x (Comes event) now a next b)
      (happens : Happens x.seen x.failures x.armed event now said next) (sends : Contains (sent_at happens.outcome) m) → Numbered_all now.nodes.clients → IsAsked m req handle stamp epoch want is x now next a b event said r moves happens sends → HasAsked next.nodes.clients req
  asks_then m req handle stamp epoch want is now next a b event said r moves happens sends numbered asked =
      let own : asked.node.id ≡ asked.by.client = own_id now.nodes.clients numbered asked.by.client asked.node asked.found in
      let request : record { client = asked.by.client; number = asked.by.number } ≡ req = (λ i. record { client = sym own i; number = asked.by.number }) ∙ asked.its.own_is in
      subst (λ (n : Nodes D). HasAsked n.clients req) (sym asked.behind)
      (subst (HasAsked (slice_set now.nodes.clients (asked.by.client.0 - 1) (asking asked.node asked.by.number))) request (asked_now now.nodes.clients asked.by.client asked.node (asking asked.node asked.by.number) asked.by.number asked.found (no_less asked.by.number asked.by.number refl)))
