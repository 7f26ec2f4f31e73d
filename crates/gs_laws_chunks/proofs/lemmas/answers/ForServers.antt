-- The master replies nothing to the number of an edit, or of a fetch: at each event, and over runs.
use Rattle.std.proofs.Common.{if◌then◌else◌, ◌≡◌, ◌∙◌, ◌<◌, ◌≤◌, inl, ℕ, Bool, true, false, List, [], ◌∷◌, MatchOption, None, Option, Some, Result, Ok, Err, Vec, refl, sym, ap, subst, arith, nat_le}
use Rattle.std.specs.List.{AllByRecursion}
use Rattle.std.specs.declared.alloc.Global.{Global}
use Rattle.std.proofs.lemmas.Bool.{false≢true}
use Rattle.std.proofs.lemmas.Bool.Decides.{nat_tests}
use Rattle.gs_base.specs.declared.numbers.Moment.{Moment}
use Rattle.gs_base.specs.declared.numbers.ReqId.{ReqId}
use Rattle.gs_base.specs.declared.refusal.Refusal.{Refusal}
use Rattle.gs_base.specs.declared.refusal.Refusal.TheVariants as refusals
use Rattle.gs_client.specs.Nodes.{Asks, Node, given_up, messages_of, pushes, request_of, with_bytes}
use Rattle.gs_client.specs.declared.link.Reply.{Reply}
use Rattle.gs_laws_chunks.proofs.lemmas.answers.Asked.{AllSaid, asked_now, both_said, caller_said, hears_left, keeps_further, pushes_said, request_said, says_further, servers_said, ticks_left}
use Rattle.gs_laws_chunks.proofs.lemmas.answers.OfTree.{stays_sparing}
use Rattle.gs_laws_chunks.proofs.lemmas.answers.Parts.{Armed, Asked, Heard, Opened, Part, Rested, Served, Ticked, Told, asking, part_of, with_client}
use Rattle.gs_laws_chunks.proofs.lemmas.answers.Replied.{run_replied}
use Rattle.gs_laws_chunks.proofs.lemmas.answers.Served.{further, later_one, same_node}
use Rattle.gs_laws_chunks.proofs.lemmas.answers.Sparing.{AllSpare, asked_spared, lasts_spared, run_spared}
use Rattle.gs_laws_chunks.proofs.lemmas.calls.Arming.{unarmed_alone}
use Rattle.gs_laws_chunks.proofs.lemmas.calls.Runs.{posts}
use Rattle.gs_laws_chunks.specs.answers.Answered.{sent_by, spares_master}
use Rattle.gs_laws_chunks.specs.answers.Asked.{AreAsked, HasAsked, KeepsOfAt, SaysOf}
use Rattle.gs_laws_chunks.specs.answers.OfTree.{AreSparing, AsksAnew, RequestsAreForServers, SparesReply, SparesTree, is_for_server}
use Rattle.gs_laws_chunks.specs.answers.Replied.{SaysReply, WasReplied}
use Rattle.gs_laws_lift.proofs.lemmas.stores.Posting.{posted_all, sent_then}
use Rattle.gs_laws_lift.specs.stores.Going.{AllSent, Posts}
use Rattle.gs_laws_world.proofs.lemmas.steady.Keeping.{step_keeps}
use Rattle.gs_laws_world.specs.steady.Asking.{asks_at}
use Rattle.gs_laws_world.specs.steady.Saying.{IsStepWithin, KeepsTypes}
use Rattle.gs_laws_world.specs.steady.Through.{LastsThrough}
use Rattle.gs_laws_world.specs.steady.Unarmed.{unarmed}
use Rattle.gs_msg.specs.declared.body.Body.{Body}
use Rattle.gs_msg.specs.declared.body.Body.TheVariants as bodies
use Rattle.gs_msg.specs.declared.event.DiskId.{DiskId}
use Rattle.gs_msg.specs.declared.event.Happening.{Happening}
use Rattle.gs_msg.specs.declared.event.Happening.TheVariants as happenings
use Rattle.gs_msg.specs.declared.event.Request.{Request}
use Rattle.gs_msg.specs.declared.event.Request.TheVariants as requests
use Rattle.gs_msg.specs.declared.message.Message.{Message}
use Rattle.gs_msg.specs.declared.node.NodeId.{NodeId}
use Rattle.gs_msg.specs.declared.node.StoreNode.TheVariants as keepers
use Rattle.gs_nodes.specs.Happenings.{AtClient, ClientAsks, client_in}
use Rattle.gs_nodes.specs.Nodes.{Nodes}
use Rattle.gs_nodes.specs.declared.place.MasterPlace.{MasterPlace}
use Rattle.gs_world.specs.Histories.{AsksAt, Happens, History, Tells, Upshot, asked}
use Rattle.gs_world.specs.Runs.{Comes, Goes, RunsTo, Step, Takes}
use Rattle.gs_world.specs.Sent.{IsPosted, Sent}

-- what a client asks of servers is no call
served_said : (P : ReqId → Type 0) (own : ReqId) (request : Request) → is_for_server request ≡ true → AllSaid P (messages_of own request)
served_said P own (requests.Call call) is = absurd (false≢true is)
served_said P own (requests.Write handle members primary stamp op bytes) is = both_said P (pushes own (with_bytes members op) bytes) _ (pushes_said P own (with_bytes members op) bytes) (tt, tt)
served_said P own (requests.Fetch to handle stamp epoch asked) is = (tt, tt)

module _ {D : Type 0} (seen : D → List ℕ) (failures : D → ℕ) (armed : DiskId → ℕ → MasterPlace D → MasterPlace D) where
  -- ---- what an event leaves of calls and replies

  -- what clients ask at it is such
  abbrev PartAsks : (ReqId → Type 0) → History D → Happening → Type 0
  PartAsks Q old happening = (other : ReqId) (request : Request) (n : Node) → happening ≡ happenings.Ask other request → client_in old.nodes.clients other.client ≡ Some n → nat_le other.number n.last ≡ false → AllSaid Q (messages_of (request_of n other.number) request)

  module _ (Q : ReqId → Type 0) (old : History D) (sent : AllSent (λ (m : Message). SaysOf Q m.from m.body) old.sent) (master : KeepsOfAt Q old.nodes.master) (moment : Moment) (happening : Happening) (outcome : Upshot) (spares : spares_master (Comes (record { moment = moment; happening = happening })) ≡ true)
      (asks : PartAsks Q old happening) where
    abbrev Leaves : Nodes D → Type 0
    Leaves new = AllSaid Q (sent_by outcome) × KeepsOfAt Q new.master

    none_said : sent_by outcome ≡ [] → AllSaid Q (sent_by outcome)
    none_said none = subst (AllSaid Q) (sym none) tt

    -- the master isn't started again, and no failure is arranged
    not_spared : (other : Happening) → happening ≡ other → spares_master (Comes (record { moment = moment; happening = other })) ≡ false → ⊥
    not_spared other it not = false≢true (sym not ∙ subst (λ h. spares_master (Comes (record { moment = moment; happening = h })) ≡ true) it spares)

    part_leaves : (new : Nodes D) → Part seen failures armed old moment happening outcome new → Leaves new
    part_leaves new (Heard id message turn place it was to heard is same) =
        let left = hears_left seen failures Q message moment old.nodes.master place turn master (caller_said Q message.from message.body (sent id message was)) heard in
        (subst (AllSaid Q) (sym (ap sent_by is)) left.1, subst (λ (n : Nodes D). KeepsOfAt Q n.master) (sym same) left.0)
    part_leaves new (Ticked turn place it ticks is same) =
        let left = ticks_left seen failures Q moment old.nodes.master place turn master ticks in (subst (AllSaid Q) (sym (ap sent_by is)) left.1, subst (λ (n : Nodes D). KeepsOfAt Q n.master) (sym same) left.0)
    part_leaves new (Opened turn place it opens is same) = absurd (not_spared (happenings.Restart keepers.Master) it refl)
    part_leaves new (Armed disk call it none same) = absurd (not_spared (happenings.FailDisk disk call) it refl)
    part_leaves new (Served by clients there) = (servers_said Q (sent_by outcome) by, subst (KeepsOfAt Q) (sym there) master)
    part_leaves new (Asked other request n it found number sends same) = (subst (AllSaid Q) (sym sends) (asks other request n it found number), subst (λ (x : Nodes D). KeepsOfAt Q x.master) (sym same) master)
    part_leaves new (Told id message client n it was found none same) = (none_said none, subst (λ (x : Nodes D). KeepsOfAt Q x.master) (sym same) master)
    part_leaves new (Rested none same) = (none_said none, subst (λ (x : Nodes D). KeepsOfAt Q x.master) (sym same) master)

  -- ---- a client that asks

  module _ (old : History D) (moment : Moment) (req : ReqId) (request : Request) (node : Node) (there : client_in old.nodes.clients req.client ≡ Some node) (fresh : node.last < req.number) where
    -- it has asked then, and this is sent
    record IsTaken (nodes : Nodes D) (sent : Sent) (by : NodeId) : Type 0 where
      became : nodes ≡ with_client req.client (asking node req.number) old.nodes
      posted : Posts moment by (messages_of (request_of node req.number) request) old.sent sent

    not_old : (number last : ℕ) → last < number → nat_le number last ≡ false
    not_old number last less = grind (arith, nat_tests)

    taken_one : (nodes : Nodes D) (sent : Sent) (by : NodeId) (out : Vec Message Global) (after : Node) → nodes ≡ with_client req.client after old.nodes → IsPosted moment by out.items old.sent sent → (b : Bool) → b ≡ false
        → Asks (if b then Err refusals.Old else Ok (asking node req.number, messages_of (request_of node req.number) request)) (Ok out) node after → IsTaken nodes sent by
    taken_one nodes sent by out after same posted true not never = absurd never
    taken_one nodes sent by out after same posted false not (is, sends) = record { became = same ∙ ap (λ (n : Node). with_client req.client n old.nodes) is; posted = inl (subst (λ ms. IsPosted moment by ms old.sent sent) sends posted) }

    node_is : {a b : Node} → ◌≡◌ {A = Option Node} (Some a) (Some b) → a ≡ b
    node_is is = cc

    taken_found : (o : Option Node) → o ≡ Some node → (nodes : Nodes D) (sent : Sent) (by : NodeId) (out : Vec Message Global) → IsPosted moment by out.items old.sent sent
        → MatchOption o ((nodes ≡ old.nodes) × (◌≡◌ {A = Result (Vec Message Global) Refusal} (Ok out) (Err refusals.Range))) (λ n. (after : Node) × (nodes ≡ with_client req.client after old.nodes) × ClientAsks req.number request n (Ok out) after) → IsTaken nodes sent by
    taken_found None is nodes sent by out posted at = absurd cc
    taken_found (Some n) is nodes sent by out posted (after, same, a) =
        taken_one nodes sent by out after same posted (nat_le req.number node.last) (not_old req.number node.last fresh) (subst (λ x. ClientAsks req.number request x (Ok out) after) (node_is is) a)

    taken_all : (out : Result (Vec Message Global) Refusal) (nodes : Nodes D) (sent : Sent) (by : NodeId) → AtClient req.client (Err refusals.Range) (ClientAsks req.number request) old.nodes out nodes
        → Tells seen failures armed moment by (asked out) old.sent (Ok tt) sent → IsTaken nodes sent by
    taken_all (Ok out) nodes sent by at tells = taken_found (client_in old.nodes.clients req.client) there nodes sent by out tells.0 at
    taken_all (Err refusal) nodes sent by at tells = absurd (never tells.1)
      where
        never : ◌≡◌ {A = Result (Unit {0}) Refusal} (Ok tt) (Err refusal) → ⊥
        never is = cc

    taken_so : (nodes : Nodes D) (sent : Sent) (by : NodeId) (outcome : Upshot) → AsksAt req request old.nodes outcome nodes → Tells seen failures armed moment by outcome old.sent (Ok tt) sent → IsTaken nodes sent by
    taken_so nodes sent by outcome (out, at, is) tells = taken_all out nodes sent by at (subst (λ o. Tells seen failures armed moment by o old.sent (Ok tt) sent) is tells)

    is_taken : (new : History D) (h : Happens seen failures armed (asks_at moment req request) old (Ok tt) new) → IsTaken new.nodes new.sent h.by
    is_taken new h = taken_so new.nodes new.sent h.by h.outcome h.at.1 h.tells

  -- ---- a request that the master knows nothing of

  module _ (req : ReqId) where
    abbrev Other : ReqId → Type 0
    Other other = other ≡ req → ⊥

    record IsUncalled (h : History D) : Type 0 where
      asked : AreAsked seen h
      has : HasAsked h.nodes.clients req
      types : KeepsTypes h
      lasts : LastsThrough seen h.nodes.master
      sent : AllSent (λ (m : Message). SaysOf Other m.from m.body) h.sent
      master : KeepsOfAt Other h.nodes.master

    abbrev Leaves_it : History D → Type 0
    Leaves_it new = AllSent (λ (m : Message). SaysOf Other m.from m.body) new.sent × KeepsOfAt Other new.nodes.master

    leaves : (step : Step) (old new : History D) → Goes seen failures armed step old new → spares_master step ≡ true → IsUncalled old → Leaves_it new
    leaves (Comes event) old new (said, h) spares u =
        let left = part_leaves Other old u.sent u.master event.moment event.happening h.outcome spares (λ other request n it found number. request_said Other (request_of n other.number) request (later_one seen failures armed req old u.asked u.has other n found number)) new.nodes
        (part_of seen failures armed old event.moment event.happening h.by h.outcome new.nodes h.at) in
        (posted_all (λ (m : Message). SaysOf Other m.from m.body) event.moment h.by (sent_by h.outcome) old.sent new.sent (posts seen failures armed event.moment h.by h.outcome old.sent said new.sent h.tells) u.sent left.0, left.1)
    leaves (Takes client) old new (found, taken, same) spares u = (subst (AllSent (λ (m : Message). SaysOf Other m.from m.body)) (sym same) u.sent, by_client (client_in old.nodes.clients client) taken)
      where
        by_client : (o : Option Node) → MatchOption o ((new.nodes ≡ old.nodes) × (found ≡ None)) (λ n. (after : Node) × (new.nodes ≡ with_client client after old.nodes) × ((found ≡ n.reply) × (after ≡ given_up n))) → KeepsOfAt Other new.nodes.master
        by_client None (still, none) = subst (λ (n : Nodes D). KeepsOfAt Other n.master) (sym still) u.master
        by_client (Some n) (after, there, did) = subst (λ (x : Nodes D). KeepsOfAt Other x.master) (sym there) u.master

    uncalled_on : (step : Step) (old new : History D) → Goes seen failures armed step old new → spares_master step ≡ true → IsStepWithin step → IsUncalled old → IsUncalled new
    uncalled_on step old new goes spares within u = (let left = leaves step old new goes spares u in record {
      asked = asked_spared seen failures armed (step ∷ []) old new (new, goes, refl) (spares, tt) (within, tt) u.types u.lasts u.asked;
      has = further seen failures armed step old new goes req u.has;
      types = step_keeps seen failures armed step old new goes within u.types;
      lasts = lasts_spared seen failures armed (step ∷ []) old new (new, goes, refl) (spares, tt) (within, tt) u.types u.lasts;
      sent = left.0;
      master = left.1;
    })

    run_uncalled : (steps : List Step) (old new : History D) → RunsTo seen failures armed steps old new → AllSpare steps → AllByRecursion IsStepWithin steps → IsUncalled old → IsUncalled new
    run_uncalled [] old new same spare within u = subst IsUncalled (sym same) u
    run_uncalled (step ∷ steps) old new (mid, goes, rest) spare within u = run_uncalled steps mid new rest spare.1 within.1 (uncalled_on step old mid goes spare.0 within.0 u)

    -- where it is asked of servers
    module _ (request : Request) (is : is_for_server request ≡ true) (old asked : History D) (moment : Moment) (are : AreAsked seen old) (types : KeepsTypes old) (lasts : LastsThrough seen old.nodes.master) (x : AsksAnew seen failures armed old moment req request asked)
        (within : IsStepWithin (Comes (asks_at moment req request))) where
      abbrev ask : Step
      ask = Comes (asks_at moment req request)

      abbrev goes : Goes seen failures armed ask old asked
      goes = (Ok tt, x.happens)

      taken : IsTaken old moment req request x.node x.there x.fresh asked.nodes asked.sent x.happens.by
      taken = is_taken old moment req request x.node x.there x.fresh asked x.happens

      none_asked : (other : ReqId) → HasAsked old.nodes.clients other → Other other
      none_asked other has same =
          let mine = subst (λ r. HasAsked old.nodes.clients r) same has in
          let node = same_node seen failures armed req mine.node x.node (sym mine.there ∙ x.there) in
          clash req.number mine.node.last x.node.last mine.number (ap (λ (n : Node). n.last) node) x.fresh
        where
          clash : (a b c : ℕ) → a ≤ b → b ≡ c → c < a → ⊥
          clash a b c first same less = omega arith

      itself : (n : ℕ) → n ≤ n
      itself n = omega arith

      uncalled_first : IsUncalled asked
      uncalled_first = record {
        asked = asked_spared seen failures armed (ask ∷ []) old asked (asked, goes, refl) (refl, tt) (within, tt) types lasts are;
        has = subst (λ (n : Nodes D). HasAsked n.clients req) (sym taken.became) (asked_now old.nodes.clients req.client x.node (asking x.node req.number) req.number x.there (itself req.number));
        types = step_keeps seen failures armed ask old asked goes within types;
        lasts = lasts_spared seen failures armed (ask ∷ []) old asked (asked, goes, refl) (refl, tt) (within, tt) types lasts;
        sent = posted_all (λ (m : Message). SaysOf Other m.from m.body) moment x.happens.by (messages_of (request_of x.node req.number) request) old.sent asked.sent taken.posted
            (sent_then (λ (m : Message). SaysOf (HasAsked old.nodes.clients) m.from m.body) (λ (m : Message). SaysOf Other m.from m.body) old.sent (λ m was. says_further (HasAsked old.nodes.clients) Other none_asked m.from m.body was) are.sent)
            (served_said Other (request_of x.node req.number) request is);
        master = subst (λ (n : Nodes D). KeepsOfAt Other n.master) (sym taken.became) (keeps_further (HasAsked old.nodes.clients) Other none_asked old.nodes.master are.master);
      }

    -- ---- what it is replied

    said_spares : (reply : Reply) (from : NodeId) (body : Body) → SaysReply req reply body → SaysOf Other from body → SparesTree body → SparesReply reply
    said_spares reply from (bodies.Reply other result) says of spares = absurd (of says.0)
    said_spares reply from (bodies.Done other (Ok outcome)) says of spares = subst SparesReply (sym says.1) tt
    said_spares reply from (bodies.Done other (Err refusal)) says of spares = subst SparesReply (sym says.1) spares
    said_spares reply from (bodies.Bytes other (Ok given)) says of spares = subst SparesReply (sym says.1) tt
    said_spares reply from (bodies.Bytes other (Err refusal)) says of spares = subst SparesReply (sym says.1) spares
    said_spares reply from body says of spares = absurd says

    was_spared : (h : History D) → IsUncalled h → AreSparing h → (reply : Reply) → WasReplied h.sent req reply → SparesReply reply
    was_spared h u are reply w = said_spares reply w.message.from w.message.body w.says (u.sent w.was.0 w.message w.was.1) (are.sent w.was.0 w.message w.was.1)

  pub requests_are_for_servers : RequestsAreForServers seen failures armed
  requests_are_for_servers old asked new moment req request steps node reply are replied sparing types lasts fresh is runs spare within there last has =
      let ask : Step = Comes (asks_at moment req request) in
      let whole : RunsTo seen failures armed (ask ∷ steps) old new = (asked, (Ok tt, fresh.happens), runs) in
      let end = run_uncalled req steps asked new runs spare within.1 (uncalled_first req request is old asked moment are types lasts fresh within.0) in
      let spared = stays_sparing seen failures unarmed (unarmed_alone seen failures) (ask ∷ steps) old new (run_spared seen failures armed (ask ∷ steps) old new (refl, spare) whole) within types lasts sparing in
      let told = run_replied seen failures armed (ask ∷ steps) old new whole replied in
      let its : ◌≡◌ {A = ReqId} (record { client = req.client; number = node.last }) req = λ i. record { client = req.client; number = last i } in
      was_spared req new end spared reply (subst (λ r. WasReplied new.sent r reply) its (told.replied req.client node reply there has))
