-- What a desk carries for a client is a call with its answer.
use Rattle.std.proofs.Common.{if◌then◌else◌, ◌≡◌, ◌∙◌, ◌⊎◌, inl, inr, ◌++◌, ◌-◌, ◌<◌, ℕ, zero, suc, Bool, true, false, List, [], ◌∷◌, Option, Some, None, MatchOption, Result, Ok, Err, Vec, min, refl, sym, ap, subst, arith, length, nat_le, slice_set}
use Rattle.std.specs.Prelude.{unwrap_or}
use Rattle.std.specs.List.{AllByRecursion}
use Rattle.std.specs.declared.alloc.Global.{Global}
use Rattle.std.proofs.lemmas.Bool.Decides.{nat_tests}
use Rattle.gs_base.specs.Told.{IsNumber}
use Rattle.gs_base.specs.declared.numbers.ClientId.{ClientId}
use Rattle.gs_base.specs.declared.numbers.Moment.{Moment}
use Rattle.gs_base.specs.declared.numbers.ReqId.{ReqId}
use Rattle.gs_base.specs.declared.refusal.Refusal.{Refusal}
use Rattle.gs_base.specs.declared.refusal.Refusal.TheVariants as refusals
use Rattle.gs_client.specs.Nodes.{Asks, Node, given_up, hears, messages_of, request_of}
use Rattle.gs_client.specs.declared.link.Reply.{Reply}
use Rattle.gs_client.specs.declared.link.Reply.TheVariants as replies
use Rattle.gs_msg.specs.declared.answer.Answer.{Answer}
use Rattle.gs_msg.specs.declared.call.Call.{Call}
use Rattle.gs_msg.specs.declared.event.Happening.{Happening}
use Rattle.gs_msg.specs.declared.event.Happening.TheVariants as happenings
use Rattle.gs_msg.specs.declared.event.Request.{Request}
use Rattle.gs_msg.specs.declared.event.Request.TheVariants as requests
use Rattle.gs_msg.specs.declared.message.Message.{Message}
use Rattle.gs_msg.specs.declared.node.NodeId.{NodeId}
use Rattle.gs_msg.specs.declared.node.NodeId.TheVariants as nodes
use Rattle.gs_msg.specs.declared.node.StoreNode.TheVariants as keepers
use Rattle.gs_server.specs.Servers as servers
use Rattle.gs_nodes.specs.Happenings.{AtClient, ClientAsks, ServerDoes, client_in, met_by}
use Rattle.gs_nodes.specs.Nodes.{Nodes, with_clients, with_master}
use Rattle.gs_shell_desk.specs.Ways.{AllTick, AnswersAsked, DeliversAll, DeliversWhole, IsAsked, IsDelivered, MasterTicked, ServerTicked, ServersTick, TicksIf, Way, WithFirst, last_count, with_nodes, with_queue}
use Rattle.gs_world.specs.Histories.{AtNode, ComesTo, Happens, History, Upshot, told}
use Rattle.gs_world.specs.Runs.{Comes, Goes, RunsTo, SameNodes, Step, Takes}
use Rattle.gs_world.specs.Sent.{IsSent, Sent}
use Rattle.gs_world.proofs.Staying.{at_client, at_node}
use Rattle.gs_laws_chunks.proofs.lemmas.answers.Answered.{set_client}
use Rattle.gs_laws_chunks.proofs.lemmas.answers.Asked.{found_now, hearing_same}
use Rattle.gs_laws_chunks.proofs.lemmas.answers.Parts.{Armed, Asked, Heard as HeardThere, Opened, Part, Rested, Served, Ticked, Told, asking, hearing, part_of}
use Rattle.gs_laws_chunks.specs.answers.Resting.{IsLooking}
use Rattle.gs_laws_world.specs.steady.Asking.{MayBeAsked}
use Rattle.gs_laws_chunks.specs.desks.Reached.{AllSent, Covers, history}
use Rattle.gs_laws_world.specs.steady.Unarmed.{unarmed}
use Rattle.gs_laws_world.specs.steady.Saying.{IsAskedWithin, IsStepWithin}
use Rattle.gs_laws_chunks.proofs.lemmas.desks.Ending.{Alike, CanPost, IsOver, alike_covers, as_it_is, asking_client, delivered_posts, ended, master_posts, sent_moment, server_posts}
use Rattle.gs_laws_chunks.proofs.lemmas.desks.Sending.{Posting, sends, sends_none}
use Rattle.gs_laws_looks.specs.carrying.Asked.{Delivers}
use Rattle.gs_laws_looks.specs.carrying.Carried.{CallsAreCarried, IsCarried}
use Rattle.gs_laws_chunks.specs.answers.Changed.{IsAt}

-- what the client has asked last
abbrev pub LastIs : ClientId → ℕ → List Node → Type 0
LastIs client number clients = (n : Node) → client_in clients client ≡ Some n → n.last ≡ number

module _ {D : Type 0} (seen : D → List ℕ) (failures : D → ℕ) where
  -- ---- an event

  over_moment : (outcome : Upshot) (w new : Way D) → IsOver outcome w new → new.moment ≡ w.moment
  over_moment (Ok (messages, said)) w new (mid, all, same) = same.moment ∙ sent_moment messages w mid all
  over_moment (Err refusal) w new same = same.moment

  -- what is said of it
  abbrev said_of : Upshot → Result (Unit {0}) Refusal
  said_of (Ok (messages, said)) = met_by said
  said_of (Err refusal) = Err refusal

  pub record OneEvent (happening : Happening) (outcome : Upshot) (nodes : Nodes D) (old new : Way D) (sent : Sent) : Type 0 where
    pub after : Sent
    pub said : Result (Unit {0}) Refusal
    pub says : said ≡ said_of outcome
    pub happens : Happens seen failures unarmed (record { moment = old.moment; happening = happening }) (history sent old) said (history after new)
    pub covers : Covers after new
    pub moment : new.moment ≡ old.moment
    pub is : new.nodes ≡ nodes

  at_nodes : (sent : Sent) (w : Way D) (nodes : Nodes D) → SameNodes w.nodes nodes → Covers sent w → Covers sent (with_nodes nodes w)
  at_nodes sent w nodes same c = record { queue = c.queue; held = c.held; servers = c.servers ∙ sym same.servers; clients = c.clients ∙ sym same.clients; short = c.short }

  pub one_event : (happening : Happening) (by : NodeId) (outcome : Upshot) (nodes : Nodes D) (old new : Way D) (sent : Sent) → AtNode seen failures unarmed old.moment happening (history sent old) by outcome nodes → CanPost sent by outcome → Covers sent old
      → IsOver outcome (with_nodes nodes old) new → OneEvent happening outcome nodes old new sent
  one_event happening by outcome nodes old new sent at can covers over = by_outcome outcome at can over
    where
      posted : (messages : List Message) (said : Option Refusal) (mid : Way D) → AtNode seen failures unarmed old.moment happening (history sent old) by (Ok (messages, said)) nodes → Alike mid new → Posting old.moment by messages sent (with_nodes nodes old) mid → new.moment ≡ old.moment
          → OneEvent happening (Ok (messages, said)) nodes old new sent
      posted messages said mid at same p moment = (let is : new.nodes ≡ nodes = same.nodes ∙ p.nodes in record {
        after = p.after;
        said = met_by said;
        says = refl;
        happens = record { by = by; outcome = Ok (messages, said); at = subst (λ n. AtNode seen failures unarmed old.moment happening (history sent old) by (Ok (messages, said)) n) (sym is) at; tells = (p.posts, refl) };
        covers = alike_covers p.after mid new same p.covers;
        moment = moment;
        is = is;
      })

      by_outcome : (o : Upshot) → AtNode seen failures unarmed old.moment happening (history sent old) by o nodes → CanPost sent by o → IsOver o (with_nodes nodes old) new → OneEvent happening o nodes old new sent
      by_outcome (Ok (messages, said)) at can (mid, all, same) =
          let c = at_nodes sent old nodes (at_node seen failures unarmed old.moment happening (history sent old) by (Ok (messages, said)) nodes at) covers in
          let moment = over_moment (Ok (messages, said)) (with_nodes nodes old) new (mid, all, same) in
          elim can [
            | inl has ↦ posted messages said mid at same (sends old.moment by messages sent (with_nodes nodes old) mid has c all) moment
            | inr none ↦ posted messages said mid at same (sends_none old.moment by messages sent (with_nodes nodes old) mid none c all) moment
          ]
      by_outcome (Err refusal) at can a =
          let c = at_nodes sent old nodes (at_node seen failures unarmed old.moment happening (history sent old) by (Err refusal) nodes at) covers in record {
            after = sent;
            said = Err refusal;
            says = refl;
            happens = record { by = by; outcome = Err refusal; at = subst (λ n. AtNode seen failures unarmed old.moment happening (history sent old) by (Err refusal) n) (sym a.nodes) at; tells = (refl, refl) };
            covers = alike_covers sent (with_nodes nodes old) new a c;
            moment = a.moment;
            is = a.nodes;
          }

  -- ---- steps at which nothing is asked

  module _ (client : ClientId) where
    pub record Calm (old new : Way D) (sent : Sent) : Type 0 where
      pub steps : List Step
      pub after : Sent
      pub runs : RunsTo seen failures unarmed steps (history sent old) (history after new)
      pub covers : Covers after new
      pub within : AllByRecursion IsStepWithin steps
      pub looking : AllByRecursion (IsLooking client) steps
      pub only : AllByRecursion Delivers steps
      pub moments : AllByRecursion (IsAt old.moment) steps
      pub last : (number : ℕ) → LastIs client number old.nodes.clients → LastIs client number new.nodes.clients
      pub moment : new.moment ≡ old.moment

    abbrev pub Leads : Way D → Way D → Type 0
    Leads old new = (sent : Sent) → Covers sent old → IsNumber old.moment.0 → Calm old new sent

    pub joined : (xs ys : List Step) (old mid new : History D) → RunsTo seen failures unarmed xs old mid → RunsTo seen failures unarmed ys mid new → RunsTo seen failures unarmed (xs ++ ys) old new
    joined [] ys old mid new same second = subst (λ (h : History D). RunsTo seen failures unarmed ys h new) same second
    joined (x ∷ xs) ys old mid new (first, goes, rest) second = (first, goes, joined xs ys first mid new rest second)

    pub both : (S : Step → Type 0) (xs ys : List Step) → AllByRecursion S xs → AllByRecursion S ys → AllByRecursion S (xs ++ ys)
    both S [] ys first second = second
    both S (x ∷ xs) ys first second = (first.0, both S xs ys first.1 second)

    chained : (old mid new : Way D) (sent : Sent) (a : Calm old mid sent) → Calm mid new a.after → Calm old new sent
    chained old mid new sent a b = record {
      steps = a.steps ++ b.steps;
      after = b.after;
      runs = joined a.steps b.steps (history sent old) (history a.after mid) (history b.after new) a.runs b.runs;
      covers = b.covers;
      within = both IsStepWithin a.steps b.steps a.within b.within;
      looking = both (IsLooking client) a.steps b.steps a.looking b.looking;
      only = both Delivers a.steps b.steps a.only b.only;
      moments = both (IsAt old.moment) a.steps b.steps a.moments (subst (λ m. AllByRecursion (IsAt m) b.steps) a.moment b.moments);
      last = λ number is. b.last number (a.last number is);
      moment = b.moment ∙ a.moment;
    }

    small_on : (old mid : Way D) → mid.moment ≡ old.moment → IsNumber old.moment.0 → IsNumber mid.moment.0
    small_on old mid same small = subst (λ (m : Moment). IsNumber m.0) (sym same) small

    pub chain : (old mid new : Way D) → Leads old mid → Leads mid new → Leads old new
    chain old mid new first second sent covers small = (let a = first sent covers small in chained old mid new sent a (second a.after a.covers (small_on old mid a.moment small)))

    pub nothing : (old new : Way D) → new ≡ old → Leads old new
    nothing old new same sent covers small = record {
      steps = [];
      after = sent;
      runs = ap (history sent) same;
      covers = subst (λ w. Covers sent w) (sym same) covers;
      within = tt;
      looking = tt;
      only = tt;
      moments = tt;
      last = λ number is. subst (λ (w : Way D). LastIs client number w.nodes.clients) (sym same) is;
      moment = ap (λ (w : Way D). w.moment) same;
    }

    -- what a client hears leaves what it has asked last
    part_last : (old : History D) (moment : Moment) (happening : Happening) (outcome : Upshot) (new : Nodes D) → ((req : ReqId) (request : Request) → happening ≡ happenings.Ask req request → ⊥) → Part seen failures unarmed old moment happening outcome new
        → (number : ℕ) → LastIs client number old.nodes.clients → LastIs client number new.clients
    part_last old moment happening outcome new none (HeardThere id message turn place it was to hears is same) number last = subst (λ (n : Nodes D). LastIs client number n.clients) (sym same) last
    part_last old moment happening outcome new none (Ticked turn place it ticks is same) number last = subst (λ (n : Nodes D). LastIs client number n.clients) (sym same) last
    part_last old moment happening outcome new none (Opened turn place it opens is same) number last = subst (λ (n : Nodes D). LastIs client number n.clients) (sym same) last
    part_last old moment happening outcome new none (Armed disk call it silent same) number last = subst (λ (n : Nodes D). LastIs client number n.clients) (sym same) last
    part_last old moment happening outcome new none (Served by clients master) number last = subst (LastIs client number) (sym clients) last
    part_last old moment happening outcome new none (Asked req request n it found low sends same) number last = absurd (none req request it)
    part_last old moment happening outcome new none (Told id message other n it was found silent same) number last = λ x there.
        by x (set_client old.nodes.clients other client n (hearing (hears message.body n) n) x found (ap (λ (k : Nodes D). client_in k.clients client) (sym same) ∙ there))
      where
        by : (x : Node) → ((other ≡ client) × (x ≡ hearing (hears message.body n) n)) ⊎ (client_in old.nodes.clients client ≡ Some x) → x.last ≡ number
        by x (inl mine) = ap (λ (y : Node). y.last) mine.1 ∙ (hearing_same message.body n).1 ∙ last n (subst (λ c. client_in old.nodes.clients c ≡ Some n) mine.0 found)
        by x (inr before) = last x before
    part_last old moment happening outcome new none (Rested silent same) number last = subst (λ (n : Nodes D). LastIs client number n.clients) (sym same) last

    calm_event : (happening : Happening) (by : NodeId) (outcome : Upshot) (nodes : Nodes D) (old new : Way D) (sent : Sent) → IsLooking client (Comes (record { moment = old.moment; happening = happening })) → Delivers (Comes (record { moment = old.moment; happening = happening })) → IsAskedWithin happening
        → ((req : ReqId) (request : Request) → happening ≡ happenings.Ask req request → ⊥) → AtNode seen failures unarmed old.moment happening (history sent old) by outcome nodes → CanPost sent by outcome → Covers sent old → IsNumber old.moment.0 → IsOver outcome (with_nodes nodes old) new → Calm old new sent
    calm_event happening by outcome nodes old new sent looking delivers within none at can covers small over = (let one = one_event happening by outcome nodes old new sent at can covers over in record {
      steps = Comes (record { moment = old.moment; happening = happening }) ∷ [];
      after = one.after;
      runs = (history one.after new, (one.said, one.happens), refl);
      covers = one.covers;
      within = ((small, within), tt);
      looking = (looking, tt);
      only = (delivers, tt);
      moments = (refl, tt);
      last = λ number last. part_last (history sent old) old.moment happening one.happens.outcome new.nodes none (part_of seen failures unarmed (history sent old) old.moment happening one.happens.by one.happens.outcome new.nodes one.happens.at) number last;
      moment = one.moment;
    })

    -- ---- deliveries

    delivers_one : (message : Message) (old : Way D) (said : Result (Unit {0}) Refusal) (new : Way D) (sent : Sent) → IsDelivered seen failures message old said new → IsSent message sent → Covers sent old → IsNumber old.moment.0 → Calm old new sent
    delivers_one message old said new sent d (id, is) covers small =
        calm_event (happenings.Deliver id) message.to (told d.turn) d.nodes old new sent (refl, tt) tt tt (λ req request is. absurd cc)
        (subst (λ (o : Option Message). MatchOption o ((told d.turn ≡ Err refusals.Range) × (d.nodes ≡ old.nodes) × (message.to ≡ id.sender)) (λ m. ComesTo seen failures unarmed id.sender m old.moment old.nodes message.to (told d.turn) d.nodes)) (sym is)
        (inl (refl, d.turn, d.delivers, refl))) (delivered_posts seen failures message old.moment sent old.nodes d.turn d.nodes covers.servers d.delivers) covers small (ended d.turn (with_nodes d.nodes old) said new d.ends)

    next_sent : (message : Message) (rest : List Message) (old : Way D) (sent : Sent) → old.queue ≡ message ∷ rest → Covers sent old → IsSent message sent × Covers sent (with_queue rest old)
    next_sent message rest old sent is covers =
        let all : AllSent sent (message ∷ rest) = subst (λ (l : List Message). AllSent sent l) is covers.queue in (all.0, record { queue = all.1; held = covers.held; servers = covers.servers; clients = covers.clients; short = covers.short })

    from_queue : (queue : List Message) (old new : Way D) (sent : Sent) → Calm (with_queue queue old) new sent → Calm old new sent
    from_queue queue old new sent c = record { steps = c.steps; after = c.after; runs = c.runs; covers = c.covers; within = c.within; looking = c.looking; only = c.only; moments = c.moments; last = c.last; moment = c.moment }

    delivers_next : (many : ℕ) (old new : Way D) (queue : List Message) → old.queue ≡ queue → ((mid : Way D) → DeliversAll seen failures many mid new → Leads mid new)
        → WithFirst queue (new ≡ old) (λ message rest. (said : Result (Unit {0}) Refusal) × (mid : Way D) × IsDelivered seen failures message (with_queue rest old) said mid × DeliversAll seen failures many mid new) → Leads old new
    delivers_next many old new [] is rest same = nothing old new same
    delivers_next many old new (message ∷ queue) is rest (said, mid, d, others) = λ sent covers small.
        let (was, c) = next_sent message queue old sent is covers in
        let first = delivers_one message (with_queue queue old) said mid sent d was c small in
        from_queue queue old new sent (chained (with_queue queue old) mid new sent first (rest mid others first.after first.covers (small_on old mid first.moment small)))

    delivers_all : (many : ℕ) (old new : Way D) → DeliversAll seen failures many old new → Leads old new
    unfolding DeliversAll
    delivers_all zero old new same = nothing old new same
    delivers_all (suc many) old new d = delivers_next many old new old.queue refl (λ mid rest. delivers_all many mid new rest) d

    pub delivers_whole : (old new : Way D) → DeliversWhole seen failures old new → Leads old new
    delivers_whole old new d = delivers_all last_count old new d

    -- ---- ticks

    master_ticks : (old new : Way D) → MasterTicked seen failures old new → Leads old new
    master_ticks old new t sent covers small =
        calm_event (happenings.Tick keepers.Master) nodes.Master (told t.turn) (with_master t.place old.nodes) old new sent (refl, tt) tt tt (λ req request is. absurd cc) (refl, (t.place, t.turn, t.ticks, refl, refl)) (master_posts sent t.turn) covers small
        (ended t.turn (with_nodes (with_master t.place old.nodes) old) t.said new t.ends)

    server_ticks : (id : ℕ) (old new : Way D) → ServerTicked id old new → Leads old new
    server_ticks id old new t sent covers small =
        calm_event (happenings.Tick (keepers.Server id)) (nodes.Server id) (told t.turn) t.nodes old new sent (refl, tt) tt tt (λ req request is. absurd cc) (refl, (t.turn, t.ticks, refl))
        (server_posts sent id (λ s. ServerDoes (servers.tick s old.moment) s) old.nodes t.turn t.nodes covers.servers t.ticks) covers small (ended t.turn (with_nodes t.nodes old) t.said new t.ends)

    servers_tick : (many : ℕ) (old new : Way D) → ServersTick many old new → Leads old new
    servers_tick zero old new same = nothing old new same
    servers_tick (suc id) old new (mid, before, one) = chain old mid new (servers_tick id old mid before) (server_ticks id mid new one)

    all_tick : (old new : Way D) → AllTick seen failures old new → Leads old new
    all_tick old new (mid, first, others) = chain old mid new (master_ticks old mid first) (servers_tick (min (length old.nodes.servers) 16) mid new others)

    pub waited_if : (waits : Bool) (old new : Way D) → TicksIf seen failures waits old new → Leads old new
    waited_if false old new same = nothing old new same
    waited_if true old new (mid, ticks, delivers) = chain old mid new (all_tick old mid ticks) (delivers_whole mid new delivers)

  -- ---- a call

  module _ (sent : Sent) (old new : Way D) (req : ReqId) (call : Call) (answer : Answer) (node : Node) (covers : Covers sent old) (small : IsNumber old.moment.0) (may : IsNumber req.number × MayBeAsked (requests.Call call)) (there : client_in old.nodes.clients req.client ≡ Some node) (fresh : node.last < req.number) where
    abbrev Asks_at : Result (Vec Message Global) Refusal → Nodes D → Type 0
    Asks_at out after = AtClient req.client (Err refusals.Range) (ClientAsks req.number (requests.Call call)) old.nodes out after

    node_is : {a b : Node} → ◌≡◌ {A = Option Node} (Some a) (Some b) → a ≡ b
    node_is is = cc

    not_old : nat_le req.number node.last ≡ false
    not_old = grind (arith, nat_tests)

    -- it has asked under this number
    asked_one : (out : Vec Message Global) (nodes : Nodes D) (n after : Node) → n ≡ node → nodes ≡ with_clients (slice_set old.nodes.clients (req.client.0 - 1) after) old.nodes → (b : Bool) → b ≡ false
        → Asks (if b then Err refusals.Old else Ok (asking n req.number, messages_of (request_of n req.number) (requests.Call call))) (Ok out) n after → LastIs req.client req.number nodes.clients
    asked_one out nodes n after is same true not never = absurd never
    asked_one out nodes n after is same false not (made, sends) = λ x found.
        ap (λ (y : Node). y.last)
        (node_is (sym (ap (λ (k : Nodes D). client_in k.clients req.client) (sym same) ∙ found) ∙ found_now old.nodes.clients req.client node after there) ∙ made)

    asked_found : (o : Option Node) → o ≡ Some node → (out : Vec Message Global) (nodes : Nodes D)
        → MatchOption o ((nodes ≡ old.nodes) × (◌≡◌ {A = Result (Vec Message Global) Refusal} (Ok out) (Err refusals.Range))) (λ n. (after : Node) × (nodes ≡ with_clients (slice_set old.nodes.clients (req.client.0 - 1) after) old.nodes) × ClientAsks req.number (requests.Call call) n (Ok out) after)
        → LastIs req.client req.number nodes.clients
    asked_found None is out nodes at = absurd cc
    asked_found (Some n) is out nodes (after, same, a) = asked_one out nodes n after (node_is is) same (nat_le req.number n.last) (ap (λ (k : Node). nat_le req.number k.last) (node_is is) ∙ not_old) a

    asked_last : (out : Vec Message Global) (nodes : Nodes D) → Asks_at (Ok out) nodes → LastIs req.client req.number nodes.clients
    asked_last out nodes at = asked_found (client_in old.nodes.clients req.client) there out nodes at

    -- what it hears is the answer
    reply_found : (found : Option Reply) → replies.Answer answer ≡ unwrap_or found replies.Lost → found ≡ Some (replies.Answer answer)
    reply_found None is = absurd (never is)
      where
        never : replies.Answer answer ≡ replies.Lost → ⊥
        never is = cc
    reply_found (Some reply) is = ap Some (sym is)

    record HasIt (w : Way D) : Type 0 where
      n : Node
      found : client_in w.nodes.clients req.client ≡ Some n
      reply : n.reply ≡ Some (replies.Answer answer)

    has_it : (w : Way D) (o : Option Node) → client_in w.nodes.clients req.client ≡ o → (found : Option Reply) (nodes : Nodes D) → found ≡ Some (replies.Answer answer)
        → MatchOption o ((nodes ≡ w.nodes) × (found ≡ None)) (λ n. (after : Node) × (nodes ≡ with_clients (slice_set w.nodes.clients (req.client.0 - 1) after) w.nodes) × ((found ≡ n.reply) × (after ≡ given_up n))) → HasIt w
    has_it w None is found nodes some (same, none) = absurd (never (sym none ∙ some))
      where
        never : ◌≡◌ {A = Option Reply} None (Some (replies.Answer answer)) → ⊥
        never is = cc
    has_it w (Some n) is found nodes some (after, same, did) = record { n = n; found = is; reply = sym did.0 ∙ some }

    carried_ok : (out : Vec Message Global) (nodes_there : Nodes D) → Asks_at (Ok out) nodes_there → IsAsked seen failures req.client out.items (with_nodes nodes_there old) (replies.Answer answer) new → IsCarried seen failures req.client old sent call answer new
    carried_ok out nodes_there at a =
        let one = one_event (happenings.Ask req (requests.Call call)) (nodes.Client req.client) (Ok (out.items, None)) nodes_there old a.first sent (refl, (Ok out, at, refl)) (inl (asking_client sent req.client (ClientAsks req.number (requests.Call call)) old.nodes nodes_there out covers.clients at)) covers
        (a.first, a.sends, as_it_is a.first) in
        let asked_small : IsNumber a.first.moment.0 = subst (λ (m : Moment). IsNumber m.0) (sym one.moment) small in
        let calm = chain req.client a.first a.second a.third (delivers_whole req.client a.first a.second a.delivers) (waited_if req.client a.waited.0 a.second a.third a.waited.2) one.after one.covers asked_small in
        let heard = a.heard in
        let it = has_it a.third (client_in a.third.nodes.clients req.client) refl heard.1 heard.0 (reply_found heard.1 heard.3) heard.2 in
        let last = calm.last req.number (subst (λ (n : Nodes D). LastIs req.client req.number n.clients) (sym one.is) (asked_last out nodes_there at)) in
        let kept = at_client req.client None (λ n reply after. (reply ≡ n.reply) × (after ≡ given_up n)) a.third.nodes heard.1 heard.0 heard.2 in record {
          mid = history calm.after a.third;
          has = record {
            moment = old.moment;
            req = req;
            own = refl;
            asked = history one.after a.first;
            asks = record { node = node; there = there; fresh = fresh; happens = subst (λ s. Happens seen failures unarmed (record { moment = old.moment; happening = happenings.Ask req (requests.Call call) }) (history sent old) s (history one.after a.first)) one.says one.happens };
            steps = calm.steps;
            runs = calm.runs;
            within = ((small, may), calm.within);
            looking = calm.looking;
            node = it.n;
            there = it.found;
            last = last it.n it.found;
            reply = it.reply;
          };
          after = calm.after;
          takes = (history calm.after new, subst (λ (w : Way D). Goes seen failures unarmed (Takes req.client) (history calm.after a.third) (history calm.after w)) (sym heard.4) (heard.1, heard.2, refl), refl);
          covers =
              subst (λ w. Covers calm.after w) (sym heard.4)
              (record { queue = calm.covers.queue; held = calm.covers.held; servers = calm.covers.servers ∙ sym kept.servers; clients = calm.covers.clients ∙ sym kept.clients; short = calm.covers.short });
          moment = ap (λ (w : Way D). w.moment) heard.4 ∙ calm.moment ∙ one.moment;
          moments = subst (λ m. AllByRecursion (IsAt m) calm.steps) one.moment calm.moments;
        }

  -- an answer tells that the client was there, and the number fresh
  module _ (sent : Sent) (old new : Way D) (req : ReqId) (call : Call) (answer : Answer) (covers : Covers sent old) (small : IsNumber old.moment.0) (may : IsNumber req.number × MayBeAsked (requests.Call call)) where
    abbrev Asks_there : Result (Vec Message Global) Refusal → Nodes D → Type 0
    Asks_there out after = AtClient req.client (Err refusals.Range) (ClientAsks req.number (requests.Call call)) old.nodes out after

    fresh_one : (out : Vec Message Global) (n after : Node) (b : Bool) → nat_le req.number n.last ≡ b → Asks (if b then Err refusals.Old else Ok (asking n req.number, messages_of (request_of n req.number) (requests.Call call))) (Ok out) n after → n.last < req.number
    fresh_one out n after true is never = absurd never
    fresh_one out n after false is made = grind (arith, nat_tests)

    by_node : (o : Option Node) → client_in old.nodes.clients req.client ≡ o → (out : Vec Message Global) (nodes_there : Nodes D) → Asks_there (Ok out) nodes_there
        → MatchOption o ((nodes_there ≡ old.nodes) × (◌≡◌ {A = Result (Vec Message Global) Refusal} (Ok out) (Err refusals.Range))) (λ n. (after : Node) × (nodes_there ≡ with_clients (slice_set old.nodes.clients (req.client.0 - 1) after) old.nodes) × ClientAsks req.number (requests.Call call) n (Ok out) after)
        → IsAsked seen failures req.client out.items (with_nodes nodes_there old) (replies.Answer answer) new → IsCarried seen failures req.client old sent call answer new
    by_node None is out nodes_there at (same, refused) a = absurd (never refused)
      where
        never : ◌≡◌ {A = Result (Vec Message Global) Refusal} (Ok out) (Err refusals.Range) → ⊥
        never is = cc
    by_node (Some n) is out nodes_there at (after, same, did) a = carried_ok sent old new req call answer n covers small may is (fresh_one out n after (nat_le req.number n.last) refl did) out nodes_there at a

    by_asked : (asked : Result (Vec Message Global) Refusal) (nodes_there : Nodes D) → Asks_there asked nodes_there → AnswersAsked seen failures req.client asked (with_nodes nodes_there old) (replies.Answer answer) new → IsCarried seen failures req.client old sent call answer new
    by_asked (Ok out) nodes_there at a = by_node (client_in old.nodes.clients req.client) refl out nodes_there at at a
    by_asked (Err refusal) nodes_there at (is, same) = absurd (never is)
      where
        never : replies.Answer answer ≡ replies.Refused refusal → ⊥
        never is = cc

pub calls_are_carried : {D : Type 0} (seen : D → List ℕ) (failures : D → ℕ) → CallsAreCarried seen failures
calls_are_carried seen failures sent old new req call answer covers small may c = by_asked seen failures sent old new req call answer covers small may c.asked c.nodes c.asks c.answers
