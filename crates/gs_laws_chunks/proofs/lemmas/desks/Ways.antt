-- What becomes of what is under way is steps of a store.
use Rattle.std.proofs.Common.{◌≡◌, ◌∙◌, ◌++◌, ℕ, zero, suc, Bool, true, false, List, [], ◌∷◌, Option, None, MatchOption, Result, Ok, Err, Vec, min, refl, sym, ap, subst, inl, length}
use Rattle.std.specs.declared.alloc.Global.{Global}
use Rattle.gs_base.specs.Told.{IsNumber}
use Rattle.gs_base.specs.declared.numbers.ClientId.{ClientId}
use Rattle.gs_base.specs.declared.numbers.Moment.{Moment}
use Rattle.gs_base.specs.declared.numbers.ReqId.{ReqId}
use Rattle.gs_base.specs.declared.refusal.Refusal.{Refusal}
use Rattle.gs_base.specs.declared.refusal.Refusal.TheVariants as refusals
use Rattle.gs_client.specs.Nodes.{given_up}
use Rattle.gs_client.specs.declared.link.Reply.{Reply}
use Rattle.gs_msg.specs.declared.event.Happening.TheVariants as happenings
use Rattle.gs_msg.specs.declared.event.Request.{Request}
use Rattle.gs_msg.specs.declared.message.Message.{Message}
use Rattle.gs_msg.specs.declared.node.NodeId.TheVariants as nodes
use Rattle.gs_msg.specs.declared.node.StoreNode.TheVariants as keepers
use Rattle.gs_server.specs.Servers as servers
use Rattle.gs_nodes.specs.Happenings.{AtClient, ClientAsks, ServerDoes}
use Rattle.gs_nodes.specs.Nodes.{Nodes, with_master}
use Rattle.gs_shell_desk.specs.Ways.{AllTick, AnswersAsked, Carries, DeliversAll, DeliversWhole, Heard, IsDelivered, MasterTicked, SendsAll, ServerTicked, ServersTick, TicksIf, TicksWhole, Way, WithFirst, last_count, shortened_by, with_nodes, with_queue}
use Rattle.gs_world.specs.Histories.{ComesTo, History, told}
use Rattle.gs_world.specs.Runs.{Goes, RunsTo, Step, Takes}
use Rattle.gs_world.specs.Sent.{IsSent, Sent}
use Rattle.gs_world.proofs.Staying.{at_client}
use Rattle.gs_laws_world.specs.steady.Asking.{MayBeAsked}
use Rattle.gs_laws_chunks.specs.desks.Reached.{AllSent, Covers, history}
use Rattle.gs_laws_world.specs.steady.Unarmed.{unarmed}
use Rattle.gs_laws_chunks.proofs.lemmas.desks.Ending.{Alike, alike_covers, alike_to, as_it_is, asking_client, delivered_posts, ended, event_leads, master_posts, server_posts, shortened_alike}
use Rattle.gs_laws_chunks.proofs.lemmas.desks.When.{StepsSo, When, joined_within, when}

module _ {D : Type 0} (seen : D → List ℕ) (failures : D → ℕ) (keeps : Bool) where
  -- steps lead from one way to another, whatever was sent before; where the types are kept each is within them
  abbrev pub Leads : Way D → Way D → Type 0
  Leads old new = (sent : Sent) → Covers sent old → When keeps (IsNumber old.moment.0) → StepsSo seen failures keeps old new sent

  pub joined : (xs ys : List Step) (old mid new : History D) → RunsTo seen failures unarmed xs old mid → RunsTo seen failures unarmed ys mid new → RunsTo seen failures unarmed (xs ++ ys) old new
  joined [] ys old mid new same second = subst (λ (h : History D). RunsTo seen failures unarmed ys h new) same second
  joined (x ∷ xs) ys old mid new (first, goes, rest) second = (first, goes, joined xs ys first mid new rest second)

  pub chain : (old mid new : Way D) → Leads old mid → Leads mid new → Leads old new
  chain old mid new first second sent covers small =
      let a = first sent covers small in
      let b = second a.after a.covers a.moment in
      record {
        steps = a.steps ++ b.steps;
        after = b.after;
        runs = joined a.steps b.steps (history sent old) (history a.after mid) (history b.after new) a.runs b.runs;
        covers = b.covers;
        within = joined_within keeps a.steps b.steps a.within b.within;
        moment = b.moment;
      }

  abbrev Small : Way D → Type 0
  Small w = When keeps (IsNumber w.moment.0)

  pub nothing : (old new : Way D) → new ≡ old → Leads old new
  nothing old new same sent covers small =
      record { steps = []; after = sent; runs = ap (history sent) same; covers = subst (λ w. Covers sent w) (sym same) covers; within = when keeps tt; moment = subst Small (sym same) small }

  pub alike : (old new : Way D) → Alike old new → Leads old new
  alike old new same sent covers small =
      record {
        steps = [];
        after = sent;
        runs = ap (λ (n : Nodes D). record { nodes = n; sent = sent }) same.nodes;
        covers = alike_covers sent old new same covers;
        within = when keeps tt;
        moment = subst (λ (m : Moment). When keeps (IsNumber m.0)) (sym same.moment) small;
      }

  -- ---- deliveries

  -- a message that was sent comes
  pub delivers_one : (message : Message) (old : Way D) (said : Result (Unit {0}) Refusal) (new : Way D) (sent : Sent) → IsDelivered seen failures message old said new → IsSent message sent → Covers sent old → Small old
      → StepsSo seen failures keeps old new sent
  delivers_one message old said new sent d (id, is) covers small =
      event_leads seen failures keeps (happenings.Deliver id) message.to (told d.turn) d.nodes old new sent
      (subst
      (λ (o : Option Message). MatchOption o ((told d.turn ≡ Err refusals.Range) × (d.nodes ≡ old.nodes) × (message.to ≡ id.sender)) (λ m. ComesTo seen failures unarmed id.sender m old.moment old.nodes message.to (told d.turn) d.nodes))
      (sym is) (inl (refl, d.turn, d.delivers, refl)))
      (delivered_posts seen failures message old.moment sent old.nodes d.turn d.nodes covers.servers d.delivers) covers (when keeps tt) small (ended d.turn (with_nodes d.nodes old) said new d.ends)

  next_sent : (message : Message) (rest : List Message) (old : Way D) (sent : Sent) → old.queue ≡ message ∷ rest → Covers sent old → IsSent message sent × Covers sent (with_queue rest old)
  next_sent message rest old sent is covers =
      let all : AllSent sent (message ∷ rest) = subst (λ (l : List Message). AllSent sent l) is covers.queue in
      (all.0, record { queue = all.1; held = covers.held; servers = covers.servers; clients = covers.clients; short = covers.short })

  delivers_next : (many : ℕ) (old new : Way D) (queue : List Message) → old.queue ≡ queue
      → ((mid : Way D) → DeliversAll seen failures many mid new → Leads mid new)
      → WithFirst queue (new ≡ old) (λ message rest. (said : Result (Unit {0}) Refusal) × (mid : Way D) × IsDelivered seen failures message (with_queue rest old) said mid × DeliversAll seen failures many mid new)
      → Leads old new
  delivers_next many old new [] is rest same = nothing old new same
  delivers_next many old new (message ∷ queue) is rest (said, mid, d, others) = λ sent covers small.
      let (was, c) = next_sent message queue old sent is covers in
      let first = delivers_one message (with_queue queue old) said mid sent d was c small in
      let second = rest mid others first.after first.covers first.moment in
      record {
        steps = first.steps ++ second.steps;
        after = second.after;
        runs = joined first.steps second.steps (history sent old) (history first.after mid) (history second.after new) first.runs second.runs;
        covers = second.covers;
        within = joined_within keeps first.steps second.steps first.within second.within;
        moment = second.moment;
      }

  delivers_all : (many : ℕ) (old new : Way D) → DeliversAll seen failures many old new → Leads old new
  unfolding DeliversAll
  delivers_all zero old new same = nothing old new same
  delivers_all (suc many) old new d = delivers_next many old new old.queue refl (λ mid rest. delivers_all many mid new rest) d

  pub delivers_whole : (old new : Way D) → DeliversWhole seen failures old new → Leads old new
  delivers_whole old new d = delivers_all last_count old new d

  -- ---- ticks

  master_ticks : (old new : Way D) → MasterTicked seen failures old new → Leads old new
  master_ticks old new t sent covers small =
      event_leads seen failures keeps (happenings.Tick keepers.Master) nodes.Master (told t.turn) (with_master t.place old.nodes) old new sent
      (refl, (t.place, t.turn, t.ticks, refl, refl)) (master_posts sent t.turn) covers (when keeps tt) small (ended t.turn (with_nodes (with_master t.place old.nodes) old) t.said new t.ends)

  server_ticks : (id : ℕ) (old new : Way D) → ServerTicked id old new → Leads old new
  server_ticks id old new t sent covers small =
      event_leads seen failures keeps (happenings.Tick (keepers.Server id)) (nodes.Server id) (told t.turn) t.nodes old new sent
      (refl, (t.turn, t.ticks, refl)) (server_posts sent id (λ s. ServerDoes (servers.tick s old.moment) s) old.nodes t.turn t.nodes covers.servers t.ticks) covers (when keeps tt) small (ended t.turn (with_nodes t.nodes old) t.said new t.ends)

  servers_tick : (many : ℕ) (old new : Way D) → ServersTick many old new → Leads old new
  servers_tick zero old new same = nothing old new same
  servers_tick (suc id) old new (mid, before, one) = chain old mid new (servers_tick id old mid before) (server_ticks id mid new one)

  all_tick : (old new : Way D) → AllTick seen failures old new → Leads old new
  all_tick old new (mid, first, others) = chain old mid new (master_ticks old mid first) (servers_tick (min (length old.nodes.servers) 16) mid new others)

  pub ticks_whole : (old new : Way D) → TicksWhole seen failures old new → Leads old new
  ticks_whole old new (mid, ticks, delivers) = chain old mid new (all_tick old mid ticks) (delivers_whole mid new delivers)

  -- ---- a request

  waited_if : (waits : Bool) (old new : Way D) → TicksIf seen failures waits old new → Leads old new
  waited_if false old new same = nothing old new same
  waited_if true old new ticks = ticks_whole old new ticks

  heard : (client : ClientId) (old : Way D) (reply : Reply) (new : Way D) → Heard client old reply new → Leads old new
  heard client old reply new (nodes, found, takes, is, same) sent covers small =
      let kept = at_client client None (λ n reply after. (reply ≡ n.reply) × (after ≡ given_up n)) old.nodes found nodes takes in
      record {
        steps = Takes client ∷ [];
        after = sent;
        runs = (history sent new, subst (λ (w : Way D). Goes seen failures unarmed (Takes client) (history sent old) (history sent w)) (sym same) (found, takes, refl), refl);
        covers =
            subst (λ w. Covers sent w) (sym same)
            (record { queue = covers.queue; held = covers.held; servers = covers.servers ∙ sym kept.servers; clients = covers.clients ∙ sym kept.clients; short = covers.short });
        within = when keeps {P = Unit {0} × Unit {0}} (tt, tt);
        moment = subst Small (sym same) small;
      }

  asked : (client : ClientId) (result : Result (Vec Message Global) Refusal) (old : Way D) (nodes : Nodes D) (reply : Reply) (new : Way D)
      → ((mid : Way D) (out : Vec Message Global) → result ≡ Ok out → SendsAll out.items (with_nodes nodes old) mid → Leads old mid)
      → ((refusal : Refusal) → result ≡ Err refusal → new ≡ shortened_by refusal (with_nodes nodes old) → Leads old new)
      → AnswersAsked seen failures client result (with_nodes nodes old) reply new → Leads old new
  asked client (Ok out) old nodes reply new sends refused a =
      chain old a.first new (sends a.first out refl a.sends)
      (chain a.first a.second new (delivers_whole a.first a.second a.delivers)
      (chain a.second a.third new (waited_if a.waited.0 a.second a.third a.waited.2) (heard client a.third reply new a.heard)))
  asked client (Err refusal) old nodes reply new sends refused (is, same) = refused refusal refl same

  -- what a client asks, at the nodes
  abbrev AtAsked : ReqId → Request → Nodes D → Result (Vec Message Global) Refusal → Nodes D → Type 0
  AtAsked req request old out new = AtClient req.client (Err refusals.Range) (ClientAsks req.number request) old out new

  pub carries : (req : ReqId) (request : Request) (old : Way D) (reply : Reply) (new : Way D) → When keeps (IsNumber req.number × MayBeAsked request) → Carries seen failures req request old reply new → Leads old new
  carries req request old reply new may c =
      asked req.client c.asked old c.nodes reply new
      (λ mid out is all sent covers small.
      let at : AtAsked req request old.nodes (Ok out) c.nodes = subst (λ (r : Result (Vec Message Global) Refusal). AtAsked req request old.nodes r c.nodes) is c.asks in
      event_leads seen failures keeps (happenings.Ask req request) (nodes.Client req.client) (Ok (out.items, None)) c.nodes old mid sent
      (refl, (Ok out, at, refl)) (inl (asking_client sent req.client (ClientAsks req.number request) old.nodes c.nodes out covers.clients at)) covers may small (mid, all, as_it_is mid))
      (λ refusal is same sent covers small.
      let at : AtAsked req request old.nodes (Err refusal) c.nodes = subst (λ (r : Result (Vec Message Global) Refusal). AtAsked req request old.nodes r c.nodes) is c.asks in
      event_leads seen failures keeps (happenings.Ask req request) (nodes.Client req.client) (Err refusal) c.nodes old new sent
      (refl, (Err refusal, at, refl)) tt covers may small
      (alike_to (with_nodes c.nodes old) (shortened_by refusal (with_nodes c.nodes old)) new (shortened_alike refusal (with_nodes c.nodes old)) same))
      c.answers
