-- What becomes of a store where memory isn't wanting and no disk fails is what the functions say: deliveries, ticks and requests.
use Rattle.std.proofs.Common.{◌≡◌, ◌∙◌, ◌-◌, ◌≤◌, ◌⊎◌, ℕ, zero, suc, Bool, true, false, List, [], ◌∷◌, Option, Some, None, MatchOption, Result, Ok, Err, Vec, refl, sym, ap, subst, inl, inr, arith, length, slice_get, slice_set}
use Rattle.std.specs.Prelude.{is_some, min, unwrap_or}
use Rattle.std.specs.declared.alloc.Global.{Global}
use Rattle.gs_base.specs.Told.{IsNumber}
use Rattle.gs_base.specs.declared.numbers.ClientId.{ClientId}
use Rattle.gs_base.specs.declared.numbers.ReqId.{ReqId}
use Rattle.gs_base.specs.declared.refusal.Refusal.{Refusal}
use Rattle.gs_base.specs.declared.refusal.Refusal.TheVariants as refusals
use Rattle.gs_client.specs.Nodes.{Asks, Node, asks, given_up}
use Rattle.gs_client.specs.Sends.{last_number}
use Rattle.gs_client.specs.declared.link.Reply.{Reply}
use Rattle.gs_client.specs.declared.link.Reply.TheVariants as replies
use Rattle.gs_shell_desk.specs.Ways.{AllTick, AnswersAsked, Carries, DeliversAll, DeliversWhole, Heard, IsAsked, IsDelivered, MasterTicked, ServerTicked, ServersTick, TicksIf, TicksWhole, Waited, Way, WithFirst, last_count, shortened_by, with_nodes, with_queue}
use Rattle.gs_master.specs.Masters.{MasterOf}
use Rattle.gs_master.specs.declared.turn.Turn.{Turn as Told}
use Rattle.gs_msg.specs.declared.event.Request.{Request as Asked}
use Rattle.gs_msg.specs.declared.message.Message.{Message}
use Rattle.gs_laws_world.specs.lasting.Lasting.{failures_at}
use Rattle.gs_server.specs.Servers as servers
use Rattle.gs_master_spec.specs.Handling.{tick}
use Rattle.gs_nodes.specs.Happenings.{AtClient, ClientAsks, Delivers, Hears, MasterTicks, ServerDoes, client_in}
use Rattle.gs_nodes.specs.Nodes.{Nodes, with_clients, with_master}
use Rattle.gs_nodes.specs.declared.place.MasterPlace.TheVariants.{Standing}
use Rattle.gs_laws_scripts.specs.answers.Meeting.{IsCalm, IsPlain, Stands, plain_of}
use Rattle.gs_laws_scripts.proofs.lemmas.answers.PlainEnduring.{Endures, IsGood, IsTaken, has}
use Rattle.gs_laws_scripts.specs.answers.Plain.{Plain, delivers}
use Rattle.gs_laws_scripts.specs.answers.Plain as plain
use Rattle.gs_laws_scripts.proofs.lemmas.answers.PlainEvents.{Comes, client_leaves, heard_comes, heard_rise, master_ends, node_ends, plain_same, server_does, server_leaves, ticked_turn, ticks_rise}
use Rattle.gs_laws_scripts.proofs.lemmas.answers.PlainSends.{end_enough, all_stays, end_stays, same_stays, shortened_stays, unshortened, wanting, was_enough}

paired : {A B : Type 0} (a c : A) (b d : B) → a ≡ c → d ≡ b → ◌≡◌ {A = A × B} (a, b) (c, d)
paired a c b d first second = λ i. (first i, sym second i)

between : (a b c : ℕ) → a ≤ b → b ≤ c → c ≡ a → b ≡ a
between a b c low high same = omega arith

joined : (a b c : ℕ) → a ≤ b → b ≤ c → a ≤ c
joined a b c low high = omega arith

itself : (n : ℕ) → n ≤ n
itself n = omega arith

-- nothing comes back
abbrev pub only : (Plain → Plain) → Plain → Unit {0} × Plain
only f p = (tt, f p)

abbrev refusal_of : Result (Vec Message Global) Refusal → Refusal
refusal_of (Ok sent) = refusals.Range
refusal_of (Err refusal) = refusal

asked_as : (r : Result (Node × List Message) Refusal) (sent : Vec Message Global) (n after : Node) → Asks r (Ok sent) n after → r ≡ Ok (after, sent.items)
asked_as (Ok p) sent n after (same, is) = λ i. Ok (sym same i, sym is i)
asked_as (Err refusal) sent n after none = absurd none

refused_as : (r : Result (Node × List Message) Refusal) (f : Refusal) (n after : Node) → Asks r (Err f) n after → (f ≡ refusals.Memory) ⊎ ((r ≡ Err f) × (after ≡ n))
refused_as (Ok p) f n after (memory, same) = inl memory
refused_as (Err refusal) f n after (is, same) = inr (ap (λ (x : Refusal). Err x) (sym is), same)

waiting_is : (o : Option Node) (waits : Bool) → MatchOption o (waits ≡ false) (λ n. waits ≡ is_some n.waiting) → waits ≡ plain.is_waiting o
waiting_is None waits is = is
waiting_is (Some n) waits is = is

module _ {D : Type 0} (seen : D → List ℕ) (failures : D → ℕ) (me : ClientId) (size : ℕ) (MayAsk : Asked → Type 0) (Good : Way D → Type 0) (e : Endures seen failures me size MayAsk Good) where
  -- From a way to another, of which this holds, leads what the function says, where memory isn't wanting and no disk fails. It isn't forgotten
  -- that memory was wanting, and failures never fall.
  pub record Gives {R : Type 0} (G : Type 0) (old : Way D) (r : R) (new : Way D) (f : Plain → R × Plain) : Type 0 where
    pub short : old.is_short ≡ true → new.is_short ≡ true
    pub rises : failures_at failures old.nodes.master ≤ failures_at failures new.nodes.master
    pub same : IsCalm failures old new → (m : MasterOf D) → Stands old m → G → Comes new r (f (plain_of m.state old)) × Good new

  abbrev pub Leads : Way D → Way D → (Plain → Plain) → Type 0
  Leads old new f = Gives (Good old) old tt new (only f)

  -- from where something led on goes what leads on from there
  pub onward : {R S : Type 0} (mid new : Way D) (r : R) (s : S) (q : R × Plain) (g : R → Plain → S × Plain) → Comes mid r q → Good mid → Gives (Good mid) mid s new (g r) → IsCalm failures mid new
      → Comes new s (g q.0 q.1) × Good new
  onward {R} {S} mid new r s q g one good second calm =
      let there = one.plain in
      let path : ◌≡◌ {A = R × Plain} (r, plain_of there.master.state mid) q = paired r q.0 (plain_of there.master.state mid) q.1 one.result there.plain in
      let two = second.same calm there.master there.stands good in
      (subst (λ (x : R × Plain). Comes new s (g x.0 x.1)) path two.0, two.1)

  module _ {R S : Type 0} (G : Type 0) (old mid new : Way D) (r : R) (s : S) (f : Plain → R × Plain) (g : R → Plain → S × Plain) (first : Gives G old r mid f) (second : Gives (Good mid) mid s new (g r)) where
    abbrev both : Plain → S × Plain
    both p = g (f p).0 (f p).1

    both_same : IsCalm failures old new → (m : MasterOf D) → Stands old m → G → Comes new s (both (plain_of m.state old)) × Good new
    both_same calm m stands good =
        let q = f (plain_of m.state old) in
        let one = first.same (record { enough = was_enough mid new second.short calm.enough; sound = quiet }) m stands good in
        onward mid new r s q g one.0 one.1 second (record { enough = calm.enough; sound = calm.sound ∙ sym quiet })
      where
        quiet : failures_at failures mid.nodes.master ≡ failures_at failures old.nodes.master
        quiet = between (failures_at failures old.nodes.master) (failures_at failures mid.nodes.master) (failures_at failures new.nodes.master) first.rises second.rises calm.sound

    pub chain : Gives G old s new both
    chain = record {
      short = λ short. second.short (first.short short);
      rises = joined (failures_at failures old.nodes.master) (failures_at failures mid.nodes.master) (failures_at failures new.nodes.master) first.rises second.rises;
      same = both_same;
    }

  pub nothing : (old new : Way D) → new ≡ old → Leads old new (λ p. p)
  nothing old new same = record {
    short = λ short. ap (λ (w : Way D). w.is_short) same ∙ short;
    rises = subst (λ (w : Way D). failures_at failures old.nodes.master ≤ failures_at failures w.nodes.master) (sym same) (itself (failures_at failures old.nodes.master));
    same = λ calm m stands good. (record { result = refl; plain = plain_same seen failures old new m stands same }, subst Good (sym same) good);
  }

  -- ---- deliveries

  abbrev Quiet : Way D → Way D → Type 0
  Quiet old new = failures_at failures old.nodes.master ≤ failures_at failures new.nodes.master

  stays_quiet : (old new : Way D) (nodes : Nodes D) → new.nodes ≡ nodes → failures_at failures old.nodes.master ≤ failures_at failures nodes.master → Quiet old new
  stays_quiet old new nodes same h = subst (λ (n : Nodes D). failures_at failures old.nodes.master ≤ failures_at failures n.master) (sym same) h

  was_taken : (message : Message) (old before : Way D) (m : MasterOf D) → IsTaken message old before → Stands before m → Stands old m
  was_taken message old before m (inl (rest, is, same)) stands =
      let here : Stands (with_queue rest old) m = subst (λ w. Stands w m) same stands in record { place = here.place; config = here.config }
  was_taken message old before m (inr (number, is, same)) stands = subst (λ w. Stands w m) same stands

  taken_moment : (message : Message) (old before : Way D) → IsTaken message old before → before.moment ≡ old.moment
  taken_moment message old before (inl (rest, is, same)) = ap (λ (w : Way D). w.moment) same
  taken_moment message old before (inr (number, is, same)) = ap (λ (w : Way D). w.moment) same

  good_before : (message : Message) (old before : Way D) (m : MasterOf D) → IsTaken message old before → Stands before m → Good old → IsGood seen before m
  good_before message old before m taken stands good =
      let g = e.good old m (was_taken message old before m taken stands) good in
      record { firm = g.firm; steady = g.steady; moment = subst (λ moment. IsNumber moment.0) (sym (taken_moment message old before taken)) g.moment }

  heard_of : (seen' : D → List ℕ) (message : Message) (old : Way D) (turn : Result Told Refusal) (nodes : Nodes D) → Delivers seen' failures message old.moment old.nodes turn nodes
      → Hears seen' failures message old.moment message.to old.nodes turn nodes
  unfolding Delivers
  heard_of seen' message old turn nodes d = d

  pub delivers_one : (message : Message) (old before : Way D) (said : Result (Unit {0}) Refusal) (new : Way D) → IsTaken message old before → IsDelivered seen failures message before said new
      → Gives (Good old) before said new (plain.delivered message)
  delivers_one message old before said new taken d =
      let kept = end_stays d.turn (with_nodes d.nodes before) said new d.ends in
      let hears = heard_of seen message before d.turn d.nodes d.delivers in
      record {
        short = kept.short;
        rises = stays_quiet before new d.nodes kept.nodes (heard_rise seen failures message before.moment message.to before.nodes d.turn d.nodes hears);
        same = λ calm m stands good.
            let done = heard_comes seen failures message.to message d.turn d.nodes m before said new stands (good_before message old before m taken stands good)
            (λ to. e.hears message old before m (was_taken message old before m taken stands) good taken to) hears d.ends calm.enough calm.sound in
            (done, e.delivers message old before said new good taken d calm (has new (plain.delivered message (plain_of m.state before)).1 done.plain));
      }

  delivers_next : (many : ℕ) (old new : Way D) (queue : List Message) → old.queue ≡ queue
      → ((mid : Way D) → DeliversAll seen failures many mid new → Leads mid new (delivers many))
      → WithFirst queue (new ≡ old) (λ message rest. (said : Result (Unit {0}) Refusal) × (mid : Way D) × IsDelivered seen failures message (with_queue rest old) said mid × DeliversAll seen failures many mid new)
      → Leads old new (λ p. plain.with_first queue p (λ message rest. delivers many (plain.delivered message (record p { queue = rest })).1))
  delivers_next many old new [] is rest same = nothing old new same
  delivers_next many old new (message ∷ queue) is rest (said, mid, d, others) =
      let before = with_queue queue old in
      let all = chain (Good old) before mid new said tt (plain.delivered message) (λ x. only (delivers many))
      (delivers_one message old before said mid (inl (queue, is, refl)) d) (rest mid others) in
      record {
        short = all.short;
        rises = all.rises;
        same = λ calm m stands good. all.same (record { enough = calm.enough; sound = calm.sound }) m (record { place = stands.place; config = stands.config }) good;
      }

  delivers_all : (many : ℕ) (old new : Way D) → DeliversAll seen failures many old new → Leads old new (delivers many)
  unfolding DeliversAll delivers
  delivers_all zero old new same = nothing old new same
  delivers_all (suc many) old new d =
      let next = delivers_next many old new old.queue refl (λ mid rest. delivers_all many mid new rest) d in
      record { short = next.short; rises = next.rises; same = λ calm m stands good. next.same calm m stands good }

  pub delivers_whole : (old new : Way D) → DeliversWhole seen failures old new → Leads old new plain.delivers_whole
  delivers_whole old new d = delivers_all last_count old new d

  -- ---- ticks

  master_comes : (old new : Way D) (t : MasterTicked seen failures old new) → IsCalm failures old new → (m : MasterOf D) → Stands old m → IsGood seen old m
      → Comes new tt (only plain.master_ticks (plain_of m.state old))
  master_comes old new t calm m stands good =
      let mid = with_nodes (with_master t.place old.nodes) old in
      let kept = (end_stays t.turn mid t.said new t.ends).nodes in
      let there : MasterTicks seen failures old.moment (Standing m) t.turn t.place = subst (λ at. MasterTicks seen failures old.moment at t.turn t.place) stands.place t.ticks in
      let quiet : failures_at failures t.place ≡ failures_at failures (Standing m) = sym (ap (λ (n : Nodes D). failures_at failures n.master) kept) ∙ calm.sound ∙ ap (failures_at failures) stands.place in
      let turn = tick m.state old.moment in
      record {
        result = refl;
        plain =
            (master_ends seen failures turn m t.turn t.place old t.said new stands
            (ticked_turn seen failures old.moment old m t.turn t.place good (end_enough t.turn mid t.said new t.ends calm.enough) there quiet) t.ends calm.enough).plain;
      }

  pub master_ticks : (old new : Way D) → MasterTicked seen failures old new → Leads old new plain.master_ticks
  master_ticks old new t =
      let kept = end_stays t.turn (with_nodes (with_master t.place old.nodes) old) t.said new t.ends in
      record {
        short = kept.short;
        rises = stays_quiet old new (with_master t.place old.nodes) kept.nodes (ticks_rise seen failures old.moment old.nodes.master t.turn t.place t.ticks);
        same = λ calm m stands good.
            let done = master_comes old new t calm m stands (e.good old m stands good) in
            (done, e.master_ticks old new good t calm (has new (plain.master_ticks (plain_of m.state old)) done.plain));
      }

  pub server_ticks : (id : ℕ) (old new : Way D) → ServerTicked id old new → Leads old new (plain.server_ticks id)
  server_ticks id old new t =
      let kept = end_stays t.turn (with_nodes t.nodes old) t.said new t.ends in
      record {
        short = kept.short;
        rises = stays_quiet old new t.nodes kept.nodes
            (subst (λ at. failures_at failures old.nodes.master ≤ failures_at failures at) (sym (server_leaves seen failures id (λ s. ServerDoes (servers.tick s old.moment) s) old.nodes t.turn t.nodes t.ticks)) (itself (failures_at failures old.nodes.master)));
        same = λ calm m stands good.
            let done = (server_does seen failures (slice_get old.nodes.servers id) id (λ s. servers.tick s old.moment) t.turn t.nodes m old t.said new stands t.ticks t.ends calm.enough).plain in
            (record { result = refl; plain = done }, e.server_ticks id old new good t calm (has new (plain.server_ticks id (plain_of m.state old)) done));
      }

  -- one after the other, where nothing comes back
  pub and : (old mid new : Way D) (f g : Plain → Plain) → Leads old mid f → Leads mid new g → Leads old new (λ p. g (f p))
  and old mid new f g first second = chain (Good old) old mid new tt tt (only f) (λ _. only g) first second

  servers_tick : (many : ℕ) (old new : Way D) → ServersTick many old new → Leads old new (plain.servers_tick many)
  servers_tick zero old new same = nothing old new same
  servers_tick (suc id) old new (mid, before, one) =
      and old mid new (plain.servers_tick id) (plain.server_ticks id) (servers_tick id old mid before) (server_ticks id mid new one)

  pub all_tick : (old new : Way D) → AllTick seen failures old new → Leads old new plain.all_tick
  all_tick old new (mid, first, others) =
      let many = min (length old.nodes.servers) 16 in
      let all = and old mid new plain.master_ticks (plain.servers_tick many) (master_ticks old mid first) (servers_tick many mid new others) in
      record { short = all.short; rises = all.rises; same = λ calm m stands good. all.same calm m stands good }

  pub ticks_whole : (old new : Way D) → TicksWhole seen failures old new → Leads old new plain.ticks_whole
  ticks_whole old new (mid, ticks, delivered) =
      and old mid new plain.all_tick plain.delivers_whole (all_tick old mid ticks) (delivers_whole mid new delivered)

  -- ---- a request

  ticks_if : (waits : Bool) (old new : Way D) → TicksIf seen failures waits old new → Leads old new (plain.ticks_if waits)
  ticks_if false old new same = nothing old new same
  ticks_if true old new ticks = ticks_whole old new ticks

  pub waited : (client : ClientId) (old new : Way D) → Waited seen failures client old new → Leads old new (plain.waited client)
  waited client old new (waits, is, ticks) =
      let all = subst (λ b. Leads old new (plain.ticks_if b)) (waiting_is (client_in old.nodes.clients client) waits is) (ticks_if waits old new ticks) in
      record { short = all.short; rises = all.rises; same = λ calm m stands good. all.same calm m stands good }

  taken_comes : (o : Option Node) (client : ClientId) (nodes : Nodes D) (found : Option Reply) (m : MasterOf D) (old : Way D) (reply : Reply) (new : Way D) → Stands old m
      → MatchOption o ((nodes ≡ old.nodes) × (found ≡ None)) (λ n. (after : Node) × (nodes ≡ with_clients (slice_set old.nodes.clients (client.0 - 1) after) old.nodes) × ((found ≡ n.reply) × (after ≡ given_up n)))
      → reply ≡ unwrap_or found replies.Lost → new ≡ with_nodes nodes old → new.is_short ≡ false → Comes new reply (plain.taken_from o client (plain_of m.state old))
  taken_comes None client nodes found m old reply new stands (same, none) is there enough = record {
    result = is ∙ ap (λ (x : Option Reply). unwrap_or x replies.Lost) none;
    plain = plain_same seen failures old new m stands (there ∙ ap (λ (n : Nodes D). with_nodes n old) same);
  }
  taken_comes (Some n) client nodes found m old reply new stands (after, at, (what, gone)) is there enough = record {
    result = is ∙ ap (λ (x : Option Reply). unwrap_or x replies.Lost) what;
    plain =
        subst (λ (x : Node). IsPlain new (plain.with_client client x (plain_of m.state old))) gone
        (node_ends seen failures [] (with_clients (slice_set old.nodes.clients (client.0 - 1) after) old.nodes) m old new stands refl refl (there ∙ ap (λ (n : Nodes D). with_nodes n old) at) enough);
  }

  pub heard : (client : ClientId) (old : Way D) (reply : Reply) (new : Way D) → Heard client old reply new → Gives (Good old) old reply new (plain.heard client)
  heard client old reply new (nodes, found, takes, is, there) = record {
    short = λ short. ap (λ (w : Way D). w.is_short) there ∙ short;
    rises = stays_quiet old new nodes (ap (λ (w : Way D). w.nodes) there)
        (subst (λ at. failures_at failures old.nodes.master ≤ failures_at failures at)
        (sym (client_leaves seen failures client None (λ n found after. (found ≡ n.reply) × (after ≡ given_up n)) old.nodes found nodes takes).0) (itself (failures_at failures old.nodes.master)));
    same = λ calm m stands good.
        let done = taken_comes (client_in old.nodes.clients client) client nodes found m old reply new stands takes is there calm.enough in
        (done, e.takes client old reply new good (nodes, found, takes, is, there) (has new (plain.heard client (plain_of m.state old)).1 done.plain));
  }

  -- what goes out, behind what a client has done
  asked_all : (req : ReqId) (request : Asked) (sent : Vec Message Global) (nodes : Nodes D) (old : Way D) (reply : Reply) (new : Way D) → req.client ≡ me → req.number ≤ last_number → MayAsk request
      → AtClient req.client (Err refusals.Range) (ClientAsks req.number request) old.nodes (Ok sent) nodes → IsAsked seen failures req.client sent.items (with_nodes nodes old) reply new
      → Gives (Good old) (with_nodes nodes old) reply new (plain.asked req.client sent.items)
  asked_all req request sent nodes old reply new mine low may at a =
      chain (Good old) (with_nodes nodes old) a.third new tt reply (λ p. only (plain.waited req.client) (plain.delivers_whole (plain.sends_all sent.items p))) (λ _. plain.heard req.client)
      (chain (Good old) (with_nodes nodes old) a.second a.third tt tt (λ p. only plain.delivers_whole (plain.sends_all sent.items p)) (λ _. only (plain.waited req.client))
      (chain (Good old) (with_nodes nodes old) a.first a.second tt tt (only (plain.sends_all sent.items)) (λ _. only plain.delivers_whole) first (delivers_whole a.first a.second a.delivers))
      (waited req.client a.second a.third a.waited))
      (heard req.client a.third reply new a.heard)
    where
      first : Gives (Good old) (with_nodes nodes old) tt a.first (only (plain.sends_all sent.items))
      first =
          let kept = all_stays sent.items (with_nodes nodes old) a.first a.sends in
          let left = client_leaves seen failures req.client (Err refusals.Range) (ClientAsks req.number request) old.nodes (Ok sent) nodes at in
          record {
            short = kept.short;
            rises = stays_quiet (with_nodes nodes old) a.first nodes kept.nodes (itself (failures_at failures nodes.master));
            same = λ calm m stands good.
                let done = node_ends seen failures sent.items nodes m (with_nodes nodes old) a.first stands refl refl a.sends calm.enough in (
                  record { result = refl; plain = done },
                  e.asks req request (Ok sent) nodes old a.first good mine low may at a.sends (record { enough = calm.enough; sound = calm.sound ∙ ap (failures_at failures) left.0 })
                      (has a.first (plain.sends_all sent.items (plain_of m.state (with_nodes nodes old))) done),
                );
          }

  comes_asking : (o : Option Node) (req : ReqId) (request : Asked) (sent : Vec Message Global) (nodes : Nodes D) (m : MasterOf D) (old : Way D) (P : Reply × Plain → Type 0)
      → MatchOption o ((nodes ≡ old.nodes) × (◌≡◌ {A = Result (Vec Message Global) Refusal} (Ok sent) (Err refusals.Range)))
      (λ n. (after : Node) × (nodes ≡ with_clients (slice_set old.nodes.clients (req.client.0 - 1) after) old.nodes) × ClientAsks req.number request n (Ok sent) after)
      → P (plain.asked req.client sent.items (plain_of m.state (with_nodes nodes old))) → P (plain.carried_from o req request (plain_of m.state old))
  comes_asking None req request sent nodes m old P (same, none) h = absurd cc
  comes_asking (Some n) req request sent nodes m old P (after, at, does) h =
      subst P ((λ i. plain.asked req.client sent.items (plain_of m.state (with_nodes (at i) old)))
      ∙ ap (λ (r : Result (Node × List Message) Refusal). plain.carried_if r n req.client (plain_of m.state old)) (sym (asked_as (asks req.number request n) sent n after does))) h

  refused_comes : (o : Option Node) (req : ReqId) (request : Asked) (f : Refusal) (nodes : Nodes D) (m : MasterOf D) (old : Way D) (reply : Reply) (new : Way D) → Stands old m
      → MatchOption o ((nodes ≡ old.nodes) × (◌≡◌ {A = Result (Vec Message Global) Refusal} (Err f) (Err refusals.Range)))
      (λ n. (after : Node) × (nodes ≡ with_clients (slice_set old.nodes.clients (req.client.0 - 1) after) old.nodes) × ClientAsks req.number request n (Err f) after)
      → reply ≡ replies.Refused f → new ≡ shortened_by f (with_nodes nodes old) → new.is_short ≡ false → Comes new reply (plain.carried_from o req request (plain_of m.state old))
  refused_comes None req request f nodes m old reply new stands (same, range) is gone enough = record {
    result = is ∙ ap (λ (r : Result (Vec Message Global) Refusal). replies.Refused (refusal_of r)) range;
    plain = plain_same seen failures old new m stands (unshortened f (with_nodes nodes old) new gone enough ∙ ap (λ (n : Nodes D). with_nodes n old) same);
  }
  refused_comes (Some n) req request f nodes m old reply new stands (after, at, does) is gone enough = elim (refused_as (asks req.number request n) f n after does) [
    | inl memory ↦ absurd (wanting f (with_nodes nodes old) new memory gone enough)
    | inr (same, left) ↦ subst (λ (r : Result (Node × List Message) Refusal). Comes new reply (plain.carried_if r n req.client (plain_of m.state old))) (sym same) (record {
      result = is;
      plain =
          subst (λ (x : Node). IsPlain new (plain.with_client req.client x (plain_of m.state old))) left
          (node_ends seen failures [] (with_clients (slice_set old.nodes.clients (req.client.0 - 1) after) old.nodes) m old new stands refl refl
          (unshortened f (with_nodes nodes old) new gone enough ∙ ap (λ (n : Nodes D). with_nodes n old) at) enough);
    })
  ]

  carried_as : (out : Result (Vec Message Global) Refusal) (req : ReqId) (request : Asked) (nodes : Nodes D) (old : Way D) (reply : Reply) (new : Way D) → req.client ≡ me → req.number ≤ last_number → MayAsk request
      → AtClient req.client (Err refusals.Range) (ClientAsks req.number request) old.nodes out nodes → AnswersAsked seen failures req.client out (with_nodes nodes old) reply new
      → Gives (Good old) old reply new (plain.carries req request)
  carried_as (Ok sent) req request nodes old reply new mine low may at answers =
      let all = asked_all req request sent nodes old reply new mine low may at answers in
      let left = client_leaves seen failures req.client (Err refusals.Range) (ClientAsks req.number request) old.nodes (Ok sent) nodes at in
      record {
        short = all.short;
        rises = subst (λ place. failures_at failures place ≤ failures_at failures new.nodes.master) left.0 all.rises;
        same = λ calm m stands good.
            let o = client_in old.nodes.clients req.client in
            let done = all.same (record { enough = calm.enough; sound = calm.sound ∙ sym (ap (failures_at failures) left.0) }) m
            (record { place = left.0 ∙ stands.place; config = stands.config ∙ sym left.1 }) good in
            (comes_asking o req request sent nodes m old (λ x. Comes new reply x) at done.0, done.1);
      }
  carried_as (Err f) req request nodes old reply new mine low may at (is, gone) =
      let left = client_leaves seen failures req.client (Err refusals.Range) (ClientAsks req.number request) old.nodes (Err f) nodes at in
      let kept = same_stays (with_nodes nodes old) (shortened_by f (with_nodes nodes old)) new (shortened_stays f (with_nodes nodes old)) gone in
      record {
        short = kept.short;
        rises = stays_quiet old new nodes kept.nodes (subst (λ place. failures_at failures old.nodes.master ≤ failures_at failures place) (sym left.0) (itself (failures_at failures old.nodes.master)));
        same = λ calm m stands good.
            let done = refused_comes (client_in old.nodes.clients req.client) req request f nodes m old reply new stands at is gone calm.enough in
            (done, e.asks req request (Err f) nodes old new good mine low may at gone calm (has new (plain.carries req request (plain_of m.state old)).1 done.plain));
      }

  pub carries : (req : ReqId) (request : Asked) (old : Way D) (reply : Reply) (new : Way D) → req.client ≡ me → req.number ≤ last_number → MayAsk request → Carries seen failures req request old reply new
      → Gives (Good old) old reply new (plain.carries req request)
  carries req request old reply new mine low may c = carried_as c.asked req request c.nodes old reply new mine low may c.asks c.answers
