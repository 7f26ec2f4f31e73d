-- What becomes of what is under way in a store becomes of it in what is seen of the store.
use Rattle.std.proofs.Common.{◌≡◌, ◌∙◌, ℕ, zero, suc, Bool, true, false, List, [], ◌∷◌, if◌then◌else◌, Option, Some, None, Result, Ok, Err, Vec, ap, refl, inl, inr, length}
use Rattle.std.specs.Prelude.{min}
use Rattle.std.specs.declared.alloc.Global.{Global}
use Rattle.gs_base.specs.declared.numbers.ClientId.{ClientId}
use Rattle.gs_base.specs.declared.numbers.ReqId.{ReqId}
use Rattle.gs_base.specs.declared.refusal.Refusal.{Refusal}
use Rattle.gs_base.specs.declared.refusal.Refusal.TheVariants as refusals
use Rattle.gs_client.specs.Nodes.{given_up}
use Rattle.gs_client.specs.declared.link.Reply.{Reply}
use Rattle.gs_master.specs.declared.turn.Turn.{Turn as Told}
use Rattle.gs_msg.specs.Bodies.{kind_of}
use Rattle.gs_msg.specs.declared.event.Request.{Request}
use Rattle.gs_msg.specs.declared.message.Message.{Message}
use Rattle.gs_nodes.specs.Happenings.{ClientAsks, ServerDoes}
use Rattle.gs_nodes.specs.Nodes.{Nodes, with_master}
use Rattle.gs_server.specs.Servers as servers
use Rattle.gs_shell_desk.specs.Ways.{AllTick, AnswersAsked, Carries, DeliversAll, DeliversWhole, Ends, Heard, IsAsked, IsDelivered, MasterTicked, Puts, Sends, SendsAll, ServerTicked, ServersTick, TicksIf, TicksWhole, Waited, Way, WithFirst, counted, held_back, is_held, last_count, noted, shortened_by, under_way, with_nodes, with_queue}
use Rattle.gs_laws_image.specs.Seen.{SeenDisk, bytes_seen, failures_seen, nodes_seen, place_seen, way_seen}
use Rattle.gs_laws_image.proofs.Masters.{ticks_seen}
use Rattle.gs_laws_image.proofs.Worlds.{client_seen, delivers_seen, server_seen}

module _ {D : Type 0} (seen : D → List ℕ) (failures : D → ℕ) (counts : ℕ × ℕ) where
  abbrev the_nodes : Nodes D → Nodes SeenDisk
  the_nodes n = nodes_seen seen failures counts n

  abbrev the_way : Way D → Way SeenDisk
  the_way w = way_seen seen failures counts w

  -- ---- what is sent

  way_if : (b : Bool) (x y : Way D) → the_way (if b then x else y) ≡ (if b then the_way x else the_way y)
  way_if true x y = refl
  way_if false x y = refl

  puts_seen : (message : Message) (old new : Way D) → Puts message old new → Puts message (the_way old) (the_way new)
  puts_seen message old new is = ap the_way is ∙ way_if (is_held old.kind (kind_of message.body)) (held_back message old) (under_way message old)

  pub sends_seen : (message : Message) (old new : Way D) → Sends message old new → Sends message (the_way old) (the_way new)
  sends_seen message old new (inl puts) = inl (puts_seen message (counted message old) new puts)
  sends_seen message old new (inr short) = inr (ap the_way short)

  all_sent_seen : (messages : List Message) (old new : Way D) → SendsAll messages old new → SendsAll messages (the_way old) (the_way new)
  all_sent_seen [] old new same = ap the_way same
  all_sent_seen (message ∷ messages) old new (mid, first, others) = (the_way mid, sends_seen message old mid first, all_sent_seen messages mid new others)

  -- ---- what an event comes to

  pub shortened_seen : (refusal : Refusal) (w : Way D) → the_way (shortened_by refusal w) ≡ shortened_by refusal (the_way w)
  shortened_seen refusals.Memory w = refl
  shortened_seen refusal w = refl

  noted_seen : (said : Option Refusal) (w : Way D) → the_way (noted said w) ≡ noted said (the_way w)
  noted_seen None w = refl
  noted_seen (Some refusal) w = shortened_seen refusal w

  pub ends_seen : (turn : Result Told Refusal) (old : Way D) (result : Result (Unit {0}) Refusal) (new : Way D) → Ends turn old result new → Ends turn (the_way old) result (the_way new)
  ends_seen (Ok turn) old result new (mid, all, same, is) = (the_way mid, all_sent_seen turn.sent.items old mid all, ap the_way same ∙ noted_seen turn.said mid, is)
  ends_seen (Err refusal) old result new (same, is) = (ap the_way same ∙ shortened_seen refusal old, is)

  pub delivered_seen : (message : Message) (old : Way D) (result : Result (Unit {0}) Refusal) (new : Way D) → IsDelivered seen failures message old result new
      → IsDelivered bytes_seen failures_seen message (the_way old) result (the_way new)
  delivered_seen message old result new d = record {
    nodes = the_nodes d.nodes;
    turn = d.turn;
    delivers = delivers_seen seen failures counts message old.moment old.nodes d.turn d.nodes d.delivers;
    ends = ends_seen d.turn (with_nodes d.nodes old) result new d.ends;
  }

  abbrev GoesOnFrom : {E : Type 0} → (E → List ℕ) → (E → ℕ) → ℕ → List Message → Way E → Way E → Type 0
  GoesOnFrom {E} seen failures many queue old new =
      WithFirst queue (new ≡ old) (λ message queue. (said : Result (Unit {0}) Refusal) × (mid : Way E) × IsDelivered seen failures message (with_queue queue old) said mid × DeliversAll seen failures many mid new)

  by_queue : (many : ℕ) → ((mid new : Way D) → DeliversAll seen failures many mid new → DeliversAll bytes_seen failures_seen many (the_way mid) (the_way new)) → (queue : List Message) (old new : Way D)
      → GoesOnFrom seen failures many queue old new → GoesOnFrom bytes_seen failures_seen many queue (the_way old) (the_way new)
  by_queue many others [] old new same = ap the_way same
  by_queue many others (message ∷ queue) old new (said, mid, first, rest) = (said, the_way mid, delivered_seen message (with_queue queue old) said mid first, others mid new rest)

  all_delivered : (many : ℕ) (old new : Way D) → DeliversAll seen failures many old new → DeliversAll bytes_seen failures_seen many (the_way old) (the_way new)
  unfolding DeliversAll
  all_delivered zero old new same = ap the_way same
  all_delivered (suc many) old new h = by_queue many (λ mid new. all_delivered many mid new) old.queue old new h

  pub whole_seen : (old new : Way D) → DeliversWhole seen failures old new → DeliversWhole bytes_seen failures_seen (the_way old) (the_way new)
  whole_seen old new h = all_delivered last_count old new h

  -- ---- ticks

  master_seen : (old new : Way D) → MasterTicked seen failures old new → MasterTicked bytes_seen failures_seen (the_way old) (the_way new)
  master_seen old new t = record {
    place = place_seen seen failures counts t.place;
    turn = t.turn;
    said = t.said;
    ticks = ticks_seen seen failures counts old.moment old.nodes.master t.turn t.place t.ticks;
    ends = ends_seen t.turn (with_nodes (with_master t.place old.nodes) old) t.said new t.ends;
  }

  one_ticks : (server : ℕ) (old new : Way D) → ServerTicked server old new → ServerTicked server (the_way old) (the_way new)
  one_ticks server old new t = record {
    nodes = the_nodes t.nodes;
    turn = t.turn;
    said = t.said;
    ticks = server_seen seen failures counts server (λ s. ServerDoes (servers.tick s old.moment) s) old.nodes t.turn t.nodes t.ticks;
    ends = ends_seen t.turn (with_nodes t.nodes old) t.said new t.ends;
  }

  servers_tick : (many : ℕ) (old new : Way D) → ServersTick many old new → ServersTick many (the_way old) (the_way new)
  servers_tick zero old new same = ap the_way same
  servers_tick (suc server) old new (mid, first, last) = (the_way mid, servers_tick server old mid first, one_ticks server mid new last)

  all_tick : (old new : Way D) → AllTick seen failures old new → AllTick bytes_seen failures_seen (the_way old) (the_way new)
  all_tick old new (mid, first, others) = (the_way mid, master_seen old mid first, servers_tick (min (length old.nodes.servers) 16) mid new others)

  pub ticks_whole_seen : (old new : Way D) → TicksWhole seen failures old new → TicksWhole bytes_seen failures_seen (the_way old) (the_way new)
  ticks_whole_seen old new (mid, all, follows) = (the_way mid, all_tick old mid all, whole_seen mid new follows)

  -- ---- a request

  heard_seen : (client : ClientId) (old : Way D) (reply : Reply) (new : Way D) → Heard client old reply new → Heard client (the_way old) reply (the_way new)
  heard_seen client old reply new (nodes, found, h, is, same) =
      (the_nodes nodes, found, client_seen seen failures counts client None (λ n found after. (found ≡ n.reply) × (after ≡ given_up n)) old.nodes found nodes h, is, ap the_way same)

  ticks_if : (waits : Bool) (old new : Way D) → TicksIf seen failures waits old new → TicksIf bytes_seen failures_seen waits (the_way old) (the_way new)
  ticks_if false old new same = ap the_way same
  ticks_if true old new h = ticks_whole_seen old new h

  waited_seen : (client : ClientId) (old new : Way D) → Waited seen failures client old new → Waited bytes_seen failures_seen client (the_way old) (the_way new)
  waited_seen client old new (waits, is, h) = (waits, is, ticks_if waits old new h)

  asked_seen : (client : ClientId) (sent : List Message) (old : Way D) (reply : Reply) (new : Way D) → IsAsked seen failures client sent old reply new
      → IsAsked bytes_seen failures_seen client sent (the_way old) reply (the_way new)
  asked_seen client sent old reply new a = record {
    first = the_way a.first;
    second = the_way a.second;
    third = the_way a.third;
    sends = all_sent_seen sent old a.first a.sends;
    delivers = whole_seen a.first a.second a.delivers;
    waited = waited_seen client a.second a.third a.waited;
    heard = heard_seen client a.third reply new a.heard;
  }

  answers_seen : (client : ClientId) (asked : Result (Vec Message Global) Refusal) (old : Way D) (reply : Reply) (new : Way D) → AnswersAsked seen failures client asked old reply new
      → AnswersAsked bytes_seen failures_seen client asked (the_way old) reply (the_way new)
  answers_seen client (Ok sent) old reply new a = asked_seen client sent.items old reply new a
  answers_seen client (Err refusal) old reply new (is, same) = (is, ap the_way same ∙ shortened_seen refusal old)

  pub carries_seen : (req : ReqId) (request : Request) (old : Way D) (reply : Reply) (new : Way D) → Carries seen failures req request old reply new
      → Carries bytes_seen failures_seen req request (the_way old) reply (the_way new)
  carries_seen req request old reply new c = record {
    nodes = the_nodes c.nodes;
    asked = c.asked;
    asks = client_seen seen failures counts req.client (Err refusals.Range) (ClientAsks req.number request) old.nodes c.asked c.nodes c.asks;
    answers = answers_seen req.client c.asked (with_nodes c.nodes old) reply new c.answers;
  }
