-- An event at a node and what it sends over a wire are one event of a store.
use Rattle.std.proofs.Common.{◌≡◌, ◌∙◌, ◌⊎◌, ◌-◌, ◌==◌, ℕ, zero, suc, Bool, true, false, List, [], ◌∷◌, if◌then◌else◌, Option, Some, None, MatchOption, Result, Ok, Err, Vec, refl, sym, ap, subst, inl, inr, length, slice_get, slice_set}
use Rattle.std.specs.List.{AllByRecursion}
use Rattle.std.specs.declared.alloc.Global.{Global}
use Rattle.gs_base.specs.Told.{IsNumber}
use Rattle.gs_base.specs.declared.numbers.ClientId.{ClientId}
use Rattle.gs_base.specs.declared.numbers.Moment.{Moment}
use Rattle.gs_base.specs.declared.refusal.Refusal.{Refusal}
use Rattle.gs_base.specs.declared.refusal.Refusal.TheVariants as refusals
use Rattle.gs_client.specs.Nodes.{Node}
use Rattle.gs_master.specs.declared.turn.Turn.{Turn}
use Rattle.gs_msg.specs.Bodies.{kind_of}
use Rattle.gs_msg.specs.declared.event.Event.{Event}
use Rattle.gs_msg.specs.declared.event.Happening.{Happening}
use Rattle.gs_msg.specs.declared.message.Message.{Message}
use Rattle.gs_msg.specs.declared.node.NodeId.{NodeId}
use Rattle.gs_msg.specs.declared.node.NodeId.TheVariants as nodes
use Rattle.gs_msg.specs.declared.outbox.Post.{Post}
use Rattle.gs_server.specs.Servers.{Server}
use Rattle.gs_server.specs.Servers as servers
use Rattle.gs_nodes.specs.Happenings.{AtClient, AtServer, Delivers, Hears, ServerDoes, client_in, met_by}
use Rattle.gs_nodes.specs.Nodes.{Nodes, with_clients, with_servers}
use Rattle.gs_shell_desk.specs.Ways.{Ends, SendsAll, Way, counted, held_back, is_held, noted, shortened_by, under_way, with_nodes}
use Rattle.gs_world.specs.Histories.{AtNode, Upshot, Tells, told}
use Rattle.gs_world.specs.Runs.{SameNodes, Comes}
use Rattle.gs_world.specs.Sent.{Sent}
use Rattle.gs_world.proofs.Sending.{numbered}
use Rattle.gs_world.proofs.Staying.{at_node}
use Rattle.gs_laws_chunks.specs.desks.Reached.{AllSent, Covers, history}
use Rattle.gs_laws_world.specs.steady.Unarmed.{unarmed}
use Rattle.gs_laws_world.specs.steady.Saying.{IsAskedWithin, IsStepWithin}
use Rattle.gs_laws_chunks.proofs.lemmas.desks.Sending.{HasList, Posting, sends, sends_none}
use Rattle.gs_laws_chunks.proofs.lemmas.desks.When.{StepsSo, When, when_both, when_then}

-- ---- a node that does something has a list

-- what a turn sends can be posted: there is a list of the node, or nothing is sent
abbrev pub CanPost : Sent → NodeId → Upshot → Type 0
CanPost sent by (Ok (messages, said)) = HasList by sent ⊎ (messages ≡ [])
CanPost sent by (Err refusal) = Unit {0}

record Stands {A : Type 0} (xs : List A) (i : ℕ) : Type 0 where
  item : A
  is : slice_get xs i ≡ Some item

also : {A B : Type 0} (xs : List A) (ys : List B) (i : ℕ) (x : A) → length ys ≡ length xs → slice_get xs i ≡ Some x → Stands ys i
also [] ys i x long is = absurd cc
also (x ∷ xs) [] i y long is = absurd cc
also (x ∷ xs) (y ∷ ys) zero z long is = record { item = y; is = refl }
also {A} {B} (x ∷ xs) (y ∷ ys) (suc i) z long is =
    let rest = also xs ys i z (shorter (length ys) (length xs) long) is in record { item = rest.item; is = rest.is } where
      shorter : (m n : ℕ) → suc m ≡ suc n → m ≡ n
      shorter m n is = cc

numbered_client : (nought : Bool) (sent : List (List Post)) (clients : List Node) (i : ℕ) (n : Node) → length sent ≡ length clients
    → (if nought then None else slice_get clients i) ≡ Some n → (posts : List Post) × (numbered nought (slice_get sent i) ≡ Some posts)
numbered_client true sent clients i n long is = absurd cc
numbered_client false sent clients i n long is = let found = also clients sent i n long is in (found.item, found.is)

pub master_posts : (sent : Sent) (turn : Result Turn Refusal) → CanPost sent nodes.Master (told turn)
master_posts sent (Ok turn) = inl (record { posts = sent.master; is = refl })
master_posts sent (Err refusal) = tt

module _ {D : Type 0} where
  has_server : (sent : Sent) (id : ℕ) (old : Nodes D) (s : Server) → length sent.servers ≡ length old.servers → slice_get old.servers id ≡ Some s → HasList (nodes.Server id) sent
  has_server sent id old s long is = let found = also old.servers sent.servers id s long is in record { posts = found.item; is = found.is }

  found_server : {A : Type 0} (o : Option Server) (sent : Sent) (id : ℕ) (does : Server → Result A Refusal → Server → Type 0) (old new : Nodes D) (done : A)
      → length sent.servers ≡ length old.servers → slice_get old.servers id ≡ o
      → MatchOption o ((new ≡ old) × (Ok done ≡ Err refusals.Range)) (λ s. (after : Server) × (new ≡ with_servers (slice_set old.servers id after) old) × does s (Ok done) after)
      → HasList (nodes.Server id) sent
  found_server None sent id does old new done long is (same, refused) = absurd cc
  found_server (Some s) sent id does old new done long is (after, same, did) = has_server sent id old s long is

  pub server_posts : (sent : Sent) (id : ℕ) (does : Server → Result Turn Refusal → Server → Type 0) (old : Nodes D) (turn : Result Turn Refusal) (new : Nodes D)
      → length sent.servers ≡ length old.servers → AtServer id does old turn new → CanPost sent (nodes.Server id) (told turn)
  server_posts sent id does old (Ok turn) new long at = inl (found_server (slice_get old.servers id) sent id does old new turn long refl at)
  server_posts sent id does old (Err refusal) new long at = tt

  has_client : (sent : Sent) (id : ClientId) (old : Nodes D) (n : Node) → length sent.clients ≡ length old.clients → client_in old.clients id ≡ Some n → HasList (nodes.Client id) sent
  has_client sent id old n long is =
      let (posts, found) = numbered_client (id.0 == 0) sent.clients old.clients (id.0 - 1) n long is in record { posts = posts; is = found }

  found_client : {A : Type 0} (o : Option Node) (sent : Sent) (id : ClientId) (does : Node → Result A Refusal → Node → Type 0) (old new : Nodes D) (done : A)
      → length sent.clients ≡ length old.clients → client_in old.clients id ≡ o
      → MatchOption o ((new ≡ old) × (Ok done ≡ Err refusals.Range)) (λ n. (after : Node) × (new ≡ with_clients (slice_set old.clients (id.0 - 1) after) old) × does n (Ok done) after)
      → HasList (nodes.Client id) sent
  found_client None sent id does old new done long is (same, refused) = absurd cc
  found_client (Some n) sent id does old new done long is (after, same, did) = has_client sent id old n long is

  pub asking_client : (sent : Sent) (id : ClientId) (does : Node → Result (Vec Message Global) Refusal → Node → Type 0) (old new : Nodes D) (out : Vec Message Global)
      → length sent.clients ≡ length old.clients → AtClient id (Err refusals.Range) does old (Ok out) new → HasList (nodes.Client id) sent
  asking_client sent id does old new out long at = found_client (client_in old.clients id) sent id does old new out long refl at

  heard_posts : (seen : D → List ℕ) (failures : D → ℕ) (message : Message) (moment : Moment) (to : NodeId) (sent : Sent) (old : Nodes D) (turn : Result Turn Refusal) (new : Nodes D)
      → length sent.servers ≡ length old.servers → Hears seen failures message moment to old turn new → CanPost sent to (told turn)
  heard_posts seen failures message moment nodes.Master sent old turn new long hears = master_posts sent turn
  heard_posts seen failures message moment (nodes.Server id) sent old turn new long at = server_posts sent id (λ s. ServerDoes (servers.handle s message moment) s) old turn new long at
  heard_posts seen failures message moment (nodes.Client id) sent old (Ok turn) new long (said, at, says) = inr says.0
  heard_posts seen failures message moment (nodes.Client id) sent old (Err refusal) new long (said, at, says) = tt

  pub delivered_posts : (seen : D → List ℕ) (failures : D → ℕ) (message : Message) (moment : Moment) (sent : Sent) (old : Nodes D) (turn : Result Turn Refusal) (new : Nodes D)
      → length sent.servers ≡ length old.servers → Delivers seen failures message moment old turn new → CanPost sent message.to (told turn)
  unfolding Delivers
  delivered_posts seen failures message moment sent old turn new long hears = heard_posts seen failures message moment message.to sent old turn new long hears

  -- a server that is found, whatever it does
  pub known_server : (sent : Sent) (id : ℕ) (old : Nodes D) (s : Server) → length sent.servers ≡ length old.servers → slice_get old.servers id ≡ Some s → HasList (nodes.Server id) sent
  known_server sent id old s long is = has_server sent id old s long is

-- ---- an event

-- the same nodes, with the same under way; it isn't forgotten that memory was wanting
pub record Alike {D : Type 0} (old new : Way D) : Type 0 where
  pub nodes : new.nodes ≡ old.nodes
  pub moment : new.moment ≡ old.moment
  pub queue : new.queue ≡ old.queue
  pub held : new.held ≡ old.held
  pub short : old.is_short ≡ true → new.is_short ≡ true

pub shortened_alike : {D : Type 0} (refusal : Refusal) (w : Way D) → Alike w (shortened_by refusal w)
shortened_alike refusals.Memory w = record { nodes = refl; moment = refl; queue = refl; held = refl; short = λ short. refl }
shortened_alike refusal w = record { nodes = refl; moment = refl; queue = refl; held = refl; short = λ short. short }

pub alike_to : {D : Type 0} (old mid new : Way D) → Alike old mid → new ≡ mid → Alike old new
alike_to old mid new a same = subst (λ w. Alike old w) (sym same) a

pub alike_covers : {D : Type 0} (sent : Sent) (old new : Way D) → Alike old new → Covers sent old → Covers sent new
alike_covers {D} sent old new a c =
    record {
      queue = subst (λ (l : List Message). AllSent sent l) (sym a.queue) c.queue;
      held = subst (λ (l : List Message). AllSent sent l) (sym a.held) c.held;
      servers = c.servers ∙ sym (ap (λ (n : Nodes D). length n.servers) a.nodes);
      clients = c.clients ∙ sym (ap (λ (n : Nodes D). length n.clients) a.nodes);
      short = λ lost. a.short (c.short lost);
    }

pub as_it_is : {D : Type 0} (w : Way D) → Alike w w
as_it_is w = record { nodes = refl; moment = refl; queue = refl; held = refl; short = λ short. short }

pub noted_alike : {D : Type 0} (said : Option Refusal) (w : Way D) → Alike w (noted said w)
noted_alike None w = as_it_is w
noted_alike (Some refusal) w = shortened_alike refusal w

-- what an event sends is under way; of a refused one nothing is
abbrev pub IsOver : {D : Type 0} → Upshot → Way D → Way D → Type 0
IsOver {D} (Ok (messages, said)) old new = (mid : Way D) × SendsAll messages old mid × Alike mid new
IsOver (Err refusal) old new = Alike old new

pub ended : {D : Type 0} (turn : Result Turn Refusal) (old : Way D) (result : Result (Unit {0}) Refusal) (new : Way D) → Ends turn old result new → IsOver (told turn) old new
ended (Ok turn) old result new (mid, all, same, is) = (mid, all, alike_to mid (noted turn.said mid) new (noted_alike turn.said mid) same)
ended (Err refusal) old result new (same, is) = alike_to old (shortened_by refusal old) new (shortened_alike refusal old) same

-- what is sent leaves the moment
put_moment : {D : Type 0} (held : Bool) (message : Message) (w new : Way D) → new ≡ (if held then held_back message w else under_way message w) → new.moment ≡ w.moment
put_moment true message w new is = ap (λ (x : Way _). x.moment) is
put_moment false message w new is = ap (λ (x : Way _). x.moment) is

pub sent_moment : {D : Type 0} (messages : List Message) (w new : Way D) → SendsAll messages w new → new.moment ≡ w.moment
sent_moment {D} [] w new same = ap (λ (x : Way D). x.moment) same
sent_moment {D} (message ∷ messages) w new (mid, sends_it, rest) = sent_moment messages mid new rest ∙ elim sends_it [
  | inl puts ↦ put_moment (is_held w.kind (kind_of message.body)) message (counted message w) mid puts
  | inr lost ↦ ap (λ (x : Way D). x.moment) lost
]

over_moment : {D : Type 0} (outcome : Upshot) (w new : Way D) → IsOver outcome w new → new.moment ≡ w.moment
over_moment (Ok (messages, said)) w new (mid, all, same) = same.moment ∙ sent_moment messages w mid all
over_moment (Err refusal) w new same = same.moment

module _ {D : Type 0} (seen : D → List ℕ) (failures : D → ℕ) (keeps : Bool) where
  -- at the nodes that an event leaves as much is under way
  at_nodes : (sent : Sent) (w : Way D) (nodes : Nodes D) → SameNodes w.nodes nodes → Covers sent w → Covers sent (with_nodes nodes w)
  at_nodes sent w nodes same c =
      record { queue = c.queue; held = c.held; servers = c.servers ∙ sym same.servers; clients = c.clients ∙ sym same.clients; short = c.short }

  one_step : (event : Event) (by : NodeId) (outcome : Upshot) (nodes : Nodes D) (said : Result (Unit {0}) Refusal) (old new : Way D) (sent after : Sent)
      → AtNode seen failures unarmed event.moment event.happening (history sent old) by outcome nodes
      → Tells seen failures unarmed event.moment by outcome sent said after → new.nodes ≡ nodes → Covers after new
      → When keeps (IsStepWithin (Comes event)) → When keeps (IsNumber new.moment.0)
      → StepsSo seen failures keeps old new sent
  one_step event by outcome nodes said old new sent after at tells is covers within small =
      record {
        steps = Comes event ∷ [];
        after = after;
        runs = (
          history after new,
          (said, record { by = by; outcome = outcome; at = subst (λ n. AtNode seen failures unarmed event.moment event.happening (history sent old) by outcome n) (sym is) at; tells = tells }),
          refl,
        );
        covers = covers;
        within = when_then keeps (IsStepWithin (Comes event)) (AllByRecursion IsStepWithin (Comes event ∷ [])) (λ one. (one, tt)) within;
        moment = small;
      }

  posted : (event : Event) (by : NodeId) (messages : List Message) (said : Option Refusal) (nodes : Nodes D) (old mid new : Way D) (sent : Sent)
      → AtNode seen failures unarmed event.moment event.happening (history sent old) by (Ok (messages, said)) nodes → Alike mid new
      → Posting event.moment by messages sent (with_nodes nodes old) mid
      → When keeps (IsStepWithin (Comes event)) → When keeps (IsNumber new.moment.0) → StepsSo seen failures keeps old new sent
  posted event by messages said nodes old mid new sent at same p within small =
      one_step event by (Ok (messages, said)) nodes (met_by said) old new sent p.after at (p.posts, refl) (same.nodes ∙ p.nodes) (alike_covers p.after mid new same p.covers) within small

  -- An event at its node, and what is sent of it, is a step.
  pub event_leads : (happening : Happening) (by : NodeId) (outcome : Upshot) (nodes : Nodes D) (old new : Way D) (sent : Sent)
      → AtNode seen failures unarmed old.moment happening (history sent old) by outcome nodes → CanPost sent by outcome → Covers sent old
      → When keeps (IsAskedWithin happening) → When keeps (IsNumber old.moment.0)
      → IsOver outcome (with_nodes nodes old) new → StepsSo seen failures keeps old new sent
  event_leads happening by outcome nodes old new sent at can covers asked small over = by_outcome outcome at can over
    where
      event : Event
      event = record { moment = old.moment; happening = happening }

      within : When keeps (IsStepWithin (Comes event))
      within = when_both keeps (IsNumber old.moment.0) (IsAskedWithin happening) (IsStepWithin (Comes event)) (λ number may. (number, may)) small asked

      small_then : new.moment ≡ old.moment → When keeps (IsNumber new.moment.0)
      small_then same = subst (λ (m : Moment). When keeps (IsNumber m.0)) (sym same) small

      by_outcome : (o : Upshot) → AtNode seen failures unarmed old.moment happening (history sent old) by o nodes → CanPost sent by o → IsOver o (with_nodes nodes old) new → StepsSo seen failures keeps old new sent
      by_outcome (Ok (messages, said)) at can (mid, all, same) =
          let c = at_nodes sent old nodes (at_node seen failures unarmed old.moment happening (history sent old) by (Ok (messages, said)) nodes at) covers in
          let later = small_then (over_moment (Ok (messages, said)) (with_nodes nodes old) new (mid, all, same)) in
          elim can [
            | inl has ↦ posted event by messages said nodes old mid new sent at same (sends old.moment by messages sent (with_nodes nodes old) mid has c all) within later
            | inr none ↦ posted event by messages said nodes old mid new sent at same (sends_none old.moment by messages sent (with_nodes nodes old) mid none c all) within later
          ]
      by_outcome (Err refusal) at can a =
          let c = at_nodes sent old nodes (at_node seen failures unarmed old.moment happening (history sent old) by (Err refusal) nodes at) covers in
          one_step event by (Err refusal) nodes (Err refusal) old new sent sent at (refl, refl) a.nodes (alike_covers sent (with_nodes nodes old) new a c) within (small_then a.moment)
