-- What a desk carries for a client is a request with its reply.
use Rattle.std.specs.List.{AllByRecursion}
use Rattle.std.proofs.Common.{if◌then◌else◌, ◌≡◌, ◌∙◌, inl, inr, ◌-◌, ◌<◌, ℕ, Bool, true, false, List, [], ◌∷◌, Option, Some, None, MatchOption, Result, Ok, Err, Vec, refl, sym, ap, subst, arith, nat_le, slice_set}
use Rattle.std.specs.Prelude.{◌==◌, length, slice_get, unwrap_or}
use Rattle.std.specs.declared.alloc.Global.{Global}
use Rattle.std.proofs.lemmas.Bool.Decides.{nat_tests}
use Rattle.std.proofs.lemmas.Option.{slice_get_within}
use Rattle.gs_base.specs.Told.{IsNumber}
use Rattle.gs_base.specs.declared.numbers.Moment.{Moment}
use Rattle.gs_base.specs.declared.numbers.ReqId.{ReqId}
use Rattle.gs_base.specs.declared.refusal.Refusal.{Refusal}
use Rattle.gs_base.specs.declared.refusal.Refusal.TheVariants as refusals
use Rattle.gs_client.specs.Nodes.{Asks, Node, given_up, messages_of, request_of}
use Rattle.gs_client.specs.declared.link.Reply.{Reply}
use Rattle.gs_client.specs.declared.link.Reply.TheVariants as replies
use Rattle.gs_msg.specs.declared.event.Happening.TheVariants as happenings
use Rattle.gs_msg.specs.declared.event.Request.{Request}
use Rattle.gs_msg.specs.declared.message.Message.{Message}
use Rattle.gs_msg.specs.declared.node.NodeId.TheVariants as nodes
use Rattle.gs_nodes.specs.Happenings.{AtClient, ClientAsks, client_in}
use Rattle.gs_nodes.specs.Nodes.{Nodes, with_clients}
use Rattle.gs_shell_desk.specs.Ways.{AnswersAsked, IsAsked, Way, shortened_by, with_nodes}
use Rattle.gs_world.proofs.Staying.{at_client, run_same}
use Rattle.gs_world.specs.Histories.{Happens}
use Rattle.gs_world.specs.Runs.{Comes, Goes, RunsTo, Takes}
use Rattle.gs_world.specs.Sent.{Sent}
use Rattle.gs_laws_chunk.proofs.lemmas.machine.Lists.{there as there_is}
use Rattle.gs_laws_chunks.proofs.lemmas.answers.Asked.{found_now}
use Rattle.gs_laws_chunks.proofs.lemmas.answers.Parts.{asking}
use Rattle.gs_laws_looks.proofs.lemmas.carrying.Carried.{Calm, LastIs, OneEvent, chain, delivers_whole, one_event, waited_if}
use Rattle.gs_laws_looks.specs.carrying.Asked.{IsAnswered, RequestsAreCarried, WasAsked}
use Rattle.gs_laws_chunks.proofs.lemmas.desks.Ending.{alike_to, as_it_is, asking_client, shortened_alike}
use Rattle.gs_laws_world.specs.steady.Asking.{MayBeAsked, asks_at}
use Rattle.gs_laws_chunks.specs.desks.Reached.{Covers, history}
use Rattle.gs_laws_world.specs.steady.Unarmed.{unarmed}
use Rattle.gs_laws_world.specs.steady.Saying.{IsStepWithin}
use Rattle.gs_laws_chunks.specs.answers.Changed.{IsAt}

node_is : {a b : Node} → ◌≡◌ {A = Option Node} (Some a) (Some b) → a ≡ b
node_is is = cc

module _ {D : Type 0} (seen : D → List ℕ) (failures : D → ℕ) (sent : Sent) (old new : Way D) (req : ReqId) (request : Request) (reply : Reply) (covers : Covers sent old) (small : IsNumber old.moment.0) (may : IsNumber req.number × MayBeAsked request) where
  abbrev Asks_at : Result (Vec Message Global) Refusal → Nodes D → Type 0
  Asks_at out after = AtClient req.client (Err refusals.Range) (ClientAsks req.number request) old.nodes out after

  within_ask : IsStepWithin (Comes (asks_at old.moment req request))
  within_ask = (small, may)

  -- the client takes what it has heard
  abbrev Heard_there : Way D → Type 0
  Heard_there third = (nodes_then : Nodes D) × (found : Option Reply) × AtClient req.client None (λ n found after. (found ≡ n.reply) × (after ≡ given_up n)) third.nodes found nodes_then × (reply ≡ unwrap_or found replies.Lost) × (new ≡ with_nodes nodes_then third)

  takes_it : (third : Way D) (after : Sent) → Heard_there third → RunsTo seen failures unarmed (Takes req.client ∷ []) (history after third) (history after new)
  takes_it third after heard = (history after new, subst (λ (w : Way D). Goes seen failures unarmed (Takes req.client) (history after third) (history after w)) (sym heard.4) (heard.1, heard.2, refl), refl)

  covers_then : (third : Way D) (after : Sent) → Heard_there third → Covers after third → Covers after new
  covers_then third after heard c =
      let kept = at_client req.client None (λ n found after. (found ≡ n.reply) × (after ≡ given_up n)) third.nodes heard.1 heard.0 heard.2 in
      subst (λ w. Covers after w) (sym heard.4) (record { queue = c.queue; held = c.held; servers = c.servers ∙ sym kept.servers; clients = c.clients ∙ sym kept.clients; short = c.short })

  -- ---- it is taken

  module _ (out : Vec Message Global) (nodes_there : Nodes D) (at : Asks_at (Ok out) nodes_there) (a : IsAsked seen failures req.client out.items (with_nodes nodes_there old) reply new) where
    one : OneEvent seen failures (happenings.Ask req request) (Ok (out.items, None)) nodes_there old a.first sent
    one = one_event seen failures (happenings.Ask req request) (nodes.Client req.client) (Ok (out.items, None)) nodes_there old a.first sent (refl, (Ok out, at, refl))
        (inl (asking_client sent req.client (ClientAsks req.number request) old.nodes nodes_there out covers.clients at)) covers (a.first, a.sends, as_it_is a.first)

    calm : Calm seen failures req.client a.first a.third one.after
    calm = chain seen failures req.client a.first a.second a.third (delivers_whole seen failures req.client a.first a.second a.delivers) (waited_if seen failures req.client a.waited.0 a.second a.third a.waited.2) one.after one.covers
        (subst (λ (m : Moment). IsNumber m.0) (sym one.moment) small)

    asked_happens : Happens seen failures unarmed (asks_at old.moment req request) (history sent old) (Ok tt) (history one.after a.first)
    asked_happens = subst (λ s. Happens seen failures unarmed (asks_at old.moment req request) (history sent old) s (history one.after a.first)) one.says one.happens

    -- ---- what came

    module _ (node : Node) (there : client_in old.nodes.clients req.client ≡ Some node) (fresh : node.last < req.number) where
      not_old : nat_le req.number node.last ≡ false
      not_old = grind (arith, nat_tests)

      asked_one : (n after : Node) → n ≡ node → nodes_there ≡ with_clients (slice_set old.nodes.clients (req.client.0 - 1) after) old.nodes → (b : Bool) → b ≡ false
          → Asks (if b then Err refusals.Old else Ok (asking n req.number, messages_of (request_of n req.number) request)) (Ok out) n after → LastIs req.client req.number nodes_there.clients
      asked_one n after is same true not never = absurd never
      asked_one n after is same false not (made, sends) = λ x found.
          ap (λ (y : Node). y.last)
          (node_is (sym (ap (λ (k : Nodes D). client_in k.clients req.client) (sym same) ∙ found) ∙ found_now old.nodes.clients req.client node after there) ∙ made)

      asked_found : (o : Option Node) → o ≡ Some node
          → MatchOption o ((nodes_there ≡ old.nodes) × (◌≡◌ {A = Result (Vec Message Global) Refusal} (Ok out) (Err refusals.Range))) (λ n. (after : Node) × (nodes_there ≡ with_clients (slice_set old.nodes.clients (req.client.0 - 1) after) old.nodes) × ClientAsks req.number request n (Ok out) after)
          → LastIs req.client req.number nodes_there.clients
      asked_found None is at = absurd cc
      asked_found (Some n) is (after, same, did) = asked_one n after (node_is is) same (nat_le req.number n.last) (ap (λ (k : Node). nat_le req.number k.last) (node_is is) ∙ not_old) did

      -- clients stay
      still_there : (clients later : List Node) → length later ≡ length clients → client_in clients req.client ≡ Some node → (n : Node) × (client_in later req.client ≡ Some n)
      still_there clients later long found = by (req.client.0 == 0) found
        where
          by : (b : Bool) → (if b then None else slice_get clients (req.client.0 - 1)) ≡ Some node → (n : Node) × ((if b then None else slice_get later (req.client.0 - 1)) ≡ Some n)
          by true is = absurd cc
          by false is = (let within = slice_get_within clients (req.client.0 - 1) node is in there_is later (req.client.0 - 1) (omega arith))

      gone : client_in a.third.nodes.clients req.client ≡ None → ⊥
      gone none =
          let first = at_client req.client (Err refusals.Range) (ClientAsks req.number request) old.nodes (Ok out) nodes_there at in
          let after = run_same seen failures unarmed calm.steps (history one.after a.first) (history calm.after a.third) calm.runs in
          let long : length a.third.nodes.clients ≡ length old.nodes.clients = after.clients ∙ ap (λ (n : Nodes D). length n.clients) one.is ∙ first.clients in
          let still = still_there old.nodes.clients a.third.nodes.clients long there in
          never still.0 (sym none ∙ still.1)
        where
          never : (n : Node) → ◌≡◌ {A = Option Node} None (Some n) → ⊥
          never n is = cc

      -- the client has what it takes
      record HasIt : Type 0 where
        n : Node
        found : client_in a.third.nodes.clients req.client ≡ Some n
        has : a.heard.1 ≡ n.reply

      has_it : (o : Option Node) → client_in a.third.nodes.clients req.client ≡ o → (nodes_then : Nodes D)
          → MatchOption o ((nodes_then ≡ a.third.nodes) × (a.heard.1 ≡ None)) (λ n. (after : Node) × (nodes_then ≡ with_clients (slice_set a.third.nodes.clients (req.client.0 - 1) after) a.third.nodes) × ((a.heard.1 ≡ n.reply) × (after ≡ given_up n))) → HasIt
      has_it None is nodes_then (same, none) = absurd (gone is)
      has_it (Some n) is nodes_then (after, same, did) = record { n = n; found = is; has = did.0 }

      was_asked : WasAsked seen failures req.client (history sent old) request reply (history calm.after a.third)
      was_asked =
          let it = has_it (client_in a.third.nodes.clients req.client) refl a.heard.0 a.heard.2 in
          let last = calm.last req.number (subst (λ (n : Nodes D). LastIs req.client req.number n.clients) (sym one.is) (asked_found (client_in old.nodes.clients req.client) there at)) in
          record {
            moment = old.moment;
            req = req;
            own = refl;
            node = node;
            there = there;
            fresh = fresh;
            asked = history one.after a.first;
            happens = asked_happens;
            asks = within_ask;
            behind = record { steps = calm.steps; runs = calm.runs; within = calm.within; only = calm.only };
            last = it.n;
            found = it.found;
            number = last it.n it.found;
            has = a.heard.3 ∙ ap (λ o. unwrap_or o replies.Lost) it.has;
          }

      -- all at one moment
      asked_then : (was_asked.moment ≡ old.moment) × AllByRecursion (IsAt old.moment) was_asked.behind.steps
      unfolding was_asked
      asked_then = (refl, subst (λ m. AllByRecursion (IsAt m) calm.steps) one.moment calm.moments)

    -- the client was there, and the number fresh
    record IsFresh : Type 0 where
      node : Node
      there : client_in old.nodes.clients req.client ≡ Some node
      fresh : node.last < req.number

    fresh_one : (n after : Node) (b : Bool) → nat_le req.number n.last ≡ b → Asks (if b then Err refusals.Old else Ok (asking n req.number, messages_of (request_of n req.number) request)) (Ok out) n after → n.last < req.number
    fresh_one n after true is never = absurd never
    fresh_one n after false is made = grind (arith, nat_tests)

    by_node : (o : Option Node) → client_in old.nodes.clients req.client ≡ o
        → MatchOption o ((nodes_there ≡ old.nodes) × (◌≡◌ {A = Result (Vec Message Global) Refusal} (Ok out) (Err refusals.Range))) (λ n. (after : Node) × (nodes_there ≡ with_clients (slice_set old.nodes.clients (req.client.0 - 1) after) old.nodes) × ClientAsks req.number request n (Ok out) after) → IsFresh
    by_node None is (same, refused) = absurd (never refused)
      where
        never : ◌≡◌ {A = Result (Vec Message Global) Refusal} (Ok out) (Err refusals.Range) → ⊥
        never e = cc
    by_node (Some n) is (after, same, did) = record { node = n; there = is; fresh = fresh_one n after (nat_le req.number n.last) refl did }

    is_fresh : IsFresh
    is_fresh = by_node (client_in old.nodes.clients req.client) refl at

    answered_ok : IsAnswered seen failures req.client old sent request reply new
    answered_ok = record {
      after = calm.after;
      went = inl (history calm.after a.third, was_asked is_fresh.node is_fresh.there is_fresh.fresh, takes_it a.third calm.after a.heard);
      covers = covers_then a.third calm.after a.heard calm.covers;
      moment = ap (λ (w : Way D). w.moment) a.heard.4 ∙ calm.moment ∙ one.moment;
      moments = asked_then is_fresh.node is_fresh.there is_fresh.fresh;
    }

  -- ---- it isn't taken

  module _ (refusal : Refusal) (nodes_there : Nodes D) (at : Asks_at (Err refusal) nodes_there) (same : new ≡ shortened_by refusal (with_nodes nodes_there old)) where
    refused_one : OneEvent seen failures (happenings.Ask req request) (Err refusal) nodes_there old new sent
    refused_one = one_event seen failures (happenings.Ask req request) (nodes.Client req.client) (Err refusal) nodes_there old new sent (refl, (Err refusal, at, refl)) tt covers
        (alike_to (with_nodes nodes_there old) (shortened_by refusal (with_nodes nodes_there old)) new (shortened_alike refusal (with_nodes nodes_there old)) same)

    refused_so : reply ≡ replies.Refused refusal → IsAnswered seen failures req.client old sent request reply new
    refused_so is = (let e = refused_one in record {
      after = e.after;
      went = inr (record {
        moment = old.moment;
        req = req;
        own = refl;
        refusal = refusal;
        happens = subst (λ s. Happens seen failures unarmed (asks_at old.moment req request) (history sent old) s (history e.after new)) e.says e.happens;
        asks = within_ask;
        is = is;
      });
      covers = e.covers;
      moment = e.moment;
      moments = tt;
    })

  by_asked : (asked : Result (Vec Message Global) Refusal) (nodes_there : Nodes D) → Asks_at asked nodes_there → AnswersAsked seen failures req.client asked (with_nodes nodes_there old) reply new → IsAnswered seen failures req.client old sent request reply new
  by_asked (Ok out) nodes_there at a = answered_ok out nodes_there at a
  by_asked (Err refusal) nodes_there at (is, same) = refused_so refusal nodes_there at same is

pub requests_are_carried : {D : Type 0} (seen : D → List ℕ) (failures : D → ℕ) → RequestsAreCarried seen failures
requests_are_carried seen failures sent old new req request reply covers small may c = by_asked seen failures sent old new req request reply covers small may c.asked c.nodes c.asks c.answers
