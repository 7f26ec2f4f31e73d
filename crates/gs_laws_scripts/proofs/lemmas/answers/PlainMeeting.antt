-- That the ways which a script meets are met by steps of a store, where memory isn't wanting and no disk fails.
use Rattle.std.proofs.Common.{◌≡◌, ◌∙◌, ◌-◌, ◌≤◌, ◌⊎◌, ◌==◌, ◌++◌, ℕ, List, [], ◌∷◌, Option, Some, None, MatchOption, Result, Ok, Err, Vec, refl, sym, ap, subst, inl, inr, length, slice_get}
use Rattle.std.specs.declared.alloc.Global.{Global}
use Rattle.gs_base.specs.Told.{IsNumber}
use Rattle.gs_base.specs.declared.config.Config.{Config}
use Rattle.gs_base.specs.declared.numbers.ClientId.{ClientId}
use Rattle.gs_base.specs.declared.numbers.Moment.{Moment}
use Rattle.gs_base.specs.declared.numbers.ReqId.{ReqId}
use Rattle.gs_base.specs.declared.refusal.Refusal.{Refusal}
use Rattle.gs_base.specs.declared.refusal.Refusal.TheVariants as refusals
use Rattle.gs_base.specs.Calls.{Does}
use Rattle.gs_shell_calls.specs.Asked.{asked_by}
use Rattle.gs_shell_calls.specs.declared.answer.Answer.{Answer}
use Rattle.gs_client.specs.Nodes.{given_up}
use Rattle.gs_client.specs.Sends.{last_number}
use Rattle.gs_client.specs.Trees.{Call}
use Rattle.gs_client.specs.declared.link.Reply.{Reply}
use Rattle.gs_shell_desk.specs.Ways.{Ends, Heard, IsDelivered, MasterTicked, Sends, ServerTicked, Way, shortened_by, with_nodes}
use Rattle.gs_client_dialogue.specs.Dialogues.{Ask, Dialogue, Grow, Say}
use Rattle.gs_shell_grammar.specs.Grammar.{At, Request, line_request}
use Rattle.gs_master.specs.Masters.{MasterOf}
use Rattle.gs_master.specs.declared.turn.Turn.{Turn as Told}
use Rattle.gs_msg.specs.declared.event.Event.{Event}
use Rattle.gs_msg.specs.declared.event.Happening.TheVariants as happenings
use Rattle.gs_msg.specs.declared.event.Request.{Request as Asked}
use Rattle.gs_msg.specs.declared.message.Message.{Message}
use Rattle.gs_msg.specs.declared.node.NodeId.{NodeId}
use Rattle.gs_msg.specs.declared.node.NodeId.TheVariants as nodes
use Rattle.gs_msg.specs.declared.node.StoreNode.TheVariants as keepers
use Rattle.gs_world.proofs.Staying.{at_client, at_node}
use Rattle.gs_world.specs.Histories.{AtNode, ComesTo, History, Upshot, Tells, silent, told}
use Rattle.gs_laws_world.specs.lasting.Lasting.{failures_at}
use Rattle.gs_world.specs.Runs.{Goes, SameNodes, Step, Comes, Takes}
use Rattle.gs_world.specs.Sent.{IsSent, Sent}
use Rattle.gs_server.specs.Servers.{Server}
use Rattle.gs_server.specs.Servers as servers
use Rattle.gs_nodes.specs.Happenings.{AtClient, AtServer, ClientAsks, Reopens, ServerDoes, met_by}
use Rattle.gs_nodes.specs.Nodes.{Nodes, with_master}
use Rattle.gs_nodes.specs.declared.place.MasterPlace.{MasterPlace}
use Rattle.gs_laws_scripts.specs.answers.Meeting.{AllSteady, AllWritten, HasMaster, IsAskedByLine, IsAskedSo, IsCalm, IsMet, IsMetWay, IsOfScript, Occurs, RunsSo, Stands}
use Rattle.gs_laws_chunks.specs.desks.Reached.{AllSent, Covers, history}
use Rattle.gs_laws_world.specs.steady.Unarmed.{unarmed}
use Rattle.gs_laws_chunks.proofs.lemmas.desks.Ending.{Alike, CanPost, IsOver, alike_covers, alike_to, as_it_is, asking_client, delivered_posts, ended, known_server, master_posts, server_posts, shortened_alike}
use Rattle.gs_laws_scripts.proofs.lemmas.answers.PlainEnduring.{AllAsked, Endures, EnduresRestarts, GoesOut, IsTaken}
use Rattle.gs_laws_scripts.proofs.lemmas.answers.PlainEvents.{client_leaves, server_leaves}
use Rattle.gs_laws_chunks.proofs.lemmas.desks.Lines.{held_numbered, quiet_posts}
use Rattle.gs_laws_chunks.proofs.lemmas.desks.Words.{line_spoken}
use Rattle.gs_laws_scripts.proofs.lemmas.answers.PlainSends.{all_stays, end_stays, same_stays, send_stays, shortened_stays}
use Rattle.gs_laws_chunks.proofs.lemmas.desks.Sending.{Posting, sends, sends_none}

-- ---- messages that were sent

taken_stands : {D : Type 0} (message : Message) (old before : Way D) (m : MasterOf D) → IsTaken message old before → Stands old m → Stands before m
taken_stands message old before m (inl (rest, is, same)) stands = subst (λ w. Stands w m) (sym same) (record { place = stands.place; config = stands.config })
taken_stands message old before m (inr (number, is, same)) stands = subst (λ w. Stands w m) (sym same) stands

-- ---- what a call asks

all_occur : {Q R A : Type 0} (P : Q → Type 0) (call : Dialogue Q R A) → ((asked : Q) → Occurs asked call → P asked) → AllAsked P call
all_occur P (Say said) each = tt
all_occur P (Ask asked more) each = (each asked (inl refl), λ reply. all_occur P (more reply) (λ next occurs. each next (inr (reply, occurs))))
all_occur P (Grow rest) each = all_occur P rest each

-- ---- a step

module _ {D : Type 0} (seen : D → List ℕ) (failures : D → ℕ) where
  -- an event is a step of the store, and all that is under way was sent
  record Going (event : Event) (sent : Sent) (old new : Way D) : Type 0 where
    after : Sent
    goes : Goes seen failures unarmed (Comes event) (history sent old) (history after new)
    covers : Covers after new

  covers_there : (sent : Sent) (w : Way D) (there : Nodes D) → SameNodes w.nodes there → Covers sent w → Covers sent (with_nodes there w)
  covers_there sent w there same c =
      record { queue = c.queue; held = c.held; servers = c.servers ∙ sym same.servers; clients = c.clients ∙ sym same.clients; short = c.short }

  one_goes : (event : Event) (by : NodeId) (outcome : Upshot) (there : Nodes D) (said : Result (Unit {0}) Refusal) (old new : Way D) (sent after : Sent)
      → AtNode seen failures unarmed event.moment event.happening (history sent old) by outcome there
      → Tells seen failures unarmed event.moment by outcome sent said after → new.nodes ≡ there → Covers after new → Going event sent old new
  one_goes event by outcome there said old new sent after at tells is covers = record {
    after = after;
    goes = (said, record { by = by; outcome = outcome; at = subst (λ n. AtNode seen failures unarmed event.moment event.happening (history sent old) by outcome n) (sym is) at; tells = tells });
    covers = covers;
  }

  posted : (event : Event) (by : NodeId) (messages : List Message) (said : Option Refusal) (there : Nodes D) (old mid new : Way D) (sent : Sent)
      → AtNode seen failures unarmed event.moment event.happening (history sent old) by (Ok (messages, said)) there → Alike mid new
      → Posting event.moment by messages sent (with_nodes there old) mid → Going event sent old new
  posted event by messages said there old mid new sent at same p =
      one_goes event by (Ok (messages, said)) there (met_by said) old new sent p.after at (p.posts, refl) (same.nodes ∙ p.nodes) (alike_covers p.after mid new same p.covers)

  event_goes : (event : Event) (by : NodeId) (outcome : Upshot) (there : Nodes D) (old new : Way D) (sent : Sent)
      → AtNode seen failures unarmed event.moment event.happening (history sent old) by outcome there → CanPost sent by outcome → Covers sent old
      → IsOver outcome (with_nodes there old) new → Going event sent old new
  event_goes event by (Ok (messages, said)) there old new sent at can covers (mid, all, same) =
      let c = covers_there sent old there (at_node seen failures unarmed event.moment event.happening (history sent old) by (Ok (messages, said)) there at) covers in
      elim can [
        | inl has ↦ posted event by messages said there old mid new sent at same (sends event.moment by messages sent (with_nodes there old) mid has c all)
        | inr none ↦ posted event by messages said there old mid new sent at same (sends_none event.moment by messages sent (with_nodes there old) mid none c all)
      ]
  event_goes event by (Err refusal) there old new sent at can covers a =
      let c = covers_there sent old there (at_node seen failures unarmed event.moment event.happening (history sent old) by (Err refusal) there at) covers in
      one_goes event by (Err refusal) there (Err refusal) old new sent sent at (refl, refl) a.nodes (alike_covers sent (with_nodes there old) new a c)

  -- nothing goes out of what befalls a server
  quietly : (done : Result (Unit {0}) Refusal) (there : Nodes D) (old : Way D) → IsOver (silent done) (with_nodes there old) (with_nodes there old)
  quietly (Ok done) there old = (with_nodes there old, refl, as_it_is (with_nodes there old))
  quietly (Err refusal) there old = as_it_is (with_nodes there old)

  -- ---- ways that are met

  module _ (config : Config) (disks : D × D) where
    pub so_joined : (xs ys : List Step) (old mid new : History D) → RunsSo seen failures config disks xs old mid → RunsSo seen failures config disks ys mid new → RunsSo seen failures config disks (xs ++ ys) old new
    so_joined [] ys old mid new same second = subst (λ (h : History D). RunsSo seen failures config disks ys h new) same second
    so_joined (x ∷ xs) ys old mid new (first, goes, so, quiet, stands, rest) second = (first, goes, so, quiet, stands, so_joined xs ys first mid new rest second)

    abbrev Met : Way D → Type 0
    Met w = IsMetWay seen failures config disks w

    -- by one step more
    met_on : (step : Step) (old new : Way D) (after : Sent) (w : Met old) → Goes seen failures unarmed step (history w.sent old) (history after new) → IsOfScript config step → Covers after new
        → failures_at failures new.nodes.master ≡ failures_at failures old.nodes.master → IsNumber new.moment.0 → HasMaster new.nodes → Met new
    met_on step old new after w goes so covers quiet moment stands = record {
      sent = after;
      covers = covers;
      met = record {
        begun = w.met.begun;
        steps = w.met.steps ++ step ∷ [];
        begins = w.met.begins;
        runs = so_joined w.met.steps (step ∷ []) w.met.begun (history w.sent old) (history after new) w.met.runs (history after new, goes, so, quiet, stands, refl);
      };
      moment = moment;
    }

    event_on : (event : Event) (old new : Way D) (w : Met old) → Going event w.sent old new → event.moment ≡ old.moment → new.moment ≡ old.moment → IsAskedSo config event.happening
        → failures_at failures new.nodes.master ≡ failures_at failures old.nodes.master → HasMaster new.nodes → Met new
    event_on event old new w g at same so quiet stands =
        met_on (Comes event) old new g.after w g.goes (subst (λ (m : Moment). IsNumber m.0) (sym at) w.moment, so) g.covers quiet (subst (λ (m : Moment). IsNumber m.0) (sym same) w.moment) stands

    -- the same but for what isn't told of a store
    untold : (old : Way D) (w : Met old) (new : Way D) → new.nodes ≡ old.nodes → new.queue ≡ old.queue → new.held ≡ old.held → new.is_short ≡ old.is_short → IsNumber new.moment.0 → Met new
    untold old w new there queue held short moment = record {
      sent = w.sent;
      covers = record {
        queue = subst (λ (l : List Message). AllSent w.sent l) (sym queue) w.covers.queue;
        held = subst (λ (l : List Message). AllSent w.sent l) (sym held) w.covers.held;
        servers = w.covers.servers ∙ sym (ap (λ (n : Nodes D). length n.servers) there);
        clients = w.covers.clients ∙ sym (ap (λ (n : Nodes D). length n.clients) there);
        short = λ lost. short ∙ w.covers.short lost;
      };
      met = subst (λ (n : Nodes D). IsMet seen failures config disks (record { nodes = n; sent = w.sent })) (sym there) w.met;
      moment = moment;
    }

    record Before (message : Message) (before : Way D) : Type 0 where
      met : Met before
      was : IsSent message met.sent

    taken_met : (message : Message) (old before : Way D) → Met old → IsTaken message old before → Before message before
    taken_met message old before w (inl (rest, is, same)) =
        let all : AllSent w.sent (message ∷ rest) = subst (λ (l : List Message). AllSent w.sent l) is w.covers.queue in
        subst (λ b. Before message b) (sym same) (record {
          met = record {
            sent = w.sent;
            covers = record { queue = all.1; held = w.covers.held; servers = w.covers.servers; clients = w.covers.clients; short = w.covers.short };
            met = w.met;
            moment = w.moment;
          };
          was = all.0;
        })
    taken_met message old before w (inr (number, is, same)) =
        subst (λ b. Before message b) (sym same) (record { met = w; was = held_numbered (number == 0) old.held (number - 1) message w.sent w.covers.held is })

    delivers_on : (message : Message) (before : Way D) (said : Result (Unit {0}) Refusal) (new : Way D) → Before message before → IsDelivered seen failures message before said new → IsCalm failures before new → HasMaster new.nodes → Met new
    delivers_on message before said new b d calm stands =
        let (id, is) = b.was in
        let sent = b.met.sent in
        event_on (record { moment = before.moment; happening = happenings.Deliver id }) before new b.met
        (event_goes (record { moment = before.moment; happening = happenings.Deliver id }) message.to (told d.turn) d.nodes before new sent
        (subst
        (λ (o : Option Message). MatchOption o ((told d.turn ≡ Err refusals.Range) × (d.nodes ≡ before.nodes) × (message.to ≡ id.sender)) (λ m. ComesTo seen failures unarmed id.sender m before.moment before.nodes message.to (told d.turn) d.nodes))
        (sym is) (inl (refl, d.turn, d.delivers, refl)))
        (delivered_posts seen failures message before.moment sent before.nodes d.turn d.nodes b.met.covers.servers d.delivers) b.met.covers (ended d.turn (with_nodes d.nodes before) said new d.ends))
        refl (end_stays d.turn (with_nodes d.nodes before) said new d.ends).moment tt calm.sound stands

    master_ticks_on : (old new : Way D) → Met old → MasterTicked seen failures old new → IsCalm failures old new → HasMaster new.nodes → Met new
    master_ticks_on old new w t calm stands =
        event_on (record { moment = old.moment; happening = happenings.Tick keepers.Master }) old new w
        (event_goes (record { moment = old.moment; happening = happenings.Tick keepers.Master }) nodes.Master (told t.turn) (with_master t.place old.nodes) old new w.sent
        (refl, (t.place, t.turn, t.ticks, refl, refl)) (master_posts w.sent t.turn) w.covers (ended t.turn (with_nodes (with_master t.place old.nodes) old) t.said new t.ends))
        refl (end_stays t.turn (with_nodes (with_master t.place old.nodes) old) t.said new t.ends).moment tt calm.sound stands

    server_ticks_on : (id : ℕ) (old new : Way D) → Met old → ServerTicked id old new → IsCalm failures old new → HasMaster new.nodes → Met new
    server_ticks_on id old new w t calm stands =
        event_on (record { moment = old.moment; happening = happenings.Tick (keepers.Server id) }) old new w
        (event_goes (record { moment = old.moment; happening = happenings.Tick (keepers.Server id) }) (nodes.Server id) (told t.turn) t.nodes old new w.sent
        (refl, (t.turn, t.ticks, refl)) (server_posts w.sent id (λ s. ServerDoes (servers.tick s old.moment) s) old.nodes t.turn t.nodes w.covers.servers t.ticks) w.covers
        (ended t.turn (with_nodes t.nodes old) t.said new t.ends))
        refl (end_stays t.turn (with_nodes t.nodes old) t.said new t.ends).moment tt calm.sound stands

    restarts_on : (place : MasterPlace D) (turn : Result Told Refusal) (old : Way D) (said : Result (Unit {0}) Refusal) (new : Way D) → Met old
        → Reopens seen failures old.nodes.config old.nodes.master turn place → Ends turn (with_nodes (with_master place old.nodes) old) said new → IsCalm failures old new → HasMaster new.nodes → Met new
    restarts_on place turn old said new w opens ends calm stands =
        event_on (record { moment = old.moment; happening = happenings.Restart keepers.Master }) old new w
        (event_goes (record { moment = old.moment; happening = happenings.Restart keepers.Master }) nodes.Master (told turn) (with_master place old.nodes) old new w.sent
        (refl, (place, turn, opens, refl, refl)) (master_posts w.sent turn) w.covers (ended turn (with_nodes (with_master place old.nodes) old) said new ends))
        refl (end_stays turn (with_nodes (with_master place old.nodes) old) said new ends).moment tt calm.sound stands

    asks_on : (req : ReqId) (request : Asked) (out : Result (Vec Message Global) Refusal) (there : Nodes D) (old new : Way D) → Met old → req.client ≡ record { 0 = 1 } → req.number ≤ last_number
        → IsAskedByLine config.chunk request → AtClient req.client (Err refusals.Range) (ClientAsks req.number request) old.nodes out there → GoesOut out (with_nodes there old) new → IsCalm failures old new → HasMaster new.nodes → Met new
    asks_on req request (Ok out) there old new w mine low may at all calm stands =
        event_on (record { moment = old.moment; happening = happenings.Ask req request }) old new w
        (event_goes (record { moment = old.moment; happening = happenings.Ask req request }) (nodes.Client req.client) (Ok (out.items, None)) there old new w.sent
        (refl, (Ok out, at, refl)) (inl (asking_client w.sent req.client (ClientAsks req.number request) old.nodes there out w.covers.clients at)) w.covers (new, all, as_it_is new))
        refl (all_stays out.items (with_nodes there old) new all).moment (mine, low, may) calm.sound stands
    asks_on req request (Err refusal) there old new w mine low may at gone calm stands =
        event_on (record { moment = old.moment; happening = happenings.Ask req request }) old new w
        (event_goes (record { moment = old.moment; happening = happenings.Ask req request }) (nodes.Client req.client) (Err refusal) there old new w.sent
        (refl, (Err refusal, at, refl)) tt w.covers (alike_to (with_nodes there old) (shortened_by refusal (with_nodes there old)) new (shortened_alike refusal (with_nodes there old)) gone))
        refl (same_stays (with_nodes there old) (shortened_by refusal (with_nodes there old)) new (shortened_stays refusal (with_nodes there old)) gone).moment (mine, low, may) calm.sound stands

    takes_on : (client : ClientId) (old : Way D) (reply : Reply) (new : Way D) → Met old → Heard client old reply new → HasMaster new.nodes → Met new
    takes_on client old reply new w (there, found, takes, is, same) stands =
        let kept = at_client client None (λ n reply after. (reply ≡ n.reply) × (after ≡ given_up n)) old.nodes found there takes in
        let left = client_leaves seen failures client None (λ n reply after. (reply ≡ n.reply) × (after ≡ given_up n)) old.nodes found there takes in
        subst (λ x. Met x) (sym same)
        (met_on (Takes client) old (with_nodes there old) w.sent w (found, takes, refl) tt (covers_there w.sent old there kept w.covers) (ap (failures_at failures) left.0) w.moment (subst (λ (x : Way D). HasMaster x.nodes) same stands))

    abbrev IsOutcome : Server → Upshot → Type 0
    IsOutcome s outcome = ◌≡◌ {A = Upshot} (Ok (servers.beat s ∷ [], None)) outcome

    beats_on : (id : ℕ) (s : Server) (old new : Way D) → Met old → slice_get old.nodes.servers id ≡ Some s → Sends (servers.beat s) (record old { drops = 0 }) new → IsCalm failures old new → HasMaster new.nodes → Met new
    beats_on id s old new w is sent_one calm stands =
        let none = record old { drops = 0 } in
        let here : Met none = untold old w none refl refl refl refl w.moment in
        event_on (record { moment = old.moment; happening = happenings.Beat id }) none new here
        (event_goes (record { moment = old.moment; happening = happenings.Beat id }) (nodes.Server id) (Ok (servers.beat s ∷ [], None)) old.nodes none new here.sent (
          refl,
          (
            refl,
            subst
                (λ (o : Option Server). MatchOption o (IsOutcome s (Err refusals.Range)) (λ x. (IsOutcome s (Ok (servers.beat x ∷ [], None))) ⊎ (IsOutcome s (Err refusals.Memory))))
                (sym is) (inl refl),
          ),
        )
        (inl (known_server here.sent id old.nodes s here.covers.servers is)) here.covers (new, (new, sent_one, refl), as_it_is new))
        refl (send_stays (servers.beat s) none new sent_one).moment tt calm.sound stands

    befalls_on : (event : Event) (id : ℕ) (does : Server → Result (Unit {0}) Refusal → Server → Type 0) (old : Way D) (result : Result (Unit {0}) Refusal) (there : Nodes D) (w : Met old)
        → AtServer id does old.nodes result there → AtNode seen failures unarmed event.moment event.happening (history w.sent old) (nodes.Server id) (silent result) there
        → event.moment ≡ old.moment → IsAskedSo config event.happening → HasMaster there → Met (with_nodes there old)
    befalls_on event id does old result there w did at same so stands =
        event_on event old (with_nodes there old) w
        (event_goes event (nodes.Server id) (silent result) there old (with_nodes there old) w.sent at (quiet_posts w.sent (nodes.Server id) result) w.covers (quietly result there old))
        same refl so (ap (failures_at failures) (server_leaves seen failures id does old.nodes result there did)) stands

    -- ---- all of it

    asks_so : (line : List ℕ) (request : Request) (call : Call Answer) → line_request line ≡ Some request → asked_by config.chunk request ≡ Some call → AllAsked (IsAskedByLine config.chunk) call
    asks_so line request call reads asks =
        all_occur (IsAskedByLine config.chunk) call (λ asked occurs. record { line = line; request = request; call = call; reads = reads; asks = asks; occurs = occurs })

    pub met_endures : AllSteady seen failures config disks → Endures seen failures (record { 0 = 1 }) config.chunk (IsAskedByLine config.chunk) Met
    met_endures steady = record {
      good = λ way m stands w. let is = steady (history w.sent way) m w.met stands.place in record { firm = is.firm; steady = is.steady; moment = w.moment };
      hears = λ message old before m stands w taken to.
          let b = taken_met message old before w taken in
          let there : Stands before m = taken_stands message old before m taken stands in
          (steady (history b.met.sent before) m b.met.met there.place).hears message b.was to;
      delivers = λ message old before said new w taken d calm stands. delivers_on message before said new (taken_met message old before w taken) d calm stands;
      master_ticks = master_ticks_on;
      server_ticks = server_ticks_on;
      asks = asks_on;
      takes = takes_on;
      beats = beats_on;
      server_restarts = λ id old said there w at stands.
          befalls_on (record { moment = old.moment; happening = happenings.Restart (keepers.Server id) }) id (λ s done after. (done ≡ Ok tt) × (after ≡ servers.restart s)) old said there w at (refl, (said, at, refl)) refl tt stands;
      loses = λ id handle old said there w at stands.
          befalls_on (record { moment = old.moment; happening = happenings.Lose id handle }) id (λ s done after. Does (servers.lose handle s) done s after) old said there w at (refl, (said, at, refl)) refl tt stands;
      damages = λ id handle block old said there w at stands.
          befalls_on (record { moment = old.moment; happening = happenings.Damage id handle block }) id (λ s done after. Does (servers.damage handle block s) done s after) old said there w at (refl, (said, at, refl)) refl tt stands;
      holds = λ kind old w. untold old w (record old { kind = kind }) refl refl refl refl w.moment;
      calls = asks_so;
      comes_at = λ line moment old w reads.
          untold old w (record old { moment = record { 0 = moment } }) refl refl refl refl (line_spoken line (At moment) reads);
    }

    pub met_restarts : AllWritten seen failures config disks → EnduresRestarts seen failures Met
    met_restarts written = record {
      written = λ way m stands w. written (history w.sent way) m w.met stands.place;
      restarts = restarts_on;
    }
