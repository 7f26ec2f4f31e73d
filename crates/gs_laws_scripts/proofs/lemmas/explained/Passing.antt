-- Lines about servers and messages, and look-ups, are steps at which nothing is asked of the master but look-ups.
use Rattle.std.proofs.Common.{[], inl, inr, refl, subst, sym, ap, ◌++◌, ◌-◌, ◌==◌, ◌∷◌, ◌∙◌, ◌≡◌, ◌⊎◌, Bool, Err, List, MatchOption, None, Ok, Option, Result, Some, false, slice_get, true, ℕ}
use Rattle.std.specs.List.{AllByRecursion}
use Rattle.std.proofs.lemmas.Bool.{false≢true}
use Rattle.gs_base.specs.Calls.{Does}
use Rattle.gs_base.specs.Told.{IsNumber}
use Rattle.gs_base.specs.declared.numbers.ClientId.{ClientId}
use Rattle.gs_base.specs.declared.numbers.Moment.{Moment}
use Rattle.gs_base.specs.declared.refusal.Refusal.{Refusal}
use Rattle.gs_base.specs.declared.refusal.Refusal.TheVariants as refusals
use Rattle.gs_msg.specs.declared.event.Happening.{Happening}
use Rattle.gs_msg.specs.declared.event.Happening.TheVariants as happenings
use Rattle.gs_msg.specs.declared.message.Message.{Message}
use Rattle.gs_msg.specs.declared.node.NodeId.{NodeId}
use Rattle.gs_msg.specs.declared.node.NodeId.TheVariants as nodes
use Rattle.gs_msg.specs.declared.node.StoreNode.TheVariants as keepers
use Rattle.gs_nodes.specs.Happenings.{AtServer}
use Rattle.gs_nodes.specs.Nodes.{Nodes}
use Rattle.gs_server.specs.Servers as servers
use Rattle.gs_server.specs.Servers.{Server}
use Rattle.gs_shell_calls.specs.declared.answer.Answer.{Answer}
use Rattle.gs_shell_desk.specs.Lines.{AtOne, Beats, BeatsOf, Damages, Either, HandsOver, Loses, NodesDo, OfHandle, Restarts, held_at, is_server}
use Rattle.gs_shell_desk.specs.Ways.{DeliversWhole, IsDelivered, Sends, TicksWhole, Way, shortened, with_nodes}
use Rattle.gs_shell_grammar.specs.Grammar.{Request}
use Rattle.gs_shell_grammar.specs.Grammar as lines
use Rattle.gs_shell_grammar.specs.declared.command.Restarted.TheVariants as restarted
use Rattle.gs_world.specs.Histories.{AtNode, ComesTo, Upshot, silent, told}
use Rattle.gs_world.specs.Runs.{Comes, RunsTo, Step}
use Rattle.gs_world.specs.Sent.{IsSent, Sent}
use Rattle.gs_laws_chunks.proofs.lemmas.desks.Ending.{Alike, CanPost, IsOver, alike_covers, alike_to, as_it_is, delivered_posts, ended, known_server}
use Rattle.gs_laws_chunks.proofs.lemmas.desks.Lines.{held_numbered, quiet_posts}
use Rattle.gs_laws_chunks.proofs.lemmas.desks.Ways.{joined}
use Rattle.gs_laws_chunks.proofs.lemmas.desks.Words.{IsSpoken}
use Rattle.gs_laws_chunks.specs.answers.Resting.{IsLooking}
use Rattle.gs_laws_chunks.specs.desks.Reached.{Covers, history}
use Rattle.gs_laws_looks.proofs.lemmas.carrying.Carried.{Calm, OneEvent, delivers_whole, one_event, waited_if}
use Rattle.gs_laws_scripts.proofs.lemmas.lists.Lines.{all_join}
use Rattle.gs_laws_scripts.specs.explained.Standing.{is_still_line}
use Rattle.gs_laws_world.specs.steady.Saying.{IsAskedWithin, IsStepWithin}
use Rattle.gs_laws_world.specs.steady.Unarmed.{unarmed}

-- the moment behind a line
abbrev pub moment_behind : Request → Moment → Moment
moment_behind (lines.At moment) before = record { 0 = moment }
moment_behind request before = before

module _ {D : Type 0} (seen : D → List ℕ) (failures : D → ℕ) (client : ClientId) where
  -- such steps lead from one way to another, at this moment
  pub record LooksOn (now : Moment) (old new : Way D) (sent : Sent) : Type 0 where
    pub steps : List Step
    pub after : Sent
    pub runs : RunsTo seen failures unarmed steps (history sent old) (history after new)
    pub covers : Covers after new
    pub within : AllByRecursion IsStepWithin steps
    pub looking : AllByRecursion (IsLooking client) steps
    pub moment : new.moment ≡ now

  abbrev pub Leads : Way D → Way D → Type 0
  Leads old new = (sent : Sent) → Covers sent old → IsNumber old.moment.0 → LooksOn old.moment old new sent

  pub chain : (old mid new : Way D) → Leads old mid → Leads mid new → Leads old new
  chain old mid new first second sent covers small =
      let a = first sent covers small in
      let b = second a.after a.covers (subst (λ (m : Moment). IsNumber m.0) (sym a.moment) small) in
      record {
        steps = a.steps ++ b.steps;
        after = b.after;
        runs = joined seen failures true a.steps b.steps (history sent old) (history a.after mid) (history b.after new) a.runs b.runs;
        covers = b.covers;
        within = all_join IsStepWithin a.steps b.steps a.within b.within;
        looking = all_join (IsLooking client) a.steps b.steps a.looking b.looking;
        moment = b.moment ∙ a.moment;
      }

  pub nothing : (old new : Way D) → new ≡ old → Leads old new
  nothing old new same sent covers small = record {
    steps = [];
    after = sent;
    runs = ap (history sent) same;
    covers = subst (λ w. Covers sent w) (sym same) covers;
    within = tt;
    looking = tt;
    moment = ap (λ (w : Way D). w.moment) same;
  }

  alike : (old new : Way D) → Alike old new → Leads old new
  alike old new same sent covers small = record {
    steps = [];
    after = sent;
    runs = ap (λ (n : Nodes D). record { nodes = n; sent = sent }) same.nodes;
    covers = alike_covers sent old new same covers;
    within = tt;
    looking = tt;
    moment = same.moment;
  }

  -- an event at a node
  event_on : (happening : Happening) (by : NodeId) (outcome : Upshot) (there : Nodes D) (old new : Way D) (sent : Sent) → IsLooking client (Comes (record { moment = old.moment; happening = happening })) → IsAskedWithin happening
      → AtNode seen failures unarmed old.moment happening (history sent old) by outcome there → CanPost sent by outcome → Covers sent old → IsNumber old.moment.0 → IsOver outcome (with_nodes there old) new → LooksOn old.moment old new sent
  event_on happening by outcome there old new sent looking within at can covers small over =
      let one : OneEvent seen failures happening outcome there old new sent = one_event seen failures happening by outcome there old new sent at can covers over in
      record {
        steps = Comes (record { moment = old.moment; happening = happening }) ∷ [];
        after = one.after;
        runs = (history one.after new, (one.said, one.happens), refl);
        covers = one.covers;
        within = ((small, within), tt);
        looking = (looking, tt);
        moment = one.moment;
      }

  -- ---- deliveries

  calm_on : (old new : Way D) (sent : Sent) → Calm seen failures client old new sent → LooksOn old.moment old new sent
  calm_on old new sent c = record { steps = c.steps; after = c.after; runs = c.runs; covers = c.covers; within = c.within; looking = c.looking; moment = c.moment }

  pub delivers_on : (old new : Way D) → DeliversWhole seen failures old new → Leads old new
  delivers_on old new d sent covers small = calm_on old new sent (delivers_whole seen failures client old new d sent covers small)

  ticks_on : (old new : Way D) → TicksWhole seen failures old new → Leads old new
  ticks_on old new ticks sent covers small = calm_on old new sent (waited_if seen failures client true old new ticks sent covers small)

  delivers_one : (message : Message) (old : Way D) (said : Result (Unit {0}) Refusal) (new : Way D) (sent : Sent) → IsDelivered seen failures message old said new → IsSent message sent → Covers sent old → IsNumber old.moment.0 → LooksOn old.moment old new sent
  delivers_one message old said new sent d (id, is) covers small =
      event_on (happenings.Deliver id) message.to (told d.turn) d.nodes old new sent (refl, tt) tt
      (subst (λ (o : Option Message). MatchOption o ((told d.turn ≡ Err refusals.Range) × (d.nodes ≡ old.nodes) × (message.to ≡ id.sender)) (λ m. ComesTo seen failures unarmed id.sender m old.moment old.nodes message.to (told d.turn) d.nodes)) (sym is)
      (inl (refl, d.turn, d.delivers, refl))) (delivered_posts seen failures message old.moment sent old.nodes d.turn d.nodes covers.servers d.delivers) covers small (ended d.turn (with_nodes d.nodes old) said new d.ends)

  -- ---- what is done at one server

  for_server : {A : Type 0} (is : Bool) (old new : Way D) (result : Result A Refusal) (there : Type 0) → (there → Leads old new) → Either is there ((result ≡ Err refusals.Range) × (new ≡ old)) → Leads old new
  for_server true old new result there leads did = leads did
  for_server false old new result there leads (refused, same) = nothing old new same

  of_handle : (is : Bool) (old new : Way D) (result : Result (Unit {0}) Refusal) (there : Type 0) → (there → Leads old new) → Either is ((result ≡ Err refusals.NoReplica) × (new ≡ old)) there → Leads old new
  of_handle true old new result there leads (refused, same) = nothing old new same
  of_handle false old new result there leads did = leads did

  quietly : (done : Result (Unit {0}) Refusal) (there : Nodes D) (old new : Way D) → new ≡ with_nodes there old → IsOver (silent done) (with_nodes there old) new
  quietly (Ok done) there old new same = (with_nodes there old, refl, alike_to (with_nodes there old) (with_nodes there old) new (as_it_is (with_nodes there old)) same)
  quietly (Err refusal) there old new same = alike_to (with_nodes there old) (with_nodes there old) new (as_it_is (with_nodes there old)) same

  befalls : (happening : Happening) (id : ℕ) (does : Server → Result (Unit {0}) Refusal → Server → Type 0) (old : Way D) (result : Result (Unit {0}) Refusal) (new : Way D) → ((moment : Moment) → IsLooking client (Comes (record { moment = moment; happening = happening })))
      → ((sent : Sent) (there : Nodes D) → AtServer id does old.nodes result there → AtNode seen failures unarmed old.moment happening (history sent old) (nodes.Server id) (silent result) there) → IsAskedWithin happening → AtOne id does old result new → Leads old new
  befalls happening id does old result new looking at asked (there, done, same) sent covers small =
      event_on happening (nodes.Server id) (silent result) there old new sent (looking old.moment) asked (at sent there done) (quiet_posts sent (nodes.Server id) result) covers small (quietly result there old new same)

  loses : (id handle : ℕ) (old : Way D) (result : Result (Unit {0}) Refusal) (new : Way D) → Loses id handle old result new → Leads old new
  loses id handle old result new l =
      for_server (is_server id old) old new result (OfHandle handle (AtOne id (λ s result after. Does (servers.lose handle s) result s after) old) old result new)
      (λ did. of_handle (handle == 0) old new result (AtOne id (λ s result after. Does (servers.lose handle s) result s after) old result new)
      (λ did. befalls (happenings.Lose id handle) id (λ s result after. Does (servers.lose handle s) result s after) old result new (λ moment. (refl, tt)) (λ sent there at. (refl, (result, at, refl))) tt did) did) l

  damages : (id handle block : ℕ) (old : Way D) (result : Result (Unit {0}) Refusal) (new : Way D) → Damages id handle block old result new → Leads old new
  damages id handle block old result new l =
      for_server (is_server id old) old new result (OfHandle handle (AtOne id (λ s result after. Does (servers.damage handle block s) result s after) old) old result new)
      (λ did. of_handle (handle == 0) old new result (AtOne id (λ s result after. Does (servers.damage handle block s) result s after) old result new)
      (λ did. befalls (happenings.Damage id handle block) id (λ s result after. Does (servers.damage handle block s) result s after) old result new (λ moment. (refl, tt)) (λ sent there at. (refl, (result, at, refl))) tt did) did) l

  restarts : (id : ℕ) (old : Way D) (result : Result (Unit {0}) Refusal) (new : Way D) → Restarts seen failures (restarted.Server id) old result new → Leads old new
  restarts id old result new r =
      for_server (is_server id old) old new result (AtOne id (λ s result after. (result ≡ Ok tt) × (after ≡ servers.restart s)) old result new)
      (λ did. befalls (happenings.Restart (keepers.Server id)) id (λ s result after. (result ≡ Ok tt) × (after ≡ servers.restart s)) old result new (λ moment. (refl, tt)) (λ sent there at. (refl, (result, at, refl))) tt did) r

  -- ---- what is handed over, and what a server reports

  hands_over : (number : ℕ) (found : Option Message) (old : Way D) (result : Result (Unit {0}) Refusal) (new : Way D) → held_at number old.held ≡ found
      → MatchOption found ((result ≡ Err refusals.Range) × (new ≡ old)) (λ message. HandsOver seen failures message old result new) → Leads old new
  hands_over number None old result new is (refused, same) = nothing old new same
  hands_over number (Some message) old result new is over = elim over [
    | inl (refused, same) ↦ alike old new (alike_to old (shortened old) new (record { nodes = refl; moment = refl; queue = refl; held = refl; short = λ short. refl }) same)
    | inr (mid, d, rest) ↦
        chain old mid new (λ sent covers small. delivers_one message old result mid sent d (held_numbered (number == 0) old.held (number - 1) message sent covers.held is) covers small) (delivers_on mid new rest)
  ]

  abbrev IsOutcome : Server → Upshot → Type 0
  IsOutcome s outcome = Ok (servers.beat s ∷ [], None) ≡ outcome

  reports : (id : ℕ) (s : Server) (old : Way D) (mid : Way D) → slice_get old.nodes.servers id ≡ Some s → Sends (servers.beat s) (record old { drops = 0 }) mid → Leads old mid
  reports id s old mid is sent_one =
      chain old (record old { drops = 0 }) mid (alike old (record old { drops = 0 }) (record { nodes = refl; moment = refl; queue = refl; held = refl; short = λ short. short }))
      (λ sent covers small.
      event_on (happenings.Beat id) (nodes.Server id) (Ok (servers.beat s ∷ [], None)) old.nodes (record old { drops = 0 }) mid sent (refl, tt) tt (
        refl,
        (
          refl,
          subst (λ (o : Option Server). MatchOption o (IsOutcome s (Err refusals.Range)) (λ x. (IsOutcome s (Ok (servers.beat x ∷ [], None))) ⊎ (IsOutcome s (Err refusals.Memory)))) (sym is) (inl refl),
        ),
      )
      (inl (known_server sent id old.nodes s covers.servers is)) covers small (mid, (mid, sent_one, refl), as_it_is mid))

  beats_of : (id : ℕ) (found : Option Server) (old : Way D) (result : Result ℕ Refusal) (new : Way D) → slice_get old.nodes.servers id ≡ found
      → MatchOption found ((result ≡ Err refusals.Range) × (new ≡ old)) (λ s. Beats seen failures (servers.beat s) old result new) → Leads old new
  beats_of id None old result new is (refused, same) = nothing old new same
  beats_of id (Some s) old result new is b = elim b [
    | inl (refused, same) ↦ alike old new (alike_to old (shortened old) new (record { nodes = refl; moment = refl; queue = refl; held = refl; short = λ short. refl }) same)
    | inr (mid, sent, rest, told) ↦ chain old mid new (reports id s old mid is sent) (delivers_on mid new rest)
  ]

  -- ---- lines

  abbrev pub LeadsBy : Request → Way D → Way D → Type 0
  LeadsBy request old new = (sent : Sent) → Covers sent old → IsNumber old.moment.0 → LooksOn (moment_behind request old.moment) old new sent

  sets_moment : (moment : ℕ) (old new : Way D) → new ≡ record old { moment = record { 0 = moment } } → LeadsBy (lines.At moment) old new
  sets_moment moment old new same sent covers before = record {
    steps = [];
    after = sent;
    runs = ap (λ (w : Way D). history sent w) same;
    covers = subst (λ w. Covers sent w) (sym same) (record { queue = covers.queue; held = covers.held; servers = covers.servers; clients = covers.clients; short = covers.short });
    within = tt;
    looking = tt;
    moment = ap (λ (w : Way D). w.moment) same;
  }

  pub nodes_do : (request : Request) (old : Way D) (result : Result Answer Refusal) (new : Way D) → is_still_line (Some request) ≡ true → IsSpoken request → NodesDo seen failures request old result new → LeadsBy request old new
  nodes_do (lines.Beat id) old result new is spoken (drops, b, so) =
      for_server (is_server id old) old new drops (BeatsOf seen failures id old drops new) (λ did. beats_of id (slice_get old.nodes.servers id) old drops new refl did) b
  nodes_do lines.Tick old result new is spoken (so, ticks) = ticks_on old new ticks
  nodes_do (lines.At moment) old result new is spoken (so, same) = sets_moment moment old new same
  nodes_do (lines.Hold kind) old result new is spoken (so, same) = alike old new (alike_to old (record old { kind = kind }) new (record { nodes = refl; moment = refl; queue = refl; held = refl; short = λ short. short }) same)
  nodes_do (lines.Restart (restarted.Server id)) old result new is spoken (said, r, so) = restarts id old said new r
  nodes_do (lines.Restart restarted.Master) old result new is spoken did = absurd (false≢true is)
  nodes_do (lines.Lose id handle) old result new is spoken (said, l, so) = loses id handle old said new l
  nodes_do (lines.Damage id handle block) old result new is spoken (said, d, so) = damages id handle block old said new d
  nodes_do (lines.Deliver number) old result new is spoken (said, h, so) = hands_over number (held_at number old.held) old said new refl h
  nodes_do request old result new is spoken never = absurd never
