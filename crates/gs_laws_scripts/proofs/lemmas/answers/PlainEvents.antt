-- What an event at a node comes to where memory isn't wanting and no disk fails.
use Rattle.std.proofs.Common.{◌≡◌, ◌∙◌, ◌-◌, ◌<◌, ◌≤◌, ℕ, Bool, true, false, List, [], Option, Some, None, MatchOption, Result, Ok, Err, refl, sym, ap, subst, inl, inr, arith, slice_get, slice_set}
use Rattle.gs_base.specs.Told.{IsNumber}
use Rattle.gs_base.specs.declared.config.Config.{Config}
use Rattle.gs_base.specs.declared.numbers.ClientId.{ClientId}
use Rattle.gs_base.specs.declared.numbers.Moment.{Moment}
use Rattle.gs_base.specs.declared.numbers.ReqId.{ReqId}
use Rattle.gs_base.specs.declared.refusal.Refusal.{Refusal}
use Rattle.gs_base.specs.declared.refusal.Refusal.TheVariants as refusals
use Rattle.gs_base.specs.Calls.{Does}
use Rattle.gs_client.specs.Nodes.{Node, hears}
use Rattle.gs_shell_desk.specs.Ways.{Ends, SendsAll, Way, with_nodes}
use Rattle.gs_journal.specs.Journal.{failures_of_both}
use Rattle.gs_laws_master.specs.Standing.{IsNamedBody}
use Rattle.gs_laws_master.specs.Written.{IsHeardBody}
use Rattle.gs_master.specs.Masters.{MasterAnswers, MasterOf}
use Rattle.gs_master.specs.Ticking.{AnswersAs, AnswersTick, lacking, pressed_all, writes_one}
use Rattle.gs_master.specs.declared.turn.Turn.{Turn as Told}
use Rattle.gs_msg.specs.declared.body.Body.{Body}
use Rattle.gs_msg.specs.declared.message.Message.{Message}
use Rattle.gs_msg.specs.declared.node.NodeId.{NodeId}
use Rattle.gs_msg.specs.declared.node.NodeId.TheVariants as ids
use Rattle.gs_laws_world.specs.lasting.Lasting.{failures_at}
use Rattle.gs_server.specs.Servers.{Server, Step}
use Rattle.gs_server.specs.Servers as servers
use Rattle.gs_master_spec.specs.Handling.{handle, tick}
use Rattle.gs_master_spec.specs.Outcomes.{IsDone, caller_of}
use Rattle.gs_master_spec.specs.State.{Turn}
use Rattle.gs_nodes.specs.Happenings.{AtClient, AtServer, ClientHears, Hears, MasterHears, MasterTicks, Says, ServerDoes, client_in, met_by}
use Rattle.gs_nodes.specs.Nodes.{Nodes, with_clients, with_master, with_servers}
use Rattle.gs_nodes.specs.declared.place.MasterPlace.{MasterPlace}
use Rattle.gs_nodes.specs.declared.place.MasterPlace.TheVariants.{Standing, Closed, Away}
use Rattle.gs_laws_scripts.specs.answers.Meeting.{IsPlain, Stands, plain_of}
use Rattle.gs_laws_scripts.proofs.lemmas.answers.PlainEnduring.{IsGood}
use Rattle.gs_laws_scripts.specs.answers.Plain.{Plain}
use Rattle.gs_laws_scripts.specs.answers.Plain as plain
use Rattle.gs_laws_scripts.proofs.lemmas.answers.PlainSends.{SaysEnough, all_plain, all_stays, end_sends, end_stays, wanting}
use Rattle.gs_laws_world.proofs.lemmas.steady.Refusing.{message_refused_for_memory, tick_refused_for_memory}

-- what came of an event, and the store without its disks, are these
pub record Comes {D R : Type 0} (new : Way D) (r : R) (q : R × Plain) : Type 0 where
  pub result : r ≡ q.0
  pub plain : IsPlain new q.1

-- ---- failures

no_less : (a b : ℕ) → b ≡ a → a ≤ b
no_less a b same = omega arith

less : (a b : ℕ) → a < b → a ≤ b
less a b more = omega arith

never : (a b : ℕ) → a < b → b ≡ a → ⊥
never a b more same = omega arith

client_does : (r : Result Node Refusal) (said : Option Refusal) (n after : Node) → Does r (met_by said) n after → (met_by said ≡ plain.met r) × (after ≡ plain.left r n)
client_does (Ok a) None n after is = (refl, is)
client_does (Err e) (Some f) n after (same, still) = (ap (λ (x : Refusal). Err x) same, still)
client_does (Ok a) (Some f) n after none = absurd none
client_does (Err e) None n after none = absurd none

module _ {D : Type 0} (seen : D → List ℕ) (failures : D → ℕ) where
  answers_rise : (caller : Option ReqId) (t : Turn) (old : MasterOf D) (turn : Result Told Refusal) (new : MasterOf D) → MasterAnswers seen failures caller t old turn new
      → failures_of_both failures old.journal ≤ failures_of_both failures new.journal
  answers_rise caller t old (Ok told) new (inl done) = no_less (failures_of_both failures old.journal) (failures_of_both failures new.journal) done.quiet
  answers_rise caller t old (Ok told) new (inr (place, cut)) = less (failures_of_both failures old.journal) (failures_of_both failures new.journal) cut.cause
  answers_rise caller t old (Err refusal) new (why, still) =
      no_less (failures_of_both failures old.journal) (failures_of_both failures new.journal) (ap (λ (m : MasterOf D). failures_of_both failures m.journal) still)

  whole_rises : (b : Bool) (t steps : Turn) (old : MasterOf D) (told : Told) (new : MasterOf D) → AnswersAs seen failures b t steps old told new
      → failures_of_both failures old.journal ≤ failures_of_both failures new.journal
  whole_rises true t steps old told new (inl done) = no_less (failures_of_both failures old.journal) (failures_of_both failures new.journal) done.quiet
  whole_rises true t steps old told new (inr (place, cut)) = less (failures_of_both failures old.journal) (failures_of_both failures new.journal) cut.cause
  whole_rises false t steps old told new (inl done) = no_less (failures_of_both failures old.journal) (failures_of_both failures new.journal) done.quiet
  whole_rises false t steps old told new (inr (place, cut)) = less (failures_of_both failures old.journal) (failures_of_both failures new.journal) cut.cause

  tick_rises : (moment : Moment) (old : MasterOf D) (turn : Result Told Refusal) (new : MasterOf D) → AnswersTick seen failures moment old turn new
      → failures_of_both failures old.journal ≤ failures_of_both failures new.journal
  tick_rises moment old (Ok told) new (inl whole) =
      let steps = pressed_all old.state moment in whole_rises (writes_one old.state steps) (tick old.state moment) steps old told new whole
  tick_rises moment old (Ok told) new (inr (sound, is_due, none, done)) = answers_rise None (lacking (pressed_all old.state moment)) old (Ok told) new done
  tick_rises moment old (Err refusal) new (why, still) =
      no_less (failures_of_both failures old.journal) (failures_of_both failures new.journal) (ap (λ (m : MasterOf D). failures_of_both failures m.journal) still)

  at_least : (old new : MasterPlace D) (n : ℕ) → new ≡ old → n ≤ failures_at failures old → n ≤ failures_at failures new
  at_least old new n same h = subst (λ place. n ≤ failures_at failures place) (sym same) h

  itself : (n : ℕ) → n ≤ n
  itself n = omega arith

  still : (old new : MasterPlace D) → new ≡ old → failures_at failures old ≤ failures_at failures new
  still old new same = at_least old new (failures_at failures old) same (itself (failures_at failures old))

  pub hears_rise : (message : Message) (moment : Moment) (old : MasterPlace D) (turn : Result Told Refusal) (new : MasterPlace D) → MasterHears seen failures message moment old turn new
      → failures_at failures old ≤ failures_at failures new
  hears_rise message moment (Standing m) turn new (after, is, answers) =
      at_least (Standing after) new (failures_of_both failures m.journal) is (answers_rise (caller_of message.body) (handle m.config m.state message moment) m turn after answers)
  hears_rise message moment (Closed first second) (Ok turn) new meets = still (Closed first second) new meets.0
  hears_rise message moment (Closed first second) (Err e) new meets = still (Closed first second) new meets.0
  hears_rise message moment Away (Ok turn) new meets = still Away new meets.0
  hears_rise message moment Away (Err e) new meets = still Away new meets.0

  pub ticks_rise : (moment : Moment) (old : MasterPlace D) (turn : Result Told Refusal) (new : MasterPlace D) → MasterTicks seen failures moment old turn new
      → failures_at failures old ≤ failures_at failures new
  ticks_rise moment (Standing m) turn new (after, is, answers) =
      at_least (Standing after) new (failures_of_both failures m.journal) is (tick_rises moment m turn after answers)
  ticks_rise moment (Closed first second) (Ok turn) new meets = still (Closed first second) new meets.0
  ticks_rise moment (Closed first second) (Err e) new meets = still (Closed first second) new meets.0
  ticks_rise moment Away (Ok turn) new meets = still Away new meets.0
  ticks_rise moment Away (Err e) new meets = still Away new meets.0

  -- ---- what the master does

  -- its turn is this one, and it stands; or memory was wanting
  abbrev pub TurnIs : Turn → Config → Result Told Refusal → MasterPlace D → Type 0
  TurnIs t config (Ok told) place = (after : MasterOf D) × (place ≡ Standing after) × IsDone t told.sent.items told.said after.state × (after.config ≡ config)
  TurnIs t config (Err refusal) place = refusal ≡ refusals.Memory

  abbrev pub Same : MasterPlace D → MasterPlace D → Type 0
  Same new old = failures_at failures new ≡ failures_at failures old

  same_journal : (m after : MasterOf D) (place : MasterPlace D) → place ≡ Standing after → Same place (Standing m) → failures_of_both failures after.journal ≡ failures_of_both failures m.journal
  same_journal m after place is same = sym (ap (failures_at failures) is) ∙ same

  pub heard_turn : (message : Message) (moment : Moment) (w : Way D) (m : MasterOf D) (turn : Result Told Refusal) (place : MasterPlace D) → IsGood seen w m → IsNumber moment.0
      → IsNamedBody message.body × IsHeardBody m.state.durable.names message.body → MasterHears seen failures message moment (Standing m) turn place → Same place (Standing m)
      → TurnIs (handle m.config m.state message moment) m.config turn place
  heard_turn message moment w m (Ok told) place good number said (after, is, inl done) same = (after, is, done.done, done.config)
  heard_turn message moment w m (Ok told) place good number said (after, is, inr (at, cut)) same =
      absurd (never (failures_of_both failures m.journal) (failures_of_both failures after.journal) cut.cause (same_journal m after place is same))
  heard_turn message moment w m (Err e) place good number said hears same =
      message_refused_for_memory seen failures moment m e place good.firm good.steady message (said.0, number) said.1 hears

  whole_turn : (b : Bool) (t steps : Turn) (m after : MasterOf D) (told : Told) (place : MasterPlace D) → place ≡ Standing after → AnswersAs seen failures b t steps m told after → Same place (Standing m)
      → TurnIs t m.config (Ok told) place
  whole_turn true t steps m after told place is (inl done) same = (after, is, done.done, done.config)
  whole_turn false t steps m after told place is (inl done) same = (after, is, done.done, done.config)
  whole_turn true t steps m after told place is (inr (at, cut)) same =
      absurd (never (failures_of_both failures m.journal) (failures_of_both failures after.journal) cut.cause (same_journal m after place is same))
  whole_turn false t steps m after told place is (inr (at, cut)) same =
      absurd (never (failures_of_both failures m.journal) (failures_of_both failures after.journal) cut.cause (same_journal m after place is same))

  pub ticked_turn : (moment : Moment) (w : Way D) (m : MasterOf D) (turn : Result Told Refusal) (place : MasterPlace D) → IsGood seen w m → SaysEnough turn
      → MasterTicks seen failures moment (Standing m) turn place → Same place (Standing m) → TurnIs (tick m.state moment) m.config turn place
  ticked_turn moment w m (Ok told) place good says (after, is, inl whole) same =
      let steps = pressed_all m.state moment in whole_turn (writes_one m.state steps) (tick m.state moment) steps m after told place is whole same
  ticked_turn moment w m (Ok told) place good says (after, is, inr (sound, is_due, none, inl done)) same = absurd (says done.done.says)
  ticked_turn moment w m (Ok told) place good says (after, is, inr (sound, is_due, none, inr (at, cut))) same =
      absurd (never (failures_of_both failures m.journal) (failures_of_both failures after.journal) cut.cause (same_journal m after place is same))
  ticked_turn moment w m (Err e) place good says ticks same = tick_refused_for_memory seen failures moment m e place good.firm good.steady ticks

  -- ---- what is left of a way

  pub plain_same : (old new : Way D) (m : MasterOf D) → Stands old m → new ≡ old → IsPlain new (plain_of m.state old)
  plain_same old new m s same = subst (λ w. IsPlain w (plain_of m.state old)) (sym same) (record { master = m; stands = s; plain = refl })

  -- what the master sends goes out
  pub master_ends : (t : Turn) (m : MasterOf D) (turn : Result Told Refusal) (place : MasterPlace D) (old : Way D) (result : Result (Unit {0}) Refusal) (new : Way D) → Stands old m → TurnIs t m.config turn place
      → Ends turn (with_nodes (with_master place old.nodes) old) result new → new.is_short ≡ false → Comes new result (plain.at_master t (plain_of m.state old))
  master_ends t m (Ok told) place old result new stands (after, is, done, config) ends enough =
      let mid = with_nodes (with_master place old.nodes) old in
      let (all, says) = end_sends told mid result new ends enough in
      let nodes = (all_stays told.sent.items mid new all).nodes in
      record {
        result = says ∙ ap met_by done.says;
        plain = record {
          master = after;
          stands = record {
            place = ap (λ (n : Nodes D). n.master) nodes ∙ is;
            config = config ∙ stands.config ∙ sym (ap (λ (n : Nodes D). n.config) nodes);
          };
          plain = sym (all_plain after.state told.sent.items mid new all enough ∙ (λ i. plain.sends_all (done.sends i) (record (plain_of m.state old) { master = done.after i })));
        };
      }
  master_ends t m (Err refusal) place old result new stands memory (same, is) enough =
      absurd (wanting refusal (with_nodes (with_master place old.nodes) old) new memory same enough)

  -- what another node sends goes out
  pub node_ends : (messages : List Message) (nodes : Nodes D) (m : MasterOf D) (old new : Way D) → Stands old m → nodes.master ≡ old.nodes.master → nodes.config ≡ old.nodes.config
      → SendsAll messages (with_nodes nodes old) new → new.is_short ≡ false → IsPlain new (plain.sends_all messages (plain_of m.state (with_nodes nodes old)))
  node_ends messages nodes m old new stands master config all enough =
      let kept = (all_stays messages (with_nodes nodes old) new all).nodes in
      record {
        master = m;
        stands = record {
          place = ap (λ (n : Nodes D). n.master) kept ∙ master ∙ stands.place;
          config = stands.config ∙ sym config ∙ sym (ap (λ (n : Nodes D). n.config) kept);
        };
        plain = sym (all_plain m.state messages (with_nodes nodes old) new all enough);
      }

  -- ---- a server

  pub server_does : (o : Option Server) (id : ℕ) (step : Server → Step) (turn : Result Told Refusal) (nodes : Nodes D) (m : MasterOf D) (old : Way D) (result : Result (Unit {0}) Refusal) (new : Way D) → Stands old m
      → MatchOption o ((nodes ≡ old.nodes) × (turn ≡ Err refusals.Range)) (λ s. (after : Server) × (nodes ≡ with_servers (slice_set old.nodes.servers id after) old.nodes) × ServerDoes (step s) s turn after)
      → Ends turn (with_nodes nodes old) result new → new.is_short ≡ false → Comes new result (plain.at_found o id step (plain_of m.state old))
  server_does None id step turn nodes m old result new stands (same, refused) ends enough =
      let gone : Ends (Err refusals.Range) (with_nodes old.nodes old) result new = subst (λ (p : Result Told Refusal × Nodes D). Ends p.0 (with_nodes p.1 old) result new) (λ i. (refused i, same i)) ends in
      record { result = gone.1; plain = plain_same old new m stands gone.0 }
  server_does (Some s) id step (Ok told) nodes m old result new stands (after, is, (same, sent, said)) ends enough =
      let there = with_servers (slice_set old.nodes.servers id after) old.nodes in
      let out = end_sends told (with_nodes there old) result new (subst (λ n. Ends (Ok told) (with_nodes n old) result new) is ends) enough in
      let left : IsPlain new (plain.sends_all told.sent.items (plain_of m.state (with_nodes there old))) = node_ends told.sent.items there m old new stands refl refl out.0 enough in
      record {
        result = out.1 ∙ ap met_by said;
        plain = subst (λ (p : List Message × Server). IsPlain new (plain.sends_all p.0 (plain.with_server id p.1 (plain_of m.state old)))) (λ i. (sent i, same i)) left;
      }
  server_does (Some s) id step (Err refusal) nodes m old result new stands (after, is, (still, memory)) ends enough = absurd (wanting refusal (with_nodes nodes old) new memory ends.0 enough)

  -- ---- a client

  client_hears : (o : Option Node) (id : ClientId) (body : Body) (said : Option Refusal) (turn : Result Told Refusal) (nodes : Nodes D) (m : MasterOf D) (old : Way D) (result : Result (Unit {0}) Refusal) (new : Way D) → Stands old m
      → MatchOption o ((nodes ≡ old.nodes) × (said ≡ None)) (λ n. (after : Node) × (nodes ≡ with_clients (slice_set old.nodes.clients (id.0 - 1) after) old.nodes) × ClientHears body n said after)
      → Says said turn → Ends turn (with_nodes nodes old) result new → new.is_short ≡ false → Comes new result (plain.hears_as o id body (plain_of m.state old))
  client_hears o id body said (Err refusal) nodes m old result new stands at says ends enough = absurd says
  client_hears None id body said (Ok told) nodes m old result new stands (same, none) (nothing, is) ends enough =
      let (all, met) = end_sends told (with_nodes nodes old) result new ends enough in
      let gone : SendsAll [] (with_nodes old.nodes old) new = subst (λ (p : List Message × Nodes D). SendsAll p.0 (with_nodes p.1 old) new) (λ i. (nothing i, same i)) all in
      record { result = met ∙ ap met_by (is ∙ none); plain = plain_same old new m stands gone }
  client_hears (Some n) id body said (Ok told) nodes m old result new stands (after, at, does) (nothing, is) ends enough =
      let (all, met) = end_sends told (with_nodes nodes old) result new ends enough in
      let there = with_clients (slice_set old.nodes.clients (id.0 - 1) after) old.nodes in
      let out : SendsAll [] (with_nodes there old) new = subst (λ (p : List Message × Nodes D). SendsAll p.0 (with_nodes p.1 old) new) (λ i. (nothing i, at i)) all in
      let heard = client_does (hears body n) said n after does in
      record {
        result = met ∙ ap met_by is ∙ heard.0;
        plain =
            subst (λ (x : Node). IsPlain new (plain.with_client id x (plain_of m.state old))) heard.1
            (node_ends [] there m old new stands refl refl out enough);
      }

  -- ---- a message comes

  pub heard_comes : (to : NodeId) (message : Message) (turn : Result Told Refusal) (nodes : Nodes D) (m : MasterOf D) (old : Way D) (result : Result (Unit {0}) Refusal) (new : Way D) → Stands old m → IsGood seen old m
      → (to ≡ ids.Master → IsNamedBody message.body × IsHeardBody m.state.durable.names message.body)
      → Hears seen failures message old.moment to old.nodes turn nodes → Ends turn (with_nodes nodes old) result new → new.is_short ≡ false → Same new.nodes.master old.nodes.master
      → Comes new result (plain.comes_to to message (plain_of m.state old))
  heard_comes ids.Master message turn nodes m old result new stands good said (place, is, hears) ends enough same =
      let there : MasterHears seen failures message old.moment (Standing m) turn place = subst (λ at. MasterHears seen failures message old.moment at turn place) stands.place hears in
      let out : Ends turn (with_nodes (with_master place old.nodes) old) result new = subst (λ n. Ends turn (with_nodes n old) result new) is ends in
      let kept = (end_stays turn (with_nodes (with_master place old.nodes) old) result new out).nodes in
      let quiet : Same place (Standing m) = sym (ap (λ (n : Nodes D). failures_at failures n.master) kept) ∙ same ∙ ap (failures_at failures) stands.place in
      subst (λ (c : Config). Comes new result (plain.at_master (handle c m.state message old.moment) (plain_of m.state old))) stands.config
      (master_ends (handle m.config m.state message old.moment) m turn place old result new stands (heard_turn message old.moment old m turn place good good.moment (said refl) there quiet) out enough)
  heard_comes (ids.Server id) message turn nodes m old result new stands good said at ends enough same =
      server_does (slice_get old.nodes.servers id) id (λ s. servers.handle s message old.moment) turn nodes m old result new stands at ends enough
  heard_comes (ids.Client id) message turn nodes m old result new stands good said (answer, at, says) ends enough same =
      client_hears (client_in old.nodes.clients id) id message.body answer turn nodes m old result new stands at says ends enough

  -- ---- failures never fall

  found_leaves : {A : Type 0} (found : Option Server) (id : ℕ) (does : Server → Result A Refusal → Server → Type 0) (old : Nodes D) (result : Result A Refusal) (new : Nodes D)
      → MatchOption found ((new ≡ old) × (result ≡ Err refusals.Range)) (λ s. (after : Server) × (new ≡ with_servers (slice_set old.servers id after) old) × does s result after)
      → new.master ≡ old.master
  found_leaves None id does old result new (is, refused) = ap (λ (n : Nodes D). n.master) is
  found_leaves (Some s) id does old result new (after, is, done) = ap (λ (n : Nodes D). n.master) is

  pub server_leaves : {A : Type 0} (id : ℕ) (does : Server → Result A Refusal → Server → Type 0) (old : Nodes D) (result : Result A Refusal) (new : Nodes D)
      → AtServer id does old result new → new.master ≡ old.master
  server_leaves id does old result new at = found_leaves (slice_get old.servers id) id does old result new at

  known_leaves : {A : Type 0} (found : Option Node) (id : ClientId) (none : A) (does : Node → A → Node → Type 0) (old : Nodes D) (result : A) (new : Nodes D)
      → MatchOption found ((new ≡ old) × (result ≡ none)) (λ n. (after : Node) × (new ≡ with_clients (slice_set old.clients (id.0 - 1) after) old) × does n result after)
      → (new.master ≡ old.master) × (new.config ≡ old.config)
  known_leaves None id none does old result new (is, refused) = (ap (λ (n : Nodes D). n.master) is, ap (λ (n : Nodes D). n.config) is)
  known_leaves (Some n) id none does old result new (after, is, done) = (ap (λ (n : Nodes D). n.master) is, ap (λ (n : Nodes D). n.config) is)

  pub client_leaves : {A : Type 0} (id : ClientId) (none : A) (does : Node → A → Node → Type 0) (old : Nodes D) (result : A) (new : Nodes D)
      → AtClient id none does old result new → (new.master ≡ old.master) × (new.config ≡ old.config)
  client_leaves id none does old result new at = known_leaves (client_in old.clients id) id none does old result new at

  pub heard_rise : (message : Message) (moment : Moment) (to : NodeId) (old : Nodes D) (turn : Result Told Refusal) (new : Nodes D) → Hears seen failures message moment to old turn new
      → failures_at failures old.master ≤ failures_at failures new.master
  heard_rise message moment ids.Master old turn new (place, is, hears) =
      at_least place new.master (failures_at failures old.master) (ap (λ (n : Nodes D). n.master) is) (hears_rise message moment old.master turn place hears)
  heard_rise message moment (ids.Server id) old turn new at =
      still old.master new.master (server_leaves id (λ s. ServerDoes (servers.handle s message moment) s) old turn new at)
  heard_rise message moment (ids.Client id) old turn new (said, at, says) = still old.master new.master (client_leaves id None (ClientHears message.body) old said new at).0
