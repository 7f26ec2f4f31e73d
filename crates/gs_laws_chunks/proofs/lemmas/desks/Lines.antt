-- What the lines of a script do is steps of a store.
use Rattle.std.proofs.Common.{◌≡◌, ◌∙◌, ◌⊎◌, ◌-◌, ◌==◌, ℕ, zero, suc, Bool, true, false, List, [], ◌∷◌, ◌++◌, ◌+◌, ◌<◌, if◌then◌else◌, Option, Some, None, MatchOption, Result, Ok, Err, replicate, refl, sym, ap, subst, inl, inr, length, nat_le, slice_get, arith}
use Rattle.gs_base.specs.Told.{IsNumber}
use Rattle.gs_base.specs.declared.config.Config.{Config}
use Rattle.gs_base.specs.declared.numbers.Moment.{Moment}
use Rattle.gs_base.specs.declared.refusal.Refusal.{Refusal}
use Rattle.gs_base.specs.declared.refusal.Refusal.TheVariants as refusals
use Rattle.gs_base.specs.Calls.{Does}
use Rattle.gs_shell_calls.specs.Asked.{asked_by}
use Rattle.gs_shell_calls.specs.declared.answer.Answer.{Answer}
use Rattle.gs_client.specs.Sends.{Sends as Asks, last_number, next_request}
use Rattle.gs_client.specs.declared.client.Client.{Client}
use Rattle.gs_client.specs.declared.link.Reply.{Reply}
use Rattle.gs_client_dialogue.specs.Dialogues.{Ask, Call, FollowsDialogue, Grow, Say}
use Rattle.gs_shell_line.specs.Line.{content, longest_line}
use Rattle.gs_shell_grammar.specs.Grammar.{Request, line_request}
use Rattle.gs_shell_grammar.specs.Grammar as lines
use Rattle.gs_shell_grammar.specs.declared.command.Restarted.{Restarted}
use Rattle.gs_shell_grammar.specs.declared.command.Restarted.TheVariants as restarted
use Rattle.gs_msg.specs.declared.event.Happening.{Happening}
use Rattle.gs_msg.specs.declared.event.Happening.TheVariants as happenings
use Rattle.gs_msg.specs.declared.event.Request.{Request as Req}
use Rattle.gs_msg.specs.declared.message.Message.{Message}
use Rattle.gs_msg.specs.declared.node.NodeId.{NodeId}
use Rattle.gs_msg.specs.declared.node.NodeId.TheVariants as nodes
use Rattle.gs_msg.specs.declared.node.StoreNode.TheVariants as keepers
use Rattle.gs_shell_script.specs.Run as script
use Rattle.gs_shell_script.specs.Run.{lines_of}
use Rattle.gs_server.specs.Servers as servers
use Rattle.gs_server.specs.Servers.{Server}
use Rattle.gs_shell.specs.Serving.{Serves}
use Rattle.gs_nodes.specs.Happenings.{AtServer}
use Rattle.gs_nodes.specs.Nodes.{Nodes, new_nodes, silent_servers, with_master}
use Rattle.gs_shell_desk.specs.Answering.{AnswersText, IsText}
use Rattle.gs_shell_desk.specs.Lines.{AtOne, Beats, BeatsOf, Comes, Damages, Either, HandsOver, Loses, MasterRestarts, NodesDo, OfHandle, Restarts, carried, held_at, is_server}
use Rattle.gs_shell_desk.specs.Starting.{Starts, begun}
use Rattle.gs_shell_desk.specs.Ways.{Sends, Way, shortened, way_of, with_nodes}
use Rattle.gs_shell_desk.specs.declared.desk.Desk.{Desk}
use Rattle.gs_shell_desk.specs.declared.wire.Wire.{Wire}
use Rattle.gs_world.specs.Histories.{AtNode, Upshot, silent, told}
use Rattle.gs_world.specs.Sent.{IsSent, Sent, none_sent}
use Rattle.gs_laws_world.specs.steady.Asking.{AllAsked, MayBeAsked}
use Rattle.gs_laws_chunks.specs.desks.Reached.{AllSent, Covers, IsReachedDesk, LeadsBySteps, history}
use Rattle.gs_laws_world.specs.steady.Unarmed.{unarmed}
use Rattle.gs_laws_world.specs.steady.Saying.{IsAskedWithin}
use Rattle.gs_laws_chunks.specs.desks.Within.{IsReachedWithin}
use Rattle.gs_laws_chunks.proofs.lemmas.desks.Asking.{WellIf, line_well}
use Rattle.gs_laws_chunks.proofs.lemmas.desks.Ending.{CanPost, IsOver, alike_to, as_it_is, ended, event_leads, known_server, master_posts, sent_moment}
use Rattle.gs_laws_chunks.proofs.lemmas.desks.Sending.{sends}
use Rattle.gs_laws_chunks.proofs.lemmas.desks.Ways.{Leads, alike, carries, delivers_one, delivers_whole, joined, nothing, chain, ticks_whole}
use Rattle.gs_laws_chunks.proofs.lemmas.desks.When.{When, joined_within, when, when_then}
use Rattle.gs_laws_chunks.proofs.lemmas.desks.Words.{IsSpoken, line_spoken}

first_sent : (m message : Message) (sent : Sent) → Some m ≡ Some message → IsSent m sent → IsSent message sent
first_sent m message sent is one = let same : m ≡ message = cc in subst (λ (x : Message). IsSent x sent) same one

held_sent : (messages : List Message) (place : ℕ) (message : Message) (sent : Sent) → AllSent sent messages → slice_get messages place ≡ Some message → IsSent message sent
held_sent [] place message sent all is = absurd cc
held_sent (m ∷ messages) zero message sent (one, rest) is = first_sent m message sent is one
held_sent (m ∷ messages) (suc place) message sent (one, rest) is = held_sent messages place message sent rest is

pub held_numbered : (nought : Bool) (messages : List Message) (place : ℕ) (message : Message) (sent : Sent) → AllSent sent messages
    → (if nought then None else slice_get messages place) ≡ Some message → IsSent message sent
held_numbered true messages place message sent all is = absurd cc
held_numbered false messages place message sent all is = held_sent messages place message sent all is

pub quiet_posts : (sent : Sent) (by : NodeId) (done : Result (Unit {0}) Refusal) → CanPost sent by (silent done)
quiet_posts sent by (Ok done) = inr refl
quiet_posts sent by (Err refusal) = tt

-- a new store has a list for each of its nodes
pub many : {A : Type 0} (n : ℕ) (x : A) → length (replicate n x) ≡ n
many zero x = refl
many (suc n) x = ap suc (many n x)

one_longer : {A : Type 0} (xs : List A) (x : A) → length (xs ++ x ∷ []) ≡ suc (length xs)
one_longer [] x = refl
one_longer (y ∷ xs) x = ap suc (one_longer xs x)

pub silent_many : (config : Config) (n : ℕ) → length (silent_servers config n) ≡ n
silent_many config zero = refl
silent_many config (suc n) = one_longer (silent_servers config n) (servers.new n config.block config.chunk) ∙ ap suc (silent_many config n)

-- a number below the last is one of 64 bits, and so is the next
next_small : (number : ℕ) → number < last_number → IsNumber (number + 1)
next_small number below = omega arith

module _ {D : Type 0} (seen : D → List ℕ) (failures : D → ℕ) (keeps : Bool) where
  -- ---- what is done at one server

  -- a server of this number, or nothing happens
  for_server : {A : Type 0} (is : Bool) (old new : Way D) (result : Result A Refusal) (there : Type 0) → (there → Leads seen failures keeps old new)
      → Either is there ((result ≡ Err refusals.Range) × (new ≡ old)) → Leads seen failures keeps old new
  for_server true old new result there leads did = leads did
  for_server false old new result there leads (refused, same) = nothing seen failures keeps old new same

  -- nothing goes out of what befalls a server
  quietly : (done : Result (Unit {0}) Refusal) (nodes : Nodes D) (old new : Way D) → new ≡ with_nodes nodes old → IsOver (silent done) (with_nodes nodes old) new
  quietly (Ok done) nodes old new same = (with_nodes nodes old, refl, alike_to (with_nodes nodes old) (with_nodes nodes old) new (as_it_is (with_nodes nodes old)) same)
  quietly (Err refusal) nodes old new same = alike_to (with_nodes nodes old) (with_nodes nodes old) new (record { nodes = refl; moment = refl; queue = refl; held = refl; short = λ short. short }) same

  befalls : (happening : Happening) (id : ℕ) (does : Server → Result (Unit {0}) Refusal → Server → Type 0) (old : Way D) (result : Result (Unit {0}) Refusal) (new : Way D)
      → ((sent : Sent) (there : Nodes D) → AtServer id does old.nodes result there → AtNode seen failures unarmed old.moment happening (history sent old) (nodes.Server id) (silent result) there)
      → When keeps (IsAskedWithin happening) → AtOne id does old result new → Leads seen failures keeps old new
  befalls happening id does old result new at asked (there, done, same) sent covers small =
      event_leads seen failures keeps happening (nodes.Server id) (silent result) there old new sent (at sent there done) (quiet_posts sent (nodes.Server id) result) covers asked small (quietly result there old new same)

  of_handle : (is : Bool) (old new : Way D) (result : Result (Unit {0}) Refusal) (there : Type 0) → (there → Leads seen failures keeps old new)
      → Either is ((result ≡ Err refusals.NoReplica) × (new ≡ old)) there → Leads seen failures keeps old new
  of_handle true old new result there leads (refused, same) = nothing seen failures keeps old new same
  of_handle false old new result there leads did = leads did

  loses : (id handle : ℕ) (old : Way D) (result : Result (Unit {0}) Refusal) (new : Way D) → Loses id handle old result new → Leads seen failures keeps old new
  loses id handle old result new l =
      for_server (is_server id old) old new result (OfHandle handle (AtOne id (λ s result after. Does (servers.lose handle s) result s after) old) old result new)
      (λ did. of_handle (handle == 0) old new result (AtOne id (λ s result after. Does (servers.lose handle s) result s after) old result new)
      (λ did. befalls (happenings.Lose id handle) id (λ s result after. Does (servers.lose handle s) result s after) old result new
      (λ sent nodes at. (refl, (result, at, refl))) (when keeps tt) did) did) l

  damages : (id handle block : ℕ) (old : Way D) (result : Result (Unit {0}) Refusal) (new : Way D) → Damages id handle block old result new → Leads seen failures keeps old new
  damages id handle block old result new l =
      for_server (is_server id old) old new result (OfHandle handle (AtOne id (λ s result after. Does (servers.damage handle block s) result s after) old) old result new)
      (λ did. of_handle (handle == 0) old new result (AtOne id (λ s result after. Does (servers.damage handle block s) result s after) old result new)
      (λ did. befalls (happenings.Damage id handle block) id (λ s result after. Does (servers.damage handle block s) result s after) old result new
      (λ sent nodes at. (refl, (result, at, refl))) (when keeps tt) did) did) l

  -- ---- a restart

  master_restarts : (old : Way D) (result : Result (Unit {0}) Refusal) (new : Way D) → MasterRestarts seen failures old result new → Leads seen failures keeps old new
  master_restarts old result new r =
      chain seen failures keeps old r.mid new
      (λ sent covers small.
      event_leads seen failures keeps (happenings.Restart keepers.Master) nodes.Master (told r.turn) (with_master r.place old.nodes) old r.mid sent
      (refl, (r.place, r.turn, r.opens, refl, refl)) (master_posts sent r.turn) covers (when keeps tt) small (ended r.turn (with_nodes (with_master r.place old.nodes) old) result r.mid r.ends))
      (delivers_whole seen failures keeps r.mid new r.delivers)

  restarts : (node : Restarted) (old : Way D) (result : Result (Unit {0}) Refusal) (new : Way D) → Restarts seen failures node old result new → Leads seen failures keeps old new
  restarts restarted.Master old result new r = master_restarts old result new r
  restarts (restarted.Server id) old result new r =
      for_server (is_server id old) old new result (AtOne id (λ s result after. (result ≡ Ok tt) × (after ≡ servers.restart s)) old result new)
      (λ did. befalls (happenings.Restart (keepers.Server id)) id (λ s result after. (result ≡ Ok tt) × (after ≡ servers.restart s)) old result new
      (λ sent nodes at. (refl, (result, at, refl))) (when keeps tt) did) r

  -- ---- what is handed over, and what a server reports

  hands_over : (number : ℕ) (found : Option Message) (old : Way D) (result : Result (Unit {0}) Refusal) (new : Way D) → held_at number old.held ≡ found
      → MatchOption found ((result ≡ Err refusals.Range) × (new ≡ old)) (λ message. HandsOver seen failures message old result new) → Leads seen failures keeps old new
  hands_over number None old result new is (refused, same) = nothing seen failures keeps old new same
  hands_over number (Some message) old result new is over = elim over [
    | inl (refused, same) ↦ alike seen failures keeps old new (alike_to old (shortened old) new (record { nodes = refl; moment = refl; queue = refl; held = refl; short = λ short. refl }) same)
    | inr (mid, d, rest) ↦
        chain seen failures keeps old mid new
        (λ sent covers small. delivers_one seen failures keeps message old result mid sent d (held_numbered (number == 0) old.held (number - 1) message sent covers.held is) covers small)
        (delivers_whole seen failures keeps mid new rest)
  ]

  abbrev IsOutcome : Server → Upshot → Type 0
  IsOutcome s outcome = Ok (servers.beat s ∷ [], None) ≡ outcome

  -- the report is the one message that goes out
  reports : (id : ℕ) (s : Server) (old : Way D) (mid : Way D) → slice_get old.nodes.servers id ≡ Some s → Sends (servers.beat s) (record old { drops = 0 }) mid → Leads seen failures keeps old mid
  reports id s old mid is sent_one =
      chain seen failures keeps old (record old { drops = 0 }) mid (alike seen failures keeps old (record old { drops = 0 }) (record { nodes = refl; moment = refl; queue = refl; held = refl; short = λ short. short }))
      (λ sent covers small.
      event_leads seen failures keeps (happenings.Beat id) (nodes.Server id) (Ok (servers.beat s ∷ [], None)) old.nodes (record old { drops = 0 }) mid sent (
        refl,
        (
          refl,
          subst
              (λ (o : Option Server). MatchOption o (IsOutcome s (Err refusals.Range)) (λ x. (IsOutcome s (Ok (servers.beat x ∷ [], None))) ⊎ (IsOutcome s (Err refusals.Memory))))
              (sym is) (inl refl),
        ),
      )
      (inl (known_server sent id old.nodes s covers.servers is)) covers (when keeps tt) small (mid, (mid, sent_one, refl), as_it_is mid))

  beats_of : (id : ℕ) (found : Option Server) (old : Way D) (result : Result ℕ Refusal) (new : Way D) → slice_get old.nodes.servers id ≡ found
      → MatchOption found ((result ≡ Err refusals.Range) × (new ≡ old)) (λ s. Beats seen failures (servers.beat s) old result new) → Leads seen failures keeps old new
  beats_of id None old result new is (refused, same) = nothing seen failures keeps old new same
  beats_of id (Some s) old result new is b = elim b [
    | inl (refused, same) ↦ alike seen failures keeps old new (alike_to old (shortened old) new (record { nodes = refl; moment = refl; queue = refl; held = refl; short = λ short. refl }) same)
    | inr (mid, sent, rest, told) ↦ chain seen failures keeps old mid new (reports id s old mid is sent) (delivers_whole seen failures keeps mid new rest)
  ]

  -- ---- lines about nodes and messages

  -- the moment is set
  sets_moment : (moment : ℕ) (old new : Way D) → When keeps (IsNumber moment) → new ≡ record old { moment = record { 0 = moment } } → Leads seen failures keeps old new
  sets_moment moment old new small same sent covers before =
      record {
        steps = [];
        after = sent;
        runs = ap (λ (w : Way D). history sent w) same;
        covers = subst (λ w. Covers sent w) (sym same) (record { queue = covers.queue; held = covers.held; servers = covers.servers; clients = covers.clients; short = covers.short });
        within = when keeps tt;
        moment = subst (λ (w : Way D). When keeps (IsNumber w.moment.0)) (sym same) small;
      }

  nodes_do : (request : Request) (old : Way D) (result : Result Answer Refusal) (new : Way D) → When keeps (IsSpoken request) → NodesDo seen failures request old result new → Leads seen failures keeps old new
  nodes_do (lines.Beat id) old result new spoken (drops, b, is) =
      for_server (is_server id old) old new drops (BeatsOf seen failures id old drops new) (λ did. beats_of id (slice_get old.nodes.servers id) old drops new refl did) b
  nodes_do lines.Tick old result new spoken (is, ticks) = ticks_whole seen failures keeps old new ticks
  nodes_do (lines.At moment) old result new spoken (is, same) = sets_moment moment old new spoken same
  nodes_do (lines.Hold kind) old result new spoken (is, same) = alike seen failures keeps old new (alike_to old (record old { kind = kind }) new (record { nodes = refl; moment = refl; queue = refl; held = refl; short = λ short. short }) same)
  nodes_do (lines.Restart node) old result new spoken (said, r, is) = restarts node old said new r
  nodes_do (lines.Lose id handle) old result new spoken (said, l, is) = loses id handle old said new l
  nodes_do (lines.Damage id handle block) old result new spoken (said, d, is) = damages id handle block old said new d
  nodes_do (lines.Deliver number) old result new spoken (said, h, is) = hands_over number (held_at number old.held) old said new refl h
  nodes_do request old result new spoken never = absurd never

  -- ---- lines that ask something

  asks : (asked : Req) (old : Client × Wire D) (reply : Reply) (new : Client × Wire D) → When keeps (MayBeAsked asked) → Asks (carried seen failures) old asked reply new → Leads seen failures keeps (way_of old.1) (way_of new.1)
  asks asked old reply new may a = elim a [
    | inl (below, is, c) ↦
        carries seen failures keeps (next_request old.0) asked (way_of old.1) reply (way_of new.1)
        (when_then keeps (MayBeAsked asked) (IsNumber (next_request old.0).number × MayBeAsked asked) (λ m. (next_small old.0.last.number below, m)) may) c
    | inr (last, is, same) ↦ nothing seen failures keeps (way_of old.1) (way_of new.1) (ap (λ (s : Client × Wire D). way_of s.1) same)
  ]

  -- all that it may ask
  abbrev Within : {A : Type 0} → Call Req Reply A → Type 0
  Within call = AllAsked MayBeAsked call

  follows : {A : Type 0} (call : Call Req Reply A) (old : Client × Wire D) (result : Result A Refusal) (new : Client × Wire D)
      → When keeps (Within call) → FollowsDialogue (Asks (carried seen failures)) call old result new → Leads seen failures keeps (way_of old.1) (way_of new.1)
  follows (Say said) old result new may (is, same) = nothing seen failures keeps (way_of old.1) (way_of new.1) (ap (λ (s : Client × Wire D). way_of s.1) same)
  follows (Ask asked more) old result new may (reply, mid, carries_it, rest) =
      chain seen failures keeps (way_of old.1) (way_of mid.1) (way_of new.1)
      (asks asked old reply mid (when_then keeps (Within (Ask asked more)) (MayBeAsked asked) (λ both. both.0) may) carries_it)
      (follows (more reply) mid result new (when_then keeps (Within (Ask asked more)) (Within (more reply)) (λ both. both.1 reply) may) rest)
  follows (Grow call) old result new may f = elim f [
    | inl goes ↦ follows call old result new may goes
    | inr (is, same) ↦ nothing seen failures keeps (way_of old.1) (way_of new.1) (ap (λ (s : Client × Wire D). way_of s.1) same)
  ]

  comes_by : (o : Option (Call Req Reply Answer)) (request : Request) (old : Desk D) (result : Result Answer Refusal) (new : Desk D) → When keeps (WellIf o) → When keeps (IsSpoken request)
      → MatchOption o ((new.caller.client ≡ old.caller.client) × NodesDo seen failures request (way_of old.wire) result (way_of new.wire))
      (λ call. FollowsDialogue (Asks (carried seen failures)) call (old.caller.client, old.wire) result (new.caller.client, new.wire))
      → Leads seen failures keeps (way_of old.wire) (way_of new.wire)
  comes_by None request old result new well spoken (is, did) = nodes_do request (way_of old.wire) result (way_of new.wire) spoken did
  comes_by (Some call) request old result new well spoken f = follows call (old.caller.client, old.wire) result (new.caller.client, new.wire) well f

  comes : (request : Request) (old : Desk D) (result : Result Answer Refusal) (new : Desk D) → When keeps (WellIf (asked_by old.caller.client.chunk request)) → When keeps (IsSpoken request)
      → Comes seen failures request old result new → Leads seen failures keeps (way_of old.wire) (way_of new.wire)
  unfolding Comes
  comes request old result new well spoken c = comes_by (asked_by old.caller.client.chunk request) request old result new well spoken c

  line_by : (o : Option Request) (line : List ℕ) (old : Desk D) (text : List ℕ) (new : Desk D) → line_request line ≡ o
      → MatchOption o (IsText (Err refusals.BadLine) text × (new ≡ old)) (λ request. (answer : Result Answer Refusal) × Comes seen failures request old answer new × IsText answer text)
      → Leads seen failures keeps (way_of old.wire) (way_of new.wire)
  line_by None line old text new read (is, same) = nothing seen failures keeps (way_of old.wire) (way_of new.wire) (ap (λ (d : Desk D). way_of d.wire) same)
  line_by (Some request) line old text new read (answer, c, is) =
      comes request old answer new (when keeps (line_well old.caller.client.chunk line request read)) (when keeps (line_spoken line request read)) c

  pub line_leads : (old : Desk D) (line text : List ℕ) (new : Desk D) → AnswersText seen failures old line text new → Leads seen failures keeps (way_of old.wire) (way_of new.wire)
  unfolding AnswersText
  line_leads old line text new a = elim a [
    | inl (is, same) ↦ nothing seen failures keeps (way_of old.wire) (way_of new.wire) (ap (λ (d : Desk D). way_of d.wire) same)
    | inr came ↦ line_by (line_request line) line old text new refl came
  ]

-- ---- a line, whatever moment it comes at

module _ {D : Type 0} (seen : D → List ℕ) (failures : D → ℕ) where
  pub line_steps : (old new : Desk D) (line text : List ℕ) (sent : Sent) → AnswersText seen failures old line text new → Covers sent (way_of old.wire) → LeadsBySteps seen failures (way_of old.wire) (way_of new.wire) sent
  line_steps old new line text sent a covers =
      let s = line_leads seen failures false old line text new a sent covers tt in record { steps = s.steps; after = s.after; runs = s.runs; covers = s.covers }

  -- ---- a script

  module _ (config : Config) (disks : D × D) where
    pub line_reaches : (old new : Desk D) (line text : List ℕ) → AnswersText seen failures old line text new → IsReachedWithin seen failures config disks old → IsReachedWithin seen failures config disks new
    line_reaches old new line text a r =
        let steps = line_leads seen failures true old line text new a r.sent r.covers r.moment in
        record {
          sent = steps.after;
          reached =
              record {
                begun = r.reached.begun;
                steps = r.reached.steps ++ steps.steps;
                begins = r.reached.begins;
                runs = joined seen failures true r.reached.steps steps.steps r.reached.begun (history r.sent (way_of old.wire)) (history steps.after (way_of new.wire)) r.reached.runs steps.runs;
              };
          covers = steps.covers;
          within = joined_within true r.reached.steps steps.steps r.within steps.within;
          moment = steps.moment;
        }

    short_line : (is : Bool) (old : Desk D) (line text : List ℕ) (new : Desk D) → script.AnswersIfShort (AnswersText seen failures) is old line text new
        → IsReachedWithin seen failures config disks old → IsReachedWithin seen failures config disks new
    short_line true old line text new a r = line_reaches old new line text a r
    short_line false old line text new (is, same) r = subst (λ d. IsReachedWithin seen failures config disks d) (sym same) r

    whole_line : (old : Desk D) (line text : List ℕ) (new : Desk D) → script.AnswersLine (AnswersText seen failures) old line text new → IsReachedWithin seen failures config disks old → IsReachedWithin seen failures config disks new
    whole_line old line text new a r = elim a [
      | inl (is, same) ↦ subst (λ d. IsReachedWithin seen failures config disks d) (sym same) r
      | inr said ↦ short_line (nat_le (length (content line)) longest_line) old (content line) text new said r
    ]

    lines_reach : (old : Desk D) (input texts : List (List ℕ)) (new : Desk D) → script.Runs (AnswersText seen failures) old input texts new → IsReachedWithin seen failures config disks old
        → IsReachedWithin seen failures config disks new
    lines_reach old [] [] new same r = subst (λ d. IsReachedWithin seen failures config disks d) (sym same) r
    lines_reach old (line ∷ input) (text ∷ texts) new (mid, first, rest) r = lines_reach mid input texts new rest (whole_line old line text mid first r)
    lines_reach old [] (text ∷ texts) new never r = absurd never
    lines_reach old (line ∷ input) [] new never r = absurd never

    pub start_reaches : (desk : Desk D) → Starts seen failures config disks desk → IsReachedWithin seen failures config disks desk
    start_reaches desk s =
        let none : Sent = none_sent config.servers 1 in
        let first : Way D = begun (new_nodes config 1 s.place) in
        let covers : Covers none first = record { queue = tt; held = tt; servers = many config.servers [] ∙ sym (silent_many config config.servers); clients = refl; short = λ lost. absurd cc } in
        let p = sends (record { 0 = 0 }) nodes.Master s.turn.sent.items none first s.mid (record { posts = []; is = refl }) covers s.sends in
        let moment = sent_moment s.turn.sent.items first s.mid s.sends in
        let steps = delivers_whole seen failures true s.mid (way_of desk.wire) s.delivers p.after p.covers (subst (λ (m : Moment). IsNumber m.0) (sym moment) (omega arith)) in
        record {
          sent = steps.after;
          reached =
              record {
                begun = history p.after s.mid;
                steps = steps.steps;
                begins = record { place = s.place; turn = s.turn; opens = s.opens; nodes = p.nodes; sent = p.posts };
                runs = steps.runs;
              };
          covers = steps.covers;
          within = steps.within;
          moment = steps.moment;
        }

    pub script_reaches : (input : List ℕ) (old new : Option (List ℕ)) (s : Serves seen failures config disks input old new) → IsReachedWithin seen failures config disks s.ended
    script_reaches input old new s = lines_reach s.begun (lines_of input) s.writes.texts s.ended s.writes.runs (start_reaches s.begun s.starts)

    -- what is within its types or not
    pub reached : (desk : Desk D) → IsReachedWithin seen failures config disks desk → IsReachedDesk seen failures config disks desk
    reached desk r = record { sent = r.sent; reached = r.reached; covers = r.covers }
