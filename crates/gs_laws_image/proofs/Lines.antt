-- What lines come to at a desk they come to at what is seen of it.
use Rattle.std.proofs.Common.{◌≡◌, ℕ, Bool, true, false, List, [], ◌∷◌, Option, Some, None, MatchOption, Result, Ok, Err, ap, inl, inr, length, slice_get}
use Rattle.std.specs.Prelude.{◌==◌, nat_le}
use Rattle.gs_base.specs.Calls.{Does}
use Rattle.gs_base.specs.declared.refusal.Refusal.{Refusal}
use Rattle.gs_base.specs.declared.refusal.Refusal.TheVariants as refusals
use Rattle.gs_client.specs.Sends.{Sends as Asks, next_request}
use Rattle.gs_client.specs.Trees.{Call}
use Rattle.gs_client.specs.declared.client.Client.{Client}
use Rattle.gs_client.specs.declared.link.Reply.{Reply}
use Rattle.gs_client_dialogue.specs.Dialogues.{Ask, FollowsDialogue, Grow, Say}
use Rattle.gs_msg.specs.declared.event.Request.{Request as Asked}
use Rattle.gs_msg.specs.declared.message.Message.{Message}
use Rattle.gs_server.specs.Servers.{Server}
use Rattle.gs_server.specs.Servers as servers
use Rattle.gs_shell_calls.specs.Asked.{asked_by}
use Rattle.gs_shell_calls.specs.declared.answer.Answer.{Answer}
use Rattle.gs_shell_desk.specs.Answering.{AnswersText, IsText}
use Rattle.gs_shell_desk.specs.Lines.{AtOne, BeatsAt, BeatsOf, Beats, Comes, Either, ForServer, HandsOver, HandsOverAt, MasterRestarts, NodesDo, OfHandle, Restarts, carried, held_at, is_server}
use Rattle.gs_shell_desk.specs.Ways.{Way, way_of, with_nodes}
use Rattle.gs_shell_desk.specs.declared.desk.Desk.{Desk}
use Rattle.gs_shell_desk.specs.declared.wire.Wire.{Wire}
use Rattle.gs_shell_grammar.specs.Grammar.{Request, line_request}
use Rattle.gs_shell_grammar.specs.Grammar as lines
use Rattle.gs_shell_grammar.specs.declared.command.Restarted.{Restarted}
use Rattle.gs_shell_grammar.specs.declared.command.Restarted.TheVariants as restarted
use Rattle.gs_shell_line.specs.Line.{content, longest_line}
use Rattle.gs_shell_script.specs.Run.{AnswersIfShort, AnswersLine, Runs}
use Rattle.gs_nodes.specs.Nodes.{with_master}
use Rattle.gs_laws_image.specs.Seen.{SeenDisk, bytes_seen, failures_seen, desk_seen, nodes_seen, place_seen, way_seen, wire_seen}
use Rattle.gs_laws_image.proofs.Masters.{reopens_seen}
use Rattle.gs_laws_image.proofs.Worlds.{server_seen}
use Rattle.gs_laws_image.proofs.Ways.{carries_seen, delivered_seen, ends_seen, sends_seen, ticks_whole_seen, whole_seen}

-- ---- by a test, and by an option

either : {P Q R S : Type 0} (b : Bool) → (P → R) → (Q → S) → Either b P Q → Either b R S
either true this that h = this h
either false this that h = that h

matched : {A P R : Type 0} (o : Option A) (Q S : A → Type 0) → (P → R) → ((x : A) → Q x → S x) → MatchOption o P Q → MatchOption o R S
matched None Q S none some h = none h
matched (Some x) Q S none some h = some x h

module _ {D : Type 0} (seen : D → List ℕ) (failures : D → ℕ) (counts : ℕ × ℕ) where
  abbrev the_way : Way D → Way SeenDisk
  the_way w = way_seen seen failures counts w

  abbrev the_wire : Wire D → Wire SeenDisk
  the_wire w = wire_seen seen failures counts w

  abbrev the_desk : Desk D → Desk SeenDisk
  the_desk d = desk_seen seen failures counts d

  -- ---- what is done to nodes and messages

  refused : {A : Type 0} (why : Refusal) (old : Way D) (result : Result A Refusal) (new : Way D) → (result ≡ Err why) × (new ≡ old) → (result ≡ Err why) × (the_way new ≡ the_way old)
  refused why old result new (is, same) = (is, ap the_way same)

  for_server : {A : Type 0} (number : ℕ) (does : Result A Refusal → Way D → Type 0) (done : Result A Refusal → Way SeenDisk → Type 0) (old : Way D) (result : Result A Refusal) (new : Way D)
      → (does result new → done result (the_way new)) → ForServer number does old result new → ForServer number done (the_way old) result (the_way new)
  for_server number does done old result new goes h = either (is_server number old) goes (refused refusals.Range old result new) h

  of_handle : (handle : ℕ) (does : Result (Unit {0}) Refusal → Way D → Type 0) (done : Result (Unit {0}) Refusal → Way SeenDisk → Type 0) (old : Way D) (result : Result (Unit {0}) Refusal) (new : Way D)
      → (does result new → done result (the_way new)) → OfHandle handle does old result new → OfHandle handle done (the_way old) result (the_way new)
  of_handle handle does done old result new goes h = either (handle == 0) (refused refusals.NoReplica old result new) goes h

  at_one : (number : ℕ) (does : Server → Result (Unit {0}) Refusal → Server → Type 0) (old : Way D) (result : Result (Unit {0}) Refusal) (new : Way D) → AtOne number does old result new
      → AtOne number does (the_way old) result (the_way new)
  at_one number does old result new (nodes, h, same) = (nodes_seen seen failures counts nodes, server_seen seen failures counts number does old.nodes result nodes h, ap the_way same)

  hands_over : (message : Message) (old : Way D) (result : Result (Unit {0}) Refusal) (new : Way D) → HandsOver seen failures message old result new
      → HandsOver bytes_seen failures_seen message (the_way old) result (the_way new)
  hands_over message old result new (inl (memory, short)) = inl (memory, ap the_way short)
  hands_over message old result new (inr (mid, first, follows)) = inr (the_way mid, delivered_seen seen failures counts message old result mid first, whole_seen seen failures counts mid new follows)

  beats : (report : Message) (old : Way D) (result : Result ℕ Refusal) (new : Way D) → Beats seen failures report old result new → Beats bytes_seen failures_seen report (the_way old) result (the_way new)
  beats report old result new (inl (memory, short)) = inl (memory, ap the_way short)
  beats report old result new (inr (mid, sends, follows, is)) = inr (the_way mid, sends_seen seen failures counts report (record old { drops = 0 }) mid sends, whole_seen seen failures counts mid new follows, is)

  master_restarts : (old : Way D) (result : Result (Unit {0}) Refusal) (new : Way D) → MasterRestarts seen failures old result new → MasterRestarts bytes_seen failures_seen (the_way old) result (the_way new)
  master_restarts old result new r = record {
    place = place_seen seen failures counts r.place;
    turn = r.turn;
    mid = the_way r.mid;
    opens = reopens_seen seen failures counts old.nodes.config old.nodes.master r.turn r.place r.opens;
    ends = ends_seen seen failures counts r.turn (with_nodes (with_master r.place old.nodes) old) result r.mid r.ends;
    delivers = whole_seen seen failures counts r.mid new r.delivers;
  }

  restarts : (node : Restarted) (old : Way D) (result : Result (Unit {0}) Refusal) (new : Way D) → Restarts seen failures node old result new
      → Restarts bytes_seen failures_seen node (the_way old) result (the_way new)
  restarts restarted.Master old result new h = master_restarts old result new h
  restarts (restarted.Server number) old result new h =
      let does : Server → Result (Unit {0}) Refusal → Server → Type 0 = λ s result after. (result ≡ Ok tt) × (after ≡ servers.restart s) in
      for_server number (AtOne number does old) (AtOne number does (the_way old)) old result new (at_one number does old result new) h

  befalls : (number handle : ℕ) (does : Server → Result (Unit {0}) Refusal → Server → Type 0) (old : Way D) (result : Result (Unit {0}) Refusal) (new : Way D)
      → ForServer number (OfHandle handle (AtOne number does old) old) old result new → ForServer number (OfHandle handle (AtOne number does (the_way old)) (the_way old)) (the_way old) result (the_way new)
  befalls number handle does old result new h =
      for_server number (OfHandle handle (AtOne number does old) old) (OfHandle handle (AtOne number does (the_way old)) (the_way old)) old result new
      (of_handle handle (AtOne number does old) (AtOne number does (the_way old)) old result new (at_one number does old result new)) h

  beats_at : (number : ℕ) (old : Way D) (result : Result ℕ Refusal) (new : Way D) → BeatsAt seen failures number old result new → BeatsAt bytes_seen failures_seen number (the_way old) result (the_way new)
  beats_at number old result new h =
      for_server number (BeatsOf seen failures number old) (BeatsOf bytes_seen failures_seen number (the_way old)) old result new
      (matched (slice_get old.nodes.servers number) (λ s. Beats seen failures (servers.beat s) old result new) (λ s. Beats bytes_seen failures_seen (servers.beat s) (the_way old) result (the_way new))
      (refused refusals.Range old result new) (λ s. beats (servers.beat s) old result new)) h

  hands_over_at : (number : ℕ) (old : Way D) (result : Result (Unit {0}) Refusal) (new : Way D) → HandsOverAt seen failures number old result new
      → HandsOverAt bytes_seen failures_seen number (the_way old) result (the_way new)
  hands_over_at number old result new h =
      matched (held_at number old.held) (λ message. HandsOver seen failures message old result new) (λ message. HandsOver bytes_seen failures_seen message (the_way old) result (the_way new))
      (refused refusals.Range old result new) (λ message. hands_over message old result new) h

  nodes_do : (request : Request) (old : Way D) (result : Result Answer Refusal) (new : Way D) → NodesDo seen failures request old result new → NodesDo bytes_seen failures_seen request (the_way old) result (the_way new)
  nodes_do (lines.Beat number) old result new (drops, h, is) = (drops, beats_at number old drops new h, is)
  nodes_do lines.Tick old result new (is, h) = (is, ticks_whole_seen seen failures counts old new h)
  nodes_do (lines.At moment) old result new (is, same) = (is, ap the_way same)
  nodes_do (lines.Hold kind) old result new (is, same) = (is, ap the_way same)
  nodes_do (lines.Restart node) old result new (said, h, is) = (said, restarts node old said new h, is)
  nodes_do (lines.Lose server handle) old result new (said, h, is) = (said, befalls server handle (λ s result after. Does (servers.lose handle s) result s after) old said new h, is)
  nodes_do (lines.Damage server handle block) old result new (said, h, is) = (said, befalls server handle (λ s result after. Does (servers.damage handle block s) result s after) old said new h, is)
  nodes_do (lines.Deliver number) old result new (said, h, is) = (said, hands_over_at number old said new h, is)
  nodes_do request old result new never = absurd never

  -- ---- what a client asks

  abbrev the_pair : Client × Wire D → Client × Wire SeenDisk
  the_pair p = (p.0, the_wire p.1)

  asks_seen : (old : Client × Wire D) (request : Asked) (reply : Reply) (new : Client × Wire D) → Asks (carried seen failures) old request reply new
      → Asks (carried bytes_seen failures_seen) (the_pair old) request reply (the_pair new)
  asks_seen old request reply new (inl (below, client, h)) = inl (below, client, carries_seen seen failures counts (next_request old.0) request (way_of old.1) reply (way_of new.1) h)
  asks_seen old request reply new (inr (last, is, same)) = inr (last, is, ap the_pair same)

  follows_seen : {A : Type 0} (call : Call A) (old : Client × Wire D) (result : Result A Refusal) (new : Client × Wire D) → FollowsDialogue (Asks (carried seen failures)) call old result new
      → FollowsDialogue (Asks (carried bytes_seen failures_seen)) call (the_pair old) result (the_pair new)
  follows_seen (Say said) old result new (is, same) = (is, ap the_pair same)
  follows_seen (Ask asked more) old result new (reply, mid, first, rest) = (reply, the_pair mid, asks_seen old asked reply mid first, follows_seen (more reply) mid result new rest)
  follows_seen (Grow rest) old result new (inl h) = inl (follows_seen rest old result new h)
  follows_seen (Grow rest) old result new (inr (memory, same)) = inr (memory, ap the_pair same)

  -- ---- a line

  comes_if : (o : Option (Call Answer)) (request : Request) (old new : Client × Wire D) (result : Result Answer Refusal)
      → MatchOption o ((new.0 ≡ old.0) × NodesDo seen failures request (way_of old.1) result (way_of new.1)) (λ call. FollowsDialogue (Asks (carried seen failures)) call old result new)
      → MatchOption o ((new.0 ≡ old.0) × NodesDo bytes_seen failures_seen request (the_way (way_of old.1)) result (the_way (way_of new.1))) (λ call. FollowsDialogue (Asks (carried bytes_seen failures_seen)) call (the_pair old) result (the_pair new))
  comes_if None request old new result (client, does) = (client, nodes_do request (way_of old.1) result (way_of new.1) does)
  comes_if (Some call) request old new result follows = follows_seen call old result new follows

  comes_seen : (request : Request) (old : Desk D) (result : Result Answer Refusal) (new : Desk D) → Comes seen failures request old result new → Comes bytes_seen failures_seen request (the_desk old) result (the_desk new)
  unfolding Comes
  comes_seen request old result new h = comes_if (asked_by old.caller.client.chunk request) request (old.caller.client, old.wire) (new.caller.client, new.wire) result h

  request_seen : (o : Option Request) (old : Desk D) (text : List ℕ) (new : Desk D)
      → MatchOption o (IsText (Err refusals.BadLine) text × (new ≡ old)) (λ request. (answer : Result Answer Refusal) × Comes seen failures request old answer new × IsText answer text)
      → MatchOption o (IsText (Err refusals.BadLine) text × (the_desk new ≡ the_desk old)) (λ request. (answer : Result Answer Refusal) × Comes bytes_seen failures_seen request (the_desk old) answer (the_desk new) × IsText answer text)
  request_seen None old text new (said, same) = (said, ap the_desk same)
  request_seen (Some request) old text new (answer, h, said) = (answer, comes_seen request old answer new h, said)

  text_seen : (line : List ℕ) (old : Desk D) (text : List ℕ) (new : Desk D) → AnswersText seen failures old line text new → AnswersText bytes_seen failures_seen (the_desk old) line text (the_desk new)
  unfolding AnswersText
  text_seen line old text new (inl (memory, same)) = inl (memory, ap the_desk same)
  text_seen line old text new (inr h) = inr (request_seen (line_request line) old text new h)

  short_seen : (b : Bool) (line : List ℕ) (old : Desk D) (text : List ℕ) (new : Desk D) → AnswersIfShort (AnswersText seen failures) b old line text new
      → AnswersIfShort (AnswersText bytes_seen failures_seen) b (the_desk old) line text (the_desk new)
  short_seen true line old text new h = text_seen line old text new h
  short_seen false line old text new (bad, same) = (bad, ap the_desk same)

  pub line_seen : (whole : List ℕ) (old : Desk D) (text : List ℕ) (new : Desk D) → AnswersLine (AnswersText seen failures) old whole text new
      → AnswersLine (AnswersText bytes_seen failures_seen) (the_desk old) whole text (the_desk new)
  line_seen whole old text new (inl (memory, same)) = inl (memory, ap the_desk same)
  line_seen whole old text new (inr h) = inr (short_seen (nat_le (length (content whole)) longest_line) (content whole) old text new h)

  pub lines_seen : (all texts : List (List ℕ)) (old new : Desk D) → Runs (AnswersText seen failures) old all texts new → Runs (AnswersText bytes_seen failures_seen) (the_desk old) all texts (the_desk new)
  lines_seen [] [] old new same = ap the_desk same
  lines_seen [] (text ∷ texts) old new never = absurd never
  lines_seen (line ∷ others) [] old new never = absurd never
  lines_seen (line ∷ others) (text ∷ texts) old new (mid, h, rest) = (the_desk mid, line_seen line old text mid h, lines_seen others texts mid new rest)
