-- What a line comes to, and a script, where memory isn't wanting and no disk fails.
use Rattle.std.proofs.Common.{◌≡◌, ◌≢◌, ◌∙◌, ◌+◌, ◌<◌, ◌≤◌, ◌==◌, ℕ, Bool, true, false, List, [], if◌then◌else◌, Option, Some, None, MatchOption, Result, Ok, Err, refl, sym, ap, subst, inl, inr, arith, slice_get, slice_set}
use Rattle.std.proofs.lemmas.Bool.{false≢true}
use Rattle.std.proofs.lemmas.Bool.Decides.{nat_tests}
use Rattle.gs_base.specs.declared.numbers.ClientId.{ClientId}
use Rattle.gs_base.specs.declared.refusal.Refusal.{Refusal}
use Rattle.gs_base.specs.declared.refusal.Refusal.TheVariants as refusals
use Rattle.gs_base.specs.Calls.{Does}
use Rattle.gs_shell_calls.specs.Asked.{answered, asked_by, done}
use Rattle.gs_shell_calls.specs.Texts.{answer_text}
use Rattle.gs_shell_calls.specs.declared.answer.Answer.{Answer}
use Rattle.gs_shell_calls.specs.declared.answer.Answer.TheVariants as answers
use Rattle.gs_client.specs.Sends.{Sends as Asks, last_number, next_request}
use Rattle.gs_client.specs.Trees.{Call}
use Rattle.gs_client.specs.declared.client.Client.{Client}
use Rattle.gs_client.specs.declared.link.Reply.{Reply}
use Rattle.gs_client.specs.declared.link.Reply.TheVariants as replies
use Rattle.gs_shell_desk.specs.Answering.{AnswersText, IsText}
use Rattle.gs_shell_desk.specs.Lines.{AtOne, Beats, BeatsOf, Comes, Either, ForServer, HandsOver, MasterRestarts, NodesDo, OfHandle, carried, held_at, is_server}
use Rattle.gs_shell_desk.specs.Ways.{Ends, TicksWhole, Way, way_of, with_nodes}
use Rattle.gs_shell_desk.specs.declared.desk.Desk.{Desk}
use Rattle.gs_shell_desk.specs.declared.wire.Wire.{Wire}
use Rattle.gs_client_dialogue.specs.Dialogues.{Ask, FollowsDialogue, Grow, Say, run}
use Rattle.gs_shell_grammar.specs.Grammar.{Request, line_request}
use Rattle.gs_shell_grammar.specs.Grammar as lines
use Rattle.gs_shell_grammar.specs.declared.command.Restarted.TheVariants as restarted
use Rattle.gs_master.specs.Masters.{MasterOf}
use Rattle.gs_master.specs.declared.turn.Turn.{Turn as Told}
use Rattle.gs_msg.specs.declared.event.Request.{Request as Asked}
use Rattle.gs_msg.specs.declared.message.Message.{Message}
use Rattle.gs_laws_world.specs.lasting.Lasting.{failures_at}
use Rattle.gs_shell_script.specs.Run.{memory_text}
use Rattle.gs_server.specs.Servers.{Server}
use Rattle.gs_server.specs.Servers as servers
use Rattle.gs_master_spec.specs.Handling.{reopened}
use Rattle.gs_nodes.specs.Happenings.{AtServer, Reopens}
use Rattle.gs_nodes.specs.Nodes.{Nodes, with_master, with_servers}
use Rattle.gs_nodes.specs.declared.place.MasterPlace.TheVariants.{Standing}
use Rattle.gs_laws_scripts.specs.answers.Meeting.{HasMaster, IsCalm, IsPlain, Stands, plain_of}
use Rattle.gs_laws_scripts.proofs.lemmas.answers.PlainEnduring.{IsOurs, AllAsked, Endures, EnduresRestarts, has}
use Rattle.gs_laws_scripts.specs.answers.Plain.{Met, Plain, PlainDesk}
use Rattle.gs_laws_scripts.specs.answers.Plain as plain
use Rattle.gs_laws_scripts.proofs.lemmas.answers.PlainEvents.{Comes as Becomes, master_ends, node_ends, plain_same, server_leaves}
use Rattle.gs_laws_scripts.proofs.lemmas.answers.PlainReopens.{reopened_cases}
use Rattle.gs_laws_scripts.proofs.lemmas.answers.PlainSends.{end_stays, send_plain, send_stays, wanting, was_enough}
use Rattle.gs_laws_scripts.proofs.lemmas.answers.PlainWays.{Gives, Leads, carries, chain, delivers_one, delivers_whole, only, onward, ticks_whole}

below_not : (n m : ℕ) → n < m → (n == m) ≡ false
below_not n m low = grind (arith, nat_tests)

is_it : (n m : ℕ) → n ≡ m → (n == m) ≡ true
is_it n m same = grind (arith, nat_tests)

one_above : (n m : ℕ) → n < m → n + 1 ≤ m
one_above n m low = omega arith

between : (a b c : ℕ) → a ≤ b → b ≤ c → c ≡ a → b ≡ a
between a b c low high same = omega arith

joined : (a b c : ℕ) → a ≤ b → b ≤ c → a ≤ c
joined a b c low high = omega arith

itself : (n : ℕ) → n ≤ n
itself n = omega arith

-- what befalls a server
befallen : (r : Result Server Refusal) (said : Result (Unit {0}) Refusal) (s after : Server) → Does r said s after → (said ≡ plain.met r) × (after ≡ plain.left r s)
befallen (Ok a) (Ok u) s after is = (refl, is)
befallen (Err e) (Err f) s after (same, still) = (ap (λ (x : Refusal). Err x) same, still)
befallen (Ok a) (Err f) s after none = absurd none
befallen (Err e) (Ok u) s after none = absurd none

too_many : (m place mid new old : ℕ) → m < place → mid ≡ place → mid ≤ new → new ≡ old → old ≡ m → ⊥
too_many m place mid new old more here high sound was = omega arith

-- a turn that is refused for want of memory leaves a way that is short of it
pub short_end : {D : Type 0} (turn : Result Told Refusal) (old : Way D) (said : Result (Unit {0}) Refusal) (new : Way D) → turn ≡ Err refusals.Memory → Ends turn old said new → new.is_short ≡ false → ⊥
short_end turn old said new memory ends enough =
    let gone = subst (λ (t : Result Told Refusal). Ends t old said new) memory ends in wanting refusals.Memory old new refl gone.0 enough

module _ {D : Type 0} (seen : D → List ℕ) (failures : D → ℕ) (me : ClientId) (size : ℕ) (MayAsk : Asked → Type 0) (Good : Way D → Type 0) (e : Endures seen failures me size MayAsk Good) where
  abbrev GivesHere : {R : Type 0} → Type 0 → Way D → R → Way D → (Plain → R × Plain) → Type 0
  GivesHere G old r new f = Gives seen failures me size MayAsk Good e G old r new f

  abbrev LeadsHere : Way D → Way D → (Plain → Plain) → Type 0
  LeadsHere old new f = Leads seen failures me size MayAsk Good e old new f

  -- ---- a client's calls

  abbrev pub Held : Type 0
  Held = Client × Wire D

  pub record Arrives {R : Type 0} (new : Held) (r : R) (q : R × PlainDesk) : Type 0 where
    pub result : r ≡ q.0
    pub client : new.0 ≡ q.1.0
    pub plain : IsPlain (way_of new.1) q.1.1
    pub good : Good (way_of new.1)

  -- the same at a desk
  pub record GivesAt {R : Type 0} (old : Held) (r : R) (new : Held) (f : PlainDesk → R × PlainDesk) : Type 0 where
    pub short : (way_of old.1).is_short ≡ true → (way_of new.1).is_short ≡ true
    pub rises : failures_at failures (way_of old.1).nodes.master ≤ failures_at failures (way_of new.1).nodes.master
    pub same : IsCalm failures (way_of old.1) (way_of new.1) → (m : MasterOf D) → Stands (way_of old.1) m → Good (way_of old.1)
        → Arrives new r (f (old.0, plain_of m.state (way_of old.1)))

  nothing_at : {R : Type 0} (old new : Held) (r s : R) → r ≡ s → new ≡ old → GivesAt old r new (λ w. (s, w))
  nothing_at {R} old new r s is same = record {
    short = λ short. ap (λ (h : Held). (way_of h.1).is_short) same ∙ short;
    rises = subst (λ (h : Held). failures_at failures (way_of old.1).nodes.master ≤ failures_at failures (way_of h.1).nodes.master) (sym same) (itself (failures_at failures (way_of old.1).nodes.master));
    same = λ calm m stands good. record {
      result = is;
      client = ap (λ (h : Held). h.0) same;
      plain = plain_same seen failures (way_of old.1) (way_of new.1) m stands (ap (λ (h : Held). way_of h.1) same);
      good = subst (λ (h : Held). Good (way_of h.1)) (sym same) good;
    };
  }

  pub desk_path : {R : Type 0} (r : R) (c : Client) (p : Plain) (q : R × PlainDesk) → r ≡ q.0 → c ≡ q.1.0 → q.1.1 ≡ p → ◌≡◌ {A = R × PlainDesk} (r, (c, p)) q
  desk_path r c p q first second third = λ i. (first i, (second i, sym third i))

  module _ {R S : Type 0} (old mid new : Held) (r : R) (s : S) (f : PlainDesk → R × PlainDesk) (g : R → PlainDesk → S × PlainDesk)
      (first : GivesAt old r mid f) (second : GivesAt mid s new (g r)) where
    abbrev both : PlainDesk → S × PlainDesk
    both w = g (f w).0 (f w).1

    both_same : IsCalm failures (way_of old.1) (way_of new.1) → (m : MasterOf D) → Stands (way_of old.1) m → Good (way_of old.1)
        → Arrives new s (both (old.0, plain_of m.state (way_of old.1)))
    both_same calm m stands good =
        let q = f (old.0, plain_of m.state (way_of old.1)) in
        let one = first.same (record { enough = was_enough (way_of mid.1) (way_of new.1) second.short calm.enough; sound = quiet }) m stands good in
        let there = one.plain in
        let path = desk_path r mid.0 (plain_of there.master.state (way_of mid.1)) q one.result one.client there.plain in
        let two = second.same (record { enough = calm.enough; sound = calm.sound ∙ sym quiet }) there.master there.stands one.good in
        subst (λ (x : R × PlainDesk). Arrives new s (g x.0 x.1)) path two
      where
        quiet : failures_at failures (way_of mid.1).nodes.master ≡ failures_at failures (way_of old.1).nodes.master
        quiet = between (failures_at failures (way_of old.1).nodes.master) (failures_at failures (way_of mid.1).nodes.master) (failures_at failures (way_of new.1).nodes.master) first.rises second.rises calm.sound

    then_at : GivesAt old s new both
    then_at = record {
      short = λ short. second.short (first.short short);
      rises = joined (failures_at failures (way_of old.1).nodes.master) (failures_at failures (way_of mid.1).nodes.master) (failures_at failures (way_of new.1).nodes.master) first.rises second.rises;
      same = both_same;
    }

  -- one request
  served : (old new : Held) (request : Asked) (reply : Reply) → IsOurs me size old.0 → MayAsk request → Asks (carried seen failures) old request reply new
      → GivesAt old reply new (λ w. plain.serves w request)
  served old new request reply mine may (inl (low, next, c)) =
      let g = carries seen failures me size MayAsk Good e (next_request old.0) request (way_of old.1) reply (way_of new.1) mine.0 (one_above old.0.last.number last_number low) may c in
      let other = below_not old.0.last.number last_number low in
      record {
        short = g.short;
        rises = g.rises;
        same = λ calm m stands good.
            let p = plain_of m.state (way_of old.1) in
            let refused : Reply × PlainDesk = (replies.Refused refusals.Exhausted, (old.0, p)) in
            let goes = plain.going_on old.0 (plain.carries (next_request old.0) request p) in
            let done = g.same calm m stands good in
            subst (λ (c : Bool). Arrives new reply (if c then refused else goes)) (sym other) (record { result = done.0.result; client = next; plain = done.0.plain; good = done.1 });
      }
  served old new request reply mine may (inr (last, is, same)) =
      let still = nothing_at old new reply (replies.Refused refusals.Exhausted) is same in
      let it = is_it old.0.last.number last_number last in
      record {
        short = still.short;
        rises = still.rises;
        same = λ calm m stands good.
            let p = plain_of m.state (way_of old.1) in
            let refused : Reply × PlainDesk = (replies.Refused refusals.Exhausted, (old.0, p)) in
            let goes = plain.going_on old.0 (plain.carries (next_request old.0) request p) in
            subst (λ (c : Bool). Arrives new reply (if c then refused else goes)) (sym it)
            (still.same calm m stands good);
      }

  pub still_mine : (old new : Held) (request : Asked) (reply : Reply) → IsOurs me size old.0 → Asks (carried seen failures) old request reply new → IsOurs me size new.0
  still_mine old new request reply mine (inl (low, next, c)) = (ap (λ (c : Client). c.last.client) next ∙ mine.0, ap (λ (c : Client). c.chunk) next ∙ mine.1)
  still_mine old new request reply mine (inr (last, is, same)) = (ap (λ (h : Held). h.0.last.client) same ∙ mine.0, ap (λ (h : Held). h.0.chunk) same ∙ mine.1)

  -- a whole call, for which memory isn't wanting
  called : {A : Type 0} (call : Call A) (old new : Held) (result : Result A Refusal) → IsOurs me size old.0 → AllAsked MayAsk call → (result ≡ Err refusals.Memory → ⊥)
      → FollowsDialogue (Asks (carried seen failures)) call old result new → GivesAt old result new (run plain.serves call)
  called (Say said) old new result mine may enough (is, same) = nothing_at old new result said is same
  called (Ask request more) old new result mine (may, others) enough (reply, mid, sends, rest) =
      then_at old mid new reply result (λ w. plain.serves w request) (λ answer. run plain.serves (more answer))
      (served old mid request reply mine may sends)
      (called (more reply) mid new result (still_mine old mid request reply mine sends) (others reply) enough rest)
  called (Grow rest) old new result mine may enough (inl more) = called rest old new result mine may enough more
  called (Grow rest) old new result mine may enough (inr (memory, same)) = absurd (enough memory)

  -- ---- nodes and messages

  -- of a line it is enough that it isn't forgotten that memory was wanting
  pub record GivesLine {R : Type 0} (old : Way D) (r : R) (new : Way D) (f : Plain → R × Plain) : Type 0 where
    pub short : old.is_short ≡ true → new.is_short ≡ true
    pub same : IsCalm failures old new → (m : MasterOf D) → Stands old m → Good old → Becomes new r (f (plain_of m.state old)) × Good new

  line_of : {R : Type 0} (old : Way D) (r : R) (new : Way D) (f : Plain → R × Plain) → GivesHere (Good old) old r new f → GivesLine old r new f
  line_of old r new f g = record { short = g.short; same = g.same }

  still_said : {R : Type 0} (old new : Way D) (r s : R) → r ≡ s → new ≡ old → GivesLine old r new (λ p. (s, p))
  still_said old new r s is same = record {
    short = λ short. ap (λ (w : Way D). w.is_short) same ∙ short;
    same = λ calm m stands good. (record { result = is; plain = plain_same seen failures old new m stands same }, subst Good (sym same) good);
  }

  -- a test that chooses
  chosen : {R : Type 0} (c : Bool) (old : Way D) (r s : R) (new : Way D) (f : Plain → R × Plain) → (P : Type 0) → (P → GivesLine old r new f) → Either c P ((r ≡ s) × (new ≡ old))
      → GivesLine old r new (λ p. if c then f p else (s, p))
  chosen true old r s new f P does h = does h
  chosen false old r s new f P does h = still_said old new r s h.0 h.1

  abbrev enough_for : {R : Type 0} → Way D → R → (Plain → R × Plain) → (Plain → R × Plain) → Type 0
  enough_for old r f g = (m : MasterOf D) → f (plain_of m.state old) ≡ g (plain_of m.state old)

  for_server : {A : Type 0} (number : ℕ) (does : Result A Refusal → Way D → Type 0) (old : Way D) (result : Result A Refusal) (new : Way D) (f : Plain → Result A Refusal × Plain)
      → (does result new → GivesLine old result new f) → ForServer number does old result new → GivesLine old result new (plain.for_server number f)
  for_server number does old result new f each h =
      let g = chosen (is_server number old) old result (Err refusals.Range) new f (does result new) each h in
      record { short = g.short; same = λ calm m stands good. g.same calm m stands good }

  of_handle : (handle : ℕ) (does : Result (Unit {0}) Refusal → Way D → Type 0) (old : Way D) (result : Result (Unit {0}) Refusal) (new : Way D) (f : Plain → Met)
      → (does result new → GivesLine old result new f) → OfHandle handle does old result new → GivesLine old result new (plain.of_handle handle f)
  of_handle handle does old result new f each h = handled (handle == 0) old result new f (does result new) each h
    where
      handled : (c : Bool) (old : Way D) (result : Result (Unit {0}) Refusal) (new : Way D) (f : Plain → Met) (P : Type 0) → (P → GivesLine old result new f)
          → Either c ((result ≡ Err refusals.NoReplica) × (new ≡ old)) P → GivesLine old result new (λ p. if c then (Err refusals.NoReplica, p) else f p)
      handled true old result new f P each h = still_said old new result (Err refusals.NoReplica) h.0 h.1
      handled false old result new f P each h = each h

  befalls_comes : (o : Option Server) (id : ℕ) (does : Server → Result (Unit {0}) Refusal → Server → Type 0) (what : Server → Result Server Refusal) (nodes : Nodes D) (m : MasterOf D) (old : Way D)
      (result : Result (Unit {0}) Refusal) (new : Way D) → ((s : Server) (said : Result (Unit {0}) Refusal) (after : Server) → does s said after → (said ≡ plain.met (what s)) × (after ≡ plain.left (what s) s)) → Stands old m
      → MatchOption o ((nodes ≡ old.nodes) × (result ≡ Err refusals.Range)) (λ s. (after : Server) × (nodes ≡ with_servers (slice_set old.nodes.servers id after) old.nodes) × does s result after)
      → new ≡ with_nodes nodes old → new.is_short ≡ false → Becomes new result (plain.befalls_found o id what (plain_of m.state old))
  befalls_comes None id does what nodes m old result new each stands (same, range) is enough =
      record { result = range; plain = plain_same seen failures old new m stands (is ∙ ap (λ (n : Nodes D). with_nodes n old) same) }
  befalls_comes (Some s) id does what nodes m old result new each stands (after, at, did) is enough =
      let done = each s result after did in
      record {
        result = done.0;
        plain =
            subst (λ (x : Server). IsPlain new (plain.with_server id x (plain_of m.state old))) done.1
            (node_ends seen failures [] (with_servers (slice_set old.nodes.servers id after) old.nodes) m old new stands refl refl (is ∙ ap (λ (n : Nodes D). with_nodes n old) at) enough);
      }

  at_one : (id : ℕ) (does : Server → Result (Unit {0}) Refusal → Server → Type 0) (what : Server → Result Server Refusal) (old : Way D) (result : Result (Unit {0}) Refusal) (new : Way D)
      → ((s : Server) (said : Result (Unit {0}) Refusal) (after : Server) → does s said after → (said ≡ plain.met (what s)) × (after ≡ plain.left (what s) s))
      → ((nodes : Nodes D) → Good old → AtServer id does old.nodes result nodes → HasMaster nodes → Good (with_nodes nodes old)) → AtOne id does old result new → GivesLine old result new (plain.befalls id what)
  at_one id does what old result new each goes (nodes, at, is) = record {
    short = λ short. ap (λ (w : Way D). w.is_short) is ∙ short;
    same = λ calm m stands good. (
      befalls_comes (slice_get old.nodes.servers id) id does what nodes m old result new each stands at is calm.enough,
      subst Good (sym is) (goes nodes good at (m, server_leaves seen failures id does old.nodes result nodes at ∙ stands.place)),
    );
  }

  -- a message that was held back
  passing : {R : Type 0} (r : R) (old new : Way D) (f : Plain → Plain) → LeadsHere old new f → GivesHere (Good old) old r new (λ p. (r, f p))
  passing r old new f g = record {
    short = g.short;
    rises = g.rises;
    same = λ calm m stands good. let done = g.same calm m stands good in (record { result = refl; plain = done.0.plain }, done.1);
  }

  hands_over : (o : Option Message) (number : ℕ) (old : Way D) (result : Result (Unit {0}) Refusal) (new : Way D) → held_at number old.held ≡ o
      → MatchOption o ((result ≡ Err refusals.Range) × (new ≡ old)) (λ message. HandsOver seen failures message old result new) → GivesLine old result new (plain.handed_over o)
  hands_over None number old result new found (range, same) = still_said old new result (Err refusals.Range) range same
  hands_over (Some message) number old result new found (inl (memory, short)) = record {
    short = λ _. ap (λ (w : Way D). w.is_short) short;
    same = λ calm m stands good. absurd (false≢true (sym calm.enough ∙ ap (λ (w : Way D). w.is_short) short));
  }
  hands_over (Some message) number old result new found (inr (mid, d, rest)) =
      line_of old result new (plain.handed_over (Some message))
      (chain seen failures me size MayAsk Good e (Good old) old mid new result result (plain.delivered message) (λ x p. (x, plain.delivers_whole p))
      (delivers_one seen failures me size MayAsk Good e message old old result mid (inr (number, found, refl)) d)
      (passing result mid new plain.delivers_whole (delivers_whole seen failures me size MayAsk Good e mid new rest)))

  -- a report
  beats_of : (o : Option Server) (number : ℕ) (old : Way D) (result : Result ℕ Refusal) (new : Way D) → slice_get old.nodes.servers number ≡ o
      → MatchOption o ((result ≡ Err refusals.Range) × (new ≡ old)) (λ s. Beats seen failures (servers.beat s) old result new) → GivesLine old result new (plain.beats_found o)
  beats_of None number old result new found (range, same) = still_said old new result (Err refusals.Range) range same
  beats_of (Some s) number old result new found (inl (memory, short)) = record {
    short = λ _. ap (λ (w : Way D). w.is_short) short;
    same = λ calm m stands good. absurd (false≢true (sym calm.enough ∙ ap (λ (w : Way D). w.is_short) short));
  }
  beats_of (Some s) number old result new found (inr (mid, sends, rest, is)) =
      let none = record old { drops = 0 } in
      let sent = send_stays (servers.beat s) none mid sends in
      let first : GivesHere (Good old) none tt mid (only (plain.sends (servers.beat s))) = record {
        short = sent.short;
        rises = subst (λ (n : Nodes D). failures_at failures none.nodes.master ≤ failures_at failures n.master) (sym sent.nodes) (itself (failures_at failures none.nodes.master));
        same = λ calm m stands good. (
          record {
            result = refl;
            plain = record {
              master = m;
              stands = record { place = ap (λ (n : Nodes D). n.master) sent.nodes ∙ stands.place; config = stands.config ∙ sym (ap (λ (n : Nodes D). n.config) sent.nodes) };
              plain = sym (send_plain m.state (servers.beat s) none mid sends calm.enough);
            };
          },
          e.beats number s old mid good found sends (record { enough = calm.enough; sound = calm.sound }) (m, ap (λ (n : Nodes D). n.master) sent.nodes ∙ stands.place),
        );
      } in
      let all = chain seen failures me size MayAsk Good e (Good old) none mid new tt tt (only (plain.sends (servers.beat s))) (λ _. only plain.delivers_whole)
      first (delivers_whole seen failures me size MayAsk Good e mid new rest) in
      record {
        short = all.short;
        same = λ calm m stands good.
            let done = all.same (record { enough = calm.enough; sound = calm.sound }) m (record { place = stands.place; config = stands.config }) good in
            (record { result = is ∙ ap (λ (p : Plain). Ok p.drops) (sym done.0.plain.plain); plain = done.0.plain }, done.1);
      }

  in_answer : {A : Type 0} (answer : A → Answer) (old : Way D) (said : Result A Refusal) (result : Result Answer Refusal) (new : Way D) (f : Plain → Result A Refusal × Plain)
      → result ≡ answered answer said → GivesLine old said new f → GivesLine old result new (λ p. plain.answered_by answer (f p))
  in_answer answer old said result new f is g = record {
    short = g.short;
    same = λ calm m stands good.
        let done = g.same calm m stands good in (record { result = is ∙ ap (answered answer) done.0.result; plain = done.0.plain }, done.1);
  }

  changed : (old new now : Way D) (answer : Result Answer Refusal) (f : Plain → Plain) → new ≡ now → (old.is_short ≡ true → now.is_short ≡ true)
      → ((m : MasterOf D) → Stands old m → Good old → IsPlain now (f (plain_of m.state old)) × Good now) → (result : Result Answer Refusal) → result ≡ answer → GivesLine old result new (λ p. (answer, f p))
  changed old new now answer f same short each result is = record {
    short = λ h. ap (λ (w : Way D). w.is_short) same ∙ short h;
    same = λ calm m stands good. let done = each m stands good in (record { result = is; plain = subst (λ w. IsPlain w (f (plain_of m.state old))) (sym same) done.0 }, subst Good (sym same) done.1);
  }

  master_restarts : EnduresRestarts seen failures Good → (old : Way D) (said : Result (Unit {0}) Refusal) (new : Way D) → MasterRestarts seen failures old said new
      → GivesLine old said new (plain.restarts_node restarted.Master)
  master_restarts restarts old said new r =
      let kept = end_stays r.turn (with_nodes (with_master r.place old.nodes) old) said r.mid r.ends in
      let rest = delivers_whole seen failures me size MayAsk Good e r.mid new r.delivers in
      record {
        short = λ short. rest.short (kept.short short);
        same = λ calm m stands good.
            let there : Reopens seen failures old.nodes.config (Standing m) r.turn r.place = subst (λ at. Reopens seen failures old.nodes.config at r.turn r.place) stands.place r.opens in
            let enough = was_enough r.mid new rest.short calm.enough in
            let here : failures_at failures r.mid.nodes.master ≡ failures_at failures r.place = ap (λ (n : Nodes D). failures_at failures n.master) kept.nodes in
            let was : failures_at failures old.nodes.master ≡ failures_at failures (Standing m) = ap (failures_at failures) stands.place in
            elim (reopened_cases seen failures old m r.turn r.place stands (e.good old m stands good) (restarts.written old m stands good) there) [
              | inl more ↦ absurd (too_many (failures_at failures (Standing m)) (failures_at failures r.place) (failures_at failures r.mid.nodes.master) (failures_at failures new.nodes.master) (failures_at failures old.nodes.master)
                  more here rest.rises calm.sound was)
              | inr (inl memory) ↦ absurd (short_end r.turn (with_nodes (with_master r.place old.nodes) old) said r.mid memory r.ends enough)
              | inr (inr (turn, same)) ↦
                  let quiet : failures_at failures r.mid.nodes.master ≡ failures_at failures old.nodes.master = here ∙ same ∙ sym was in
                  let t = reopened old.nodes.config (plain.begun_again m.state) in
                  let done = master_ends seen failures t m r.turn r.place old said r.mid stands turn r.ends enough in
                  onward seen failures me size MayAsk Good e r.mid new said said (plain.at_master t (plain_of m.state old)) (λ x p. (x, plain.delivers_whole p)) done
                  (restarts.restarts r.place r.turn old said r.mid good r.opens r.ends (record { enough = enough; sound = quiet }) (has r.mid (plain.at_master t (plain_of m.state old)).1 done.plain))
                  (passing said r.mid new plain.delivers_whole rest) (record { enough = calm.enough; sound = calm.sound ∙ sym quiet })
            ];
      }

  all_tick : (old : Way D) (result answer : Result Answer Refusal) (new : Way D) → result ≡ answer → TicksWhole seen failures old new → GivesLine old result new (λ p. (answer, plain.ticks_whole p))
  all_tick old result answer new is ticks =
      subst (λ r. GivesLine old r new (λ p. (answer, plain.ticks_whole p))) (sym is)
      (line_of old answer new (λ p. (answer, plain.ticks_whole p)) (passing answer old new plain.ticks_whole (ticks_whole seen failures me size MayAsk Good e old new ticks)))

  nodes_do : (line : List ℕ) (request : Request) → line_request line ≡ Some request → (request ≡ lines.Restart restarted.Master → EnduresRestarts seen failures Good)
      → (old : Way D) (result : Result Answer Refusal) (new : Way D) → NodesDo seen failures request old result new → GivesLine old result new (plain.nodes_do request)
  nodes_do line (lines.Beat number) asked restarts old result new (drops, beats, is) =
      in_answer answers.Number old drops result new (plain.beats number) is
      (for_server number (BeatsOf seen failures number old) old drops new (λ p. plain.beats_found (slice_get p.servers number) p)
      (λ h. let g = beats_of (slice_get old.nodes.servers number) number old drops new refl h in record { short = g.short; same = λ calm m stands good. g.same calm m stands good }) beats)
  nodes_do line lines.Tick asked restarts old result new (is, ticks) = all_tick old result (Ok answers.Done) new is ticks
  nodes_do line (lines.At moment) asked restarts old result new (is, same) =
      changed old new (record old { moment = record { 0 = moment } }) (Ok answers.Done) (λ p. record p { moment = record { 0 = moment } }) same (λ short. short)
      (λ m stands good. (record { master = m; stands = record { place = stands.place; config = stands.config }; plain = refl }, e.comes_at line moment old good asked)) result is
  nodes_do line (lines.Hold kind) asked restarts old result new (is, same) =
      changed old new (record old { kind = kind }) (Ok answers.Done) (λ p. record p { kind = kind }) same (λ short. short)
      (λ m stands good. (record { master = m; stands = record { place = stands.place; config = stands.config }; plain = refl }, e.holds kind old good)) result is
  nodes_do line (lines.Restart restarted.Master) asked restarts old result new (said, does, is) =
      in_answer done old said result new (plain.restarts_node restarted.Master) is (master_restarts (restarts refl) old said new does)
  nodes_do line (lines.Restart (restarted.Server number)) asked restarts old result new (said, does, is) =
      in_answer done old said result new (plain.restarts_node (restarted.Server number)) is
      (for_server number (AtOne number (λ s result after. (result ≡ Ok tt) × (after ≡ servers.restart s)) old) old said new (plain.befalls number (λ s. Ok (servers.restart s)))
      (λ h. at_one number (λ s result after. (result ≡ Ok tt) × (after ≡ servers.restart s)) (λ s. Ok (servers.restart s)) old said new (λ s said after did. did)
      (λ nodes good at has. e.server_restarts number old said nodes good at has) h) does)
  nodes_do line (lines.Lose server handle) asked restarts old result new (said, does, is) =
      in_answer done old said result new (plain.for_server server (plain.of_handle handle (plain.befalls server (servers.lose handle)))) is
      (for_server server (OfHandle handle (AtOne server (λ s result after. Does (servers.lose handle s) result s after) old) old) old said new (plain.of_handle handle (plain.befalls server (servers.lose handle)))
      (λ h. of_handle handle (AtOne server (λ s result after. Does (servers.lose handle s) result s after) old) old said new (plain.befalls server (servers.lose handle))
      (λ h. at_one server (λ s result after. Does (servers.lose handle s) result s after) (servers.lose handle) old said new (λ s said after did. befallen (servers.lose handle s) said s after did)
      (λ nodes good at has. e.loses server handle old said nodes good at has) h) h) does)
  nodes_do line (lines.Damage server handle block) asked restarts old result new (said, does, is) =
      in_answer done old said result new (plain.for_server server (plain.of_handle handle (plain.befalls server (servers.damage handle block)))) is
      (for_server server (OfHandle handle (AtOne server (λ s result after. Does (servers.damage handle block s) result s after) old) old) old said new (plain.of_handle handle (plain.befalls server (servers.damage handle block)))
      (λ h. of_handle handle (AtOne server (λ s result after. Does (servers.damage handle block s) result s after) old) old said new (plain.befalls server (servers.damage handle block))
      (λ h. at_one server (λ s result after. Does (servers.damage handle block s) result s after) (servers.damage handle block) old said new (λ s said after did. befallen (servers.damage handle block s) said s after did)
      (λ nodes good at has. e.damages server handle block old said nodes good at has) h) h) does)
  nodes_do line (lines.Deliver number) asked restarts old result new (said, does, is) =
      in_answer done old said result new (λ p. plain.handed_over (held_at number p.held) p) is
      (let g = hands_over (held_at number old.held) number old said new refl does in record { short = g.short; same = λ calm m stands good. g.same calm m stands good })
  nodes_do line request asked restarts old result new does = absurd does

  -- ---- a line

  -- what a line comes to at a desk
  pub record GivesDesk {R : Type 0} (old : Held) (r : R) (new : Held) (f : PlainDesk → R × PlainDesk) : Type 0 where
    pub short : (way_of old.1).is_short ≡ true → (way_of new.1).is_short ≡ true
    pub same : IsCalm failures (way_of old.1) (way_of new.1) → (m : MasterOf D) → Stands (way_of old.1) m → Good (way_of old.1)
        → Arrives new r (f (old.0, plain_of m.state (way_of old.1)))

  desk_of : {R : Type 0} (old : Held) (r : R) (new : Held) (f : PlainDesk → R × PlainDesk) → GivesAt old r new f → GivesDesk old r new f
  desk_of old r new f g = record { short = g.short; same = g.same }

  at_nodes : {R : Type 0} (old : Held) (r : R) (new : Held) (f : Plain → R × Plain) → new.0 ≡ old.0 → GivesLine (way_of old.1) r (way_of new.1) f → GivesDesk old r new (λ w. plain.at_desk w.0 (f w.1))
  at_nodes old r new f client g = record {
    short = g.short;
    same = λ calm m stands good. let done = g.same calm m stands good in record { result = done.0.result; client = client; plain = done.0.plain; good = done.1 };
  }

  module _ (line : List ℕ) (restarts : line_request line ≡ Some (lines.Restart restarted.Master) → EnduresRestarts seen failures Good) where
    comes_as : (o : Option (Call Answer)) (request : Request) (old : Held) (result : Result Answer Refusal) (new : Held) → line_request line ≡ Some request → IsOurs me size old.0 → asked_by old.0.chunk request ≡ o
        → (result ≡ Err refusals.Memory → ⊥)
        → MatchOption o ((new.0 ≡ old.0) × NodesDo seen failures request (way_of old.1) result (way_of new.1)) (λ call. FollowsDialogue (Asks (carried seen failures)) call old result new)
        → GivesDesk old result new (plain.comes_as o request)
    comes_as None request old result new asked mine is enough (client, does) =
        at_nodes old result new (plain.nodes_do request) client
        (nodes_do line request asked (λ same. restarts (asked ∙ ap (λ (r : Request). Some r) same)) (way_of old.1) result (way_of new.1) does)
    comes_as (Some call) request old result new asked mine is enough follows =
        desk_of old result new (run plain.serves call) (called call old new result mine (e.calls line request call asked (ap (λ (n : ℕ). asked_by n request) (sym mine.1) ∙ is)) enough follows)

    abbrev held_of : Desk D → Held
    held_of desk = (desk.caller.client, desk.wire)

    comes : (request : Request) (old : Desk D) (result : Result Answer Refusal) (new : Desk D) → line_request line ≡ Some request → IsOurs me size old.caller.client → (result ≡ Err refusals.Memory → ⊥)
        → Comes seen failures request old result new → GivesDesk (held_of old) result (held_of new) (plain.comes request)
    unfolding Comes
    comes request old result new asked mine enough h =
        let g = comes_as (asked_by old.caller.client.chunk request) request (held_of old) result (held_of new) asked mine refl enough h in
        record { short = g.short; same = λ calm m stands good. g.same calm m stands good }

    in_text : (answer : Result Answer Refusal) (text : List ℕ) (old new : Held) (f : PlainDesk → Result Answer Refusal × PlainDesk) → text ≡ answer_text answer → GivesDesk old answer new f → GivesDesk old text new (λ w. plain.in_text (f w))
    in_text answer text old new f is g = record {
      short = g.short;
      same = λ calm m stands good.
          let done = g.same calm m stands good in record { result = is ∙ ap answer_text done.result; client = done.client; plain = done.plain; good = done.good };
    }

    pub same_desk : {R : Type 0} (old new : Desk D) (r s : R) → r ≡ s → new ≡ old → GivesDesk (held_of old) r (held_of new) (λ w. (s, w))
    same_desk old new r s is same = desk_of (held_of old) r (held_of new) (λ w. (s, w)) (nothing_at (held_of old) (held_of new) r s is (ap held_of same))

    the_text : (answer : Result Answer Refusal) (text : List ℕ) → text ≢ memory_text → IsText answer text → text ≡ answer_text answer
    the_text answer text enough (inl is) = is
    the_text answer text enough (inr memory) = absurd (enough memory)

    answers_as : (o : Option Request) (old : Desk D) (text : List ℕ) (new : Desk D) → line_request line ≡ o → IsOurs me size old.caller.client → text ≢ memory_text
        → MatchOption o (IsText (Err refusals.BadLine) text × (new ≡ old)) (λ request. (answer : Result Answer Refusal) × Comes seen failures request old answer new × IsText answer text)
        → GivesDesk (held_of old) text (held_of new) (plain.answers_as o)
    answers_as None old text new asked mine enough (said, same) =
        same_desk old new text (answer_text (Err refusals.BadLine)) (the_text (Err refusals.BadLine) text enough said) same
    answers_as (Some request) old text new asked mine enough (answer, h, said) =
        let is = the_text answer text enough said in
        in_text answer text (held_of old) (held_of new) (plain.comes request) is
        (comes request old answer new asked mine (λ memory. enough (is ∙ ap answer_text memory)) h)

    pub text_answers : (old : Desk D) (text : List ℕ) (new : Desk D) → IsOurs me size old.caller.client → text ≢ memory_text → AnswersText seen failures old line text new
        → GivesDesk (held_of old) text (held_of new) (plain.answers_as (line_request line))
    unfolding AnswersText
    text_answers old text new mine enough (inl (memory, same)) = absurd (enough memory)
    text_answers old text new mine enough (inr h) = answers_as (line_request line) old text new refl mine enough h
