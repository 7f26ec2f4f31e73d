-- A part of a chunk that a client takes was given for its request.
use Rattle.std.proofs.Common.{if◌then◌else◌, ◌≡◌, ◌∙◌, ◌⊎◌, inl, inr, ◌≤◌, ◌<◌, ℕ, Bool, true, false, List, [], ◌∷◌, Option, Some, None, MatchOption, Result, Ok, Err, refl, sym, ap, subst, arith, nat_le}
use Rattle.std.specs.Prelude.{Vec}
use Rattle.std.specs.declared.alloc.Global.{Global}
use Rattle.std.proofs.lemmas.Bool.Decides.{nat_tests}
use Rattle.gs_base.specs.declared.numbers.Moment.{Moment}
use Rattle.gs_base.specs.declared.numbers.ReqId.{ReqId}
use Rattle.gs_base.specs.declared.numbers.Stamp.{Stamp}
use Rattle.gs_base.specs.declared.refusal.Refusal.{Refusal}
use Rattle.gs_base.specs.declared.refusal.Refusal.TheVariants as refusals
use Rattle.gs_client.specs.Nodes.{Asks, Node, messages_of, request_of}
use Rattle.gs_client.specs.declared.link.Reply.{Reply}
use Rattle.gs_client.specs.declared.link.Reply.TheVariants as replies
use Rattle.gs_msg.specs.declared.body.Body.TheVariants as bodies
use Rattle.gs_msg.specs.declared.body.Given.{Given}
use Rattle.gs_msg.specs.declared.chunk.Asked.{Asked as Wanted}
use Rattle.gs_msg.specs.declared.chunk.Chunk.TheVariants as chunks
use Rattle.gs_msg.specs.declared.event.Event.{Event}
use Rattle.gs_msg.specs.declared.event.Happening.TheVariants as happenings
use Rattle.gs_msg.specs.declared.event.Request.{Request}
use Rattle.gs_msg.specs.declared.event.Request.TheVariants as requests
use Rattle.gs_msg.specs.declared.message.Message.{Message}
use Rattle.gs_msg.specs.declared.message.MsgId.{MsgId}
use Rattle.gs_msg.specs.declared.node.NodeId.{NodeId}
use Rattle.gs_msg.specs.declared.node.NodeId.TheVariants as nodes
use Rattle.gs_nodes.specs.Happenings.{AtClient, ClientAsks, client_in}
use Rattle.gs_nodes.specs.Nodes.{Nodes}
use Rattle.gs_world.proofs.Reaching.{HaveSizes}
use Rattle.gs_world.specs.Histories.{Happens, History, Tells, Upshot, asked as asked_out}
use Rattle.gs_world.specs.Runs.{Comes, Step}
use Rattle.gs_world.specs.Sent.{IsSent}
use Rattle.gs_laws_chunks.specs.answers.Asked.{HasAsked}
use Rattle.gs_laws_chunks.proofs.lemmas.answers.Asked.{asked_now, found_now, own_id}
use Rattle.gs_laws_chunks.proofs.lemmas.answers.Parts.{asking, with_client}
use Rattle.gs_laws_chunks.specs.accounts.Accounts.{Account}
use Rattle.gs_laws_chunks.specs.accounts.Reading.{BytesAreFetched}
use Rattle.gs_laws_chunks.specs.accounts.Running.{IsReached, Moves, Runs, Setup}
use Rattle.gs_laws_lift.proofs.lemmas.stores.Beginning.{begins_none}
use Rattle.gs_laws_looks.proofs.lemmas.fetching.Asking.{Fetches, IsItsRequest, are_asked, asked_on, asks_then, who_asks}
use Rattle.gs_laws_looks.proofs.lemmas.fetching.Coming.{ClientCame, HasCome, run_came}
use Rattle.gs_laws_looks.proofs.lemmas.fetching.Sending.{GoesOut, WasSent, reach, sent_before_or_now, sent_when}
use Rattle.gs_laws_world.specs.steady.Unarmed.{IsUnarmed}
use Rattle.gs_laws_world.specs.steady.Asking.{asks_at}
use Rattle.gs_laws_looks.specs.fetching.Fetched.{AsksForAPart, PartsAreGiven, WasGiven}

node_is : {a b : Node} → ◌≡◌ {A = Option Node} (Some a) (Some b) → a ≡ b
node_is is = cc

clash : (a b c : ℕ) → a ≤ b → c < a → c ≡ b → ⊥
clash a b c first second is = omega arith

too_low : (number last : ℕ) → number ≤ last → nat_le number last ≡ false → ⊥
too_low number last low is = grind (arith, nat_tests)

-- ---- what a client asks, where it is taken

module _ {D : Type 0} (x : Setup D) (old asked : History D) (moment : Moment) (req : ReqId) (request : Request) (node : Node) (there : client_in old.nodes.clients req.client ≡ Some node) (fresh : node.last < req.number) where
  record AskedSo : Type 0 where
    behind : asked.nodes ≡ with_client req.client (asking node req.number) old.nodes

  not_old : (number last : ℕ) → last < number → nat_le number last ≡ false
  not_old number last less = grind (arith, nat_tests)

  asks_one : (out : Vec Message Global) (after : Node) → asked.nodes ≡ with_client req.client after old.nodes → (b : Bool) → b ≡ false
      → Asks (if b then Err refusals.Old else Ok (asking node req.number, messages_of (request_of node req.number) request)) (Ok out) node after → AskedSo
  asks_one out after same true not never = absurd never
  asks_one out after same false not (is, sends) = record { behind = same ∙ ap (λ (n : Node). with_client req.client n old.nodes) is }

  asks_found : (o : Option Node) → o ≡ Some node → (out : Vec Message Global)
      → MatchOption o ((asked.nodes ≡ old.nodes) × (◌≡◌ {A = Result (Vec Message Global) Refusal} (Ok out) (Err refusals.Range))) (λ n. (after : Node) × (asked.nodes ≡ with_client req.client after old.nodes) × ClientAsks req.number request n (Ok out) after) → AskedSo
  asks_found None is out at = absurd cc
  asks_found (Some n) is out (after, same, a) = asks_one out after same (nat_le req.number node.last) (not_old req.number node.last fresh) (subst (λ k. ClientAsks req.number request k (Ok out) after) (node_is is) a)

  asks_all : (out : Result (Vec Message Global) Refusal) (by : NodeId) → AtClient req.client (Err refusals.Range) (ClientAsks req.number request) old.nodes out asked.nodes → Tells x.seen x.failures x.armed moment by (asked_out out) old.sent (Ok tt) asked.sent → AskedSo
  asks_all (Ok out) by at tells = asks_found (client_in old.nodes.clients req.client) there out at
  asks_all (Err refusal) by at tells = absurd (never tells.1)
    where
      never : ◌≡◌ {A = Result (Unit {0}) Refusal} (Ok tt) (Err refusal) → ⊥
      never is = cc

  asked_so : (happens : Happens x.seen x.failures x.armed (asks_at moment req request) old (Ok tt) asked) → AskedSo
  asked_so happens = (let at = happens.at.1 in asks_all at.0 happens.by at.1 (subst (λ (o : Upshot). Tells x.seen x.failures x.armed moment happens.by o old.sent (Ok tt) asked.sent) at.2 happens.tells))

-- ---- who is given what

module _ (sizes : HaveSizes) {D : Type 0} (x : Setup D) (fetched : BytesAreFetched x) (unarmed : IsUnarmed x.armed) where
  first_reached : (now : History D) (a : Account) (r : IsReached x now a) → IsReached x r.begun r.first
  first_reached now a r = record { apart = r.apart; begun = r.begun; first = r.first; steps = []; begins = r.begins; runs = (refl, refl) }

  -- each part that was ever asked for is asked for under a request that its client has asked
  fetch_asked : (now : History D) (a : Account) → IsReached x now a → (m : Message) (req : ReqId) (handle : ℕ) (stamp : Stamp) (epoch : ℕ) (want : Wanted) → Fetches m req handle stamp epoch want → IsSent m now.sent → HasAsked now.nodes.clients req
  fetch_asked now a r m req handle stamp epoch want is sent = by_when (sent_when x r.steps r.begun now r.first a m r.runs sent)
    where
      by_when : IsSent m r.begun.sent ⊎ WasSent x r.steps r.begun r.first now a m → HasAsked now.nodes.clients req
      by_when (inl before) = absurd (begins_none x.seen x.failures x.armed sizes x.config (λ req. []) x.clients x.disks r.begun r.begins.given.new r.begins.begins (λ (n : Message). ⊥) before.0 m before.1)
      by_when (inr w) =
          let there = reach x w.before r.begun w.now r.first w.c (first_reached now a r) w.first in
          let asked = who_asks m req handle stamp epoch want is x w.now w.next w.c w.d w.event w.said there w.moves w.happens w.sends in
          asked_on x unarmed w.after w.next now w.d a w.rest req
          (asks_then x unarmed m req handle stamp epoch want is w.now w.next w.c w.d w.event w.said there w.moves w.happens w.sends (are_asked x unarmed sizes w.now w.c there).numbered asked)

  -- and so is what was ever given
  given_asked : (now : History D) (a : Account) → IsReached x now a → (m : Message) (req : ReqId) (given : Given) → m.body ≡ bodies.Bytes req (Ok given) → IsSent m now.sent → HasAsked now.nodes.clients req
  given_asked now a r m req given is sent = by_when (sent_when x r.steps r.begun now r.first a m r.runs sent)
    where
      by_when : IsSent m r.begun.sent ⊎ WasSent x r.steps r.begun r.first now a m → HasAsked now.nodes.clients req
      by_when (inl before) = absurd (begins_none x.seen x.failures x.armed sizes x.config (λ req. []) x.clients x.disks r.begun r.begins.given.new r.begins.begins (λ (n : Message). ⊥) before.0 m before.1)
      by_when (inr w) =
          let there = reach x w.before r.begun w.now r.first w.c (first_reached now a r) w.first in
          let f = fetched w.now w.next w.c w.d w.event w.said req given there w.moves w.happens (m, w.sends, is) in
          asked_on x unarmed (Comes w.event ∷ w.after) w.now now w.c a (w.next, w.d, w.moves, w.rest) req (fetch_asked w.now w.c there f.message req f.chunk f.stamp f.epoch f.asked f.asks (f.id, f.was))

  -- ---- its request

  module _ (old asked new : History D) (a b c : Account) (moment : Moment) (req : ReqId) (to handle : ℕ) (stamp : Stamp) (epoch : ℕ) (want : Wanted) (r : IsReached x old a) (ask : AsksForAPart x old a moment req (requests.Fetch to handle stamp epoch want) asked b) where
    abbrev request : Request
    request = requests.Fetch to handle stamp epoch want

    abbrev its_event : Event
    its_event = asks_at moment req request

    none_asked : {Z : Type 0} → HasAsked old.nodes.clients req → Z
    none_asked has = absurd (clash req.number has.node.last ask.node.last has.number ask.fresh (ap (λ (n : Node). n.last) (node_is (sym ask.there ∙ has.there))))

    behind : asked.nodes ≡ with_client req.client (asking ask.node req.number) old.nodes
    behind = (asked_so x old asked moment req request ask.node ask.there ask.fresh ask.happens).behind

    there : IsReached x asked b
    there = reach x (Comes its_event ∷ []) old asked a b r (asked, b, ask.moves, (refl, refl))

    has_asked : HasAsked asked.nodes.clients req
    has_asked = subst (λ (n : Nodes D). HasAsked n.clients req) (sym behind) (asked_now old.nodes.clients req.client ask.node (asking ask.node req.number) req.number ask.there (itself req.number))
      where
        itself : (n : ℕ) → n ≤ n
        itself n = omega arith

    own_now : (n : Node) → client_in asked.nodes.clients req.client ≡ Some n → n ≡ asking ask.node req.number
    own_now n is = node_is (sym is ∙ ap (λ (k : Nodes D). client_in k.clients req.client) behind ∙ found_now old.nodes.clients req.client ask.node (asking ask.node req.number) ask.there)

    none_came : ClientCame asked req.client
    none_came n is given reply = absurd (none_yet (sym (ap (λ (k : Node). k.reply) (own_now n is)) ∙ reply))
      where
        none_yet : ◌≡◌ {A = Option Reply} None (Some (replies.Given given)) → ⊥
        none_yet e = cc

    event_is : {e f : Event} → Comes e ≡ Comes f → e ≡ f
    event_is e = cc

    -- what goes out as it asks gives nothing
    asking_gives : {Z : Type 0} (m : Message) (given : Given) → m.body ≡ bodies.Bytes req (Ok given) → GoesOut x.seen x.failures x.armed (Comes its_event) old asked m → Z
    asking_gives m given is out =
        let same : its_event ≡ out.event = event_is out.is in
        let f = fetched old asked a b out.event out.said req given r (subst (λ (e : Event). Moves x (Comes e) old a asked b) same ask.moves) out.happens (m, out.sends, is) in
        absurd (never f.id (ap (λ (e : Event). e.happening) same ∙ f.comes))
      where
        never : (id : MsgId) → happenings.Ask req request ≡ happenings.Deliver id → ⊥
        never id e = cc

    none_given : {Z : Type 0} (m : Message) (given : Given) → m.body ≡ bodies.Bytes req (Ok given) → IsSent m asked.sent → Z
    none_given {Z} m given is sent = by_when (sent_before_or_now x.seen x.failures x.armed (Comes its_event) old asked m (Ok tt, ask.happens) sent)
      where
        by_when : IsSent m old.sent ⊎ GoesOut x.seen x.failures x.armed (Comes its_event) old asked m → Z
        by_when (inl before) = none_asked (given_asked old a r m req given is before)
        by_when (inr out) = asking_gives m given is out

    -- a message that asks for a part under this request is its own
    record IsOwn (m : Message) (chunk : ℕ) (at : Stamp) (within : ℕ) (asks : Wanted) : Type 0 where
      to_it : m.to ≡ nodes.Server to
      body : m.body ≡ bodies.About handle (chunks.Fetch req stamp epoch want)

    module _ (m : Message) (chunk : ℕ) (at : Stamp) (within : ℕ) (asks : Wanted) (is : Fetches m req chunk at within asks) where
      own_one : (by : ReqId) (its : Request) (n : Node) → happenings.Ask req request ≡ happenings.Ask by its → IsItsRequest m req chunk at within asks is (request_of n by.number) its → IsOwn m chunk at within asks
      own_one by its n same i =
          let one : request ≡ requests.Fetch i.to chunk at within asks = its_is same ∙ i.request_is in
          record { to_it = ap (λ (k : Message). k.to) i.message ∙ ap nodes.Server (sym (tos one)); body = is ∙ sym (λ j. bodies.About (handles one j) (chunks.Fetch req (stamps one j) (epochs one j) (wants one j))) }
        where
          its_is : happenings.Ask req request ≡ happenings.Ask by its → request ≡ its
          its_is e = cc

          tos : {other : ℕ} → request ≡ requests.Fetch other chunk at within asks → to ≡ other
          tos e = cc

          handles : {other : ℕ} → request ≡ requests.Fetch other chunk at within asks → handle ≡ chunk
          handles e = cc

          stamps : {other : ℕ} → request ≡ requests.Fetch other chunk at within asks → stamp ≡ at
          stamps e = cc

          epochs : {other : ℕ} → request ≡ requests.Fetch other chunk at within asks → epoch ≡ within
          epochs e = cc

          wants : {other : ℕ} → request ≡ requests.Fetch other chunk at within asks → want ≡ asks
          wants e = cc

      asked_own : GoesOut x.seen x.failures x.armed (Comes its_event) old asked m → IsOwn m chunk at within asks
      asked_own out =
          let same : its_event ≡ out.event = event_is out.is in
          let who = who_asks m req chunk at within asks is x old asked a b out.event out.said r (subst (λ (e : Event). Moves x (Comes e) old a asked b) same ask.moves) out.happens out.sends in
          own_one who.by who.request who.node (ap (λ (e : Event). e.happening) same ∙ who.asks) who.its

      -- none is asked for later
      later_none : {Z : Type 0} (steps : List Step) (now : History D) (d : Account) → Runs x steps asked b now d → WasSent x steps asked b now d m → Z
      later_none steps now d runs w =
          let here = reach x w.before asked w.now b w.c there w.first in
          let who = who_asks m req chunk at within asks is x w.now w.next w.c w.d w.event w.said here w.moves w.happens w.sends in
          let own : who.node.id ≡ who.by.client = own_id w.now.nodes.clients (are_asked x unarmed sizes w.now w.c here).numbered who.by.client who.node who.found in
          let client : who.by.client ≡ req.client = sym own ∙ ap (λ (q : ReqId). q.client) who.its.own_is in
          let number : who.by.number ≡ req.number = ap (λ (q : ReqId). q.number) who.its.own_is in
          let has = asked_on x unarmed w.before asked w.now b w.c w.first req has_asked in
          let same : has.node ≡ who.node = node_is (sym has.there ∙ subst (λ k. client_in w.now.nodes.clients k ≡ Some who.node) client who.found) in
          absurd (too_low req.number who.node.last (subst (λ (n : Node). req.number ≤ n.last) same has.number) (subst (λ k. nat_le k who.node.last ≡ false) number who.new))

      own_then : (steps : List Step) (now : History D) (d : Account) → Runs x steps asked b now d → IsSent m now.sent → IsOwn m chunk at within asks
      own_then steps now d runs sent = by_when (sent_when x steps asked now b d m runs sent)
        where
          by_step : IsSent m old.sent ⊎ GoesOut x.seen x.failures x.armed (Comes its_event) old asked m → IsOwn m chunk at within asks
          by_step (inl before) = none_asked (fetch_asked old a r m req chunk at within asks is before)
          by_step (inr out) = asked_own out

          by_when : IsSent m asked.sent ⊎ WasSent x steps asked b now d m → IsOwn m chunk at within asks
          by_when (inl before) = by_step (sent_before_or_now x.seen x.failures x.armed (Comes its_event) old asked m (Ok tt, ask.happens) before)
          by_when (inr w) = later_none steps now d runs w

    module _ (steps : List Step) (node : Node) (given : Given) (runs : Runs x steps asked b new c) (found : client_in new.nodes.clients req.client ≡ Some node) (last : node.last ≡ req.number) (reply : node.reply ≡ Some (replies.Given given)) where
      come : HasCome new req.client node.last given
      come = run_came x sizes unarmed steps asked new b c there runs req.client none_came node found given reply

      says : come.message.body ≡ bodies.Bytes req (Ok given)
      says = come.says ∙ (λ i. bodies.Bytes (record { client = req.client; number = last i }) (Ok given))

      by_when : IsSent come.message asked.sent ⊎ WasSent x steps asked b new c come.message → WasGiven x steps asked b new c req to handle stamp epoch want given
      by_when (inl before) = none_given come.message given says before
      by_when (inr w) =
          let here = reach x w.before asked w.now b w.c there w.first in
          let f = fetched w.now w.next w.c w.d w.event w.said req given here w.moves w.happens (come.message, w.sends, says) in
          let own = own_then f.message f.chunk f.stamp f.epoch f.asked f.asks w.before w.now w.c w.first (f.id, f.was) in
          record {
            before = w.before;
            now = w.now;
            c = w.c;
            event = w.event;
            said = w.said;
            next = w.next;
            d = w.d;
            after = w.after;
            parts = w.parts;
            first = w.first;
            moves = w.moves;
            happens = w.happens;
            rest = w.rest;
            id = f.id;
            message = f.message;
            comes = f.comes;
            was = f.was;
            to_it = own.to_it;
            asks = own.body;
            gives = (come.message, w.sends, says);
          }

      was_given : WasGiven x steps asked b new c req to handle stamp epoch want given
      was_given = by_when (sent_when x steps asked new b c come.message runs come.sent)

pub parts_are_given : HaveSizes → {D : Type 0} (x : Setup D) → BytesAreFetched x → PartsAreGiven x
parts_are_given sizes x fetched unarmed old asked new a b c moment req to handle stamp epoch want steps node given r ask runs found last reply =
    was_given sizes x fetched unarmed old asked new a b c moment req to handle stamp epoch want r ask steps node given runs found last reply
