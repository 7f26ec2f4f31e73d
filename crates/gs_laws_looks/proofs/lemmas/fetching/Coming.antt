-- What a client was given came in a message.
use Rattle.std.proofs.Common.{if◌then◌else◌, ◌≡◌, ◌∙◌, ◌⊎◌, inl, inr, ◌-◌, ◌==◌, ℕ, Bool, true, false, List, [], ◌∷◌, Option, Some, None, MatchOption, Result, Ok, Err, cond, refl, sym, ap, subst, arith}
use Rattle.std.proofs.lemmas.Bool.Decides.{nat_tests}
use Rattle.gs_base.specs.declared.numbers.ClientId.{ClientId}
use Rattle.gs_base.specs.declared.numbers.ReqId.{ReqId}
use Rattle.gs_base.specs.declared.refusal.Refusal.{Refusal}
use Rattle.gs_client.specs.Nodes.{Node, answered, given_up, hears, is_of, takes}
use Rattle.gs_client.specs.declared.link.Reply.{Reply}
use Rattle.gs_client.specs.declared.link.Reply.TheVariants as replies
use Rattle.gs_msg.specs.declared.body.Body.{Body}
use Rattle.gs_msg.specs.declared.body.Body.TheVariants as bodies
use Rattle.gs_msg.specs.declared.body.Given.{Given}
use Rattle.gs_msg.specs.declared.message.Message.{Message}
use Rattle.gs_nodes.specs.Happenings.{client_in}
use Rattle.gs_nodes.specs.Nodes.{Nodes}
use Rattle.gs_world.specs.Histories.{History}
use Rattle.gs_world.specs.Runs.{Comes, Goes, Step, Takes}
use Rattle.gs_world.specs.Sent.{IsSent}
use Rattle.gs_laws_chunks.proofs.lemmas.answers.Answered.{set_client}
use Rattle.gs_laws_chunks.proofs.lemmas.answers.Asked.{Numbered_all, Waits, own_id}
use Rattle.gs_laws_chunks.proofs.lemmas.answers.Parts.{Armed, Asked, Heard, Opened, Part, Rested, Served, Ticked, Told, asking, hearing, part_of, with_client}
use Rattle.gs_world.proofs.Reaching.{HaveSizes}
use Rattle.gs_laws_chunks.specs.accounts.Accounts.{Account}
use Rattle.gs_laws_chunks.specs.accounts.Running.{IsReached, Runs, Setup}
use Rattle.gs_laws_looks.proofs.lemmas.fetching.Asking.{are_asked}
use Rattle.gs_laws_looks.proofs.lemmas.fetching.Sending.{reach, stays_sent}
use Rattle.gs_laws_world.specs.steady.Unarmed.{IsUnarmed}

-- a message that was sent gives this for a request
pub record HasCome {D : Type 0} (h : History D) (client : ClientId) (number : ℕ) (given : Given) : Type 0 where
  pub message : Message
  pub sent : IsSent message h.sent
  pub says : message.body ≡ bodies.Bytes (record { client = client; number = number }) (Ok given)

-- of what a client has
abbrev pub NodeCame : {D : Type 0} → History D → ClientId → Node → Type 0
NodeCame h client n = (given : Given) → n.reply ≡ Some (replies.Given given) → HasCome h client n.last given

abbrev pub ClientCame : {D : Type 0} → History D → ClientId → Type 0
ClientCame h client = (n : Node) → client_in h.nodes.clients client ≡ Some n → NodeCame h client n

reply_is : {a b : Reply} → ◌≡◌ {A = Option Reply} (Some a) (Some b) → a ≡ b
reply_is is = cc

none_yet : {r : Reply} → ◌≡◌ {A = Option Reply} None (Some r) → ⊥
none_yet is = cc

given_is : {a b : Given} → replies.Given a ≡ replies.Given b → a ≡ b
given_is is = cc

number_is : (a b : ℕ) → (a == b) ≡ true → a ≡ b
number_is a b is = grind (arith, nat_tests)

-- a client that takes a reply waits for its request
both_are : (req : ReqId) (id : ClientId) (waiting : Option ℕ) → is_of req id waiting ≡ true → (number : ℕ) × (waiting ≡ Some number) × (req ≡ record { client = id; number = number })
both_are req id None is = absurd cc
both_are req id (Some number) is = by_test (req.client.0 == id.0) refl is
  where
    by_test : (b : Bool) → (req.client.0 == id.0) ≡ b → cond b (req.number == number) false ≡ true → (number_of : ℕ) × (Some number ≡ Some number_of) × (req ≡ record { client = id; number = number_of })
    by_test true same is = (let c = number_is req.client.0 id.0 same in let n = number_is req.number number is in (number, refl, λ i. record { client = record { 0 = c i }; number = n i }))
    by_test false other is = absurd cc

module _ {D : Type 0} (old new : History D) (client : ClientId) (n : Node) (message : Message) (sent : IsSent message new.sent) (own : n.id ≡ client) (waits : Waits n) (before : NodeCame new client n) where
  -- what isn't a part is no part
  took_other : (req : ReqId) (reply : Reply) → ((given : Given) → reply ≡ replies.Given given → HasCome new client n.last given) → NodeCame new client (takes req reply n)
  took_other req reply so = by_test (is_of req n.id n.waiting)
    where
      by_test : (b : Bool) → NodeCame new client (if b then record { id = n.id; last = n.last; waiting = None; reply = Some reply } else n)
      by_test true = λ given is. so given (reply_is is)
      by_test false = before

  took_part : (req : ReqId) (given : Given) → message.body ≡ bodies.Bytes req (Ok given) → NodeCame new client (takes req (replies.Given given) n)
  took_part req given says = by_test (is_of req n.id n.waiting) refl
    where
      by_test : (b : Bool) → is_of req n.id n.waiting ≡ b → NodeCame new client (if b then record { id = n.id; last = n.last; waiting = None; reply = Some (replies.Given given) } else n)
      by_test true is = λ other same.
          let w = both_are req n.id n.waiting is in
          let number : w.0 ≡ n.last = waits w.0 w.1 in
          let its : req ≡ record { client = client; number = n.last } = w.2 ∙ (λ i. record { client = own i; number = number i }) in
          record { message = message; sent = sent; says = says ∙ (λ i. bodies.Bytes (its i) (Ok (given_is (reply_is same) i))) }
      by_test false is = before

  by_answer : {A : Type 0} (as_reply : A → Reply) → ((x : A) (given : Given) → as_reply x ≡ replies.Given given → ⊥) → (req : ReqId) (result : Result A Refusal) → NodeCame new client (takes req (answered as_reply result) n)
  by_answer as_reply never req (Ok x) = took_other req (as_reply x) (λ given is. absurd (never x given is))
  by_answer as_reply never req (Err refusal) = took_other req (replies.Refused refusal) (λ given is. absurd cc)

  heard_came : (body : Body) → message.body ≡ body → NodeCame new client (hearing (hears body n) n)
  heard_came (bodies.Reply req result) is = by_answer replies.Answer (λ x given same. cc) req result
  heard_came (bodies.Done req result) is = by_answer replies.Outcome (λ x given same. cc) req result
  heard_came (bodies.Bytes req (Ok given)) is = took_part req given is
  heard_came (bodies.Bytes req (Err refusal)) is = took_other req (replies.Refused refusal) (λ given same. absurd cc)
  heard_came (bodies.About handle said) is = before
  heard_came (bodies.Call req call) is = before
  heard_came (bodies.Push req bytes) is = before
  heard_came (bodies.MakeCopy handle at new_handle stamp) is = before
  heard_came (bodies.Report epoch replicas) is = before
  heard_came (bodies.Epoch epoch end) is = before
  heard_came (bodies.Learned epoch handles) is = before
  heard_came (bodies.Behind epoch) is = before

module _ {D : Type 0} (x : Setup D) where
  came_on : (step : Step) (old new : History D) → Goes x.seen x.failures x.armed step old new → (client : ClientId) (number : ℕ) (given : Given) → HasCome old client number given → HasCome new client number given
  came_on step old new goes client number given come = record { message = come.message; sent = (come.sent.0, stays_sent x.seen x.failures x.armed step old new goes come.sent.0 come.message come.sent.1); says = come.says }

  step_came : (step : Step) (old new : History D) → Goes x.seen x.failures x.armed step old new → Numbered_all old.nodes.clients → (client : ClientId) → ClientCame old client → ClientCame new client
  step_came (Comes event) old new (said, h) numbered client before = by_part (part_of x.seen x.failures x.armed old event.moment event.happening h.by h.outcome new.nodes h.at)
    where
      on : (n : Node) → NodeCame old client n → NodeCame new client n
      on n came given is = came_on (Comes event) old new (said, h) client n.last given (came given is)

      same : new.nodes.clients ≡ old.nodes.clients → ClientCame new client
      same is n there = on n (before n (ap (λ cs. client_in cs client) (sym is) ∙ there))

      put : (other : ClientId) (n after : Node) → client_in old.nodes.clients other ≡ Some n → new.nodes ≡ with_client other after old.nodes → (other ≡ client → NodeCame new client after) → ClientCame new client
      put other n after found is own y there = by (set_client old.nodes.clients other client n after y found (ap (λ (k : Nodes D). client_in k.clients client) (sym is) ∙ there))
        where
          by : ((other ≡ client) × (y ≡ after)) ⊎ (client_in old.nodes.clients client ≡ Some y) → NodeCame new client y
          by (inl mine) = subst (NodeCame new client) (sym mine.1) (own mine.0)
          by (inr was) = on y (before y was)

      by_part : Part x.seen x.failures x.armed old event.moment event.happening h.outcome new.nodes → ClientCame new client
      by_part (Heard id message turn place it was to hears is there) = same (ap (λ (n : Nodes D). n.clients) there)
      by_part (Ticked turn place it ticks is there) = same (ap (λ (n : Nodes D). n.clients) there)
      by_part (Opened turn place it opens is there) = same (ap (λ (n : Nodes D). n.clients) there)
      by_part (Armed disk call it silent there) = same (ap (λ (n : Nodes D). n.clients) there)
      by_part (Served by clients master) = same clients
      by_part (Asked by request node it found new_number sends behind) = put by.client node (asking node by.number) found behind (λ own given is. absurd (none_yet is))
      by_part (Told id message other node it was found silent there) = put other node (hearing (hears message.body node) node) found there (λ own.
          let waits : Waits node = waits_of node found in
          let stays = stays_sent x.seen x.failures x.armed (Comes event) old new (said, h) id message was in
          heard_came old new client node message (id, stays) (own_id old.nodes.clients numbered other node found ∙ own) waits (on node (before node (subst (λ c. client_in old.nodes.clients c ≡ Some node) own found))) message.body refl)
        where
          in_list : (nought : Bool) (o : Option Node) → (if nought then None else o) ≡ Some node → o ≡ Some node
          in_list true o is = absurd cc
          in_list false o is = is

          waits_of : (n : Node) → client_in old.nodes.clients other ≡ Some n → Waits n
          waits_of n there = (numbered (other.0 - 1) n (in_some (other.0 == 0) _ n there)).waits
            where
              in_some : (nought : Bool) (o : Option Node) (n : Node) → (if nought then None else o) ≡ Some n → o ≡ Some n
              in_some true o n is = absurd cc
              in_some false o n is = is
      by_part (Rested silent there) = same (ap (λ (n : Nodes D). n.clients) there)
  step_came (Takes other) old new (found, takes, sent) numbered client before = by_client (client_in old.nodes.clients other) refl takes
    where
      on : (n : Node) → NodeCame old client n → NodeCame new client n
      on n came given is = came_on (Takes other) old new (found, takes, sent) client n.last given (came given is)

      by_client : (o : Option Node) → client_in old.nodes.clients other ≡ o
          → MatchOption o ((new.nodes ≡ old.nodes) × (found ≡ None)) (λ n. (after : Node) × (new.nodes ≡ with_client other after old.nodes) × ((found ≡ n.reply) × (after ≡ given_up n))) → ClientCame new client
      by_client None was (still, none) = λ n there. on n (before n (ap (λ (k : Nodes D). client_in k.clients client) (sym still) ∙ there))
      by_client (Some n) was (after, there, did) = λ y is. by y (set_client old.nodes.clients other client n after y was (ap (λ (k : Nodes D). client_in k.clients client) (sym there) ∙ is))
        where
          by : (y : Node) → ((other ≡ client) × (y ≡ after)) ⊎ (client_in old.nodes.clients client ≡ Some y) → NodeCame new client y
          by y (inl mine) = λ given is. absurd (none_yet (sym (ap (λ (z : Node). z.reply) (mine.1 ∙ did.1)) ∙ is))
          by y (inr before_it) = on y (before y before_it)

  pub run_came : HaveSizes → IsUnarmed x.armed → (steps : List Step) (old new : History D) (a b : Account) → IsReached x old a → Runs x steps old a new b → (client : ClientId) → ClientCame old client → ClientCame new client
  run_came sizes unarmed [] old new a b r runs client before = subst (λ (h : History D). ClientCame h client) (sym runs.0) before
  run_came sizes unarmed (step ∷ steps) old new a b r (mid, c, moves, rest) client before =
      run_came sizes unarmed steps mid new c b (reach x (step ∷ []) old mid a c r (mid, c, moves, (refl, refl))) rest client (step_came step old mid moves.steps.goes (are_asked x unarmed sizes old a r).numbered client before)
