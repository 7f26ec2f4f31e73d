-- A store without disks, delivered message by message.
use Rattle.std.proofs.Common.{arith, ◌≡◌, ◌∙◌, ◌++◌, ◌+◌, ◌-◌, ◌==◌, ◌<◌, ℕ, zero, suc, true, List, [], ◌∷◌, refl, sym, ap}
use Rattle.std.specs.Prelude.{Option, Some, None, Result, if◌then◌else◌, min}
use Rattle.std.proofs.lemmas.Bool.Decides.{nat_tests}
use Rattle.gs_base.specs.declared.config.Config.{Config}
use Rattle.gs_base.specs.declared.numbers.Moment.{Moment}
use Rattle.gs_base.specs.declared.numbers.ReqId.{ReqId}
use Rattle.gs_base.specs.declared.refusal.Refusal.{Refusal}
use Rattle.gs_client.specs.Nodes.{Node, answered}
use Rattle.gs_client.specs.declared.link.Reply.{Reply}
use Rattle.gs_client.specs.declared.link.Reply.TheVariants as replies
use Rattle.gs_master_spec.specs.Handling.{handle}
use Rattle.gs_master_spec.specs.State.{State, reply_to}
use Rattle.gs_msg.specs.Bodies.{kind_of}
use Rattle.gs_msg.specs.declared.answer.Answer.{Answer}
use Rattle.gs_msg.specs.declared.body.Body.{Body}
use Rattle.gs_msg.specs.declared.message.Message.{Message}
use Rattle.gs_msg.specs.declared.node.NodeId.{NodeId}
use Rattle.gs_msg.specs.declared.node.NodeId.TheVariants as nodes
use Rattle.gs_server.specs.Servers.{Server}
use Rattle.gs_shell_desk.specs.Ways.{is_drop, last_count}
use Rattle.gs_laws_scripts.specs.answers.Plain.{Plain, delivered, delivers, delivers_whole, sends_all}

-- the store with one client, of which no kind of message is held back
abbrev pub store : Config → State → List Server → Node → Moment → List Message → List Message → ℕ → Plain
store config s all n moment queue held drops = record { config = config; master = s; servers = all; clients = n ∷ []; moment = moment; queue = queue; kind = None; held = held; drops = drops }

-- ---- what is sent

abbrev pub drops_behind : List Message → ℕ → ℕ
drops_behind [] drops = drops
drops_behind (m ∷ ms) drops = drops_behind ms (if is_drop (kind_of m.body) then min (drops + 1) last_count else drops)

pub one_behind : {A : Type 0} (xs : List A) (x : A) (ys : List A) → (xs ++ x ∷ []) ++ ys ≡ xs ++ x ∷ ys
one_behind [] x ys = refl
one_behind (y ∷ xs) x ys = ap (λ zs. y ∷ zs) (one_behind xs x ys)

pub none_behind : {A : Type 0} (xs : List A) → xs ++ [] ≡ xs
none_behind [] = refl
none_behind (x ∷ xs) = ap (λ ys. x ∷ ys) (none_behind xs)

module _ (config : Config) (moment : Moment) (held : List Message) where
  pub sends_in : (ms : List Message) (s : State) (all : List Server) (n : Node) (queue : List Message) (drops : ℕ) → sends_all ms (store config s all n moment queue held drops) ≡ store config s all n moment (queue ++ ms) held (drops_behind ms drops)
  sends_in [] s all n queue drops = ap (λ q. store config s all n moment q held drops) (sym (none_behind queue))
  sends_in (m ∷ ms) s all n queue drops =
      let now = if is_drop (kind_of m.body) then min (drops + 1) last_count else drops in
      sends_in ms s all n (queue ++ m ∷ []) (if is_drop (kind_of m.body) then min (drops + 1) last_count else drops)
      ∙ ap (λ q. store config s all n moment q held (drops_behind (m ∷ ms) drops)) (one_behind queue m ms)

  -- ---- so many messages lead from one to another

  -- there is a store with so many drops
  pub record Stands (s : State) (all : List Server) (n : Node) (queue : List Message) (p : Plain) : Type 0 where
    pub drops : ℕ
    pub is : p ≡ store config s all n moment queue held drops

-- so many messages are delivered from one store to another
abbrev pub Leads : ℕ → Plain → Plain → Type 0
Leads many p q = (more : ℕ) → delivers (many + more) p ≡ delivers more q

pub leads_none : (p : Plain) → Leads 0 p p
leads_none p more = ap (λ n. delivers n p) none
  where
    none : 0 + more ≡ more
    none = omega arith

pub leads_then : (j k : ℕ) (p q r : Plain) → Leads j p q → Leads k q r → Leads (j + k) p r
leads_then j k p q r a b more = ap (λ n. delivers n p) sums ∙ a (k + more) ∙ b more
  where
    sums : (j + k) + more ≡ j + (k + more)
    sums = omega arith

module _ (config : Config) (moment : Moment) (held : List Message) (s : State) (all : List Server) (n : Node) where
  first : (m : Message) (queue : List Message) (drops more : ℕ) → delivers (suc more) (store config s all n moment (m ∷ queue) held drops) ≡ delivers more (delivered m (store config s all n moment queue held drops)).1
  unfolding delivers
  first m queue drops more = refl

  pub one_step : (m : Message) (queue : List Message) (drops : ℕ) → Leads 1 (store config s all n moment (m ∷ queue) held drops) (delivered m (store config s all n moment queue held drops)).1
  one_step m queue drops more = ap (λ k. delivers k (store config s all n moment (m ∷ queue) held drops)) one ∙ first m queue drops more
    where
      one : 1 + more ≡ suc more
      one = omega arith

  -- nothing is under way
  pub at_rest : (drops more : ℕ) → delivers more (store config s all n moment [] held drops) ≡ store config s all n moment [] held drops
  unfolding delivers
  at_rest drops zero = refl
  at_rest drops (suc more) = refl

  pub whole_from : (many : ℕ) (p : Plain) (drops : ℕ) → Leads many p (store config s all n moment [] held drops) → many < 1000 → delivers_whole p ≡ store config s all n moment [] held drops
  whole_from many p drops leads few = ap (λ k. delivers k p) sums ∙ leads (last_count - many) ∙ at_rest drops (last_count - many)
    where
      sums : last_count ≡ many + (last_count - many)
      sums = omega arith

  -- a message comes to the master
  pub to_master : (from : NodeId) (body : Body) (queue : List Message) (drops : ℕ) →
      (next : ℕ) × Leads 1 (store config s all n moment (record { from = from; to = nodes.Master; body = body } ∷ queue) held drops)
      (store config (handle config s (record { from = from; to = nodes.Master; body = body }) moment).after all n moment (queue ++ (handle config s (record { from = from; to = nodes.Master; body = body }) moment).sent) held next)
  to_master from body queue drops =
      let t = handle config s (record { from = from; to = nodes.Master; body = body }) moment in (
        drops_behind t.sent drops,
        λ more. one_step (record { from = from; to = nodes.Master; body = body }) queue drops more
            ∙ ap (delivers more) (sends_in config moment held (handle config s (record { from = from; to = nodes.Master; body = body }) moment).sent (handle config s (record { from = from; to = nodes.Master; body = body }) moment).after all n queue drops),
      )

-- ---- the client

-- client 1, which has used numbers up to one, and waits for that
abbrev pub node : ℕ → Option ℕ → Option Reply → Node
node last waiting reply = record { id = record { 0 = 1 }; last = last; waiting = waiting; reply = reply }

abbrev pub request : ℕ → ReqId
request number = record { client = record { 0 = 1 }; number = number }

-- it hears the reply to what it waits for
pub to_client : (config : Config) (moment : Moment) (held : List Message) (s : State) (all : List Server) (number : ℕ) (before : Option Reply) (result : Result Answer Refusal) (queue : List Message) (drops : ℕ) →
    Leads 1 (store config s all (node number (Some number) before) moment (reply_to (request number) result ∷ queue) held drops) (store config s all (node number None (Some (answered replies.Answer result))) moment queue held drops)
to_client config moment held s all number before result queue drops more =
    one_step config moment held s all (node number (Some number) before) (reply_to (request number) result) queue drops more
    ∙ ap (λ b. delivers more (store config s all (if b then node number None (Some (answered replies.Answer result)) else node number (Some number) before) moment queue held drops)) same
  where
    same : (number == number) ≡ true
    same = grind (arith, nat_tests)
