-- A client that is kept stays the client of its number.
use Rattle.std.proofs.Common.{◌≡◌, ◌∙◌, ℕ, List, [], ◌∷◌, Bool, true, false, Option, Some, None, Result, Ok, Err, refl, ap, subst}
use Rattle.std.specs.Prelude.{if◌then◌else◌, nat_le, Vec}
use Rattle.std.specs.declared.alloc.Global.{Global}
use Rattle.gs_base.specs.declared.numbers.ClientId.{ClientId}
use Rattle.gs_base.specs.declared.numbers.ReqId.{ReqId}
use Rattle.gs_base.specs.declared.refusal.Refusal.{Refusal}
use Rattle.gs_base.specs.declared.refusal.Refusal.TheVariants as refusals
use Rattle.gs_client.specs.Nodes.{Asks, Node, asks, is_of, messages_of, request_of, takes}
use Rattle.gs_client.specs.declared.link.Reply.{Reply}
use Rattle.gs_msg.specs.declared.event.Happening.{Happening}
use Rattle.gs_msg.specs.declared.event.Happening.TheVariants as happenings
use Rattle.gs_msg.specs.declared.event.Request.{Request}
use Rattle.gs_msg.specs.declared.message.Message.{Message}
use Rattle.gs_msg.specs.declared.node.NodeId.{NodeId}
use Rattle.gs_msg.specs.declared.node.NodeId.TheVariants as ids
use Rattle.gs_cluster_core.specs.Roles.{ClientActs, DoesAs, StartsAs}
use Rattle.gs_cluster_core.specs.declared.role.Role.{Role}
use Rattle.gs_cluster_core.specs.declared.role.Role.TheVariants.{Master, Server as AServer, Client}
use Rattle.gs_cluster_history.specs.Histories.{Entry, IsKept, Kept, Leads, Past, Upshot}
use Rattle.gs_cluster_history.specs.Setting.{Setting}
use Rattle.gs_cluster_history.specs.declared.took.Took.{Took}
use Rattle.gs_cluster_history.specs.declared.took.Took.TheVariants.{Heard, Did}
use Rattle.gs_cluster.proofs.Answered.{Hearing, hearing}
use Rattle.gs_cluster.specs.Answered.{client_of}

-- ---- one event

takes_id : (req : ReqId) (reply : Reply) (n : Node) → (takes req reply n).id ≡ n.id
takes_id req reply n = by_test (is_of req n.id n.waiting)
  where
    by_test : (b : Bool) → (if b then record { id = n.id; last = n.last; waiting = None; reply = Some reply } else n).id ≡ n.id
    by_test true = refl
    by_test false = refl

asks_id : (number : ℕ) (request : Request) (n after : Node) (out : Result (Vec Message Global) Refusal) → Asks (asks number request n) out n after → after.id ≡ n.id
asks_id number request n after out h = by_test (nat_le number n.last) out h
  where
    by_test : (b : Bool) (out : Result (Vec Message Global) Refusal)
        → Asks (if b then Err refusals.Old else Ok (record { id = n.id; last = number; waiting = Some number; reply = None }, messages_of (request_of n number) request)) out n after → after.id ≡ n.id
    by_test true (Ok sent) h = absurd h
    by_test true (Err f) h = ap (λ (m : Node). m.id) h.1
    by_test false (Ok sent) h = ap (λ (m : Node). m.id) h.0
    by_test false (Err f) h = ap (λ (m : Node). m.id) h.1

acts_id : (happening : Happening) (n : Node) (outcome : Upshot) (after : Node) → ClientActs happening n outcome after → after.id ≡ n.id
acts_id (happenings.Ask req request) n outcome after h = asks_id req.number request n after h.0 h.1
acts_id happening n outcome after h = ap (λ (m : Node). m.id) h.1

hears_id : (n after : Node) {body : Rattle.gs_msg.specs.declared.body.Body.Body} → Hearing body n after → after.id ≡ n.id
hears_id n after (Hearing.Passes nothing same) = ap (λ (m : Node). m.id) same
hears_id n after (Hearing.Takes req reply brings so) = ap (λ (m : Node). m.id) so ∙ takes_id req reply n

nobody : {A : Type 0} {id : ClientId} → ◌≡◌ {A = Option ClientId} None (Some id) → A
nobody is = absurd (cc)

module _ {D : Type 0} (seen : D → List ℕ) (failures : D → ℕ) where
  stays : (took : Took) (old : Role D) (outcome : Upshot) (new : Role D) (id : ClientId) → DoesAs seen failures took old outcome new → client_of old ≡ Some id → client_of new ≡ Some id
  stays (Heard sent) (Client n) outcome new id h was =
      ap client_of h.1 ∙ ap (λ (c : ClientId). Some c) (hears_id n h.0 (hearing sent.message.body n h.2.1.0 h.0 h.2.1.1)) ∙ was
  stays (Did event) (Client n) outcome new id h was = ap client_of h.1 ∙ ap (λ (c : ClientId). Some c) (acts_id event.happening n outcome h.0 h.2) ∙ was
  stays took (Master place) outcome new id h was = nobody was
  stays took (AServer server) outcome new id h was = nobody was

  -- ---- a history

  leads_on : (me : NodeId) (entries : List Entry) (old new : Past (Role D)) (id : ClientId) → Leads (DoesAs seen failures) me old entries new → client_of old.core ≡ Some id → client_of new.core ≡ Some id
  leads_on me [] old new id same was = ap (λ (p : Past (Role D)). client_of p.core) same ∙ was
  leads_on me (e ∷ es) old new id (mid, takes, rest) was = leads_on me es mid new id rest (stays e.took old.core e.outcome mid.core id takes.does was)

  begins : (setting : Setting) (id : ClientId) (core : Role D) (first : List Message) → StartsAs seen failures setting (ids.Client id) core first → client_of core ≡ Some id
  begins setting id (Client node) first h = ap (λ (n : Node). Some n.id) h.2
  begins setting id (Master place) first h = absurd h
  begins setting id (AServer server) first h = absurd h

  pub own_client : (setting : Setting) (k : Kept (Role D)) (id : ClientId) → IsKept (DoesAs seen failures) (StartsAs seen failures setting) k → k.me ≡ ids.Client id → client_of k.past.core ≡ Some id
  own_client setting k id kept me =
      leads_on k.me k.entries kept.begun k.past id kept.leads
      (begins setting id kept.begun.core kept.begins.first (subst (λ n. StartsAs seen failures setting n kept.begun.core kept.begins.first) me kept.begins.starts))
