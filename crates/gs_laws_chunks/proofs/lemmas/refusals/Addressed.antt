-- All messages that ask for the edit of one request are to one server.
use Rattle.std.proofs.Common.{◌≡◌, ◌∙◌, ℕ, Bool, true, false, cond, List, [], ◌∷◌, Option, Some, ⊎_elim, refl, sym, ap, subst, arith}
use Rattle.std.specs.Prelude.{◌==◌, Contains}
use Rattle.std.proofs.lemmas.Bool.Decides.{nat_tests}
use Rattle.std.proofs.lemmas.List.Elements.{Contains-append_cases}
use Rattle.gs_base.specs.declared.numbers.ReqId.{ReqId}
use Rattle.gs_base.specs.declared.numbers.Stamp.{Stamp}
use Rattle.gs_client.specs.Nodes.{messages_of, pushes, tell, with_bytes}
use Rattle.gs_msg.specs.declared.body.Body.TheVariants as bodies
use Rattle.gs_msg.specs.declared.chunk.Chunk.TheVariants as chunks
use Rattle.gs_msg.specs.declared.event.Request.{Request}
use Rattle.gs_msg.specs.declared.event.Request.TheVariants as requests
use Rattle.gs_msg.specs.declared.message.Message.{Message}
use Rattle.gs_msg.specs.declared.node.NodeId.TheVariants as nodes
use Rattle.gs_msg.specs.declared.op.Op.{Op}
use Rattle.gs_laws_parts.proofs.lemmas.server.Lists.{cons_cases, cons_first, cons_more, nil_contains}
use Rattle.gs_laws_parts.specs.server.Requests.{AreOnce, Asked, IsNoRequest, IsSentFor, named, request_in}
use Rattle.gs_world.specs.Histories.{History}
use Rattle.gs_world.specs.Sent.{IsSent}
use Rattle.gs_laws_lift.specs.stores.Asking.{AreAskedIn}

-- the first request under a number is the only one
found : (number : ℕ) (request : Request) (asked : Asked) → AreOnce asked → Contains asked (number, request) → request_in number asked ≡ Some request
found number request [] once there = nil_contains (let e : ℕ × Request = (number, request) in e) there
found number request (e ∷ asked) once there = by_case (number == e.0) refl (found number request asked (λ a b there_a there_b. once a b (cons_more e asked a there_a) (cons_more e asked b there_b)))
  where
    eq_same : (a b : ℕ) → (a == b) ≡ true → b ≡ a
    eq_same a b is = grind (arith, nat_tests)

    not_same : (a b : ℕ) → (a == b) ≡ false → b ≡ a → ⊥
    not_same a b is same = (let y : (a == b) ≡ true = grind (arith, nat_tests) in (cc))

    by_case : (b : Bool) → (number == e.0) ≡ b → (Contains asked (number, request) → request_in number asked ≡ Some request) → cond b (Some e.1) (request_in number asked) ≡ Some request
    by_case true is rest = ap Some (once e (number, request) (cons_first e asked e refl) there (eq_same number e.0 is))
    by_case false is rest = rest
        (⊎_elim (λ same. elim (not_same number e.0 is (ap (λ (x : ℕ × Request). x.0) same)) [ ]) (λ more. more) (cons_cases e asked (number, request) there))

-- a message that asks for the edit of a request is sent for that, and to its primary
record IsAddressed (req : ReqId) (own : ReqId) (request : Request) (m : Message) : Type 0 where
  handle : ℕ
  members : List ℕ
  primary : ℕ
  stamp : Stamp
  op : Op
  bytes : List ℕ
  is : request ≡ requests.Write handle members primary stamp op bytes
  same : own ≡ req
  to : m.to ≡ nodes.Server primary

-- what is pushed asks for no edit
none_pushed : (own : ReqId) (servers bytes : List ℕ) (m : Message) → Contains (pushes own servers bytes) m → m.body ≡ bodies.Push own bytes
none_pushed own [] bytes m there = nil_contains m there
none_pushed own (server ∷ servers) bytes m there = ⊎_elim (λ (same : tell own (nodes.Server server) (bodies.Push own bytes) ≡ m). ap (λ (k : Message). k.body) (sym same)) (λ more. none_pushed own servers bytes m more)
    (cons_cases (tell own (nodes.Server server) (bodies.Push own bytes)) (pushes own servers bytes) m there)

module _ (own req : ReqId) (m : Message) (handle : ℕ) (stamp : Stamp) (op : Op) (body : m.body ≡ bodies.About handle (chunks.Edit req stamp op)) where
  one_only : (k : Message) → Contains (k ∷ []) m → k ≡ m
  one_only k there = ⊎_elim (λ same. same) (λ none. nil_contains m none) (cons_cases k [] m there)

  by_body : (k : Message) → k ≡ m → k.body ≡ bodies.About handle (chunks.Edit req stamp op)
  by_body k same = ap (λ (n : Message). n.body) same ∙ body

  addressed : (request : Request) → Contains (messages_of own request) m → IsAddressed req own request m
  addressed (requests.Call call) there = (let is : bodies.Call own call ≡ bodies.About handle (chunks.Edit req stamp op) = by_body (tell own nodes.Master (bodies.Call own call)) (one_only (tell own nodes.Master (bodies.Call own call)) there) in absurd (cc))
  addressed (requests.Fetch to other under epoch asked) there =
      let k : Message = tell own (nodes.Server to) (bodies.About other (chunks.Fetch own under epoch asked)) in
      let is : bodies.About other (chunks.Fetch own under epoch asked) ≡ bodies.About handle (chunks.Edit req stamp op) = by_body k (one_only k there) in absurd (cc)
  addressed (requests.Write other members primary under what bytes) there =
      let k : Message = tell own (nodes.Server primary) (bodies.About other (chunks.Edit own under what)) in
      ⊎_elim
      (λ (pushed : Contains (pushes own (with_bytes members what) bytes) m). (let is : bodies.Push own bytes ≡ bodies.About handle (chunks.Edit req stamp op) = sym (none_pushed own (with_bytes members what) bytes m pushed) ∙ body in absurd (cc)))
      (λ (last : Contains (k ∷ []) m). (
      let same_message = one_only k last in
      let is : bodies.About other (chunks.Edit own under what) ≡ bodies.About handle (chunks.Edit req stamp op) = by_body k same_message in
      record { handle = other; members = members; primary = primary; stamp = under; op = what; bytes = bytes; is = refl; same = cc; to = ap (λ (n : Message). n.to) (sym same_message) }))
      (Contains-append_cases (pushes own (with_bytes members what) bytes) (k ∷ []) m there)

-- of a message that was sent
record IsAsked (asked : ℕ → Asked) (req : ReqId) (m : Message) : Type 0 where
  handle : ℕ
  members : List ℕ
  primary : ℕ
  stamp : Stamp
  op : Op
  bytes : List ℕ
  is : named asked req ≡ Some (requests.Write handle members primary stamp op bytes)
  to : m.to ≡ nodes.Server primary

asked_there : {D : Type 0} (asked : ℕ → Asked) (h : History D) → AreAskedIn asked h → (m : Message) (handle : ℕ) (req : ReqId) (stamp : Stamp) (op : Op) → IsSent m h.sent → m.body ≡ bodies.About handle (chunks.Edit req stamp op) → IsAsked asked req m
asked_there asked h are m handle req stamp op (place, there) body = ⊎_elim
    (λ (f : IsSentFor asked m). (
    let a = addressed f.req req m handle stamp op body f.request f.sent in record {
      handle = a.handle;
      members = a.members;
      primary = a.primary;
      stamp = a.stamp;
      op = a.op;
      bytes = a.bytes;
      is = subst (λ q. named asked q ≡ Some (requests.Write a.handle a.members a.primary a.stamp a.op a.bytes)) a.same (found f.req.number f.request (asked f.req.client.0) (are.once f.req.client.0) f.has ∙ ap Some a.is);
      to = a.to;
    }))
    (λ (none : IsNoRequest m.body). absurd (subst IsNoRequest body none))
    (are.sent place m there)

pub one_address : {D : Type 0} (asked : ℕ → Asked) (h : History D) → AreAskedIn asked h → (m n : Message) (req : ReqId) (handle other : ℕ) (stamp under : Stamp) (op what : Op) → IsSent m h.sent → IsSent n h.sent
    → m.body ≡ bodies.About handle (chunks.Edit req stamp op) → n.body ≡ bodies.About other (chunks.Edit req under what) → m.to ≡ n.to
one_address asked h are m n req handle other stamp under op what sent also body and =
    let a = asked_there asked h are m handle req stamp op sent body in
    let b = asked_there asked h are n other req under what also and in
    let both : ◌≡◌ {A = Option Request} (Some (requests.Write a.handle a.members a.primary a.stamp a.op a.bytes)) (Some (requests.Write b.handle b.members b.primary b.stamp b.op b.bytes)) = sym a.is ∙ b.is in
    let primary : a.primary ≡ b.primary = cc in a.to ∙ ap nodes.Server primary ∙ sym b.to
