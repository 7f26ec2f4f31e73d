-- Whether bytes were pushed for a request, of all that was sent.
use Rattle.std.proofs.Common.{◌≡◌, ◌⊎◌, ◌+◌, ◌-◌, ℕ, zero, suc, Bool, true, false, List, [], ◌∷◌, Option, None, Some, inl, inr, refl, sym, ap, subst, arith}
use Rattle.std.specs.Prelude.{◌==◌, if◌then◌else◌, slice_get}
use Rattle.std.proofs.lemmas.Bool.Decides.{nat_tests}
use Rattle.gs_base.specs.declared.numbers.ReqId.{ReqId}
use Rattle.gs_msg.specs.Posts.{message_at}
use Rattle.gs_msg.specs.declared.body.Body.{Body}
use Rattle.gs_msg.specs.declared.body.Body.TheVariants as bodies
use Rattle.gs_msg.specs.declared.message.Message.{Message}
use Rattle.gs_msg.specs.declared.node.NodeId.{NodeId}
use Rattle.gs_msg.specs.declared.node.NodeId.TheVariants as nodes
use Rattle.gs_msg.specs.declared.outbox.Post.{Post}
use Rattle.gs_world.specs.Sent.{IsSent, Sent, message_in, posts_of}
use Rattle.gs_laws_chunks.specs.accounts.Acknowledged.{WasPushed}

-- a name is another, or it isn't
pub same_or_other : (r req : ReqId) → (r ≡ req) ⊎ (r ≡ req → ⊥)
same_or_other r req = by_tests (r.client.0 == req.client.0) (r.number == req.number) refl refl
  where
    by_tests : (b c : Bool) → (r.client.0 == req.client.0) ≡ b → (r.number == req.number) ≡ c → (r ≡ req) ⊎ (r ≡ req → ⊥)
    by_tests true true here there =
        let client : r.client.0 ≡ req.client.0 = grind (arith, nat_tests) in
        let number : r.number ≡ req.number = grind (arith, nat_tests) in
        inl (λ i. record { client = record { 0 = client i }; number = number i })
    by_tests false c apart there = inr (λ same. let client : r.client.0 ≡ req.client.0 = ap (λ (q : ReqId). q.client.0) same in grind (arith, nat_tests))
    by_tests true false here apart = inr (λ same. let number : r.number ≡ req.number = ap (λ (q : ReqId). q.number) same in grind (arith, nat_tests))

-- ---- whether any message that was sent is of a kind

some_same : (m n : Message) → Some m ≡ Some n → m ≡ n
some_same m n is = cc

-- clients are numbered from 1
of_client : (clients : List (List Post)) (n place : ℕ) (m : Message) → message_in (slice_get clients n) place ≡ Some m → message_in (if (n + 1) == 0 then None else slice_get clients (n + 1 - 1)) place ≡ Some m
of_client clients n place m is =
    subst (λ b. message_in (if b then None else slice_get clients (n + 1 - 1)) place ≡ Some m) (sym (never_nought n)) (subst (λ k. message_in (slice_get clients k) place ≡ Some m) (one_less n) is)
  where
    never_nought : (n : ℕ) → ((n + 1) == 0) ≡ false
    never_nought n = grind (arith, nat_tests)

    one_less : (n : ℕ) → n ≡ n + 1 - 1
    one_less n = omega arith

module _ (P : Message → Type 0) (decide : (m : Message) → P m ⊎ (P m → ⊥)) where
  in_post : (o : Option Message) → ((m : Message) × (o ≡ Some m) × P m) ⊎ ((m : Message) → o ≡ Some m → P m → ⊥)
  in_post None = inr (λ m is has. absurd (cc))
  in_post (Some m) = elim (decide m) [ inl has ↦ inl (m, refl, has) | inr never ↦ inr (λ n is has. never (subst P (sym (some_same m n is)) has)) ]

  in_posts : (posts : List Post) → ((place : ℕ) × (m : Message) × (message_at posts place ≡ Some m) × P m) ⊎ ((place : ℕ) (m : Message) → message_at posts place ≡ Some m → P m → ⊥)
  in_posts [] = inr (λ place m is has. absurd (cc))
  in_posts (x ∷ xs) = elim (in_post x.message) [
    | inl (m, is, has) ↦ inl (0, m, is, has)
    | inr never ↦ elim (in_posts xs) [ inl (place, m, is, has) ↦ inl (suc place, m, is, has) | inr none ↦ inr (in_neither never none) ]
  ]
    where
      in_neither : ((m : Message) → x.message ≡ Some m → P m → ⊥) → ((place : ℕ) (m : Message) → message_at xs place ≡ Some m → P m → ⊥) → (place : ℕ) (m : Message) → message_at (x ∷ xs) place ≡ Some m → P m → ⊥
      in_neither never none zero m is has = never m is has
      in_neither never none (suc place) m is has = none place m is has

  in_lists : (lists : List (List Post)) → ((n : ℕ) × (place : ℕ) × (m : Message) × (message_in (slice_get lists n) place ≡ Some m) × P m) ⊎ ((n place : ℕ) (m : Message) → message_in (slice_get lists n) place ≡ Some m → P m → ⊥)
  in_lists [] = inr (λ n place m is has. absurd (cc))
  in_lists (xs ∷ lists) = elim (in_posts xs) [
    | inl (place, m, is, has) ↦ inl (0, place, m, is, has)
    | inr never ↦ elim (in_lists lists) [ inl (n, place, m, is, has) ↦ inl (suc n, place, m, is, has) | inr none ↦ inr (in_neither never none) ]
  ]
    where
      in_neither : ((place : ℕ) (m : Message) → message_at xs place ≡ Some m → P m → ⊥) → ((n place : ℕ) (m : Message) → message_in (slice_get lists n) place ≡ Some m → P m → ⊥)
          → (n place : ℕ) (m : Message) → message_in (slice_get (xs ∷ lists) n) place ≡ Some m → P m → ⊥
      in_neither never none zero place m is has = never place m is has
      in_neither never none (suc n) place m is has = none n place m is has

  any_sent : (sent : Sent) → ((m : Message) × IsSent m sent × P m) ⊎ ((m : Message) → IsSent m sent → P m → ⊥)
  any_sent sent = elim (in_posts sent.master) [
    | inl (place, m, is, has) ↦ inl (m, (record { sender = nodes.Master; place = place }, is), has)
    | inr by_master ↦ elim (in_lists sent.servers) [
      | inl (n, place, m, is, has) ↦ inl (m, (record { sender = nodes.Server n; place = place }, is), has)
      | inr by_servers ↦ elim (in_lists sent.clients) [
        | inl (n, place, m, is, has) ↦ inl (m, (record { sender = nodes.Client (record { 0 = n + 1 }); place = place }, of_client sent.clients n place m is), has)
        | inr by_clients ↦ inr (λ m is has. by_none by_master by_servers by_clients is.0.sender is.0.place m is.1 has)
      ]
    ]
  ]
    where
      by_none : ((place : ℕ) (m : Message) → message_at sent.master place ≡ Some m → P m → ⊥) → ((n place : ℕ) (m : Message) → message_in (slice_get sent.servers n) place ≡ Some m → P m → ⊥)
          → ((n place : ℕ) (m : Message) → message_in (slice_get sent.clients n) place ≡ Some m → P m → ⊥)
          → (sender : NodeId) (place : ℕ) (m : Message) → message_in (posts_of sent sender) place ≡ Some m → P m → ⊥
      by_none master servers clients nodes.Master place m is has = master place m is has
      by_none master servers clients (nodes.Server n) place m is has = servers n place m is has
      by_none master servers clients (nodes.Client client) place m is has = by_number (client.0 == 0) is
        where
          by_number : (b : Bool) → message_in (if b then None else slice_get sent.clients (client.0 - 1)) place ≡ Some m → ⊥
          by_number true is = absurd (cc)
          by_number false is = clients (client.0 - 1) place m is has

-- ---- bytes

-- a message pushes bytes for a request, or it doesn't
pushes_or_not : (req : ReqId) (body : Body) → ((bytes : List ℕ) × (body ≡ bodies.Push req bytes)) ⊎ ((bytes : List ℕ) × (body ≡ bodies.Push req bytes) → ⊥)
pushes_or_not req (bodies.Push r bytes) = elim (same_or_other r req) [
  | inl same ↦ inl (bytes, ap (λ q. bodies.Push q bytes) same)
  | inr other ↦ inr (λ is. other (same_name bytes is.0 is.1))
]
  where
    same_name : (one more : List ℕ) → bodies.Push r one ≡ bodies.Push req more → r ≡ req
    same_name one more is = cc
pushes_or_not req body = inr (λ is. absurd (let same = is.1 in cc))

-- what can't be that no bytes were pushed for, bytes were pushed for
pub were_pushed : (sent : Sent) (req : ReqId) → (((message : Message) (bytes : List ℕ) → IsSent message sent → message.body ≡ bodies.Push req bytes → ⊥) → ⊥) → WasPushed sent req
were_pushed sent req never = elim (any_sent (λ (m : Message). (bytes : List ℕ) × (m.body ≡ bodies.Push req bytes)) (λ m. pushes_or_not req m.body) sent) [
  | inl (m, was, has) ↦ (m, has.0, was, has.1)
  | inr none ↦ absurd (never (λ m bytes was is. none m was (bytes, is)))
]
