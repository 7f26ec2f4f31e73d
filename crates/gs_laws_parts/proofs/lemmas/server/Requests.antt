-- One request has one edit.
use Rattle.std.proofs.Common.{◌≡◌, ℕ, ◌<◌, ◌⊎◌, ⊎_elim, Bool, true, false, cond, List, [], ◌∷◌, ◌++◌, Option, Some, None, refl, sym, ap, subst, ◌∙◌, arith, inl, inr}
use Rattle.std.specs.Prelude.{Result, Ok, Err, ◌==◌, nat_le, Contains, nat_eq}
use Rattle.std.specs.List.{AllByRecursion}
use Rattle.std.proofs.lemmas.Bool.{eq-eqb, eqb-true}
use Rattle.std.proofs.lemmas.Bool.Decides.{nat_tests}
use Rattle.std.proofs.lemmas.List.Elements.{Contains-append_right, Contains-append_cases, Contains-append_left}
use Rattle.gs_base.specs.declared.numbers.ClientId.{ClientId}
use Rattle.gs_base.specs.declared.numbers.ReqId.{ReqId}
use Rattle.gs_base.specs.declared.refusal.Refusal.{Refusal}
use Rattle.gs_base.specs.declared.refusal.Refusal.TheVariants as refusals
use Rattle.gs_msg.specs.declared.event.Request.{Request}
use Rattle.gs_msg.specs.declared.event.Request.TheVariants as requests
use Rattle.gs_msg.specs.declared.message.Message.{Message}
use Rattle.gs_msg.specs.declared.body.Body.{Body}
use Rattle.gs_msg.specs.declared.body.Body.TheVariants as bodies
use Rattle.gs_msg.specs.declared.chunk.Chunk.TheVariants as chunks
use Rattle.gs_client.specs.declared.link.Reply.{Reply}
use Rattle.gs_client.specs.Nodes.{Node, silent, asks, hears, takes, given_up, messages_of, pushes, with_bytes, request_of, is_of}
use Rattle.gs_laws_parts.specs.server.Requests.{Asked, request_in, bytes_of, named, HasAsked, IsAskedNow, AreOnce, IsSentFor, IsOfOneEdit, with_client, with_asked, IsNoRequest, AreAsked}
use Rattle.gs_laws_parts.proofs.lemmas.server.Lists.{cons_cases, cons_first, cons_more, nil_contains, all_mapped, all_append, all_from}

-- ---- what a client has asked

pub has_asked_nothing : (id : ClientId) → HasAsked id.0 [] (silent id)
has_asked_nothing id = record { client = refl; below = λ e there. nil_contains e there; once = λ a b there. nil_contains a there }

-- no number is used twice
asked_more : (id : ℕ) (asked : Asked) (n : Node) (number : ℕ) (request : Request) → HasAsked id asked n → n.last < number → HasAsked id (asked ++ (number, request) ∷ []) (record { id = n.id; last = number; waiting = Some number; reply = None })
asked_more id asked n number request has above = record {
  client = has.client;
  below = λ e there. ⊎_elim
      (λ old. let l = has.below e old in omega arith)
      (λ new. ⊎_elim (λ (same : (number, request) ≡ e). let s : number ≡ e.0 = ap (λ (x : ℕ × Request). x.0) same in omega arith) (λ none. nil_contains e none) (cons_cases _ [] e new))
      (Contains-append_cases asked ((number, request) ∷ []) e there);
  once = λ a b there_a there_b same. ⊎_elim
      (λ old_a. ⊎_elim
      (λ old_b. has.once a b old_a old_b same)
      (λ new_b. ⊎_elim (λ (is : (number, request) ≡ b). absurd (let s : number ≡ b.0 = ap (λ (x : ℕ × Request). x.0) is in let l = has.below a old_a in omega arith)) (λ none. nil_contains b none) (cons_cases _ [] b new_b))
      (Contains-append_cases asked ((number, request) ∷ []) b there_b))
      (λ new_a. ⊎_elim (λ (is_a : (number, request) ≡ a). ⊎_elim
      (λ old_b. absurd (let s : number ≡ a.0 = ap (λ (x : ℕ × Request). x.0) is_a in let l = has.below b old_b in omega arith))
      (λ new_b. ⊎_elim (λ (is_b : (number, request) ≡ b). ap (λ (x : ℕ × Request). x.1) (sym is_a ∙ is_b)) (λ none. nil_contains b none) (cons_cases _ [] b new_b))
      (Contains-append_cases asked ((number, request) ∷ []) b there_b)) (λ none. nil_contains a none) (cons_cases _ [] a new_a))
      (Contains-append_cases asked ((number, request) ∷ []) a there_a);
}

pub asks_one : (id : ℕ) (asked : Asked) (n n2 : Node) (number : ℕ) (request : Request) (sent : List Message) → HasAsked id asked n → asks number request n ≡ Ok (n2, sent) → IsAskedNow id asked number request n2 sent
asks_one id asked n n2 number request sent has is = by_case (nat_le number n.last) refl is
  where
    next : Node
    next = record { id = n.id; last = number; waiting = Some number; reply = None }

    pair_of : Result (Node × List Message) Refusal → Node × List Message
    pair_of (Ok p) = p
    pair_of (Err e) = (n, sent)

    above : nat_le number n.last ≡ false → n.last < number
    above le = grind (arith, nat_tests)

    by_case : (b : Bool) → nat_le number n.last ≡ b → (let m : Result (Node × List Message) Refusal = cond b (Err refusals.Old) (Ok (next, messages_of (request_of n number) request)) in m) ≡ Ok (n2, sent) → IsAskedNow id asked number request n2 sent
    by_case true le is = absurd (cc)
    by_case false le is =
        let same : (next, messages_of (request_of n number) request) ≡ (n2, sent) = ap pair_of is in
        let node : next ≡ n2 = ap (λ (p : Node × List Message). p.0) same in
        record {
          has = subst (HasAsked id (asked ++ (number, request) ∷ [])) node (asked_more id asked n number request has (above le));
          req = request_of n number;
          client = has.client;
          number_is = refl;
          messages = sym (ap (λ (p : Node × List Message). p.1) same);
        }

-- what it hears, and what is taken out, leaves what it has asked
same_last : (id : ℕ) (asked : Asked) (n n2 : Node) → HasAsked id asked n → n2.id ≡ n.id → n2.last ≡ n.last → HasAsked id asked n2
same_last id asked n n2 has client last = record {
  client = ap (λ (c : ClientId). c.0) client ∙ has.client;
  below = λ e there. let l = has.below e there in omega arith;
  once = has.once;
}

node_of : Result Node Refusal → Node → Node
node_of (Ok n) m = n
node_of (Err e) m = m

taken_same : (id : ℕ) (asked : Asked) (n : Node) (req : ReqId) (reply : Reply) → HasAsked id asked n → HasAsked id asked (takes req reply n)
taken_same id asked n req reply has = by_case (is_of req n.id n.waiting)
  where
    by_case : (b : Bool) → HasAsked id asked (cond b (record { id = n.id; last = n.last; waiting = None; reply = Some reply }) n)
    by_case true = same_last id asked n (record { id = n.id; last = n.last; waiting = None; reply = Some reply }) has refl refl
    by_case false = has

heard_same : (id : ℕ) (asked : Asked) (n n2 : Node) (req : ReqId) (reply : Reply) → HasAsked id asked n → (let m : Result Node Refusal = Ok (takes req reply n) in m) ≡ Ok n2 → HasAsked id asked n2
unfolding node_of
heard_same id asked n n2 req reply has is = subst (HasAsked id asked) (ap (λ m. node_of m n) is) (taken_same id asked n req reply has)

pub hears_one : (id : ℕ) (asked : Asked) (n n2 : Node) (body : Body) → HasAsked id asked n → hears body n ≡ Ok n2 → HasAsked id asked n2
hears_one id asked n n2 (bodies.Reply req result) has is = heard_same id asked n n2 req _ has is
hears_one id asked n n2 (bodies.Done req result) has is = heard_same id asked n n2 req _ has is
hears_one id asked n n2 (bodies.Bytes req result) has is = heard_same id asked n n2 req _ has is
hears_one id asked n n2 (bodies.About handle said) has is = absurd (cc)
hears_one id asked n n2 (bodies.Push req bytes) has is = absurd (cc)
hears_one id asked n n2 (bodies.MakeCopy handle at new_handle stamp) has is = absurd (cc)
hears_one id asked n n2 (bodies.Epoch epoch end) has is = absurd (cc)
hears_one id asked n n2 (bodies.Call req call) has is = absurd (cc)
hears_one id asked n n2 (bodies.Report epoch replicas) has is = absurd (cc)
hears_one id asked n n2 (bodies.Learned epoch handles) has is = absurd (cc)
hears_one id asked n n2 (bodies.Behind epoch) has is = absurd (cc)

pub gives_up : (id : ℕ) (asked : Asked) (n : Node) → HasAsked id asked n → HasAsked id asked (given_up n)
gives_up id asked n has = same_last id asked n (given_up n) has refl refl

-- ---- what it sends

pub sent_for : (asked : ℕ → Asked) (id : ℕ) (number : ℕ) (request : Request) (n : Node) (before : Asked) (sent : List Message) → IsAskedNow id before number request n sent → asked id ≡ before ++ (number, request) ∷ [] → (m : Message) → Contains sent m → IsSentFor asked m
sent_for asked id number request n before sent now is m there = record {
  req = now.req;
  request = request;
  has = subst (λ k. Contains (asked k) (now.req.number, request)) (sym now.client) (subst (λ xs. Contains xs (now.req.number, request)) (sym is) (Contains-append_right before ((number, request) ∷ []) (now.req.number, request) (cons_first _ [] (now.req.number, request) (ap (λ k. (let e : ℕ × Request = (k, request) in e)) (sym now.number_is)))));
  sent = subst (λ xs. Contains xs m) now.messages there;
}

pub sent_still : (asked more : ℕ → Asked) (m : Message) → ((id : ℕ) (e : ℕ × Request) → Contains (asked id) e → Contains (more id) e) → IsSentFor asked m → IsSentFor more m
sent_still asked more m grows is = record { req = is.req; request = is.request; has = grows is.req.client.0 (is.req.number, is.request) is.has; sent = is.sent }

-- the first request under a number is the only one
found : (number : ℕ) (request : Request) (asked : Asked) → AreOnce asked → Contains asked (number, request) → request_in number asked ≡ Some request
found number request [] once there = nil_contains (let e : ℕ × Request = (number, request) in e) there
found number request (e ∷ asked) once there = by_case (number == e.0) refl (found number request asked (λ a b there_a there_b. once a b (cons_more e asked a there_a) (cons_more e asked b there_b)))
  where
    eq_same : (a b : ℕ) → (a == b) ≡ true → b ≡ a
    eq_same a b is = grind (arith, nat_tests)

    not_same : (a b : ℕ) → (a == b) ≡ false → b ≡ a → ⊥
    not_same a b is same = (let y : (a == b) ≡ true = grind (arith, nat_tests) in (cc))

    by_case : (b : Bool) → (number == e.0) ≡ b → (Contains asked (number, request) → request_in number asked ≡ Some request) → cond b (Some e.1) (request_in number asked) ≡ Some request
    by_case true is rest = ap Some (once e (number, request) (cons_first e asked e refl) there (eq_same number e.0 is))
    by_case false is rest = rest
        (⊎_elim (λ same. elim (not_same number e.0 is (ap (λ (x : ℕ × Request). x.0) same)) [ ]) (λ more. more) (cons_cases e asked (number, request) there))

-- what each message of a request says
abbrev SaysIt : ReqId → Request → Body → Type 0
SaysIt req request (bodies.Push other bytes) = (other ≡ req) × (bytes ≡ bytes_of (Some request))
SaysIt req request (bodies.About handle (chunks.Edit other stamp op)) = (other ≡ req) × ((members : List ℕ) × (primary : ℕ) × (request ≡ requests.Write handle members primary stamp op (bytes_of (Some request))))
SaysIt req request body = Unit {0}

each_says : (req : ReqId) (request : Request) → AllByRecursion (λ (m : Message). SaysIt req request m.body) (messages_of req request)
each_says req (requests.Call call) = (tt, tt)
each_says req (requests.Write handle members primary stamp op bytes) =
    all_append (λ (m : Message). SaysIt req (requests.Write handle members primary stamp op bytes) m.body) (pushes req (with_bytes members op) bytes) _
    (all_mapped (λ (m : Message). SaysIt req (requests.Write handle members primary stamp op bytes) m.body) _ (with_bytes members op) (λ server there. (refl, refl)))
    ((refl, (members, primary, refl)), tt)
each_says req (requests.Fetch to handle stamp epoch asked) = (tt, tt)

one_of_all : {X : Type 0} (P : X → Type 0) (xs : List X) (x : X) → AllByRecursion P xs → Contains xs x → P x
one_of_all P [] x all there = nil_contains x there
one_of_all P (y ∷ xs) x all there = ⊎_elim (λ same. subst P same all.0) (λ more. one_of_all P xs x all.1 more) (cons_cases y xs x there)

pub one_edit : (asked : ℕ → Asked) → ((id : ℕ) → AreOnce (asked id)) → (m : Message) → IsSentFor asked m → IsOfOneEdit asked m
one_edit asked once m is =
    let says = one_of_all (λ (x : Message). SaysIt is.req is.request x.body) (messages_of is.req is.request) m (each_says is.req is.request) is.sent in
    let at : named asked is.req ≡ Some is.request = found is.req.number is.request (asked is.req.client.0) (once is.req.client.0) is.has in
    record {
      pushed = λ req bytes body. let x = subst (SaysIt is.req is.request) body says in x.1 ∙ ap bytes_of (sym (ap (named asked) x.0 ∙ at));
      edits = λ handle req stamp op body.
          let x = subst (SaysIt is.req is.request) body says in
          let there : named asked req ≡ Some is.request = ap (named asked) x.0 ∙ at in
          (x.1.0, x.1.1, subst (λ o. o ≡ Some (requests.Write handle x.1.0 x.1.1 stamp op (bytes_of o))) (sym there) (ap Some x.1.2));
    }

-- ---- all clients of a store

module _ (clients : ℕ → Option Node) (asked : ℕ → Asked) (sent : List Message) (are : AreAsked clients asked sent) where
  own_asked : (id number : ℕ) (request : Request) → with_asked asked id number request id ≡ asked id ++ (number, request) ∷ []
  own_asked id number request = ap (λ b. cond b (asked id ++ (number, request) ∷ []) (asked id)) (eq-eqb id id refl)

  asked_grows : (id number : ℕ) (request : Request) (j : ℕ) (e : ℕ × Request) → Contains (asked j) e → Contains (with_asked asked id number request j) e
  asked_grows id number request j e there = by_case (nat_eq j id)
    where
      by_case : (b : Bool) → Contains (cond b (asked j ++ (number, request) ∷ []) (asked j)) e
      by_case true = Contains-append_left (asked j) ((number, request) ∷ []) e there
      by_case false = there

  all_still : (id number : ℕ) (request : Request) (ms : List Message) → AllByRecursion (λ (m : Message). IsSentFor asked m ⊎ IsNoRequest m.body) ms → AllByRecursion (λ (m : Message). IsSentFor (with_asked asked id number request) m ⊎ IsNoRequest m.body) ms
  all_still id number request [] all = tt
  all_still id number request (m ∷ ms) all = (⊎_elim (λ is. inl (sent_still asked (with_asked asked id number request) m (asked_grows id number request) is)) (λ none. inr none) all.0, all_still id number request ms all.1)

  -- one of them asks
  pub clients_ask : (id number : ℕ) (request : Request) (n n2 : Node) (new : List Message) → clients id ≡ Some n → asks number request n ≡ Ok (n2, new) → AreAsked (with_client clients id n2) (with_asked asked id number request) (sent ++ new)
  clients_ask id number request n n2 new there is =
      let now = asks_one id (asked id) n n2 number request new (are.have id n there) is in
      let more = with_asked asked id number request in
      record {
        have = λ j k at. have_so j k (nat_eq j id) refl at now.has;
        once = λ j. once_so j (nat_eq j id) refl now.has;
        are =
            all_append (λ (m : Message). IsSentFor more m ⊎ IsNoRequest m.body) sent new (all_still id number request sent are.are)
            (all_from (λ (m : Message). IsSentFor more m ⊎ IsNoRequest m.body) new (λ m has. inl (sent_for more id number request n2 (asked id) new now (own_asked id number request) m has)));
      }
    where
      have_so : (j : ℕ) (k : Node) (b : Bool) → nat_eq j id ≡ b → cond b (Some n2) (clients j) ≡ Some k → HasAsked id (asked id ++ (number, request) ∷ []) n2 → HasAsked j (cond b (asked j ++ (number, request) ∷ []) (asked j)) k
      have_so j k true same at has =
          let node : n2 ≡ k = cc in
          let here : id ≡ j = sym (eqb-true j id same) in
          subst (λ i. HasAsked i (asked i ++ (number, request) ∷ []) k) here (subst (HasAsked id (asked id ++ (number, request) ∷ [])) node has)
      have_so j k false apart at has = are.have j k at

      once_so : (j : ℕ) (b : Bool) → nat_eq j id ≡ b → HasAsked id (asked id ++ (number, request) ∷ []) n2 → AreOnce (cond b (asked j ++ (number, request) ∷ []) (asked j))
      once_so j true same has = subst (λ i. AreOnce (asked i ++ (number, request) ∷ [])) (sym (eqb-true j id same)) has.once
      once_so j false apart has = are.once j

  -- one of them goes on in another way, as it hears something
  pub clients_go_on : (id : ℕ) (n n2 : Node) → clients id ≡ Some n → (HasAsked id (asked id) n → HasAsked id (asked id) n2) → AreAsked (with_client clients id n2) asked sent
  clients_go_on id n n2 there goes = record { have = λ j k at. have_so j k (nat_eq j id) refl at; once = are.once; are = are.are }
    where
      have_so : (j : ℕ) (k : Node) (b : Bool) → nat_eq j id ≡ b → cond b (Some n2) (clients j) ≡ Some k → HasAsked j (asked j) k
      have_so j k true same at =
          let node : n2 ≡ k = cc in
          subst (λ i. HasAsked i (asked i) k) (sym (eqb-true j id same)) (subst (HasAsked id (asked id)) node (goes (are.have id n there)))
      have_so j k false apart at = are.have j k at

  -- others send
  pub others_send : (new : List Message) → AllByRecursion (λ (m : Message). IsNoRequest m.body) new → AreAsked clients asked (sent ++ new)
  others_send new none = record { have = are.have; once = are.once; are = all_append (λ (m : Message). IsSentFor asked m ⊎ IsNoRequest m.body) sent new are.are (each new none) }
    where
      each : (ms : List Message) → AllByRecursion (λ (m : Message). IsNoRequest m.body) ms → AllByRecursion (λ (m : Message). IsSentFor asked m ⊎ IsNoRequest m.body) ms
      each [] all = tt
      each (m ∷ ms) all = (inr all.0, each ms all.1)

  -- so all that was sent for a request is of one edit
  pub all_of_one_edit : (m : Message) → Contains sent m → IsOfOneEdit asked m
  all_of_one_edit m there = ⊎_elim (λ is. one_edit asked are.once m is) (λ none. no_request m none) (one_of_all (λ (x : Message). IsSentFor asked x ⊎ IsNoRequest x.body) sent m are.are there)
    where
      no_request : (m : Message) → IsNoRequest m.body → IsOfOneEdit asked m
      no_request m none = record {
        pushed = λ req bytes body. elim (subst IsNoRequest body none) [ ];
        edits = λ handle req stamp op body. elim (subst IsNoRequest body none) [ ];
      }

pub none_asked : (clients : ℕ → Option Node) → ((id : ℕ) (n : Node) → clients id ≡ Some n → HasAsked id [] n) → AreAsked clients (λ _. []) []
none_asked clients each = record { have = each; once = λ id a b there. nil_contains a there; are = tt }
