-- All that is ever sent for a request of a store is of its one edit.
use Rattle.std.proofs.Common.{if◌then◌else◌, cond, ◌≡◌, ◌∙◌, ◌⊎◌, ⊎_elim, ◌++◌, ◌+◌, ◌-◌, ◌==◌, ℕ, zero, suc, Bool, true, false, List, [], ◌∷◌, length, Option, Some, None, refl, sym, ap, subst, inl, inr, slice_get, slice_set, arith, length-append, append-nil, append_assoc}
use Rattle.std.specs.Prelude.{Contains, nat_eq}
use Rattle.std.specs.List.{AllByRecursion}
use Rattle.std.proofs.lemmas.Bool.{eq-eqb, eqb-true}
use Rattle.std.proofs.lemmas.List.Elements.{Contains-append_left}
use Rattle.gs_base.specs.declared.config.Config.{Config}
use Rattle.gs_base.specs.declared.numbers.ReqId.{ReqId}
use Rattle.gs_client.specs.Nodes.{Node, silent}
use Rattle.gs_journal.specs.Records.{fresh, standing}
use Rattle.gs_msg.specs.declared.body.Body.{Body}
use Rattle.gs_msg.specs.declared.body.Body.TheVariants as bodies
use Rattle.gs_msg.specs.declared.event.DiskId.{DiskId}
use Rattle.gs_msg.specs.declared.event.Request.{Request}
use Rattle.gs_msg.specs.declared.message.Message.{Message}
use Rattle.gs_msg.specs.declared.node.NodeId.TheVariants as ids
use Rattle.gs_master_spec.specs.Handling.{restarted}
use Rattle.gs_nodes.specs.Happenings.{refusal_of_call}
use Rattle.gs_nodes.specs.Nodes.{Nodes, new_clients}
use Rattle.gs_nodes.specs.declared.place.MasterPlace.{MasterPlace}
use Rattle.gs_world.specs.Histories.{Begins, History}
use Rattle.gs_laws_world.specs.lasting.Lasting.{Lasts, StepNamed, failures_at}
use Rattle.gs_world.specs.Runs.{Goes, Step}
use Rattle.gs_world.specs.Sent.{Sent, none_sent}
use Rattle.gs_laws_world.proofs.lemmas.lasting.Lasting.{begins_firm, run_lasts}
use Rattle.gs_laws_chunk.proofs.lemmas.machine.Lists.{at_push}
use Rattle.gs_laws_parts.specs.server.Requests.{AreAsked, Asked, HasAsked, IsNoRequest, IsOfOneEdit, IsSentFor, bytes_in, named, request_in, with_asked, with_client}
use Rattle.gs_laws_parts.proofs.lemmas.server.Lists.{cons_first, nil_contains}
use Rattle.gs_laws_parts.proofs.lemmas.server.Requests.{all_of_one_edit, clients_ask, clients_go_on, has_asked_nothing, sent_still}
use Rattle.gs_laws_lift.specs.stores.Saying.{AreOfMaster, PushRight}
use Rattle.gs_laws_lift.specs.stores.Going.{AllSent, MasterGoes}
use Rattle.gs_laws_moves.proofs.lemmas.moves.Fitting.{once_chain}
use Rattle.gs_laws_moves.specs.moves.Laws.{IsMadeWell}
use Rattle.gs_laws_lift.specs.stores.Doing.{Arms, MasterDoes, Moves, Refuses, Starts, Waits}
use Rattle.gs_laws_lift.specs.stores.Asking.{AreAskedIn, AreAskedOver, AskMore, AskOn, StayAsked, client_at}
use Rattle.gs_laws_lift.proofs.lemmas.stores.AskingClients.{Asks, ClientsGo, GoesOn, NoRequests, Rest, clients_go, of_master}
use Rattle.gs_laws_lift.proofs.lemmas.stores.Beginning.{begins_silent, none_of}
use Rattle.gs_laws_lift.proofs.lemmas.stores.Doing.{masters_do}
use Rattle.gs_laws_lift.proofs.lemmas.stores.Joint.{chain_of_master}
use Rattle.gs_laws_lift.proofs.lemmas.stores.Posting.{posted_all, sent_then}
use Rattle.gs_laws_lift.proofs.lemmas.stores.Serving.{set_cases}

-- ---- the master says what is its own

refused_says : (caller : Option ReqId) → AreOfMaster (refusal_of_call caller)
refused_says None = tt
refused_says (Some req) = (tt, tt)

module _ {D : Type 0} (seen : D → List ℕ) (armed : DiskId → ℕ → MasterPlace D → MasterPlace D) (sent : Sent) (old new : MasterPlace D) (messages : List Message) where
  pub does_say : MasterDoes seen armed sent old new messages → AreOfMaster messages
  does_say (Moves m after heard t was is hears chain state sends) = subst AreOfMaster (sym sends) (chain_of_master m.config heard m.state t (once_chain m.config (IsMadeWell m.config heard) m.state t chain))
  does_say (Starts config d log after t has kept counters is chain state sends) = subst AreOfMaster (sym sends) (chain_of_master config None (restarted d log) t (once_chain config (IsMadeWell config None) (restarted d log) t chain))
  does_say (Waits d first second has kept counters is told none) = subst AreOfMaster (sym none) tt
  does_say (Refuses caller still sends) = subst AreOfMaster (sym sends) (refused_says caller)
  does_say (Arms disk call is none) = subst AreOfMaster (sym none) tt

-- ---- a client in its place

same_number : (i j : ℕ) → (i == 0) ≡ false → (j == 0) ≡ false → j - 1 ≡ i - 1 → j ≡ i
same_number zero j some other same = absurd (cc)
same_number (suc i) zero some other same = absurd (cc)
same_number (suc i) (suc j) some other same = omega arith

-- the client that goes on is in its place, and each other one in its own
set_client : (clients : List Node) (id j : ℕ) (n after k : Node) → client_at clients id ≡ Some n → client_at (slice_set clients (id - 1) after) j ≡ Some k → with_client (client_at clients) id after j ≡ Some k
set_client clients id j n after k found is = by_number (id == 0) (j == 0) refl refl found is
  where
    by_number : (a b : Bool) → (id == 0) ≡ a → (j == 0) ≡ b → (if a then None else slice_get clients (id - 1)) ≡ Some n → (if b then None else slice_get (slice_set clients (id - 1) after) (j - 1)) ≡ Some k → with_client (client_at clients) id after j ≡ Some k
    by_number true b some other found is = absurd (cc)
    by_number false true some other found is = absurd (cc)
    by_number false false some other found is = elim (set_cases clients (id - 1) (j - 1) after k is) [
      | inl here ↦
          let node : after ≡ k = sym here.1 in
          subst (λ i. with_client (client_at clients) id after i ≡ Some k) (sym (same_number id j some other here.0)) (ap (λ b. cond b (Some after) (client_at clients id)) (eq-eqb id id refl) ∙ ap Some node)
      | inr there ↦ apart (nat_eq j id) refl there.0 (ap (λ b. if b then None else slice_get clients (j - 1)) other ∙ there.1)
    ]
      where
        apart : (b : Bool) → nat_eq j id ≡ b → (j - 1 ≡ id - 1 → ⊥) → client_at clients j ≡ Some k → cond b (Some after) (client_at clients j) ≡ Some k
        apart true same never at = absurd (never (ap (λ i. i - 1) (eqb-true j id same)))
        apart false same never at = at

-- ---- what was asked stays

pub none_more : (asked : ℕ → Asked) → StayAsked asked asked
none_more asked id = ([], sym (append-nil (asked id)))

one_more : (asked : ℕ → Asked) (id number : ℕ) (request : Request) → StayAsked asked (with_asked asked id number request)
one_more asked id number request j = by_case (nat_eq j id)
  where
    by_case : (b : Bool) → (more : Asked) × (cond b (asked j ++ (number, request) ∷ []) (asked j) ≡ asked j ++ more)
    by_case true = ((number, request) ∷ [], refl)
    by_case false = none_more asked j

pub stay_then : (old mid new : ℕ → Asked) → StayAsked old mid → StayAsked mid new → StayAsked old new
stay_then old mid new first rest id =
    let a = first id in
    let b = rest id in
    (a.0 ++ b.0, b.1 ∙ ap (λ xs. xs ++ b.0) a.1 ∙ append_assoc (old id) a.0 b.0)

stays_there : (old new : ℕ → Asked) → StayAsked old new → (id : ℕ) (e : ℕ × Request) → Contains (old id) e → Contains (new id) e
stays_there old new stay id e there = let a = stay id in subst (λ xs. Contains xs e) (sym a.1) (Contains-append_left (old id) a.0 e there)

-- so a request that has a name has it still
request_stays : (number : ℕ) (asked more : Asked) (request : Request) → request_in number asked ≡ Some request → request_in number (asked ++ more) ≡ Some request
request_stays number [] more request is = absurd (cc)
request_stays number (e ∷ asked) more request is = by_case (number == e.0) is (request_stays number asked more request)
  where
    by_case : (b : Bool) → cond b (Some e.1) (request_in number asked) ≡ Some request → (request_in number asked ≡ Some request → request_in number (asked ++ more) ≡ Some request)
        → cond b (Some e.1) (request_in number (asked ++ more)) ≡ Some request
    by_case true is rest = is
    by_case false is rest = rest is

pub named_stays : (old new : ℕ → Asked) → StayAsked old new → (req : ReqId) (request : Request) → named old req ≡ Some request → named new req ≡ Some request
named_stays old new stay req request is =
    let a = stay req.client.0 in subst (λ xs. request_in req.number xs ≡ Some request) (sym a.1) (request_stays req.number (old req.client.0) a.0 request is)

-- ---- all that was sent

-- it is for one of these requests, or of none
abbrev IsAskedFor : (ℕ → Asked) → Message → Type 0
IsAskedFor asked m = IsSentFor asked m ⊎ IsNoRequest m.body

all_of_none : (asked : ℕ → Asked) (messages : List Message) → NoRequests messages → AllByRecursion (IsAskedFor asked) messages
all_of_none asked [] none = tt
all_of_none asked (m ∷ messages) none = (inr none.0, all_of_none asked messages none.1)

pub of_one_edit : {D : Type 0} (asked : ℕ → Asked) (h : History D) → AreAskedIn asked h → AllSent (IsOfOneEdit asked) h.sent
of_one_edit asked h are id m stands = all_of_one_edit (λ k. None) asked (m ∷ []) (record { have = λ k n none. absurd (cc); once = are.once; are = (are.sent id m stands, tt) }) m (cons_first m [] m refl)

pub right_of : (asked : ℕ → Asked) (m : Message) → IsOfOneEdit asked m → PushRight (bytes_in asked) m
right_of asked m is = by_body m.body refl
  where
    IsRight : Body → Type 0
    IsRight body = PushRight (bytes_in asked) (record { from = m.from; to = m.to; body = body })

    by_body : (body : Body) → m.body ≡ body → IsRight body
    by_body (bodies.Push req bytes) said = is.pushed req bytes said
    by_body (bodies.About handle said) same = tt
    by_body (bodies.MakeCopy handle at new_handle stamp) same = tt
    by_body (bodies.Epoch epoch end) same = tt
    by_body (bodies.Call req call) same = tt
    by_body (bodies.Reply req result) same = tt
    by_body (bodies.Done req result) same = tt
    by_body (bodies.Bytes req result) same = tt
    by_body (bodies.Report epoch replicas) same = tt
    by_body (bodies.Learned epoch handles) same = tt
    by_body (bodies.Behind epoch) same = tt

pub pushes_right : {D : Type 0} (asked : ℕ → Asked) (h : History D) → AreAskedIn asked h → AllSent (PushRight (bytes_in asked)) h.sent
pushes_right asked h are = sent_then (IsOfOneEdit asked) (PushRight (bytes_in asked)) h.sent (right_of asked) (of_one_edit asked h are)

-- ---- a step

module _ {D : Type 0} (old new : History D) (asked : ℕ → Asked) (are : AreAskedIn asked old) where
  -- of each client
  clients_so : AreAsked (client_at old.nodes.clients) asked []
  clients_so = record { have = are.have; once = are.once; are = tt }

  pub asks_more : ClientsGo old new → AskMore asked new
  asks_more (Asks id number request n after messages moment found is clients posted) =
      let all = with_asked asked id.0 number request in
      let now = clients_ask (client_at old.nodes.clients) asked [] clients_so id.0 number request n after messages found is in record {
        all = all;
        stay = one_more asked id.0 number request;
        are = record {
          have = λ j k at. now.have j k (set_client old.nodes.clients id.0 j n after k found (subst (λ cs. client_at cs j ≡ Some k) clients at));
          once = now.once;
          sent = posted_all (IsAskedFor all) moment (ids.Client id) messages old.sent new.sent posted
              (sent_then (IsAskedFor asked) (IsAskedFor all) old.sent (λ m. ⊎_elim (λ is. inl (sent_still asked all m (stays_there asked all (one_more asked id.0 number request)) is)) (λ none. inr none)) are.sent) now.are;
        };
      }
  asks_more (GoesOn id n after by moment found keeps clients posted) =
      let now = clients_go_on (client_at old.nodes.clients) asked [] clients_so id.0 n after found (keeps (asked id.0)) in record {
        all = asked;
        stay = none_more asked;
        are = record {
          have = λ j k at. now.have j k (set_client old.nodes.clients id.0 j n after k found (subst (λ cs. client_at cs j ≡ Some k) clients at));
          once = are.once;
          sent = posted_all (IsAskedFor asked) moment by [] old.sent new.sent posted are.sent tt;
        };
      }
  asks_more (Rest by messages moment none clients posted) = record {
    all = asked;
    stay = none_more asked;
    are = record {
      have = λ j k at. are.have j k (subst (λ cs. client_at cs j ≡ Some k) clients at);
      once = are.once;
      sent = posted_all (IsAskedFor asked) moment by messages old.sent new.sent posted are.sent (all_of_none asked messages none);
    };
  }

module _ {D : Type 0} (seen : D → List ℕ) (failures : D → ℕ) (armed : DiskId → ℕ → MasterPlace D → MasterPlace D) where
  step_asks : (step : Step) (old new : History D) (asked : ℕ → Asked) → AreAskedIn asked old → Lasts seen old.nodes.master → Goes seen failures armed step old new → StepNamed step old → failures_at failures new.nodes.master ≡ failures_at failures old.nodes.master → AskMore asked new
  step_asks step old new asked are lasts goes named quiet = asks_more old new asked are (clients_go seen failures armed step old new goes named says)
    where
      says : (place : MasterPlace D) (messages : List Message) → new.nodes.master ≡ place → MasterGoes seen failures armed old.nodes.config old.sent old.nodes.master place messages → NoRequests messages
      says place messages is does =
          of_master messages
          (does_say seen armed old.sent old.nodes.master place messages (masters_do seen failures armed old.nodes.config old.sent old.nodes.master place messages lasts (sym (ap (failures_at failures) is) ∙ quiet) does))

  pub ask_on : AskOn seen failures armed
  ask_on lasting [] old new asked are lasts same = record { all = asked; stay = none_more asked; are = subst (AreAskedIn asked) (sym same) are }
  ask_on lasting (step ∷ steps) old new asked are lasts (mid, goes, named, quiet, rest) =
      let one = step_asks step old mid asked are lasts goes named quiet in
      let last = ask_on lasting steps mid new one.all one.are (run_lasts seen failures armed lasting (step ∷ []) old mid (mid, goes, named, quiet, refl) lasts) rest in
      record { all = last.all; stay = stay_then asked one.all last.all one.stay last.stay; are = last.are }

-- ---- from the beginning

clients_length : (many : ℕ) → length (new_clients many) ≡ many
clients_length zero = refl
clients_length (suc many) = let before = clients_length many in omega (arith, length-append (new_clients many) (silent (record { 0 = many + 1 }) ∷ []))

new_at : (many place : ℕ) (n : Node) → slice_get (new_clients many) place ≡ Some n → n ≡ silent (record { 0 = place + 1 })
new_at zero place n found = absurd (cc)
new_at (suc many) place n found = elim (at_push (new_clients many) (silent (record { 0 = many + 1 })) place n found) [
  | inl before ↦ new_at many place n before
  | inr last ↦ sym last.1 ∙ ap (λ k. silent (record { 0 = k + 1 })) (sym (last.0 ∙ clients_length many))
]

numbered_from_one : (id : ℕ) → (id == 0) ≡ false → id - 1 + 1 ≡ id
numbered_from_one zero some = absurd (cc)
numbered_from_one (suc id) some = omega arith

asked_nothing : (many id : ℕ) (n : Node) → client_at (new_clients many) id ≡ Some n → HasAsked id [] n
asked_nothing many id n found = by_number (id == 0) refl found
  where
    by_number : (b : Bool) → (id == 0) ≡ b → (if b then None else slice_get (new_clients many) (id - 1)) ≡ Some n → HasAsked id [] n
    by_number true some found = absurd (cc)
    by_number false some found = subst (λ k. HasAsked k [] n) (numbered_from_one id some) (subst (HasAsked (id - 1 + 1) []) (sym (new_at many (id - 1) n found)) (has_asked_nothing (record { 0 = id - 1 + 1 })))

abbrev nobody : ℕ → Asked
nobody id = []

module _ {D : Type 0} (seen : D → List ℕ) (failures : D → ℕ) (armed : DiskId → ℕ → MasterPlace D → MasterPlace D) (config : Config) (clients : ℕ) (disks : D × D) (new : History D)
    (none : standing (seen disks.0) (seen disks.1) ≡ fresh) (begun : Begins seen failures armed config clients disks new) where
  pub asked_first : AreAskedIn (λ id. []) new
  asked_first = record {
    have = λ id n found. asked_nothing clients id n (subst (λ (h : Nodes D). client_at h.clients id ≡ Some n) begun.nodes found);
    once = λ id a b there. nil_contains a there;
    sent = posted_all (IsAskedFor nobody) (record { 0 = 0 }) ids.Master begun.turn.sent.items (none_sent config.servers clients) new.sent (inl begun.sent) (none_of (IsAskedFor nobody) config.servers clients)
        (subst (AllByRecursion (IsAskedFor nobody)) (sym (begins_silent seen failures armed config clients disks new none begun)) tt);
  }

module _ {D : Type 0} (seen : D → List ℕ) (failures : D → ℕ) (armed : DiskId → ℕ → MasterPlace D → MasterPlace D) where
  pub asked_over : AreAskedOver seen failures armed
  asked_over lasting config clients disks steps begun now none begins runs =
      let x = ask_on seen failures armed lasting steps begun now (λ id. []) (asked_first seen failures armed config clients disks begun none begins) (begins_firm seen failures armed config clients disks begun none begins) runs in (x.all, x.are)
