-- What a client's node is between its question and the reply.
use Rattle.std.proofs.Common.{◌≡◌, ◌∙◌, ◌⊎◌, inl, inr, ◌++◌, ◌+◌, ◌≤◌, ◌==◌, ℕ, zero, suc, List, [], ◌∷◌, Bool, true, false, cond, length, Option, Some, None, Result, Ok, Err, refl, sym, ap, subst, append_assoc, append-nil, arith}
use Rattle.std.proofs.lemmas.Option.{none-some, same_Some, slice_get_within}
use Rattle.std.proofs.lemmas.Bool.Decides.{nat_tests}
use Rattle.std.specs.Prelude.{if◌then◌else◌, nat_le, slice_get, Vec}
use Rattle.std.specs.declared.alloc.Global.{Global}
use Rattle.gs_base.specs.declared.numbers.ClientId.{ClientId}
use Rattle.gs_base.specs.declared.numbers.Moment.{Moment}
use Rattle.gs_base.specs.declared.numbers.ReqId.{ReqId}
use Rattle.gs_base.specs.declared.refusal.Refusal.{Refusal}
use Rattle.gs_base.specs.declared.refusal.Refusal.TheVariants as refusals
use Rattle.gs_client.specs.Nodes.{Asks, Node, answered, asks, hears, is_of, messages_of, request_of, takes}
use Rattle.gs_client.specs.declared.link.Reply.{Reply}
use Rattle.gs_client.specs.declared.link.Reply.TheVariants as replies
use Rattle.gs_msg.specs.declared.body.Body.{Body}
use Rattle.gs_msg.specs.declared.body.Body.TheVariants as bodies
use Rattle.gs_msg.specs.declared.event.Request.{Request}
use Rattle.gs_msg.specs.declared.message.Message.{Message}
use Rattle.gs_msg.specs.declared.sent.Sent.{Sent}
use Rattle.gs_nodes.specs.Happenings.{ClientHears}
use Rattle.gs_world.specs.Histories.{asked as told_asked}
use Rattle.gs_cluster_core.specs.Roles.{DoesAs}
use Rattle.gs_cluster_core.specs.declared.role.Role.{Role}
use Rattle.gs_cluster_core.specs.declared.role.Role.TheVariants.{Master, Server as AServer, Client}
use Rattle.gs_cluster_history.specs.Histories.{Among, Entry, Kept, Upshot, said_of}
use Rattle.gs_cluster_history.specs.declared.took.Took.TheVariants.{Heard, Did}
use Rattle.gs_cluster_node.specs.Nodes.{Stepped, last_clock}
use Rattle.gs_cluster.proofs.Lists.{at_before, at_behind, at_last}
use Rattle.gs_cluster.specs.Answered.{Answered, IsBrought, IsSilent, Question, Source, brought, client_of, is_own}
use Rattle.gs_cluster.specs.Calling.{Carries, HearsAll, HearsThem, Replied, asking, most_vain, reply_of, takes_memory}

-- ---- one message

-- it is passed over, or it is taken
pub data Hearing (body : Body) (n after : Node) : Type 0 where
  Passes : brought body ≡ None → after ≡ n → Hearing body n after
  Takes : (req : ReqId) (reply : Reply) → brought body ≡ Some (req, reply) → after ≡ takes req reply n → Hearing body n after

pub hearing : (body : Body) (n : Node) (said : Option Refusal) (after : Node) → ClientHears body n said after → Hearing body n after
hearing (bodies.Reply req result) n None after is = Takes req (answered replies.Answer result) refl is
hearing (bodies.Reply req result) n (Some f) after is = absurd is
hearing (bodies.Done req result) n None after is = Takes req (answered replies.Outcome result) refl is
hearing (bodies.Done req result) n (Some f) after is = absurd is
hearing (bodies.Bytes req result) n None after is = Takes req (answered replies.Given result) refl is
hearing (bodies.Bytes req result) n (Some f) after is = absurd is
hearing body n None after is = absurd is
hearing body n (Some f) after is = Passes refl is.1

-- a node that waits for nothing takes nothing
takes_nothing : (req : ReqId) (reply : Reply) (n : Node) → n.waiting ≡ None → takes req reply n ≡ n
takes_nothing req reply n none = ap (λ (w : Option ℕ). if is_of req n.id w then record { id = n.id; last = n.last; waiting = None; reply = Some reply } else n) none

-- one that waits for a number takes what is for it
data Taking (req : ReqId) (reply : Reply) (n : Node) (number : ℕ) : Type 0 where
  Passed : (req.client ≡ n.id → req.number ≡ number → ⊥) → takes req reply n ≡ n → Taking req reply n number
  Taken : req.client ≡ n.id → req.number ≡ number → takes req reply n ≡ record { id = n.id; last = n.last; waiting = None; reply = Some reply } → Taking req reply n number

same_number : (m n : ℕ) → (m == n) ≡ true → m ≡ n
same_number m n is = grind (arith, nat_tests)

other_number : (m n : ℕ) → (m == n) ≡ false → m ≡ n → ⊥
other_number m n is same = grind (arith, nat_tests)

-- by whose request it is, and its number
abbrev by_tests : Reply → Node → Bool → Bool → Node
by_tests reply n b c = if cond b c false then record { id = n.id; last = n.last; waiting = None; reply = Some reply } else n

taking : (req : ReqId) (reply : Reply) (n : Node) (number : ℕ) → n.waiting ≡ Some number → Taking req reply n number
taking req reply n number waits = by_both (req.client.0 == n.id.0) (req.number == number) refl refl
  where
    first : takes req reply n ≡ by_tests reply n (req.client.0 == n.id.0) (req.number == number)
    first = ap (λ (w : Option ℕ). if is_of req n.id w then record { id = n.id; last = n.last; waiting = None; reply = Some reply } else n) waits

    by_both : (b c : Bool) → (req.client.0 == n.id.0) ≡ b → (req.number == number) ≡ c → Taking req reply n number
    by_both true true is so = Taken (ap (λ (i : ℕ). record { 0 = i }) (same_number req.client.0 n.id.0 is)) (same_number req.number number so) (first ∙ λ i. by_tests reply n (is i) (so i))
    by_both true false is so = Passed (λ client same. other_number req.number number so same) (first ∙ λ i. by_tests reply n (is i) (so i))
    by_both false c is so =
        Passed (λ client same. other_number req.client.0 n.id.0 is (ap (λ (c : ClientId). c.0) client)) (first ∙ λ i. by_tests reply n (is i) (req.number == number))

-- ---- what was taken

front : (xs ys : List Entry) (e : Entry) → Among xs e → Among (xs ++ ys) e
front xs ys e (k, is) = (k, at_before xs ys k (slice_get_within xs k e is) ∙ is)

pub more_brought : (took more : List Entry) (client : Option ClientId) (number : ℕ) (reply : Reply) → IsBrought took client number reply → IsBrought (took ++ more) client number reply
more_brought took more client number reply b = record {
  entry = b.entry;
  among = front took more b.entry b.among;
  sent = b.sent;
  heard = b.heard;
  req = b.req;
  brings = b.brings;
  mine = b.mine;
  numbered = b.numbered;
}

pub then_brought : (took more : List Entry) (client : Option ClientId) (number : ℕ) (reply : Reply) → IsBrought more client number reply → IsBrought (took ++ more) client number reply
then_brought took more client number reply b = record {
  entry = b.entry;
  among = (length took + b.among.0, at_behind took more b.among.0 ∙ b.among.1);
  sent = b.sent;
  heard = b.heard;
  req = b.req;
  brings = b.brings;
  mine = b.mine;
  numbered = b.numbered;
}

-- what was taken last, or something before it
last_or_before : (took : List Entry) (e x : Entry) (k : ℕ) → slice_get (took ++ e ∷ []) k ≡ Some x → Among took x ⊎ (e ≡ x)
last_or_before [] e x zero is = inr (same_Some e x is)
last_or_before [] e x (suc k) is = absurd (none-some x is)
last_or_before (y ∷ ys) e x zero is = inl (0, is)
last_or_before (y ∷ ys) e x (suc k) is = elim (last_or_before ys e x k is) [ inl there ↦ inl (suc there.0, there.1) | inr last ↦ inr last ]

heard_is : {s t : Sent} → Heard s ≡ Heard t → s ≡ t
heard_is is = cc

nothing_taken : (client : Option ClientId) (number : ℕ) → IsSilent [] client number
nothing_taken client number reply b = none-some b.entry b.among.1

-- one message more, which brings nothing to this request
silent_more : (took : List Entry) (e : Entry) (sent : Sent) (id : ClientId) (number : ℕ) → e.took ≡ Heard sent → IsSilent took (Some id) number
    → ((req : ReqId) (reply : Reply) → brought sent.message.body ≡ Some (req, reply) → req.client ≡ id → req.number ≡ number → ⊥) → IsSilent (took ++ e ∷ []) (Some id) number
silent_more took e sent id number heard silent other reply b = elim (last_or_before took e b.entry b.among.0 b.among.1) [
  | inl there ↦ silent reply (record { entry = b.entry; among = there; sent = b.sent; heard = b.heard; req = b.req; brings = b.brings; mine = b.mine; numbered = b.numbered })
  | inr last ↦ other b.req reply
      (ap (λ (s : Sent). brought s.message.body) (heard_is (sym heard ∙ ap (λ (x : Entry). x.took) last ∙ b.heard)) ∙ b.brings)
      (same_Some b.req.client id (sym b.mine)) b.numbered
]

-- ---- between the question and the reply

module _ {D : Type 0} (seen : D → List ℕ) (failures : D → ℕ) where
  -- it waits, and none of what was taken has brought anything; or it has what one has brought
  data State (id : ClientId) (number : ℕ) (took : List Entry) (core : Role D) : Type 0 where
    Waits : (n : Node) → core ≡ Client n → n.id ≡ id → n.waiting ≡ Some number → n.reply ≡ None → IsSilent took (Some id) number → State id number took core
    Has : (n : Node) (came : Reply) → core ≡ Client n → n.id ≡ id → n.waiting ≡ None → n.reply ≡ Some came → IsBrought took (Some id) number came → State id number took core

  -- one message more
  hears_one : (id : ClientId) (number : ℕ) (took : List Entry) (old new : Role D) (e : Entry) (sent : Sent) → e.took ≡ Heard sent → DoesAs seen failures (Heard sent) old e.outcome new
      → State id number took old → State id number (took ++ e ∷ []) new
  hears_one id number took old new e sent heard does (Waits n core mine waits none silent) =
      let h : DoesAs seen failures (Heard sent) (Client n) e.outcome new = subst (λ (c : Role D). DoesAs seen failures (Heard sent) c e.outcome new) core does in
      by_hearing h.0 h.1 (hearing sent.message.body n h.2.1.0 h.0 h.2.1.1)
    where
      passed : (after : Node) → new ≡ Client after → after ≡ n → ((req : ReqId) (reply : Reply) → brought sent.message.body ≡ Some (req, reply) → req.client ≡ id → req.number ≡ number → ⊥)
          → State id number (took ++ e ∷ []) new
      passed after is same other = Waits n (is ∙ ap (λ (m : Node). Client m) same) mine waits none (silent_more took e sent id number heard silent other)

      by_taking : (after : Node) → new ≡ Client after → (req : ReqId) (reply : Reply) → brought sent.message.body ≡ Some (req, reply) → after ≡ takes req reply n → Taking req reply n number
          → State id number (took ++ e ∷ []) new
      by_taking after is req reply brings so (Passed apart same) = passed after is (so ∙ same) other
        where
          pair : (r : ReqId) (p : Reply) → brought sent.message.body ≡ Some (r, p) → req ≡ r
          pair r p it = ap (λ (x : ReqId × Reply). x.0) (same_Some (req, reply) (r, p) (sym brings ∙ it))

          other : (r : ReqId) (p : Reply) → brought sent.message.body ≡ Some (r, p) → r.client ≡ id → r.number ≡ number → ⊥
          other r p it client numbered =
              apart (ap (λ (x : ReqId). x.client) (pair r p it) ∙ client ∙ sym mine) (ap (λ (x : ReqId). x.number) (pair r p it) ∙ numbered)
      by_taking after is req reply brings so (Taken client numbered same) =
          let next : Node = record { id = n.id; last = n.last; waiting = None; reply = Some reply } in
          let whole : after ≡ next = so ∙ same in
          Has next reply (is ∙ ap (λ (m : Node). Client m) whole) mine refl refl (record {
            entry = e;
            among = (length took, at_last took e);
            sent = sent;
            heard = heard;
            req = req;
            brings = brings;
            mine = ap (λ (c : ClientId). Some c) (sym mine ∙ sym client);
            numbered = numbered;
          })

      by_hearing : (after : Node) → new ≡ Client after → Hearing sent.message.body n after → State id number (took ++ e ∷ []) new
      by_hearing after is (Passes nothing same) = passed after is same (λ r p it client numbered. none-some (r, p) (sym nothing ∙ it))
      by_hearing after is (Takes req reply brings so) = by_taking after is req reply brings so (taking req reply n number waits)
  hears_one id number took old new e sent heard does (Has n came core mine none has from) =
      let h : DoesAs seen failures (Heard sent) (Client n) e.outcome new = subst (λ (c : Role D). DoesAs seen failures (Heard sent) c e.outcome new) core does in
      by_hearing h.0 h.1 (hearing sent.message.body n h.2.1.0 h.0 h.2.1.1)
    where
      stays : (after : Node) → new ≡ Client after → after ≡ n → State id number (took ++ e ∷ []) new
      stays after is same = Has n came (is ∙ ap (λ (m : Node). Client m) same) mine none has (more_brought took (e ∷ []) (Some id) number came from)

      by_hearing : (after : Node) → new ≡ Client after → Hearing sent.message.body n after → State id number (took ++ e ∷ []) new
      by_hearing after is (Passes nothing same) = stays after is same
      by_hearing after is (Takes req reply brings so) = stays after is (so ∙ takes_nothing req reply n none)

  -- all of them
  record HasHeard (id : ClientId) (number : ℕ) (took : List Entry) (old new : Kept (Role D)) : Type 0 where
    more : List Entry
    grows : new.entries ≡ old.entries ++ more
    state : State id number (took ++ more) new.past.core

  hears_all : (id : ClientId) (number : ℕ) (messages : List Sent) (took : List Entry) (old new : Kept (Role D)) → State id number took old.past.core → HearsThem seen failures messages old new → HasHeard id number took old new
  hears_all id number [] took old new state same = record {
    more = [];
    grows = ap (λ (k : Kept (Role D)). k.entries) same ∙ sym (append-nil old.entries);
    state = subst (λ xs. State id number xs new.past.core) (sym (append-nil took)) (subst (λ (k : Kept (Role D)). State id number took k.past.core) (sym same) state);
  }
  hears_all id number (sent ∷ rest) took old new state (said, mid, step, hears) =
      let does : DoesAs seen failures (Heard sent) old.past.core step.entry.outcome mid.past.core =
      subst (λ t. DoesAs seen failures t old.past.core step.entry.outcome mid.past.core) step.of step.takes.does in
      let next = hears_one id number took old.past.core mid.past.core step.entry sent step.of does state in
      let all = hears_all id number rest (took ++ step.entry ∷ []) mid new next hears in
      record {
        more = step.entry ∷ all.more;
        grows = all.grows ∙ ap (λ xs. xs ++ all.more) step.entries ∙ append_assoc old.entries (step.entry ∷ []) all.more;
        state = subst (λ xs. State id number xs new.past.core) (append_assoc took (step.entry ∷ []) all.more) all.state;
      }

  -- ---- the question

  -- it was asked, and waits
  record Begun (number : ℕ) (old new : Role D) : Type 0 where
    id : ClientId
    was : client_of old ≡ Some id
    state : State id number [] new

  no_refusal : {A : Type 0} (f : Refusal) → ◌≡◌ {A = Result (Unit {0}) Refusal} (Ok tt) (Err f) → A
  no_refusal f is = absurd (cc)

  begun : (moment : Moment) (req : ReqId) (request : Request) (old : Role D) (outcome : Upshot) (new : Role D) → DoesAs seen failures (Did (asking moment req request)) old outcome new → Ok tt ≡ said_of outcome
      → Begun req.number old new
  begun moment req request (Master place) outcome new (after, is, stray) said = no_refusal refusals.Stray (said ∙ ap said_of stray.0)
  begun moment req request (AServer server) outcome new (after, is, stray) said = no_refusal refusals.Stray (said ∙ ap said_of stray.0)
  begun moment req request (Client n) outcome new (after, is, acts) said = by_out acts.0 acts.1 acts.2
    where
      waits : Node
      waits = record { id = n.id; last = req.number; waiting = Some req.number; reply = None }

      by_test : (b : Bool) (sent : Vec Message Global) → Asks (if b then Err refusals.Old else Ok (record { id = n.id; last = req.number; waiting = Some req.number; reply = None }, messages_of (request_of n req.number) request)) (Ok sent) n after
          → Begun req.number (Client n) new
      by_test true sent asked = absurd asked
      by_test false sent asked = record { id = n.id; was = refl; state = Waits (record { id = n.id; last = req.number; waiting = Some req.number; reply = None }) (is ∙ ap (λ (m : Node). Client m) asked.0) refl refl refl (nothing_taken (Some n.id) req.number) }

      by_out : (out : Result (Vec Message Global) Refusal) → Asks (asks req.number request n) out n after → outcome ≡ told_asked out → Begun req.number (Client n) new
      by_out (Ok sent) asked told = by_test (nat_le req.number n.last) sent asked
      by_out (Err f) asked told = no_refusal f (said ∙ ap said_of told)

  -- it was refused, and nothing changed
  record Unasked (refusal : Refusal) (old : Role D) (outcome : Upshot) (new : Role D) : Type 0 where
    told : outcome ≡ Err refusal
    own : is_own refusal ≡ true
    stays : client_of new ≡ client_of old

  err_is : {A : Type 0} {f g : Refusal} → ◌≡◌ {A = Result A Refusal} (Err f) (Err g) → f ≡ g
  err_is is = cc

  own_refusal : (f : Refusal) (old : Role D) (outcome : Upshot) (new : Role D) → outcome ≡ Err f → is_own f ≡ true → new ≡ old → (refusal : Refusal) → ◌≡◌ {A = Result (Unit {0}) Refusal} (Err refusal) (said_of outcome)
      → Unasked refusal old outcome new
  own_refusal f old outcome new told own same refusal said =
      let is : refusal ≡ f = err_is (said ∙ ap said_of told) in
      record { told = told ∙ ap (λ g. Err g) (sym is); own = ap is_own is ∙ own; stays = ap client_of same }

  unasked : (moment : Moment) (req : ReqId) (request : Request) (refusal : Refusal) (old : Role D) (outcome : Upshot) (new : Role D) → DoesAs seen failures (Did (asking moment req request)) old outcome new
      → Err refusal ≡ said_of outcome → Unasked refusal old outcome new
  unasked moment req request refusal (Master place) outcome new (after, is, stray) said =
      own_refusal refusals.Stray (Master place) outcome new stray.0 refl (is ∙ ap (λ p. Master p) stray.1) refusal said
  unasked moment req request refusal (AServer server) outcome new (after, is, stray) said =
      own_refusal refusals.Stray (AServer server) outcome new stray.0 refl (is ∙ ap (λ s. AServer s) stray.1) refusal said
  unasked moment req request refusal (Client n) outcome new (after, is, acts) said = by_out acts.0 acts.1 acts.2
    where
      by_test : (b : Bool) (f : Refusal) → outcome ≡ Err f → Asks (if b then Err refusals.Old else Ok (record { id = n.id; last = req.number; waiting = Some req.number; reply = None }, messages_of (request_of n req.number) request)) (Err f) n after
          → Unasked refusal (Client n) outcome new
      by_test true f told asked = own_refusal f (Client n) outcome new told (ap is_own asked.0) (is ∙ ap (λ (m : Node). Client m) asked.1) refusal said
      by_test false f told asked = own_refusal f (Client n) outcome new told (ap is_own asked.0) (is ∙ ap (λ (m : Node). Client m) asked.1) refusal said

      by_out : (out : Result (Vec Message Global) Refusal) → Asks (asks req.number request n) out n after → outcome ≡ told_asked out → Unasked refusal (Client n) outcome new
      by_out (Ok sent) asked told = absurd (not_told (said ∙ ap said_of told))
        where
          not_told : ◌≡◌ {A = Result (Unit {0}) Refusal} (Err refusal) (Ok tt) → ⊥
          not_told is = cc
      by_out (Err f) asked told = by_test (nat_le req.number n.last) f told asked

  -- ---- the reply

  state_client : (id : ClientId) (number : ℕ) (took : List Entry) (core : Role D) → State id number took core → client_of core ≡ Some id
  state_client id number took core (Waits n is mine waits none silent) = ap client_of is ∙ ap (λ (c : ClientId). Some c) mine
  state_client id number took core (Has n came is mine none has from) = ap client_of is ∙ ap (λ (c : ClientId). Some c) mine

  -- what the node has is what was brought
  brought_is : (id : ClientId) (number : ℕ) (took : List Entry) (core : Role D) (came : Reply) → State id number took core → reply_of core ≡ Some came → IsBrought took (Some id) number came
  brought_is id number took core came (Waits n is mine waits none silent) has =
      absurd (no_reply (sym none ∙ sym (ap reply_of is) ∙ has))
    where
      no_reply : ◌≡◌ {A = Option Reply} None (Some came) → ⊥
      no_reply is = cc
  brought_is id number took core came (Has n other is mine none has from) so =
      subst (λ r. IsBrought took (Some id) number r) (same (sym has ∙ sym (ap reply_of is) ∙ so)) from
    where
      same : ◌≡◌ {A = Option Reply} (Some other) (Some came) → other ≡ came
      same is = cc

  -- where it has nothing, nothing was brought
  silent_is : (id : ClientId) (number : ℕ) (took : List Entry) (core : Role D) → State id number took core → reply_of core ≡ None → IsSilent took (Some id) number
  silent_is id number took core (Waits n is mine waits none silent) nothing = silent
  silent_is id number took core (Has n other is mine none has from) nothing = absurd (none-some other (sym nothing ∙ ap reply_of is ∙ has))

  -- the question, and what is heard behind it
  replied : (moment : Moment) (req : ReqId) (request : Request) (old asked : Kept (Role D)) (before : ℕ) (reply : Reply) (new : Kept (Role D)) (after : ℕ)
      → Stepped (DoesAs seen failures) old (Did (asking moment req request)) (Ok tt) asked → HearsAll seen failures asked before reply new after → Answered moment req request old before reply new after
  replied moment req request old asked before reply new after step all =
      record { took = step.entry ∷ h.more; grows = h.grows ∙ ap (λ xs. xs ++ h.more) step.entries ∙ append_assoc old.entries (step.entry ∷ []) h.more; asks = step.of; from = by_end all.ends; stays = whole ∙ sym b.was }
    where
      does : DoesAs seen failures (Did (asking moment req request)) old.past.core step.entry.outcome asked.past.core
      does = subst (λ t. DoesAs seen failures t old.past.core step.entry.outcome asked.past.core) step.of step.takes.does

      b : Begun req.number old.past.core asked.past.core
      b = begun moment req request old.past.core step.entry.outcome asked.past.core does step.says

      h : HasHeard b.id req.number [] asked new
      h = hears_all b.id req.number all.messages [] asked new b.state all.hears

      whole : client_of new.past.core ≡ Some b.id
      whole = state_client b.id req.number h.more new.past.core h.state

      from_has : (came : Reply) → reply_of new.past.core ≡ Some came → IsBrought h.more (client_of old.past.core) req.number came
      from_has came has = subst (λ c. IsBrought h.more c req.number came) (sym b.was) (brought_is b.id req.number h.more new.past.core came h.state has)

      question : Question moment req request old before reply new after (step.entry ∷ h.more) h.more
      question = record { entry = step.entry; asked = step.of; first = refl }

      by_copy : (came : Reply) → reply_of new.past.core ≡ Some came → (reply ≡ came) ⊎ ((reply ≡ replies.Refused refusals.Memory) × (takes_memory came ≡ true)) → Source moment req request old before reply new after (step.entry ∷ h.more)
      by_copy came has copy = elim copy [
        | inl is ↦ Source.Message h.more question (subst (λ r. IsBrought h.more (client_of old.past.core) req.number r) (sym is) (from_has came has))
        | inr lacks ↦ Source.NoCopy came h.more question (from_has came has) lacks.1 lacks.0
      ]

      lost : reply ≡ replies.Lost → reply_of new.past.core ≡ None → before + most_vain ≤ after → Source moment req request old before reply new after (step.entry ∷ h.more)
      lost is none vain =
          Source.Lost h.more question (subst (λ c. IsSilent h.more c req.number) (sym b.was) (silent_is b.id req.number h.more new.past.core h.state none)) vain is

      by_end : Replied new.past.core (Some reply) ⊎ (((reply ≡ replies.Refused refusals.Exhausted) × (new.past.clock ≡ last_clock)) ⊎ ((reply ≡ replies.Lost) × (reply_of new.past.core ≡ None) × (before + most_vain ≤ after)))
          → Source moment req request old before reply new after (step.entry ∷ h.more)
      by_end ends = elim ends [ inl given ↦ by_copy given.0 given.1 given.2 | inr other ↦ elim other [ inl last ↦ Source.Exhausted last.1 last.0 | inr nothing ↦ lost nothing.0 nothing.1 nothing.2 ] ]

  refused : (moment : Moment) (req : ReqId) (request : Request) (old : Kept (Role D)) (before : ℕ) (reply : Reply) (new : Kept (Role D)) (after : ℕ) (refusal : Refusal)
      → Stepped (DoesAs seen failures) old (Did (asking moment req request)) (Err refusal) new → reply ≡ replies.Refused refusal → Answered moment req request old before reply new after
  refused moment req request old before reply new after refusal step is =
      record { took = step.entry ∷ []; grows = step.entries; asks = step.of; from = Source.Own refusal (record { entry = step.entry; asked = step.of; first = refl }) u.told u.own is; stays = u.stays }
    where
      does : DoesAs seen failures (Did (asking moment req request)) old.past.core step.entry.outcome new.past.core
      does = subst (λ t. DoesAs seen failures t old.past.core step.entry.outcome new.past.core) step.of step.takes.does

      u : Unasked refusal old.past.core step.entry.outcome new.past.core
      u = unasked moment req request refusal old.past.core step.entry.outcome new.past.core does step.says

  pub answered_by : (moment : Moment) (req : ReqId) (request : Request) (old : Kept (Role D)) (before : ℕ) (reply : Reply) (new : Kept (Role D)) (after : ℕ)
      → Carries seen failures moment req request old before reply new after → Answered moment req request old before reply new after
  answered_by moment req request old before reply new after (Carries.Asked asked step all) = replied moment req request old asked before reply new after step all
  answered_by moment req request old before reply new after (Carries.Refused refusal step is same) = refused moment req request old before reply new after refusal step is
  answered_by moment req request old before reply new after (Carries.Exhausted same last is count) = record {
    took = [];
    grows = ap (λ (k : Kept (Role D)). k.entries) same ∙ sym (append-nil old.entries);
    asks = tt;
    from = Source.Exhausted (ap (λ (k : Kept (Role D)). k.past.clock) same ∙ last) is;
    stays = ap (λ (k : Kept (Role D)). client_of k.past.core) same;
  }
  answered_by moment req request old before reply new after (Carries.Stray same other is count) = record {
    took = [];
    grows = ap (λ (k : Kept (Role D)). k.entries) same ∙ sym (append-nil old.entries);
    asks = tt;
    from = Source.Stray refl other is;
    stays = ap (λ (k : Kept (Role D)). client_of k.past.core) same;
  }
