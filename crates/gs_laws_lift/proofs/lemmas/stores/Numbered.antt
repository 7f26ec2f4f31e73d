-- Each edit of a chunk's lists was numbered under the stamp that its request names.
use Rattle.std.proofs.Common.{◌≡◌, ◌∙◌, ◌⊎◌, ⊎_elim, inl, inr, ℕ, arith, Bool, true, false, cond, List, Option, Some, None, refl, sym, ap, subst}
use Rattle.std.specs.Prelude.{◌==◌}
use Rattle.std.proofs.lemmas.Bool.Decides.{nat_tests}
use Rattle.gs_base.specs.declared.config.Config.{Config}
use Rattle.gs_base.specs.declared.numbers.ReqId.{ReqId}
use Rattle.gs_base.specs.declared.numbers.Stamp.{Stamp}
use Rattle.gs_replica.specs.Stands.{Edit}
use Rattle.gs_msg.specs.declared.body.Body.{Body}
use Rattle.gs_msg.specs.declared.body.Body.TheVariants as bodies
use Rattle.gs_msg.specs.declared.chunk.Chunk.{Chunk}
use Rattle.gs_msg.specs.declared.chunk.Chunk.TheVariants as chunks
use Rattle.gs_msg.specs.declared.message.Message.{Message}
use Rattle.gs_msg.specs.declared.op.Op.{Op}
use Rattle.gs_server.specs.Runs as at_server
use Rattle.gs_server.specs.Servers.{Server}
use Rattle.gs_laws_server.specs.servers.Calling.{call_by}
use Rattle.gs_store.specs.Calls.{Call}
use Rattle.gs_world.specs.Sent.{IsSent, Sent}
use Rattle.gs_laws_chunk.specs.machine.Stamps.{stamp_at}
use Rattle.gs_laws_chunk.specs.machine.Machine.{Member, ChunkWorld}
use Rattle.gs_laws_chunk.specs.machine.Numbering.{AreNumbered, IsNumberedAt, NumbersAsked}
use Rattle.gs_laws_chunk.specs.machine.Events.{Rests}
use Rattle.gs_laws_chunk.specs.machine.Laws.{world_of}
use Rattle.gs_laws_chunk.proofs.lemmas.machine.Numbering.{born_numbered, masters_numbered, servers_numbered}
use Rattle.gs_laws_parts.specs.server.Causes.{Calm, Numbers, NumbersEdit, cause_in, cause_of, struck_by}
use Rattle.gs_laws_parts.specs.server.Requests.{Asked, IsOfOneEdit, bytes_in, named}
use Rattle.gs_laws_parts.proofs.lemmas.server.Stamps.{stamp_number}
use Rattle.gs_msg.specs.declared.event.Request.{Request}
use Rattle.gs_msg.specs.declared.event.Request.TheVariants as requests
use Rattle.gs_laws_parts.specs.server.Showing.{Setting}
use Rattle.gs_laws_lift.specs.stores.Going.{AllSent, Beats, Damages, Hears, Loses, Restarts, ServerGoes, Ticks, cause_at}
use Rattle.gs_laws_lift.specs.stores.Joint.{AtMaster, AtServer, Elsewhere}
use Rattle.gs_laws_lift.specs.stores.Numbered.{ListsAreElsewhere, NewbornsAreNumbered, NoneIsEarlier, NumberedIsFirst, NumberingGoesOn, any_stamp, asked_under, stamp_in}
use Rattle.gs_laws_lift.specs.stores.Showing.{setting}

module _ (asked : ℕ → Asked) (chunk : ℕ) where
  abbrev Under : ReqId → Option Stamp
  Under = asked_under asked chunk

  -- An edit is numbered that was asked for of this chunk, by a message that was sent.
  pub record NumbersOf (sent : Sent) (c : Setting) (m n : Member) (t : ℕ) (old new : List Edit) : Type 0 where
    pub handle : ℕ
    pub req : ReqId
    pub stamp : Stamp
    pub op : Op
    pub members : List ℕ
    pub primary : ℕ
    pub message : Message
    pub was : IsSent message sent
    pub says : message.body ≡ bodies.About handle (chunks.Edit req stamp op)
    pub here : (chunk == handle) ≡ true
    pub asks : named asked req ≡ Some (requests.Write handle members primary stamp op (bytes_in asked req))
    pub numbers : NumbersEdit c m n stamp req op t old new

  -- a message is heard that was sent
  module _ (sent : Sent) (message : Message) (was : IsSent message sent) (one : IsOfOneEdit asked message) (c : Setting) (m n : Member) (t : ℕ) (old new : List Edit) where
    heard_said : (handle : ℕ) (said : Chunk) → message.body ≡ bodies.About handle said → (chunk == handle) ≡ true → Numbers (cause_of said) c m n t old new → (new ≡ old) ⊎ NumbersOf sent c m n t old new
    heard_said handle (chunks.Edit req stamp op) says here (inl same) = inl same
    heard_said handle (chunks.Edit req stamp op) says here (inr e) =
        let x = one.edits handle req stamp op says in
        inr (record { handle = handle; req = req; stamp = stamp; op = op; members = x.0; primary = x.1; message = message; was = was; says = says; here = here; asks = x.2; numbers = e })
    heard_said handle said says here numbers = inl numbers

    heard_of : (body : Body) → message.body ≡ body → Numbers (cause_in chunk body) c m n t old new → (new ≡ old) ⊎ NumbersOf sent c m n t old new
    heard_of (bodies.About handle said) says numbers = by_handle (chunk == handle) refl numbers
      where
        by_handle : (b : Bool) → (chunk == handle) ≡ b → Numbers (cond b (cause_of said) Calm) c m n t old new → (new ≡ old) ⊎ NumbersOf sent c m n t old new
        by_handle true here numbers = heard_said handle said says here numbers
        by_handle false apart numbers = inl numbers
    heard_of (bodies.Push req pushed) says numbers = inl numbers
    heard_of (bodies.MakeCopy handle at new_handle stamp) says numbers = inl numbers
    heard_of (bodies.Epoch epoch end) says numbers = inl numbers
    heard_of (bodies.Call req call) says numbers = inl numbers
    heard_of (bodies.Reply req result) says numbers = inl numbers
    heard_of (bodies.Done req result) says numbers = inl numbers
    heard_of (bodies.Bytes req result) says numbers = inl numbers
    heard_of (bodies.Report epoch replicas) says numbers = inl numbers
    heard_of (bodies.Learned epoch handles) says numbers = inl numbers
    heard_of (bodies.Behind epoch) says numbers = inl numbers

  struck_of : (c : Setting) (m n : Member) (t : ℕ) (old new : List Edit) (call : Option Call) → Numbers (struck_by call) c m n t old new → new ≡ old
  struck_of c m n t old new None numbers = numbers
  struck_of c m n t old new (Some call) numbers = numbers

  -- where a server does something each list stays, or has one more edit, which was asked for
  pub goes_of : (sent : Sent) (id : ℕ) (s after : Server) (messages : List Message) → AllSent (IsOfOneEdit asked) sent → (goes : ServerGoes sent id s after messages) (c : Setting) (m n : Member) (t : ℕ) (old new : List Edit) → Numbers (cause_at chunk goes) c m n t old new
      → (new ≡ old) ⊎ NumbersOf sent c m n t old new
  goes_of sent id s after messages one (Hears message moment was to is sends) c m n t old new numbers = heard_of sent message was (one was.0 message was.1) c m n t old new message.body refl numbers
  goes_of sent id s after messages one (Ticks moment is sends) c m n t old new numbers = inl numbers
  goes_of sent id s after messages one (Beats is sends) c m n t old new numbers = inl numbers
  goes_of sent id s after messages one (Restarts is sends) c m n t old new numbers = inl numbers
  goes_of sent id s after messages one (Loses handle is sends) c m n t old new numbers = inl (struck_of c m n t old new (call_by chunk (at_server.Loses handle) s) numbers)
  goes_of sent id s after messages one (Damages handle block is sends) c m n t old new numbers = inl (struck_of c m n t old new (call_by chunk (at_server.Damages handle block) s) numbers)

  -- what was asked for names the stamp of its request
  under_stamp : (handle : ℕ) (req : ReqId) (members : List ℕ) (primary : ℕ) (stamp : Stamp) (op : Op) → named asked req ≡ Some (requests.Write handle members primary stamp op (bytes_in asked req)) → (chunk == handle) ≡ true → Under req ≡ Some stamp
  under_stamp handle req members primary stamp op asks is = ap (stamp_in chunk) asks ∙ ap (λ b. cond b (Some stamp) None) is

  pub named_under : (m : Message) → IsOfOneEdit asked m → (handle : ℕ) (req : ReqId) (stamp : Stamp) (op : Op) → m.body ≡ bodies.About handle (chunks.Edit req stamp op) → (chunk == handle) ≡ true → Under req ≡ Some stamp
  named_under m one handle req stamp op said is = (let e = one.edits handle req stamp op said in under_stamp handle req e.0 e.1 stamp op e.2 is)

  -- so an edit that is numbered is asked for under the stamp of its list
  numbers_asked : (sent : Sent) (c : Setting) (m n : Member) (t : ℕ) (old new : List Edit) → (new ≡ old) ⊎ NumbersOf sent c m n t old new → NumbersAsked Under t old new
  numbers_asked sent c m n t old new (inl same) = inl same
  numbers_asked sent c m n t old new (inr x) =
      let e = x.numbers in
      inr (e.edit, e.is, ap Under (let s = e.says in s.req) ∙ under_stamp x.handle x.req x.members x.primary x.stamp x.op x.asks x.here ∙ ap Some e.asked_is)

pub numbering_goes_on : {D : Type 0} (seen : D → List ℕ) (config : Config) (bytes : ReqId → List ℕ) (asked : ℕ → Asked) → NumberingGoesOn seen config bytes asked
numbering_goes_on seen config bytes asked born chunk step old new origin w v reached one (AtServer by) numbered =
    let steps = by.steps in
    subst (λ (x : ChunkWorld). AreNumbered (asked_under asked chunk) origin x.known) (sym by.world)
    (servers_numbered (asked_under asked chunk) origin w steps.world reached steps.leads steps.entry
    (λ t. numbers_asked asked chunk old.sent (setting config bytes born) (w.members by.id) (steps.world.members by.id) t (w.known.list t) (steps.world.known.list t)
    (goes_of asked chunk old.sent by.id by.server by.after by.messages one by.goes (setting config bytes born) (w.members by.id) (steps.world.members by.id) t (w.known.list t) (steps.world.known.list t) (steps.numbers t))) numbered)
numbering_goes_on seen config bytes asked born chunk step old new origin w v reached one (AtMaster by) numbered = masters_numbered (asked_under asked chunk) origin w v reached by.leads by.masters numbered
numbering_goes_on seen config bytes asked born chunk step old new origin w v reached one (Elsewhere still servers master by messages moment are posted) numbered = subst (λ (x : ChunkWorld). AreNumbered (asked_under asked chunk) origin x.known) (sym still) numbered

pub numbered_first : (asked : ℕ → Asked) → NumberedIsFirst asked
numbered_first asked chunk origin k numbered apart t place edit stamp at under = ⊎_elim
    (λ first. absurd (never (asked_under asked chunk edit.req) (apart place edit first) under))
    (λ (n : IsNumberedAt (asked_under asked chunk) k t place edit). record { number = n.stamp; is = same (sym under ∙ n.asked); within = n.within; stood = n.stood; late = n.late; same = n.same; prepared = n.prepared; between = n.between })
    (numbered t place edit at)
  where
    never : (o : Option Stamp) → o ≡ None → o ≡ Some stamp → ⊥
    never o none some = (cc)

    same : {x : Stamp} → Some stamp ≡ Some x → stamp ≡ x
    same is = cc

-- the stamp that a request names for one chunk is the one that it names
pub any_of : (chunk : ℕ) (request : Option Request) (stamp : Stamp) → stamp_in chunk request ≡ Some stamp → any_stamp request ≡ Some stamp
any_of chunk (Some (requests.Write handle members primary at op bytes)) stamp is = by_handle (chunk == handle) is
  where
    by_handle : (b : Bool) → cond b (Some at) None ≡ Some stamp → Some at ≡ Some stamp
    by_handle true is = is
    by_handle false is = absurd (cc)
any_of chunk (Some (requests.Call call)) stamp is = absurd (cc)
any_of chunk (Some (requests.Fetch to handle at epoch what)) stamp is = absurd (cc)
any_of chunk None stamp is = absurd (cc)

pub none_earlier : (asked : ℕ → Asked) → NoneIsEarlier asked
none_earlier asked chunk bound origin k numbered behind within t late stood place edit at number under = ⊎_elim
    (λ first. let a = within place edit first number under in let b = behind.stood t late stood in omega arith)
    (λ (n : IsNumberedAt (asked_under asked chunk) k t place edit).
    let same : number ≡ n.stamp = stamp_number number n.stamp (same_stamp (sym under ∙ any_of chunk (named asked edit.req) (stamp_at n.stamp) n.asked)) in
    let l = n.within in omega arith)
    (numbered t place edit at)
  where
    same_stamp : {x y : Stamp} → Some x ≡ Some y → x ≡ y
    same_stamp is = cc

-- a chunk is born by what the master does
pub newborns_numbered : {D : Type 0} (seen : D → List ℕ) (config : Config) (bytes : ReqId → List ℕ) (asked : ℕ → Asked) → NewbornsAreNumbered seen config bytes asked
newborns_numbered seen config bytes asked chunk old new b comes =
    masters_numbered (asked_under asked chunk) b.reached.0.origin (world_of b.reached.0) b.world (b.reached.0, Rests) comes.leads comes.masters (born_numbered (asked_under asked chunk) b.reached.0)

-- a request asks for an edit of one chunk
pub one_chunk : (chunk other : ℕ) (request : Option Request) (stamp : Stamp) → (other ≡ chunk → ⊥) → stamp_in chunk request ≡ Some stamp → stamp_in other request ≡ None
one_chunk chunk other (Some (requests.Write handle members primary at op bytes)) stamp apart is = by_handles (chunk == handle) (other == handle) refl refl is
  where
    by_handles : (a b : Bool) → (chunk == handle) ≡ a → (other == handle) ≡ b → cond a (Some at) None ≡ Some stamp → cond b (Some at) None ≡ None
    by_handles false b here there is = absurd (cc)
    by_handles true false here there is = refl
    by_handles true true here there is = absurd (apart (grind (arith, nat_tests)))
one_chunk chunk other (Some (requests.Call call)) stamp apart is = refl
one_chunk chunk other (Some (requests.Fetch to handle at epoch what)) stamp apart is = refl
one_chunk chunk other None stamp apart is = refl

pub lists_elsewhere : (asked : ℕ → Asked) → ListsAreElsewhere asked
lists_elsewhere asked chunk other origin k numbered apart born t place edit at = ⊎_elim (λ first. born place edit first) (λ (n : IsNumberedAt (asked_under asked chunk) k t place edit). one_chunk chunk other (named asked edit.req) (stamp_at n.stamp) apart n.asked) (numbered t place edit at)
