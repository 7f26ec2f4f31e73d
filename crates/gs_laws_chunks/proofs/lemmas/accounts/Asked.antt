-- Each edit in each list of a store is one that was asked for.
use Rattle.gs_laws_lift.specs.stores.Left.{left_in}
use Rattle.std.proofs.Common.{◌≡◌, ◌∙◌, ◌+◌, ℕ, Bool, true, false, cond, List, [], ◌∷◌, Option, Some, inl, inr, refl, sym, ap, subst, take, arith}
use Rattle.std.specs.Prelude.{◌==◌, length, slice_get}
use Rattle.std.proofs.lemmas.Bool.Decides.{nat_tests}
use Rattle.gs_base.specs.declared.numbers.ReqId.{ReqId}
use Rattle.gs_base.specs.declared.numbers.Stamp.{Stamp}
use Rattle.gs_laws_chunks.specs.accounts.Accounts.{Account, text_of}
use Rattle.gs_laws_chunks.specs.accounts.Running.{Setup}
use Rattle.gs_laws_chunk.specs.machine.Owning.{AreOwn}
use Rattle.gs_laws_lift.proofs.lemmas.stores.AskingRuns.{right_of}
use Rattle.gs_laws_lift.specs.stores.Asking.{AreAskedIn}
use Rattle.gs_laws_lift.specs.stores.Going.{AllSent}
use Rattle.gs_laws_lift.specs.stores.Owning.{IsAskedEdit, IsNumberedOp, WasAskedFor, numbered_behind}
use Rattle.gs_laws_lift.specs.stores.Saying.{PushRight}
use Rattle.gs_laws_lift.specs.stores.Showing.{Life}
use Rattle.gs_laws_lift.specs.stores.Telling.{AskedIn, OwnIn}
use Rattle.gs_laws_parts.specs.server.Requests.{Asked, IsOfOneEdit, bytes_in, bytes_of, named, request_in}
use Rattle.gs_msg.specs.Ops.{in_replica}
use Rattle.gs_msg.specs.declared.body.Body.{Body}
use Rattle.gs_msg.specs.declared.body.Body.TheVariants as bodies
use Rattle.gs_msg.specs.declared.chunk.Chunk.TheVariants as chunks
use Rattle.gs_msg.specs.declared.event.Request.{Request}
use Rattle.gs_msg.specs.declared.event.Request.TheVariants as requests
use Rattle.gs_msg.specs.declared.message.Message.{Message}
use Rattle.gs_msg.specs.declared.op.Op.{Op}
use Rattle.gs_msg.specs.declared.op.Op.TheVariants as ops
use Rattle.gs_replica.specs.declared.op.Op.{Op as Applied}
use Rattle.gs_replica.specs.declared.op.Op.TheVariants as applied
use Rattle.gs_replica.specs.Stands.{Edit}
use Rattle.gs_world.proofs.Reaching.{HaveSizes}
use Rattle.gs_world.specs.Histories.{History}
use Rattle.gs_world.specs.Sent.{IsSent, Sent}
use Rattle.gs_server.specs.Edits.{applied_bytes}
use Rattle.gs_laws_chunks.proofs.lemmas.accounts.Edits.{AreNumbered}
use Rattle.gs_laws_chunks.proofs.lemmas.accounts.Pushed.{same_or_other, were_pushed}
use Rattle.gs_laws_chunks.proofs.lemmas.accounts.SeeingThrough.{each_is_seen_through, sees_for_through}
use Rattle.gs_laws_chunks.specs.accounts.Acknowledged.{IsAskedHere, WasPushed, taken_bytes}
use Rattle.gs_laws_chunks.specs.accounts.Agreeing.{Agrees}
use Rattle.gs_laws_chunks.specs.accounts.Asked.{EditsWereAsked}
use Rattle.gs_laws_chunks.specs.accounts.Joining.{AgreesAt}
use Rattle.gs_laws_chunks.specs.accounts.Seeing.{Sees}

eq_self : (n : ℕ) → (n == n) ≡ true
eq_self n = grind (arith, nat_tests)

applied_taken : (op : Op) (bytes : List ℕ) → applied_bytes op bytes ≡ taken_bytes (in_replica op) bytes
applied_taken (ops.Write offset many) bytes = refl
applied_taken (ops.Append many) bytes = refl
applied_taken ops.Pad bytes = refl

taken_longer : (op : Applied) (bytes : List ℕ) → (op ≡ applied.Pad → ⊥) → taken_bytes op bytes ≡ bytes
taken_longer (applied.Write offset) bytes never = refl
taken_longer applied.Append bytes never = refl
taken_longer applied.Pad bytes never = absurd (never refl)

-- two requests that are one ask for the same
pub same_write : (one other : ℕ) (members more : List ℕ) (primary second : ℕ) (under stamp : Stamp) (op then : Op) (bytes given : List ℕ) → Some (requests.Write one members primary under op bytes) ≡ Some (requests.Write other more second stamp then given)
    → (one ≡ other) × (under ≡ stamp) × (op ≡ then)
same_write one other members more primary second under stamp op then bytes given same = (cc, cc, cc)

pushed_right : (bytes : ReqId → List ℕ) (m : Message) (req : ReqId) (pushed : List ℕ) → PushRight bytes m → m.body ≡ bodies.Push req pushed → pushed ≡ bytes req
pushed_right bytes m req pushed right is = by_body m.body is right
  where
    by_body : (body : Body) → body ≡ bodies.Push req pushed → PushRight bytes (record m { body = body }) → pushed ≡ bytes req
    by_body body same right = subst (λ b. PushRight bytes (record m { body = b }) → pushed ≡ bytes req) (sym same) (λ now. now) right

-- ---- by all that was sent

-- it has the bytes of its request, if it is no pad
own_bytes : (bytes : ReqId → List ℕ) (asked : ℕ → Asked) (size : ℕ) (before : List Edit) (edit : Edit) → IsAskedEdit bytes asked size before edit → (edit.op ≡ applied.Pad → ⊥) → edit.bytes ≡ bytes edit.req
own_bytes bytes asked size before edit own never =
    own.has ∙ applied_taken (numbered_behind size before own.op) (bytes edit.req) ∙ ap (λ o. taken_bytes o (bytes edit.req)) (sym own.numbered.is) ∙ taken_longer edit.op (bytes edit.req) never

module _ (bytes : ReqId → List ℕ) (asked : ℕ → Asked) (size : ℕ) (sent : Sent) (right : AllSent (PushRight bytes) sent) (one : AllSent (IsOfOneEdit asked) sent)
    (before : List Edit) (edit : Edit) (own : IsAskedEdit bytes asked size before edit) (heard : WasAskedFor sent edit) (had : (edit.op ≡ applied.Pad → ⊥) → WasPushed sent edit.req) where
  of_op : (op : Op) → op ≡ own.op → IsNumberedOp size (length (text_of size before)) op edit
  of_op op is = subst (λ (o : Op). IsNumberedOp size (length (text_of size before)) o edit) (sym is) own.numbered

  -- each message that asks for it asks for the same
  asks_same : (message : Message) (handle : ℕ) (stamp : Stamp) (op : Op) → IsSent message sent → message.body ≡ bodies.About handle (chunks.Edit edit.req stamp op)
      → (handle ≡ own.handle) × (stamp ≡ own.stamp) × IsNumberedOp size (length (text_of size before)) op edit
  asks_same message handle stamp op was says =
      let e = (one was.0 message was.1).edits handle edit.req stamp op says in
      let same = same_write handle own.handle e.0 own.members e.1 own.primary stamp own.stamp op own.op _ _ (sym e.2 ∙ own.asks) in
      (same.0, same.1, of_op op same.2)

  pub is_asked : IsAskedHere size sent own.handle edit.req own.stamp before edit
  is_asked = record {
    was =
        let here = asks_same heard.message heard.handle heard.stamp heard.op heard.was heard.says in (
          heard.message,
          heard.op,
          heard.was,
          heard.says ∙ ap (λ h. bodies.About h (chunks.Edit edit.req heard.stamp heard.op)) here.0 ∙ ap (λ s. bodies.About own.handle (chunks.Edit edit.req s heard.op)) here.1,
        );
    asked = asks_same;
    pushed = λ message pushed was says.
        let same : pushed ≡ bytes edit.req = pushed_right bytes message edit.req pushed (right was.0 message was.1) says in
        own.has ∙ applied_taken (numbered_behind size before own.op) (bytes edit.req) ∙ ap (λ o. taken_bytes o (bytes edit.req)) (sym own.numbered.is) ∙ ap (taken_bytes edit.op) (sym same);
    had = had;
  }

-- ---- each edit of each list

pub some_at : (place : ℕ) (edit : Edit) (edits : List Edit) → edits ≡ [] → slice_get edits place ≡ Some edit → ⊥
some_at place edit edits none at = none_at (subst (λ xs. slice_get xs place ≡ Some edit) none at)
  where
    none_at : ◌≡◌ {A = Option Edit} (slice_get [] place) (Some edit) → ⊥
    none_at is = absurd (cc)

-- what an account has of a list is the one that its request asks for, and was asked for
module _ {D : Type 0} (x : Setup D) (asked : ℕ → Asked) (now : History D) (a : Account) (sees : Sees x asked (left_in now) a) (chunk : ℕ) (stamp : Stamp) (place : ℕ) (edit : Edit) (at : slice_get (a.list chunk stamp) place ≡ Some edit) where
  own_there : IsAskedEdit (bytes_in asked) asked x.config.chunk (take place (a.list chunk stamp)) edit × WasAskedFor now.sent edit
  own_there = by_life (sees.lives.life chunk) refl
    where
      by_life : (life : Life x.seen x.config (bytes_in asked) chunk (left_in now)) → sees.lives.life chunk ≡ life → IsAskedEdit (bytes_in asked) asked x.config.chunk (take place (a.list chunk stamp)) edit × WasAskedFor now.sent edit
      by_life (inl unborn) is = (let blank = subst (AgreesAt x (bytes_in asked) a chunk (left_in now)) is (sees.agrees.agrees chunk) in absurd (some_at place edit (a.list chunk stamp) (blank.list stamp) at))
      by_life (inr l) is = elim (agrees.others stamp) [
        | inl none ↦ absurd (some_at place edit (a.list chunk stamp) none at)
        | inr (t, at_t, late, stood, same) ↦
            let there : slice_get (l.world.known.list t) place ≡ Some edit = subst (λ xs. slice_get xs place ≡ Some edit) same at in
            (subst (λ xs. IsAskedEdit (bytes_in asked) asked x.config.chunk (take place xs) edit) (sym same) (owns t place edit there), heard t place edit there)
      ]
        where
          agrees : Agrees a now.sent chunk l.reached.0 l.world
          agrees = subst (AgreesAt x (bytes_in asked) a chunk (left_in now)) is (sees.agrees.agrees chunk)

          owns : AreOwn (IsAskedEdit (bytes_in asked) asked x.config.chunk) l.world.known
          owns = subst (OwnIn x.seen x.config (bytes_in asked) asked chunk (left_in now)) is (sees.tells.own chunk)

          heard : AreOwn (λ before edit. WasAskedFor now.sent edit) l.world.known
          heard = subst (AskedIn x.seen x.config (bytes_in asked) chunk (left_in now)) is (sees.tells.asked_for chunk)

-- ---- its bytes were pushed

-- as if another request had been asked under a name
if_asked : (ℕ → Asked) → ReqId → Request → ℕ → Asked
if_asked asked req request = λ id. cond (id == req.client.0) ((req.number, request) ∷ asked id) (asked id)

if_named : (asked : ℕ → Asked) (req : ReqId) (request : Request) → named (if_asked asked req request) req ≡ Some request
unfolding if_asked
if_named asked req request =
    ap (λ b. request_in req.number (cond b ((req.number, request) ∷ asked req.client.0) (asked req.client.0))) (eq_self req.client.0)
    ∙ ap (λ b. cond b (Some request) (request_in req.number (asked req.client.0))) (eq_self req.number)

if_named_else : (asked : ℕ → Asked) (req : ReqId) (request : Request) (r : ReqId) → (r ≡ req → ⊥) → named (if_asked asked req request) r ≡ named asked r
unfolding if_asked
if_named_else asked req request r other = by_tests (r.client.0 == req.client.0) (r.number == req.number) refl refl
  where
    by_tests : (b c : Bool) → (r.client.0 == req.client.0) ≡ b → (r.number == req.number) ≡ c → named (if_asked asked req request) r ≡ named asked r
    by_tests false c apart there = ap (λ b. request_in r.number (cond b ((req.number, request) ∷ asked r.client.0) (asked r.client.0))) apart
    by_tests true false here apart =
        ap (λ b. request_in r.number (cond b ((req.number, request) ∷ asked r.client.0) (asked r.client.0))) here
        ∙ ap (λ b. cond b (Some request) (request_in r.number (asked r.client.0))) apart
    by_tests true true here there =
        let client : r.client.0 ≡ req.client.0 = grind (arith, nat_tests) in
        let number : r.number ≡ req.number = grind (arith, nat_tests) in
        absurd (other (λ i. record { client = record { 0 = client i }; number = number i }))

-- Where no bytes were pushed for a request, all that was sent is of one edit too if it had had others.
module _ (asked : ℕ → Asked) (sent : Sent) (one : AllSent (IsOfOneEdit asked) sent) (req : ReqId) (handle : ℕ) (members : List ℕ) (primary : ℕ) (stamp : Stamp) (op : Op)
    (asks : named asked req ≡ Some (requests.Write handle members primary stamp op (bytes_in asked req))) (none : (message : Message) (bytes : List ℕ) → IsSent message sent → message.body ≡ bodies.Push req bytes → ⊥) (bytes : List ℕ) where
  other_asked : ℕ → Asked
  other_asked = if_asked asked req (requests.Write handle members primary stamp op bytes)

  other_named : named other_asked req ≡ Some (requests.Write handle members primary stamp op bytes)
  unfolding other_asked
  other_named = if_named asked req (requests.Write handle members primary stamp op bytes)

  other_else : (r : ReqId) → (r ≡ req → ⊥) → named other_asked r ≡ named asked r
  unfolding other_asked
  other_else r other = if_named_else asked req (requests.Write handle members primary stamp op bytes) r other

  other_bytes : bytes_in other_asked req ≡ bytes
  other_bytes = ap bytes_of other_named

  other_one : AllSent (IsOfOneEdit other_asked) sent
  other_one id m is = record {
    pushed = λ r given says. elim (same_or_other r req) [
      | inl same ↦ absurd (none m given (id, is) (says ∙ ap (λ q. bodies.Push q given) same))
      | inr other ↦ (one id m is).pushed r given says ∙ sym (ap bytes_of (other_else r other))
    ];
    edits = λ h r s o says.
        let e = (one id m is).edits h r s o says in
        elim (same_or_other r req) [
          | inl same ↦
              let write = same_write h handle e.0 members e.1 primary s stamp o op _ _ (sym e.2 ∙ ap (named asked) same ∙ asks) in
              let now : named other_asked r ≡ Some (requests.Write handle members primary stamp op (bytes_in other_asked r)) =
              ap (named other_asked) same ∙ other_named ∙ ap (λ b. Some (requests.Write handle members primary stamp op b)) (sym other_bytes ∙ ap (bytes_in other_asked) (sym same)) in (
                members,
                primary,
                now ∙ ap (λ k. Some (requests.Write k members primary stamp op (bytes_in other_asked r))) (sym write.0)
                    ∙ ap (λ k. Some (requests.Write h members primary k op (bytes_in other_asked r))) (sym write.1) ∙ ap (λ k. Some (requests.Write h members primary s k (bytes_in other_asked r))) (sym write.2),
              )
          | inr other ↦ (e.0, e.1, other_else r other ∙ e.2 ∙ ap (λ b. Some (requests.Write h e.0 e.1 s o b)) (sym (ap bytes_of (other_else r other))))
        ];
  }

module _ (sizes : HaveSizes) (law : AreNumbered) {D : Type 0} (x : Setup D) where
  pub edits_were_asked : EditsWereAsked x
  edits_were_asked now a chunk stamp place edit r at =
      (own.0.handle, own.0.stamp, is_asked bytes seen.0 x.config.chunk now.sent seen.2.lives.pushes seen.2.tells.one (take place (a.list chunk stamp)) edit own.0 own.1 (λ never. were_pushed now.sent edit.req (pushed never)))
    where
      seen : (asked : ℕ → Asked) × AreAskedIn asked now × Sees x asked (left_in now) a
      seen = each_is_seen_through sizes law x now a r

      bytes : ReqId → List ℕ
      bytes = bytes_in seen.0

      own : IsAskedEdit bytes seen.0 x.config.chunk (take place (a.list chunk stamp)) edit × WasAskedFor now.sent edit
      own = own_there x seen.0 now a seen.2 chunk stamp place edit at

      -- the bytes would be others if others had been asked for
      pushed : (edit.op ≡ applied.Pad → ⊥) → ((message : Message) (bytes : List ℕ) → IsSent message now.sent → message.body ≡ bodies.Push edit.req bytes → ⊥) → ⊥
      pushed never none =
          let o = own.0 in
          let more : List ℕ = 0 ∷ bytes edit.req in
          let asked = other_asked seen.0 now.sent seen.2.tells.one edit.req o.handle o.members o.primary o.stamp o.op o.asks none more in
          let one = other_one seen.0 now.sent seen.2.tells.one edit.req o.handle o.members o.primary o.stamp o.op o.asks none more in
          let sees = sees_for_through sizes law x asked now a r (λ id m is. right_of asked m (one id m is)) one in
          let other = (own_there x asked now a sees chunk stamp place edit at).0 in
          let first : edit.bytes ≡ bytes edit.req = own_bytes bytes seen.0 x.config.chunk (take place (a.list chunk stamp)) edit o never in
          let then : edit.bytes ≡ bytes_in asked edit.req = own_bytes (bytes_in asked) asked x.config.chunk (take place (a.list chunk stamp)) edit other never in
          let same : bytes edit.req ≡ 0 ∷ bytes edit.req = sym first ∙ then ∙ other_bytes seen.0 now.sent seen.2.tells.one edit.req o.handle o.members o.primary o.stamp o.op o.asks none more in
          let long : length (bytes edit.req) ≡ length (bytes edit.req) + 1 = ap length same ∙ omega arith in
          absurd (omega arith)
