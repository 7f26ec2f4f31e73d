-- A forward, and what a member makes of it.
use Rattle.std.proofs.Common.{◌≡◌, ℕ, Bool, true, false, not, cond, List, [], ◌∷◌, Option, Some, None, refl, sym, ap, subst, ◌∙◌, inl, inr, arith}
use Rattle.std.specs.Prelude.{Result, Ok, Err, ◌+◌, ◌<◌, ◌≤◌, nat_le, nat_lt}
use Rattle.std.proofs.lemmas.Bool.Decides.{nat_tests}
use Rattle.gs_base.specs.declared.numbers.Moment.{Moment}
use Rattle.gs_base.specs.declared.numbers.Stamp.{Stamp}
use Rattle.gs_base.specs.declared.numbers.ReqId.{ReqId}
use Rattle.gs_base.specs.Stamps.{is_same}
use Rattle.gs_base.specs.declared.refusal.Refusal.{Refusal}
use Rattle.gs_base.specs.declared.refusal.Refusal.TheVariants as refusals
use Rattle.gs_base.specs.Calls.{Follows}
use Rattle.gs_msg.specs.declared.node.NodeId.{NodeId}
use Rattle.gs_msg.specs.declared.op.Op.{Op}
use Rattle.gs_msg.specs.declared.body.Body.TheVariants as bodies
use Rattle.gs_msg.specs.declared.chunk.Chunk.TheVariants as chunks
use Rattle.gs_msg.specs.Ops.{in_replica}
use Rattle.gs_store.specs.Slots.{Slot, Live, first_of, when, count_of, check_grant, unless_live, unless_promised}
use Rattle.gs_store.specs.Buffers.{pushed}
use Rattle.gs_store.specs.Serving as serving
use Rattle.gs_store.specs.Stores.{Store, put_slot}
use Rattle.gs_server.specs.declared.turn.Turn.{Turn}
use Rattle.gs_server_lease.specs.Forwarding.{count_under}
use Rattle.gs_server_lease.specs.Leases.{tell}
use Rattle.gs_server.specs.Places.{Part, or_else, count_or_none}
use Rattle.gs_server.specs.Edits.{has_bytes, bytes_of, forward, acknowledges, declines, takes_if, takes_next, takes, unless_there, bytes_or_none}
use Rattle.gs_server.specs.Servers.{Server, Step, ServerSteps, step_of, here_of, place_of, store_of, with_store}
use Rattle.gs_server.specs.inner.Answering.{declined_by}
use Rattle.gs_server.specs.inner.Applying.{leaving, applied_with, taken_by}
use Rattle.gs_server.proofs.Made.{wants_memory}

-- the edit is applied, or it isn't
pub taken_ok : (handle : ℕ) (from : NodeId) (stamp : Stamp) (number : ℕ) (m : Result Store Refusal) (old : Server) (new : Store) (after : Server) (turn : Turn) →
    Follows {B = Unit {0}} m (Ok tt) (store_of old) new → after ≡ with_store new old → turn.sent.items ≡ tell old.me from (bodies.About handle (chunks.Ack stamp number)) ∷ [] → turn.said ≡ None →
    ServerSteps (taken_by handle from stamp number m old) (Ok turn) old after
taken_ok handle from stamp number (Err e) old new after turn follows is sent said = elim follows [ ]
taken_ok handle from stamp number (Ok t) old new after turn follows is sent said = (is ∙ ap (λ n. with_store n old) follows, sent, said)

pub taken_err : (handle : ℕ) (from : NodeId) (stamp : Stamp) (number : ℕ) (m : Result Store Refusal) (f : Refusal) (old : Server) (new : Store) (after : Server) (result : Result Turn Refusal) →
    Follows {B = Unit {0}} m (Err f) (store_of old) new →
    ServerSteps (declined_by handle from stamp f (with_store new old)) result (with_store new old) after → (f ≡ refusals.Memory → result ≡ Err refusals.Memory) → (f ≡ refusals.Memory → after ≡ with_store new old) →
    ServerSteps (taken_by handle from stamp number m old) result old after
taken_err handle from stamp number (Ok t) f old new after result follows steps lacks stays =
    wants_memory _ result old after (lacks follows.0) (stays follows.0 ∙ ap (λ n. with_store n old) follows.1)
taken_err handle from stamp number (Err g) f old new after result follows steps lacks stays =
    elim follows.0 [
      | inl is ↦ subst (λ r. ServerSteps (declined_by handle from stamp r old) result old after) is (subst (λ s. ServerSteps (declined_by handle from stamp f s) result s after) (ap (λ n. with_store n old) follows.1) steps)
      | inr is ↦ wants_memory _ result old after (lacks is) (stays is ∙ ap (λ n. with_store n old) follows.1)
    ]

-- what the definition says of a refusal, of the replica's answer, and of the next edit
declines_step : (handle : ℕ) (from : NodeId) (stamp : Stamp) (req : ReqId) (moment : Moment) (old : Server) (e : Refusal) →
    declined_by handle from stamp e old ≡ step_of handle (Some req) (declines (here_of old moment handle (Some req)) (place_of handle old) from stamp e) old
declines_step handle from stamp req moment old e = refl

takes_step : (handle : ℕ) (from : NodeId) (stamp : Stamp) (number : ℕ) (req : ReqId) (op : Op) (moment : Moment) (old : Server) (r : Result Slot Refusal) →
    taken_by handle from stamp number (leaving req (has_bytes op) (put_slot handle (store_of old) r)) old ≡ step_of handle (Some req) (takes_if (here_of old moment handle (Some req)) (place_of handle old) from stamp number op r) old
takes_step handle from stamp number req op moment old (Ok s) = refl
takes_step handle from stamp number req op moment old (Err e) = declines_step handle from stamp req moment old e

abbrev next_of : ℕ → NodeId → Stamp → ℕ → ReqId → Op → Moment → Server → Bool → ℕ → Option (List ℕ) → Step
next_of handle from stamp number req op moment old gap count bytes =
    step_of handle (Some req) (or_else (first_of (when gap (refusals.Gap count) ∷ unless_there bytes ∷ [])) (declines (here_of old moment handle (Some req)) (place_of handle old) from stamp)
    (takes_if (here_of old moment handle (Some req)) (place_of handle old) from stamp number op (serving.apply stamp number req (in_replica op) (bytes_or_none bytes) (place_of handle old).slot))) old

next_step : (handle : ℕ) (from : NodeId) (stamp : Stamp) (number : ℕ) (req : ReqId) (op : Op) (moment : Moment) (old : Server) (count : ℕ) (bytes : Option (List ℕ)) →
    taken_by handle from stamp number (applied_with handle stamp number req op (store_of old) bytes) old ≡ next_of handle from stamp number req op moment old false count bytes
next_step handle from stamp number req op moment old count None = declines_step handle from stamp req moment old refusals.NoData
next_step handle from stamp number req op moment old count (Some bytes) = takes_step handle from stamp number req op moment old (serving.apply stamp number req (in_replica op) bytes (place_of handle old).slot)

-- what a forward finds is what its slot says
abbrev pub Agrees : Option Refusal → ℕ → Result ℕ Refusal → Type 0
Agrees o count (Ok n) = (o ≡ None) × (n ≡ count)
Agrees o count (Err e) = o ≡ Some e

agrees_when : (same : Bool) (promise : Stamp) (count : ℕ) → Agrees (first_of (None ∷ when (not same) (refusals.Stamp promise) ∷ [])) count (cond same (Ok count) (Err (refusals.Stamp promise)))
agrees_when true promise count = (refl, refl)
agrees_when false promise count = refl

agrees : (stamp promise : Stamp) (live : Option Live) → Agrees (first_of (unless_live live ∷ when (not (is_same stamp promise)) (refusals.Stamp promise) ∷ [])) (count_or_none (count_of live)) (count_under stamp promise (count_of live))
agrees stamp promise None = refl
agrees stamp promise (Some l) = agrees_when (is_same stamp promise) promise l.replica.held.count

pub found_so : (stamp : Stamp) (s : Slot) (promise : Stamp) (count : Option ℕ) (r : Result ℕ Refusal) → promise ≡ s.promise → count ≡ count_of s.live → count_under stamp promise count ≡ r →
    Agrees (check_grant stamp s) (count_or_none (count_of s.live)) r
found_so stamp s promise count r promised counted is =
    subst (Agrees (check_grant stamp s) (count_or_none (count_of s.live))) (sym (ap (λ n. count_under stamp s.promise n) counted) ∙ sym (ap (λ p. count_under stamp p count) promised) ∙ is) (agrees stamp s.promise s.live)

-- a forward is refused by the slot
pub forward_refused : (handle : ℕ) (from : NodeId) (stamp : Stamp) (req : ReqId) (moment : Moment) (old : Server) (o : Option Refusal) (f : Refusal) (part : Part) (result : Result Turn Refusal) (after : Server) →
    o ≡ Some f → ServerSteps (declined_by handle from stamp f old) result old after →
    ServerSteps (step_of handle (Some req) (or_else o (declines (here_of old moment handle (Some req)) (place_of handle old) from stamp) part) old) result old after
forward_refused handle from stamp req moment old o f part result after judged steps =
    subst (λ x. ServerSteps (step_of handle (Some req) (or_else x (declines (here_of old moment handle (Some req)) (place_of handle old) from stamp) part) old) result old after) (sym judged) steps

-- it is of the next edit
abbrev is_there : Option Refusal → Type 0
is_there None = ⊥
is_there (Some e) = Unit {0}

above_count : (number count : ℕ) → count < number → nat_le number count ≡ false
above_count number count is = grind (arith, nat_tests)

not_past_next : (number count : ℕ) → number ≤ count + 1 → nat_lt (count + 1) number ≡ false
not_past_next number count is = grind (arith, nat_tests)

takes_of_live : (handle : ℕ) (from : NodeId) (stamp : Stamp) (number : ℕ) (req : ReqId) (op : Op) (moment : Moment) (old : Server) (bytes : Option (List ℕ)) (live : Option Live) (u : Option Refusal) (count : ℕ) (result : Result Turn Refusal) (after : Server) →
    first_of (unless_live live ∷ u ∷ []) ≡ None → count ≡ count_or_none (count_of live) → count < number → number ≤ count + 1 →
    ServerSteps (next_of handle from stamp number req op moment old false count bytes) result old after →
    ServerSteps (step_of handle (Some req) (takes (here_of old moment handle (Some req)) (place_of handle old) from stamp number req op bytes live) old) result old after
takes_of_live handle from stamp number req op moment old bytes None u count result after judged same above next steps = elim (subst is_there judged tt) [ ]
takes_of_live handle from stamp number req op moment old bytes (Some l) u count result after judged same above next steps =
    subst (λ n. ServerSteps (step_of handle (Some req) (cond (nat_le number n) (acknowledges (here_of old moment handle (Some req)) from stamp n) (takes_next (here_of old moment handle (Some req)) (place_of handle old) from stamp number req op bytes n)) old) result old after) same
    (subst (λ b. ServerSteps (step_of handle (Some req) (cond b (acknowledges (here_of old moment handle (Some req)) from stamp count) (takes_next (here_of old moment handle (Some req)) (place_of handle old) from stamp number req op bytes count)) old) result old after) (sym (above_count number count above))
    (subst (λ g. ServerSteps (next_of handle from stamp number req op moment old g count bytes) result old after) (sym (not_past_next number count next)) steps))

pub forward_next : (handle : ℕ) (from : NodeId) (stamp : Stamp) (number : ℕ) (req : ReqId) (op : Op) (carried : Option (List ℕ)) (moment : Moment) (old : Server) (count : ℕ) (result : Result Turn Refusal) (after : Server) →
    check_grant stamp (place_of handle old).slot ≡ None → count ≡ count_or_none (count_of (place_of handle old).slot.live) → count < number → number ≤ count + 1 →
    ServerSteps (taken_by handle from stamp number (applied_with handle stamp number req op (store_of old) (bytes_of op carried (pushed req old.dropped.buffer))) old) result old after →
    ServerSteps (step_of handle (Some req) (forward (here_of old moment handle (Some req)) (place_of handle old) from stamp number req op carried) old) result old after
forward_next handle from stamp number req op carried moment old count result after judged same above next steps =
    let bytes : Option (List ℕ) = bytes_of op carried (pushed req old.dropped.buffer) in
    subst (λ x. ServerSteps (step_of handle (Some req) (or_else x (declines (here_of old moment handle (Some req)) (place_of handle old) from stamp) (takes (here_of old moment handle (Some req)) (place_of handle old) from stamp number req op bytes (place_of handle old).slot.live)) old) result old after) (sym judged)
    (takes_of_live handle from stamp number req op moment old bytes (place_of handle old).slot.live (unless_promised stamp (place_of handle old).slot) count result after judged same above next
    (subst (λ step. ServerSteps step result old after) (next_step handle from stamp number req op moment old count bytes) steps))
