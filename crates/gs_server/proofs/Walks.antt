-- What a message about a chunk makes of the chunk's place: one call of its slot, or none.
use Rattle.std.proofs.Common.{◌≡◌, ℕ, ◌+◌, Bool, true, false, cond, List, [], ◌∷◌, Option, Some, None, refl, sym, subst, ◌∙◌, length, inl, inr, true≢false}
use Rattle.std.specs.Prelude.{Result, Ok, Err, ◌⊎◌, ◌==◌, not, is_some, nat_lt, nat_le}
use Rattle.std.proofs.lemmas.Bool.{eqb-true}
use Rattle.gs_base.specs.declared.numbers.Stamp.{Stamp}
use Rattle.gs_base.specs.declared.numbers.ReqId.{ReqId}
use Rattle.gs_base.specs.Stamps.{is_same}
use Rattle.gs_base.specs.declared.refusal.Refusal.{Refusal}
use Rattle.gs_base.specs.declared.refusal.Refusal.TheVariants as refusals
use Rattle.gs_lease.specs.declared.held.Grant.{Grant}
use Rattle.gs_replica.specs.Copies.{Image, SealedImage}
use Rattle.gs_replica.specs.Held.{Held}
use Rattle.gs_replica.specs.declared.op.EditOutcome.TheVariants.{Padded}
use Rattle.gs_replica.specs.declared.op.Done.{Done}
use Rattle.gs_replica.specs.declared.op.Op.{Op as ReplicaOp}
use Rattle.gs_replica.specs.Seals as replicas
use Rattle.gs_msg.specs.declared.op.Op.{Op}
use Rattle.gs_msg.specs.Ops.{in_replica}
use Rattle.gs_msg.specs.declared.node.NodeId.{NodeId}
use Rattle.gs_msg.specs.declared.node.NodeId.TheVariants as nodes
use Rattle.gs_msg.specs.declared.message.Message.{Message}
use Rattle.gs_msg.specs.declared.body.Given.{Given}
use Rattle.gs_msg.specs.declared.chunk.Chunk.{Chunk}
use Rattle.gs_msg.specs.declared.chunk.Chunk.TheVariants as chunks
use Rattle.gs_store.specs.Slots.{Live, Slot, first_of, when, unless_live, unless_promised, check_grant, is_taken, take_lease, taking}
use Rattle.gs_store.specs.Slots as slots
use Rattle.gs_store.specs.Serving.{apply, apply_to, done_in}
use Rattle.gs_store.specs.Moves as moves
use Rattle.gs_store.specs.Calls.{Call, Creates, Advances, CopiesIn, TakesCopy, Drops, TakesLease, Loses, Damages, MarksBad, Applies, Seals, Unseals, RollsBack, called, IsNoLease, KeepsSeal, IsSparing}
use Rattle.gs_store.proofs.Laws.{Holds, of_ok, of_unless}
use Rattle.gs_store.proofs.Standing.{of_live}
use Rattle.gs_store.proofs.Running.{is_granted, first_none}
use Rattle.gs_server_lease.specs.Numbering.{numbered_op, is_passed}
use Rattle.gs_server.specs.declared.turn.KeptRefusal.{KeptRefusal}
use Rattle.gs_server_lease.specs.declared.lease.Open.{Open}
use Rattle.gs_server_lease.specs.Leases.{PrimaryLease, granted, renews, settled, hears, dones, is_acknowledged, waits_for, opens_edit}
use Rattle.gs_server.specs.Places.{Place, Here, Part, LeaseStays, LeaseSpent, after, lease_after, of_promise, slot_after, marked_by, damaged_block, or_else, other_epoch, unanswered, sending}
use Rattle.gs_server.specs.Promises as promising
use Rattle.gs_server.specs.Holding.{takes, goes_on, supplies_to, from_server, unless_leased, is_held}
use Rattle.gs_server.specs.Holding as holding
use Rattle.gs_server.specs.Edits.{refused_edit, refused_once, repeated, is_known_of_all, unless_kept, unless_done, unless_numbered, numbers_or_passes, bytes_of, bytes_or_none, declines}
use Rattle.gs_server.specs.Edits as edits
use Rattle.gs_server.specs.Fetches as fetching
use Rattle.gs_server.specs.Servers.{about_chunk}
use Rattle.gs_server.specs.Runs.{carries_seal}
use Rattle.gs_server.proofs.Counted.{same_stamp}
use Rattle.gs_server.proofs.Keeping.{not_met}

-- a lease of a stamp
pub record IsLeaseOf (stamp : Stamp) (lease : Option PrimaryLease) : Type 0 where
  pub l : PrimaryLease
  pub is : lease ≡ Some l
  pub same : stamp ≡ l.grant.stamp

-- a lease goes on under its stamp, or is gone
abbrev pub GoesOn : Option PrimaryLease → Option PrimaryLease → Type 0
GoesOn old None = Unit {0}
GoesOn old (Some l) = IsLeaseOf l.grant.stamp old

-- a lease is of the promise
abbrev pub IsOf : Stamp → Option PrimaryLease → Type 0
IsOf promise None = Unit {0}
IsOf promise (Some l) = l.grant.stamp ≡ promise

-- What becomes of a place: its slot stays; or a call that takes no lease makes it; or a lease is taken, and is held.
pub record Stays (p q : Place) : Type 0 where
  pub slot : q.slot ≡ p.slot
  pub lease : GoesOn p.lease q.lease

pub record Makes (block chunk : ℕ) (P : Call → Type 0) (p q : Place) : Type 0 where
  pub call : Call
  pub is : called block chunk call p.slot ≡ Ok q.slot
  pub no_lease : IsNoLease call
  pub fits : P call
  pub lease : GoesOn p.lease q.lease
  pub promised : IsOf p.slot.promise p.lease → IsOf q.slot.promise q.lease

pub record Takes (p q : Place) : Type 0 where
  pub given : Grant
  pub is : take_lease given.stamp p.slot ≡ Ok q.slot
  pub lease : q.lease ≡ Some (granted given)

abbrev pub Goes : ℕ → ℕ → (Call → Type 0) → Place → Place → Type 0
Goes block chunk P p q = Stays p q ⊎ (Makes block chunk P p q ⊎ Takes p q)

-- What is said of the calls: which of them may change the seal, which damage blocks, that a call of another epoch than that which
-- stands, or stood before, makes no promise, and which copies are taken.
abbrev pub IsWithin : ℕ → Call → Type 0
IsWithin epoch (Creates stamp) = stamp.epoch ≡ epoch
IsWithin epoch (Advances stamp) = stamp.epoch ≡ epoch
IsWithin epoch (CopiesIn stamp image sealed) = stamp.epoch ≡ epoch
IsWithin epoch (TakesCopy h) = h.promise.epoch ≡ epoch
IsWithin epoch (Drops promise) = Unit {0}
IsWithin epoch (TakesLease stamp) = Unit {0}
IsWithin epoch Loses = Unit {0}
IsWithin epoch (Damages index) = Unit {0}
IsWithin epoch (MarksBad index) = Unit {0}
IsWithin epoch (Applies stamp number req op bytes) = Unit {0}
IsWithin epoch Seals = Unit {0}
IsWithin epoch Unseals = Unit {0}
IsWithin epoch (RollsBack last) = last ≡ epoch

-- of a replica that is taken as a copy
abbrev pub brought : Call → Option Held
brought (TakesCopy h) = Some h
brought c = None

abbrev pub OfHeld : (Held → Type 0) → Option Held → Type 0
OfHeld Comes None = Unit {0}
OfHeld Comes (Some h) = Comes h

abbrev pub Brings : (Held → Type 0) → Call → Type 0
Brings Comes c = OfHeld Comes (brought c)

pub record Suits (epoch : ℕ) (reseals : Bool) (Comes : Held → Type 0) (Spared : Type 0) (s : Slot) (c : Call) : Type 0 where
  pub seal : reseals ≡ false → KeepsSeal c
  pub spares : Spared → IsSparing c s
  pub within : IsWithin epoch c
  pub comes : Brings Comes c

-- ---- leases

pub same_lease : (lease : Option PrimaryLease) → GoesOn lease lease
same_lease None = tt
same_lease (Some l) = record { l = l; is = refl; same = refl }

promised_or_spent : (l : PrimaryLease) (b : Bool) → GoesOn (Some l) (lease_after (Some l) (cond b LeaseStays LeaseSpent))
promised_or_spent l true = record { l = l; is = refl; same = refl }
promised_or_spent l false = tt

pub promise_lease : (promise : Stamp) (lease : Option PrimaryLease) → GoesOn lease (lease_after lease (of_promise promise lease))
promise_lease promise None = tt
promise_lease promise (Some l) = promised_or_spent l (is_same l.grant.stamp promise)

of_or_spent : (promise : Stamp) (l : PrimaryLease) (b : Bool) → is_same l.grant.stamp promise ≡ b → IsOf promise (lease_after (Some l) (cond b LeaseStays LeaseSpent))
of_or_spent promise l true is = same_stamp l.grant.stamp promise is
of_or_spent promise l false is = tt

pub lease_of_promise : (promise : Stamp) (lease : Option PrimaryLease) → IsOf promise (lease_after lease (of_promise promise lease))
lease_of_promise promise None = tt
lease_of_promise promise (Some l) = of_or_spent promise l (is_same l.grant.stamp promise) refl

pub of_same : (s t : Slot) (lease : Option PrimaryLease) → t.promise ≡ s.promise → IsOf s.promise lease → IsOf t.promise lease
of_same s t lease same of = subst (λ (x : Stamp). IsOf x lease) (sym same) of

either_lease : (b : Bool) (l m : PrimaryLease) (stamp : Stamp) → l.grant.stamp ≡ stamp → m.grant.stamp ≡ stamp → (cond b l m).grant.stamp ≡ stamp
either_lease true l m stamp first second = first
either_lease false l m stamp first second = second

opened_stamp : (me number : ℕ) (edit : Open) (l : PrimaryLease) → (opens_edit me number edit l).grant.stamp ≡ l.grant.stamp
opened_stamp me number edit l = either_lease (is_acknowledged (hears me number l) number) (hears me number l) (waits_for number edit (hears me number l)) l.grant.stamp refl refl

-- ---- promises that stay

abbrev SamePromise : Slot → Slot → Type 0
SamePromise s x = x.promise ≡ s.promise

applied_to : (stamp : Stamp) (number : ℕ) (req : ReqId) (op : ReplicaOp) (bytes : List ℕ) (s : Slot) (live : Option Live) → Holds (SamePromise s) (apply_to stamp number req op bytes s live)
applied_to stamp number req op bytes s None = tt
applied_to stamp number req op bytes s (Some l) = of_live (SamePromise s) s l.bad (replicas.apply stamp number req op bytes l.replica) (λ r e. refl)

applied_promise : (stamp : Stamp) (number : ℕ) (req : ReqId) (op : ReplicaOp) (bytes : List ℕ) (s t : Slot) → apply stamp number req op bytes s ≡ Ok t → t.promise ≡ s.promise
applied_promise stamp number req op bytes s t is = of_ok (SamePromise s) (apply stamp number req op bytes s) t is (applied_to stamp number req op bytes s s.live)

-- a lease is taken of the promise
pub leased_promise : (stamp : Stamp) (s t : Slot) → take_lease stamp s ≡ Ok t → (t.promise ≡ s.promise) × (stamp ≡ t.promise)
leased_promise stamp s t is =
    of_ok (λ (x : Slot). (x.promise ≡ s.promise) × (stamp ≡ x.promise)) (take_lease stamp s) t is
    (of_unless (λ (x : Slot). (x.promise ≡ s.promise) × (stamp ≡ x.promise)) (first_of (check_grant stamp s ∷ when (is_taken stamp s.taken) refusals.Old ∷ [])) (taking stamp s)
    (λ none. (refl, same_stamp stamp s.promise (is_granted stamp s (unless_live s.live) (is_same stamp s.promise) (first_none (check_grant stamp s) (when (is_taken stamp s.taken) refusals.Old) none)))))

-- ---- parts

pub stays : (block chunk : ℕ) (P : Call → Type 0) (p : Place) → Goes block chunk P p p
stays block chunk P p = inl (record { slot = refl; lease = same_lease p.lease })

pub marks : (block chunk epoch : ℕ) (reseals : Bool) (Comes : Held → Type 0) (Spared : Type 0) (p : Place) (o : Option ℕ)
    → Goes block chunk (Suits epoch reseals Comes Spared p.slot) p (record { slot = slot_after p.slot (marked_by o); lease = p.lease })
marks block chunk epoch reseals Comes Spared p None = stays block chunk (Suits epoch reseals Comes Spared p.slot) p
marks block chunk epoch reseals Comes Spared p (Some index) = inr (inl (record {
  call = MarksBad index;
  is = refl;
  no_lease = tt;
  fits = record { seal = λ _. tt; spares = λ _. tt; within = tt; comes = tt };
  lease = same_lease p.lease;
  promised = λ of. of;
}))

-- of a message about a chunk, whose damage marks alone
abbrev pub Does : Here → Chunk → Place → Part → Type 0
Does h chunk p part = Goes h.block h.chunk (Suits h.epoch (carries_seal chunk) (λ _. ⊥) (Unit {0}) p.slot) p (after p part)

nothing : (h : Here) (chunk : Chunk) (p : Place) → Goes h.block h.chunk (Suits h.epoch (carries_seal chunk) (λ _. ⊥) (Unit {0}) p.slot) p p
nothing h chunk p = stays h.block h.chunk (Suits h.epoch (carries_seal chunk) (λ _. ⊥) (Unit {0}) p.slot) p

marking : (h : Here) (chunk : Chunk) (p : Place) (e : Refusal) → Goes h.block h.chunk (Suits h.epoch (carries_seal chunk) (λ _. ⊥) (Unit {0}) p.slot) p (record { slot = slot_after p.slot (marked_by (damaged_block e)); lease = p.lease })
marking h chunk p e = marks h.block h.chunk h.epoch (carries_seal chunk) (λ _. ⊥) (Unit {0}) p (damaged_block e)

or_does : (h : Here) (chunk : Chunk) (p : Place) (o : Option Refusal) (refuses : Refusal → Part) (part : Part) → ((e : Refusal) → Does h chunk p (refuses e)) → (o ≡ None → Does h chunk p part) → Does h chunk p (or_else o refuses part)
or_does h chunk p None refuses part each does = does refl
or_does h chunk p (Some e) refuses part each does = each e

either_does : (h : Here) (chunk : Chunk) (p : Place) (test : Bool) (x y : Part) → Does h chunk p x → Does h chunk p y → Does h chunk p (cond test x y)
either_does h chunk p true x y first second = first
either_does h chunk p false x y first second = second

-- a message of the epoch that stands
pub of_epoch : (h : Here) (epoch : ℕ) → other_epoch h epoch ≡ None → epoch ≡ h.epoch
of_epoch h epoch none = eqb-true epoch h.epoch (true_where (epoch == h.epoch) (not_met (not (epoch == h.epoch)) (refusals.Epoch h.epoch) none))
  where
    true_where : (b : Bool) → not b ≡ false → b ≡ true
    true_where true is = refl
    true_where false is = absurd (true≢false is)

promises : (h : Here) (chunk : Chunk) (p : Place) (stamp : Stamp) (m : Result Slot Refusal) (c : Call) → called h.block h.chunk c p.slot ≡ m → IsNoLease c → Suits h.epoch (carries_seal chunk) (λ _. ⊥) (Unit {0}) p.slot c → Does h chunk p (promising.promises h p stamp m)
promises h chunk p stamp (Ok s) c is no_lease fits = inr (inl (record { call = c; is = is; no_lease = no_lease; fits = fits; lease = promise_lease s.promise p.lease; promised = λ _. lease_of_promise s.promise p.lease }))
promises h chunk p stamp (Err e) c is no_lease fits = marking h chunk p e

sends : (h : Here) (chunk : Chunk) (p : Place) (stamp : Stamp) (target : ℕ) (m : Result (Image × Option SealedImage) Refusal) → Does h chunk p (promising.sends_copy h p stamp target m)
sends h chunk p stamp target (Ok copy) = nothing h chunk p
sends h chunk p stamp target (Err e) = marking h chunk p e

drops : (h : Here) (chunk : Chunk) (p : Place) (promise : Stamp) (m : Result Slot Refusal) → slots.drop_replica promise p.slot ≡ m → Does h chunk p (promising.drops m)
drops h chunk p promise (Ok s) is = inr (inl (record { call = Drops promise; is = is; no_lease = tt; fits = record { seal = λ _. tt; spares = λ _. tt; within = tt; comes = tt }; lease = tt; promised = λ _. tt }))
drops h chunk p promise (Err e) is = nothing h chunk p

granting : (h : Here) (chunk : Chunk) (p : Place) (given : Grant) (m : Result Slot Refusal) → take_lease given.stamp p.slot ≡ m → Does h chunk p (takes given m)
granting h chunk p given (Ok s) is = inr (inr (record { given = given; is = is; lease = refl }))
granting h chunk p given (Err e) is = nothing h chunk p

going_on : (h : Here) (chunk : Chunk) (s : Slot) (lease : Option PrimaryLease) (next : PrimaryLease → PrimaryLease) (sent : PrimaryLease → List Message) → ((l : PrimaryLease) → (next l).grant.stamp ≡ l.grant.stamp) → Does h chunk (record { slot = s; lease = lease }) (goes_on next sent lease)
going_on h chunk s None next sent same = nothing h chunk (record { slot = s; lease = None })
going_on h chunk s (Some l) next sent same = inl (record { slot = refl; lease = record { l = l; is = refl; same = same l } })

supplying : (h : Here) (chunk : Chunk) (p : Place) (e : Refusal) (server : ℕ) (l : Option PrimaryLease) → Does h chunk p (supplies_to h e server l)
supplying h chunk p e server None = nothing h chunk p
supplying h chunk p e server (Some l) = nothing h chunk p

gives : (h : Here) (chunk : Chunk) (p : Place) (req : ReqId) (m : Result Given Refusal) → Does h chunk p (fetching.gives h p req m)
gives h chunk p req (Ok found) = nothing h chunk p
gives h chunk p req (Err e) = marking h chunk p e

-- ---- edits

edit_refused : (h : Here) (chunk : Chunk) (p : Place) (req : ReqId) (e : Refusal) → Does h chunk p (refused_edit h p req e)
edit_refused h chunk p req e = marking h chunk p e

numbering_if : (h : Here) (chunk : Chunk) (s : Slot) (l : PrimaryLease) (count : ℕ) (edit : Open) (m : Result Slot Refusal) → apply l.grant.stamp (count + 1) edit.req (in_replica edit.op) edit.bytes s ≡ m
    → Does h chunk (record { slot = s; lease = Some l }) (edits.numbers_if h (record { slot = s; lease = Some l }) l count edit m)
numbering_if h chunk s l count edit (Err e) is = edit_refused h chunk (record { slot = s; lease = Some l }) edit.req e
numbering_if h chunk s l count edit (Ok t) is =
    either_does h chunk (record { slot = s; lease = Some l }) (count == edits.last_count) (refused_edit h (record { slot = s; lease = Some l }) edit.req refusals.Exhausted) (edits.numbers h t l (count + 1) edit)
    (edit_refused h chunk (record { slot = s; lease = Some l }) edit.req refusals.Exhausted)
    (inr (inl (record {
      call = Applies l.grant.stamp (count + 1) edit.req (in_replica edit.op) edit.bytes;
      is = is;
      no_lease = tt;
      fits = record { seal = λ _. tt; spares = λ _. tt; within = tt; comes = tt };
      lease = record { l = l; is = refl; same = opened_stamp h.me (count + 1) edit l };
      promised = λ of. opened_stamp h.me (count + 1) edit l ∙ of ∙ sym (applied_promise l.grant.stamp (count + 1) edit.req (in_replica edit.op) edit.bytes s t is);
    })))

numbering : (h : Here) (chunk : Chunk) (s : Slot) (req : ReqId) (op : Op) (bytes : List ℕ) (live : Option Live) (lease : Option PrimaryLease)
    → Does h chunk (record { slot = s; lease = lease }) (numbers_or_passes h (record { slot = s; lease = lease }) req op bytes live lease)
numbering h chunk s req op bytes None lease = edit_refused h chunk (record { slot = s; lease = lease }) req refusals.NoReplica
numbering h chunk s req op bytes (Some live) None = edit_refused h chunk (record { slot = s; lease = None }) req refusals.NotPrimary
numbering h chunk s req op bytes (Some live) (Some l) =
    let p : Place = record { slot = s; lease = Some l } in
    let edit : Open = edits.opened req (numbered_op h.chunk (length live.replica.held.chunk.bytes) op) bytes live in
    either_does h chunk p (is_passed h.chunk (length live.replica.held.chunk.bytes) op) (sending (edits.done h req (Ok Padded) ∷ [])) (edits.numbers_as h p live l edit) (nothing h chunk p)
    (numbering_if h chunk s l live.replica.held.count edit (apply l.grant.stamp (live.replica.held.count + 1) edit.req (in_replica edit.op) edit.bytes s) refl)

kept_does : (h : Here) (chunk : Chunk) (p : Place) (req : ReqId) (kept : Option KeptRefusal) (part : Part) → Does h chunk p part → Does h chunk p (unless_kept h req kept part)
kept_does h chunk p req None part does = does
kept_does h chunk p req (Some kept) part does =
    either_does h chunk p (nat_lt req.number kept.number) (refused_once h req refusals.Old) (cond (req.number == kept.number) (refused_once h req kept.refusal) part) (nothing h chunk p)
    (either_does h chunk p (req.number == kept.number) (refused_once h req kept.refusal) part (nothing h chunk p) does)

done_does : (h : Here) (chunk : Chunk) (p : Place) (req : ReqId) (last : Option Done) (part : Part) → Does h chunk p part → Does h chunk p (unless_done h p req last part)
done_does h chunk p req None part does = does
done_does h chunk p req (Some last) part does =
    either_does h chunk p (req.number == last.number) (repeated h p req last.outcome) (cond (nat_lt req.number last.number) (refused_once h req refusals.Old) part)
    (either_does h chunk p (is_known_of_all req p.slot p.lease) (sending (edits.done h req (Ok last.outcome) ∷ [])) (sending []) (nothing h chunk p) (nothing h chunk p))
    (either_does h chunk p (nat_lt req.number last.number) (refused_once h req refusals.Old) part (nothing h chunk p) does)

taking_if : (h : Here) (chunk : Chunk) (p : Place) (from : NodeId) (stamp : Stamp) (number : ℕ) (req : ReqId) (op : Op) (bytes : List ℕ) (m : Result Slot Refusal) → apply stamp number req (in_replica op) bytes p.slot ≡ m
    → Does h chunk p (edits.takes_if h p from stamp number op m)
taking_if h chunk p from stamp number req op bytes (Ok s) is = inr (inl (record {
  call = Applies stamp number req (in_replica op) bytes;
  is = is;
  no_lease = tt;
  fits = record { seal = λ _. tt; spares = λ _. tt; within = tt; comes = tt };
  lease = same_lease p.lease;
  promised = of_same p.slot s p.lease (applied_promise stamp number req (in_replica op) bytes p.slot s is);
}))
taking_if h chunk p from stamp number req op bytes (Err e) is = marking h chunk p e

forwarding : (h : Here) (chunk : Chunk) (p : Place) (from : NodeId) (stamp : Stamp) (number : ℕ) (req : ReqId) (op : Op) (bytes : Option (List ℕ)) (live : Option Live) → Does h chunk p (edits.takes h p from stamp number req op bytes live)
forwarding h chunk p from stamp number req op bytes None = marking h chunk p refusals.NoReplica
forwarding h chunk p from stamp number req op bytes (Some live) =
    either_does h chunk p (nat_le number live.replica.held.count) (edits.acknowledges h from stamp live.replica.held.count) (edits.takes_next h p from stamp number req op bytes live.replica.held.count) (nothing h chunk p)
    (or_does h chunk p (edits.unless_next live.replica.held.count number bytes) (declines h p from stamp) (edits.takes_if h p from stamp number op (apply stamp number req (in_replica op) (bytes_or_none bytes) p.slot)) (λ e. marking h chunk p e)
    (λ _. taking_if h chunk p from stamp number req op (bytes_or_none bytes) (apply stamp number req (in_replica op) (bytes_or_none bytes) p.slot) refl))

from_does : (h : Here) (chunk : Chunk) (p : Place) (from : NodeId) (part : ℕ → Part) → ((server : ℕ) → Does h chunk p (part server)) → Does h chunk p (from_server from part)
from_does h chunk p (nodes.Server server) part each = each server
from_does h chunk p nodes.Master part each = nothing h chunk p
from_does h chunk p (nodes.Client client) part each = nothing h chunk p

-- ---- all kinds

carried : (stamp : Stamp) (image : Image) (sealed : Option SealedImage) → is_some sealed ≡ false → KeepsSeal (CopiesIn stamp image sealed)
carried stamp image None none = tt
carried stamp image (Some i) none = absurd (true≢false none)

pub about : (h : Here) (p : Place) (from : NodeId) (chunk : Chunk) → Does h chunk p (about_chunk h p from chunk)
about h p from (chunks.Create stamp) =
    or_does h (chunks.Create stamp) p (other_epoch h stamp.epoch) (promising.unpromised h p stamp) (promising.promises h p stamp (slots.create h.block h.chunk stamp p.slot)) (λ e. marking h (chunks.Create stamp) p e)
    (λ here. promises h (chunks.Create stamp) p stamp (slots.create h.block h.chunk stamp p.slot) (Creates stamp) refl tt (record { seal = λ _. tt; spares = λ _. tt; within = of_epoch h stamp.epoch here; comes = tt }))
about h p from (chunks.Advance stamp) =
    or_does h (chunks.Advance stamp) p (other_epoch h stamp.epoch) (promising.unpromised h p stamp) (promising.promises h p stamp (slots.advance stamp p.slot)) (λ e. marking h (chunks.Advance stamp) p e)
    (λ here. promises h (chunks.Advance stamp) p stamp (slots.advance stamp p.slot) (Advances stamp) refl tt (record { seal = λ _. tt; spares = λ _. tt; within = of_epoch h stamp.epoch here; comes = tt }))
about h p from (chunks.Grant given) =
    or_does h (chunks.Grant given) p (first_of (other_epoch h given.stamp.epoch ∷ check_grant given.stamp p.slot ∷ [])) unanswered (cond (is_held given.stamp p.lease) (sending []) (takes given (take_lease given.stamp p.slot))) (λ e. nothing h (chunks.Grant given) p)
    (λ _. either_does h (chunks.Grant given) p (is_held given.stamp p.lease) (sending []) (takes given (take_lease given.stamp p.slot)) (nothing h (chunks.Grant given) p)
    (granting h (chunks.Grant given) p given (take_lease given.stamp p.slot) refl))
about h p from (chunks.Renewed stamp end) =
    or_does h (chunks.Renewed stamp end) p (unless_leased stamp p.slot p.lease) unanswered (goes_on (renews end) (λ l. []) p.lease) (λ e. nothing h (chunks.Renewed stamp end) p)
    (λ _. going_on h (chunks.Renewed stamp end) p.slot p.lease (renews end) (λ l. []) (λ l. refl))
about h p from (chunks.Edit req stamp op) =
    let part : Part = numbers_or_passes h p req op (bytes_or_none (bytes_of op None h.pushed)) p.slot.live p.lease in
    done_does h (chunks.Edit req stamp op) p req (done_in p.slot.live req.client.0) (unless_kept h req h.refused (edits.new_edit h p req stamp op))
    (kept_does h (chunks.Edit req stamp op) p req h.refused (edits.new_edit h p req stamp op)
    (or_does h (chunks.Edit req stamp op) p (unless_numbered h p stamp op) (refused_edit h p req) part (λ e. edit_refused h (chunks.Edit req stamp op) p req e)
    (λ _. numbering h (chunks.Edit req stamp op) p.slot req op (bytes_or_none (bytes_of op None h.pushed)) p.slot.live p.lease)))
about h p from (chunks.Forward stamp number req op bytes) =
    or_does h (chunks.Forward stamp number req op bytes) p (first_of (unless_live p.slot.live ∷ unless_promised stamp p.slot ∷ [])) (declines h p from stamp) (edits.takes h p from stamp number req op (bytes_of op bytes h.pushed) p.slot.live)
    (λ e. marking h (chunks.Forward stamp number req op bytes) p e)
    (λ _. forwarding h (chunks.Forward stamp number req op bytes) p from stamp number req op (bytes_of op bytes h.pushed) p.slot.live)
about h p from (chunks.Ack stamp count) = from_does h (chunks.Ack stamp count) p from (λ server. holding.ack h p server stamp count) (λ server.
    or_does h (chunks.Ack stamp count) p (unless_leased stamp p.slot p.lease) unanswered (goes_on (λ l. settled (hears server count l)) (λ l. dones h.me (hears server count l)) p.lease) (λ e. nothing h (chunks.Ack stamp count) p)
    (λ _. going_on h (chunks.Ack stamp count) p.slot p.lease (λ l. settled (hears server count l)) (λ l. dones h.me (hears server count l)) (λ l. refl)))
about h p from (chunks.Nack stamp refusal) = from_does h (chunks.Nack stamp refusal) p from (λ server. holding.nack h p server stamp refusal) (λ server.
    or_does h (chunks.Nack stamp refusal) p (unless_leased stamp p.slot p.lease) unanswered (supplies_to h refusal server p.lease) (λ e. nothing h (chunks.Nack stamp refusal) p)
    (λ _. supplying h (chunks.Nack stamp refusal) p refusal server p.lease))
about h p from (chunks.Fetch req stamp epoch asked) =
    or_does h (chunks.Fetch req stamp epoch asked) p (other_epoch h epoch) (fetching.refuses h p req) (fetching.gives h p req (fetching.given stamp asked p.slot)) (λ e. marking h (chunks.Fetch req stamp epoch asked) p e)
    (λ _. gives h (chunks.Fetch req stamp epoch asked) p req (fetching.given stamp asked p.slot))
about h p from (chunks.CopyOut stamp target with_sealed) =
    or_does h (chunks.CopyOut stamp target with_sealed) p (other_epoch h stamp.epoch) (promising.unpromised h p stamp) (promising.sends_copy h p stamp target (moves.copy_out stamp with_sealed p.slot)) (λ e. marking h (chunks.CopyOut stamp target with_sealed) p e)
    (λ _. sends h (chunks.CopyOut stamp target with_sealed) p stamp target (moves.copy_out stamp with_sealed p.slot))
about h p from (chunks.CopyIn stamp image sealed) =
    or_does h (chunks.CopyIn stamp image sealed) p (other_epoch h stamp.epoch) (promising.unpromised h p stamp) (promising.promises h p stamp (moves.copy_in h.block h.chunk stamp image sealed p.slot)) (λ e. marking h (chunks.CopyIn stamp image sealed) p e)
    (λ here. promises h (chunks.CopyIn stamp image sealed) p stamp (moves.copy_in h.block h.chunk stamp image sealed p.slot) (CopiesIn stamp image sealed) refl tt
    (record { seal = carried stamp image sealed; spares = λ _. tt; within = of_epoch h stamp.epoch here; comes = tt }))
about h p from (chunks.Drop epoch promise) =
    or_does h (chunks.Drop epoch promise) p (other_epoch h epoch) unanswered (promising.drops (slots.drop_replica promise p.slot)) (λ e. nothing h (chunks.Drop epoch promise) p)
    (λ _. drops h (chunks.Drop epoch promise) p promise (slots.drop_replica promise p.slot) refl)
about h p from (chunks.Promised stamp count with_sealed) = nothing h (chunks.Promised stamp count with_sealed) p
about h p from (chunks.Unpromised stamp refusal) = nothing h (chunks.Unpromised stamp refusal) p
about h p from (chunks.Renew stamp) = nothing h (chunks.Renew stamp) p
about h p from (chunks.Bad stamp) = nothing h (chunks.Bad stamp) p
