-- What is told of an edit that every member has.
use Rattle.std.proofs.Common.{◌≡◌, ◌≤◌, ◌<◌, ℕ, ◌+◌, Bool, true, false, cond, not, List, [], ◌∷◌, ◌++◌, length, Option, Some, None, refl, sym, ap, subst, ◌∙◌, inl, inr, arith, get_or-set_same}
use Rattle.std.specs.Prelude.{Ok, ◌==◌, ◌&&◌, ◌⊎◌, max, nat_lt, filter, map, Contains}
use Rattle.std.specs.List.{All}
use Rattle.std.proofs.lemmas.Bool.Decides.{nat_tests}
use Rattle.std.proofs.lemmas.List.Elements.{All-nil, All-cons, All-weaker, Contains-append_left, Contains-append_right, Contains-append_cases, Contains-push, Contains-push_cases}
use Rattle.std.proofs.lemmas.List.Sums.{list_all-from_AllPass}
use Rattle.gs_base.specs.declared.numbers.Stamp.{Stamp}
use Rattle.gs_base.specs.declared.numbers.ReqId.{ReqId}
use Rattle.gs_base.specs.Stamps.{is_same}
use Rattle.gs_base.specs.declared.refusal.Refusal.{Refusal}
use Rattle.gs_base.specs.declared.refusal.Refusal.TheVariants as refusals
use Rattle.gs_replica.specs.declared.op.Done.{Done}
use Rattle.gs_replica.specs.Edits.{outcome_of}
use Rattle.gs_msg.specs.declared.op.Op.{Op}
use Rattle.gs_msg.specs.Ops.{in_replica}
use Rattle.gs_msg.specs.declared.message.Message.{Message}
use Rattle.gs_store.specs.Slots.{Live, Slot, when}
use Rattle.gs_store.specs.Serving.{done_in}
use Rattle.gs_server_lease.specs.declared.lease.Open.{Open}
use Rattle.gs_server_lease.specs.Leases.{PrimaryLease, told_by, heard, lacks, hears, waits, is_acknowledged, done_of, dones, done_at_once, forwards, settled}
use Rattle.gs_server_lease.specs.Numbering.{numbered_op}
use Rattle.gs_server.specs.Places.{Place, Here, Part, SlotBecomes, after, or_else, sending, unanswered}
use Rattle.gs_server.specs.Holding.{unless_leased, goes_on, is_held, ack}
use Rattle.gs_server.specs.Edits.{edit, new_edit, done, refused_once, repeated, is_known_of_all, unless_kept, unless_done}
use Rattle.gs_server.specs.Laws.{IsToldByAll, IsKnownToAll}
use Rattle.gs_laws_server.specs.servers.Editing.{IsNumberedBy, numbered_edit}
use Rattle.gs_laws_server.proofs.lemmas.servers.Tests.{never_true}
use Rattle.gs_laws_server.proofs.lemmas.servers.Editing.{where_made, numbers_edit}

-- ---- what is among what

in_cons : {X : Type 0} (y : X) (xs : List X) (x : X) → Contains (y ∷ xs) x → (y ≡ x) ⊎ Contains xs x
in_cons y xs x within =
    elim (Contains-append_cases (y ∷ []) xs x within) [
      | inl here ↦ elim (Contains-push_cases [] y x here) [ inl none ↦ absurd (let below : none.0 < 0 = none.1 in omega arith) | inr is ↦ inl is ]
      | inr there ↦ inr there
    ]

at_head : {X : Type 0} (x : X) (xs : List X) → Contains (x ∷ xs) x
at_head x xs = Contains-append_left (x ∷ []) xs x (Contains-push [] x)

in_tail : {X : Type 0} (y : X) (xs : List X) (x : X) → Contains xs x → Contains (y ∷ xs) x
in_tail y xs x within = Contains-append_right (y ∷ []) xs x within

in_nothing : {X Z : Type 0} (x : X) → Contains [] x → Z
in_nothing x none = absurd (let below : none.0 < 0 = none.1 in omega arith)

mapped : {X Y : Type 0} (f : X → Y) (xs : List X) (x : X) → Contains xs x → Contains (map f xs) (f x)
mapped f [] x within = in_nothing x within
mapped f (y ∷ xs) x within =
    elim (in_cons y xs x within) [ inl is ↦ subst (λ z. Contains (map f (y ∷ xs)) (f z)) is (at_head (f y) (map f xs)) | inr there ↦ in_tail (f y) (map f xs) (f x) (mapped f xs x there) ]

module _ {X : Type 0} (p : X → Bool) where
  kept_head : (b : Bool) (y : X) (rest : List X) → b ≡ true → Contains (cond b (y ∷ rest) rest) y
  kept_head true y rest is = at_head y rest
  kept_head false y rest is = never_true is

  kept_tail : (b : Bool) (y : X) (rest : List X) (x : X) → Contains rest x → Contains (cond b (y ∷ rest) rest) x
  kept_tail true y rest x within = in_tail y rest x within
  kept_tail false y rest x within = within

  kept : (xs : List X) (x : X) → Contains xs x → p x ≡ true → Contains (filter p xs) x
  kept [] x within passes = in_nothing x within
  kept (y ∷ xs) x within passes =
      elim (in_cons y xs x within) [
        | inl is ↦ subst (Contains (filter p (y ∷ xs))) is (kept_head (p y) y (filter p xs) (ap p is ∙ passes))
        | inr there ↦ kept_tail (p y) y (filter p xs) x (kept xs x there passes)
      ]

-- ---- where every member has told

reached : (told number : ℕ) → number ≤ told → not (nat_lt told number) ≡ true
reached told number is = grind (arith, nat_tests)

acknowledged : (l : PrimaryLease) (number : ℕ) → IsToldByAll l number → is_acknowledged l number ≡ true
acknowledged l number told =
    list_all-from_AllPass (λ server. not (lacks l.told number server)) l.grant.members
    (All-weaker (λ server. number ≤ told_by l.told server) (λ server. not (lacks l.told number server) ≡ true) (λ server. reached (told_by l.told server) number) l.grant.members told.each)

-- ---- an acknowledgement

abbrev ack_of : Here → Place → ℕ → Stamp → ℕ → Option PrimaryLease → Part
ack_of h p server stamp count o = or_else (unless_leased stamp p.slot o) unanswered (goes_on (λ x. settled (hears server count x)) (λ x. dones h.me (hears server count x)) o)

under_stamp : (m : Message) (test : Bool) (e : Refusal) (part : Part) → test ≡ true → Contains part.sent m → Contains (or_else (when (not test) e) unanswered part).sent m
under_stamp m true e part is within = within
under_stamp m false e part is within = never_true is

pub ack_tells : (h : Here) (p : Place) (server : ℕ) (stamp : Stamp) (count : ℕ) (l : PrimaryLease) (number : ℕ) (e : Open) → p.lease ≡ Some l → is_same stamp l.grant.stamp ≡ true → Contains l.outbox (number, e) → IsToldByAll (hears server count l) number
    → Contains (ack h p server stamp count).sent (done_of h.me (number, e))
ack_tells h p server stamp count l number e held same waiting told =
    let now : PrimaryLease = hears server count l in
    subst (λ o. Contains (ack_of h p server stamp count o).sent (done_of h.me (number, e))) (sym held)
    (under_stamp (done_of h.me (number, e)) (is_same stamp l.grant.stamp) (refusals.Stamp p.slot.promise) (goes_on (λ x. settled (hears server count x)) (λ x. dones h.me (hears server count x)) (Some l)) same
    (mapped (done_of h.me) (filter (λ (x : ℕ × Open). is_acknowledged now x.0) now.outbox) (number, e) (kept (λ (x : ℕ × Open). is_acknowledged now x.0) now.outbox (number, e) waiting (acknowledged now number told))))

-- under another stamp
abbrev Nothing : Place → Part → Type 0
Nothing p part = (part.sent ≡ []) × (after p part ≡ p)

other_test : (p : Place) (test : Bool) (e : Refusal) (part : Part) → test ≡ false → Nothing p (or_else (when (not test) e) unanswered part)
other_test p true e part is = never_true (sym is)
other_test p false e part is = (refl, refl)

other_way : (a b : Stamp) → is_same a b ≡ false → is_same b a ≡ false
other_way a b apart = grind (arith, nat_tests)

not_held : (h : Here) (p : Place) (server : ℕ) (stamp : Stamp) (count : ℕ) (o : Option PrimaryLease) → is_held stamp o ≡ false → Nothing p (ack_of h p server stamp count o)
not_held h p server stamp count None apart = (refl, refl)
not_held h p server stamp count (Some l) apart =
    other_test p (is_same stamp l.grant.stamp) (refusals.Stamp p.slot.promise) (goes_on (λ x. settled (hears server count x)) (λ x. dones h.me (hears server count x)) (Some l)) (other_way l.grant.stamp stamp apart)

pub other_acks : (h : Here) (p : Place) (server : ℕ) (stamp : Stamp) (count : ℕ) → is_held stamp p.lease ≡ false → ((ack h p server stamp count).sent ≡ []) × (after p (ack h p server stamp count) ≡ p)
other_acks h p server stamp count apart = not_held h p server stamp count p.lease apart

-- ---- an edit that is numbered

pub same_some : {A : Type 0} (a b : A) → Some a ≡ Some b → a ≡ b
same_some {A} a b is = ap inside is
  where
    inside : Option A → A
    inside None = a
    inside (Some x) = x

at_once : (me handle number : ℕ) (e : Open) (l : PrimaryLease) → is_acknowledged (hears me number l) number ≡ true → Contains (forwards me handle l (number, e) ++ done_at_once me number e l) (done_of me (number, e))
at_once me handle number e l is =
    Contains-append_right (forwards me handle l (number, e)) (done_at_once me number e l) (done_of me (number, e))
    (subst (λ b. Contains (cond b (done_of me (number, e) ∷ []) []) (done_of me (number, e))) (sym is) (at_head (done_of me (number, e)) []))

abbrev done_as : Here → ReqId → Op → Live → Message
done_as h req op live = done h req (Ok (outcome_of (in_replica (numbered_op h.chunk (length live.replica.held.chunk.bytes) op)) live.replica.held.chunk))

module _ (h : Here) (p : Place) (req : ReqId) (stamp : Stamp) (op : Op) where
  numbered_tells : (live : Live) (l : PrimaryLease) (part : Part) (s : Slot) → p.slot.live ≡ Some live → p.lease ≡ Some l → IsToldByAll (hears h.me (live.replica.held.count + 1) l) (live.replica.held.count + 1) → IsNumberedBy h p req stamp op part s → Contains part.sent (done_as h req op live)
  numbered_tells live l part s lives held told r =
      let is : r.live ≡ live = same_some r.live live (sym r.lives ∙ lives) in
      let under : r.lease ≡ l = same_some r.lease l (sym r.held ∙ held) in
      let n : ℕ = r.live.replica.held.count + 1 in
      let there : IsToldByAll (hears h.me n r.lease) n = subst (λ (v : Live). IsToldByAll (hears h.me (v.replica.held.count + 1) r.lease) (v.replica.held.count + 1)) (sym is) (subst (λ (x : PrimaryLease). IsToldByAll (hears h.me (live.replica.held.count + 1) x) (live.replica.held.count + 1)) (sym under) told) in
      subst (λ ms. Contains ms (done_as h req op live)) (sym r.sent)
      (subst (λ (v : Live). Contains (forwards h.me h.handle r.lease (n, numbered_edit h req op r.bytes r.live) ++ done_at_once h.me n (numbered_edit h req op r.bytes r.live) r.lease) (done_as h req op v)) is
      (at_once h.me h.handle n (numbered_edit h req op r.bytes r.live) r.lease (acknowledged (hears h.me n r.lease) n there)))

  pub edit_tells : (live : Live) (l : PrimaryLease) (s : Slot) → p.slot.live ≡ Some live → p.lease ≡ Some l → (edit h p req stamp op).slot ≡ SlotBecomes s → IsToldByAll (hears h.me (live.replica.held.count + 1) l) (live.replica.held.count + 1)
      → Contains (edit h p req stamp op).sent (done_as h req op live)
  edit_tells live l s lives held becomes told = numbered_tells live l (edit h p req stamp op) s lives held told (where_made (IsNumberedBy h p req stamp op) (edit h p req stamp op) s becomes (numbers_edit h p req stamp op))

-- where the primary is the only member
at_least : (told number : ℕ) → number ≤ max told number
at_least told number = omega arith

hears_itself : (told : List ℕ) (me number : ℕ) → me < length told → number ≤ told_by (heard me number told) me
hears_itself told me number below = rw get_or-set_same (at_least (told_by told me) number)

pub alone_told : (me number : ℕ) (l : PrimaryLease) → l.grant.members ≡ me ∷ [] → me < length l.told → IsToldByAll (hears me number l) number
alone_told me number l alone below = record {
  each = subst (λ servers. All (λ server. number ≤ told_by (heard me number l.told) server) servers) (sym alone) (All-cons (λ server. number ≤ told_by (heard me number l.told) server) me [] (hears_itself l.told me number below) (All-nil (λ server. number ≤ told_by (heard me number l.told) server)));
}

-- ---- a repeat

known_test : (b c : Bool) → b ≡ true → c ≡ false → (b && not c) ≡ true
known_test true false first second = refl
known_test true true first second = never_true (sym second)
known_test false c first second = never_true first

known_of_all : (req : ReqId) (p : Place) → IsKnownToAll req p → is_known_of_all req p.slot p.lease ≡ true
known_of_all req p known =
    subst (λ o. is_known_of_all req p.slot o ≡ true) (sym known.held) (known_test (is_same known.lease.grant.stamp p.slot.promise) (waits req known.lease) known.promised known.known)

same_number : (a b : ℕ) → a ≡ b → (a == b) ≡ true
same_number a b is = grind (arith, nat_tests)

repeats : (h : Here) (p : Place) (req : ReqId) (last : Done) (part : Part) → req.number ≡ last.number → IsKnownToAll req p → (unless_done h p req (Some last) part).sent ≡ done h req (Ok last.outcome) ∷ []
repeats h p req last part same known =
    subst (λ b. (cond b (repeated h p req last.outcome) (cond (nat_lt req.number last.number) (refused_once h req refusals.Old) part)).sent ≡ done h req (Ok last.outcome) ∷ []) (sym (same_number req.number last.number same))
    (ap (λ b. (cond b (sending (done h req (Ok last.outcome) ∷ [])) (sending [])).sent) (known_of_all req p known))

pub repeat_tells : (h : Here) (p : Place) (req : ReqId) (stamp : Stamp) (op : Op) (last : Done) → done_in p.slot.live req.client.0 ≡ Some last → req.number ≡ last.number → IsKnownToAll req p → (edit h p req stamp op).sent ≡ done h req (Ok last.outcome) ∷ []
repeat_tells h p req stamp op last found same known =
    subst (λ o. (unless_done h p req o (unless_kept h req h.refused (new_edit h p req stamp op))).sent ≡ done h req (Ok last.outcome) ∷ []) (sym found) (repeats h p req last (unless_kept h req h.refused (new_edit h p req stamp op)) same known)
