-- What holds of the messages of a server, by their cases.
use Rattle.std.proofs.Common.{◌≡◌, ◌<◌, ℕ, Bool, true, false, cond, not, List, [], ◌∷◌, Option, Some, None, refl, sym, ap, subst, ◌∙◌, arith, ◌+◌, length}
use Rattle.std.specs.Prelude.{Result, Ok, Err, ◌==◌, ◌||◌, nat_lt, nat_le}
use Rattle.std.proofs.lemmas.Bool.Decides.{nat_tests}
use Rattle.gs_base.specs.declared.numbers.Moment.{Moment}
use Rattle.gs_base.specs.declared.numbers.Stamp.{Stamp}
use Rattle.gs_base.specs.declared.numbers.ReqId.{ReqId}
use Rattle.gs_base.specs.Stamps.{is_same}
use Rattle.gs_base.specs.declared.refusal.Refusal.{Refusal}
use Rattle.gs_base.specs.declared.refusal.Refusal.TheVariants as refusals
use Rattle.gs_lease.specs.declared.held.Grant.{Grant}
use Rattle.gs_replica.specs.declared.op.EditOutcome.{EditOutcome}
use Rattle.gs_replica.specs.declared.op.Done.{Done}
use Rattle.gs_msg.specs.declared.op.Op.{Op}
use Rattle.gs_msg.specs.declared.node.NodeId.{NodeId}
use Rattle.gs_msg.specs.Ops.{in_replica}
use Rattle.gs_store.specs.Slots.{Live, Slot, first_of, when, unless, unless_live, unless_promised, check_grant, take_lease, is_taken}
use Rattle.gs_store.specs.Serving.{done_in, apply}
use Rattle.gs_server_lease.specs.Numbering.{numbered_op, is_passed}
use Rattle.gs_server.specs.declared.turn.KeptRefusal.{KeptRefusal}
use Rattle.gs_server_lease.specs.Leases.{PrimaryLease, renews, settled, hears, dones}
use Rattle.gs_server.specs.Places.{Place, Here, Part, SlotChange, SlotStays, SlotBecomes, SlotMarked, marked_by, damaged_block, or_else, other_epoch, unanswered, sending, after, count_or_none}
use Rattle.gs_server.specs.Holding.{grant, is_held, takes, goes_on, supplies_to, from_server, unless_leased}
use Rattle.gs_server.specs.Edits.{edit, new_edit, unless_numbered, numbers_or_passes, unless_holding, unless_over, bytes_of, bytes_or_none, refused_edit, refused_once, repeated, is_known_of_all, unless_kept, unless_done, forward, declines}
use Rattle.gs_server.specs.Edits as edits
use Rattle.gs_server.specs.Promises as promising
use Rattle.gs_server.specs.Holding as holding
use Rattle.gs_store.specs.Slots as slots
use Rattle.gs_store.specs.Moves as moves
use Rattle.gs_replica.specs.declared.op.EditOutcome.TheVariants.{Padded}
use Rattle.gs_server.specs.Fetches as fetching
use Rattle.gs_server.specs.Servers.{about_chunk}
use Rattle.gs_server_lease.specs.declared.lease.Open.{Open}
use Rattle.gs_replica.specs.Copies.{Image, SealedImage}
use Rattle.gs_msg.specs.declared.node.NodeId.TheVariants as nodes
use Rattle.gs_msg.specs.declared.message.Message.{Message}
use Rattle.gs_msg.specs.declared.body.Given.{Given}
use Rattle.gs_msg.specs.declared.chunk.Chunk.{Chunk}
use Rattle.gs_msg.specs.declared.chunk.Chunk.TheVariants as chunks
use Rattle.gs_server.specs.Promises.{Copying}
use Rattle.gs_server.specs.Laws.{IsHeldFor, IsAbove, IsKept, LeavesIfRefused, LeavesIfNotCopied, edit_in}

-- A fact of what a slot becomes.
abbrev pub IfBecomes : Type 0 → SlotChange → Type 0
IfBecomes P SlotStays = Unit {0}
IfBecomes P (SlotMarked block) = Unit {0}
IfBecomes P (SlotBecomes s) = P

pub of_becomes : (P : Type 0) (x : SlotChange) (s : Slot) → x ≡ SlotBecomes s → IfBecomes P x → P
of_becomes P x s is fact = subst (IfBecomes P) is fact

always : (P : Type 0) (x : SlotChange) → P → IfBecomes P x
always P SlotStays fact = tt
always P (SlotMarked block) fact = tt
always P (SlotBecomes s) fact = fact

marks : (P : Type 0) (o : Option ℕ) → IfBecomes P (marked_by o)
marks P None = tt
marks P (Some block) = tt

either : (P : Type 0) (test : Bool) (x y : Part) → (test ≡ true → IfBecomes P x.slot) → (test ≡ false → IfBecomes P y.slot) → IfBecomes P (cond test x y).slot
either P true x y first second = first refl
either P false x y first second = second refl

-- the tests before a refusal, where none is met
abbrev IsRefused : Option Refusal → Type 0
IsRefused None = ⊥
IsRefused (Some e) = Unit {0}

pub never : {Z : Type 0} (e : Refusal) (o : Option Refusal) → o ≡ Some e → o ≡ None → Z
never e o some none = elim (subst IsRefused none (subst IsRefused (sym some) tt)) [ ]

pub head_none : (o : Option Refusal) (rest : List (Option Refusal)) → first_of (o ∷ rest) ≡ None → o ≡ None
head_none None rest is = refl
head_none (Some e) rest is = never e (Some e) refl is

pub tail_none : (o : Option Refusal) (rest : List (Option Refusal)) → first_of (o ∷ rest) ≡ None → first_of rest ≡ None
tail_none None rest is = is
tail_none (Some e) rest is = never e (Some e) refl is

pub not_met : (test : Bool) (e : Refusal) → when test e ≡ None → test ≡ false
not_met false e is = refl
not_met true e is = never e (Some e) refl is

pub first_same : (a b : Bool) → (not a || not b) ≡ false → a ≡ true
first_same true b is = refl
first_same false b is = elim (subst (λ (x : Bool). cond x (Unit {0}) ⊥) is tt) [ ]

pub second_same : (a b : Bool) → (not a || not b) ≡ false → b ≡ true
second_same a true is = refl
second_same true false is = elim (subst (λ (x : Bool). cond x (Unit {0}) ⊥) is tt) [ ]
second_same false false is = elim (subst (λ (x : Bool). cond x (Unit {0}) ⊥) is tt) [ ]

true_of_not : (a : Bool) → not a ≡ false → a ≡ true
true_of_not true is = refl
true_of_not false is = elim (subst (λ (x : Bool). cond x (Unit {0}) ⊥) is tt) [ ]

-- an edit is numbered under a lease
held_for : (moment : Moment) (stamp : Stamp) (s : Slot) (lease : Option PrimaryLease) → unless_holding stamp s lease ≡ None → unless_over moment lease ≡ None → IsHeldFor moment stamp (record { slot = s; lease = lease })
held_for moment stamp s None held time = never refusals.NotPrimary (Some refusals.NotPrimary) refl held
held_for moment stamp s (Some l) held time = record {
  lease = l;
  held = refl;
  asked = first_same (is_same stamp l.grant.stamp) (is_same l.grant.stamp s.promise) (not_met _ (refusals.Stamp s.promise) held);
  promised = second_same (is_same stamp l.grant.stamp) (is_same l.grant.stamp s.promise) (not_met _ (refusals.Stamp s.promise) held);
  in_time = not_met _ refusals.LeaseOver time;
}

or_refused : (P : Type 0) (o : Option Refusal) (h : Here) (p : Place) (req : ReqId) (part : Part) → (o ≡ None → P) → IfBecomes P (or_else o (refused_edit h p req) part).slot
or_refused P None h p req part fact = always P part.slot (fact refl)
or_refused P (Some e) h p req part fact = marks P (damaged_block e)

new_is : (h : Here) (p : Place) (req : ReqId) (stamp : Stamp) (op : Op) → IfBecomes (IsHeldFor h.moment stamp p) (new_edit h p req stamp op).slot
new_is h p req stamp op =
    or_refused (IsHeldFor h.moment stamp p) (unless_numbered h p stamp op) h p req _ (λ none.
    let behind = tail_none (unless_live p.slot.live) _ none in
    held_for h.moment stamp p.slot p.lease (head_none (unless_holding stamp p.slot p.lease) _ behind) (head_none (unless_over h.moment p.lease) _ (tail_none (unless_holding stamp p.slot p.lease) _ behind)))

kept_is : (P : Type 0) (h : Here) (req : ReqId) (kept : Option KeptRefusal) (part : Part) → IfBecomes P part.slot → IfBecomes P (unless_kept h req kept part).slot
kept_is P h req None part fact = fact
kept_is P h req (Some kept) part fact = either P (nat_lt req.number kept.number) _ _ (λ _. tt) (λ _. either P (req.number == kept.number) _ _ (λ _. tt) (λ _. fact))

repeated_is : (P : Type 0) (h : Here) (p : Place) (req : ReqId) (outcome : EditOutcome) → IfBecomes P (repeated h p req outcome).slot
repeated_is P h p req outcome = either P (is_known_of_all req p.slot p.lease) _ _ (λ _. tt) (λ _. tt)

done_is : (P : Type 0) (h : Here) (p : Place) (req : ReqId) (last : Option Done) (part : Part) → IfBecomes P part.slot → IfBecomes P (unless_done h p req last part).slot
done_is P h p req None part fact = fact
done_is P h p req (Some last) part fact =
    either P (req.number == last.number) _ _ (λ _. repeated_is P h p req last.outcome) (λ _. either P (nat_lt req.number last.number) _ _ (λ _. tt) (λ _. fact))

pub numbered_is : (h : Here) (p : Place) (req : ReqId) (stamp : Stamp) (op : Op) → IfBecomes (IsHeldFor h.moment stamp p) (edit h p req stamp op).slot
numbered_is h p req stamp op =
    done_is (IsHeldFor h.moment stamp p) h p req (done_in p.slot.live req.client.0) _ (kept_is (IsHeldFor h.moment stamp p) h req h.refused _ (new_is h p req stamp op))

-- and it is of a request above the client's last
above : (a b : ℕ) → (a == b) ≡ false → nat_lt a b ≡ false → b < a
above a b other same = grind (arith, nat_tests)

once_is : (h : Here) (p : Place) (req : ReqId) (last : Done) (part : Part) → IfBecomes (IsAbove last req) (unless_done h p req (Some last) part).slot
once_is h p req last part =
    either (IsAbove last req) (req.number == last.number) _ _ (λ _. repeated_is (IsAbove last req) h p req last.outcome)
    (λ other. either (IsAbove last req) (nat_lt req.number last.number) _ _ (λ _. tt) (λ greater. always (IsAbove last req) part.slot (above req.number last.number other greater)))

pub numbered_once : (h : Here) (p : Place) (req : ReqId) (stamp : Stamp) (op : Op) (last : Done) → done_in p.slot.live req.client.0 ≡ Some last → IfBecomes (IsAbove last req) (edit h p req stamp op).slot
numbered_once h p req stamp op last is =
    subst (λ o. IfBecomes (IsAbove last req) (unless_done h p req o (unless_kept h req h.refused (new_edit h p req stamp op))).slot) (sym is) (once_is h p req last (unless_kept h req h.refused (new_edit h p req stamp op)))

-- a forward is taken under the promise alone
or_declined : (P : Type 0) (o : Option Refusal) (h : Here) (p : Place) (from : NodeId) (stamp : Stamp) (part : Part) → (o ≡ None → P) → IfBecomes P (or_else o (declines h p from stamp) part).slot
or_declined P None h p from stamp part fact = always P part.slot (fact refl)
or_declined P (Some e) h p from stamp part fact = marks P (damaged_block e)

pub forwarded_is : (h : Here) (p : Place) (from : NodeId) (stamp : Stamp) (number : ℕ) (req : ReqId) (op : Op) (carried : Option (List ℕ)) → IfBecomes (is_same stamp p.slot.promise ≡ true) (forward h p from stamp number req op carried).slot
forwarded_is h p from stamp number req op carried =
    or_declined (is_same stamp p.slot.promise ≡ true) (first_of (unless_live p.slot.live ∷ unless_promised stamp p.slot ∷ [])) h p from stamp _ (λ none.
    true_of_not (is_same stamp p.slot.promise) (not_met _ (refusals.Stamp p.slot.promise) (head_none (unless_promised stamp p.slot) _ (tail_none (unless_live p.slot.live) _ none))))

-- a lease that was taken is not taken again
taken_again : (p : Place) (given : Grant) (o : Option Refusal) (test : Bool) (s : Slot) → test ≡ true → after p (takes given (unless (first_of (o ∷ when test refusals.Old ∷ [])) (Ok s))) ≡ p
taken_again p given (Some e) test s is = refl
taken_again p given None true s is = refl
taken_again p given None false s is = elim (subst (λ (x : Bool). cond x ⊥ (Unit {0})) is tt) [ ]

either_stays : (p : Place) (test : Bool) (x y : Part) → after p x ≡ p → after p y ≡ p → after p (cond test x y) ≡ p
either_stays p true x y first second = first
either_stays p false x y first second = second

or_stays : (p : Place) (o : Option Refusal) (part : Part) → after p part ≡ p → after p (or_else o unanswered part) ≡ p
or_stays p None part stays = stays
or_stays p (Some e) part stays = refl

same_itself : (stamp : Stamp) → is_same stamp stamp ≡ true
same_itself stamp = grind (arith, nat_tests)

-- a grant under another stamp than the promise
refused_stays : (p : Place) (first live : Option Refusal) (other : Bool) (e : Refusal) (part : Part) → other ≡ true → after p (or_else (first_of (first ∷ first_of (live ∷ when other e ∷ []) ∷ [])) unanswered part) ≡ p
refused_stays p (Some x) live other e part is = refl
refused_stays p None (Some x) other e part is = refl
refused_stays p None None true e part is = refl
refused_stays p None None false e part is = elim (subst (λ (x : Bool). cond x ⊥ (Unit {0})) is tt) [ ]

pub below_stays : (h : Here) (p : Place) (given : Grant) → is_same given.stamp p.slot.promise ≡ false → after p (grant h p given) ≡ p
below_stays h p given apart = refused_stays p (other_epoch h given.stamp.epoch) (unless_live p.slot.live) (not (is_same given.stamp p.slot.promise)) (refusals.Stamp p.slot.promise) _ (ap not apart)

pub spent_stays : (h : Here) (p : Place) (given : Grant) → p.slot.taken ≡ Some given.stamp → after p (grant h p given) ≡ p
spent_stays h p given taken =
    or_stays p (first_of (other_epoch h given.stamp.epoch ∷ check_grant given.stamp p.slot ∷ [])) _
    (either_stays p (is_held given.stamp p.lease) _ _ refl
    (taken_again p given (check_grant given.stamp p.slot) (is_taken given.stamp p.slot.taken) _ (ap (is_taken given.stamp) taken ∙ same_itself given.stamp)))

-- a refusal that names a damaged block
damaged_is : (e : Refusal) (block : ℕ) → damaged_block e ≡ Some block → e ≡ refusals.Damaged block
damaged_is (refusals.Damaged other) block is = ap (λ o. refusals.Damaged (count_or_none o)) is
damaged_is e block is = absurd (cc)

-- A message that is refused, by its kinds.
marked_by_it : (e : Refusal) (o : Option ℕ) → damaged_block e ≡ o → IsKept e (marked_by o)
marked_by_it e None is = tt
marked_by_it e (Some block) is = damaged_is e block is

leaves_marked : (e : Refusal) → IsKept e (marked_by (damaged_block e))
leaves_marked e = marked_by_it e (damaged_block e) refl

-- any message keeps no refusal, but for an edit
module _ (edited : Option ReqId) where
  leaves_unanswered : (e : Refusal) → LeavesIfRefused edited (unanswered e)
  leaves_unanswered e = ((tt, refl, refl), tt)

  leaves_or : (o : Option Refusal) (refuses : Refusal → Part) (part : Part) → ((e : Refusal) → LeavesIfRefused edited (refuses e)) → LeavesIfRefused edited part → LeavesIfRefused edited (or_else o refuses part)
  leaves_or None refuses part each leaves = leaves
  leaves_or (Some e) refuses part each leaves = each e

  leaves_either : (test : Bool) (x y : Part) → LeavesIfRefused edited x → LeavesIfRefused edited y → LeavesIfRefused edited (cond test x y)
  leaves_either true x y first second = first
  leaves_either false x y first second = second

  leaves_unpromised : (h : Here) (p : Place) (stamp : Stamp) (e : Refusal) → LeavesIfRefused edited (promising.unpromised h p stamp e)
  leaves_unpromised h p stamp e = ((leaves_marked e, refl, refl), tt)

  leaves_promises : (h : Here) (p : Place) (stamp : Stamp) (m : Result Slot Refusal) → LeavesIfRefused edited (promising.promises h p stamp m)
  leaves_promises h p stamp (Ok s) = (tt, tt)
  leaves_promises h p stamp (Err e) = leaves_unpromised h p stamp e

  leaves_sends : (h : Here) (p : Place) (stamp : Stamp) (target : ℕ) (m : Result (Image × Option SealedImage) Refusal) → LeavesIfRefused edited (promising.sends_copy h p stamp target m)
  leaves_sends h p stamp target (Ok copy) = (tt, tt)
  leaves_sends h p stamp target (Err e) = leaves_unpromised h p stamp e

  leaves_drops : (m : Result Slot Refusal) → LeavesIfRefused edited (promising.drops m)
  leaves_drops (Ok s) = (tt, tt)
  leaves_drops (Err e) = leaves_unanswered e

  leaves_takes : (given : Grant) (m : Result Slot Refusal) → LeavesIfRefused edited (takes given m)
  leaves_takes given (Ok s) = (tt, tt)
  leaves_takes given (Err e) = leaves_unanswered e

  leaves_goes_on : (next : PrimaryLease → PrimaryLease) (sent : PrimaryLease → List Message) (l : Option PrimaryLease) → LeavesIfRefused edited (goes_on next sent l)
  leaves_goes_on next sent None = (tt, tt)
  leaves_goes_on next sent (Some l) = (tt, tt)

  leaves_supplies : (h : Here) (e : Refusal) (server : ℕ) (l : Option PrimaryLease) → LeavesIfRefused edited (supplies_to h e server l)
  leaves_supplies h e server None = (tt, tt)
  leaves_supplies h e server (Some l) = (tt, tt)

  leaves_gives : (h : Here) (p : Place) (req : ReqId) (m : Result Given Refusal) → LeavesIfRefused edited (fetching.gives h p req m)
  leaves_gives h p req (Ok found) = (tt, tt)
  leaves_gives h p req (Err e) = ((leaves_marked e, refl, refl), tt)

  leaves_takes_if : (h : Here) (p : Place) (from : NodeId) (stamp : Stamp) (number : ℕ) (op : Op) (m : Result Slot Refusal) → LeavesIfRefused edited (edits.takes_if h p from stamp number op m)
  leaves_takes_if h p from stamp number op (Ok s) = (tt, tt)
  leaves_takes_if h p from stamp number op (Err e) = ((leaves_marked e, refl, refl), tt)

  leaves_forward_to : (h : Here) (p : Place) (from : NodeId) (stamp : Stamp) (number : ℕ) (req : ReqId) (op : Op) (bytes : Option (List ℕ)) (live : Option Live) → LeavesIfRefused edited (edits.takes h p from stamp number req op bytes live)
  leaves_forward_to h p from stamp number req op bytes None = ((leaves_marked refusals.NoReplica, refl, refl), tt)
  leaves_forward_to h p from stamp number req op bytes (Some live) =
      leaves_either (nat_le number live.replica.held.count) (edits.acknowledges h from stamp live.replica.held.count) (edits.takes_next h p from stamp number req op bytes live.replica.held.count) (tt, tt)
      (leaves_or (edits.unless_next live.replica.held.count number bytes) (declines h p from stamp) (edits.takes_if h p from stamp number op (apply stamp number req (in_replica op) (bytes_or_none bytes) p.slot)) (λ e. ((leaves_marked e, refl, refl), tt))
      (leaves_takes_if h p from stamp number op (apply stamp number req (in_replica op) (bytes_or_none bytes) p.slot)))

  leaves_from : (from : NodeId) (part : ℕ → Part) → ((server : ℕ) → LeavesIfRefused edited (part server)) → LeavesIfRefused edited (from_server from part)
  leaves_from (nodes.Server server) part each = each server
  leaves_from nodes.Master part each = leaves_unanswered refusals.Stray
  leaves_from (nodes.Client client) part each = leaves_unanswered refusals.Stray

leaves_edit_refused : (h : Here) (p : Place) (req : ReqId) (e : Refusal) → LeavesIfRefused (Some req) (refused_edit h p req e)
leaves_edit_refused h p req e = ((leaves_marked e, refl, refl), refl)

leaves_numbers_if : (h : Here) (p : Place) (l : PrimaryLease) (count : ℕ) (edit : Open) (m : Result Slot Refusal) → LeavesIfRefused (Some edit.req) (edits.numbers_if h p l count edit m)
leaves_numbers_if h p l count edit (Err e) = leaves_edit_refused h p edit.req e
leaves_numbers_if h p l count edit (Ok s) = leaves_either (Some edit.req) (count == edits.last_count) (refused_edit h p edit.req refusals.Exhausted) (edits.numbers h s l (count + 1) edit) (leaves_edit_refused h p edit.req refusals.Exhausted) (tt, tt)

leaves_passes : (h : Here) (p : Place) (req : ReqId) (op : Op) (bytes : List ℕ) (live : Option Live) (l : Option PrimaryLease) → LeavesIfRefused (Some req) (numbers_or_passes h p req op bytes live l)
leaves_passes h p req op bytes None l = leaves_edit_refused h p req refusals.NoReplica
leaves_passes h p req op bytes (Some live) None = leaves_edit_refused h p req refusals.NotPrimary
leaves_passes h p req op bytes (Some live) (Some l) =
    let edit : Open = edits.opened req (numbered_op h.chunk (length live.replica.held.chunk.bytes) op) bytes live in
    leaves_either (Some req) (is_passed h.chunk (length live.replica.held.chunk.bytes) op) (sending (edits.done h req (Ok Padded) ∷ [])) (edits.numbers_as h p live l edit) (tt, tt)
    (leaves_numbers_if h p l live.replica.held.count edit (apply l.grant.stamp (live.replica.held.count + 1) edit.req (in_replica edit.op) edit.bytes p.slot))

leaves_kept : (h : Here) (req : ReqId) (kept : Option KeptRefusal) (part : Part) → LeavesIfRefused (Some req) part → LeavesIfRefused (Some req) (unless_kept h req kept part)
leaves_kept h req None part leaves = leaves
leaves_kept h req (Some kept) part leaves =
    leaves_either (Some req) (nat_lt req.number kept.number) (refused_once h req refusals.Old) (cond (req.number == kept.number) (refused_once h req kept.refusal) part) ((tt, refl, refl), tt)
    (leaves_either (Some req) (req.number == kept.number) (refused_once h req kept.refusal) part ((tt, refl, refl), tt) leaves)

leaves_done : (h : Here) (p : Place) (req : ReqId) (last : Option Done) (part : Part) → LeavesIfRefused (Some req) part → LeavesIfRefused (Some req) (unless_done h p req last part)
leaves_done h p req None part leaves = leaves
leaves_done h p req (Some last) part leaves =
    leaves_either (Some req) (req.number == last.number) (repeated h p req last.outcome) (cond (nat_lt req.number last.number) (refused_once h req refusals.Old) part)
    (leaves_either (Some req) (is_known_of_all req p.slot p.lease) (sending (edits.done h req (Ok last.outcome) ∷ [])) (sending []) (tt, tt) (tt, tt))
    (leaves_either (Some req) (nat_lt req.number last.number) (refused_once h req refusals.Old) part ((tt, refl, refl), tt) leaves)

pub leaves : (h : Here) (p : Place) (from : NodeId) (chunk : Chunk) → LeavesIfRefused (edit_in chunk) (about_chunk h p from chunk)
leaves h p from (chunks.Create stamp) =
    leaves_or None (other_epoch h stamp.epoch) (promising.unpromised h p stamp) (promising.promises h p stamp (slots.create h.block h.chunk stamp p.slot)) (leaves_unpromised None h p stamp) (leaves_promises None h p stamp (slots.create h.block h.chunk stamp p.slot))
leaves h p from (chunks.Advance stamp) =
    leaves_or None (other_epoch h stamp.epoch) (promising.unpromised h p stamp) (promising.promises h p stamp (slots.advance stamp p.slot)) (leaves_unpromised None h p stamp) (leaves_promises None h p stamp (slots.advance stamp p.slot))
leaves h p from (chunks.Grant given) =
    leaves_or None (first_of (other_epoch h given.stamp.epoch ∷ check_grant given.stamp p.slot ∷ [])) unanswered (cond (is_held given.stamp p.lease) (sending []) (takes given (take_lease given.stamp p.slot))) (leaves_unanswered None)
    (leaves_either None (is_held given.stamp p.lease) (sending []) (takes given (take_lease given.stamp p.slot)) (tt, tt) (leaves_takes None given (take_lease given.stamp p.slot)))
leaves h p from (chunks.Renewed stamp end) =
    leaves_or None (unless_leased stamp p.slot p.lease) unanswered (goes_on (renews end) (λ l. []) p.lease) (leaves_unanswered None) (leaves_goes_on None (renews end) (λ l. []) p.lease)
leaves h p from (chunks.Edit req stamp op) =
    let part : Part = numbers_or_passes h p req op (bytes_or_none (bytes_of op None h.pushed)) p.slot.live p.lease in
    leaves_done h p req (done_in p.slot.live req.client.0) (unless_kept h req h.refused (new_edit h p req stamp op)) (leaves_kept h req h.refused (new_edit h p req stamp op)
    (leaves_or (Some req) (unless_numbered h p stamp op) (refused_edit h p req) part (leaves_edit_refused h p req) (leaves_passes h p req op (bytes_or_none (bytes_of op None h.pushed)) p.slot.live p.lease)))
leaves h p from (chunks.Forward stamp number req op bytes) =
    leaves_or None (first_of (unless_live p.slot.live ∷ unless_promised stamp p.slot ∷ [])) (declines h p from stamp) (edits.takes h p from stamp number req op (bytes_of op bytes h.pushed) p.slot.live) (λ e. ((leaves_marked e, refl, refl), tt))
    (leaves_forward_to None h p from stamp number req op (bytes_of op bytes h.pushed) p.slot.live)
leaves h p from (chunks.Ack stamp count) = leaves_from None from (λ server. holding.ack h p server stamp count) (λ server.
    leaves_or None (unless_leased stamp p.slot p.lease) unanswered (goes_on (λ l. settled (hears server count l)) (λ l. dones h.me (hears server count l)) p.lease) (leaves_unanswered None)
    (leaves_goes_on None (λ l. settled (hears server count l)) (λ l. dones h.me (hears server count l)) p.lease))
leaves h p from (chunks.Nack stamp e) = leaves_from None from (λ server. holding.nack h p server stamp e) (λ server.
    leaves_or None (unless_leased stamp p.slot p.lease) unanswered (supplies_to h e server p.lease) (leaves_unanswered None) (leaves_supplies None h e server p.lease))
leaves h p from (chunks.Fetch req stamp epoch asked) =
    leaves_or None (other_epoch h epoch) (fetching.refuses h p req) (fetching.gives h p req (fetching.given stamp asked p.slot)) (λ e. ((leaves_marked e, refl, refl), tt)) (leaves_gives None h p req (fetching.given stamp asked p.slot))
leaves h p from (chunks.CopyOut stamp target with_sealed) =
    leaves_or None (other_epoch h stamp.epoch) (promising.unpromised h p stamp) (promising.sends_copy h p stamp target (moves.copy_out stamp with_sealed p.slot)) (leaves_unpromised None h p stamp) (leaves_sends None h p stamp target (moves.copy_out stamp with_sealed p.slot))
leaves h p from (chunks.CopyIn stamp image sealed) =
    leaves_or None (other_epoch h stamp.epoch) (promising.unpromised h p stamp) (promising.promises h p stamp (moves.copy_in h.block h.chunk stamp image sealed p.slot)) (leaves_unpromised None h p stamp) (leaves_promises None h p stamp (moves.copy_in h.block h.chunk stamp image sealed p.slot))
leaves h p from (chunks.Drop epoch promise) =
    leaves_or None (other_epoch h epoch) unanswered (promising.drops (slots.drop_replica promise p.slot)) (leaves_unanswered None) (leaves_drops None (slots.drop_replica promise p.slot))
leaves h p from (chunks.Promised stamp count carried) = leaves_unanswered None refusals.Stray
leaves h p from (chunks.Unpromised stamp e) = leaves_unanswered None refusals.Stray
leaves h p from (chunks.Renew stamp) = leaves_unanswered None refusals.Stray
leaves h p from (chunks.Bad stamp) = leaves_unanswered None refusals.Stray

-- a copy under a new handle
not_copied_leaves : (h : Here) (source : Place) (new : Here) (stamp : Stamp) (e : Refusal) → LeavesIfNotCopied (promising.not_copied h source new stamp e)
not_copied_leaves h source new stamp e = (leaves_marked e, refl, refl)

copies_leave : (h : Here) (source : Place) (new : Here) (target : Place) (stamp : Stamp) (m : Result Slot Refusal) → LeavesIfNotCopied (promising.copies h source new target stamp m)
copies_leave h source new target stamp (Ok s) = refl
copies_leave h source new target stamp (Err e) = not_copied_leaves h source new stamp e

or_copy_leaves : (o : Option Refusal) (refuses : Refusal → Copying) (copying : Copying) → ((e : Refusal) → LeavesIfNotCopied (refuses e)) → LeavesIfNotCopied copying → LeavesIfNotCopied (promising.or_copy o refuses copying)
or_copy_leaves None refuses copying each made = made
or_copy_leaves (Some e) refuses copying each made = each e

pub refused_copy : (h : Here) (source : Place) (at : Stamp) (new : Here) (target : Place) (stamp : Stamp) → LeavesIfNotCopied (promising.make_copy h source at new target stamp)
refused_copy h source at new target stamp =
    or_copy_leaves (other_epoch h stamp.epoch) (promising.not_copied h source new stamp) (promising.copies h source new target stamp (moves.make_copy at stamp source.slot target.slot)) (not_copied_leaves h source new stamp)
    (copies_leave h source new target stamp (moves.make_copy at stamp source.slot target.slot))
