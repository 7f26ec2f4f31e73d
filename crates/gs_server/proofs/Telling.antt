-- When a client is told that its edit is done, and what an edit that doesn't fit is numbered as.
use Rattle.std.proofs.Common.{◌≡◌, ◌≤◌, ◌<◌, ℕ, Bool, true, false, cond, not, List, [], ◌∷◌, ◌++◌, length, Option, Some, None, refl, sym, ap, subst, ◌∙◌, arith}
use Rattle.std.proofs.lemmas.Bool.Decides.{nat_tests}
use Rattle.std.proofs.lemmas.List.Elements.{All-nil, All-cons, All-head, All-tail, All-append, All-map, All-weaker, All-contains_itself}
use Rattle.std.proofs.lemmas.List.Sums.{AllPass-from_list_all}
use Rattle.std.specs.Prelude.{Result, Ok, Err, ◌==◌, ◌+◌, nat_lt, filter, Contains}
use Rattle.std.specs.List.{All}
use Rattle.gs_base.specs.declared.numbers.Stamp.{Stamp}
use Rattle.gs_base.specs.declared.numbers.ReqId.{ReqId}
use Rattle.gs_base.specs.Stamps.{is_same}
use Rattle.gs_base.specs.declared.refusal.Refusal.{Refusal}
use Rattle.gs_base.specs.declared.refusal.Refusal.TheVariants as refusals
use Rattle.gs_replica.specs.declared.op.EditOutcome.TheVariants.{Padded}
use Rattle.gs_replica.specs.declared.op.Op.TheVariants as applied
use Rattle.gs_replica.specs.declared.op.Done.{Done}
use Rattle.gs_msg.specs.declared.op.Op.{Op}
use Rattle.gs_msg.specs.declared.op.Op.TheVariants.{Append, Pad}
use Rattle.gs_msg.specs.Ops.{in_replica}
use Rattle.gs_msg.specs.declared.message.Message.{Message}
use Rattle.gs_store.specs.Slots.{Live, Slot}
use Rattle.gs_store.specs.Serving.{done_in, apply}
use Rattle.gs_server_lease.specs.Numbering.{numbered_op, is_passed}
use Rattle.gs_server.specs.declared.turn.KeptRefusal.{KeptRefusal}
use Rattle.gs_server_lease.specs.declared.lease.Open.{Open}
use Rattle.gs_server_lease.specs.Leases.{PrimaryLease, told_by, lacks, hears, waits, waits_for, opens_edit, is_acknowledged, done_of, dones, done_at_once, forward_of, forwards, settled}
use Rattle.gs_server.specs.Places.{Place, Here, Part, SlotChange, SlotStays, SlotBecomes, SlotMarked, LeaseChange, LeaseStays, LeaseBecomes, LeaseSpent, marked_by, damaged_block, or_else, sending, unanswered, after}
use Rattle.gs_server.specs.Holding.{unless_leased, goes_on, ack}
use Rattle.gs_server.specs.Edits.{edit, new_edit, unless_numbered, numbers, numbers_if, numbers_as, numbers_or_passes, opened, bytes_of, bytes_or_none, last_count, done, refused_edit, refused_once, repeated, is_known_of_all, unless_kept, unless_done}
use Rattle.gs_server.specs.Laws.{is_yes, IsToldByAll, IsToldUnder, IsDoneUnder, IsKnownToAll, IsHeldFor, padding}
use Rattle.gs_server.proofs.Made.{inside}
use Rattle.gs_server.proofs.Counted.{same_stamp, both_first, both_second}
use Rattle.gs_server.proofs.Keeping.{numbered_is, of_becomes}

never_true : {Z : Type 0} → false ≡ true → Z
never_true is = elim (subst (λ (b : Bool). cond b ⊥ (Unit {0})) is tt) [ ]

-- every member has told
reached : (told number : ℕ) → not (nat_lt told number) ≡ true → number ≤ told
reached told number is = grind (arith, nat_tests)

told_by_all : (l : PrimaryLease) (number : ℕ) → is_acknowledged l number ≡ true → IsToldByAll l number
told_by_all l number is = record {
  each = All-weaker (λ server. not (lacks l.told number server) ≡ true) (λ server. number ≤ told_by l.told server) (λ server. reached (told_by l.told server) number) l.grant.members (AllPass-from_list_all (λ server. not (lacks l.told number server)) l.grant.members is);
}

-- at an acknowledgement
module _ {X : Type 0} (p : X → Bool) (Q : X → Type 0) where
  kept_head : (test : Bool) (x : X) (rest : List X) → (test ≡ true → Q x) → All Q rest → All Q (cond test (x ∷ rest) rest)
  kept_head true x rest head tail = All-cons Q x rest (head refl) tail
  kept_head false x rest head tail = tail

  all_kept : (xs : List X) → All (λ x. p x ≡ true → Q x) xs → All Q (filter p xs)
  all_kept [] each = All-nil Q
  all_kept (x ∷ xs) each = kept_head (p x) x (filter p xs) (All-head (λ y. p y ≡ true → Q y) x xs each) (all_kept xs (All-tail (λ y. p y ≡ true → Q y) x xs each))

dones_are : (me : ℕ) (l : PrimaryLease) → All (IsDoneUnder me l) (dones me l)
dones_are me l =
    All-map (IsDoneUnder me l) (done_of me) (filter (λ (e : ℕ × Open). is_acknowledged l e.0) l.outbox)
    (all_kept (λ (e : ℕ × Open). is_acknowledged l e.0) (λ e. IsDoneUnder me l (done_of me e)) l.outbox
    (All-weaker (Contains l.outbox) (λ e. is_acknowledged l e.0 ≡ true → IsDoneUnder me l (done_of me e))
    (λ e within is. record { number = e.0; edit = e.1; waiting = within; is = refl; told = told_by_all l e.0 is }) l.outbox (All-contains_itself l.outbox)))

unless_all : (P : Message → Type 0) (o : Option Refusal) (part : Part) → All P part.sent → All P (or_else o unanswered part).sent
unless_all P None part each = each
unless_all P (Some e) part each = All-nil P

pub acks_are : (h : Here) (p : Place) (server : ℕ) (stamp : Stamp) (count : ℕ) (l : PrimaryLease) → p.lease ≡ Some l → All (IsDoneUnder h.me (hears server count l)) (ack h p server stamp count).sent
acks_are h p server stamp count l held =
    subst (λ o. All (IsDoneUnder h.me (hears server count l)) (or_else (unless_leased stamp p.slot o) unanswered (goes_on (λ x. settled (hears server count x)) (λ x. dones h.me (hears server count x)) o)).sent) (sym held)
    (unless_all (IsDoneUnder h.me (hears server count l)) (unless_leased stamp p.slot (Some l)) _ (dones_are h.me (hears server count l)))

pub no_acks : (h : Here) (p : Place) (server : ℕ) (stamp : Stamp) (count : ℕ) → p.lease ≡ None → (ack h p server stamp count).sent ≡ []
no_acks h p server stamp count none = ap (λ o. (or_else (unless_leased stamp p.slot o) unanswered (goes_on (λ x. settled (hears server count x)) (λ x. dones h.me (hears server count x)) o)).sent) none

-- of a new edit
abbrev IfLeased : (PrimaryLease → Type 0) → LeaseChange → Type 0
IfLeased P LeaseStays = Unit {0}
IfLeased P (LeaseBecomes l) = P l
IfLeased P LeaseSpent = Unit {0}

abbrev TellsPart : ℕ → Part → Type 0
TellsPart n part = IfLeased (λ l. All (λ m. is_yes m.body ≡ true → IsToldByAll l n) part.sent) part.lease

tells_either : (n : ℕ) (test : Bool) (x y : Part) → TellsPart n x → TellsPart n y → TellsPart n (cond test x y)
tells_either n true x y first second = first
tells_either n false x y first second = second

module _ (me handle : ℕ) (l : PrimaryLease) (n : ℕ) (edit : Open) where
  abbrev Told : Message → Type 0
  Told m = is_yes m.body ≡ true → IsToldByAll (opens_edit me n edit l) n

  at_once : (test : Bool) → is_acknowledged (hears me n l) n ≡ test → All Told (cond test (done_of me (n, edit) ∷ []) [])
  at_once true is = All-cons Told (done_of me (n, edit)) [] (λ _. subst (λ new. IsToldByAll new n) (sym (ap (λ b. cond b (hears me n l) (waits_for n edit (hears me n l))) is)) (told_by_all (hears me n l) n is)) (All-nil Told)
  at_once false is = All-nil Told

  numbered_told : All Told (forwards me handle l (n, edit) ++ done_at_once me n edit l)
  numbered_told =
      All-append Told (forwards me handle l (n, edit)) (done_at_once me n edit l)
      (All-map Told (forward_of me handle l None (n, edit)) (filter (λ server. not (server == me)) l.grant.members) (λ k d less yes. never_true yes))
      (at_once (is_acknowledged (hears me n l) n) refl)

numbers_tell : (h : Here) (p : Place) (l : PrimaryLease) (count : ℕ) (e : Open) (r : Result Slot Refusal) → TellsPart (count + 1) (numbers_if h p l count e r)
numbers_tell h p l count e (Err f) = tt
numbers_tell h p l count e (Ok s) = tells_either (count + 1) (count == last_count) (refused_edit h p e.req refusals.Exhausted) (numbers h s l (count + 1) e) tt (numbered_told h.me h.handle l (count + 1) e)

live_tells : (n : ℕ) (h : Here) (p : Place) (req : ReqId) (op : Op) (bytes : List ℕ) (live : Option Live) (lease : Option PrimaryLease) → ((v : Live) → live ≡ Some v → v.replica.held.count + 1 ≡ n) → TellsPart n (numbers_or_passes h p req op bytes live lease)
live_tells n h p req op bytes None lease count = tt
live_tells n h p req op bytes (Some v) None count = tt
live_tells n h p req op bytes (Some v) (Some l) count =
    tells_either n (is_passed h.chunk (length v.replica.held.chunk.bytes) op) (sending (done h req (Ok Padded) ∷ [])) (numbers_as h p v l (opened req (numbered_op h.chunk (length v.replica.held.chunk.bytes) op) bytes v)) tt
    (subst (λ k. TellsPart k (numbers_as h p v l (opened req (numbered_op h.chunk (length v.replica.held.chunk.bytes) op) bytes v))) (count v refl)
    (numbers_tell h p l v.replica.held.count (opened req (numbered_op h.chunk (length v.replica.held.chunk.bytes) op) bytes v) _))

or_tells : (n : ℕ) (o : Option Refusal) (h : Here) (p : Place) (req : ReqId) (part : Part) → TellsPart n part → TellsPart n (or_else o (refused_edit h p req) part)
or_tells n None h p req part tells = tells
or_tells n (Some e) h p req part tells = tt

kept_tells : (n : ℕ) (h : Here) (req : ReqId) (kept : Option KeptRefusal) (part : Part) → TellsPart n part → TellsPart n (unless_kept h req kept part)
kept_tells n h req None part tells = tells
kept_tells n h req (Some kept) part tells =
    tells_either n (nat_lt req.number kept.number) (refused_once h req refusals.Old) _ tt (tells_either n (req.number == kept.number) (refused_once h req kept.refusal) part tt tells)

done_tells : (n : ℕ) (h : Here) (p : Place) (req : ReqId) (last : Option Done) (part : Part) → TellsPart n part → TellsPart n (unless_done h p req last part)
done_tells n h p req None part tells = tells
done_tells n h p req (Some last) part tells =
    tells_either n (req.number == last.number) (repeated h p req last.outcome) _ (tells_either n (is_known_of_all req p.slot p.lease) (sending (done h req (Ok last.outcome) ∷ [])) (sending []) tt tt)
    (tells_either n (nat_lt req.number last.number) (refused_once h req refusals.Old) part tt tells)

pub edits_tell : (h : Here) (p : Place) (req : ReqId) (stamp : Stamp) (op : Op) (live : Live) (l : PrimaryLease) → p.slot.live ≡ Some live → (edit h p req stamp op).lease ≡ LeaseBecomes l →
    All (λ m. is_yes m.body ≡ true → IsToldByAll l (live.replica.held.count + 1)) (edit h p req stamp op).sent
edits_tell h p req stamp op live l lives is =
    let n : ℕ = live.replica.held.count + 1 in
    subst (IfLeased (λ new. All (λ m. is_yes m.body ≡ true → IsToldByAll new n) (edit h p req stamp op).sent)) is
    (done_tells n h p req (done_in p.slot.live req.client.0) _ (kept_tells n h req h.refused _ (or_tells n (unless_numbered h p stamp op) h p req _
    (live_tells n h p req op (bytes_or_none (bytes_of op None h.pushed)) p.slot.live p.lease (λ v found. ap (λ (x : Live). x.replica.held.count + 1) (inside v live (sym found ∙ lives)))))))

-- of a repeat
known_to_all : (req : ReqId) (s : Slot) (lease : Option PrimaryLease) → is_known_of_all req s lease ≡ true → IsKnownToAll req (record { slot = s; lease = lease })
known_to_all req s None is = never_true is
known_to_all req s (Some l) is = record {
  lease = l;
  held = refl;
  promised = both_first (is_same l.grant.stamp s.promise) (not (waits req l)) is;
  known = not_true (waits req l) (both_second (is_same l.grant.stamp s.promise) (not (waits req l)) is);
}
  where
    not_true : (b : Bool) → not b ≡ true → b ≡ false
    not_true false is = refl
    not_true true is = never_true is

module _ (h : Here) (p : Place) (req : ReqId) where
  abbrev Known : Message → Type 0
  Known m = is_yes m.body ≡ true → IsKnownToAll req p

  known_told : (last : Done) (test : Bool) → is_known_of_all req p.slot p.lease ≡ test → All Known (cond test (sending (done h req (Ok last.outcome) ∷ [])) (sending [])).sent
  known_told last true is = All-cons Known (done h req (Ok last.outcome)) [] (λ _. known_to_all req p.slot p.lease is) (All-nil Known)
  known_told last false is = All-nil Known

  same_number : (a b : ℕ) → a ≡ b → (a == b) ≡ true
  same_number a b is = grind (arith, nat_tests)

  repeat_told : (last : Done) (part : Part) → req.number ≡ last.number → All Known (unless_done h p req (Some last) part).sent
  repeat_told last part same =
      subst (λ b. All Known (cond b (repeated h p req last.outcome) (cond (nat_lt req.number last.number) (refused_once h req refusals.Old) part)).sent) (sym (same_number req.number last.number same)) (known_told last (is_known_of_all req p.slot p.lease) refl)

pub repeats_tell : (h : Here) (p : Place) (req : ReqId) (stamp : Stamp) (op : Op) (last : Done) → done_in p.slot.live req.client.0 ≡ Some last → req.number ≡ last.number → All (λ m. is_yes m.body ≡ true → IsKnownToAll req p) (edit h p req stamp op).sent
repeats_tell h p req stamp op last found same =
    subst (λ o. All (λ m. is_yes m.body ≡ true → IsKnownToAll req p) (unless_done h p req o (unless_kept h req h.refused (new_edit h p req stamp op))).sent) (sym found) (repeat_told h p req last _ same)

-- of an edit that is numbered
abbrev IfNumbered : (Part → Type 0) → Part → SlotChange → Type 0
IfNumbered P part SlotStays = Unit {0}
IfNumbered P part (SlotBecomes s) = P part
IfNumbered P part (SlotMarked block) = Unit {0}

-- under each lease, of each live replica, as the replica takes it
abbrev EachNumbered : (Part → Type 0) → Here → Place → ReqId → Op → List ℕ → Option Live → Option PrimaryLease → Type 0
EachNumbered P h p req op bytes live lease =
    (v : Live) (l : PrimaryLease) → live ≡ Some v → lease ≡ Some l → (s : Slot) → (let e : Open = opened req (numbered_op h.chunk (length v.replica.held.chunk.bytes) op) bytes v in
    apply l.grant.stamp (v.replica.held.count + 1) req (in_replica e.op) e.bytes p.slot ≡ Ok s → P (numbers h s l (v.replica.held.count + 1) e))

module _ (P : Part → Type 0) where
  numbered_either : (test : Bool) (x y : Part) → IfNumbered P x x.slot → IfNumbered P y y.slot → IfNumbered P (cond test x y) (cond test x y).slot
  numbered_either true x y first second = first
  numbered_either false x y first second = second

  marks : (part : Part) (o : Option ℕ) → IfNumbered P part (marked_by o)
  marks part None = tt
  marks part (Some block) = tt

  or_numbered : (o : Option Refusal) (h : Here) (p : Place) (req : ReqId) (part : Part) → IfNumbered P part part.slot → IfNumbered P (or_else o (refused_edit h p req) part) (or_else o (refused_edit h p req) part).slot
  or_numbered None h p req part fact = fact
  or_numbered (Some e) h p req part fact = marks (refused_edit h p req e) (damaged_block e)

  kept_numbered : (h : Here) (req : ReqId) (kept : Option KeptRefusal) (part : Part) → IfNumbered P part part.slot → IfNumbered P (unless_kept h req kept part) (unless_kept h req kept part).slot
  kept_numbered h req None part fact = fact
  kept_numbered h req (Some kept) part fact =
      numbered_either (nat_lt req.number kept.number) (refused_once h req refusals.Old) (cond (req.number == kept.number) (refused_once h req kept.refusal) part) tt
      (numbered_either (req.number == kept.number) (refused_once h req kept.refusal) part tt fact)

  done_numbered : (h : Here) (p : Place) (req : ReqId) (last : Option Done) (part : Part) → IfNumbered P part part.slot → IfNumbered P (unless_done h p req last part) (unless_done h p req last part).slot
  done_numbered h p req None part fact = fact
  done_numbered h p req (Some last) part fact =
      numbered_either (req.number == last.number) (repeated h p req last.outcome) (cond (nat_lt req.number last.number) (refused_once h req refusals.Old) part)
      (numbered_either (is_known_of_all req p.slot p.lease) (sending (done h req (Ok last.outcome) ∷ [])) (sending []) tt tt)
      (numbered_either (nat_lt req.number last.number) (refused_once h req refusals.Old) part tt fact)

  if_numbered : (h : Here) (p : Place) (l : PrimaryLease) (count : ℕ) (e : Open) (r : Result Slot Refusal) → ((s : Slot) → r ≡ Ok s → P (numbers h s l (count + 1) e)) → IfNumbered P (numbers_if h p l count e r) (numbers_if h p l count e r).slot
  if_numbered h p l count e (Err f) fact = marks (refused_edit h p e.req f) (damaged_block f)
  if_numbered h p l count e (Ok s) fact =
      numbered_either (count == last_count) (refused_edit h p e.req refusals.Exhausted) (numbers h s l (count + 1) e) (marks (refused_edit h p e.req refusals.Exhausted) (damaged_block refusals.Exhausted)) (fact s refl)

  live_numbered : (h : Here) (p : Place) (req : ReqId) (op : Op) (bytes : List ℕ) (live : Option Live) (lease : Option PrimaryLease) → EachNumbered P h p req op bytes live lease →
      IfNumbered P (numbers_or_passes h p req op bytes live lease) (numbers_or_passes h p req op bytes live lease).slot
  live_numbered h p req op bytes None lease fact = marks (refused_edit h p req refusals.NoReplica) (damaged_block refusals.NoReplica)
  live_numbered h p req op bytes (Some v) None fact = marks (refused_edit h p req refusals.NotPrimary) (damaged_block refusals.NotPrimary)
  live_numbered h p req op bytes (Some v) (Some l) fact =
      let e : Open = opened req (numbered_op h.chunk (length v.replica.held.chunk.bytes) op) bytes v in
      numbered_either (is_passed h.chunk (length v.replica.held.chunk.bytes) op) (sending (done h req (Ok Padded) ∷ [])) (numbers_as h p v l e) tt
      (if_numbered h p l v.replica.held.count e (apply l.grant.stamp (v.replica.held.count + 1) req (in_replica e.op) e.bytes p.slot) (fact v l refl refl))

  numbered_part : (h : Here) (p : Place) (req : ReqId) (stamp : Stamp) (op : Op) (s : Slot) → (edit h p req stamp op).slot ≡ SlotBecomes s → EachNumbered P h p req op (bytes_or_none (bytes_of op None h.pushed)) p.slot.live p.lease → P (edit h p req stamp op)
  numbered_part h p req stamp op s is fact =
      subst (IfNumbered P (edit h p req stamp op)) is
      (done_numbered h p req (done_in p.slot.live req.client.0) _ (kept_numbered h req h.refused _ (or_numbered (unless_numbered h p stamp op) h p req _
      (live_numbered h p req op (bytes_or_none (bytes_of op None h.pushed)) p.slot.live p.lease fact))))

-- what is told of it at once
tells_under : (me handle : ℕ) (l : PrimaryLease) (n : ℕ) (e : Open) → All (λ m. is_yes m.body ≡ true → IsToldUnder (Some (opens_edit me n e l)) n) (forwards me handle l (n, e) ++ done_at_once me n e l)
tells_under me handle l n e =
    All-weaker (λ (m : Message). is_yes m.body ≡ true → IsToldByAll (opens_edit me n e l) n) (λ m. is_yes m.body ≡ true → IsToldUnder (Some (opens_edit me n e l)) n)
    (λ m told yes. record { lease = opens_edit me n e l; is = refl; told = told yes }) (forwards me handle l (n, e) ++ done_at_once me n e l) (numbered_told me handle l n e)

pub numbered_tells : (h : Here) (p : Place) (req : ReqId) (stamp : Stamp) (op : Op) (live : Live) (s : Slot) → p.slot.live ≡ Some live → (edit h p req stamp op).slot ≡ SlotBecomes s →
    All (λ m. is_yes m.body ≡ true → IsToldUnder (after p (edit h p req stamp op)).lease (live.replica.held.count + 1)) (edit h p req stamp op).sent
numbered_tells h p req stamp op live s lives is =
    numbered_part (λ part. All (λ m. is_yes m.body ≡ true → IsToldUnder (after p part).lease (live.replica.held.count + 1)) part.sent) h p req stamp op s is (λ v l found leased t does.
    let e : Open = opened req (numbered_op h.chunk (length v.replica.held.chunk.bytes) op) (bytes_or_none (bytes_of op None h.pushed)) v in
    subst (λ k. All (λ m. is_yes m.body ≡ true → IsToldUnder (after p (numbers h t l (v.replica.held.count + 1) e)).lease k) (numbers h t l (v.replica.held.count + 1) e).sent)
    (ap (λ (x : Live). x.replica.held.count + 1) (inside v live (sym found ∙ lives)))
    (tells_under h.me h.handle l (v.replica.held.count + 1) e))

-- of an append that doesn't fit
is_out : (chunk end : ℕ) → chunk < end → nat_lt chunk end ≡ true
is_out chunk end is = grind (arith, nat_tests)

module _ (P : Part → Type 0) (h : Here) (p : Place) (req : ReqId) (many : ℕ) where
  abbrev EachPad : Type 0
  EachPad = (v : Live) (l : PrimaryLease) (t : Slot) → p.slot.live ≡ Some v → p.lease ≡ Some l → apply l.grant.stamp (v.replica.held.count + 1) req applied.Pad [] p.slot ≡ Ok t → P (numbers h t l (v.replica.held.count + 1) (padding req))

  pad_case : (bytes : List ℕ) (v : Live) (l : PrimaryLease) (t : Slot) (test : Bool) → test ≡ true → (apply l.grant.stamp (v.replica.held.count + 1) req applied.Pad [] p.slot ≡ Ok t → P (numbers h t l (v.replica.held.count + 1) (padding req))) →
      (let e : Open = opened req (cond test Pad (Append many)) bytes v in apply l.grant.stamp (v.replica.held.count + 1) req (in_replica e.op) e.bytes p.slot ≡ Ok t → P (numbers h t l (v.replica.held.count + 1) e))
  pad_case bytes v l t true is fact = fact
  pad_case bytes v l t false is fact = never_true is

  pad_numbered : (stamp : Stamp) (live : Live) (s : Slot) → p.slot.live ≡ Some live → h.chunk < length live.replica.held.chunk.bytes + many → (edit h p req stamp (Append many)).slot ≡ SlotBecomes s → EachPad → P (edit h p req stamp (Append many))
  pad_numbered stamp live s lives out is fact =
      numbered_part P h p req stamp (Append many) s is (λ v l found leased t.
      pad_case (bytes_or_none (bytes_of (Append many) None h.pushed)) v l t (nat_lt h.chunk (length v.replica.held.chunk.bytes + many))
      (is_out h.chunk _ (subst (λ (x : Live). h.chunk < length x.replica.held.chunk.bytes + many) (inside live v (sym lives ∙ found)) out)) (fact v l t found leased))

abbrev IfSlot : (Slot → Type 0) → SlotChange → Type 0
IfSlot Q SlotStays = Unit {0}
IfSlot Q (SlotBecomes s) = Q s
IfSlot Q (SlotMarked block) = Unit {0}

pub appends_pad : (h : Here) (p : Place) (req : ReqId) (stamp : Stamp) (many : ℕ) (live : Live) (s : Slot) → p.slot.live ≡ Some live → h.chunk < length live.replica.held.chunk.bytes + many → (edit h p req stamp (Append many)).slot ≡ SlotBecomes s →
    apply stamp (live.replica.held.count + 1) req applied.Pad [] p.slot ≡ Ok s
appends_pad h p req stamp many live s lives out is =
    let Q : Slot → Type 0 = λ new. apply stamp (live.replica.held.count + 1) req applied.Pad [] p.slot ≡ Ok new in
    let held : IsHeldFor h.moment stamp p = of_becomes _ (edit h p req stamp (Append many)).slot s is (numbered_is h p req stamp (Append many)) in
    subst (IfSlot Q) is
    (pad_numbered (λ part. IfSlot Q part.slot) h p req many stamp live s lives out is (λ v l t found leased does.
    ap (λ (x : Live). apply stamp (x.replica.held.count + 1) req applied.Pad [] p.slot) (inside live v (sym lives ∙ found))
    ∙ ap (λ (x : Stamp). apply x (v.replica.held.count + 1) req applied.Pad [] p.slot) (same_stamp stamp held.lease.grant.stamp held.asked ∙ ap (λ (x : PrimaryLease). x.grant.stamp) (inside held.lease l (sym held.held ∙ leased)))
    ∙ does))

abbrev sends_pad : Here → ReqId → Live → PrimaryLease → List Message
sends_pad h req v l = forwards h.me h.handle l (v.replica.held.count + 1, padding req) ++ done_at_once h.me (v.replica.held.count + 1) (padding req) l

pub pads_sent : (h : Here) (p : Place) (req : ReqId) (stamp : Stamp) (many : ℕ) (live : Live) (l : PrimaryLease) (s : Slot) → p.slot.live ≡ Some live → p.lease ≡ Some l → h.chunk < length live.replica.held.chunk.bytes + many → (edit h p req stamp (Append many)).slot ≡ SlotBecomes s →
    (edit h p req stamp (Append many)).sent ≡ sends_pad h req live l
pads_sent h p req stamp many live l s lives leases out is =
    pad_numbered (λ part. part.sent ≡ sends_pad h req live l) h p req many stamp live s lives out is (λ v k t found leased does.
    ap (λ (x : Live). sends_pad h req x k) (inside v live (sym found ∙ lives)) ∙ ap (sends_pad h req live) (inside k l (sym leased ∙ leases)))
