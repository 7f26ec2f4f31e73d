-- What a message makes a replica apply.
use Rattle.std.proofs.Common.{◌≡◌, ℕ, ◌+◌, Bool, true, false, cond, List, [], ◌∷◌, Option, Some, None, length, refl, subst}
use Rattle.std.specs.Prelude.{Result, Ok, Err, ◌==◌, nat_lt, nat_le}
use Rattle.gs_base.specs.declared.numbers.Stamp.{Stamp}
use Rattle.gs_base.specs.declared.numbers.ReqId.{ReqId}
use Rattle.gs_base.specs.Stamps.{is_same}
use Rattle.gs_base.specs.declared.refusal.Refusal.{Refusal}
use Rattle.gs_base.specs.declared.refusal.Refusal.TheVariants as refusals
use Rattle.gs_replica.specs.declared.op.Done.{Done}
use Rattle.gs_replica.specs.declared.op.EditOutcome.TheVariants.{Padded}
use Rattle.gs_msg.specs.declared.op.Op.{Op}
use Rattle.gs_msg.specs.Ops.{in_replica}
use Rattle.gs_msg.specs.declared.node.NodeId.{NodeId}
use Rattle.gs_store.specs.Slots.{Live, Slot, first_of, when, unless_live, unless_promised}
use Rattle.gs_store.specs.Serving.{apply, done_in}
use Rattle.gs_server.specs.declared.turn.KeptRefusal.{KeptRefusal}
use Rattle.gs_server_lease.specs.declared.lease.Open.{Open}
use Rattle.gs_server_lease.specs.Leases.{PrimaryLease}
use Rattle.gs_server_lease.specs.Numbering.{is_too_long, is_passed}
use Rattle.gs_server.specs.Places.{Place, Here, Part, SlotChange, SlotStays, SlotBecomes, SlotMarked, marked_by, damaged_block, or_else, sending}
use Rattle.gs_server.specs.Edits.{edit, new_edit, numbers_or_passes, numbers_as, numbers_if, numbers, forward, takes, takes_next, takes_if, unless_next, unless_there, unless_holding, unless_over, unless_numbered, bytes_of, bytes_or_none, declines, acknowledges, refused_edit, refused_once, repeated, unless_kept, unless_done, is_known_of_all, last_count, done}
use Rattle.gs_laws_server.specs.servers.Editing.{IsTakenBy, IsNumberedBy, numbered_edit}
use Rattle.gs_laws_server.proofs.lemmas.servers.Tests.{head_none, tail_none, not_met, never, first_same, next_number}

-- A fact of a part and of what its slot becomes.
abbrev pub OfChange : (Slot → Type 0) → SlotChange → Type 0
OfChange P SlotStays = Unit {0}
OfChange P (SlotBecomes s) = P s
OfChange P (SlotMarked block) = Unit {0}

abbrev pub WhereMade : (Part → Slot → Type 0) → Part → Type 0
WhereMade P part = OfChange (P part) part.slot

pub where_made : (P : Part → Slot → Type 0) (part : Part) (s : Slot) → part.slot ≡ SlotBecomes s → WhereMade P part → P part s
where_made P part s is fact = subst (OfChange (P part)) is fact

module _ (P : Part → Slot → Type 0) where
  made_either : (test : Bool) (x y : Part) → (test ≡ true → WhereMade P x) → (test ≡ false → WhereMade P y) → WhereMade P (cond test x y)
  made_either true x y first second = first refl
  made_either false x y first second = second refl

  made_or : (o : Option Refusal) (refuses : Refusal → Part) (part : Part) → ((e : Refusal) → WhereMade P (refuses e)) → (o ≡ None → WhereMade P part) → WhereMade P (or_else o refuses part)
  made_or None refuses part each fact = fact refl
  made_or (Some e) refuses part each fact = each e

  marks : (part : Part) (o : Option ℕ) → OfChange (P part) (marked_by o)
  marks part None = tt
  marks part (Some block) = tt

  declined : (h : Here) (p : Place) (from : NodeId) (stamp : Stamp) (e : Refusal) → WhereMade P (declines h p from stamp e)
  declined h p from stamp e = marks (declines h p from stamp e) (damaged_block e)

  edit_refused : (h : Here) (p : Place) (req : ReqId) (e : Refusal) → WhereMade P (refused_edit h p req e)
  edit_refused h p req e = marks (refused_edit h p req e) (damaged_block e)

  made_kept : (h : Here) (req : ReqId) (kept : Option KeptRefusal) (part : Part) → WhereMade P part → WhereMade P (unless_kept h req kept part)
  made_kept h req None part fact = fact
  made_kept h req (Some kept) part fact =
      made_either (nat_lt req.number kept.number) (refused_once h req refusals.Old) (cond (req.number == kept.number) (refused_once h req kept.refusal) part) (λ _. tt)
      (λ _. made_either (req.number == kept.number) (refused_once h req kept.refusal) part (λ _. tt) (λ _. fact))

  made_done : (h : Here) (p : Place) (req : ReqId) (last : Option Done) (part : Part) → WhereMade P part → WhereMade P (unless_done h p req last part)
  made_done h p req None part fact = fact
  made_done h p req (Some last) part fact =
      made_either (req.number == last.number) (repeated h p req last.outcome) (cond (nat_lt req.number last.number) (refused_once h req refusals.Old) part)
      (λ _. made_either (is_known_of_all req p.slot p.lease) (sending (done h req (Ok last.outcome) ∷ [])) (sending []) (λ _. tt) (λ _. tt))
      (λ _. made_either (nat_lt req.number last.number) (refused_once h req refusals.Old) part (λ _. tt) (λ _. fact))

-- ---- a forward

module _ (h : Here) (p : Place) (from : NodeId) (stamp : Stamp) (number : ℕ) (req : ReqId) (op : Op) (carried : Option (List ℕ)) where
  abbrev Taken : Part → Slot → Type 0
  Taken = IsTakenBy h p from stamp number req op carried

  taken_if : (live : Live) (bytes : List ℕ) (m : Result Slot Refusal) → p.slot.live ≡ Some live → number ≡ live.replica.held.count + 1 → bytes_of op carried h.pushed ≡ Some bytes → apply stamp number req (in_replica op) bytes p.slot ≡ m
      → WhereMade Taken (takes_if h p from stamp number op m)
  taken_if live bytes (Ok s) lives next there is = record { live = live; lives = lives; next = next; bytes = bytes; there = there; applied = is; sent = refl; lease = refl }
  taken_if live bytes (Err e) lives next there is = declined Taken h p from stamp e

  taken_with : (live : Live) (bytes : Option (List ℕ)) → p.slot.live ≡ Some live → number ≡ live.replica.held.count + 1 → bytes_of op carried h.pushed ≡ bytes → unless_there bytes ≡ None
      → WhereMade Taken (takes_if h p from stamp number op (apply stamp number req (in_replica op) (bytes_or_none bytes) p.slot))
  taken_with live None lives next there found = never refusals.NoData (Some refusals.NoData) refl found
  taken_with live (Some bytes) lives next there found = taken_if live bytes (apply stamp number req (in_replica op) bytes p.slot) lives next there refl

  taken_next : (live : Live) (bytes : Option (List ℕ)) → p.slot.live ≡ Some live → nat_le number live.replica.held.count ≡ false → bytes_of op carried h.pushed ≡ bytes → WhereMade Taken (takes_next h p from stamp number req op bytes live.replica.held.count)
  taken_next live bytes lives above there =
      let count : ℕ = live.replica.held.count in
      made_or Taken (unless_next count number bytes) (declines h p from stamp) (takes_if h p from stamp number op (apply stamp number req (in_replica op) (bytes_or_none bytes) p.slot)) (declined Taken h p from stamp)
      (λ none. taken_with live bytes lives
      (next_number number count above (not_met (nat_lt (count + 1) number) (refusals.Gap count) (head_none (when (nat_lt (count + 1) number) (refusals.Gap count)) (unless_there bytes ∷ []) none)))
      there (head_none (unless_there bytes) [] (tail_none (when (nat_lt (count + 1) number) (refusals.Gap count)) (unless_there bytes ∷ []) none)))

  taken_of : (live : Option Live) (bytes : Option (List ℕ)) → p.slot.live ≡ live → bytes_of op carried h.pushed ≡ bytes → WhereMade Taken (takes h p from stamp number req op bytes live)
  taken_of None bytes lives there = declined Taken h p from stamp refusals.NoReplica
  taken_of (Some live) bytes lives there =
      made_either Taken (nat_le number live.replica.held.count) (acknowledges h from stamp live.replica.held.count) (takes_next h p from stamp number req op bytes live.replica.held.count) (λ _. tt)
      (λ above. taken_next live bytes lives above there)

  pub forwards_edit : WhereMade Taken (forward h p from stamp number req op carried)
  forwards_edit =
      made_or Taken (first_of (unless_live p.slot.live ∷ unless_promised stamp p.slot ∷ [])) (declines h p from stamp) (takes h p from stamp number req op (bytes_of op carried h.pushed) p.slot.live) (declined Taken h p from stamp)
      (λ _. taken_of p.slot.live (bytes_of op carried h.pushed) refl refl)

-- ---- a client's edit

module _ (h : Here) (p : Place) (req : ReqId) (stamp : Stamp) (op : Op) where
  abbrev Numbered : Part → Slot → Type 0
  Numbered = IsNumberedBy h p req stamp op

  numbered_if : (live : Live) (l : PrimaryLease) (bytes : List ℕ) (m : Result Slot Refusal) → p.slot.live ≡ Some live → p.lease ≡ Some l → is_same stamp l.grant.stamp ≡ true → bytes_of op None h.pushed ≡ Some bytes →
      (let e : Open = numbered_edit h req op bytes live in apply l.grant.stamp (live.replica.held.count + 1) req (in_replica e.op) e.bytes p.slot ≡ m → WhereMade Numbered (numbers_if h p l live.replica.held.count e m))
  numbered_if live l bytes (Err e) lives held asked there is = edit_refused Numbered h p req e
  numbered_if live l bytes (Ok s) lives held asked there is =
      let e : Open = numbered_edit h req op bytes live in
      made_either Numbered (live.replica.held.count == last_count) (refused_edit h p req refusals.Exhausted) (numbers h s l (live.replica.held.count + 1) e) (λ _. edit_refused Numbered h p req refusals.Exhausted)
      (λ _. record { live = live; lives = lives; lease = l; held = held; asked = asked; bytes = bytes; there = there; applied = is; waits = refl; sent = refl })

  numbered_with : (live : Live) (l : PrimaryLease) (bytes : Option (List ℕ)) → p.slot.live ≡ Some live → p.lease ≡ Some l → is_same stamp l.grant.stamp ≡ true → bytes_of op None h.pushed ≡ bytes → unless_there bytes ≡ None
      → WhereMade Numbered (numbers_or_passes h p req op (bytes_or_none bytes) (Some live) (Some l))
  numbered_with live l None lives held asked there found = never refusals.NoData (Some refusals.NoData) refl found
  numbered_with live l (Some bytes) lives held asked there found =
      let e : Open = numbered_edit h req op bytes live in
      made_either Numbered (is_passed h.chunk (length live.replica.held.chunk.bytes) op) (sending (done h req (Ok Padded) ∷ [])) (numbers_as h p live l e) (λ _. tt)
      (λ _. numbered_if live l bytes (apply l.grant.stamp (live.replica.held.count + 1) req (in_replica e.op) e.bytes p.slot) lives held asked there refl)

  numbered_under : (live : Option Live) (lease : Option PrimaryLease) (bytes : Option (List ℕ)) → p.slot.live ≡ live → p.lease ≡ lease → bytes_of op None h.pushed ≡ bytes → unless_holding stamp p.slot lease ≡ None → unless_there bytes ≡ None
      → WhereMade Numbered (numbers_or_passes h p req op (bytes_or_none bytes) live lease)
  numbered_under None lease bytes lives held there holding found = edit_refused Numbered h p req refusals.NoReplica
  numbered_under (Some live) None bytes lives held there holding found = edit_refused Numbered h p req refusals.NotPrimary
  numbered_under (Some live) (Some l) bytes lives held there holding found =
      numbered_with live l bytes lives held (first_same (is_same stamp l.grant.stamp) (is_same l.grant.stamp p.slot.promise) (not_met _ (refusals.Stamp p.slot.promise) holding)) there found

  numbered_new : WhereMade Numbered (new_edit h p req stamp op)
  numbered_new =
      let bytes : Option (List ℕ) = bytes_of op None h.pushed in
      let lives : Option Refusal = unless_live p.slot.live in
      let holding : Option Refusal = unless_holding stamp p.slot p.lease in
      let over : Option Refusal = unless_over h.moment p.lease in
      let there : Option Refusal = unless_there bytes in
      let long : Option Refusal = when (is_too_long h.chunk op) refusals.TooLong in
      made_or Numbered (unless_numbered h p stamp op) (refused_edit h p req) (numbers_or_passes h p req op (bytes_or_none bytes) p.slot.live p.lease) (edit_refused Numbered h p req)
      (λ none.
      let behind = tail_none lives (holding ∷ over ∷ there ∷ long ∷ []) none in
      let later = tail_none over (there ∷ long ∷ []) (tail_none holding (over ∷ there ∷ long ∷ []) behind) in
      numbered_under p.slot.live p.lease bytes refl refl refl (head_none holding (over ∷ there ∷ long ∷ []) behind) (head_none there (long ∷ []) later))

  pub numbers_edit : WhereMade Numbered (edit h p req stamp op)
  numbers_edit =
      made_done Numbered h p req (done_in p.slot.live req.client.0) (unless_kept h req h.refused (new_edit h p req stamp op))
      (made_kept Numbered h req h.refused (new_edit h p req stamp op) numbered_new)
