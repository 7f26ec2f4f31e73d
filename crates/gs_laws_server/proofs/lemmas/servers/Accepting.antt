-- What a message is that edits a replica.
use Rattle.std.proofs.Common.{◌≡◌, ◌<◌, ℕ, ◌+◌, false, cond, not, List, [], ◌∷◌, Option, Some, None, refl, ap, ◌∙◌, arith}
use Rattle.std.specs.Prelude.{Ok, ◌==◌, ◌||◌, nat_lt, nat_le}
use Rattle.std.proofs.lemmas.Bool.Decides.{nat_tests}
use Rattle.gs_base.specs.declared.numbers.Stamp.{Stamp}
use Rattle.gs_base.specs.declared.numbers.ReqId.{ReqId}
use Rattle.gs_base.specs.Stamps.{is_same}
use Rattle.gs_base.specs.declared.refusal.Refusal.{Refusal}
use Rattle.gs_base.specs.declared.refusal.Refusal.TheVariants as refusals
use Rattle.gs_replica.specs.declared.op.Done.{Done}
use Rattle.gs_replica.specs.declared.op.EditOutcome.TheVariants.{Padded}
use Rattle.gs_msg.specs.declared.op.Op.{Op}
use Rattle.gs_msg.specs.Ops.{in_replica}
use Rattle.gs_msg.specs.declared.node.NodeId.{NodeId}
use Rattle.gs_store.specs.Slots.{Live, Slot, first_of, when, unless_live, unless_promised}
use Rattle.gs_store.specs.Serving.{apply, done_in}
use Rattle.gs_server.specs.declared.turn.KeptRefusal.{KeptRefusal}
use Rattle.gs_server_lease.specs.declared.lease.Open.{Open}
use Rattle.gs_server_lease.specs.Leases.{PrimaryLease}
use Rattle.gs_server_lease.specs.Numbering.{is_too_long}
use Rattle.gs_server.specs.Places.{Place, Here, Part, SlotBecomes, or_else, sending}
use Rattle.gs_server.specs.Edits.{edit, new_edit, numbers_or_passes, numbers_as, numbers_if, numbers, forward, takes, takes_next, takes_if, unless_there, unless_holding, unless_over, unless_numbered, bytes_of, bytes_or_none, declines, acknowledges, refused_edit, refused_once, repeated, unless_kept, unless_done, done}
use Rattle.gs_laws_server.specs.servers.Editing.{MayBeTaken, MayBeNumbered, IsAboveDone, IsAboveKept, numbered_edit}

above_count : (number count : ℕ) → number ≡ count + 1 → nat_le number count ≡ false
above_count number count next = grind (arith, nat_tests)

not_past : (number count : ℕ) → number ≡ count + 1 → nat_lt (count + 1) number ≡ false
not_past number count next = grind (arith, nat_tests)

other_number : (a b : ℕ) → b < a → (a == b) ≡ false
other_number a b above = grind (arith, nat_tests)

not_below : (a b : ℕ) → b < a → nat_lt a b ≡ false
not_below a b above = grind (arith, nat_tests)

-- ---- a forward

module _ (h : Here) (p : Place) (from : NodeId) (stamp : Stamp) (number : ℕ) (req : ReqId) (op : Op) (carried : Option (List ℕ)) (live : Live) (bytes : List ℕ) (s : Slot) where
  takes_it : number ≡ live.replica.held.count + 1 → apply stamp number req (in_replica op) bytes p.slot ≡ Ok s → (takes h p from stamp number req op (Some bytes) (Some live)).slot ≡ SlotBecomes s
  takes_it next is =
      let count : ℕ = live.replica.held.count in
      ap (λ b. (cond b (acknowledges h from stamp count) (takes_next h p from stamp number req op (Some bytes) count)).slot) (above_count number count next)
      ∙ ap (λ b. (or_else (first_of (when b (refusals.Gap count) ∷ None ∷ [])) (declines h p from stamp) (takes_if h p from stamp number op (apply stamp number req (in_replica op) bytes p.slot))).slot) (not_past number count next)
      ∙ ap (λ m. (takes_if h p from stamp number op m).slot) is

  pub forward_taken : MayBeTaken h p stamp number op carried live bytes → apply stamp number req (in_replica op) bytes p.slot ≡ Ok s → (forward h p from stamp number req op carried).slot ≡ SlotBecomes s
  forward_taken may is =
      ap (λ o. (or_else (first_of (unless_live o ∷ unless_promised stamp p.slot ∷ [])) (declines h p from stamp) (takes h p from stamp number req op (bytes_of op carried h.pushed) o)).slot) may.lives
      ∙ ap (λ b. (or_else (first_of (None ∷ when (not b) (refusals.Stamp p.slot.promise) ∷ [])) (declines h p from stamp) (takes h p from stamp number req op (bytes_of op carried h.pushed) (Some live))).slot) may.promised
      ∙ ap (λ o. (takes h p from stamp number req op o (Some live)).slot) may.there
      ∙ takes_it may.next is

-- ---- a client's edit

module _ (h : Here) (p : Place) (req : ReqId) where
  past_kept : (kept : Option KeptRefusal) (part : Part) → IsAboveKept req kept → unless_kept h req kept part ≡ part
  past_kept None part above = refl
  past_kept (Some kept) part above =
      ap (λ b. cond b (refused_once h req refusals.Old) (cond (req.number == kept.number) (refused_once h req kept.refusal) part)) (not_below req.number kept.number above)
      ∙ ap (λ b. cond b (refused_once h req kept.refusal) part) (other_number req.number kept.number above)

  past_done : (last : Option Done) (part : Part) → IsAboveDone req last → unless_done h p req last part ≡ part
  past_done None part above = refl
  past_done (Some last) part above =
      ap (λ b. cond b (repeated h p req last.outcome) (cond (nat_lt req.number last.number) (refused_once h req refusals.Old) part)) (other_number req.number last.number above)
      ∙ ap (λ b. cond b (refused_once h req refusals.Old) part) (not_below req.number last.number above)

module _ (h : Here) (p : Place) (req : ReqId) (stamp : Stamp) (op : Op) (live : Live) (l : PrimaryLease) (bytes : List ℕ) (s : Slot) (may : MayBeNumbered h p req stamp op live l bytes) where
  abbrev long : Option Refusal
  long = when (is_too_long h.chunk op) refusals.TooLong

  -- no test is met
  none_met : unless_numbered h p stamp op ≡ None
  none_met =
      ap (λ o. first_of (unless_live o ∷ unless_holding stamp p.slot p.lease ∷ unless_over h.moment p.lease ∷ unless_there (bytes_of op None h.pushed) ∷ long ∷ [])) may.lives
      ∙ ap (λ o. first_of (unless_holding stamp p.slot o ∷ unless_over h.moment o ∷ unless_there (bytes_of op None h.pushed) ∷ long ∷ [])) may.held
      ∙ ap (λ b. first_of (when (not b || not (is_same l.grant.stamp p.slot.promise)) (refusals.Stamp p.slot.promise) ∷ unless_over h.moment (Some l) ∷ unless_there (bytes_of op None h.pushed) ∷ long ∷ [])) may.asked
      ∙ ap (λ b. first_of (when (not b) (refusals.Stamp p.slot.promise) ∷ unless_over h.moment (Some l) ∷ unless_there (bytes_of op None h.pushed) ∷ long ∷ [])) may.promised
      ∙ ap (λ b. first_of (when b refusals.LeaseOver ∷ unless_there (bytes_of op None h.pushed) ∷ long ∷ [])) may.in_time
      ∙ ap (λ o. first_of (unless_there o ∷ long ∷ [])) may.there
      ∙ ap (λ b. first_of (when b refusals.TooLong ∷ [])) may.short

  numbers_it : (let e : Open = numbered_edit h req op bytes live in apply l.grant.stamp (live.replica.held.count + 1) req (in_replica e.op) e.bytes p.slot ≡ Ok s) → (numbers_or_passes h p req op bytes (Some live) (Some l)).slot ≡ SlotBecomes s
  numbers_it is =
      let e : Open = numbered_edit h req op bytes live in
      let count : ℕ = live.replica.held.count in
      ap (λ b. (cond b (sending (done h req (Ok Padded) ∷ [])) (numbers_as h p live l e)).slot) may.room ∙ ap (λ m. (numbers_if h p l count e m).slot) is
      ∙ ap (λ b. (cond b (refused_edit h p req refusals.Exhausted) (numbers h s l (count + 1) e)).slot) may.left

  pub edit_numbered : (let e : Open = numbered_edit h req op bytes live in apply l.grant.stamp (live.replica.held.count + 1) req (in_replica e.op) e.bytes p.slot ≡ Ok s) → (edit h p req stamp op).slot ≡ SlotBecomes s
  edit_numbered is =
      ap (λ (part : Part). part.slot) (past_done h p req (done_in p.slot.live req.client.0) (unless_kept h req h.refused (new_edit h p req stamp op)) may.fresh ∙ past_kept h p req h.refused (new_edit h p req stamp op) may.unrefused)
      ∙ ap (λ o. (or_else o (refused_edit h p req) (numbers_or_passes h p req op (bytes_or_none (bytes_of op None h.pushed)) p.slot.live p.lease)).slot) none_met
      ∙ ap (λ o. (numbers_or_passes h p req op (bytes_or_none o) p.slot.live p.lease).slot) may.there
      ∙ ap (λ o. (numbers_or_passes h p req op bytes o p.lease).slot) may.lives
      ∙ ap (λ o. (numbers_or_passes h p req op bytes (Some live) o).slot) may.held
      ∙ numbers_it is
