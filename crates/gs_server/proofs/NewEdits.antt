-- A new edit at a primary, by its cases.
use Rattle.std.proofs.Common.{◌≡◌, ℕ, Bool, true, false, cond, List, [], ◌∷◌, length, Option, Some, None, refl, sym, ap, subst, ◌∙◌}
use Rattle.std.specs.Prelude.{Result, Ok, ◌+◌, nat_lt, ◌||◌, not}
use Rattle.gs_base.specs.declared.numbers.Moment.{Moment}
use Rattle.gs_base.specs.declared.numbers.Stamp.{Stamp}
use Rattle.gs_base.specs.declared.numbers.ReqId.{ReqId}
use Rattle.gs_base.specs.Stamps.{is_same}
use Rattle.gs_base.specs.declared.refusal.Refusal.{Refusal}
use Rattle.gs_base.specs.declared.refusal.Refusal.TheVariants as refusals
use Rattle.gs_replica.specs.declared.op.EditOutcome.TheVariants.{Padded}
use Rattle.gs_replica.specs.Edits.{is_old}
use Rattle.gs_msg.specs.declared.op.Op.{Op}
use Rattle.gs_msg.specs.declared.op.Op.TheVariants.{Write, Append, Pad}
use Rattle.gs_msg.specs.Ops.{in_replica}
use Rattle.gs_replica.specs.Edits.{outcome_of}
use Rattle.gs_store.specs.Slots.{Live, first_of, when, unless_live}
use Rattle.gs_store.specs.Serving.{length_in, done_in}
use Rattle.gs_server_lease.specs.Numbering.{is_too_long, numbered_op, is_passed}
use Rattle.gs_server.specs.declared.numbering.NewEdit.{NewEdit}
use Rattle.gs_server.specs.declared.turn.Turn.{Turn}
use Rattle.gs_server_lease.specs.Leases.{PrimaryLease}
use Rattle.gs_server.specs.Places.{Part, Place, Here, or_else, sending}
use Rattle.gs_server.specs.Edits.{bytes_of, bytes_or_none, applied_bytes, has_bytes, opened, done, refused_edit, numbers_as, numbers_or_passes, new_edit, unless_numbered, unless_holding, unless_over, unless_there}
use Rattle.gs_server.specs.Servers.{Server, ServerSteps, step_of, here_of, place_of}
use Rattle.gs_server.specs.inner.Answering.{kept_by, repeated_by}
use Rattle.gs_server.specs.inner.Numbering.{IsReady}
use Rattle.gs_server.proofs.Keeping.{head_none, tail_none, not_met, first_same, second_same, never}

-- the edit that is numbered has the bytes that are found for it
pad_or_bytes : (test : Bool) (many : ℕ) (there : Option (List ℕ)) (bytes : List ℕ) → bytes_of (Append many) None there ≡ Some bytes →
    bytes_of (cond test Pad (Append many)) None there ≡ Some (applied_bytes (cond test Pad (Append many)) bytes)
pad_or_bytes true many there bytes found = refl
pad_or_bytes false many there bytes found = found

pub numbered_bytes : (chunk stored : ℕ) (op : Op) (there : Option (List ℕ)) (bytes : List ℕ) → bytes_of op None there ≡ Some bytes →
    bytes_of (numbered_op chunk stored op) None there ≡ Some (applied_bytes (numbered_op chunk stored op) bytes)
numbered_bytes chunk stored (Write offset many) there bytes found = found
numbered_bytes chunk stored (Append many) there bytes found = pad_or_bytes (nat_lt chunk (stored + many)) many there bytes found
numbered_bytes chunk stored Pad there bytes found = refl

applied_twice : (test : Bool) (bytes : List ℕ) → cond test (cond test bytes []) [] ≡ cond test bytes []
applied_twice true bytes = refl
applied_twice false bytes = refl

opened_once : (req : ReqId) (op : Op) (bytes : List ℕ) (live : Live) → opened req op (applied_bytes op bytes) live ≡ opened req op bytes live
opened_once req op bytes live = λ i. record { req = req; op = op; bytes = applied_twice (has_bytes op) bytes i; outcome = outcome_of (in_replica op) live.replica.held.chunk }

module _ (handle : ℕ) (req : ReqId) (stamp : Stamp) (op : Op) (moment : Moment) (old after : Server) (result : Result Turn Refusal) where
  abbrev h : Here
  h = here_of old moment handle (Some req)

  abbrev p : Place
  p = place_of handle old

  abbrev Does : Part → Type 0
  Does part = ServerSteps (step_of handle (Some req) part old) result old after

  refused_does : (o : Option Refusal) (e : Refusal) (part : Part) → o ≡ Some e → ServerSteps (kept_by handle req e old) result old after → Does (or_else o (refused_edit h p req) part)
  refused_does o e part is steps = subst (λ x. Does (or_else x (refused_edit h p req) part)) (sym is) steps

  passed_does : (part : Part) (test : Bool) → test ≡ true → ServerSteps (repeated_by req Padded true old) result old after → Does (cond test (sending (done h req (Ok Padded) ∷ [])) part)
  passed_does part test is steps = subst (λ x. Does (cond x (sending (done h req (Ok Padded) ∷ [])) part)) (sym is) steps

  -- what is there where nothing refuses it
  abbrev tests : Option (List ℕ) → Option Live → Option PrimaryLease → List (Option Refusal)
  tests bytes live lease = unless_live live ∷ unless_holding stamp p.slot lease ∷ unless_over moment lease ∷ unless_there bytes ∷ when (is_too_long h.chunk op) refusals.TooLong ∷ []

  abbrev AllThere : Option (List ℕ) → Option Live → Option PrimaryLease → Type 0
  AllThere bytes live lease =
      (b : List ℕ) (v : Live) (l : PrimaryLease) → bytes ≡ Some b → live ≡ Some v → lease ≡ Some l → is_same stamp l.grant.stamp ≡ true → is_same l.grant.stamp p.slot.promise ≡ true →
      Does (cond (is_passed h.chunk (length v.replica.held.chunk.bytes) op) (sending (done h req (Ok Padded) ∷ [])) (numbers_as h p v l (opened req (numbered_op h.chunk (length v.replica.held.chunk.bytes) op) b v)))

  no_live : (bytes : Option (List ℕ)) (lease : Option PrimaryLease) → first_of (tests bytes None lease) ≡ None → ⊥
  no_live bytes lease none = never refusals.NoReplica (Some refusals.NoReplica) refl none

  no_lease : (bytes : Option (List ℕ)) (v : Live) → first_of (tests bytes (Some v) None) ≡ None → ⊥
  no_lease bytes v none = never refusals.NotPrimary (Some refusals.NotPrimary) refl none

  no_bytes : (v : Live) (l : PrimaryLease) → first_of (tests None (Some v) (Some l)) ≡ None → ⊥
  no_bytes v l none =
      let behind_lease = tail_none (unless_holding stamp p.slot (Some l)) (unless_over moment (Some l) ∷ unless_there None ∷ when (is_too_long h.chunk op) refusals.TooLong ∷ []) none in
      never refusals.NoData (Some refusals.NoData) refl (tail_none (unless_over moment (Some l)) (unless_there None ∷ when (is_too_long h.chunk op) refusals.TooLong ∷ []) behind_lease)

  all_there : (bytes : Option (List ℕ)) (live : Option Live) (lease : Option PrimaryLease) → first_of (tests bytes live lease) ≡ None → AllThere bytes live lease → Does (numbers_or_passes h p req op (bytes_or_none bytes) live lease)
  all_there bytes None lease none there = elim (no_live bytes lease none) [ ]
  all_there bytes (Some v) None none there = elim (no_lease bytes v none) [ ]
  all_there None (Some v) (Some l) none there = elim (no_bytes v l none) [ ]
  all_there (Some b) (Some v) (Some l) none there =
      let held : unless_holding stamp p.slot (Some l) ≡ None = head_none (unless_holding stamp p.slot (Some l)) (unless_over moment (Some l) ∷ unless_there (Some b) ∷ when (is_too_long h.chunk op) refusals.TooLong ∷ []) none in
      let alike : (not (is_same stamp l.grant.stamp) || not (is_same l.grant.stamp p.slot.promise)) ≡ false = not_met _ (refusals.Stamp p.slot.promise) held in
      there b v l refl refl refl (first_same (is_same stamp l.grant.stamp) (is_same l.grant.stamp p.slot.promise) alike) (second_same (is_same stamp l.grant.stamp) (is_same l.grant.stamp p.slot.promise) alike)

  new_does : unless_numbered h p stamp op ≡ None → AllThere (bytes_of op None h.pushed) p.slot.live p.lease → Does (new_edit h p req stamp op)
  new_does none there =
      subst (λ x. Does (or_else x (refused_edit h p req) (numbers_or_passes h p req op (bytes_or_none (bytes_of op None h.pushed)) p.slot.live p.lease))) (sym none)
      (all_there (bytes_of op None h.pushed) p.slot.live p.lease none there)

  -- it is passed, or it is numbered
  passed_there : (stored : ℕ) → stored ≡ length_in p.slot.live → is_passed h.chunk stored op ≡ true → ServerSteps (repeated_by req Padded true old) result old after → AllThere (bytes_of op None h.pushed) p.slot.live p.lease
  passed_there stored same full steps = λ b v l found lives leased asked promised.
      passed_does (numbers_as h p v l (opened req (numbered_op h.chunk (length v.replica.held.chunk.bytes) op) b v)) (is_passed h.chunk (length v.replica.held.chunk.bytes) op)
      (ap (λ n. is_passed h.chunk n op) (sym (same ∙ ap length_in lives)) ∙ full) steps

  abbrev edit_of : ℕ → NewEdit
  edit_of stored = record { req = req; stamp = stamp; op = numbered_op h.chunk stored op }

  numbered_there : (stored : ℕ) → stored ≡ length_in p.slot.live → is_passed h.chunk stored op ≡ false → is_old req.number (done_in p.slot.live req.client.0) ≡ false →
      ((bytes : List ℕ) (v : Live) (l : PrimaryLease) → IsReady handle (edit_of stored) bytes v l old → Does (numbers_as h p v l (opened req (numbered_op h.chunk stored op) bytes v))) → AllThere (bytes_of op None h.pushed) p.slot.live p.lease
  numbered_there stored same room above does = λ b v l found lives leased asked promised.
      let long : stored ≡ length v.replica.held.chunk.bytes = same ∙ ap length_in lives in
      let new : Op = numbered_op h.chunk stored op in
      let ready : IsReady handle (edit_of stored) (applied_bytes new b) v l old = record { leased = leased; lives = lives; there = numbered_bytes h.chunk stored op h.pushed b found; asked = asked; promised = promised; above = above } in
      let numbered : Does (numbers_as h p v l (opened req new b v)) = subst (λ e. Does (numbers_as h p v l e)) (opened_once req new b v) (does (applied_bytes new b) v l ready) in
      subst (λ n. Does (cond (is_passed h.chunk n op) (sending (done h req (Ok Padded) ∷ [])) (numbers_as h p v l (opened req (numbered_op h.chunk n op) b v)))) long
      (subst (λ x. Does (cond x (sending (done h req (Ok Padded) ∷ [])) (numbers_as h p v l (opened req new b v)))) (sym room) numbered)

pub new_refused : (handle : ℕ) (req : ReqId) (stamp : Stamp) (op : Op) (moment : Moment) (old after : Server) (result : Result Turn Refusal) (e : Refusal) →
    unless_numbered (here_of old moment handle (Some req)) (place_of handle old) stamp op ≡ Some e → ServerSteps (kept_by handle req e old) result old after →
    ServerSteps (step_of handle (Some req) (new_edit (here_of old moment handle (Some req)) (place_of handle old) req stamp op) old) result old after
new_refused handle req stamp op moment old after result e is steps = refused_does handle req stamp op moment old after result (unless_numbered (here_of old moment handle (Some req)) (place_of handle old) stamp op) e _ is steps

pub new_passed : (handle : ℕ) (req : ReqId) (stamp : Stamp) (op : Op) (moment : Moment) (old after : Server) (result : Result Turn Refusal) (stored : ℕ) →
    unless_numbered (here_of old moment handle (Some req)) (place_of handle old) stamp op ≡ None → stored ≡ length_in (place_of handle old).slot.live → is_passed old.chunk stored op ≡ true → ServerSteps (repeated_by req Padded true old) result old after →
    ServerSteps (step_of handle (Some req) (new_edit (here_of old moment handle (Some req)) (place_of handle old) req stamp op) old) result old after
new_passed handle req stamp op moment old after result stored none same full steps =
    new_does handle req stamp op moment old after result none (passed_there handle req stamp op moment old after result stored same full steps)

pub new_numbered : (handle : ℕ) (req : ReqId) (stamp : Stamp) (op : Op) (moment : Moment) (old after : Server) (result : Result Turn Refusal) (stored : ℕ) →
    unless_numbered (here_of old moment handle (Some req)) (place_of handle old) stamp op ≡ None → stored ≡ length_in (place_of handle old).slot.live → is_passed old.chunk stored op ≡ false →
    is_old req.number (done_in (place_of handle old).slot.live req.client.0) ≡ false →
    ((bytes : List ℕ) (v : Live) (l : PrimaryLease) → IsReady handle (record { req = req; stamp = stamp; op = numbered_op old.chunk stored op }) bytes v l old →
    ServerSteps (step_of handle (Some req) (numbers_as (here_of old moment handle (Some req)) (place_of handle old) v l (opened req (numbered_op old.chunk stored op) bytes v)) old) result old after) →
    ServerSteps (step_of handle (Some req) (new_edit (here_of old moment handle (Some req)) (place_of handle old) req stamp op) old) result old after
new_numbered handle req stamp op moment old after result stored none same room above does =
    new_does handle req stamp op moment old after result none (numbered_there handle req stamp op moment old after result stored same room above does)
