-- What a live replica is edited by, and what it gives.
use Rattle.std.specs.Prelude.{◌≡◌, ℕ, ◌+◌, nat_lt, List, [], ◌∷◌, length, Option, Some, None, Result, Ok, Err, refl}
use Rattle.std.specs.FinMap as fin
use Rattle.gs_base.specs.declared.numbers.Stamp.{Stamp}
use Rattle.gs_base.specs.declared.numbers.ReqId.{ReqId}
use Rattle.gs_base.specs.Stamps.{is_before}
use Rattle.gs_base.specs.declared.refusal.Refusal.{Refusal}
use Rattle.gs_base.specs.declared.refusal.Refusal.TheVariants as refusals
use Rattle.gs_block.specs.Stored.{Stored}
use Rattle.gs_block.specs.Edits as blocks
use Rattle.gs_replica.specs.declared.op.Op.{Op}
use Rattle.gs_replica.specs.declared.op.Op.TheVariants.{Append}
use Rattle.gs_replica.specs.declared.op.Done.{Done}
use Rattle.gs_replica.specs.Edits as edits
use Rattle.gs_replica.specs.Seals as replicas
use Rattle.gs_store.specs.Slots.{Live, Slot, first_of, when, unless, unless_live, bad_block, with_live, mark_bad, sound, nothing, standing, empty_replica, stamp_of}

-- an edit of the live replica, refused as the replica refuses it
abbrev pub apply_to : Stamp → ℕ → ReqId → Op → List ℕ → Slot → Option Live → Result Slot Refusal
apply_to stamp number req op bytes s None = Err refusals.NoReplica
apply_to stamp number req op bytes s (Some l) = with_live s l.bad (replicas.apply stamp number req op bytes l.replica)

abbrev pub apply : Stamp → ℕ → ReqId → Op → List ℕ → Slot → Result Slot Refusal
apply stamp number req op bytes s = apply_to stamp number req op bytes s s.live

-- what is refused before any block is verified
abbrev pub foreseen : Stamp → ℕ → ReqId → Op → List ℕ → Option Live → Option Refusal
foreseen stamp number req op bytes None = Some refusals.NoReplica
foreseen stamp number req op bytes (Some l) = edits.foreseen stamp number req op bytes l.replica.held

-- how the chunk decides of an edit, whatever its stamp, number and request
abbrev pub edited_in : Op → List ℕ → Option Live → Result Stored Refusal
edited_in op bytes None = Err refusals.NoReplica
edited_in op bytes (Some l) = edits.edited op bytes l.replica.held.chunk

-- a replica serves those who were told of no greater stamp than its promise
abbrev pub unless_reached : Stamp → Slot → Option Refusal
unless_reached stamp s = when (is_before s.promise stamp) refusals.Old

-- a bad replica gives no bytes, whatever block they are of
abbrev pub read_of : Stamp → ℕ → ℕ → Slot → Option Live → Result (List ℕ) Refusal
read_of stamp offset many s None = Err refusals.NoReplica
read_of stamp offset many s (Some l) =
    unless (first_of (unless_reached stamp s ∷ when (nat_lt l.replica.held.chunk.chunk (offset + many)) refusals.Range ∷ bad_block l.bad ∷ []))
    (blocks.read l.replica.held.chunk offset many)

abbrev pub read : Stamp → ℕ → ℕ → Slot → Result (List ℕ) Refusal
read stamp offset many s = read_of stamp offset many s s.live

-- how many bytes are stored, also in a bad replica
abbrev pub length_in : Option Live → ℕ
length_in None = 0
length_in (Some l) = length l.replica.held.chunk.bytes

abbrev pub text_length : Stamp → Slot → Result ℕ Refusal
text_length stamp s = unless (first_of (unless_live s.live ∷ unless_reached stamp s ∷ [])) (Ok (length_in s.live))

-- the digest of a block that has it, also in a replica that another block marks as bad
abbrev pub digest_in : ℕ → Option Live → Result (List ℕ) Refusal
digest_in block None = Err refusals.NoReplica
digest_in block (Some l) = blocks.digest l.replica.held.chunk block

abbrev pub digest : Stamp → ℕ → Slot → Result (List ℕ) Refusal
digest stamp block s = unless (first_of (unless_live s.live ∷ unless_reached stamp s ∷ [])) (digest_in block s.live)

-- a client's last request that the live replica has applied
abbrev pub done_in : Option Live → ℕ → Option Done
done_in None client = None
done_in (Some l) client = fin.get l.replica.held.done client

nothing_is_edited : (req : ReqId) → apply (stamp_of 2 1) 1 req Append (97 ∷ []) nothing ≡ Err refusals.NoReplica
nothing_is_edited req = refl

edited_under_another_stamp : (req : ReqId) → apply (stamp_of 2 2) 1 req Append (97 ∷ []) (standing (empty_replica (stamp_of 2 1))) ≡ Err (refusals.Stamp (stamp_of 2 1))
edited_under_another_stamp req = refl

a_number_is_left_out : (req : ReqId) → apply (stamp_of 2 1) 2 req Append (97 ∷ []) (standing (empty_replica (stamp_of 2 1))) ≡ Err (refusals.Gap 0)
a_number_is_left_out req = refl

nothing_is_stored : read (stamp_of 2 1) 0 16 (standing (empty_replica (stamp_of 2 1))) ≡ Ok []
nothing_is_stored = refl

a_promise_that_is_not_reached : read (stamp_of 2 2) 0 16 (standing (empty_replica (stamp_of 2 1))) ≡ Err refusals.Old
a_promise_that_is_not_reached = refl

past_the_size : read (stamp_of 2 1) 0 17 (mark_bad 3 (standing (empty_replica (stamp_of 2 1)))) ≡ Err refusals.Range
past_the_size = refl

no_bytes_of_a_bad_replica : read (stamp_of 2 1) 0 16 (mark_bad 3 (standing (empty_replica (stamp_of 2 1)))) ≡ Err (refusals.Damaged 3)
no_bytes_of_a_bad_replica = refl

the_length_of_a_bad_replica : text_length (stamp_of 2 1) (mark_bad 3 (standing (empty_replica (stamp_of 2 1)))) ≡ Ok 0
the_length_of_a_bad_replica = refl

no_digest_of_a_block_that_is_not_there : digest (stamp_of 2 1) 0 (standing (empty_replica (stamp_of 2 1))) ≡ Err refusals.Range
no_digest_of_a_block_that_is_not_there = refl

no_digest_above_the_promise : digest (stamp_of 2 2) 0 (standing (empty_replica (stamp_of 2 1))) ≡ Err refusals.Old
no_digest_above_the_promise = refl

judged_without_a_number : edited_in Append [] (Some (sound (empty_replica (stamp_of 2 1)))) ≡ Err refusals.Range
judged_without_a_number = refl
