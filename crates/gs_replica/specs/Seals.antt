-- Seals: a replica that can be taken back to where it was sealed, whatever edits came since.
use Rattle.std.specs.Prelude.{◌≡◌, ℕ, ◌/◌, ◌==◌, ◌&&◌, not, cond, Bool, true, false, List, [], ◌∷◌, length, replicate, Option, Some, None, Result, Ok, Err, refl}
use Rattle.std.specs.Coded.{Coded, code_by, coded×, coded_ℕ, coded_list, coded_bool, coded_option}
use Rattle.std.specs.FinMap as fin
use Rattle.std.specs.Ordering.{nat_cmp}
use Rattle.gs_base.specs.declared.numbers.Stamp.{Stamp}
use Rattle.gs_base.specs.declared.numbers.ReqId.{ReqId}
use Rattle.gs_base.specs.contracts.numbers.Stamp as stamps
use Rattle.gs_base.specs.declared.refusal.Refusal.{Refusal}
use Rattle.gs_base.specs.declared.refusal.Refusal.TheVariants as refusals
use Rattle.gs_block.specs.Stored.{Stored, count_of, first_damaged}
use Rattle.gs_block.specs.Edits.{unless_damaged}
use Rattle.gs_block.specs.Images.{touch, covers, damage_before, image_bytes}
use Rattle.gs_replica.specs.declared.op.Op.{Op}
use Rattle.gs_replica.specs.declared.op.Op.TheVariants.{Write, Append}
use Rattle.gs_replica.specs.declared.op.Done.{Done}
use Rattle.gs_replica.specs.contracts.op.Done as dones
use Rattle.gs_replica.specs.declared.live.ReplicaInverse.{ReplicaInverse}
use Rattle.gs_replica.specs.Held.{Held, coded_stored, coded_held}
use Rattle.gs_replica.specs.Edits as edits
use Rattle.gs_replica.specs.First.{First, keep_first, fits}
use Rattle.gs_replica.specs.Undo as undos

-- What undoing gives: the bytes with the sealed digests, the count and the requests as sealed; the promise when it was
-- sealed; of each sealed block, whether an edit has touched it since; and of each client that an edit has changed since, its
-- request as sealed.
pub record Sealed : Type 0 where
  pub undone : Stored
  pub count : ℕ
  pub done : fin.FinMap nat_cmp Done
  pub stamp : Stamp
  pub touched : List Bool
  pub first : First

-- what a contract sees of a replica
pub record State : Type 0 where
  pub held : Held
  pub sealed : Option Sealed

abbrev pub coded_sealed : Coded Sealed
coded_sealed =
    code_by (Stored × (ℕ × (fin.FinMap nat_cmp Done × (Stamp × (List Bool × First)))))
    (coded× coded_stored (coded× coded_ℕ (coded× (fin.code coded_ℕ dones.the_row.coded) (coded× stamps.the_row.coded (coded× (coded_list coded_bool) (fin.code coded_ℕ (coded_option dones.the_row.coded)))))))
    (λ t. (t.undone, (t.count, (t.done, (t.stamp, (t.touched, t.first)))))) (λ p. record { undone = p.0; count = p.1.0; done = p.1.1.0; stamp = p.1.1.1.0; touched = p.1.1.1.1.0; first = p.1.1.1.1.1 }) (λ _. refl)

abbrev pub coded_state : Coded State
coded_state = code_by (Held × Option Sealed) (coded× coded_held (coded_option coded_sealed)) (λ r. (r.held, r.sealed)) (λ p. record { held = p.0; sealed = p.1 }) (λ _. refl)

abbrev pub with_seal : Option Sealed → Result Held Refusal → Result State Refusal
with_seal sealed (Ok h) = Ok (record { held = h; sealed = sealed })
with_seal sealed (Err e) = Err e

abbrev pub on_seal : (Sealed → Sealed) → Option Sealed → Option Sealed
on_seal f None = None
on_seal f (Some t) = Some (f t)

-- undoing gives what stands, and no block is touched and no client changed yet
abbrev pub sealed_of : Held → Sealed
sealed_of h = record { undone = h.chunk; count = h.count; done = h.done; stamp = h.promise; touched = replicate (length h.chunk.digests) false; first = fin.empty }

abbrev pub seal : State → State
seal r = record { held = r.held; sealed = Some (sealed_of r.held) }

abbrev pub unseal : State → State
unseal r = record { held = r.held; sealed = None }

-- the bytes that first images hold, and those that were sealed
abbrev pub images_of : Option Sealed → ℕ
images_of None = 0
images_of (Some t) = image_bytes t.undone.block (length t.undone.bytes) 0 t.touched

abbrev pub sealed_length : Option Sealed → ℕ
sealed_length None = 0
sealed_length (Some t) = length t.undone.bytes

abbrev pub stamp_of : Option Sealed → Option Stamp
stamp_of None = None
stamp_of (Some t) = Some t.stamp

abbrev pub sealed_at : State → Option Stamp
sealed_at r = stamp_of r.sealed

-- an edit touches blocks, changes its client's request, and leaves what undoing gives
abbrev pub touch_seal : ReqId → Op → List ℕ → Held → Sealed → Sealed
touch_seal req op bytes h t = record {
  undone = t.undone;
  count = t.count;
  done = t.done;
  stamp = t.stamp;
  touched = touch (edits.start_of op h.chunk / h.chunk.block) (count_of h.chunk.block (edits.end_of op bytes h.chunk)) t.touched;
  first = keep_first req.client.0 (fin.get h.done req.client.0) t.first;
}

abbrev pub apply : Stamp → ℕ → ReqId → Op → List ℕ → State → Result State Refusal
apply stamp number req op bytes r = with_seal (on_seal (touch_seal req op bytes r.held) r.sealed) (edits.apply stamp number req op bytes r.held)

-- a sealed replica isn't undone at its sealed count, for a client whose request the inverse doesn't fit, in a block that isn't
-- touched, nor below the sealed length
abbrev pub can_undo : ReplicaInverse → Held → Option Sealed → Bool
can_undo i h None = true
can_undo i h (Some t) = not (h.count == t.count) && (fits (fin.get t.first i.client.0) i.before && covers (length t.undone.bytes) t.touched i.blocks h.chunk)

-- with other bytes, count and requests under the same seal
abbrev pub holding : Held → State → State
holding h r = record { held = h; sealed = r.sealed }

-- undoing one edit leaves what undoing all gives
abbrev pub undo : ReplicaInverse → State → Result State Refusal
undo i r = cond (can_undo i r.held r.sealed) (with_seal r.sealed (undos.undo i r.held)) (Err refusals.BadLine)

abbrev pub promise : Stamp → State → Result State Refusal
promise stamp r = with_seal r.sealed (edits.promise stamp r.held)

-- damage reaches what undoing gives where the block isn't touched
abbrev pub damage_seal : ℕ → Sealed → Sealed
damage_seal block t = record { undone = damage_before block t.touched t.undone; count = t.count; done = t.done; stamp = t.stamp; touched = t.touched; first = t.first }

abbrev pub damage : ℕ → State → Result State Refusal
damage block r = with_seal (on_seal (damage_seal block) r.sealed) (edits.damage block r.held)

-- the lowest block without its digest
abbrev pub lowest_damaged : Stored → Option ℕ
lowest_damaged s = first_damaged s.block s.bytes s.digests 0 (length s.digests)

-- What undoing gives stands again, under a promise. Damaged where a block of it hasn't its sealed digest, and BadLine where
-- the replica isn't sealed.
abbrev pub roll_back_to : Stamp → Option Sealed → Result State Refusal
roll_back_to promise None = Err refusals.BadLine
roll_back_to promise (Some t) = unless_damaged (lowest_damaged t.undone) (record { held = record { chunk = t.undone; count = t.count; done = t.done; promise = promise }; sealed = None })

abbrev pub roll_back : Stamp → State → Result State Refusal
roll_back promise r = roll_back_to promise r.sealed

-- a replica of 6 bytes in blocks of 4 after one edit, sealed
abbrev sealed_chunk : Stored
sealed_chunk = record { block = 4; chunk = 16; bytes = 97 ∷ 98 ∷ 99 ∷ 100 ∷ 101 ∷ 102 ∷ []; digests = [] ∷ [] ∷ [] }

abbrev sealed_held : Stamp → Held
sealed_held stamp = record { chunk = sealed_chunk; count = 1; done = fin.empty; promise = stamp }

nothing_is_touched : (stamp : Stamp) → (sealed_of (sealed_held stamp)).touched ≡ false ∷ false ∷ []
nothing_is_touched stamp = refl

-- five bytes at the start touch both blocks, and an append of ten the second
both_are_touched : (stamp : Stamp) (req : ReqId) → (touch_seal req (Write 0) (122 ∷ 122 ∷ 122 ∷ 122 ∷ 122 ∷ []) (sealed_held stamp) (sealed_of (sealed_held stamp))).touched ≡ true ∷ true ∷ []
unfolding touch count_of
both_are_touched stamp req = refl

the_second_is_touched : (stamp : Stamp) (req : ReqId) → (touch_seal req Append (replicate 10 122) (sealed_held stamp) (sealed_of (sealed_held stamp))).touched ≡ false ∷ true ∷ []
unfolding touch count_of
the_second_is_touched stamp req = refl

-- an edit leaves what undoing gives
undoing_gives_the_sealed_bytes : (stamp : Stamp) (req : ReqId) → (touch_seal req Append (replicate 10 122) (sealed_held stamp) (sealed_of (sealed_held stamp))).undone ≡ sealed_chunk
undoing_gives_the_sealed_bytes stamp req = refl

not_at_the_sealed_count : (stamp : Stamp) (i : ReplicaInverse) → can_undo i (sealed_held stamp) (Some (sealed_of (sealed_held stamp))) ≡ false
not_at_the_sealed_count stamp i = refl

an_unsealed_is_handed_back : (stamp : Stamp) → roll_back stamp (record { held = sealed_held stamp; sealed = None }) ≡ Err refusals.BadLine
an_unsealed_is_handed_back stamp = refl
