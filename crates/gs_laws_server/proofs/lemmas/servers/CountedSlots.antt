-- Each call of a slot leaves counts that 64 bits hold.
use Rattle.std.proofs.Common.{◌≡◌, ◌<◌, ◌^◌, ℕ, ◌+◌, Bool, true, false, cond, List, [], ◌∷◌, Option, Some, None, sym, subst, arith}
use Rattle.std.specs.Prelude.{Result, Ok, Err, IfOk, is_some, ◌&&◌}
use Rattle.std.specs.FinMap as fin
use Rattle.std.specs.Ordering.{nat_cmp}
use Rattle.gs_base.specs.Told.{IsNumber}
use Rattle.gs_base.specs.Stamps.{is_before, is_same}
use Rattle.gs_base.specs.declared.epoch.EpochEnd.{EpochEnd}
use Rattle.gs_base.specs.declared.epoch.EpochEnd.TheVariants.{Prepare, Finalize, Rollback}
use Rattle.gs_base.specs.declared.numbers.ReqId.{ReqId}
use Rattle.gs_base.specs.declared.numbers.Stamp.{Stamp}
use Rattle.gs_base.specs.declared.refusal.Refusal.{Refusal}
use Rattle.gs_base.specs.declared.refusal.Refusal.TheVariants as refusals
use Rattle.gs_block.specs.Edits as blocks
use Rattle.gs_block.specs.Stored.{Stored}
use Rattle.gs_replica.specs.Copies.{Image, SealedImage, and_then, as_sealed, image, image_of, of_image, of_sealed, sealed_there}
use Rattle.gs_replica.specs.Edits.{copied, fresh, held_of}
use Rattle.gs_replica.specs.Edits as edits
use Rattle.gs_replica.specs.Held.{Held}
use Rattle.gs_replica.specs.Seals.{Sealed, State, damage_seal, lowest_damaged, on_seal, roll_back_to, touch_seal, with_seal}
use Rattle.gs_replica.specs.Seals as replicas
use Rattle.gs_replica.specs.declared.op.Done.{Done}
use Rattle.gs_replica.specs.declared.op.Op.{Op}
use Rattle.gs_store_seal.specs.Rollback.{later}
use Rattle.gs_store.specs.Learning.{rolled_to, sealed_live, start_of, unsealed_live}
use Rattle.gs_store.specs.Moves.{carried_in, copied_from, copied_in, copy_in, copy_out, in_trash, live_in, make_copy, replicas_of, sound_image, source, take_copy, unless_lost}
use Rattle.gs_store.specs.Serving.{apply, apply_to}
use Rattle.gs_store_seal.specs.Trash.{trash_of}
use Rattle.gs_store.specs.Slots.{Live, Slot, again, advance, check_grant, create, damage, damage_of, drop_replica, first_of, if_bad, is_taken, live_under, lose, lost, mark_bad, marked_live, removed, replaced, risen, seal_in, seal_of, sealed_of, take_lease, taking, trash_behind, trashed_seal, unless, unless_live, unless_promised, when, with_live, with_trash}
use Rattle.gs_store.specs.Stores.{gone_on}
use Rattle.gs_laws_server.specs.servers.Counted.{IsCountedSeal, IsCountedReplica, IsCountedLive, IsCountedTrash, IsCountedSlot, IsCountedImage}

pub no_edits : IsNumber 0
no_edits = let h : 0 < 2 ^ 64 = omega arith in h

-- ---- what a call gives, if it gives anything

gives_if : {A : Type 0} (P : A → Type 0) (test : Bool) (m n : Result A Refusal) → IfOk m P → IfOk n P → IfOk (cond test m n) P
gives_if P true m n first second = first
gives_if P false m n first second = second

gives_unless : {A : Type 0} (P : A → Type 0) (o : Option Refusal) (m : Result A Refusal) → IfOk m P → IfOk (unless o m) P
gives_unless P None m gives = gives
gives_unless P (Some e) m gives = tt

gives_then : {A B : Type 0} (P : A → Type 0) (Q : B → Type 0) (m : Result A Refusal) (f : A → Result B Refusal) → IfOk m P → ((a : A) → P a → IfOk (f a) Q) → IfOk (and_then m f) Q
gives_then P Q (Ok a) f first next = next a first
gives_then P Q (Err e) f first next = tt

gives_sound : {A : Type 0} (P : A → Type 0) (o : Option ℕ) (a : A) → P a → IfOk (blocks.unless_damaged o a) P
gives_sound P None a fine = fine
gives_sound P (Some block) a fine = tt

gives_again : (stamp : Stamp) (s : Slot) → IsCountedSlot s → IfOk (again stamp s) IsCountedSlot
gives_again stamp s counted = gives_if IsCountedSlot (is_same stamp s.promise && is_some s.live) (Ok s) (Err refusals.Old) counted tt

-- ---- replicas

abbrev IsCountedHeld : Held → Type 0
IsCountedHeld h = IsNumber h.count

with_seal_counts : (o : Option Sealed) (m : Result Held Refusal) → IfOk m IsCountedHeld → IsCountedSeal o → IfOk (with_seal o m) IsCountedReplica
with_seal_counts o (Ok h) held seal = (held, seal)
with_seal_counts o (Err e) held seal = tt

held_counts : (stamp : Stamp) (count : ℕ) (done : fin.FinMap nat_cmp Done) (m : Result Stored Refusal) → IsNumber count → IfOk (held_of stamp count done m) IsCountedHeld
held_counts stamp count done (Ok s) number = number
held_counts stamp count done (Err e) number = tt

chunk_counts : (h : Held) (m : Result Stored Refusal) → IsCountedHeld h → IfOk (edits.on_chunk h m) IsCountedHeld
chunk_counts h (Ok s) counted = counted
chunk_counts h (Err e) counted = tt

edit_counts : (h : Held) (req : ReqId) (op : Op) (o : Option Refusal) (m : Result Stored Refusal) → IsNumber (h.count + 1) → IfOk (edits.unless_refused o (edits.with_edit h req op m)) IsCountedHeld
edit_counts h req op (Some e) m next = tt
edit_counts h req op None (Ok s) next = next
edit_counts h req op None (Err e) next = tt

damaged_seal : (block : ℕ) (o : Option Sealed) → IsCountedSeal o → IsCountedSeal (on_seal (damage_seal block) o)
damaged_seal block None counted = tt
damaged_seal block (Some t) counted = counted

touched_seal : (req : ReqId) (op : Op) (bytes : List ℕ) (h : Held) (o : Option Sealed) → IsCountedSeal o → IsCountedSeal (on_seal (touch_seal req op bytes h) o)
touched_seal req op bytes h None counted = tt
touched_seal req op bytes h (Some t) counted = counted

damage_counts : (block : ℕ) (r : State) → IsCountedReplica r → IfOk (replicas.damage block r) IsCountedReplica
damage_counts block r counted =
    with_seal_counts (on_seal (damage_seal block) r.sealed) (edits.damage block r.held) (chunk_counts r.held (blocks.damage r.held.chunk block) counted.0) (damaged_seal block r.sealed counted.1)

-- an edit is applied where the next count is a number
replica_applies : (stamp : Stamp) (number : ℕ) (req : ReqId) (op : Op) (bytes : List ℕ) (r : State) → IsNumber (r.held.count + 1) → IsCountedReplica r → IfOk (replicas.apply stamp number req op bytes r) IsCountedReplica
replica_applies stamp number req op bytes r next counted =
    with_seal_counts (on_seal (touch_seal req op bytes r.held) r.sealed) (edits.apply stamp number req op bytes r.held)
    (edit_counts r.held req op (edits.judged stamp number req r.held) (edits.edited op bytes r.held.chunk) next) (touched_seal req op bytes r.held r.sealed counted.1)

-- ---- the calls of a slot

left_behind : (o : Option Sealed) (r : State) (trash : Option State) → IsCountedReplica r → IsCountedTrash trash → IsCountedTrash (trash_of o r trash)
left_behind None r trash counted before = before
left_behind (Some t) r trash counted before = counted

trash_counts : (live : Option Live) (trash : Option State) → IsCountedLive live → IsCountedTrash trash → IsCountedTrash (trash_behind live trash)
trash_counts None trash counted before = before
trash_counts (Some l) trash counted before = left_behind l.replica.sealed l.replica trash counted before

replaced_counts : (stamp : Stamp) (carried : Bool) (r : State) (s : Slot) → IsCountedReplica r → IsCountedSlot s → IsCountedSlot (replaced stamp carried r s)
replaced_counts stamp carried r s made counted = (made, trash_counts s.live s.trash counted.0 counted.1)

raised_counts : (stamp : Stamp) (r : State) (s : Slot) → IsCountedReplica r → IsCountedSlot s → IfOk (cond (is_before s.promise stamp) (Ok (replaced stamp false r s)) (again stamp s)) IsCountedSlot
raised_counts stamp r s made counted =
    gives_if IsCountedSlot (is_before s.promise stamp) (Ok (replaced stamp false r s)) (again stamp s) (replaced_counts stamp false r s made counted) (gives_again stamp s counted)

pub create_counts : (block chunk : ℕ) (stamp : Stamp) (s : Slot) → IsCountedSlot s → IfOk (create block chunk stamp s) IsCountedSlot
create_counts block chunk stamp s counted = raised_counts stamp (record { held = fresh block chunk stamp; sealed = None }) s (no_edits, tt) counted

under_counts : (stamp : Stamp) (live : Option Live) → IsCountedLive live → IsCountedLive (live_under stamp live)
under_counts stamp None counted = tt
under_counts stamp (Some l) counted = counted

pub advance_counts : (stamp : Stamp) (s : Slot) → IsCountedSlot s → IfOk (advance stamp s) IsCountedSlot
advance_counts stamp s counted =
    gives_unless IsCountedSlot (first_of (unless_live s.live ∷ if_bad s.live ∷ when (is_before stamp s.promise) refusals.Old ∷ [])) (Ok (risen stamp s)) (under_counts stamp s.live counted.0, counted.1)

pub drop_counts : (promise : Stamp) (s : Slot) → IsCountedSlot s → IfOk (drop_replica promise s) IsCountedSlot
drop_counts promise s counted = gives_unless IsCountedSlot (first_of (unless_promised promise s ∷ unless_live s.live ∷ [])) (Ok (removed s)) (tt, trash_counts s.live s.trash counted.0 counted.1)

pub lease_counts : (stamp : Stamp) (s : Slot) → IsCountedSlot s → IfOk (take_lease stamp s) IsCountedSlot
lease_counts stamp s counted = gives_unless IsCountedSlot (first_of (check_grant stamp s ∷ when (is_taken stamp s.taken) refusals.Old ∷ [])) (Ok (taking stamp s)) counted

pub lose_counts : (s : Slot) → IfOk (lose s) IsCountedSlot
lose_counts s =
    gives_if IsCountedSlot (is_some s.live) (Ok (lost s)) (cond (is_some s.trash) (Ok (lost s)) (Err refusals.NoReplica)) (tt, tt) (gives_if IsCountedSlot (is_some s.trash) (Ok (lost s)) (Err refusals.NoReplica) (tt, tt) tt)

live_counts : (s : Slot) (bad : Option ℕ) (m : Result State Refusal) → IfOk m IsCountedReplica → IsCountedTrash s.trash → IfOk (with_live s bad m) IsCountedSlot
live_counts s bad (Ok r) made trash = (made, trash)
live_counts s bad (Err e) made trash = tt

trashed_counts : (s : Slot) (m : Result State Refusal) → IfOk m IsCountedReplica → IsCountedLive s.live → IfOk (with_trash s m) IsCountedSlot
trashed_counts s (Ok r) made live = (live, made)
trashed_counts s (Err e) made live = tt

struck_counts : (block : ℕ) (s : Slot) (live : Option Live) (trash : Option State) → IsCountedLive live → IsCountedTrash trash → IsCountedSlot s → IfOk (damage_of block s live trash) IsCountedSlot
struck_counts block s None None first second counted = tt
struck_counts block s None (Some r) first second counted = trashed_counts s (replicas.damage block r) (damage_counts block r second) counted.0
struck_counts block s (Some l) trash first second counted = live_counts s l.bad (replicas.damage block l.replica) (damage_counts block l.replica first) counted.1

pub damaged_counts : (block : ℕ) (s : Slot) → IsCountedSlot s → IfOk (damage block s) IsCountedSlot
damaged_counts block s counted = struck_counts block s s.live s.trash counted.0 counted.1 counted

marked_counts : (block : ℕ) (live : Option Live) → IsCountedLive live → IsCountedLive (marked_live block live)
marked_counts block None counted = tt
marked_counts block (Some l) counted = counted

pub mark_counts : (block : ℕ) (s : Slot) → IsCountedSlot s → IsCountedSlot (mark_bad block s)
mark_counts block s counted = (marked_counts block s.live counted.0, counted.1)

pub apply_counts : (stamp : Stamp) (number : ℕ) (req : ReqId) (op : Op) (bytes : List ℕ) (s : Slot) (l : Live) → s.live ≡ Some l → IsNumber (l.replica.held.count + 1) → IsCountedSlot s → IfOk (apply stamp number req op bytes s) IsCountedSlot
apply_counts stamp number req op bytes s l lives next counted =
    subst (λ (o : Option Live). IfOk (apply_to stamp number req op bytes s o) IsCountedSlot) (sym lives)
    (live_counts s l.bad (replicas.apply stamp number req op bytes l.replica) (replica_applies stamp number req op bytes l.replica next (subst IsCountedLive lives counted.0)) counted.1)

-- ---- copies

image_counts : (block chunk : ℕ) (stamp : Stamp) (i : Image) → IsNumber i.count → IfOk (of_image block chunk stamp i) IsCountedReplica
image_counts block chunk stamp i number =
    with_seal_counts None (held_of stamp i.count i.done (blocks.chunk_of block chunk i.bytes)) (held_counts stamp i.count i.done (blocks.chunk_of block chunk i.bytes) number) tt

there_counts : (m : Result Held Refusal) → IfOk m IsCountedHeld → IfOk (sealed_there m) IsCountedReplica
there_counts (Ok h) counted = (counted, counted)
there_counts (Err e) counted = tt

sealed_counts : (block chunk : ℕ) (i : SealedImage) → IsNumber i.image.count → IfOk (of_sealed block chunk i) IsCountedReplica
sealed_counts block chunk i number =
    let m : Result Stored Refusal = blocks.carried block chunk i.image.bytes i.digests in
    there_counts (held_of i.stamp i.image.count i.image.done m) (held_counts i.stamp i.image.count i.image.done m number)

carried_counts : (block chunk : ℕ) (o : Option SealedImage) → IsCountedImage o → IfOk (carried_in block chunk o) IsCountedTrash
carried_counts block chunk None counted = tt
carried_counts block chunk (Some i) counted = gives_then IsCountedReplica IsCountedTrash (of_sealed block chunk i) (λ t. Ok (Some t)) (sealed_counts block chunk i counted) (λ t made. made)

abbrev AreCounted : State × Option State → Type 0
AreCounted p = IsCountedReplica p.0 × IsCountedTrash p.1

replicas_count : (block chunk : ℕ) (stamp : Stamp) (i : Image) (sealed : Option SealedImage) → IsNumber i.count → IsCountedImage sealed → IfOk (replicas_of block chunk stamp i sealed) AreCounted
replicas_count block chunk stamp i sealed number counted =
    gives_then IsCountedReplica AreCounted (of_image block chunk stamp i) (λ r. and_then (carried_in block chunk sealed) (λ t. Ok (r, t))) (image_counts block chunk stamp i number)
    (λ r made. gives_then IsCountedTrash AreCounted (carried_in block chunk sealed) (λ t. Ok (r, t)) (carried_counts block chunk sealed counted) (λ t trash. (made, trash)))

with_trash_counts : (o : Option State) (s : Slot) → IsCountedTrash o → IsCountedSlot s → IsCountedSlot (in_trash o s)
with_trash_counts None s trash counted = counted
with_trash_counts (Some t) s trash counted = (counted.0, trash)

pub copy_in_counts : (block chunk : ℕ) (stamp : Stamp) (i : Image) (sealed : Option SealedImage) (s : Slot) → IsNumber i.count → IsCountedImage sealed → IsCountedSlot s → IfOk (copy_in block chunk stamp i sealed s) IsCountedSlot
copy_in_counts block chunk stamp i sealed s number carried counted =
    gives_if IsCountedSlot (is_before s.promise stamp) (copied_in block chunk stamp i sealed s) (again stamp s)
    (gives_then AreCounted IsCountedSlot (replicas_of block chunk stamp i sealed) (λ p. Ok (in_trash p.1 (replaced stamp (is_some sealed) p.0 s))) (replicas_count block chunk stamp i sealed number carried)
    (λ p made. with_trash_counts p.1 (replaced stamp (is_some sealed) p.0 s) made.1 (replaced_counts stamp (is_some sealed) p.0 s made.0 counted)))
    (gives_again stamp s counted)

live_in_counts : (live : Option Live) → IsCountedLive live → IfOk (live_in live) IsCountedReplica
live_in_counts None counted = tt
live_in_counts (Some l) counted = counted

source_counts : (at : Stamp) (s : Slot) → IsCountedSlot s → IfOk (source at s) IsCountedReplica
source_counts at s counted = gives_unless IsCountedReplica (first_of (unless_promised at s ∷ unless_live s.live ∷ if_bad s.live ∷ [])) (live_in s.live) (live_in_counts s.live counted.0)

trashed_seal_counts : (trash : Option State) → IsCountedTrash trash → IsCountedSeal (trashed_seal trash)
trashed_seal_counts None counted = tt
trashed_seal_counts (Some r) counted = counted.1

seal_in_counts : (o : Option Sealed) (trash : Option State) → IsCountedSeal o → IsCountedTrash trash → IsCountedSeal (seal_in o trash)
seal_in_counts None trash seal counted = trashed_seal_counts trash counted
seal_in_counts (Some t) trash seal counted = seal

seal_counts : (live : Option Live) (trash : Option State) → IsCountedLive live → IsCountedTrash trash → IsCountedSeal (seal_of live trash)
seal_counts None trash first second = trashed_seal_counts trash second
seal_counts (Some l) trash first second = seal_in_counts l.replica.sealed trash first.1 second

unless_lost_counts : (o : Option ℕ) (i : SealedImage) → IsNumber i.image.count → IsCountedImage (unless_lost o i)
unless_lost_counts None i number = number
unless_lost_counts (Some block) i number = tt

sound_counts : (o : Option Sealed) → IsCountedSeal o → IsCountedImage (sound_image o)
sound_counts None counted = tt
sound_counts (Some t) counted = unless_lost_counts (lowest_damaged t.undone) (as_sealed t) counted

if_asked : (flag : Bool) (o : Option SealedImage) → IsCountedImage o → IsCountedImage (cond flag o None)
if_asked true o counted = counted
if_asked false o counted = tt

abbrev pub IsCountedCopy : Image × Option SealedImage → Type 0
IsCountedCopy copy = IsNumber copy.0.count × IsCountedImage copy.1

-- what is sent of a slot
pub copy_out_counts : (stamp : Stamp) (flag : Bool) (s : Slot) → IsCountedSlot s → IfOk (copy_out stamp flag s) IsCountedCopy
copy_out_counts stamp flag s counted =
    let carried : Option SealedImage = cond flag (sound_image (sealed_of s)) None in
    gives_then IsCountedReplica IsCountedCopy (source stamp s) (λ r. and_then (image r) (λ i. Ok (i, carried))) (source_counts stamp s counted)
    (λ r made. gives_then (λ (i : Image). IsNumber i.count) IsCountedCopy (image r) (λ i. Ok (i, carried)) (gives_sound (λ (i : Image). IsNumber i.count) (lowest_damaged r.held.chunk) (image_of r.held) made.0)
    (λ i number. (number, if_asked flag (sound_image (sealed_of s)) (sound_counts (sealed_of s) (seal_counts s.live s.trash counted.0 counted.1)))))

-- a copy under a new handle
pub make_copy_counts : (at stamp : Stamp) (from target : Slot) → IsCountedSlot from → IsCountedSlot target → IfOk (make_copy at stamp from target) IsCountedSlot
make_copy_counts at stamp from target counted before =
    gives_then IsCountedHeld IsCountedSlot (copied_from at stamp from) (λ h. take_copy h target)
    (gives_then IsCountedReplica IsCountedHeld (source at from) (λ r. copied stamp r.held) (source_counts at from counted) (λ r made. held_counts stamp r.held.count r.held.done (blocks.copied r.held.chunk) made.0))
    (λ h number. raised_counts h.promise (record { held = h; sealed = None }) target (number, tt) before)

-- ---- the end of an epoch

sealed_live_counts : (live : Option Live) → IsCountedLive live → IsCountedLive (sealed_live live)
sealed_live_counts None counted = tt
sealed_live_counts (Some l) counted = (counted.0, counted.0)

unsealed_live_counts : (live : Option Live) → IsCountedLive live → IsCountedLive (unsealed_live live)
unsealed_live_counts None counted = tt
unsealed_live_counts (Some l) counted = (counted.0, tt)

rolled_counts : (promise : Stamp) (m : Result State Refusal) (s : Slot) → IfOk m IsCountedReplica → IsCountedSlot (rolled_to promise m s)
rolled_counts promise (Ok r) s made = (made, tt)
rolled_counts promise (Err e) s made = (tt, tt)

back_counts : (promise : Stamp) (o : Option Sealed) → IsCountedSeal o → IfOk (roll_back_to promise o) IsCountedReplica
back_counts promise None counted = tt
back_counts promise (Some t) counted =
    gives_sound IsCountedReplica (lowest_damaged t.undone) (record { held = record { chunk = t.undone; count = t.count; done = t.done; promise = promise }; sealed = None }) (counted, tt)

pub epoch_counts : (epoch : ℕ) (end : EpochEnd) (s : Slot) → IsCountedSlot s → IsCountedSlot (gone_on end epoch s)
epoch_counts epoch Prepare s counted = (sealed_live_counts s.live counted.0, tt)
epoch_counts epoch Finalize s counted = (unsealed_live_counts s.live counted.0, tt)
epoch_counts epoch Rollback s counted =
    let promise : Stamp = later s.promise (start_of epoch) in
    rolled_counts promise (roll_back_to promise (sealed_of s)) s (back_counts promise (sealed_of s) (seal_counts s.live s.trash counted.0 counted.1))
