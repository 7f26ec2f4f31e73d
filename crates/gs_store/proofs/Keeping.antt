-- What every slot keeps through its calls.
use Rattle.std.proofs.Common.{◌≡◌, ℕ, ◌+◌, Bool, true, false, cond, List, [], ◌∷◌, length, Option, Some, None, refl, sym, ap, subst, ◌∙◌}
use Rattle.std.specs.Prelude.{Result, Ok, Err, is_some, nat_lt, slice_index_or, ◌==◌, ◌&&◌}
use Rattle.std.specs.FinMap as fin
use Rattle.gs_base.specs.declared.numbers.Stamp.{Stamp}
use Rattle.gs_base.specs.declared.numbers.ReqId.{ReqId}
use Rattle.gs_base.specs.Stamps.{is_before, is_same}
use Rattle.gs_base.specs.declared.refusal.Refusal.{Refusal}
use Rattle.gs_base.specs.declared.refusal.Refusal.TheVariants as refusals
use Rattle.gs_block.specs.Stored.{Stored, count_of, digests_of}
use Rattle.gs_block.specs.Edits.{with_bytes, unless_damaged}
use Rattle.gs_block.specs.Edits as blocks
use Rattle.gs_block.specs.Images.{or_same}
use Rattle.gs_replica.specs.declared.op.Op.{Op}
use Rattle.gs_replica.specs.declared.op.Op.TheVariants.{Write, Append, Pad}
use Rattle.gs_replica.specs.Held.{Held}
use Rattle.gs_replica.specs.Edits as edits
use Rattle.gs_replica.specs.Seals.{Sealed, State, with_seal, on_seal, touch_seal, damage_seal, stamp_of, roll_back_to, lowest_damaged}
use Rattle.gs_replica.specs.Seals as replicas
use Rattle.gs_replica.specs.Copies.{Image, SealedImage, of_image, of_sealed, sealed_there}
use Rattle.gs_replica.proofs.Listing.{seal_ok, judged_ok}
use Rattle.gs_store_seal.specs.Trash.{trash_of}
use Rattle.gs_store.specs.Slots.{Live, Slot, damage_of, when, first_of, unless_live, unless_promised, if_bad, check_grant, is_taken, taking, lost, removed, risen, mark_bad, again, replaced, nothing, trash_behind, trashed_seal, seal_in, seal_of, sealed_of}
use Rattle.gs_store.specs.Whole.{TrashSealed, Reaches, SealHasSizes, HasSizes, LiveHasSizes, TrashHasSizes, IsSlotOf}
use Rattle.gs_store.specs.Serving.{apply_to}
use Rattle.gs_store.specs.Moves.{in_trash, copied_in}
use Rattle.gs_store_seal.specs.Rollback.{later}
use Rattle.gs_store.specs.Learning.{start_of, rolled_to, prepared, finalized}
use Rattle.gs_store.specs.Calls.{Call, Creates, Advances, CopiesIn, TakesCopy, Drops, TakesLease, Loses, Damages, MarksBad, Applies, Seals, Unseals, RollsBack, called, SealedBy, Fits}
use Rattle.gs_store.proofs.Calls.{standing_in}
use Rattle.gs_store.proofs.Laws.{not_before_itself, not_both, not_below, Holds, of_cond, of_unless, of_again, of_raised, not_old, replaced_stays, removed_stays}
use Rattle.gs_store.proofs.Standing.{of_live, of_trash, trashed_in, same_ok}
use Rattle.gs_store.proofs.Copying.{of_copied, Made, then_ok}
use Rattle.gs_store.proofs.Running.{never_below, not_before_same, is_granted, first_none}

-- the sizes stay at an edit
plain_case : (t : Bool) (d : Option ℕ) (n s2 : Stored) → cond t (Err refusals.Range) (unless_damaged d n) ≡ Ok s2 → s2 ≡ n
plain_case true d n s2 e = absurd (cc)
plain_case false None n s2 e = same_ok n s2 e
plain_case false (Some k) n s2 e = absurd (cc)

pub record SameSizes (s s2 : Stored) : Type 0 where
  pub block : s2.block ≡ s.block
  pub chunk : s2.chunk ≡ s.chunk

plain_sizes : (s n s2 : Stored) → SameSizes s n → s2 ≡ n → SameSizes s s2
plain_sizes s n s2 same is = subst (SameSizes s) (sym is) same

pad_case : (t : Bool) (d : Option ℕ) (s n s2 : Stored) → SameSizes s n → cond t (Ok s) (unless_damaged d n) ≡ Ok s2 → SameSizes s s2
pad_case true d s n s2 same e = plain_sizes s s s2 (record { block = refl; chunk = refl }) (same_ok s s2 e)
pad_case false None s n s2 same e = plain_sizes s n s2 same (same_ok n s2 e)
pad_case false (Some k) s n s2 same e = absurd (cc)

edited_sizes : (op : Op) (bytes : List ℕ) (s s2 : Stored) → edits.edited op bytes s ≡ Ok s2 → SameSizes s s2
unfolding with_bytes
edited_sizes (Write offset) bytes s s2 e = plain_sizes s _ s2 (record { block = refl; chunk = refl }) (plain_case (blocks.is_outside s offset bytes) _ _ s2 e)
edited_sizes Append bytes s s2 e = plain_sizes s _ s2 (record { block = refl; chunk = refl }) (plain_case (blocks.is_outside s (length s.bytes) bytes) _ _ s2 e)
edited_sizes Pad bytes s s2 e = pad_case (length s.bytes == s.chunk) _ s _ s2 (record { block = refl; chunk = refl }) e

-- a replica after an edit or damage
pub record Like (r r2 : State) : Type 0 where
  pub promise : r2.held.promise ≡ r.held.promise
  pub sealed : is_some r2.sealed ≡ is_some r.sealed
  pub stamp : stamp_of r2.sealed ≡ stamp_of r.sealed
  pub sizes : (block chunk : ℕ) → HasSizes block chunk r → HasSizes block chunk r2

on_some : (f : Sealed → Sealed) (o : Option Sealed) → is_some (on_seal f o) ≡ is_some o
on_some f None = refl
on_some f (Some t) = refl

on_stamp : (f : Sealed → Sealed) (o : Option Sealed) → ((t : Sealed) → (f t).stamp ≡ t.stamp) → stamp_of (on_seal f o) ≡ stamp_of o
on_stamp f None same = refl
on_stamp f (Some t) same = ap (λ x. Some x) (same t)

on_sizes : (f : Sealed → Sealed) (block chunk : ℕ) (o : Option Sealed) → ((t : Sealed) → SameSizes t.undone (f t).undone) → SealHasSizes block chunk o → SealHasSizes block chunk (on_seal f o)
on_sizes f block chunk None same has = tt
on_sizes f block chunk (Some t) same has = (let x = same t in (x.block ∙ has.0, x.chunk ∙ has.1))

like : (f : Sealed → Sealed) (h h2 : Held) (o : Option Sealed) → h2.promise ≡ h.promise → SameSizes h.chunk h2.chunk → ((t : Sealed) → (f t).stamp ≡ t.stamp) → ((t : Sealed) → SameSizes t.undone (f t).undone) →
    Like (record { held = h; sealed = o }) (record { held = h2; sealed = on_seal f o })
like f h h2 o promise same stamps undone = record {
  promise = promise;
  sealed = on_some f o;
  stamp = on_stamp f o stamps;
  sizes = λ block chunk has. record { block_is = same.block ∙ has.block_is; chunk_is = same.chunk ∙ has.chunk_is; undone = on_sizes f block chunk o undone has.undone };
}

pub record HeldLike (h h2 : Held) : Type 0 where
  pub promise : h2.promise ≡ h.promise
  pub sizes : SameSizes h.chunk h2.chunk

edit_case : (req : ReqId) (op : Op) (bytes : List ℕ) (h h2 : Held) (m : Result Stored Refusal) → edits.edited op bytes h.chunk ≡ m → edits.with_edit h req op m ≡ Ok h2 → HeldLike h h2
edit_case req op bytes h h2 (Err g) is e = absurd (cc)
edit_case req op bytes h h2 (Ok s) is e = subst (HeldLike h) (sym (same_ok _ h2 e)) (record { promise = refl; sizes = edited_sizes op bytes h.chunk s is })

applied_like : (stamp : Stamp) (number : ℕ) (req : ReqId) (op : Op) (bytes : List ℕ) (r r2 : State) → replicas.apply stamp number req op bytes r ≡ Ok r2 → Like r r2
applied_like stamp number req op bytes r r2 e =
    let h = r.held in
    let s = seal_ok _ _ r2 e in
    let j = judged_ok (is_same stamp h.promise) (number == (h.count + 1)) (edits.is_old req.number (fin.get h.done req.client.0)) (refusals.Gap h.count) (refusals.Stamp h.promise) (edits.with_edit h req op (edits.edited op bytes h.chunk)) r2.held s.0 in
    let l = edit_case req op bytes h r2.held (edits.edited op bytes h.chunk) refl j.3 in
    subst (λ (o : Option Sealed). Like r (let x : State = record { held = r2.held; sealed = o } in x)) (sym s.1)
    (like (touch_seal req op bytes h) h r2.held r.sealed l.promise l.sizes (λ t. refl) (λ t. record { block = refl; chunk = refl }))

damage_sizes : (index : ℕ) (s s2 : Stored) → blocks.damage s index ≡ Ok s2 → SameSizes s s2
damage_sizes index s s2 e = damage_case (nat_lt index (length s.digests)) _ e (record { block = refl; chunk = refl })
  where
    damage_case : (t : Bool) (n : Stored) → cond t (Ok n) (Err refusals.Range) ≡ Ok s2 → SameSizes s n → SameSizes s s2
    damage_case true n is same = plain_sizes s n s2 same (same_ok n s2 is)
    damage_case false n is same = absurd (cc)

before_sizes : (index : ℕ) (t : Sealed) → SameSizes t.undone (damage_seal index t).undone
before_sizes index t = before_case (slice_index_or t.touched index true) (blocks.damage t.undone index) refl
  where
    same_case : (m : Result Stored Refusal) → blocks.damage t.undone index ≡ m → SameSizes t.undone (or_same m t.undone)
    same_case (Ok s) is = damage_sizes index t.undone s is
    same_case (Err e) is = record { block = refl; chunk = refl }

    before_case : (b : Bool) (m : Result Stored Refusal) → blocks.damage t.undone index ≡ m → SameSizes t.undone (cond b t.undone (or_same m t.undone))
    before_case true m is = record { block = refl; chunk = refl }
    before_case false m is = same_case m is

chunk_case : (index : ℕ) (h h2 : Held) (m : Result Stored Refusal) → blocks.damage h.chunk index ≡ m → edits.on_chunk h m ≡ Ok h2 → HeldLike h h2
chunk_case index h h2 (Err g) is e = absurd (cc)
chunk_case index h h2 (Ok s) is e = subst (HeldLike h) (sym (same_ok _ h2 e)) (record { promise = refl; sizes = damage_sizes index h.chunk s is })

damaged_like : (index : ℕ) (r r2 : State) → replicas.damage index r ≡ Ok r2 → Like r r2
damaged_like index r r2 e =
    let s = seal_ok _ _ r2 e in
    let l = chunk_case index r.held r2.held (blocks.damage r.held.chunk index) refl s.0 in
    subst (λ (o : Option Sealed). Like r (let x : State = record { held = r2.held; sealed = o } in x)) (sym s.1)
    (like (damage_seal index) r.held r2.held r.sealed l.promise l.sizes (λ t. refl) (λ t. before_sizes index t))

reaches_on : (p q : Stamp) (o : Option Stamp) → is_before q p ≡ false → Reaches p o → Reaches q o
reaches_on p q None up reached = tt
reaches_on p q (Some t) up reached = never_below t p q reached up

sealed_one : (o : Option Sealed) (r : State) (trash : Option State) → r.sealed ≡ o → TrashSealed trash → TrashSealed (trash_of o r trash)
sealed_one None r trash is has = has
sealed_one (Some t) r trash is has = ap is_some is

sealed_behind : (live : Option Live) (trash : Option State) → TrashSealed trash → TrashSealed (trash_behind live trash)
sealed_behind None trash has = has
sealed_behind (Some l) trash has = sealed_one l.replica.sealed l.replica trash refl has

sizes_one : (block chunk : ℕ) (o : Option Sealed) (r : State) (trash : Option State) → HasSizes block chunk r → TrashHasSizes block chunk trash → TrashHasSizes block chunk (trash_of o r trash)
sizes_one block chunk None r trash here has = has
sizes_one block chunk (Some t) r trash here has = here

sizes_behind : (block chunk : ℕ) (live : Option Live) (trash : Option State) → LiveHasSizes block chunk live → TrashHasSizes block chunk trash → TrashHasSizes block chunk (trash_behind live trash)
sizes_behind block chunk None trash here has = has
sizes_behind block chunk (Some l) trash here has = sizes_one block chunk l.replica.sealed l.replica trash here has

removed_slot : (block chunk : ℕ) (s : Slot) → IsSlotOf block chunk s → IsSlotOf block chunk (removed s)
removed_slot block chunk s w =
    let k = w.keeps in
    record {
      keeps = record { live_is = tt; trash_is = sealed_behind s.live s.trash k.trash_is; one = refl; taken_is = k.taken_is };
      live = tt;
      trash = sizes_behind block chunk s.live s.trash w.live w.trash;
      sealed = subst (λ (o : Option Sealed). Reaches s.promise (stamp_of o)) (sym (removed_stays s)) w.sealed;
    }

-- a replica that takes another's place
pub record Fresh (block chunk : ℕ) (stamp : Stamp) (r : State) : Type 0 where
  pub promise : r.held.promise ≡ stamp
  pub unsealed : r.sealed ≡ None
  pub sizes : HasSizes block chunk r

replaced_slot : (block chunk : ℕ) (stamp : Stamp) (carried : Bool) (r : State) (s : Slot) → is_before s.promise stamp ≡ true → Fresh block chunk stamp r → IsSlotOf block chunk s → IsSlotOf block chunk (replaced stamp carried r s)
replaced_slot block chunk stamp carried r s above f w =
    let k = w.keeps in
    let up = not_both s.promise stamp above in
    record {
      keeps = record {
        live_is = f.promise;
        trash_is = sealed_behind s.live s.trash k.trash_is;
        one = ap (λ o. is_some o && is_some (trash_behind s.live s.trash)) f.unsealed;
        taken_is = reaches_on s.promise stamp s.taken up k.taken_is;
      };
      live = f.sizes;
      trash = sizes_behind block chunk s.live s.trash w.live w.trash;
      sealed = subst (λ (o : Option Sealed). Reaches stamp (stamp_of o)) (sym (replaced_stays stamp carried r s f.unsealed)) (reaches_on s.promise stamp (stamp_of (sealed_of s)) up w.sealed);
    }

raised_slot : (block chunk : ℕ) (stamp : Stamp) (carried : Bool) (r : State) (s : Slot) → Fresh block chunk stamp r → IsSlotOf block chunk s → Holds (IsSlotOf block chunk) (cond (is_before s.promise stamp) (Ok (replaced stamp carried r s)) (again stamp s))
raised_slot block chunk stamp carried r s f w = of_raised (IsSlotOf block chunk) stamp carried r s w (λ above. replaced_slot block chunk stamp carried r s above f w)

-- what images become
image_case : (t : Bool) (block chunk : ℕ) (stamp : Stamp) (i : Image) (r : State) →
    (let s : Stored = record { block = block; chunk = chunk; bytes = i.bytes; digests = digests_of block i.bytes } in with_seal None (edits.held_of stamp i.count i.done (cond t (Err refusals.Range) (Ok s)))) ≡ Ok r → Fresh block chunk stamp r
image_case true block chunk stamp i r e = absurd (cc)
image_case false block chunk stamp i r e = subst (Fresh block chunk stamp) (sym (same_ok _ r e)) (record { promise = refl; unsealed = refl; sizes = record { block_is = refl; chunk_is = refl; undone = tt } })

image_fresh : (block chunk : ℕ) (stamp : Stamp) (i : Image) (r : State) → of_image block chunk stamp i ≡ Ok r → Fresh block chunk stamp r
image_fresh block chunk stamp i r e = image_case (nat_lt chunk (length i.bytes)) block chunk stamp i r e

pub record Trashed (block chunk : ℕ) (stamp : Stamp) (r : State) : Type 0 where
  pub sealed : is_some r.sealed ≡ true
  pub stamp_is : stamp_of r.sealed ≡ Some stamp
  pub sizes : HasSizes block chunk r

carried_case : (a b : Bool) (block chunk : ℕ) (i : SealedImage) (r : State) →
    (let s : Stored = record { block = block; chunk = chunk; bytes = i.image.bytes; digests = i.digests } in
    sealed_there (edits.held_of i.stamp i.image.count i.image.done (cond a (Err refusals.Range) (cond b (Ok s) (Err refusals.BadLine))))) ≡ Ok r → Trashed block chunk i.stamp r
carried_case true b block chunk i r e = absurd (cc)
carried_case false true block chunk i r e = subst (Trashed block chunk i.stamp) (sym (same_ok _ r e)) (record { sealed = refl; stamp_is = refl; sizes = record { block_is = refl; chunk_is = refl; undone = (refl, refl) } })
carried_case false false block chunk i r e = absurd (cc)

carried_trashed : (block chunk : ℕ) (i : SealedImage) (r : State) → of_sealed block chunk i ≡ Ok r → Trashed block chunk i.stamp r
carried_trashed block chunk i r e = carried_case (nat_lt chunk (length i.image.bytes)) (length i.digests == count_of block (length i.image.bytes)) block chunk i r e

beside : (r t : State) → r.sealed ≡ None → seal_in r.sealed (Some t) ≡ t.sealed
beside r t is = ap (λ o. seal_in o (Some t)) is

carried_slot : (block chunk : ℕ) (stamp : Stamp) (carried : Bool) (r t : State) (at : Stamp) (s : Slot) → is_before stamp at ≡ false → Fresh block chunk stamp r → Trashed block chunk at t → IsSlotOf block chunk (replaced stamp carried r s) →
    IsSlotOf block chunk (in_trash (Some t) (replaced stamp carried r s))
carried_slot block chunk stamp carried r t at s below f q w =
    let k = w.keeps in
    record {
      keeps = record { live_is = k.live_is; trash_is = q.sealed; one = ap (λ o. is_some o && true) f.unsealed; taken_is = k.taken_is };
      live = w.live;
      trash = q.sizes;
      sealed = subst (Reaches stamp) (sym (ap stamp_of (beside r t f.unsealed) ∙ q.stamp_is)) below;
    }

copied_slot : (block chunk : ℕ) (stamp : Stamp) (i : Image) (sealed : Option SealedImage) (p : State × Option State) (s : Slot) → is_before s.promise stamp ≡ true → SealedBy stamp sealed → Made block chunk stamp i sealed p → IsSlotOf block chunk s →
    IsSlotOf block chunk (in_trash p.1 (replaced stamp (is_some sealed) p.0 s))
copied_slot block chunk stamp i None p s above below m w =
    let f = image_fresh block chunk stamp i p.0 m.live in
    subst (λ (o : Option State). IsSlotOf block chunk (in_trash o (replaced stamp false p.0 s))) (sym (same_ok None p.1 m.trash)) (replaced_slot block chunk stamp false p.0 s above f w)
copied_slot block chunk stamp i (Some t) p s above below m w =
    let f = image_fresh block chunk stamp i p.0 m.live in
    let a = then_ok (of_sealed block chunk t) (λ q. Ok (Some q)) p.1 m.trash in
    subst (λ (o : Option State). IsSlotOf block chunk (in_trash o (replaced stamp true p.0 s))) (sym (same_ok (Some a.first) p.1 a.then))
    (carried_slot block chunk stamp true p.0 a.first t.stamp s below f (carried_trashed block chunk t a.first a.made) (replaced_slot block chunk stamp true p.0 s above f w))

-- a slot by its fields
abbrev slot : Stamp → Bool → Option Live → Option State → Option Stamp → Slot
slot promise carried live trash taken = record { promise = promise; carried = carried; live = live; trash = trash; taken = taken }

risen_slot : (block chunk : ℕ) (stamp : Stamp) (promise : Stamp) (carried : Bool) (live : Option Live) (trash : Option State) (taken : Option Stamp) → is_before stamp promise ≡ false → IsSlotOf block chunk (slot promise carried live trash taken) →
    IsSlotOf block chunk (risen stamp (slot promise carried live trash taken))
risen_slot block chunk stamp promise carried None trash taken up w =
    let k = w.keeps in
    record { keeps = record { live_is = tt; trash_is = k.trash_is; one = k.one; taken_is = reaches_on promise stamp taken up k.taken_is }; live = tt; trash = w.trash; sealed = reaches_on promise stamp _ up w.sealed }
risen_slot block chunk stamp promise carried (Some l) trash taken up w =
    let k = w.keeps in
    let z = w.live in
    record {
      keeps = record { live_is = refl; trash_is = k.trash_is; one = k.one; taken_is = reaches_on promise stamp taken up k.taken_is };
      live = record { block_is = z.block_is; chunk_is = z.chunk_is; undone = z.undone };
      trash = w.trash;
      sealed = reaches_on promise stamp _ up w.sealed;
    }

seal_stamps : (o p : Option Sealed) (trash : Option State) → stamp_of o ≡ stamp_of p → stamp_of (seal_in o trash) ≡ stamp_of (seal_in p trash)
seal_stamps None None trash is = refl
seal_stamps None (Some t) trash is = absurd (cc)
seal_stamps (Some t) None trash is = absurd (cc)
seal_stamps (Some t) (Some u) trash is = is

like_live : (block chunk : ℕ) (promise : Stamp) (carried : Bool) (l : Live) (r : State) (trash : Option State) (taken : Option Stamp) → Like l.replica r → IsSlotOf block chunk (slot promise carried (Some l) trash taken) →
    IsSlotOf block chunk (standing_in (slot promise carried (Some l) trash taken) l.bad r)
like_live block chunk promise carried l r trash taken m w =
    let k = w.keeps in
    record {
      keeps = record { live_is = m.promise ∙ k.live_is; trash_is = k.trash_is; one = ap (λ b. b && is_some trash) m.sealed ∙ k.one; taken_is = k.taken_is };
      live = m.sizes block chunk w.live;
      trash = w.trash;
      sealed = subst (Reaches promise) (sym (seal_stamps r.sealed l.replica.sealed trash m.stamp)) w.sealed;
    }

like_trash : (block chunk : ℕ) (promise : Stamp) (carried : Bool) (t r : State) (taken : Option Stamp) → Like t r → IsSlotOf block chunk (slot promise carried None (Some t) taken) → IsSlotOf block chunk (trashed_in (slot promise carried None (Some t) taken) r)
like_trash block chunk promise carried t r taken m w =
    let k = w.keeps in
    record {
      keeps = record { live_is = tt; trash_is = m.sealed ∙ k.trash_is; one = refl; taken_is = k.taken_is };
      live = tt;
      trash = m.sizes block chunk w.trash;
      sealed = subst (Reaches promise) (sym m.stamp) w.sealed;
    }

damaged_slot : (block chunk index : ℕ) (promise : Stamp) (carried : Bool) (live : Option Live) (trash : Option State) (taken : Option Stamp) → IsSlotOf block chunk (slot promise carried live trash taken) →
    Holds (IsSlotOf block chunk) (damage_of index (slot promise carried live trash taken) live trash)
damaged_slot block chunk index promise carried None None taken w = tt
damaged_slot block chunk index promise carried None (Some t) taken w =
    of_trash (IsSlotOf block chunk) (slot promise carried None (Some t) taken) (replicas.damage index t) (λ r e. like_trash block chunk promise carried t r taken (damaged_like index t r e) w)
damaged_slot block chunk index promise carried (Some l) trash taken w =
    of_live (IsSlotOf block chunk) (slot promise carried (Some l) trash taken) l.bad (replicas.damage index l.replica) (λ r e. like_live block chunk promise carried l r trash taken (damaged_like index l.replica r e) w)

applied_slot : (block chunk : ℕ) (stamp : Stamp) (number : ℕ) (req : ReqId) (op : Op) (bytes : List ℕ) (promise : Stamp) (carried : Bool) (live : Option Live) (trash : Option State) (taken : Option Stamp) → IsSlotOf block chunk (slot promise carried live trash taken) →
    Holds (IsSlotOf block chunk) (apply_to stamp number req op bytes (slot promise carried live trash taken) live)
applied_slot block chunk stamp number req op bytes promise carried None trash taken w = tt
applied_slot block chunk stamp number req op bytes promise carried (Some l) trash taken w =
    of_live (IsSlotOf block chunk) (slot promise carried (Some l) trash taken) l.bad (replicas.apply stamp number req op bytes l.replica) (λ r e. like_live block chunk promise carried l r trash taken (applied_like stamp number req op bytes l.replica r e) w)

marked_slot : (block chunk index : ℕ) (promise : Stamp) (carried : Bool) (live : Option Live) (trash : Option State) (taken : Option Stamp) → IsSlotOf block chunk (slot promise carried live trash taken) → IsSlotOf block chunk (mark_bad index (slot promise carried live trash taken))
marked_slot block chunk index promise carried None trash taken w = (let k = w.keeps in record { keeps = record { live_is = tt; trash_is = k.trash_is; one = k.one; taken_is = k.taken_is }; live = tt; trash = w.trash; sealed = w.sealed })
marked_slot block chunk index promise carried (Some l) trash taken w = (let k = w.keeps in record { keeps = record { live_is = k.live_is; trash_is = k.trash_is; one = k.one; taken_is = k.taken_is }; live = w.live; trash = w.trash; sealed = w.sealed })

prepared_slot : (block chunk : ℕ) (promise : Stamp) (carried : Bool) (live : Option Live) (trash : Option State) (taken : Option Stamp) → IsSlotOf block chunk (slot promise carried live trash taken) → IsSlotOf block chunk (prepared (slot promise carried live trash taken))
prepared_slot block chunk promise carried None trash taken w = (let k = w.keeps in record { keeps = record { live_is = tt; trash_is = tt; one = refl; taken_is = k.taken_is }; live = tt; trash = tt; sealed = tt })
prepared_slot block chunk promise carried (Some l) trash taken w =
    let k = w.keeps in
    let z = w.live in
    record {
      keeps = record { live_is = k.live_is; trash_is = tt; one = refl; taken_is = k.taken_is };
      live = record { block_is = z.block_is; chunk_is = z.chunk_is; undone = (z.block_is, z.chunk_is) };
      trash = tt;
      sealed = subst (λ (p : Stamp). is_before promise p ≡ false) (sym k.live_is) (not_before_itself promise);
    }

finalized_slot : (block chunk : ℕ) (promise : Stamp) (carried : Bool) (live : Option Live) (trash : Option State) (taken : Option Stamp) → IsSlotOf block chunk (slot promise carried live trash taken) → IsSlotOf block chunk (finalized (slot promise carried live trash taken))
finalized_slot block chunk promise carried None trash taken w = (let k = w.keeps in record { keeps = record { live_is = tt; trash_is = tt; one = refl; taken_is = k.taken_is }; live = tt; trash = tt; sealed = tt })
finalized_slot block chunk promise carried (Some l) trash taken w =
    let k = w.keeps in
    let z = w.live in
    record {
      keeps = record { live_is = k.live_is; trash_is = tt; one = refl; taken_is = k.taken_is };
      live = record { block_is = z.block_is; chunk_is = z.chunk_is; undone = tt };
      trash = tt;
      sealed = tt;
    }

lost_slot : (block chunk : ℕ) (s : Slot) → IsSlotOf block chunk s → IsSlotOf block chunk (lost s)
lost_slot block chunk s w = (let k = w.keeps in record { keeps = record { live_is = tt; trash_is = tt; one = refl; taken_is = k.taken_is }; live = tt; trash = tt; sealed = tt })

trash_seal_sizes : (block chunk : ℕ) (trash : Option State) → TrashHasSizes block chunk trash → SealHasSizes block chunk (trashed_seal trash)
trash_seal_sizes block chunk None has = tt
trash_seal_sizes block chunk (Some r) has = has.undone

in_seal_sizes : (block chunk : ℕ) (o : Option Sealed) (trash : Option State) → SealHasSizes block chunk o → TrashHasSizes block chunk trash → SealHasSizes block chunk (seal_in o trash)
in_seal_sizes block chunk None trash here has = trash_seal_sizes block chunk trash has
in_seal_sizes block chunk (Some t) trash here has = here

seal_sizes : (block chunk : ℕ) (live : Option Live) (trash : Option State) → LiveHasSizes block chunk live → TrashHasSizes block chunk trash → SealHasSizes block chunk (seal_of live trash)
seal_sizes block chunk None trash here has = trash_seal_sizes block chunk trash has
seal_sizes block chunk (Some l) trash here has = in_seal_sizes block chunk l.replica.sealed trash here.undone has

undone_case : (block chunk : ℕ) (promise : Stamp) (t : Sealed) (d : Option ℕ) (s : Slot) → is_before promise s.promise ≡ false → SealHasSizes block chunk (Some t) → IsSlotOf block chunk s →
    (let r : State = record { held = record { chunk = t.undone; count = t.count; done = t.done; promise = promise }; sealed = None } in IsSlotOf block chunk (rolled_to promise (unless_damaged d r) s))
undone_case block chunk promise t None s up has w =
    let k = w.keeps in
    record {
      keeps = record { live_is = refl; trash_is = tt; one = refl; taken_is = reaches_on s.promise promise s.taken up k.taken_is };
      live = record { block_is = has.0; chunk_is = has.1; undone = tt };
      trash = tt;
      sealed = tt;
    }
undone_case block chunk promise t (Some index) s up has w = lost_slot block chunk s w

rolled_slot : (block chunk : ℕ) (promise : Stamp) (o : Option Sealed) (s : Slot) → is_before promise s.promise ≡ false → SealHasSizes block chunk o → IsSlotOf block chunk s → IsSlotOf block chunk (rolled_to promise (roll_back_to promise o) s)
rolled_slot block chunk promise None s up has w = lost_slot block chunk s w
rolled_slot block chunk promise (Some t) s up has w = undone_case block chunk promise t (lowest_damaged t.undone) s up has w

leased_slot : (block chunk : ℕ) (stamp : Stamp) (s : Slot) → is_same stamp s.promise ≡ true → IsSlotOf block chunk s → IsSlotOf block chunk (taking stamp s)
leased_slot block chunk stamp s same w =
    let k = w.keeps in
    record { keeps = record { live_is = k.live_is; trash_is = k.trash_is; one = k.one; taken_is = not_before_same stamp s.promise same }; live = w.live; trash = w.trash; sealed = w.sealed }

pub stays_whole : (block chunk : ℕ) (c : Call) (s : Slot) → Fits block chunk c → IsSlotOf block chunk s → Holds (IsSlotOf block chunk) (called block chunk c s)
stays_whole block chunk (Creates stamp) s fits w = raised_slot block chunk stamp false (record { held = edits.fresh block chunk stamp; sealed = None }) s (record { promise = refl; unsealed = refl; sizes = record { block_is = refl; chunk_is = refl; undone = tt } }) w
stays_whole block chunk (Advances stamp) s fits w =
    of_unless (IsSlotOf block chunk) (first_of (unless_live s.live ∷ if_bad s.live ∷ when (is_before stamp s.promise) refusals.Old ∷ [])) (risen stamp s)
    (λ none. risen_slot block chunk stamp s.promise s.carried s.live s.trash s.taken (not_old (unless_live s.live) (if_bad s.live) (is_before stamp s.promise) refusals.Old none) w)
stays_whole block chunk (CopiesIn stamp image sealed) s fits w =
    of_cond (IsSlotOf block chunk) (is_before s.promise stamp) (copied_in block chunk stamp image sealed s) (again stamp s)
    (λ above. of_copied (IsSlotOf block chunk) block chunk stamp image sealed s (λ p m. copied_slot block chunk stamp image sealed p s above fits m w))
    (λ _. of_again (IsSlotOf block chunk) stamp s w)
stays_whole block chunk (TakesCopy h) s fits w = raised_slot block chunk h.promise false (record { held = h; sealed = None }) s (record { promise = refl; unsealed = refl; sizes = record { block_is = fits.0; chunk_is = fits.1; undone = tt } }) w
stays_whole block chunk (Drops promise) s fits w = of_unless (IsSlotOf block chunk) (first_of (unless_promised promise s ∷ unless_live s.live ∷ [])) (removed s) (λ _. removed_slot block chunk s w)
stays_whole block chunk (TakesLease stamp) s fits w =
    of_unless (IsSlotOf block chunk) (first_of (check_grant stamp s ∷ when (is_taken stamp s.taken) refusals.Old ∷ [])) (taking stamp s)
    (λ none. leased_slot block chunk stamp s (is_granted stamp s (unless_live s.live) (is_same stamp s.promise) (first_none (check_grant stamp s) (when (is_taken stamp s.taken) refusals.Old) none)) w)
stays_whole block chunk Loses s fits w =
    of_cond (IsSlotOf block chunk) (is_some s.live) (Ok (lost s)) (cond (is_some s.trash) (Ok (lost s)) (Err refusals.NoReplica)) (λ _. lost_slot block chunk s w)
    (λ _. of_cond (IsSlotOf block chunk) (is_some s.trash) (Ok (lost s)) (Err refusals.NoReplica) (λ _. lost_slot block chunk s w) (λ _. tt))
stays_whole block chunk (Damages index) s fits w = damaged_slot block chunk index s.promise s.carried s.live s.trash s.taken w
stays_whole block chunk (MarksBad index) s fits w = marked_slot block chunk index s.promise s.carried s.live s.trash s.taken w
stays_whole block chunk (Applies stamp number req op bytes) s fits w = applied_slot block chunk stamp number req op bytes s.promise s.carried s.live s.trash s.taken w
stays_whole block chunk Seals s fits w = prepared_slot block chunk s.promise s.carried s.live s.trash s.taken w
stays_whole block chunk Unseals s fits w = finalized_slot block chunk s.promise s.carried s.live s.trash s.taken w
stays_whole block chunk (RollsBack epoch) s fits w =
    rolled_slot block chunk (later s.promise (start_of epoch)) (sealed_of s) s (not_below s.promise (start_of epoch)) (seal_sizes block chunk s.live s.trash w.live w.trash) w

pub nothing_whole : (block chunk : ℕ) → IsSlotOf block chunk nothing
nothing_whole block chunk = record { keeps = record { live_is = tt; trash_is = tt; one = refl; taken_is = tt }; live = tt; trash = tt; sealed = tt }
