-- Each slot of a server is whole.
use Rattle.std.proofs.Common.{◌≡◌, ℕ, ◌+◌, ◌-◌, ◌*◌, ◌/◌, ◌%◌, ◌≤◌, arith, rules, Bool, true, false, cond, List, [], ◌∷◌, ◌++◌, take, drop, length, min, max, Option, Some, None, refl, sym, ap, subst, ◌∙◌, inl, inr}
use Rattle.std.specs.Prelude.{Result, Ok, Err, is_some, nat_lt, replicate, slice_index, slice_index_or, slice_set, ◌==◌, ◌&&◌, ◌||◌}
use Rattle.std.proofs.lemmas.Bool.Decides.{nat_tests}
use Rattle.std.proofs.lemmas.List.{places, length-set}
use Rattle.std.proofs.lemmas.List.FromFn.{length-map-range_with_len}
use Rattle.std.specs.FinMap as fin
use Rattle.std.specs.Ordering.{nat_cmp}
use Rattle.gs_base.specs.declared.numbers.Stamp.{Stamp}
use Rattle.gs_base.specs.declared.numbers.ReqId.{ReqId}
use Rattle.gs_base.specs.Stamps.{is_before, is_same}
use Rattle.gs_base.specs.declared.refusal.Refusal.{Refusal}
use Rattle.gs_base.specs.declared.refusal.Refusal.TheVariants as refusals
use Rattle.gs_block.specs.Chunk.{written}
use Rattle.gs_block.specs.Stored.{Stored, IsStored, count_of, digest_at, digests_from, digests_of}
use Rattle.gs_block.specs.Edits.{with_bytes, damaged_between, unless_damaged}
use Rattle.gs_block.specs.Edits as blocks
use Rattle.gs_block.specs.Images.{or_same}
use Rattle.gs_block.proofs.Counts.{first_counted, count_max, empty_stored}
use Rattle.gs_block.proofs.Kept.{length_of_parts}
use Rattle.gs_block.proofs.Writing.{length-written}
use Rattle.gs_replica.specs.declared.op.Op.{Op}
use Rattle.gs_replica.specs.declared.op.Op.TheVariants.{Write, Append, Pad}
use Rattle.gs_replica.specs.Held.{Held}
use Rattle.gs_replica.specs.Edits as edits
use Rattle.gs_replica.specs.Seals.{Sealed, State, with_seal, on_seal, touch_seal, damage_seal, lowest_damaged, roll_back_to}
use Rattle.gs_replica.specs.Seals as replicas
use Rattle.gs_replica.specs.Copies.{Image, SealedImage, of_sealed, sealed_there}
use Rattle.gs_replica.specs.Whole.{HasUndone}
use Rattle.gs_replica.proofs.Listing.{seal_ok, judged_ok}
use Rattle.gs_store_seal.specs.Trash.{trash_of}
use Rattle.gs_store.specs.Slots.{Live, Slot, damage_of, when, first_of, unless_live, unless_promised, if_bad, check_grant, is_taken, taking, lost, removed, risen, mark_bad, again, replaced, trash_behind, trashed_seal, seal_in, seal_of, sealed_of, take_lease}
use Rattle.gs_store.specs.Whole.{TrashSealed, Reaches, Keeps, LiveWhole, TrashWhole, IsWholeSlot}
use Rattle.gs_store.specs.Serving.{apply_to}
use Rattle.gs_store.specs.Moves.{in_trash, copied_in}
use Rattle.gs_store_seal.specs.Rollback.{later}
use Rattle.gs_store.specs.Learning.{start_of, rolled_to, prepared, finalized}
use Rattle.gs_store.specs.Calls.{Call, Creates, Advances, CopiesIn, TakesCopy, Drops, TakesLease, Loses, Damages, MarksBad, Applies, Seals, Unseals, RollsBack, called}
use Rattle.gs_store.specs.Stores.{or_nothing}
use Rattle.gs_store.proofs.Calls.{standing_in}
use Rattle.gs_store.proofs.Laws.{not_both, not_below, Holds, of_ok, of_cond, of_unless, of_again, of_raised, not_old}
use Rattle.gs_store.proofs.Standing.{of_live, of_trash, trashed_in, same_ok}
use Rattle.gs_store.proofs.Copying.{of_copied, Made, then_ok}
use Rattle.gs_store.proofs.Running.{never_below, not_before_same, is_granted, first_none}
use Rattle.gs_server.specs.Places.{Place}
use Rattle.gs_server.specs.Servers.{Server, new, place_of}
use Rattle.gs_server.specs.Runs.{Event, behind, behind_all, slot_in, reseals, Spares, IsReached}
use Rattle.gs_server.proofs.Walks.{Brings}
use Rattle.gs_server.proofs.Walks as walks
use Rattle.gs_server.proofs.Happening.{goes_at, IsCopied}
use Rattle.gs_server.proofs.Behind.{event_sizes}

-- a chunk of a store's sizes
pub record IsOfSizes (block chunk : ℕ) (c : Stored) : Type 0 where
  pub stored : IsStored c
  pub block_is : c.block ≡ block
  pub chunk_is : c.chunk ≡ chunk

abbrev SealOf : ℕ → ℕ → Option Sealed → Type 0
SealOf block chunk None = Unit {0}
SealOf block chunk (Some t) = IsOfSizes block chunk t.undone

pub record IsReplicaOf (block chunk : ℕ) (r : State) : Type 0 where
  pub stands : IsOfSizes block chunk r.held.chunk
  pub undone : SealOf block chunk r.sealed

abbrev LiveOf : ℕ → ℕ → Option Live → Type 0
LiveOf block chunk None = Unit {0}
LiveOf block chunk (Some l) = IsReplicaOf block chunk l.replica

abbrev TrashOf : ℕ → ℕ → Option State → Type 0
TrashOf block chunk None = Unit {0}
TrashOf block chunk (Some r) = IsReplicaOf block chunk r

pub record IsWholeOf (block chunk : ℕ) (s : Slot) : Type 0 where
  pub keeps : Keeps s.promise s.live s.trash s.taken
  pub live : LiveOf block chunk s.live
  pub trash : TrashOf block chunk s.trash

undone_whole : (block chunk : ℕ) (c : Stored) (o : Option Sealed) → IsOfSizes block chunk c → SealOf block chunk o → HasUndone c o
undone_whole block chunk c None here seal = tt
undone_whole block chunk c (Some t) here seal = record { block = seal.block_is ∙ sym here.block_is; chunk = seal.chunk_is ∙ sym here.chunk_is; stored = seal.stored }

live_whole : (block chunk : ℕ) (o : Option Live) → LiveOf block chunk o → LiveWhole o
live_whole block chunk None w = tt
live_whole block chunk (Some l) w = (let here = w.stands in record { stands = here.stored; undoing = undone_whole block chunk l.replica.held.chunk l.replica.sealed w.stands w.undone })

trash_whole : (block chunk : ℕ) (o : Option State) → TrashOf block chunk o → TrashWhole o
trash_whole block chunk None w = tt
trash_whole block chunk (Some r) w = (let here = w.stands in record { stands = here.stored; undoing = undone_whole block chunk r.held.chunk r.sealed w.stands w.undone })

whole_slot : (block chunk : ℕ) (s : Slot) → IsWholeOf block chunk s → IsWholeSlot s
whole_slot block chunk s w = record { keeps = w.keeps; live = live_whole block chunk s.live w.live; trash = trash_whole block chunk s.trash w.trash }

-- ---- edits and damage of a chunk

rewritten : (block chunk : ℕ) (s : Stored) (at end : ℕ) (bytes : List ℕ) → IsOfSizes block chunk s → at ≤ length s.bytes → at ≤ end → end ≤ s.chunk → length bytes ≡ max (length s.bytes) end → IsOfSizes block chunk (with_bytes s at end bytes)
unfolding with_bytes
rewritten block chunk s at end bytes w low order fits long =
    let stored = w.stored in
    let each = stored.each in
    let fit = stored.bytes_fit in
    let first = at / s.block in
    let last = count_of s.block end in
    let mid = digests_from s.block bytes first (last - first) in
    let up = first_counted s.block at (length s.bytes) stored.some_block low in
    let ahead = first_counted s.block at end stored.some_block order in
    let counted : length (take first s.digests ++ (mid ++ drop last s.digests)) ≡ max last (length s.digests) =
    length_of_parts s.digests mid first last ahead (let l : first ≤ length s.digests = omega arith in l) (length-map-range_with_len (digest_at s.block bytes) first (last - first)) in
    let most = count_max s.block (length s.bytes) end stored.some_block in
    let swap : max last (length s.digests) ≡ max (count_of s.block (length s.bytes)) last = omega arith in
    record {
      stored = record {
        some_block = stored.some_block;
        block_fits = stored.block_fits;
        chunk_fits = stored.chunk_fits;
        bytes_fit = (let n : length bytes ≤ s.chunk = omega arith in n);
        each = counted ∙ swap ∙ sym most ∙ ap (count_of s.block) (sym long);
      };
      block_is = w.block_is;
      chunk_is = w.chunk_is;
    }

taken_case : (P : Stored → Type 0) (t : Bool) (d : Option ℕ) (n s2 : Stored) → cond t (Err refusals.Range) (unless_damaged d n) ≡ Ok s2 → (t ≡ false → P n) → P s2
taken_case P true d n s2 e each = absurd (cc)
taken_case P false None n s2 e each = subst P (sym (same_ok n s2 e)) (each refl)
taken_case P false (Some k) n s2 e each = absurd (cc)

pad_case : (P : Stored → Type 0) (t : Bool) (d : Option ℕ) (s n s2 : Stored) → cond t (Ok s) (unless_damaged d n) ≡ Ok s2 → P s → P n → P s2
pad_case P true d s n s2 e old new = subst P (sym (same_ok s s2 e)) old
pad_case P false None s n s2 e old new = subst P (sym (same_ok n s2 e)) new
pad_case P false (Some k) s n s2 e old new = absurd (cc)

within : (many end chunk : ℕ) → ((many == 0) || nat_lt chunk end) ≡ false → end ≤ chunk
within many end chunk h = grind (arith, nat_tests)

edited_of : (block chunk : ℕ) (op : Op) (bytes : List ℕ) (s s2 : Stored) → edits.edited op bytes s ≡ Ok s2 → IsOfSizes block chunk s → IsOfSizes block chunk s2
edited_of block chunk (Write offset) bytes s s2 e w =
    let end = offset + length bytes in
    taken_case (IsOfSizes block chunk) (blocks.is_outside s offset bytes) (damaged_between s (min offset (length s.bytes)) end) (with_bytes s (min offset (length s.bytes)) end (written offset bytes s.bytes)) s2 e
    (λ inside. rewritten block chunk s (min offset (length s.bytes)) end (written offset bytes s.bytes) w (let l : min offset (length s.bytes) ≤ length s.bytes = omega arith in l) (let l : min offset (length s.bytes) ≤ offset + length bytes = omega arith in l)
    (within (length bytes) end s.chunk inside) (length-written offset bytes s.bytes))
edited_of block chunk Append bytes s s2 e w =
    let held = length s.bytes in
    let end = held + length bytes in
    let long : length (s.bytes ++ bytes) ≡ length s.bytes + length bytes = search (rules, places) in
    taken_case (IsOfSizes block chunk) (blocks.is_outside s held bytes) (damaged_between s held end) (with_bytes s held end (s.bytes ++ bytes)) s2 e
    (λ inside. rewritten block chunk s held end (s.bytes ++ bytes) w (let l : length s.bytes ≤ length s.bytes = omega arith in l) (let l : length s.bytes ≤ length s.bytes + length bytes = omega arith in l)
    (within (length bytes) end s.chunk inside) (let l : length (s.bytes ++ bytes) ≡ max (length s.bytes) (length s.bytes + length bytes) = omega arith in l))
edited_of block chunk Pad bytes s s2 e w =
    let held = length s.bytes in
    let stored = w.stored in
    let fit = stored.bytes_fit in
    let padded = s.bytes ++ replicate (s.chunk - length s.bytes) 0 in
    let long : length (s.bytes ++ replicate (s.chunk - length s.bytes) 0) ≡ length s.bytes + (s.chunk - length s.bytes) = search (rules, places) in
    pad_case (IsOfSizes block chunk) (held == s.chunk) (damaged_between s held s.chunk) s (with_bytes s held s.chunk padded) s2 e w
    (rewritten block chunk s held s.chunk padded w (let l : length s.bytes ≤ length s.bytes = omega arith in l) fit (let l : s.chunk ≤ s.chunk = omega arith in l)
    (let l : length (s.bytes ++ replicate (s.chunk - length s.bytes) 0) ≡ max (length s.bytes) s.chunk = omega arith in l))

abbrev hit : Stored → ℕ → Stored
hit s i = record { block = s.block; chunk = s.chunk; bytes = slice_set s.bytes (i * s.block) ((slice_index s.bytes (i * s.block) + 1) % 256); digests = s.digests }

hit_of : (block chunk index : ℕ) (s : Stored) → IsOfSizes block chunk s → IsOfSizes block chunk (hit s index)
hit_of block chunk index s w =
    let stored = w.stored in
    let fit = stored.bytes_fit in
    let long = length-set s.bytes (index * s.block) ((slice_index s.bytes (index * s.block) + 1) % 256) in
    record {
      stored = record { some_block = stored.some_block; block_fits = stored.block_fits; chunk_fits = stored.chunk_fits; bytes_fit = subst (λ n. n ≤ s.chunk) (sym long) fit; each = stored.each ∙ ap (count_of s.block) (sym long) };
      block_is = w.block_is;
      chunk_is = w.chunk_is;
    }

damage_case : (P : Stored → Type 0) (t : Bool) (n s2 : Stored) → cond t (Ok n) (Err refusals.Range) ≡ Ok s2 → P n → P s2
damage_case P true n s2 e w = subst P (sym (same_ok n s2 e)) w
damage_case P false n s2 e w = absurd (cc)

damaged_of : (block chunk index : ℕ) (s s2 : Stored) → blocks.damage s index ≡ Ok s2 → IsOfSizes block chunk s → IsOfSizes block chunk s2
damaged_of block chunk index s s2 e w = damage_case (IsOfSizes block chunk) (nat_lt index (length s.digests)) (hit s index) s2 e (hit_of block chunk index s w)

before_case : (P : Stored → Type 0) (t b : Bool) (s n : Stored) → P s → P n → P (cond t s (or_same (cond b (Ok n) (Err refusals.Range)) s))
before_case P true b s n old new = old
before_case P false true s n old new = new
before_case P false false s n old new = old

-- ---- of a replica

-- what is left by an edit, or by damage
pub record IsAs (block chunk : ℕ) (r r2 : State) : Type 0 where
  pub promise : r2.held.promise ≡ r.held.promise
  pub sealed : is_some r2.sealed ≡ is_some r.sealed
  pub whole : IsReplicaOf block chunk r2

on_some : (f : Sealed → Sealed) (o : Option Sealed) → is_some (on_seal f o) ≡ is_some o
on_some f None = refl
on_some f (Some t) = refl

on_undone : (block chunk : ℕ) (f : Sealed → Sealed) (o : Option Sealed) → ((t : Sealed) → IsOfSizes block chunk t.undone → IsOfSizes block chunk (f t).undone) → SealOf block chunk o → SealOf block chunk (on_seal f o)
on_undone block chunk f None each w = tt
on_undone block chunk f (Some t) each w = each t w

pub record HeldAs (block chunk : ℕ) (h h2 : Held) : Type 0 where
  pub promise : h2.promise ≡ h.promise
  pub whole : IsOfSizes block chunk h2.chunk

edit_case : (block chunk : ℕ) (req : ReqId) (op : Op) (bytes : List ℕ) (h h2 : Held) (m : Result Stored Refusal) → edits.edited op bytes h.chunk ≡ m → edits.with_edit h req op m ≡ Ok h2 → IsOfSizes block chunk h.chunk → HeldAs block chunk h h2
edit_case block chunk req op bytes h h2 (Err g) is e w = absurd (cc)
edit_case block chunk req op bytes h h2 (Ok s) is e w = subst (HeldAs block chunk h) (sym (same_ok _ h2 e)) (record { promise = refl; whole = edited_of block chunk op bytes h.chunk s is w })

as_left : (block chunk : ℕ) (f : Sealed → Sealed) (r r2 : State) → HeldAs block chunk r.held r2.held → r2.sealed ≡ on_seal f r.sealed → SealOf block chunk (on_seal f r.sealed) → IsAs block chunk r r2
as_left block chunk f r r2 h is undone = record {
  promise = h.promise;
  sealed = ap (λ (o : Option Sealed). is_some o) is ∙ on_some f r.sealed;
  whole = record { stands = h.whole; undone = subst (SealOf block chunk) (sym is) undone };
}

applied_as : (block chunk : ℕ) (stamp : Stamp) (number : ℕ) (req : ReqId) (op : Op) (bytes : List ℕ) (r r2 : State) → replicas.apply stamp number req op bytes r ≡ Ok r2 → IsReplicaOf block chunk r → IsAs block chunk r r2
applied_as block chunk stamp number req op bytes r r2 e w =
    let h = r.held in
    let s = seal_ok _ _ r2 e in
    let j = judged_ok (is_same stamp h.promise) (number == (h.count + 1)) (edits.is_old req.number (fin.get h.done req.client.0)) (refusals.Gap h.count) (refusals.Stamp h.promise) (edits.with_edit h req op (edits.edited op bytes h.chunk)) r2.held s.0 in
    as_left block chunk (touch_seal req op bytes h) r r2 (edit_case block chunk req op bytes h r2.held (edits.edited op bytes h.chunk) refl j.3 w.stands) s.1
    (on_undone block chunk (touch_seal req op bytes h) r.sealed (λ t has. has) w.undone)

chunk_case : (block chunk index : ℕ) (h h2 : Held) (m : Result Stored Refusal) → blocks.damage h.chunk index ≡ m → edits.on_chunk h m ≡ Ok h2 → IsOfSizes block chunk h.chunk → HeldAs block chunk h h2
chunk_case block chunk index h h2 (Err g) is e w = absurd (cc)
chunk_case block chunk index h h2 (Ok s) is e w = subst (HeldAs block chunk h) (sym (same_ok _ h2 e)) (record { promise = refl; whole = damaged_of block chunk index h.chunk s is w })

damaged_as : (block chunk index : ℕ) (r r2 : State) → replicas.damage index r ≡ Ok r2 → IsReplicaOf block chunk r → IsAs block chunk r r2
damaged_as block chunk index r r2 e w =
    let s = seal_ok _ _ r2 e in
    as_left block chunk (damage_seal index) r r2 (chunk_case block chunk index r.held r2.held (blocks.damage r.held.chunk index) refl s.0 w.stands) s.1
    (on_undone block chunk (damage_seal index) r.sealed
    (λ t has. before_case (IsOfSizes block chunk) (slice_index_or t.touched index true) (nat_lt index (length t.undone.digests)) t.undone (hit t.undone index) has (hit_of block chunk index t.undone has)) w.undone)

-- ---- of a slot

reaches_on : (p q : Stamp) (o : Option Stamp) → is_before q p ≡ false → Reaches p o → Reaches q o
reaches_on p q None up reached = tt
reaches_on p q (Some t) up reached = never_below t p q reached up

sealed_one : (o : Option Sealed) (r : State) (trash : Option State) → r.sealed ≡ o → TrashSealed trash → TrashSealed (trash_of o r trash)
sealed_one None r trash is has = has
sealed_one (Some t) r trash is has = ap is_some is

sealed_behind : (live : Option Live) (trash : Option State) → TrashSealed trash → TrashSealed (trash_behind live trash)
sealed_behind None trash has = has
sealed_behind (Some l) trash has = sealed_one l.replica.sealed l.replica trash refl has

trash_one : (block chunk : ℕ) (o : Option Sealed) (r : State) (trash : Option State) → IsReplicaOf block chunk r → TrashOf block chunk trash → TrashOf block chunk (trash_of o r trash)
trash_one block chunk None r trash here has = has
trash_one block chunk (Some t) r trash here has = here

whole_behind : (block chunk : ℕ) (live : Option Live) (trash : Option State) → LiveOf block chunk live → TrashOf block chunk trash → TrashOf block chunk (trash_behind live trash)
whole_behind block chunk None trash here has = has
whole_behind block chunk (Some l) trash here has = trash_one block chunk l.replica.sealed l.replica trash here has

removed_whole : (block chunk : ℕ) (s : Slot) → IsWholeOf block chunk s → IsWholeOf block chunk (removed s)
removed_whole block chunk s w =
    let k = w.keeps in
    record {
      keeps = record { live_is = tt; trash_is = sealed_behind s.live s.trash k.trash_is; one = refl; taken_is = k.taken_is };
      live = tt;
      trash = whole_behind block chunk s.live s.trash w.live w.trash;
    }

-- a replica that takes another's place
pub record IsFresh (block chunk : ℕ) (stamp : Stamp) (r : State) : Type 0 where
  pub promise : r.held.promise ≡ stamp
  pub unsealed : r.sealed ≡ None
  pub whole : IsReplicaOf block chunk r

replaced_whole : (block chunk : ℕ) (stamp : Stamp) (carried : Bool) (r : State) (s : Slot) → is_before s.promise stamp ≡ true → IsFresh block chunk stamp r → IsWholeOf block chunk s → IsWholeOf block chunk (replaced stamp carried r s)
replaced_whole block chunk stamp carried r s above f w =
    let k = w.keeps in
    record {
      keeps = record {
        live_is = f.promise;
        trash_is = sealed_behind s.live s.trash k.trash_is;
        one = ap (λ (o : Option Sealed). is_some o && is_some (trash_behind s.live s.trash)) f.unsealed;
        taken_is = reaches_on s.promise stamp s.taken (not_both s.promise stamp above) k.taken_is;
      };
      live = f.whole;
      trash = whole_behind block chunk s.live s.trash w.live w.trash;
    }

raised_whole : (block chunk : ℕ) (stamp : Stamp) (carried : Bool) (r : State) (s : Slot) → IsFresh block chunk stamp r → IsWholeOf block chunk s → Holds (IsWholeOf block chunk) (cond (is_before s.promise stamp) (Ok (replaced stamp carried r s)) (again stamp s))
raised_whole block chunk stamp carried r s f w = of_raised (IsWholeOf block chunk) stamp carried r s w (λ above. replaced_whole block chunk stamp carried r s above f w)

-- sizes of which chunks are
pub record AreSizes (block chunk : ℕ) : Type 0 where
  pub some_block : 1 ≤ block
  pub block_fits : block ≤ 65536
  pub chunk_fits : chunk ≤ 67108864

not_over : (many chunk : ℕ) → nat_lt chunk many ≡ false → many ≤ chunk
not_over many chunk h = grind (arith, nat_tests)

as_many : (a b : ℕ) → (a == b) ≡ true → a ≡ b
as_many a b h = grind (arith, nat_tests)

image_case : (t : Bool) (block chunk : ℕ) (stamp : Stamp) (i : Image) (r : State) → AreSizes block chunk → (t ≡ false → length i.bytes ≤ chunk) →
    (let s : Stored = record { block = block; chunk = chunk; bytes = i.bytes; digests = digests_of block i.bytes } in with_seal None (edits.held_of stamp i.count i.done (cond t (Err refusals.Range) (Ok s)))) ≡ Ok r → IsFresh block chunk stamp r
image_case true block chunk stamp i r sizes fits e = absurd (cc)
image_case false block chunk stamp i r sizes fits e = subst (IsFresh block chunk stamp) (sym (same_ok _ r e)) (record {
  promise = refl;
  unsealed = refl;
  whole = record {
    stands = record {
      stored = record { some_block = sizes.some_block; block_fits = sizes.block_fits; chunk_fits = sizes.chunk_fits; bytes_fit = fits refl; each = length-map-range_with_len (digest_at block i.bytes) 0 (count_of block (length i.bytes)) };
      block_is = refl;
      chunk_is = refl;
    };
    undone = tt;
  };
})

pub record IsTrashed (block chunk : ℕ) (r : State) : Type 0 where
  pub sealed : is_some r.sealed ≡ true
  pub whole : IsReplicaOf block chunk r

carried_case : (a b : Bool) (block chunk : ℕ) (i : SealedImage) (r : State) → AreSizes block chunk → (a ≡ false → length i.image.bytes ≤ chunk) → (b ≡ true → length i.digests ≡ count_of block (length i.image.bytes)) →
    (let s : Stored = record { block = block; chunk = chunk; bytes = i.image.bytes; digests = i.digests } in
    sealed_there (edits.held_of i.stamp i.image.count i.image.done (cond a (Err refusals.Range) (cond b (Ok s) (Err refusals.BadLine))))) ≡ Ok r → IsTrashed block chunk r
carried_case true b block chunk i r sizes fits each e = absurd (cc)
carried_case false false block chunk i r sizes fits each e = absurd (cc)
carried_case false true block chunk i r sizes fits each e =
    let s : Stored = record { block = block; chunk = chunk; bytes = i.image.bytes; digests = i.digests } in
    let here : IsOfSizes block chunk s = record {
      stored = record { some_block = sizes.some_block; block_fits = sizes.block_fits; chunk_fits = sizes.chunk_fits; bytes_fit = fits refl; each = each refl };
      block_is = refl;
      chunk_is = refl;
    } in
    subst (IsTrashed block chunk) (sym (same_ok _ r e)) (record { sealed = refl; whole = record { stands = here; undone = here } })

carried_trashed : (block chunk : ℕ) (i : SealedImage) (r : State) → AreSizes block chunk → of_sealed block chunk i ≡ Ok r → IsTrashed block chunk r
carried_trashed block chunk i r sizes e =
    carried_case (nat_lt chunk (length i.image.bytes)) (length i.digests == count_of block (length i.image.bytes)) block chunk i r sizes (not_over (length i.image.bytes) chunk) (as_many (length i.digests) (count_of block (length i.image.bytes))) e

carried_whole : (block chunk : ℕ) (stamp : Stamp) (carried : Bool) (r t : State) (s : Slot) → IsFresh block chunk stamp r → IsTrashed block chunk t → IsWholeOf block chunk (replaced stamp carried r s) → IsWholeOf block chunk (in_trash (Some t) (replaced stamp carried r s))
carried_whole block chunk stamp carried r t s f q w =
    let k = w.keeps in
    record {
      keeps = record { live_is = k.live_is; trash_is = q.sealed; one = ap (λ (o : Option Sealed). is_some o && true) f.unsealed; taken_is = k.taken_is };
      live = w.live;
      trash = q.whole;
    }

copied_whole : (block chunk : ℕ) (stamp : Stamp) (i : Image) (sealed : Option SealedImage) (p : State × Option State) (s : Slot) → AreSizes block chunk → is_before s.promise stamp ≡ true → Made block chunk stamp i sealed p → IsWholeOf block chunk s →
    IsWholeOf block chunk (in_trash p.1 (replaced stamp (is_some sealed) p.0 s))
copied_whole block chunk stamp i None p s sizes above m w =
    let f = image_case (nat_lt chunk (length i.bytes)) block chunk stamp i p.0 sizes (not_over (length i.bytes) chunk) m.live in
    subst (λ (o : Option State). IsWholeOf block chunk (in_trash o (replaced stamp false p.0 s))) (sym (same_ok None p.1 m.trash)) (replaced_whole block chunk stamp false p.0 s above f w)
copied_whole block chunk stamp i (Some t) p s sizes above m w =
    let f = image_case (nat_lt chunk (length i.bytes)) block chunk stamp i p.0 sizes (not_over (length i.bytes) chunk) m.live in
    let a = then_ok (of_sealed block chunk t) (λ q. Ok (Some q)) p.1 m.trash in
    subst (λ (o : Option State). IsWholeOf block chunk (in_trash o (replaced stamp true p.0 s))) (sym (same_ok (Some a.first) p.1 a.then))
    (carried_whole block chunk stamp true p.0 a.first s f (carried_trashed block chunk t a.first sizes a.made) (replaced_whole block chunk stamp true p.0 s above f w))

-- a slot by its fields
abbrev slot : Stamp → Bool → Option Live → Option State → Option Stamp → Slot
slot promise carried live trash taken = record { promise = promise; carried = carried; live = live; trash = trash; taken = taken }

module _ (block chunk : ℕ) where
  risen_whole : (stamp promise : Stamp) (carried : Bool) (live : Option Live) (trash : Option State) (taken : Option Stamp) → is_before stamp promise ≡ false → IsWholeOf block chunk (slot promise carried live trash taken) → IsWholeOf block chunk (risen stamp (slot promise carried live trash taken))
  risen_whole stamp promise carried None trash taken up w =
      let k = w.keeps in
      record { keeps = record { live_is = tt; trash_is = k.trash_is; one = k.one; taken_is = reaches_on promise stamp taken up k.taken_is }; live = tt; trash = w.trash }
  risen_whole stamp promise carried (Some l) trash taken up w =
      let k = w.keeps in
      let z = w.live in
      record { keeps = record { live_is = refl; trash_is = k.trash_is; one = k.one; taken_is = reaches_on promise stamp taken up k.taken_is }; live = record { stands = z.stands; undone = z.undone }; trash = w.trash }

  as_live : (promise : Stamp) (carried : Bool) (l : Live) (r : State) (trash : Option State) (taken : Option Stamp) → IsAs block chunk l.replica r → IsWholeOf block chunk (slot promise carried (Some l) trash taken) → IsWholeOf block chunk (standing_in (slot promise carried (Some l) trash taken) l.bad r)
  as_live promise carried l r trash taken m w =
      let k = w.keeps in
      record { keeps = record { live_is = m.promise ∙ k.live_is; trash_is = k.trash_is; one = ap (λ b. b && is_some trash) m.sealed ∙ k.one; taken_is = k.taken_is }; live = m.whole; trash = w.trash }

  as_trash : (promise : Stamp) (carried : Bool) (t r : State) (taken : Option Stamp) → IsAs block chunk t r → IsWholeOf block chunk (slot promise carried None (Some t) taken) → IsWholeOf block chunk (trashed_in (slot promise carried None (Some t) taken) r)
  as_trash promise carried t r taken m w = (let k = w.keeps in record { keeps = record { live_is = tt; trash_is = m.sealed ∙ k.trash_is; one = refl; taken_is = k.taken_is }; live = tt; trash = m.whole })

  damaged_whole : (index : ℕ) (promise : Stamp) (carried : Bool) (live : Option Live) (trash : Option State) (taken : Option Stamp) → IsWholeOf block chunk (slot promise carried live trash taken) → Holds (IsWholeOf block chunk) (damage_of index (slot promise carried live trash taken) live trash)
  damaged_whole index promise carried None None taken w = tt
  damaged_whole index promise carried None (Some t) taken w = of_trash (IsWholeOf block chunk) (slot promise carried None (Some t) taken) (replicas.damage index t) (λ r e. as_trash promise carried t r taken (damaged_as block chunk index t r e w.trash) w)
  damaged_whole index promise carried (Some l) trash taken w = of_live (IsWholeOf block chunk) (slot promise carried (Some l) trash taken) l.bad (replicas.damage index l.replica) (λ r e. as_live promise carried l r trash taken (damaged_as block chunk index l.replica r e w.live) w)

  applied_whole : (stamp : Stamp) (number : ℕ) (req : ReqId) (op : Op) (bytes : List ℕ) (promise : Stamp) (carried : Bool) (live : Option Live) (trash : Option State) (taken : Option Stamp) → IsWholeOf block chunk (slot promise carried live trash taken) →
      Holds (IsWholeOf block chunk) (apply_to stamp number req op bytes (slot promise carried live trash taken) live)
  applied_whole stamp number req op bytes promise carried None trash taken w = tt
  applied_whole stamp number req op bytes promise carried (Some l) trash taken w =
      of_live (IsWholeOf block chunk) (slot promise carried (Some l) trash taken) l.bad (replicas.apply stamp number req op bytes l.replica) (λ r e. as_live promise carried l r trash taken (applied_as block chunk stamp number req op bytes l.replica r e w.live) w)

  marked_whole : (index : ℕ) (promise : Stamp) (carried : Bool) (live : Option Live) (trash : Option State) (taken : Option Stamp) → IsWholeOf block chunk (slot promise carried live trash taken) → IsWholeOf block chunk (mark_bad index (slot promise carried live trash taken))
  marked_whole index promise carried None trash taken w = (let k = w.keeps in record { keeps = record { live_is = tt; trash_is = k.trash_is; one = k.one; taken_is = k.taken_is }; live = tt; trash = w.trash })
  marked_whole index promise carried (Some l) trash taken w = (let k = w.keeps in record { keeps = record { live_is = k.live_is; trash_is = k.trash_is; one = k.one; taken_is = k.taken_is }; live = w.live; trash = w.trash })

  prepared_whole : (promise : Stamp) (carried : Bool) (live : Option Live) (trash : Option State) (taken : Option Stamp) → IsWholeOf block chunk (slot promise carried live trash taken) → IsWholeOf block chunk (prepared (slot promise carried live trash taken))
  prepared_whole promise carried None trash taken w = (let k = w.keeps in record { keeps = record { live_is = tt; trash_is = tt; one = refl; taken_is = k.taken_is }; live = tt; trash = tt })
  prepared_whole promise carried (Some l) trash taken w =
      let k = w.keeps in
      let z = w.live in
      record { keeps = record { live_is = k.live_is; trash_is = tt; one = refl; taken_is = k.taken_is }; live = record { stands = z.stands; undone = z.stands }; trash = tt }

  finalized_whole : (promise : Stamp) (carried : Bool) (live : Option Live) (trash : Option State) (taken : Option Stamp) → IsWholeOf block chunk (slot promise carried live trash taken) → IsWholeOf block chunk (finalized (slot promise carried live trash taken))
  finalized_whole promise carried None trash taken w = (let k = w.keeps in record { keeps = record { live_is = tt; trash_is = tt; one = refl; taken_is = k.taken_is }; live = tt; trash = tt })
  finalized_whole promise carried (Some l) trash taken w =
      let k = w.keeps in
      let z = w.live in
      record { keeps = record { live_is = k.live_is; trash_is = tt; one = refl; taken_is = k.taken_is }; live = record { stands = z.stands; undone = tt }; trash = tt }

  lost_whole : (s : Slot) → IsWholeOf block chunk s → IsWholeOf block chunk (lost s)
  lost_whole s w = (let k = w.keeps in record { keeps = record { live_is = tt; trash_is = tt; one = refl; taken_is = k.taken_is }; live = tt; trash = tt })

  trash_seal : (trash : Option State) → TrashOf block chunk trash → SealOf block chunk (trashed_seal trash)
  trash_seal None has = tt
  trash_seal (Some r) has = has.undone

  in_seal : (o : Option Sealed) (trash : Option State) → SealOf block chunk o → TrashOf block chunk trash → SealOf block chunk (seal_in o trash)
  in_seal None trash here has = trash_seal trash has
  in_seal (Some t) trash here has = here

  seal_whole : (live : Option Live) (trash : Option State) → LiveOf block chunk live → TrashOf block chunk trash → SealOf block chunk (seal_of live trash)
  seal_whole None trash here has = trash_seal trash has
  seal_whole (Some l) trash here has = in_seal l.replica.sealed trash here.undone has

  undone_case : (promise : Stamp) (t : Sealed) (d : Option ℕ) (s : Slot) → is_before promise s.promise ≡ false → IsOfSizes block chunk t.undone → IsWholeOf block chunk s →
      (let r : State = record { held = record { chunk = t.undone; count = t.count; done = t.done; promise = promise }; sealed = None } in IsWholeOf block chunk (rolled_to promise (unless_damaged d r) s))
  undone_case promise t None s up has w =
      let k = w.keeps in
      record { keeps = record { live_is = refl; trash_is = tt; one = refl; taken_is = reaches_on s.promise promise s.taken up k.taken_is }; live = record { stands = has; undone = tt }; trash = tt }
  undone_case promise t (Some index) s up has w = lost_whole s w

  rolled_whole : (promise : Stamp) (o : Option Sealed) (s : Slot) → is_before promise s.promise ≡ false → SealOf block chunk o → IsWholeOf block chunk s → IsWholeOf block chunk (rolled_to promise (roll_back_to promise o) s)
  rolled_whole promise None s up has w = lost_whole s w
  rolled_whole promise (Some t) s up has w = undone_case promise t (lowest_damaged t.undone) s up has w

  leased_whole : (stamp : Stamp) (s : Slot) → is_same stamp s.promise ≡ true → IsWholeOf block chunk s → IsWholeOf block chunk (taking stamp s)
  leased_whole stamp s same w =
      let k = w.keeps in
      record { keeps = record { live_is = k.live_is; trash_is = k.trash_is; one = k.one; taken_is = not_before_same stamp s.promise same }; live = w.live; trash = w.trash }

  stays_whole : (c : Call) (s : Slot) → AreSizes block chunk → Brings (λ h. IsOfSizes block chunk h.chunk) c → IsWholeOf block chunk s → Holds (IsWholeOf block chunk) (called block chunk c s)
  stays_whole (Creates stamp) s sizes brought w =
      raised_whole block chunk stamp false (record { held = edits.fresh block chunk stamp; sealed = None }) s (record {
        promise = refl;
        unsealed = refl;
        whole = record { stands = record { stored = empty_stored block chunk sizes.some_block sizes.block_fits sizes.chunk_fits; block_is = refl; chunk_is = refl }; undone = tt };
      }) w
  stays_whole (Advances stamp) s sizes brought w =
      of_unless (IsWholeOf block chunk) (first_of (unless_live s.live ∷ if_bad s.live ∷ when (is_before stamp s.promise) refusals.Old ∷ [])) (risen stamp s)
      (λ none. risen_whole stamp s.promise s.carried s.live s.trash s.taken (not_old (unless_live s.live) (if_bad s.live) (is_before stamp s.promise) refusals.Old none) w)
  stays_whole (CopiesIn stamp image sealed) s sizes brought w =
      of_cond (IsWholeOf block chunk) (is_before s.promise stamp) (copied_in block chunk stamp image sealed s) (again stamp s)
      (λ above. of_copied (IsWholeOf block chunk) block chunk stamp image sealed s (λ p m. copied_whole block chunk stamp image sealed p s sizes above m w))
      (λ _. of_again (IsWholeOf block chunk) stamp s w)
  stays_whole (TakesCopy h) s sizes brought w = raised_whole block chunk h.promise false (record { held = h; sealed = None }) s (record { promise = refl; unsealed = refl; whole = record { stands = brought; undone = tt } }) w
  stays_whole (Drops promise) s sizes brought w = of_unless (IsWholeOf block chunk) (first_of (unless_promised promise s ∷ unless_live s.live ∷ [])) (removed s) (λ _. removed_whole block chunk s w)
  stays_whole (TakesLease stamp) s sizes brought w =
      of_unless (IsWholeOf block chunk) (first_of (check_grant stamp s ∷ when (is_taken stamp s.taken) refusals.Old ∷ [])) (taking stamp s)
      (λ none. leased_whole stamp s (is_granted stamp s (unless_live s.live) (is_same stamp s.promise) (first_none (check_grant stamp s) (when (is_taken stamp s.taken) refusals.Old) none)) w)
  stays_whole Loses s sizes brought w =
      of_cond (IsWholeOf block chunk) (is_some s.live) (Ok (lost s)) (cond (is_some s.trash) (Ok (lost s)) (Err refusals.NoReplica)) (λ _. lost_whole s w)
      (λ _. of_cond (IsWholeOf block chunk) (is_some s.trash) (Ok (lost s)) (Err refusals.NoReplica) (λ _. lost_whole s w) (λ _. tt))
  stays_whole (Damages index) s sizes brought w = damaged_whole index s.promise s.carried s.live s.trash s.taken w
  stays_whole (MarksBad index) s sizes brought w = marked_whole index s.promise s.carried s.live s.trash s.taken w
  stays_whole (Applies stamp number req op bytes) s sizes brought w = applied_whole stamp number req op bytes s.promise s.carried s.live s.trash s.taken w
  stays_whole Seals s sizes brought w = prepared_whole s.promise s.carried s.live s.trash s.taken w
  stays_whole Unseals s sizes brought w = finalized_whole s.promise s.carried s.live s.trash s.taken w
  stays_whole (RollsBack epoch) s sizes brought w =
      rolled_whole (later s.promise (start_of epoch)) (sealed_of s) s (not_below s.promise (start_of epoch)) (seal_whole s.live s.trash w.live w.trash) w

-- ---- of every slot of a server

abbrev AllWhole : ℕ → ℕ → Server → Type 0
AllWhole block chunk s = (handle : ℕ) → IsWholeOf block chunk (slot_in handle s)

source_of : (block chunk : ℕ) (o : Option Live) (l : Live) → o ≡ Some l → LiveOf block chunk o → IsOfSizes block chunk l.replica.held.chunk
source_of block chunk o l is w = (let r : IsReplicaOf block chunk l.replica = subst (LiveOf block chunk) is w in r.stands)

copied_sizes : (block chunk : ℕ) (s : Server) → AllWhole block chunk s → (h : Held) → IsCopied s h → IsOfSizes block chunk h.chunk
copied_sizes block chunk s all h copy = (let w = all copy.from in subst (IsOfSizes block chunk) (sym copy.same) (source_of block chunk (slot_in copy.from s).live copy.live copy.stands w.live))

brings_each : (A B : Held → Type 0) (o : Option Held) → ((h : Held) → A h → B h) → walks.OfHeld A o → walks.OfHeld B o
brings_each A B None each has = tt
brings_each A B (Some h) each has = each h has

whole_on : (block chunk epoch : ℕ) (reseals : Bool) (Comes : Held → Type 0) (Spared : Type 0) (p q : Place) → AreSizes block chunk → ((h : Held) → Comes h → IsOfSizes block chunk h.chunk) → walks.Goes block chunk (walks.Suits epoch reseals Comes Spared p.slot) p q → IsWholeOf block chunk p.slot → IsWholeOf block chunk q.slot
whole_on block chunk epoch reseals Comes Spared p q sizes comes (inl still) w = subst (IsWholeOf block chunk) (sym still.slot) w
whole_on block chunk epoch reseals Comes Spared p q sizes comes (inr (inl m)) w =
    let fits = m.fits in
    of_ok (IsWholeOf block chunk) (called block chunk m.call p.slot) q.slot m.is (stays_whole block chunk m.call p.slot sizes (brings_each Comes (λ h. IsOfSizes block chunk h.chunk) (walks.brought m.call) comes fits.comes) w)
whole_on block chunk epoch reseals Comes Spared p q sizes comes (inr (inr t)) w =
    of_ok (IsWholeOf block chunk) (take_lease t.given.stamp p.slot) q.slot t.is (stays_whole block chunk (TakesLease t.given.stamp) p.slot sizes tt w)

whole_behind_all : (block chunk : ℕ) (events : List Event) (s : Server) → AreSizes block chunk → s.block ≡ block → s.chunk ≡ chunk → AllWhole block chunk s → AllWhole block chunk (behind_all events s)
whole_behind_all block chunk [] s sizes b c all = all
whole_behind_all block chunk (e ∷ events) s sizes b c all =
    let same = event_sizes e s in
    whole_behind_all block chunk events (behind e s) sizes (same.block ∙ b) (same.chunk ∙ c) (λ handle.
    whole_on block chunk (behind e s).kept.epoch (reseals handle e s) (IsCopied s) (Spares handle e s) (place_of handle s) (place_of handle (behind e s)) sizes (copied_sizes block chunk s all)
    (subst (λ n. walks.Goes n chunk (walks.Suits (behind e s).kept.epoch (reseals handle e s) (IsCopied s) (Spares handle e s) (slot_in handle s)) (place_of handle s) (place_of handle (behind e s))) b
    (subst (λ n. walks.Goes s.block n (walks.Suits (behind e s).kept.epoch (reseals handle e s) (IsCopied s) (Spares handle e s) (slot_in handle s)) (place_of handle s) (place_of handle (behind e s))) c (goes_at handle e s))) (all handle))

nothing_whole : (me block chunk : ℕ) → AllWhole block chunk (new me block chunk)
nothing_whole me block chunk handle =
    subst (λ (o : Option Slot). IsWholeOf block chunk (or_nothing o)) (sym (fin.get-empty nat_cmp handle))
    (record { keeps = record { live_is = tt; trash_is = tt; one = refl; taken_is = tt }; live = tt; trash = tt })

pub each_whole : (handle : ℕ) (s : Server) → IsReached s → IsWholeSlot (slot_in handle s)
each_whole handle s r =
    whole_slot r.block r.chunk (slot_in handle s)
    (subst (λ (x : Server). IsWholeOf r.block r.chunk (slot_in handle x)) (sym r.is)
    (whole_behind_all r.block r.chunk r.events (new r.me r.block r.chunk) (record { some_block = r.some_block; block_fits = r.block_fits; chunk_fits = r.chunk_fits }) refl refl (nothing_whole r.me r.block r.chunk) handle))
