-- Blocks that hold what the replica's list gives of them.
use Rattle.std.proofs.Common.{◌≡◌, ◌≢◌, ℕ, ◌<◌, arith, sym, ap, subst, ◌∙◌, Bool, true, false, cond, List, [], length, Option, Some, None}
use Rattle.std.specs.Prelude.{Result, Ok, Err, nat_lt, slice_index_or}
use Rattle.std.specs.Str.{bytes_eq}
use Rattle.gs_base.specs.declared.numbers.Stamp.{Stamp}
use Rattle.gs_base.specs.declared.refusal.Refusal.{Refusal}
use Rattle.gs_base.specs.declared.refusal.Refusal.TheVariants as refusals
use Rattle.gs_base.specs.Stamps.{is_before}
use Rattle.gs_block.specs.Stored.{Stored, block_at, digests_of, count_of, is_intact}
use Rattle.gs_block.specs.Kept.{Others}
use Rattle.gs_block.specs.Edits as blocks
use Rattle.gs_block.proofs.Others.{damage_others}
use Rattle.gs_block.proofs.Standing.{same_digest, written_intact}
use Rattle.gs_block.proofs.Telling.{whole_same}
use Rattle.gs_replica.specs.Held.{Held}
use Rattle.gs_replica.specs.Edits as edits
use Rattle.gs_replica.specs.Seals.{lowest_damaged}
use Rattle.gs_replica.specs.Copies.{Image}
use Rattle.gs_replica.specs.Stands.{Edit, StandsFor, HoldsBlock, IsToldFrom, replica_of}
use Rattle.gs_replica.proofs.Own.{own, own_told}
use Rattle.gs_replica.proofs.Sealing.{held_or}

-- what an accepted call on the chunk left
pub chunk_left : (r r2 : Held) (m : Result Stored Refusal) → edits.on_chunk r m ≡ Ok r2 → m ≡ Ok r2.chunk
unfolding held_or
chunk_left r r2 (Ok s) is = ap Ok (ap (λ q. (held_or q r2).chunk) is)
chunk_left r r2 (Err e) is = absurd (cc)

pub damage_holds : (block chunk k index : ℕ) (r r2 : Held) (xs : List Edit) → k ≢ index → StandsFor block chunk r xs → HoldsBlock block chunk r xs k → edits.damage index r ≡ Ok r2 → HoldsBlock block chunk r2 xs k
damage_holds block chunk k index r r2 xs other stands holds is =
    let w = stands.bytes in
    let stored = w.stored in
    let left : Others index r.chunk r2.chunk = damage_others r.chunk r2.chunk index stored.some_block (chunk_left r r2 (blocks.damage r.chunk index) is) in
    subst (λ n. block_at n k r2.chunk.bytes ≡ block_at n k r.chunk.bytes) stands.block (left.others k other) ∙ holds

promise_case : (t : Bool) (h h2 n : Held) → (let m : Result Held Refusal = cond t (Err refusals.Old) (Ok n) in m) ≡ Ok h2 → n.chunk ≡ h2.chunk
unfolding held_or
promise_case true h h2 n is = absurd (cc)
promise_case false h h2 n is = ap (λ q. (held_or q n).chunk) is

pub promise_holds : (block chunk k : ℕ) (stamp : Stamp) (r r2 : Held) (xs : List Edit) → HoldsBlock block chunk r xs k → edits.promise stamp r ≡ Ok r2 → HoldsBlock block chunk r2 xs k
promise_holds block chunk k stamp r r2 xs holds is = ap (λ (s : Stored). block_at block k s.bytes) (sym (promise_case (is_before stamp r.promise) r r2 _ is)) ∙ holds

-- the chunk of a replica that is made of another, or of an image
held_chunk : (stamp : Stamp) (i : Image) (r2 : Held) (m : Result Stored Refusal) → edits.held_of stamp i.count i.done m ≡ Ok r2 → m ≡ Ok r2.chunk
unfolding held_or
held_chunk stamp i r2 (Ok s) is = ap Ok (ap (λ q. (held_or q r2).chunk) is)
held_chunk stamp i r2 (Err e) is = absurd (cc)

stored_or : Result Stored Refusal → Stored → Stored
stored_or (Ok s) old = s
stored_or (Err e) old = old

copied_is : (d : Option ℕ) (s s2 : Stored) → blocks.unless_damaged d s ≡ Ok s2 → s ≡ s2
unfolding stored_or
copied_is None s s2 is = ap (λ q. stored_or q s) is
copied_is (Some k) s s2 is = absurd (cc)

made_is : (t : Bool) (s s2 : Stored) → (let m : Result Stored Refusal = cond t (Err refusals.Range) (Ok s) in m) ≡ Ok s2 → s ≡ s2
unfolding stored_or
made_is true s s2 is = absurd (cc)
made_is false s s2 is = ap (λ q. stored_or q s) is

pub copied_holds : (block chunk k : ℕ) (stamp : Stamp) (r r2 : Held) (xs : List Edit) → HoldsBlock block chunk r xs k → edits.copied stamp r ≡ Ok r2 → HoldsBlock block chunk r2 xs k
copied_holds block chunk k stamp r r2 xs holds is =
    let i : Image = record { bytes = r.chunk.bytes; count = r.count; done = r.done } in
    ap (λ (s : Stored). block_at block k s.bytes) (sym (copied_is (lowest_damaged r.chunk) r.chunk r2.chunk (held_chunk stamp i r2 (blocks.copied r.chunk) is))) ∙ holds

pub made_holds : (block chunk k : ℕ) (stamp : Stamp) (i : Image) (r2 : Held) (xs : List Edit) → i ≡ replica_of chunk xs → edits.held_of stamp i.count i.done (blocks.chunk_of block chunk i.bytes) ≡ Ok r2 → HoldsBlock block chunk r2 xs k
made_holds block chunk k stamp i r2 xs i_is is =
    ap (λ (s : Stored). block_at block k s.bytes) (sym (made_is (nat_lt chunk (length i.bytes)) _ r2.chunk (held_chunk stamp i r2 (blocks.chunk_of block chunk i.bytes) is)))
    ∙ ap (λ (j : Image). block_at block k j.bytes) i_is

-- such a block has its digest
intact_in : (size : ℕ) (xs ys : List ℕ) (ds : List (List ℕ)) (k : ℕ) → ds ≡ digests_of size ys → k < count_of size (length ys) → block_at size k xs ≡ block_at size k ys → is_intact size xs ds k ≡ true
unfolding is_intact
intact_in size xs ys ds k is below same = ap (λ d. bytes_eq d (slice_index_or ds k [])) (same_digest size k xs ys same) ∙ written_intact size ys ds k is below

pub holds_intact : (block chunk k : ℕ) (r : Held) (xs : List Edit) → StandsFor block chunk r xs → k < length r.chunk.digests → HoldsBlock block chunk r xs k → is_intact block r.chunk.bytes r.chunk.digests k ≡ true
holds_intact block chunk k r xs stands below holds =
    let w = stands.bytes in
    let stored = w.stored in
    let ys = (replica_of chunk xs).bytes in
    let digests : r.chunk.digests ≡ digests_of block ys = subst (λ n. r.chunk.digests ≡ digests_of n ys) stands.block w.digests in
    let counted : length r.chunk.digests ≡ count_of block (length ys) = subst (λ n. length r.chunk.digests ≡ count_of n (length ys)) stands.block (stored.each ∙ ap (count_of r.chunk.block) w.long) in
    intact_in block r.chunk.bytes ys r.chunk.digests k digests (omega arith) holds

-- and where no block is damaged each is such a block, if digests tell
pub undamaged_holds : (block chunk k : ℕ) (r : Held) (xs : List Edit) → StandsFor block chunk r xs → IsToldFrom block chunk r xs → lowest_damaged r.chunk ≡ None → HoldsBlock block chunk r xs k
undamaged_holds block chunk k r xs stands told none =
    let o = own block chunk r xs stands in
    ap (block_at block k) (whole_same r.chunk (replica_of r.chunk.chunk xs).bytes o.bytes (own_told block chunk r xs stands told) none ∙ ap (λ n. (replica_of n xs).bytes) stands.chunk)
