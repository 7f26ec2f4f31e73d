-- The blocks of a list's text are blocks of replicas that stand for it.
use Rattle.std.proofs.Common.{◌≡◌, ℕ, ◌+◌, ◌-◌, ◌*◌, ◌/◌, ◌<◌, ◌≤◌, ◌⊎◌, inl, inr, ⊎_elim, arith, rules, refl, sym, ap, subst, ◌∙◌, min, Bool, true, false, cond, List, [], ◌∷◌, ◌++◌, take, drop, length, get_or, Option, Some, None}
use Rattle.std.specs.Prelude.{Result, Ok, Err, nat_lt, ◌==◌, ◌||◌, replicate}
use Rattle.std.proofs.lemmas.Bool.{cases_lt}
use Rattle.std.proofs.lemmas.List.{places, same_lists, take-take, drop-take, drop-drop}
use Rattle.std.proofs.Math.Nat.{div-mul-le_self, mul-le-mul_right, add-mul}
use Rattle.gs_base.specs.declared.numbers.Stamp.{Stamp}
use Rattle.gs_base.specs.declared.numbers.ReqId.{ReqId}
use Rattle.std.specs.FinMap as fin
use Rattle.gs_base.specs.Stamps.{is_same}
use Rattle.gs_base.specs.declared.refusal.Refusal.{Refusal}
use Rattle.gs_base.specs.declared.refusal.Refusal.TheVariants as refusals
use Rattle.gs_block.specs.Chunk.{written}
use Rattle.gs_block.specs.Stored.{Stored, count_of, block_at, digest_at}
use Rattle.gs_block.specs.Edits.{with_bytes, damaged_between, unless_damaged}
use Rattle.gs_block.specs.Written.{WasWritten, ToldApart, TellsApart, HasBlocks}
use Rattle.gs_block.proofs.Back.{true_eq}
use Rattle.gs_block.proofs.Counts.{one_times}
use Rattle.gs_block.proofs.Kept.{drop-written, begins_behind}
use Rattle.gs_block.proofs.Standing.{verified_same}
use Rattle.gs_block.proofs.Writing.{take-written, appended_is_written, padded_is_written}
use Rattle.gs_replica.specs.declared.op.Op.{Op}
use Rattle.gs_replica.specs.declared.op.Op.TheVariants.{Write, Append, Pad}
use Rattle.gs_replica.specs.Held.{Held}
use Rattle.gs_replica.specs.Edits as edits
use Rattle.gs_replica.specs.Seals.{State, apply}
use Rattle.gs_replica.specs.Copies.{Image}
use Rattle.gs_replica.specs.Stands.{Edit, StandsFor, IsToldFrom, replica_of, edited_bytes}
use Rattle.gs_replica.proofs.Listing.{last_edit, judged_ok, seal_ok}
use Rattle.gs_store.specs.Slots.{Live, Slot}
use Rattle.gs_store.specs.Serving.{apply_to}
use Rattle.gs_store.specs.Standing.{LiveStandsFor, LiveToldFrom}
use Rattle.gs_store.proofs.Laws.{Holds}
use Rattle.gs_store.proofs.Standing.{of_live}
use Rattle.gs_laws_parts.specs.server.Blocks.{BlocksOf, HoldsBlocks}

-- ---- a text that is written

-- two parts that are equal are so after the same write
part_written : (low size offset : ℕ) (piece xs ys : List ℕ) → length xs ≡ length ys → take size (drop low xs) ≡ take size (drop low ys) →
    take size (drop low (written offset piece xs)) ≡ take size (drop low (written offset piece ys))
unfolding written
part_written low size offset piece xs ys long same = same_lists _ _ (search (rules, places)) (λ k d h.
    let at : get_or (take size (drop low xs)) k d ≡ get_or (take size (drop low ys)) k d = ap (λ l. get_or l k d) same in
    grind (arith, places))

block_before : (size i at : ℕ) (old new : List ℕ) → i * size + size ≤ at → take at new ≡ take at old → block_at size i new ≡ block_at size i old
block_before size i at old new within same =
    sym (drop-take (i * size) size new)
    ∙ ap (drop (i * size)) (sym (take-take (i * size + size) at new within) ∙ ap (take (i * size + size)) same ∙ take-take (i * size + size) at old within)
    ∙ drop-take (i * size) size old

block_behind : (size i end : ℕ) (old new : List ℕ) → end ≤ i * size → drop end new ≡ drop end old → block_at size i new ≡ block_at size i old
block_behind size i end old new within same =
    let e : end + (i * size - end) ≡ i * size = omega arith in
    ap (take size) (ap (λ n. drop n new) (sym e) ∙ sym (drop-drop (i * size - end) end new) ∙ ap (drop (i * size - end)) same ∙ drop-drop (i * size - end) end old ∙ ap (λ n. drop n old) e)

ends_before : (size at i : ℕ) → i < at / size → i * size + size ≤ at
ends_before size at i below =
    let up : (i + 1) * size ≤ at / size * size = mul-le-mul_right size (let n : i + 1 ≤ at / size = omega arith in n) in
    let most = div-mul-le_self at size in
    let one : (i + 1) * size ≡ i * size + size = add-mul i 1 size ∙ ap (λ k. i * size + k) (one_times size) in
    omega arith

-- after a write of a replica that verified what it touched
write_blocks : (s : Stored) (ys piece : List ℕ) (offset : ℕ) → WasWritten s ys → ToldApart s.block s.bytes ys → damaged_between s (min offset (length s.bytes)) (offset + length piece) ≡ None
    → BlocksOf s.block (written offset piece ys) (written offset piece s.bytes) ys
write_blocks s ys piece offset w told none i =
    let stored = w.stored in
    let long = w.long in
    let at = min offset (length s.bytes) in
    let end = offset + length piece in
    let start : min offset (length ys) ≡ at = omega arith in
    ⊎_elim
    (λ (below : i < at / s.block). inr (block_before s.block i at ys (written offset piece ys) (ends_before s.block at i below) (subst (λ n. take n (written offset piece ys) ≡ take n ys) start (sym (take-written offset piece ys)))))
    (λ (above : at / s.block ≤ i). ⊎_elim
    (λ (inside : i < count_of s.block end). inl (sym (part_written (i * s.block) s.block offset piece s.bytes ys w.long (verified_same s ys at end i w told none above inside))))
    (λ (behind : count_of s.block end ≤ i). inr (block_behind s.block i end ys (written offset piece ys) (begins_behind s.block end i stored.some_block behind) (drop-written offset piece ys)))
    (cases_lt i (count_of s.block end)))
    (cases_lt i (at / s.block))

-- ---- a replica that is edited

stored_or : Result Stored Refusal → Stored → Stored
stored_or (Ok s) old = s
stored_or (Err e) old = old

-- what was accepted was in range, and had no damaged block
accepted : (t : Bool) (d : Option ℕ) (n s2 : Stored) → (let m : Result Stored Refusal = cond t (Err refusals.Range) (unless_damaged d n) in m) ≡ Ok s2 → (d ≡ None) × (n ≡ s2)
unfolding stored_or
accepted true d n s2 is = absurd (cc)
accepted false None n s2 is = (refl, ap (λ r. stored_or r n) is)
accepted false (Some k) n s2 is = absurd (cc)

filled : (t : Bool) (d : Option ℕ) (s n s2 : Stored) → (let m : Result Stored Refusal = cond t (Ok s) (unless_damaged d n) in m) ≡ Ok s2 → (t ≡ true) × (s ≡ s2) ⊎ (t ≡ false) × (d ≡ None) × (n ≡ s2)
unfolding stored_or
filled true d s n s2 is = inl (refl, ap (λ r. stored_or r s) is)
filled false None s n s2 is = inr (refl, refl, ap (λ r. stored_or r n) is)
filled false (Some k) s n s2 is = absurd (cc)

nothing_missing : (chunk : ℕ) (ys : List ℕ) → length ys ≡ chunk → ys ++ replicate (chunk - length ys) 0 ≡ ys
nothing_missing chunk ys full = same_lists _ _ (let e : length (ys ++ replicate (chunk - length ys) 0) ≡ length ys + (chunk - length ys) = search (rules, places) in omega arith) (λ k d h. grind (arith, places))

edited_blocks : (op : Op) (s s2 : Stored) (piece ys : List ℕ) → WasWritten s ys → ToldApart s.block s.bytes ys → edits.edited op piece s ≡ Ok s2 → BlocksOf s.block (edited_bytes s.chunk op piece ys) s2.bytes ys
unfolding with_bytes
edited_blocks (Write offset) s s2 piece ys w told is =
    let at = min offset (length s.bytes) in
    let end = offset + length piece in
    let a = accepted ((length piece == 0) || nat_lt s.chunk end) (damaged_between s at end) (with_bytes s at end (written offset piece s.bytes)) s2 is in
    subst (λ (n : Stored). BlocksOf s.block (written offset piece ys) n.bytes ys) a.1 (write_blocks s ys piece offset w told a.0)
edited_blocks Append s s2 piece ys w told is =
    let held = length s.bytes in
    let end = held + length piece in
    let long = w.long in
    let a = accepted ((length piece == 0) || nat_lt s.chunk end) (damaged_between s held end) (with_bytes s held end (s.bytes ++ piece)) s2 is in
    let m : min held held ≡ held = omega arith in
    let none : damaged_between s (min held held) end ≡ None = ap (λ n. damaged_between s n end) m ∙ a.0 in
    subst (λ (n : Stored). BlocksOf s.block (ys ++ piece) n.bytes ys) a.1
    (subst (λ zs. BlocksOf s.block zs (s.bytes ++ piece) ys) (ap (λ n. written n piece ys) w.long ∙ appended_is_written piece ys)
    (subst (λ xs. BlocksOf s.block (written held piece ys) xs ys) (appended_is_written piece s.bytes) (write_blocks s ys piece held w told none)))
edited_blocks Pad s s2 piece ys w told is =
    let held = length s.bytes in
    let long = w.long in
    let stored = w.stored in
    let fit = stored.bytes_fit in
    ⊎_elim
    (λ full. let same : length ys ≡ s.chunk = (let y = true_eq held s.chunk full.0 in omega arith) in λ i. inr (ap (block_at s.block i) (nothing_missing s.chunk ys same)))
    (λ a.
    let m : min s.chunk held ≡ held = omega arith in
    let z : s.chunk + 0 ≡ s.chunk = omega arith in
    let none : damaged_between s (min s.chunk held) (s.chunk + 0) ≡ None = ap (λ n. damaged_between s n (s.chunk + 0)) m ∙ ap (damaged_between s held) z ∙ a.1 in
    subst (λ (n : Stored). BlocksOf s.block (ys ++ replicate (s.chunk - length ys) 0) n.bytes ys) a.2
    (subst (λ zs. BlocksOf s.block zs (s.bytes ++ replicate (s.chunk - held) 0) ys) (padded_is_written s.chunk ys (omega arith))
    (subst (λ xs. BlocksOf s.block (written s.chunk [] ys) xs ys) (padded_is_written s.chunk s.bytes fit) (write_blocks s ys [] s.chunk w told none))))
    (filled (held == s.chunk) (damaged_between s held s.chunk) s (with_bytes s held s.chunk (s.bytes ++ replicate (s.chunk - held) 0)) s2 is)

chunk_of_edit : (req : ReqId) (op : Op) (r r2 : Held) (m : Result Stored Refusal) → edits.with_edit r req op m ≡ Ok r2 → m ≡ Ok r2.chunk
chunk_of_edit req op r r2 (Err e) is = absurd (cc)
chunk_of_edit req op r r2 (Ok s) is = ap Ok (ap (λ (m : Result Held Refusal). (held_or m r2).chunk) is)
  where
    held_or : Result Held Refusal → Held → Held
    held_or (Ok h) old = h
    held_or (Err e) old = old

pub edit_blocks : (block chunk : ℕ) (r r2 : State) (xs : List Edit) (stamp : Stamp) (number : ℕ) (req : ReqId) (op : Op) (bytes : List ℕ) → StandsFor block chunk r.held xs → IsToldFrom block chunk r.held xs → apply stamp number req op bytes r ≡ Ok r2
    → BlocksOf block (replica_of chunk (xs ++ (record { req = req; op = op; bytes = bytes }) ∷ [])).bytes r2.held.chunk.bytes (replica_of chunk xs).bytes
edit_blocks block chunk r r2 xs stamp number req op bytes stands told is =
    let e : Edit = record { req = req; op = op; bytes = bytes } in
    let h = r.held in
    let ys = (replica_of chunk xs).bytes in
    let m = (seal_ok _ _ r2 is).0 in
    let j = judged_ok (is_same stamp h.promise) (number == (h.count + 1)) (edits.is_old req.number (fin.get h.done req.client.0)) (refusals.Gap h.count) (refusals.Stamp h.promise) (edits.with_edit h req op (edits.edited op bytes h.chunk)) r2.held m in
    let c = chunk_of_edit req op h r2.held (edits.edited op bytes h.chunk) j.3 in
    let b = edited_blocks op h.chunk r2.held.chunk bytes ys stands.bytes (subst (λ n. ToldApart n h.chunk.bytes ys) (sym stands.block) told) c in
    subst (λ n. BlocksOf block n r2.held.chunk.bytes ys) (ap (λ (i : Image). i.bytes) (sym (last_edit chunk xs e)))
    (subst (λ n. BlocksOf block (edited_bytes n op bytes ys) r2.held.chunk.bytes ys) stands.chunk
    (subst (λ n. BlocksOf n (edited_bytes h.chunk.chunk op bytes ys) r2.held.chunk.bytes ys) stands.block b))

-- ---- among some blocks

pub blocks_among : (among : List ℕ → Bool) (size : ℕ) (new held old : List ℕ) → BlocksOf size new held old → HasBlocks size among held → HasBlocks size among old → HasBlocks size among new
blocks_among among size new held old of has_held has_old i =
    ⊎_elim
    (λ same. ap among same ∙ has_held i)
    (λ same. ap among same ∙ has_old i)
    (of i)

pub told_among : (among : List ℕ → Bool) (size : ℕ) (xs ys : List ℕ) → TellsApart among → HasBlocks size among xs → HasBlocks size among ys → ToldApart size xs ys
unfolding digest_at
told_among among size xs ys tells has_xs has_ys i same = tells (block_at size i xs) (block_at size i ys) (has_xs i) (has_ys i) same

-- ---- in a slot

pub edit_holds : (block size : ℕ) (stamp : Stamp) (number : ℕ) (req : ReqId) (op : Op) (bytes : List ℕ) (s : Slot) (live : Option Live) (xs : List Edit) → LiveStandsFor block size live xs → LiveToldFrom block size live xs
    → Holds (λ x. HoldsBlocks block size x xs (xs ++ (record { req = req; op = op; bytes = bytes }) ∷ [])) (apply_to stamp number req op bytes s live)
edit_holds block size stamp number req op bytes s None xs stands told = tt
edit_holds block size stamp number req op bytes s (Some l) xs stands told =
    of_live (λ x. HoldsBlocks block size x xs (xs ++ (record { req = req; op = op; bytes = bytes }) ∷ [])) s l.bad (apply stamp number req op bytes l.replica)
    (λ r is. record { live = record { replica = r; bad = l.bad }; held = refl; blocks = edit_blocks block size l.replica r xs stamp number req op bytes stands told is })
