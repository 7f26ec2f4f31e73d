-- The blocks of a replica that is edited, and those of the text that its list gives.
use Rattle.std.proofs.Common.{◌≡◌, ℕ, ◌+◌, ◌-◌, ◌*◌, ◌≤◌, ◌⊎◌, inl, inr, ⊎_elim, arith, rules, refl, sym, ap, subst, ◌∙◌, min, Bool, true, false, cond, List, [], ◌∷◌, ◌++◌, length, Option, Some, None}
use Rattle.std.specs.Prelude.{Result, Ok, Err, nat_lt, ◌==◌, ◌||◌, replicate}
use Rattle.std.specs.FinMap as fin
use Rattle.std.proofs.lemmas.List.{places, same_lists}
use Rattle.gs_base.specs.declared.numbers.Stamp.{Stamp}
use Rattle.gs_base.specs.declared.numbers.ReqId.{ReqId}
use Rattle.gs_base.specs.Stamps.{is_same}
use Rattle.gs_base.specs.declared.refusal.Refusal.{Refusal}
use Rattle.gs_base.specs.declared.refusal.Refusal.TheVariants as refusals
use Rattle.gs_block.specs.Chunk.{written}
use Rattle.gs_block.specs.Kept.{BlocksOf}
use Rattle.gs_block.specs.Stored.{Stored, block_at}
use Rattle.gs_block.specs.Edits.{with_bytes, damaged_between, unless_damaged}
use Rattle.gs_block.specs.Written.{WasWritten, ToldApart}
use Rattle.gs_block.proofs.Back.{true_eq}
use Rattle.gs_block.proofs.Pieces.{text_blocks, chunk_blocks}
use Rattle.gs_block.proofs.Standing.{part_written}
use Rattle.gs_block.proofs.Writing.{appended_is_written, padded_is_written}
use Rattle.gs_replica.specs.declared.op.Op.{Op}
use Rattle.gs_replica.specs.declared.op.Op.TheVariants.{Write, Append, Pad}
use Rattle.gs_replica.specs.Held.{Held}
use Rattle.gs_replica.specs.Edits as edits
use Rattle.gs_replica.specs.Seals.{State, apply}
use Rattle.gs_replica.specs.Copies.{Image}
use Rattle.gs_replica.specs.Stands.{Edit, StandsFor, HoldsBlock, IsToldFrom, replica_of, edited_bytes}
use Rattle.gs_replica.proofs.Listing.{last_edit, judged_ok, seal_ok}

stored_or : Result Stored Refusal → Stored → Stored
stored_or (Ok s) old = s
stored_or (Err e) old = old

-- what was accepted was in range, and had no damaged block
accepted : (t : Bool) (d : Option ℕ) (n s2 : Stored) → (let m : Result Stored Refusal = cond t (Err refusals.Range) (unless_damaged d n) in m) ≡ Ok s2 → (d ≡ None) × (n ≡ s2)
unfolding stored_or
accepted true d n s2 is = absurd (cc)
accepted false None n s2 is = (refl, ap (λ r. stored_or r n) is)
accepted false (Some k) n s2 is = absurd (cc)

filled : (t : Bool) (d : Option ℕ) (s n s2 : Stored) → (let m : Result Stored Refusal = cond t (Ok s) (unless_damaged d n) in m) ≡ Ok s2 → (t ≡ true) × (s ≡ s2) ⊎ (t ≡ false) × (d ≡ None) × (n ≡ s2)
unfolding stored_or
filled true d s n s2 is = inl (refl, ap (λ r. stored_or r s) is)
filled false None s n s2 is = inr (refl, refl, ap (λ r. stored_or r n) is)
filled false (Some k) s n s2 is = absurd (cc)

nothing_missing : (chunk : ℕ) (ys : List ℕ) → length ys ≡ chunk → ys ++ replicate (chunk - length ys) 0 ≡ ys
nothing_missing chunk ys full = same_lists _ _ (let e : length (ys ++ replicate (chunk - length ys) 0) ≡ length ys + (chunk - length ys) = search (rules, places) in omega arith) (λ k d h. grind (arith, places))

-- ---- the plain bytes of an accepted edit

edited_plain : (op : Op) (s s2 : Stored) (piece : List ℕ) → edits.edited op piece s ≡ Ok s2 → s2.bytes ≡ edited_bytes s.chunk op piece s.bytes
unfolding with_bytes
edited_plain (Write offset) s s2 piece is =
    let at = min offset (length s.bytes) in
    let end = offset + length piece in
    let a = accepted ((length piece == 0) || nat_lt s.chunk end) (damaged_between s at end) (with_bytes s at end (written offset piece s.bytes)) s2 is in
    ap (λ (n : Stored). n.bytes) (sym a.1)
edited_plain Append s s2 piece is =
    let held = length s.bytes in
    let end = held + length piece in
    let a = accepted ((length piece == 0) || nat_lt s.chunk end) (damaged_between s held end) (with_bytes s held end (s.bytes ++ piece)) s2 is in
    ap (λ (n : Stored). n.bytes) (sym a.1)
edited_plain Pad s s2 piece is =
    let held = length s.bytes in
    ⊎_elim
    (λ full. ap (λ (n : Stored). n.bytes) (sym full.1) ∙ sym (nothing_missing s.chunk s.bytes (true_eq held s.chunk full.0)))
    (λ a. ap (λ (n : Stored). n.bytes) (sym a.2))
    (filled (held == s.chunk) (damaged_between s held s.chunk) s (with_bytes s held s.chunk (s.bytes ++ replicate (s.chunk - held) 0)) s2 is)

-- two texts of the same length that have a block alike have it so after the same edit
edited_alike : (op : Op) (size chunk k : ℕ) (piece xs ys : List ℕ) → length xs ≡ length ys → length xs ≤ chunk → block_at size k xs ≡ block_at size k ys → block_at size k (edited_bytes chunk op piece xs) ≡ block_at size k (edited_bytes chunk op piece ys)
edited_alike (Write offset) size chunk k piece xs ys long fit same = part_written (k * size) size offset piece xs ys long same
edited_alike Append size chunk k piece xs ys long fit same =
    ap (block_at size k) (sym (appended_is_written piece xs))
    ∙ part_written (k * size) size (length xs) piece xs ys long same
    ∙ ap (block_at size k) (ap (λ n. written n piece ys) long ∙ appended_is_written piece ys)
edited_alike Pad size chunk k piece xs ys long fit same =
    ap (block_at size k) (sym (padded_is_written chunk xs fit))
    ∙ part_written (k * size) size chunk [] xs ys long same
    ∙ ap (block_at size k) (padded_is_written chunk ys (omega arith))

-- ---- blocks that an edit brings

-- of a chunk that was written with a text, and of that text behind an edit
pub record Brings (s s2 : Stored) (text old : List ℕ) : Type 0 where
  pub held : BlocksOf s.block s2.bytes s.bytes text
  pub listed : BlocksOf s.block text s2.bytes old

written_brings : (s : Stored) (ys piece : List ℕ) (offset at end : ℕ) → WasWritten s ys → ToldApart s.block s.bytes ys → at ≡ min offset (length s.bytes) → end ≡ offset + length piece → damaged_between s at end ≡ None
    → Brings s (with_bytes s at end (written offset piece s.bytes)) (written offset piece ys) ys
unfolding with_bytes
written_brings s ys piece offset at end w told at_is end_is none =
    let touched : damaged_between s (min offset (length s.bytes)) (offset + length piece) ≡ None = ap (λ n. damaged_between s n (offset + length piece)) (sym at_is) ∙ ap (damaged_between s at) (sym end_is) ∙ none in
    record { held = chunk_blocks s ys piece offset w told touched; listed = text_blocks s ys piece offset w told touched }

edited_brings : (op : Op) (s s2 : Stored) (piece ys : List ℕ) → WasWritten s ys → ToldApart s.block s.bytes ys → edits.edited op piece s ≡ Ok s2 → Brings s s2 (edited_bytes s.chunk op piece ys) ys
edited_brings (Write offset) s s2 piece ys w told is =
    let at = min offset (length s.bytes) in
    let end = offset + length piece in
    let a = accepted ((length piece == 0) || nat_lt s.chunk end) (damaged_between s at end) (with_bytes s at end (written offset piece s.bytes)) s2 is in
    subst (λ (n : Stored). Brings s n (written offset piece ys) ys) a.1 (written_brings s ys piece offset at end w told refl refl a.0)
edited_brings Append s s2 piece ys w told is =
    let held = length s.bytes in
    let end = held + length piece in
    let a = accepted ((length piece == 0) || nat_lt s.chunk end) (damaged_between s held end) (with_bytes s held end (s.bytes ++ piece)) s2 is in
    subst (λ (n : Stored). Brings s n (ys ++ piece) ys) a.1
    (subst (λ zs. Brings s (with_bytes s held end (s.bytes ++ piece)) zs ys) (ap (λ n. written n piece ys) w.long ∙ appended_is_written piece ys)
    (subst (λ xs. Brings s (with_bytes s held end xs) (written held piece ys) ys) (appended_is_written piece s.bytes) (written_brings s ys piece held held end w told (omega arith) refl a.0)))
edited_brings Pad s s2 piece ys w told is =
    let held = length s.bytes in
    let long = w.long in
    let stored = w.stored in
    let fit = stored.bytes_fit in
    ⊎_elim
    (λ full.
    let same : length ys ≡ s.chunk = (let y = true_eq held s.chunk full.0 in omega arith) in
    subst (λ (n : Stored). Brings s n (ys ++ replicate (s.chunk - length ys) 0) ys) full.1 (record { held = λ i. inl refl; listed = λ i. inr (ap (block_at s.block i) (nothing_missing s.chunk ys same)) }))
    (λ a.
    subst (λ (n : Stored). Brings s n (ys ++ replicate (s.chunk - length ys) 0) ys) a.2
    (subst (λ zs. Brings s (with_bytes s held s.chunk (s.bytes ++ replicate (s.chunk - held) 0)) zs ys) (padded_is_written s.chunk ys (omega arith))
    (subst (λ xs. Brings s (with_bytes s held s.chunk xs) (written s.chunk [] ys) ys) (padded_is_written s.chunk s.bytes fit) (written_brings s ys [] s.chunk held s.chunk w told (omega arith) (omega arith) a.1))))
    (filled (held == s.chunk) (damaged_between s held s.chunk) s (with_bytes s held s.chunk (s.bytes ++ replicate (s.chunk - held) 0)) s2 is)

-- ---- of a replica

chunk_of_edit : (req : ReqId) (op : Op) (r r2 : Held) (m : Result Stored Refusal) → edits.with_edit r req op m ≡ Ok r2 → m ≡ Ok r2.chunk
chunk_of_edit req op r r2 (Err e) is = absurd (cc)
chunk_of_edit req op r r2 (Ok s) is = ap Ok (ap (λ (m : Result Held Refusal). (held_or m r2).chunk) is)
  where
    held_or : Result Held Refusal → Held → Held
    held_or (Ok h) old = h
    held_or (Err e) old = old

-- what the chunk decided of an edit that a replica took
chunk_edited : (r r2 : State) (stamp : Stamp) (number : ℕ) (req : ReqId) (op : Op) (bytes : List ℕ) → apply stamp number req op bytes r ≡ Ok r2 → edits.edited op bytes r.held.chunk ≡ Ok r2.held.chunk
chunk_edited r r2 stamp number req op bytes is =
    let h = r.held in
    let m = (seal_ok _ _ r2 is).0 in
    let j = judged_ok (is_same stamp h.promise) (number == (h.count + 1)) (edits.is_old req.number (fin.get h.done req.client.0)) (refusals.Gap h.count) (refusals.Stamp h.promise) (edits.with_edit h req op (edits.edited op bytes h.chunk)) r2.held m in
    chunk_of_edit req op h r2.held (edits.edited op bytes h.chunk) j.3

pub apply_brings : (block chunk : ℕ) (r r2 : State) (xs : List Edit) (stamp : Stamp) (number : ℕ) (req : ReqId) (op : Op) (bytes : List ℕ) → StandsFor block chunk r.held xs → IsToldFrom block chunk r.held xs → apply stamp number req op bytes r ≡ Ok r2
    → (text : List ℕ) → text ≡ (replica_of chunk (xs ++ (record { req = req; op = op; bytes = bytes }) ∷ [])).bytes → BlocksOf block r2.held.chunk.bytes r.held.chunk.bytes text × BlocksOf block text r2.held.chunk.bytes (replica_of chunk xs).bytes
apply_brings block chunk r r2 xs stamp number req op bytes stands told is text text_is =
    let e : Edit = record { req = req; op = op; bytes = bytes } in
    let s = r.held.chunk in
    let ys = (replica_of chunk xs).bytes in
    let b = edited_brings op s r2.held.chunk bytes ys stands.bytes (subst (λ n. ToldApart n s.bytes ys) (sym stands.block) told) (chunk_edited r r2 stamp number req op bytes is) in
    let same : edited_bytes s.chunk op bytes ys ≡ text = ap (λ n. edited_bytes n op bytes ys) stands.chunk ∙ ap (λ (i : Image). i.bytes) (sym (last_edit chunk xs e)) ∙ sym text_is in
    subst (λ n. BlocksOf n r2.held.chunk.bytes s.bytes text × BlocksOf n text r2.held.chunk.bytes ys) stands.block
    (subst (λ zs. BlocksOf s.block r2.held.chunk.bytes s.bytes zs × BlocksOf s.block zs r2.held.chunk.bytes ys) same (b.held, b.listed))

pub apply_holds : (block chunk k : ℕ) (r r2 : State) (xs : List Edit) (stamp : Stamp) (number : ℕ) (req : ReqId) (op : Op) (bytes : List ℕ) → StandsFor block chunk r.held xs → HoldsBlock block chunk r.held xs k → apply stamp number req op bytes r ≡ Ok r2
    → HoldsBlock block chunk r2.held (xs ++ (record { req = req; op = op; bytes = bytes }) ∷ []) k
apply_holds block chunk k r r2 xs stamp number req op bytes stands holds is =
    let e : Edit = record { req = req; op = op; bytes = bytes } in
    let s = r.held.chunk in
    let ys = (replica_of chunk xs).bytes in
    let w = stands.bytes in
    let stored = w.stored in
    ap (block_at block k) (edited_plain op s r2.held.chunk bytes (chunk_edited r r2 stamp number req op bytes is))
    ∙ edited_alike op block s.chunk k bytes s.bytes ys w.long stored.bytes_fit holds
    ∙ ap (block_at block k) (ap (λ n. edited_bytes n op bytes ys) stands.chunk ∙ ap (λ (i : Image). i.bytes) (sym (last_edit chunk xs e)))
