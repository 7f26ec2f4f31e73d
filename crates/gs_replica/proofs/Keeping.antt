-- What keeps that a replica stands for a list of edits, and copies of it.
use Rattle.std.proofs.Common.{◌≡◌, ℕ, ◌*◌, ◌≤◌, arith, refl, sym, ap, subst, List, length, ◌∙◌}
use Rattle.std.specs.Prelude.{Option, Some, None, Result, Ok, Err, Bool, true, false, cond, nat_lt}
use Rattle.std.proofs.lemmas.List.{length-set}
use Rattle.std.proofs.lemmas.List.FromFn.{length-map-range_with_len}
use Rattle.gs_base.specs.declared.numbers.Stamp.{Stamp}
use Rattle.gs_base.specs.declared.refusal.Refusal.{Refusal}
use Rattle.gs_base.specs.Stamps.{is_before}
use Rattle.gs_base.specs.declared.refusal.Refusal.TheVariants as refusals
use Rattle.gs_block.specs.Stored.{Stored, count_of, digest_at, first_damaged, digests_of}
use Rattle.gs_block.specs.Edits as blocks
use Rattle.gs_block.specs.Edits.{unless_damaged}
use Rattle.gs_block.proofs.Matching.{intact_none}
use Rattle.gs_replica.specs.Held.{Held}
use Rattle.gs_replica.specs.Edits as edits
use Rattle.gs_replica.specs.Seals.{State, lowest_damaged}
use Rattle.gs_replica.specs.Copies as copies
use Rattle.gs_replica.specs.Copies.{Image}
use Rattle.gs_replica.specs.Stands.{Edit, StandsFor, IsTaken, replica_of}
use Rattle.gs_replica.proofs.Own.{Own, OwnTold, Alike}
use Rattle.gs_block.proofs.Standing.{other, other_written, written_intact}
use Rattle.gs_replica.proofs.Listing.{count_of_list}
use Rattle.gs_block.proofs.Edited.{hit}
use Rattle.gs_block.proofs.Telling.{whole_same, not_below}
use Rattle.gs_replica.proofs.Sealing.{held_or}

-- another promise
pub under_promise : (h : Held) (stamp : Stamp) (xs : List Edit) → Own h xs → Own (record { chunk = h.chunk; count = h.count; done = h.done; promise = stamp }) xs
under_promise h stamp xs stands = record { taken = stands.taken; count = stands.count; done = stands.done; bytes = stands.bytes }

promise_case : (t : Bool) (h h2 n : Held) (xs : List Edit) → (let m : Result Held Refusal = cond t (Err refusals.Old) (Ok n) in m) ≡ Ok h2 → Own n xs × Alike h n → Own h2 xs × Alike h h2
unfolding held_or
promise_case true h h2 n xs e stands = absurd (cc)
promise_case false h h2 n xs e stands = subst (λ (r : Held). Own r xs × Alike h r) (ap (λ q. held_or q n) e) stands

pub promise_stands : (stamp : Stamp) (h h2 : Held) (xs : List Edit) → Own h xs → edits.promise stamp h ≡ Ok h2 → Own h2 xs × Alike h h2
promise_stands stamp h h2 xs stands e = promise_case (is_before stamp h.promise) h h2 _ xs e (under_promise h stamp xs stands, record { block = refl; chunk = refl })

-- other bytes of the same length under the same digests
abbrev pub other_bytes : Held → List ℕ → Held
other_bytes h bytes = record { chunk = other h.chunk bytes; count = h.count; done = h.done; promise = h.promise }

pub others_stand : (h : Held) (bytes : List ℕ) (xs : List Edit) → length bytes ≡ length h.chunk.bytes → Own h xs → Own (other_bytes h bytes) xs
others_stand h bytes xs long stands = record {
  taken = stands.taken;
  count = stands.count;
  done = stands.done;
  bytes = other_written h.chunk bytes (replica_of h.chunk.chunk xs).bytes long stands.bytes;
}

damage_case : (t : Bool) (h h2 n : Held) (xs : List Edit) → (let m : Result Stored Refusal = cond t (Ok n.chunk) (Err refusals.Range) in edits.on_chunk n m) ≡ Ok h2 → Own n xs → Own h2 xs × Alike n h2
unfolding held_or
damage_case true h h2 n xs e stands = subst (λ (r : Held). Own r xs × Alike n r) (ap (λ q. held_or q n) e) (stands, record { block = refl; chunk = refl })
damage_case false h h2 n xs e stands = absurd (cc)

pub damage_stands : (block : ℕ) (h h2 : Held) (xs : List Edit) → Own h xs → edits.damage block h ≡ Ok h2 → Own h2 xs × Alike h h2
damage_stands block h h2 xs stands e =
    let d = damage_case (nat_lt block (length h.chunk.digests)) h h2 (other_bytes h (hit h.chunk block)) xs e
    (others_stand h (hit h.chunk block) xs (length-set h.chunk.bytes (block * h.chunk.block) _) stands) in
    let a : Alike (other_bytes h (hit h.chunk block)) h2 = d.1 in
    (d.0, record { block = a.block; chunk = a.chunk })

-- a copy has no damaged block
copied_case : (d : Option ℕ) (stamp : Stamp) (h h2 : Held) (xs : List Edit) → lowest_damaged h.chunk ≡ d → Own h xs → edits.held_of stamp h.count h.done (unless_damaged d h.chunk) ≡ Ok h2 →
    Own h2 xs × Alike h h2 × (lowest_damaged h2.chunk ≡ None)
unfolding held_or
copied_case None stamp h h2 xs none stands e =
    let n : Held = record { chunk = h.chunk; count = h.count; done = h.done; promise = stamp } in
    subst (λ (r : Held). Own r xs × Alike h r × (lowest_damaged r.chunk ≡ None)) (ap (λ q. held_or q n) e) (under_promise h stamp xs stands, record { block = refl; chunk = refl }, none)
copied_case (Some k) stamp h h2 xs none stands e = absurd (cc)

pub copied_stands : (stamp : Stamp) (h h2 : Held) (xs : List Edit) → Own h xs → edits.copied stamp h ≡ Ok h2 → Own h2 xs × Alike h h2 × (lowest_damaged h2.chunk ≡ None)
copied_stands stamp h h2 xs stands e = copied_case (lowest_damaged h.chunk) stamp h h2 xs refl stands e

image_or : Result Image Refusal → Image → Image
image_or (Ok i) old = i
image_or (Err e) old = old

image_case : (d : Option ℕ) (a i : Image) → (unless_damaged d a) ≡ Ok i → (d ≡ None) × (a ≡ i)
unfolding image_or
image_case None a i e = (refl, ap (λ q. image_or q a) e)
image_case (Some k) a i e = absurd (cc)

-- what a replica without a damaged block holds is what its list gives
pub holds_list : (h : Held) (xs : List Edit) → Own h xs → OwnTold h xs → lowest_damaged h.chunk ≡ None → copies.image_of h ≡ replica_of h.chunk.chunk xs
holds_list h xs stands told none =
    let text : Image = replica_of h.chunk.chunk xs in
    let bytes = whole_same h.chunk text.bytes stands.bytes told none in
    let count = stands.count ∙ sym (count_of_list h.chunk.chunk xs) in
    let done = stands.done in
    λ k. record { bytes = bytes k; count = count k; done = done k }

pub image_is : (r : State) (i : Image) (xs : List Edit) → Own r.held xs → OwnTold r.held xs → copies.image r ≡ Ok i → i ≡ replica_of r.held.chunk.chunk xs
image_is r i xs stands told e =
    let found = image_case (lowest_damaged r.held.chunk) (copies.image_of r.held) i e in
    sym found.1 ∙ holds_list r.held xs stands told found.0

-- bytes under their own digests have no damaged block
pub own_intact : (size : ℕ) (ys : List ℕ) → first_damaged size ys (digests_of size ys) 0 (length (digests_of size ys)) ≡ None
own_intact size ys =
    let many : length (digests_of size ys) ≡ count_of size (length ys) = length-map-range_with_len (digest_at size ys) 0 (count_of size (length ys)) in
    intact_none size ys (digests_of size ys) 0 (length (digests_of size ys)) (λ i low high. written_intact size ys (digests_of size ys) i refl (omega arith))

abbrev pub made : ℕ → ℕ → Stamp → Image → Held
made block chunk stamp i = record { chunk = record { block = block; chunk = chunk; bytes = i.bytes; digests = digests_of block i.bytes }; count = i.count; done = i.done; promise = stamp }

made_case : (t : Bool) (h h2 : Held) (P : Held → Type 0) → (let m : Result Stored Refusal = cond t (Err refusals.Range) (Ok h.chunk) in edits.held_of h.promise h.count h.done m) ≡ Ok h2 → (t ≡ false → P h) → P h2
unfolding held_or
made_case true h h2 P e holds = absurd (cc)
made_case false h h2 P e holds = subst P (ap (λ q. held_or q h) e) (holds refl)

-- a replica that is made of what a list gives
pub made_stands : (block chunk : ℕ) (stamp : Stamp) (i : Image) (h2 : Held) (xs : List Edit) → 1 ≤ block → block ≤ 65536 → chunk ≤ 67108864 → IsTaken chunk xs → i ≡ replica_of chunk xs →
    edits.held_of stamp i.count i.done (blocks.chunk_of block chunk i.bytes) ≡ Ok h2 → StandsFor block chunk h2 xs × (lowest_damaged h2.chunk ≡ None)
made_stands block chunk stamp i h2 xs some block_fits chunk_fits taken is e =
    let h : Held = made block chunk stamp i in
    made_case (nat_lt chunk (length i.bytes)) h h2 (λ (r : Held). StandsFor block chunk r xs × (lowest_damaged r.chunk ≡ None)) e
    (λ t. (
      record {
        block = refl;
        chunk = refl;
        taken = taken;
        count = ap (λ (j : Image). j.count) is ∙ count_of_list chunk xs;
        done = ap (λ (j : Image). j.done) is;
        bytes = record {
          stored = record {
            some_block = some;
            block_fits = block_fits;
            chunk_fits = chunk_fits;
            bytes_fit = not_below chunk (length i.bytes) t;
            each = length-map-range_with_len (digest_at block i.bytes) 0 (count_of block (length i.bytes));
          };
          long = ap (λ (j : Image). length j.bytes) is;
          digests = ap (λ (j : Image). digests_of block j.bytes) is;
        };
      },
      own_intact block i.bytes,
    ))
