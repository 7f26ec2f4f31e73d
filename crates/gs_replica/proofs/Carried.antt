-- Replicas that are made of sealed images.
use Rattle.std.proofs.Common.{◌≡◌, ℕ, ◌≤◌, refl, sym, ap, subst, List, length, ◌∙◌}
use Rattle.std.specs.Prelude.{Some, None, Result, Ok, Err, Bool, true, false, cond, nat_lt, ◌==◌}
use Rattle.std.proofs.lemmas.List.FromFn.{length-map-range_with_len}
use Rattle.gs_base.specs.declared.refusal.Refusal.{Refusal}
use Rattle.gs_base.specs.declared.refusal.Refusal.TheVariants as refusals
use Rattle.gs_block.specs.Stored.{Stored, count_of, digest_at, digests_of}
use Rattle.gs_replica.specs.Held.{Held}
use Rattle.gs_replica.specs.Edits.{held_of}
use Rattle.gs_replica.specs.Seals.{State, sealed_of, lowest_damaged}
use Rattle.gs_replica.specs.Copies.{Image, SealedImage, of_sealed, sealed_there}
use Rattle.gs_block.specs.Written.{WasWritten}
use Rattle.gs_replica.specs.Stands.{Edit, StandsFor, IsTaken, replica_of, where_sealed}
use Rattle.gs_replica.proofs.Listing.{count_of_list}
use Rattle.gs_block.proofs.Telling.{not_below}
use Rattle.gs_replica.proofs.Sealing.{state_or}
use Rattle.gs_replica.proofs.Taking.{intact_written}

-- a replica that was just sealed
abbrev just_sealed : Held → State
just_sealed h = record { held = h; sealed = Some (sealed_of h) }

there_case : (t u : Bool) (h : Held) (r : State) → (let m : Result Stored Refusal = cond t (Err refusals.Range) (cond u (Ok h.chunk) (Err refusals.BadLine)) in sealed_there (held_of h.promise h.count h.done m)) ≡ Ok r → (t ≡ false) × (just_sealed h ≡ r)
unfolding state_or
there_case true u h r e = absurd (cc)
there_case false true h r e = (refl, ap (λ m. state_or m r) e)
there_case false false h r e = absurd (cc)

abbrev there : ℕ → ℕ → SealedImage → Held
there block chunk i = record { chunk = record { block = block; chunk = chunk; bytes = i.image.bytes; digests = i.digests }; count = i.image.count; done = i.image.done; promise = i.stamp }

pub record Sits (size limit : ℕ) (r : State) (xs : List Edit) : Type 0 where
  pub stands : StandsFor size limit r.held xs
  pub sealed : r.sealed ≡ Some (sealed_of r.held)
  pub undamaged : lowest_damaged r.held.chunk ≡ None

pub sealed_sits : (block chunk : ℕ) (i : SealedImage) (r : State) (xs : List Edit) → 1 ≤ block → block ≤ 65536 → chunk ≤ 67108864 → IsTaken chunk xs →
    i.image ≡ replica_of chunk xs → i.digests ≡ digests_of block (replica_of chunk xs).bytes → of_sealed block chunk i ≡ Ok r → Sits block chunk r xs
sealed_sits block chunk i r xs some block_fits chunk_fits taken is digests e =
    let h : Held = there block chunk i in
    let text : Image = replica_of chunk xs in
    let found = there_case (nat_lt chunk (length i.image.bytes)) (length i.digests == count_of block (length i.image.bytes)) h r e in
    let w : WasWritten h.chunk text.bytes = record {
      stored = record {
        some_block = some;
        block_fits = block_fits;
        chunk_fits = chunk_fits;
        bytes_fit = not_below chunk (length i.image.bytes) found.0;
        each = ap length digests ∙ length-map-range_with_len (digest_at block text.bytes) 0 (count_of block (length text.bytes)) ∙ ap (λ (j : Image). count_of block (length j.bytes)) (sym is);
      };
      long = ap (λ (j : Image). length j.bytes) is;
      digests = digests;
    } in
    subst (λ (q : State). Sits block chunk q xs) found.1
    (record {
      stands = record {
        block = refl;
        chunk = refl;
        taken = taken;
        count = ap (λ (j : Image). j.count) is ∙ count_of_list chunk xs;
        done = ap (λ (j : Image). j.done) is;
        bytes = w;
      };
      sealed = refl;
      undamaged = intact_written h.chunk text.bytes (ap (λ (j : Image). j.bytes) is) w;
    })

-- what was just sealed stood for what stands
pub stood_there : (size limit : ℕ) (h : Held) (xs : List Edit) → StandsFor size limit h xs → StandsFor size limit (where_sealed (sealed_of h)) xs
stood_there size limit h xs s = record { block = s.block; chunk = s.chunk; taken = s.taken; count = s.count; done = s.done; bytes = s.bytes }
