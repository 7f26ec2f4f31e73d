-- A replica that stands for a list of edits, under its own sizes.
use Rattle.std.proofs.Common.{◌≡◌, ℕ, List, length, sym, subst, ◌∙◌}
use Rattle.gs_replica.specs.Held.{Held}
use Rattle.gs_block.specs.Written.{WasWritten, ToldApart}
use Rattle.gs_replica.specs.Stands.{Edit, StandsFor, IsToldFrom, IsTaken, replica_of}

pub record Own (r : Held) (edits : List Edit) : Type 0 where
  pub taken : IsTaken r.chunk.chunk edits
  pub count : r.count ≡ length edits
  pub done : r.done ≡ (replica_of r.chunk.chunk edits).done
  pub bytes : WasWritten r.chunk (replica_of r.chunk.chunk edits).bytes

abbrev pub OwnTold : Held → List Edit → Type 0
OwnTold r edits = ToldApart r.chunk.block r.chunk.bytes (replica_of r.chunk.chunk edits).bytes

pub own : (size limit : ℕ) (r : Held) (xs : List Edit) → StandsFor size limit r xs → Own r xs
own size limit r xs s = record {
  taken = subst (λ n. IsTaken n xs) (sym s.chunk) s.taken;
  count = s.count;
  done = subst (λ n. r.done ≡ (replica_of n xs).done) (sym s.chunk) s.done;
  bytes = subst (λ n. WasWritten r.chunk (replica_of n xs).bytes) (sym s.chunk) s.bytes;
}

pub own_told : (size limit : ℕ) (r : Held) (xs : List Edit) → StandsFor size limit r xs → IsToldFrom size limit r xs → OwnTold r xs
own_told size limit r xs s told =
    subst (λ n. ToldApart r.chunk.block r.chunk.bytes (replica_of n xs).bytes) (sym s.chunk) (subst (λ b. ToldApart b r.chunk.bytes (replica_of limit xs).bytes) (sym s.block) told)

pub sized : (size limit : ℕ) (r : Held) (xs : List Edit) → Own r xs → r.chunk.block ≡ size → r.chunk.chunk ≡ limit → StandsFor size limit r xs
sized size limit r xs o block chunk = record {
  block = block;
  chunk = chunk;
  taken = subst (λ n. IsTaken n xs) chunk o.taken;
  count = o.count;
  done = subst (λ n. r.done ≡ (replica_of n xs).done) chunk o.done;
  bytes = subst (λ n. WasWritten r.chunk (replica_of n xs).bytes) chunk o.bytes;
}

-- a replica of the same sizes as another
pub record Alike (r r2 : Held) : Type 0 where
  pub block : r2.chunk.block ≡ r.chunk.block
  pub chunk : r2.chunk.chunk ≡ r.chunk.chunk

pub alike_stands : (size limit : ℕ) (r r2 : Held) (xs ys : List Edit) → StandsFor size limit r xs → Own r2 ys → Alike r r2 → StandsFor size limit r2 ys
alike_stands size limit r r2 xs ys s o a = sized size limit r2 ys o (a.block ∙ s.block) (a.chunk ∙ s.chunk)
