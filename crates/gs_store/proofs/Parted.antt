-- Tests of the parts of a slot: of stamps, which are the same where both of their numbers are, and of sizes.
use Rattle.std.proofs.Common.{◌≡◌, ℕ, Bool, true, false, Decides, refl, ap, ◌∙◌}
use Rattle.std.specs.Prelude.{◌&&◌, ◌==◌}
use Rattle.std.proofs.lemmas.Bool.Decides.{Decides-eqb}
use Rattle.std.specs.Prelude.{Option, Some, None}
use Rattle.gs_base.specs.declared.numbers.Stamp.{Stamp}
use Rattle.gs_block.specs.Stored.{Stored}
use Rattle.gs_replica.specs.Seals.{Sealed, State}
use Rattle.gs_replica.specs.Whole.{IsWhole, HasUndone}
use Rattle.gs_store.specs.Whole.{SealHasSizes, HasSizes}

first_so : (a b : Bool) → (a && b) ≡ true → a ≡ true
first_so true b h = refl
first_so false b h = absurd (cc)

second_so : (a b : Bool) → (a && b) ≡ true → b ≡ true
second_so true b h = h
second_so false b h = absurd (cc)

both_so : (a b : Bool) → a ≡ true → b ≡ true → (a && b) ≡ true
both_so a b ha hb = ap (λ c. c && b) ha ∙ hb

pub decides_stamp : (a b : Stamp) → Decides ((a.epoch == b.epoch) && (a.version == b.version)) (a ≡ b)
decides_stamp a b = (
  λ h.
      let epoch : a.epoch ≡ b.epoch = (Decides-eqb a.epoch b.epoch).0 (first_so (a.epoch == b.epoch) (a.version == b.version) h) in
      let version : a.version ≡ b.version = (Decides-eqb a.version b.version).0 (second_so (a.epoch == b.epoch) (a.version == b.version) h) in
      λ k. record { epoch = epoch k; version = version k },
  λ h. both_so (a.epoch == b.epoch) (a.version == b.version) ((Decides-eqb a.epoch b.epoch).1 (ap (λ (s : Stamp). s.epoch) h)) ((Decides-eqb a.version b.version).1 (ap (λ (s : Stamp). s.version) h)),
)

seal_sizes : (block chunk : ℕ) (s : Stored) (o : Option Sealed) → HasUndone s o → s.block ≡ block → s.chunk ≡ chunk → SealHasSizes block chunk o
seal_sizes block chunk s None whole b c = tt
seal_sizes block chunk s (Some t) whole b c = (whole.block ∙ b, whole.chunk ∙ c)

pub decides_sizes : (block chunk : ℕ) (r : State) → IsWhole r → Decides ((r.held.chunk.block == block) && (r.held.chunk.chunk == chunk)) (HasSizes block chunk r)
decides_sizes block chunk r whole = (
  λ h.
      let b : r.held.chunk.block ≡ block = (Decides-eqb r.held.chunk.block block).0 (first_so (r.held.chunk.block == block) (r.held.chunk.chunk == chunk) h) in
      let c : r.held.chunk.chunk ≡ chunk = (Decides-eqb r.held.chunk.chunk chunk).0 (second_so (r.held.chunk.block == block) (r.held.chunk.chunk == chunk) h) in
      record { block_is = b; chunk_is = c; undone = seal_sizes block chunk r.held.chunk r.sealed whole.undoing b c },
  λ h. both_so (r.held.chunk.block == block) (r.held.chunk.chunk == chunk) ((Decides-eqb r.held.chunk.block block).1 h.block_is) ((Decides-eqb r.held.chunk.chunk chunk).1 h.chunk_is),
)
