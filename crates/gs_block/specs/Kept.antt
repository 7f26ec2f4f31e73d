-- What edits keep: a block whose bytes have its digest, and every block that an edit touches. What damage keeps: every other block.
use Rattle.std.specs.Prelude.{◌≡◌, ◌≢◌, ◌⊎◌, ◌<◌, ◌≤◌, ℕ, true, List, length, take, drop, Result, Ok, Err}
use Rattle.gs_base.specs.declared.refusal.Refusal.{Refusal}
use Rattle.gs_block.specs.Stored.{Stored, block_at, is_intact}

abbrev pub IsIntactAt : Stored → ℕ → Type 0
IsIntactAt s i = is_intact s.block s.bytes s.digests i ≡ true

-- each block has its digest after an edit, where it had it or was not there
abbrev pub KeepsIntact : {B : Type 0} → Result B Refusal → Stored → Stored → Type 0
KeepsIntact (Ok b) old new = (i : ℕ) → i < length new.digests → (i < length old.digests → IsIntactAt old i) → IsIntactAt new i
KeepsIntact (Err e) old new = Unit {0}

-- what an edit between two places leaves: the bytes before the one and behind the other, and cuts nothing
pub record Outside (at end : ℕ) (old new : Stored) : Type 0 where
  pub block : new.block ≡ old.block
  pub chunk : new.chunk ≡ old.chunk
  pub before : take at new.bytes ≡ take at old.bytes
  pub behind : drop end new.bytes ≡ drop end old.bytes
  pub longer : length old.bytes ≤ length new.bytes

abbrev pub KeepsOutside : {B : Type 0} → Result B Refusal → ℕ → ℕ → Stored → Stored → Type 0
KeepsOutside (Ok b) at end old new = Outside at end old new
KeepsOutside (Err e) at end old new = Unit {0}

-- what damage of a block leaves: every other block, all digests, and how many bytes there are
pub record Others (index : ℕ) (old new : Stored) : Type 0 where
  pub block : new.block ≡ old.block
  pub chunk : new.chunk ≡ old.chunk
  pub long : length new.bytes ≡ length old.bytes
  pub digests : new.digests ≡ old.digests
  pub others : (k : ℕ) → k ≢ index → block_at old.block k new.bytes ≡ block_at old.block k old.bytes

abbrev pub KeepsOthers : {B : Type 0} → Result B Refusal → ℕ → Stored → Stored → Type 0
KeepsOthers (Ok b) index old new = Others index old new
KeepsOthers (Err e) index old new = Unit {0}

-- each block of a new text is as in one of two texts
abbrev pub BlocksOf : ℕ → List ℕ → List ℕ → List ℕ → Type 0
BlocksOf size new held old = (i : ℕ) → (block_at size i new ≡ block_at size i held) ⊎ (block_at size i new ≡ block_at size i old)
