-- Edits of a replica's chunk of which some blocks may be damaged.
use Rattle.std.proofs.Common.{◌≡◌, ℕ, ◌≤◌, refl, List, [], length}
use Rattle.std.specs.Prelude.{Ok}
use Rattle.gs_base.specs.declared.numbers.Stamp.{Stamp}
use Rattle.gs_block.specs.Stored.{Stored}
use Rattle.gs_block.specs.Written.{WasWritten, ToldApart}
use Rattle.gs_block.proofs.Edited.{Rewritten, write_edited, append_edited, pad_edited}
use Rattle.gs_block.proofs.Standing.{nothing_written}
use Rattle.gs_replica.specs.declared.op.Op.{Op}
use Rattle.gs_replica.specs.declared.op.Op.TheVariants.{Write, Append, Pad}
use Rattle.gs_replica.specs.Edits.{fresh, edited}
use Rattle.gs_replica.specs.Stands.{replica_of, edited_bytes, is_in_range}
use Rattle.gs_replica.proofs.Own.{Own}

pub fresh_stands : (block chunk : ℕ) (stamp : Stamp) → 1 ≤ block → block ≤ 65536 → chunk ≤ 67108864 → Own (fresh block chunk stamp) []
unfolding replica_of
fresh_stands block chunk stamp some block_fits chunk_fits = record { taken = tt; count = refl; done = refl; bytes = nothing_written block chunk some block_fits chunk_fits }

-- what an accepted edit leaves
abbrev pub Edited : Stored → Stored → Op → List ℕ → List ℕ → Type 0
Edited s s2 op piece ys = Rewritten s s2 (is_in_range s.chunk op piece (length ys)) (edited_bytes s.chunk op piece s.bytes) (edited_bytes s.chunk op piece ys)

pub edit_written : (op : Op) (s s2 : Stored) (piece ys : List ℕ) → WasWritten s ys → ToldApart s.block s.bytes ys → edited op piece s ≡ Ok s2 → Edited s s2 op piece ys
edit_written (Write offset) s s2 piece ys w told e = write_edited s s2 offset piece ys w told e
edit_written Append s s2 piece ys w told e = append_edited s s2 piece ys w told e
edit_written Pad s s2 piece ys w told e = pad_edited s s2 ys w told e
