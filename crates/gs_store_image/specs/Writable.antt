-- Which replicas can be written: those that as many bytes tell as a field has.
use Rattle.std.specs.Prelude.{◌≡◌, ◌<◌, ◌^◌, ℕ, List, length, ⊤, Option, Some}
use Rattle.std.specs.FinMap as fin
use Rattle.std.specs.Ordering.{nat_cmp}
use Rattle.gs_base.specs.Told.{IsNumber}
use Rattle.gs_block.specs.Images.{Images}
use Rattle.gs_fields.specs.Writable.{IsStamp, AreLongBytes, AreLongItems, IsOption}
use Rattle.gs_replica.specs.declared.op.Done.{Done}
use Rattle.gs_replica.specs.declared.op.EditOutcome.{EditOutcome}
use Rattle.gs_replica.specs.declared.op.EditOutcome.TheVariants.{Written, Appended, Padded}
use Rattle.gs_replica.specs.declared.seal.Seal.{Seal}
use Rattle.gs_replica.specs.Copies.{SealedImage}
use Rattle.gs_replica.specs.First.{First}
use Rattle.gs_replica.specs.Parts.{stands_as}
use Rattle.gs_replica.specs.Seals.{State}
use Rattle.gs_store_image.specs.Encoding.{seals_of}
use Rattle.gs_store_image.specs.Reading.{replica_of}

abbrev pub IsOutcome : EditOutcome → Type 0
IsOutcome Written = ⊤
IsOutcome (Appended offset) = IsNumber offset
IsOutcome Padded = ⊤

abbrev pub IsDone : Done → Type 0
IsDone d = IsNumber d.number × IsOutcome d.outcome

abbrev pub IsEntry : ℕ × Done → Type 0
IsEntry e = (e.0 < 2 ^ 32) × IsDone e.1

abbrev pub IsTable : fin.FinMap nat_cmp Done → Type 0
IsTable m = AreLongItems IsEntry (fin.entries m)

abbrev pub AreDigests : List (List ℕ) → Type 0
AreDigests list = AreLongItems (λ d. length d ≡ 32) list

abbrev pub AreBlocks : SealedImage → Type 0
AreBlocks i = AreLongBytes i.image.bytes × AreDigests i.digests

abbrev pub AreTold : SealedImage → Type 0
AreTold i = IsTable i.image.done × AreBlocks i

abbrev pub AreCounted : SealedImage → Type 0
AreCounted i = IsNumber i.image.count × AreTold i

abbrev pub AreParts : SealedImage → Type 0
AreParts i = IsStamp i.stamp × AreCounted i

abbrev pub AreImages : Images → Type 0
AreImages i = IsNumber i.long × (AreDigests i.digests × AreLongItems (IsOption AreLongBytes) i.blocks)

abbrev pub IsFirstEntry : ℕ × Option Done → Type 0
IsFirstEntry e = (e.0 < 2 ^ 32) × IsOption IsDone e.1

abbrev pub AreFirstEntries : First → Type 0
AreFirstEntries m = AreLongItems IsFirstEntry (fin.entries m)

abbrev pub IsTakenBack : Seal → Type 0
IsTakenBack s = AreImages s.images × AreFirstEntries s.first

abbrev pub IsSealCounted : Seal → Type 0
IsSealCounted s = IsNumber s.count × IsTakenBack s

abbrev pub IsSeal : Seal → Type 0
IsSeal s = IsStamp s.stamp × IsSealCounted s

-- what stands of a replica, and its seal, where it is sealed
abbrev pub IsTold : State → Type 0
IsTold r = AreParts (stands_as r.held) × IsOption IsSeal (seals_of r.sealed)

-- a replica in a chunk of these sizes: its parts make it again
abbrev pub IsReplica : ℕ → ℕ → State → Type 0
IsReplica block chunk r = IsTold r × (replica_of block chunk (stands_as r.held, seals_of r.sealed) ≡ Some r)
