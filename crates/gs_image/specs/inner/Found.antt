-- What the functions of a reading find.
use Rattle.std.specs.Prelude.{◌≡◌, ◌<◌, ◌^◌, ◌++◌, ℕ, List, length, flat_map, Result, Ok, Err}
use Rattle.sha2.specs.Sha256.{sha256}
use Rattle.gs_image.specs.Images.{AreShort, front, part_written}
use Rattle.gs_image.specs.Refused.{EndsInDigest, EndsInPart, HasBytesBehind, HasOtherDigest, IsOtherDigest, IsWrongAt, Refuses, pointed}
use Rattle.gs_image.specs.declared.fault.ImageFault.{ImageFault}
use Rattle.gs_image.specs.declared.fault.ImageFault.TheVariants as fault
use Rattle.gs_image.specs.declared.reading.Front.{Front}
use Rattle.gs_image.specs.declared.reading.Part.{Part}
use Rattle.gs_image.specs.declared.reading.Parts.{Parts}

-- how many parts there are to be
abbrev pub FindsFront : Result Front ImageFault → List ℕ → Type 0
FindsFront (Ok found) bytes = bytes ≡ front found.count ++ found.rest.now
FindsFront (Err fault.ShortFront) bytes = Refuses fault.ShortFront bytes
FindsFront (Err fault.Magic) bytes = Refuses fault.Magic bytes
FindsFront (Err fault.Version) bytes = Refuses fault.Version bytes
FindsFront (Err f) bytes = ⊥

-- part i
abbrev pub FindsPart : ℕ → Result Part ImageFault → List ℕ → Type 0
FindsPart i (Ok found) bytes = (length found.bytes.now < 2 ^ 64) × (bytes ≡ part_written found.bytes.now ++ found.rest.now)
FindsPart i (Err (fault.PartLength k)) bytes = (k ≡ i) × EndsInPart bytes
FindsPart i (Err (fault.PartDigest k)) bytes = (k ≡ i) × HasOtherDigest bytes
FindsPart i (Err f) bytes = ⊥

-- so many parts
abbrev pub FindsParts : ℕ → Result Parts ImageFault → List ℕ → Type 0
FindsParts count (Ok found) bytes =
    (length (pointed found.parts.items) ≡ count) × AreShort (pointed found.parts.items) × (bytes ≡ flat_map part_written (pointed found.parts.items) ++ found.rest.now)
FindsParts count (Err fault.Memory) bytes = Unit {0}
FindsParts count (Err (fault.PartLength i)) bytes = IsWrongAt i count EndsInPart bytes
FindsParts count (Err (fault.PartDigest i)) bytes = IsWrongAt i count HasOtherDigest bytes
FindsParts count (Err f) bytes = ⊥

-- the digest of all that stands before, and nothing behind it
abbrev pub FindsEnd : Result (Unit {0}) ImageFault → List ℕ → List ℕ → Type 0
FindsEnd (Ok _) before rest = rest ≡ sha256 before
FindsEnd (Err fault.ShortEnd) before rest = EndsInDigest before rest
FindsEnd (Err fault.Digest) before rest = IsOtherDigest before rest
FindsEnd (Err fault.Behind) before rest = HasBytesBehind before rest
FindsEnd (Err f) before rest = ⊥
