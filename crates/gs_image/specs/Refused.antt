-- What a reading gives, and what each fault says of the bytes.
use Rattle.std.specs.Prelude.{◌≡◌, ◌≢◌, ◌<◌, ◌≤◌, ◌+◌, ◌^◌, ◌++◌, ℕ, List, length, take, drop, map, flat_map, Result, Ok, Err}
use Rattle.std.specs.Borrow.{Bor}
use Rattle.std.specs.Global.{Vec}
use Rattle.byteorder.specs.Endian.{big_number}
use Rattle.sha2.specs.Sha256.{sha256}
use Rattle.gs_image.specs.Images.{AreParts, AreShort, body, front, magic, part_written, version, written}
use Rattle.gs_image.specs.declared.fault.ImageFault.{ImageFault}
use Rattle.gs_image.specs.declared.fault.ImageFault.TheVariants as fault

-- no part stands there: the bytes end before it does
abbrev pub EndsInPart : List ℕ → Type 0
EndsInPart rest = length rest < 40 + big_number 8 rest

-- the bytes of the part that stands there, and the digest behind them
abbrev pub part_at : List ℕ → List ℕ
part_at rest = take (big_number 8 rest) (drop 8 rest)

abbrev pub digest_at : List ℕ → List ℕ
digest_at rest = take 32 (drop (8 + big_number 8 rest) rest)

abbrev pub HasOtherDigest : List ℕ → Type 0
HasOtherDigest rest = (40 + big_number 8 rest ≤ length rest) × (digest_at rest ≢ sha256 (part_at rest))

-- of so many parts those before part i stand there, and this is wrong of what stands behind them
pub record IsWrongAt (i count : ℕ) (Wrong : List ℕ → Type 0) (bytes : List ℕ) : Type 0 where
  pub parts : List (List ℕ)
  pub rest : List ℕ
  pub before : length parts ≡ i
  pub within : i < count
  pub short : AreShort parts
  pub stand : bytes ≡ flat_map part_written parts ++ rest
  pub wrong : Wrong rest

pub record HasWrongPart (i : ℕ) (Wrong : List ℕ → Type 0) (bytes : List ℕ) : Type 0 where
  pub count : ℕ
  pub rest : List ℕ
  pub fits : count < 2 ^ 64
  pub stand : bytes ≡ front count ++ rest
  pub wrong : IsWrongAt i count Wrong rest

-- all parts stand there, and this is wrong of what stands behind them
pub record HasWrongEnd (Wrong : List ℕ → List ℕ → Type 0) (bytes : List ℕ) : Type 0 where
  pub parts : List (List ℕ)
  pub rest : List ℕ
  pub are : AreParts parts
  pub stand : bytes ≡ body parts ++ rest
  pub wrong : Wrong (body parts) rest

abbrev pub EndsInDigest : List ℕ → List ℕ → Type 0
EndsInDigest before rest = length rest < 32

abbrev pub IsOtherDigest : List ℕ → List ℕ → Type 0
IsOtherDigest before rest = (32 ≤ length rest) × (take 32 rest ≢ sha256 before)

abbrev pub HasBytesBehind : List ℕ → List ℕ → Type 0
HasBytesBehind before rest = (take 32 rest ≡ sha256 before) × (32 < length rest)

-- why bytes are no image; where memory ran out it isn't known
abbrev pub Refuses : ImageFault → List ℕ → Type 0
Refuses fault.Memory bytes = Unit {0}
Refuses fault.ShortFront bytes = length bytes < 27
Refuses fault.Magic bytes = take 17 bytes ≢ magic
Refuses fault.Version bytes = (take 17 bytes ≡ magic) × (take 2 (drop 17 bytes) ≢ version)
Refuses (fault.PartLength i) bytes = HasWrongPart i EndsInPart bytes
Refuses (fault.PartDigest i) bytes = HasWrongPart i HasOtherDigest bytes
Refuses fault.ShortEnd bytes = HasWrongEnd EndsInDigest bytes
Refuses fault.Digest bytes = HasWrongEnd IsOtherDigest bytes
Refuses fault.Behind bytes = HasWrongEnd HasBytesBehind bytes

-- the bytes that slices point to
abbrev pub pointed : List (Bor (List ℕ)) → List (List ℕ)
pointed parts = map (λ part. part.now) parts

-- What is read of bytes: parts whose image they are, or why they are no image.
abbrev pub Reads : Result (Vec (Bor (List ℕ))) ImageFault → List ℕ → Type 0
Reads (Ok parts) bytes = AreParts (pointed parts.items) × (bytes ≡ written (pointed parts.items))
Reads (Err f) bytes = Refuses f bytes

abbrev pub IsNoImage : List ℕ → Type 0
IsNoImage bytes = (parts : List (List ℕ)) → AreParts parts → bytes ≢ written parts
