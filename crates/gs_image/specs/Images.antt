-- An image: a version, and a list of parts, as bytes. A number has eight bytes, the highest first.
use Rattle.std.specs.Prelude.{◌≡◌, ◌<◌, ◌^◌, ◌++◌, ◌∷◌, ℕ, List, [], length, flat_map, codes, refl}
use Rattle.std.specs.List.{AllByRecursion}
use Rattle.byteorder.specs.Endian.{big_bytes}
use Rattle.sha2.specs.Sha256.{sha256}

-- what an image begins with, and its version behind that
abbrev pub magic : List ℕ
magic = codes "chunkstore image "

abbrev pub version : List ℕ
version = codes "1" ++ 10 ∷ []

abbrev pub number : ℕ → List ℕ
number n = big_bytes 8 n

-- a part: its length, its bytes, and their digest
abbrev pub part_written : List ℕ → List ℕ
part_written part = number (length part) ++ (part ++ sha256 part)

-- what stands in front of so many parts
abbrev pub front : ℕ → List ℕ
front count = magic ++ (version ++ number count)

-- all that stands before the last digest
abbrev pub body : List (List ℕ) → List ℕ
body parts = front (length parts) ++ flat_map part_written parts

-- the image of some parts
abbrev pub written : List (List ℕ) → List ℕ
written parts = body parts ++ sha256 (body parts)

-- eight bytes tell how long each part is
abbrev pub AreShort : List (List ℕ) → Type 0
AreShort parts = AllByRecursion (λ part. length part < 2 ^ 64) parts

-- and how many parts there are
abbrev pub AreParts : List (List ℕ) → Type 0
AreParts parts = (length parts < 2 ^ 64) × AreShort parts

-- ---- examples

a_front_has_27_bytes : length (front 2) ≡ 27
a_front_has_27_bytes = refl

a_part_has_40_bytes_more : part_written (codes "ab") ≡ 0 ∷ 0 ∷ 0 ∷ 0 ∷ 0 ∷ 0 ∷ 0 ∷ 2 ∷ 97 ∷ 98 ∷ sha256 (codes "ab")
a_part_has_40_bytes_more = refl

no_part : written [] ≡ (codes "chunkstore image 1" ++ 10 ∷ 0 ∷ 0 ∷ 0 ∷ 0 ∷ 0 ∷ 0 ∷ 0 ∷ 0 ∷ []) ++ sha256 (codes "chunkstore image 1" ++ 10 ∷ 0 ∷ 0 ∷ 0 ∷ 0 ∷ 0 ∷ 0 ∷ 0 ∷ 0 ∷ [])
no_part = refl
