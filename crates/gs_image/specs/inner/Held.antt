-- What a writer holds.
use Rattle.std.specs.Prelude.{◌≡◌, ◌+◌, ◌++◌, ◌∷◌, ℕ, zero, suc, List, [], take, drop, flat_map}
use Rattle.byteorder.specs.Endian.{big_number}
use Rattle.gs_image.specs.Images.{AreShort, front, part_written}

-- so many parts that stand one behind the other
abbrev pub parts_in : ℕ → List ℕ → List (List ℕ)
parts_in zero bytes = []
parts_in (suc count) bytes = take (big_number 8 bytes) (drop 8 bytes) ∷ parts_in count (drop (40 + big_number 8 bytes) bytes)

-- the parts so far, behind room for how many there are
abbrev pub held : ℕ → List ℕ → List (List ℕ)
held count bytes = parts_in count (drop 27 bytes)

pub record IsHeld (count : ℕ) (bytes : List ℕ) : Type 0 where
  pub stand : bytes ≡ front 0 ++ flat_map part_written (held count bytes)
  pub short : AreShort (held count bytes)
