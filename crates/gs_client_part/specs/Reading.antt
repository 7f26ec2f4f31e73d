-- The pieces of a read. All chunks of a file but the last are full: behind what a member stores of one stand zeros.
use Rattle.std.specs.Prelude.{◌+◌, ◌-◌, ◌*◌, ◌/◌, ◌++◌, ℕ, min, List, if◌then◌else◌, nat_lt, length, replicate}

abbrev pub filled : ℕ → List ℕ → List ℕ
filled many bytes = bytes ++ replicate (many - length bytes) 0

-- where a read that ends so leaves the chunk of this index
abbrev pub piece_end : ℕ → ℕ → ℕ → ℕ
piece_end size end index = min size (end - index * size)

-- how many chunks lie between two places of a file
abbrev pub span : ℕ → ℕ → ℕ → ℕ
span size offset end = if nat_lt offset end then (end - 1) / size + 1 - offset / size else 0
