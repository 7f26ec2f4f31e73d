-- The parts of a write, each of one chunk, and the place of a record.
use Rattle.std.specs.Prelude.{◌+◌, ◌-◌, ◌*◌, ◌/◌, ◌%◌, ◌==◌, ◌||◌, ℕ, min, List, Bool, if◌then◌else◌, Result, Ok, Err, nat_lt, length, slice_range}
use Rattle.gs_base.specs.declared.refusal.Refusal.{Refusal}
use Rattle.gs_base.specs.declared.refusal.Refusal.TheVariants as refusals

-- the most chunks of a file
abbrev pub most_chunks : ℕ
most_chunks = 4096

-- where part `i` of a write begins in its chunk, and its bytes
abbrev pub part_start : ℕ → ℕ → ℕ → ℕ
part_start size offset i = if i == 0 then offset % size else 0

abbrev pub part_bytes : ℕ → ℕ → List ℕ → ℕ → List ℕ
part_bytes size offset bytes i =
    let to = min ((i + 1) * size - offset % size) (length bytes) in
    slice_range bytes (min (i * size - offset % size) to) to

-- how many chunks a file has that ends where a write ends
abbrev pub chunks_to : ℕ → ℕ → List ℕ → ℕ
chunks_to size offset bytes = (offset + length bytes - 1) / size + 1

-- a write of no bytes, or past the last chunk that a file may have
abbrev pub is_out : ℕ → ℕ → List ℕ → Bool
is_out size offset bytes = (length bytes == 0) || nat_lt (most_chunks * size) (offset + length bytes)

-- how many parts a write has
abbrev pub part_count : ℕ → ℕ → List ℕ → ℕ
part_count size offset bytes = chunks_to size offset bytes - offset / size

-- where in its file a record stands
abbrev pub placed : ℕ → ℕ → ℕ → Result ℕ Refusal
placed size index offset = if nat_lt offset size then Ok (index * size + offset) else Err refusals.Stray
