-- When a journal's disks are at rest, and what the calls of a journal answer.
use Rattle.std.specs.Prelude.{◌≡◌, ◌≢◌, ◌⊎◌, ◌+◌, ◌≤◌, ◌++◌, ℕ, false, List, [], ◌∷◌, length, take, get_or, sum_by}
use Rattle.gs_journal.specs.Records.{Entry, header_length, is_begun, records_behind, records_of}
use Rattle.gs_journal.specs.Journal.{record_size}

-- The bytes are a header and whole records, and nothing else: what stands behind them is read on from there.
pub record IsComplete (front : List ℕ) : Type 0 where
  pub header : header_length ≤ length front
  pub size : length front ≡ header_length + sum_by record_size (records_of front)
  pub goes_on : (rest : List ℕ) → records_of (front ++ rest) ≡ records_of front ++ records_behind 0 rest

-- a header and whole records, and then one byte, which is a closed gate
pub record IsAtRest (end : ℕ) (bytes : List ℕ) : Type 0 where
  pub length : length bytes ≡ end + 1
  pub closed : get_or bytes end 1 ≢ 1
  pub complete : IsComplete (take end bytes)

-- the bytes have the header of others, and these records
pub record Continues (old : List ℕ) (records : List Entry) (bytes : List ℕ) : Type 0 where
  pub same_header : take header_length bytes ≡ take header_length old
  pub has : records_of bytes ≡ records

-- the bytes have the header of others, and their records with one more or without it
abbrev pub IsBeforeOrAfter : List ℕ → Entry → List ℕ → Type 0
IsBeforeOrAfter old r c = Continues old (records_of old) c ⊎ Continues old (records_of old ++ r ∷ []) c

-- the bytes aren't those of a disk that may count, or they are the front of what stood there
abbrev pub IsUnmade : List ℕ → List ℕ → Type 0
IsUnmade old c = (is_begun c ≡ false) ⊎ ((n : ℕ) × (c ≡ take n old))

-- while a disk is made anew
abbrev pub IsMaking : List ℕ → List ℕ → List ℕ → Type 0
IsMaking text old c = IsUnmade old c ⊎ (c ≡ 1 ∷ text)
