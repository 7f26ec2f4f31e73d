-- What the code finds in a disk's bytes.
use Rattle.std.specs.Prelude.{◌≡◌, ◌≤◌, ◌+◌, ◌++◌, ℕ, true, false, Option, Some, None, List, [], ◌∷◌, length, take, drop}
use Rattle.gs_journal.specs.Records.{is_begun, version_of, generation_of, records_behind}
use Rattle.gs_journal.specs.inner.Rest.{IsComplete}
use Rattle.gs_journal.specs.declared.frame.Header.{Header}
use Rattle.gs_journal.specs.declared.frame.Found.{Found}

abbrev pub FindsHeader : Option Header → List ℕ → Type 0
FindsHeader (Some h) bytes = (is_begun bytes ≡ true) × (h.version ≡ version_of bytes) × (h.generation ≡ generation_of bytes)
FindsHeader None bytes = is_begun bytes ≡ false

-- a record at the front, the bytes of which go on to the rest
pub record IsFound (found : Found) (bytes : List ℕ) : Type 0 where
  pub within : 6 + length found.body.now ≤ length bytes
  pub rest : found.rest.now ≡ drop (6 + length found.body.now) bytes
  pub goes_on : (more : List ℕ) → records_behind 0 (take (6 + length found.body.now) bytes ++ more) ≡ (found.kind, found.body.now) ∷ records_behind 0 more

abbrev pub FindsRecord : Option Found → List ℕ → Type 0
FindsRecord (Some found) bytes = IsFound found bytes
FindsRecord None bytes = records_behind 0 bytes ≡ []

-- the records of a disk end there
pub record IsEnd (end : ℕ) (bytes : List ℕ) : Type 0 where
  pub within : end ≤ length bytes
  pub complete : IsComplete (take end bytes)
  pub no_more : records_behind 0 (drop end bytes) ≡ []
