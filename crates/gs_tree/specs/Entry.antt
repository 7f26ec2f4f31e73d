-- What stands at a path: a directory, or a file with the list of its chunks. The payload says what a chunk is: in the
-- store a handle, in the plain machine the bytes.
use Rattle.std.specs.Prelude.{◌≡◌, ℕ, List, Option, Some, None, refl}
use Rattle.std.specs.Coded.{Coded, code_by, coded_list, coded_option, coded_ℕ}

pub data Entry (A : Type 0) : Type 0 where
  Dir : Entry A
  File : List A → Entry A

abbrev pub chunks_of : {A : Type 0} → Entry A → Option (List A)
chunks_of Dir = None
chunks_of (File chunks) = Some chunks

abbrev pub entry_of : {A : Type 0} → Option (List A) → Entry A
entry_of None = Dir
entry_of (Some chunks) = File chunks

pub entry_back : {A : Type 0} (e : Entry A) → entry_of (chunks_of e) ≡ e
entry_back Dir = refl
entry_back (File chunks) = refl

abbrev pub coded_entry : Coded (Entry ℕ)
coded_entry = code_by (Option (List ℕ)) (coded_option (coded_list coded_ℕ)) chunks_of entry_of entry_back
