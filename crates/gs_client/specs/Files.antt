-- Calls of open files.
use Rattle.std.specs.Prelude.{◌≡◌, ℕ, List, Option, Some, None, Result, Ok, Err}
use Rattle.gs_base.specs.declared.refusal.Refusal.{Refusal}
use Rattle.gs_path.specs.Path.{Path}
use Rattle.gs_client_dialogue.specs.Dialogues.{Say, both}
use Rattle.gs_client_part.specs.declared.located.Located.{Located}
use Rattle.gs_client.specs.Opened.{File}
use Rattle.gs_client.specs.Trees.{Call}
use Rattle.gs_client.specs.Looking.{chunks_call}
use Rattle.gs_client.specs.Reading.{digest_call, read_call}
use Rattle.gs_client.specs.Writing.{append_call, write_call}

-- a file that was just opened
abbrev pub opened_with : Path → ℕ → File
opened_with path chunks = record { path = path; opened = Some chunks; located = None; edits = 0 }

abbrev pub open_call : Path → Call File
open_call path = both (chunks_call path) (λ chunks. Say (Ok (opened_with path chunks)))

-- what is read of an open file, and written to it, where chunks have this size
abbrev pub read_of : ℕ → ℕ → ℕ → File → Call (List ℕ × Option Located)
read_of size offset many file = read_call size file.path file.opened file.located offset many

abbrev pub digest_of : ℕ → ℕ → File → Call (List ℕ × Option Located)
digest_of index block file = digest_call file.path file.opened file.located index block

abbrev pub write_to : ℕ → ℕ → List ℕ → File → Call (Unit {0})
write_to size offset bytes file = write_call size file.path file.opened offset bytes

abbrev pub append_to : ℕ → List ℕ → File → Call ℕ
append_to size bytes file = append_call size file.path file.opened bytes

-- a file whose first call is begun
abbrev pub used : File → File
used file = record file { opened = None }

-- what a reading call came to, and the location that its file remembers then
abbrev pub with_location : {A : Type 0} → Result A Refusal → File → Result (A × Option Located) Refusal
with_location (Ok x) file = Ok (x, file.located)
with_location (Err refusal) file = Err refusal

-- A reading call remembers a location, and behind a refusal none.
abbrev pub Remembers : {A : Type 0} → File → Result A Refusal → File → Type 0
Remembers old (Ok x) new = new ≡ record (used old) { located = new.located }
Remembers old (Err refusal) new = new ≡ record (used old) { located = None }
