-- How the chunk that needs a replica most is looked for among those of so many members.
use Rattle.std.specs.Prelude.{◌≡◌, ◌&&◌, ℕ, Bool, List, [], ◌∷◌, Option, Some, None, nat_lt, if◌then◌else◌, refl}
use Rattle.std.specs.FinMap as fin
use Rattle.gs_master_spec.specs.Calls.{references}
use Rattle.gs_master_spec.specs.Chunks.{has_entry}
use Rattle.gs_master_spec.specs.State.{State}
use Rattle.gs_master_spec.specs.Working.{is_visible}

-- the master knows a chunk, and a file has it
abbrev pub is_in_use : State → ℕ → Bool
is_in_use s chunk = has_entry s chunk && nat_lt 0 (references s.durable.names chunk)

-- the first, if there is one, and else the other
abbrev pub or_else : Option ℕ → ℕ → Option ℕ
or_else None chunk = Some chunk
or_else (Some first) chunk = Some first

-- the first of these that is in use and stands at a visible path; without one the first that is in use, which may stand before them
abbrev pub first_in_use : State → Option ℕ → List ℕ → Option ℕ
first_in_use s hidden [] = hidden
first_in_use s hidden (chunk ∷ chunks) =
    if is_in_use s chunk
    then (if is_visible (fin.entries s.durable.names.tree) chunk then Some chunk else first_in_use s (or_else hidden chunk) chunks)
    else first_in_use s hidden chunks

none_of_none : (s : State) → first_in_use s None [] ≡ None
none_of_none s = refl
