-- The edits that are settled between two accounts.
use Rattle.std.specs.Prelude.{[], ◌≡◌, List, None, Option, Some, drop, length, refl, ℕ}
use Rattle.gs_replica.specs.Stands.{Edit}
use Rattle.gs_laws_chunks.specs.accounts.Accounts.{Account, settled_edits}

-- of a chunk: those that are settled in the second behind as many as are in the first
abbrev pub newly_settled : Account → Account → ℕ → List Edit
newly_settled a b chunk = drop (length (settled_edits a chunk)) (settled_edits b chunk)

-- at a place of a file
abbrev pub settled_at : Account → Account → Option ℕ → List Edit
settled_at a b None = []
settled_at a b (Some chunk) = newly_settled a b chunk

-- ---- Worked
at_no_place_none : (a b : Account) → settled_at a b None ≡ []
at_no_place_none a b = refl
