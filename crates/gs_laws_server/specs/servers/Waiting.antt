-- The edits that wait under a lease.
use Rattle.std.specs.Prelude.{◌≡◌, ◌<◌, ◌≤◌, ℕ, List, [], ◌∷◌, map, refl}
use Rattle.std.specs.List.{All, AllPairs}
use Rattle.gs_server_lease.specs.declared.lease.Open.{Open}
use Rattle.gs_server_lease.specs.Leases.{waiting, waits_for, two_bytes}

-- each number is below those of all edits behind it
abbrev pub AreRising : List (ℕ × Open) → Type 0
AreRising edits = AllPairs (λ earlier later. earlier.0 < later.0) edits

-- and at most a count
abbrev pub AreCounted : ℕ → List (ℕ × Open) → Type 0
AreCounted count edits = All (λ edit. edit.0 ≤ count) edits

-- Worked: a second edit waits behind the first.
the_numbers_that_wait : map (λ (edit : ℕ × Open). edit.0) (waits_for 2 two_bytes waiting).outbox ≡ 1 ∷ 2 ∷ []
the_numbers_that_wait = refl
