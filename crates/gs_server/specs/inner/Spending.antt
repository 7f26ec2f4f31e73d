-- Leases that are over, and the room of those that are spent.
use Rattle.std.specs.Prelude.{◌≡◌, ℕ, List, [], ◌∷◌, Option, false, map}
use Rattle.std.specs.List.{All, filter, list_any}
use Rattle.std.specs.FinMap as fin
use Rattle.std.specs.Ordering.{nat_cmp, eq_by_cmp}
use Rattle.gs_base.specs.declared.numbers.Moment.{Moment}
use Rattle.gs_base_table.specs.Slots.{HasRoom}
use Rattle.gs_server_lease.specs.Leases.{PrimaryLease, is_over}

-- whose they are, ascending
abbrev pub over_of : Moment → List (ℕ × PrimaryLease) → List ℕ
over_of moment entries = map (λ e. e.0) (filter (λ e. is_over moment e.1) entries)

-- the leases without those of some handles
abbrev pub without : List ℕ → fin.FinMap nat_cmp PrimaryLease → fin.FinMap nat_cmp PrimaryLease
without [] leases = leases
without (handle ∷ handles) leases = without handles (fin.remove leases handle)

-- these handles have no room any more, each other has what it had, and none has been made
pub record GivesUpEach {V : Type 0} (old new : List (ℕ × Option V)) (handles : List ℕ) : Type 0 where
  pub none : All (λ handle. HasRoom nat_cmp new handle → ⊥) handles
  pub others : (other : ℕ) → list_any (eq_by_cmp nat_cmp other) handles ≡ false → HasRoom nat_cmp old other → HasRoom nat_cmp new other
  pub fewer : (other : ℕ) → HasRoom nat_cmp new other → HasRoom nat_cmp old other
