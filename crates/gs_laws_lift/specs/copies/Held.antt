-- A call that waits to copy a chunk at a place of a file, or for its copy, holds that place.
use Rattle.std.specs.Prelude.{[], ◌∷◌, ◌==◌, ◌≡◌, ◌⊎◌, Bool, List, None, Option, Some, codes, false, refl, slice_get, true, ℕ}
use Rattle.std.specs.List.{AllByRecursion}
use Rattle.gs_base.specs.declared.config.Config.{Config}
use Rattle.gs_base.specs.declared.numbers.ReqId.{ReqId}
use Rattle.gs_edit.specs.View.{NamesView}
use Rattle.gs_lock.specs.declared.lock.Lock.{Lock}
use Rattle.gs_path.specs.Path.{Path, begins}
use Rattle.gs_laws_moves.specs.moves.Epochs.{EndsOnce}
use Rattle.gs_laws_moves.specs.moves.Guards.{Heard}
use Rattle.gs_laws_moves.specs.moves.Laws.{IsMadeWell}
use Rattle.gs_laws_moves.specs.moves.Shared.{IsUnleased}
use Rattle.gs_master_spec.specs.Applied.{is_visible}
use Rattle.gs_master_spec.specs.Calls.{chunks_at}
use Rattle.gs_master_spec.specs.Durable.{Durable, is_rolling}
use Rattle.gs_master_spec.specs.Handling.{restarted}
use Rattle.gs_master_spec.specs.State.{Log, State, Turn}
use Rattle.gs_master_spec.specs.Volatile.{Volatile}
use Rattle.gs_master_spec.specs.declared.pending.Pending.{Pending}
use Rattle.gs_master_spec.specs.declared.pending.Waiting.{Waiting}
use Rattle.gs_master_spec.specs.declared.pending.Waiting.TheVariants as waits
use Rattle.gs_master_state.specs.Sane.{are_apart}

abbrev pub IsIn : {A : Type 0} → A → List A → Type 0
IsIn a [] = ⊥
IsIn a (x ∷ xs) = (x ≡ a) ⊎ IsIn a xs

-- of a path that a call has locked, what is there is written, and what is above it is read
pub record IsLocked (locks : List Lock) (req : ReqId) (path : Path) : Type 0 where
  pub each : (touched : Path) → begins touched path ≡ true → (w : Bool) × IsIn (record { op = req; path = touched; writes = w }) locks × (touched ≡ path → w ≡ true)

-- the file of which a call holds a place
abbrev pub place_path : Waiting → Option Path
place_path (waits.Quiet path index quiet) = Some path
place_path (waits.Copy path index old new) = Some path
place_path waiting = None

-- Each call that holds a place has its locks, and holds the only place of its file that is held; and each call waits once.
pub record AreLocked (v : Volatile) : Type 0 where
  pub locked : (p : Pending) → IsIn p v.pending → (path : Path) → place_path p.waits ≡ Some path → IsLocked v.locks p.req path
  pub alone : (p q : Pending) → IsIn p v.pending → IsIn q v.pending → (path : Path) → place_path p.waits ≡ Some path → place_path q.waits ≡ Some path → p.req ≡ q.req
  pub apart : are_apart v.pending ≡ true

-- the chunk at a place
abbrev pub slot : NamesView → Path → ℕ → Option ℕ
slot names path index = slice_get (chunks_at names path) index

-- the copy has come there; or the chunk stands there still, and nobody may write it
abbrev pub IsStill : State → Path → ℕ → ℕ → ℕ → Type 0
IsStill s path index old new = (slot s.durable.names path index ≡ Some new) ⊎ ((slot s.durable.names path index ≡ Some old) × IsUnleased s old)

abbrev pub HoldsPlace : State → Waiting → Type 0
HoldsPlace s (waits.Quiet path index quiet) = (is_visible path ≡ true) × (slot s.durable.names path index ≡ Some quiet)
HoldsPlace s (waits.Copy path index old new) = (is_visible path ≡ true) × ((old == new) ≡ false) × IsStill s path index old new
HoldsPlace s waiting = Unit {0}

pub record AreHeld (s : State) : Type 0 where
  pub locks : AreLocked s.volatile
  pub places : AllByRecursion (λ (p : Pending). HoldsPlace s p.waits) s.volatile.pending

-- ---- over each turn

-- So it stays over each turn of a master at which no call waits while a rollback goes on, and so it is at a start.
abbrev pub HeldStays : Type 0
HeldStays = (config : Config) (heard : Heard) (s : State) (t : Turn) → EndsOnce config (IsMadeWell config heard) s t → (is_rolling s.durable.phase ≡ true → s.volatile.pending ≡ []) → AreHeld s → AreHeld t.after

abbrev pub HeldStarts : Type 0
HeldStarts = (d : Durable) (log : Log) → AreHeld (restarted d log)

-- ---- examples

abbrev f : Path
f = codes "f" ∷ []

who_waits_for_a_copy_holds_its_file : place_path (waits.Copy f 0 7 8) ≡ Some f
who_waits_for_a_copy_holds_its_file = refl

who_waits_for_a_lease_holds_none : place_path (waits.Lease f 0 7) ≡ None
who_waits_for_a_lease_holds_none = refl
