-- Which calls wait. Each was heard, and the place that it named stays as it is until the call is answered.
use Rattle.std.specs.Prelude.{[], ◌||◌, ◌∷◌, ◌≡◌, ◌⊎◌, Bool, Contains, List, None, Option, Some, codes, false, refl, true, ℕ}
use Rattle.gs_base.specs.declared.config.Config.{Config}
use Rattle.gs_base.specs.declared.numbers.ReqId.{ReqId}
use Rattle.gs_base.specs.declared.numbers.Stamp.{Stamp}
use Rattle.gs_edit.specs.View.{NamesView}
use Rattle.gs_lock.specs.declared.lock.Lock.{Lock}
use Rattle.gs_msg.specs.declared.body.Body.TheVariants as bodies
use Rattle.gs_msg.specs.declared.call.Call.{Call}
use Rattle.gs_msg.specs.declared.call.Call.TheVariants as calls
use Rattle.gs_path.specs.Path.{Path, begins}
use Rattle.gs_laws_lift.specs.copies.Held.{IsIn}
use Rattle.gs_laws_moves.specs.moves.Epochs.{EndsOnce}
use Rattle.gs_laws_moves.specs.moves.ForCalls.{HasChunks, IsMadeWellFor, StandsAt}
use Rattle.gs_laws_moves.specs.moves.Guards.{Heard}
use Rattle.gs_master_spec.specs.Applied.{is_visible}
use Rattle.gs_master_spec.specs.Durable.{Durable, is_rolling}
use Rattle.gs_master_spec.specs.Handling.{restarted}
use Rattle.gs_master_spec.specs.State.{Log, State, Turn}
use Rattle.gs_master_spec.specs.Volatile.{Volatile}
use Rattle.gs_master_spec.specs.declared.pending.Pending.{Pending}
use Rattle.gs_master_spec.specs.declared.pending.Waiting.{Waiting}
use Rattle.gs_master_spec.specs.declared.pending.Waiting.TheVariants as waits
use Rattle.gs_master_state.specs.Sane.{are_apart}

-- ---- calls that were heard

-- this call is one of some that were heard
abbrev pub WasCalled : List (ReqId × Call) → ReqId → Call → Type 0
WasCalled all req call = Contains all (req, call)

-- a call that is heard now is one of these
abbrev pub HearsOneOf : List (ReqId × Call) → Heard → Type 0
HearsOneOf all heard = (from : ℕ) (req : ReqId) (call : Call) → heard ≡ Some (from, bodies.Call req call) → WasCalled all req call

-- ---- the file of a call that waits

abbrev pub file_of : Waiting → Option Path
file_of (waits.Extend path new) = Some path
file_of (waits.Lease path index chunk) = Some path
file_of (waits.Quiet path index quiet) = Some path
file_of (waits.Copy path index old new) = Some path
file_of waiting = None

-- the call writes that file; or it only reads it
abbrev pub writes_it : Waiting → Bool
writes_it (waits.Extend path new) = true
writes_it (waits.Quiet path index quiet) = true
writes_it (waits.Copy path index old new) = true
writes_it waiting = false

-- A call has locked a path. It has locks at the path and at each one above it, and a lock to write at the path if it writes it.
pub record IsLockedAs (writes : Bool) (locks : List Lock) (req : ReqId) (path : Path) : Type 0 where
  pub each : (touched : Path) → begins touched path ≡ true → (w : Bool) × IsIn (record { op = req; path = touched; writes = w }) locks × (touched ≡ path → writes ≡ true → w ≡ true)

-- Each call that waits has the locks of its file. Of two calls with the same file none writes it. Each waits once.
pub record HoldLocks (v : Volatile) : Type 0 where
  pub locked : (p : Pending) → IsIn p v.pending → (path : Path) → file_of p.waits ≡ Some path → IsLockedAs (writes_it p.waits) v.locks p.req path
  pub alone : (p q : Pending) → IsIn p v.pending → IsIn q v.pending → (path : Path) → file_of p.waits ≡ Some path → file_of q.waits ≡ Some path → (writes_it p.waits || writes_it q.waits) ≡ true → p.req ≡ q.req
  pub apart : are_apart v.pending ≡ true

-- ---- what a call waits for

-- A call to find this place for writing was heard.
abbrev pub WasToWrite : List (ReqId × Call) → ReqId → Path → ℕ → Type 0
WasToWrite all req path index = (stamp : Option Stamp) × WasCalled all req (calls.FindForWriting path index stamp)

-- A call to extend the file after its last chunk was heard, and the file has as many chunks still.
abbrev pub WaitsForEnd : List (ReqId × Call) → NamesView → ReqId → Path → Type 0
WaitsForEnd all names req path = (index : ℕ) × WasCalled all req (calls.Extend path index) × HasChunks names path index

-- A call waits for what it was heard for. The chunk stands at the place that the call named, or the copy does that it waits for.
abbrev pub WaitsFor : List (ReqId × Call) → NamesView → ReqId → Waiting → Type 0
WaitsFor all names req (waits.Extend path new) = (is_visible path ≡ true) × WaitsForEnd all names req path
WaitsFor all names req (waits.Lease path index chunk) = (is_visible path ≡ true) × WasToWrite all req path index × StandsAt names path index chunk
WaitsFor all names req (waits.Quiet path index quiet) = (is_visible path ≡ true) × WasToWrite all req path index × StandsAt names path index quiet
WaitsFor all names req (waits.Copy path index old new) = (is_visible path ≡ true) × WasToWrite all req path index × (StandsAt names path index new ⊎ StandsAt names path index old)
WaitsFor all names req (waits.Snapshot from to) = WasCalled all req (calls.Snapshot from to)
WaitsFor all names req (waits.Replicate chunk target) = WasCalled all req calls.Replicate

-- each call that waits has its locks, and waits for what it was heard for
pub record AreAskedFor (all : List (ReqId × Call)) (s : State) : Type 0 where
  pub locks : HoldLocks s.volatile
  pub calls : (p : Pending) → IsIn p s.volatile.pending → WaitsFor all s.durable.names p.req p.waits

-- ---- what is to hold

-- This stays over each turn of a master at which no call waits while a rollback goes on.
abbrev pub AskedStay : Type 0
AskedStay = (all : List (ReqId × Call)) (config : Config) (heard : Heard) (s : State) (t : Turn) → EndsOnce config (IsMadeWellFor config heard) s t → HearsOneOf all heard → (is_rolling s.durable.phase ≡ true → s.volatile.pending ≡ []) → AreAskedFor all s → AreAskedFor all t.after

-- It holds at a start.
abbrev pub AskedStart : Type 0
AskedStart = (all : List (ReqId × Call)) (d : Durable) (log : Log) → AreAskedFor all (restarted d log)

-- It holds also where more calls were heard.
abbrev pub AskedGrow : Type 0
AskedGrow = (all more : List (ReqId × Call)) → ((x : ReqId × Call) → Contains all x → Contains more x) → (s : State) → AreAskedFor all s → AreAskedFor more s

-- ---- examples

abbrev f : Path
f = codes "f" ∷ []

who_waits_for_a_lease_reads_its_file : (file_of (waits.Lease f 0 7) ≡ Some f) × (writes_it (waits.Lease f 0 7) ≡ false)
who_waits_for_a_lease_reads_its_file = (refl, refl)

who_extends_a_file_writes_it : (file_of (waits.Extend f 7) ≡ Some f) × (writes_it (waits.Extend f 7) ≡ true)
who_extends_a_file_writes_it = (refl, refl)

who_makes_a_replica_has_no_file : file_of (waits.Replicate 7 1) ≡ None
who_makes_a_replica_has_no_file = refl
