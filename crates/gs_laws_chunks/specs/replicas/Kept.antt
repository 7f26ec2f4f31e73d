-- That a live replica stays, over runs of a store.
use Rattle.std.specs.Prelude.{[], ◌∷◌, ◌≡◌, Bool, List, None, Option, Some, false, is_none, is_some, not, refl, slice_get, true, ℕ}
use Rattle.gs_replica.specs.Seals.{Sealed, lowest_damaged}
use Rattle.gs_server.specs.Runs as at_server
use Rattle.gs_server.specs.Runs.{slot_in}
use Rattle.gs_server.specs.Servers.{Server}
use Rattle.gs_store.specs.Calls as calls
use Rattle.gs_store.specs.Calls.{Call}
use Rattle.gs_store.specs.Slots.{Slot, nothing, sealed_of}
use Rattle.gs_world.specs.Histories.{History}
use Rattle.gs_world.specs.Runs.{Step}
use Rattle.gs_laws_chunks.specs.accounts.Accounts.{Account}
use Rattle.gs_laws_chunks.specs.accounts.Moving.{call_in, event_at}
use Rattle.gs_laws_chunks.specs.accounts.Running.{IsReached, Runs, Setup}

-- a rollback makes live again what was sealed, if each block of it has its sealed digest
abbrev pub restores : Option Sealed → Bool
restores None = false
restores (Some t) = is_none (lowest_damaged t.undone)

-- the calls by which a live replica goes: a loss, a drop, and a rollback that finds nothing to make live
abbrev pub takes_live : Slot → Option Call → Bool
takes_live s (Some calls.Loses) = true
takes_live s (Some (calls.Drops promise)) = true
takes_live s (Some (calls.RollsBack epoch)) = not (restores (sealed_of s))
takes_live s call = false

-- such a call is what an event makes of the chunk at a server
abbrev pub takes_at : ℕ → Option at_server.Event → Option Server → Bool
takes_at chunk event None = false
takes_at chunk event (Some s) = takes_live (slot_in chunk s) (call_in chunk event (Some s))

module _ {D : Type 0} (x : Setup D) where
  -- in no step of a run the server makes such a call of the chunk: a call that it refuses is none
  abbrev pub LeavesLive : (chunk server : ℕ) (steps : List Step) (old : History D) (a : Account) (new : History D) (b : Account) → Runs x steps old a new b → Type 0
  LeavesLive chunk server [] old a new b runs = Unit {0}
  LeavesLive chunk server (step ∷ steps) old a new b (mid, c, moves, rest) =
      (takes_at chunk (event_at step old.sent server) (slice_get old.nodes.servers server) ≡ false) × LeavesLive chunk server steps mid c new b rest

  -- a server has a live replica of a chunk
  pub record HasReplica (chunk server : ℕ) (now : History D) : Type 0 where
    pub s : Server
    pub there : slice_get now.nodes.servers server ≡ Some s
    pub live : is_some (slot_in chunk s).live ≡ true

  -- A server that has a live replica of a chunk has one in each later world of each run, whatever comes and whatever is restarted.
  -- A loss there, a drop that it takes, and a rollback for which it has nothing whole sealed are left aside.
  abbrev pub ReplicasStay : Type 0
  ReplicasStay = (now later : History D) (a b : Account) (steps : List Step) (chunk server : ℕ) → IsReached x now a → (runs : Runs x steps now a later b) → HasReplica chunk server now → LeavesLive chunk server steps now a later b runs → HasReplica chunk server later

-- ---- Worked
a_rollback_without_a_seal : (epoch : ℕ) → takes_live nothing (Some (calls.RollsBack epoch)) ≡ true
a_rollback_without_a_seal epoch = refl

a_call_that_is_refused : takes_live nothing None ≡ false
a_call_that_is_refused = refl
