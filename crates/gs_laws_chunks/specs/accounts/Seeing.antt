-- What is seen of all chunks behind each run of a store, and in two worlds of one.
use Rattle.std.specs.Prelude.{◌≡◌, ℕ, List, false}
use Rattle.std.proofs.Common.{inl, inr}
use Rattle.gs_base.specs.declared.numbers.ReqId.{ReqId}
use Rattle.gs_world.specs.Histories.{History}
use Rattle.gs_world.specs.Runs.{Step}
use Rattle.gs_laws_chunk.specs.machine.Events.{Leads}
use Rattle.gs_laws_lift.specs.stores.Asking.{AreAskedIn}
use Rattle.gs_laws_lift.specs.stores.Living.{StoreGoes, StoreLives}
use Rattle.gs_laws_lift.specs.stores.Telling.{StoreTells}
use Rattle.gs_laws_parts.specs.server.Requests.{Asked, bytes_in}
use Rattle.gs_laws_chunks.specs.accounts.Accounts.{Account}
use Rattle.gs_laws_chunks.specs.accounts.Running.{IsReached, Moves, Runs, Setup}
use Rattle.gs_laws_chunks.specs.accounts.Joined.{IsIntact}
use Rattle.gs_laws_chunks.specs.accounts.Agreeing.{ListsStay}
use Rattle.gs_laws_chunks.specs.accounts.Joining.{Life, StoreAgrees}

module _ {D : Type 0} (x : Setup D) where
  -- so it is of a chunk that lives
  abbrev pub IntactAt : (bytes : ReqId → List ℕ) (a : Account) (chunk : ℕ) (h : History D) → Life x bytes chunk h → Type 0
  IntactAt bytes a chunk h (inl unborn) = Unit {0}
  IntactAt bytes a chunk h (inr alive) = IsIntact a chunk alive.world

  -- and it stays so at each step of a store.
  abbrev pub StoresStayIntact : (ReqId → List ℕ) → Type 0
  StoresStayIntact bytes = (step : Step) (old new : History D) (a b : Account) (lives : StoreLives x.seen x.config bytes x.among old) (goes : StoreGoes x.seen x.failures x.armed x.config bytes x.among step old new lives)
      → Moves x step old a new b → StoreAgrees x bytes old a lives → ((chunk : ℕ) → IntactAt bytes a chunk old (lives.life chunk)) → (chunk : ℕ) → IntactAt bytes b chunk new (goes.last.life chunk)

  -- For what clients have asked each chunk of the store isn't born, or a machine of it shows the store; the account agrees with the machines; and who survives is intact in them.
  pub record Sees (asked : ℕ → Asked) (h : History D) (a : Account) : Type 0 where
    pub lives : StoreLives x.seen x.config (bytes_in asked) x.among h
    pub tells : StoreTells x.seen x.config (bytes_in asked) asked x.among h lives
    pub agrees : StoreAgrees x (bytes_in asked) h a lives
    pub intact : (chunk : ℕ) → IntactAt (bytes_in asked) a chunk h (lives.life chunk)

  -- So it is behind each run in which no disk of the master fails,
  abbrev pub EachIsSeen : Type 0
  EachIsSeen = x.fails ≡ false → (now : History D) (a : Account) → IsReached x now a → (asked : ℕ → Asked) × AreAskedIn asked now × Sees asked now a

  -- and in two worlds of a run: a chunk that lives in the first leads on, from the same birth, and what the account had as the machine of views that stood it has so still.
  abbrev pub SeesOn : (bytes : ReqId → List ℕ) (chunk : ℕ) (old : History D) (a : Account) (new : History D) (b : Account) → Life x bytes chunk old → Life x bytes chunk new → Type 0
  SeesOn bytes chunk old a new b (inl unborn) life = Unit {0}
  SeesOn bytes chunk old a new b (inr l) (inl unborn) = ⊥
  SeesOn bytes chunk old a new b (inr l) (inr m) = (m.reached.0 ≡ l.reached.0) × Leads l.world m.world × ListsStay chunk a l.world b m.world

  pub record SeesBoth (now : History D) (a : Account) (later : History D) (b : Account) : Type 0 where
    pub asked : ℕ → Asked
    pub are : AreAskedIn asked later
    pub first : Sees asked now a
    pub last : Sees asked later b
    pub on : (chunk : ℕ) → SeesOn (bytes_in asked) chunk now a later b (first.lives.life chunk) (last.lives.life chunk)

  abbrev pub EachSeesOn : Type 0
  EachSeesOn = x.fails ≡ false → (now later : History D) (a b : Account) (steps : List Step) → IsReached x now a → Runs x steps now a later b → SeesBoth now a later b
