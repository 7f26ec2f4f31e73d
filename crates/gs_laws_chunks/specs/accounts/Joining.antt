-- The account of a run and the machines of all chunks of the store, in one world of it, and that they go on agreeing.
use Rattle.std.specs.Prelude.{ℕ, List}
use Rattle.std.proofs.Common.{inl, inr}
use Rattle.gs_base.specs.declared.numbers.ReqId.{ReqId}
use Rattle.gs_world.specs.Histories.{History}
use Rattle.gs_world.specs.Runs.{Step}
use Rattle.gs_laws_lift.specs.stores.Living.{StoreGoes, StoreLives}
use Rattle.gs_laws_lift.specs.stores.Showing as showing
use Rattle.gs_laws_chunks.specs.accounts.Accounts.{Account}
use Rattle.gs_laws_chunks.specs.accounts.Running.{IsNew, IsToldAt, Moves, Setup}
use Rattle.gs_laws_chunks.specs.accounts.Agreeing.{Agrees, IsBlank}

module _ {D : Type 0} (x : Setup D) (bytes : ReqId → List ℕ) where
  abbrev pub Life : ℕ → History D → Type 0
  Life = showing.Life x.seen x.config bytes

  -- an account agrees with the machine of a chunk that lives, and says nothing of one that isn't born
  abbrev pub AgreesAt : (a : Account) (chunk : ℕ) (h : History D) → Life chunk h → Type 0
  AgreesAt a chunk h (inl unborn) = IsBlank a chunk
  AgreesAt a chunk h (inr alive) = Agrees a h.sent chunk alive.reached.0 alive.world

  -- so it is of all chunks, and of the records it has what they tell
  pub record StoreAgrees (h : History D) (a : Account) (lives : StoreLives x.seen x.config bytes x.among h) : Type 0 where
    pub told : IsToldAt x.seen h.nodes.master a.durable
    pub agrees : (chunk : ℕ) → AgreesAt a chunk h (lives.life chunk)

  -- ---- a step

  -- Behind each step of a store the account agrees with the machines of all chunks, if it did before.
  abbrev pub StoresAgreeOn : Type 0
  StoresAgreeOn = (step : Step) (old new : History D) (a b : Account) (lives : StoreLives x.seen x.config bytes x.among old) (goes : StoreGoes x.seen x.failures x.armed x.config bytes x.among step old new lives)
      → Moves x step old a new b → StoreAgrees old a lives → StoreAgrees new b goes.last

  -- And so it does when a store begins new.
  abbrev pub StoresAgreeFirst : Type 0
  StoresAgreeFirst = (begun : History D) (a : Account) (lives : StoreLives x.seen x.config bytes x.among begun) → IsNew x begun a → StoreAgrees begun a lives
