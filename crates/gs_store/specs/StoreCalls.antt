-- Runs of the calls that change a store.
use Rattle.std.specs.Prelude.{◌≡◌, ℕ, List, [], ◌∷◌, ◌==◌, Bool, Option, Result, Ok, refl}
use Rattle.std.specs.List.{list_any}
use Rattle.gs_base.specs.declared.numbers.Stamp.{Stamp}
use Rattle.gs_base.specs.declared.numbers.ReqId.{ReqId}
use Rattle.gs_base.specs.declared.epoch.EpochEnd.{EpochEnd}
use Rattle.gs_base.specs.declared.refusal.Refusal.{Refusal}
use Rattle.gs_replica.specs.declared.op.Op.{Op}
use Rattle.gs_replica.specs.Copies.{Image, SealedImage}
use Rattle.gs_store.specs.Stores.{Store, create, advance, drop_replica, take_lease, apply, apply_pushed, copy_in, make_copy, mark_bad, lose, damage, push, take_pushed, restarted, learn, named, new}

-- each is of a handle, but for those of pushed bytes, a restart and an epoch
pub data StoreCall : Type 0 where
  Creates : ℕ → Stamp → StoreCall
  Advances : ℕ → Stamp → StoreCall
  Drops : ℕ → Stamp → StoreCall
  TakesLease : ℕ → Stamp → StoreCall
  Applies : ℕ → Stamp → ℕ → ReqId → Op → List ℕ → StoreCall
  AppliesPushed : ℕ → Stamp → ℕ → ReqId → Op → StoreCall
  CopiesIn : ℕ → Stamp → Image → Option SealedImage → StoreCall
  MakesCopy : ℕ → Stamp → ℕ → Stamp → StoreCall
  MarksBad : ℕ → ℕ → StoreCall
  Loses : ℕ → StoreCall
  Damages : ℕ → ℕ → StoreCall
  Pushes : ReqId → List ℕ → StoreCall
  TakesPushed : ReqId → StoreCall
  Restarts : StoreCall
  Learns : ℕ → EpochEnd → StoreCall

abbrev pub called : StoreCall → Store → Result Store Refusal
called (Creates handle stamp) s = create handle stamp s
called (Advances handle stamp) s = advance handle stamp s
called (Drops handle promise) s = drop_replica handle promise s
called (TakesLease handle stamp) s = take_lease handle stamp s
called (Applies handle stamp number req op bytes) s = apply handle stamp number req op bytes s
called (AppliesPushed handle stamp number req op) s = apply_pushed handle stamp number req op s
called (CopiesIn handle stamp image sealed) s = copy_in handle stamp image sealed s
called (MakesCopy handle at new_handle stamp) s = make_copy handle at new_handle stamp s
called (MarksBad handle block) s = Ok (mark_bad handle block s)
called (Loses handle) s = lose handle s
called (Damages handle block) s = damage handle block s
called (Pushes req bytes) s = Ok (push req bytes s)
called (TakesPushed req) s = Ok (take_pushed req s)
called Restarts s = Ok (restarted s)
called (Learns epoch end) s = learn epoch end s

-- The calls that are accepted, one after the other, lead from one store to another. A refused call changes nothing.
abbrev pub LeadsTo : Store → List StoreCall → Store → Type 0
LeadsTo s [] end = end ≡ s
LeadsTo s (c ∷ calls) end = (next : Store) × (called c s ≡ Ok next) × LeadsTo next calls end

-- a server names this handle of a rollback
abbrev pub names : ℕ → ℕ → Store → Bool
names handle epoch s = list_any (λ named. handle == named) (named epoch s)

pushed_and_dropped_by_a_restart : (req : ReqId) (bytes : List ℕ) → LeadsTo (new 4 16) (Pushes req bytes ∷ Restarts ∷ []) (new 4 16)
pushed_and_dropped_by_a_restart req bytes = (push req bytes (new 4 16), refl, (new 4 16, refl, refl))
