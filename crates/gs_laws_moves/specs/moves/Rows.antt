-- What moves make of the rows of one chunk: of its settled view, and of whether the master knows it.
use Rattle.std.specs.Prelude.{[], ◌≡◌, ◌≢◌, ◌⊎◌, ℕ, Bool, true, false, None, Some}
use Rattle.std.specs.FinMap as fin
use Rattle.std.specs.List.{AllByRecursion}
use Rattle.gs_base.specs.declared.config.Config.{Config}
use Rattle.gs_lease.specs.declared.view.View.{View}
use Rattle.gs_msg.specs.declared.body.Body.{Body}
use Rattle.gs_msg.specs.declared.body.Body.TheVariants as bodies
use Rattle.gs_msg.specs.declared.message.Message.{Message}
use Rattle.gs_master_spec.specs.Applied.{view_in}
use Rattle.gs_master_spec.specs.Chunks.{has_entry}
use Rattle.gs_master_spec.specs.Durable.{Durable, Settled, is_given, is_listed}
use Rattle.gs_master_spec.specs.State.{State, Turn}
use Rattle.gs_master_spec.specs.declared.asking.Asking.{Asking}
use Rattle.gs_laws_moves.specs.moves.Epochs.{is_alone}
use Rattle.gs_laws_moves.specs.moves.Guards.{Heard, IsMade}
use Rattle.gs_laws_moves.specs.moves.Moved.{is_commit}
use Rattle.gs_laws_moves.specs.moves.Moves.{BeginsRollback, Chain, Finalizes, Move, Prepares, Settles, move_turn}

-- But for a rollback that is committed: an entry that is gone stays gone, once the handle was given, and one that stays keeps its row. The view of a row was there before, or it
-- has a member; and of a chunk that has no entry it was there before.
pub record RowGoes (s u : State) (chunk : ℕ) : Type 0 where
  pub given : is_given s.durable.next_handle chunk ≡ true → is_given u.durable.next_handle chunk ≡ true
  pub gone : is_given s.durable.next_handle chunk ≡ true → has_entry u chunk ≡ true → has_entry s chunk ≡ true
  pub none : is_given s.durable.next_handle chunk ≡ true → has_entry u chunk ≡ true → fin.get u.durable.chunks chunk ≡ None → fin.get s.durable.chunks chunk ≡ None
  pub row : (y : Settled) → fin.get u.durable.chunks chunk ≡ Some y → (view_in (fin.get s.durable.chunks chunk) ≡ Some y.view) ⊎ (y.view.members ≢ [])
  pub known : is_given s.durable.next_handle chunk ≡ true → (y : Settled) → fin.get u.durable.chunks chunk ≡ Some y → (view_in (fin.get s.durable.chunks chunk) ≡ Some y.view) ⊎ (has_entry s chunk ≡ true)

-- So it is of each such move, and over each chain of them.
abbrev pub EachRowGoes : Type 0
EachRowGoes = (config : Config) (heard : Heard) (s : State) (move : Move) (chunk : ℕ) → IsMade config heard s move → is_commit move ≡ false → RowGoes s (move_turn config s move).after chunk

abbrev pub RowsGoOver : Type 0
RowsGoOver = (config : Config) (heard : Heard) (s : State) (t : Turn) (chunk : ℕ) → Chain config (λ u move. IsMade config heard u move × (is_commit move ≡ false)) s t → RowGoes s t.after chunk

-- A chunk that a file has or had stays such, but where chunks are forgotten, or a rollback is committed.
abbrev pub ListedStay : Type 0
ListedStay = (config : Config) (heard : Heard) (s : State) (t : Turn) (chunk : ℕ) → Chain config (λ u move. IsMade config heard u move × (is_alone move ≡ false)) s t → is_listed s.durable chunk ≡ true → is_listed t.after.durable chunk ≡ true

-- a move by which an epoch ends
abbrev pub begins_epoch : Move → Bool
begins_epoch (Prepares req moment) = true
begins_epoch (Finalizes req) = true
begins_epoch BeginsRollback = true
begins_epoch move = false

-- Such a move leaves the entries, and the rows.
abbrev pub EpochsLeave : Type 0
EpochsLeave = (config : Config) (heard : Heard) (s : State) (move : Move) (chunk : ℕ) → IsMade config heard s move → begins_epoch move ≡ true
    → (has_entry (move_turn config s move).after chunk ≡ has_entry s chunk) × (fin.get (move_turn config s move).after.durable.chunks chunk ≡ fin.get s.durable.chunks chunk)

-- A view that is settled, of a chunk that no file has, leases it to nobody.
abbrev pub NewAreUnled : Type 0
NewAreUnled = (config : Config) (heard : Heard) (s : State) (chunk : ℕ) (asking : Asking) (carried : Bool) (view : View) → IsMade config heard s (Settles chunk asking carried view) → is_listed s.durable chunk ≡ false → view.term ≡ None

-- ---- copies

-- who is told to copy a chunk copies one that a file has
abbrev pub CopiesListed : Durable → Body → Type 0
CopiesListed d (bodies.MakeCopy old at new stamp) = is_listed d old ≡ true
CopiesListed d body = Unit {0}

-- So it is of all that is sent by moves of which none is alone.
abbrev pub CopiesAreListed : Type 0
CopiesAreListed = (config : Config) (heard : Heard) (s : State) (t : Turn) → Chain config (λ u move. IsMade config heard u move × (is_alone move ≡ false)) s t → AllByRecursion (λ (m : Message). CopiesListed t.after.durable m.body) t.sent

-- A new chunk is made as a copy under a handle that wasn't given before.
abbrev pub CopiesNew : Durable → Body → Type 0
CopiesNew d (bodies.MakeCopy old at new stamp) = is_given d.next_handle new ≡ false
CopiesNew d body = Unit {0}

abbrev pub CopiesAreNew : Type 0
CopiesAreNew = (config : Config) (heard : Heard) (s : State) (t : Turn) → Chain config (IsMade config heard) s t → AllByRecursion (λ (m : Message). CopiesNew s.durable m.body) t.sent
