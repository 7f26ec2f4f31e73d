-- What a move makes of one chunk.
use Rattle.std.specs.Prelude.{◌≡◌, ◌⊎◌, ◌==◌, ℕ, Bool, true, false, is_some, option_map, Option, Some, None, if◌then◌else◌, refl}
use Rattle.std.specs.FinMap as fin
use Rattle.gs_base.specs.Members.{is_member}
use Rattle.gs_base.specs.declared.config.Config.{Config}
use Rattle.gs_master_spec.specs.Beginning.{next_stamp}
use Rattle.gs_master_spec.specs.Chunks.{has_entry}
use Rattle.gs_master_spec.specs.Durable.{Durable, Settled, is_given}
use Rattle.gs_master_spec.specs.Handling.{restarted}
use Rattle.gs_master_spec.specs.State.{State, Log}
use Rattle.gs_laws_master.specs.Promises.{IsKept}
use Rattle.gs_laws_master.specs.Standing.{Event, IsFirm, IsNamed, turn_of}
use Rattle.gs_master_spec.specs.declared.asking.Asking.{Asking}
use Rattle.gs_master_spec.specs.Settling.{is_quiet_at}
use Rattle.gs_laws_moves.specs.moves.Guards.{Heard, IsMade, MayPrepare}
use Rattle.gs_lease.specs.declared.view.Purpose.TheVariants as purposes
use Rattle.gs_lease.specs.declared.view.View.{View}
use Rattle.gs_laws_moves.specs.moves.Moves.{Alone, Move, Begins, Makes, Copies, Settles, CommitsRollback, move_turn}

-- a view of the chunk is proposed
abbrev pub proposes : State → Move → ℕ → Bool
proposes s (Begins q purpose call beside) chunk = q == chunk
proposes s (Makes targets req path) chunk = s.durable.next_handle == chunk
proposes s (Copies old view req beside) chunk = s.durable.next_handle == chunk
proposes s move chunk = false

abbrev pub is_commit : Move → Bool
is_commit (CommitsRollback req names) = true
is_commit move = false

-- the next handle is given to a new chunk
abbrev pub gives_handle : Move → Bool
gives_handle (Makes targets req path) = true
gives_handle (Copies old view req beside) = true
gives_handle move = false

abbrev pub proposed_now : Settled → Settled
proposed_now settled = record settled { is_moving = true }

-- what is settled of a chunk that has an entry afterwards
abbrev pub settled_after : State → Move → ℕ → Option Settled
settled_after s (Begins q purpose call beside) chunk = if q == chunk then option_map proposed_now (fin.get s.durable.chunks chunk) else fin.get s.durable.chunks chunk
settled_after s (Settles q asking carried view) chunk = if q == chunk then Some (record { view = view; is_moving = false }) else fin.get s.durable.chunks chunk
settled_after s move chunk = fin.get s.durable.chunks chunk

-- Under the stamp of what is asked for the chunk it was asked before, or a view is proposed now, under the next stamp. But for a rollback that is
-- committed, an entry that is gone stays gone, once the handle was given; and what is settled of a chunk that has one changes by a proposal and by
-- a settling alone.
pub record IsMovedSo (s u : State) (move : Move) (chunk : ℕ) : Type 0 where
  pub stamped : (new : Asking) → fin.get u.volatile.moving chunk ≡ Some new →
      ((old : Asking) × (fin.get s.volatile.moving chunk ≡ Some old) × (new.stamp ≡ old.stamp)) ⊎ ((proposes s move chunk ≡ true) × (new.stamp ≡ next_stamp s.durable))
  pub gone : is_commit move ≡ false → is_given s.durable.next_handle chunk ≡ true → has_entry u chunk ≡ true → has_entry s chunk ≡ true
  pub settled : is_commit move ≡ false → has_entry u chunk ≡ true → fin.get u.durable.chunks chunk ≡ settled_after s move chunk

-- So it is of each move that is made.
abbrev pub EachMovedSo : Type 0
EachMovedSo = (config : Config) (heard : Heard) (s : State) (move : Move) (chunk : ℕ) → IsMade config heard s move → IsMovedSo s (move_turn config s move).after move chunk

-- ---- new chunks

-- a new chunk that isn't settled is asked for
abbrev pub IsAwaited : State → ℕ → Type 0
IsAwaited s chunk = is_member s.volatile.unplaced chunk ≡ true → fin.get s.durable.chunks chunk ≡ None → is_some (fin.get s.volatile.moving chunk) ≡ true

-- So it stays over each move that is made,
abbrev pub EachMoveAwaits : Type 0
EachMoveAwaits = (config : Config) (heard : Heard) (s : State) (move : Move) (chunk : ℕ) → IsMade config heard s move → IsAwaited s chunk → IsAwaited (move_turn config s move).after chunk

-- and so over each event of a firm master, and so it is of a master that is started.
abbrev pub StaysAwaited : Type 0
StaysAwaited = (config : Config) (s : State) (event : Event) (chunk : ℕ) → IsNamed event → IsFirm s → IsAwaited s chunk → IsAwaited (turn_of config s event).after chunk

abbrev pub StartsAwaited : Type 0
StartsAwaited = (d : Durable) (log : Log) (chunk : ℕ) → IsAwaited (restarted d log) chunk

-- Where what is durable stands, each chunk that has an entry is settled or asked for: one that stands in a file is settled.
abbrev pub KnownAreSought : Type 0
KnownAreSought = (s : State) (chunk : ℕ) → IsKept s.durable → IsAwaited s chunk → has_entry s chunk ≡ true → fin.get s.durable.chunks chunk ≡ None → is_some (fin.get s.volatile.moving chunk) ≡ true

-- ---- a prepare

-- Where one is committed, each chunk that has an entry is quiet: nothing is asked for it, no other view of it is proposed, and none has its lease.
abbrev pub PreparesQuiet : Type 0
PreparesQuiet = (s : State) (chunk : ℕ) → MayPrepare s → has_entry s chunk ≡ true → is_quiet_at s chunk ≡ true

-- ---- examples

of_another_chunk : (s : State) → proposes s (Begins 7 purposes.Quiet None Alone) 8 ≡ false
of_another_chunk s = refl

its_view_is_the_new_one : (s : State) (asking : Asking) (view : View) → settled_after s (Settles 7 asking false view) 7 ≡ Some (record { view = view; is_moving = false })
its_view_is_the_new_one s asking view = refl

another_is_as_it_was : (s : State) (asking : Asking) (view : View) → settled_after s (Settles 7 asking false view) 8 ≡ fin.get s.durable.chunks 8
another_is_as_it_was s asking view = refl
