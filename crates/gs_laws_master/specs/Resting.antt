-- When a prepare is committed: where each chunk that the master knows is at rest.
use Rattle.std.specs.Prelude.{◌≡◌, ◌<◌, ◌↔◌, ◌+◌, ℕ, true, false, [], ◌∷◌, Some, None}
use Rattle.std.specs.FinMap as fin
use Rattle.gs_base.specs.Numbers.{last_number}
use Rattle.gs_base.specs.declared.config.Config.{Config}
use Rattle.gs_base.specs.declared.numbers.Moment.{Moment}
use Rattle.gs_base.specs.declared.numbers.ReqId.{ReqId}
use Rattle.gs_base.specs.declared.refusal.Refusal.TheVariants as refusals
use Rattle.gs_msg.specs.declared.call.Call.TheVariants as calls
use Rattle.gs_master_record.specs.Plain.{PlainEntry, Prepare}
use Rattle.gs_master_spec.specs.Chunks.{has_entry}
use Rattle.gs_master_spec.specs.Durable.{Settled, is_ordinary, is_rolling}
use Rattle.gs_master_spec.specs.Handling.{new_call}
use Rattle.gs_master_spec.specs.State.{State, Turn, fits, is_failed}
use Rattle.gs_master_spec.specs.Upgrades.{chunk_count, prepare_commit}

-- ---- chunks at rest

-- nothing is asked for a chunk; and if it is settled, no other view is proposed, and none has its lease
pub record IsResting (s : State) (chunk : ℕ) : Type 0 where
  pub unasked : fin.get s.volatile.moving chunk ≡ None
  pub settled : (settled : Settled) → fin.get s.durable.chunks chunk ≡ Some settled → (settled.is_moving ≡ false) × (settled.view.term ≡ None)

-- so is each that the master knows
abbrev pub AllRest : State → Type 0
AllRest s = (chunk : ℕ) → has_entry s chunk ≡ true → IsResting s chunk

-- the lowest of those that it knows which isn't
pub record IsFirstUnquiet (s : State) (chunk : ℕ) : Type 0 where
  pub known : has_entry s chunk ≡ true
  pub unquiet : IsResting s chunk → ⊥
  pub lower : (other : ℕ) → other < chunk → has_entry s other ≡ true → IsResting s other

-- ---- the commit of a prepare

-- A prepare can be committed: one was begun, each chunk that the master knows is at rest, and an epoch is left.
pub record CanPrepare (s : State) : Type 0 where
  pub begun : s.volatile.is_preparing ≡ true
  pub resting : AllRest s
  pub left : (s.durable.epoch ≡ last_number) → ⊥

-- its record
abbrev pub prepare_record : State → Moment → PlainEntry
prepare_record s moment = Prepare (s.durable.epoch + 1) moment.0 (chunk_count s)

-- Which refusal comes, and when none does: an upgrade stands already; no prepare was begun; a chunk isn't at rest, the lowest of such; no
-- epoch is left; its record has no room.
pub record PreparesInOrder (s : State) (moment : Moment) (t : Turn) : Type 0 where
  pub standing : (t.said ≡ Some refusals.AlreadyUpgrading) ↔ ((s.volatile.is_preparing ≡ false) × (is_ordinary s.durable.phase ≡ false))
  pub unbegun : (t.said ≡ Some refusals.NotUpgrading) ↔ ((s.volatile.is_preparing ≡ false) × (is_ordinary s.durable.phase ≡ true))
  pub unquiet : (chunk : ℕ) → (t.said ≡ Some (refusals.NotQuiet chunk)) ↔ ((s.volatile.is_preparing ≡ true) × IsFirstUnquiet s chunk)
  pub exhausted : (t.said ≡ Some refusals.Exhausted) ↔ ((s.volatile.is_preparing ≡ true) × (AllRest s × (s.durable.epoch ≡ last_number)))
  pub full : (t.said ≡ Some refusals.Full) ↔ (CanPrepare s × (fits s.log (prepare_record s moment ∷ []) ≡ false))
  pub done : (t.said ≡ None) ↔ (CanPrepare s × (fits s.log (prepare_record s moment ∷ []) ≡ true))
  pub records : t.said ≡ None → t.records ≡ prepare_record s moment ∷ []
  pub over : t.said ≡ None → t.after.volatile.is_preparing ≡ false

abbrev pub PreparesExactly : Type 0
PreparesExactly = (config : Config) (s : State) (req : ReqId) (moment : Moment) → PreparesInOrder s moment (prepare_commit config s req moment)

-- Nothing comes before these tests but that a disk has failed, or that a rollback is begun.
abbrev pub TakesPrepares : Type 0
TakesPrepares = (config : Config) (s : State) (req : ReqId) (moment : Moment) → is_failed s.fault ≡ false → is_rolling s.durable.phase ≡ false →
    new_call config s req moment calls.PrepareCommit ≡ prepare_commit config s req moment
