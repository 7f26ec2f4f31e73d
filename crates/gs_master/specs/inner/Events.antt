-- What a step of an event makes of the master that has it under way, and what takes all of it back.
use Rattle.std.specs.Prelude.{◌≡◌, ◌⊎◌, ◌<◌, ◌+◌, ◌++◌, ◌∷◌, [], true, false, Option, Some, None, Result, Ok, Err, fold, map, refl, vec_len, vec_capacity}
use Rattle.std.specs.Ordering.{nat_cmp}
use Rattle.gs_base.specs.declared.numbers.ReqId.{ReqId}
use Rattle.gs_base.specs.declared.refusal.Refusal.{Refusal}
use Rattle.gs_base.specs.declared.refusal.Refusal.TheVariants as refusals
use Rattle.gs_edit.specs.declared.edit.Edit.{Edit}
use Rattle.gs_journal.specs.Records.{Entry as Record}
use Rattle.gs_journal.specs.declared.version.Version.TheVariants.{Two}
use Rattle.gs_master_record.specs.Encoding.{encoded}
use Rattle.gs_master_record.specs.Plain.{PlainEntry, Edited, Prepare, plain, plain_edit}
use Rattle.gs_master_record.specs.Writable.{IsEntry}
use Rattle.gs_base_table.specs.Slots.{live}
use Rattle.gs_master_spec.specs.Applied.{applied}
use Rattle.gs_master_spec.specs.Durable.{Durable}
use Rattle.gs_master_state.specs.inner.Plans.{log_of}
use Rattle.gs_master_state.specs.inner.Recorded.{durable_of}
use Rattle.gs_master_spec.specs.State.{Log, fits, size_of}
use Rattle.gs_master_state.specs.inner.TakingBack.{Leads, StillTakeBack, TakesOneMore, all_leases_before}
use Rattle.gs_master.specs.declared.event.Event.{Event}

-- the journal with a record more
abbrev pub log_behind : Log → PlainEntry → Log
log_behind log entry = record log { records = log.records + 1; size = log.size + size_of entry }

-- a record is applied, and is to be written behind the others
pub record IsEntered (entry : PlainEntry) (old new : Event) : Type 0 where
  pub applied : applied (durable_of old.recorded) entry ≡ Some (durable_of new.recorded)
  pub entries : map plain new.entries.items ≡ map plain old.entries.items ++ entry ∷ []
  pub written : new.written.items ≡ old.written.items ++ encoded Two entry ∷ []
  pub is_entry : IsEntry Two entry
  pub room : fits (log_of old.log) (entry ∷ []) ≡ true
  pub log : log_of new.log ≡ log_behind (log_of old.log) entry

-- it doesn't fit what it meets, or can't be written
abbrev pub IsUnfit : PlainEntry → Event → Type 0
IsUnfit entry old = (applied (durable_of old.recorded) entry ≡ None) ⊎ ¬ IsEntry Two entry

-- Full exactly where it has no room, BadLine only where it is unfit, and else memory is wanting
abbrev pub WhyNot : PlainEntry → Event → Refusal → Type 0
WhyNot entry old e =
    (e ≡ refusals.Memory) ⊎ (((e ≡ refusals.Full) × (fits (log_of old.log) (entry ∷ []) ≡ false)) ⊎ ((e ≡ refusals.BadLine) × IsUnfit entry old))

abbrev pub Enters : PlainEntry → Event → Result (Unit {0}) Refusal → Event → Type 0
Enters entry old (Ok _) new = IsEntered entry old new
Enters entry old (Err e) new = WhyNot entry old e

-- the parts of it: how it is written
abbrev pub IsEncoded : PlainEntry → Event → Result Record Refusal → Type 0
IsEncoded entry e (Ok written) = (written ≡ encoded Two entry) × (IsEntry Two entry × (fits (log_of e.log) (entry ∷ []) ≡ true))
IsEncoded entry e (Err refusal) =
    (refusal ≡ refusals.Memory) ⊎ (((refusal ≡ refusals.Full) × (fits (log_of e.log) (entry ∷ []) ≡ false)) ⊎ ((refusal ≡ refusals.BadLine) × ¬ IsEntry Two entry))

-- one more of each has its place
pub record HasPlaces (e : Event) : Type 0 where
  pub undos : vec_len e.undos < vec_capacity e.undos
  pub entries : vec_len e.entries < vec_capacity e.entries
  pub written : vec_len e.written < vec_capacity e.written

-- what it makes of what is durable
pub record IsApplied (entry : PlainEntry) (old new : Event) : Type 0 where
  pub applied : applied (durable_of old.recorded) entry ≡ Some (durable_of new.recorded)
  pub one : TakesOneMore old.undos.items (durable_of old.recorded) new.undos.items (durable_of new.recorded)

abbrev pub IsAppliedOrNot : PlainEntry → Event → Result (Unit {0}) Refusal → Event → Type 0
IsAppliedOrNot entry old (Ok _) new = IsApplied entry old new
IsAppliedOrNot entry old (Err refusal) new =
    ((refusal ≡ refusals.Memory) ⊎ ((refusal ≡ refusals.BadLine) × (applied (durable_of old.recorded) entry ≡ None)))
    × ((new.undos.items ≡ old.undos.items) × (durable_of new.recorded ≡ durable_of old.recorded))

-- a record is applied, and these are the bytes that are to be written of it; or it isn't, and all stands as it did
pub record IsMade (entry : PlainEntry) (bytes : Record) (old new : Event) : Type 0 where
  pub applied : IsApplied entry old new
  pub encoded : bytes ≡ encoded Two entry
  pub is_entry : IsEntry Two entry
  pub room : fits (log_of old.log) (entry ∷ []) ≡ true

abbrev pub Makes : PlainEntry → Event → Result Record Refusal → Event → Type 0
Makes entry old (Ok bytes) new = IsMade entry bytes old new
Makes entry old (Err e) new = WhyNot entry old e × ((new.undos.items ≡ old.undos.items) × (durable_of new.recorded ≡ durable_of old.recorded))

-- nothing of it was done
pub record IsAsBefore (old new : Event) : Type 0 where
  pub durable : durable_of new.recorded ≡ durable_of old.recorded
  pub entries : new.entries.items ≡ old.entries.items
  pub log : new.log ≡ old.log

-- there is no room for it, or it is unfit
abbrev pub CantEnter : PlainEntry → Event → Type 0
CantEnter entry old = (fits (log_of old.log) (entry ∷ []) ≡ false) ⊎ IsUnfit entry old

-- an edit is entered; or it can't be, and then it is handed back and nothing was done; or memory is wanting
abbrev pub EntersEdit : ReqId → Edit → Event → Result (Option Edit) Refusal → Event → Type 0
EntersEdit by edit old (Ok None) new = IsEntered (Edited by (plain_edit edit)) old new
EntersEdit by edit old (Ok (Some back)) new = (back ≡ edit) × CantEnter (Edited by (plain_edit edit)) old × IsAsBefore old new
EntersEdit by edit old (Err e) new = e ≡ refusals.Memory

-- What an event has come from: its records lead from there to what stands now, they are to be written in their order, and the
-- journal has room for them.
pub record HasComeFrom (before : Durable) (first : Log) (e : Event) : Type 0 where
  pub leads : Leads (map plain e.entries.items) e.undos.items before (durable_of e.recorded)
  pub written : e.written.items ≡ map (encoded Two) (map plain e.entries.items)
  pub log : log_of e.log ≡ fold log_behind first (map plain e.entries.items)
  pub room : (e.entries.items ≡ []) ⊎ (fits first (map plain e.entries.items) ≡ true)

-- what all that was done led back to, it leads back to still
pub record KeepsBack (old new : Event) : Type 0 where
  pub back : StillTakeBack old.undos.items (durable_of old.recorded) new.undos.items (durable_of new.recorded)
  pub leases : all_leases_before new.undos.items (live nat_cmp new.recorded.leases) ≡ all_leases_before old.undos.items (live nat_cmp old.recorded.leases)
  pub memory : new.memory.before ≡ old.memory.before
  pub from : (before : Durable) (first : Log) → HasComeFrom before first old → HasComeFrom before first new

-- ---- examples

one_record_more : log_behind (record { records = 3; size = 76; limit = 200; generation = 1 }) (Prepare 1 0 0) ≡ record { records = 4; size = 102; limit = 200; generation = 1 }
one_record_more = refl
