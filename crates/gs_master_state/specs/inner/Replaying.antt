-- What the records of a journal come to.
use Rattle.std.specs.Prelude.{◌≡◌, ◌⊎◌, List, Some, None, Result, Ok, Err}
use Rattle.gs_base.specs.declared.refusal.Refusal.{Refusal}
use Rattle.gs_base.specs.declared.refusal.Refusal.TheVariants as refusals
use Rattle.gs_master_record.specs.Plain.{PlainEntry}
use Rattle.gs_master_spec.specs.Applied.{replayed}
use Rattle.gs_master_spec.specs.Durable.{start}
use Rattle.gs_master_state.specs.inner.Recorded.{durable_of}
use Rattle.gs_master_state.specs.declared.recorded.Recorded.{Recorded}

-- what is recorded is what they replay to, BadLine exactly where one of them doesn't fit what it meets, memory aside
abbrev pub Replays : List PlainEntry → Result Recorded Refusal → Type 0
Replays entries (Ok r) = replayed start entries ≡ Some (durable_of r)
Replays entries (Err e) = (e ≡ refusals.Memory) ⊎ ((e ≡ refusals.BadLine) × (replayed start entries ≡ None))
