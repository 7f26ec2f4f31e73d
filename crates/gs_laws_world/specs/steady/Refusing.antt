-- Why a master that stands firm refuses what comes.
use Rattle.std.specs.Prelude.{◌≡◌, ◌⊎◌}
use Rattle.std.specs.List.{AllByRecursion}
use Rattle.gs_base.specs.declared.refusal.Refusal.{Refusal}
use Rattle.gs_base.specs.declared.refusal.Refusal.TheVariants as refusals
use Rattle.gs_journal.specs.declared.version.Version.TheVariants.{Two}
use Rattle.gs_master_record.specs.Writable.{IsEntry}
use Rattle.gs_master_spec.specs.State.{Turn}

-- memory is wanting; or a record of the turn can't be written
abbrev pub RefusesAlone : Turn → Refusal → Type 0
RefusesAlone t e = (e ≡ refusals.Memory) ⊎ ((e ≡ refusals.BadLine) × ¬ AllByRecursion (IsEntry Two) t.records)
