-- What faults are told as.
use Rattle.gs_base.specs.declared.refusal.Refusal.{Refusal}
use Rattle.gs_base.specs.declared.refusal.Refusal.TheVariants as refusals
use Rattle.gs_master_record.specs.declared.fault.Fault.{Fault}
use Rattle.gs_master_record.specs.declared.fault.Fault.TheVariants as faults

abbrev pub refusal_of : Fault → Refusal
refusal_of faults.Memory = refusals.Memory
refusal_of faults.Form = refusals.BadLine
