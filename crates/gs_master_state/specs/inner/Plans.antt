-- What a plan of the code says, and the master as a planner sees it.
use Rattle.std.specs.Prelude.{map, option_map}
use Rattle.gs_master_record.specs.Plain.{plain}
use Rattle.gs_master_spec.specs.State.{Fault, Sound, Failed, Unopened, Log, Plan}
use Rattle.gs_master_state.specs.declared.fault.Fault.{Fault as Told_fault}
use Rattle.gs_master_state.specs.declared.fault.Fault.TheVariants as faults
use Rattle.gs_master_state.specs.declared.log.Log.{Log as Told_log}
use Rattle.gs_master_state.specs.declared.plan.Plan.{Plan as Made_plan}

abbrev pub plan_of : Made_plan → Plan
plan_of p = record { records = map plain p.records.items; changes = p.changes.items; sent = p.sent.items; said = p.said }

abbrev pub log_of : Told_log → Log
log_of log = record { records = log.records; size = log.size; limit = log.limit; generation = log.generation }

abbrev pub fault_of : Told_fault → Fault
fault_of faults.Sound = Sound
fault_of (faults.Failed doubt) = Failed (option_map plain doubt)
fault_of (faults.Unopened doubt) = Unopened (option_map plain doubt)
