-- The master as a planner sees it.
use Rattle.gs_master_state.specs.inner.Memories.{volatile_of}
use Rattle.gs_master_state.specs.inner.Recorded.{durable_of}
use Rattle.gs_master_spec.specs.State.{State}
use Rattle.gs_master_plan.specs.declared.standing.Standing.{Standing}
use Rattle.gs_master_state.specs.inner.Plans.{log_of, fault_of}
use Rattle.gs_master_spec.specs.Handling.{Numbered, New, Again, Older}
use Rattle.gs_master_plan.specs.declared.call.Numbered.{Numbered as Judged_number}
use Rattle.gs_master_plan.specs.declared.call.Numbered.TheVariants as numbers

abbrev pub state_of : Standing → State
state_of s = record { durable = durable_of s.recorded.now; volatile = volatile_of s.memory.now; log = log_of s.log; fault = fault_of s.fault.now }

abbrev pub numbered_of : Judged_number → Numbered
numbered_of numbers.New = New
numbered_of (numbers.Again reply) = Again reply.now
numbered_of numbers.Older = Older
