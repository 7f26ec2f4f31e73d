use Rattle.std.proofs.Common.{◌∙◌, ap, subst}
use Rattle.gs_journal.specs.Faults.{Failing}
use Rattle.gs_journal.specs.Memory.{bytes_of, times_failed}
use Rattle.gs_journal.specs.declared.memory.MemoryDisk.{MemoryDisk}
use Rattle.gs_world.specs.Beginning.{new_disk}
use Rattle.gs_world.specs.Histories.{Begins, arms, failures_of, history_of, seen_of}
use Rattle.gs_world.proofs.Opening.{both, of_memory}
use Rattle.gs_world.proofs.world.World+MemoryDisk.new.Goals as goal

pub returns-in-Ok-clause-begins : goal.returns-in-Ok-clause-begins
returns-in-Ok-clause-begins c =
    let disks = c.empty_disks-first.result in (
      disks,
      c.empty_disks-first.ensures,
      subst (λ (d : Failing MemoryDisk × Failing MemoryDisk). Begins (seen_of bytes_of) (failures_of times_failed) arms c.args.config 1 d (history_of c.in-Ok.world))
          (both c.new-first.result (new_disk disks.0) c.new-second.result (new_disk disks.1) c.new-first.ensures c.new-second.ensures) c.in-Ok.ensures.begins,
    )

pub returns-in-Err-clause-refused : goal.returns-in-Err-clause-refused
returns-in-Err-clause-refused c =
    of_memory (seen_of bytes_of) (failures_of times_failed) c.args.config (c.new-first.result, c.new-second.result) c.in-Err.unopened
    (ap (λ (d : Failing MemoryDisk). bytes_of d.disk) c.new-first.ensures ∙ c.empty_disks-first.ensures.0)
    (ap (λ (d : Failing MemoryDisk). bytes_of d.disk) c.new-second.ensures ∙ c.empty_disks-first.ensures.1)
    c.in-Err.ensures.refused
