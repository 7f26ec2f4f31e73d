-- A disk in memory may go into another thread, and a caller with its desk.
use denote.RattleType.{RattleType}
use denote.Param.Send.{IsSend, IsSync, recorded_send, sendable, struct_send}
use denote.Struct.Declared.{shape}
use Rattle.gs_base.proofs.numbers.Moment.TheSendSync as moment
use Rattle.gs_cluster.proofs.patience.Patience.TheSendSync as patience
use Rattle.gs_cluster.specs.contracts.caller.Caller as Caller
use Rattle.gs_cluster_channel.specs.declared.naming.Naming as namings
use Rattle.gs_cluster_core.specs.contracts.role.Role as Role
use Rattle.gs_cluster_core.specs.contracts.role.RoleCore.TheImpl as core
use Rattle.gs_cluster_node.proofs.node.Node.TheSendSync as node
use Rattle.gs_cluster_node.specs.declared.plan.Plan as plans
use Rattle.gs_cluster_send.proofs.Disks.{memory_disk}
use Rattle.gs_cluster_send.proofs.Roles.{role_row}
use Rattle.gs_cluster_threads.specs.contracts.rounds.Rounds as Rounds
use Rattle.gs_journal.specs.contracts.memory.MemoryDisk as MemoryDisk
use Rattle.gs_journal_disk.specs.declared.disk.Disk as disks
use Rattle.gs_shell_calls.proofs.caller.Caller.TheSendSync as asker
use Rattle.gs_shell_threads.specs.contracts.desk.Desk as Desk
use Rattle.std.proofs.Crossing.{Arc-send, crosses}
use Rattle.std.proofs.alloc.Global.TheSendSync as global

pub memory_disk_row : IsSend MemoryDisk.the_row
memory_disk_row = recorded_send (MemoryDisk.the_field).row _ _ (MemoryDisk.the_type).to_one memory_disk

-- the rounds that callers share with the threads of a cluster
rounds_send : IsSend Rounds.the_row
rounds_send = search (sendable, crosses) depth 60 fits 100000

rounds_sync : IsSync Rounds.the_row
rounds_sync = search (sendable, crosses) depth 60 fits 100000

module _ (N D T : RattleType) (p : plans.Ghosts N.Denot) (n : namings.Ghosts N.Denot) (g : disks.Ghosts D.Denot) (disk : IsSend D) (runtime : IsSend T) where
  caller : IsSend (Caller.the_field N D T p n g).row
  caller =
      struct_send (shape (Caller.the_type N D T p n g))
      (runtime, (global.the_field_send, (node.the_send N (Role.the_row D g) p n (core.ghosts D g core.no_dict core.no_dict) (role_row D g disk), (moment.the_field_send, (Arc-send Rounds.the_row rounds_send rounds_sync, (patience.the_field_send, tt))))))

  pub caller_row : IsSend (Caller.the_row N D T p n g)
  caller_row = recorded_send (Caller.the_field N D T p n g).row _ _ (Caller.the_type N D T p n g).to_one caller

  pub desk : IsSend (Desk.the_field N D T p n g).row
  desk = struct_send (shape (Desk.the_type N D T p n g)) (asker.the_field_send, (caller, tt))
