use denote.Exit.{no}
use denote.Param.{copied, param}
use denote.Param.Send.{IsSend, arg_send, copied_send, param_send, sendable}
use denote.RattleType.{RattleType}
use denote.Struct.Field.{u32-field}
use denote.Struct.Tuple.{type_at}
use mathlib.Core.List.{List, [], ◌∷◌}
use Rattle.std.proofs.Crossing.{crosses}
use Rattle.std.proofs.alloc.AllocError.TheSendSync as refused
use Rattle.std.proofs.alloc.Global.TheSendSync as global
use Rattle.std.proofs.result.Result.TheSendSync as results
use Rattle.std.specs.contracts.alloc.AllocError as AllocError
use Rattle.std.specs.contracts.alloc.Global as Global
use Rattle.gs_base.proofs.config.Config.TheSendSync as config
use Rattle.gs_base.specs.contracts.config.Config as Config
use Rattle.gs_cluster.specs.contracts.caller.Caller as Caller
use Rattle.gs_cluster_send.proofs.Disks.{struct_row}
use Rattle.gs_cluster_tests.proofs.Sending.{caller_row, desk, memory_disk_row}
use Rattle.gs_cluster_tests.proofs.callers.Tally.TheSendSync as tally
use Rattle.gs_cluster_tests.specs.contracts.callers.Done as Done
use Rattle.gs_cluster_tests.proofs.callers.writer.Goals as goal
use Rattle.gs_journal.specs.contracts.memory.MemoryDisk as MemoryDisk
use Rattle.gs_journal.specs.contracts.memory.MemoryDiskDisk.TheImpl as disk

pub spawn-requires-send-F : goal.spawn-requires-send-F
spawn-requires-send-F g c κs within =
    let N = param 0 g.row.N in
    let T = copied 1 g.row.T in
    let k : IsSend (Caller.the_row N MemoryDisk.the_row T g.N.Plan g.N.Naming disk.ghosts) = caller_row N MemoryDisk.the_row T g.N.Plan g.N.Naming disk.ghosts memory_disk_row (copied_send 1 _ c.type_bounds.send-T) in
    let Ts : List RattleType = Global.the_row ∷ Config.the_row ∷ u32-field.row ∷ Caller.the_row N MemoryDisk.the_row T g.N.Plan g.N.Naming disk.ghosts ∷ [] in
    let u : IsSend u32-field.row = search (sendable, crosses) depth 20 in
    param_send 1 _ (arg_send _ no _ (struct_row (type_at _ Ts) (global.the_send, (config.the_send, (u, (k, tt))))))

pub spawn-requires-send-T : goal.spawn-requires-send-T
spawn-requires-send-T g c κs within =
    let N = param 0 g.row.N in
    let T = copied 1 g.row.T in
    let d : IsSend (Done.the_row N T g.N.Plan g.N.Naming) =
    struct_row (Done.the_type N T g.N.Plan g.N.Naming) (desk N MemoryDisk.the_row T g.N.Plan g.N.Naming disk.ghosts memory_disk_row (copied_send 1 _ c.type_bounds.send-T), (tally.the_field_send, tt)) in
    param_send 2 _ (arg_send _ no _ (results.the_send (Done.the_row N T g.N.Plan g.N.Naming) AllocError.the_row d refused.the_send))
