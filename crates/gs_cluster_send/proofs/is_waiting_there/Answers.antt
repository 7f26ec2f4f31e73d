use denote.Exit.{no}
use denote.Param.{param}
use denote.Param.Send.{IsSend, IsSync, arg_send, copied_send, param_send, sendable}
use denote.Struct.Tuple.{type_at}
use Rattle.std.specs.contracts.sync.Mutex as Mutex
use Rattle.std.proofs.Crossing.{Arc-send, crosses}
use Rattle.gs_cluster_core.specs.contracts.role.Role as Role
use Rattle.gs_cluster_send.proofs.Disks.{struct_row}
use Rattle.gs_cluster_send.proofs.Roles.{role_row}
use Rattle.gs_cluster_send.proofs.is_waiting_there.Lts.{arg-0-1, of-44, of-46}
use Rattle.gs_cluster_send.proofs.is_waiting_there.Goals as goal

pub spawn-requires-send-F : goal.spawn-requires-send-F
spawn-requires-send-F g c κs within =
    let D = param 0 g.row.D in
    let r : IsSend (Role.the_row D g.D.Disk) = role_row D g.D.Disk c.type_bounds.send-D in
    let m : IsSend (Mutex.the_row (Role.the_row D g.D.Disk)) = search (sendable, crosses, r) depth 60 fits 100000 in
    let y : IsSync (Mutex.the_row (Role.the_row D g.D.Disk)) = search (sendable, crosses, r) depth 60 fits 100000 in
    let B = of-46 g.row.D g.row.R g.D.laws g.R.laws g.R.copy g.D.Disk g.D.Disk-dict g.R.Threads g.R.Threads-dict g.R.Wait g.R.Wait-dict g.R.Clone g.R.Clone-dict g.D.Destruct-dict in
    let A = arg-0-1 g.row.D g.row.R g.D.laws g.R.laws g.R.copy g.D.Disk g.D.Disk-dict g.R.Threads g.R.Threads-dict g.R.Wait g.R.Wait-dict g.R.Clone g.R.Clone-dict g.D.Destruct-dict κs in
    let a = Arc-send (Mutex.the_row (Role.the_row D g.D.Disk)) m y in
    let Ts = of-44 g.row.D g.row.R g.D.laws g.R.laws g.R.copy g.D.Disk g.D.Disk-dict g.R.Threads g.R.Threads-dict g.R.Wait g.R.Wait-dict g.R.Clone g.R.Clone-dict g.D.Destruct-dict in
    let b : IsSend B = struct_row (type_at _ Ts) (copied_send 1 _ c.type_bounds.send-R, (a, tt)) in
    param_send 1 A (arg_send _ no B b)
