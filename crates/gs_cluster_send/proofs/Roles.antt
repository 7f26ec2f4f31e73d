-- Each kind of node may go into another thread, with a master's disks if those may.
use denote.RattleType.{RattleType}
use denote.Param.Send.{IsSend, recorded_send, sendable, view_send}
use Rattle.std.proofs.Crossing.{crosses}
use Rattle.gs_journal_disk.specs.declared.disk.Disk as disks
use Rattle.gs_master.specs.contracts.master.Master as Master
use Rattle.gs_master.specs.contracts.master.Master.TheInside as Inside
use Rattle.gs_nodes.specs.contracts.place.MasterPlace as MasterPlace
use Rattle.gs_cluster_core.specs.contracts.role.Role as Role
use Rattle.gs_cluster_send.proofs.Clients.{client_node}
use Rattle.gs_cluster_send.proofs.Disks.{journal, struct_row}
use Rattle.gs_cluster_send.proofs.Masters.{event}
use Rattle.gs_cluster_send.proofs.Parts.{config}
use Rattle.gs_cluster_send.proofs.Servers.{server}

module _ (D : RattleType) (g : disks.Ghosts D.Denot) (s : IsSend D) where
  pub master : IsSend (Master.the_field D g).row
  master = view_send (Inside.the_row D g) _ _ _ _ (struct_row (Inside.the_type D g) (config, (journal D s g, (event, tt))))

  pub master_place : IsSend (MasterPlace.the_field D g).row
  master_place = search (sendable, crosses, master, s) depth 60 fits 100000

  pub role : IsSend (Role.the_field D g).row
  role = search (sendable, crosses, master_place, server, client_node) depth 60 fits 100000

  pub role_row : IsSend (Role.the_row D g)
  role_row = let T = Role.the_type D g in recorded_send (Role.the_field D g).row T.D T.to T.to_one role
