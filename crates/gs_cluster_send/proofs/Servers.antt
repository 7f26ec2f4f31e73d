-- A server may go into another thread.
use denote.Param.Send.{IsSend, sendable}
use Rattle.std.proofs.Crossing.{crosses}
use Rattle.std.proofs.MapsCrossing as maps
use Rattle.gs_block.specs.contracts.blocks.Blocks as Blocks
use Rattle.gs_block.specs.contracts.images.Image as Image
use Rattle.gs_block.specs.contracts.images.Images as Images
use Rattle.gs_block.specs.contracts.sizes.Sizes as Sizes
use Rattle.gs_lease.specs.contracts.held.Held as Held
use Rattle.gs_replica.specs.contracts.first.FirstEntries as FirstEntries
use Rattle.gs_replica.specs.contracts.live.Live as Live
use Rattle.gs_replica.specs.contracts.replica.Replica as Replica
use Rattle.gs_replica.specs.contracts.seal.Seal as Seal
use Rattle.gs_server.specs.contracts.server.Server as Server
use Rattle.gs_server.specs.contracts.turn.KeptRefusal as KeptRefusal
use Rattle.gs_server_lease.specs.contracts.lease.Open as Open
use Rattle.gs_server_lease.specs.contracts.lease.PrimaryLease as PrimaryLease
use Rattle.gs_server_lease.specs.contracts.lease.ToldCounts as ToldCounts
use Rattle.gs_store.specs.contracts.buffer.PushBuffer as PushBuffer
use Rattle.gs_store.specs.contracts.slot.LiveReplica as LiveReplica
use Rattle.gs_store.specs.contracts.slot.Slot as Slot
use Rattle.gs_store.specs.contracts.store.Store as Store
use Rattle.gs_cluster_send.proofs.Leases.{table}
use Rattle.gs_cluster_send.proofs.Messages.{bytes, op}
use Rattle.gs_cluster_send.proofs.Parts.{done_table, edit_outcome, grant, handle, refusal, req_id, stamp}

pub sizes : IsSend (Sizes.the_field).row
sizes = search (sendable, crosses) depth 200 fits 100000

pub block_image : IsSend (Image.the_field).row
block_image = search (sendable, crosses) depth 200 fits 100000

pub images : IsSend (Images.the_field).row
images = search (sendable, crosses, block_image) depth 200 fits 100000

pub blocks : IsSend (Blocks.the_field).row
blocks = search (sendable, crosses) depth 200 fits 100000

pub first_entries : IsSend (FirstEntries.the_field).row
first_entries = search (sendable, crosses, maps.BTreeMap-send) depth 200 fits 100000

pub live : IsSend (Live.the_field).row
live = search (sendable, crosses, blocks, done_table, stamp) depth 200 fits 100000

pub seal : IsSend (Seal.the_field).row
seal = search (sendable, crosses, stamp, images, first_entries) depth 200 fits 100000

pub replica : IsSend (Replica.the_field).row
replica = search (sendable, crosses, live, seal) depth 200 fits 100000

pub live_replica : IsSend (LiveReplica.the_field).row
live_replica = search (sendable, crosses, replica) depth 200 fits 100000

pub slot : IsSend (Slot.the_field).row
slot = search (sendable, crosses, stamp, live_replica, replica) depth 200 fits 100000

pub push_buffer : IsSend (PushBuffer.the_field).row
push_buffer = search (sendable, crosses, req_id) depth 200 fits 100000

pub store : IsSend (Store.the_field).row
store = search (sendable, crosses, sizes, table, handle, slot, push_buffer) depth 200 fits 100000

pub held : IsSend (Held.the_field).row
held = search (sendable, crosses, grant) depth 200 fits 100000

pub told_counts : IsSend (ToldCounts.the_field).row
told_counts = search (sendable, crosses) depth 200 fits 100000

pub open_edit : IsSend (Open.the_field).row
open_edit = search (sendable, crosses, req_id, op, bytes, edit_outcome) depth 200 fits 100000

pub primary_lease : IsSend (PrimaryLease.the_field).row
primary_lease = search (sendable, crosses, held, told_counts, open_edit) depth 200 fits 100000

pub kept_refusal : IsSend (KeptRefusal.the_field).row
kept_refusal = search (sendable, crosses, refusal) depth 200 fits 100000

pub server : IsSend (Server.the_field).row
server = search (sendable, crosses, store, table, handle, primary_lease, kept_refusal) depth 200 fits 100000
