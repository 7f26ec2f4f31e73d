-- Leases, locks and records may go into another thread.
use denote.RattleType.{RattleType}
use Rattle.std.specs.declared.cmp.Ord as ord
use Rattle.std.specs.declared.cmp.PartialEq as eq
use Rattle.std.specs.declared.cmp.PartialOrd as partial
use denote.Param.Send.{IsSend, sendable}
use Rattle.std.proofs.Crossing.{crosses}
use Rattle.std.proofs.MapsCrossing as maps
use Rattle.gs_base_table.specs.contracts.table.Table as Table
use Rattle.gs_lease.specs.contracts.lease.Lease as Lease
use Rattle.gs_lease.specs.contracts.lease.Leased as Leased
use Rattle.gs_lease.specs.contracts.lease.Moving as Moving
use Rattle.gs_lease.specs.contracts.lease.Quiet as Quiet
use Rattle.gs_lease.specs.contracts.view.Proposed as Proposed
use Rattle.gs_lease.specs.contracts.view.QuietView as QuietView
use Rattle.gs_lease_table.specs.contracts.table.LeaseTable as LeaseTable
use Rattle.gs_lock.specs.contracts.lock.Lock as Lock
use Rattle.gs_lock.specs.contracts.table.LockTable as LockTable
use Rattle.gs_lock.specs.contracts.tally.Tally as Tally
use Rattle.gs_master_record.specs.contracts.checkpoint.Checkpoint as Checkpoint
use Rattle.gs_master_record.specs.contracts.checkpoint.KeptOutcome as KeptOutcome
use Rattle.gs_master_record.specs.contracts.checkpoint.Reply as Reply
use Rattle.gs_master_record.specs.contracts.entry.Entry as Entry
use Rattle.gs_cluster_send.proofs.Parts.{handle, members, path, refusal, req_id, stamp, view}
use Rattle.gs_cluster_send.proofs.Trees.{edit, listed_inverse, tree_entry}

pub table : (K : RattleType) (V : RattleType) (o : ord.Ghosts K.Denot) (e : eq.Ghosts K.Denot) (p : partial.Ghosts K.Denot) → IsSend K → IsSend V → IsSend (Table.the_field K V o e p).row
table K V o e p sk sv = search (sendable, crosses, maps.BTreeMap-send) depth 200 fits 100000

pub quiet_view : IsSend (QuietView.the_field).row
quiet_view = search (sendable, crosses, stamp, members) depth 200 fits 100000

pub quiet : IsSend (Quiet.the_field).row
quiet = search (sendable, crosses, quiet_view) depth 200 fits 100000

pub proposed : IsSend (Proposed.the_field).row
proposed = search (sendable, crosses, view, stamp, members) depth 200 fits 100000

pub moving : IsSend (Moving.the_field).row
moving = search (sendable, crosses, proposed) depth 200 fits 100000

pub leased : IsSend (Leased.the_field).row
leased = search (sendable, crosses, view) depth 200 fits 100000

pub lease : IsSend (Lease.the_field).row
lease = search (sendable, crosses, quiet, moving, leased) depth 200 fits 100000

pub lease_table : IsSend (LeaseTable.the_field).row
lease_table = search (sendable, crosses, maps.BTreeMap-send, table, handle, lease) depth 200 fits 100000

pub tally : (K : RattleType) (o : ord.Ghosts K.Denot) (e : eq.Ghosts K.Denot) (p : partial.Ghosts K.Denot) → IsSend K → IsSend (Tally.the_field K o e p).row
tally K o e p sk = search (sendable, crosses, maps.BTreeMap-send) depth 200 fits 100000

pub lock : IsSend (Lock.the_field).row
lock = search (sendable, crosses, req_id, path) depth 200 fits 100000

pub lock_table : IsSend (LockTable.the_field).row
lock_table = search (sendable, crosses, maps.BTreeMap-send, lock, tally, path, req_id) depth 200 fits 100000

pub kept_outcome : IsSend (KeptOutcome.the_field).row
kept_outcome = search (sendable, crosses, refusal) depth 200 fits 100000

pub record_reply : IsSend (Reply.the_field).row
record_reply = search (sendable, crosses, kept_outcome, req_id) depth 200 fits 100000

pub checkpoint : IsSend (Checkpoint.the_field).row
checkpoint = search (sendable, crosses, tree_entry, record_reply, listed_inverse, view) depth 200 fits 100000

pub entry : IsSend (Entry.the_field).row
entry = search (sendable, crosses, req_id, edit, refusal, checkpoint, handle) depth 200 fits 100000
