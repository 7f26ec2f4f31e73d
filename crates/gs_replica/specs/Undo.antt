-- What takes an edit of a replica back.
use Rattle.std.specs.Prelude.{ℕ, ◌+◌, ◌-◌, ◌==◌, ◌&&◌, cond, nat_lt, Option, Some, None, is_some, List, Result, Ok, Err}
use Rattle.std.specs.FinMap as fin
use Rattle.std.specs.Ordering.{nat_cmp}
use Rattle.gs_base.specs.declared.numbers.ReqId.{ReqId}
use Rattle.gs_base.specs.declared.refusal.Refusal.{Refusal}
use Rattle.gs_base.specs.declared.refusal.Refusal.TheVariants as refusals
use Rattle.gs_block.specs.Stored.{Stored}
use Rattle.gs_block.specs.Inverses as inverses
use Rattle.gs_replica.specs.declared.op.Op.{Op}
use Rattle.gs_replica.specs.declared.op.Done.{Done}
use Rattle.gs_replica.specs.declared.live.ReplicaInverse.{ReplicaInverse}
use Rattle.gs_replica.specs.Held.{Held}
use Rattle.gs_replica.specs.Edits.{start_of, end_of}

-- a client's request as it was before
abbrev pub entry_before : fin.FinMap nat_cmp Done → ℕ → Option Done → fin.FinMap nat_cmp Done
entry_before done client None = fin.remove done client
entry_before done client (Some entry) = fin.insert done client entry

abbrev pub without_edit : Held → ReplicaInverse → Result Stored Refusal → Result Held Refusal
without_edit r i (Ok s) = Ok (record { chunk = s; count = r.count - 1; done = entry_before r.done i.client.0 i.before; promise = r.promise })
without_edit r i (Err e) = Err e

-- BadLine where the count isn't that which the edit left, or the inverse doesn't fit the chunk
abbrev pub undo : ReplicaInverse → Held → Result Held Refusal
undo i r = cond ((r.count == i.count) && (nat_lt 0 r.count && is_some (fin.get r.done i.client.0)))
    (without_edit r i (inverses.undo i.blocks r.chunk))
    (Err refusals.BadLine)

-- What takes an edit back: the bytes that it overwrites and the digests of the stored blocks that it touches, as they were; the
-- count that it leaves; and its client's request before it.
abbrev pub inverse_of : ReqId → Op → List ℕ → Held → ReplicaInverse
inverse_of req op bytes r = record {
  blocks = inverses.inverse_of r.chunk (start_of op r.chunk) (end_of op bytes r.chunk);
  count = r.count + 1;
  client = req.client;
  before = fin.get r.done req.client.0;
}
