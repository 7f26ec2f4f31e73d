-- When two operations are the same, and their order.
use Rattle.std.specs.Prelude.{Bool, ◌==◌, ◌&&◌}
use Rattle.std.specs.declared.cmp.Ordering.{Ordering}
use Rattle.gs_base.specs.declared.numbers.ReqId.{ReqId}
use Rattle.gs_base.specs.contracts.numbers.ReqIdOrd.TheImpl as ops

-- by client first
abbrev pub op_cmp : ReqId → ReqId → Ordering
op_cmp = ops.ghosts.cmp

abbrev pub same_op : ReqId → ReqId → Bool
same_op op other = op.client.0 == other.client.0 && op.number == other.number
