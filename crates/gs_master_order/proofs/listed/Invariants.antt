use Rattle.std.proofs.Common.{◌≡◌, ◌++◌, map}
use Rattle.gs_master_record.specs.Plain.{plain_node}
use Rattle.gs_master_order.specs.inner.Texts.{nodes_of}
use Rattle.gs_master_order.proofs.listed.Given as goal

abbrev pub invariant-loop-path : goal.invariant-loop-path
invariant-loop-path l = map plain_node l.listed.items ++ nodes_of l.path-iterator ≡ nodes_of l.initial.path-iterator
