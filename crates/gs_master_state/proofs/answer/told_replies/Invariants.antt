use Rattle.std.proofs.Common.{◌≡◌, ◌≤◌, drop, length, map}
use Rattle.std.specs.Prelude.{Some}
use Rattle.gs_master_record.specs.Plain.{plain_reply}
use Rattle.gs_base_table.specs.Slots.{live}
use Rattle.gs_master_spec.specs.Replies.{client_cmp}
use Rattle.gs_master_state.specs.inner.ToldNumbers.{told_table}
use Rattle.gs_master_state.proofs.answer.told_replies.Given as goal

abbrev pub invariant-loop-left : goal.invariant-loop-left
invariant-loop-left l = record {
  bound : l.left ≤ length l.replies;
  told : told_table (map plain_reply (drop l.left l.replies)) ≡ Some (live client_cmp l.table);
}

abbrev pub decreases-loop-left : goal.decreases-loop-left
decreases-loop-left l = l.left
