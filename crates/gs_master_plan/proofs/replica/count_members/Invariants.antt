use Rattle.std.proofs.Common.{◌≡◌, ◌+◌, ◌<◌, ◌≤◌, ℕ}
use Rattle.std.specs.Prelude.{slice_index, if◌then◌else◌}
use Rattle.gs_base.specs.Members.{is_member}
use Rattle.gs_master_plan.proofs.replica.count_members.Given as goal

abbrev pub invariant-loop-number : goal.invariant-loop-number
invariant-loop-number l = record {
  counted : (k : ℕ) → k < l.number → slice_index l.counts k ≡ slice_index l.initial.counts k + (if is_member l.members k then 1 else 0);
  others : (k : ℕ) → l.number ≤ k → slice_index l.counts k ≡ slice_index l.initial.counts k;
}
