use Rattle.std.proofs.Common.{◌≡◌, ◌<◌, ◌≤◌, ℕ, [], length}
use Rattle.std.specs.Prelude.{slice_index_or}
use Rattle.gs_base.specs.Members.{has_bit}
use Rattle.gs_lease_table.specs.Groups.{changed, chunks_at}
use Rattle.gs_lease_table.proofs.groups.Groups.change_each.Given as goal

abbrev pub invariant-loop-group : goal.invariant-loop-group
invariant-loop-group l = record {
  size : length l.self.sets.items ≡ length l.initial.self.sets.items;
  done : (k : ℕ) → k < l.group → chunks_at l.self.sets.items k ≡ changed (has_bit l.was k) (has_bit l.is k) l.chunk (chunks_at l.initial.self.sets.items k);
  rest : (k : ℕ) → l.group ≤ k → slice_index_or l.self.sets.items k [] ≡ slice_index_or l.initial.self.sets.items k [];
}
