use Rattle.std.proofs.Common.{◌≡◌, ◌++◌, map}
use Rattle.gs_tree.specs.Listing.{pairs_of}
use Rattle.gs_master_state.specs.inner.Judging.{listed_name}
use Rattle.gs_master_state.proofs.file.names_of.Given as goal

abbrev pub invariant-loop-one : goal.invariant-loop-one
invariant-loop-one l =
    (goal.iterator-loop-one).can_next l.one-iterator ×
    (goal.iterator-loop-one).is_finite l.one-iterator ×
    (l.names.items ++ map listed_name (pairs_of l.one-iterator.rest.items) ≡ map listed_name (pairs_of l.fn.listed.items))
