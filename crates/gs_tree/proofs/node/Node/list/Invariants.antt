use Rattle.std.proofs.Common.{◌≡◌, ◌++◌}
use Rattle.gs_tree.specs.Listing.{pairs_of}
use Rattle.gs_tree.proofs.Listings.{shown_children}
use Rattle.gs_tree.proofs.node.Node.list.Given as goal

abbrev pub invariant-loop-name : goal.invariant-loop-name
invariant-loop-name l = pairs_of l.listed.items ++ shown_children l.name-iterator ≡ shown_children l.initial.name-iterator
