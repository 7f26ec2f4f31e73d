-- Names, and edits of them, may go into another thread.
use denote.Param.Send.{IsSend, sendable}
use Rattle.std.proofs.Crossing.{crosses}
use Rattle.std.proofs.MapsCrossing as maps
use Rattle.gs_edit.specs.contracts.edit.Edit as Edit
use Rattle.gs_edit.specs.contracts.edit.Inverse as Inverse
use Rattle.gs_edit.specs.contracts.listed.ListedInverse as ListedInverse
use Rattle.gs_edit.specs.contracts.names.Names as Names
use Rattle.gs_edit.specs.contracts.names.TakenOut as TakenOut
use Rattle.gs_refs.specs.contracts.refs.Refs as Refs
use Rattle.gs_tree.specs.contracts.entry.TreeEntry as TreeEntry
use Rattle.gs_tree.specs.contracts.inverse.TreeInverse as TreeInverse
use Rattle.gs_tree.specs.contracts.node.Node as Node
use Rattle.gs_tree.specs.contracts.tree.Tree as Tree
use Rattle.gs_tree.proofs.node.Node.TheLaws.TheKnot as knot
use Rattle.gs_cluster_send.proofs.Parts.{handle, name, path}

pub node : IsSend (Node.the_field).row
node = search (sendable, crosses, maps.BTreeMap-send, knot.crosses, name, handle) depth 200 fits 100000

pub tree : IsSend (Tree.the_field).row
tree = search (sendable, crosses, node) depth 200 fits 100000

pub tree_entry : IsSend (TreeEntry.the_field).row
tree_entry = search (sendable, crosses, path) depth 200 fits 100000

pub tree_inverse : IsSend (TreeInverse.the_field).row
tree_inverse = search (sendable, crosses, path, node, handle) depth 200 fits 100000

pub refs : IsSend (Refs.the_field).row
refs = search (sendable, crosses, maps.BTreeMap-send) depth 200 fits 100000

pub edit : IsSend (Edit.the_field).row
edit = search (sendable, crosses, path) depth 200 fits 100000

pub inverse : IsSend (Inverse.the_field).row
inverse = search (sendable, crosses, tree_inverse, handle) depth 200 fits 100000

pub listed_inverse : IsSend (ListedInverse.the_field).row
listed_inverse = search (sendable, crosses, path, tree_entry) depth 200 fits 100000

pub names : IsSend (Names.the_field).row
names = search (sendable, crosses, tree, refs) depth 200 fits 100000

pub taken_out : IsSend (TakenOut.the_field).row
taken_out = search (sendable, crosses, node, handle) depth 200 fits 100000
