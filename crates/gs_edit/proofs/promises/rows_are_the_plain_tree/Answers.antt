use Rattle.gs_edit.proofs.Payloads.{mkdirs-tables, create-tables, rename-tables, hide-tables, unhide-tables, remove-tables, add_chunk-tables, set_chunk-tables, snapshot-tables}
use Rattle.gs_edit.proofs.promises.rows_are_the_plain_tree.Goals as goal

pub returns-clause-mkdirs : goal.returns-clause-mkdirs
returns-clause-mkdirs g c rows p = mkdirs-tables rows p

pub returns-clause-create : goal.returns-clause-create
returns-clause-create g c rows p = create-tables rows p

pub returns-clause-rename : goal.returns-clause-rename
returns-clause-rename g c rows from to = rename-tables rows from to

pub returns-clause-hide : goal.returns-clause-hide
returns-clause-hide g c rows p moment number = hide-tables rows p moment number

pub returns-clause-unhide : goal.returns-clause-unhide
returns-clause-unhide g c rows p = unhide-tables rows p

pub returns-clause-remove : goal.returns-clause-remove
returns-clause-remove g c rows p = remove-tables rows p

pub returns-clause-add_chunk : goal.returns-clause-add_chunk
returns-clause-add_chunk g c rows p chunk = add_chunk-tables rows p chunk

pub returns-clause-set_chunk : goal.returns-clause-set_chunk
returns-clause-set_chunk g c rows p index chunk = set_chunk-tables rows p index chunk

pub returns-clause-snapshot : goal.returns-clause-snapshot
returns-clause-snapshot g c rows from to = snapshot-tables rows from to
