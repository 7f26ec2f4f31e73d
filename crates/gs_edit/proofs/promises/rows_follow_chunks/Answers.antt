use Rattle.gs_edit.proofs.Payloads.{mkdirs_rows-map, create_rows-map, rename_rows-map, hide_rows-map, unhide_rows-map, remove_rows-map, add_chunk_rows-map, set_chunk_rows-map, snapshot_rows-map}
use Rattle.gs_edit.proofs.promises.rows_follow_chunks.Goals as goal

pub returns-clause-mkdirs : goal.returns-clause-mkdirs
returns-clause-mkdirs g c text rows p = mkdirs_rows-map text rows p

pub returns-clause-create : goal.returns-clause-create
returns-clause-create g c text rows p = create_rows-map text rows p

pub returns-clause-rename : goal.returns-clause-rename
returns-clause-rename g c text rows from to = rename_rows-map text rows from to

pub returns-clause-hide : goal.returns-clause-hide
returns-clause-hide g c text rows p moment number = hide_rows-map text rows p moment number

pub returns-clause-unhide : goal.returns-clause-unhide
returns-clause-unhide g c text rows p = unhide_rows-map text rows p

pub returns-clause-remove : goal.returns-clause-remove
returns-clause-remove g c text rows p = remove_rows-map text rows p

pub returns-clause-add_chunk : goal.returns-clause-add_chunk
returns-clause-add_chunk g c text rows p chunk = add_chunk_rows-map text rows p chunk

pub returns-clause-set_chunk : goal.returns-clause-set_chunk
returns-clause-set_chunk g c text rows p index chunk = set_chunk_rows-map text rows p index chunk

pub returns-clause-snapshot : goal.returns-clause-snapshot
returns-clause-snapshot g c text rows from to = snapshot_rows-map text rows from to
