use Rattle.gs_tree.proofs.Mapped.{mkdirs-map, create-map, rename-map, hide-map, unhide-map, remove-map, add_chunk-map, set_chunk-map, snapshot-map}
use Rattle.gs_tree.proofs.promises.texts_follow_chunks.Goals as goal

pub returns-clause-mkdirs : goal.returns-clause-mkdirs
returns-clause-mkdirs c text m p = mkdirs-map text m p

pub returns-clause-create : goal.returns-clause-create
returns-clause-create c text m p = create-map text m p

pub returns-clause-rename : goal.returns-clause-rename
returns-clause-rename c text is_deep m from to = rename-map text is_deep m from to

pub returns-clause-hide : goal.returns-clause-hide
returns-clause-hide c text m p moment number = hide-map text m p moment number

pub returns-clause-unhide : goal.returns-clause-unhide
returns-clause-unhide c text m p = unhide-map text m p

pub returns-clause-remove : goal.returns-clause-remove
returns-clause-remove c text m p = remove-map text m p

pub returns-clause-add_chunk : goal.returns-clause-add_chunk
returns-clause-add_chunk c text m p chunk = add_chunk-map text m p chunk

pub returns-clause-set_chunk : goal.returns-clause-set_chunk
returns-clause-set_chunk c text m p index chunk = set_chunk-map text m p index chunk

pub returns-clause-snapshot : goal.returns-clause-snapshot
returns-clause-snapshot c text is_deep m from to = snapshot-map text is_deep m from to
