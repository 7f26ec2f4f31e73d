use Rattle.gs_replica.specs.Stands.{replica_of}
use Rattle.gs_laws_parts.proofs.lemmas.server.Blocks.{edit_blocks, blocks_among, told_among}
use Rattle.gs_laws_parts.proofs.server.blocks_of_lists_are_blocks_of_replicas.Goals as goal

pub returns-clause-edit : goal.returns-clause-edit
returns-clause-edit c = λ block chunk r r2 edits stamp number req op bytes stands told is. edit_blocks block chunk r r2 edits stamp number req op bytes stands told is

pub returns-clause-among : goal.returns-clause-among
returns-clause-among c = λ among size new held old of has_held has_old. blocks_among among size new held old of has_held has_old

pub returns-clause-told : goal.returns-clause-told
returns-clause-told c = λ among block chunk r edits tells held list. told_among among block r.chunk.bytes (replica_of chunk edits).bytes tells held list
