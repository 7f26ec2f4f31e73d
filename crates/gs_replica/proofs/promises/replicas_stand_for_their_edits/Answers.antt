use Rattle.std.proofs.Common.{refl}
use Rattle.gs_replica.specs.Stands.{replica_of}
use Rattle.gs_replica.proofs.Own.{own, own_told, sized, alike_stands}
use Rattle.gs_replica.proofs.Standing.{fresh_stands}
use Rattle.gs_replica.proofs.Listing.{apply_stands, seal_ok}
use Rattle.gs_block.proofs.Telling.{read_told, blocks_told}
use Rattle.gs_replica.proofs.Keeping.{damage_stands, promise_stands}
use Rattle.gs_replica.proofs.promises.replicas_stand_for_their_edits.Goals as goal

pub returns-clause-new : goal.returns-clause-new
returns-clause-new c block chunk stamp some block_fits chunk_fits = sized block chunk _ _ (fresh_stands block chunk stamp some block_fits chunk_fits) refl refl

pub returns-clause-apply : goal.returns-clause-apply
returns-clause-apply c block chunk r r2 edits stamp number req op bytes stands told e =
    let a = apply_stands stamp number req op bytes r.held r2.held edits (own block chunk r.held edits stands) (own_told block chunk r.held edits stands told) (seal_ok _ _ r2 e).0 in
    alike_stands block chunk r.held r2.held edits _ stands a.0 a.1

pub returns-clause-promise : goal.returns-clause-promise
returns-clause-promise c block chunk r r2 edits stamp stands e =
    let a = promise_stands stamp r.held r2.held edits (own block chunk r.held edits stands) (seal_ok _ _ r2 e).0 in
    alike_stands block chunk r.held r2.held edits edits stands a.0 a.1

pub returns-clause-damage : goal.returns-clause-damage
returns-clause-damage c block chunk r r2 edits index stands e =
    let a = damage_stands index r.held r2.held edits (own block chunk r.held edits stands) (seal_ok _ _ r2 e).0 in
    alike_stands block chunk r.held r2.held edits edits stands a.0 a.1

pub returns-clause-intact : goal.returns-clause-intact
returns-clause-intact c block chunk r edits i stands told below intact = blocks_told block r.chunk (replica_of chunk edits).bytes i stands.block stands.bytes told below intact

pub returns-clause-read : goal.returns-clause-read
returns-clause-read c block chunk r edits offset many part stands told e = read_told block r.held.chunk (replica_of chunk edits).bytes part offset many stands.block stands.bytes told e
