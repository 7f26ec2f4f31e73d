use Rattle.std.proofs.Common.{ap, refl, ◌∙◌}
use Rattle.gs_replica.specs.Stands.{replica_of}
use Rattle.gs_replica.proofs.Own.{own, own_told, alike_stands}
use Rattle.gs_replica.proofs.Listing.{seal_ok}
use Rattle.gs_replica.proofs.Keeping.{copied_stands, image_is, made_stands}
use Rattle.gs_replica.proofs.promises.copies_stand_for_the_same_edits.Goals as goal

pub returns-clause-copy : goal.returns-clause-copy
returns-clause-copy c block chunk r h edits stamp stands e =
    let a = copied_stands stamp r.held h edits (own block chunk r.held edits stands) e in
    (alike_stands block chunk r.held h edits edits stands a.0 a.1, a.2)

pub returns-clause-image : goal.returns-clause-image
returns-clause-image c block chunk r i edits stands told e = image_is r i edits (own block chunk r.held edits stands) (own_told block chunk r.held edits stands told) e ∙ ap (λ n. replica_of n edits) stands.chunk

pub returns-clause-of_image : goal.returns-clause-of_image
returns-clause-of_image c block chunk r edits stamp some block_fits chunk_fits taken e = made_stands block chunk stamp (replica_of chunk edits) r.held edits some block_fits chunk_fits taken refl (seal_ok _ _ r e).0
