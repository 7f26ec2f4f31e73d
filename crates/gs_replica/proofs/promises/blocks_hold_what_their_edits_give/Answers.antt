use Rattle.std.proofs.Common.{refl}
use Rattle.gs_replica.specs.Stands.{replica_of}
use Rattle.gs_replica.proofs.Listing.{seal_ok}
use Rattle.gs_replica.proofs.Blocks.{apply_holds}
use Rattle.gs_replica.proofs.BlockByBlock.{damage_holds, promise_holds, copied_holds, made_holds, holds_intact, undamaged_holds}
use Rattle.gs_replica.proofs.promises.blocks_hold_what_their_edits_give.Goals as goal

pub returns-clause-new : goal.returns-clause-new
unfolding replica_of
returns-clause-new c block chunk k stamp = refl

pub returns-clause-apply : goal.returns-clause-apply
returns-clause-apply c block chunk k r r2 edits stamp number req op bytes stands holds is = apply_holds block chunk k r r2 edits stamp number req op bytes stands holds is

pub returns-clause-promise : goal.returns-clause-promise
returns-clause-promise c block chunk k r r2 edits stamp holds is = promise_holds block chunk k stamp r.held r2.held edits holds (seal_ok _ _ r2 is).0

pub returns-clause-damage : goal.returns-clause-damage
returns-clause-damage c block chunk k index r r2 edits other stands holds is = damage_holds block chunk k index r.held r2.held edits other stands holds (seal_ok _ _ r2 is).0

pub returns-clause-copy : goal.returns-clause-copy
returns-clause-copy c block chunk k r h edits stamp holds is = copied_holds block chunk k stamp r h edits holds is

pub returns-clause-of_image : goal.returns-clause-of_image
returns-clause-of_image c block chunk k r edits stamp is = made_holds block chunk k stamp (replica_of chunk edits) r.held edits refl (seal_ok _ _ r is).0

pub returns-clause-intact : goal.returns-clause-intact
returns-clause-intact c block chunk k r edits stands below holds = holds_intact block chunk k r edits stands below holds

pub returns-clause-told : goal.returns-clause-told
returns-clause-told c block chunk k r edits stands told none = undamaged_holds block chunk k r edits stands told none
