use Rattle.std.proofs.Common.{sym, subst}
use Rattle.std.specs.Prelude.{Option}
use Rattle.gs_replica.specs.Seals.{Sealed}
use Rattle.gs_replica.specs.Stands.{StoodFor}
use Rattle.gs_replica.proofs.Stood.{rolled_back, holds, carried_image}
use Rattle.gs_replica.specs.Calls.{Applies, Undoes, Promises, Damages}
use Rattle.gs_replica.proofs.Running.{called_stood}
use Rattle.gs_replica.proofs.Carried.{sealed_sits, stood_there}
use Rattle.gs_replica.proofs.promises.seals_give_what_was_sealed.Goals as goal

pub returns-clause-seal : goal.returns-clause-seal
returns-clause-seal c block chunk r edits stands = stood_there block chunk r.held edits stands

pub returns-clause-apply : goal.returns-clause-apply
returns-clause-apply c block chunk r r2 edits stamp number req op bytes stood e = called_stood block chunk edits (Applies stamp number req op bytes) r r2 stood e

pub returns-clause-undo : goal.returns-clause-undo
returns-clause-undo c block chunk r r2 edits i stood e = called_stood block chunk edits (Undoes i) r r2 stood e

pub returns-clause-promise : goal.returns-clause-promise
returns-clause-promise c block chunk r r2 edits stamp stood e = called_stood block chunk edits (Promises stamp) r r2 stood e

pub returns-clause-damage : goal.returns-clause-damage
returns-clause-damage c block chunk r r2 edits index stood e = called_stood block chunk edits (Damages index) r r2 stood e

pub returns-clause-roll_back : goal.returns-clause-roll_back
returns-clause-roll_back c block chunk r r2 edits start stood e =
    let b = rolled_back block chunk edits start r.sealed r2 stood e in
    (b.stands, b.undamaged, b.unsealed, b.promise)

pub returns-clause-rolled_back : goal.returns-clause-rolled_back
returns-clause-rolled_back c block chunk r r2 edits start stood e told =
    let b = rolled_back block chunk edits start r.sealed r2 stood e in
    holds block chunk r2.held edits b.stands told b.undamaged

pub returns-clause-sealed_image : goal.returns-clause-sealed_image
returns-clause-sealed_image c block chunk r i edits stood told e =
    let b = carried_image block chunk edits r.sealed i stood told e in
    (b.image, b.digests, b.stamp)

pub returns-clause-of_sealed : goal.returns-clause-of_sealed
returns-clause-of_sealed c block chunk r i edits some block_fits chunk_fits taken is digests e =
    let b = sealed_sits block chunk i r edits some block_fits chunk_fits taken is digests e in
    (b.stands, b.undamaged, subst (λ (o : Option Sealed). StoodFor block chunk o edits) (sym b.sealed) (stood_there block chunk r.held edits b.stands))
