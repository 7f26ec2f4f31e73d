use Rattle.gs_store.proofs.Copying.{made_for}
use Rattle.gs_store.proofs.copy_promises.copies_for_another_handle_stand_for_the_same.Goals as goal

pub returns-clause-made : goal.returns-clause-made
returns-clause-made c block chunk at stamp s target h edits stands is =
    let m = made_for block chunk at stamp s target h edits stands is in
    (m.stands, m.undamaged, m.promise, m.above)
