use Rattle.std.proofs.Common.{refl}
use Rattle.gs_store.specs.Slots.{damage}
use Rattle.gs_store.specs.Standing.{LiveOthers, TrashOthers}
use Rattle.gs_store.proofs.BlockByBlock.{damage_leaves}
use Rattle.gs_store.proofs.Laws.{of_ok}
use Rattle.gs_store.proofs.edit_promises.damage_leaves_the_other_blocks.Goals as goal

pub returns : goal.returns
returns c index s s2 whole is =
    let left = of_ok (λ x. LiveOthers index s.live x.live × TrashOthers index s.live s.trash x.trash) (damage index s) s2 is (damage_leaves index s s.live s.trash refl refl whole.live whole.trash) in
    record { live = left.0; trash = left.1 }
