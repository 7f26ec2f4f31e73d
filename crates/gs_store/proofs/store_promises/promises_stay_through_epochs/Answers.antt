use Rattle.std.proofs.Common.{◌≡◌, false, sym, subst}
use Rattle.gs_base.specs.Stamps.{is_before}
use Rattle.gs_store.specs.Stores.{slot_of}
use Rattle.gs_store.proofs.Laws.{not_before_itself}
use Rattle.gs_store.proofs.StoreLaws.{taught, slot_goes, gone_rises}
use Rattle.gs_store.proofs.store_promises.promises_stay_through_epochs.Goals as goal

pub returns : goal.returns
returns c epoch end s s2 handle is =
    taught (λ x. is_before (slot_of handle x).promise (slot_of handle s).promise ≡ false) epoch end s s2 is (λ _. not_before_itself (slot_of handle s).promise)
    (λ _. subst (λ t. is_before t.promise (slot_of handle s).promise ≡ false) (sym (slot_goes epoch end s handle)) (gone_rises epoch end (slot_of handle s)))
