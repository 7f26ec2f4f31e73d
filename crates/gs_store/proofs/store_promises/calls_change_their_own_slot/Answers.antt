use Rattle.std.proofs.Common.{◌≡◌, Ok, refl, sym, ap, ◌∙◌}
use Rattle.gs_store.specs.Buffers.{without}
use Rattle.gs_store.specs.Stores.{Store, slot_of}
use Rattle.gs_store.proofs.StoreLaws.{accepted, other_slot, own_slot, where_marked, pushed_then}
use Rattle.gs_store.proofs.store_promises.calls_change_their_own_slot.Goals as goal

pub returns-clause-others : goal.returns-clause-others
returns-clause-others c handle other call s s2 apart is = accepted (λ x. slot_of other x ≡ slot_of other s) handle s s2 (call (slot_of handle s)) is (λ t made. other_slot handle other t s apart)

pub returns-clause-own : goal.returns-clause-own
returns-clause-own c handle call s s2 is = accepted (λ x. call (slot_of handle s) ≡ Ok (slot_of handle x)) handle s s2 (call (slot_of handle s)) is (λ t made. made ∙ ap (λ x. Ok x) (sym (own_slot handle t s)))

pub returns-clause-epoch : goal.returns-clause-epoch
returns-clause-epoch c handle call s s2 is = accepted (λ x. x.epoch ≡ s.epoch) handle s s2 (call (slot_of handle s)) is (λ t made. refl)

pub returns-clause-buffer : goal.returns-clause-buffer
returns-clause-buffer c handle call s s2 is = accepted (λ x. x.buffer ≡ s.buffer) handle s s2 (call (slot_of handle s)) is (λ t made. refl)

pub returns-clause-mark : goal.returns-clause-mark
returns-clause-mark c handle other block s apart = where_marked (λ (x : Store). slot_of other x ≡ slot_of other s) handle s _ refl (λ t. other_slot handle other t s apart)

pub returns-clause-rest : goal.returns-clause-rest
returns-clause-rest c handle block s = where_marked (λ (x : Store). (x.epoch ≡ s.epoch) × (x.buffer ≡ s.buffer)) handle s _ (refl, refl) (λ t. (refl, refl))

pub returns-clause-pushed : goal.returns-clause-pushed
returns-clause-pushed c handle other number stamp req op s s2 apart is =
    pushed_then (λ (x : Store). (slot_of other x ≡ slot_of other s) × (x.buffer ≡ without req s.buffer) × (x.epoch ≡ s.epoch)) handle stamp number req op s s2 _ is (λ t. (other_slot handle other t s apart, refl, refl))
