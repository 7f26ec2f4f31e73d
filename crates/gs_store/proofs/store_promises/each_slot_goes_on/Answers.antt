use Rattle.std.proofs.Common.{◌≡◌, ℕ, refl, sym, arith}
use Rattle.gs_store.specs.Stores.{slot_of, gone_on}
use Rattle.gs_store.proofs.StoreLaws.{taught, slot_goes, empty_stays}
use Rattle.gs_store.proofs.store_promises.each_slot_goes_on.Goals as goal

pub returns-clause-same : goal.returns-clause-same
returns-clause-same c epoch end s s2 here is = taught (λ x. x ≡ s) epoch end s s2 is (λ _. refl) (λ next. absurd (omega arith))

pub returns-clause-next : goal.returns-clause-next
returns-clause-next c epoch end s s2 next is = taught (λ x. (handle : ℕ) → slot_of handle x ≡ gone_on end epoch (slot_of handle s)) epoch end s s2 is (λ here. absurd (omega arith)) (λ _. slot_goes epoch end s)

pub returns-clause-empty : goal.returns-clause-empty
returns-clause-empty c epoch end = empty_stays epoch end

pub returns-clause-buffer : goal.returns-clause-buffer
returns-clause-buffer c epoch end s s2 is = taught (λ x. x.buffer ≡ s.buffer) epoch end s s2 is (λ _. refl) (λ _. refl)

pub returns-clause-epoch : goal.returns-clause-epoch
returns-clause-epoch c epoch end s s2 is = taught (λ x. x.epoch ≡ epoch) epoch end s s2 is (λ here. sym here) (λ _. refl)

pub returns-clause-sizes : goal.returns-clause-sizes
returns-clause-sizes c epoch end s s2 is = taught (λ x. (x.block ≡ s.block) × (x.chunk ≡ s.chunk)) epoch end s s2 is (λ _. (refl, refl)) (λ _. (refl, refl))
