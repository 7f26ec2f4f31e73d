use Rattle.std.proofs.Common.{◌≡◌, false, None, [], ◌∷◌, refl}
use Rattle.gs_base.specs.declared.refusal.Refusal.TheVariants as refusals
use Rattle.gs_base.specs.Stamps.{is_before}
use Rattle.gs_replica.specs.Edits.{fresh}
use Rattle.gs_store.specs.Slots.{create, advance, drop_replica, take_lease, risen, removed, taking, first_of, when, unless_live, if_bad, unless_promised, check_grant, is_taken, sealed_of}
use Rattle.gs_store.specs.Moves.{take_copy, sound_image}
use Rattle.gs_store.specs.Serving.{apply}
use Rattle.gs_store.proofs.Laws.{of_ok, of_unless, of_raised, removed_stays, replaced_stays, risen_stays, marked_stays, edited_stays}
use Rattle.gs_store.proofs.seal_promises.sealed_images_stay.Goals as goal

pub returns-clause-create : goal.returns-clause-create
returns-clause-create c block chunk stamp s s2 is =
    of_ok (λ x. sealed_of x ≡ sealed_of s) (create block chunk stamp s) s2 is
    (of_raised (λ x. sealed_of x ≡ sealed_of s) stamp false (record { held = fresh block chunk stamp; sealed = None }) s refl (λ _. replaced_stays stamp false (record { held = fresh block chunk stamp; sealed = None }) s refl))

pub returns-clause-take_copy : goal.returns-clause-take_copy
returns-clause-take_copy c h s s2 is =
    of_ok (λ x. sealed_of x ≡ sealed_of s) (take_copy h s) s2 is
    (of_raised (λ x. sealed_of x ≡ sealed_of s) h.promise false (record { held = h; sealed = None }) s refl (λ _. replaced_stays h.promise false (record { held = h; sealed = None }) s refl))

pub returns-clause-advance : goal.returns-clause-advance
returns-clause-advance c stamp s s2 is =
    of_ok (λ x. sealed_of x ≡ sealed_of s) (advance stamp s) s2 is
    (of_unless (λ x. sealed_of x ≡ sealed_of s) (first_of (unless_live s.live ∷ if_bad s.live ∷ when (is_before stamp s.promise) refusals.Old ∷ [])) (risen stamp s) (λ _. risen_stays stamp s))

pub returns-clause-drop_replica : goal.returns-clause-drop_replica
returns-clause-drop_replica c promise s s2 is =
    of_ok (λ x. sealed_of x ≡ sealed_of s) (drop_replica promise s) s2 is
    (of_unless (λ x. sealed_of x ≡ sealed_of s) (first_of (unless_promised promise s ∷ unless_live s.live ∷ [])) (removed s) (λ _. removed_stays s))

pub returns-clause-take_lease : goal.returns-clause-take_lease
returns-clause-take_lease c stamp s s2 is =
    of_ok (λ x. sealed_of x ≡ sealed_of s) (take_lease stamp s) s2 is
    (of_unless (λ x. sealed_of x ≡ sealed_of s) (first_of (check_grant stamp s ∷ when (is_taken stamp s.taken) refusals.Old ∷ [])) (taking stamp s) (λ _. refl))

pub returns-clause-mark_bad : goal.returns-clause-mark_bad
returns-clause-mark_bad c block s = marked_stays block s

pub returns-clause-apply : goal.returns-clause-apply
returns-clause-apply c stamp number req op bytes s s2 is =
    of_ok (λ x. sound_image (sealed_of x) ≡ sound_image (sealed_of s)) (apply stamp number req op bytes s) s2 is (edited_stays stamp number req op bytes s s.live)
