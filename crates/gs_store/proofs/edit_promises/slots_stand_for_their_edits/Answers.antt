use Rattle.std.proofs.Common.{◌≡◌, false, None, [], ◌∷◌, ◌++◌, refl, subst, sym}
use Rattle.std.specs.Prelude.{Ok, cond}
use Rattle.gs_base.specs.declared.refusal.Refusal.TheVariants as refusals
use Rattle.gs_base.specs.Stamps.{is_before}
use Rattle.gs_replica.specs.Edits.{fresh}
use Rattle.gs_store.specs.Slots.{Slot, create, again, advance, take_lease, damage, replaced, risen, taking, first_of, when, unless_live, if_bad, check_grant, is_taken}
use Rattle.gs_store.specs.Serving.{apply}
use Rattle.gs_store.specs.Standing.{LiveStandsFor}
use Rattle.gs_store.proofs.Laws.{Holds, of_ok, of_unless}
use Rattle.gs_store.proofs.Standing.{fresh_in, edit_stands, risen_stands, damage_kept, mark_stands}
use Rattle.gs_store.proofs.edit_promises.slots_stand_for_their_edits.Goals as goal

pub returns-clause-create : goal.returns-clause-create
returns-clause-create c block chunk stamp s s2 some block_fits chunk_fits above is =
    let P : Slot → Type 0 = λ x. LiveStandsFor block chunk x.live [] in
    of_ok P (create block chunk stamp s) s2 is
    (subst (λ b. Holds P (cond b (Ok (replaced stamp false (record { held = fresh block chunk stamp; sealed = None }) s)) (again stamp s))) (sym above) (fresh_in block chunk stamp some block_fits chunk_fits))

pub returns-clause-apply : goal.returns-clause-apply
returns-clause-apply c block chunk stamp number req op bytes s s2 edits stands told is =
    of_ok (λ x. LiveStandsFor block chunk x.live (edits ++ (record { req = req; op = op; bytes = bytes }) ∷ [])) (apply stamp number req op bytes s) s2 is
    (edit_stands block chunk stamp number req op bytes s s.live edits stands told)

pub returns-clause-advance : goal.returns-clause-advance
returns-clause-advance c block chunk stamp s s2 edits stands is =
    of_ok (λ x. LiveStandsFor block chunk x.live edits) (advance stamp s) s2 is
    (of_unless (λ x. LiveStandsFor block chunk x.live edits) (first_of (unless_live s.live ∷ if_bad s.live ∷ when (is_before stamp s.promise) refusals.Old ∷ [])) (risen stamp s) (λ _. risen_stands block chunk stamp s.live edits stands))

pub returns-clause-take_lease : goal.returns-clause-take_lease
returns-clause-take_lease c stamp s s2 is =
    of_ok (λ x. x.live ≡ s.live) (take_lease stamp s) s2 is
    (of_unless (λ x. x.live ≡ s.live) (first_of (check_grant stamp s ∷ when (is_taken stamp s.taken) refusals.Old ∷ [])) (taking stamp s) (λ _. refl))

pub returns-clause-damage : goal.returns-clause-damage
returns-clause-damage c block chunk index s s2 edits stands is =
    of_ok (λ x. LiveStandsFor block chunk x.live edits) (damage index s) s2 is (damage_kept block chunk index s s.live s.trash edits refl stands)

pub returns-clause-mark_bad : goal.returns-clause-mark_bad
returns-clause-mark_bad c block chunk index s edits stands = mark_stands block chunk index s.live edits stands
