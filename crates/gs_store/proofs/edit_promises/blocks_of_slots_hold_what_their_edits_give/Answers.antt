use Rattle.std.proofs.Common.{false, None, [], ◌∷◌, ◌++◌, sym, subst}
use Rattle.std.specs.Prelude.{Ok, cond}
use Rattle.gs_base.specs.declared.refusal.Refusal.TheVariants as refusals
use Rattle.gs_base.specs.Stamps.{is_before}
use Rattle.gs_replica.specs.Edits.{fresh}
use Rattle.gs_store.specs.Slots.{Slot, create, again, advance, damage, replaced, risen, first_of, when, unless_live, if_bad}
use Rattle.gs_store.specs.Serving.{apply}
use Rattle.gs_store.specs.Standing.{LiveHoldsBlock}
use Rattle.gs_store.proofs.BlockByBlock.{fresh_holds, edit_holds, risen_holds, damage_holds, mark_holds, holds_intact, undamaged_holds}
use Rattle.gs_store.proofs.Laws.{Holds, of_ok, of_unless}
use Rattle.gs_store.proofs.edit_promises.blocks_of_slots_hold_what_their_edits_give.Goals as goal

pub returns-clause-create : goal.returns-clause-create
returns-clause-create c block chunk k stamp s s2 above is =
    let P : Slot → Type 0 = λ x. LiveHoldsBlock block chunk x.live [] k in
    of_ok P (create block chunk stamp s) s2 is
    (subst (λ b. Holds P (cond b (Ok (replaced stamp false (record { held = fresh block chunk stamp; sealed = None }) s)) (again stamp s))) (sym above) (fresh_holds block chunk k stamp))

pub returns-clause-apply : goal.returns-clause-apply
returns-clause-apply c block chunk k stamp number req op bytes s s2 edits stands holds is =
    of_ok (λ x. LiveHoldsBlock block chunk x.live (edits ++ (record { req = req; op = op; bytes = bytes }) ∷ []) k) (apply stamp number req op bytes s) s2 is
    (edit_holds block chunk k stamp number req op bytes s s.live edits stands holds)

pub returns-clause-advance : goal.returns-clause-advance
returns-clause-advance c block chunk k stamp s s2 edits holds is =
    of_ok (λ x. LiveHoldsBlock block chunk x.live edits k) (advance stamp s) s2 is
    (of_unless (λ x. LiveHoldsBlock block chunk x.live edits k) (first_of (unless_live s.live ∷ if_bad s.live ∷ when (is_before stamp s.promise) refusals.Old ∷ [])) (risen stamp s) (λ _. risen_holds block chunk k stamp s.live edits holds))

pub returns-clause-damage : goal.returns-clause-damage
returns-clause-damage c block chunk k index s s2 edits other stands holds is =
    of_ok (λ x. LiveHoldsBlock block chunk x.live edits k) (damage index s) s2 is (damage_holds block chunk k index s s.live s.trash edits other stands holds)

pub returns-clause-mark_bad : goal.returns-clause-mark_bad
returns-clause-mark_bad c block chunk k index s edits holds = mark_holds block chunk k index s.live edits holds

pub returns-clause-intact : goal.returns-clause-intact
returns-clause-intact c block chunk k l s edits is stands holds below = holds_intact block chunk k l s.live edits is stands holds below

pub returns-clause-undamaged : goal.returns-clause-undamaged
returns-clause-undamaged c block chunk k s edits stands told none = undamaged_holds block chunk k s.live edits stands told none
