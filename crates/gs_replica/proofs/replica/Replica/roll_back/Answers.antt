use Rattle.std.proofs.Common.{◌≡◌, Some, None, refl, sym, ap, subst, ◌∙◌}
use Rattle.std.specs.Prelude.{Ok, Err, Result, length}
use Rattle.gs_base.specs.declared.refusal.Refusal.TheVariants as refusals
use Rattle.gs_block.specs.Stored.{Stored, first_damaged}
use Rattle.gs_block.specs.Images.{undone}
use Rattle.gs_base.specs.Calls.{HandsBack}
use Rattle.gs_base.specs.declared.refused.Refused.{Refused}
use Rattle.gs_replica.specs.declared.seal.Seal.{Seal}
use Rattle.gs_replica.specs.Held.{Held}
use Rattle.gs_replica.specs.Seals.{State, lowest_damaged, roll_back}
use Rattle.gs_replica.specs.View.{seen, seen_in, state_of}
use Rattle.gs_replica.proofs.Sealing.{state, refused, rolls_back, hands_back}
use Rattle.gs_replica.proofs.replica.Replica.roll_back.Goals as goal

pub returns-in-Some-damaged_before : goal.returns-in-Some-damaged_before
returns-in-Some-damaged_before c =
    let live : Held = c.self.inside.live in
    let seal : Seal = c.in-Some.seal in
    let block = c.in-Some-damaged_before.block in
    let found : lowest_damaged (undone seal.images live.chunk) ≡ Some block =
    ap (λ (s : Stored). first_damaged s.block (undone seal.images s).bytes seal.images.digests 0 (length seal.images.digests)) (sym c.blocks-in-Some.ensures) ∙ sym c.damaged_before.ensures ∙ c.in-Some-damaged_before.is in
    let answer : State → Result State (Refused State) = λ s. Err (refused (refusals.Damaged block) s) in
    subst (λ (s : State). HandsBack s (roll_back c.args.promise s) (answer (state_of live seal))) c.self.view_is
    (subst (λ o. HandsBack (state live (seen_in live o)) (roll_back c.args.promise (state live (seen_in live o))) (answer (state_of live seal))) (sym c.in-Some.is)
    (hands_back (seen live seal) c.args.promise (state_of live seal) (state_of live seal) block found refl))

pub returns-in-None-damaged_before : goal.returns-in-None-damaged_before
returns-in-None-damaged_before c =
    let live : Held = c.self.inside.live in
    let seal : Seal = c.in-Some.seal in
    let none : lowest_damaged (undone seal.images live.chunk) ≡ None =
    ap (λ (s : Stored). first_damaged s.block (undone seal.images s).bytes seal.images.digests 0 (length seal.images.digests)) (sym c.blocks-in-Some.ensures) ∙ sym c.damaged_before.ensures ∙ c.in-None-damaged_before.is in
    let after = state c.restored.result None in
    subst (λ (s : State). HandsBack s (roll_back c.args.promise s) (Ok after)) c.self.view_is
    (subst (λ o. HandsBack (state live (seen_in live o)) (roll_back c.args.promise (state live (seen_in live o))) (Ok after)) (sym c.in-Some.is)
    (rolls_back (seen live seal) c.args.promise after (state_of live seal) none (ap (λ (h : Held). state h None) c.restored.ensures)))

pub returns-in-None : goal.returns-in-None
returns-in-None c =
    let live : Held = c.self.inside.live in
    let answer : Result State (Refused State) = Err (refused refusals.BadLine (state live None)) in
    subst (λ (s : State). HandsBack s (roll_back c.args.promise s) answer) c.self.view_is
    (subst (λ o. HandsBack (state live (seen_in live o)) (roll_back c.args.promise (state live (seen_in live o))) answer) (sym c.in-None.is) (refl, refl))
