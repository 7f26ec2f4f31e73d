use Rattle.std.proofs.Common.{◌≡◌, ◌∙◌, true, false, ap, map, refl, rules, subst, sym}
use Rattle.std.specs.List.{list_any}
use Rattle.gs_base.specs.declared.refusal.Refusal.TheVariants as refusals
use Rattle.gs_master_record.specs.Plain.{plain}
use Rattle.gs_master_spec.specs.Applied.{is_whole_entry}
use Rattle.gs_master_state.specs.inner.Plans.{plan_of}
use Rattle.gs_master_spec.specs.Settling.{leased_next, replace_plan}
use Rattle.gs_master_spec.specs.State.{Plan, ended_by, fits, turned}
use Rattle.gs_master.specs.inner.Turns.{state_at}
use Rattle.gs_master.proofs.Composing.{steps_and, why_not_and}
use Rattle.gs_master.proofs.Ends.{refused_with_room, steps_with_room}
use Rattle.gs_master.proofs.Entered.{goes_back_on}
use Rattle.gs_master.proofs.event.Event.put_in_place.Goals as goal

pub fits-requires : goal.fits-requires
fits-requires c =
    subst (λ records. list_any is_whole_entry (map plain records) ≡ false) (sym c.deref.ensures.value) (subst (λ (p : Plan). list_any is_whole_entry p.records ≡ false) (sym c.in_ok-plan.ensures) refl)

pub returns-in_err-carry_out-clause-steps : goal.returns-in_err-carry_out-clause-steps
returns-in_err-carry_out-clause-steps c = λ names.
    let s = state_at c.args.self.now in
    let plan = replace_plan c.args.path c.args.index c.args.old c.args.new in
    let next = leased_next c.args.req c.args.path c.args.index c.args.new in
    let same : plan_of c.in_ok-plan.plan ≡ plan = c.in_ok-plan.ensures ∙ ap (λ p. replace_plan p c.args.index c.args.old c.args.new) c.in_ok-place.ensures in
    let tested : c.in_ok-fits.field-0 ≡ true = search rules in
    let room : fits s.log plan.records ≡ true =
    ap (λ (p : Plan). fits s.log p.records) (sym same) ∙ ap (λ records. fits s.log (map plain records)) (sym c.deref.ensures.value) ∙ sym c.in_ok-fits.ensures ∙ tested in
    let why = refused_with_room s (plan_of c.in_ok-plan.plan) plan next (ended_by s c.args.req refusals.Full) same room c.args.self.now _ (why_not_and (turned s (plan_of c.in_ok-plan.plan)) next c.args.self.now _ c.in_err-carry_out.ensures.steps) in
    search (rules, why)

pub returns-clause-steps : goal.returns-clause-steps
returns-clause-steps c = λ names.
    let s = state_at c.args.self.now in
    let plan = replace_plan c.args.path c.args.index c.args.old c.args.new in
    let next = leased_next c.args.req c.args.path c.args.index c.args.new in
    let same : plan_of c.in_ok-plan.plan ≡ plan = c.in_ok-plan.ensures ∙ ap (λ p. replace_plan p c.args.index c.args.old c.args.new) c.in_ok-place.ensures in
    let tested : c.in_ok-fits.field-0 ≡ true = search rules in
    let room : fits s.log plan.records ≡ true =
    ap (λ (p : Plan). fits s.log p.records) (sym same) ∙ ap (λ records. fits s.log (map plain records)) (sym c.deref.ensures.value) ∙ sym c.in_ok-fits.ensures ∙ tested in
    steps_with_room s (plan_of c.in_ok-plan.plan) plan next (ended_by s c.args.req refusals.Full) same room c.args.self.now _ _
    (steps_and (turned s (plan_of c.in_ok-plan.plan)) next c.args.self.now c.carry_out.new.self _ _ c.in_ok-carry_out.ensures.steps c.lease.ensures.steps)

pub returns-clause-back : goal.returns-clause-back
returns-clause-back c = goes_back_on _ _ _ c.carry_out.ensures.back c.lease.ensures.back
