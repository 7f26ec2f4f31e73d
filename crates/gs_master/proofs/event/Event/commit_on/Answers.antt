use Rattle.std.proofs.Common.{◌≡◌, ◌∷◌, [], None, Some, ap, refl, rules, subst, sym, ◌∙◌}
use Rattle.std.specs.FinMap as fin
use Rattle.gs_base.specs.declared.refusal.Refusal.TheVariants as refusals
use Rattle.gs_master_record.specs.Plain.{RollbackCommit}
use Rattle.gs_master_spec.specs.Durable.{prepared_view}
use Rattle.gs_master_spec.specs.State.{Plan, State, if_room, refused, turned}
use Rattle.gs_master.specs.inner.Turns.{ComesWithOthers, EventSteps, state_at}
use Rattle.gs_master_spec.specs.Upgrades.{accepted_plan, answers_for, commit_if, told_of, unrestored}
use Rattle.gs_master_spec.specs.declared.change.Change.TheVariants as changes
use Rattle.gs_master.proofs.event.Event.commit_on.Goals as goal

pub carry_out_or_refuse_with-requires-clause-together : goal.carry_out_or_refuse_with-requires-clause-together
carry_out_or_refuse_with-requires-clause-together c = subst ComesWithOthers (sym c.in_ok-plan.ensures) (record { records = refl })

pub returns-in-Some-clause-steps : goal.returns-in-Some-clause-steps
returns-in-Some-clause-steps c =
    let s = state_at c.args.self.now in
    let refs = fin.entries c.args.names.refs in
    let same = ap (λ (t : State). unrestored (prepared_view t.durable) (told_of t) refs) c.standing.ensures in
    let found : unrestored (prepared_view s.durable) (told_of s) refs ≡ Some c.in-Some.chunk = search (rules, same) in
    subst (λ o. EventSteps (commit_if s c.args.req c.args.names o) c.args.self.now c.refuse.result c.refuse.new.self) (sym found) c.refuse.ensures.steps

pub returns-clause-steps : goal.returns-clause-steps
returns-clause-steps c =
    let s = state_at c.args.self.now in
    let refs = fin.entries c.args.names.refs in
    let req = c.args.req in
    let same = ap (λ (t : State). unrestored (prepared_view t.durable) (told_of t) refs) c.standing.ensures in
    let found : unrestored (prepared_view s.durable) (told_of s) refs ≡ None = search (rules, same) in
    let planned = c.in_ok-plan.ensures
    ∙ ap (λ (t : State). accepted_plan t req (RollbackCommit t.durable.epoch (answers_for (prepared_view t.durable) (told_of t) refs) ∷ []) (changes.RolledBack ∷ []) [] t.durable.epoch) c.standing-2.ensures in
    subst (λ o. EventSteps (commit_if s req c.args.names o) c.args.self.now c.carry_out_or_refuse_with.result c.carry_out_or_refuse_with.new.self) (sym found)
    (subst (λ (p : Plan). EventSteps (if_room s (turned s p) (refused s req refusals.Full)) c.args.self.now c.carry_out_or_refuse_with.result c.carry_out_or_refuse_with.new.self) planned c.carry_out_or_refuse_with.ensures.steps)
