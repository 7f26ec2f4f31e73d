use Rattle.std.proofs.Common.{inl, inr, refl, subst, sym}
use Rattle.std.specs.Prelude.{Err, Ok}
use Rattle.gs_master_plan.proofs.Renewals.{none_beforehand}
use Rattle.gs_master_plan.specs.Renewable.{IsRenewalOf, MakesRenewal}
use Rattle.gs_master_spec.specs.State.{unmoved}
use Rattle.gs_master.specs.Ticking.{AnswersCheckpoint}
use Rattle.gs_master.specs.inner.Turns.{state_at}
use Rattle.gs_master.proofs.Composing.{unmoved_stays}
use Rattle.gs_master.proofs.Entered.{goes_back_here}
use Rattle.gs_master.proofs.Finished.{ready_at_rest}
use Rattle.gs_master.proofs.Renewed.{IsKnown, answers_anew, checkpoint_refused, checkpoint_written, held_anew, unrefused_sound}
use Rattle.gs_master.proofs.Turning.{known_of}
use Rattle.gs_master.proofs.master.Master.checkpoint.Goals.{in-Memory, in_default}
use Rattle.gs_master.proofs.master.Master.checkpoint.Goals as goal

pub finish_renewed-requires-clause-begun : goal.finish_renewed-requires-clause-begun
finish_renewed-requires-clause-begun g c =
    let e = c.self.inside.event in let rest = c.self.invariant.0 in (e, rest, c.beginning-beginning.ensures, goes_back_here e (ready_at_rest e rest))

pub invariant_of-self : goal.invariant_of-self
invariant_of-self g c =
    let d = g.D.Disk in
    let m = c.self.inside in
    let s = state_at m.event in
    let rest = c.self.invariant.0 in
    let none = (subst (λ x. IsRenewalOf x c.in-Ok.renewal) c.standing.ensures c.in-Ok.ensures.0).unrefused in (
      c.finish_renewed.ensures.rest,
      held_anew d.seen d.may_leave d.failures m.config (unmoved s) m.event m.journal c.self.invariant.1 (unrefused_sound s none) c.finish_renewed.new.self c.finish_renewed.new.journal c.finish_renewed.result
          (c.finish_renewed.ensures.finishes m.event (unmoved s) rest c.beginning-beginning.ensures (goes_back_here m.event (ready_at_rest m.event rest)) (unmoved_stays m.event)),
    )

pub returns-in-Ok : goal.returns-in-Ok
returns-in-Ok g c =
    let d = g.D.Disk in
    let m = c.self.inside in
    let s = state_at m.event in
    let rest = c.self.invariant.0 in
    let e = c.finish_renewed.new.self in
    let k = c.finish_renewed.new.journal in
    let told = c.finish_renewed.result in
    let none = (subst (λ x. IsRenewalOf x c.in-Ok.renewal) c.standing.ensures c.in-Ok.ensures.0).unrefused in
    subst (λ v. AnswersCheckpoint d.seen d.failures v (Ok told) (record { config = m.config; state = state_at e; journal = k })) c.self.view_is
    (checkpoint_written d.seen d.failures (record { config = m.config; state = s; journal = m.journal }) none told (record { config = m.config; state = state_at e; journal = k })
    (answers_anew d.seen d.may_leave d.failures m.config (unmoved s) m.event m.journal c.self.invariant.1 (unrefused_sound s none) e k told
    (c.finish_renewed.ensures.finishes m.event (unmoved s) rest c.beginning-beginning.ensures (goes_back_here m.event (ready_at_rest m.event rest)) (unmoved_stays m.event))))

pub returns-after-refusal : goal.returns-after-refusal
returns-after-refusal g c =
    let d = g.D.Disk in
    let m = c.self.inside in
    let v = c.args.self.now in
    let known = subst (IsKnown d.seen) c.self.view_is (known_of d.seen d.may_leave d.failures (state_at m.event) m.journal c.self.invariant.1) in
    let made = subst (λ v. MakesRenewal v.state m.journal (Err c.in-Err.refusal)) c.self.view_is (subst (λ x. MakesRenewal x m.journal (Err c.in-Err.refusal)) c.standing.ensures c.in-Err.ensures) in
    elim c.match-refusal.branch [
      | in-Memory w ↦ subst (λ r. AnswersCheckpoint d.seen d.failures v r v) (sym w.result-is) (w.in-Memory.is, none_beforehand v.state c.in-Err.refusal w.in-Memory.is made, refl)
      | in_default w ↦ subst (λ r. AnswersCheckpoint d.seen d.failures v r v) (sym w.result-is) (elim made [
        | inl memory ↦ absurd (w.in_default.not-Memory memory.0)
        | inr some ↦ checkpoint_refused d.seen d.failures v c.in-Err.refusal some w.refused.result known w.refused.ensures.sent w.refused.ensures.said
      ])
    ]
