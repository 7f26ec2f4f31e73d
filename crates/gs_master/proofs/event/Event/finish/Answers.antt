use Rattle.std.proofs.Common.{◌∙◌, ◌⊎◌, ℕ, ap, inl, refl, subst, sym}
use Rattle.gs_master.specs.inner.Events.{HasComeFrom}
use Rattle.gs_master.specs.Journaled.{AreCut, AreWritten}
use Rattle.gs_master_state.specs.inner.Plans.{log_of}
use Rattle.gs_master_state.specs.inner.Recorded.{durable_of}
use Rattle.gs_master.specs.inner.StartingOver.{StartsOver}
use Rattle.gs_master.specs.inner.Turns.{EventSteps}
use Rattle.gs_master.proofs.Finished.{came_from, came_where, ended_over, finished, rests_over, state_again}
use Rattle.gs_master.proofs.event.Event.finish.Goals as goal

pub returns-in-Err-clause-finishes : goal.returns-in-Err-clause-finishes
returns-in-Err-clause-finishes g c = λ begun t rest at back steps.
    (subst (λ r. EventSteps t begun r c.args.self.now) c.in-Err.is steps, (state_again c.args.beginning begun c.args.self.now c.start_over.new.self rest at back c.start_over.ensures, refl))

pub end-requires-clause-from : goal.end-requires-clause-from
end-requires-clause-from g c = came_where c.args.beginning c.args.self.now c.requires.begun (log_of c.log.result) (ap log_of c.log.ensures)

pub returns-in-Err-end-clause-finishes : goal.returns-in-Err-end-clause-finishes
returns-in-Err-end-clause-finishes g c = λ begun t rest at back steps.
    let same = c.in-Err-end.ensures.memory in
    let e = c.start_over-in-Err-end.new.self in
    let over = subst (λ old. StartsOver c.args.beginning old e) same.0 c.start_over-in-Err-end.ensures in
    (inl refl, (state_again c.args.beginning begun c.args.self.now e rest at back over, same.1))

pub returns-clause-rest : goal.returns-clause-rest
returns-clause-rest g c =
    let d = g.D.Disk in
    let b = c.requires.begun in
    let first = log_of c.log.result in
    let from = came_where c.args.beginning c.args.self.now b first (ap log_of c.log.ensures) in
    let over = ended_over d.seen d.may_leave d.failures from.0 first c.args.caller c.args.self.now c.end.new.self c.args.journal.now c.end.new.journal (c.in_default-end.ensures.ended from.0 from.1) in
    rests_over c.end.new.self c.tell.new.self over c.tell.ensures.others c.tell.ensures.left.0 c.tell.ensures.left.1 (c.in_default-end.ensures.counted b.3.ready.counted)

pub returns-clause-finishes : goal.returns-clause-finishes
returns-clause-finishes g c = λ begun t rest at back steps.
    let d = g.D.Disk in
    let j = c.args.journal.now in
    let k = c.end.new.journal in
    let mid = c.end.new.self in
    let turned = subst (λ r. EventSteps t begun r c.args.self.now) c.in_default.is steps in
    let same = ap log_of (c.log.ensures ∙ at.log) in
    let before = durable_of begun.recorded in
    let ended = c.in_default-end.ensures.ended before (subst (λ l. HasComeFrom before (log_of l) c.args.self.now) (sym c.log.ensures) (came_from c.args.beginning begun c.args.self.now rest at back)) in
    finished d.seen d.may_leave d.failures c.args.caller t begun c.args.self.now rest turned back c.tell.result mid c.tell.new.self j k (record { sent = c.tell.ensures.told.0; said = c.tell.ensures.told.1; others = c.tell.ensures.others })
    c.end.ensures.still
    (subst (λ l. AreWritten d.seen d.may_leave d.failures l c.args.self.now j mid k ⊎ ((place : ℕ) × AreCut d.seen d.failures before l c.args.caller place c.args.self.now j mid k)) same ended)
