use Rattle.std.proofs.Common.{◌∙◌, ◌⊎◌, ℕ, ap, subst, sym}
use Rattle.gs_master.specs.inner.Events.{HasComeFrom}
use Rattle.gs_master_state.specs.inner.Plans.{log_of}
use Rattle.gs_master_state.specs.inner.Recorded.{durable_of}
use Rattle.gs_master.specs.inner.Renewing.{AreCutAnew, AreRenewed}
use Rattle.gs_master.proofs.Finished.{came_from, came_where, renewed_over, rests_over}
use Rattle.gs_master.proofs.Renewed.{finished_anew}
use Rattle.gs_master.proofs.event.Event.finish_renewed.Goals as goal

pub end_renewed-requires-clause-from : goal.end_renewed-requires-clause-from
end_renewed-requires-clause-from g c = came_where c.args.beginning c.args.self.now c.requires.begun (log_of c.log.result) (ap log_of c.log.ensures)

pub returns-clause-rest : goal.returns-clause-rest
returns-clause-rest g c =
    let d = g.D.Disk in
    let b = c.requires.begun in
    let first = log_of c.log.result in
    let from = came_where c.args.beginning c.args.self.now b first (ap log_of c.log.ensures) in
    let over = renewed_over d.seen d.may_leave d.failures from.0 first c.args.self.now c.end_renewed.new.self c.args.journal.now c.end_renewed.new.journal (c.end_renewed.ensures.ended from.0 from.1) in
    rests_over c.end_renewed.new.self c.tell.new.self over c.tell.ensures.others c.tell.ensures.left.0 c.tell.ensures.left.1 (c.end_renewed.ensures.counted b.3.ready.counted)

pub returns-clause-finishes : goal.returns-clause-finishes
returns-clause-finishes g c = λ begun steps rest at back turned.
    let d = g.D.Disk in
    let j = c.args.journal.now in
    let k = c.end_renewed.new.journal in
    let mid = c.end_renewed.new.self in
    let same = ap log_of (c.log.ensures ∙ at.log) in
    let before = durable_of begun.recorded in
    let ended = c.end_renewed.ensures.ended before (subst (λ l. HasComeFrom before (log_of l) c.args.self.now) (sym c.log.ensures) (came_from c.args.beginning begun c.args.self.now rest at back)) in
    finished_anew d.seen d.may_leave d.failures steps begun c.args.self.now rest turned back c.tell.result mid c.tell.new.self j k (record { sent = c.tell.ensures.told.0; said = c.tell.ensures.told.1; others = c.tell.ensures.others })
    (subst (λ l. AreRenewed d.seen d.may_leave d.failures l c.args.self.now j mid k ⊎ ((place : ℕ) × AreCutAnew d.seen d.failures before l place c.args.self.now j mid k)) same ended)
