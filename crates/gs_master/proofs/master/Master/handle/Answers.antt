use Rattle.std.proofs.Common.{subst}
use Rattle.gs_master_spec.specs.Handling.{handle}
use Rattle.gs_master.specs.Masters.{MasterAnswers}
use Rattle.gs_master_spec.specs.Outcomes.{caller_of}
use Rattle.gs_master.specs.inner.Turns.{state_at}
use Rattle.gs_master.proofs.Idle.{nothing_recorded}
use Rattle.gs_master.proofs.Turning.{answers, still_held}
use Rattle.gs_master.proofs.master.Master.handle.Goals as goal

pub invariant_of-self : goal.invariant_of-self
invariant_of-self g c =
    let d = g.D.Disk in
    let m = c.self.inside in
    let s = state_at m.event in
    let rest = c.self.invariant.0 in
    let t = handle m.config s c.args.message c.args.moment in (
      c.finish.ensures.rest,
      still_held d.seen d.may_leave d.failures m.config c.caller_of-caller.result t m.event m.journal c.self.invariant.1 (nothing_recorded m.config s c.args.message c.args.moment) c.finish.new.self c.finish.new.journal c.finish.result
          (c.finish.ensures.finishes m.event t rest c.beginning-beginning.ensures c.take-done.ensures.back c.take-done.ensures.steps),
    )

pub returns : goal.returns
returns g c =
    let d = g.D.Disk in
    let m = c.self.inside in
    let s = state_at m.event in
    let rest = c.self.invariant.0 in
    let t = handle m.config s c.args.message c.args.moment in
    let e = c.finish.new.self in
    let k = c.finish.new.journal in
    let finishes = c.finish.ensures.finishes m.event t rest c.beginning-beginning.ensures c.take-done.ensures.back c.take-done.ensures.steps in
    let answered = answers d.seen d.may_leave d.failures m.config c.caller_of-caller.result t m.event m.journal c.self.invariant.1 (nothing_recorded m.config s c.args.message c.args.moment) e k c.finish.result finishes in
    subst (λ v. MasterAnswers d.seen d.failures (caller_of c.args.message.body) (handle v.config v.state c.args.message c.args.moment) v c.finish.result (record { config = m.config; state = state_at e; journal = k })) c.self.view_is
    (subst (λ caller. MasterAnswers d.seen d.failures caller t (record { config = m.config; state = s; journal = m.journal }) c.finish.result (record { config = m.config; state = state_at e; journal = k })) c.caller_of-caller.ensures answered)
