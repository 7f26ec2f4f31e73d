use Rattle.std.proofs.Common.{subst}
use Rattle.std.specs.Prelude.{Some}
use Rattle.gs_master_spec.specs.Handling.{call_turn}
use Rattle.gs_master.specs.Masters.{MasterAnswers}
use Rattle.gs_master.specs.inner.Turns.{state_at}
use Rattle.gs_master.proofs.Idle.{called}
use Rattle.gs_master.proofs.Turning.{answers, still_held}
use Rattle.gs_master.proofs.master.Master.answer_call.Goals as goal

pub invariant_of-self : goal.invariant_of-self
invariant_of-self g c =
    let d = g.D.Disk in
    let m = c.self.inside in
    let s = state_at m.event in
    let rest = c.self.invariant.0 in
    let t = call_turn m.config s c.args.req c.args.moment c.args.call in (
      c.finish.ensures.rest,
      still_held d.seen d.may_leave d.failures m.config (Some c.args.req) t m.event m.journal c.self.invariant.1 (λ failed. called m.config s c.args.moment failed c.args.req c.args.call) c.finish.new.self c.finish.new.journal c.finish.result
          (c.finish.ensures.finishes m.event t rest c.beginning-beginning.ensures c.take_call-done.ensures.back c.take_call-done.ensures.steps),
    )

pub returns : goal.returns
returns g c =
    let d = g.D.Disk in
    let m = c.self.inside in
    let s = state_at m.event in
    let rest = c.self.invariant.0 in
    let t = call_turn m.config s c.args.req c.args.moment c.args.call in
    let e = c.finish.new.self in
    let k = c.finish.new.journal in
    let finishes = c.finish.ensures.finishes m.event t rest c.beginning-beginning.ensures c.take_call-done.ensures.back c.take_call-done.ensures.steps in
    let answered = answers d.seen d.may_leave d.failures m.config (Some c.args.req) t m.event m.journal c.self.invariant.1 (λ failed. called m.config s c.args.moment failed c.args.req c.args.call) e k c.finish.result finishes in
    subst (λ v. MasterAnswers d.seen d.failures (Some c.args.req) (call_turn v.config v.state c.args.req c.args.moment c.args.call) v c.finish.result (record { config = m.config; state = state_at e; journal = k })) c.self.view_is answered
