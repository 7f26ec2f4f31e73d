use Rattle.std.proofs.Common.{◌≡◌, ◌≢◌, refl, subst, sym}
use Rattle.gs_base.specs.declared.config.Config.{Config}
use Rattle.gs_base.specs.declared.numbers.Moment.{Moment}
use Rattle.gs_base.specs.declared.numbers.ReqId.{ReqId}
use Rattle.gs_base.specs.declared.refusal.Refusal.TheVariants as refusals
use Rattle.gs_msg.specs.declared.body.Body.{Body}
use Rattle.gs_msg.specs.declared.body.Body.TheVariants as bodies
use Rattle.gs_msg.specs.declared.call.Call.{Call}
use Rattle.gs_master_spec.specs.Handling.{from_client}
use Rattle.gs_master_spec.specs.State.{State, met_by}
use Rattle.gs_master.specs.inner.Turns.{EventSteps, state_at}
use Rattle.gs_master.proofs.event.Event.hear_client.Goals as goal

pub returns-in_default : goal.returns-in_default
returns-in_default c = record {
  steps = subst (λ t. EventSteps t c.args.self.now c.meet_stray.result c.meet_stray.new.self)
      (sym (stray c.args.config.now (state_at c.args.self.now) c.args.moment c.args.said (λ req call is. c.in_default.not-Call req call is))) c.meet_stray.ensures.steps;
  back = c.meet_stray.ensures.back;
}
  where
    stray : (config : Config) (s : State) (moment : Moment) (said : Body) → ((req : ReqId) (call : Call) → said ≢ bodies.Call req call) → from_client config s moment said ≡ met_by s refusals.Stray
    stray config s moment (bodies.About chunk said) not = refl
    stray config s moment (bodies.Call req call) not = absurd (not req call refl)
    stray config s moment (bodies.Reply req result) not = refl
    stray config s moment (bodies.Push req bytes) not = refl
    stray config s moment (bodies.Done req result) not = refl
    stray config s moment (bodies.Bytes req result) not = refl
    stray config s moment (bodies.MakeCopy chunk at new stamp) not = refl
    stray config s moment (bodies.Report epoch replicas) not = refl
    stray config s moment (bodies.Epoch epoch end) not = refl
    stray config s moment (bodies.Behind epoch) not = refl
    stray config s moment (bodies.Learned epoch replicas) not = refl
