use Rattle.gs_master_spec.specs.Handling.{granted, pressed, proposals}
use Rattle.gs_master_spec.specs.State.{for_each}
use Rattle.gs_master.specs.inner.Turns.{state_at}
use Rattle.gs_master.proofs.Composing.{steps_and}
use Rattle.gs_master.proofs.Entered.{goes_back_on}
use Rattle.gs_master.proofs.event.Event.tick.Goals as goal

pub returns-clause-steps : goal.returns-clause-steps
returns-clause-steps c =
    let s = state_at c.args.self.now in
    steps_and (for_each s (proposals s) (pressed c.args.moment)) granted c.args.self.now c.press_all.new.self _ _ c.in_ok-press_all.ensures.steps c.grant_all.ensures.steps

pub returns-clause-back : goal.returns-clause-back
returns-clause-back c = goes_back_on _ _ _ c.press_all.ensures.back c.grant_all.ensures.back
