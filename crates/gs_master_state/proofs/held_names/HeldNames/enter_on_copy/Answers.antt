use Rattle.std.proofs.Common.{ap}
use Rattle.gs_master_state.specs.inner.Held.{HeldView}
use Rattle.gs_master_state.proofs.Holding.{copy_led, stood_before}
use Rattle.gs_master_state.proofs.held_names.HeldNames.enter_on_copy.Goals as goal

pub returns-in-Ok-clause-back : goal.returns-in-Ok-clause-back
returns-in-Ok-clause-back c =
    let led = copy_led c.following.result c.in_ok-copy.copy c.in-Ok.inverse c.args.edit.now c.args.self.now.names c.in_ok-spare.spare c.apply.new.self c.in_ok-copy.ensures c.following.ensures c.in_ok-spare.ensures.spare c.in-Ok.ensures.edit c.in-Ok.ensures.undo in
    stood_before c.exchange.result c.following.result c.args.self.now.names c.take_spare.new.self.names c.apply.new.self c.exchange.new.self.names led (ap (λ (v : HeldView). v.names) c.take_spare.ensures.stays) c.exchange.ensures.back (ap (λ (v : HeldView). v.names) c.exchange.ensures.now)
