use Rattle.std.proofs.Common.{subst}
use Rattle.gs_master_state.specs.inner.Held.{IsLedBy}
use Rattle.gs_master_state.proofs.Holding.{move_leads}
use Rattle.gs_master_state.proofs.held_names.led.Goals as goal

pub returns-in-Ok : goal.returns-in-Ok
returns-in-Ok c after led = move_leads c.in-Move.from c.in-Move.to c.args.names c.in-Ok.names after c.in-Ok.ensures (subst (λ f. IsLedBy f c.args.names after) c.in-Move.is led)
