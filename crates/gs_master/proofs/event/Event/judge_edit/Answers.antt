use Rattle.std.proofs.Common.{subst, sym}
use Rattle.gs_master_record.specs.Plain.{plain_edit}
use Rattle.gs_master.specs.inner.Turns.{ComesWithOthers}
use Rattle.gs_master.proofs.Accepting.{accept_together}
use Rattle.gs_master.proofs.event.Event.judge_edit.Goals as goal

pub carry_out_or_refuse-requires-clause-together : goal.carry_out_or_refuse-requires-clause-together
carry_out_or_refuse-requires-clause-together c = subst ComesWithOthers (sym c.in_ok-plan.ensures) (accept_together c.args.req (plain_edit c.args.edit) c.args.answer)
