use Rattle.gs_server.proofs.Applied.{pad_applied}
use Rattle.gs_server.proofs.applying.apply_pad.Goals as goal

pub returns : goal.returns
returns c = λ carried. pad_applied c.args.handle c.args.edit.stamp c.args.edit.number c.args.edit.req c.args.edit.op c.in_replica.result carried _ c.apply.result c.args.store.now c.apply.new.self c.requires c.in_replica.ensures c.apply.ensures.edit
