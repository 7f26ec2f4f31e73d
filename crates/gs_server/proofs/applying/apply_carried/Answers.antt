use Rattle.std.proofs.Common.{◌∙◌, sym, ap, length}
use Rattle.gs_server.proofs.Applied.{carried_applied, carried_refused}
use Rattle.gs_server.proofs.applying.apply_carried.Goals as goal

pub returns-in-Ok : goal.returns-in-Ok
returns-in-Ok c =
    carried_applied c.args.handle c.args.edit.stamp c.args.edit.number c.args.edit.req c.args.edit.op c.in_replica-op.result c.args.bytes.now c.as_slice-2.result.now _ c.args.store.now c.apply.new.self c.take_pushed.new.self c.requires
    (ap length (sym c.as_slice.ensures) ∙ c.if-as_slice-length.false ∙ c.length.ensures) c.in_replica-op.ensures c.as_slice-2.ensures c.in-Ok.ensures.edit c.take_pushed.ensures.without

pub returns-in-Err : goal.returns-in-Err
returns-in-Err c =
    carried_refused c.args.handle c.args.edit.stamp c.args.edit.number c.args.edit.req c.args.edit.op c.in_replica-op.result c.args.bytes.now c.as_slice-2.result.now _ c.in-Err.refusal c.args.store.now c.apply.new.self c.requires
    (ap length (sym c.as_slice.ensures) ∙ c.if-as_slice-length.false ∙ c.length.ensures) c.in_replica-op.ensures c.as_slice-2.ensures c.in-Err.ensures.edit
