use Rattle.std.proofs.Common.{◌∙◌, sym, ap, Some}
use Rattle.gs_store.specs.Buffers.{pushed}
use Rattle.gs_server.proofs.Applied.{pushed_refused, pushed_applied, given_as_pushed}
use Rattle.gs_server.proofs.applying.apply_pushed.Goals as goal

pub returns-in-Ok-clause-edit : goal.returns-in-Ok-clause-edit
returns-in-Ok-clause-edit c =
    pushed_applied _ _ c.args.handle c.args.edit.stamp c.args.edit.number c.args.edit.req c.args.edit.op c.in_replica-op.result c.in-Some.bytes.now c.in-Ok.bytes _ c.args.store.now c.apply_pushed.new.self c.requires c.in-Some.ensures (c.if-bytes-length.false ∙ c.length.ensures) c.in_replica-op.ensures
    c.in-Ok.ensures.edit

pub returns-in-Ok-clause-bytes : goal.returns-in-Ok-clause-bytes
returns-in-Ok-clause-bytes c =
    given_as_pushed c.args.edit.op c.in-Some.bytes.now _ (pushed c.args.edit.req c.args.store.now.buffer) c.requires c.in-Some.ensures (c.if-bytes-length.false ∙ c.length.ensures) (c.in-Ok.ensures.taken ∙ ap (λ bytes. Some bytes) (sym c.new.ensures))

pub returns-in-Err-clause-edit : goal.returns-in-Err-clause-edit
returns-in-Err-clause-edit c =
    pushed_refused _ _ c.args.handle c.args.edit.stamp c.args.edit.number c.args.edit.req c.args.edit.op c.in_replica-op.result c.in-Some.bytes.now c.in-Err.refusal c.args.store.now c.apply_pushed.new.self c.requires c.in-Some.ensures (c.if-bytes-length.false ∙ c.length.ensures) c.in_replica-op.ensures c.in-Err.ensures.edit
