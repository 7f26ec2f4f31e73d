use Rattle.std.proofs.Common.{◌≡◌, ℕ, List, Some, false, sym, ap, subst, ◌∙◌}
use Rattle.gs_msg.specs.declared.op.Op.{Op}
use Rattle.gs_store.specs.Slots.{Live}
use Rattle.gs_server_lease.specs.Numbering.{numbered_op, is_passed}
use Rattle.gs_server.specs.Edits.{opened, numbers_as}
use Rattle.gs_server_lease.specs.Leases.{PrimaryLease}
use Rattle.gs_server.specs.Servers.{Server, ServerSteps, step_of, here_of, place_of}
use Rattle.gs_server.specs.inner.Numbering.{IsReady}
use Rattle.gs_server.proofs.NewEdits.{new_numbered}
use Rattle.gs_server.proofs.server.Server.new_edit.Goals as goal

pub returns : goal.returns
returns c =
    let old : Server = c.args.self.now in
    let handle : ℕ = c.args.handle in
    let edit = c.args.edit in
    let stored : ℕ = c.stored-stored.result in
    let op : c.numbered_op-op.result ≡ numbered_op old.chunk stored edit.op = c.numbered_op-op.ensures ∙ ap (λ n. numbered_op n stored edit.op) c.requires.chunk in
    let room : is_passed old.chunk stored edit.op ≡ false = ap (λ n. is_passed n stored edit.op) (sym c.requires.chunk) ∙ sym c.is_passed.ensures ∙ c.if-is_passed.false in
    new_numbered handle edit.req edit.stamp edit.op c.args.moment old c.number_next.new.self c.number_next.result stored (sym c.unless_numbered.ensures ∙ c.in_default.is) c.stored-stored.ensures room c.requires.above
    (subst (λ (o : Op). (bytes : List ℕ) (v : Live) (l : PrimaryLease) → IsReady handle (record { req = edit.req; stamp = edit.stamp; op = o }) bytes v l old →
    ServerSteps (step_of handle (Some edit.req) (numbers_as (here_of old c.args.moment handle (Some edit.req)) (place_of handle old) v l (opened edit.req o bytes v)) old) c.number_next.result old c.number_next.new.self) op (c.number_next.ensures c.args.moment))
