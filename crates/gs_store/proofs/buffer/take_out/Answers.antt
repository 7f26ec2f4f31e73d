use Rattle.std.proofs.Common.{Some, sym, ap, ◌∙◌}
use Rattle.gs_store.specs.Buffers.{same_request}
use Rattle.gs_store.proofs.Buffered.{found, not_found}
use Rattle.gs_store.proofs.buffer.take_out.Goals as goal

pub returns-in_err-place-clause-taken : goal.returns-in_err-place-clause-taken
returns-in_err-place-clause-taken c = c.from_residual.ensures ∙ sym (not_found (same_request c.args.req) c.args.pushes.now.items c.in_err-place.ensures).0

pub returns-in_err-place-clause-without : goal.returns-in_err-place-clause-without
returns-in_err-place-clause-without c = sym (not_found (same_request c.args.req) c.args.pushes.now.items c.in_err-place.ensures).1

pub returns-clause-taken : goal.returns-clause-taken
returns-clause-taken c =
    ap (λ e. Some e.1) c.in_ok-bytes.ensures.value
    ∙ sym (found (same_request c.args.req) c.args.pushes.now.items c.in_ok-place.place (c.in_ok-bytes.field-0-0, c.in_ok-bytes.bytes) c.in_ok-place.ensures).0

pub returns-clause-without : goal.returns-clause-without
returns-clause-without c =
    c.in_ok-bytes.ensures.items
    ∙ (found (same_request c.args.req) c.args.pushes.now.items c.in_ok-place.place (c.in_ok-bytes.field-0-0, c.in_ok-bytes.bytes) c.in_ok-place.ensures).1
