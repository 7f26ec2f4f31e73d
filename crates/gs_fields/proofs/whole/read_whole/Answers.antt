use Rattle.std.proofs.Common.{sym, ◌∙◌, arith}
use Rattle.std.proofs.lemmas.Result.{err_from_is_err_and}
use Rattle.gs_fields.proofs.Steps.{all_read, unread, more_behind, is_nil, is_not_nil}
use Rattle.gs_fields.proofs.whole.read_whole.Goals as goal

pub returns-in_err-value : goal.returns-in_err-value
returns-in_err-value g c =
    let p = err_from_is_err_and c.from_residual.result c.from_residual.ensures.1 in
    rw (p.1, p.2) (unread g.T.Field.plain g.met.T.Field.reads c.args.bytes.now c.in_err-value.field-0.0 c.in_err-value.ensures)

pub returns-then-not-is_empty : goal.returns-then-not-is_empty
returns-then-not-is_empty g c =
    more_behind g.T.Field.plain g.met.T.Field.reads c.args.bytes.now c.read.new.cursor.rest.now c.in_ok-value.value c.in_ok-value.ensures
    (is_not_nil c.read.new.cursor.rest.now (sym c.is_empty.ensures ∙ c.if-not-is_empty.true))

pub returns : goal.returns
returns g c =
    all_read g.T.Field.plain g.met.T.Field.reads c.args.bytes.now c.read.new.cursor.rest.now c.in_ok-value.value (λ i. omega (arith, c.type_inv.bytes i)) c.in_ok-value.ensures
    (is_nil c.read.new.cursor.rest.now (sym c.is_empty.ensures ∙ c.if-not-is_empty.false))
