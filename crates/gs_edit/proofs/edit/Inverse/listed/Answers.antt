use Rattle.std.proofs.Common.{sym, ap, ◌∙◌}
use Rattle.gs_edit.specs.Listed.{is_of_kind, is_forget}
use Rattle.gs_edit.proofs.edit.Inverse.listed.Goals as goal

pub returns-in_ok-from_slice-in-Forget : goal.returns-in_ok-from_slice-in-Forget
returns-in_ok-from_slice-in-Forget c = (
  ap (is_of_kind c.args.kind) c.in-Remember.is ∙ ap is_forget c.in-Forget.is,
  sym c.in-Forget.is,
  (c.in-Remember.chunks, (c.in-Remember.is, c.in_ok-from_slice-in-Forget.ensures.items ∙ c.deref.ensures.value)),
)
