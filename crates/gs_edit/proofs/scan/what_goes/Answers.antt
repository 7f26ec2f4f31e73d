use Rattle.std.proofs.Common.{inl, inr, sym, ap, ◌∙◌}
use Rattle.std.proofs.lemmas.Result.{err_from_is_err_and}
use Rattle.std.specs.FinMap.{entries}
use Rattle.gs_refs.specs.Counts.{lowered_each}
use Rattle.gs_edit.proofs.Freed.{under_each, scan_refused, scan_found}
use Rattle.gs_edit.proofs.scan.what_goes.Goals as goal

pub returns-in_err-rest : goal.returns-in_err-rest
returns-in_err-rest c =
    let p = err_from_is_err_and c.from_residual-in_err-rest.result c.from_residual-in_err-rest.ensures.1 in
    let paths = c.in_ok-removed.removed.items in
    rw (p.1, p.2) (elim c.in_err-rest.ensures [
      | inl refused ↦ inr (scan_refused c.args.moment.0 (entries c.args.tree.now) c.args.refs.now paths c.in_err-rest.field-0.0 c.in_ok-removed.ensures
          (ap (λ ps. lowered_each c.args.refs.now (under_each (entries c.args.tree.now) ps)) (sym c.deref.ensures.value) ∙ refused))
      | inr memory ↦ inl memory
    ])

pub returns : goal.returns
returns c =
    scan_found c.args.moment.0 (entries c.args.tree.now) c.args.refs.now c.in_ok-rest.rest (record { removed = c.in_ok-removed.removed; forgotten = c.in_ok-forgotten.forgotten }) c.in_ok-removed.ensures
    (ap (λ ps. lowered_each c.args.refs.now (under_each (entries c.args.tree.now) ps)) (sym c.deref.ensures.value) ∙ c.in_ok-rest.ensures) c.in_ok-forgotten.ensures
