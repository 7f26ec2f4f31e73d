use Rattle.std.proofs.Common.{◌≡◌, inl, ap, ◌∙◌, false, Err, rules}
use Rattle.gs_tree.specs.Inverses.{takes_memory}
use Rattle.gs_edit.proofs.Applied.{same_names}
use Rattle.gs_edit.proofs.Gathered.{snapshot_applies, snapshot_refused, snapshot_uncounted, surely_undone}
use Rattle.gs_edit.proofs.names.snapshot.Goals as goal

pub returns-in_err-inverse-clause-edit : goal.returns-in_err-inverse-clause-edit
returns-in_err-inverse-clause-edit c =
    let e : c.from_residual-in_err-inverse.result ≡ Err c.in_err-inverse.field-0.0 = search rules in
    rw e (snapshot_refused c.args.from.now c.args.to.now c.in_err-inverse.field-0.0 c.args.tree.now c.snapshot.new.self c.args.refs.now c.in_err-inverse.ensures.edit)

pub returns-in-Ok-clause-edit : goal.returns-in-Ok-clause-edit
returns-in-Ok-clause-edit c =
    snapshot_applies c.args.from.now c.args.to.now c.in_ok-inverse.inverse c.args.tree.now c.snapshot.new.self c.args.refs.now c.raise_each.new.self c.deref.result.now
    (c.deref.ensures.value ∙ c.in_ok-chunks.ensures) c.in-Ok.ensures.edit c.in_ok-inverse.ensures.edit

pub returns-clause-edit : goal.returns-clause-edit
returns-clause-edit c =
    let free : takes_memory c.in_ok-inverse.inverse ≡ false = ap takes_memory c.in_ok-inverse.ensures.inverse in (
      inl (snapshot_uncounted c.args.from.now c.args.to.now c.in_ok-inverse.inverse c.in-Err.refusal c.args.tree.now c.snapshot.new.self c.args.refs.now c.deref.result.now
          (c.deref.ensures.value ∙ c.in_ok-chunks.ensures) c.in-Err.ensures.edit.0 c.in_ok-inverse.ensures.edit),
      same_names c.undo.new.self c.args.tree.now c.raise_each.new.self c.args.refs.now
          (surely_undone c.in_ok-inverse.inverse c.args.tree.now c.snapshot.new.self c.undo.new.self c.undo.result free c.in_ok-inverse.ensures.undo c.undo.ensures.undo c.undo.ensures.memory)
          c.in-Err.ensures.edit.1,
    )
