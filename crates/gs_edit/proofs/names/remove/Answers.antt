use Rattle.std.proofs.Common.{ap, sym, ◌∙◌}
use Rattle.gs_refs.specs.Counts.{raised_each}
use Rattle.gs_tree.specs.Inverses.{removed_chunks}
use Rattle.gs_edit.proofs.Gathered.{remove_applies, remove_refused, removed_back, follows_ok}
use Rattle.gs_edit.proofs.names.remove.Goals as goal

pub returns-in-Ok-remove-clause-edit : goal.returns-in-Ok-remove-clause-edit
returns-in-Ok-remove-clause-edit c =
    remove_applies c.args.path.now c.in-Ok-remove.inverse c.args.tree.now c.remove.new.self c.args.refs.now c.lower_each.new.self c.deref.result.now
    (c.deref.ensures.value ∙ c.in_ok-chunks.ensures) c.in-Ok.ensures.edit c.in-Ok-remove.ensures.edit

pub returns-in-Ok-remove-clause-undo : goal.returns-in-Ok-remove-clause-undo
returns-in-Ok-remove-clause-undo c =
    let (node, (same, is)) = c.in-Ok-remove.ensures.inverse in
    removed_back c.args.path.now c.in-Ok-remove.inverse node c.args.tree.now c.remove.new.self c.args.refs.now c.lower_each.new.self c.deref.result.now is c.in-Ok-remove.ensures.undo
    (sym (ap removed_chunks is) ∙ c.in-Ok-remove.ensures.chunks ∙ sym (c.deref.ensures.value ∙ c.in_ok-chunks.ensures)) c.in-Ok.ensures.back

pub returns-clause-edit : goal.returns-clause-edit
returns-clause-edit c =
    remove_refused c.args.path.now c.in-Err-remove.refusal c.args.tree.now c.remove.new.self c.args.refs.now c.lower_each.new.self c.raise_each.new.self c.deref.result.now
    (c.deref.ensures.value ∙ c.in_ok-chunks.ensures) c.in-Ok.ensures.edit
    (follows_ok (raised_each c.lower_each.new.self c.deref-in-Err-remove.result.now) c.raise_each.result c.lower_each.new.self c.raise_each.new.self c.args.refs.now
    (ap (raised_each c.lower_each.new.self) (c.deref-in-Err-remove.ensures.value ∙ sym c.deref.ensures.value) ∙ c.in-Ok.ensures.back) c.raise_each.ensures.edit)
    c.in-Err-remove.ensures.edit
