use Rattle.std.proofs.Common.{ap, sym, ◌∙◌, subst}
use Rattle.std.specs.Prelude.{Err}
use Rattle.gs_refs.specs.Counts.{Counts, raised_each, lowered_each}
use Rattle.gs_edit.specs.View.{names_of}
use Rattle.gs_edit.specs.Names.{TakesOneBack, counts_back, accepted}
use Rattle.gs_edit.proofs.Applied.{undo_refused}
use Rattle.gs_edit.proofs.Gathered.{follows_ok}
use Rattle.gs_edit.proofs.names.undo_remove.Goals as goal

pub returns : goal.returns
returns c =
    subst (λ (n : Counts). TakesOneBack c.args.inverse.now (names_of c.args.tree.now c.args.refs.now) (Err c.in-Err-undo.refusal) (names_of c.undo.new.self n))
    (sym (follows_ok (lowered_each c.raise_each.new.self c.deref-in-Err-undo.result.now) c.lower_each.result c.raise_each.new.self c.lower_each.new.self c.args.refs.now
    (ap (lowered_each c.raise_each.new.self) (c.deref-in-Err-undo.ensures.value ∙ sym c.deref.ensures.value) ∙ c.in-Ok.ensures.back) c.lower_each.ensures.edit))
    (undo_refused c.args.inverse.now c.args.tree.now c.undo.new.self c.args.refs.now c.in-Err-undo.refusal c.in-Err-undo.ensures.undo)

pub returns-in-Ok-undo : goal.returns-in-Ok-undo
returns-in-Ok-undo c = (
  c.in-Ok-undo.ensures.undo.0,
  c.in-Ok-undo.ensures.undo.1,
  ap (λ j. counts_back j c.args.tree.now c.args.refs.now) c.requires
      ∙ ap (λ l. accepted (raised_each c.args.refs.now l)) (sym (c.deref.ensures.value ∙ c.in_ok-planted.ensures)) ∙ ap accepted c.in-Ok.ensures.edit,
)
