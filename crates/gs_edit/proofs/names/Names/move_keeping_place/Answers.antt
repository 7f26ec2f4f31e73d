use Rattle.std.proofs.Common.{sym, subst}
use Rattle.std.specs.Prelude.{IfOk}
use Rattle.gs_refs.specs.Counts.{Counts}
use Rattle.gs_edit.specs.View.{NamesView, names_of}
use Rattle.gs_edit.specs.Edits.{Applies}
use Rattle.gs_edit.specs.Names.{NamesTakenBack}
use Rattle.gs_edit.specs.Places.{IsClosed}
use Rattle.gs_edit.specs.declared.edit.Inverse.TheVariants as inverses
use Rattle.gs_edit.proofs.Applied.{moved_applies, each_moved_back}
use Rattle.gs_edit.proofs.names.Names.move_keeping_place.Goals as goal

pub returns-clause-edit : goal.returns-clause-edit
returns-clause-edit c = λ is after closed.
    let refs = c.self.inside.refs in
    subst (λ (old : NamesView). Applies c.args.edit.now old c.move_in.result after) c.self.view_is
    (subst (λ (m : Counts). Applies c.args.edit.now (names_of c.self.inside.tree refs) c.move_in.result (names_of after.tree m)) (sym closed.1)
    (moved_applies c.args.edit.now is c.move_in.result c.self.inside.tree after.tree refs (c.move_in.ensures.edit is after.tree closed.0)))

pub returns-clause-undo : goal.returns-clause-undo
returns-clause-undo c =
    subst (λ (old : NamesView). IfOk c.move_in.result (λ i. (after : NamesView) → IsClosed c.move_in.result (names_of c.move_in.new.tree c.self.inside.refs) after → NamesTakenBack (inverses.Tree i) old after)) c.self.view_is
    (each_moved_back c.move_in.result c.self.inside.tree c.move_in.new.tree c.self.inside.refs c.move_in.ensures.kind c.move_in.ensures.undo)
