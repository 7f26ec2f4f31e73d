use Rattle.std.proofs.Common.{sym, subst, refl}
use Rattle.std.specs.Prelude.{Result}
use Rattle.gs_base.specs.declared.refusal.Refusal.{Refusal}
use Rattle.gs_edit.specs.View.{names_of}
use Rattle.gs_edit.specs.Edits.{Applies}
use Rattle.gs_edit.specs.declared.edit.Edit.{Edit}
use Rattle.gs_edit.specs.declared.edit.Edit.TheVariants as edits
use Rattle.gs_edit.specs.declared.edit.Inverse.{Inverse}
use Rattle.gs_edit.proofs.Covers.{applies-mkdirs, applies-create, applies-rename, applies-hide, applies-unhide}
use Rattle.gs_edit.proofs.Applied.{kept_applies}
use Rattle.gs_edit.proofs.names.apply_in.Goals as goal

pub returns-in-Mkdirs-clause-edit : goal.returns-in-Mkdirs-clause-edit
returns-in-Mkdirs-clause-edit c =
    subst (λ (e : Edit). Applies e (names_of c.args.tree.now c.args.refs.now) c.kept.result (names_of c.mkdirs.new.self c.args.refs.now)) (sym c.in-Mkdirs.is)
    (subst (λ (r : Result Inverse Refusal). Applies (edits.Mkdirs c.in-Mkdirs.path) (names_of c.args.tree.now c.args.refs.now) r (names_of c.mkdirs.new.self c.args.refs.now)) (sym c.kept.ensures)
    (kept_applies (edits.Mkdirs c.in-Mkdirs.path) (λ rows refs. refl) c.mkdirs.result c.args.tree.now c.mkdirs.new.self c.args.refs.now (applies-mkdirs c.in-Mkdirs.path c.mkdirs.result c.args.tree.now c.mkdirs.new.self c.mkdirs.ensures.edit)))

pub returns-in-Create-clause-edit : goal.returns-in-Create-clause-edit
returns-in-Create-clause-edit c =
    subst (λ (e : Edit). Applies e (names_of c.args.tree.now c.args.refs.now) c.kept-in-Create.result (names_of c.create.new.self c.args.refs.now)) (sym c.in-Create.is)
    (subst (λ (r : Result Inverse Refusal). Applies (edits.Create c.in-Create.path) (names_of c.args.tree.now c.args.refs.now) r (names_of c.create.new.self c.args.refs.now)) (sym c.kept-in-Create.ensures)
    (kept_applies (edits.Create c.in-Create.path) (λ rows refs. refl) c.create.result c.args.tree.now c.create.new.self c.args.refs.now (applies-create c.in-Create.path c.create.result c.args.tree.now c.create.new.self c.create.ensures.edit)))

pub returns-in-Rename-clause-edit : goal.returns-in-Rename-clause-edit
returns-in-Rename-clause-edit c =
    subst (λ (e : Edit). Applies e (names_of c.args.tree.now c.args.refs.now) c.kept-in-Rename.result (names_of c.rename.new.self c.args.refs.now)) (sym c.in-Rename.is)
    (subst (λ (r : Result Inverse Refusal). Applies (edits.Rename c.in-Rename.from c.in-Rename.to) (names_of c.args.tree.now c.args.refs.now) r (names_of c.rename.new.self c.args.refs.now)) (sym c.kept-in-Rename.ensures)
    (kept_applies (edits.Rename c.in-Rename.from c.in-Rename.to) (λ rows refs. refl) c.rename.result c.args.tree.now c.rename.new.self c.args.refs.now (applies-rename c.in-Rename.from c.in-Rename.to c.rename.result c.args.tree.now c.rename.new.self c.rename.ensures.edit)))

pub returns-in-Hide-clause-edit : goal.returns-in-Hide-clause-edit
returns-in-Hide-clause-edit c =
    subst (λ (e : Edit). Applies e (names_of c.args.tree.now c.args.refs.now) c.kept-in-Hide.result (names_of c.hide.new.self c.args.refs.now)) (sym c.in-Hide.is)
    (subst (λ (r : Result Inverse Refusal). Applies (edits.Hide c.in-Hide.path c.in-Hide.moment c.in-Hide.number) (names_of c.args.tree.now c.args.refs.now) r (names_of c.hide.new.self c.args.refs.now)) (sym c.kept-in-Hide.ensures)
    (kept_applies (edits.Hide c.in-Hide.path c.in-Hide.moment c.in-Hide.number) (λ rows refs. refl) c.hide.result c.args.tree.now c.hide.new.self c.args.refs.now (applies-hide c.in-Hide.path c.in-Hide.moment c.in-Hide.number c.hide.result c.args.tree.now c.hide.new.self c.hide.ensures.edit)))

pub returns-in-Unhide-clause-edit : goal.returns-in-Unhide-clause-edit
returns-in-Unhide-clause-edit c =
    subst (λ (e : Edit). Applies e (names_of c.args.tree.now c.args.refs.now) c.kept-in-Unhide.result (names_of c.unhide.new.self c.args.refs.now)) (sym c.in-Unhide.is)
    (subst (λ (r : Result Inverse Refusal). Applies (edits.Unhide c.in-Unhide.path) (names_of c.args.tree.now c.args.refs.now) r (names_of c.unhide.new.self c.args.refs.now)) (sym c.kept-in-Unhide.ensures)
    (kept_applies (edits.Unhide c.in-Unhide.path) (λ rows refs. refl) c.unhide.result c.args.tree.now c.unhide.new.self c.args.refs.now (applies-unhide c.in-Unhide.path c.unhide.result c.args.tree.now c.unhide.new.self c.unhide.ensures.edit)))
