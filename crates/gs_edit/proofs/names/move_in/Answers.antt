use Rattle.std.proofs.Common.{sym, subst, ℕ}
use Rattle.std.specs.FinMap.{get, entries}
use Rattle.gs_tree.specs.Plain.{Plain}
use Rattle.gs_tree.specs.Edits.{rename, hide, unhide}
use Rattle.gs_tree.specs.Find.{is_too_deep}
use Rattle.gs_tree.specs.Follows.{FollowsPlain}
use Rattle.gs_edit.specs.Edits.{AppliesRows}
use Rattle.gs_edit.specs.declared.edit.Edit.{Edit}
use Rattle.gs_edit.proofs.Covers.{applies-rename, applies-hide, applies-unhide}
use Rattle.gs_edit.proofs.names.move_in.Goals as goal

pub returns-in-Rename-clause-edit : goal.returns-in-Rename-clause-edit
returns-in-Rename-clause-edit c = λ is after same.
    subst (λ (e : Edit). AppliesRows e (entries c.args.tree.now) c.rename_keeping_place.result (entries after)) (sym c.in-Rename.is)
    (applies-rename c.in-Rename.from c.in-Rename.to c.rename_keeping_place.result c.args.tree.now after (subst (λ (p : Plain ℕ). FollowsPlain (rename (is_too_deep (entries c.args.tree.now) c.in-Rename.from) (get c.args.tree.now) c.in-Rename.from c.in-Rename.to) c.rename_keeping_place.result (get c.args.tree.now) p) (λ i q. sym (same q) i) c.rename_keeping_place.ensures.edit))

pub returns-in-Hide-clause-edit : goal.returns-in-Hide-clause-edit
returns-in-Hide-clause-edit c = λ is after same.
    subst (λ (e : Edit). AppliesRows e (entries c.args.tree.now) c.hide_keeping_place.result (entries after)) (sym c.in-Hide.is)
    (applies-hide c.in-Hide.path c.in-Hide.moment c.in-Hide.number c.hide_keeping_place.result c.args.tree.now after (subst (λ (p : Plain ℕ). FollowsPlain (hide (get c.args.tree.now) c.in-Hide.path c.in-Hide.moment.0 c.in-Hide.number) c.hide_keeping_place.result (get c.args.tree.now) p) (λ i q. sym (same q) i) c.hide_keeping_place.ensures.edit))

pub returns-in-Unhide-clause-edit : goal.returns-in-Unhide-clause-edit
returns-in-Unhide-clause-edit c = λ is after same.
    subst (λ (e : Edit). AppliesRows e (entries c.args.tree.now) c.unhide_keeping_place.result (entries after)) (sym c.in-Unhide.is)
    (applies-unhide c.in-Unhide.path c.unhide_keeping_place.result c.args.tree.now after (subst (λ (p : Plain ℕ). FollowsPlain (unhide (get c.args.tree.now) c.in-Unhide.path) c.unhide_keeping_place.result (get c.args.tree.now) p) (λ i q. sym (same q) i) c.unhide_keeping_place.ensures.edit))
