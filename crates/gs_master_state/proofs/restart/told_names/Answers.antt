use Rattle.std.proofs.Common.{inr, refl, sym, ap, ◌∙◌, subst}
use Rattle.std.specs.Prelude.{Err, Ok}
use Rattle.gs_tree.specs.Build.{Builds, rows_of_entries}
use Rattle.gs_master_state.specs.Checkpoints.{all_told, counts_in}
use Rattle.gs_master_state.proofs.Counted.{names_told, no_tree, not_told}
use Rattle.gs_master_state.proofs.restart.told_names.Goals as goal

pub returns-in-Err : goal.returns-in-Err
returns-in-Err c = no_tree c.args.checkpoint.now c.in-Err.refusal (subst (λ l. Builds (rows_of_entries l) (Err c.in-Err.refusal)) c.deref.ensures.value c.in-Err.ensures)

pub returns-then-not-are_told : goal.returns-then-not-are_told
returns-then-not-are_told c =
    let counts = c.in_ok-refs.ensures ∙ ap counts_in c.deref-2.ensures.value in
    inr (refl, not_told c.args.checkpoint.now ((λ i. all_told (sym counts i) (sym c.deref-3.ensures.value i)) ∙ sym c.are_told.ensures ∙ c.if-not-are_told.true))

pub returns : goal.returns
returns c =
    let counts = c.in_ok-refs.ensures ∙ ap counts_in c.deref-2.ensures.value in
    names_told c.args.checkpoint.now c.in-Ok.tree c.in_ok-refs.refs c.of-2.result
    (subst (λ l. Builds (rows_of_entries l) (Ok c.in-Ok.tree)) c.deref.ensures.value c.in-Ok.ensures).0
    (subst (λ l. Builds (rows_of_entries l) (Ok c.in-Ok.tree)) c.deref.ensures.value c.in-Ok.ensures).1
    counts ((λ i. all_told (sym counts i) (sym c.deref-3.ensures.value i)) ∙ sym c.are_told.ensures ∙ c.if-not-are_told.false) c.of-2.ensures
