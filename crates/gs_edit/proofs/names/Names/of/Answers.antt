use Rattle.std.proofs.Common.{inl, ap, sym, ◌∙◌, subst, refl, rules}
use Rattle.std.specs.FinMap.{entries}
use Rattle.gs_refs.specs.Counts.{IsCountOf}
use Rattle.gs_tree.specs.Chunks.{chunks_under}
use Rattle.gs_edit.proofs.Gathered.{chunks_of_all, if_true, if_false}
use Rattle.gs_edit.proofs.names.Names.of.Goals as goal

pub returns-then-not-branch : goal.returns-then-not-branch
returns-then-not-branch c =
    let is = c.deref.ensures.value ∙ c.in_ok-chunks.ensures ∙ ap (λ p. chunks_under p (entries c.args.tree)) c.root.ensures ∙ chunks_of_all (entries c.args.tree) in
    inl (refl, λ counted. if_false _ _ c.in_ok-counts.field-0 (search rules) c.in_ok-counts.ensures (subst (λ l. IsCountOf l c.args.refs) (sym is) counted))

pub returns : goal.returns
returns c =
    let is = c.deref.ensures.value ∙ c.in_ok-chunks.ensures ∙ ap (λ p. chunks_under p (entries c.args.tree)) c.root.ensures ∙ chunks_of_all (entries c.args.tree) in
    (refl, subst (λ l. IsCountOf l c.args.refs) is (if_true _ _ c.in_ok-counts.field-0 (search rules) c.in_ok-counts.ensures))
