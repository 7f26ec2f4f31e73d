use Rattle.std.proofs.Common.{◌≡◌, ◌<◌, ◌+◌, ◌∷◌, List, drop, length, inl, sym, ap, ◌∙◌, arith}
use Rattle.std.specs.Prelude.{Ok, Err}
use Rattle.std.specs.FinMap.{entries}
use Rattle.std.proofs.lemmas.List.{drop_more}
use Rattle.std.proofs.lemmas.Result.{err_from_is_err_and}
use Rattle.gs_path.specs.Path.{Path}
use Rattle.gs_refs.specs.Counts.{Counts, lowered_each}
use Rattle.gs_tree.specs.Chunks.{chunks_under}
use Rattle.gs_edit.proofs.Freed.{under_each, first_lowered}
use Rattle.gs_edit.proofs.scan.counts_without.Goals as goal

pub returns-in_err-lower_each : goal.returns-in_err-lower_each
returns-in_err-lower_each c =
    let rows = entries c.args.tree.now in
    let paths : List Path = c.args.paths.now in
    let i = c.loop-path.path-index in
    let p = c.path-item.result in
    let more : i < length paths = omega arith in
    let here : drop i paths ≡ p ∷ drop (i + 1) paths = drop_more paths i p more ∙ ap (λ q. q ∷ drop (i + 1) paths) (sym c.path-item.is) in
    let low : lowered_each c.loop-path.rest (chunks_under p rows) ≡ Err c.in_err-lower_each.field-0.0 =
    ap (lowered_each c.loop-path.rest) (sym c.in_ok-chunks.ensures ∙ sym c.deref.ensures.value) ∙ c.in_err-lower_each.ensures.edit.0 in
    let is = err_from_is_err_and c.from_residual-in_err-lower_each.result c.from_residual-in_err-lower_each.ensures.1 in
    rw (is.1, is.2) (inl (ap (λ (m : Counts). lowered_each m (under_each rows paths)) (sym c.in_ok-rest.ensures) ∙ sym c.loop-path.invariant ∙ ap (λ ps. lowered_each c.loop-path.rest (under_each rows ps)) here
    ∙ first_lowered (chunks_under p rows) (under_each rows (drop (i + 1) paths)) c.loop-path.rest (Err c.in_err-lower_each.field-0.0) low))

pub loop-path-preserved : goal.loop-path-preserved
loop-path-preserved c =
    let rows = entries c.args.tree.now in
    let paths : List Path = c.args.paths.now in
    let i = c.loop-path.path-index in
    let p = c.path-item.result in
    let more : i < length paths = omega arith in
    let here : drop i paths ≡ p ∷ drop (i + 1) paths = drop_more paths i p more ∙ ap (λ q. q ∷ drop (i + 1) paths) (sym c.path-item.is) in
    let low : lowered_each c.loop-path.rest (chunks_under p rows) ≡ Ok c.lower_each.new.self =
    ap (lowered_each c.loop-path.rest) (sym c.in_ok-chunks.ensures ∙ sym c.deref.ensures.value) ∙ c.in_ok-lower_each.ensures.edit in
    sym (first_lowered (chunks_under p rows) (under_each rows (drop (i + 1) paths)) c.loop-path.rest (Ok c.lower_each.new.self) low) ∙ ap (λ ps. lowered_each c.loop-path.rest (under_each rows ps)) (sym here)
    ∙ c.loop-path.invariant
