use Rattle.std.proofs.Common.{rules}
use Rattle.std.proofs.lemmas.Result.{err_from_is_err_and}
use Rattle.gs_path.proofs.PathLemmas.{reads_none, reads_more, not_added, all_added}
use Rattle.gs_path.proofs.path.read_elements.Goals as goal

pub returns-in_err-add : goal.returns-in_err-add
returns-in_err-add c = let p = err_from_is_err_and c.from_residual.result c.from_residual.ensures.1 in
    rw (p.1, p.2) (not_added _ _ _ _ _ _ _ c.loop-first.invariant.1 c.in-Some.ensures.0 c.in_err-add.ensures)

pub loop-first-init : goal.loop-first-init
loop-first-init c = (c.utf8.text, reads_none _ _ _ c.root-path.ensures)

pub loop-first-preserved : goal.loop-first-preserved
loop-first-preserved c = (search rules, reads_more _ _ _ _ _ _ _ c.loop-first.invariant.1 c.in_ok-add.ensures c.in-Some.ensures.0)

pub returns-in_err-add-2 : goal.returns-in_err-add-2
returns-in_err-add-2 c = let p = err_from_is_err_and c.from_residual-in_err-add-2.result c.from_residual-in_err-add-2.ensures.1 in
    rw (p.1, p.2) (not_added _ _ _ _ _ _ _ c.loop-first.invariant.1 c.in_default.ensures c.in_err-add-2.ensures)

pub returns : goal.returns
returns c = all_added _ _ _ _ _ c.loop-first.invariant.1 c.in_default.ensures c.in_ok-add-2.ensures
