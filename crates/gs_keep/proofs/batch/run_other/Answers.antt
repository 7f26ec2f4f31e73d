use Rattle.std.proofs.Common.{string_bytes, ◌≡◌, ℕ, List, false, subst, rules}
use Rattle.gs_shell_line.specs.Line.{content}
use Rattle.gs_keep.proofs.Running.{ran_other, told}
use Rattle.gs_keep.proofs.Weaken.{on_ok}
use Rattle.gs_keep.proofs.batch.run_other.Goals as goal

pub returns : goal.returns
returns g c =
    let shown = c.text_of.result.now in
    let old = c.args.machine.now in
    let new = c.answer-answer.new.self in
    let other : g.M.Keeping.is_kept (content c.args.line.now) ≡ false = search rules in
    let taken : g.M.Keeping.is_turned_away old (content c.args.line.now) ≡ false = search rules in
    let answered : g.M.Answering.Answers old (content c.args.line.now) shown new =
    subst (λ (l : List ℕ). g.M.Answering.Answers old l shown new) c.content_of.ensures
    (told g.M.Answering.Answers g.M.Keeping.is_kept string_bytes c.answer-answer.result shown c.content_of.result.now old new c.answer-answer.ensures.ok c.answer-answer.ensures.err c.text_of.ensures.ok c.text_of.ensures.err) in
    on_ok c.put_answer.result _ _ (λ put short bytes ledger. ran_other g.M.Answering.Answers g.M.Keeping.is_kept g.M.Keeping.is_turned_away g.M.Keeping.own c.args.line.now shown old new bytes _ _ ledger short other taken
    (g.met.M.Keeping.changes_nothing old new (content c.args.line.now) shown other answered) answered put) c.put_answer.ensures
