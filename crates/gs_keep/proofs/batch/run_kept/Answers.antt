use Rattle.std.proofs.Common.{◌≡◌, ℕ, List, true, false, string_bytes, subst, rules}
use Rattle.gs_shell_line.specs.Line.{content}
use Rattle.gs_keep_mark.specs.Ledgers.{IsLedger}
use Rattle.gs_keep_mark.specs.Marks.{noted}
use Rattle.gs_keep.proofs.Running.{not_lacking, ran, told, unheld}
use Rattle.gs_keep.proofs.Weaken.{on_ok}
use Rattle.gs_keep.proofs.batch.run_kept.Goals as goal

pub returns-then-is_err : goal.returns-then-is_err
returns-then-is_err g c = on_ok c.put_answer.result _ _ (λ put short ends. unheld g.M.Answering.Answers g.M.Keeping.is_kept g.M.Keeping.is_turned_away g.M.Keeping.own c.args.line.now c.args.machine.now _ _ _ _ c.args.ledger.now (search rules) put) c.put_answer.ensures

pub returns : goal.returns
returns g c =
    let shown = c.text_of-text.result.now in
    let old = c.args.machine.now in
    let new = c.answer-answer.new.self in
    let kept : g.M.Keeping.is_kept (content c.args.line.now) ≡ true = search rules in
    let taken : g.M.Keeping.is_turned_away old (content c.args.line.now) ≡ false = search rules in
    let enough = not_lacking g.M.Answering.Answers g.M.Keeping.is_kept string_bytes c.answer-answer.result shown c.says_memory.result (search rules) c.says_memory.ensures.ok c.says_memory.ensures.err c.text_of-text.ensures.ok in
    let answered : g.M.Answering.Answers old (content c.args.line.now) shown new =
    subst (λ (l : List ℕ). g.M.Answering.Answers old l shown new) c.content_of.ensures
    (told g.M.Answering.Answers g.M.Keeping.is_kept string_bytes c.answer-answer.result shown c.content_of.result.now old new c.answer-answer.ensures.ok c.answer-answer.ensures.err c.text_of-text.ensures.ok c.text_of-text.ensures.err) in
    on_ok c.put_answer-2.result _ _ (λ put short ends. ran g.M.Answering.Answers g.M.Keeping.is_kept g.M.Keeping.is_turned_away g.M.Keeping.own c.args.line.now shown old new _ _ _ _ c.args.ledger.now c.note.new.self short ends kept taken enough answered (search rules) put
    (λ t is. subst (λ (l : List ℕ). IsLedger c.note.new.self (noted t (record { line = c.args.line.now; answer = l }))) c.as_bytes.ensures.value (c.note.ensures t is))) c.put_answer-2.ensures
