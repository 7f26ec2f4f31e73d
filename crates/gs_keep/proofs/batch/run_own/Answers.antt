use Rattle.std.proofs.Common.{◌≡◌, ℕ, List, Some, string_bytes, subst, rules}
use Rattle.gs_shell_line.specs.Line.{content}
use Rattle.gs_keep_mark.specs.Ledgers.{IsLedger}
use Rattle.gs_keep_mark.specs.Marks.{noted}
use Rattle.gs_keep.proofs.Own.{ran_own}
use Rattle.gs_keep.proofs.Running.{not_lacking, told}
use Rattle.gs_keep.proofs.batch.run_own.Goals as goal

pub returns : goal.returns
returns g c =
    let shown = c.text_of.result.now in
    let line = c.args.line.now in
    let old = c.args.machine.now in
    let new = c.answer-reply.new.self in
    let is_due : g.M.Keeping.own old ≡ Some line = search rules in
    let enough = not_lacking g.M.Answering.Answers g.M.Keeping.is_kept string_bytes c.answer-reply.result shown c.says_memory.result (search rules) c.says_memory.ensures.ok c.says_memory.ensures.err c.text_of.ensures.ok in
    let answered : g.M.Answering.Answers old (content line) shown new =
    subst (λ (l : List ℕ). g.M.Answering.Answers old l shown new) c.content_of.ensures
    (told g.M.Answering.Answers g.M.Keeping.is_kept string_bytes c.answer-reply.result shown c.content_of.result.now old new c.answer-reply.ensures.ok c.answer-reply.ensures.err c.text_of.ensures.ok c.text_of.ensures.err) in
    ran_own g.M.Answering.Answers g.M.Keeping.is_kept g.M.Keeping.is_turned_away g.M.Keeping.own g.met.M.Keeping.marks_are_none line shown old new _ _ c.args.ledger.now c.note.new.self is_due
    (g.met.M.Keeping.own_lines_stand old line is_due) enough answered (search rules)
    (λ t is. subst (λ (l : List ℕ). IsLedger c.note.new.self (noted t (record { line = line; answer = l }))) c.as_bytes.ensures.value (c.note.ensures t is))
