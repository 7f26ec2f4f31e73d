use Rattle.std.proofs.Common.{string_bytes, ◌≡◌, ℕ, List, true, subst, sym, rules, ◌∙◌}
use Rattle.gs_keep_mark.specs.Ledgers.{IsLedger}
use Rattle.gs_keep_mark.specs.Marks.{noted}
use Rattle.gs_keep.proofs.Replaying.{logged_run, surely_kept}
use Rattle.gs_keep.proofs.Running.{not_lacking, told}
use Rattle.gs_keep.proofs.again.run_logged.Goals.{then-says_bad_line+in_ok-check_line, else-says_bad_line}
use Rattle.gs_keep.proofs.again.run_logged.Goals as goal

pub returns-clause-ok : goal.returns-clause-ok
returns-clause-ok g c = λ short ends.
    let line = c.content_of.result.now in
    let kept : g.M.Keeping.is_kept line ≡ true = elim c.if-says_bad_line.branch [
      | then-says_bad_line+in_ok-check_line w ↦ subst (λ (l : List ℕ). g.M.Keeping.is_kept l ≡ true) (w.content_of-then-says_bad_line.ensures ∙ sym c.content_of.ensures) w.in_ok-check_line.ensures.ok
      | else-says_bad_line w ↦ surely_kept g.M.Answering.Answers g.M.Keeping.is_kept string_bytes c.answer-answer.result c.says_memory.result c.says_bad_line.result line c.args.machine.now c.answer-answer.new.self
          (search rules) w.if-says_bad_line.false c.says_memory.ensures.ok c.says_memory.ensures.err c.says_bad_line.ensures c.answer-answer.ensures.ok (λ text other answers. g.met.M.Keeping.is_refused c.args.machine.now c.answer-answer.new.self line text other answers)
    ] in
    logged_run g.M.Answering.Answers g.M.Keeping.is_kept c.args.line.now c.text_of.result.now c.args.machine.now c.answer-answer.new.self c.args.ledger.now c.note.new.self short ends
    (subst (λ (l : List ℕ). g.M.Keeping.is_kept l ≡ true) c.content_of.ensures kept)
    (not_lacking g.M.Answering.Answers g.M.Keeping.is_kept string_bytes c.answer-answer.result c.text_of.result.now c.says_memory.result (search rules) c.says_memory.ensures.ok c.says_memory.ensures.err c.text_of.ensures.ok)
    (subst (λ (l : List ℕ). g.M.Answering.Answers c.args.machine.now l c.text_of.result.now c.answer-answer.new.self) c.content_of.ensures
    (told g.M.Answering.Answers g.M.Keeping.is_kept string_bytes c.answer-answer.result c.text_of.result.now line c.args.machine.now c.answer-answer.new.self c.answer-answer.ensures.ok c.answer-answer.ensures.err c.text_of.ensures.ok c.text_of.ensures.err))
    (λ t is. subst (λ (l : List ℕ). IsLedger c.note.new.self (noted t (record { line = c.args.line.now; answer = l }))) c.as_bytes.ensures.value (c.note.ensures t is))
