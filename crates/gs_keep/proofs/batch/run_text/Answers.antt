use Rattle.std.proofs.Common.{◌≡◌, ◌∙◌, List, ℕ, true, refl, subst, sym}
use Rattle.gs_keep.proofs.Running.{turned, unheld}
use Rattle.gs_keep.proofs.Weaken.{on_ok}
use Rattle.gs_keep.proofs.batch.run_text.Goals as goal

pub returns-in_default : goal.returns-in_default
returns-in_default g c = on_ok c.put_answer.result _ _ (λ put short ends. unheld g.M.Answering.Answers g.M.Keeping.is_kept g.M.Keeping.is_turned_away g.M.Keeping.own c.args.line.now c.args.machine.now _ _ _ _ c.args.ledger.now refl put) c.put_answer.ensures

pub returns-then-is_turned_away : goal.returns-then-is_turned_away
returns-then-is_turned_away g c =
    let away = subst (λ (l : List ℕ). g.M.Keeping.is_turned_away c.args.machine.now l ≡ true) c.content_of.ensures (sym c.in-Ok.ensures ∙ c.if-is_turned_away.true) in
    on_ok c.put_answer-then-is_turned_away.result _ _ (λ put short ends. turned g.M.Answering.Answers g.M.Keeping.is_kept g.M.Keeping.is_turned_away g.M.Keeping.own c.args.line.now c.args.machine.now _ _ _ c.args.ledger.now short away put)
    c.put_answer-then-is_turned_away.ensures

pub returns-in-Ok-false : goal.returns-in-Ok-false
returns-in-Ok-false g c = on_ok c.run_other.result _ _ (λ run short ends. run short c.args.batch.now.bytes.items c.args.ledger.now) c.run_other.ensures

pub returns-in-Err : goal.returns-in-Err
returns-in-Err g c = on_ok c.put_answer-in-Err.result _ _ (λ put short ends. unheld g.M.Answering.Answers g.M.Keeping.is_kept g.M.Keeping.is_turned_away g.M.Keeping.own c.args.line.now c.args.machine.now _ _ _ _ c.args.ledger.now refl put) c.put_answer-in-Err.ensures
