use Rattle.std.proofs.Common.{refl, subst}
use Rattle.gs_shell_line.specs.Ended.{IsEndedLine}
use Rattle.gs_keep.proofs.Running.{too_long, unheld}
use Rattle.gs_keep.proofs.Weaken.{on_ok}
use Rattle.gs_keep.proofs.batch.run_line.Goals as goal

pub returns-in-TooLong : goal.returns-in-TooLong
returns-in-TooLong g c = on_ok c.put_answer.result _ _ (λ put whole is. too_long g.M.Answering.Answers g.M.Keeping.is_kept g.M.Keeping.is_turned_away g.M.Keeping.own whole c.args.machine.now _ _ _ c.args.ledger.now
    (subst (IsEndedLine whole) c.in-TooLong.is is) put) c.put_answer.ensures

pub returns-in_default : goal.returns-in_default
returns-in_default g c = on_ok c.put_answer-in_default.result _ _ (λ put whole is. unheld g.M.Answering.Answers g.M.Keeping.is_kept g.M.Keeping.is_turned_away g.M.Keeping.own whole c.args.machine.now _ _ _ _ c.args.ledger.now refl put) c.put_answer-in_default.ensures
