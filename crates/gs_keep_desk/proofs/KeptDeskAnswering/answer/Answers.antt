use Rattle.std.proofs.Common.{refl, string_bytes}
use Rattle.gs_keep_desk.proofs.Lacking.{kept_fails, kept_lacks}
use Rattle.gs_keep_desk.proofs.KeptDeskAnswering.answer.Goals as goal

pub returns-then-self-clause-err : goal.returns-then-self-clause-err
returns-then-self-clause-err g c =
    kept_lacks g.D.Disk.seen g.D.Disk.failures c.args.line.now c.args.self.now
    (record { desk = c.answer-answer.new.self; is_lab = c.args.self.now.is_lab; since = c.args.self.now.since }) refl refl
    string_bytes c.answer-answer.result c.answer-answer.ensures.ok c.answer-answer.ensures.err

pub returns-in_err-text-clause-err : goal.returns-in_err-text-clause-err
returns-in_err-text-clause-err g c =
    kept_fails g.D.Disk.seen g.D.Disk.failures c.args.line.now c.args.self.now
    (record { desk = c.answer-answer.new.self; is_lab = c.args.self.now.is_lab; since = c.args.self.now.since }) refl refl
    c.from_residual.result c.in_err-text.ensures.err
