use Rattle.std.proofs.Common.{Err, string_bytes, refl, subst}
use Rattle.gs_shell_grammar.specs.Grammar.{ParsesAs, line_request, request_of}
use Rattle.gs_shell_threads.proofs.Answered.{bad_line, bad_line_untold, came_to, came_untold, unread}
use Rattle.gs_shell_threads.proofs.desk.Desk.answer_text.Goals as goal

pub returns-in-Ok-clause-ok : goal.returns-in-Ok-clause-ok
returns-in-Ok-clause-ok g c =
    came_to string_bytes g.D.Disk.seen g.D.Disk.failures c.args.self.now c.step-answer.new.self c.args.line.now (request_of c.in-Ok.command) c.step-answer.result c.text-text.result c.in-Ok.ensures.request c.step-answer.ensures c.text-text.ensures

pub returns-in-Ok-clause-err : goal.returns-in-Ok-clause-err
returns-in-Ok-clause-err g c =
    came_untold string_bytes g.D.Disk.seen g.D.Disk.failures c.args.self.now c.step-answer.new.self c.args.line.now (request_of c.in-Ok.command) c.step-answer.result c.text-text.result c.in-Ok.ensures.request c.step-answer.ensures

pub returns-in-Err-BadLine-clause-ok : goal.returns-in-Err-BadLine-clause-ok
returns-in-Err-BadLine-clause-ok g c =
    bad_line string_bytes g.D.Disk.seen g.D.Disk.failures c.args.self.now c.args.self.now c.args.line.now c.text.result
    (subst (λ e. ParsesAs request_of (Err e) (line_request c.args.line.now)) c.in-Err-BadLine.field-0-is c.in-Err-BadLine.ensures.request) refl c.text.ensures

pub returns-in-Err-BadLine-clause-err : goal.returns-in-Err-BadLine-clause-err
returns-in-Err-BadLine-clause-err g c =
    bad_line_untold string_bytes g.D.Disk.seen g.D.Disk.failures c.args.self.now c.args.self.now c.args.line.now c.text.result
    (subst (λ e. ParsesAs request_of (Err e) (line_request c.args.line.now)) c.in-Err-BadLine.field-0-is c.in-Err-BadLine.ensures.request) refl

pub returns-in-Err-Memory-clause-err : goal.returns-in-Err-Memory-clause-err
returns-in-Err-Memory-clause-err g c = unread g.D.Disk.seen g.D.Disk.failures c.args.self.now c.args.line.now
