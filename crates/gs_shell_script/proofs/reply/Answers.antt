use Rattle.std.proofs.KnownBytes.{Appends-kept}
use Rattle.gs_shell_script.proofs.Weaken.{given_ok, on_err}
use Rattle.gs_shell_script.proofs.Lines.{begins-whole}
use Rattle.gs_shell_script.proofs.reply.Goals as goal

pub returns-clause-ok : goal.returns-clause-ok
returns-clause-ok g c = given_ok c.flush.result _ (λ whole is.
    let (text, answers, out) = c.in_ok-write_answer.ensures.ok whole is in
    (text, answers, Appends-kept _ _ _ _ out c.flush.ensures.contents))

-- the answer is written whole where it can't be flushed
pub returns-clause-err : goal.returns-clause-err
returns-clause-err g c = on_err c.flush.result _ (λ whole is.
    let (text, answers, out) = c.in_ok-write_answer.ensures.ok whole is in
    (text, answers, begins-whole _ _ _ _ out c.flush.ensures.contents))
