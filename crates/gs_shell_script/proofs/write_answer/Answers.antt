use Rattle.std.proofs.Common.{◌≡◌, ◌++◌, ◌∷◌, [], List, ℕ, string_bytes, subst, refl, codes}
use Rattle.std.specs.Fmt.{digits, decimal}
use Rattle.std.specs.Io.KnownBytes.{Appends}
use Rattle.gs_shell_script.specs.Run.{AppendsBeginning, memory_text}
use Rattle.gs_shell_script.proofs.Weaken.{on_ok, on_err_weaker}
use Rattle.gs_shell_script.proofs.write_answer.Goals as goal

is_33 : decimal 33 ≡ 51 ∷ 51 ∷ []
unfolding digits
is_33 = refl

memory_is : codes "refused 33 Memory" ≡ memory_text
memory_is = rw is_33 refl

pub returns-in-Ok-clause-ok : goal.returns-in-Ok-clause-ok
returns-in-Ok-clause-ok g c = on_ok c.write_line.result _ _ (λ out whole is. (string_bytes c.in-Ok.text, c.in-Ok.ensures.ok whole is, subst (λ (t : List ℕ). Appends (g.W.Write.contents c.args.writer.now) (g.W.Write.contents c.write_line.new.writer) (t ++ 10 ∷ [])) c.deref.ensures out)) c.write_line.ensures.ok

pub returns-in-Err-clause-ok : goal.returns-in-Err-clause-ok
returns-in-Err-clause-ok g c = on_ok c.write_line-in-Err.result _ _ (λ out whole is. (memory_text, c.in-Err.ensures.err whole is, subst (λ (t : List ℕ). Appends (g.W.Write.contents c.args.writer.now) (g.W.Write.contents c.write_line-in-Err.new.writer) (t ++ 10 ∷ [])) memory_is out)) c.write_line-in-Err.ensures.ok

pub returns-in-Ok-clause-err : goal.returns-in-Ok-clause-err
returns-in-Ok-clause-err g c = on_err_weaker c.write_line.result _ _ (λ out whole is. (string_bytes c.in-Ok.text, c.in-Ok.ensures.ok whole is, subst (λ (t : List ℕ). AppendsBeginning (g.W.Write.contents c.args.writer.now) (g.W.Write.contents c.write_line.new.writer) (t ++ 10 ∷ [])) c.deref.ensures out)) c.write_line.ensures.err

pub returns-in-Err-clause-err : goal.returns-in-Err-clause-err
returns-in-Err-clause-err g c = on_err_weaker c.write_line-in-Err.result _ _ (λ out whole is. (memory_text, c.in-Err.ensures.err whole is, subst (λ (t : List ℕ). AppendsBeginning (g.W.Write.contents c.args.writer.now) (g.W.Write.contents c.write_line-in-Err.new.writer) (t ++ 10 ∷ [])) memory_is out)) c.write_line-in-Err.ensures.err
