use Rattle.std.proofs.Common.{length, subst, sym}
use Rattle.std.proofs.Math.Seq.{take-length}
use Rattle.std.specs.Io.KnownBytes.{Appends}
use Rattle.std.proofs.KnownBytes.{Appends-kept}
use Rattle.gs_keep.proofs.Weaken.{given_err}
use Rattle.gs_keep.proofs.sending.Answers.send.Goals as goal

pub returns-clause-err : goal.returns-clause-err
returns-clause-err g c =
    let out = g.W.Write.contents c.args.self.now.writer in
    let out' = g.W.Write.contents c.flush_out.new.self.writer in
    given_err c.flush_out.result _ (length c.args.answers.now, subst (Appends out out') (sym (take-length c.args.answers.now)) (Appends-kept _ _ _ _ c.in_default.ensures.ok c.flush_out.ensures.sent))
