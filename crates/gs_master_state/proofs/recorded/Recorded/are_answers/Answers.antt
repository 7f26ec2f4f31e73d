use Rattle.std.proofs.Common.{sym, arith}
use Rattle.std.proofs.lemmas.Bool.Decides.{nat_tests}
use Rattle.gs_master_spec.specs.Durable.{prepared_view}
use Rattle.gs_master_state.specs.inner.Recorded.{durable_of}
use Rattle.gs_master_state.proofs.Recording.{answers_unequal}
use Rattle.gs_master_state.proofs.recorded.Recorded.are_answers.Goals as goal

pub returns-then-listed-answered : goal.returns-then-listed-answered
returns-then-listed-answered c =
    let apart = c.if-listed-answered.true in
    sym (answers_unequal (prepared_view (durable_of c.args.self.now)) c.args.listed.now c.args.answered.now (λ same. grind (arith, nat_tests)))
