use Rattle.std.proofs.Common.{◌∙◌, rules}
use Rattle.std.proofs.Output.{has_written_append, has_written_of_eq}
use Rattle.std.specs.Fmt.{HasWritten}
use Rattle.std.specs.Prelude.{decimal}
use Rattle.gs_base.proofs.Listed.{one_more, all_written}
use Rattle.gs_base.proofs.members.MembersDisplay.fmt.Goals as goal

pub loop-server-preserved : goal.loop-server-preserved
loop-server-preserved g c = λ plain.
    let old = c.loop-server.invariant plain in
    (_, has_written_append _ _ _ _ _ _ old.1 (search rules), one_more decimal old.0 c.in-Some-pop_first.server _ _ c.in-Some-pop_first.ensures ∙ old.2)

pub returns-clause-writes : goal.returns-clause-writes
returns-clause-writes g c = λ plain ok.
    let first : HasWritten g.W.Write.write_str_gives c.args.f.now (decimal c.in-Some.first) c.write.new.self = search rules in
    let all = c.loop-server.invariant first.plain in
    has_written_of_eq _ _ _ _ _ (all_written decimal all.0 c.in-Some.first _ _ _ c.in-Some.ensures c.in_default-pop_first.ensures.0 all.2)
    (has_written_append _ _ _ _ _ _ first all.1)
