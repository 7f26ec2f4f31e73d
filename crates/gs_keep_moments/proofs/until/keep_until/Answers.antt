use Rattle.gs_keep_moments.proofs.Reached.{at_moment}
use Rattle.gs_keep_moments.proofs.until.keep_until.Goals as goal

pub returns : goal.returns
returns g c =
    at_moment g.M.Answering.Answers g.M.Keeping.is_kept g.M.Keeping.is_turned_away g.M.Keeping.own c.keep_on.result (g.L.Log.holds c.args.log.now.log) (g.L.Log.holds c.keep_on.new.log.log)
    (g.B.Read.remaining c.args.logged.now.reader) (g.R.Read.remaining c.args.reader.now.reader) (g.R.Read.remaining c.keep_on.new.reader.reader) c.args.first.head.now c.args.first.before c.args.len
    (g.W.Write.contents c.args.writer.now.writer) (g.W.Write.contents c.keep_on.new.writer.writer) c.args.machine.now c.keep_on.new.machine c.keep_on.ensures.ok c.keep_on.ensures.err
