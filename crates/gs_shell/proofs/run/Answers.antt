use Rattle.gs_shell.proofs.Empty.{fails, serves}
use Rattle.gs_shell.proofs.run.Goals as goal

pub returns-clause-ok : goal.returns-clause-ok
returns-clause-ok g c =
    serves c.args.config c.run_telling-result.result.1 (g.R.Read.remaining c.run_telling-result.new.reader) (g.W.Write.contents c.args.writer.now) (g.W.Write.contents c.run_telling-result.new.writer) c.run_telling-result.result.0 (g.R.Read.remaining c.args.reader.now) c.run_telling-result.ensures

pub returns-clause-err : goal.returns-clause-err
returns-clause-err g c =
    fails c.args.config c.run_telling-result.result.1 (g.R.Read.remaining c.run_telling-result.new.reader) (g.W.Write.contents c.args.writer.now) (g.W.Write.contents c.run_telling-result.new.writer) c.run_telling-result.result.0 (g.R.Read.remaining c.args.reader.now) c.run_telling-result.ensures
