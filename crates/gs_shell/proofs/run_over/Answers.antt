use Rattle.gs_shell.proofs.Stopping.{not_begun, tells}
use Rattle.gs_shell.proofs.run_over.Goals as goal

pub returns : goal.returns
returns g c =
    tells g.D.Disk.seen g.D.Disk.failures c.args.config c.args.disks c.watch-watching.result c.watch-watching.ensures c.in-Ok.desk c.run-result.new.machine (g.R.Read.remaining c.args.reader.now) (g.R.Read.remaining c.run-result.new.reader) (g.W.Write.contents c.args.writer.now) (g.W.Write.contents c.run-result.new.writer)
    c.in-Ok.ensures.starts c.of.result c.of.ensures c.run-result.result c.run-result.ensures.ok c.run-result.ensures.err

pub returns-in-Err : goal.returns-in-Err
returns-in-Err g c = not_begun g.D.Disk.seen g.D.Disk.failures c.args.config c.args.disks c.watch-watching.result c.watch-watching.ensures c.in-Err.unopened c.none.result (g.R.Read.remaining c.args.reader.now) (g.W.Write.contents c.args.writer.now) c.in-Err.ensures.refused c.none.ensures
