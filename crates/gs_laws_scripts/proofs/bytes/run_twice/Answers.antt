use Rattle.gs_laws_scripts.proofs.lemmas.stops.Given.{are_the_same}
use Rattle.gs_laws_scripts.proofs.bytes.run_twice.Goals as goal

pub returns : goal.returns
returns g c =
    are_the_same c.args.config c.run_telling-first.result.1 c.run_telling-second.result.1 c.run_telling-first.result.0 c.run_telling-second.result.0
    (g.R.Read.remaining c.args.reader.now) (g.R.Read.remaining c.run_telling-first.new.reader) (g.W.Write.contents c.args.writer.now) (g.W.Write.contents c.run_telling-first.new.writer)
    (g.S.Read.remaining c.args.other_reader.now) (g.S.Read.remaining c.run_telling-second.new.reader) (g.V.Write.contents c.args.other_writer.now) (g.V.Write.contents c.run_telling-second.new.writer)
    c.run_telling-first.ensures c.run_telling-second.ensures
