use Rattle.gs_laws_scripts.proofs.lemmas.explained.CalmCommits.{run_calm_after_a_commit}
use Rattle.gs_laws_scripts.proofs.lemmas.explained.NewStores.{run_calm_beginnings}
use Rattle.gs_laws_scripts.proofs.lemmas.explained.Scripted.{are_explained}
use Rattle.gs_laws_scripts.proofs.bytes.run_explained.Goals as goal

pub returns-clause-tree : goal.returns-clause-tree
returns-clause-tree g c =
    are_explained c.args.config c.run_telling.result.1 c.run_telling.result.0 (g.R.Read.remaining c.args.reader.now) (g.R.Read.remaining c.run_telling.new.reader) (g.W.Write.contents c.args.writer.now) (g.W.Write.contents c.run_telling.new.writer) c.run_telling.ensures

pub returns-clause-from_the_beginning : goal.returns-clause-from_the_beginning
returns-clause-from_the_beginning g c =
    run_calm_beginnings c.configurations_have_sizes.ensures c.args.config c.run_telling.result.1 c.run_telling.result.0 (g.R.Read.remaining c.args.reader.now) (g.R.Read.remaining c.run_telling.new.reader) (g.W.Write.contents c.args.writer.now) (g.W.Write.contents c.run_telling.new.writer) c.run_telling.ensures

pub returns-clause-after_a_commit : goal.returns-clause-after_a_commit
returns-clause-after_a_commit g c =
    run_calm_after_a_commit c.configurations_have_sizes.ensures c.args.config c.run_telling.result.1 c.run_telling.result.0 (g.R.Read.remaining c.args.reader.now) (g.R.Read.remaining c.run_telling.new.reader) (g.W.Write.contents c.args.writer.now) (g.W.Write.contents c.run_telling.new.writer) c.run_telling.ensures
