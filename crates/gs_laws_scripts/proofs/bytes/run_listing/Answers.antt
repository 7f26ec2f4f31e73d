use Rattle.gs_laws_scripts.proofs.lemmas.lists.Lines.{list_the_same}
use Rattle.gs_laws_scripts.proofs.lemmas.lists.Listing.{lists}
use Rattle.gs_laws_scripts.proofs.bytes.run_listing.Goals as goal

pub returns : goal.returns
returns g c =
    lists (list_the_same c.epochs_that_are_answered_are_numbers.ensures c.what_is_listed_behind_a_rollback_is_what_was_listed_behind_its_prepare.ensures)
    c.args.config c.run_telling-result.result.1 c.run_telling-result.result.0 (g.R.Read.remaining c.args.reader.now) (g.R.Read.remaining c.run_telling-result.new.reader) (g.W.Write.contents c.args.writer.now) (g.W.Write.contents c.run_telling-result.new.writer) c.run_telling-result.ensures
