use Rattle.gs_laws_master.proofs.lemmas.upgrades.Committing.{answers_exactly, commits_exactly, refuses_in_order, taken_unless_failed}
use Rattle.gs_laws_master.proofs.a_rollback_is_committed_exactly_where_all_is_restored.Goals as goal

pub returns : goal.returns
returns c = record { can = commits_exactly; order = refuses_in_order; answers = answers_exactly; taken = taken_unless_failed }
