use Rattle.gs_laws_plain.proofs.lemmas.calm.Asking.{queries_go}
use Rattle.gs_laws_plain.proofs.lemmas.calm.Preparing.{finalizes_go, prepares_begin, prepares_commit}
use Rattle.gs_laws_plain.proofs.lemmas.calm.Returning.{learned_leaves, rollbacks_begin, rollbacks_commit}
use Rattle.gs_laws_plain.proofs.calm.calls_of_an_upgrade_are_commands.Goals as goal

pub returns : goal.returns
returns c = record { queries = queries_go; begins = prepares_begin; commits = prepares_commit; finalizes = finalizes_go; back = rollbacks_begin; restores = rollbacks_commit; learned = learned_leaves }
