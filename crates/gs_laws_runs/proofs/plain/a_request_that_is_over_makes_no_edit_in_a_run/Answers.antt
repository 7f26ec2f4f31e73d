use Rattle.gs_laws_runs.proofs.lemmas.plain.Over.{over_makes_no_edits}
use Rattle.gs_laws_runs.proofs.lemmas.plain.Refused.{refused_make_no_edits}
use Rattle.gs_laws_runs.proofs.plain.a_request_that_is_over_makes_no_edit_in_a_run.Goals as goal

pub returns-clause-over : goal.returns-clause-over
returns-clause-over g c x old new a b steps m req r at over told runs = over_makes_no_edits c.configurations_have_sizes.ensures c.a_message_edits_a_replica_by_what_it_says.ensures.edit x req old new a b steps m r at over told runs

pub returns-clause-refused : goal.returns-clause-refused
returns-clause-refused g c x = refused_make_no_edits c.configurations_have_sizes.ensures c.a_message_edits_a_replica_by_what_it_says.ensures.edit x
