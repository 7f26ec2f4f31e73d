use Rattle.gs_server.specs.Edits.{edit, forward}
use Rattle.gs_laws_server.specs.servers.Editing.{IsTakenBy, IsNumberedBy}
use Rattle.gs_laws_server.proofs.lemmas.servers.Editing.{where_made, forwards_edit, numbers_edit}
use Rattle.gs_laws_server.proofs.lemmas.servers.Accepting.{forward_taken, edit_numbered}
use Rattle.gs_laws_server.proofs.servers.a_message_edits_a_replica_by_what_it_says.Goals as goal

pub returns-clause-forward : goal.returns-clause-forward
returns-clause-forward c = λ h p from stamp number req op carried s is.
    where_made (IsTakenBy h p from stamp number req op carried) (forward h p from stamp number req op carried) s is (forwards_edit h p from stamp number req op carried)

pub returns-clause-edit : goal.returns-clause-edit
returns-clause-edit c = λ h p req stamp op s is. where_made (IsNumberedBy h p req stamp op) (edit h p req stamp op) s is (numbers_edit h p req stamp op)

pub returns-clause-taken : goal.returns-clause-taken
returns-clause-taken c = λ h p from stamp number req op carried live bytes s may is. forward_taken h p from stamp number req op carried live bytes s may is

pub returns-clause-numbered : goal.returns-clause-numbered
returns-clause-numbered c = λ h p req stamp op live l bytes s may is. edit_numbered h p req stamp op live l bytes s may is
