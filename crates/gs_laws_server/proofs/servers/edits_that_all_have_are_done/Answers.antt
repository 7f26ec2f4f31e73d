use Rattle.std.proofs.Common.{◌+◌}
use Rattle.gs_laws_server.proofs.lemmas.servers.Telling.{ack_tells, edit_tells, alone_told, repeat_tells, other_acks}
use Rattle.gs_laws_server.proofs.servers.edits_that_all_have_are_done.Goals as goal

pub returns-clause-later : goal.returns-clause-later
returns-clause-later c = λ h p server stamp count l number edit held same waiting told. ack_tells h p server stamp count l number edit held same waiting told

pub returns-clause-at_once : goal.returns-clause-at_once
returns-clause-at_once c = λ h p req stamp op live l s lives held becomes told. edit_tells h p req stamp op live l s lives held becomes told

pub returns-clause-alone : goal.returns-clause-alone
returns-clause-alone c = λ h p req stamp op live l s lives held becomes alone below. edit_tells h p req stamp op live l s lives held becomes (alone_told h.me (live.replica.held.count + 1) l alone below)

pub returns-clause-repeat : goal.returns-clause-repeat
returns-clause-repeat c = λ h p req stamp op last found same known. repeat_tells h p req stamp op last found same known

pub returns-clause-other : goal.returns-clause-other
returns-clause-other c = λ h p server stamp count apart. other_acks h p server stamp count apart
