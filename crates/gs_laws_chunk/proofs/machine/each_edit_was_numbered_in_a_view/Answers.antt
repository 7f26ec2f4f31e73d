use Rattle.gs_laws_chunk.proofs.lemmas.machine.Numbering.{born_numbered, masters_numbered, servers_numbered, stays_behind}
use Rattle.gs_laws_chunk.proofs.machine.each_edit_was_numbered_in_a_view.Goals as goal

pub returns-clause-born : goal.returns-clause-born
returns-clause-born c = λ under b. born_numbered under b

pub returns-clause-masters : goal.returns-clause-masters
returns-clause-masters c = λ under origin w v. masters_numbered under origin w v

pub returns-clause-servers : goal.returns-clause-servers
returns-clause-servers c = λ under origin w v. servers_numbered under origin w v

pub returns-clause-behind : goal.returns-clause-behind
returns-clause-behind c = λ w v. stays_behind w v
