use Rattle.gs_laws_server.proofs.lemmas.servers.Making.{created_stands, sent_is, arrived_stands, copy_stands, reached_sizes}
use Rattle.gs_laws_server.proofs.lemmas.servers.Sealing.{rolled_stands}
use Rattle.gs_laws_server.proofs.servers.what_is_made_anew_stands_for_what_it_is_made_of.Goals as goal

pub returns-clause-created : goal.returns-clause-created
returns-clause-created c = λ s from handle stamp moment sizes above said. created_stands s from handle stamp moment sizes above said

pub returns-clause-sent : goal.returns-clause-sent
returns-clause-sent c = λ s from handle stamp target with_sealed moment edits stands told said. sent_is s from handle stamp target with_sealed moment edits stands told said

pub returns-clause-taken : goal.returns-clause-taken
returns-clause-taken c = λ s from handle stamp image sealed moment edits sizes of above said. arrived_stands s from handle stamp image sealed moment edits sizes of above said

pub returns-clause-copied : goal.returns-clause-copied
returns-clause-copied c = λ s handle at new_handle stamp moment edits stands above said. copy_stands s handle at new_handle stamp moment edits stands above said

pub returns-clause-rolled_back : goal.returns-clause-rolled_back
returns-clause-rolled_back c = λ handle s edits stood live. rolled_stands s.block s.chunk handle s edits stood live

pub returns-clause-sizes : goal.returns-clause-sizes
returns-clause-sizes c = λ s reached. reached_sizes s reached
