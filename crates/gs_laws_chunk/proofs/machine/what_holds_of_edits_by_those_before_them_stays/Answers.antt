use Rattle.std.proofs.Common.{◌≡◌, true}
use Rattle.gs_laws_chunk.proofs.lemmas.machine.Owning.{beginnings_own, born_own, masters_own, servers_own}
use Rattle.gs_laws_chunk.proofs.machine.what_holds_of_edits_by_those_before_them_stays.Goals as goal

pub returns-clause-beginnings : goal.returns-clause-beginnings
returns-clause-beginnings c = λ own. beginnings_own (λ before edit. own before edit ≡ true)

pub returns-clause-born : goal.returns-clause-born
returns-clause-born c = λ own b. born_own (λ before edit. own before edit ≡ true) b

pub returns-clause-masters : goal.returns-clause-masters
returns-clause-masters c = λ own w v. masters_own (λ before edit. own before edit ≡ true) w v

pub returns-clause-servers : goal.returns-clause-servers
returns-clause-servers c = λ own w v. servers_own (λ before edit. own before edit ≡ true) w v
