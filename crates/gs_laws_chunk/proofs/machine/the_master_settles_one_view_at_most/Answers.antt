use Rattle.gs_laws_chunk.proofs.lemmas.machine.Committed.{masters_commit, masters_prepare, masters_stay_calm, members_stood}
use Rattle.gs_laws_chunk.proofs.lemmas.machine.Knowing.{masters_forget, masters_keep_prepared, masters_people}
use Rattle.gs_laws_chunk.proofs.lemmas.machine.Mastering.{masters_settle_once}
use Rattle.gs_laws_chunk.proofs.machine.the_master_settles_one_view_at_most.Goals as goal

pub returns-clause-once : goal.returns-clause-once
returns-clause-once c = masters_settle_once

pub returns-clause-forgets : goal.returns-clause-forgets
returns-clause-forgets c = masters_forget

pub returns-clause-people : goal.returns-clause-people
returns-clause-people c = masters_people

pub returns-clause-prepared : goal.returns-clause-prepared
returns-clause-prepared c = masters_keep_prepared

pub returns-clause-calm : goal.returns-clause-calm
returns-clause-calm c = masters_stay_calm

pub returns-clause-commits : goal.returns-clause-commits
returns-clause-commits c = masters_commit

pub returns-clause-prepares : goal.returns-clause-prepares
returns-clause-prepares c = masters_prepare

pub returns-clause-stood : goal.returns-clause-stood
returns-clause-stood c = members_stood
