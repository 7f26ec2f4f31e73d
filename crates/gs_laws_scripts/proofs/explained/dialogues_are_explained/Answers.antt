use Rattle.gs_laws_scripts.proofs.lemmas.explained.Ends.{reads_are_explained}
use Rattle.gs_laws_scripts.proofs.lemmas.explained.Digests.{digests_are_explained}
use Rattle.gs_laws_scripts.proofs.lemmas.explained.Dialogues.{appends_are_explained, writes_are_explained}
use Rattle.gs_laws_scripts.proofs.lemmas.explained.Statuses.{stats_are_explained}
use Rattle.gs_laws_scripts.proofs.explained.dialogues_are_explained.Goals as goal

pub returns-clause-writes : goal.returns-clause-writes
returns-clause-writes c = writes_are_explained

pub returns-clause-appends : goal.returns-clause-appends
returns-clause-appends c = appends_are_explained

pub returns-clause-stats : goal.returns-clause-stats
returns-clause-stats c = stats_are_explained

pub returns-clause-reads : goal.returns-clause-reads
returns-clause-reads c = reads_are_explained

pub returns-clause-digests : goal.returns-clause-digests
returns-clause-digests c = digests_are_explained
