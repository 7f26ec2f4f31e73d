use Rattle.gs_laws_scripts.proofs.lemmas.explained.Back as back
use Rattle.gs_laws_scripts.proofs.explained.looks_come_back.Goals as goal

pub returns : goal.returns
returns c = back.looks_come_back
