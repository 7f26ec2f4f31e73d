use Rattle.gs_laws_chunks.proofs.lemmas.accounts.Outcomes.{edits_come_to}
use Rattle.gs_laws_chunks.proofs.accounts.an_edit_comes_to_what_was_asked_for.Goals as goal

pub returns : goal.returns
returns c = edits_come_to
