use Rattle.gs_laws_moves.proofs.lemmas.answers.Changes.{changes_are_made, changes_are_not_old, changes_at_once, refused_changes_leave}
use Rattle.gs_laws_moves.proofs.answers.changes_are_answered_at_once_and_had.Goals as goal

pub returns-clause-at_once : goal.returns-clause-at_once
returns-clause-at_once c = changes_at_once

pub returns-clause-made : goal.returns-clause-made
returns-clause-made c = changes_are_made

pub returns-clause-refused : goal.returns-clause-refused
returns-clause-refused c = refused_changes_leave

pub returns-clause-new : goal.returns-clause-new
returns-clause-new c = changes_are_not_old
