use Rattle.gs_laws_chunks.proofs.lemmas.answers.Changed.{changes_are_never_old, changes_leave_still, changes_stay_calm, changes_stay_under_way, refused_changes_leave_still}
use Rattle.gs_laws_chunks.proofs.answers.a_change_of_the_tree_leaves_a_store_still.Goals as goal

pub returns-clause-under_way : goal.returns-clause-under_way
returns-clause-under_way g c = changes_stay_under_way

pub returns-clause-answered : goal.returns-clause-answered
returns-clause-answered g c = changes_leave_still

pub returns-clause-refused : goal.returns-clause-refused
returns-clause-refused g c = refused_changes_leave_still

pub returns-clause-calm : goal.returns-clause-calm
returns-clause-calm g c = changes_stay_calm

pub returns-clause-new : goal.returns-clause-new
returns-clause-new g c = changes_are_never_old
