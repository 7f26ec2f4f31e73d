use Rattle.gs_laws_server.proofs.lemmas.refusals.Refused.{over_change_nothing, over_not_numbered, over_stay, refused_are_never_numbered, refused_are_not_numbered, refused_are_over}
use Rattle.gs_laws_server.proofs.refusals.a_refused_edit_is_never_numbered.Goals as goal

pub returns-clause-over : goal.returns-clause-over
returns-clause-over c = refused_are_over

pub returns-clause-stay : goal.returns-clause-stay
returns-clause-stay c = over_stay

pub returns-clause-unchanged : goal.returns-clause-unchanged
returns-clause-unchanged c = over_change_nothing

pub returns-clause-later : goal.returns-clause-later
returns-clause-later c = refused_are_not_numbered

pub returns-clause-never : goal.returns-clause-never
returns-clause-never c = refused_are_never_numbered

pub returns-clause-unnumbered : goal.returns-clause-unnumbered
returns-clause-unnumbered c = over_not_numbered
