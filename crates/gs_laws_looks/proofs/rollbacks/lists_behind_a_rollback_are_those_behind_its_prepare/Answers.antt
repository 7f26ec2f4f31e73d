use Rattle.gs_laws_looks.proofs.lemmas.rollbacks.Lists.{lists_are_of_names, lists_go_back}
use Rattle.gs_laws_looks.proofs.rollbacks.lists_behind_a_rollback_are_those_behind_its_prepare.Goals as goal

pub returns-clause-names : goal.returns-clause-names
returns-clause-names g c x = lists_are_of_names x

pub returns-clause-back : goal.returns-clause-back
returns-clause-back g c x = lists_go_back x (c.an_accepted_rollback_gives_the_names_back.ensures.accounts x)
