use Rattle.gs_laws_chunk.proofs.lemmas.machine.Rolling.{learners_are_intact, rolled_are_first, rolled_are_held, survivors_are_back}
use Rattle.gs_laws_chunk.proofs.machine.what_is_rolled_back_stays.Goals as goal

pub returns-clause-first : goal.returns-clause-first
returns-clause-first c = λ w r. rolled_are_first w r

pub returns-clause-held : goal.returns-clause-held
returns-clause-held c = λ w last r leads. rolled_are_held w last r leads

pub returns-clause-back : goal.returns-clause-back
returns-clause-back c = λ w last r leads. survivors_are_back w last r leads

pub returns-clause-intact : goal.returns-clause-intact
returns-clause-intact c = λ w. learners_are_intact w
