use Rattle.gs_laws_looks.proofs.lemmas.fetching.Fetched.{parts_are_given}
use Rattle.gs_laws_looks.proofs.fetching.a_part_is_given_for_its_request.Goals as goal

pub returns : goal.returns
returns g c = λ x. parts_are_given c.configurations_have_sizes.ensures x (c.reads_are_legal.ensures.fetched x)
