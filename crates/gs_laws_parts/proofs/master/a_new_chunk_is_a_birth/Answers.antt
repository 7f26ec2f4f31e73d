use Rattle.gs_laws_parts.proofs.lemmas.master.Bearing.{copies_are_births, makes_are_births, proposals_are_births}
use Rattle.gs_laws_parts.proofs.master.a_new_chunk_is_a_birth.Goals as goal

pub returns : goal.returns
returns c = record { makes = makes_are_births; copies = copies_are_births; proposals = proposals_are_births }
