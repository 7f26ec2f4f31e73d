use Rattle.gs_client.proofs.Parts.{parts_joined, part_begins}
use Rattle.gs_client.proofs.promises.the_parts_of_a_write_are_its_bytes.Goals as goal

pub returns-clause-joined : goal.returns-clause-joined
returns-clause-joined c = parts_joined

pub returns-clause-begins : goal.returns-clause-begins
returns-clause-begins c = part_begins
