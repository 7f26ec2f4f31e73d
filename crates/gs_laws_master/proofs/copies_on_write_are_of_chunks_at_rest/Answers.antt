use Rattle.gs_laws_master.proofs.lemmas.copies.CopyingTurns.{copies_at_rest, steps_copy_at_rest}
use Rattle.gs_laws_master.proofs.copies_on_write_are_of_chunks_at_rest.Goals as goal

pub returns : goal.returns
returns c = record { messages = copies_at_rest; steps = steps_copy_at_rest }
