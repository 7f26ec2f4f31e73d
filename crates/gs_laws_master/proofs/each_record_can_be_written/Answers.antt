use Rattle.gs_laws_master.proofs.lemmas.telling.Writing.{all_steps_written, events_written, messages_written, runs_written, starts_steady, steps_written}
use Rattle.gs_laws_master.proofs.lemmas.telling.WritingCheckpoints.{checkpoints_written}
use Rattle.gs_laws_master.proofs.lemmas.telling.WritingPlaces.{all_steps_written_at_places, events_written_at_places}
use Rattle.gs_laws_master.proofs.each_record_can_be_written.Goals as goal

pub returns : goal.returns
returns c = record { start = starts_steady; messages = messages_written; steps = steps_written; ticks = all_steps_written; checkpoints = checkpoints_written; events = events_written; places = events_written_at_places; step_places = all_steps_written_at_places; runs = runs_written }
