use Rattle.gs_laws_master.proofs.lemmas.fitting.Answering.{all_messages_fit, steps_at_ticks_fit}
use Rattle.gs_laws_master.proofs.each_message_fits.Goals as goal

pub returns : goal.returns
returns c = record { messages = all_messages_fit; ticks = steps_at_ticks_fit }
