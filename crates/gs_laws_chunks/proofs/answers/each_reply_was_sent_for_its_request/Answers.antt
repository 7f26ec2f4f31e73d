use Rattle.gs_laws_chunks.proofs.lemmas.answers.Replied.{begins_replied, run_replied}
use Rattle.gs_laws_chunks.proofs.answers.each_reply_was_sent_for_its_request.Goals as goal

pub returns-clause-begun : goal.returns-clause-begun
returns-clause-begun g c seen failures armed = begins_replied seen failures armed

pub returns-clause-kept : goal.returns-clause-kept
returns-clause-kept g c seen failures armed = run_replied seen failures armed
