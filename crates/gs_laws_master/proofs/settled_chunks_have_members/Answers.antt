use Rattle.gs_laws_master.proofs.lemmas.keeping.Membered.{events_keep_members, events_keep_members_at_places, records_keep_members, runs_have_members, settled_have_members, steps_keep_members_at_places, tells_members}
use Rattle.gs_laws_master.proofs.settled_chunks_have_members.Goals as goal

pub returns : goal.returns
returns c = record {
  settled = settled_have_members;
  records = records_keep_members;
  checkpoints = tells_members;
  events = events_keep_members;
  places = events_keep_members_at_places;
  step_places = steps_keep_members_at_places;
  runs = runs_have_members;
}
