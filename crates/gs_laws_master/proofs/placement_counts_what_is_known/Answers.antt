use Rattle.gs_laws_master.proofs.lemmas.views.Counting.{counts_known, counts_views, new_or_out}
use Rattle.gs_laws_master.proofs.placement_counts_what_is_known.Goals as goal

pub returns : goal.returns
returns c = record { either = new_or_out; counted = counts_known; views = counts_views }
