use Rattle.gs_laws_master.proofs.lemmas.restarts.Reached.{disks_hold, disks_hold_at_places, disks_hold_at_step_places, runs_recover_from_last, same_from_last}
use Rattle.gs_laws_master.proofs.a_restart_reads_the_last_checkpoint.Goals as goal

pub returns : goal.returns
returns c = record { alike = same_from_last; runs = runs_recover_from_last; disks = disks_hold; places = disks_hold_at_places; step_places = disks_hold_at_step_places }
