use Rattle.gs_journal.proofs.Behind.{behind_a_reading}
use Rattle.gs_journal.proofs.promises.a_checkpoint_behind_a_reading_is_whole.Goals as goal

pub returns : goal.returns
returns g c old mid new made reads other renews counting =
    let d = g.D.Disk in behind_a_reading d.seen d.may_leave d.moment d.left_since g.met.D.Disk.shows g.met.D.Disk.counts_now old mid new made reads renews other counting
