use Rattle.gs_shell.proofs.run_telling.Goals as goal

pub returns : goal.returns
returns g c = (c.empty_disks-disks.result, c.empty_disks-disks.ensures, c.run_over.ensures)
