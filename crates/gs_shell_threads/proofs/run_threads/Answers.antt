use Rattle.std.proofs.Common.{[], IfErr, inl, refl, subst}
use Rattle.std.specs.declared.marker.Brand.{Brand}
use Rattle.gs_base.specs.declared.config.Config.{Config}
use Rattle.gs_cluster_history.specs.Setting.{Setting}
use Rattle.gs_journal.specs.Memory.{bytes_of, times_failed}
use Rattle.gs_nodes.specs.NewDisks.{OverEmpty}
use Rattle.gs_shell_script.specs.declared.RunFault.{RunFault}
use Rattle.gs_shell_threads.specs.Serving.{ServeFails, WhyNoStore}
use Rattle.gs_shell_threads.proofs.Served.{fails_over, no_store}
use Rattle.gs_shell_threads.proofs.run_threads.Goals as goal

pub returns-in-Err-clause-err : goal.returns-in-Err-clause-err
returns-in-Err-clause-err g c =
    let disks = c.empty_disks-disks.result in
    (disks, c.empty_disks-disks.ensures, inl (record { why = no_store bytes_of times_failed c.args.config disks c.in-Err.unopened c.in-Err.ensures.refused; unread = refl; unwritten = refl }))

abbrev setting : Config → Setting
setting config = record { config = config; clients = 1; texts = ([], []) }

pub returns-clause-err : goal.returns-clause-err
returns-clause-err g c =
    let before = g.R.Read.remaining c.args.reader.now in
    let unread = g.R.Read.remaining c.serve.new.reader in
    let old = g.W.Write.contents c.args.writer.now in
    let new = g.W.Write.contents c.serve.new.writer in
    subst (λ (k : Config). IfErr c.serve.result (λ (e : RunFault). OverEmpty (λ d. ServeFails Brand g.row.T.Denot bytes_of times_failed (setting k) (WhyNoStore bytes_of times_failed k d) e before unread old new)))
    c.in-Ok.ensures.config
    (fails_over Brand g.row.T.Denot (setting c.in-Ok.opened.config) c.empty_disks-disks.result c.empty_disks-disks.ensures c.serve.result before unread old new c.serve.ensures.err)
