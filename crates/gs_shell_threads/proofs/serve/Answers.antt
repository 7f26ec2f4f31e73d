use Rattle.std.proofs.Common.{inl, refl}
use Rattle.gs_shell_threads.proofs.Served.{breaks_off, not_ended, serves}
use Rattle.gs_shell_threads.proofs.serve.Goals as goal

pub returns-in-Ok-finish-clause-ok : goal.returns-in-Ok-finish-clause-ok
returns-in-Ok-finish-clause-ok g c =
    serves g.D.Disk.seen g.D.Disk.failures g.N.Plan.setting c.in-Ok.started.1.items c.pop.new.self.items c.push_reserved.new.self.items c.in-Some.link c.run-result.new.machine
    c.new-caller.result c.args.opened.config c.in-Some.ensures.items c.in-Ok.ensures.clients c.in-Ok.ensures.moments c.requires.one c.requires.config c.new-caller.ensures
    c.push_reserved.ensures.items c.in-Ok-finish.field-0 c.in-Ok-finish.ensures.1 c.run-result.result (g.R.Read.remaining c.args.reader.now) _ _ c.run-result.ensures.ok

pub returns-in-Ok-finish-clause-err : goal.returns-in-Ok-finish-clause-err
returns-in-Ok-finish-clause-err g c =
    breaks_off g.D.Disk.seen g.D.Disk.failures g.N.Plan.setting c.in-Ok.started.1.items c.pop.new.self.items c.push_reserved.new.self.items c.in-Some.link c.run-result.new.machine
    c.new-caller.result c.args.opened.config c.in-Some.ensures.items c.in-Ok.ensures.clients c.in-Ok.ensures.moments c.requires.one c.requires.config c.new-caller.ensures
    c.push_reserved.ensures.items _ c.in-Ok-finish.field-0 c.in-Ok-finish.ensures.1 c.run-result.result (g.R.Read.remaining c.args.reader.now) _ _ _ c.run-result.ensures.err

pub returns-clause-err : goal.returns-clause-err
returns-clause-err g c =
    not_ended g.D.Disk.seen g.D.Disk.failures g.N.Plan.setting c.in-Ok.started.1.items c.pop.new.self.items c.push_reserved.new.self.items c.in-Some.link c.run-result.new.machine
    c.new-caller.result c.args.opened.config c.in-Some.ensures.items c.in-Ok.ensures.clients c.in-Ok.ensures.moments c.requires.one c.requires.config c.new-caller.ensures
    c.push_reserved.ensures.items _ c.in-Err-finish.refusal c.in-Err-finish.ensures c.run-result.result (g.R.Read.remaining c.args.reader.now) _ _ _ c.run-result.ensures.ok c.run-result.ensures.err

pub returns-in-Err-clause-err : goal.returns-in-Err-clause-err
returns-in-Err-clause-err g c = inl (record { why = refl; unread = refl; unwritten = refl })
