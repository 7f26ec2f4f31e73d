use Rattle.std.proofs.Common.{false, refl}
use Rattle.gs_journal.proofs.Views.{stands, left_behind}
use Rattle.gs_journal.proofs.journal.Journal.open.Goals as goal

pub returns-in-Ok-clause-stands : goal.returns-in-Ok-clause-stands
returns-in-Ok-clause-stands g c =
    let d = g.D.Disk in let e = c.in-Ok.ensures in let p = c.in-Ok.place in
    stands d.seen d.may_leave (record { first = c.start.new.first; second = c.start.new.second; is_second = p.is_second; version = p.version; generation = p.generation; end = p.end }) c.args.limit false refl
    (record {
      counts = e.ready.counts;
      begun = e.ready.begun;
      rest = e.ready.rest;
      version = e.ready.version;
      generation = e.ready.generation;
      first = e.durable_first;
      second = e.durable_second;
    })

pub returns-in-Err-clause-lasts : goal.returns-in-Err-clause-lasts
returns-in-Err-clause-lasts g c =
    let d = g.D.Disk in left_behind d.seen d.may_leave d.moment d.left_since _ _ _ _ _ g.met.D.Disk.counts_now c.start.ensures.any_moment
