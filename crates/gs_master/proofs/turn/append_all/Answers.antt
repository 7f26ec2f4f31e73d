use Rattle.std.proofs.Common.{rules}
use Rattle.gs_journal.specs.Journal.{IsWithOrWithout}
use Rattle.gs_journal.specs.Records.{standing}
use Rattle.gs_master.proofs.Appending.{breaks, gains_one, none_there, seen_behind}
use Rattle.gs_master.proofs.turn.append_all.Goals as goal

pub returns-in-Err-clause-cut : goal.returns-in-Err-clause-cut
returns-in-Err-clause-cut g c = λ ready below.
    let d = g.D.Disk in
    breaks d.seen d.may_leave d.failures c.args.journal.now c.loop-place.journal c.append.new.self c.args.records.now c.loop-place.place c.index-records-place.result c.in-Err.field-0 below c.index-records-place.is ready
    (c.loop-place.invariant.0 ready) c.in-Err.ensures.failed c.append.ensures.either
    (seen_behind d.seen d.may_leave d.moment d.left_since c.loop-place.journal c.append.new.self (λ a b. IsWithOrWithout c.loop-place.journal.text c.index-records-place.result (standing a b)) g.met.D.Disk.shows g.met.D.Disk.counts_now
    (c.append.ensures.any_moment (c.loop-place.invariant.0 ready).is_open))

pub returns-in-Err-clause-none : goal.returns-in-Err-clause-none
returns-in-Err-clause-none g c = λ none. absurd (none_there c.args.records.now c.loop-place.place none (search rules))

pub loop-place-preserved : goal.loop-place-preserved
loop-place-preserved g c = (
  λ ready.
      let d = g.D.Disk in
      gains_one d.seen d.may_leave d.failures c.args.journal.now c.loop-place.journal c.append.new.self c.args.records.now c.loop-place.place c.index-records-place.result (search rules) c.index-records-place.is
      (c.loop-place.invariant.0 ready) c.in-Ok.ensures.added c.in-Ok.ensures.stands c.in-Ok.ensures.quiet,
  λ none. absurd (none_there c.args.records.now c.loop-place.place none (search rules)),
)
