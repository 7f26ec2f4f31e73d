use Rattle.gs_master.proofs.Leading.{Enter, entered_keeps, is_entered}
use Rattle.gs_master.proofs.event.Event.enter.Goals as goal

step : (c : goal.After-keep) → Enter c.args.self.now c.make.new.self c.keep.new.self c.args.entry c.in_ok-bytes.bytes
step c =
    let kept = c.keep.ensures in
    let lists = c.make.ensures.lists in record {
      made = c.in_ok-bytes.ensures.made;
      second = c.make.ensures.others;
      entries = lists.0;
      written = lists.1;
      third = kept.others;
      more = kept.entries;
      behind = kept.written;
      log = kept.log;
    }

pub returns-clause-entered : goal.returns-clause-entered
returns-clause-entered c = is_entered c.args.self.now c.make.new.self c.keep.new.self c.args.entry c.in_ok-bytes.bytes (step c)

pub returns-clause-back : goal.returns-clause-back
returns-clause-back c = entered_keeps c.args.self.now c.make.new.self c.keep.new.self c.args.entry c.in_ok-bytes.bytes (step c) c.make.ensures.back c.make.ensures.leases
