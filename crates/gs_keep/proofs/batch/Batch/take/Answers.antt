use Rattle.std.proofs.Common.{◌+◌, IfSome, subst, rules, arith}
use Rattle.std.specs.Io.BufRead.{take_through}
use Rattle.gs_shell_line.specs.Ended.{IsEndedLine}
use Rattle.gs_shell_line.specs.declared.ended.EndedLine.{EndedLine}
use Rattle.gs_keep.proofs.Running.{gathered_all, gathered_failed, gathered_full, gathered_some, gathered_unended, runs_more}
use Rattle.gs_keep.proofs.Weaken.{if_some}
use Rattle.gs_keep.proofs.batch.Batch.take.Goals as goal

pub returns-then-is_full-clause-gathers : goal.returns-then-is_full-clause-gathers
returns-then-is_full-clause-gathers g c =
    if_some (g.R.Read.remaining c.args.reader.now.reader) _ _ (λ xs so_far. gathered_full g.M.Answering.Answers g.M.Keeping.is_kept g.M.Keeping.is_turned_away g.M.Keeping.own c.loop-count.count xs (g.R.Read.remaining c.loop-count.reader.reader)
    c.args.machine.now c.loop-count.machine c.loop-count.self.bytes.items c.loop-count.self.answers.items c.args.ledger.now c.loop-count.ledger so_far (search rules)) c.loop-count.invariant

pub returns-in_default-clause-gathers : goal.returns-in_default-clause-gathers
returns-in_default-clause-gathers g c =
    if_some (g.R.Read.remaining c.args.reader.now.reader) _ _ (λ xs so_far. gathered_failed g.M.Answering.Answers g.M.Keeping.is_kept g.M.Keeping.is_turned_away g.M.Keeping.own c.loop-count.count xs (g.R.Read.remaining c.loop-count.reader.reader)
    (g.R.Read.remaining c.next.new.self.reader) c.args.machine.now c.loop-count.machine c.loop-count.self.bytes.items c.loop-count.self.answers.items c.args.ledger.now c.loop-count.ledger so_far
    c.in_default.ensures.err) c.loop-count.invariant

pub returns-in-End-clause-gathers : goal.returns-in-End-clause-gathers
returns-in-End-clause-gathers g c =
    let next = subst (λ (l : EndedLine). IfSome (g.R.Read.remaining c.loop-count.reader.reader) (λ xs. IsEndedLine (take_through 10 xs) l)) c.in-End.is c.in-Ok.ensures.line in
    if_some (g.R.Read.remaining c.args.reader.now.reader) _ _ (λ xs so_far. gathered_all g.M.Answering.Answers g.M.Keeping.is_kept g.M.Keeping.is_turned_away g.M.Keeping.own c.loop-count.count xs (g.R.Read.remaining c.loop-count.reader.reader)
    (g.R.Read.remaining c.next.new.self.reader) c.args.machine.now c.loop-count.machine c.loop-count.self.bytes.items c.loop-count.self.answers.items c.args.ledger.now c.loop-count.ledger so_far
    next c.in-Ok.ensures.rest) c.loop-count.invariant

pub returns-in-Unended-clause-gathers : goal.returns-in-Unended-clause-gathers
returns-in-Unended-clause-gathers g c =
    let next = subst (λ (l : EndedLine). IfSome (g.R.Read.remaining c.loop-count.reader.reader) (λ xs. IsEndedLine (take_through 10 xs) l)) c.in-Unended.is c.in-Ok.ensures.line in
    if_some (g.R.Read.remaining c.args.reader.now.reader) _ _ (λ xs so_far. gathered_unended g.M.Answering.Answers g.M.Keeping.is_kept g.M.Keeping.is_turned_away g.M.Keeping.own c.loop-count.count xs (g.R.Read.remaining c.loop-count.reader.reader)
    (g.R.Read.remaining c.next.new.self.reader) c.args.machine.now c.loop-count.machine c.loop-count.self.bytes.items c.loop-count.self.answers.items c.args.ledger.now c.loop-count.ledger so_far
    next c.in-Ok.ensures.rest) c.loop-count.invariant

pub returns-then-not-takes_more : goal.returns-then-not-takes_more
returns-then-not-takes_more g c =
    record {
      gathers = if_some (g.R.Read.remaining c.args.reader.now.reader) _ _ (λ xs so_far. gathered_some g.M.Answering.Answers g.M.Keeping.is_kept g.M.Keeping.is_turned_away g.M.Keeping.own (c.loop-count.count + 1) xs (g.R.Read.remaining c.next.new.self.reader)
          c.args.machine.now c.run_line.new.machine c.run_line.new.batch.bytes.items c.run_line.new.batch.answers.items c.args.ledger.now c.run_line.new.ledger
          (runs_more g.M.Answering.Answers g.M.Keeping.is_kept g.M.Keeping.is_turned_away g.M.Keeping.own (g.met.M.Keeping.marks_are_none) c.loop-count.count c.in-Ok.next.line xs (g.R.Read.remaining c.loop-count.reader.reader) (g.R.Read.remaining c.next.new.self.reader)
          c.args.machine.now c.loop-count.machine c.run_line.new.machine c.loop-count.self.bytes.items c.run_line.new.batch.bytes.items c.loop-count.self.answers.items c.run_line.new.batch.answers.items
          c.args.ledger.now c.loop-count.ledger c.run_line.new.ledger so_far c.in_default-line.not-End c.in-Ok.ensures.line c.in-Ok.ensures.rest c.in_ok-run_line-in_default-line.ensures) (omega arith)) c.loop-count.invariant;
      unread = search rules;
    }

pub loop-count-preserved : goal.loop-count-preserved
loop-count-preserved g c =
    if_some (g.R.Read.remaining c.args.reader.now.reader) _ _ (λ xs so_far.
    runs_more g.M.Answering.Answers g.M.Keeping.is_kept g.M.Keeping.is_turned_away g.M.Keeping.own (g.met.M.Keeping.marks_are_none) c.loop-count.count c.in-Ok.next.line xs (g.R.Read.remaining c.loop-count.reader.reader) (g.R.Read.remaining c.next.new.self.reader)
    c.args.machine.now c.loop-count.machine c.run_line.new.machine c.loop-count.self.bytes.items c.run_line.new.batch.bytes.items c.loop-count.self.answers.items c.run_line.new.batch.answers.items
    c.args.ledger.now c.loop-count.ledger c.run_line.new.ledger so_far c.in_default-line.not-End c.in-Ok.ensures.line c.in-Ok.ensures.rest c.in_ok-run_line-in_default-line.ensures) c.loop-count.invariant

pub returns-clause-gathers : goal.returns-clause-gathers
returns-clause-gathers g c =
    if_some (g.R.Read.remaining c.args.reader.now.reader) _ _ (λ xs so_far. gathered_some g.M.Answering.Answers g.M.Keeping.is_kept g.M.Keeping.is_turned_away g.M.Keeping.own c.loop-count.count xs (g.R.Read.remaining c.loop-count.reader.reader)
    c.args.machine.now c.loop-count.machine c.loop-count.self.bytes.items c.loop-count.self.answers.items c.args.ledger.now c.loop-count.ledger so_far (omega arith)) c.loop-count.invariant
