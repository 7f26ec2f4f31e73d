use Rattle.gs_keep.proofs.Own.{gathers}
use Rattle.gs_keep.proofs.Weaken.{if_some}
use Rattle.gs_keep.proofs.batch.Batch.gather.Goals as goal

pub returns-clause-gathers : goal.returns-clause-gathers
returns-clause-gathers g c =
    if_some (g.R.Read.remaining c.args.reader.now.reader) _ _ (λ xs takes. gathers g.M.Answering.Answers g.M.Keeping.is_kept g.M.Keeping.is_turned_away g.M.Keeping.own c.in_ok-gathered.gathered xs (g.R.Read.remaining c.take.new.reader.reader)
    c.args.machine.now c.take.new.machine c.run_due.new.machine c.take.new.self.bytes.items c.run_due.new.bytes.items c.take.new.self.answers.items c.args.ledger.now c.take.new.ledger c.run_due.new.ledger takes
    c.in_ok-run_due.ensures) c.in_ok-gathered.ensures.gathers
