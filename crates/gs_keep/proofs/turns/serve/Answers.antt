use Rattle.std.proofs.Common.{true, false, ◌≡◌, rules, arith}
use Rattle.gs_keep.proofs.Rounds.{so_far_end, so_far_fails, so_far_more, so_far_none, so_far_stops}
use Rattle.gs_keep.proofs.Weaken.{if_some, if_err}
use Rattle.gs_keep.proofs.turns.serve.Goals as goal

pub loop-count-init : goal.loop-count-init
loop-count-init g c = record {
  goes_on = c.requires;
  so_far = so_far_none g.M.Answering.Answers g.M.Keeping.is_kept g.M.Keeping.is_turned_away g.M.Keeping.own (g.R.Read.remaining c.args.reader.now.reader) (g.L.Log.holds c.args.log.now) (g.W.Write.contents c.args.writer.now.writer) c.args.ledger.now c.args.machine.now;
}

pub loop-count-preserved : goal.loop-count-preserved
loop-count-preserved g c =
    let more : c.in_ok-round.field-0 ≡ true = search rules in
    let turn = rw more at c.in_ok-round.ensures.ok in
    record {
      goes_on = c.in_ok-round.ensures.failed;
      so_far = if_some (g.R.Read.remaining c.args.reader.now.reader) _ _ (λ xs so_far. so_far_more g.M.Answering.Answers g.M.Keeping.is_kept g.M.Keeping.is_turned_away g.M.Keeping.own c.loop-count.count xs (g.R.Read.remaining c.loop-count.reader.reader) (g.R.Read.remaining c.round.new.reader.reader)
          (g.L.Log.holds c.args.log.now) (g.L.Log.holds c.loop-count.log) (g.L.Log.holds c.round.new.log)
          (g.W.Write.contents c.args.writer.now.writer) (g.W.Write.contents c.loop-count.writer.writer) (g.W.Write.contents c.round.new.writer.writer) c.args.ledger.now c.loop-count.ledger c.round.new.ledger
          c.args.machine.now c.loop-count.machine c.round.new.machine so_far turn) c.loop-count.invariant.so_far;
    }

pub returns-then-not-branch-clause-ok : goal.returns-then-not-branch-clause-ok
returns-then-not-branch-clause-ok g c =
    let none : c.in_ok-round.field-0 ≡ false = search rules in
    let turn = rw none at c.in_ok-round.ensures.ok in
    if_some (g.R.Read.remaining c.args.reader.now.reader) _ _ (λ xs so_far. so_far_end g.M.Answering.Answers g.M.Keeping.is_kept g.M.Keeping.is_turned_away g.M.Keeping.own c.loop-count.count xs (g.R.Read.remaining c.loop-count.reader.reader) (g.R.Read.remaining c.round.new.reader.reader)
    (g.L.Log.holds c.args.log.now) (g.L.Log.holds c.loop-count.log) (g.L.Log.holds c.round.new.log)
    (g.W.Write.contents c.args.writer.now.writer) (g.W.Write.contents c.loop-count.writer.writer) (g.W.Write.contents c.round.new.writer.writer) c.args.ledger.now c.loop-count.ledger c.round.new.ledger
    c.args.machine.now c.loop-count.machine c.round.new.machine so_far turn) c.loop-count.invariant.so_far

pub returns-in_err-round-clause-err : goal.returns-in_err-round-clause-err
returns-in_err-round-clause-err g c =
    if_err c.from_residual.result c.in_err-round.field-0.0 _ c.from_residual.ensures.1
    (if_some (g.R.Read.remaining c.args.reader.now.reader) _ _ (λ xs so_far. so_far_fails g.M.Answering.Answers g.M.Keeping.is_kept g.M.Keeping.is_turned_away g.M.Keeping.own c.in_err-round.field-0.0 c.loop-count.count xs (g.R.Read.remaining c.loop-count.reader.reader) (g.R.Read.remaining c.round.new.reader.reader)
    (g.L.Log.holds c.args.log.now) (g.L.Log.holds c.loop-count.log) (g.L.Log.holds c.round.new.log)
    (g.W.Write.contents c.args.writer.now.writer) (g.W.Write.contents c.loop-count.writer.writer) (g.W.Write.contents c.round.new.writer.writer) c.args.ledger.now c.loop-count.ledger
    c.args.machine.now c.loop-count.machine c.round.new.machine so_far c.in_err-round.ensures.err) c.loop-count.invariant.so_far)

pub returns-clause-err : goal.returns-clause-err
returns-clause-err g c =
    if_some (g.R.Read.remaining c.args.reader.now.reader) _ _ (λ xs so_far. so_far_stops g.M.Answering.Answers g.M.Keeping.is_kept g.M.Keeping.is_turned_away g.M.Keeping.own c.loop-count.count xs (g.R.Read.remaining c.loop-count.reader.reader)
    (g.L.Log.holds c.args.log.now) (g.L.Log.holds c.loop-count.log) (g.W.Write.contents c.args.writer.now.writer) (g.W.Write.contents c.loop-count.writer.writer) c.args.ledger.now c.loop-count.ledger
    c.args.machine.now c.loop-count.machine (omega arith) so_far) c.loop-count.invariant.so_far
