use Rattle.std.proofs.Common.{arith, refl}
use Rattle.gs_keep.proofs.Replaying.{replay_fails, replay_stops, replays_all, replays_line, replays_mark, replays_none}
use Rattle.gs_keep.proofs.Weaken.{if_err, if_some}
use Rattle.gs_keep.proofs.again.replay.Goals.{in-Line, in-Mark}
use Rattle.gs_keep.proofs.again.replay.Goals as goal

pub loop-number-init : goal.loop-number-init
loop-number-init g c = record {
  sum = refl;
  so_far = replays_none g.M.Answering.Answers g.M.Keeping.is_kept (g.B.Read.remaining c.args.logged.now.reader) c.args.ledger.now c.args.machine.now;
}

pub loop-number-preserved : goal.loop-number-preserved
loop-number-preserved g c = elim c.match-branch-2.branch [
  | in-Line w ↦ rw w.lines-is (rw w.marks-is (rw w.is_open-is (record {
    sum = omega (arith, c.loop-number.invariant.sum);
    so_far = if_some (g.B.Read.remaining c.args.logged.now.reader) _ _ (λ xs so_far. replays_line g.M.Answering.Answers g.M.Keeping.is_kept c.loop-number.number c.loop-number.lines c.loop-number.is_open xs
        (g.B.Read.remaining c.loop-number.logged.reader) (g.B.Read.remaining c.replay_one.new.logged.reader) c.args.ledger.now c.loop-number.ledger c.replay_one.new.ledger c.args.machine.now c.loop-number.machine c.replay_one.new.machine
        so_far (rw w.in-Line.is at c.in_ok-replay_one.ensures.ok)) c.loop-number.invariant.so_far;
  })))
  | in-Mark w ↦ rw w.lines-is (rw w.marks-is (rw w.is_open-is (record {
    sum = omega (arith, c.loop-number.invariant.sum);
    so_far = if_some (g.B.Read.remaining c.args.logged.now.reader) _ _ (λ xs so_far. replays_mark g.M.Answering.Answers g.M.Keeping.is_kept c.loop-number.number c.loop-number.lines c.loop-number.is_open xs
        (g.B.Read.remaining c.loop-number.logged.reader) (g.B.Read.remaining c.replay_one.new.logged.reader) c.args.ledger.now c.loop-number.ledger c.replay_one.new.ledger c.args.machine.now c.loop-number.machine c.replay_one.new.machine
        so_far (rw w.in-Mark.is at c.in_ok-replay_one.ensures.ok)) c.loop-number.invariant.so_far;
  })))
]

pub returns-in-End-clause-ok : goal.returns-in-End-clause-ok
returns-in-End-clause-ok g c =
    if_some (g.B.Read.remaining c.args.logged.now.reader) _ _ (λ xs so_far. replays_all g.M.Answering.Answers g.M.Keeping.is_kept c.loop-number.number c.loop-number.lines c.loop-number.marks c.loop-number.is_open xs
    (g.B.Read.remaining c.loop-number.logged.reader) (g.B.Read.remaining c.replay_one.new.logged.reader) c.args.ledger.now c.loop-number.ledger c.replay_one.new.ledger c.args.machine.now c.loop-number.machine c.replay_one.new.machine
    c.loop-number.invariant.sum so_far (rw c.in-End.is at c.in_ok-replay_one.ensures.ok)) c.loop-number.invariant.so_far

pub returns-in_err-replay_one-clause-err : goal.returns-in_err-replay_one-clause-err
returns-in_err-replay_one-clause-err g c =
    if_err c.from_residual.result c.in_err-replay_one.field-0.0 _ c.from_residual.ensures.1
    (if_some (g.B.Read.remaining c.args.logged.now.reader) _ _ (λ xs so_far. replay_fails g.M.Answering.Answers g.M.Keeping.is_kept c.in_err-replay_one.field-0.0 c.loop-number.number c.loop-number.lines c.loop-number.is_open xs
    (g.B.Read.remaining c.loop-number.logged.reader) c.args.ledger.now c.loop-number.ledger c.args.machine.now c.loop-number.machine so_far c.in_err-replay_one.ensures.err) c.loop-number.invariant.so_far)

pub returns-clause-err : goal.returns-clause-err
returns-clause-err g c =
    if_some (g.B.Read.remaining c.args.logged.now.reader) _ _ (λ xs so_far. replay_stops g.M.Answering.Answers g.M.Keeping.is_kept c.loop-number.number c.loop-number.lines c.loop-number.is_open xs
    (g.B.Read.remaining c.loop-number.logged.reader) c.args.ledger.now c.loop-number.ledger c.args.machine.now c.loop-number.machine (omega arith) so_far) c.loop-number.invariant.so_far
