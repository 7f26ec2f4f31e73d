use Rattle.std.proofs.Common.{◌≡◌, true, false, None, inl, inr, rules, arith}
use Rattle.gs_keep_mark.specs.Ledgers.{is_full}
use Rattle.gs_keep.proofs.Own.{own_ends, own_more, own_none}
use Rattle.gs_keep.proofs.batch.run_due.Goals as goal

pub loop-count-init : goal.loop-count-init
loop-count-init g c = own_none g.M.Answering.Answers g.M.Keeping.is_kept g.M.Keeping.is_turned_away g.M.Keeping.own c.args.machine.now c.args.bytes.now.items c.args.ledger.now

pub loop-count-preserved : goal.loop-count-preserved
loop-count-preserved g c =
    let room : is_full c.loop-count.ledger ≡ false = search rules in
    own_more g.M.Answering.Answers g.M.Keeping.is_kept g.M.Keeping.is_turned_away g.M.Keeping.own c.loop-count.count c.args.machine.now c.loop-count.machine c.run_own.new.machine
    c.args.bytes.now.items c.loop-count.bytes.items c.run_own.new.bytes.items c.args.ledger.now c.loop-count.ledger c.run_own.new.ledger c.loop-count.invariant room c.in_ok-run_own.ensures

pub returns-then-is_full : goal.returns-then-is_full
returns-then-is_full g c =
    let full : is_full c.loop-count.ledger ≡ true = search rules in
    own_ends g.M.Answering.Answers g.M.Keeping.is_kept g.M.Keeping.is_turned_away g.M.Keeping.own c.loop-count.count c.args.machine.now c.loop-count.machine
    c.args.bytes.now.items c.loop-count.bytes.items c.args.ledger.now c.loop-count.ledger c.loop-count.invariant (omega (arith, c.loop-count-test.true)) (inr (inr full))

pub returns-in_default : goal.returns-in_default
returns-in_default g c =
    let none : g.M.Keeping.own c.loop-count.machine ≡ None = search rules in
    own_ends g.M.Answering.Answers g.M.Keeping.is_kept g.M.Keeping.is_turned_away g.M.Keeping.own c.loop-count.count c.args.machine.now c.loop-count.machine
    c.args.bytes.now.items c.loop-count.bytes.items c.args.ledger.now c.loop-count.ledger c.loop-count.invariant (omega (arith, c.loop-count-test.true)) (inl none)

pub returns : goal.returns
returns g c =
    own_ends g.M.Answering.Answers g.M.Keeping.is_kept g.M.Keeping.is_turned_away g.M.Keeping.own c.loop-count.count c.args.machine.now c.loop-count.machine
    c.args.bytes.now.items c.loop-count.bytes.items c.args.ledger.now c.loop-count.ledger c.loop-count.invariant (omega (arith, c.loop-count.auto.count-end)) (inr (inl (omega (arith, c.loop-count-test.false))))
