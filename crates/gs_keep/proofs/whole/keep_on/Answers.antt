use Rattle.std.proofs.Common.{sym, ◌∙◌}
use Rattle.gs_keep.proofs.Going.{begin_fails, begins, keeps_on, stops_on}
use Rattle.gs_keep.proofs.Weaken.{if_some₄, turned, was_ok}
use Rattle.gs_keep.proofs.whole.keep_on.Goals as goal

pub returns-in-Err-close-clause-err : goal.returns-in-Err-close-clause-err
returns-in-Err-close-clause-err g c =
    begin_fails g.M.Answering.Answers g.M.Keeping.is_kept g.M.Keeping.is_turned_away g.M.Keeping.own c.in-Err-close.fault (g.B.Read.remaining c.args.logged.now.reader) (g.R.Read.remaining c.args.reader.now.reader) c.args.first.head.now c.args.first.before c.args.len c.in-Ok.replayed
    (g.L.Log.holds c.args.log.now) (g.L.Log.holds c.cut.new.log) (g.L.Log.holds c.close.new.log) (g.W.Write.contents c.args.writer.now.writer) c.of-ledger.result c.replay.new.ledger c.args.machine.now c.replay.new.machine c.replay.new.machine
    (turned (g.L.Log.holds c.args.log.now) (g.B.Read.remaining c.args.logged.now.reader) _ c.requires.logged) c.of-ledger.ensures c.in-Ok.ensures.ok
    (was_ok c.cut.result _ (sym c.is_err-2.ensures.value ∙ c.if-is_err-2.false) c.cut.ensures.ok) c.in-Err-close.ensures.err

pub returns-in-Ok-serve-clause-ok : goal.returns-in-Ok-serve-clause-ok
returns-in-Ok-serve-clause-ok g c =
    if_some₄ (g.B.Read.remaining c.args.logged.now.reader) (g.R.Read.remaining c.args.reader.now.reader) _ _ _ _ (λ script input reads replayed served.
    keeps_on g.M.Answering.Answers g.M.Keeping.is_kept g.M.Keeping.is_turned_away g.M.Keeping.own c.args.first.head.now c.args.first.before script input c.args.len (g.L.Log.holds c.args.log.now) (g.L.Log.holds c.close.new.log) (g.L.Log.holds c.serve.new.log)
    (g.W.Write.contents c.args.writer.now.writer) (g.W.Write.contents c.serve.new.writer.writer) c.close.new.ledger c.serve.new.ledger c.args.machine.now c.replay.new.machine c.serve.new.machine
    (begins g.M.Answering.Answers g.M.Keeping.is_kept c.args.first.head.now c.args.first.before script c.args.len c.in-Ok.replayed (g.L.Log.holds c.args.log.now) (g.L.Log.holds c.cut.new.log) (g.L.Log.holds c.close.new.log)
    c.of-ledger.result c.replay.new.ledger c.close.new.ledger c.args.machine.now c.replay.new.machine reads c.of-ledger.ensures replayed
    (was_ok c.cut.result _ (sym c.is_err-2.ensures.value ∙ c.if-is_err-2.false) c.cut.ensures.ok) c.in_default.ensures.ok) served)
    (turned (g.L.Log.holds c.args.log.now) (g.B.Read.remaining c.args.logged.now.reader) _ c.requires.logged) c.in-Ok.ensures.ok c.in-Ok-serve.ensures.ok

pub returns-in-Err-serve-clause-err : goal.returns-in-Err-serve-clause-err
returns-in-Err-serve-clause-err g c =
    if_some₄ (g.B.Read.remaining c.args.logged.now.reader) (g.R.Read.remaining c.args.reader.now.reader) _ _ _ _ (λ script input reads replayed fails.
    stops_on g.M.Answering.Answers g.M.Keeping.is_kept g.M.Keeping.is_turned_away g.M.Keeping.own c.in-Err-serve.fault c.args.first.head.now c.args.first.before script input (g.R.Read.remaining c.serve.new.reader.reader) c.args.len (g.L.Log.holds c.args.log.now) (g.L.Log.holds c.close.new.log) (g.L.Log.holds c.serve.new.log)
    (g.W.Write.contents c.args.writer.now.writer) (g.W.Write.contents c.serve.new.writer.writer) c.close.new.ledger c.args.machine.now c.replay.new.machine c.serve.new.machine
    (begins g.M.Answering.Answers g.M.Keeping.is_kept c.args.first.head.now c.args.first.before script c.args.len c.in-Ok.replayed (g.L.Log.holds c.args.log.now) (g.L.Log.holds c.cut.new.log) (g.L.Log.holds c.close.new.log)
    c.of-ledger.result c.replay.new.ledger c.close.new.ledger c.args.machine.now c.replay.new.machine reads c.of-ledger.ensures replayed
    (was_ok c.cut.result _ (sym c.is_err-2.ensures.value ∙ c.if-is_err-2.false) c.cut.ensures.ok) c.in_default.ensures.ok) fails)
    (turned (g.L.Log.holds c.args.log.now) (g.B.Read.remaining c.args.logged.now.reader) _ c.requires.logged) c.in-Ok.ensures.ok c.in-Err-serve.ensures.err
