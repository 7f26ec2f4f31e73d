use Rattle.std.proofs.Common.{Bool, List, ℕ, refl, subst, sym}
use Rattle.std.specs.Io.KnownBytes.{Appends}
use Rattle.gs_shell_script.specs.Run.{AppendsBeginning}
use Rattle.gs_keep.proofs.Rounds.{nothing_kept, round_err, round_ok, round_unkept, round_unsent}
use Rattle.gs_keep.specs.Serving.{Fails, Rounds}
use Rattle.gs_keep.specs.declared.fault.KeepFault.{KeepFault}
use Rattle.gs_keep.proofs.Weaken.{if_some, swapped, swapped_err}
use Rattle.gs_keep.proofs.turns.round.Goals as goal

pub returns-in_default-clause-err : goal.returns-in_default-clause-err
returns-in_default-clause-err g c =
    nothing_kept g.M.Answering.Answers g.M.Keeping.is_kept g.M.Keeping.is_turned_away g.M.Keeping.own (g.R.Read.remaining c.args.reader.now.reader) (g.R.Read.remaining c.gather.new.reader.reader) (g.L.Log.holds c.args.log.now) (g.L.Log.holds c.args.log.now)
    (g.W.Write.contents c.args.writer.now.writer) c.args.ledger.now c.args.machine.now c.gather.new.machine refl

pub returns-in-Err-clause-err : goal.returns-in-Err-clause-err
returns-in-Err-clause-err g c =
    if_some (g.R.Read.remaining c.args.reader.now.reader) _ _ (λ xs r. round_unkept g.M.Answering.Answers g.M.Keeping.is_kept g.M.Keeping.is_turned_away g.M.Keeping.own c.in-Err.fault _ xs r.takes.rest (g.R.Read.remaining c.gather.new.reader.reader) (g.L.Log.holds c.args.log.now) (g.L.Log.holds c.keep.new.log)
    (g.W.Write.contents c.args.writer.now.writer) c.args.machine.now c.gather.new.machine _ _ c.args.ledger.now c.gather.new.ledger r.takes.runs c.in-Err.ensures.err) c.in-Ok.ensures.gathers

pub returns-in-Err-send-clause-err : goal.returns-in-Err-send-clause-err
returns-in-Err-send-clause-err g c =
    let out = g.W.Write.contents c.args.writer.now.writer in
    let out' = g.W.Write.contents c.send.new.self.writer in
    let sent = subst (AppendsBeginning out out') c.deref.ensures.value c.in-Err-send.ensures.err in
    if_some (g.R.Read.remaining c.args.reader.now.reader) _ _ (λ xs r. subst (λ f. Fails g.M.Answering.Answers g.M.Keeping.is_kept g.M.Keeping.is_turned_away g.M.Keeping.own f c.args.machine.now xs (g.R.Read.remaining c.gather.new.reader.reader) (g.L.Log.holds c.args.log.now) (g.L.Log.holds c.keep.new.log)
    out out' c.args.ledger.now c.gather.new.machine) (sym c.in-Err-send.ensures.fault)
    (round_unsent g.M.Answering.Answers g.M.Keeping.is_kept g.M.Keeping.is_turned_away g.M.Keeping.own _ xs r.takes.rest (g.R.Read.remaining c.gather.new.reader.reader) (g.L.Log.holds c.args.log.now) (g.L.Log.holds c.keep.new.log)
    out out' c.args.machine.now c.gather.new.machine _ _ c.args.ledger.now c.gather.new.ledger c.keep.new.ledger r.takes.runs c.in_default-keep.ensures.ok sent)) c.in-Ok.ensures.gathers

pub returns-clause-ok : goal.returns-clause-ok
returns-clause-ok g c =
    let out = g.W.Write.contents c.args.writer.now.writer in
    let out' = g.W.Write.contents c.send.new.self.writer in
    let sent = subst (Appends out out') c.deref.ensures.value c.in_default-send.ensures.ok in
    swapped {A = List ℕ} {T = Bool} {E = KeepFault} (g.R.Read.remaining c.args.reader.now.reader) c.ended.result (λ xs more. Rounds g.M.Answering.Answers g.M.Keeping.is_kept g.M.Keeping.is_turned_away g.M.Keeping.own c.args.machine.now more xs (g.R.Read.remaining c.gather.new.reader.reader)
    (g.L.Log.holds c.args.log.now) (g.L.Log.holds c.keep.new.log) out out' c.args.ledger.now c.keep.new.ledger c.gather.new.machine)
    (if_some (g.R.Read.remaining c.args.reader.now.reader) _ _ (λ xs r. round_ok g.M.Answering.Answers g.M.Keeping.is_kept g.M.Keeping.is_turned_away g.M.Keeping.own xs (g.R.Read.remaining c.gather.new.reader.reader) (g.L.Log.holds c.args.log.now) (g.L.Log.holds c.keep.new.log)
    out out' c.args.machine.now c.gather.new.machine _ _ c.args.ledger.now c.gather.new.ledger c.keep.new.ledger c.in_default-keep.ensures.ok sent c.in-Ok.gathered c.ended.result c.ended.ensures r) c.in-Ok.ensures.gathers)

pub returns-clause-err : goal.returns-clause-err
returns-clause-err g c =
    let out = g.W.Write.contents c.args.writer.now.writer in
    let out' = g.W.Write.contents c.send.new.self.writer in
    let sent = subst (Appends out out') c.deref.ensures.value c.in_default-send.ensures.ok in
    swapped_err {A = List ℕ} {T = Bool} {E = KeepFault} (g.R.Read.remaining c.args.reader.now.reader) c.ended.result (λ xs f. Fails g.M.Answering.Answers g.M.Keeping.is_kept g.M.Keeping.is_turned_away g.M.Keeping.own f c.args.machine.now xs (g.R.Read.remaining c.gather.new.reader.reader)
    (g.L.Log.holds c.args.log.now) (g.L.Log.holds c.keep.new.log) out out' c.args.ledger.now c.gather.new.machine)
    (if_some (g.R.Read.remaining c.args.reader.now.reader) _ _ (λ xs r. round_err g.M.Answering.Answers g.M.Keeping.is_kept g.M.Keeping.is_turned_away g.M.Keeping.own xs (g.R.Read.remaining c.gather.new.reader.reader) (g.L.Log.holds c.args.log.now) (g.L.Log.holds c.keep.new.log)
    out out' c.args.machine.now c.gather.new.machine _ _ c.args.ledger.now c.gather.new.ledger c.keep.new.ledger c.in_default-keep.ensures.ok sent c.in-Ok.gathered c.ended.result c.ended.ensures r) c.in-Ok.ensures.gathers)
