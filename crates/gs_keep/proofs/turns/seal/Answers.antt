use Rattle.std.proofs.Common.{◌≡◌, ◌++◌, sym, ◌∙◌, rules}
use Rattle.gs_keep.proofs.Logs.{append_fails, seals, sync_fails}
use Rattle.gs_keep.proofs.Weaken.{was_err, was_ok}
use Rattle.gs_keep.proofs.turns.seal.Goals as goal

pub returns-then-is_err-2-clause-err : goal.returns-then-is_err-2-clause-err
returns-then-is_err-2-clause-err g c =
    let grown : c.extend_from_slice.new.self.items ≡ c.args.bytes.now.items ++ c.in-Ok.mark.items = search rules in
    append_fails c.args.ledger.now (g.L.Log.holds c.args.log.now) (g.L.Log.holds c.append.new.self) c.args.bytes.now.items c.deref-2.result.now c.in-Ok.mark.items c.in-Ok.ensures (c.deref-2.ensures.value ∙ grown)
    (was_err c.append.result _ (sym c.is_err-2.ensures.value ∙ c.if-is_err-2.true) c.append.ensures.err)

pub returns-then-is_err-3-clause-err : goal.returns-then-is_err-3-clause-err
returns-then-is_err-3-clause-err g c =
    let grown : c.extend_from_slice.new.self.items ≡ c.args.bytes.now.items ++ c.in-Ok.mark.items = search rules in
    sync_fails c.args.ledger.now (g.L.Log.holds c.args.log.now) (g.L.Log.holds c.append.new.self) (g.L.Log.holds c.sync.new.self) c.args.bytes.now.items c.deref-2.result.now c.in-Ok.mark.items c.in-Ok.ensures (c.deref-2.ensures.value ∙ grown)
    (was_ok c.append.result _ (sym c.is_err-2.ensures.value ∙ c.if-is_err-2.false) c.append.ensures.ok)
    (was_err c.sync.result _ (sym c.is_err-3.ensures.value ∙ c.if-is_err-3.true) c.sync.ensures.err)

pub returns-clause-ok : goal.returns-clause-ok
returns-clause-ok g c =
    let grown : c.extend_from_slice.new.self.items ≡ c.args.bytes.now.items ++ c.in-Ok.mark.items = search rules in
    seals c.args.ledger.now c.pass.new.self (g.L.Log.holds c.args.log.now) (g.L.Log.holds c.append.new.self) (g.L.Log.holds c.sync.new.self) c.args.bytes.now.items c.deref-2.result.now c.in-Ok.mark.items c.in-Ok.ensures (c.deref-2.ensures.value ∙ grown)
    (was_ok c.append.result _ (sym c.is_err-2.ensures.value ∙ c.if-is_err-2.false) c.append.ensures.ok)
    (was_ok c.sync.result _ (sym c.is_err-3.ensures.value ∙ c.if-is_err-3.false) c.sync.ensures.ok)
    (λ t told is. c.pass.ensures.ledger t told (c.deref-3.ensures.value ∙ is)) c.pass.ensures.full
