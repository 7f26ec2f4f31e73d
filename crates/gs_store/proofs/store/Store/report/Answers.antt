use Rattle.std.proofs.Common.{ap, sym, ◌∙◌}
use Rattle.gs_store.specs.Stores.{reports_of}
use Rattle.gs_store.specs.inner.Placed.{entries_at}
use Rattle.gs_store.proofs.Reporting.{report_seen}
use Rattle.gs_store.proofs.store.Store.report.Goals as goal

pub returns : goal.returns
returns c =
    ap (λ l. reports_of (entries_at c.iter.result l)) c.as_slice.ensures.value ∙ ap (λ p. reports_of (entries_at p c.self.inside.slots.items)) c.iter.ensures.entries
    ∙ sym (report_seen _ _ _ _ c.self.inside.slots.items _ c.args.self.now c.self.view_is)
