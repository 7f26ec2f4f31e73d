use Rattle.std.proofs.Common.{ap, sym, subst, ◌∙◌}
use Rattle.std.specs.Ordering.{nat_cmp}
use Rattle.gs_base_table.specs.Slots.{live}
use Rattle.gs_store.specs.inner.Placed.{entries_at, AreWithin}
use Rattle.gs_store.proofs.Reporting.{slots_seen}
use Rattle.gs_store.proofs.Within.{all_within}
use Rattle.gs_store.proofs.store.Store.slots.Goals as goal

pub invariant_of-result : goal.invariant_of-result
invariant_of-result c =
    subst (λ l. AreWithin c.iter.result l) (sym c.as_slice.ensures.value)
    (subst (λ p. AreWithin p c.self.inside.slots.items) (sym c.iter.ensures.entries) (all_within (live nat_cmp c.self.inside.places) c.self.inside.slots.items c.self.invariant))

pub returns : goal.returns
returns c =
    ap (λ l. entries_at c.iter.result l) c.as_slice.ensures.value ∙ ap (λ p. entries_at p c.self.inside.slots.items) c.iter.ensures.entries
    ∙ sym (slots_seen _ _ _ _ c.self.inside.slots.items _ c.args.self.now c.self.view_is)
