use Rattle.std.proofs.Common.{ap, sym, ◌∙◌, ◌++◌, ◌≤◌, length, subst}
use Rattle.std.specs.FinMap as fin
use Rattle.std.specs.Ordering.{nat_cmp}
use Rattle.gs_base_table.specs.Slots.{live}
use Rattle.gs_store.specs.Stores.{named_of}
use Rattle.gs_store.specs.inner.Placed.{entries_at}
use Rattle.gs_store.proofs.Reporting.{named_seen, len_seen}
use Rattle.gs_store.proofs.store.Store.name_each.Goals as goal

pub loop-handle-init : goal.loop-handle-init
loop-handle-init c =
    let listed = c.into_iter-handle-iterator.ensures.into_iter_gives ∙ c.iter-handle-items.ensures.entries in (
      ap (λ l. l ++ named_of c.args.epoch (entries_at c.into_iter-handle-iterator.result c.self.inside.slots.items)) c.requires.none
          ∙ ap (λ p. named_of c.args.epoch (entries_at p c.self.inside.slots.items)) listed
          ∙ sym (named_seen _ _ _ _ c.self.inside.slots.items _ c.args.self.now c.self.view_is c.args.epoch),
      subst (λ n. n ≤ c.args.names.room) (len_seen _ _ _ _ c.self.inside.slots.items _ c.args.self.now c.self.view_is ∙ fin.len-entries (live nat_cmp c.self.inside.places) ∙ sym (ap length listed)) c.requires.room,
    )
