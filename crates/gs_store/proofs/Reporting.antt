-- What is told of slots that stand at places.
use Rattle.std.proofs.Common.{◌≡◌, ℕ, List, sym, ap, ◌∙◌}
use Rattle.std.specs.FinMap as fin
use Rattle.std.specs.Ordering.{nat_cmp}
use Rattle.gs_store.specs.Slots.{Slot}
use Rattle.gs_store.specs.Stores.{Store, named_of, named, report, reports_of}
use Rattle.gs_store.specs.inner.Placed.{slot_at, entries_at}
use Rattle.gs_store.proofs.Maps.{entries-each, len-each}
use Rattle.gs_store.proofs.Changes.{seen}
use Rattle.gs_store.specs.Buffers.{Pushes}

module _ (block chunk epoch : ℕ) (places : fin.FinMap nat_cmp ℕ) (slots : List Slot) (buffer : Pushes) (s : Store) (view : seen block chunk epoch places slots buffer ≡ s) where
  entries_seen : fin.entries s.slots ≡ entries_at (fin.entries places) slots
  entries_seen = ap (λ x. fin.entries x.slots) (sym view) ∙ entries-each nat_cmp (slot_at slots) places

  pub named_seen : (e : ℕ) → named e s ≡ named_of e (entries_at (fin.entries places) slots)
  named_seen e = ap (named_of e) entries_seen

  pub slots_seen : fin.entries s.slots ≡ entries_at (fin.entries places) slots
  slots_seen = entries_seen

  pub report_seen : report s ≡ reports_of (entries_at (fin.entries places) slots)
  report_seen = ap reports_of entries_seen

  pub len_seen : fin.len s.slots ≡ fin.len places
  len_seen = ap (λ x. fin.len x.slots) (sym view) ∙ len-each nat_cmp (slot_at slots) places
