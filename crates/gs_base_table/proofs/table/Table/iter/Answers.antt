use Rattle.std.proofs.Common.{ap, sym, ◌∙◌, ◌≤◌, length, arith}
use Rattle.gs_base_table.specs.Slots.{live_entries, live}
use Rattle.gs_base_table.proofs.Lives.{entries-live, length_live, sorted_live}
use Rattle.std.specs.FinMap as fin
use Rattle.gs_base_table.proofs.table.Table.iter.Goals as goal

pub returns-clause-entries : goal.returns-clause-entries
returns-clause-entries g c = ap live_entries c.iter.ensures.rest ∙ sym (entries-live g.met.K.Ord.total g.met.K.Key.exact c.self.inside.slots.entries c.iter.ensures.ordered) ∙ ap (λ es. fin.entries (live g.K.Ord.cmp es)) c.self.view_is

pub returns-clause-fits : goal.returns-clause-fits
returns-clause-fits g c =
    let fewer : length (live_entries c.self.inside.slots.entries) ≤ length c.self.inside.slots.entries = length_live c.self.inside.slots.entries in
    rw c.iter.ensures.rest (omega (arith, c.iter.ensures.fits))

pub returns-clause-ordered : goal.returns-clause-ordered
returns-clause-ordered g c = rw c.iter.ensures.rest (sorted_live g.met.K.Ord.total c.self.inside.slots.entries c.iter.ensures.ordered)
