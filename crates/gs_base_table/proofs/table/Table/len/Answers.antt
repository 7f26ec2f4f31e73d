use Rattle.std.proofs.Common.{ap, sym, ◌∙◌, length, refl}
use Rattle.std.proofs.lemmas.Iterator.Consumers.{YieldsList-from_first, count_from_yields_List}
use Rattle.std.specs.FinMap as fin
use Rattle.gs_base_table.specs.Slots.{live}
use Rattle.gs_base_table.proofs.table.Table.len.Goals as goal

pub returns : goal.returns
returns g c =
    count_from_yields_List c.iter.result c.count.result c.count.ensures.ran (YieldsList-from_first (λ entry. (entry.0, entry.1.now)) (λ rest. rest) c.iter.result refl)
    ∙ ap length c.iter.ensures.entries ∙ sym (fin.len-entries (live g.K.Ord.cmp c.args.self.now))
