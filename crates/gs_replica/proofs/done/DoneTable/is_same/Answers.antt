use Rattle.std.proofs.Common.{◌≡◌, ◌≢◌, false, Decides, subst, length, sym, ◌∙◌}
use Rattle.std.proofs.lemmas.Bool.Decides.{Decides-eqb}
use Rattle.std.proofs.lemmas.Map.Lookups.{btree_map_eq-Decides}
use Rattle.std.specs.FinMap as fin
use Rattle.std.specs.Ordering.{nat_cmp}
use Rattle.gs_replica.specs.declared.op.Done.{Done}
use Rattle.gs_replica.proofs.Same.{same_done}
use Rattle.gs_replica.proofs.Tables.{decides_tables, fewer_differ}
use Rattle.gs_replica.proofs.done.DoneTable.is_same.Goals as goal

abbrev Table : Type 0
Table = fin.FinMap nat_cmp Done

pub returns-then-len : goal.returns-then-len
returns-then-len c =
    let es = c.self.inside.entries.entries in
    let fs = c.other.inside.entries.entries in
    let few : length es ≢ length fs = λ h. c.if-len.true (c.len.ensures.len ∙ h ∙ sym c.len-2.ensures.len) in
    subst (λ (m : Table). Decides false (m ≡ c.args.other.now)) c.self.view_is (subst (λ (n : Table). Decides false (fin.from_entries {R = nat_cmp} es ≡ n)) c.other.view_is
    (decides_tables false es fs c.len.ensures.ordered c.len-2.ensures.ordered (fewer_differ es fs few)))

pub returns : goal.returns
returns c =
    let es = c.self.inside.entries.entries in
    let fs = c.other.inside.entries.entries in
    subst (λ (m : Table). Decides c.eq.result (m ≡ c.args.other.now)) c.self.view_is (subst (λ (n : Table). Decides c.eq.result (fin.from_entries {R = nat_cmp} es ≡ n)) c.other.view_is
    (decides_tables c.eq.result es fs c.len.ensures.ordered c.len-2.ensures.ordered
    (btree_map_eq-Decides Decides-eqb same_done c.self.inside.entries c.other.inside.entries c.eq.result c.eq.ensures)))
