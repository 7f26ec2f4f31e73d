use Rattle.std.proofs.Common.{ℕ, ◌+◌, List, ap, ◌∙◌, subst, sym}
use Rattle.std.proofs.lemmas.List.{nil_from_length}
use Rattle.gs_cluster_channel.specs.Settled.{Hearing}
use Rattle.gs_cluster_threads.specs.inner.Settling.{AreAll}
use Rattle.gs_cluster_threads.proofs.Ears.{Settling, all_go_there, all_settled, every_part, none_is_empty, none_settled, one_settled}
use Rattle.gs_cluster_threads.proofs.settling.settle_all.Goals as goal

pub column_of-requires : goal.column_of-requires
column_of-requires g c =
    let rows = c.loop-ear.rows.items in
    let left = c.pop.new.self.items in
    none_is_empty rows left c.in-Some.ear (subst (λ (l : List Hearing). AreAll l rows) c.in-Some.ensures.items c.loop-ear.invariant.all)

pub loop-ear-init : goal.loop-ear-init
loop-ear-init g c = none_settled c.args.ears.items c.args.rows.items c.requires

pub settle-requires : goal.settle-requires
settle-requires g c =
    let rows = c.loop-ear.rows.items in
    let left = c.pop.new.self.items in
    all_go_there rows c.in_ok-left.left.items c.in_ok-left.column.items left c.in-Some.ear (subst (λ (l : List Hearing). AreAll l rows) c.in-Some.ensures.items c.loop-ear.invariant.all) c.in_ok-left.ensures

pub loop-ear-preserved : goal.loop-ear-preserved
loop-ear-preserved g c =
    let rows = c.loop-ear.rows.items in
    let ears = c.pop.new.self.items in
    let left = c.in_ok-left.left.items in
    let column = c.in_ok-left.column in
    let ear = c.in-Some.ear in
    let before = subst (λ (l : List Hearing). Settling c.args.ears.items c.args.rows.items l rows) c.in-Some.ensures.items c.loop-ear.invariant in
    let splits = c.in_ok-left.ensures in
    let every = ap (λ (n : ℕ). ear.parts + n) column.ok.0 ∙ every_part rows left column.items ears ear before.all splits in
    one_settled c.args.ears.items c.args.rows.items ears rows left column.items ear before splits (c.settle.ensures.put (c.settle.ensures.all.1 every))

pub returns : goal.returns
returns g c =
    let ears = c.loop-ear.ears in
    let rows = c.loop-ear.rows.items in
    let nothing = nil_from_length ears.items (sym ears.ok.0 ∙ c.in_default.ensures.cases.0) in
    all_settled c.args.ears.items c.args.rows.items rows (subst (λ (l : List Hearing). Settling c.args.ears.items c.args.rows.items l rows) nothing c.loop-ear.invariant)
