use Rattle.std.proofs.Common.{◌≡◌, ◌-◌, List, ap, arith, length, subst, ◌∙◌}
use Rattle.std.specs.Prelude.{IfOk}
use Rattle.std.proofs.lemmas.List.{length-map}
use Rattle.gs_cluster_history.specs.Histories.{Kept}
use Rattle.gs_cluster_history.specs.Setting.{all_ids}
use Rattle.gs_cluster_threads.specs.inner.Berths.{with_parts}
use Rattle.gs_cluster_threads.proofs.Joining.{all_fit, all_named, as_many, begun_fresh, leads_of_row, silent_row, whole_parts}
use Rattle.gs_cluster_threads.proofs.wiring.wire.Goals as goal

pub berths_of-requires : goal.berths_of-requires
berths_of-requires g c = all_named (g.C.Core.Starts g.N.Plan.setting) g.N.Naming.names c.args.seeds.items c.requires.begin

pub rows_of-requires-clause-few : goal.rows_of-requires-clause-few
rows_of-requires-clause-few g c =
    let same = as_many (all_ids g.N.Plan.setting) c.args.seeds.items c.in_ok-berths.berths.items c.requires.all c.in_ok-berths.ensures in
    let few = c.requires.few in
    omega arith

pub rows_of-requires-clause-each : goal.rows_of-requires-clause-each
rows_of-requires-clause-each g c = whole_parts c.args.seeds.items c.in_ok-berths.berths.items c.in_ok-berths.ensures

pub nodes_of-requires-clause-many : goal.nodes_of-requires-clause-many
nodes_of-requires-clause-many g c =
    let same = ap length c.in_ok-berths-2.ensures.berths ∙ length-map c.in_ok-berths.berths.items (with_parts _) in
    let many = c.in_ok-berths-2.ensures.rows in
    omega arith

pub nodes_of-requires-clause-rows : goal.nodes_of-requires-clause-rows
nodes_of-requires-clause-rows g c = λ w a. (
  leads_of_row c.args.seeds.items c.in_ok-berths.berths.items w c.in_ok-berths.ensures (c.in_ok-berths-2.ensures.row w a) ∙ c.requires.all,
  silent_row c.in_ok-berths.berths.items w (c.in_ok-berths-2.ensures.row w a),
)

pub nodes_of-requires-clause-berths : goal.nodes_of-requires-clause-berths
nodes_of-requires-clause-berths g c =
    all_fit (g.C.Core.Starts g.N.Plan.setting) g.N.Naming.names (all_ids g.N.Plan.setting) c.args.seeds.items c.in_ok-berths.berths.items c.in_ok-berths-2.berths.items c.in_ok-berths.berths.len
    c.requires.all c.requires.begin c.in_ok-berths.ensures c.in_ok-berths.berths.ok.0 c.in_ok-berths-2.ensures.berths c.requires.few

pub returns : goal.returns
returns g c =
    subst (λ (l : List (Kept g.row.C.Denot)). IfOk c.nodes_of.result (λ nodes. nodes.items ≡ l))
    (begun_fresh c.args.seeds.items c.in_ok-berths.berths.items c.in_ok-berths-2.berths.items (1024 - c.in_ok-berths.berths.len) c.in_ok-berths.ensures c.in_ok-berths-2.ensures.berths) c.nodes_of.ensures
