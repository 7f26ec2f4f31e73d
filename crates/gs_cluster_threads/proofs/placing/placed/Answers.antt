use Rattle.std.proofs.Common.{List, Option, sym, ◌∙◌, subst}
use Rattle.std.proofs.lemmas.List.{nil_from_length}
use Rattle.std.proofs.lemmas.Result.{IfOk-weaker}
use Rattle.gs_cluster_history.specs.Histories.{Kept}
use Rattle.gs_cluster_history.specs.Setting.{all_ids}
use Rattle.gs_cluster_threads.proofs.Places.{Placing, all_placed, none_placed, one_placed}
use Rattle.gs_cluster_threads.proofs.placing.placed.Goals as goal

pub loop-node-init : goal.loop-node-init
loop-node-init g c =
    let all = all_ids g.N.Plan.setting in
    let given = c.args.nodes.items in
    let long = c.args.nodes.ok.0 in
    subst (λ (l : List (Kept g.row.C.Denot)). Placing all given l c.in_ok-places.places.items) (sym c.into_iter-node-iterator.ensures.into_iter_gives.0)
    (subst (λ (l : List (Option (Kept g.row.C.Denot))). Placing all given given l) (sym c.in_ok-places.ensures)
    (none_placed all given c.len.result (sym (c.len.ensures ∙ long)) (sym long ∙ c.requires)))

pub loop-node-preserved : goal.loop-node-preserved
loop-node-preserved g c =
    let all = all_ids g.N.Plan.setting in
    let given = c.args.nodes.items in
    one_placed all given c.next.new.self.rest.items c.in-Some.node c.loop-node.places.items c.place_one.new.places.items
    (subst (λ (l : List (Kept g.row.C.Denot)). Placing all given l c.loop-node.places.items) c.in-Some.ensures.steps.0 c.loop-node.invariant)
    c.place_one.ensures

pub returns : goal.returns
returns g c =
    let all = all_ids g.N.Plan.setting in
    let given = c.args.nodes.items in
    let rest = c.loop-node.node-iterator.rest in
    let nothing = nil_from_length rest.items (sym rest.ok.0 ∙ c.in-None.ensures.steps.0) in
    IfOk-weaker c.filled.result _ _ (λ v e. all_placed all given v.items c.loop-node.places.items
    (subst (λ (l : List (Kept g.row.C.Denot)). Placing all given l c.loop-node.places.items) nothing c.loop-node.invariant) e) c.filled.ensures
