use Rattle.std.proofs.Common.{◌<◌, Some, length, refl, sym, ap, ◌∙◌, arith}
use Rattle.std.proofs.lemmas.List.{set-set}
use Rattle.std.proofs.lemmas.Option.{same_Some, slice_get_read, slice_get_within}
use Rattle.gs_cluster_history.specs.Setting.{all_ids}
use Rattle.gs_cluster_threads.proofs.Places.{takes}
use Rattle.gs_cluster_threads.proofs.placing.place_one.Goals as goal

pub two_nodes-requires : goal.two_nodes-requires
two_nodes-requires g c =
    let all = all_ids g.N.Plan.setting in
    let places = c.args.places.now.items in
    let among = slice_get_within all c.place-at.result c.args.node.me c.place-at.ensures in
    let long = c.requires.long in
    let within : c.place-at.result < length places = omega arith in
    let there = slice_get_read places (length places) c.place-at.result c.index_mut.result.now refl within c.index_mut.ensures.value in
    let own = c.requires.own c.place-at.result c.in-Some.other (there ∙ ap Some (sym c.take-stood.ensures.value ∙ c.in-Some.is)) in
    same_Some c.in-Some.other.me c.args.node.me (sym own ∙ c.place-at.ensures)

pub index_mut-requires-2 : goal.index_mut-requires-2
index_mut-requires-2 g c =
    let among = slice_get_within (all_ids g.N.Plan.setting) c.place-at.result c.args.node.me c.place-at.ensures in
    let long = c.requires.long in
    let ok = c.args.places.now.ok.0 in
    omega arith

pub returns : goal.returns
returns g c =
    let all = all_ids g.N.Plan.setting in
    let places = c.args.places.now.items in
    let at = c.place-at.result in
    let among = slice_get_within all at c.args.node.me c.place-at.ensures in
    let long = c.requires.long in
    let within : at < length places = omega arith in
    let there = slice_get_read places (length places) at c.index_mut.result.now refl within c.index_mut.ensures.value in
    takes all c.args.node places _ at c.requires c.place-at.ensures (there ∙ ap Some (sym c.take-stood.ensures.value ∙ c.in_default.is)) (set-set places at c.take-stood.new.self (Some c.args.node))
