use Rattle.std.proofs.Common.{List, sym, ◌∙◌, subst}
use Rattle.std.proofs.lemmas.List.{nil_from_length}
use Rattle.gs_cluster_history.specs.Histories.{Kept}
use Rattle.gs_cluster_history.specs.Setting.{all_ids}
use Rattle.gs_cluster_threads.proofs.Ears.{TakenApart, all_apart, none_apart, one_apart}
use Rattle.gs_cluster_threads.proofs.settling.take_apart.Goals as goal

pub loop-node-init : goal.loop-node-init
loop-node-init g c =
    none_apart g.C.Core.Does (g.C.Core.Starts g.N.Plan.setting) (all_ids g.N.Plan.setting) c.args.nodes.items c.into_iter-node-iterator.result.rest.items _ _ _ _
    c.into_iter-node-iterator.ensures.into_iter_gives.0 c.new-members.ensures.items c.new-rows.ensures.items c.new-ears.ensures.items c.new-all_notes.ensures.items

pub loop-node-preserved : goal.loop-node-preserved
loop-node-preserved g c =
    let starts = g.C.Core.Starts g.N.Plan.setting in
    let all = all_ids g.N.Plan.setting in
    let rest = c.next.new.self.rest.items in
    let parts = c.into_parts-me.result in
    let members = c.loop-node.members.items in
    let rows = c.loop-node.rows.items in
    let ears = c.loop-node.ears.items in
    let notes = c.loop-node.all_notes.items in
    let before = subst (λ (l : List (Kept g.row.C.Denot)). TakenApart g.C.Core.Does starts all c.args.nodes.items l members rows ears notes) c.in-Some.ensures.steps.0 c.loop-node.invariant in
    one_apart g.C.Core.Does starts all c.args.nodes.items rest members c.push.new.self.items rows c.push-in-loop-node.new.self.items ears c.push-in-loop-node-2.new.self.items
    notes c.push-in-loop-node-3.new.self.items c.in-Some.node (record { me = parts.me; core = parts.core }) parts.ways.items c.new.result parts.ear parts.notes before
    c.into_parts-me.ensures.sound c.into_parts-me.ensures.me c.into_parts-me.ensures.core c.new.ensures c.into_parts-me.ensures.notes c.in_ok-push.ensures.items c.in_ok-push-2.ensures.items c.in_ok-push-3.ensures.items
    c.in_ok-push-4.ensures.items

pub returns-clause-apart : goal.returns-clause-apart
returns-clause-apart g c =
    let rest = c.loop-node.node-iterator.rest in
    let nothing = nil_from_length rest.items (sym rest.ok.0 ∙ c.in-None.ensures.steps.0) in
    let starts = g.C.Core.Starts g.N.Plan.setting in
    let all = all_ids g.N.Plan.setting in
    (all_apart g.C.Core.Does starts all c.args.nodes.items c.loop-node.members.items c.loop-node.rows.items c.loop-node.ears.items c.loop-node.all_notes.items
    (subst (λ (l : List (Kept g.row.C.Denot)). TakenApart g.C.Core.Does starts all c.args.nodes.items l c.loop-node.members.items c.loop-node.rows.items c.loop-node.ears.items c.loop-node.all_notes.items) nothing c.loop-node.invariant)).0

pub returns-clause-members : goal.returns-clause-members
returns-clause-members g c =
    let rest = c.loop-node.node-iterator.rest in
    let nothing = nil_from_length rest.items (sym rest.ok.0 ∙ c.in-None.ensures.steps.0) in
    let starts = g.C.Core.Starts g.N.Plan.setting in
    let all = all_ids g.N.Plan.setting in
    (all_apart g.C.Core.Does starts all c.args.nodes.items c.loop-node.members.items c.loop-node.rows.items c.loop-node.ears.items c.loop-node.all_notes.items
    (subst (λ (l : List (Kept g.row.C.Denot)). TakenApart g.C.Core.Does starts all c.args.nodes.items l c.loop-node.members.items c.loop-node.rows.items c.loop-node.ears.items c.loop-node.all_notes.items) nothing c.loop-node.invariant)).1

pub returns-clause-notes : goal.returns-clause-notes
returns-clause-notes g c =
    let rest = c.loop-node.node-iterator.rest in
    let nothing = nil_from_length rest.items (sym rest.ok.0 ∙ c.in-None.ensures.steps.0) in
    let starts = g.C.Core.Starts g.N.Plan.setting in
    let all = all_ids g.N.Plan.setting in
    (all_apart g.C.Core.Does starts all c.args.nodes.items c.loop-node.members.items c.loop-node.rows.items c.loop-node.ears.items c.loop-node.all_notes.items
    (subst (λ (l : List (Kept g.row.C.Denot)). TakenApart g.C.Core.Does starts all c.args.nodes.items l c.loop-node.members.items c.loop-node.rows.items c.loop-node.ears.items c.loop-node.all_notes.items) nothing c.loop-node.invariant)).2
