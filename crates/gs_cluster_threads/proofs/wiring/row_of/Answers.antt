use Rattle.std.proofs.Common.{◌-◌, ◌∙◌, arith}
use Rattle.gs_cluster_threads.specs.inner.Berths.{way_into, with_parts}
use Rattle.gs_cluster_threads.proofs.Joining.{all_done, at_front, none_rowed, one_rowed}
use Rattle.gs_cluster_threads.proofs.wiring.row_of.Goals as goal

pub loop-berth-init : goal.loop-berth-init
loop-berth-init g c =
    none_rowed c.args.parts c.args.berths.items c.into_iter-berth-iterator.result.rest.items c.new-left.result.items c.new-ways.result.items
    c.into_iter-berth-iterator.ensures.into_iter_gives.0 c.new-left.ensures.items c.new-ways.ensures.items c.requires.each

pub way-requires : goal.way-requires
way-requires g c =
    let had = c.loop-berth.invariant.each c.in-Some.berth (at_front _ _ _ c.in-Some.ensures.steps.0) in
    let some = c.requires.some in
    omega arith

pub loop-berth-preserved : goal.loop-berth-preserved
loop-berth-preserved g c =
    one_rowed c.args.parts c.args.berths.items c.loop-berth.berth-iterator.rest.items c.next.new.self.rest.items c.in-Some.berth c.loop-berth.left.items c.push-in-loop-berth.new.self.items c.loop-berth.ways.items
    c.push.new.self.items c.way.new.self c.in_ok-way.field-0 c.loop-berth.invariant c.in-Some.ensures.steps.0 c.in_ok-way.ensures.ok c.in_ok-way.ensures.way c.in_ok-push-2.ensures.items c.in_ok-push.ensures.items

pub returns-clause-berths : goal.returns-clause-berths
returns-clause-berths g c =
    all_done (with_parts (c.args.parts - 1)) c.loop-berth.left.items c.loop-berth.berth-iterator.rest.items c.args.berths.items (let none = c.in-None.ensures.steps.0 in omega arith) c.loop-berth.invariant.berths

pub returns-clause-row : goal.returns-clause-row
returns-clause-row g c =
    c.new.ensures ∙ all_done way_into c.loop-berth.ways.items c.loop-berth.berth-iterator.rest.items c.args.berths.items (let none = c.in-None.ensures.steps.0 in omega arith) c.loop-berth.invariant.row
