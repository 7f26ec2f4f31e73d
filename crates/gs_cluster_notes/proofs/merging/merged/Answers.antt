use Rattle.std.proofs.Common.{arith, deque_items, map, refl}
use Rattle.gs_cluster_notes.proofs.Taken.{all_taken, less_left, none_taken, one_taken}
use Rattle.gs_cluster_notes.proofs.merging.merged.Goals as goal

pub loop-event-init : goal.loop-event-init
loop-event-init c = none_taken (map deque_items c.args.lists.items) (map deque_items c.args.lists.items) c.new-events.result.items refl c.new-events.ensures.items

pub loop-event-smaller : goal.loop-event-smaller
loop-event-smaller c =
    let less = less_left (map deque_items c.loop-event.lists.items) (map deque_items c.next_of.new.lists.items) c.in-Some.event c.in-Some.ensures in
    omega arith

pub loop-event-preserved : goal.loop-event-preserved
loop-event-preserved c =
    one_taken (map deque_items c.args.lists.items) (map deque_items c.loop-event.lists.items) (map deque_items c.next_of.new.lists.items) c.loop-event.events.items c.push.new.self.items c.in-Some.event
    c.loop-event.invariant c.in-Some.ensures c.in_ok-push.ensures.items

pub returns : goal.returns
returns c =
    all_taken (map deque_items c.args.lists.items) (map deque_items c.loop-event.lists.items) (map deque_items c.next_of.new.lists.items) c.loop-event.events.items c.loop-event.invariant c.in_default.ensures
