use Rattle.std.proofs.Common.{List, ap, deque_items, map, subst, sym, ◌∙◌}
use Rattle.std.specs.declared.alloc.Global.{Global}
use Rattle.std.specs.declared.collections.VecDeque.{VecDeque}
use Rattle.std.proofs.lemmas.List.{map_push, nil_from_length}
use Rattle.gs_msg.specs.Posts.{Posted}
use Rattle.gs_cluster_notes.specs.declared.notes.Dated.{Dated}
use Rattle.gs_cluster_notes.specs.declared.notes.Notes.{Notes}
use Rattle.gs_cluster_notes.proofs.Noting.{Parted, all_parted, one_parted}
use Rattle.gs_cluster_notes.proofs.telling.parts_of.Goals as goal

pub loop-one-preserved : goal.loop-one-preserved
loop-one-preserved c =
    let n = c.in-Some.one in
    let lists = c.loop-one.lists.items in
    let boxes = c.loop-one.outboxes.items in
    one_parted c.args.notes.items c.next.new.self.rest.items n (map deque_items lists) (map deque_items c.push.new.self.items) (map (λ (o : Posted). o.posts) boxes) (map (λ (o : Posted). o.posts) c.push-in-loop-one.new.self.items)
    (subst (λ (ns : List Notes). Parted c.args.notes.items ns (map deque_items lists) (map (λ (o : Posted). o.posts) boxes)) c.in-Some.ensures.steps.0 c.loop-one.invariant)
    c.if-not-is_whole.false
    (ap (λ (l : List (VecDeque Dated Global)). map deque_items l) c.in_ok-push.ensures.items ∙ map_push deque_items lists n.events)
    (ap (λ (l : List Posted). map (λ (o : Posted). o.posts) l) c.in_ok-push-2.ensures.items ∙ map_push (λ (o : Posted). o.posts) boxes n.sent)

pub returns-clause-events : goal.returns-clause-events
returns-clause-events c =
    let rest = c.loop-one.one-iterator.rest in
    let nothing = nil_from_length rest.items (sym rest.ok.0 ∙ c.in-None.ensures.steps.0) in
    λ histories sent keep. (all_parted c.args.notes.items rest.items (map deque_items c.loop-one.lists.items) (map (λ (o : Posted). o.posts) c.loop-one.outboxes.items) c.loop-one.invariant nothing histories sent keep).0

pub returns-clause-sent : goal.returns-clause-sent
returns-clause-sent c =
    let rest = c.loop-one.one-iterator.rest in
    let nothing = nil_from_length rest.items (sym rest.ok.0 ∙ c.in-None.ensures.steps.0) in
    λ histories sent keep. (all_parted c.args.notes.items rest.items (map deque_items c.loop-one.lists.items) (map (λ (o : Posted). o.posts) c.loop-one.outboxes.items) c.loop-one.invariant nothing histories sent keep).1
