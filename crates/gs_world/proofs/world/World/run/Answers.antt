use Rattle.std.proofs.Common.{◌∷◌, [], append-nil, refl, subst, sym}
use Rattle.gs_msg.specs.declared.event.Event.{Event}
use Rattle.std.specs.Prelude.{List}
use Rattle.gs_world.specs.Histories.{arms, failures_of, history_of, seen_of}
use Rattle.gs_world.specs.Runs.{AreOutcomes}
use Rattle.gs_world.specs.declared.outcome.Outcome.{Outcome}
use Rattle.gs_world.proofs.Ongoing.{all_happen, nothing_more, one_more, room_of_one, told_behind}
use Rattle.gs_world.proofs.world.World.run.Goals as goal

pub loop-event-preserved : goal.loop-event-preserved
loop-event-preserved g c = (
  room_of_one c.loop-event.event-iterator.rest.items c.next.new.self.rest.items c.in-Some.event _ _ _ _ c.in-Some.ensures.steps.0 c.loop-event.invariant.0 c.push.ensures.upper_bound c.push.ensures.capacity,
  λ others new rest.
      subst (λ (outcomes : List Outcome). AreOutcomes (seen_of g.D.Disk.seen) (failures_of g.D.Disk.failures) arms c.args.events.items outcomes (history_of c.args.self.now) new)
      (told_behind c.loop-event.outcomes.items c.push.new.self.items c.step-met.result others c.push.result c.push.ensures.items c.unwrap.ensures)
      (c.loop-event.invariant.1 (c.step-met.result ∷ others) new
      (subst (λ (events : List Event). AreOutcomes (seen_of g.D.Disk.seen) (failures_of g.D.Disk.failures) arms events (c.step-met.result ∷ others) (history_of c.loop-event.self) new)
      (sym c.in-Some.ensures.steps.0)
      (one_more (seen_of g.D.Disk.seen) (failures_of g.D.Disk.failures) arms c.in-Some.event c.next.new.self.rest.items c.step-met.result others (history_of c.loop-event.self) (history_of c.step-met.new.self) new
      c.step-met.ensures.outcome rest))),
)

pub returns-clause-ok : goal.returns-clause-ok
returns-clause-ok g c =
    subst (λ (outcomes : List Outcome). AreOutcomes (seen_of g.D.Disk.seen) (failures_of g.D.Disk.failures) arms c.args.events.items outcomes (history_of c.args.self.now) (history_of c.loop-event.self))
    (append-nil c.loop-event.outcomes.items)
    (c.loop-event.invariant.1 [] (history_of c.loop-event.self)
    (subst (λ (events : List Event). AreOutcomes (seen_of g.D.Disk.seen) (failures_of g.D.Disk.failures) arms events [] (history_of c.loop-event.self) (history_of c.loop-event.self)) (sym (nothing_more c.loop-event.event-iterator.rest.items c.loop-event.event-iterator.rest.len (sym c.loop-event.event-iterator.rest.ok.0) c.in-None.ensures.steps.0)) (refl, refl)))

pub returns-clause-happens : goal.returns-clause-happens
returns-clause-happens g c =
    all_happen (seen_of g.D.Disk.seen) (failures_of g.D.Disk.failures) arms c.args.events.items c.loop-event.outcomes.items (history_of c.args.self.now) (history_of c.loop-event.self)
    (subst (λ (outcomes : List Outcome). AreOutcomes (seen_of g.D.Disk.seen) (failures_of g.D.Disk.failures) arms c.args.events.items outcomes (history_of c.args.self.now) (history_of c.loop-event.self))
    (append-nil c.loop-event.outcomes.items)
    (c.loop-event.invariant.1 [] (history_of c.loop-event.self)
    (subst (λ (events : List Event). AreOutcomes (seen_of g.D.Disk.seen) (failures_of g.D.Disk.failures) arms events [] (history_of c.loop-event.self) (history_of c.loop-event.self)) (sym (nothing_more c.loop-event.event-iterator.rest.items c.loop-event.event-iterator.rest.len (sym c.loop-event.event-iterator.rest.ok.0) c.in-None.ensures.steps.0)) (refl, refl))))
