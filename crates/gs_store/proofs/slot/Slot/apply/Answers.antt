use Rattle.std.proofs.Common.{◌≡◌, Some, sym, ap, subst, ◌∙◌}
use Rattle.std.specs.Prelude.{Ok}
use Rattle.gs_base.specs.Calls.{Follows}
use Rattle.gs_replica.specs.declared.live.ReplicaInverse.{ReplicaInverse}
use Rattle.gs_replica.specs.Seals.{State}
use Rattle.gs_replica.specs.Seals as replicas
use Rattle.gs_store.specs.Slots.{Live, Slot}
use Rattle.gs_store.specs.Whole.{Keeps}
use Rattle.gs_store.specs.Serving.{apply}
use Rattle.gs_store.proofs.Calls.{applied, not_applied, refused_so, stays, standing_in}
use Rattle.gs_store.proofs.slot.Slot.apply.Goals as goal

pub invariant_of-self-in_err-apply : goal.invariant_of-self-in_err-apply
invariant_of-self-in_err-apply c =
    let l : Live = record { replica = c.live.inside.replica; bad = c.live.inside.bad } in
    let same : c.apply.new.self ≡ l.replica =
    stays State ReplicaInverse (replicas.apply c.args.stamp c.args.number c.args.req c.args.op c.args.bytes.now l.replica) c.in_err-apply.field-0.0 l.replica c.apply.new.self c.in_err-apply.ensures.edit in
    let was : Keeps c.self.inside.promise (Some l) c.self.inside.trash c.self.inside.taken =
    subst (λ o. Keeps c.self.inside.promise o c.self.inside.trash c.self.inside.taken) (c.in-Some.is ∙ ap (λ (l : Live). Some l) (sym c.live.view_is)) c.self.invariant in
    subst (λ (r : State). Keeps c.self.inside.promise (Some (let n : Live = record { replica = r; bad = l.bad } in n)) c.self.inside.trash c.self.inside.taken) (sym same) was

pub returns-in_err-apply-clause-edit : goal.returns-in_err-apply-clause-edit
returns-in_err-apply-clause-edit c =
    let new : State = c.apply.new.self in
    let l : Live = record { replica = c.live.inside.replica; bad = c.live.inside.bad } in
    let before : Slot = record { promise = c.self.inside.promise; carried = c.self.inside.carried; live = c.self.inside.live; trash = c.self.inside.trash; taken = c.self.inside.taken } in
    subst (λ (s : Slot). Follows {B = Unit {0}} (apply c.args.stamp c.args.number c.args.req c.args.op c.args.bytes.now s) c.from_residual.result s (standing_in before l.bad new)) c.self.view_is
    (refused_so (Unit {0}) c.from_residual.result c.in_err-apply.field-0.0 (apply c.args.stamp c.args.number c.args.req c.args.op c.args.bytes.now before) before (standing_in before l.bad new) c.from_residual.ensures.0 c.from_residual.ensures.1
    (not_applied ReplicaInverse (Unit {0}) c.in_err-apply.field-0.0 c.args.stamp c.args.number c.args.req c.args.op c.args.bytes.now before l new (c.in-Some.is ∙ ap (λ (l : Live). Some l) (sym c.live.view_is)) c.in_err-apply.ensures.edit))

pub returns-clause-edit : goal.returns-clause-edit
returns-clause-edit c =
    let new : State = c.apply.new.self in
    let l : Live = record { replica = c.live.inside.replica; bad = c.live.inside.bad } in
    let before : Slot = record { promise = c.self.inside.promise; carried = c.self.inside.carried; live = c.self.inside.live; trash = c.self.inside.trash; taken = c.self.inside.taken } in
    subst (λ (s : Slot). Follows {B = Unit {0}} (apply c.args.stamp c.args.number c.args.req c.args.op c.args.bytes.now s) (Ok tt) s (standing_in before l.bad new)) c.self.view_is
    (applied ReplicaInverse (Unit {0}) c.in_ok-apply.field-0 tt c.args.stamp c.args.number c.args.req c.args.op c.args.bytes.now before l new (c.in-Some.is ∙ ap (λ (l : Live). Some l) (sym c.live.view_is)) c.in_ok-apply.ensures.edit)
