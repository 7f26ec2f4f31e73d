use Rattle.std.proofs.Common.{sym, subst}
use Rattle.gs_base.specs.Calls.{Follows}
use Rattle.gs_replica.specs.declared.live.ReplicaInverse.{ReplicaInverse}
use Rattle.gs_replica.specs.Held.{Held}
use Rattle.gs_replica.specs.Edits as edits
use Rattle.gs_replica.specs.Seals.{State, apply}
use Rattle.gs_replica.specs.View.{seen_in}
use Rattle.gs_replica.proofs.Sealing.{state, follows_unsealed}
use Rattle.gs_replica.proofs.replica.Replica.apply.Goals as goal

pub returns-in-None-clause-edit : goal.returns-in-None-clause-edit
returns-in-None-clause-edit c =
    let stamp = c.args.stamp in
    let number = c.args.number in
    let req = c.args.req in
    let op = c.args.op in
    let bytes = c.args.bytes.now in
    let r = c.apply.result in
    let old : Held = c.self.inside.live in
    let new : Held = c.apply.new.self in
    subst (λ (s : State). Follows {B = ReplicaInverse} (apply stamp number req op bytes s) r s (state new (seen_in new c.self.inside.seal))) c.self.view_is
    (subst (λ o. Follows {B = ReplicaInverse} (apply stamp number req op bytes (state old (seen_in old o))) r (state old (seen_in old o)) (state new (seen_in new o))) (sym c.in-None.is)
    (follows_unsealed ReplicaInverse r (edits.apply stamp number req op bytes old) old new c.apply.ensures.edit))
