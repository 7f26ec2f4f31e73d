use Rattle.std.proofs.Common.{◌≡◌, ◌+◌, ap, sym, subst, ◌∙◌}
use Rattle.std.specs.Prelude.{Ok}
use Rattle.std.specs.FinMap as fin
use Rattle.gs_replica.specs.Held.{Held}
use Rattle.gs_replica.specs.Undo.{undo}
use Rattle.gs_replica.specs.declared.live.ReplicaInverse.{ReplicaInverse}
use Rattle.gs_replica.specs.declared.op.Done.{Done}
use Rattle.gs_replica.proofs.Back.{leads_back}
use Rattle.gs_replica.proofs.live.Live.take.Goals as goal

pub returns-clause-undo : goal.returns-clause-undo
returns-clause-undo c =
    let old : Held = record { chunk = c.self.inside.blocks; count = c.self.inside.count; done = c.self.inside.done; promise = c.self.inside.promise } in
    let i : ReplicaInverse = record { blocks = c.in_ok-blocks.blocks; count = c.args.number; client = c.args.req.client; before = c.get-before.result } in
    let d : Done = record { number = c.args.req.number; outcome = c.outcome_of-outcome.result } in
    let count : c.args.number ≡ old.count + 1 = c.requires ∙ ap (λ (r : Held). r.count + 1) (sym c.self.view_is) in
    let back = leads_back old c.edit.new.blocks i d count c.get-before.ensures c.in_ok-blocks.ensures.undo in
    subst (λ m. undo i (let r : Held = record { chunk = c.edit.new.blocks; count = c.args.number; done = m; promise = c.self.inside.promise } in r) ≡ Ok c.args.self.now) (sym c.in-Ok.ensures.ok)
    (subst (λ (s : Held). undo i (let r : Held = record { chunk = c.edit.new.blocks; count = c.args.number; done = fin.insert old.done c.args.req.client.0 d; promise = c.self.inside.promise } in r) ≡ Ok s) c.self.view_is back)
