use Rattle.std.proofs.Common.{◌≡◌, ◌∙◌, refl, subst, sym}
use Rattle.gs_msg.specs.declared.event.Happening.{Happening}
use Rattle.gs_msg.specs.declared.node.NodeId.TheVariants as ids
use Rattle.gs_msg.specs.declared.node.StoreNode.TheVariants as keepers
use Rattle.gs_nodes.specs.Nodes.{nodes_of}
use Rattle.gs_world.specs.Histories.{AtNode, arms, failures_of, history_of, seen_of, told}
use Rattle.gs_world.proofs.world.World.at_store.Goals as goal

pub returns-in-Lose-clause-at : goal.returns-in-Lose-clause-at
returns-in-Lose-clause-at g c =
    subst
    (λ (h : Happening). AtNode (seen_of g.D.Disk.seen) (failures_of g.D.Disk.failures) arms c.args.moment h (history_of c.args.self.now) (ids.Server c.in-Lose.server) (told c.lose-done.result)
    (nodes_of c.lose-done.new.nodes))
    (sym c.in-Lose.is) (refl, c.lose-done.ensures)

pub returns-in-Damage-clause-at : goal.returns-in-Damage-clause-at
returns-in-Damage-clause-at g c =
    subst
    (λ (h : Happening). AtNode (seen_of g.D.Disk.seen) (failures_of g.D.Disk.failures) arms c.args.moment h (history_of c.args.self.now) (ids.Server c.in-Damage.server) (told c.damage-done.result)
    (nodes_of c.damage-done.new.nodes))
    (sym c.in-Damage.is) (refl, c.damage-done.ensures)

-- ---- a crash

pub returns-in-Deliver-clause-survives : goal.returns-in-Deliver-clause-survives
returns-in-Deliver-clause-survives g c = λ is. absurd (cc (sym c.in-Deliver.is ∙ is))

pub returns-in-Tick-clause-survives : goal.returns-in-Tick-clause-survives
returns-in-Tick-clause-survives g c = λ is. absurd (cc (sym c.in-Tick.is ∙ is))

pub returns-in-Beat-clause-survives : goal.returns-in-Beat-clause-survives
returns-in-Beat-clause-survives g c = λ is. absurd (cc (sym c.in-Beat.is ∙ is))

pub returns-in-Lose-clause-survives : goal.returns-in-Lose-clause-survives
returns-in-Lose-clause-survives g c = λ is. absurd (cc (sym c.in-Lose.is ∙ is))

pub returns-in-Damage-clause-survives : goal.returns-in-Damage-clause-survives
returns-in-Damage-clause-survives g c = λ is. absurd (cc (sym c.in-Damage.is ∙ is))

pub returns-in-FailDisk-clause-survives : goal.returns-in-FailDisk-clause-survives
returns-in-FailDisk-clause-survives g c = λ is. absurd (cc (sym c.in-FailDisk.is ∙ is))

pub returns-in-Restart-clause-survives : goal.returns-in-Restart-clause-survives
returns-in-Restart-clause-survives g c = λ is. let same : c.in-Restart.node ≡ keepers.Master = cc (sym c.in-Restart.is ∙ is) in c.restart-done.ensures.survives same
