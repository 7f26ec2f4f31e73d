use Rattle.std.proofs.Common.{◌+◌, ◌<◌, refl, sym, arith, append-nil}
use Rattle.gs_cluster_history.specs.Setting.{all_ids}
use Rattle.gs_cluster_history.specs.declared.took.Took.TheVariants.{Did}
use Rattle.gs_cluster_node.proofs.Stepping.{has_stepped, kept_as, stays_sound}
use Rattle.gs_cluster_node.proofs.node.Node.step.Goals as goal

pub invariant_of-self : goal.invariant_of-self
invariant_of-self g c =
    let inside = c.self.inside in
    let old = kept_as inside.me inside.core inside.clock inside.diary.log.sent inside.diary.log.entries in
    let later : inside.clock < inside.clock + 1 = omega arith in
    let stepped = has_stepped g.C.Core.Does old (Did c.args.event) (inside.clock + 1) c.go.result c.go.new.core c.go.new.diary.log.entries c.go.new.diary.log.sent c.go.ensures.goes later refl (c.if-not-is_of.ensures.0 refl) in (
      stays_sound g.C.Core.Does (g.C.Core.Starts g.N.Plan.setting) (all_ids g.N.Plan.setting) old (Did c.args.event) c.go.result c.go.new.core (inside.clock + 1) c.go.new.diary.log.entries c.go.new.diary.log.sent
          inside.ways.items c.go.new.ways.items inside.ear inside.ear
          c.self.invariant.0 stepped c.go.ensures.routes (sym (append-nil inside.ear.taken)) refl refl,
      c.go.ensures.agrees,
    )
