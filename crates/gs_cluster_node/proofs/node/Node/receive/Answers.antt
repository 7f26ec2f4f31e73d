use Rattle.std.proofs.Common.{◌<◌, Option, ap, ◌∙◌, subst, arith}
use Rattle.gs_msg.specs.declared.sent.Sent.{Sent}
use Rattle.gs_cluster_channel.specs.Settled.{Hearing, hears}
use Rattle.gs_cluster_history.specs.Setting.{all_ids}
use Rattle.gs_cluster_history.specs.declared.took.Took.TheVariants.{Heard}
use Rattle.gs_cluster_history.specs.Histories.{Kept}
use Rattle.gs_cluster_node.specs.Nodes.{Stepped}
use Rattle.gs_cluster_node.proofs.Stepping.{has_stepped, kept_as, stays_sound}
use Rattle.gs_cluster_node.proofs.node.Node.receive.Goals as goal

pub invariant_of-self-2 : goal.invariant_of-self-2
invariant_of-self-2 g c =
    let inside = c.self.inside in
    let old = kept_as inside.me inside.core inside.clock inside.diary.log.sent inside.diary.log.entries in
    let next = c.above.ensures in
    let later : inside.clock < c.above.result = omega arith in
    let may : c.in-Some.sent.clock < c.above.result = omega arith in
    let took = c.take.ensures ∙ ap (λ (o : Option Sent). hears o inside.ear) c.in-Some.is in
    let stepped = has_stepped g.C.Core.Does old (Heard c.in-Some.sent) c.above.result c.go-said.result c.go-said.new.core c.go-said.new.diary.log.entries c.go-said.new.diary.log.sent c.go-said.ensures.goes later next may in (
      stays_sound g.C.Core.Does (g.C.Core.Starts g.N.Plan.setting) (all_ids g.N.Plan.setting) old (Heard c.in-Some.sent) c.go-said.result c.go-said.new.core c.above.result c.go-said.new.diary.log.entries c.go-said.new.diary.log.sent
          inside.ways.items c.go-said.new.ways.items inside.ear c.take.new.self
          c.self.invariant.0 stepped c.go-said.ensures.routes (ap (λ (e : Hearing). e.taken) took) (ap (λ (e : Hearing). e.me) took) (ap (λ (e : Hearing). e.parts) took),
      c.go-said.ensures.agrees,
    )

pub returns : goal.returns
returns g c =
    let inside = c.self.inside in
    let old = kept_as inside.me inside.core inside.clock inside.diary.log.sent inside.diary.log.entries in
    let next = c.above.ensures in
    let later : inside.clock < c.above.result = omega arith in
    let may : c.in-Some.sent.clock < c.above.result = omega arith in
    let stepped = has_stepped g.C.Core.Does old (Heard c.in-Some.sent) c.above.result c.go-said.result c.go-said.new.core c.go-said.new.diary.log.entries c.go-said.new.diary.log.sent c.go-said.ensures.goes later next may in (
      c.in-Some.sent,
      subst (λ (o : Kept g.row.C.Denot). Stepped g.C.Core.Does o (Heard c.in-Some.sent) c.go-said.result (kept_as inside.me c.go-said.new.core c.above.result c.go-said.new.diary.log.sent c.go-said.new.diary.log.entries)) c.self.view_is stepped,
    )
