use Rattle.std.proofs.Common.{◌≡◌, List, sym, ap, ◌∙◌, subst}
use Rattle.std.specs.Prelude.{slice_get}
use Rattle.crossbeam_channel.specs.Claims.{view}
use Rattle.gs_msg.specs.declared.node.NodeId.{NodeId}
use Rattle.gs_cluster_history.specs.Histories.{Among}
use Rattle.gs_cluster_channel.specs.Settled.{Putting}
use Rattle.gs_cluster_channel.specs.declared.hand.Hand.{Hand}
use Rattle.gs_cluster_channel.proofs.Settling.{Pooled, one_pooled}
use Rattle.gs_cluster_channel.proofs.ear.settle.Goals as goal

pub join-requires : goal.join-requires
join-requires g c =
    let e = c.in-Some.ensures.steps.0 in
    let among : Among c.args.ways.items c.in-Some.way = c.loop-way.invariant.1.rest c.in-Some.way (0, ap (λ (l : List Putting). slice_get l 0) e) in
    let same : c.way.inside.to ≡ c.ear.inside.me =
    ap (λ (w : Putting). w.to) c.way.view_is ∙ c.requires c.in-Some.way among ∙ ap (λ h. h.me) (sym c.ear.view_is) in
    record {
      seat = (
        c.loop-way.invariant.0,
        (
          c.way.invariant.2.0 ∙ ap (λ (n : NodeId). (g.N.Naming.names n).table) same ∙ sym c.ear.invariant.5.0 ∙ c.ear.invariant.0.0,
          c.way.invariant.2.1 ∙ ap (λ (n : NodeId). (g.N.Naming.names n).key) same ∙ sym c.ear.invariant.5.1 ∙ c.ear.invariant.0.1,
          c.way.invariant.0.2,
          c.ear.invariant.0.3,
        ),
      );
    }

pub loop-way-preserved : goal.loop-way-preserved
loop-way-preserved g c =
    let e = c.in-Some.ensures.steps.0 in
    let all = c.args.ways.items in
    let rest = c.next.new.self.rest.items in
    let first = view c.ear.inside.pass in
    let v = view c.loop-way.pass in
    let u = view c.way.inside.pass in (
      c.join.ensures.seat,
      subst (λ (h : Hand). Pooled all rest first h) (sym c.join.ensures.joined)
          (one_pooled all rest c.in-Some.way first v u c.way.invariant.1 (ap (λ (w : Putting). w.put) c.way.view_is)
          (subst (λ (l : List Putting). Pooled all l first v) e c.loop-way.invariant.1)),
    )
