use Rattle.std.proofs.Common.{◌≡◌, ◌≢◌, ℕ, Some, ⊎_elim, sym, ◌∙◌, subst, arith, true≢false}
use Rattle.std.specs.Prelude.{slice_get}
use Rattle.std.proofs.lemmas.Bool.{cases_eq}
use Rattle.std.proofs.lemmas.Option.{slice_get_read, same_Some}
use Rattle.gs_cluster_node.specs.Nodes.{leads_of}
use Rattle.gs_cluster_node.proofs.Listing.{leads_at, leads_within}
use Rattle.gs_cluster_node.proofs.node.place_of.Goals as goal

pub loop-at-preserved : goal.loop-at-preserved
loop-at-preserved g c = λ i within h.
    let ways = c.args.ways.now in
    let way = c.index.result.now in
    let at = slice_get_read ways.items c.len-at-end.result c.loop-at.at way (c.len-at-end.ensures ∙ ways.ok.0) c.loop-at-test.true c.index.ensures in
    ⊎_elim
    (λ (e : i ≡ c.loop-at.at).
    let same : way.to ≡ c.args.me.now = same_Some way.to c.args.me.now (sym (leads_at ways.items c.loop-at.at way at) ∙ subst (λ (k : ℕ). slice_get (leads_of ways.items) k ≡ Some c.args.me.now) e h) in
    true≢false (sym (c.is_node.ensures.1 (c.to.ensures ∙ same)) ∙ c.if-is_node.false))
    (λ (d : i ≢ c.loop-at.at). c.loop-at.invariant i (omega arith) h)
    (cases_eq i c.loop-at.at)

pub unreachable-requires : goal.unreachable-requires
unreachable-requires g c =
    let long = c.len-at-end.ensures ∙ c.args.ways.now.ok.0 in
    let within = leads_within c.args.ways.now.items c.requires.0 c.args.me.now c.requires.1 in
    let over = c.loop-at-test.false in
    c.loop-at.invariant c.requires.0 (omega arith) c.requires.1
