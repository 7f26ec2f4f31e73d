use Rattle.std.proofs.Common.{◌∙◌, ◌++◌, ◌∷◌, [], ap, sym, append_assoc}
use Rattle.std.proofs.lemmas.List.{map-append}
use Rattle.gs_msg.specs.declared.node.NodeId.TheVariants as ids
use Rattle.gs_server.specs.Servers as servers
use Rattle.gs_cluster_core.specs.declared.role.Role.TheVariants.{Server as AServer}
use Rattle.gs_cluster.specs.inner.Seeds.{row_of, rows_of, server_rows}
use Rattle.gs_cluster.proofs.Rows.{found_number, one_more_row}
use Rattle.gs_cluster.proofs.opening.seed_servers.Goals as goal

pub loop-number-preserved : goal.loop-number-preserved
loop-number-preserved g c =
    let config = c.args.config in
    let n = c.loop-number.number in
    let before = c.loop-number.seeds.items in
    let made = servers.new n config.block config.chunk in
    let id = found_number c.new.result _ _ c.new.ensures.number c.unwrap-id.ensures in
    let row =
    c.in_ok-seed_of.ensures
    ∙ ap (λ k. (ids.Server k, (AServer c.in_ok-new.field-0, []))) id
    ∙ ap (λ s. (ids.Server n, (AServer s, []))) (c.in_ok-new.ensures ∙ ap (λ k. servers.new k config.block config.chunk) id) in
    ap rows_of c.in_ok-push.ensures.items ∙ map-append row_of before (c.in_ok-seed_of.field-0 ∷ [])
    ∙ ap (λ r. rows_of before ++ r ∷ []) row
    ∙ ap (λ rs. rs ++ (ids.Server n, (AServer made, [])) ∷ []) c.loop-number.invariant
    ∙ append_assoc (rows_of c.args.seeds.now.items) (server_rows config n) ((ids.Server n, (AServer made, [])) ∷ [])
    ∙ ap (λ rs. rows_of c.args.seeds.now.items ++ rs) (sym (one_more_row config n))
