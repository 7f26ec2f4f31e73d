use Rattle.std.proofs.Common.{◌∙◌, ap}
use Rattle.std.specs.FinMap as fin
use Rattle.gs_path.specs.Path.{text_cmp}
use Rattle.gs_master_order.specs.inner.Texts.{nodes_of}
use Rattle.gs_master_order.proofs.Nodes.{nodes_put}
use Rattle.gs_master_order.proofs.put.Goals as goal

pub returns : goal.returns
returns c =
    ap nodes_of c.in_ok-insert.ensures.entries ∙ nodes_put c.args.nodes.now.entries c.in_ok-path.path c.parts_of-path.result.1
    ∙ (λ i. fin.put text_cmp ((c.in_ok-path.ensures ∙ c.parts_of-path.ensures.path) i) (c.parts_of-path.ensures.chunks i) (nodes_of c.args.nodes.now.entries))
