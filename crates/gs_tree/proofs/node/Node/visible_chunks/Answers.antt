use Rattle.std.proofs.Common.{◌++◌, false, sym, ap, ◌∙◌}
use Rattle.gs_tree.specs.Chunks.{all_chunks, kept_rows}
use Rattle.gs_tree.proofs.Under.{by_path-same}
use Rattle.gs_tree.proofs.node.Node.visible_chunks.Goals as goal

pub returns : goal.returns
returns c =
    c.in_ok-collect.ensures.chunks ∙ ap (λ l. l ++ all_chunks (kept_rows false c.args.self.now)) c.new-found.ensures.items
    ∙ sym (ap all_chunks (by_path-same (kept_rows false c.args.self.now) c.in_ok-collect.ensures.rise))
