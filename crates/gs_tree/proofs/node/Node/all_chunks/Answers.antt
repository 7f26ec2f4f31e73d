use Rattle.std.proofs.Common.{◌++◌, true, sym, ap, ◌∙◌}
use Rattle.std.specs.FinMap.{is_sorted}
use Rattle.gs_path.specs.Path.{path_cmp}
use Rattle.gs_tree.specs.Chunks.{all_chunks, kept_rows}
use Rattle.gs_tree.proofs.Gathering.{kept-all}
use Rattle.gs_tree.proofs.Under.{by_path-same}
use Rattle.gs_tree.proofs.node.Node.all_chunks.Goals as goal

pub returns : goal.returns
returns c =
    c.in_ok-collect.ensures.chunks ∙ ap (λ l. l ++ all_chunks (kept_rows true c.args.self.now)) c.new-found.ensures.items ∙ ap all_chunks (kept-all c.args.self.now)
    ∙ sym (ap all_chunks (by_path-same c.args.self.now (ap (is_sorted path_cmp) (sym (kept-all c.args.self.now)) ∙ c.in_ok-collect.ensures.rise)))
