use Rattle.gs_tree.specs.Find.{at}
use Rattle.gs_tree.proofs.Removals.{back_in, root_stays}
use Rattle.gs_tree.proofs.removing.put_back_in.Goals as goal

pub returns-then-is_root : goal.returns-then-is_root
returns-then-is_root c q = root_stays (at c.args.root.now) (at c.args.node) c.args.path.now q (c.is_root.ensures.0 c.if-is_root.true)

pub returns : goal.returns
returns c =
    back_in (at c.args.root.now) (at c.replace.new.self) (at c.args.node) c.args.path.now c.elements.result.now _ c.elements.ensures (λ z. let t = c.is_root.ensures.1 z in cc) c.replace.ensures.found c.replace.ensures.now
