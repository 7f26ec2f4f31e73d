use Rattle.std.proofs.Common.{ap, sym, ◌∙◌, subst}
use Rattle.gs_path.specs.Path.{Path}
use Rattle.gs_tree.specs.Find.{at}
use Rattle.gs_tree.specs.inner.Sort.{sort_of}
use Rattle.gs_tree.specs.Inverses.{TakesBack}
use Rattle.gs_tree.specs.declared.inverse.TreeInverse.TheVariants.{Changed}
use Rattle.gs_tree.proofs.Chunks.{file_is, takes_changed}
use Rattle.gs_tree.proofs.file_chunks.set_chunk_in.Goals as goal

pub returns-in-Ok-clause-undo : goal.returns-in-Ok-clause-undo
returns-in-Ok-clause-undo c =
    let file = file_is (at c.args.root.now c.args.path.now) (c.in-File.ensures.sort ∙ ap (λ p. sort_of (at c.args.root.now p)) c.elements.ensures) in
    subst (λ (s : Path). TakesBack (Changed s c.args.index c.in-Ok.old) (at c.args.root.now) (at c.swap_chunk.new.root)) (sym c.in_ok-copy.ensures)
    (takes_changed c.args.path.now c.args.index c.args.chunk c.in-Ok.old (at c.args.root.now) (at c.swap_chunk.new.root) file c.in-Ok.ensures)
