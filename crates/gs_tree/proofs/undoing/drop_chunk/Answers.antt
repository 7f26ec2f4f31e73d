use Rattle.std.proofs.Common.{◌≡◌, ◌<◌, ap, sym, ◌∙◌, refl, inr, arith, length, append-nil}
use Rattle.std.proofs.lemmas.Bool.{ltb-true}
use Rattle.gs_tree.specs.Find.{at}
use Rattle.gs_tree.specs.inner.Sort.{sort_of}
use Rattle.gs_tree.specs.Edits.{chunks_in, with_chunks}
use Rattle.gs_tree.proofs.Chunks.{file_is, chunks_restored}
use Rattle.gs_tree.proofs.undoing.drop_chunk.Goals as goal

pub returns-in-None-clause-undo : goal.returns-in-None-clause-undo
returns-in-None-clause-undo c =
    let file = file_is (at c.args.root.now c.args.path.now) (c.in-File.ensures.sort ∙ ap (λ p. sort_of (at c.args.root.now p)) c.elements.ensures) in
    let had = c.exchange-chunks.ensures.had ∙ ap (λ p. chunks_in (at c.args.root.now p)) c.elements-2.ensures in
    let len : length c.exchange-chunks.result.items ≡ length (chunks_in (at c.args.root.now c.args.path.now)) = ap length had in
    let same : c.pop-dropped.new.self.items ≡ c.exchange-chunks.result.items = sym (append-nil c.pop-dropped.new.self.items) ∙ sym c.in-None.ensures.items in (
      inr (refl, λ fits. let some : 0 < length (chunks_in (at c.args.root.now c.args.path.now)) = ltb-true 0 _ fits in let l : 0 < length c.exchange-chunks.result.items = omega arith in absurd (let no_chunk = c.in-None.ensures.variant.1 (let ok = c.exchange-chunks.result.ok in omega arith) in cc)),
      chunks_restored c.args.path.now c.new.result.items c.pop-dropped.new.self.items (at c.args.root.now) (at c.exchange-chunks.new.self) (at c.exchange.new.self) file
          (λ q. c.exchange-chunks.ensures.has q ∙ ap (λ p. with_chunks p c.new.result.items (at c.args.root.now) q) c.elements-2.ensures)
          (λ q. c.exchange.ensures.has q ∙ ap (λ p. with_chunks p c.pop-dropped.new.self.items (at c.exchange-chunks.new.self) q) c.elements-3.ensures) (same ∙ had),
    )
