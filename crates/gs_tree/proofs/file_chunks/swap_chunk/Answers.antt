use Rattle.std.proofs.lemmas.Option.{slice_get_read}
use Rattle.std.proofs.Common.{◌≡◌, ap, ◌∙◌, ℕ, List, refl, get_or, set, length, arith}
use Rattle.std.proofs.lemmas.Bool.{lt-ltb, le-ltb}
use Rattle.std.proofs.lemmas.List.{set-set, set-get_or}
use Rattle.gs_tree.specs.Find.{at}
use Rattle.gs_tree.specs.Edits.{chunks_in, with_chunks}
use Rattle.gs_tree.proofs.Chunks.{chunks_twice, chunks_restored}
use Rattle.gs_tree.proofs.file_chunks.swap_chunk.Goals as goal

pub returns-then-index-len : goal.returns-then-index-len
returns-then-index-len c =
    let had = c.exchange-chunks.ensures.had ∙ ap (λ p. chunks_in (at c.args.root.now p)) c.elements.ensures in
    let len : length c.exchange-chunks.result.items ≡ length (chunks_in (at c.args.root.now c.args.path.now)) = ap length had in (
      refl,
      le-ltb c.args.index (length (chunks_in (at c.args.root.now c.args.path.now))) (omega arith),
      chunks_restored c.args.path.now c.new.result.items c.exchange-chunks.result.items (at c.args.root.now) (at c.exchange-chunks.new.self) (at c.exchange.new.self) c.requires
          (λ q. c.exchange-chunks.ensures.has q ∙ ap (λ p. with_chunks p c.new.result.items (at c.args.root.now) q) c.elements.ensures)
          (λ q. c.exchange.ensures.has q ∙ ap (λ p. with_chunks p c.exchange-chunks.result.items (at c.exchange-chunks.new.self) q) c.elements-then-index-len.ensures) had,
    )

pub returns : goal.returns
returns c =
    let had = c.exchange-chunks.ensures.had ∙ ap (λ p. chunks_in (at c.args.root.now p)) c.elements.ensures in
    let cs = chunks_in (at c.args.root.now c.args.path.now) in
    let len : length c.exchange-chunks.result.items ≡ length cs = ap length had in
    let own : c.index-had.result.now ≡ get_or cs c.args.index c.index-had.result.now = c.index-had.ensures ∙ ap (λ l. get_or l c.args.index c.index-had.result.now) had in (
      lt-ltb c.args.index (length cs) (omega arith),
      ap (set (set cs c.args.index c.args.chunk) c.args.index) own ∙ set-set cs c.args.index c.args.chunk (get_or cs c.args.index c.index-had.result.now) ∙ set-get_or cs c.args.index c.index-had.result.now,
      λ q. chunks_twice c.args.path.now c.new.result.items (set c.exchange-chunks.result.items c.args.index c.args.chunk) (at c.args.root.now) (at c.exchange-chunks.new.self) (at c.exchange-2.new.self)
          (λ r. c.exchange-chunks.ensures.has r ∙ ap (λ p. with_chunks p c.new.result.items (at c.args.root.now) r) c.elements.ensures)
          (λ r. c.exchange-2.ensures.has r ∙ ap (λ p. with_chunks p (set c.exchange-chunks.result.items c.args.index c.args.chunk) (at c.exchange-chunks.new.self) r) c.elements-2.ensures) q
          ∙ ap (λ (l : List ℕ). with_chunks c.args.path.now (set l c.args.index c.args.chunk) (at c.args.root.now) q) had,
      slice_get_read cs (length cs) c.args.index c.index-had.result.now refl (omega arith) own,
    )
