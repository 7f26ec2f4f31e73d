use Rattle.std.proofs.Common.{cond, ◌≡◌, ◌++◌, ◌∷◌, [], ap, sym, ◌∙◌, subst, ℕ, List, refl}
use Rattle.std.specs.Prelude.{Err, Result}
use Rattle.gs_base.specs.declared.refusal.Refusal.{Refusal}
use Rattle.gs_base.specs.declared.refusal.Refusal.TheVariants.{Memory}
use Rattle.gs_path.specs.Path.{Path}
use Rattle.gs_tree.specs.Plain.{Plain}
use Rattle.gs_tree.specs.Find.{at}
use Rattle.gs_tree.specs.inner.Sort.{sort_of}
use Rattle.gs_tree.specs.Edits.{chunks_in, with_chunks}
use Rattle.gs_tree.specs.Follows.{FollowsPlain}
use Rattle.gs_tree.specs.Inverses.{TakesBack}
use Rattle.gs_tree.specs.declared.inverse.TreeInverse.{TreeInverse}
use Rattle.gs_tree.specs.declared.inverse.TreeInverse.TheVariants.{Added}
use Rattle.gs_tree.proofs.Chunks.{file_is, add-is, chunks_twice, chunks_restored, takes_added}
use Rattle.gs_tree.proofs.file_chunks.add_chunk_in.Goals as goal

pub returns-then-not-added-clause-edit : goal.returns-then-not-added-clause-edit
returns-then-not-added-clause-edit c =
    let file = file_is (at c.args.root.now c.args.path.now) (c.in-File.ensures.sort ∙ ap (λ p. sort_of (at c.args.root.now p)) c.elements.ensures) in
    let had = c.exchange-chunks.ensures.had ∙ ap (λ p. chunks_in (at c.args.root.now p)) c.elements-2.ensures in
    let same : c.push.new.self.items ≡ c.exchange-chunks.result.items = c.push.ensures.items ∙ ap (λ b. cond b (c.exchange-chunks.result.items ++ c.args.chunk ∷ []) c.exchange-chunks.result.items) (sym c.is_ok-added.ensures.value ∙ c.if-not-added.true) in
    subst (λ (r : Result (Plain ℕ) Refusal). FollowsPlain {I = TreeInverse} r (Err Memory) (at c.args.root.now) (at c.exchange.new.self)) (sym (add-is (at c.args.root.now) c.args.path.now c.args.chunk file)) (
      refl,
      chunks_restored c.args.path.now c.new.result.items c.push.new.self.items (at c.args.root.now) (at c.exchange-chunks.new.self) (at c.exchange.new.self) file
          (λ q. c.exchange-chunks.ensures.has q ∙ ap (λ p. with_chunks p c.new.result.items (at c.args.root.now) q) c.elements-2.ensures)
          (λ q. c.exchange.ensures.has q ∙ ap (λ p. with_chunks p c.push.new.self.items (at c.exchange-chunks.new.self) q) c.elements-3.ensures) (same ∙ had),
    )

pub returns-clause-undo : goal.returns-clause-undo
returns-clause-undo c =
    let file = file_is (at c.args.root.now c.args.path.now) (c.in-File.ensures.sort ∙ ap (λ p. sort_of (at c.args.root.now p)) c.elements.ensures) in
    let had = c.exchange-chunks.ensures.had ∙ ap (λ p. chunks_in (at c.args.root.now p)) c.elements-2.ensures in
    let more : c.push.new.self.items ≡ c.exchange-chunks.result.items ++ c.args.chunk ∷ [] = c.push.ensures.items ∙ ap (λ b. cond b (c.exchange-chunks.result.items ++ c.args.chunk ∷ []) c.exchange-chunks.result.items) (sym c.is_ok-added.ensures.value ∙ c.if-not-added.false) in
    let now = chunks_twice c.args.path.now c.new.result.items c.push.new.self.items (at c.args.root.now) (at c.exchange-chunks.new.self) (at c.exchange.new.self)
    (λ q. c.exchange-chunks.ensures.has q ∙ ap (λ p. with_chunks p c.new.result.items (at c.args.root.now) q) c.elements-2.ensures)
    (λ q. c.exchange.ensures.has q ∙ ap (λ p. with_chunks p c.push.new.self.items (at c.exchange-chunks.new.self) q) c.elements-3.ensures) in
    subst (λ (s : Path). TakesBack (Added s) (at c.args.root.now) (at c.exchange.new.self)) (sym c.in_ok-copy.ensures)
    (takes_added c.args.path.now c.args.chunk (at c.args.root.now) (at c.exchange.new.self) file (λ q. now q ∙ ap (λ (l : List ℕ). with_chunks c.args.path.now l (at c.args.root.now) q) (more ∙ ap (λ l. l ++ c.args.chunk ∷ []) had)))
