use Rattle.std.proofs.Common.{◌≡◌, ◌+◌, ℕ, [], length, subst, sym, ap, ◌∙◌, min, arith}
use Rattle.std.specs.Prelude.{◌==◌, false}
use Rattle.std.proofs.lemmas.Bool.Decides.{nat_tests}
use Rattle.gs_block.specs.Chunk.{written}
use Rattle.gs_block.specs.Stored.{Stored, IsStored}
use Rattle.gs_block.specs.Edits.{changed}
use Rattle.gs_base.specs.Calls.{Follows}
use Rattle.gs_block.specs.Inverses.{undo}
use Rattle.gs_block.specs.declared.inverse.BlockInverse.{BlockInverse}
use Rattle.gs_block.proofs.Following.{pad_follows}
use Rattle.gs_block.proofs.Back.{stays_back}
use Rattle.gs_block.proofs.blocks.Blocks.pad.Goals as goal

differ : (m n : ℕ) → (m ≡ n → ⊥) → (m == n) ≡ false
differ m n h = grind (arith, nat_tests)

pub returns-then-held-self-clause-undo : goal.returns-then-held-self-clause-undo
returns-then-held-self-clause-undo c =
    let s : Stored = c.args.self.now in
    let stored : IsStored s = subst IsStored c.self.view_is c.self.invariant in
    let held : c.len-held.result ≡ length s.bytes = c.len-held.ensures ∙ c.self.inside.bytes.ok.0 ∙ ap (λ (t : Stored). length t.bytes) c.self.view_is in
    ap (λ i. undo i s) c.in_ok-inverse.ensures ∙ stays_back s c.len-held.result stored held

pub returns-clause-edit : goal.returns-clause-edit
returns-clause-edit c =
    let s : Stored = c.args.self.now in
    let stored : IsStored s = subst IsStored c.self.view_is c.self.invariant in
    let chunk : c.self.inside.chunk ≡ s.chunk = ap (λ (t : Stored). t.chunk) c.self.view_is in
    let held : c.len-held.result ≡ length s.bytes = c.len-held.ensures ∙ c.self.inside.bytes.ok.0 ∙ ap (λ (t : Stored). length t.bytes) c.self.view_is in
    pad_follows BlockInverse c.put.result s c.put.new.self
    (differ (length s.bytes) s.chunk (λ (e : length s.bytes ≡ s.chunk). c.if-held-self.false (held ∙ e ∙ sym chunk)))
    stored.bytes_fit
    (subst (λ n. Follows {B = BlockInverse} (changed s (min n (length s.bytes)) (n + 0) (written n [] s.bytes)) c.put.result s c.put.new.self) chunk c.put.ensures.edit)
