use Rattle.std.proofs.Common.{◌≡◌, ◌+◌, length, subst, sym, ap, ◌∙◌, min}
use Rattle.gs_block.specs.Chunk.{written}
use Rattle.gs_block.specs.Stored.{Stored}
use Rattle.gs_block.specs.Edits.{changed, is_outside}
use Rattle.gs_base.specs.Calls.{Follows}
use Rattle.gs_block.specs.declared.inverse.BlockInverse.{BlockInverse}
use Rattle.gs_block.proofs.Following.{append_follows}
use Rattle.gs_block.proofs.blocks.Blocks.append.Goals as goal

pub returns-clause-edit : goal.returns-clause-edit
returns-clause-edit c =
    let s : Stored = c.args.self.now in
    let piece = c.args.piece.now in
    let held : c.len-held.result ≡ length s.bytes = c.len-held.ensures ∙ c.self.inside.bytes.ok.0 ∙ ap (λ (t : Stored). length t.bytes) c.self.view_is in
    append_follows BlockInverse c.put.result s c.put.new.self piece
    (ap (λ h. is_outside s h piece) (sym held) ∙ sym c.is_outside.ensures ∙ c.if-is_outside.false)
    (subst (λ h. Follows {B = BlockInverse} (changed s (min h (length s.bytes)) (h + length piece) (written h piece s.bytes)) c.put.result s c.put.new.self) held c.put.ensures.edit)
