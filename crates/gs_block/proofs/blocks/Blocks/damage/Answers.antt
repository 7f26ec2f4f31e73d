use Rattle.std.proofs.Common.{◌≡◌, ◌+◌, ◌*◌, ◌%◌, ◌<◌, length, get_or, ap, subst, ◌∙◌, arith}
use Rattle.gs_block.specs.Stored.{Stored}
use Rattle.gs_block.proofs.Counts.{starts}
use Rattle.gs_block.specs.Kept.{Others}
use Rattle.gs_block.proofs.Damaging.{damaged, with_byte}
use Rattle.gs_block.proofs.Others.{byte_others}
use Rattle.gs_block.proofs.Sealed.{same_default}
use Rattle.gs_block.proofs.blocks.Blocks.damage.Goals as goal

pub returns-clause-images : goal.returns-clause-images
returns-clause-images c = λ i first.
    let inside : Stored = record { block = c.self.inside.block; chunk = c.self.inside.chunk; bytes = c.self.inside.bytes.items; digests = c.self.inside.digests.items } in
    let at = c.args.block * inside.block in
    let each = c.self.invariant.each in
    let many = c.len.ensures ∙ c.self.inside.digests.ok.0 in
    let counted : c.args.block < length inside.digests = (let less = c.if-index-len.false in omega arith) in
    let below : at < length inside.bytes = starts inside.block (length inside.bytes) c.args.block c.self.invariant.some_block (omega arith) in
    let byte : c.index.result.now ≡ get_or inside.bytes at 0 = c.index.ensures ∙ same_default inside.bytes at c.index.result.now 0 below in
    damaged i c.args.self.now _ c.args.block first
    (subst (λ (t : Stored). c.args.block < length t.digests) c.self.view_is counted)
    (subst (λ (t : Stored). with_byte inside at ((c.index.result.now + 1) % 256) ≡ with_byte t (c.args.block * t.block) ((get_or t.bytes (c.args.block * t.block) 0 + 1) % 256)) c.self.view_is
    (ap (λ x. with_byte inside at ((x + 1) % 256)) byte))

pub returns-clause-others : goal.returns-clause-others
returns-clause-others c =
    let inside : Stored = record { block = c.self.inside.block; chunk = c.self.inside.chunk; bytes = c.self.inside.bytes.items; digests = c.self.inside.digests.items } in
    let v = (c.index.result.now + 1) % 256 in
    subst (λ (t : Stored). Others c.args.block t (with_byte inside (c.args.block * inside.block) v)) c.self.view_is (byte_others inside c.args.block v c.self.invariant.some_block)
