use Rattle.std.proofs.Common.{◌≡◌, ◌≤◌, length, ap, sym, subst, ◌∙◌, arith}
use Rattle.gs_block.specs.Stored.{Stored, count_of}
use Rattle.gs_block.specs.Images.{Images}
use Rattle.gs_block.proofs.Following.{stays_stored}
use Rattle.gs_block.proofs.Restoring.{long_bytes}
use Rattle.gs_block.proofs.blocks.Blocks.restore.Goals as goal

pub invariant_of-self : goal.invariant_of-self
invariant_of-self c =
    let inside = c.self.inside in
    let images : Images = c.args.images in
    let bytes = c.put_back.new.bytes.items in
    let is : length bytes ≡ c.images.inside.long = ap length c.put_back.ensures ∙ long_bytes inside.block c.images.inside.long c.deref.result.now inside.bytes.items in
    let same = ap (λ (i : Images). i.long) c.images.view_is in
    let within : images.long ≤ length inside.bytes.items = subst (λ (t : Stored). images.long ≤ length t.bytes) (sym c.self.view_is) c.requires.within in
    let fit = c.self.invariant.bytes_fit in
    stays_stored inside.block inside.chunk inside.bytes.items bytes inside.digests.items c.images.inside.digests.items c.self.invariant
    (let l : length bytes ≤ inside.chunk = omega arith in l)
    (ap (λ (i : Images). length i.digests) c.images.view_is ∙ c.requires.each ∙ ap (λ (t : Stored). count_of t.block images.long) (sym c.self.view_is) ∙ ap (count_of inside.block) (sym (is ∙ same)))
