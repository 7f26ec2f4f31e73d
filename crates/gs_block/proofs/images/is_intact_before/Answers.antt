use Rattle.std.proofs.Common.{◌≡◌, ◌<◌, [], length, get_or, ap, ◌∙◌, arith}
use Rattle.std.specs.Prelude.{None}
use Rattle.std.specs.Str.{bytes_eq}
use Rattle.sha2.specs.Sha256.{sha256}
use Rattle.gs_block.specs.Images.{block_before}
use Rattle.gs_block.specs.Inside.{image_or}
use Rattle.gs_block.proofs.Restoring.{intact_before}
use Rattle.gs_block.proofs.Sealed.{same_default}
use Rattle.gs_block.proofs.images.is_intact_before.Goals as goal

pub returns : goal.returns
returns c =
    let size = c.args.sealed.size in
    let long = c.args.sealed.long in
    let index = c.args.index in
    let images = c.args.images.now in
    let counted = c.requires.counted in
    let each = c.requires.each in
    let inside = c.requires.below in
    let below : index < length images = omega arith in
    let image = c.index-images-index.is ∙ same_default images index c.index-images-index.result None below in
    let digest : c.digest_before-digest.result ≡ sha256 (image_or (get_or images index None) (block_before size long index c.args.sealed.bytes.now)) =
    c.digest_before-digest.ensures ∙ ap (λ o. sha256 (image_or o (block_before size long index c.args.sealed.bytes.now))) image in
    c.is_same.ensures
    ∙ ap (λ d. bytes_eq d (get_or c.args.digests.now index [])) digest
    ∙ intact_before size long index images c.args.sealed.bytes.now c.args.digests.now c.args.sealed.some c.args.sealed.within (c.requires.whole index below)
