use Rattle.std.proofs.Common.{◌≡◌, ◌+◌, ◌-◌, ◌*◌, ◌<◌, ◌≤◌, length, min, ap, sym, subst, ◌∙◌, arith, rules}
use Rattle.std.specs.Prelude.{None}
use Rattle.gs_block.specs.Stored.{count_of}
use Rattle.gs_block.specs.Images.{IsImage}
use Rattle.gs_block.specs.Inside.{put_image}
use Rattle.gs_block.proofs.Counts.{starts}
use Rattle.gs_block.proofs.Restoring.{PutTo, put_none, put_more, put_all, image_fits}
use Rattle.gs_block.proofs.Sealed.{same_default}
use Rattle.gs_block.proofs.images.put_back.Goals as goal

pub loop-index-init : goal.loop-index-init
loop-index-init c = put_none c.args.size c.args.long c.args.images.now c.args.bytes.now.items

pub overflow_mul-index : goal.overflow_mul-index
overflow_mul-index c =
    let counted = c.requires.counted in
    let below = c.loop-index-test.true in
    let begins = starts c.args.size c.args.long c.loop-index.index c.requires.some (let l : c.loop-index.index < count_of c.args.size c.args.long = omega arith in l) in
    let within = c.requires.within in
    let fit = c.requires.bytes_fit in
    let bound : c.loop-index.index * c.args.size ≤ 67108864 = omega arith in
    search rules

pub put_image-requires : goal.put_image-requires
put_image-requires c =
    let size = c.args.size in
    let long = c.args.long in
    let index = c.loop-index.index in
    let images = c.args.images.now in
    let counted = c.requires.counted in
    let inside = c.loop-index-test.true in
    let below : index < length images = omega arith in
    let image = c.index-images-index.is ∙ same_default images index c.index-images-index.result None below in
    let begins = starts size long index c.requires.some (let l : index < count_of size long = omega arith in l) in
    let within = c.requires.within in
    let same = c.loop-index.invariant.same in
    image_fits (min size (long - index * size)) (index * size) c.index-images-index.result c.loop-index.bytes.items
    (subst (IsImage (min size (long - index * size))) (sym image) (c.requires.whole index below)) (omega arith)

pub loop-index-preserved : goal.loop-index-preserved
loop-index-preserved c =
    let size = c.args.size in
    let long = c.args.long in
    let index = c.loop-index.index in
    let images = c.args.images.now in
    let inside = c.loop-index-test.true in
    let below : index < length images = omega arith in
    let image = c.index-images-index.is ∙ same_default images index c.index-images-index.result None below in
    subst (λ xs. PutTo size long images c.args.bytes.now.items xs (index + 1)) (sym (c.put_image.ensures ∙ ap (put_image c.loop-index.bytes.items (index * size)) image))
    (put_more size long images c.args.bytes.now.items c.loop-index.bytes.items index c.requires.some c.requires.counted c.requires.within below (c.requires.whole index below) c.loop-index.invariant)

pub returns : goal.returns
returns c =
    let images = c.args.images.now in
    let past = c.loop-index-test.false in
    let end = c.loop-index.auto.index-end in
    let all : c.loop-index.index ≡ length images = omega arith in
    c.truncate.ensures.items
    ∙ put_all c.args.size c.args.long images c.args.bytes.now.items c.loop-index.bytes.items c.requires.some c.requires.counted c.requires.within
    (subst (PutTo c.args.size c.args.long images c.args.bytes.now.items c.loop-index.bytes.items) all c.loop-index.invariant)
