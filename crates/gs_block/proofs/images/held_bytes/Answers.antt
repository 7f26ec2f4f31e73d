use Rattle.std.proofs.Common.{◌≡◌, ◌+◌, ◌<◌, ◌≤◌, [], length, take, map, get_or, refl, ap, sym, ◌∙◌, arith, rules}
use Rattle.std.specs.Prelude.{None, is_some}
use Rattle.gs_block.specs.Images.{image_bytes}
use Rattle.gs_block.specs.Inside.{image_or}
use Rattle.gs_block.proofs.Holding.{at_most, held_more, held_all}
use Rattle.gs_block.proofs.Sealed.{same_default}
use Rattle.gs_block.proofs.images.held_bytes.Goals as goal

pub loop-index-init : goal.loop-index-init
loop-index-init c = refl

pub overflow_add-many : goal.overflow_add-many
overflow_add-many c =
    let size = c.args.size in
    let long = c.args.long in
    let index = c.loop-index.index in
    let images = c.args.images.now in
    let inside = c.loop-index-test.true in
    let below : index < length images = omega arith in
    let image = c.index-images-index.is ∙ same_default images index c.index-images-index.result None below in
    let len : c.len_of-many.result ≡ length (image_or (get_or images index None) []) = c.len_of-many.ensures ∙ ap (λ o. length (image_or o [])) image in
    let more = held_more size long index images below (c.requires.whole index below) in
    let most = at_most size long 0 (map is_some (take (index + 1) images)) in
    let sofar = c.loop-index.invariant in
    let bound : c.loop-index.many + c.len_of-many.result ≤ long = omega arith in
    let fits = c.ranges.long.fits in
    search rules

pub loop-index-preserved : goal.loop-index-preserved
loop-index-preserved c =
    let size = c.args.size in
    let long = c.args.long in
    let index = c.loop-index.index in
    let images = c.args.images.now in
    let inside = c.loop-index-test.true in
    let below : index < length images = omega arith in
    let image = c.index-images-index.is ∙ same_default images index c.index-images-index.result None below in
    let len : c.len_of-many.result ≡ length (image_or (get_or images index None) []) = c.len_of-many.ensures ∙ ap (λ o. length (image_or o [])) image in
    ap (λ n. n + c.len_of-many.result) c.loop-index.invariant
    ∙ ap (λ n. image_bytes size long 0 (map is_some (take index images)) + n) len
    ∙ sym (held_more size long index images below (c.requires.whole index below))

pub returns-clause-bytes : goal.returns-clause-bytes
returns-clause-bytes c =
    let past = c.loop-index-test.false in
    c.loop-index.invariant ∙ held_all c.args.size c.args.long c.args.images.now c.loop-index.index (omega arith)

pub returns-clause-at_most : goal.returns-clause-at_most
returns-clause-at_most c =
    let most = at_most c.args.size c.args.long 0 (map is_some (take c.loop-index.index c.args.images.now)) in
    let sofar = c.loop-index.invariant in
    omega arith
