use Rattle.std.proofs.Common.{◌≡◌, ◌+◌, ◌<◌, ◌≤◌, ◌-◌, [], ◌∷◌, ◌++◌, length, ap, sym, ◌∙◌, arith}
use Rattle.std.specs.Prelude.{None}
use Rattle.std.proofs.lemmas.List.FromFn.{map-range_with_len_more}
use Rattle.gs_block.specs.Images.{copies_from, missing_at, missing_of, block_before}
use Rattle.gs_block.proofs.Sealed.{same_default}
use Rattle.gs_block.proofs.images.missing_copies.Goals as goal

pub loop-index-preserved : goal.loop-index-preserved
unfolding missing_at
loop-index-preserved c =
    let size = c.args.sealed.size in
    let first = c.args.first in
    let index = c.loop-index.index in
    let f = missing_at size c.args.sealed.long c.args.images.now c.args.sealed.bytes.now in
    let low : first ≤ index = c.loop-index.auto.index in
    let next : index - first + 1 ≡ index + 1 - first = omega arith in
    let below : index < length c.args.images.now = omega arith in
    let image = c.index-images-index.is ∙ same_default c.args.images.now index c.index-images-index.result None below in
    record {
      within = omega arith;
      copies = c.in_ok-push.ensures.items
          ∙ ap (λ xs. xs ++ c.in_ok-copy.copy ∷ []) c.loop-index.invariant.copies
          ∙ ap (λ o. copies_from size c.args.sealed.long c.args.images.now c.args.sealed.bytes.now first (index - first) ++ o ∷ []) (c.in_ok-copy.ensures ∙ ap (λ o. missing_of o (block_before size c.args.sealed.long index c.args.sealed.bytes.now)) image)
          ∙ sym (map-range_with_len_more f first (index - first) index (omega arith))
          ∙ ap (copies_from size c.args.sealed.long c.args.images.now c.args.sealed.bytes.now first) next;
    }

pub returns : goal.returns
returns c =
    let low = c.loop-index.auto.index in
    let within = c.loop-index.invariant.within in
    let past = c.loop-index-test.false in
    let e : c.loop-index.index - c.args.first ≡ c.args.last - c.args.first = omega arith in
    c.loop-index.invariant.copies ∙ ap (copies_from c.args.sealed.size c.args.sealed.long c.args.images.now c.args.sealed.bytes.now c.args.first) e
