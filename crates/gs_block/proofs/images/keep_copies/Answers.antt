use Rattle.std.proofs.Common.{◌≡◌, ◌+◌, ◌<◌, [], ◌∷◌, length, length-append, length-set, ap, ◌∙◌, arith, refl, ℕ, suc, get_or, set}
use Rattle.std.specs.Prelude.{None}
use Rattle.gs_block.specs.Inside.{kept_images, or_else}
use Rattle.gs_block.proofs.Sealed.{kept_none, kept_more, same_default}
use Rattle.gs_block.proofs.images.keep_copies.Goals as goal

next : (n : ℕ) → suc n ≡ n + 1
next n = omega arith

pub loop-copy-init : goal.loop-copy-init
loop-copy-init c = record {
  at = omega arith;
  room = (let e : c.into_iter-copy-iterator.result.rest.items ≡ c.args.copies.items = c.into_iter-copy-iterator.ensures.into_iter_gives.0 in let l = ap length e in omega arith);
  long = refl;
  kept = kept_none c.args.images.now c.args.first;
}

pub loop-copy-preserved : goal.loop-copy-preserved
loop-copy-preserved c =
    let images = c.loop-copy.images in
    let index = c.loop-copy.index in
    let copy = c.in-Some.copy in
    let rest = c.next.new.self.rest.items in
    let kept = kept_images c.args.images.now c.args.first c.loop-copy.yielded in
    let more : length c.loop-copy.copy-iterator.rest.items ≡ length rest + 1 = ap length c.in-Some.ensures.steps.0 ∙ next (length rest) in
    let room = c.loop-copy.invariant.room in
    let long = c.loop-copy.invariant.long in
    let at = c.loop-copy.invariant.at in
    let below : index < length images = omega arith in
    let one = length-append c.loop-copy.yielded (copy ∷ []) in
    record {
      at = omega arith;
      room = omega arith;
      long = length-set images index c.put_copy.new.image ∙ long;
      kept = ap (set images index) (c.put_copy.ensures ∙ ap (or_else copy) (same_default images index c.index-images-index.result None below))
          ∙ ap (λ xs. set xs index (or_else copy (get_or xs index None))) c.loop-copy.invariant.kept
          ∙ ap (λ n. set kept n (or_else copy (get_or kept n None))) at
          ∙ kept_more c.args.images.now c.loop-copy.yielded c.args.first copy (omega arith);
    }
