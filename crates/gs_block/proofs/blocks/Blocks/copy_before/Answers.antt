use Rattle.std.proofs.Common.{◌≡◌, take, ap, sym, subst, ◌∙◌}
use Rattle.gs_block.specs.Stored.{Stored, IsStored}
use Rattle.gs_block.specs.Images.{Images, undone, bytes_before}
use Rattle.gs_block.proofs.Restoring.{cut_bytes, undone_stored, made_copy}
use Rattle.gs_block.proofs.blocks.Blocks.copy_before.Goals as goal

-- what is made is what undoing gives
made : (c : goal.In_ok-from_slice) → (let s : Stored = record { block = c.self.inside.block; chunk = c.self.inside.chunk; bytes = c.put_back.new.bytes.items; digests = c.in_ok-from_slice.field-0.items } in s) ≡ undone c.args.images.now c.args.self.now
made c =
    let inside = c.self.inside in
    let i : Images = c.args.images.now in
    let own : Stored = record { block = inside.block; chunk = inside.chunk; bytes = inside.bytes.items; digests = inside.digests.items } in
    let kept : Images = record { long = c.images.inside.long; digests = c.images.inside.digests.items; blocks = c.images.inside.blocks.items } in
    let cut : c.in_ok-bytes.bytes.items ≡ take kept.long inside.bytes.items = c.in_ok-bytes.ensures.items ∙ ap (take kept.long) c.deref.ensures.value in
    let bytes : c.put_back.new.bytes.items ≡ bytes_before own.block kept.blocks kept.long own.bytes =
    c.put_back.ensures ∙ ap (λ xs. bytes_before own.block xs kept.long c.in_ok-bytes.bytes.items) c.deref-2.ensures.value ∙ ap (bytes_before own.block kept.blocks kept.long) cut ∙ cut_bytes own.block kept.long kept.blocks own.bytes in
    let digests : c.in_ok-from_slice.field-0.items ≡ kept.digests = c.in_ok-from_slice.ensures.items ∙ c.deref-3.ensures.value in
    let new : Stored = record { block = inside.block; chunk = inside.chunk; bytes = c.put_back.new.bytes.items; digests = c.in_ok-from_slice.field-0.items } in
    subst (λ (j : Images). new ≡ undone j c.args.self.now) c.images.view_is (subst (λ (t : Stored). new ≡ undone kept t) c.self.view_is
    (λ k. record { block = inside.block; chunk = inside.chunk; bytes = bytes k; digests = digests k }))

pub invariant_of-result : goal.invariant_of-result
invariant_of-result c = subst IsStored (sym (made c)) (undone_stored c.args.images.now c.args.self.now (subst IsStored c.self.view_is c.self.invariant) c.requires)

pub returns : goal.returns
returns c = made_copy (undone c.args.images.now c.args.self.now) _ (sym c.damaged_before.ensures ∙ c.in-None.is) (made c)
