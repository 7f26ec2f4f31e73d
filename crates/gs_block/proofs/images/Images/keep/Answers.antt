use Rattle.std.proofs.Common.{true, ◌≡◌, ◌++◌, ◌/◌, length, take, drop, ap, sym, subst, ◌∙◌}
use Rattle.std.proofs.lemmas.List.{take_at}
use Rattle.gs_block.specs.Images.{Images, Missing, undone, touched, touch, covers, AreFirst}
use Rattle.gs_block.specs.Inside.{kept_images}
use Rattle.gs_block.specs.Inverses.{inverse_of}
use Rattle.gs_block.proofs.Undoing.{kept_covers}
use Rattle.gs_block.specs.Stored.{count_of}
use Rattle.gs_block.proofs.Sealed.{with_copies, undone_stays, first_stays, touched_stays}
use Rattle.gs_block.proofs.images.Images.keep.Goals as goal

-- the fields that are left are the images with the copies
left : (c : goal.After-self-1) →
    (let i : Images = record { long = c.self.inside.long; digests = c.self.inside.digests.items; blocks = take c.self.inside.blocks.len (c.keep_copies.new.images ++ drop (length c.keep_copies.new.images) c.self.inside.blocks.items) } in i)
    ≡ with_copies c.args.self.now c.args.copies
left c =
    let images = c.keep_copies.new.images in
    let inside = c.self.inside.blocks in
    let long : length images ≡ inside.len = c.keep_copies.auto.images ∙ c.deref_mut.ensures.len in
    let blocks : take inside.len (images ++ drop (length images) inside.items) ≡ kept_images c.args.self.now.blocks c.args.copies.first c.args.copies.copies =
    take_at images (drop (length images) inside.items) inside.len long
    ∙ c.keep_copies.ensures
    ∙ ap (λ xs. kept_images xs c.copies.inside.first c.copies.inside.copies.items) (c.deref_mut.ensures.value ∙ ap (λ (i : Images). i.blocks) c.self.view_is)
    ∙ ap (λ (m : Missing). kept_images c.args.self.now.blocks m.first m.copies) c.copies.view_is in
    λ k. record { long = (ap (λ (i : Images). i.long) c.self.view_is) k; digests = (ap (λ (i : Images). i.digests) c.self.view_is) k; blocks = blocks k }

pub returns-clause-undone : goal.returns-clause-undone
returns-clause-undone c = λ s new start end first is out.
    subst (λ (i : Images). undone i new ≡ undone c.args.self.now s) (sym (left c)) (undone_stays c.args.self.now c.args.copies s new start end first is out)

pub returns-clause-first : goal.returns-clause-first
returns-clause-first c = λ s new start end first is out.
    subst (λ (i : Images). AreFirst i new) (sym (left c)) (first_stays c.args.self.now c.args.copies s new start end first is out)

pub returns-clause-touched : goal.returns-clause-touched
returns-clause-touched c = λ s start end first is.
    subst (λ (i : Images). touched i ≡ touch (start / s.block) (count_of s.block end) (touched c.args.self.now)) (sym (left c)) (touched_stays c.args.self.now c.args.copies s start end first is)

pub returns-clause-covers : goal.returns-clause-covers
returns-clause-covers c = λ s new start end first is out within order back.
    subst (λ (i : Images). covers i.long (touched i) (inverse_of s start end) new ≡ true) (sym (left c)) (kept_covers c.args.self.now c.args.copies s new start end first is out within order back)
