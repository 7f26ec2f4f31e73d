use Rattle.std.proofs.Common.{◌≡◌, ◌≤◌, ◌/◌, ℕ, List, length, take, subst, sym, ap, ◌∙◌, arith}
use Rattle.gs_block.specs.Stored.{Stored, count_of}
use Rattle.gs_block.specs.Inverses.{Inverse, restored, replaced}
use Rattle.gs_block.proofs.Back.{FitsAt, fits_at}
use Rattle.gs_block.proofs.Counts.{count_mono}
use Rattle.gs_block.proofs.Following.{undo_does, restored_stored}
use Rattle.gs_block.proofs.blocks.Blocks.undo.Goals as goal

pub put_over-requires : goal.put_over-requires
put_over-requires c =
    let s : Stored = record { block = c.self.inside.block; chunk = c.self.inside.chunk; bytes = c.self.inside.bytes.items; digests = c.self.inside.digests.items } in
    let i : Inverse = record { at = c.inverse.inside.at; old_length = c.inverse.inside.old_length; new_length = c.inverse.inside.new_length; bytes = c.inverse.inside.bytes.items; digests = c.inverse.inside.digests.items } in
    let f : FitsAt i s = subst (λ (j : Inverse). FitsAt j s) (sym c.inverse.view_is) (subst (λ (t : Stored). FitsAt c.args.inverse.now t) (sym c.self.view_is) (fits_at c.args.inverse.now c.args.self.now (sym c.fits.ensures ∙ c.if-not-fits.false))) in
    let long = f.long in
    let grown = f.grown in
    let bytes = f.bytes in
    let value = ap (λ (xs : List ℕ). length xs) c.deref.ensures.value in
    omega arith

pub put_over-requires-2 : goal.put_over-requires-2
put_over-requires-2 c =
    let s : Stored = record { block = c.self.inside.block; chunk = c.self.inside.chunk; bytes = c.self.inside.bytes.items; digests = c.self.inside.digests.items } in
    let i : Inverse = record { at = c.inverse.inside.at; old_length = c.inverse.inside.old_length; new_length = c.inverse.inside.new_length; bytes = c.inverse.inside.bytes.items; digests = c.inverse.inside.digests.items } in
    let f : FitsAt i s = subst (λ (j : Inverse). FitsAt j s) (sym c.inverse.view_is) (subst (λ (t : Stored). FitsAt c.args.inverse.now t) (sym c.self.view_is) (fits_at c.args.inverse.now c.args.self.now (sym c.fits.ensures ∙ c.if-not-fits.false))) in
    let value = ap (λ (xs : List (List ℕ)). length xs) c.deref-2.ensures.value in
    let low : c.inverse.inside.old_length ≤ length c.self.inside.bytes.items = (let long = f.long in let grown = f.grown in omega arith) in
    let up = count_mono c.self.inside.block c.inverse.inside.old_length (length c.self.inside.bytes.items) c.self.invariant.some_block low in
    let each = c.self.invariant.each in
    let digests = f.digests in
    omega arith

pub count_of-requires-clause-many_fits : goal.count_of-requires-clause-many_fits
count_of-requires-clause-many_fits c =
    let s : Stored = record { block = c.self.inside.block; chunk = c.self.inside.chunk; bytes = c.self.inside.bytes.items; digests = c.self.inside.digests.items } in
    let i : Inverse = record { at = c.inverse.inside.at; old_length = c.inverse.inside.old_length; new_length = c.inverse.inside.new_length; bytes = c.inverse.inside.bytes.items; digests = c.inverse.inside.digests.items } in
    let f : FitsAt i s = subst (λ (j : Inverse). FitsAt j s) (sym c.inverse.view_is) (subst (λ (t : Stored). FitsAt c.args.inverse.now t) (sym c.self.view_is) (fits_at c.args.inverse.now c.args.self.now (sym c.fits.ensures ∙ c.if-not-fits.false))) in
    let long = f.long in
    let grown = f.grown in
    let a = c.self.invariant.bytes_fit in
    let b = c.self.invariant.chunk_fits in
    omega arith

pub invariant_of-self : goal.invariant_of-self
invariant_of-self c =
    let s : Stored = record { block = c.self.inside.block; chunk = c.self.inside.chunk; bytes = c.self.inside.bytes.items; digests = c.self.inside.digests.items } in
    let i : Inverse = record { at = c.inverse.inside.at; old_length = c.inverse.inside.old_length; new_length = c.inverse.inside.new_length; bytes = c.inverse.inside.bytes.items; digests = c.inverse.inside.digests.items } in
    let f : FitsAt i s = subst (λ (j : Inverse). FitsAt j s) (sym c.inverse.view_is) (subst (λ (t : Stored). FitsAt c.args.inverse.now t) (sym c.self.view_is) (fits_at c.args.inverse.now c.args.self.now (sym c.fits.ensures ∙ c.if-not-fits.false))) in
    let bytes : c.truncate.new.self.items ≡ take i.old_length (replaced s.bytes i.at i.bytes) =
    c.truncate.ensures.items ∙ ap (take i.old_length) (c.put_over.ensures ∙ ap (replaced s.bytes i.at) c.deref.ensures.value) in
    let digests : c.truncate-2.new.self.items ≡ take (count_of s.block i.old_length) (replaced s.digests (i.at / s.block) i.digests) =
    c.truncate-2.ensures.items ∙ ap (λ (n : ℕ). take n c.put_over-2.new.items.items) c.count_of.ensures ∙ ap (take (count_of s.block i.old_length)) (c.put_over-2.ensures ∙ ap (replaced s.digests (i.at / s.block)) c.deref-2.ensures.value) in
    let long = f.long in
    let grown = f.grown in
    let low : i.old_length ≤ length s.bytes = omega arith in
    let up = count_mono s.block i.old_length (length s.bytes) c.self.invariant.some_block low in
    let each = c.self.invariant.each in
    let ib = f.bytes in
    let ids = f.digests in
    let whole = restored_stored s.block s.chunk i.old_length i.at s.bytes i.bytes s.digests i.digests c.self.invariant (omega arith) (omega arith) low in
    rw (bytes, digests) whole

pub returns : goal.returns
unfolding restored
returns c =
    let new : Stored = record { block = c.self.inside.block; chunk = c.self.inside.chunk; bytes = c.truncate.new.self.items; digests = c.truncate-2.new.self.items } in
    let s : Stored = record { block = c.self.inside.block; chunk = c.self.inside.chunk; bytes = c.self.inside.bytes.items; digests = c.self.inside.digests.items } in
    let i : Inverse = record { at = c.inverse.inside.at; old_length = c.inverse.inside.old_length; new_length = c.inverse.inside.new_length; bytes = c.inverse.inside.bytes.items; digests = c.inverse.inside.digests.items } in
    let bytes : c.truncate.new.self.items ≡ take i.old_length (replaced s.bytes i.at i.bytes) =
    c.truncate.ensures.items ∙ ap (take i.old_length) (c.put_over.ensures ∙ ap (replaced s.bytes i.at) c.deref.ensures.value) in
    let digests : c.truncate-2.new.self.items ≡ take (count_of s.block i.old_length) (replaced s.digests (i.at / s.block) i.digests) =
    c.truncate-2.ensures.items ∙ ap (λ (n : ℕ). take n c.put_over-2.new.items.items) c.count_of.ensures ∙ ap (take (count_of s.block i.old_length)) (c.put_over-2.ensures ∙ ap (replaced s.digests (i.at / s.block)) c.deref-2.ensures.value) in
    let is : new ≡ restored i s = λ k. record { block = c.self.inside.block; chunk = c.self.inside.chunk; bytes = bytes k; digests = digests k } in
    undo_does c.args.inverse.now c.args.self.now new (sym c.fits.ensures ∙ c.if-not-fits.false)
    (subst (λ (j : Inverse). new ≡ restored j c.args.self.now) c.inverse.view_is (subst (λ (t : Stored). new ≡ restored i t) c.self.view_is is))
