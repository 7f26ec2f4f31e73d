use Rattle.std.proofs.Common.{◌≡◌, ◌+◌, ◌<◌, ◌≤◌, ◌-◌, ◌/◌, ℕ, length, map, ap, sym, ◌∙◌, arith, rules, true, false}
use Rattle.std.specs.Prelude.{is_some, nat_le, ◌&&◌}
use Rattle.std.proofs.lemmas.Bool.Decides.{nat_tests}
use Rattle.gs_block.specs.Images.{Images, covers, touched, all_touched}
use Rattle.gs_block.specs.Inverses.{Inverse}
use Rattle.gs_block.specs.Stored.{count_of}
use Rattle.gs_block.proofs.Back.{FitsAt, fits_at}
use Rattle.gs_block.proofs.Undoing.{covered}
use Rattle.gs_block.proofs.images.Images.covers.Goals as goal

is_less : (m n : ℕ) → n < m → nat_le m n ≡ false
is_less m n h = grind (arith, nat_tests)

is_most : (m n : ℕ) → m ≤ n → nat_le m n ≡ true
is_most m n h = grind (arith, nat_tests)

pub returns-then-not-fits-clause-test : goal.returns-then-not-fits-clause-test
unfolding covers
returns-then-not-fits-clause-test c =
    let i = c.args.inverse.now in
    let s = c.args.blocks.now in
    let xs = touched c.args.self.now in
    sym (ap (λ b. b && (nat_le c.args.self.now.long i.old_length && all_touched xs (i.at / s.block) (count_of s.block (i.at + length i.bytes) - i.at / s.block))) (sym c.fits.ensures ∙ c.if-not-fits.true))

pub returns-then-inverse-self-clause-test : goal.returns-then-inverse-self-clause-test
unfolding covers
returns-then-inverse-self-clause-test c =
    let i = c.args.inverse.now in
    let s = c.args.blocks.now in
    let xs = touched c.args.self.now in
    let all = all_touched xs (i.at / s.block) (count_of s.block (i.at + length i.bytes) - i.at / s.block) in
    let old = ap (λ (j : Inverse). j.old_length) c.inverse.view_is in
    let long = ap (λ (j : Images). j.long) c.self.view_is in
    let less = c.if-inverse-self.true in
    sym (ap (λ b. b && (nat_le c.args.self.now.long i.old_length && all)) (sym c.fits.ensures ∙ c.if-not-fits.false)
    ∙ ap (λ b. b && all) (is_less c.args.self.now.long i.old_length (omega arith)))

pub overflow_add-end : goal.overflow_add-end
overflow_add-end c =
    let f : FitsAt c.args.inverse.now c.args.blocks.now = fits_at c.args.inverse.now c.args.blocks.now (sym c.fits.ensures ∙ c.if-not-fits.false) in
    let stored = c.block_size-size.ensures.stored in
    let a = f.long in
    let b = f.grown in
    let d = f.bytes in
    let e = stored.bytes_fit in
    let g = stored.chunk_fits in
    let at = ap (λ (j : Inverse). j.at) c.inverse.view_is in
    let many = c.len.ensures ∙ c.inverse.inside.bytes.ok.0 ∙ ap (λ (j : Inverse). length j.bytes) c.inverse.view_is in
    let bound : c.inverse.inside.at + c.len.result ≤ 67108864 = omega arith in
    search rules

pub count_of-requires-clause-many_fits : goal.count_of-requires-clause-many_fits
count_of-requires-clause-many_fits c =
    let f : FitsAt c.args.inverse.now c.args.blocks.now = fits_at c.args.inverse.now c.args.blocks.now (sym c.fits.ensures ∙ c.if-not-fits.false) in
    let stored = c.block_size-size.ensures.stored in
    let a = f.long in
    let b = f.grown in
    let d = f.bytes in
    let e = stored.bytes_fit in
    let g = stored.chunk_fits in
    let at = ap (λ (j : Inverse). j.at) c.inverse.view_is in
    let many = c.len.ensures ∙ c.inverse.inside.bytes.ok.0 ∙ ap (λ (j : Inverse). length j.bytes) c.inverse.view_is in
    omega arith

pub returns-clause-test : goal.returns-clause-test
unfolding covers
returns-clause-test c =
    let i = c.args.inverse.now in
    let s = c.args.blocks.now in
    let xs = touched c.args.self.now in
    let all = all_touched xs (i.at / s.block) (count_of s.block (i.at + length i.bytes) - i.at / s.block) in
    let old = ap (λ (j : Inverse). j.old_length) c.inverse.view_is in
    let long = ap (λ (j : Images). j.long) c.self.view_is in
    let low = c.if-inverse-self.false in
    let at = ap (λ (j : Inverse). j.at) c.inverse.view_is in
    let many = c.len.ensures ∙ c.inverse.inside.bytes.ok.0 ∙ ap (λ (j : Inverse). length j.bytes) c.inverse.view_is in
    let size = c.block_size-size.ensures.size in
    let end : c.count_of.result ≡ count_of s.block (i.at + length i.bytes) =
    c.count_of.ensures ∙ ap (λ b. count_of b (c.inverse.inside.at + c.len.result)) size ∙ ap (λ n. count_of s.block (n + c.len.result)) at ∙ ap (λ n. count_of s.block (i.at + n)) many in
    let images : map is_some c.deref.result.now ≡ xs = ap (map is_some) (c.deref.ensures.value ∙ ap (λ (j : Images). j.blocks) c.self.view_is) in
    c.are_touched.ensures
    ∙ ap (λ ys. all_touched ys (c.inverse.inside.at / c.block_size-size.result) (c.count_of.result - c.inverse.inside.at / c.block_size-size.result)) images
    ∙ ap (λ b. all_touched xs (c.inverse.inside.at / b) (c.count_of.result - c.inverse.inside.at / b)) size
    ∙ ap (λ n. all_touched xs (n / s.block) (c.count_of.result - n / s.block)) at
    ∙ ap (λ n. all_touched xs (i.at / s.block) (n - i.at / s.block)) end
    ∙ sym (ap (λ b. b && (nat_le c.args.self.now.long i.old_length && all)) (sym c.fits.ensures ∙ c.if-not-fits.false)
    ∙ ap (λ b. b && all) (is_most c.args.self.now.long i.old_length (omega arith)))

pub returns-clause-keeps : goal.returns-clause-keeps
returns-clause-keeps c = λ new t h first. covered c.args.self.now c.args.inverse.now c.args.blocks.now new (sym (returns-clause-test c) ∙ t) h first
