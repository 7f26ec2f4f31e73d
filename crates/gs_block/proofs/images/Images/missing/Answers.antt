use Rattle.std.proofs.Common.{◌≡◌, ◌-◌, ◌/◌, length, min, ap, sym, ◌∙◌, arith}
use Rattle.std.proofs.lemmas.List.FromFn.{length-map-range_with_len}
use Rattle.gs_block.specs.Images.{Images, missing, missing_at, copies_from}
use Rattle.gs_block.specs.Stored.{count_of}
use Rattle.gs_block.proofs.Counts.{count_mono}
use Rattle.gs_block.proofs.images.Images.missing.Goals as goal

pub missing_copies-requires-clause-below : goal.missing_copies-requires-clause-below
missing_copies-requires-clause-below c =
    let block = c.args.blocks.now.block in
    let long = c.self.inside.long in
    let counted : length c.deref.result.now ≡ count_of block long =
    ap length (c.deref.ensures.value ∙ ap (λ (i : Images). i.blocks) c.self.view_is) ∙ c.requires.first.counted ∙ ap (λ (i : Images). count_of block i.long) (sym c.self.view_is) in
    let last : c.count_of-last.result ≡ count_of block (min c.args.end long) =
    c.count_of-last.ensures ∙ ap (λ b. count_of b c.min.result) c.block_size-size.ensures.size ∙ ap (count_of block) c.min.ensures in
    let up = count_mono block (min c.args.end long) long c.requires.first.some_block (omega arith) in
    omega arith

pub returns-clause-missing : goal.returns-clause-missing
unfolding missing
returns-clause-missing c =
    let block = c.args.blocks.now.block in
    let long = c.self.inside.long in
    let start = c.args.start in
    let end = c.args.end in
    let size = c.block_size-size.ensures.size in
    let last : c.count_of-last.result ≡ count_of block (min end long) =
    c.count_of-last.ensures ∙ ap (λ b. count_of b c.min.result) size ∙ ap (count_of block) c.min.ensures in
    let images = c.deref.result.now in
    let bytes = c.stored.result.now in
    let copies : c.in_ok-copies.copies.items ≡ (missing c.args.self.now c.args.blocks.now start end).copies =
    c.in_ok-copies.ensures
    ∙ ap (λ b. copies_from b long images bytes (start / b) (c.count_of-last.result - start / b)) size
    ∙ ap (λ n. copies_from block long images bytes (start / block) (n - start / block)) last
    ∙ ap (λ xs. copies_from block long images xs (start / block) (count_of block (min end long) - start / block)) c.stored.ensures
    ∙ ap (λ xs. copies_from block long xs c.args.blocks.now.bytes (start / block) (count_of block (min end long) - start / block)) c.deref.ensures.value
    ∙ ap (λ (i : Images). copies_from block i.long i.blocks c.args.blocks.now.bytes (start / block) (count_of block (min end i.long) - start / block)) c.self.view_is in
    λ k. record { first = (ap (λ b. start / b) size) k; copies = copies k }

pub returns-clause-within : goal.returns-clause-within
returns-clause-within c =
    let block = c.args.blocks.now.block in
    let long = c.self.inside.long in
    let size = c.block_size-size.result in
    let first = c.args.start / size in
    let counted : length c.args.self.now.blocks ≡ count_of block long =
    c.requires.first.counted ∙ ap (λ (i : Images). count_of block i.long) (sym c.self.view_is) in
    let last : c.count_of-last.result ≡ count_of block (min c.args.end long) =
    c.count_of-last.ensures ∙ ap (λ b. count_of b c.min.result) c.block_size-size.ensures.size ∙ ap (count_of block) c.min.ensures in
    let up = count_mono block (min c.args.end long) long c.requires.first.some_block (omega arith) in
    let many : length c.in_ok-copies.copies.items ≡ c.count_of-last.result - first =
    ap length c.in_ok-copies.ensures ∙ length-map-range_with_len (missing_at size long c.deref.result.now c.stored.result.now) first (c.count_of-last.result - first) in
    omega arith
