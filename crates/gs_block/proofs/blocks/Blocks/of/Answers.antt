use Rattle.std.proofs.Common.{◌≤◌, length, ap, ◌∙◌, arith}
use Rattle.std.proofs.lemmas.List.FromFn.{length-map-range_with_len}
use Rattle.gs_block.specs.Stored.{count_of, digest_at}
use Rattle.gs_block.proofs.blocks.Blocks.of.Goals as goal

pub invariant_of-result : goal.invariant_of-result
invariant_of-result c =
    let size = c.args.sizes.block in
    let bytes = c.args.bytes.items in
    let few = c.if-len-chunk.false in
    record {
      some_block = c.args.sizes.some;
      block_fits = c.args.sizes.block_fits;
      chunk_fits = c.args.sizes.chunk_fits;
      bytes_fit = (let l : length bytes ≤ c.args.sizes.chunk = omega arith in l);
      each = ap length c.in-Ok.ensures ∙ length-map-range_with_len (digest_at size c.deref.result.now) 0 (count_of size (length c.deref.result.now)) ∙ ap (λ xs. count_of size (length xs)) c.deref.ensures.value;
    }
