use Rattle.std.proofs.Common.{◌++◌, [], ◌∷◌, ap, sym, ◌∙◌, arith}
use Rattle.std.proofs.lemmas.List.FromFn.{map-range_with_len_more}
use Rattle.sha2.specs.Sha256.{sha256}
use Rattle.gs_block.specs.Stored.{digest_at, digests_from}
use Rattle.gs_block.proofs.digests.digests_of.Goals as goal

pub loop-index-preserved : goal.loop-index-preserved
unfolding digest_at
loop-index-preserved c =
    let size = c.args.size in
    let bytes = c.args.bytes.now in
    let index = c.loop-index.index in
    c.in_ok-push.ensures.items
    ∙ ap (λ ds. ds ++ c.digest_of.result ∷ []) c.loop-index.invariant
    ∙ ap (λ d. digests_from size bytes 0 index ++ d ∷ []) (c.digest_of.ensures ∙ ap sha256 c.block_of.ensures)
    ∙ sym (map-range_with_len_more (digest_at size bytes) 0 index index (omega arith))
