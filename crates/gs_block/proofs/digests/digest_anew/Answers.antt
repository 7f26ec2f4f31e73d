use Rattle.std.proofs.Common.{◌≡◌, ◌≤◌, ◌<◌, ◌*◌, ◌/◌, ◌%◌, ◌++◌, length, take, drop, arith, ap, ◌∙◌, set, length-set}
use Rattle.sha2.specs.Sha256.{sha256}
use Rattle.gs_block.specs.Stored.{count_of, digest_at}
use Rattle.gs_block.proofs.Anew.{anew_start, anew_more, head_digest}
use Rattle.gs_block.proofs.Counts.{count_mono}
use Rattle.gs_block.proofs.digests.digest_anew.Goals as goal

pub loop-index-init : goal.loop-index-init
loop-index-init c =
    let size = c.args.size in
    let bytes = c.args.bytes.now in
    let at = c.args.at in
    let first = at / size in
    let last = c.count_of-last.result in
    let counted : last ≡ count_of size c.args.end = c.count_of-last.ensures in
    let up = count_mono size c.args.end (length bytes) c.requires.some c.requires.within in
    let held = take (at % size) (drop (first * size) bytes) in
    let is : c.digest_with.result ≡ digest_at size bytes first = c.digest_with.ensures held c.requires.hasher ∙ ap (λ r. sha256 (held ++ r)) c.rest_of_block.ensures ∙ head_digest size bytes at c.requires.some in
    let below : first < last = omega arith in
    let each = c.requires.each in
    let within : last ≤ length c.args.digests.now = omega arith in
    record {
      long = length-set c.args.digests.now first c.digest_with.result;
      anew = ap (λ d. set c.args.digests.now first d) is
          ∙ ap (λ ds. set ds first (digest_at size bytes first)) (anew_start size bytes c.args.digests.now first last)
          ∙ anew_more size bytes c.args.digests.now first last first (omega arith) below within;
    }

pub loop-index-preserved : goal.loop-index-preserved
unfolding digest_at
loop-index-preserved c =
    let size = c.args.size in
    let bytes = c.args.bytes.now in
    let first = c.args.at / size in
    let last = c.count_of-last.result in
    let index = c.loop-index.index in
    let counted : last ≡ count_of size c.args.end = c.count_of-last.ensures in
    let up = count_mono size c.args.end (length bytes) c.requires.some c.requires.within in
    let is : c.digest_of.result ≡ digest_at size bytes index = c.digest_of.ensures ∙ ap sha256 c.block_of.ensures in
    let each = c.requires.each in
    let within : last ≤ length c.args.digests.now = omega arith in
    let low : first ≤ index = omega arith in
    let high : index < last = omega arith in
    record {
      long = length-set c.loop-index.digests index c.digest_of.result ∙ c.loop-index.invariant.long;
      anew = ap (λ d. set c.loop-index.digests index d) is
          ∙ ap (λ ds. set ds index (digest_at size bytes index)) c.loop-index.invariant.anew
          ∙ anew_more size bytes c.args.digests.now first last index low high within;
    }
