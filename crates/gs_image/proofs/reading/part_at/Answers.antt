use Rattle.std.proofs.Common.{◌≡◌, ◌+◌, ◌-◌, rules, arith, ◌∙◌, ap, sym, take, drop, ℕ}
use Rattle.std.proofs.lemmas.List.{take_rest}
use Rattle.sha2.specs.Sha256.{sha256}
use Rattle.gs_image.proofs.Finding.{part_found}
use Rattle.gs_image.proofs.reading.part_at.Goals as goal

pub returns : goal.returns
returns c =
    let bytes = c.args.bytes.now in
    let n = c.read_u64-length.result in
    let part = take (8 + n - 8) (drop 8 bytes) in
    let size : 8 + n - 8 ≡ n = omega arith in
    let long : (40 + n) - (8 + n) ≡ 32 = omega arith in
    let same : take ((40 + n) - (8 + n)) (drop (8 + n) bytes) ≡ sha256 part = search rules in
    part_found bytes part _ n (λ i. omega (arith, c.type_inv.bytes i)) c.read_u64-length.ensures (omega (arith, c.if-bytes-lt40.false, c.if-bytes-length.false))
    (ap (λ (k : ℕ). take k (drop 8 bytes)) size) (ap (λ (k : ℕ). take k (drop (8 + n) bytes)) (sym long) ∙ same) (take_rest bytes (40 + n))
