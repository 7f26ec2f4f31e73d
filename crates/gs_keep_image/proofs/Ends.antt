-- An image ends with its digest.
use Rattle.std.proofs.Common.{◌≡◌, ◌≤◌, ◌++◌, ◌-◌, ℕ, List, length, drop, ap, ◌∙◌, arith, length-append}
use Rattle.std.proofs.Math.Seq.{drop-append_seam}
use Rattle.sha2.proofs.Facts256.{length-sha256}
use Rattle.sha2.specs.Sha256.{sha256}
use Rattle.gs_image.specs.Images.{body, written}
use Rattle.gs_keep_image.specs.Images.{digest_of, last_of}

pub long : (parts : List (List ℕ)) → 32 ≤ length (written parts)
long parts = omega (arith, length-append (body parts) (digest_of parts), length-sha256 (body parts))

pub last_written : (parts : List (List ℕ)) → last_of (written parts) ≡ digest_of parts
last_written parts =
    let many : length (written parts) - 32 ≡ length (body parts) = omega (arith, length-append (body parts) (digest_of parts), length-sha256 (body parts)) in
    ap (λ (n : ℕ). drop n (written parts)) many ∙ drop-append_seam (body parts) (digest_of parts)
