use Rattle.std.proofs.Common.{◌≡◌, ◌∙◌, List, ℕ, Vec, Global, ap, subst}
use Rattle.gs_image.specs.Images.{AreParts, written}
use Rattle.gs_keep_image.proofs.Told.{is_image}
use Rattle.gs_keep_image.specs.Images.{last_of}
use Rattle.gs_parts_image.specs.Work.{bytes_of}
use Rattle.gs_keep_image.proofs.taking.image_of.Goals as goal

pub returns : goal.returns
returns c =
    let same : c.deref.result.now ≡ c.in_ok-parts.parts.items = c.deref.ensures.value in
    is_image c.args.desk.now c.in_ok-parts.parts.items (record { bytes = c.in_ok-bytes.bytes; sum = c.last_of-sum.result }) c.in_ok-parts.ensures.0 c.in_ok-parts.ensures.1
    (subst (λ (ps : List (Vec ℕ Global)). AreParts (bytes_of ps)) same c.in_ok-bytes.ensures.parts) (c.in_ok-bytes.ensures.image ∙ ap (λ (ps : List (Vec ℕ Global)). written (bytes_of ps)) same)
    (c.last_of-sum.ensures ∙ ap last_of c.deref-2.ensures.value)
