use Rattle.std.proofs.Common.{◌≡◌, ℕ, ◌++◌, subst}
use Rattle.gs_base.specs.Told.{IsNumber}
use Rattle.gs_fields.specs.Encoding.{number, long_bytes, long_list, option}
use Rattle.gs_fields.specs.Writable.{AreLongBytes, AreLongItems, IsOption}
use Rattle.gs_fields.proofs.Steps.{puts_two}
use Rattle.gs_store_image.specs.Encoding.{digests}
use Rattle.gs_store_image.specs.Writable.{AreDigests}
use Rattle.gs_store_image.proofs.images.put_images.Goals as goal

pub returns : goal.returns
returns c =
    let i = c.args.images.now in
    puts_two (IsNumber i.long) (AreDigests i.digests × AreLongItems (IsOption AreLongBytes) i.blocks) (number i.long) (digests i.digests ++ long_list (option long_bytes) i.blocks)
    c.args.out.now.items c.put.new.out.items c.put_sealed.new.out.items c.put_sealed.result
    (subst (λ (n : ℕ). IsNumber n × (c.put.new.out.items ≡ c.args.out.now.items ++ number n)) c.long.ensures c.in_ok-put.ensures) c.put_sealed.ensures
