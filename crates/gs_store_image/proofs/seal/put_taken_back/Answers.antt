use Rattle.std.proofs.Common.{◌≡◌, ◌++◌, subst}
use Rattle.gs_block.specs.Images.{Images}
use Rattle.gs_fields.specs.Work.{Puts}
use Rattle.gs_fields.proofs.Steps.{puts_two}
use Rattle.gs_replica.specs.First.{First}
use Rattle.gs_store_image.specs.Encoding.{images, first_entries}
use Rattle.gs_store_image.specs.Writable.{AreImages, AreFirstEntries}
use Rattle.gs_store_image.proofs.seal.put_taken_back.Goals as goal

pub returns : goal.returns
returns c =
    let s = c.args.seal.now in
    puts_two (AreImages s.images) (AreFirstEntries s.first) (images s.images) (first_entries s.first) c.args.out.now.items c.put_images.new.out.items c.put_first.new.out.items c.put_first.result
    (subst (λ (i : Images). AreImages i × (c.put_images.new.out.items ≡ c.args.out.now.items ++ images i)) c.images.ensures c.in_ok-put_images.ensures)
    (subst (λ (f : First). Puts (AreFirstEntries f) (first_entries f) c.put_images.new.out.items c.put_first.new.out.items c.put_first.result) c.first.ensures c.put_first.ensures)
