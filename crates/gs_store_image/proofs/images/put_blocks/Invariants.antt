use Rattle.std.proofs.Common.{drop}
use Rattle.gs_fields.specs.Encoding.{long_bytes, option}
use Rattle.gs_fields.specs.Writable.{AreLongBytes, IsOption}
use Rattle.gs_fields.proofs.Loops.{Left}
use Rattle.gs_store_image.proofs.images.put_blocks.Given as goal

abbrev pub invariant-loop-image : goal.invariant-loop-image
invariant-loop-image l = Left (λ x. x) (IsOption AreLongBytes) (option long_bytes) l.blocks (drop l.image-index l.blocks) l.initial.out.items l.out.items
