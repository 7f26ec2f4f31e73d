use Rattle.std.proofs.Common.{◌≡◌, ◌-◌}
use Rattle.gs_fields.specs.Reading.{times, long_bytes_at, option_at}
use Rattle.gs_fields.proofs.Loops.{with_front}
use Rattle.gs_store_image.proofs.images.read_blocks.Given as goal

abbrev pub invariant-loop : goal.invariant-loop
invariant-loop l = with_front l.blocks.items (times (option_at long_bytes_at) (l.count - l.counter) l.cursor.rest.now) ≡ times (option_at long_bytes_at) l.count l.initial.cursor.rest.now
