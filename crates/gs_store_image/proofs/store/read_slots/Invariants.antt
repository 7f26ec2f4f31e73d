use Rattle.std.proofs.Common.{◌≡◌, ◌-◌}
use Rattle.gs_fields.specs.Reading.{times}
use Rattle.gs_fields.proofs.Loops.{with_front}
use Rattle.gs_store_image.specs.StoreReading.{kept_at}
use Rattle.gs_store_image.proofs.store.read_slots.Given as goal

abbrev pub invariant-loop : goal.invariant-loop
invariant-loop l = with_front l.slots.items (times (kept_at l.sizes.block l.sizes.chunk) (l.count - l.counter) l.cursor.rest.now) ≡ times (kept_at l.sizes.block l.sizes.chunk) l.count l.initial.cursor.rest.now
