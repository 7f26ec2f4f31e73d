use Rattle.std.proofs.Common.{◌≡◌, ℕ, ◌≤◌, ◌++◌, subst}
use Rattle.gs_base.specs.Told.{IsNumber}
use Rattle.gs_fields.specs.Encoding.{number}
use Rattle.gs_fields.proofs.Steps.{puts_two}
use Rattle.gs_store_image.specs.StoreEncoding.{slot}
use Rattle.gs_store_image.specs.StoreWritable.{IsHandle, IsSlotTold}
use Rattle.gs_store_image.proofs.store.put_kept.Goals as goal

pub returns : goal.returns
returns c =
    puts_two (IsHandle c.args.handle) (IsSlotTold c.args.slot.now) (number c.args.handle) (slot c.args.slot.now) c.args.out.now.items c.put.new.out.items c.put_slot.new.out.items c.put_slot.result
    (subst (λ (n : ℕ). ((1 ≤ n) × IsNumber n) × (c.put.new.out.items ≡ c.args.out.now.items ++ number n)) c.number.ensures.number ((c.number.ensures.from_one, c.in_ok-put.ensures.0), c.in_ok-put.ensures.1))
    c.put_slot.ensures
