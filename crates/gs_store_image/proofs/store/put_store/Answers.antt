use Rattle.std.proofs.Common.{◌≡◌, ℕ, ◌++◌, subst}
use Rattle.gs_base.specs.Told.{IsNumber}
use Rattle.gs_fields.specs.Encoding.{number}
use Rattle.gs_fields.proofs.Steps.{puts_two}
use Rattle.gs_store_image.specs.StoreEncoding.{slots}
use Rattle.gs_store_image.specs.StoreWritable.{AreSlotsTold}
use Rattle.gs_store_image.proofs.store.put_store.Goals as goal

pub returns : goal.returns
returns c =
    let s = c.args.store.now in
    puts_two (IsNumber s.epoch) (AreSlotsTold s.slots) (number s.epoch) (slots s.slots) c.args.out.now.items c.put.new.out.items c.put_slots.new.out.items c.put_slots.result
    (subst (λ (n : ℕ). IsNumber n × (c.put.new.out.items ≡ c.args.out.now.items ++ number n)) c.epoch.ensures c.in_ok-put.ensures) c.put_slots.ensures
