use Rattle.std.proofs.Common.{◌≡◌, ℕ, List, ◌++◌, length, ap, subst, ◌∙◌}
use Rattle.std.proofs.lemmas.List.{length-map}
use Rattle.std.specs.FinMap as fin
use Rattle.std.specs.List.{flat_map, AllByRecursion}
use Rattle.gs_base.specs.Told.{IsNumber}
use Rattle.gs_fields.specs.Encoding.{number}
use Rattle.gs_fields.proofs.Steps.{puts_two}
use Rattle.gs_store.specs.Slots.{Slot}
use Rattle.gs_store_image.specs.StoreEncoding.{kept}
use Rattle.gs_store_image.specs.StoreWritable.{IsKeptTold}
use Rattle.gs_store_image.proofs.store.put_slots.Goals as goal

pub returns : goal.returns
returns c =
    let es = fin.entries c.args.store.now.slots in
    let many : length c.as_slice.result.now ≡ length es =
    ap (λ (z : List ℕ). length z) (c.as_slice.ensures.value ∙ c.in_ok-handles.ensures) ∙ length-map es (λ (e : ℕ × Slot). e.0) in
    puts_two (IsNumber (length es)) (AllByRecursion IsKeptTold es) (number (length es)) (flat_map kept es) c.args.out.now.items c.put_count.new.out.items c.put_each.new.out.items c.put_each.result
    (subst (λ (n : ℕ). IsNumber n × (c.put_count.new.out.items ≡ c.args.out.now.items ++ number n)) many c.in_ok-put_count.ensures) c.put_each.ensures
