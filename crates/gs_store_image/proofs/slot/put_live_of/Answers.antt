use Rattle.std.proofs.Common.{Option, subst}
use Rattle.gs_fields.specs.Encoding.{option}
use Rattle.gs_fields.specs.Work.{Puts}
use Rattle.gs_fields.specs.Writable.{IsOption}
use Rattle.gs_store.specs.Slots.{Live}
use Rattle.gs_store_image.specs.StoreEncoding.{live}
use Rattle.gs_store_image.specs.StoreWritable.{IsLiveTold}
use Rattle.gs_store_image.proofs.Seals.{puts_behind}
use Rattle.gs_store_image.proofs.slot.put_live_of.Goals as goal

pub returns-in_ok-push-in-Some : goal.returns-in_ok-push-in-Some
returns-in_ok-push-in-Some c =
    let l = c.in-Some.live.now in
    subst (λ (o : Option Live). Puts (IsOption IsLiveTold o) (option live o) c.args.out.now.items c.put_live.new.out.items c.put_live.result) c.in-Some.ensures
    (puts_behind (IsLiveTold l) 1 (live l) c.args.out.now.items c.push-in-Some.new.self.items c.put_live.new.out.items c.put_live.result c.in_ok-push-in-Some.ensures.items c.put_live.ensures)
