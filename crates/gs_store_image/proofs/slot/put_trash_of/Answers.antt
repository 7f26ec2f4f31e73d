use Rattle.std.proofs.Common.{Option, subst}
use Rattle.gs_fields.specs.Encoding.{option}
use Rattle.gs_fields.specs.Work.{Puts}
use Rattle.gs_fields.specs.Writable.{IsOption}
use Rattle.gs_replica.specs.Seals.{State}
use Rattle.gs_store_image.specs.Encoding.{replica}
use Rattle.gs_store_image.specs.Writable.{IsTold}
use Rattle.gs_store_image.proofs.Seals.{puts_behind}
use Rattle.gs_store_image.proofs.slot.put_trash_of.Goals as goal

pub returns-in_ok-push-in-Some : goal.returns-in_ok-push-in-Some
returns-in_ok-push-in-Some c =
    let r = c.in-Some.trash.now in
    subst (λ (o : Option State). Puts (IsOption IsTold o) (option replica o) c.args.out.now.items c.put_replica.new.out.items c.put_replica.result) c.in-Some.ensures
    (puts_behind (IsTold r) 1 (replica r) c.args.out.now.items c.push-in-Some.new.self.items c.put_replica.new.out.items c.put_replica.result c.in_ok-push-in-Some.ensures.items c.put_replica.ensures)
