use Rattle.std.proofs.Common.{Option, Some, sym, subst}
use Rattle.gs_fields.specs.Encoding.{option}
use Rattle.gs_fields.specs.Work.{Puts}
use Rattle.gs_fields.specs.Writable.{IsOption}
use Rattle.gs_replica.specs.declared.seal.Seal.{Seal}
use Rattle.gs_store_image.specs.Encoding.{seal}
use Rattle.gs_store_image.specs.Writable.{IsSeal}
use Rattle.gs_store_image.proofs.Replicas.{seals_seen}
use Rattle.gs_store_image.proofs.Seals.{puts_behind}
use Rattle.gs_store_image.proofs.seal.put_seal_of.Goals as goal

pub returns-in_ok-push-in-Some : goal.returns-in_ok-push-in-Some
returns-in_ok-push-in-Some c =
    let s = c.in-Some.seal.now in
    subst (λ (o : Option Seal). Puts (IsOption IsSeal o) (option seal o) c.args.out.now.items c.put_seal.new.out.items c.put_seal.result)
    (sym (seals_seen c.args.replica.now.held (Some s) c.args.replica.now.sealed c.in-Some.ensures.seen c.in-Some.ensures.belongs))
    (puts_behind (IsSeal s) 1 (seal s) c.args.out.now.items c.push-in-Some.new.self.items c.put_seal.new.out.items c.put_seal.result c.in_ok-push-in-Some.ensures.items c.put_seal.ensures)
