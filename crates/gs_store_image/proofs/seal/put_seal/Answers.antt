use Rattle.std.proofs.Common.{◌≡◌, ◌++◌, subst}
use Rattle.gs_base.specs.declared.numbers.Stamp.{Stamp}
use Rattle.gs_fields.specs.Encoding.{stamp}
use Rattle.gs_fields.specs.Writable.{IsStamp}
use Rattle.gs_fields.proofs.Steps.{puts_two}
use Rattle.gs_store_image.specs.Encoding.{seal_counted}
use Rattle.gs_store_image.specs.Writable.{IsSealCounted}
use Rattle.gs_store_image.proofs.seal.put_seal.Goals as goal

pub returns : goal.returns
returns c =
    let s = c.args.seal.now in
    puts_two (IsStamp s.stamp) (IsSealCounted s) (stamp s.stamp) (seal_counted s) c.args.out.now.items c.put.new.out.items c.put_seal_counted.new.out.items c.put_seal_counted.result
    (subst (λ (t : Stamp). IsStamp t × (c.put.new.out.items ≡ c.args.out.now.items ++ stamp t)) c.stamp.ensures c.in_ok-put.ensures) c.put_seal_counted.ensures
