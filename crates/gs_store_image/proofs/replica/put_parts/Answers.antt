use Rattle.std.proofs.Common.{◌≡◌, ◌++◌, subst}
use Rattle.gs_base.specs.declared.numbers.Stamp.{Stamp}
use Rattle.gs_fields.specs.Encoding.{stamp}
use Rattle.gs_fields.specs.Writable.{IsStamp}
use Rattle.gs_fields.proofs.Steps.{puts_two}
use Rattle.gs_replica.specs.Parts.{stands_as}
use Rattle.gs_store_image.specs.Encoding.{counted}
use Rattle.gs_store_image.specs.Writable.{AreCounted}
use Rattle.gs_store_image.proofs.replica.put_parts.Goals as goal

pub returns : goal.returns
returns c =
    let i = stands_as c.args.replica.now.held in
    puts_two (IsStamp i.stamp) (AreCounted i) (stamp i.stamp) (counted i) c.args.out.now.items c.put.new.out.items c.put_counted.new.out.items c.put_counted.result
    (subst (λ (s : Stamp). IsStamp s × (c.put.new.out.items ≡ c.args.out.now.items ++ stamp s)) c.promised.ensures c.in_ok-put.ensures) c.put_counted.ensures
