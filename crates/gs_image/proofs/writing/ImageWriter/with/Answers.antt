use Rattle.std.proofs.Common.{arith}
use Rattle.gs_image.proofs.Putting.{counts, with_part}
use Rattle.gs_image.proofs.writing.ImageWriter.with.Goals as goal

pub overflow_add-result : goal.overflow_add-result
overflow_add-result c =
    let bytes = c.self.inside.bytes in
    omega (arith, counts c.self.inside.count bytes.items c.self.invariant (omega (arith, bytes.ok.0, bytes.ok.1, bytes.small)))

pub invariant_of-result : goal.invariant_of-result
invariant_of-result c =
    let new = c.put_part.new.bytes in
    (with_part c.self.inside.count c.self.inside.bytes.items c.args.part.now new.items c.args.self c.self.invariant c.self.view_is c.in_ok-put_part.ensures (omega (arith, new.ok.0, new.ok.1, new.small))).1

pub returns : goal.returns
returns c =
    let new = c.put_part.new.bytes in
    (with_part c.self.inside.count c.self.inside.bytes.items c.args.part.now new.items c.args.self c.self.invariant c.self.view_is c.in_ok-put_part.ensures (omega (arith, new.ok.0, new.ok.1, new.small))).0
