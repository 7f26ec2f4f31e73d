use Rattle.std.proofs.Common.{arith}
use Rattle.gs_image.proofs.Putting.{finished}
use Rattle.gs_image.proofs.writing.ImageWriter.finish.Goals as goal

pub returns-clause-image : goal.returns-clause-image
returns-clause-image c =
    let bytes = c.self.inside.bytes in
    (finished c.self.inside.count bytes.items _ _ _ _ _ _ c.args.self c.self.invariant c.self.view_is (omega (arith, bytes.ok.0, bytes.ok.1, bytes.small)) bytes.ok.0 c.deref_mut.ensures.value c.put_count.ensures c.as_slice.ensures.value c.digest-digest.ensures
    c.in_ok-extend_from_slice.ensures.items).0

pub returns-clause-parts : goal.returns-clause-parts
returns-clause-parts c =
    let bytes = c.self.inside.bytes in
    (finished c.self.inside.count bytes.items _ _ _ _ _ _ c.args.self c.self.invariant c.self.view_is (omega (arith, bytes.ok.0, bytes.ok.1, bytes.small)) bytes.ok.0 c.deref_mut.ensures.value c.put_count.ensures c.as_slice.ensures.value c.digest-digest.ensures
    c.in_ok-extend_from_slice.ensures.items).1
