use Rattle.std.proofs.Common.{arith}
use Rattle.gs_master_record.proofs.Whole.{decodes}
use Rattle.gs_master_record.proofs.decode.read.Goals as goal

pub returns : goal.returns
returns c = decodes c.args.version c.args.kind c.args.body.now c.read_all.result (λ i. omega (arith, c.type_inv.body i)) c.read_all.ensures
