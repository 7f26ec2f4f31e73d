use Rattle.gs_image.proofs.Refusing.{refused}
use Rattle.gs_image.proofs.reading.read.Goals as goal

pub returns-clause-refused : goal.returns-clause-refused
returns-clause-refused c = refused c.read_parts.result c.args.bytes.now c.read_parts.ensures
