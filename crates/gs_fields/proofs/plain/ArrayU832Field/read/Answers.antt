use Rattle.gs_fields.proofs.Steps.{taken_length}
use Rattle.gs_fields.proofs.plain.ArrayU832Field.read.Goals as goal

pub copy_from_slice-requires : goal.copy_from_slice-requires
copy_from_slice-requires c = taken_length 32 c.args.cursor.now.rest.now c.in_ok-front.front.now c.take.new.cursor.rest.now c.in_ok-front.ensures
