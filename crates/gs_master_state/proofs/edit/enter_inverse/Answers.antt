use Rattle.std.proofs.Common.{◌∙◌, ap, map}
use Rattle.gs_master_record.specs.Plain.{plain_inverse}
use Rattle.gs_master_state.proofs.Edits.{map_append}
use Rattle.gs_master_state.proofs.edit.enter_inverse.Goals as goal

pub returns-clause-back : goal.returns-clause-back
returns-clause-back c = (plain_inverse c.in-Some.inverse, ap (map plain_inverse) c.push_within.ensures.items ∙ map_append c.args.inverses.now.items c.in-Some.inverse)
