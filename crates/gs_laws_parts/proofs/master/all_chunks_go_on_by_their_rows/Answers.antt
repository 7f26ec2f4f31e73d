use Rattle.gs_laws_parts.proofs.lemmas.master.Rows.{families_go_by_rows}
use Rattle.gs_laws_parts.proofs.master.all_chunks_go_on_by_their_rows.Goals as goal

pub returns : goal.returns
returns c = families_go_by_rows
