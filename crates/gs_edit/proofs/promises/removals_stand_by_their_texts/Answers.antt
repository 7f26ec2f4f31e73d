use Rattle.gs_edit.proofs.Texts.{by_text}
use Rattle.gs_edit.proofs.promises.removals_stand_by_their_texts.Goals as goal

pub returns : goal.returns
returns c p q f g = by_text p q f g
