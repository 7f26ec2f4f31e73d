use Rattle.gs_laws_lift.proofs.lemmas.stores.Marking.{whole_marked}
use Rattle.gs_laws_lift.proofs.stores.a_whole_member_is_marked_at_a_prepare.Goals as goal

pub returns : goal.returns
returns c = λ config bytes born chunk id servers s d w v reached leads shows kept durable upgrade later marks found member whole. whole_marked config bytes born chunk id servers s d w v reached leads shows kept durable upgrade later marks found member whole
