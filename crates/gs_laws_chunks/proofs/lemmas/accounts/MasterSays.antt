-- The master says what is its own, whatever disk of it fails.
use Rattle.std.proofs.Common.{◌≡◌, List, subst}
use Rattle.gs_msg.specs.declared.message.Message.{Message}
use Rattle.gs_nodes.specs.declared.place.MasterPlace.{MasterPlace}
use Rattle.gs_world.specs.Histories.{History}
use Rattle.gs_laws_world.specs.lasting.Lasting.{Lasts}
use Rattle.gs_laws_chunks.proofs.lemmas.accounts.Well.{IsWell, well_lasts}
use Rattle.gs_laws_chunks.specs.accounts.Running.{Setup}
use Rattle.gs_laws_lift.proofs.lemmas.stores.DoingAll.{masters_do_all}
use Rattle.gs_laws_lift.proofs.lemmas.stores.TellingAll.{does_all_say}
use Rattle.gs_laws_lift.specs.stores.Going.{MasterGoes}
use Rattle.gs_laws_lift.specs.stores.Left.{as_left}
use Rattle.gs_laws_lift.specs.stores.Saying.{AreOfMaster}

pub master_says : {D : Type 0} (x : Setup D) (old new : History D) (place : MasterPlace D) (messages : List Message) → IsWell x old → IsWell x new → new.nodes.master ≡ place → MasterGoes x.seen x.failures x.armed old.nodes.config old.sent old.nodes.master place messages → AreOfMaster messages
master_says x old new place messages well still is goes =
    does_all_say x.seen x.armed old.sent old.nodes.master place messages
    (masters_do_all x.seen x.failures x.armed old.nodes.config old.sent old.nodes.master place messages (well_lasts x old well) (subst (λ there. Lasts x.seen (as_left there)) is (well_lasts x new still)) goes)
