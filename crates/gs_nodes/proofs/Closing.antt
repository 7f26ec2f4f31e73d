-- A master whose disks aren't open.
use Rattle.std.proofs.Common.{◌≡◌, ℕ, List, Some, Ok, refl}
use Rattle.gs_base.specs.declared.numbers.Moment.{Moment}
use Rattle.gs_base.specs.declared.refusal.Refusal.TheVariants as refusals
use Rattle.gs_master.specs.Masters.{MasterOf}
use Rattle.gs_master.specs.declared.turn.Turn.{Turn}
use Rattle.gs_msg.specs.declared.message.Message.{Message}
use Rattle.gs_master_spec.specs.Outcomes.{caller_of}
use Rattle.gs_nodes.specs.Happenings.{MasterHears, refusal_of_call}
use Rattle.gs_nodes.specs.declared.place.MasterPlace.{MasterPlace}
use Rattle.gs_nodes.specs.declared.place.MasterPlace.TheVariants.{Standing, Closed, Away}

-- a call is refused, and nothing changes
pub hears_closed : {D : Type 0} (seen : D → List ℕ) (failures : D → ℕ) (message : Message) (moment : Moment) (place : MasterPlace D) (turn : Turn) → ((m : MasterOf D) → place ≡ Standing m → ⊥)
    → turn.sent.items ≡ refusal_of_call (caller_of message.body) → turn.said ≡ Some refusals.Device → MasterHears seen failures message moment place (Ok turn) place
hears_closed seen failures message moment (Standing m) turn stands sent said = absurd (stands m refl)
hears_closed seen failures message moment (Closed first second) turn stands sent said = (refl, sent, said)
hears_closed seen failures message moment Away turn stands sent said = (refl, sent, said)
