-- Masters that are the same but for their disks.
use Rattle.std.specs.Prelude.{◌≡◌, refl}
use Rattle.gs_master.specs.Masters.{MasterOf}
use Rattle.gs_master.specs.declared.turn.Turn.{Turn}
use Rattle.gs_nodes.specs.declared.place.MasterPlace.{MasterPlace}
use Rattle.gs_nodes.specs.declared.place.MasterPlace.TheVariants.{Standing}

-- Their sizes, all that they know, and what is said of their journals: text, bytes, room and generation.
pub record IsSameMaster {D E : Type 0} (m : MasterOf D) (n : MasterOf E) : Type 0 where
  pub config : m.config ≡ n.config
  pub state : m.state ≡ n.state
  pub text : m.journal.text ≡ n.journal.text
  pub size : m.journal.size ≡ n.journal.size
  pub limit : m.journal.limit ≡ n.journal.limit
  pub generation : m.journal.generation ≡ n.journal.generation
  pub is_failed : m.journal.is_failed ≡ n.journal.is_failed

-- Two masters that were opened are the same, and what they send and say at it.
pub record AreOpenedAlike {D E : Type 0} (turn : Turn) (place : MasterPlace D) (other_turn : Turn) (other_place : MasterPlace E) : Type 0 where
  pub master : MasterOf D
  pub stands : place ≡ Standing master
  pub other : MasterOf E
  pub other_stands : other_place ≡ Standing other
  pub same : IsSameMaster master other
  pub sends : turn.sent.items ≡ other_turn.sent.items
  pub says : turn.said ≡ other_turn.said

-- Worked: a master is the same as itself.
it_is_itself : {D : Type 0} (m : MasterOf D) → IsSameMaster m m
it_is_itself m = record { config = refl; state = refl; text = refl; size = refl; limit = refl; generation = refl; is_failed = refl }
