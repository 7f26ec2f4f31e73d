-- What a client reads of a replica, as the machine of the chunk has it.
use Rattle.std.specs.Prelude.{◌≡◌, ◌≤◌, ℕ, List, length, take, drop, Some, Ok}
use Rattle.gs_base.specs.declared.numbers.Stamp.{Stamp}
use Rattle.gs_block.specs.Stored.{digest_at}
use Rattle.gs_replica.specs.Stands.{Edit, replica_of}
use Rattle.gs_msg.specs.declared.body.Body.{Body}
use Rattle.gs_msg.specs.declared.body.Body.TheVariants as bodies
use Rattle.gs_msg.specs.declared.body.Given.{Given}
use Rattle.gs_msg.specs.declared.body.Given.TheVariants as givens
use Rattle.gs_msg.specs.declared.chunk.Asked.{Asked}
use Rattle.gs_msg.specs.declared.chunk.Asked.TheVariants as asks
use Rattle.gs_msg.specs.declared.message.Message.{Message}
use Rattle.gs_laws_chunk.specs.machine.Stamps.{stamp_at}
use Rattle.gs_laws_chunk.specs.machine.Machine.{ChunkWorld}
use Rattle.gs_laws_parts.specs.server.Showing.{Setting}

-- what is asked for, of a text
abbrev pub GivesOf : Setting → List ℕ → Asked → Given → Type 0
GivesOf c text (asks.Bytes offset many) (givens.Bytes part) = part ≡ take many (drop offset text)
GivesOf c text asks.Length (givens.Length many) = many ≡ length text
GivesOf c text (asks.Digest block) (givens.Digest found) = found ≡ digest_at c.block text block
GivesOf c text asked other = ⊥

-- It is of what the member's live edits give, in the epoch that was asked for and under no lesser promise than the stamp that was.
pub record IsRead (c : Setting) (w : ChunkWorld) (me epoch : ℕ) (stamp : Stamp) (asked : Asked) (found : Given) : Type 0 where
  pub edits : List Edit
  pub live : (w.members me).live ≡ Some edits
  pub within : (w.members me).epoch ≡ epoch
  pub reached : (t : ℕ) → stamp ≡ stamp_at t → t ≤ (w.members me).promise
  pub gives : GivesOf c (replica_of c.size edits).bytes asked found

-- so is what a server sends to a client that reads
abbrev pub ReadsBody : Setting → ChunkWorld → ℕ → ℕ → Stamp → Asked → Body → Type 0
ReadsBody c w me epoch stamp asked (bodies.Bytes req (Ok found)) = IsRead c w me epoch stamp asked found
ReadsBody c w me epoch stamp asked body = Unit {0}

abbrev pub Reads : Setting → ChunkWorld → ℕ → ℕ → Stamp → Asked → Message → Type 0
Reads c w me epoch stamp asked m = ReadsBody c w me epoch stamp asked m.body
