-- All servers of a store, seen by one chunk.
use Rattle.std.specs.Prelude.{◌≡◌, ℕ, Bool, cond, nat_eq, true, false, ◌&&◌, is_none, Option, Some, None, List}
use Rattle.std.specs.List.{AllByRecursion}
use Rattle.gs_replica.specs.Seals.{lowest_damaged}
use Rattle.gs_msg.specs.declared.message.Message.{Message}
use Rattle.gs_store.specs.Slots.{Live}
use Rattle.gs_server.specs.Servers.{Server}
use Rattle.gs_server.specs.Runs as servers
use Rattle.gs_server.specs.Runs.{slot_in}
use Rattle.gs_laws_chunk.specs.machine.Machine.{ChunkWorld}
use Rattle.gs_laws_chunk.specs.machine.Laws.{is_member, IsReached}
use Rattle.gs_laws_parts.specs.server.Showing.{Setting, ShowsMember, BuffersRight}
use Rattle.gs_laws_parts.specs.server.Beside.{IsSameMember, MayBeWhole, HasPrepared}
use Rattle.gs_laws_chunk.specs.machine.Events.{marked}
use Rattle.gs_laws_parts.specs.server.Telling.{ServersTell}
use Rattle.gs_laws_parts.specs.server.Among.{ListsAmong}

-- A server of the store, with its sizes, is shown as the member of its number; and the bytes that were pushed to it are those of their
-- requests.
pub record IsServerOf (c : Setting) (chunk : ℕ) (w : ChunkWorld) (id : ℕ) (s : Server) : Type 0 where
  pub reached : servers.IsReached s
  pub me : s.me ≡ id
  pub block : s.block ≡ c.block
  pub size : s.chunk ≡ c.size
  pub shows : ShowsMember c chunk w s
  pub buffers : BuffersRight c s

abbrev pub AreServersOf : Setting → ℕ → ChunkWorld → (ℕ → Option Server) → Type 0
AreServersOf c chunk w servers = (id : ℕ) (s : Server) → servers id ≡ Some s → IsServerOf c chunk w id s

-- the servers with another one at this number
abbrev pub with_server : (ℕ → Option Server) → ℕ → Server → ℕ → Option Server
with_server servers id s = λ j. cond (nat_eq j id) (Some s) (servers j)

-- whether a server is a member of the settled view with a live replica of which no block is damaged: so a prepare may mark it
abbrev pub is_whole : Option Live → Bool
is_whole None = false
is_whole (Some l) = is_none (lowest_damaged l.replica.held.chunk)

abbrev pub is_whole_at : ℕ → Option Server → Bool
is_whole_at chunk None = false
is_whole_at chunk (Some s) = is_whole (slot_in chunk s).live

abbrev pub whole_among : ℕ → ChunkWorld → (ℕ → Option Server) → ℕ → Bool
whole_among chunk w servers id = is_member w id && is_whole_at chunk (servers id)

-- The master's events leave the members, but that a prepare marks them: whole only those that are.
abbrev pub LeavesMembers : ℕ → ChunkWorld → (ℕ → Bool) → ChunkWorld → (ℕ → Option Server) → Type 0
LeavesMembers chunk w whole last servers = (id : ℕ) → IsSameMember (w.members id) (whole id) (last.members id)
    × (HasPrepared w last → last.members id ≡ marked (w.members id) (whole id))
    × ((s : Server) → servers id ≡ Some s → whole id ≡ true → MayBeWhole chunk last s)

-- ---- the servers and all that was sent

-- What a run keeps of one chunk at its servers: the machine's world is reached; the servers are members of it; all these messages, which
-- were sent, tell what is said in the machine; and the blocks of all lists of views are among those that digests tell apart.
pub record IsStore (among : List ℕ → Bool) (c : Setting) (chunk : ℕ) (w : ChunkWorld) (servers : ℕ → Option Server) (sent : List Message) : Type 0 where
  pub reached : IsReached w
  pub servers_are : AreServersOf c chunk w servers
  pub tells : AllByRecursion (ServersTell c chunk w) sent
  pub lists : ListsAmong among c w
