-- A chunk that isn't born yet: servers keep nothing of it, and nothing is said of it.
use Rattle.std.specs.Prelude.{◌≡◌, ◌≤◌, ℕ, List}
use Rattle.std.specs.List.{AllByRecursion}
use Rattle.gs_msg.specs.declared.body.Body.{Body}
use Rattle.gs_msg.specs.declared.body.Body.TheVariants as bodies
use Rattle.gs_msg.specs.declared.body.Reported.{Reported}
use Rattle.gs_msg.specs.declared.message.Message.{Message}
use Rattle.gs_server.specs.Places.{empty_place}
use Rattle.gs_server.specs.Servers.{Server, place_of}
use Rattle.gs_server.specs.Runs as servers
use Rattle.gs_laws_parts.specs.server.Showing.{Setting, BuffersRight}

abbrev pub KeepsNothing : ℕ → Server → Type 0
KeepsNothing chunk s = place_of chunk s ≡ empty_place

-- a message is about other chunks, if about any
abbrev pub SaysNothing : ℕ → Body → Type 0
SaysNothing chunk (bodies.About handle said) = handle ≡ chunk → ⊥
SaysNothing chunk (bodies.MakeCopy handle at new_handle stamp) = (handle ≡ chunk → ⊥) × (new_handle ≡ chunk → ⊥)
SaysNothing chunk (bodies.Report epoch replicas) = AllByRecursion (λ (r : Reported). r.handle ≡ chunk → ⊥) replicas
SaysNothing chunk (bodies.Learned epoch handles) = AllByRecursion (λ (handle : ℕ). handle ≡ chunk → ⊥) handles
SaysNothing chunk body = Unit {0}

-- Where something happens at a server, it keeps nothing of the chunk behind it, nor does it say anything of it.
pub record StaysUnborn (chunk : ℕ) (after : Server) (sent : List Message) : Type 0 where
  pub keeps : KeepsNothing chunk after
  pub says : AllByRecursion (λ (m : Message). SaysNothing chunk m.body) sent

-- a message that tells of no epoch behind this one, and of what is pushed the bytes of its request
abbrev pub IsTimely : Setting → Body → Type 0
IsTimely c (bodies.Epoch epoch end) = epoch ≤ c.born
IsTimely c (bodies.Push req bytes) = bytes ≡ c.bytes req
IsTimely c body = Unit {0}

-- a server of the store to which a chunk is unborn, and which knows no epoch behind that of the birth
pub record IsUnbornAt (c : Setting) (chunk : ℕ) (id : ℕ) (s : Server) : Type 0 where
  pub reached : servers.IsReached s
  pub me : s.me ≡ id
  pub block : s.block ≡ c.block
  pub size : s.chunk ≡ c.size
  pub keeps : KeepsNothing chunk s
  pub within : s.kept.epoch ≤ c.born
  pub buffers : BuffersRight c s
