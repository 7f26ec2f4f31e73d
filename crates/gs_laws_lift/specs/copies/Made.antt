-- Which new chunks the master makes on servers: those that are copies of others are none of these.
use Rattle.std.specs.Prelude.{◌≡◌, ℕ, Bool, true, false, List, refl}
use Rattle.std.specs.List.{AllByRecursion}
use Rattle.gs_base.specs.declared.config.Config.{Config}
use Rattle.gs_base.specs.declared.numbers.ReqId.{ReqId}
use Rattle.gs_base.specs.declared.numbers.Stamp.{Stamp}
use Rattle.gs_msg.specs.declared.body.Body.{Body}
use Rattle.gs_msg.specs.declared.body.Body.TheVariants as bodies
use Rattle.gs_msg.specs.declared.chunk.Chunk.TheVariants as chunks
use Rattle.gs_msg.specs.declared.message.Message.{Message}
use Rattle.gs_path.specs.Path.{Path}
use Rattle.gs_master_record.specs.Plain.{Cow, Edited, PlainEntry}
use Rattle.gs_master_spec.specs.Durable.{is_given, is_listed}
use Rattle.gs_master_spec.specs.State.{State, Turn}
use Rattle.gs_laws_moves.specs.moves.Epochs.{EndsOnce}
use Rattle.gs_laws_moves.specs.moves.Guards.{Heard, IsMade}
use Rattle.gs_master_spec.specs.declared.pending.Pending.{Pending}
use Rattle.gs_master_spec.specs.declared.pending.Waiting.{Waiting}
use Rattle.gs_master_spec.specs.declared.pending.Waiting.TheVariants as waits

-- this makes the chunk, without edits, on no server
abbrev pub MakesNone : ℕ → Body → Type 0
MakesNone chunk (bodies.About handle (chunks.Create stamp)) = handle ≡ chunk → ⊥
MakesNone chunk body = Unit {0}

abbrev pub MakeNone : ℕ → List Message → Type 0
MakeNone chunk messages = AllByRecursion (λ (m : Message). MakesNone chunk m.body) messages

-- this holds of the new chunk that a call is to put in the place of another
abbrev pub IsOfCopy : (ℕ → Type 0) → Waiting → Type 0
IsOfCopy N (waits.Copy path index old new) = N new
IsOfCopy N waiting = Unit {0}

-- it holds of each such chunk, whose handle is given, and of each whose handle isn't
pub record AreOfCopies (N : ℕ → Type 0) (s : State) : Type 0 where
  pub waiting : AllByRecursion (λ (p : Pending). IsOfCopy (λ chunk. (is_given s.durable.next_handle chunk ≡ true) × N chunk) p.waits) s.volatile.pending
  pub fresh : (chunk : ℕ) → is_given s.durable.next_handle chunk ≡ false → N chunk

-- and of one that a record puts there
abbrev pub PutsCopy : (ℕ → Type 0) → PlainEntry → Type 0
PutsCopy N (Edited by (Cow path index before copy)) = N copy
PutsCopy N entry = Unit {0}

-- Of any turn: what no message makes stays so, with what the turn sends; and each chunk that it puts in the place of another is such, was in no file, and is in one then.
abbrev pub NotMadeSo : (ℕ → Bool) → ℕ → Type 0
NotMadeSo made chunk = made chunk ≡ false

abbrev pub UnmadeStays : Type 0
UnmadeStays = (made : ℕ → Bool) (config : Config) (heard : Heard) (s : State) (t : Turn) → EndsOnce config (IsMade config heard) s t → AreOfCopies (NotMadeSo made) s → AreOfCopies (λ chunk. NotMadeSo made chunk × MakeNone chunk t.sent) t.after

abbrev pub CopiesAreUnmade : Type 0
CopiesAreUnmade = (made : ℕ → Bool) (config : Config) (heard : Heard) (s : State) (t : Turn) → EndsOnce config (IsMade config heard) s t → AreOfCopies (NotMadeSo made) s
    → AllByRecursion (PutsCopy (λ chunk. NotMadeSo made chunk × ((is_listed s.durable chunk ≡ false) × (is_listed t.after.durable chunk ≡ true)))) t.records

-- ---- examples

its_make : (handle chunk : ℕ) (stamp : Stamp) → MakesNone chunk (bodies.About handle (chunks.Create stamp)) ≡ (handle ≡ chunk → ⊥)
its_make handle chunk stamp = refl

a_copy_makes_none : (old at new : ℕ) (from stamp : Stamp) → MakesNone new (bodies.MakeCopy old from new stamp) ≡ Unit {0}
a_copy_makes_none old at new from stamp = refl

what_is_put_there : (N : ℕ → Type 0) (by : ReqId) (path : Path) → PutsCopy N (Edited by (Cow path 0 7 8)) ≡ N 8
what_is_put_there N by path = refl
