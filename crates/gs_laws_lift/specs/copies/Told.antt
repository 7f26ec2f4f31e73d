-- As copies of which chunks servers are told to make the new ones that calls wait for: of none for the end of a file, and of the chunk at a place for that place.
use Rattle.std.specs.Prelude.{◌≡◌, ℕ, Bool, true, false, List, Option, None, Some, refl}
use Rattle.std.specs.List.{AllByRecursion}
use Rattle.gs_base.specs.declared.config.Config.{Config}
use Rattle.gs_base.specs.declared.numbers.Stamp.{Stamp}
use Rattle.gs_msg.specs.declared.body.Body.{Body}
use Rattle.gs_msg.specs.declared.body.Body.TheVariants as bodies
use Rattle.gs_msg.specs.declared.message.Message.{Message}
use Rattle.gs_path.specs.Path.{Path}
use Rattle.gs_laws_plain.specs.commands.Places.{Place}
use Rattle.gs_master_record.specs.Plain.{AddChunk, Cow, Edited, Finalize, PlainEntry}
use Rattle.gs_master_spec.specs.Durable.{is_given, is_listed}
use Rattle.gs_master_spec.specs.State.{State, Turn}
use Rattle.gs_laws_moves.specs.moves.Epochs.{EndsOnce}
use Rattle.gs_laws_moves.specs.moves.Guards.{Heard}
use Rattle.gs_laws_moves.specs.moves.Laws.{IsMadeWell}
use Rattle.gs_master_spec.specs.declared.pending.Pending.{Pending}
use Rattle.gs_master_spec.specs.declared.pending.Waiting.{Waiting}
use Rattle.gs_master_spec.specs.declared.pending.Waiting.TheVariants as waits

-- of which chunk a new one is to be a copy: of the one at the place that it is for, and of none where it is for the end of a file
abbrev pub copied_at : Option Place → Option ℕ
copied_at None = None
copied_at (Some place) = Some place.chunk

-- this tells nobody to make the chunk as a copy of another
abbrev pub MakesSo : Option Place → ℕ → Body → Type 0
MakesSo place chunk (bodies.MakeCopy old at new stamp) = new ≡ chunk → copied_at place ≡ Some old
MakesSo place chunk body = Unit {0}

abbrev pub MakeSo : Option Place → ℕ → List Message → Type 0
MakeSo place chunk messages = AllByRecursion (λ (m : Message). MakesSo place chunk m.body) messages

-- this holds of the new chunk that a call waits for, and of the place that it is for
abbrev pub OfNew : (Option Place → ℕ → Type 0) → Waiting → Type 0
OfNew N (waits.Extend path new) = N None new
OfNew N (waits.Copy path index old new) = N (Some (record { path = path; index = index; chunk = old })) new
OfNew N waiting = Unit {0}

-- it holds of each such chunk, whose handle is given, and of each whose handle isn't, whatever that may come to be for
pub record AllNew (N : Option Place → ℕ → Type 0) (s : State) : Type 0 where
  pub waiting : AllByRecursion (λ (p : Pending). OfNew (λ place chunk. (is_given s.durable.next_handle chunk ≡ true) × N place chunk) p.waits) s.volatile.pending
  pub fresh : (place : Option Place) (chunk : ℕ) → is_given s.durable.next_handle chunk ≡ false → N place chunk

-- and of one that a record puts into a file
abbrev pub OfPut : (Option Place → ℕ → Type 0) → PlainEntry → Type 0
OfPut N (Edited by (AddChunk path chunk)) = N None chunk
OfPut N (Edited by (Cow path index old new)) = N (Some (record { path = path; index = index; chunk = old })) new
OfPut N entry = Unit {0}

-- Of a firm turn: what no message told otherwise stays so, with what the turn sends; and each chunk that it puts into a file is such, was in no file, and is in one then.
abbrev pub NotTold : (Option Place → ℕ → Bool) → Option Place → ℕ → Type 0
NotTold otherwise place chunk = otherwise place chunk ≡ false

abbrev pub NewStay : Type 0
NewStay = (otherwise : Option Place → ℕ → Bool) (config : Config) (heard : Heard) (s : State) (t : Turn) → EndsOnce config (IsMadeWell config heard) s t → AllNew (NotTold otherwise) s
    → AllNew (λ place chunk. NotTold otherwise place chunk × MakeSo place chunk t.sent) t.after

abbrev pub PutAreNew : Type 0
PutAreNew = (otherwise : Option Place → ℕ → Bool) (config : Config) (heard : Heard) (s : State) (t : Turn) → EndsOnce config (IsMadeWell config heard) s t → AllNew (NotTold otherwise) s
    → AllByRecursion (OfPut (λ place chunk. NotTold otherwise place chunk × ((is_listed s.durable chunk ≡ false) × (is_listed t.after.durable chunk ≡ true)))) t.records

-- ---- examples

abbrev a_place : Path → Place
a_place path = record { path = path; index = 0; chunk = 7 }

a_copy_for_a_place : (path : Path) (at stamp : Stamp) → MakesSo (Some (a_place path)) 8 (bodies.MakeCopy 7 at 8 stamp)
a_copy_for_a_place path at stamp same = refl

no_copy_for_the_end : (at stamp : Stamp) → MakesSo None 8 (bodies.MakeCopy 7 at 8 stamp) → ⊥
no_copy_for_the_end at stamp is = (let k = is refl in cc)

nothing_is_put_otherwise : (epoch : ℕ) (N : Option Place → ℕ → Type 0) → OfPut N (Finalize epoch) ≡ Unit {0}
nothing_is_put_otherwise epoch N = refl
