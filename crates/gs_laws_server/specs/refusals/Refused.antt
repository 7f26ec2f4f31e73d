-- What becomes of an edit that a server has refused: the server numbers it at no later event.
use Rattle.std.specs.Prelude.{[], ◌≤◌, ◌∷◌, ◌++◌, ◌≡◌, ◌≢◌, ◌⊎◌, List, Ok, Err, Some, refl, ℕ}
use Rattle.std.specs.FinMap as fin
use Rattle.std.specs.List.{AllByRecursion}
use Rattle.gs_base.specs.declared.numbers.Moment.{Moment}
use Rattle.gs_base.specs.declared.numbers.ReqId.{ReqId}
use Rattle.gs_base.specs.declared.numbers.Stamp.{Stamp}
use Rattle.gs_base.specs.declared.refusal.Refusal.{Refusal}
use Rattle.gs_base.specs.declared.refusal.Refusal.TheVariants as refusals
use Rattle.gs_msg.specs.declared.body.Body.{Body}
use Rattle.gs_msg.specs.declared.body.Body.TheVariants as bodies
use Rattle.gs_msg.specs.declared.chunk.Chunk.TheVariants as chunks
use Rattle.gs_msg.specs.declared.message.Message.{Message}
use Rattle.gs_msg.specs.declared.node.NodeId.{NodeId}
use Rattle.gs_msg.specs.declared.op.Op.{Op}
use Rattle.gs_replica.specs.declared.op.Done.{Done}
use Rattle.gs_server.specs.Edits.{done, edit, unless_kept}
use Rattle.gs_server.specs.Places.{Here, Part, SlotBecomes}
use Rattle.gs_server.specs.Runs.{Event, Hears, behind, behind_all}
use Rattle.gs_server.specs.Servers.{Server, here_of, place_of}
use Rattle.gs_server.specs.Servers as servers
use Rattle.gs_server.specs.declared.turn.KeptRefusal.{KeptRefusal}
use Rattle.gs_server_lease.specs.Leases.{request_of}
use Rattle.gs_store.specs.Serving.{done_in}
use Rattle.gs_store.specs.Slots.{Slot}

-- a message that asks for an edit of a chunk
abbrev pub asks : NodeId → NodeId → ℕ → ReqId → Stamp → Op → Message
asks from to handle req stamp op = record { from = from; to = to; body = bodies.About handle (chunks.Edit req stamp op) }

-- an event at which a server hears such a message with this request
pub record HearsEdit (e : Event) (req : ReqId) : Type 0 where
  pub from : NodeId
  pub to : NodeId
  pub handle : ℕ
  pub stamp : Stamp
  pub op : Op
  pub moment : Moment
  pub is : e ≡ Hears (asks from to handle req stamp op) moment

-- what that message comes to
abbrev pub part_of : (e : Event) (req : ReqId) → HearsEdit e req → Server → Part
part_of e req h s = edit (here_of s h.moment h.handle (Some req)) (place_of h.handle s) req h.stamp h.op

-- an edit of this request is numbered at an event: its replica becomes another one
pub record IsNumberedAt (e : Event) (s : Server) (req : ReqId) : Type 0 where
  pub hears : HearsEdit e req
  pub slot : Slot
  pub becomes : (part_of e req hears s).slot ≡ SlotBecomes slot

-- It is refused at an event, for the first time or again, and not as older than another one of its client.
pub record IsRefusedAt (e : Event) (s : Server) (req : ReqId) : Type 0 where
  pub hears : HearsEdit e req
  pub refusal : Refusal
  pub said : (part_of e req hears s).said ≡ Some refusal
  pub other : refusal ≢ refusals.Old

-- a refusal of an edit of its client is kept, under this number or a greater one
pub record IsOver (req : ReqId) (s : Server) : Type 0 where
  pub kept : KeptRefusal
  pub there : fin.get s.kept.refused req.client ≡ Some kept
  pub within : req.number ≤ kept.number

-- What is answered to an edit that is over: nothing, a refusal, or how it was done.
-- The last is so where another server has numbered it: then it stands last of its client's edits in the live replica.
pub record IsAnsweredDone (e : Event) (s : Server) (req : ReqId) (h : HearsEdit e req) : Type 0 where
  pub last : Done
  pub there : done_in (place_of h.handle s).slot.live req.client.0 ≡ Some last
  pub same : last.number ≡ req.number
  pub sent : (part_of e req h s).sent ≡ done (here_of s h.moment h.handle (Some req)) req (Ok last.outcome) ∷ []

abbrev pub IsAnswered : (e : Event) (s : Server) (req : ReqId) → HearsEdit e req → Type 0
IsAnswered e s req h =
    ((part_of e req h s).sent ≡ [])
    ⊎ ((refusal : Refusal) × ((part_of e req h s).sent ≡ done (here_of s h.moment h.handle (Some req)) req (Err refusal) ∷ []))
    ⊎ IsAnsweredDone e s req h

-- ---- what is told

-- this is so of what a body tells of a refused edit
abbrev pub Only : (ReqId → Refusal → Type 0) → Body → Type 0
Only Told (bodies.Done req (Err refusal)) = Told req refusal
Only Told body = Unit {0}

-- the message brings just that edit, and it is met with this refusal
pub record TellsOwn (s : Server) (message : Message) (moment : Moment) (req : ReqId) (refusal : Refusal) : Type 0 where
  pub hears : HearsEdit (Hears message moment) req
  pub said : (part_of (Hears message moment) req hears s).said ≡ Some refusal

-- ---- over events

-- it is numbered at none of some events
abbrev pub NumbersNone : ReqId → List Event → Server → Type 0
NumbersNone req [] s = Unit {0}
NumbersNone req (e ∷ events) s = (IsNumberedAt e s req → ⊥) × NumbersNone req events (behind e s)

-- ---- what is to hold

-- What is refused so is over.
abbrev pub RefusedAreOver : Type 0
RefusedAreOver = (e : Event) (s : Server) (req : ReqId) → IsRefusedAt e s req → IsOver req (behind e s)

-- It stays over after each event: another edit, an epoch, a loss, a restart.
abbrev pub OverStay : Type 0
OverStay = (e : Event) (s : Server) (req : ReqId) → IsOver req s → IsOver req (behind e s)

-- Its message may come again, of whichever chunk. That leaves the server as it is.
abbrev pub OverChangeNothing : Type 0
OverChangeNothing = (e : Event) (s : Server) (req : ReqId) (h : HearsEdit e req) → IsOver req s → (behind e s ≡ s) × IsAnswered e s req h

-- And an edit that is over isn't numbered.
abbrev pub OverAreNotNumbered : Type 0
OverAreNotNumbered = (e : Event) (s : Server) (req : ReqId) → IsOver req s → IsNumberedAt e s req → ⊥

-- So an edit that was refused is numbered at no later event. Nor is an older one of its client, of whichever chunk.
abbrev pub RefusedAreNotNumbered : Type 0
RefusedAreNotNumbered = (e : Event) (s : Server) (req : ReqId) → IsRefusedAt e s req → (other : ReqId) → other.client ≡ req.client → other.number ≤ req.number → (events : List Event) → NumbersNone other events (behind e s)

-- And if no event before has numbered it, it is numbered at none.
abbrev pub RefusedAreNeverNumbered : Type 0
RefusedAreNeverNumbered = (before : List Event) (e : Event) (after : List Event) (s : Server) (req : ReqId) → NumbersNone req before s → IsRefusedAt e (behind_all before s) req → NumbersNone req (before ++ e ∷ after) s

-- A client is told that its edit is refused only at the message that brings it, and with the refusal that it meets.
abbrev pub TellsRefusals : Type 0
TellsRefusals = (s : Server) (message : Message) (moment : Moment) → AllByRecursion (λ (m : Message). Only (TellsOwn s message moment) m.body) (servers.handle s message moment).sent

-- A tick tells of no refused edit.
abbrev pub QuietTicks : Type 0
QuietTicks = (s : Server) (moment : Moment) → AllByRecursion (λ (m : Message). Only (λ req refusal. ⊥) m.body) (servers.tick s moment).sent

-- ---- Worked: a refusal that is kept under the number 2 bars the same edit and older ones of its client, but no newer one.
abbrev kept_two : KeptRefusal
kept_two = record { number = 2; refusal = refusals.NoReplica }

the_same_is_refused_alike : (h : Here) (part : Part) → (unless_kept h (request_of 7 2) (Some kept_two) part).said ≡ Some refusals.NoReplica
the_same_is_refused_alike h part = refl

an_older_one_is_old : (h : Here) (part : Part) → (unless_kept h (request_of 7 1) (Some kept_two) part).said ≡ Some refusals.Old
an_older_one_is_old h part = refl

a_newer_one_is_judged : (h : Here) (part : Part) → unless_kept h (request_of 7 3) (Some kept_two) part ≡ part
a_newer_one_is_judged h part = refl
