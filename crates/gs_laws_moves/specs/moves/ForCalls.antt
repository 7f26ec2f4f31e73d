-- For which call a move is made: for the one that is heard in the event, or for one that waits.
use Rattle.std.specs.Prelude.{◌≡◌, ◌==◌, ◌&&◌, ℕ, Bool, true, false, List, [], ◌∷◌, length, slice_get, codes, Option, Some, None, refl}
use Rattle.std.specs.FinMap as fin
use Rattle.gs_base.specs.declared.config.Config.{Config}
use Rattle.gs_base.specs.declared.numbers.ReqId.{ReqId}
use Rattle.gs_base.specs.declared.numbers.Stamp.{Stamp}
use Rattle.gs_edit.specs.View.{NamesView}
use Rattle.gs_lease.specs.declared.view.Term.{Term}
use Rattle.gs_lease.specs.declared.view.View.{View}
use Rattle.gs_msg.specs.declared.answer.Answer.{Answer}
use Rattle.gs_msg.specs.declared.answer.Answer.TheVariants as answers
use Rattle.gs_msg.specs.declared.body.Body.TheVariants as bodies
use Rattle.gs_msg.specs.declared.call.Call.{Call}
use Rattle.gs_msg.specs.declared.call.Call.TheVariants as calls
use Rattle.gs_path.specs.Path.{Path}
use Rattle.gs_master_record.specs.Plain.{PlainEdit, Mkdirs, Create, Rename, Hide, Unhide, Snapshot}
use Rattle.gs_tree.specs.Edits.{same_path, target_of}
use Rattle.gs_tree.specs.Entry.{File}
use Rattle.gs_master_spec.specs.Applied.{is_visible}
use Rattle.gs_master_spec.specs.Calls.{chunks_at}
use Rattle.gs_master_spec.specs.Replies.{is_later}
use Rattle.gs_master_spec.specs.State.{State, and_then, for_each, last_reply}
use Rattle.gs_master_spec.specs.Volatile.{is_pending}
use Rattle.gs_master_spec.specs.declared.pending.Waiting.{Waiting}
use Rattle.gs_master_spec.specs.declared.pending.Waiting.TheVariants as waits
use Rattle.gs_laws_master.specs.Standing.{Event, IsFirm, IsNamed, turn_of}
use Rattle.gs_laws_master.specs.Written.{IsHeardIn, IsSteady}
use Rattle.gs_base.specs.declared.numbers.Moment.{Moment}
use Rattle.gs_laws_master.specs.Promises.{AllFit}
use Rattle.gs_master_spec.specs.Handling.{granted, pressed, proposals}
use Rattle.gs_laws_moves.specs.moves.Epochs.{EndsOnce}
use Rattle.gs_laws_moves.specs.moves.Guards.{Heard, IsFree, IsMade, IsWaiting, waits_for_copy}
use Rattle.gs_laws_moves.specs.moves.Laws.{IsMadeWell, heard_in, met_in}
use Rattle.gs_laws_moves.specs.moves.Moves.{Alone, Beside, FromNow, Further, Move, Begins, Makes, Copies, Edits, Extends, CopiesTree, Scans, Answers as AnswersCall, Waits, Flags, Prepares, Finalizes, BeginsRollback, TellsRollback, CommitsRollback}

-- ---- a call that is heard

-- this very call is heard in the event
abbrev pub IsHeardAs : Heard → ReqId → Call → Type 0
IsHeardAs heard req call = (from : ℕ) × (heard ≡ Some (from, bodies.Call req call))

-- the call is heard, it is later than what its client was answered last, and it doesn't wait
pub record IsNew (heard : Heard) (s : State) (req : ReqId) (call : Call) : Type 0 where
  pub heard_so : IsHeardAs heard req call
  pub later : is_later (last_reply s req.client) req.number ≡ true
  pub rests : is_pending s.volatile.pending req ≡ false

-- ---- places

-- the chunk stands at this place of the file
abbrev pub StandsAt : NamesView → Path → ℕ → ℕ → Type 0
StandsAt names path index chunk = slice_get (chunks_at names path) index ≡ Some chunk

-- a file stands at the path, and has so many chunks
pub record HasChunks (names : NamesView) (path : Path) (many : ℕ) : Type 0 where
  pub chunks : List ℕ
  pub file : fin.get names.tree path ≡ Some (File chunks)
  pub count : length chunks ≡ many

-- a view has a primary
abbrev pub IsLed : View → Type 0
IsLed view = (term : Term) × (view.term ≡ Some term)

-- ---- what is looked up at once

-- the chunk stands at the place that the call names, and where it is to be written it has a primary
abbrev pub IsPlaceOf : NamesView → ℕ → View → Call → Type 0
IsPlaceOf names chunk view (calls.FindForReading path index) = StandsAt names path index chunk
IsPlaceOf names chunk view (calls.FindForWriting path index stamp) = StandsAt names path index chunk × IsLed view
IsPlaceOf names chunk view (calls.Extend path index) = StandsAt names path index chunk
IsPlaceOf names chunk view call = ⊥

-- a call that is heard names that place
abbrev pub IsLookedUpFor : Heard → State → ReqId → ℕ → View → Type 0
IsLookedUpFor heard s req chunk view = (call : Call) × IsNew heard s req call × IsPlaceOf s.durable.names chunk view call

-- ---- what a call waits for

-- a call waits to put this chunk at the end of this file; for a lease of it at this place; to copy this tree
abbrev pub waits_at_end : Path → ℕ → Waiting → Bool
waits_at_end path chunk (waits.Extend p new) = same_path p path && new == chunk
waits_at_end path chunk waiting = false

abbrev pub waits_for_lease : Path → ℕ → ℕ → Waiting → Bool
waits_for_lease path index chunk (waits.Lease p i leased) = same_path p path && (i == index && leased == chunk)
waits_for_lease path index chunk waiting = false

abbrev pub waits_for_tree : Path → Path → Waiting → Bool
waits_for_tree from to (waits.Snapshot f t) = same_path f from && same_path t to
waits_for_tree from to waiting = false

-- A call to find a chunk for writing is heard, and the chunk stands at the place that it names.
pub record IsForWriting (heard : Heard) (s : State) (req : ReqId) (path : Path) (index chunk : ℕ) : Type 0 where
  pub stamp : Option Stamp
  pub new : IsNew heard s req (calls.FindForWriting path index stamp)
  pub here : StandsAt s.durable.names path index chunk
  pub visible : is_visible path ≡ true

-- A call to extend a file after its last chunk is heard, and it may write there.
pub record IsForEnd (heard : Heard) (s : State) (req : ReqId) (path : Path) : Type 0 where
  pub index : ℕ
  pub new : IsNew heard s req (calls.Extend path index)
  pub here : HasChunks s.durable.names path index
  pub visible : is_visible path ≡ true
  pub free : IsFree s req (path ∷ []) (path ∷ [])

-- a view of the chunk is proposed, and a call that is heard waits for it from now on: it asks for just that
abbrev pub IsBegunFor : Heard → State → ReqId → ℕ → Waiting → Type 0
IsBegunFor heard s req chunk (waits.Lease path index leased) = (leased ≡ chunk) × IsForWriting heard s req path index chunk × IsFree s req (path ∷ []) []
IsBegunFor heard s req chunk (waits.Quiet path index quiet) = (quiet ≡ chunk) × IsForWriting heard s req path index chunk
IsBegunFor heard s req chunk (waits.Replicate copied target) = IsNew heard s req calls.Replicate
IsBegunFor heard s req chunk waiting = ⊥

-- a call that has waited for a copy waits further, for a lease of that copy, which stands at its place now
abbrev pub IsFurtherFor : State → ReqId → ℕ → Waiting → Type 0
IsFurtherFor s req chunk (waits.Lease path index leased) = (leased ≡ chunk) × ((old : ℕ) × IsWaiting s req (waits_for_copy path index old chunk)) × StandsAt s.durable.names path index chunk
IsFurtherFor s req chunk waiting = ⊥

-- the call beside which a view is proposed, if there is one
abbrev pub IsBesideFor : Heard → State → ℕ → Beside → Type 0
IsBesideFor heard s chunk Alone = Unit {0}
IsBesideFor heard s chunk (FromNow req waiting) = IsBegunFor heard s req chunk waiting
IsBesideFor heard s chunk (Further req waiting) = IsFurtherFor s req chunk waiting

-- a copy is made for a call to find the chunk for writing
abbrev pub IsCopiedFor : Heard → State → ℕ → Beside → Type 0
IsCopiedFor heard s chunk (FromNow req (waits.Copy path index old new)) = IsForWriting heard s req path index chunk
IsCopiedFor heard s chunk beside = Unit {0}

-- a call that waits to copy a tree was heard to do so
abbrev pub IsTreeFor : Heard → State → ReqId → Waiting → Type 0
IsTreeFor heard s req (waits.Snapshot from to) = IsNew heard s req (calls.Snapshot from to)
IsTreeFor heard s req waiting = ⊥

-- a call is told where a chunk is: the chunk is looked up at once, or the call has waited for its lease and the view has a primary
abbrev pub IsAnswerFor : Heard → State → ReqId → Answer → Bool → Type 0
IsAnswerFor heard s req (answers.Location chunk view epoch) false = IsLookedUpFor heard s req chunk view
IsAnswerFor heard s req (answers.Location chunk view epoch) true = (path : Path) × (index : ℕ) × IsWaiting s req (waits_for_lease path index chunk) × IsLed view
IsAnswerFor heard s req answer over = Unit {0}

-- the call by which a prepare is begun, or given up
abbrev pub flag_call : Bool → Call
flag_call true = calls.PrepareBegin
flag_call false = calls.PrepareAbort

-- An edit that a call makes at once is the one that it asks for. A rename has its target as it is resolved. A deletion has the next number; of its moment nothing is said here.
abbrev pub IsEditOf : State → Call → PlainEdit → Type 0
IsEditOf s (calls.Mkdirs path) edit = edit ≡ Mkdirs path
IsEditOf s (calls.Create path) edit = edit ≡ Create path
IsEditOf s (calls.Rename from to) edit = edit ≡ Rename from (target_of (fin.get s.durable.names.tree) from to)
IsEditOf s (calls.Delete path recursive) edit = (moment : ℕ) × (edit ≡ Hide path moment s.durable.next_hidden)
IsEditOf s (calls.Undelete path) edit = edit ≡ Unhide path
IsEditOf s (calls.Snapshot from to) edit = edit ≡ Snapshot from to
IsEditOf s call edit = ⊥

-- ---- of each move

-- for which call a move is made; of moves that need none nothing is said
abbrev pub IsFor : Heard → State → Move → Type 0
IsFor heard s (Begins chunk purpose call beside) = IsBesideFor heard s chunk beside
IsFor heard s (Makes targets req path) = IsForEnd heard s req path
IsFor heard s (Copies old view req beside) = IsCopiedFor heard s old beside
IsFor heard s (Edits req edit answer) = (call : Call) × IsNew heard s req call × IsEditOf s call edit
IsFor heard s (Extends req path chunk view) = IsWaiting s req (waits_at_end path chunk)
IsFor heard s (CopiesTree req from to) = IsWaiting s req (waits_for_tree from to)
IsFor heard s (Scans removed forgotten) = (req : ReqId) × IsNew heard s req calls.Scan
IsFor heard s (AnswersCall req answer over) = IsAnswerFor heard s req answer over
IsFor heard s (Waits req waiting) = IsTreeFor heard s req waiting
IsFor heard s (Flags req preparing epoch) = IsHeardAs heard req (flag_call preparing)
IsFor heard s (Prepares req moment) = IsNew heard s req calls.PrepareCommit
IsFor heard s (Finalizes req) = IsNew heard s req calls.Finalize
IsFor heard s BeginsRollback = (req : ReqId) × IsNew heard s req calls.RollbackBegin
IsFor heard s (TellsRollback req epoch) = IsHeardAs heard req calls.RollbackBegin
IsFor heard s (CommitsRollback req names) = IsNew heard s req calls.RollbackCommit
IsFor heard s move = Unit {0}

-- ---- what is to hold

-- Each move of each event of a firm master is made for a call.
abbrev pub IsMadeFor : Config → Heard → State → Move → Type 0
IsMadeFor config heard s move = IsMade config heard s move × IsFor heard s move

abbrev pub EventsAreFor : Type 0
EventsAreFor = (config : Config) (s : State) (event : Event) → IsNamed event → IsFirm s → EndsOnce config (IsMadeFor config (heard_in event)) (met_in s event) (turn_of config s event)

-- So are those of a tick where memory is wanting for the checkpoint that is due.
abbrev pub TicksAreFor : Type 0
TicksAreFor = (config : Config) (s : State) (moment : Moment) → IsFirm s → AllFit s (and_then (for_each s (proposals s) (pressed moment)) granted) → EndsOnce config (IsMadeFor config None) s (and_then (for_each s (proposals s) (pressed moment)) granted)

-- Where the master is steady, what is durable stands before and after each move.
abbrev pub IsMadeWellFor : Config → Heard → State → Move → Type 0
IsMadeWellFor config heard s move = IsMadeWell config heard s move × IsFor heard s move

abbrev pub EventsStandFor : Type 0
EventsStandFor = (config : Config) (s : State) (event : Event) → IsNamed event → IsHeardIn s event → IsSteady s → EndsOnce config (IsMadeWellFor config (heard_in event)) (met_in s event) (turn_of config s event)

-- ---- examples

abbrev f : Path
f = codes "f" ∷ []

a_finalize_is_for_its_call : (heard : Heard) (s : State) (req : ReqId) → IsFor heard s (Finalizes req) ≡ IsNew heard s req calls.Finalize
a_finalize_is_for_its_call heard s req = refl

its_own_end : waits_at_end f 7 (waits.Extend f 7) ≡ true
its_own_end = refl

the_end_of_another : waits_at_end f 7 (waits.Extend (codes "g" ∷ []) 7) ≡ false
the_end_of_another = refl

a_lease_of_another_place : waits_for_lease f 0 7 (waits.Lease f 1 7) ≡ false
a_lease_of_another_place = refl
