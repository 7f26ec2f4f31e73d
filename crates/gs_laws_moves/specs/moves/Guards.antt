-- Under what the master makes a move, and what is right to be sent in a state.
use Rattle.std.specs.Prelude.{◌≡◌, ◌⊎◌, ◌+◌, ◌==◌, ◌&&◌, ℕ, Bool, true, false, List, ◌∷◌, [], length, slice_get, Contains, codes, Option, Some, None, Result, Ok, Err, refl}
use Rattle.std.specs.FinMap as fin
use Rattle.std.specs.List.{AllByRecursion, list_all}
use Rattle.gs_base.specs.Members.{is_member}
use Rattle.gs_base.specs.declared.config.Config.{Config}
use Rattle.gs_base.specs.declared.epoch.EpochEnd.{EpochEnd}
use Rattle.gs_base.specs.declared.epoch.EpochEnd.TheVariants as ends
use Rattle.gs_base.specs.declared.numbers.Moment.{Moment}
use Rattle.gs_base.specs.declared.numbers.ReqId.{ReqId}
use Rattle.gs_base.specs.declared.numbers.Stamp.{Stamp}
use Rattle.gs_base.specs.declared.refusal.Refusal.{Refusal}
use Rattle.gs_edit.specs.View.{NamesView}
use Rattle.gs_lease.specs.Transitions.{is_for_lease}
use Rattle.gs_lease.specs.declared.held.Grant.{Grant}
use Rattle.gs_lease.specs.declared.view.Purpose.{Purpose}
use Rattle.gs_lease.specs.declared.view.Purpose.TheVariants as purposes
use Rattle.gs_lease.specs.declared.view.Term.{Term}
use Rattle.gs_lease.specs.declared.view.View.{View}
use Rattle.gs_msg.specs.declared.answer.Answer.{Answer}
use Rattle.gs_msg.specs.declared.answer.Answer.TheVariants as answers
use Rattle.gs_msg.specs.declared.body.Body.{Body}
use Rattle.gs_msg.specs.declared.body.Body.TheVariants as bodies
use Rattle.gs_msg.specs.declared.body.Reported.{Reported}
use Rattle.gs_msg.specs.declared.call.Call.{Call}
use Rattle.gs_msg.specs.declared.chunk.Chunk.{Chunk as About}
use Rattle.gs_msg.specs.declared.chunk.Chunk.TheVariants as abouts
use Rattle.gs_msg.specs.declared.message.Message.{Message}
use Rattle.gs_msg.specs.declared.node.NodeId.{NodeId}
use Rattle.gs_msg.specs.declared.node.NodeId.TheVariants as nodes
use Rattle.gs_path.specs.Path.{Path}
use Rattle.gs_lock.specs.Locks.{stands_in_the_way}
use Rattle.gs_tree.specs.Edits.{same_path}
use Rattle.gs_master_record.specs.Plain.{PlainEdit, Mkdirs, Create, Rename, Hide, Unhide, AddChunk, Cow, Snapshot}
use Rattle.gs_view.specs.declared.poll.Poll.{Poll}
use Rattle.gs_master_spec.specs.Applied.{is_visible, view_in}
use Rattle.gs_master_spec.specs.Calls.{chunks_at, is_shared}
use Rattle.gs_master_spec.specs.Chunks.{Chunk, chunk_at, has_entry, heard_no, heard_yes, hears, is_target, members_in, source_in, view_by, with_target}
use Rattle.gs_laws_master.specs.Promises.{AllFit}
use Rattle.gs_master_spec.specs.Durable.{is_given, is_listed, is_rolling, prepared_view}
use Rattle.gs_master_spec.specs.Handling.{written}
use Rattle.gs_master_spec.specs.Hearing.{is_stray, is_with_sealed}
use Rattle.gs_master_spec.specs.Replies.{is_later}
use Rattle.gs_master_spec.specs.Settling.{is_quiet_at, source_chunks}
use Rattle.gs_master_spec.specs.State.{State, last_reply, first_of, is_failed, is_kept}
use Rattle.gs_master_spec.specs.Undoing.{all_undone, edited_names}
use Rattle.gs_master_spec.specs.Upgrades.{all_unquiet, end_tests, is_last_epoch, told_of, unrestored}
use Rattle.gs_master_spec.specs.Volatile.{is_pending}
use Rattle.gs_master_spec.specs.Working.{forgotten_chunks, removed_paths}
use Rattle.gs_master_spec.specs.declared.asking.Asking.{Asking}
use Rattle.gs_master_spec.specs.declared.pending.Waiting.{Waiting}
use Rattle.gs_master_spec.specs.declared.pending.Waiting.TheVariants as waits
use Rattle.gs_master_state.specs.Sane.{is_waited_by}
use Rattle.gs_master_spec.specs.declared.reply.KeptReply.{KeptReply}
use Rattle.gs_laws_moves.specs.moves.Moves.{Alone, Beside, FromNow, Further, Move, Begins, Makes, Copies, Hears, Sends, Settles, Edits, Extends, CopiesTree, Replaces, Scans, Refuses, Answers as AnswersCall, Waits, Restores, Says, Flags, Prepares, Finalizes, BeginsRollback, TellsRollback, CommitsRollback, Checkpoints, move_turn}

-- what a server has said in the event, if one has, or what a client has called
abbrev pub Heard : Type 0
Heard = Option (ℕ × Body)

-- a client has called
abbrev pub hears_call : Heard → Bool
hears_call (Some (from, bodies.Call req call)) = true
hears_call heard = false

-- ---- messages, each in the state in which it is sent

-- a server in a list
abbrev pub is_among : List ℕ → NodeId → Bool
is_among servers (nodes.Server server) = is_member servers server
is_among servers node = false

-- under this stamp the chunk is asked for, of this server among others
pub record IsAskedOf (s : State) (chunk : ℕ) (stamp : Stamp) (to : NodeId) : Type 0 where
  pub asking : Asking
  pub has : fin.get s.volatile.moving chunk ≡ Some asking
  pub under : asking.stamp ≡ stamp
  pub on : is_among asking.asked to ≡ true

-- a copy of the chunk is asked for: this server is one of those that were asked, and it is told to send it to the target
pub record IsAskedToCopy (s : State) (chunk : ℕ) (stamp : Stamp) (target : ℕ) (with_sealed : Bool) (to : NodeId) : Type 0 where
  pub asking : Asking
  pub source : ℕ
  pub has : fin.get s.volatile.moving chunk ≡ Some asking
  pub under : asking.stamp ≡ stamp
  pub copies : asking.purpose ≡ purposes.Copy target
  pub from : asking.source ≡ Some source
  pub chosen : source_in asking ≡ Some source
  pub is : to ≡ nodes.Server source
  pub sealed : with_sealed ≡ is_with_sealed s.durable.phase (prepared_view s.durable chunk) source

-- the chunk is settled on this view, and no other is proposed
pub record IsSettledOn (s : State) (chunk : ℕ) (view : View) : Type 0 where
  pub has : fin.get s.durable.chunks chunk ≡ Some (record { view = view; is_moving = false })
  pub unasked : fin.get s.volatile.moving chunk ≡ None

-- the chunk is leased so
pub record IsLeasedTo (s : State) (chunk : ℕ) (grant : Grant) (to : NodeId) : Type 0 where
  pub view : View
  pub primary : ℕ
  pub known : has_entry s chunk ≡ true
  pub settled : IsSettledOn s chunk view
  pub under : view.stamp ≡ grant.stamp
  pub members : view.members ≡ grant.members
  pub term : view.term ≡ Some (record { primary = primary; end = grant.end })
  pub is : to ≡ nodes.Server primary

-- the chunk is leased under this stamp
pub record IsLeasedUnder (s : State) (chunk : ℕ) (stamp : Stamp) : Type 0 where
  pub view : View
  pub term : Term
  pub known : has_entry s chunk ≡ true
  pub settled : IsSettledOn s chunk view
  pub under : view.stamp ≡ stamp
  pub leased : view.term ≡ Some term

-- the server has told of a replica with this promise, in the epoch that stands, which isn't rolled back; it isn't at home there
pub record IsStrayOf (heard : Heard) (s : State) (chunk epoch : ℕ) (promise : Stamp) (to : NodeId) : Type 0 where
  pub server : ℕ
  pub replicas : List Reported
  pub is_bad : Bool
  pub is : to ≡ nodes.Server server
  pub said : heard ≡ Some (server, bodies.Report epoch replicas)
  pub told : Contains replicas (record { handle = chunk; promise = promise; is_bad = is_bad })
  pub now : epoch ≡ s.durable.epoch
  pub rolling : is_rolling s.durable.phase ≡ false
  pub stray : is_stray (chunk_at s chunk) server ≡ true

abbrev pub IsRightAbout : Heard → State → ℕ → NodeId → About → Type 0
IsRightAbout heard s chunk to (abouts.Create stamp) = IsAskedOf s chunk stamp to
IsRightAbout heard s chunk to (abouts.Advance stamp) = IsAskedOf s chunk stamp to
IsRightAbout heard s chunk to (abouts.CopyOut stamp target with_sealed) = IsAskedToCopy s chunk stamp target with_sealed to
IsRightAbout heard s chunk to (abouts.Grant grant) = IsLeasedTo s chunk grant to
IsRightAbout heard s chunk to (abouts.Renewed stamp end) = IsLeasedUnder s chunk stamp
IsRightAbout heard s chunk to (abouts.Drop epoch promise) = IsStrayOf heard s chunk epoch promise to
IsRightAbout heard s chunk to said = ⊥

-- a settled chunk is copied where it is, and the new one is asked for
pub record IsCopiedAt (s : State) (old : ℕ) (at : Stamp) (new : ℕ) (stamp : Stamp) (to : NodeId) : Type 0 where
  pub view : View
  pub settled : IsSettledOn s old view
  pub quiet : view.term ≡ None
  pub under : view.stamp ≡ at
  pub on : is_among view.members to ≡ true
  pub asked : IsAskedOf s new stamp to

-- the epoch before this one ended so
pub record HasEnded (s : State) (epoch : ℕ) (end : EpochEnd) : Type 0 where
  pub before : ℕ
  pub next : epoch ≡ before + 1
  pub ended : slice_get s.durable.ends before ≡ Some end

-- the last reply to the client is this one
pub record WasReplied (s : State) (req : ReqId) (result : Result Answer Refusal) : Type 0 where
  pub reply : KeptReply
  pub has : last_reply s req.client ≡ Some reply
  pub number : (reply.number == req.number) ≡ true
  pub is : reply.result ≡ result

-- A chunk is where its settled view has it. A file has it, or had, and nothing is rolled back.
pub record IsLocatedBy (s : State) (chunk : ℕ) (view : View) (epoch : ℕ) : Type 0 where
  pub settled : view_in (fin.get s.durable.chunks chunk) ≡ Some view
  pub now : epoch ≡ s.durable.epoch
  pub listed : is_listed s.durable chunk ≡ true
  pub calm : is_rolling s.durable.phase ≡ false

abbrev pub IsRightAnswer : State → Answer → Type 0
IsRightAnswer s (answers.Location chunk view epoch) = IsLocatedBy s chunk view epoch
IsRightAnswer s answer = Unit {0}

-- A look-up by which a call ends tells of a chunk that is settled.
abbrev pub IsSettledBy : State → Answer → Type 0
IsSettledBy s (answers.Location chunk view epoch) = IsSettledOn s chunk view
IsSettledBy s answer = Unit {0}

abbrev pub IsEnd : State → Answer → (over : Bool) → Type 0
IsEnd s answer false = Unit {0}
IsEnd s answer true = IsSettledBy s answer

abbrev pub IsRightResult : State → Result Answer Refusal → Type 0
IsRightResult s (Ok answer) = IsRightAnswer s answer
IsRightResult s (Err refusal) = Unit {0}

-- This call is heard in the event
abbrev pub IsHeardCall : Heard → ReqId → Type 0
IsHeardCall heard req = (from : ℕ) × (call : Call) × (heard ≡ Some (from, bodies.Call req call))

-- and is later than what was answered last; or it waits.
abbrev pub IsCalled : Heard → State → ReqId → Type 0
IsCalled heard s req = (IsHeardCall heard req × (is_later (last_reply s req.client) req.number ≡ true)) ⊎ (is_pending s.volatile.pending req ≡ true)

-- so it is of what tells where a chunk is
abbrev pub IsCalledFor : Heard → State → ReqId → Answer → Type 0
IsCalledFor heard s req (answers.Location chunk view epoch) = IsCalled heard s req
IsCalledFor heard s req answer = Unit {0}

-- A call is refused in the event that brings it, where it doesn't wait; or it has waited till then.
abbrev pub IsRefusable : Heard → State → ReqId → (over : Bool) → Type 0
IsRefusable heard s req false = IsCalled heard s req × (is_pending s.volatile.pending req ≡ false)
IsRefusable heard s req true = is_pending s.volatile.pending req ≡ true

-- and of what waits from now on
abbrev pub IsCalledBeside : Heard → State → Beside → Type 0
IsCalledBeside heard s (FromNow req waiting) = IsCalled heard s req
IsCalledBeside heard s beside = Unit {0}

-- The master sends nothing else.
abbrev pub IsRight : Heard → State → NodeId → Body → Type 0
IsRight heard s to (bodies.About chunk said) = IsRightAbout heard s chunk to said
IsRight heard s to (bodies.MakeCopy old at new stamp) = IsCopiedAt s old at new stamp to
IsRight heard s to (bodies.Epoch epoch end) = HasEnded s epoch end
IsRight heard s to (bodies.Reply req result) = IsRightResult s result ⊎ WasReplied s req result
IsRight heard s to said = ⊥

abbrev pub AreRight : Heard → State → List Message → Type 0
AreRight heard s messages = AllByRecursion (λ (m : Message). IsRight heard s m.to m.body) messages

-- A reply that is sent beside no answer is the last one to its client once more; or it is a refusal that isn't kept. A client has called then whose call doesn't wait.
abbrev pub IsSaidAgain : Heard → State → Body → Type 0
IsSaidAgain heard s (bodies.Reply req (Ok answer)) = WasReplied s req (Ok answer)
IsSaidAgain heard s (bodies.Reply req (Err refusal)) = (is_kept refusal ≡ false) ⊎ (WasReplied s req (Err refusal) × (is_pending s.volatile.pending req ≡ false) × (hears_call heard ≡ true))
IsSaidAgain heard s body = Unit {0}

abbrev pub AreSaidAgain : Heard → State → List Message → Type 0
AreSaidAgain heard s messages = AllByRecursion (λ (m : Message). IsSaidAgain heard s m.body) messages

-- ---- messages that ask nobody: for no promise, and for no copy

abbrev pub asks_nobody_about : About → Bool
asks_nobody_about (abouts.Create stamp) = false
asks_nobody_about (abouts.Advance stamp) = false
asks_nobody_about (abouts.CopyOut stamp target with_sealed) = false
asks_nobody_about said = true

abbrev pub asks_nobody : Body → Bool
asks_nobody (bodies.About chunk said) = asks_nobody_about said
asks_nobody (bodies.MakeCopy old at new stamp) = false
asks_nobody body = true

abbrev pub ask_nobody : List Message → Bool
ask_nobody messages = list_all (λ (m : Message). asks_nobody m.body) messages

-- ---- what is heard

-- a server has promised with so many edits, and its answer counts
pub record IsYes (heard : Heard) (chunk : ℕ) (asking : Asking) (server count : ℕ) (carried : Bool) : Type 0 where
  pub stamp : Stamp
  pub said : heard ≡ Some (server, bodies.About chunk (abouts.Promised stamp count carried))
  pub counts : hears asking stamp server ≡ true

-- it hasn't, and that counts
pub record IsNo (heard : Heard) (chunk : ℕ) (asking : Asking) (server : ℕ) : Type 0 where
  pub stamp : Stamp
  pub refusal : Refusal
  pub said : heard ≡ Some (server, bodies.About chunk (abouts.Unpromised stamp refusal))
  pub counts : hears asking stamp server ≡ true

-- so one asking comes of another
abbrev pub ComesOf : Heard → ℕ → Asking → Asking → Type 0
ComesOf heard chunk old new =
    ((server count : ℕ) × (carried : Bool) × IsYes heard chunk old server count carried × (new ≡ heard_yes old server count))
    ⊎ ((server : ℕ) × IsNo heard chunk old server × (new ≡ heard_no old server))

pub record MayHear (heard : Heard) (s : State) (chunk : ℕ) (new : Asking) : Type 0 where
  pub old : Asking
  pub known : has_entry s chunk ≡ true
  pub has : fin.get s.volatile.moving chunk ≡ Some old
  pub comes : ComesOf heard chunk old new

-- the target of a copy has promised so
pub record IsByTarget (heard : Heard) (chunk : ℕ) (asking : Asking) (by : Poll) : Type 0 where
  pub server : ℕ
  pub count : ℕ
  pub carried : Bool
  pub yes : IsYes heard chunk asking server count carried
  pub target : is_target asking server ≡ true
  pub is : by ≡ with_target asking server count

-- A view is made of the answers that are in memory, perhaps with that of the target of a copy.
abbrev pub IsMadeBy : Heard → ℕ → Asking → Poll → Type 0
IsMadeBy heard chunk asking by = (by.counts ≡ asking.answers.counts) ⊎ IsByTarget heard chunk asking by

-- the target of a copy has promised with a sealed image
pub record HasCarried (heard : Heard) (chunk : ℕ) (asking : Asking) : Type 0 where
  pub server : ℕ
  pub count : ℕ
  pub yes : IsYes heard chunk asking server count true
  pub target : is_target asking server ≡ true

-- of a chunk with nothing but what is settled
abbrev pub settled_chunk : State → ℕ → Chunk
settled_chunk s chunk = record { settled = fin.get s.durable.chunks chunk; asking = None }

pub record MaySettle (heard : Heard) (s : State) (chunk : ℕ) (asking : Asking) (carried : Bool) (view : View) : Type 0 where
  pub by : Poll
  pub moment : Moment
  pub known : has_entry s chunk ≡ true
  pub has : fin.get s.volatile.moving chunk ≡ Some asking
  pub made : IsMadeBy heard chunk asking by
  pub view_is : view_by (settled_chunk s chunk) asking by moment ≡ Some view
  pub carries : carried ≡ true → HasCarried heard chunk asking
  pub leased : is_for_lease asking.purpose ≡ true → is_listed s.durable chunk ≡ true

pub record MaySend (s : State) (chunk : ℕ) (asking : Asking) (source target : ℕ) : Type 0 where
  pub known : has_entry s chunk ≡ true
  pub has : fin.get s.volatile.moving chunk ≡ Some asking
  pub copies : asking.purpose ≡ purposes.Copy target
  pub chosen : source_in asking ≡ Some source

-- ---- calls that wait

-- a call waits for a new chunk of a file; to copy a chunk at a place, or for its copy
abbrev pub waits_to_extend : ℕ → Waiting → Bool
waits_to_extend chunk (waits.Extend path new) = new == chunk
waits_to_extend chunk waiting = false

abbrev pub waits_to_copy : Path → ℕ → ℕ → Waiting → Bool
waits_to_copy path index old (waits.Quiet p i quiet) = same_path p path && (i == index && quiet == old)
waits_to_copy path index old waiting = false

abbrev pub waits_for_copy : Path → ℕ → ℕ → ℕ → Waiting → Bool
waits_for_copy path index old new (waits.Copy p i o n) = same_path p path && (i == index && (o == old && n == new))
waits_for_copy path index old new waiting = false

-- a call waits so
abbrev pub IsWaiting : State → ReqId → (Waiting → Bool) → Type 0
IsWaiting s req test = is_waited_by (Some req) test s.volatile.pending ≡ true

-- a call doesn't wait, and none that waits is in the way of one that reads and writes these paths
pub record IsFree (s : State) (req : ReqId) (reads writes : List Path) : Type 0 where
  pub new : is_pending s.volatile.pending req ≡ false
  pub free : stands_in_the_way s.volatile.locks req reads writes ≡ false

-- a call takes a place of a file, to put a copy of the chunk there
pub record TakesPlace (s : State) (req : ReqId) (path : Path) (index chunk : ℕ) : Type 0 where
  pub here : slice_get (chunks_at s.durable.names path) index ≡ Some chunk
  pub visible : is_visible path ≡ true
  pub free : IsFree s req (path ∷ []) (path ∷ [])

-- The chunk stands at a place that a call reads; or the call waits for the copy that has come to stand there.
pub record IsOpenAt (s : State) (req : ReqId) (chunk : ℕ) : Type 0 where
  pub path : Path
  pub index : ℕ
  pub here : slice_get (chunks_at s.durable.names path) index ≡ Some chunk
  pub clear : IsFree s req (path ∷ []) [] ⊎ ((old : ℕ) × IsWaiting s req (waits_for_copy path index old chunk))

-- what a call waits for from now on, for which a view of the chunk is proposed: no new chunk, and no copy
abbrev pub IsBegunBy : State → ReqId → ℕ → Waiting → Type 0
IsBegunBy s req chunk (waits.Extend path new) = ⊥
IsBegunBy s req chunk (waits.Copy path index old new) = ⊥
IsBegunBy s req chunk (waits.Quiet path index quiet) = (quiet ≡ chunk) × TakesPlace s req path index chunk
IsBegunBy s req chunk waiting = Unit {0}

-- one that has waited waits for a lease then
abbrev pub is_lease_wait : Waiting → Bool
is_lease_wait (waits.Lease path index chunk) = true
is_lease_wait waiting = false

abbrev pub IsBegunBeside : State → ℕ → Beside → Type 0
IsBegunBeside s chunk Alone = Unit {0}
IsBegunBeside s chunk (FromNow req waiting) = (is_pending s.volatile.pending req ≡ false) × IsBegunBy s req chunk waiting
IsBegunBeside s chunk (Further req waiting) = is_lease_wait waiting ≡ true

-- A copy is made for a call that waits for it from now on: at a place that it takes now, or that it has taken to copy this chunk.
abbrev pub IsCopyFromNow : State → ReqId → ℕ → Waiting → Type 0
IsCopyFromNow s req chunk (waits.Copy path index old new) = (old ≡ chunk) × (new ≡ s.durable.next_handle) × TakesPlace s req path index chunk
IsCopyFromNow s req chunk waiting = ⊥

abbrev pub IsCopyFurther : State → ReqId → ℕ → Waiting → Type 0
IsCopyFurther s req chunk (waits.Copy path index old new) = (old ≡ chunk) × (new ≡ s.durable.next_handle) × IsWaiting s req (waits_to_copy path index chunk)
IsCopyFurther s req chunk waiting = ⊥

abbrev pub IsCopiedBeside : State → ℕ → Beside → Type 0
IsCopiedBeside s chunk Alone = ⊥
IsCopiedBeside s chunk (FromNow req waiting) = IsCopyFromNow s req chunk waiting
IsCopiedBeside s chunk (Further req waiting) = IsCopyFurther s req chunk waiting

-- a call waits to copy a tree
abbrev pub is_tree_wait : Waiting → Bool
is_tree_wait (waits.Snapshot from to) = true
is_tree_wait waiting = false

-- ---- what is begun

-- the target of a copy is none of these
abbrev pub IsElsewhere : Purpose → List ℕ → Type 0
IsElsewhere purposes.Quiet members = Unit {0}
IsElsewhere purposes.Lease members = Unit {0}
IsElsewhere (purposes.Copy target) members = is_member members target ≡ false

-- no lease is asked for a chunk that stands in several places
abbrev pub IsAlone : State → ℕ → Purpose → Type 0
IsAlone s chunk purposes.Quiet = Unit {0}
IsAlone s chunk purposes.Lease = is_shared s.durable.names chunk ≡ false
IsAlone s chunk (purposes.Copy target) = Unit {0}

-- and one is asked for a call alone, at a place that is open to it
abbrev pub IsOpenFor : State → ℕ → Purpose → Option ReqId → Type 0
IsOpenFor s chunk purposes.Lease None = ⊥
IsOpenFor s chunk purposes.Lease (Some req) = IsOpenAt s req chunk
IsOpenFor s chunk purpose call = Unit {0}

pub record MayBegin (heard : Heard) (s : State) (chunk : ℕ) (purpose : Purpose) (call : Option ReqId) (beside : Beside) : Type 0 where
  pub known : has_entry s chunk ≡ true
  pub alone : IsAlone s chunk purpose
  pub elsewhere : IsElsewhere purpose (members_in (view_in (fin.get s.durable.chunks chunk)))
  pub called : IsCalledBeside heard s beside
  pub clear : IsOpenFor s chunk purpose call
  pub begun : IsBegunBeside s chunk beside

-- the next handle is that of no settled chunk
abbrev pub IsNext : State → Type 0
IsNext s = fin.get s.durable.chunks s.durable.next_handle ≡ None

pub record MayCopy (s : State) (old : ℕ) (view : View) : Type 0 where
  pub known : has_entry s old ≡ true
  pub listed : is_listed s.durable old ≡ true
  pub fresh : IsNext s
  pub given : is_given s.durable.next_handle old ≡ true
  pub settled : IsSettledOn s old view
  pub quiet : view.term ≡ None

-- ---- edits of the names

abbrev pub IsEdit : State → PlainEdit → Type 0
IsEdit s edit = (names : NamesView) × (edited_names edit s.durable.names ≡ Ok names)

-- an edit that a call makes at once: none that puts a chunk into a file, removes or forgets
abbrev pub is_of_tree : PlainEdit → Bool
is_of_tree (Mkdirs path) = true
is_of_tree (Create path) = true
is_of_tree (Rename from to) = true
is_of_tree (Hide path moment number) = true
is_of_tree (Unhide path) = true
is_of_tree (Snapshot from to) = true
is_of_tree edit = false

-- every chunk of which a snapshot is made is quiet
abbrev pub is_still_for : State → PlainEdit → Bool
is_still_for s (Snapshot from to) = list_all (is_quiet_at s) (source_chunks s from)
is_still_for s edit = true

-- no look-up is answered beside an edit
abbrev pub is_location : Answer → Bool
is_location (answers.Location chunk view epoch) = true
is_location answer = false

-- what an edit of a call moves or hides
abbrev pub moved_by : PlainEdit → List Path
moved_by (Rename from to) = from ∷ []
moved_by (Hide path moment number) = path ∷ []
moved_by (Unhide path) = path ∷ []
moved_by edit = []

pub record MayEdit (heard : Heard) (s : State) (req : ReqId) (edit : PlainEdit) (answer : Answer) : Type 0 where
  pub called : IsCalled heard s req
  pub edits : IsEdit s edit
  pub tree : is_of_tree edit ≡ true
  pub still : is_still_for s edit ≡ true
  pub answers : is_location answer ≡ false
  pub free : IsFree s req [] (moved_by edit)

pub record MayScan (s : State) (removed : List Path) (forgotten : List ℕ) : Type 0 where
  pub moment : Moment
  pub removes : removed ≡ removed_paths moment.0 (fin.entries s.durable.names.tree)
  pub forgets : forgotten ≡ forgotten_chunks moment.0 (fin.entries s.durable.names.tree) (fin.entries s.durable.names.refs)
  pub placed : (chunk : ℕ) → is_member s.volatile.unplaced chunk ≡ true → is_member forgotten chunk ≡ false

-- ---- epochs

pub record MayRestore (heard : Heard) (s : State) (server : ℕ) (chunks : List ℕ) : Type 0 where
  pub said : heard ≡ Some (server, bodies.Learned (s.durable.epoch) chunks)
  pub rolling : is_rolling s.durable.phase ≡ true

-- each epoch before has ended
abbrev pub AreEnded : State → Type 0
AreEnded s = length s.durable.ends ≡ s.durable.epoch

pub record MayPrepare (s : State) : Type 0 where
  pub begun : s.volatile.is_preparing ≡ true
  pub quiet : all_unquiet s ≡ []
  pub ended : AreEnded s

pub record MayEnd (s : State) : Type 0 where
  pub passed : first_of (end_tests s.durable.phase (is_last_epoch s.durable)) ≡ None
  pub ended : AreEnded s

pub record MayCommit (s : State) (names : NamesView) : Type 0 where
  pub rolling : is_rolling s.durable.phase ≡ true
  pub back : all_undone s.durable.inverses s.durable.names ≡ Some names
  pub restored : unrestored (prepared_view s.durable) (told_of s) (fin.entries names.refs) ≡ None

pub record MayCheckpoint (s : State) : Type 0 where
  pub sound : is_failed s.fault ≡ false
  pub quiet : s.volatile.is_preparing ≡ false
  pub fits : AllFit s (written s)

-- ---- all of them

abbrev pub May : Config → Heard → State → Move → Type 0
May config heard s (Begins chunk purpose call beside) = MayBegin heard s chunk purpose call beside
May config heard s (Makes targets req path) = IsNext s × IsCalled heard s req × (is_pending s.volatile.pending req ≡ false)
May config heard s (Copies old view req beside) = MayCopy s old view × IsCalledBeside heard s beside × IsCopiedBeside s old beside
May config heard s (Hears chunk asking) = MayHear heard s chunk asking
May config heard s (Sends chunk asking source target) = MaySend s chunk asking source target
May config heard s (Settles chunk asking carried view) = MaySettle heard s chunk asking carried view
May config heard s (Edits req edit answer) = MayEdit heard s req edit answer
May config heard s (Extends req path chunk view) = IsEdit s (AddChunk path chunk) × IsSettledOn s chunk view × (has_entry s chunk ≡ true) × IsCalled heard s req × IsWaiting s req (waits_to_extend chunk) × (hears_call heard ≡ false)
May config heard s (CopiesTree req from to) = IsEdit s (Snapshot from to) × (is_still_for s (Snapshot from to) ≡ true) × (is_pending s.volatile.pending req ≡ true) × (hears_call heard ≡ false)
May config heard s (Replaces path index old new) = IsEdit s (Cow path index old new) × ((view : View) × IsSettledOn s new view) × (has_entry s new ≡ true) × ((req : ReqId) × IsWaiting s req (waits_for_copy path index old new))
May config heard s (Scans removed forgotten) = MayScan s removed forgotten
May config heard s (Refuses req refusal over) = IsRefusable heard s req over
May config heard s (AnswersCall req answer over) = IsRightAnswer s answer × IsEnd s answer over × IsCalledFor heard s req answer
May config heard s (Waits req waiting) = IsCalled heard s req × (is_tree_wait waiting ≡ true) × (is_pending s.volatile.pending req ≡ false)
May config heard s (Restores server chunks) = MayRestore heard s server chunks
May config heard s (Says messages) = AreRight heard s messages × (ask_nobody messages ≡ true) × AreSaidAgain heard s messages
May config heard s (Flags req preparing epoch) = Unit {0}
May config heard s (Prepares req moment) = MayPrepare s
May config heard s (Finalizes req) = MayEnd s
May config heard s BeginsRollback = MayEnd s
May config heard s (TellsRollback req epoch) = HasEnded s epoch ends.Rollback
May config heard s (CommitsRollback req names) = MayCommit s names
May config heard s Checkpoints = MayCheckpoint s

-- A move is made under its guard, its records fit what they meet, and what it sends is right in the state that it leaves.
pub record IsMade (config : Config) (heard : Heard) (s : State) (move : Move) : Type 0 where
  pub may : May config heard s move
  pub fits : AllFit s (move_turn config s move)
  pub right : AreRight heard (move_turn config s move).after (move_turn config s move).sent

-- ---- examples

the_second_of_two : is_among (0 ∷ 2 ∷ []) (nodes.Server 2) ≡ true
the_second_of_two = refl

no_client_is_a_member : is_among (0 ∷ 2 ∷ []) (nodes.Client (record { 0 = 2 })) ≡ false
no_client_is_a_member = refl

-- what puts a chunk into a file waits for it first
an_extend_is_no_edit_at_once : (path : Path) → is_of_tree (AddChunk path 7) ≡ false
an_extend_is_no_edit_at_once path = refl

a_stray_answer_is_never_sent : (heard : Heard) (s : State) → IsRightAbout heard s 7 (nodes.Server 0) (abouts.Bad (record { epoch = 0; version = 5 })) ≡ ⊥
a_stray_answer_is_never_sent heard s = refl

abbrev f : Path
f = codes "f" ∷ []

the_copy_of_a_place : waits_for_copy f 0 7 8 (waits.Copy f 0 7 8) ≡ true
the_copy_of_a_place = refl

no_copy_of_another : waits_for_copy f 0 7 8 (waits.Copy f 0 9 8) ≡ false
no_copy_of_another = refl

an_extend_copies_nothing : (s : State) (req : ReqId) → IsCopyFromNow s req 7 (waits.Extend f 8) ≡ ⊥
an_extend_copies_nothing s req = refl
