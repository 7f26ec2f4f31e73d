-- How a view is settled, and how the calls that waited for it go on or end.
use Rattle.std.specs.Prelude.{◌≡◌, ◌&&◌, ◌||◌, ℕ, Bool, true, false, not, List, [], ◌∷◌, ◌++◌, map, filter, Option, Some, None, option_and_then, Result, Ok, Err, if◌then◌else◌, refl}
use Rattle.std.specs.List.{list_all}
use Rattle.std.specs.FinMap as fin
use Rattle.gs_base.specs.Members.{is_member}
use Rattle.gs_base.specs.declared.numbers.Moment.{Moment}
use Rattle.gs_base.specs.declared.numbers.ReqId.{ReqId}
use Rattle.gs_base.specs.declared.refusal.Refusal.{Refusal}
use Rattle.gs_base.specs.declared.refusal.Refusal.TheVariants as refusals
use Rattle.gs_path.specs.Path.{Path}
use Rattle.gs_tree.specs.Chunks.{visible_chunks_under}
use Rattle.gs_edit.specs.View.{NamesView}
use Rattle.gs_lease.specs.declared.view.Purpose.TheVariants as purposes
use Rattle.gs_lease.specs.declared.view.Term.{Term}
use Rattle.gs_lease.specs.declared.view.View.{View}
use Rattle.gs_msg.specs.declared.answer.Answer.{Answer}
use Rattle.gs_msg.specs.declared.answer.Answer.TheVariants as answers
use Rattle.gs_msg.specs.declared.chunk.Chunk.TheVariants as chunks
use Rattle.gs_msg.specs.declared.message.Message.{Message}
use Rattle.gs_view.specs.declared.poll.Poll.{Poll}
use Rattle.gs_master_record.specs.Plain.{PlainEdit, AddChunk, Cow, Snapshot, PlainEntry, Edited}
use Rattle.gs_master_spec.specs.Beginning.{next_stamp, has_versions, has_handle, begin_at, copy_plan, waits_on}
use Rattle.gs_master_spec.specs.Chunks.{may_begin, Chunk, chunk_at, is_quiet, view_by, view_of, settling}
use Rattle.gs_master_spec.specs.Durable.{prepared_view}
use Rattle.gs_master_spec.specs.State.{State, Plan, Turn, turned, unmoved, and_then, for_each, if_room, about, reply_to, answer_changes, ended_by, all_ended_by, fits}
use Rattle.gs_master_spec.specs.Undoing.{edited_names}
use Rattle.gs_master_spec.specs.Volatile.{is_call}
use Rattle.gs_master_spec.specs.declared.asking.Asking.{Asking}
use Rattle.gs_master_spec.specs.declared.change.Change.{Change}
use Rattle.gs_master_spec.specs.declared.change.Change.TheVariants as changes
use Rattle.gs_master_spec.specs.declared.pending.Pending.{Pending}
use Rattle.gs_master_spec.specs.declared.pending.Waiting.{Waiting}
use Rattle.gs_master_spec.specs.declared.pending.Waiting.TheVariants as waits

-- the master's own request, under which it records edits of its own
abbrev pub own_request : ReqId
own_request = record { client = record { 0 = 0 }; number = 0 }

-- ---- ends of calls that waited

-- a call that waited is answered, and ends; no record tells of the answer
abbrev pub end_plan : State → ReqId → Answer → Plan
end_plan s req answer = record { records = []; changes = answer_changes s req answer ++ changes.End req ∷ []; sent = reply_to req (Ok answer) ∷ []; said = None }

abbrev pub ended_with : State → ReqId → Answer → Turn
ended_with s req answer = turned s (end_plan s req answer)

-- a turn whose records have room, or the call that waited is refused
abbrev pub if_room_for : State → ReqId → Turn → Turn
if_room_for s req t = if_room s t (ended_by s req refusals.Full)

-- a call that waited makes its edit, is answered, and ends
abbrev pub edit_plan : ReqId → PlainEdit → Answer → List Change → Plan
edit_plan req edit answer before = record { records = Edited req edit ∷ []; changes = before ++ changes.End req ∷ []; sent = reply_to req (Ok answer) ∷ []; said = None }

abbrev pub edit_turn : State → ReqId → Plan → Result NamesView Refusal → Turn
edit_turn s req plan (Ok names) = if_room_for s req (turned s plan)
edit_turn s req plan (Err refusal) = ended_by s req refusal

abbrev pub ended_by_edit : State → ReqId → PlainEdit → Answer → List Change → Turn
ended_by_edit s req edit answer before = edit_turn s req (edit_plan req edit answer before) (edited_names edit s.durable.names)

-- ---- what a call that waited does once a chunk is settled on a view

-- the chunk of an extend gets its place
abbrev pub extended : State → ReqId → Path → ℕ → View → Turn
extended s req path chunk view = ended_by_edit s req (AddChunk path chunk) (answers.Location chunk view s.durable.epoch) (changes.Place chunk ∷ [])

-- the settled view of a chunk that the master knows, where it is quiet
abbrev pub quiet_view : Chunk → Option View
quiet_view c = if is_quiet c then view_of c else None

abbrev pub quiet_view_at : State → ℕ → Option View
quiet_view_at s chunk = option_and_then quiet_view (chunk_at s chunk)

-- its members are told to copy a chunk that is quiet, and one that isn't is copied by nobody
abbrev pub copied_where : State → ReqId → Path → ℕ → ℕ → Option View → Turn
copied_where s req path index old None = ended_by s req refusals.NoReplica
copied_where s req path index old (Some view) =
    if_room_for s req (turned s (waits_on (copy_plan (next_stamp s.durable) old view s.durable.next_handle req) req (waits.Copy path index old s.durable.next_handle)))

abbrev pub copied : State → ReqId → Path → ℕ → ℕ → Turn
copied s req path index old =
    if not (may_begin s.durable.phase) then ended_by s req refusals.RollingBack
    else if not (has_handle s.durable && has_versions s.durable 1) then ended_by s req refusals.Exhausted
    else copied_where s req path index old (quiet_view_at s old)

-- a lease is asked for
abbrev pub leased_next : ReqId → Path → ℕ → ℕ → State → Turn
leased_next req path index chunk s =
    if not (may_begin s.durable.phase) then ended_by s req refusals.RollingBack
    else if not (has_versions s.durable 1) then ended_by s req refusals.Exhausted
    else if_room_for s req (turned s (waits_on (begin_at s chunk purposes.Lease (Some req)) req (waits.Lease path index chunk)))

-- the copy takes the chunk's place; then a lease is asked for
abbrev pub replace_plan : Path → ℕ → ℕ → ℕ → Plan
replace_plan path index old new = record { records = Edited own_request (Cow path index old new) ∷ []; changes = changes.Place new ∷ []; sent = []; said = None }

abbrev pub replaced_if : State → ReqId → Path → ℕ → ℕ → ℕ → Result NamesView Refusal → Turn
replaced_if s req path index old new (Ok names) =
    if fits s.log (Edited own_request (Cow path index old new) ∷ [])
    then and_then (turned s (replace_plan path index old new)) (leased_next req path index new)
    else ended_by s req refusals.Full
replaced_if s req path index old new (Err refusal) = ended_by s req refusal

abbrev pub replaced : State → ReqId → Path → ℕ → ℕ → ℕ → Turn
replaced s req path index old new = replaced_if s req path index old new (edited_names (Cow path index old new) s.durable.names)

abbrev pub is_quiet_at : State → ℕ → Bool
is_quiet_at s chunk = is_any_quiet (chunk_at s chunk)
  where
    is_any_quiet : Option Chunk → Bool
    is_any_quiet None = false
    is_any_quiet (Some c) = is_quiet c

-- the chunks that a snapshot copies
abbrev pub source_chunks : State → Path → List ℕ
source_chunks s from = visible_chunks_under from (fin.entries s.durable.names.tree)

-- a snapshot is made once every visible chunk of its source is quiet
abbrev pub copied_tree : State → ReqId → Path → Path → Turn
copied_tree s req from to =
    if list_all (is_quiet_at s) (source_chunks s from) then ended_by_edit s req (Snapshot from to) answers.Nothing [] else unmoved s

-- a copy was asked for: it has come where the target is a member
abbrev pub replicated : State → ReqId → ℕ → ℕ → View → Turn
replicated s req chunk target view =
    if is_member view.members target then ended_with s req (answers.Copied (Some (record { handle = chunk; server = target }))) else ended_by s req refusals.NoReplica

-- how a call goes on once a chunk is settled on this view, which is the chunk that it waits for or one of a snapshot's
unfoldable pub goes_on : State → ReqId → View → Waiting → Turn
goes_on s req view (waits.Extend path chunk) = extended s req path chunk view
goes_on s req view (waits.Lease path index chunk) = ended_with s req (answers.Location chunk view s.durable.epoch)
goes_on s req view (waits.Quiet path index chunk) = copied s req path index chunk
goes_on s req view (waits.Copy path index old new) = replaced s req path index old new
goes_on s req view (waits.Snapshot from to) = copied_tree s req from to
goes_on s req view (waits.Replicate chunk target) = replicated s req chunk target view

-- ---- whom it concerns

abbrev pub is_copied_by : State → ℕ → Waiting → Bool
is_copied_by s chunk (waits.Snapshot from to) = is_member (source_chunks s from) chunk
is_copied_by s chunk waiting = false

-- the call that moves a chunk, and each snapshot that copies it, in the order in which they began
abbrev pub concerned : State → ℕ → Option ReqId → List Pending
concerned s chunk call = filter (λ (p : Pending). is_call p.req call || is_copied_by s chunk p.waits) s.volatile.pending

abbrev pub requests_of : List Pending → List ReqId
requests_of pending = map (λ (p : Pending). p.req) pending

-- the calls that a chunk concerns end, and it stays as it is
abbrev pub all_refused : State → ℕ → Option ReqId → Refusal → Turn
all_refused s chunk call refusal = all_ended_by s (requests_of (concerned s chunk call)) refusal

-- nobody has promised
abbrev pub failed : State → ℕ → Option ReqId → Turn
failed s chunk call = all_refused s chunk call refusals.NoReplica

-- ---- settling

-- a lease goes to its primary
abbrev pub grant_of : ℕ → View → Option Term → List Message
grant_of chunk view None = []
grant_of chunk view (Some term) = about chunk (chunks.Grant (record { stamp = view.stamp; members = view.members; end = term.end })) term.primary ∷ []

abbrev pub grants : ℕ → View → List Message
grants chunk view = grant_of chunk view view.term

abbrev pub settle_plan : List PlainEntry → ℕ → View → Plan
settle_plan records chunk view = record { records = records; changes = changes.Settled chunk ∷ []; sent = grants chunk view; said = None }

abbrev pub all_go_on : View → List Pending → State → Turn
all_go_on view calls s = for_each s calls (λ (p : Pending) next. goes_on next p.req view p.waits)

-- without room for the view nothing is settled
abbrev pub settled_on : State → ℕ → Asking → Bool → View → Turn
settled_on s chunk asking carried view =
    let records = settling s.durable.phase (prepared_view s.durable chunk) carried chunk asking view in
    if fits s.log records
    then and_then (turned s (settle_plan records chunk view)) (all_go_on view (concerned s chunk asking.call))
    else all_refused s chunk asking.call refusals.Full

abbrev pub settled_if : State → ℕ → Asking → Bool → Option View → Turn
settled_if s chunk asking carried None = unmoved s
settled_if s chunk asking carried (Some view) = settled_on s chunk asking carried view

-- a chunk is settled by these answers, and the calls that it concerns go on
unfoldable pub settled_by : State → ℕ → Chunk → Asking → Bool → Poll → Moment → Turn
settled_by s chunk c asking carried by moment = settled_if s chunk asking carried (view_by c asking by moment)

-- ---- examples

abbrev a_view : Option Term → View
a_view term = record { stamp = record { epoch = 0; version = 5 }; count = 2; members = 0 ∷ 1 ∷ []; term = term }

a_grant_to_the_primary : grants 7 (a_view (Some (record { primary = 0; end = record { 0 = 60 } }))) ≡
    about 7 (chunks.Grant (record { stamp = record { epoch = 0; version = 5 }; members = 0 ∷ 1 ∷ []; end = record { 0 = 60 } })) 0 ∷ []
a_grant_to_the_primary = refl

no_grant_of_a_quiet_view : grants 7 (a_view None) ≡ []
no_grant_of_a_quiet_view = refl

abbrev settled_chunk : Option Term → Bool → Chunk
settled_chunk term moving = record { settled = Some (record { view = a_view term; is_moving = moving }); asking = None }

a_quiet_chunk_is_copied_by_its_members : quiet_view (settled_chunk None false) ≡ Some (a_view None)
a_quiet_chunk_is_copied_by_its_members = refl

no_copy_of_a_leased_chunk : quiet_view (settled_chunk (Some (record { primary = 0; end = record { 0 = 60 } })) false) ≡ None
no_copy_of_a_leased_chunk = refl

no_copy_of_a_chunk_that_moves : quiet_view (settled_chunk None true) ≡ None
no_copy_of_a_chunk_that_moves = refl

no_copy_of_a_chunk_without_a_view : quiet_view (record { settled = None; asking = None }) ≡ None
no_copy_of_a_chunk_without_a_view = refl
