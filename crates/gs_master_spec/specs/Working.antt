-- The calls that begin views: finding a chunk for writing, extending a file, copying a tree, making a replica; and the scan.
use Rattle.std.specs.Prelude.{◌≡◌, ◌&&◌, ◌||◌, ◌==◌, ◌++◌, ℕ, Bool, true, false, not, nat_lt, nat_le, List, [], ◌∷◌, map, filter, length, codes, Option, Some, None, Result, Ok, Err, if◌then◌else◌, refl}
use Rattle.std.specs.List.{list_any}
use Rattle.std.specs.Ordering.{nat_cmp}
use Rattle.std.specs.FinMap as fin
use Rattle.gs_base.specs.Members.{is_member}
use Rattle.gs_base.specs.Stamps.{is_same}
use Rattle.gs_base.specs.declared.config.Config.{Config}
use Rattle.gs_base.specs.declared.numbers.Moment.{Moment}
use Rattle.gs_base.specs.declared.numbers.ReqId.{ReqId}
use Rattle.gs_base.specs.declared.numbers.Stamp.{Stamp}
use Rattle.gs_base.specs.declared.refusal.Refusal.{Refusal}
use Rattle.gs_base.specs.declared.refusal.Refusal.TheVariants as refusals
use Rattle.gs_path.specs.Element.{is_hidden}
use Rattle.gs_path.specs.Path.{Path}
use Rattle.gs_refs.specs.Counts.{occurrences}
use Rattle.gs_tree.specs.Entry.{Entry, Dir, File}
use Rattle.gs_tree.specs.Find.{Rows, at}
use Rattle.gs_tree.specs.Edits.{chunks_in}
use Rattle.gs_tree.specs.Chunks.{all_chunks}
use Rattle.gs_edit.specs.Scan.{is_removed, gone, removal_cmp}
use Rattle.gs_edit.specs.Edits.{edited}
use Rattle.gs_edit.specs.declared.edit.Edit.TheVariants as edits
use Rattle.gs_lease.specs.declared.view.Purpose.TheVariants as purposes
use Rattle.gs_lease.specs.declared.view.Term.{Term}
use Rattle.gs_lease.specs.declared.view.View.{View}
use Rattle.gs_msg.specs.declared.answer.Answer.TheVariants as answers
use Rattle.gs_place.specs.Needs.{most_needed_of}
use Rattle.gs_place.specs.declared.need.Need.{Need}
use Rattle.gs_master_record.specs.Plain.{PlainEdit, Remove, Snapshot, Forget, Edited}
use Rattle.gs_master_spec.specs.Beginning.{next_stamp, has_versions, has_handle, begin_at, all_begun, create_plan, copy_plan, waits_from_now, counted_views, targets_for}
use Rattle.gs_master_spec.specs.Calls.{answered_with, edited_by, found_chunk, is_shared, references, looked_up, location, most_chunks}
use Rattle.gs_master_spec.specs.Chunks.{Chunk, chunk_at, has_entry, is_quiet, is_leased, is_wanted, view_of, members_of}
use Rattle.gs_master_spec.specs.Durable.{Durable, Settled}
use Rattle.gs_master_spec.specs.Settling.{own_request, source_chunks, is_quiet_at, requests_of}
use Rattle.gs_master_spec.specs.State.{State, Plan, Turn, turned, and_then, if_room, refused, all_ended_by}
use Rattle.gs_master_spec.specs.declared.change.Change.TheVariants as changes
use Rattle.gs_master_spec.specs.declared.pending.Pending.{Pending}
use Rattle.gs_master_spec.specs.declared.pending.Waiting.{Waiting}
use Rattle.gs_master_spec.specs.declared.pending.Waiting.TheVariants as waits

-- ---- a call that begins a view, and waits for it

-- Exhausted where no version is left, and Full where there is no room for the record
abbrev pub begins : State → ReqId → Plan → Waiting → Turn
begins s req plan waiting =
    if not (has_versions s.durable 1) then refused s req refusals.Exhausted
    else if_room s (turned s (waits_from_now plan req waiting)) (refused s req refusals.Full)

-- the same with a new chunk
abbrev pub begins_new : State → ReqId → Plan → Waiting → Turn
begins_new s req plan waiting = if not (has_handle s.durable) then refused s req refusals.Exhausted else begins s req plan waiting

-- ---- finding a chunk for writing

-- a lease isn't over, and isn't the one under which the client was refused
abbrev pub is_below : Moment → Option Term → Bool
is_below moment None = false
is_below moment (Some term) = nat_lt moment.0 term.end.0

abbrev pub is_stamp : Option Stamp → Stamp → Bool
is_stamp None stamp = false
is_stamp (Some other) stamp = is_same other stamp

abbrev pub may_use : Option Stamp → Moment → Option View → Bool
may_use stamp moment None = false
may_use stamp moment (Some view) = is_below moment view.term && not (is_stamp stamp view.stamp)

-- the lease that stands, or a new one
abbrev pub leased : State → ReqId → Path → ℕ → Option Stamp → Moment → ℕ → Chunk → Turn
leased s req path index stamp moment chunk c =
    if is_leased c && may_use stamp moment (view_of c) then looked_up s req (location s.durable (Ok chunk))
    else if is_wanted c then refused s req refusals.Locked
    else begins s req (begin_at s chunk purposes.Lease (Some req)) (waits.Lease path index chunk)

-- a chunk that stands in several places is made quiet and copied first
abbrev pub copied_on_write : State → ReqId → Path → ℕ → ℕ → Chunk → Option View → Turn
copied_on_write s req path index chunk c None = refused s req refusals.NoReplica
copied_on_write s req path index chunk c (Some view) =
    if is_wanted c then refused s req refusals.Locked
    else if is_quiet c
    then begins_new s req (copy_plan (next_stamp s.durable) chunk view s.durable.next_handle req) (waits.Copy path index chunk s.durable.next_handle)
    else begins s req (begin_at s chunk purposes.Quiet (Some req)) (waits.Quiet path index chunk)

abbrev pub written_at : State → ReqId → Path → ℕ → Option Stamp → Moment → ℕ → Option Chunk → Turn
written_at s req path index stamp moment chunk None = refused s req refusals.NoReplica
written_at s req path index stamp moment chunk (Some c) =
    if is_shared s.durable.names chunk then copied_on_write s req path index chunk c (view_of c) else leased s req path index stamp moment chunk c

abbrev pub found_for_writing : State → ReqId → Path → ℕ → Option Stamp → Moment → Result ℕ Refusal → Turn
found_for_writing s req path index stamp moment (Err refusal) = refused s req refusal
found_for_writing s req path index stamp moment (Ok chunk) = written_at s req path index stamp moment chunk (chunk_at s chunk)

-- ---- extending a file

abbrev pub created_on : State → ReqId → Path → Option (List ℕ) → Turn
created_on s req path None = refused s req refusals.NoServer
created_on s req path (Some targets) =
    begins_new s req (create_plan (next_stamp s.durable) s.durable.next_handle targets req) (waits.Extend path s.durable.next_handle)

abbrev pub extended_at : Config → State → ReqId → Path → List ℕ → ℕ → Turn
extended_at config s req path chunks index =
    if nat_lt index (length chunks) then looked_up s req (location s.durable (found_chunk (Some (File chunks)) index))
    else if nat_lt (length chunks) index || nat_le most_chunks index then refused s req refusals.Range
    else created_on s req path (targets_for config (counted_views s) [] config.replicas)

abbrev pub extends : Config → State → ReqId → Path → ℕ → Option (Entry ℕ) → Turn
extends config s req path index None = refused s req refusals.NotFound
extends config s req path index (Some Dir) = refused s req refusals.IsADirectory
extends config s req path index (Some (File chunks)) = extended_at config s req path chunks index

-- ---- copying a tree

abbrev pub put_handles : List ℕ → List (ℕ × Bool)
put_handles [] = []
put_handles (chunk ∷ chunks) = fin.put nat_cmp chunk true (put_handles chunks)

-- each once, ascending
abbrev pub ascending : List ℕ → List ℕ
ascending chunks = map (λ e. e.0) (put_handles chunks)

abbrev pub is_wanted_at : State → ℕ → Bool
is_wanted_at s chunk = is_any_wanted (chunk_at s chunk)
  where
    is_any_wanted : Option Chunk → Bool
    is_any_wanted None = false
    is_any_wanted (Some c) = is_wanted c

-- the chunks of the source that aren't quiet
abbrev pub unquiet : State → Path → List ℕ
unquiet s from = filter (λ chunk. not (is_quiet_at s chunk)) (ascending (source_chunks s from))

abbrev pub begin_pending : ReqId → Waiting → Plan
begin_pending req waiting = record { records = []; changes = changes.Begin (record { req = req; waits = waiting }) ∷ []; sent = []; said = None }

abbrev pub begins_snapshot : State → ReqId → Path → Path → List ℕ → Turn
begins_snapshot s req from to [] = edited_by s req (Snapshot from to) answers.Nothing
begins_snapshot s req from to (chunk ∷ chunks) =
    if list_any (is_wanted_at s) (chunk ∷ chunks) then refused s req refusals.Locked
    else if not (has_versions s.durable (length (chunk ∷ chunks))) then refused s req refusals.Exhausted
    else if_room s (and_then (turned s (begin_pending req (waits.Snapshot from to))) (λ next. all_begun next (chunk ∷ chunks) purposes.Quiet (Some req))) (refused s req refusals.Full)

abbrev pub snapshot_if : State → ReqId → Path → Path → Result (Rows ℕ) Refusal → Turn
snapshot_if s req from to (Ok rows) = begins_snapshot s req from to (unquiet s from)
snapshot_if s req from to (Err refusal) = refused s req refusal

-- the tree's refusals come first
abbrev pub snapshots : State → ReqId → Path → Path → Turn
snapshots s req from to = snapshot_if s req from to (edited (edits.Snapshot from to) (fin.entries s.durable.names.tree))

-- ---- making a replica

-- a chunk stands in a file that no hidden name is above
abbrev pub is_visible : Rows ℕ → ℕ → Bool
is_visible rows chunk = list_any (λ r. not (list_any is_hidden r.0) && is_member (chunks_in (Some r.1)) chunk) rows

abbrev pub need_of : Durable → ℕ × Settled → Need
need_of d e = record { handle = e.0; references = references d.names e.0; is_visible = is_visible (fin.entries d.names.tree) e.0; members = length e.1.view.members }

abbrev pub needs_of : State → List Need
needs_of s = map (need_of s.durable) (filter (λ e. has_entry s e.0) (fin.entries s.durable.chunks))

abbrev pub replicated_to : State → ReqId → ℕ → Option (List ℕ) → Turn
replicated_to s req chunk None = refused s req refusals.NoServer
replicated_to s req chunk (Some []) = refused s req refusals.NoServer
replicated_to s req chunk (Some (target ∷ targets)) = begins s req (begin_at s chunk (purposes.Copy target) (Some req)) (waits.Replicate chunk target)

abbrev pub replicates_chunk : Config → State → ReqId → ℕ → Option Chunk → Turn
replicates_chunk config s req chunk None = refused s req refusals.NoReplica
replicates_chunk config s req chunk (Some c) =
    if is_wanted c then refused s req refusals.Locked else replicated_to s req chunk (targets_for config (counted_views s) (members_of c) 1)

abbrev pub replicates_most : Config → State → ReqId → Option ℕ → Turn
replicates_most config s req None = answered_with s req (answers.Copied None)
replicates_most config s req (Some chunk) = replicates_chunk config s req chunk (chunk_at s chunk)

abbrev pub replicates : Config → State → ReqId → Turn
replicates config s req = replicates_most config s req (most_needed_of config.replicas (needs_of s))

-- ---- scanning

abbrev pub put_paths : List Path → List (Path × Bool)
put_paths [] = []
put_paths (path ∷ paths) = fin.put removal_cmp path true (put_paths paths)

-- what is removed at a moment, those with fewer elements first
abbrev pub removed_paths : ℕ → Rows ℕ → List Path
removed_paths moment rows = map (λ e. e.0) (put_paths (map (λ r. r.0) (filter (λ r. is_removed moment (at rows) r.0) rows)))

-- the chunks that are left without a reference then, ascending
abbrev pub forgotten_chunks : ℕ → Rows ℕ → List (ℕ × ℕ) → List ℕ
forgotten_chunks moment rows refs = map (λ e. e.0) (filter (λ e. e.1 == occurrences e.0 (all_chunks (gone moment rows))) refs)

abbrev pub forget_if : List ℕ → List PlainEdit
forget_if [] = []
forget_if (chunk ∷ chunks) = Forget (chunk ∷ chunks) ∷ []

abbrev pub scan_edits : List Path → List ℕ → List PlainEdit
scan_edits removed forgotten = map (λ path. Remove path) removed ++ forget_if forgotten

-- a call waits for one of these chunks
abbrev pub waits_for_any : List ℕ → Waiting → Bool
waits_for_any chunks (waits.Extend path chunk) = is_member chunks chunk
waits_for_any chunks (waits.Lease path index chunk) = is_member chunks chunk
waits_for_any chunks (waits.Quiet path index chunk) = is_member chunks chunk
waits_for_any chunks (waits.Copy path index old new) = is_member chunks old || is_member chunks new
waits_for_any chunks (waits.Snapshot from to) = false
waits_for_any chunks (waits.Replicate chunk target) = is_member chunks chunk

abbrev pub waiting_for : State → List ℕ → List ReqId
waiting_for s chunks = requests_of (filter (λ (p : Pending). waits_for_any chunks p.waits) s.volatile.pending)

abbrev pub scan_plan : List Path → List ℕ → Plan
scan_plan removed forgotten = record { records = map (Edited own_request) (scan_edits removed forgotten); changes = changes.Forget forgotten ∷ []; sent = []; said = None }

-- what has been deleted long enough goes, then each chunk without a reference; who waits for one is refused
abbrev pub scanned : State → ReqId → List Path → List ℕ → Turn
scanned s req removed forgotten =
    if_room s
    (and_then (and_then (turned s (scan_plan removed forgotten)) (λ next. all_ended_by next (waiting_for s forgotten) refusals.NoReplica))
    (λ next. answered_with next req (answers.Scanned (length removed) (length forgotten))))
    (refused s req refusals.Full)

abbrev pub scans : State → ReqId → Moment → Turn
scans s req moment =
    scanned s req (removed_paths moment.0 (fin.entries s.durable.names.tree)) (forgotten_chunks moment.0 (fin.entries s.durable.names.tree) (fin.entries s.durable.names.refs))

-- ---- examples

each_once_ascending : ascending (7 ∷ 2 ∷ 7 ∷ 5 ∷ []) ≡ 2 ∷ 5 ∷ 7 ∷ []
each_once_ascending = refl

abbrev a_lease : View
a_lease = record { stamp = record { epoch = 0; version = 5 }; count = 2; members = 0 ∷ 1 ∷ []; term = Some (record { primary = 0; end = record { 0 = 60 } }) }

a_lease_that_stands : may_use None (record { 0 = 59 }) (Some a_lease) ≡ true
a_lease_that_stands = refl

a_lease_that_is_over : may_use None (record { 0 = 60 }) (Some a_lease) ≡ false
a_lease_that_is_over = refl

a_lease_that_was_refused : may_use (Some (record { epoch = 0; version = 5 })) (record { 0 = 9 }) (Some a_lease) ≡ false
a_lease_that_was_refused = refl

abbrev old_f : Path
old_f = codes ".deleted.00000000000000000000.00000000000000000001.f" ∷ []

-- f was deleted at 0 with chunks 7 and 8; chunk 7 stands in g too, and nothing refers to chunk 9
abbrev some_rows : Rows ℕ
some_rows = ([], Dir) ∷ (old_f, File (7 ∷ 8 ∷ [])) ∷ (codes "g" ∷ [], File (7 ∷ [])) ∷ []

one_is_removed : removed_paths 259201 some_rows ≡ old_f ∷ []
one_is_removed = refl

none_is_removed_yet : removed_paths 259200 some_rows ≡ []
none_is_removed_yet = refl

two_are_forgotten : forgotten_chunks 259201 some_rows ((7, 2) ∷ (8, 1) ∷ (9, 0) ∷ []) ≡ 8 ∷ 9 ∷ []
two_are_forgotten = refl

only_in_a_hidden_file : is_visible some_rows 8 ≡ false
only_in_a_hidden_file = refl

in_a_visible_file_too : is_visible some_rows 7 ≡ true
in_a_visible_file_too = refl

edits_of_a_scan : scan_edits (old_f ∷ []) (8 ∷ 9 ∷ []) ≡ Remove old_f ∷ Forget (8 ∷ 9 ∷ []) ∷ []
edits_of_a_scan = refl

nothing_to_forget : scan_edits (old_f ∷ []) [] ≡ Remove old_f ∷ []
nothing_to_forget = refl
