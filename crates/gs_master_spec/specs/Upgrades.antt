-- The calls of an upgrade.
use Rattle.std.specs.Prelude.{◌≡◌, ◌&&◌, ◌||◌, ◌==◌, ◌++◌, ◌+◌, ℕ, Bool, true, false, not, min, nat_lt, List, [], ◌∷◌, map, filter, flat_map, length, codes, Option, Some, None, Ok, if◌then◌else◌, refl}
use Rattle.std.specs.FinMap as fin
use Rattle.gs_base.specs.Members.{is_member, servers_where, count_from}
use Rattle.gs_base.specs.Numbers.{last_number}
use Rattle.gs_base.specs.declared.config.Config.{Config}
use Rattle.gs_base.specs.declared.numbers.Moment.{Moment}
use Rattle.gs_base.specs.declared.numbers.ReqId.{ReqId}
use Rattle.gs_base.specs.declared.refusal.Refusal.{Refusal}
use Rattle.gs_base.specs.declared.refusal.Refusal.TheVariants as refusals
use Rattle.gs_path.specs.Path.{Path, path_text, text_cmp}
use Rattle.gs_refs.specs.Counts.{last_count}
use Rattle.gs_edit.specs.View.{NamesView}
use Rattle.gs_lease.specs.declared.view.Purpose.TheVariants as purposes
use Rattle.gs_lease.specs.declared.view.View.{View}
use Rattle.gs_msg.specs.declared.answer.Answer.TheVariants as answers
use Rattle.gs_msg.specs.declared.body.Body.TheVariants as bodies
use Rattle.gs_msg.specs.declared.message.Message.{Message}
use Rattle.gs_msg.specs.declared.node.NodeId.TheVariants as nodes
use Rattle.gs_master_record.specs.Plain.{PlainEntry, Prepare, Finalize, RollbackBegin, RollbackCommit}
use Rattle.gs_base.specs.declared.epoch.EpochEnd.{EpochEnd}
use Rattle.gs_base.specs.declared.epoch.EpochEnd.TheVariants as ends
use Rattle.gs_master_record.specs.declared.checkpoint.Phase.{Phase}
use Rattle.gs_master_record.specs.declared.checkpoint.Phase.TheVariants.{Ordinary, Upgrade}
use Rattle.gs_master_record.specs.declared.entry.Answered.{Answered}
use Rattle.gs_master_spec.specs.Applied.{is_prepared_on}
use Rattle.gs_master_spec.specs.Beginning.{has_versions, all_begun}
use Rattle.gs_master_spec.specs.Chunks.{has_entry}
use Rattle.gs_master_spec.specs.Durable.{Durable, is_ordinary, is_upgrade, is_rolling, prepared_view}
use Rattle.gs_master_spec.specs.Settling.{is_quiet_at, requests_of}
use Rattle.gs_master_spec.specs.State.{State, Plan, Turn, turned, and_then, if_room, post, to_each, reply_to, refused, answer_changes, all_ended_by, first_of}
use Rattle.gs_master_spec.specs.Undoing.{all_undone}
use Rattle.gs_master_spec.specs.Volatile.{paths_of, servers_or_none}
use Rattle.gs_master_spec.specs.Working.{ascending}
use Rattle.gs_master_spec.specs.declared.asking.Prepared.{Prepared}
use Rattle.gs_master_spec.specs.declared.change.Change.{Change}
use Rattle.gs_master_spec.specs.declared.change.Change.TheVariants as changes
use Rattle.gs_master_spec.specs.declared.pending.Pending.{Pending}

-- ---- epochs

-- to every server: how the epoch before this one ended
abbrev pub tell_all : Config → ℕ → EpochEnd → List Message
tell_all config epoch end = to_each (count_from 0 config.servers) (λ server. post (nodes.Server server) (bodies.Epoch epoch end))

abbrev pub is_last_epoch : Durable → Bool
is_last_epoch d = d.epoch == last_number

-- a call of an upgrade is accepted: it answers the epoch
abbrev pub accepted_plan : State → ReqId → List PlainEntry → List Change → List Message → ℕ → Plan
accepted_plan s req records before sent epoch =
    record { records = records; changes = before ++ answer_changes s req (answers.Epoch epoch); sent = sent ++ reply_to req (Ok (answers.Epoch epoch)) ∷ []; said = None }

abbrev pub unless : Option Refusal → State → ReqId → Turn → Turn
unless None s req t = if_room s t (refused s req refusals.Full)
unless (Some refusal) s req t = refused s req refusal

-- ---- beginning to prepare

abbrev pub lower_path : Path → Option Path → Option Path
lower_path path None = Some path
lower_path path (Some other) = map_first (fin.put text_cmp path true ((other, true) ∷ []))
  where
    map_first : List (Path × Bool) → Option Path
    map_first [] = None
    map_first (e ∷ es) = Some e.0

-- the lowest path by the bytes of its text
abbrev pub lowest_path : List Path → Option Path
lowest_path [] = None
lowest_path (path ∷ paths) = lower_path path (lowest_path paths)

abbrev pub pending_paths : List Pending → List Path
pending_paths pending = flat_map (λ (p : Pending). paths_of p.waits) pending

abbrev pub if_pending : Option Path → List (Bool × Refusal)
if_pending None = []
if_pending (Some path) = (true, refusals.Pending (path_text path)) ∷ []

-- every chunk that is leased or moving, ascending
abbrev pub all_unquiet : State → List ℕ
all_unquiet s = filter (λ chunk. has_entry s chunk && not (is_quiet_at s chunk)) (ascending (fin.keys s.durable.chunks ++ fin.keys s.volatile.moving))

abbrev pub begin_tests : Phase → Bool → List Pending → Bool → List (Bool × Refusal)
begin_tests phase preparing pending exhausted =
    (preparing || not (is_ordinary phase), refusals.AlreadyUpgrading) ∷ (if_pending (lowest_path (pending_paths pending)) ++ (exhausted, refusals.Exhausted) ∷ [])

-- calls that wait for a replica are given up, then each chunk that isn't quiet is begun
abbrev pub prepare_begin : State → ReqId → Turn
prepare_begin s req =
    unless (first_of (begin_tests s.durable.phase s.volatile.is_preparing s.volatile.pending (not (has_versions s.durable (length (all_unquiet s)))))) s req
    (and_then (and_then
    (all_ended_by s (requests_of s.volatile.pending) refusals.Preparing)
    (λ next. all_begun next (all_unquiet s) purposes.Quiet None))
    (λ next. turned next (accepted_plan next req [] (changes.Prepare true ∷ []) [] s.durable.epoch)))

-- ---- preparing

abbrev pub first_in : List ℕ → Option ℕ
first_in [] = None
first_in (chunk ∷ chunks) = Some chunk

abbrev pub if_unquiet : Option ℕ → List (Bool × Refusal)
if_unquiet None = []
if_unquiet (Some chunk) = (true, refusals.NotQuiet chunk) ∷ []

-- begun already, never begun, the lowest chunk that isn't quiet, no epoch left
abbrev pub commit_tests : Phase → Bool → List ℕ → Bool → List (Bool × Refusal)
commit_tests phase preparing unquiet_chunks exhausted =
    (not preparing && not (is_ordinary phase), refusals.AlreadyUpgrading) ∷ (not preparing, refusals.NotUpgrading) ∷ (if_unquiet (first_in unquiet_chunks) ++ (exhausted, refusals.Exhausted) ∷ [])

-- how many chunks the master knows, as far as four bytes can say
abbrev pub chunk_count : State → ℕ
chunk_count s = min (length (filter (has_entry s) (fin.keys s.durable.chunks))) last_count

abbrev pub prepare_commit : Config → State → ReqId → Moment → Turn
prepare_commit config s req moment =
    unless (first_of (commit_tests s.durable.phase s.volatile.is_preparing (all_unquiet s) (is_last_epoch s.durable))) s req
    (turned s (accepted_plan s req (Prepare (s.durable.epoch + 1) moment.0 (chunk_count s) ∷ []) (changes.Prepare false ∷ [])
    (tell_all config (s.durable.epoch + 1) ends.Prepare) (s.durable.epoch + 1)))

abbrev pub prepare_abort : State → ReqId → Turn
prepare_abort s req =
    if s.volatile.is_preparing then turned s (accepted_plan s req [] (changes.Prepare false ∷ []) [] s.durable.epoch) else refused s req refusals.NotUpgrading

-- ---- ending an upgrade

abbrev pub end_tests : Phase → Bool → List (Bool × Refusal)
end_tests phase exhausted = (not (is_upgrade phase), refusals.NotUpgrading) ∷ (exhausted, refusals.Exhausted) ∷ []

abbrev pub finalize : Config → State → ReqId → Turn
finalize config s req =
    unless (first_of (end_tests s.durable.phase (is_last_epoch s.durable))) s req
    (turned s (accepted_plan s req (Finalize (s.durable.epoch + 1) ∷ []) [] (tell_all config (s.durable.epoch + 1) ends.Finalize) (s.durable.epoch + 1)))

-- the record; then all calls that wait are refused, in the order in which they began
abbrev pub rollback_begin : Config → State → ReqId → Turn
rollback_begin config s req =
    unless (first_of (end_tests s.durable.phase (is_last_epoch s.durable))) s req
    (and_then (and_then
    (turned s (record { records = RollbackBegin (s.durable.epoch + 1) ∷ []; changes = []; sent = []; said = None }))
    (λ next. all_ended_by next (requests_of s.volatile.pending) refusals.RollingBack))
    (λ next. turned next (accepted_plan next req [] [] (tell_all config (s.durable.epoch + 1) ends.Rollback) (s.durable.epoch + 1))))

-- ---- rolling back

-- of a chunk with a reference at prepare somebody has to answer
abbrev pub needs_answer : ℕ → Bool
needs_answer count = nat_lt 0 count

-- of those who have told that they have a chunk as it was sealed, the prepared members and the holders
abbrev pub restored_on : Option Prepared → List ℕ → List ℕ
restored_on None told = []
restored_on (Some prepared) told = servers_where (λ server. is_member told server && is_prepared_on prepared server)

abbrev pub answer_for : (ℕ → Option Prepared) → (ℕ → List ℕ) → ℕ × ℕ → Answered
answer_for prepared told e = record { handle = e.0; members = restored_on (prepared e.0) (told e.0) }

-- for each chunk that was listed at prepare, ascending
abbrev pub answers_for : (ℕ → Option Prepared) → (ℕ → List ℕ) → List (ℕ × ℕ) → List Answered
answers_for prepared told refs = map (answer_for prepared told) refs

abbrev pub lacks_answer : (ℕ → Option Prepared) → (ℕ → List ℕ) → ℕ × ℕ → Bool
lacks_answer prepared told e = needs_answer e.1 && is_nobody (restored_on (prepared e.0) (told e.0))
  where
    is_nobody : List ℕ → Bool
    is_nobody [] = true
    is_nobody (server ∷ servers) = false

-- the lowest chunk without an answer that it needs
abbrev pub unrestored : (ℕ → Option Prepared) → (ℕ → List ℕ) → List (ℕ × ℕ) → Option ℕ
unrestored prepared told refs = first_in (map (λ e. e.0) (filter (lacks_answer prepared told) refs))

abbrev pub told_of : State → ℕ → List ℕ
told_of s chunk = servers_or_none (fin.get s.volatile.restored chunk)

abbrev pub commit_if : State → ReqId → NamesView → Option ℕ → Turn
commit_if s req names (Some chunk) = refused s req (refusals.Unrestored chunk)
commit_if s req names None =
    if_room s
    (turned s (accepted_plan s req (RollbackCommit s.durable.epoch (answers_for (prepared_view s.durable) (told_of s) (fin.entries names.refs)) ∷ []) (changes.RolledBack ∷ []) [] s.durable.epoch))
    (refused s req refusals.Full)

abbrev pub commit_on : State → ReqId → Option NamesView → Turn
commit_on s req None = refused s req refusals.BadLine
commit_on s req (Some names) = commit_if s req names (unrestored (prepared_view s.durable) (told_of s) (fin.entries names.refs))

-- the references are those of the names to which the inverses lead back
abbrev pub rollback_commit : State → ReqId → Turn
rollback_commit s req =
    if is_rolling s.durable.phase then commit_on s req (all_undone s.durable.inverses s.durable.names) else refused s req refusals.NotUpgrading

-- ---- examples

a_second_begin : first_of (begin_tests Ordinary true [] false) ≡ Some refusals.AlreadyUpgrading
a_second_begin = refl

lowest_by_text : lowest_path ((codes "b" ∷ []) ∷ (codes "a" ∷ codes "b" ∷ []) ∷ (codes "a.b" ∷ []) ∷ []) ≡ Some (codes "a.b" ∷ [])
lowest_by_text = refl

no_commit_of_nothing : first_of (commit_tests Ordinary false [] false) ≡ Some refusals.NotUpgrading
no_commit_of_nothing = refl

no_commit_while_an_upgrade_stands : first_of (commit_tests Upgrade false [] false) ≡ Some refusals.AlreadyUpgrading
no_commit_while_an_upgrade_stands = refl

not_beside_a_chunk_that_moves : first_of (commit_tests Ordinary true (4 ∷ 7 ∷ []) false) ≡ Some (refusals.NotQuiet 4)
not_beside_a_chunk_that_moves = refl

a_commit : first_of (commit_tests Ordinary true [] false) ≡ None
a_commit = refl

-- chunk 4 was on servers 0 and 1 at prepare, chunk 7 on server 2, and server 3 holds it since
abbrev prepared_on : ℕ → Option Prepared
prepared_on chunk =
    if chunk == 4 then Some (record { view = a_view (0 ∷ 1 ∷ []); holders = [] }) else Some (record { view = a_view (2 ∷ []); holders = 3 ∷ [] })
  where
    a_view : List ℕ → View
    a_view members = record { stamp = record { epoch = 0; version = 5 }; count = 2; members = members; term = None }

-- servers 1 and 3 have told of both
abbrev told_by_two : ℕ → List ℕ
told_by_two chunk = 1 ∷ 3 ∷ []

who_is_taken : answers_for prepared_on told_by_two ((4, 1) ∷ (7, 2) ∷ []) ≡ record { handle = 4; members = 1 ∷ [] } ∷ record { handle = 7; members = 3 ∷ [] } ∷ []
unfolding servers_where
who_is_taken = refl

all_restored : unrestored prepared_on told_by_two ((4, 1) ∷ (7, 2) ∷ []) ≡ None
unfolding servers_where
all_restored = refl

the_lowest_without_an_answer : unrestored prepared_on (λ chunk. 2 ∷ []) ((4, 1) ∷ (7, 2) ∷ []) ≡ Some 4
unfolding servers_where
the_lowest_without_an_answer = refl

none_is_needed_without_a_reference : unrestored prepared_on (λ chunk. 2 ∷ []) ((4, 0) ∷ (7, 2) ∷ []) ≡ None
unfolding servers_where
none_is_needed_without_a_reference = refl
