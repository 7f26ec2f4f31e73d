-- Which calls are refused as locked.
use Rattle.std.proofs.Common.{◌≡◌, ◌⊎◌, inl, inr, ◌∙◌, ◌++◌, ℕ, Bool, true, false, not, ◌&&◌, ◌||◌, ◌==◌, ◌+◌, List, [], ◌∷◌, length, refl, ap, sym}
use Rattle.std.specs.Prelude.{nat_lt, nat_le, is_none, Option, Some, None, is_some, Result, Ok, Err, if◌then◌else◌}
use Rattle.std.specs.List.{list_any}
use Rattle.std.specs.FinMap as fin
use Rattle.std.proofs.lemmas.Bool.{false≢true}
use Rattle.gs_base.specs.declared.config.Config.{Config}
use Rattle.gs_base.specs.declared.numbers.Moment.{Moment}
use Rattle.gs_base.specs.declared.numbers.ReqId.{ReqId}
use Rattle.gs_base.specs.declared.numbers.Stamp.{Stamp}
use Rattle.gs_base.specs.declared.refusal.Refusal.{Refusal}
use Rattle.gs_base.specs.declared.refusal.Refusal.TheVariants as refusals
use Rattle.gs_path.specs.Path.{Path}
use Rattle.gs_tree.specs.Entry.{Entry, Dir, File}
use Rattle.gs_tree.specs.Find.{Rows}
use Rattle.gs_tree.specs.Edits.{same_path, hidden_path, old_name}
use Rattle.gs_edit.specs.Edits.{edited}
use Rattle.gs_edit.specs.Plain.{unhide_target}
use Rattle.gs_edit.specs.View.{NamesView}
use Rattle.gs_edit.specs.declared.edit.Edit.TheVariants as edits
use Rattle.gs_lease.specs.declared.view.Purpose.TheVariants as purposes
use Rattle.gs_lease.specs.declared.view.View.{View}
use Rattle.gs_msg.specs.declared.answer.Answer.{Answer}
use Rattle.gs_msg.specs.declared.answer.Answer.TheVariants as answers
use Rattle.gs_msg.specs.declared.call.Call.{Call}
use Rattle.gs_msg.specs.declared.call.Call.TheVariants as calls
use Rattle.gs_place.specs.Needs.{most_needed_of}
use Rattle.gs_base.specs.declared.epoch.EpochEnd.TheVariants as ends
use Rattle.gs_master_spec.specs.declared.change.Change.TheVariants as changes
use Rattle.gs_master_record.specs.Plain.{Prepare, Finalize, RollbackBegin, RollbackCommit, PlainEdit, Mkdirs, Create, Rename, Hide, Unhide, Snapshot}
use Rattle.gs_master_spec.specs.Beginning.{next_stamp, has_versions, has_handle, begin_at, all_begun, create_plan, copy_plan, waits_from_now, targets_for, counted_views}
use Rattle.gs_master_spec.specs.Calls.{edited_by, edit_if, accept_plan, deleted, answered_with, has_visible_child, looked_up, listing, status, location, found_chunk, refused_before, queried, is_shared, most_chunks, renames}
use Rattle.gs_master_spec.specs.Chunks.{Chunk, chunk_at, is_leased, is_quiet, is_wanted, view_of, members_of}
use Rattle.gs_master_spec.specs.Durable.{is_rolling, prepared_view}
use Rattle.gs_master_spec.specs.Handling.{called, called_unless}
use Rattle.gs_laws_master.specs.Promises.{LockedElse, MayBegin, comes_to_locks}
use Rattle.gs_laws_master.proofs.lemmas.refusals.Refusing.{begun_silent, ended_silent, then_silent}
use Rattle.gs_laws_master.proofs.lemmas.refusals.Locking.{locked_exactly}
use Rattle.gs_master_spec.specs.Settling.{requests_of}
use Rattle.gs_master_spec.specs.State.{State, Plan, Turn, turned, and_then, fits, if_room, refused, all_ended_by, first_of}
use Rattle.gs_master_spec.specs.Undoing.{edited_names, all_undone}
use Rattle.gs_master_spec.specs.Upgrades.{accepted_plan, all_unquiet, begin_tests, commit_tests, end_tests, is_last_epoch, chunk_count, tell_all, answers_for, unless, prepare_begin, prepare_commit, prepare_abort, finalize, rollback_begin, rollback_commit, commit_on, commit_if, unrestored, told_of}
use Rattle.gs_master_spec.specs.Working.{begins, begins_new, may_use, leased, copied_on_write, written_at, found_for_writing, created_on, extended_at, extends, unquiet, is_wanted_at, begin_pending, begins_snapshot, snapshot_if, replicated_to, replicates_chunk, replicates_most, needs_of, scanned, scan_plan, waiting_for, removed_paths, forgotten_chunks}
use Rattle.gs_master_spec.specs.declared.pending.Waiting.{Waiting}
use Rattle.gs_master_spec.specs.declared.pending.Waiting.TheVariants as waits
use Rattle.std.specs.List.{list_all}
use Rattle.std.specs.Prelude.{slice_get}
use Rattle.gs_base.specs.Members.{is_member}
use Rattle.gs_base.specs.MemberLaws.{eqb_itself}
use Rattle.gs_refs.specs.Counts.{Counts, raised_each, and_then as counts_then, last_count, raised_listed_from}
use Rattle.gs_tree.specs.Plain.{Plain}
use Rattle.gs_tree.specs.Find.{at, is_too_deep, is_copied_too_deep}
use Rattle.gs_tree.specs.Edits.{beside, create, file_above, hide, is_file, mkdirs, parent, placed, rename, snapshot, target_of, unhidden}
use Rattle.gs_tree.specs.Chunks.{visible_chunks_under}
use Rattle.gs_edit.specs.Edits.{with_counts}
use Rattle.gs_edit.specs.Table.{tabled}
use Rattle.gs_path.specs.Path.{Name, begins as begins_path}
use Rattle.gs_master_spec.specs.Durable.{Durable}
use Rattle.gs_master_spec.specs.Undoing.{names_from}
use Rattle.gs_master_spec.specs.Upgrades.{first_in, if_pending, if_unquiet, lowest_path, pending_paths}
use Rattle.gs_master_spec.specs.Calls.{location_on, is_locked}
use Rattle.gs_master_spec.specs.Applied.{view_in}

-- ---- refusals

abbrev is_lock : Refusal → Bool
is_lock refusals.Locked = true
is_lock refusal = false

abbrev lock_said : Option Refusal → Bool
lock_said None = false
lock_said (Some refusal) = is_lock refusal

abbrev lock_in : {A : Type 0} → Result A Refusal → Bool
lock_in (Ok x) = false
lock_in (Err refusal) = is_lock refusal

if_not : {A : Type 0} (b : Bool) (x y : Result A Refusal) → lock_in x ≡ false → lock_in y ≡ false → lock_in (if b then x else y) ≡ false
if_not true x y a b = a
if_not false x y a b = b

first_not : (tests : List (Bool × Refusal)) → list_all (λ t. not (is_lock t.1)) tests ≡ true → lock_said (first_of tests) ≡ false
first_not [] all = refl
first_not (t ∷ tests) all = each t.0 (is_lock t.1) refl all (first_not tests)
  where
    each : (b l : Bool) → is_lock t.1 ≡ l → (not l && list_all (λ u. not (is_lock u.1)) tests) ≡ true → (list_all (λ u. not (is_lock u.1)) tests ≡ true → lock_said (first_of tests) ≡ false) → lock_said (if b then Some t.1 else first_of tests) ≡ false
    each b true is h later = absurd (false≢true h)
    each true false is h later = is
    each false false is h later = later h

-- ---- edits of the tree

edit_not : (ps : List Path) (rows : Result (Plain ℕ) Refusal) (refs : Result Counts Refusal) → lock_in rows ≡ false → lock_in refs ≡ false → lock_in (names_from (with_counts (tabled ps rows) refs)) ≡ false
edit_not ps (Err refusal) refs a b = a
edit_not ps (Ok m) (Err refusal) a b = b
edit_not ps (Ok m) (Ok refs) a b = refl

tabled_not : (ps : List Path) (rows : Result (Plain ℕ) Refusal) → lock_in rows ≡ false → lock_in (tabled ps rows) ≡ false
tabled_not ps (Ok m) a = refl
tabled_not ps (Err refusal) a = a

module _ (m : Plain ℕ) where
  mkdirs_not : (p : Path) → lock_in (mkdirs m p) ≡ false
  mkdirs_not p = if_not (is_file (m p)) _ _ refl (if_not (file_above m p) _ _ refl refl)

  create_not : (p : Path) → lock_in (create m p) ≡ false
  create_not p = if_not (is_some (m p)) _ _ refl (if_not (file_above m p) _ _ refl refl)

  placed_not : (deep : Bool) (from to : Path) (new : Plain ℕ) → lock_in (placed deep m from to new) ≡ false
  placed_not deep from to new =
      if_not (same_path to from) _ _ refl (if_not (begins_path from to) _ _ refl (if_not (is_some (m to)) _ _ refl (if_not (is_none (m (parent to))) _ _ refl (if_not (is_file (m (parent to))) _ _ refl (if_not deep _ _ refl refl)))))

  rename_not : (deep : Path → Bool) (from to : Path) → lock_in (rename deep m from to) ≡ false
  rename_not deep from to = if_not (same_path from []) _ _ refl (if_not (is_none (m from)) _ _ refl (placed_not (deep (target_of m from to)) from (target_of m from to) _))

  hide_not : (p : Path) (moment number : ℕ) → lock_in (hide m p moment number) ≡ false
  hide_not p moment number = if_not (same_path p []) _ _ refl (if_not (is_none (m p)) _ _ refl (if_not (is_some (m (hidden_path p moment number))) _ _ refl refl))

  unhide_not : (p : Path) (name : Option Name) → lock_in (unhidden m p name) ≡ false
  unhide_not p None = refl
  unhide_not p (Some name) = if_not (is_none (m p)) _ _ refl (if_not (is_some (m (beside p name))) _ _ refl refl)

  snapshot_not : (deep : Path → Bool) (from to : Path) → lock_in (snapshot deep m from to) ≡ false
  snapshot_not deep from to = if_not (same_path from []) _ _ refl (if_not (is_none (m from)) _ _ refl (placed_not (deep to) from to _))

raised_not : (refs : Counts) (chunks : List ℕ) → lock_in (raised_each refs chunks) ≡ false
raised_not refs [] = refl
raised_not refs (chunk ∷ chunks) = each (fin.get refs chunk) (λ next. raised_not next chunks)
  where
    by_room : (n : ℕ) (b : Bool) → ((next : Counts) → lock_in (raised_each next chunks) ≡ false) → lock_in (counts_then (if b then Ok (fin.insert refs chunk (n + 1)) else Err refusals.Exhausted) (λ next. raised_each next chunks)) ≡ false
    by_room n true later = later (fin.insert refs chunk (n + 1))
    by_room n false later = refl

    each : (o : Option ℕ) → ((next : Counts) → lock_in (raised_each next chunks) ≡ false) → lock_in (counts_then (raised_listed_from refs chunk o) (λ next. raised_each next chunks)) ≡ false
    each None later = refl
    each (Some n) later = by_room n (nat_lt n last_count) later

-- ---- look-ups

found_not : (entry : Option (Entry ℕ)) (index : ℕ) → lock_in (found_chunk entry index) ≡ false
found_not None index = refl
found_not (Some Dir) index = refl
found_not (Some (File chunks)) index = each (slice_get chunks index) refl
  where
    each : (o : Option ℕ) → slice_get chunks index ≡ o → lock_in (found_chunk (Some (File chunks)) index) ≡ false
    each None is = rw is refl
    each (Some chunk) is = rw is refl

placed_at_not : (chunk epoch : ℕ) (view : Option View) → lock_in (location_on chunk epoch view) ≡ false
placed_at_not chunk epoch None = refl
placed_at_not chunk epoch (Some view) = refl

location_not : (d : Durable) (chunk : Result ℕ Refusal) → lock_in chunk ≡ false → lock_in (location d chunk) ≡ false
location_not d (Ok chunk) free = placed_at_not chunk d.epoch (view_in (fin.get d.chunks chunk))
location_not d (Err refusal) free = free

listing_not : (rows : Rows ℕ) (path : Path) (entry : Option (Entry ℕ)) → lock_in (listing rows path entry) ≡ false
listing_not rows path None = refl
listing_not rows path (Some Dir) = refl
listing_not rows path (Some (File chunks)) = refl

status_not : (d : Durable) (entry : Option (Entry ℕ)) → lock_in (status d entry) ≡ false
status_not d None = refl
status_not d (Some Dir) = refl
status_not d (Some (File chunks)) = refl

-- a chunk that moves for a call that waits
wanted : (s : State) (chunk : ℕ) (c : Chunk) → chunk_at s chunk ≡ Some c → is_wanted c ≡ true → is_wanted_at s chunk ≡ true
wanted s chunk c has is = rw has is

any_wanted : (s : State) (many : List ℕ) → list_any (is_wanted_at s) many ≡ true → (chunk : ℕ) × ((is_member many chunk ≡ true) × (is_wanted_at s chunk ≡ true))
any_wanted s [] h = absurd (false≢true h)
any_wanted s (x ∷ many) h = each (is_wanted_at s x) refl h (any_wanted s many)
  where
    or_true : (b : Bool) → (b || true) ≡ true
    or_true true = refl
    or_true false = refl

    each : (b : Bool) → is_wanted_at s x ≡ b → (b || list_any (is_wanted_at s) many) ≡ true → (list_any (is_wanted_at s) many ≡ true → (chunk : ℕ) × ((is_member many chunk ≡ true) × (is_wanted_at s chunk ≡ true)))
        → (chunk : ℕ) × ((is_member (x ∷ many) chunk ≡ true) × (is_wanted_at s chunk ≡ true))
    each true is h later = (x, (ap (λ b. b || is_member many x) (eqb_itself x), is))
    each false is h later = let r = later h in (r.0, (ap (λ b. (x == r.0) || b) r.1.0 ∙ or_true (x == r.0), r.1.1))

-- ---- turns

-- a turn is refused as locked only where W
module _ (s : State) (req : ReqId) (W : Type 0) where
  abbrev Only : Turn → Type 0
  Only t = t.said ≡ Some refusals.Locked → W

  silent : (t : Turn) → t.said ≡ None → Only t
  silent t none h = absurd (false≢true (ap is_some (sym none ∙ h)))

  other : (refusal : Refusal) → is_lock refusal ≡ false → Only (refused s req refusal)
  other refusal free h = absurd (false≢true (sym free ∙ ap lock_said h))

  either : (b : Bool) (t u : Turn) → Only t → Only u → Only (if b then t else u)
  either true t u a b = a
  either false t u a b = b

  either_if : (b : Bool) (t u : Turn) → (b ≡ true → W) → Only u → Only (if b then t else u)
  either_if true t u a b h = a refl
  either_if false t u a b h = b h

  room : (t : Turn) → t.said ≡ None → Only (if_room s t (refused s req refusals.Full))
  room t none = either (fits s.log t.records) t (refused s req refusals.Full) (silent t none) (other refusals.Full refl)

  unless_only : (refusal : Option Refusal) (t : Turn) → lock_said refusal ≡ false → t.said ≡ None → Only (unless refusal s req t)
  unless_only None t free none = room t none
  unless_only (Some refusal) t free none = other refusal free

  edit_if_only : (edit : PlainEdit) (answer : Answer) (names : Result NamesView Refusal) → lock_in names ≡ false → Only (edit_if s req edit answer names)
  edit_if_only edit answer (Ok names) free = room (turned s (accept_plan req edit answer)) refl
  edit_if_only edit answer (Err refusal) free = other refusal free

  looked_only : (result : Result Answer Refusal) → lock_in result ≡ false → Only (looked_up s req result)
  looked_only (Ok answer) free = silent (answered_with s req answer) refl
  looked_only (Err refusal) free = other refusal free

  -- ---- calls of the tree

  edited_only : (edit : PlainEdit) (answer : Answer) → lock_in (edited_names edit s.durable.names) ≡ false → Only (edited_by s req edit answer)
  edited_only edit answer free = edit_if_only edit answer (edited_names edit s.durable.names) free

  renames_only : (from to : Path) → lock_in (edited_names (Rename from to) s.durable.names) ≡ false → Only (renames s req from to)
  renames_only from to free = edit_if_only (Rename from (target_of (fin.get s.durable.names.tree) from to)) answers.Nothing (edited_names (Rename from to) s.durable.names) free

  deleted_only : (path : Path) (recursive : Bool) (moment : Moment) → lock_in (edited_names (Hide path moment.0 s.durable.next_hidden) s.durable.names) ≡ false → Only (deleted s req path recursive moment)
  deleted_only path recursive moment free =
      let hides = edited_by s req (Hide path moment.0 s.durable.next_hidden) (answers.Path (hidden_path path moment.0 s.durable.next_hidden)) in
      let third = if s.durable.next_hidden == 0 then refused s req refusals.Exhausted else hides in
      let second = if not recursive && has_visible_child (fin.entries s.durable.names.tree) path then refused s req refusals.NotEmpty else third in
      let first = if is_none (fin.get s.durable.names.tree path) then answered_with s req answers.Absent else second in
      either (same_path path []) (refused s req refusals.IsRoot) first (other refusals.IsRoot refl)
      (either (is_none (fin.get s.durable.names.tree path)) (answered_with s req answers.Absent) second (silent (answered_with s req answers.Absent) refl)
      (either (not recursive && has_visible_child (fin.entries s.durable.names.tree) path) (refused s req refusals.NotEmpty) third (other refusals.NotEmpty refl)
      (either (s.durable.next_hidden == 0) (refused s req refusals.Exhausted) hides (other refusals.Exhausted refl)
      (edited_only (Hide path moment.0 s.durable.next_hidden) (answers.Path (hidden_path path moment.0 s.durable.next_hidden)) free))))

  -- ---- calls that begin views

  begins_only : (plan : Plan) (waiting : Waiting) → plan.said ≡ None → Only (begins s req plan waiting)
  begins_only plan waiting none =
      either (not (has_versions s.durable 1)) (refused s req refusals.Exhausted) (if_room s (turned s (waits_from_now plan req waiting)) (refused s req refusals.Full))
      (other refusals.Exhausted refl) (room (turned s (waits_from_now plan req waiting)) none)

  begins_new_only : (plan : Plan) (waiting : Waiting) → plan.said ≡ None → Only (begins_new s req plan waiting)
  begins_new_only plan waiting none =
      either (not (has_handle s.durable)) (refused s req refusals.Exhausted) (begins s req plan waiting) (other refusals.Exhausted refl) (begins_only plan waiting none)

  leased_only : (path : Path) (index : ℕ) (stamp : Option Stamp) (moment : Moment) (chunk : ℕ) (c : Chunk) → (is_wanted c ≡ true → W) → Only (leased s req path index stamp moment chunk c)
  leased_only path index stamp moment chunk c w =
      let begin = begins s req (begin_at s chunk purposes.Lease (Some req)) (waits.Lease path index chunk) in
      either (is_leased c && may_use stamp moment (view_of c)) (looked_up s req (location s.durable (Ok chunk))) (if is_wanted c then refused s req refusals.Locked else begin)
      (looked_only (location s.durable (Ok chunk)) (location_not s.durable (Ok chunk) refl))
      (either_if (is_wanted c) (refused s req refusals.Locked) begin w (begins_only (begin_at s chunk purposes.Lease (Some req)) (waits.Lease path index chunk) refl))

  copied_only : (path : Path) (index chunk : ℕ) (c : Chunk) (view : Option View) → (is_wanted c ≡ true → W) → Only (copied_on_write s req path index chunk c view)
  copied_only path index chunk c None w = other refusals.NoReplica refl
  copied_only path index chunk c (Some view) w =
      let copy = copy_plan (next_stamp s.durable) chunk view s.durable.next_handle req in
      let begins_copy = begins_new s req copy (waits.Copy path index chunk s.durable.next_handle) in
      let begins_quiet = begins s req (begin_at s chunk purposes.Quiet (Some req)) (waits.Quiet path index chunk) in
      either_if (is_wanted c) (refused s req refusals.Locked) (if is_quiet c then begins_copy else begins_quiet) w
      (either (is_quiet c) begins_copy begins_quiet (begins_new_only copy (waits.Copy path index chunk s.durable.next_handle) refl)
      (begins_only (begin_at s chunk purposes.Quiet (Some req)) (waits.Quiet path index chunk) refl))

  written_only : (path : Path) (index : ℕ) (stamp : Option Stamp) (moment : Moment) (chunk : ℕ) (c : Option Chunk) → ((x : Chunk) → c ≡ Some x → is_wanted x ≡ true → W) → Only (written_at s req path index stamp moment chunk c)
  written_only path index stamp moment chunk None w = other refusals.NoReplica refl
  written_only path index stamp moment chunk (Some c) w =
      either (is_shared s.durable.names chunk) (copied_on_write s req path index chunk c (view_of c)) (leased s req path index stamp moment chunk c)
      (copied_only path index chunk c (view_of c) (w c refl)) (leased_only path index stamp moment chunk c (w c refl))

  found_only : (path : Path) (index : ℕ) (stamp : Option Stamp) (moment : Moment) (found : Result ℕ Refusal) → lock_in found ≡ false
      → ((chunk : ℕ) → found ≡ Ok chunk → is_wanted_at s chunk ≡ true → W) → Only (found_for_writing s req path index stamp moment found)
  found_only path index stamp moment (Ok chunk) free w = written_only path index stamp moment chunk (chunk_at s chunk) (λ c has is. w chunk refl (wanted s chunk c has is))
  found_only path index stamp moment (Err refusal) free w = other refusal free

  created_only : (path : Path) (targets : Option (List ℕ)) → Only (created_on s req path targets)
  created_only path None = other refusals.NoServer refl
  created_only path (Some targets) = begins_new_only (create_plan (next_stamp s.durable) s.durable.next_handle targets req) (waits.Extend path s.durable.next_handle) refl

  extended_only : (config : Config) (path : Path) (chunks : List ℕ) (index : ℕ) → Only (extended_at config s req path chunks index)
  extended_only config path chunks index =
      let makes = created_on s req path (targets_for config (counted_views s) [] config.replicas) in
      either (nat_lt index (length chunks)) (looked_up s req (location s.durable (found_chunk (Some (File chunks)) index)))
      (if nat_lt (length chunks) index || nat_le most_chunks index then refused s req refusals.Range else makes)
      (looked_only (location s.durable (found_chunk (Some (File chunks)) index)) (location_not s.durable (found_chunk (Some (File chunks)) index) (found_not (Some (File chunks)) index)))
      (either (nat_lt (length chunks) index || nat_le most_chunks index) (refused s req refusals.Range) makes (other refusals.Range refl) (created_only path (targets_for config (counted_views s) [] config.replicas)))

  extends_only : (config : Config) (path : Path) (index : ℕ) (entry : Option (Entry ℕ)) → Only (extends config s req path index entry)
  extends_only config path index None = other refusals.NotFound refl
  extends_only config path index (Some Dir) = other refusals.IsADirectory refl
  extends_only config path index (Some (File chunks)) = extended_only config path chunks index

  begins_snapshot_only : (from to : Path) (many : List ℕ) → lock_in (edited_names (Snapshot from to) s.durable.names) ≡ false → (list_any (is_wanted_at s) many ≡ true → W) → Only (begins_snapshot s req from to many)
  begins_snapshot_only from to [] free w = edited_only (Snapshot from to) answers.Nothing free
  begins_snapshot_only from to (chunk ∷ chunks) free w =
      let begin = and_then (turned s (begin_pending req (waits.Snapshot from to))) (λ next. all_begun next (chunk ∷ chunks) purposes.Quiet (Some req)) in
      either_if (list_any (is_wanted_at s) (chunk ∷ chunks)) (refused s req refusals.Locked)
      (if without_versions then refused s req refusals.Exhausted else if_room s begin (refused s req refusals.Full)) w
      (either without_versions (refused s req refusals.Exhausted) (if_room s begin (refused s req refusals.Full)) (other refusals.Exhausted refl)
      (room begin (then_silent (turned s (begin_pending req (waits.Snapshot from to))) (λ next. all_begun next (chunk ∷ chunks) purposes.Quiet (Some req)) refl (λ n. begun_silent (chunk ∷ chunks) (Some req) n))))
    where
      without_versions : Bool
      without_versions = not (has_versions s.durable (length (chunk ∷ chunks)))

  snapshot_only : (from to : Path) (rows : Result (Rows ℕ) Refusal) → lock_in rows ≡ false → lock_in (edited_names (Snapshot from to) s.durable.names) ≡ false → (list_any (is_wanted_at s) (unquiet s from) ≡ true → W)
      → Only (snapshot_if s req from to rows)
  snapshot_only from to (Ok rows) free names w = begins_snapshot_only from to (unquiet s from) names w
  snapshot_only from to (Err refusal) free names w = other refusal free

  replicated_only : (chunk : ℕ) (targets : Option (List ℕ)) → Only (replicated_to s req chunk targets)
  replicated_only chunk None = other refusals.NoServer refl
  replicated_only chunk (Some []) = other refusals.NoServer refl
  replicated_only chunk (Some (target ∷ targets)) = begins_only (begin_at s chunk (purposes.Copy target) (Some req)) (waits.Replicate chunk target) refl

  replicates_only : (config : Config) (chunk : ℕ) (c : Option Chunk) → ((x : Chunk) → c ≡ Some x → is_wanted x ≡ true → W) → Only (replicates_chunk config s req chunk c)
  replicates_only config chunk None w = other refusals.NoReplica refl
  replicates_only config chunk (Some c) w =
      either_if (is_wanted c) (refused s req refusals.Locked) (replicated_to s req chunk (targets_for config (counted_views s) (members_of c) 1)) (w c refl)
      (replicated_only chunk (targets_for config (counted_views s) (members_of c) 1))

  most_only : (config : Config) (most : Option ℕ) → ((chunk : ℕ) → most ≡ Some chunk → is_wanted_at s chunk ≡ true → W) → Only (replicates_most config s req most)
  most_only config None w = silent (answered_with s req (answers.Copied None)) refl
  most_only config (Some chunk) w = replicates_only config chunk (chunk_at s chunk) (λ c has is. w chunk refl (wanted s chunk c has is))

  scanned_only : (removed : List Path) (forgotten : List ℕ) → Only (scanned s req removed forgotten)
  scanned_only removed forgotten =
      let ended : State → Turn = λ next. all_ended_by next (waiting_for s forgotten) refusals.NoReplica in
      let answer : State → Turn = λ next. answered_with next req (answers.Scanned (length removed) (length forgotten)) in
      room (and_then (and_then (turned s (scan_plan removed forgotten)) ended) answer)
      (then_silent (and_then (turned s (scan_plan removed forgotten)) ended) answer (then_silent (turned s (scan_plan removed forgotten)) ended refl (λ n. ended_silent (waiting_for s forgotten) refusals.NoReplica n)) (λ n. refl))

  -- ---- calls of an upgrade

  begin_only : Only (prepare_begin s req)
  begin_only =
      let ended = all_ended_by s (requests_of s.volatile.pending) refusals.Preparing in
      let begin : State → Turn = λ next. all_begun next (all_unquiet s) purposes.Quiet None in
      let accept : State → Turn = λ next. turned next (accepted_plan next req [] (changes.Prepare true ∷ []) [] s.durable.epoch) in
      let exhausted = not (has_versions s.durable (length (all_unquiet s))) in
      unless_only (first_of (begin_tests s.durable.phase s.volatile.is_preparing s.volatile.pending exhausted)) (and_then (and_then ended begin) accept)
      (first_not (begin_tests s.durable.phase s.volatile.is_preparing s.volatile.pending exhausted) (path_not (lowest_path (pending_paths s.volatile.pending)) exhausted))
      (then_silent (and_then ended begin) accept (then_silent ended begin (ended_silent (requests_of s.volatile.pending) refusals.Preparing s) (λ n. begun_silent (all_unquiet s) None n)) (λ n. refl))
    where
      path_not : (path : Option Path) (exhausted : Bool) → list_all (λ (t : Bool × Refusal). not (is_lock t.1)) (if_pending path ++ (exhausted, refusals.Exhausted) ∷ []) ≡ true
      path_not None exhausted = refl
      path_not (Some path) exhausted = refl

  commit_only : (config : Config) (moment : Moment) → Only (prepare_commit config s req moment)
  commit_only config moment =
      unless_only (first_of (commit_tests s.durable.phase s.volatile.is_preparing (all_unquiet s) (is_last_epoch s.durable)))
      (turned s (accepted_plan s req (Prepare (s.durable.epoch + 1) moment.0 (chunk_count s) ∷ []) (changes.Prepare false ∷ []) (tell_all config (s.durable.epoch + 1) ends.Prepare) (s.durable.epoch + 1)))
      (first_not (commit_tests s.durable.phase s.volatile.is_preparing (all_unquiet s) (is_last_epoch s.durable)) (unquiet_not (first_in (all_unquiet s)) (is_last_epoch s.durable))) refl
    where
      unquiet_not : (chunk : Option ℕ) (exhausted : Bool) → list_all (λ (t : Bool × Refusal). not (is_lock t.1)) (if_unquiet chunk ++ (exhausted, refusals.Exhausted) ∷ []) ≡ true
      unquiet_not None exhausted = refl
      unquiet_not (Some chunk) exhausted = refl

  abort_only : Only (prepare_abort s req)
  abort_only = either s.volatile.is_preparing (turned s (accepted_plan s req [] (changes.Prepare false ∷ []) [] s.durable.epoch)) (refused s req refusals.NotUpgrading) (silent (turned s (accepted_plan s req [] (changes.Prepare false ∷ []) [] s.durable.epoch)) refl) (other refusals.NotUpgrading refl)

  finalize_only : (config : Config) → Only (finalize config s req)
  finalize_only config =
      unless_only (first_of (end_tests s.durable.phase (is_last_epoch s.durable)))
      (turned s (accepted_plan s req (Finalize (s.durable.epoch + 1) ∷ []) [] (tell_all config (s.durable.epoch + 1) ends.Finalize) (s.durable.epoch + 1)))
      (first_not (end_tests s.durable.phase (is_last_epoch s.durable)) refl) refl

  rollback_only : (config : Config) → Only (rollback_begin config s req)
  rollback_only config =
      let plan : Plan = record { records = RollbackBegin (s.durable.epoch + 1) ∷ []; changes = []; sent = []; said = None } in
      let ended : State → Turn = λ next. all_ended_by next (requests_of s.volatile.pending) refusals.RollingBack in
      let accept : State → Turn = λ next. turned next (accepted_plan next req [] [] (tell_all config (s.durable.epoch + 1) ends.Rollback) (s.durable.epoch + 1)) in
      unless_only (first_of (end_tests s.durable.phase (is_last_epoch s.durable))) (and_then (and_then (turned s plan) ended) accept)
      (first_not (end_tests s.durable.phase (is_last_epoch s.durable)) refl)
      (then_silent (and_then (turned s plan) ended) accept (then_silent (turned s plan) ended refl (λ n. ended_silent (requests_of s.volatile.pending) refusals.RollingBack n)) (λ n. refl))

  commit_if_only : (names : NamesView) (lacking : Option ℕ) → Only (commit_if s req names lacking)
  commit_if_only names (Some chunk) = other (refusals.Unrestored chunk) refl
  commit_if_only names None =
      room (turned s (accepted_plan s req (RollbackCommit s.durable.epoch (answers_for (prepared_view s.durable) (told_of s) (fin.entries names.refs)) ∷ []) (changes.RolledBack ∷ []) [] s.durable.epoch)) refl

  commit_on_only : (names : Option NamesView) → Only (commit_on s req names)
  commit_on_only None = other refusals.BadLine refl
  commit_on_only (Some names) = commit_if_only names (unrestored (prepared_view s.durable) (told_of s) (fin.entries names.refs))

  rolled_only : Only (rollback_commit s req)
  rolled_only = either (is_rolling s.durable.phase) (commit_on s req (all_undone s.durable.inverses s.durable.names)) (refused s req refusals.NotUpgrading) (commit_on_only (all_undone s.durable.inverses s.durable.names)) (other refusals.NotUpgrading refl)

-- ---- all calls

module _ (config : Config) (s : State) (req : ReqId) (moment : Moment) where
  abbrev rows_of : Rows ℕ
  rows_of = fin.entries s.durable.names.tree

  -- what the call would begin moves for another call
  abbrev Wants : Call → Type 0
  Wants call = (chunk : ℕ) × (MayBegin config s call chunk × (is_wanted_at s chunk ≡ true))

  snapshot_names : (from to : Path) → lock_in (edited_names (Snapshot from to) s.durable.names) ≡ false
  unfolding edited_names
  snapshot_names from to = edit_not _ _ _ (snapshot_not (at rows_of) (is_copied_too_deep rows_of from) from to) (raised_not s.durable.names.refs (visible_chunks_under from rows_of))

  called_only : (call : Call) → Only s req (Wants call) (called config s req moment call)
  unfolding edited_names
  called_only (calls.Mkdirs path) = edited_only s req _ (Mkdirs path) answers.Nothing (edit_not _ _ _ (mkdirs_not (at rows_of) path) refl)
  called_only (calls.Create path) = edited_only s req _ (Create path) answers.Nothing (edit_not _ _ _ (create_not (at rows_of) path) refl)
  called_only (calls.Rename from to) = renames_only s req _ from to (edit_not _ _ _ (rename_not (at rows_of) (is_too_deep rows_of from) from to) refl)
  called_only (calls.Delete path recursive) = deleted_only s req _ path recursive moment (edit_not _ _ _ (hide_not (at rows_of) path moment.0 s.durable.next_hidden) refl)
  called_only (calls.Undelete path) = edited_only s req _ (Unhide path) (answers.Path (unhide_target path (old_name path))) (edit_not _ _ _ (unhide_not (at rows_of) path (old_name path)) refl)
  called_only (calls.Snapshot from to) =
      snapshot_only s req _ from to (edited (edits.Snapshot from to) rows_of) (tabled_not _ _ (snapshot_not (at rows_of) (is_copied_too_deep rows_of from) from to)) (snapshot_names from to) (any_wanted s (unquiet s from))
  called_only (calls.List path) = looked_only s req _ (listing rows_of path (fin.get s.durable.names.tree path)) (listing_not rows_of path (fin.get s.durable.names.tree path))
  called_only (calls.Status path) = looked_only s req _ (status s.durable (fin.get s.durable.names.tree path)) (status_not s.durable (fin.get s.durable.names.tree path))
  called_only (calls.FindForReading path index) =
      let found = found_chunk (fin.get s.durable.names.tree path) index in
      looked_only s req _ (location s.durable found) (location_not s.durable found (found_not (fin.get s.durable.names.tree path) index))
  called_only (calls.FindForWriting path index stamp) =
      found_only s req _ path index stamp moment (found_chunk (fin.get s.durable.names.tree path) index) (found_not (fin.get s.durable.names.tree path) index) (λ chunk is wants. (chunk, (is, wants)))
  called_only (calls.Extend path index) = extends_only s req _ config path index (fin.get s.durable.names.tree path)
  called_only calls.Scan = scanned_only s req _ (removed_paths moment.0 rows_of) (forgotten_chunks moment.0 rows_of (fin.entries s.durable.names.refs))
  called_only calls.Replicate = most_only s req _ config (most_needed_of config.replicas (needs_of s)) (λ chunk is wants. (chunk, (is, wants)))
  called_only calls.Query = silent s req _ (queried s req) refl
  called_only calls.PrepareBegin = begin_only s req _
  called_only calls.PrepareCommit = commit_only s req _ config moment
  called_only calls.PrepareAbort = abort_only s req _
  called_only calls.Finalize = finalize_only s req _ config
  called_only calls.RollbackBegin = rollback_only s req _ config
  called_only calls.RollbackCommit = rolled_only s req _

pub locked_else : LockedElse
locked_else config s req moment call = each (refused_before s req call) refl
  where
    said_is : {a b : Refusal} → ◌≡◌ {A = Option Refusal} (Some a) (Some b) → a ≡ b
    said_is h = cc

    each : (o : Option Refusal) → refused_before s req call ≡ o → (called_unless config s req moment call o).said ≡ Some refusals.Locked →
        ((comes_to_locks s call ≡ true) × (is_locked s req call ≡ true)) ⊎ Wants config s req moment call
    each None is h = inr (called_only config s req moment call h)
    each (Some refusal) is h = inl ((locked_exactly s req call).0 (is ∙ h))
