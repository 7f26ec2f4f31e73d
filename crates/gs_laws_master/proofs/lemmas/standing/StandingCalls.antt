-- What stands is kept by each call.
use Rattle.std.proofs.Common.{◌≡◌, ◌∙◌, ◌≤◌, ◌<◌, ◌&&◌, ◌||◌, ◌==◌, inl, ℕ, Bool, true, false, not, List, [], ◌∷◌, filter, length, refl, ap, subst, sym, arith}
use Rattle.std.specs.Prelude.{is_none, is_some, nat_le, nat_lt, Option, Some, None, Result, Ok, Err, if◌then◌else◌}
use Rattle.std.specs.Cmp.{nat_cmp_total}
use Rattle.std.specs.FinMap as fin
use Rattle.std.specs.List.{list_all, list_any}
use Rattle.std.specs.Ordering.{nat_cmp}
use Rattle.std.proofs.lemmas.Bool.{false≢true, and_parts}
use Rattle.std.proofs.lemmas.Bool.Decides.{nat_tests}
use Rattle.std.proofs.lemmas.List.Folds.{list_all-map}
use Rattle.gs_base.specs.Members.{is_member}
use Rattle.gs_base.specs.MemberLaws.{eqb_itself}
use Rattle.gs_base.specs.Told.{IsNumber}
use Rattle.gs_base.specs.declared.config.Config.{Config}
use Rattle.gs_base.specs.declared.numbers.Moment.{Moment}
use Rattle.gs_base.specs.declared.numbers.ReqId.{ReqId}
use Rattle.gs_base.specs.declared.numbers.Stamp.{Stamp}
use Rattle.gs_base.specs.declared.refusal.Refusal.{Refusal}
use Rattle.gs_base.specs.declared.refusal.Refusal.TheVariants as refusals
use Rattle.gs_edit.proofs.References.{among}
use Rattle.gs_edit.specs.View.{NamesView}
use Rattle.gs_path.specs.Path.{Path}
use Rattle.gs_tree.proofs.Levels.{both_true}
use Rattle.gs_tree.specs.Chunks.{all_chunks}
use Rattle.gs_tree.specs.Edits.{same_path, hidden_path}
use Rattle.gs_tree.specs.Entry.{Entry, Dir, File}
use Rattle.gs_tree.specs.Find.{Rows, at}
use Rattle.gs_lease.specs.declared.view.Purpose.TheVariants as purposes
use Rattle.gs_lease.specs.declared.view.View.{View}
use Rattle.gs_msg.specs.declared.answer.Answer.{Answer}
use Rattle.gs_msg.specs.declared.answer.Answer.TheVariants as answers
use Rattle.gs_place.specs.Needs.{is_needy, most_needed_of, needs_more}
use Rattle.gs_place.specs.declared.need.Need.{Need}
use Rattle.gs_master_record.specs.Plain.{PlainEdit, Hide, Snapshot}
use Rattle.gs_master_record.specs.Writable.{IsEdit, IsHandle, IsPath}
use Rattle.gs_refs.specs.Counts.{count_or_zero}
use Rattle.gs_master_spec.specs.Applied.{chunk_of_edit, forgotten_by, is_fresh, is_visible, may_edit, names_well, view_for}
use Rattle.gs_master_spec.specs.Beginning.{all_begun, begin_at, copy_plan, counted_views, create_plan, has_handle, has_versions, next_stamp, targets_for}
use Rattle.gs_master_spec.specs.Calls.{answered_with, deleted, edited_by, found_chunk, has_visible_child, is_shared, location, looked_up, most_chunks}
use Rattle.gs_master_spec.specs.Chunks.{Chunk, chunk_at, has_entry, is_leased, is_quiet, is_wanted, members_of, view_of}
use Rattle.gs_master_spec.specs.Durable.{Durable, is_listed, is_rolling}
use Rattle.gs_master_spec.specs.Settling.{is_quiet_at, source_chunks}
use Rattle.gs_master_spec.specs.State.{State, Turn, turned, and_then, if_room, refused}
use Rattle.gs_master_spec.specs.Undoing.{edited_names}
use Rattle.gs_master_spec.specs.Volatile.{Volatile}
use Rattle.gs_master_spec.specs.Working.{ascending, begin_pending, begins, begins_new, begins_snapshot, copied_on_write, created_on, extended_at, extends, found_for_writing, is_wanted_at, leased, may_use, need_of, needs_of, replicated_to, replicates_chunk, replicates_most, snapshot_if, unquiet, written_at}
use Rattle.gs_master_spec.specs.declared.pending.Waiting.TheVariants as waits
use Rattle.gs_laws_master.specs.Promises.{IsKept}
use Rattle.gs_laws_master.specs.Standing.{CanWait}
use Rattle.gs_laws_master.proofs.lemmas.fitting.Accepted.{may_so, next_fresh}
use Rattle.gs_laws_master.proofs.lemmas.fitting.AcceptedUpgrades.{filtered_all}
use Rattle.gs_laws_master.proofs.lemmas.fitting.AcceptedViews.{ascending_all, counts_some, fewer_rows, found_so, is_settled, one_row, or_left, passes_all}
use Rattle.gs_laws_master.proofs.lemmas.fitting.AcceptedWork.{found_all}
use Rattle.gs_laws_master.proofs.lemmas.versions.Fresh.{next_is_fresh, not_false}
use Rattle.gs_laws_master.proofs.lemmas.keeping.KeptEdits.{AnswersTold, edit_answers, edit_told, view_told}
use Rattle.gs_laws_master.proofs.lemmas.names.Planted.{each_chunk}
use Rattle.gs_laws_master.proofs.lemmas.spelling.Retold.{each_found}
use Rattle.gs_laws_master.proofs.lemmas.standing.StandingRecords.{MayStand}
use Rattle.gs_laws_master.proofs.lemmas.standing.StandingTurns.{Good, Holds, answered_good, edited_good, looked_good, none_good, refused_good, room_good, test_good, then_good}
use Rattle.gs_laws_master.proofs.lemmas.standing.StandingViews.{MayBegin, all_begun_good, begins_good, begins_new_good, begun_call, for_begun, not_rolling}

-- ---- chunks of files are listed and settled

abbrev pub is_placed : Durable → ℕ → Bool
is_placed d chunk = is_listed d chunk && is_settled d chunk

pub all_placed : (d : Durable) → IsKept d → list_all (is_placed d) (all_chunks (fin.entries d.names.tree)) ≡ true
all_placed d k =
    each_chunk (is_placed d) (all_chunks (fin.entries d.names.tree))
    (λ h some. let listed = counts_some (fin.get d.names.refs h) (subst (λ n. 0 < n) (sym (k.names.counted h)) some) in both_true (is_listed d h) (is_settled d h) listed (k.settled h listed))

pub found_placed : (d : Durable) (path : Path) (index chunk : ℕ) → IsKept d → found_chunk (fin.get d.names.tree path) index ≡ Ok chunk → is_placed d chunk ≡ true
found_placed d path index chunk k e =
    found_so (is_placed d) (at (fin.entries d.names.tree) path) index chunk (one_row (is_placed d) (fin.entries d.names.tree) path (all_placed d k)) (ap (λ o. found_chunk o index) (sym (fin.get-entries d.names.tree path)) ∙ e)

list_weaker : (f g : ℕ → Bool) (xs : List ℕ) → ((x : ℕ) → f x ≡ true → g x ≡ true) → list_all f xs ≡ true → list_all g xs ≡ true
list_weaker f g [] h all = refl
list_weaker f g (x ∷ xs) h all = let parts = and_parts (f x) (list_all f xs) all in both_true (g x) (list_all g xs) (h x parts.0) (list_weaker f g xs h parts.1)

-- ---- edits that put no chunk into a file and forget none

pub answers_of : (d : Durable) (edit : PlainEdit) → IsKept d → IsEdit edit → AnswersTold d edit
answers_of d edit k written well a is = edit_answers edit (view_for d (chunk_of_edit edit)) d.epoch a written well (λ v has. view_told d (chunk_of_edit edit) v k has) k.now is

pub stands_alone : (edit : PlainEdit) (v : Volatile) → forgotten_by edit ≡ [] → chunk_of_edit edit ≡ None → MayStand edit v
stands_alone edit v none no_chunk = record {
  asked = λ q some. ap (λ chunks. among q chunks) none;
  placed = λ q here e. false≢true (sym (ap is_some no_chunk) ∙ ap is_some e);
}

pub plain_good : (s : State) (req : ReqId) (edit : PlainEdit) (answer : Answer) → Holds true s → ((names : NamesView) → edited_names edit s.durable.names ≡ Ok names → may_edit s.durable edit ≡ true) → IsEdit edit
    → forgotten_by edit ≡ [] → chunk_of_edit edit ≡ None → is_rolling s.durable.phase ≡ false → Good true s (edited_by s req edit answer)
plain_good s req edit answer h may written none no_chunk rolling =
    edited_good true s req edit answer h may (edit_told edit written) (answers_of s.durable edit h.stands.kept written) (stands_alone edit s.volatile none no_chunk) rolling

pub deleted_good : (s : State) (req : ReqId) (path : Path) (recursive : Bool) (moment : Moment) → Holds true s → is_rolling s.durable.phase ≡ false → names_well (Hide path moment.0 s.durable.next_hidden) ≡ true → IsPath path → IsNumber moment.0
    → Good true s (deleted s req path recursive moment)
deleted_good s req path recursive moment h rolling well is_path low =
    let hide = Hide path moment.0 s.durable.next_hidden in
    let hides = edited_by s req hide (answers.Path (hidden_path path moment.0 s.durable.next_hidden)) in
    let third = if s.durable.next_hidden == 0 then refused s req refusals.Exhausted else hides in
    let second = if not recursive && has_visible_child (fin.entries s.durable.names.tree) path then refused s req refusals.NotEmpty else third in
    let first = if is_none (fin.get s.durable.names.tree path) then answered_with s req answers.Absent else second in
    test_good true s (same_path path []) (refused s req refusals.IsRoot) first (λ _. refused_good true s req refusals.IsRoot h)
    (λ _. test_good true s (is_none (fin.get s.durable.names.tree path)) (answered_with s req answers.Absent) second (λ _. answered_good true s req answers.Absent h)
    (λ _. test_good true s (not recursive && has_visible_child (fin.entries s.durable.names.tree) path) (refused s req refusals.NotEmpty) third (λ _. refused_good true s req refusals.NotEmpty h)
    (λ _. test_good true s (s.durable.next_hidden == 0) (refused s req refusals.Exhausted) hides (λ _. refused_good true s req refusals.Exhausted h)
    (λ some. plain_good s req hide (answers.Path (hidden_path path moment.0 s.durable.next_hidden)) h (λ names e. may_so s.durable hide rolling well refl (next_fresh s.durable.next_hidden some)) (is_path, (low, h.stands.counters.hidden)) refl refl rolling))))

-- ---- finding a chunk for writing, and extending a file

module _ (s : State) (req : ReqId) (h : Holds true s) (may : MayBegin s req) where
  one_path : (path : Path) → is_visible path ≡ true → (is_visible path && true) ≡ true
  one_path path visible = both_true (is_visible path) true visible refl

  leased_good : (path : Path) (index : ℕ) (stamp : Option Stamp) (moment : Moment) (chunk : ℕ) (c : Chunk) → is_placed s.durable chunk ≡ true → IsPath path → is_visible path ≡ true → Good true s (leased s req path index stamp moment chunk c)
  leased_good path index stamp moment chunk c known is_path visible =
      let begin = begins s req (begin_at s chunk purposes.Lease (Some req)) (waits.Lease path index chunk) in
      let parts = and_parts (is_listed s.durable chunk) (is_settled s.durable chunk) known in
      test_good true s (is_leased c && may_use stamp moment (view_of c)) (looked_up s req (location s.durable (Ok chunk))) (if is_wanted c then refused s req refusals.Locked else begin)
      (λ _. looked_good true s req (location s.durable (Ok chunk)) h)
      (λ _. test_good true s (is_wanted c) (refused s req refusals.Locked) begin (λ _. refused_good true s req refusals.Locked h)
      (λ _. begins_good true s req h may chunk purposes.Lease (waits.Lease path index chunk) parts.1 parts.0 (eqb_itself chunk) refl (one_path path visible, is_path)))

  handle_told : has_handle s.durable ≡ true → IsHandle s.durable.next_handle
  handle_told left = (some s.durable.next_handle (next_is_fresh s.durable.next_handle 1 (omega arith) left), h.stands.counters.handle)
    where
      some : (n : ℕ) → is_fresh n n ≡ true → 1 ≤ n
      some n fresh = grind (arith, nat_tests)

  copied_good : (path : Path) (index chunk : ℕ) (c : Chunk) (view : Option View) → is_placed s.durable chunk ≡ true → IsPath path → is_visible path ≡ true → Good true s (copied_on_write s req path index chunk c view)
  copied_good path index chunk c None known is_path visible = refused_good true s req refusals.NoReplica h
  copied_good path index chunk c (Some view) known is_path visible =
      let copy = copy_plan (next_stamp s.durable) chunk view s.durable.next_handle req in
      let begins_copy = begins_new s req copy (waits.Copy path index chunk s.durable.next_handle) in
      let begins_quiet = begins s req (begin_at s chunk purposes.Quiet (Some req)) (waits.Quiet path index chunk) in
      let parts = and_parts (is_listed s.durable chunk) (is_settled s.durable chunk) known in
      test_good true s (is_wanted c) (refused s req refusals.Locked) (if is_quiet c then begins_copy else begins_quiet) (λ _. refused_good true s req refusals.Locked h)
      (λ _. test_good true s (is_quiet c) begins_copy begins_quiet
      (λ _. begins_new_good true s req h may copy view.members (waits.Copy path index chunk s.durable.next_handle) (eqb_itself s.durable.next_handle) (eqb_itself s.durable.next_handle) (λ _. is_path) (one_path path visible))
      (λ _. begins_good true s req h may chunk purposes.Quiet (waits.Quiet path index chunk) parts.1 parts.0 (eqb_itself chunk) refl (one_path path visible, is_path)))

  written_good : (path : Path) (index : ℕ) (stamp : Option Stamp) (moment : Moment) (chunk : ℕ) (c : Option Chunk) → is_placed s.durable chunk ≡ true → IsPath path → is_visible path ≡ true → Good true s (written_at s req path index stamp moment chunk c)
  written_good path index stamp moment chunk None known is_path visible = refused_good true s req refusals.NoReplica h
  written_good path index stamp moment chunk (Some c) known is_path visible =
      test_good true s (is_shared s.durable.names chunk) (copied_on_write s req path index chunk c (view_of c)) (leased s req path index stamp moment chunk c)
      (λ _. copied_good path index chunk c (view_of c) known is_path visible) (λ _. leased_good path index stamp moment chunk c known is_path visible)

  pub found_good : (path : Path) (index : ℕ) (stamp : Option Stamp) (moment : Moment) → IsPath path → is_visible path ≡ true → (chunk : Result ℕ Refusal) → found_chunk (fin.get s.durable.names.tree path) index ≡ chunk
      → Good true s (found_for_writing s req path index stamp moment chunk)
  found_good path index stamp moment is_path visible (Ok chunk) is = written_good path index stamp moment chunk (chunk_at s chunk) (found_placed s.durable path index chunk h.stands.kept is) is_path visible
  found_good path index stamp moment is_path visible (Err refusal) is = refused_good true s req refusal h

  created_good : (path : Path) (targets : Option (List ℕ)) → IsPath path → is_visible path ≡ true → Good true s (created_on s req path targets)
  created_good path None is_path visible = refused_good true s req refusals.NoServer h
  created_good path (Some targets) is_path visible =
      begins_new_good true s req h may (create_plan (next_stamp s.durable) s.durable.next_handle targets req) targets (waits.Extend path s.durable.next_handle) (eqb_itself s.durable.next_handle) (eqb_itself s.durable.next_handle)
      (λ left. (is_path, handle_told left)) (one_path path visible)

  extended_good : (config : Config) (path : Path) (chunks : List ℕ) (index : ℕ) → IsPath path → is_visible path ≡ true → Good true s (extended_at config s req path chunks index)
  extended_good config path chunks index is_path visible =
      let targets = targets_for config (counted_views s) [] config.replicas in
      let found = location s.durable (found_chunk (Some (File chunks)) index) in
      test_good true s (nat_lt index (length chunks)) (looked_up s req found) (if nat_lt (length chunks) index || nat_le most_chunks index then refused s req refusals.Range else created_on s req path targets)
      (λ _. looked_good true s req found h)
      (λ _. test_good true s (nat_lt (length chunks) index || nat_le most_chunks index) (refused s req refusals.Range) (created_on s req path targets) (λ _. refused_good true s req refusals.Range h) (λ _. created_good path targets is_path visible))

  pub extends_good : (config : Config) (path : Path) (index : ℕ) → IsPath path → is_visible path ≡ true → (entry : Option (Entry ℕ)) → Good true s (extends config s req path index entry)
  extends_good config path index is_path visible None = refused_good true s req refusals.NotFound h
  extends_good config path index is_path visible (Some Dir) = refused_good true s req refusals.IsADirectory h
  extends_good config path index is_path visible (Some (File chunks)) = extended_good config path chunks index is_path visible

  -- ---- copying a tree

  snapshot_good : (from to : Path) (many : List ℕ) → list_all (is_placed s.durable) many ≡ true → names_well (Snapshot from to) ≡ true → IsPath from → IsPath to → Good true s (begins_snapshot s req from to many)
  snapshot_good from to [] known well a b =
      plain_good s req (Snapshot from to) answers.Nothing h (λ names e. may_so s.durable (Snapshot from to) may.rolling well refl refl) (a, b) refl refl may.rolling
  snapshot_good from to (chunk ∷ chunks) known well a b =
      let many = chunk ∷ chunks in
      let waiting = waits.Snapshot from to in
      let pending = begin_pending req waiting in
      let all : State → Turn = λ next. all_begun next many purposes.Quiet (Some req) in
      let begin = and_then (turned s pending) all in
      let parts = and_parts (is_visible from) (is_visible to) well in
      let can : CanWait (record { req = req; waits = waiting }) = (both_true (is_visible from) (is_visible to && true) parts.0 (both_true (is_visible to) true parts.1 refl), (a, b)) in
      let first = none_good true s pending (begun_call true s req h may waiting can) (not_rolling true s req h may s.durable refl) in
      test_good true s (list_any (is_wanted_at s) many) (refused s req refusals.Locked)
      (if not (has_versions s.durable (length many)) then refused s req refusals.Exhausted else if_room s begin (refused s req refusals.Full)) (λ _. refused_good true s req refusals.Locked h)
      (λ _. test_good true s (not (has_versions s.durable (length many))) (refused s req refusals.Exhausted) (if_room s begin (refused s req refusals.Full)) (λ _. refused_good true s req refusals.Exhausted h)
      (λ left. room_good true s req begin h (then_good true s (turned s pending) all first
      (all_begun_good true many purposes.Quiet (Some req) (turned s pending).after first.holds (record {
        rolling = may.rolling;
        left = not_false (has_versions s.durable (length many)) left;
        known = list_weaker (is_placed s.durable) (λ c. is_settled s.durable c && has_entry s c) many (λ c k. (let p = and_parts (is_listed s.durable c) (is_settled s.durable c) k in both_true (is_settled s.durable c) (has_entry s c) p.1 (or_left (is_listed s.durable c) (is_member s.volatile.unplaced c) p.0))) known;
        quiet = refl;
        owned = inl (list_weaker (is_placed s.durable) (is_listed s.durable) many (λ c k. (and_parts (is_listed s.durable c) (is_settled s.durable c) k).0) known);
        for = λ c. for_begun s.durable s.volatile (record { req = req; waits = waiting }) c purposes.Quiet may.out refl refl;
      })))))

  pub snapshot_if_good : (from to : Path) (rows : Result (Rows ℕ) Refusal) → names_well (Snapshot from to) ≡ true → IsPath from → IsPath to → Good true s (snapshot_if s req from to rows)
  snapshot_if_good from to (Ok rows) well a b =
      snapshot_good from to (unquiet s from)
      (passes_all (is_placed s.durable) (λ chunk. not (is_quiet_at s chunk)) (ascending (source_chunks s from))
      (ascending_all (is_placed s.durable) (source_chunks s from) (fewer_rows (is_placed s.durable) _ (fin.entries s.durable.names.tree) (all_placed s.durable h.stands.kept)))) well a b
  snapshot_if_good from to (Err refusal) well a b = refused_good true s req refusal h

  -- ---- making a replica

  replicated_good : (chunk : ℕ) (targets : Option (List ℕ)) → is_placed s.durable chunk ≡ true → Good true s (replicated_to s req chunk targets)
  replicated_good chunk None known = refused_good true s req refusals.NoServer h
  replicated_good chunk (Some []) known = refused_good true s req refusals.NoServer h
  replicated_good chunk (Some (target ∷ targets)) known =
      let parts = and_parts (is_listed s.durable chunk) (is_settled s.durable chunk) known in
      begins_good true s req h may chunk (purposes.Copy target) (waits.Replicate chunk target) parts.1 parts.0 (eqb_itself chunk) refl (refl, tt)

  replicates_good : (config : Config) (chunk : ℕ) (c : Option Chunk) → is_placed s.durable chunk ≡ true → Good true s (replicates_chunk config s req chunk c)
  replicates_good config chunk None known = refused_good true s req refusals.NoReplica h
  replicates_good config chunk (Some c) known =
      let targets = targets_for config (counted_views s) (members_of c) 1 in
      test_good true s (is_wanted c) (refused s req refusals.Locked) (replicated_to s req chunk targets) (λ _. refused_good true s req refusals.Locked h) (λ _. replicated_good chunk targets known)

  -- a chunk that needs a replica has a reference, so it is listed
  needs_placed : (config : Config) → list_all (λ (n : Need). is_placed s.durable n.handle) (filter (is_needy config.replicas) (needs_of s)) ≡ true
  needs_placed config =
      filtered_all (is_needy config.replicas) (λ (n : Need). is_placed s.durable n.handle) (needs_of s)
      (list_all-map (λ (n : Need). not (is_needy config.replicas n) || is_placed s.durable n.handle) (need_of s.durable) (filter (λ e. has_entry s e.0) (fin.entries s.durable.chunks))
      ∙ passes_all (λ e. not (is_needy config.replicas (need_of s.durable e)) || is_placed s.durable e.0) (λ e. has_entry s e.0) (fin.entries s.durable.chunks)
      (each_found nat_cmp nat_cmp_total fin.nat_cmp-IsAntisymmetric (λ e. not (is_needy config.replicas (need_of s.durable e)) || is_placed s.durable e.0) (fin.entries s.durable.chunks) (fin.entries_sorted s.durable.chunks)
      (λ chunk settled found. by_needy (need_of s.durable (chunk, settled)) (is_needy config.replicas (need_of s.durable (chunk, settled))) refl chunk refl)))
    where
      counted : (o : Option ℕ) → nat_lt 0 (count_or_zero o) ≡ true → is_some o ≡ true
      counted None e = absurd (false≢true e)
      counted (Some n) e = refl

      by_needy : (n : Need) (b : Bool) → is_needy config.replicas n ≡ b → (chunk : ℕ) → n.references ≡ count_or_zero (fin.get s.durable.names.refs chunk) → (not b || is_placed s.durable chunk) ≡ true
      by_needy n true is chunk refs =
          let listed = counted (fin.get s.durable.names.refs chunk) (ap (λ m. nat_lt 0 m) (sym refs) ∙ (and_parts (nat_lt 0 n.references) (nat_lt 0 n.members && nat_lt n.members config.replicas) is).0) in
          both_true (is_listed s.durable chunk) (is_settled s.durable chunk) listed (h.stands.kept.settled chunk listed)
      by_needy n false is chunk refs = refl

  pub most_good : (config : Config) (chunk : Option ℕ) → most_needed_of config.replicas (needs_of s) ≡ chunk → Good true s (replicates_most config s req chunk)
  most_good config None is = answered_good true s req (answers.Copied None) h
  most_good config (Some chunk) is =
      let needy = filter (is_needy config.replicas) (needs_of s) in
      let found = found_all ⊥ s req may.rolling (λ (n : Need). is_placed s.durable n.handle) (λ need. list_all (λ other. not (needs_more config.replicas other need)) needy) needy chunk (needs_placed config) is in
      replicates_good config chunk (chunk_at s chunk) (subst (λ c. is_placed s.durable c ≡ true) found.2 found.1)
