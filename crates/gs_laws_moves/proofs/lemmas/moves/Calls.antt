-- Each call is a chain of moves.
use Rattle.std.proofs.Common.{◌≡◌, arith, inl, slice_get, ◌∙◌, ◌==◌, ◌&&◌, ◌||◌, ℕ, Bool, true, false, not, cond, List, [], ◌∷◌, filter, length, refl, ap, subst, sym}
use Rattle.std.specs.Prelude.{map, nat_lt, nat_le, is_none, is_some, find, option_and_then, Option, Some, None, Result, Ok, Err, if◌then◌else◌}
use Rattle.std.specs.List.{AllByRecursion, list_all, list_any}
use Rattle.std.specs.FinMap as fin
use Rattle.gs_laws_master.proofs.lemmas.fitting.AcceptedUpgrades.{none_passes}
use Rattle.gs_base.specs.MemberLaws.{eqb_itself}
use Rattle.std.specs.FinMap.Entries.{find-put}
use Rattle.std.proofs.lemmas.Bool.{false≢true, true≢false, and_parts}
use Rattle.std.proofs.lemmas.Bool.Decides.{nat_tests}
use Rattle.gs_base.specs.Members.{is_member, servers_where, count_from, with_member}
use Rattle.gs_base.specs.declared.config.Config.{Config}
use Rattle.gs_base.specs.declared.numbers.Moment.{Moment}
use Rattle.gs_base.specs.declared.numbers.ReqId.{ReqId}
use Rattle.gs_base.specs.declared.numbers.Stamp.{Stamp}
use Rattle.gs_base.specs.declared.refusal.Refusal.{Refusal}
use Rattle.gs_base.specs.declared.refusal.Refusal.TheVariants as refusals
use Rattle.gs_path.specs.Path.{Path}
use Rattle.gs_place.specs.Targets.{candidates, comes_before, first_candidate, is_candidate, picked_from}
use Rattle.gs_tree.specs.Entry.{Entry, Dir, File}
use Rattle.gs_tree.specs.Find.{Rows}
use Rattle.gs_tree.specs.Edits.{same_path, hidden_path, target_of, chunks_in}
use Rattle.gs_edit.specs.View.{NamesView}
use Rattle.gs_lease.specs.declared.view.Purpose.TheVariants as purposes
use Rattle.gs_lease.specs.declared.view.Term.{Term}
use Rattle.gs_lease.specs.declared.view.View.{View}
use Rattle.gs_lock.specs.Locks.{stands_in_the_way}
use Rattle.gs_msg.specs.declared.answer.Answer.{Answer}
use Rattle.gs_msg.specs.declared.answer.Answer.TheVariants as answers
use Rattle.gs_master_record.specs.Plain.{PlainEdit, Hide, Snapshot, Rename}
use Rattle.gs_master_spec.specs.Applied.{is_visible, view_in}
use Rattle.gs_master_spec.specs.Beginning.{next_stamp, has_versions, has_handle, all_begun, begin_at, copy_plan, create_plan, waits_from_now, targets_for, counted_views, replica_counts}
use Rattle.gs_master_spec.specs.Calls.{chunks_at, is_shared_in, answered_with, edited_by, edit_if, accept_plan, deleted, has_visible_child, looked_up, listing, status, location, location_on, found_chunk, is_shared, most_chunks, renames, gets_chunk}
use Rattle.gs_master_spec.specs.Chunks.{Chunk, chunk_at, has_entry, is_leased, is_quiet, is_wanted, members_of, members_in, view_of}
use Rattle.gs_master_spec.specs.Durable.{Settled, is_given, is_listed, is_rolling}
use Rattle.gs_master_spec.specs.Settling.{is_quiet_at, source_chunks}
use Rattle.gs_master_spec.specs.State.{State, Plan, Turn, turned, and_then, if_room, joined, refused, all_ended_by}
use Rattle.gs_master_spec.specs.Undoing.{edited_names}
use Rattle.gs_master_spec.specs.Working.{ascending, begins, begins_new, may_use, is_below, is_stamp, leased, copied_on_write, written_at, found_for_writing, created_on, extended_at, extends, unquiet, is_wanted_at, begin_pending, begins_snapshot, snapshot_if, replicated_to, replicates_chunk, replicates_most, scanned, scan_plan, waiting_for, waits_for_any, removed_paths, forgotten_chunks, put_handles}
use Rattle.gs_master_spec.specs.Volatile.{is_pending}
use Rattle.gs_master_spec.specs.declared.pending.Pending.{Pending}
use Rattle.gs_master_spec.specs.declared.pending.Waiting.{Waiting}
use Rattle.gs_master_spec.specs.declared.pending.Waiting.TheVariants as waits
use Rattle.std.specs.Cmp.{nat_cmp_total, tied_itself}
use Rattle.std.specs.Ordering.{nat_cmp, eq_by_cmp, is_eq}
use Rattle.gs_refs.specs.Counts.{occurrences}
use Rattle.gs_tree.specs.Chunks.{all_chunks}
use Rattle.gs_edit.specs.Scan.{gone}
use Rattle.gs_laws_master.proofs.lemmas.spelling.Retold.{each_entry}
use Rattle.gs_laws_master.specs.Standing.{Stands}
use Rattle.gs_laws_master.specs.Promises.{IsKept}
use Rattle.gs_laws_master.proofs.lemmas.fitting.AcceptedViews.{ascending_all, fewer_rows, or_left, passes_all}
use Rattle.gs_laws_master.proofs.lemmas.standing.StandingCalls.{all_placed, found_placed, is_placed}
use Rattle.gs_laws_moves.proofs.lemmas.moves.Chains.{Chained, Turned, all_begun_chain, answered_chain, closing_chain, is_located, joined_together, looked_chain, refused_chain, room_chain, room_turned, test_chain, test_turned, then_chain, within}
use Rattle.gs_laws_moves.specs.moves.Epochs.{ByItself, Closes}
use Rattle.gs_laws_moves.specs.moves.ForCalls.{HasChunks, IsFor, IsLed, IsLookedUpFor, IsNew, StandsAt}
use Rattle.gs_msg.specs.declared.call.Call.TheVariants as calls
use Rattle.gs_laws_moves.proofs.lemmas.moves.Ended.{some_pending}
use Rattle.gs_laws_moves.proofs.lemmas.moves.Free.{alone_free, found_here, shared_free}
use Rattle.gs_laws_moves.specs.moves.Guards.{IsCalled, IsFree, IsOpenAt, IsRefusable, Heard, IsNext, TakesPlace, is_location, is_of_tree, is_still_for, moved_by}
use Rattle.gs_laws_moves.specs.moves.Moves.{FromNow, Moves, Then, Begins, Makes, Copies, Edits, Scans, Waits, Answers as AnswersCall}
use Rattle.gs_master_state.proofs.Renames.{resolved_does}

quiet_parts : (moving : Bool) (asked still : Bool) → (not (asked || moving) && still) ≡ true → (asked ≡ false) × ((moving ≡ false) × (still ≡ true))
quiet_parts moving true still e = absurd (false≢true e)
quiet_parts true false still e = absurd (false≢true e)
quiet_parts false false true e = (refl, (refl, refl))
quiet_parts false false false e = absurd (false≢true e)

pub nothing_at : {A : Type 0} (o : Option A) → is_some o ≡ false → o ≡ None
nothing_at None e = refl
nothing_at (Some x) e = absurd (true≢false e)

pub nobody_at : {A : Type 0} (o : Option A) → is_none o ≡ true → o ≡ None
nobody_at None e = refl
nobody_at (Some x) e = absurd (false≢true e)

pub next_is : (s : State) → IsKept s.durable → IsNext s
next_is s k = by_entry (fin.get s.durable.chunks s.durable.next_handle) refl
  where
    not_given : (n : ℕ) → is_given n n ≡ true → ⊥
    not_given n g = absurd (grind (arith, nat_tests))

    by_entry : (o : Option Settled) → fin.get s.durable.chunks s.durable.next_handle ≡ o → o ≡ None
    by_entry None is = refl
    by_entry (Some x) is = absurd (not_given s.durable.next_handle (k.handles s.durable.next_handle (ap is_some is)))

-- ---- a target is none of those that are taken

found_in : (f g : ℕ → Bool) (xs : List ℕ) (x : ℕ) → find f (filter g xs) ≡ Some x → g x ≡ true
found_in f g [] x e = absurd (false≢true (ap is_some e))
found_in f g (y ∷ xs) x e = by_test (g y) refl (found_in f g xs x) e
  where
    same : {a b : ℕ} → ◌≡◌ {A = Option ℕ} (Some a) (Some b) → a ≡ b
    same h = cc

    by_found : (b : Bool) → g y ≡ true → (find f (filter g xs) ≡ Some x → g x ≡ true) → cond b (Some y) (find f (filter g xs)) ≡ Some x → g x ≡ true
    by_found true here rest h = subst (λ z. g z ≡ true) (same h) here
    by_found false here rest h = rest h

    by_test : (b : Bool) → g y ≡ b → (find f (filter g xs) ≡ Some x → g x ≡ true) → find f (cond b (y ∷ filter g xs) (filter g xs)) ≡ Some x → g x ≡ true
    by_test true is rest h = by_found (f y) is rest h
    by_test false is rest h = rest h

first_out : (servers racks : ℕ) (replicas taken : List ℕ) (target : ℕ) → first_candidate servers racks replicas taken ≡ Some target → is_member taken target ≡ false
first_out servers racks replicas taken target e =
    not_so (is_member taken target)
    (and_parts (nat_lt target servers) (not (is_member taken target))
    (found_in (λ server. list_all (λ other. not (comes_before racks replicas taken other server)) (candidates servers taken)) (is_candidate servers taken) (count_from 0 servers) target e)).1
  where
    not_so : (b : Bool) → not b ≡ true → b ≡ false
    not_so true h = absurd (false≢true h)
    not_so false h = refl

-- the first of the servers that pass a test passes it
head_passes : (f : ℕ → Bool) (xs : List ℕ) (x : ℕ) (rest : List ℕ) → filter f xs ≡ x ∷ rest → f x ≡ true
head_passes f [] x rest e = absurd (false≢true (ap has_head e))
  where
    has_head : List ℕ → Bool
    has_head [] = false
    has_head (y ∷ ys) = true
head_passes f (y ∷ xs) x rest e = by_test (f y) refl (head_passes f xs x rest) e
  where
    head_is : {a b : ℕ} {us vs : List ℕ} → ◌≡◌ {A = List ℕ} (a ∷ us) (b ∷ vs) → a ≡ b
    head_is h = cc

    by_test : (b : Bool) → f y ≡ b → (filter f xs ≡ x ∷ rest → f x ≡ true) → cond b (y ∷ filter f xs) (filter f xs) ≡ x ∷ rest → f x ≡ true
    by_test true is later h = subst (λ z. f z ≡ true) (head_is h) is
    by_test false is later h = later h

one_target : (target x : ℕ) (rest : List ℕ) → with_member [] target ≡ x ∷ rest → x ≡ target
unfolding servers_where
one_target target x rest e = only (head_passes (λ s. (s == target) || is_member [] s) (count_from 0 16) x rest e)
  where
    only : ((x == target) || false) ≡ true → x ≡ target
    only h = grind (arith, nat_tests)

target_out : (config : Config) (views : List View) (present : List ℕ) (target : ℕ) (rest : List ℕ) → targets_for config views present 1 ≡ Some (target ∷ rest) → is_member present target ≡ false
target_out config views present target rest e = by_first (first_candidate config.servers config.racks (replica_counts config.servers views) present) refl e
  where
    list_is : {a b : List ℕ} → ◌≡◌ {A = Option (List ℕ)} (Some a) (Some b) → a ≡ b
    list_is h = cc

    by_first : (o : Option ℕ) → first_candidate config.servers config.racks (replica_counts config.servers views) present ≡ o
        → option_and_then (λ t. picked_from config.servers config.racks (replica_counts config.servers views) (with_member present t) (with_member [] t) 0) o ≡ Some (target ∷ rest) → is_member present target ≡ false
    by_first None is h = absurd (false≢true (ap is_some h))
    by_first (Some t) is h = ap (is_member present) (one_target t target rest (list_is h)) ∙ first_out config.servers config.racks (replica_counts config.servers views) present t is

-- what a scan forgets is listed, so it isn't new
forgotten_listed : (refs : fin.FinMap nat_cmp ℕ) (f : ℕ × ℕ → Bool) (es : List (ℕ × ℕ)) (c : ℕ) → AllByRecursion (λ e. fin.get refs e.0 ≡ Some e.1) es → is_member (map (λ e. e.0) (filter f es)) c ≡ true → is_some (fin.get refs c) ≡ true
forgotten_listed refs f [] c all here = absurd (false≢true here)
forgotten_listed refs f (e ∷ es) c all here = by_test (f e) here (forgotten_listed refs f es c all.1)
  where
    same : (a b : ℕ) → (a == b) ≡ true → a ≡ b
    same a b h = grind (arith, nat_tests)

    by_head : (b : Bool) → (e.0 == c) ≡ b → (b || is_member (map (λ x. x.0) (filter f es)) c) ≡ true → (is_member (map (λ x. x.0) (filter f es)) c ≡ true → is_some (fin.get refs c) ≡ true) → is_some (fin.get refs c) ≡ true
    by_head true is k rest = ap (λ x. is_some (fin.get refs x)) (sym (same e.0 c is)) ∙ ap is_some all.0
    by_head false is k rest = rest k

    by_test : (b : Bool) → is_member (map (λ x. x.0) (cond b (e ∷ filter f es) (filter f es))) c ≡ true → (is_member (map (λ x. x.0) (filter f es)) c ≡ true → is_some (fin.get refs c) ≡ true) → is_some (fin.get refs c) ≡ true
    by_test true k rest = by_head (e.0 == c) refl k rest
    by_test false k rest = rest k

not_forgotten : (s : State) → Stands s.durable s.volatile → (f : ℕ × ℕ → Bool) (c : ℕ) → is_member s.volatile.unplaced c ≡ true → is_member (map (λ e. e.0) (filter f (fin.entries s.durable.names.refs))) c ≡ false
not_forgotten s k f c new = by_test (is_member (map (λ e. e.0) (filter f (fin.entries s.durable.names.refs))) c) refl
  where
    by_test : (b : Bool) → is_member (map (λ e. e.0) (filter f (fin.entries s.durable.names.refs))) c ≡ b → b ≡ false
    by_test true here =
        absurd (true≢false (sym (forgotten_listed s.durable.names.refs f (fin.entries s.durable.names.refs) c
        (each_entry nat_cmp nat_cmp_total fin.nat_cmp-IsAntisymmetric (λ q n. fin.get s.durable.names.refs q ≡ Some n) (fin.entries s.durable.names.refs) (fin.entries_sorted s.durable.names.refs) (λ q n found. fin.get-entries s.durable.names.refs q ∙ found)) here) ∙ (k.unplaced c new).1))
    by_test false here = refl

-- ---- where none is left that isn't quiet, all are

pub put_found : (xs : List ℕ) (k : ℕ) → is_member xs k ≡ true → is_some (fin.find nat_cmp k (put_handles xs)) ≡ true
put_found [] k here = absurd (false≢true here)
put_found (x ∷ xs) k here = ap is_some (find-put nat_cmp nat_cmp_total k x true (put_handles xs)) ∙ by_key (eq_by_cmp nat_cmp k x) refl here (put_found xs k)
  where
    same : (a b : ℕ) → (a == b) ≡ true → a ≡ b
    same a b h = grind (arith, nat_tests)

    by_head : (b : Bool) → (x == k) ≡ b → eq_by_cmp nat_cmp k x ≡ false → (b || is_member xs k) ≡ true → (is_member xs k ≡ true → is_some (fin.find nat_cmp k (put_handles xs)) ≡ true) → is_some (fin.find nat_cmp k (put_handles xs)) ≡ true
    by_head true is other h rest = absurd (true≢false (sym (ap is_eq (tied_itself nat_cmp_total k)) ∙ ap (eq_by_cmp nat_cmp k) (sym (same x k is)) ∙ other))
    by_head false is other h rest = rest h

    by_key : (b : Bool) → eq_by_cmp nat_cmp k x ≡ b → ((x == k) || is_member xs k) ≡ true → (is_member xs k ≡ true → is_some (fin.find nat_cmp k (put_handles xs)) ≡ true) → is_some (cond b (Some true) (fin.find nat_cmp k (put_handles xs))) ≡ true
    by_key true is h rest = refl
    by_key false other h rest = by_head (x == k) refl other h rest

all_of : (f : ℕ → Bool) (all xs : List ℕ) → ((k : ℕ) → is_member all k ≡ true → f k ≡ true) → ((k : ℕ) → is_member xs k ≡ true → is_member all k ≡ true) → list_all f xs ≡ true
all_of f all [] each within = refl
all_of f all (x ∷ xs) each within =
    ap (λ b. b && list_all f xs) (each x (within x (ap (λ b. b || is_member xs x) (eqb_itself x)))) ∙ all_of f all xs each (λ k here. within k (second (x == k) (is_member xs k) here))
  where
    second : (a b : Bool) → b ≡ true → (a || b) ≡ true
    second true b e = refl
    second false b e = e

all_still : (f : ℕ → Bool) (xs : List ℕ) → filter (λ c. not (f c)) (ascending xs) ≡ [] → list_all f xs ≡ true
all_still f xs none = all_of f xs xs (λ k here. not_false (f k) (none_passes (λ c. not (f c)) (put_handles xs) k none (put_found xs k here))) (λ k here. here)
  where
    not_false : (b : Bool) → not b ≡ false → b ≡ true
    not_false true h = refl
    not_false false h = absurd (true≢false h)

module _ (config : Config) (heard : Heard) where
  -- ---- calls of the tree

  edit_chain : (s : State) (req : ReqId) (edit : PlainEdit) (answer : Answer) → is_of_tree edit ≡ true → is_still_for s edit ≡ true → is_location answer ≡ false → IsFree s req [] (moved_by edit) → IsCalled heard s req → IsFor heard s (Edits req edit answer) → (names : Result NamesView Refusal) → edited_names edit s.durable.names ≡ names → Chained config heard s (edit_if s req edit answer names)
  edit_chain s req edit answer tree still plain free called for (Ok names) e = room_chain config heard s req (called, free.new) (turned s (accept_plan req edit answer)) (Moves s (Edits req edit answer) None (record { called = called; edits = (names, e); tree = tree; still = still; answers = plain; free = free }, for))
  edit_chain s req edit answer tree still plain free called for (Err refusal) e = refused_chain config heard s req (called, free.new) refusal

  edited_chain : (s : State) (req : ReqId) (edit : PlainEdit) (answer : Answer) → is_of_tree edit ≡ true → is_still_for s edit ≡ true → is_location answer ≡ false → IsFree s req [] (moved_by edit) → IsCalled heard s req → IsFor heard s (Edits req edit answer) → Chained config heard s (edited_by s req edit answer)
  edited_chain s req edit answer tree still plain free called for = edit_chain s req edit answer tree still plain free called for (edited_names edit s.durable.names) refl

  deleted_chain : (s : State) (req : ReqId) (path : Path) (recursive : Bool) (moment : Moment) → IsFree s req [] (path ∷ []) → IsCalled heard s req → IsNew heard s req (calls.Delete path recursive) → Chained config heard s (deleted s req path recursive moment)
  deleted_chain s req path recursive moment free called for =
      let hides = edited_by s req (Hide path moment.0 s.durable.next_hidden) (answers.Path (hidden_path path moment.0 s.durable.next_hidden)) in
      let third = if s.durable.next_hidden == 0 then refused s req refusals.Exhausted else hides in
      let second = if not recursive && has_visible_child (fin.entries s.durable.names.tree) path then refused s req refusals.NotEmpty else third in
      test_chain config heard s (same_path path []) (refused s req refusals.IsRoot) _ (λ _. refused_chain config heard s req (called, free.new) refusals.IsRoot)
      (λ _. test_chain config heard s (is_none (fin.get s.durable.names.tree path)) _ second (λ _. answered_chain config heard s req answers.Absent refl)
      (λ _. test_chain config heard s (not recursive && has_visible_child (fin.entries s.durable.names.tree) path) (refused s req refusals.NotEmpty) third (λ _. refused_chain config heard s req (called, free.new) refusals.NotEmpty)
      (λ _. test_chain config heard s (s.durable.next_hidden == 0) (refused s req refusals.Exhausted) hides (λ _. refused_chain config heard s req (called, free.new) refusals.Exhausted)
      (λ _. edited_chain s req (Hide path moment.0 s.durable.next_hidden) (answers.Path (hidden_path path moment.0 s.durable.next_hidden)) refl refl refl free called (calls.Delete path recursive, for, (moment.0, refl))))))

  -- ---- look-ups

  listed_plain : (s : State) (path : Path) (entry : Option (Entry ℕ)) → is_located (listing (fin.entries s.durable.names.tree) path entry) ≡ false
  listed_plain s path None = refl
  listed_plain s path (Some Dir) = refl
  listed_plain s path (Some (File chunks)) = refl

  status_plain : (s : State) (entry : Option (Entry ℕ)) → is_located (status s.durable entry) ≡ false
  status_plain s None = refl
  status_plain s (Some Dir) = refl
  status_plain s (Some (File chunks)) = refl

  -- Where a chunk of a file is looked up, the answer is a turn by itself.
  pub located_turned : (s : State) (req : ReqId) → IsCalled heard s req → is_pending s.volatile.pending req ≡ false → (chunk : Result ℕ Refusal) → is_rolling s.durable.phase ≡ false → ((c : ℕ) → chunk ≡ Ok c → is_listed s.durable c ≡ true)
      → ((c : ℕ) (view : View) → chunk ≡ Ok c → view_in (fin.get s.durable.chunks c) ≡ Some view → IsLookedUpFor heard s req c view) → Turned config heard s (looked_up s req (location s.durable chunk))
  located_turned s req called new (Err refusal) calm listed for = within config heard (refused_chain config heard s req (called, new) refusal)
  located_turned s req called new (Ok chunk) calm listed for = by_view (view_in (fin.get s.durable.chunks chunk)) refl
    where
      by_view : (o : Option View) → view_in (fin.get s.durable.chunks chunk) ≡ o → Turned config heard s (looked_up s req (location_on chunk s.durable.epoch o))
      by_view None is = within config heard (refused_chain config heard s req (called, new) refusals.NoReplica)
      by_view (Some view) is = ByItself s (AnswersCall req (answers.Location chunk view s.durable.epoch) false) None ((record { settled = is; now = refl; listed = listed chunk refl; calm = calm }, tt, called), for chunk view refl is) refl

  -- a chunk that was found in a file is listed
  pub found_listed : (s : State) (path : Path) (index chunk : ℕ) → IsKept s.durable → found_chunk (fin.get s.durable.names.tree path) index ≡ Ok chunk → is_listed s.durable chunk ≡ true
  found_listed s path index chunk k is = (and_parts (is_listed s.durable chunk) (is_some (fin.get s.durable.chunks chunk)) (found_placed s.durable path index chunk k is)).0

  -- ---- calls that begin views

  begins_chain : (s : State) (req : ReqId) → IsRefusable heard s req false → (plan : Plan) (waiting : Waiting) → Chained config heard s (turned s (waits_from_now plan req waiting)) → Chained config heard s (begins s req plan waiting)
  begins_chain s req may plan waiting a =
      test_chain config heard s (not (has_versions s.durable 1)) (refused s req refusals.Exhausted) (if_room s (turned s (waits_from_now plan req waiting)) (refused s req refusals.Full)) (λ _. refused_chain config heard s req may refusals.Exhausted)
      (λ _. room_chain config heard s req may (turned s (waits_from_now plan req waiting)) a)

  begins_new_chain : (s : State) (req : ReqId) → IsRefusable heard s req false → (plan : Plan) (waiting : Waiting) → Chained config heard s (turned s (waits_from_now plan req waiting)) → Chained config heard s (begins_new s req plan waiting)
  begins_new_chain s req may plan waiting a =
      test_chain config heard s (not (has_handle s.durable)) (refused s req refusals.Exhausted) (begins s req plan waiting) (λ _. refused_chain config heard s req may refusals.Exhausted) (λ _. begins_chain s req may plan waiting a)

  leased_turned : (s : State) (req : ReqId) → IsCalled heard s req → (path : Path) (index : ℕ) (stamp : Option Stamp) (moment : Moment) (chunk : ℕ) (c : Chunk) → IsOpenAt s req chunk → is_pending s.volatile.pending req ≡ false → has_entry s chunk ≡ true → is_shared s.durable.names chunk ≡ false → is_rolling s.durable.phase ≡ false → is_listed s.durable chunk ≡ true
      → IsNew heard s req (calls.FindForWriting path index stamp) → StandsAt s.durable.names path index chunk → is_visible path ≡ true → IsFree s req (path ∷ []) [] → view_of c ≡ view_in (fin.get s.durable.chunks chunk)
      → Turned config heard s (leased s req path index stamp moment chunk c)
  leased_turned s req called path index stamp moment chunk c clear new known alone calm listed for here visible free sees =
      let begin = begins s req (begin_at s chunk purposes.Lease (Some req)) (waits.Lease path index chunk) in
      test_turned config heard s (is_leased c && may_use stamp moment (view_of c)) (looked_up s req (location s.durable (Ok chunk))) (if is_wanted c then refused s req refusals.Locked else begin)
      (λ led. located_turned s req called new (Ok chunk) calm (λ b is. ap (is_listed s.durable) (sym (same chunk b is)) ∙ listed)
      (λ b view is has. (calls.FindForWriting path index stamp, for, (here ∙ ap Some (same chunk b is), led_by (view_of c) view (and_parts (is_leased c) (may_use stamp moment (view_of c)) led).1 (sees ∙ ap (λ q. view_in (fin.get s.durable.chunks q)) (same chunk b is) ∙ has)))))
      (λ _. within config heard (test_chain config heard s (is_wanted c) (refused s req refusals.Locked) begin (λ _. refused_chain config heard s req (called, new) refusals.Locked)
      (λ _. begins_chain s req (called, new) (begin_at s chunk purposes.Lease (Some req)) (waits.Lease path index chunk) (Moves s (Begins chunk purposes.Lease (Some req) (FromNow req (waits.Lease path index chunk))) None (record { known = known; alone = alone; elsewhere = tt; called = called; clear = clear; begun = (new, tt) }, (refl, record { stamp = stamp; new = for; here = here; visible = visible }, free))))))
    where
      view_is : {a b : View} → ◌≡◌ {A = Option View} (Some a) (Some b) → a ≡ b
      view_is h = cc

      led_of : (v : View) (term : Option Term) → v.term ≡ term → (is_below moment term && not (is_stamp stamp v.stamp)) ≡ true → IsLed v
      led_of v None is e = absurd (false≢true e)
      led_of v (Some term) is e = (term, is)

      led_by : (o : Option View) (view : View) → may_use stamp moment o ≡ true → o ≡ Some view → IsLed view
      led_by None view e is = absurd (false≢true e)
      led_by (Some v) view e is = subst IsLed (view_is is) (led_of v v.term refl e)

      same : (a b : ℕ) → ◌≡◌ {A = Result ℕ Refusal} (Ok a) (Ok b) → a ≡ b
      same a b h = cc

  written_turned : (s : State) (req : ReqId) → IsCalled heard s req → (path : Path) (index : ℕ) (stamp : Option Stamp) (moment : Moment) (chunk : ℕ) (settled : Option Settled) → slice_get (chunks_at s.durable.names path) index ≡ Some chunk → is_visible path ≡ true → IsFree s req (path ∷ []) (if is_shared_in s.durable.names (slice_get (chunks_at s.durable.names path) index) then path ∷ [] else []) → IsKept s.durable → fin.get s.durable.chunks chunk ≡ settled → has_entry s chunk ≡ true → is_rolling s.durable.phase ≡ false → is_listed s.durable chunk ≡ true → IsNew heard s req (calls.FindForWriting path index stamp)
      → Turned config heard s (written_at s req path index stamp moment chunk (Some (record { settled = settled; asking = fin.get s.volatile.moving chunk })))
  written_turned s req called path index stamp moment chunk settled here visible free k has known calm listed for =
      let c : Chunk = record { settled = settled; asking = fin.get s.volatile.moving chunk } in
      test_turned config heard s (is_shared s.durable.names chunk) (copied_on_write s req path index chunk c (view_of c)) (leased s req path index stamp moment chunk c) (λ shared. within config heard (by_view (record { here = here; visible = visible; free = shared_free s req path index chunk here shared free }) settled has))
      (λ alone. leased_turned s req called path index stamp moment chunk c (record { path = path; index = index; here = here; clear = inl (alone_free s req path index chunk here alone free) }) free.new known alone calm listed for here visible (alone_free s req path index chunk here alone free) (sees settled has))
    where
      sees : (o : Option Settled) → fin.get s.durable.chunks chunk ≡ o → view_of (record { settled = o; asking = fin.get s.volatile.moving chunk }) ≡ view_in (fin.get s.durable.chunks chunk)
      sees o is = ap view_in (sym is)

      by_view : TakesPlace s req path index chunk → (o : Option Settled) → fin.get s.durable.chunks chunk ≡ o → let c : Chunk = record { settled = o; asking = fin.get s.volatile.moving chunk } in Chained config heard s (copied_on_write s req path index chunk c (view_of c))
      by_view takes None is = refused_chain config heard s req (called, takes.free.new) refusals.NoReplica
      by_view takes (Some x) is =
          let c : Chunk = record { settled = Some x; asking = fin.get s.volatile.moving chunk } in
          let copy = waits.Copy path index chunk s.durable.next_handle in
          let begins_copy = begins_new s req (copy_plan (next_stamp s.durable) chunk x.view s.durable.next_handle req) copy in
          let begins_quiet = begins s req (begin_at s chunk purposes.Quiet (Some req)) (waits.Quiet path index chunk) in
          test_chain config heard s (is_wanted c) (refused s req refusals.Locked) (if is_quiet c then begins_copy else begins_quiet) (λ _. refused_chain config heard s req (called, takes.free.new) refusals.Locked)
          (λ _. test_chain config heard s (is_quiet c) begins_copy begins_quiet
          (λ quiet. let parts = quiet_parts x.is_moving (is_some (fin.get s.volatile.moving chunk)) (is_none x.view.term) quiet in
          begins_new_chain s req (called, takes.free.new) (copy_plan (next_stamp s.durable) chunk x.view s.durable.next_handle req) copy
          (Moves s (Copies chunk x.view req (FromNow req copy)) None (
            (
              record {
                known = known;
                listed = listed;
                fresh = next_is s k;
                given = k.handles chunk (ap is_some is);
                settled = record { has = is ∙ ap (λ b. Some (record { view = x.view; is_moving = b })) parts.1.0; unasked = nothing_at (fin.get s.volatile.moving chunk) parts.0 };
                quiet = nobody_at x.view.term parts.1.1;
              },
              called,
              (refl, refl, takes),
            ),
            record { stamp = stamp; new = for; here = here; visible = visible },
          )))
          (λ _. begins_chain s req (called, takes.free.new) (begin_at s chunk purposes.Quiet (Some req)) (waits.Quiet path index chunk) (Moves s (Begins chunk purposes.Quiet (Some req) (FromNow req (waits.Quiet path index chunk))) None (record { known = known; alone = tt; elsewhere = tt; called = called; clear = tt; begun = (takes.free.new, (refl, takes)) }, (refl, record { stamp = stamp; new = for; here = here; visible = visible })))))

  pub found_turned : (s : State) (req : ReqId) → IsCalled heard s req → (path : Path) (index : ℕ) (stamp : Option Stamp) (moment : Moment) (chunk : Result ℕ Refusal) → is_visible path ≡ true
      → IsFree s req (path ∷ []) (if is_shared_in s.durable.names (slice_get (chunks_at s.durable.names path) index) then path ∷ [] else []) → IsKept s.durable → is_rolling s.durable.phase ≡ false → found_chunk (fin.get s.durable.names.tree path) index ≡ chunk → IsNew heard s req (calls.FindForWriting path index stamp)
      → Turned config heard s (found_for_writing s req path index stamp moment chunk)
  unfolding chunk_at
  found_turned s req called path index stamp moment (Err refusal) visible free k calm is for = within config heard (refused_chain config heard s req (called, free.new) refusal)
  found_turned s req called path index stamp moment (Ok chunk) visible free k calm is for = by_entry (has_entry s chunk) refl
    where
      by_entry : (b : Bool) → has_entry s chunk ≡ b → Turned config heard s (written_at s req path index stamp moment chunk (if b then Some (record { settled = fin.get s.durable.chunks chunk; asking = fin.get s.volatile.moving chunk }) else None))
      by_entry true known = written_turned s req called path index stamp moment chunk (fin.get s.durable.chunks chunk) (found_here (fin.get s.durable.names.tree path) index chunk is) visible free k refl known calm (found_listed s path index chunk k is) for
      by_entry false known = within config heard (refused_chain config heard s req (called, free.new) refusals.NoReplica)

  created_chain : (s : State) (req : ReqId) → IsCalled heard s req → is_pending s.volatile.pending req ≡ false → (path : Path) (targets : Option (List ℕ)) → IsKept s.durable → (index : ℕ) → IsNew heard s req (calls.Extend path index) → HasChunks s.durable.names path index → is_visible path ≡ true → IsFree s req (path ∷ []) (path ∷ []) → Chained config heard s (created_on s req path targets)
  created_chain s req called new path None k index for here visible free = refused_chain config heard s req (called, new) refusals.NoServer
  created_chain s req called new path (Some targets) k index for here visible free =
      begins_new_chain s req (called, new) (create_plan (next_stamp s.durable) s.durable.next_handle targets req) (waits.Extend path s.durable.next_handle) (Moves s (Makes targets req path) None ((next_is s k, called, new), record { index = index; new = for; here = here; visible = visible; free = free }))

  extended_turned : (s : State) (req : ReqId) → IsCalled heard s req → is_pending s.volatile.pending req ≡ false → (path : Path) (chunks : List ℕ) (index : ℕ) → IsKept s.durable → is_rolling s.durable.phase ≡ false → fin.get s.durable.names.tree path ≡ Some (File chunks)
      → IsNew heard s req (calls.Extend path index) → is_visible path ≡ true → IsFree s req (path ∷ []) (if gets_chunk (Some (File chunks)) index then path ∷ [] else []) → Turned config heard s (extended_at config s req path chunks index)
  extended_turned s req called new path chunks index k calm is for visible free =
      let makes = created_on s req path (targets_for config (counted_views s) [] config.replicas) in
      test_turned config heard s (nat_lt index (length chunks)) (looked_up s req (location s.durable (found_chunk (Some (File chunks)) index)))
      (if nat_lt (length chunks) index || nat_le most_chunks index then refused s req refusals.Range else makes)
      (λ _. located_turned s req called new (found_chunk (Some (File chunks)) index) calm (λ c found. found_listed s path index c k (ap (λ o. found_chunk o index) is ∙ found))
      (λ c view found has. (calls.Extend path index, for, ap (λ o. slice_get (chunks_in o) index) is ∙ found_here (Some (File chunks)) index c found)))
      (λ past. within config heard (test_chain config heard s (nat_lt (length chunks) index || nat_le most_chunks index) (refused s req refusals.Range) makes (λ _. refused_chain config heard s req (called, new) refusals.Range)
      (λ none. let last = at_last (length chunks) index past none in
      created_chain s req called new path (targets_for config (counted_views s) [] config.replicas) k index for (record { chunks = chunks; file = is; count = last.0 }) visible
      (record { new = free.new; free = sym (ap (λ b. stands_in_the_way s.volatile.locks req (path ∷ []) (if b then path ∷ [] else [])) last.1) ∙ free.free }))))
    where
      at_last : (many at : ℕ) → nat_lt at many ≡ false → (nat_lt many at || nat_le most_chunks at) ≡ false → (many ≡ at) × ((nat_lt at most_chunks && at == many) ≡ true)
      at_last many at past none = (let two = neither (nat_lt many at) (nat_le most_chunks at) none in (grind (arith, nat_tests), both (nat_lt at most_chunks) (at == many) (less at two.1) (equal many at past two.0)))
        where
          neither : (a b : Bool) → (a || b) ≡ false → (a ≡ false) × (b ≡ false)
          neither true b h = absurd (true≢false h)
          neither false b h = (refl, h)

          both : (a b : Bool) → a ≡ true → b ≡ true → (a && b) ≡ true
          both true b p q = q
          both false b p q = absurd (false≢true p)

          less : (a : ℕ) → nat_le most_chunks a ≡ false → nat_lt a most_chunks ≡ true
          less a h = grind (arith, nat_tests)

          equal : (m a : ℕ) → nat_lt a m ≡ false → nat_lt m a ≡ false → (a == m) ≡ true
          equal m a p q = grind (arith, nat_tests)

  pub extends_turned : (s : State) (req : ReqId) → IsCalled heard s req → is_pending s.volatile.pending req ≡ false → (path : Path) (index : ℕ) (entry : Option (Entry ℕ)) → IsKept s.durable → is_rolling s.durable.phase ≡ false → fin.get s.durable.names.tree path ≡ entry
      → IsNew heard s req (calls.Extend path index) → is_visible path ≡ true → IsFree s req (path ∷ []) (if gets_chunk entry index then path ∷ [] else []) → Turned config heard s (extends config s req path index entry)
  extends_turned s req called new path index None k calm is for visible free = within config heard (refused_chain config heard s req (called, new) refusals.NotFound)
  extends_turned s req called new path index (Some Dir) k calm is for visible free = within config heard (refused_chain config heard s req (called, new) refusals.IsADirectory)
  extends_turned s req called new path index (Some (File chunks)) k calm is for visible free = extended_turned s req called new path chunks index k calm is for visible free

  snapshot_chain : (s : State) (req : ReqId) → IsCalled heard s req → IsFree s req [] [] → (from to : Path) (many : List ℕ) → unquiet s from ≡ many → list_all (has_entry s) many ≡ true → IsNew heard s req (calls.Snapshot from to) → Chained config heard s (begins_snapshot s req from to many)
  snapshot_chain s req called free from to [] is all for = edited_chain s req (Snapshot from to) answers.Nothing refl (all_still (is_quiet_at s) (source_chunks s from) is) refl free called (calls.Snapshot from to, for, refl)
  snapshot_chain s req called free from to (chunk ∷ chunks) is all for =
      let wait = turned s (begin_pending req (waits.Snapshot from to)) in
      let begin : State → Turn = λ next. all_begun next (chunk ∷ chunks) purposes.Quiet (Some req) in
      let both = if_room s (and_then wait begin) (refused s req refusals.Full) in
      test_chain config heard s (list_any (is_wanted_at s) (chunk ∷ chunks)) (refused s req refusals.Locked)
      (if not (has_versions s.durable (length (chunk ∷ chunks))) then refused s req refusals.Exhausted else both) (λ _. refused_chain config heard s req (called, free.new) refusals.Locked)
      (λ _. test_chain config heard s (not (has_versions s.durable (length (chunk ∷ chunks)))) (refused s req refusals.Exhausted) both (λ _. refused_chain config heard s req (called, free.new) refusals.Exhausted)
      (λ _. room_chain config heard s req (called, free.new) (and_then wait begin)
      (then_chain config heard s wait begin (Moves s (Waits req (waits.Snapshot from to)) None ((called, refl, free.new), for)) (all_begun_chain config heard (chunk ∷ chunks) (Some req) wait.after all))))

  pub snapshot_if_chain : (s : State) (req : ReqId) → IsCalled heard s req → IsFree s req [] [] → (from to : Path) (rows : Result (Rows ℕ) Refusal) → IsKept s.durable → IsNew heard s req (calls.Snapshot from to) → Chained config heard s (snapshot_if s req from to rows)
  snapshot_if_chain s req called free from to (Ok rows) k for =
      snapshot_chain s req called free from to (unquiet s from) refl
      (weaker (unquiet s from)
      (passes_all (is_placed s.durable) (λ chunk. not (is_quiet_at s chunk)) (ascending (source_chunks s from))
      (ascending_all (is_placed s.durable) (source_chunks s from) (fewer_rows (is_placed s.durable) _ (fin.entries s.durable.names.tree) (all_placed s.durable k))))) for
    where
      weaker : (xs : List ℕ) → list_all (is_placed s.durable) xs ≡ true → list_all (has_entry s) xs ≡ true
      weaker [] all = refl
      weaker (x ∷ xs) all =
          let parts = and_parts (is_placed s.durable x) (list_all (is_placed s.durable) xs) all in
          let listed = and_parts (is_some (fin.get s.durable.names.refs x)) _ parts.0 in
          ap (λ b. b && list_all (has_entry s) xs) (or_left (is_some (fin.get s.durable.names.refs x)) (is_member s.volatile.unplaced x) listed.0) ∙ weaker xs parts.1
  snapshot_if_chain s req called free from to (Err refusal) k for = refused_chain config heard s req (called, free.new) refusal

  -- ---- making a replica

  replicated_chain : (s : State) (req : ReqId) → IsCalled heard s req → is_pending s.volatile.pending req ≡ false → (chunk : ℕ) (members : List ℕ) (targets : Option (List ℕ)) → targets_for config (counted_views s) (members_in (view_in (fin.get s.durable.chunks chunk))) 1 ≡ targets → has_entry s chunk ≡ true → IsNew heard s req calls.Replicate → Chained config heard s (replicated_to s req chunk targets)
  replicated_chain s req called new chunk members None is known for = refused_chain config heard s req (called, new) refusals.NoServer
  replicated_chain s req called new chunk members (Some []) is known for = refused_chain config heard s req (called, new) refusals.NoServer
  replicated_chain s req called new chunk members (Some (target ∷ targets)) is known for =
      begins_chain s req (called, new) (begin_at s chunk (purposes.Copy target) (Some req)) (waits.Replicate chunk target)
      (Moves s (Begins chunk (purposes.Copy target) (Some req) (FromNow req (waits.Replicate chunk target))) None
      (record { known = known; alone = tt; elsewhere = target_out config (counted_views s) (members_in (view_in (fin.get s.durable.chunks chunk))) target targets is; called = called; clear = tt; begun = (new, tt) }, for))

  replicates_chain : (s : State) (req : ReqId) → IsCalled heard s req → is_pending s.volatile.pending req ≡ false → (chunk : ℕ) → IsNew heard s req calls.Replicate → Chained config heard s (replicates_chunk config s req chunk (chunk_at s chunk))
  unfolding chunk_at
  replicates_chain s req called new chunk for = by_entry (has_entry s chunk) refl
    where
      by_entry : (b : Bool) → has_entry s chunk ≡ b → Chained config heard s (replicates_chunk config s req chunk (if b then Some (record { settled = fin.get s.durable.chunks chunk; asking = fin.get s.volatile.moving chunk }) else None))
      by_entry true known =
          let c : Chunk = record { settled = fin.get s.durable.chunks chunk; asking = fin.get s.volatile.moving chunk } in
          let targets = targets_for config (counted_views s) (members_of c) 1 in
          test_chain config heard s (is_wanted c) (refused s req refusals.Locked) (replicated_to s req chunk targets) (λ _. refused_chain config heard s req (called, new) refusals.Locked) (λ _. replicated_chain s req called new chunk [] targets refl known for)
      by_entry false known = refused_chain config heard s req (called, new) refusals.NoReplica

  pub most_chain : (s : State) (req : ReqId) → IsCalled heard s req → is_pending s.volatile.pending req ≡ false → (chunk : Option ℕ) → IsNew heard s req calls.Replicate → Chained config heard s (replicates_most config s req chunk)
  most_chain s req called new None for = answered_chain config heard s req (answers.Copied None) refl
  most_chain s req called new (Some chunk) for = replicates_chain s req called new chunk for

  -- ---- scanning

  pub scans_turned : (s : State) (req : ReqId) → IsRefusable heard s req false → (moment : Moment) → Stands s.durable s.volatile → IsNew heard s req calls.Scan → let removed = removed_paths moment.0 (fin.entries s.durable.names.tree) in let forgotten = forgotten_chunks moment.0 (fin.entries s.durable.names.tree) (fin.entries s.durable.names.refs) in
      Turned config heard s (scanned s req removed forgotten)
  scans_turned s req may moment k for =
      let removed = removed_paths moment.0 (fin.entries s.durable.names.tree) in
      let forgotten = forgotten_chunks moment.0 (fin.entries s.durable.names.tree) (fin.entries s.durable.names.refs) in
      let scan = turned s (scan_plan removed forgotten) in
      let ended : State → Turn = λ next. all_ended_by next (waiting_for s forgotten) refusals.NoReplica in
      let answer : State → Turn = λ next. answered_with next req (answers.Scanned (length removed) (length forgotten)) in
      let behind = ended scan.after in
      room_turned config heard s req may (and_then (and_then scan ended) answer)
      (subst (Turned config heard s) (sym (joined_together scan behind (answer behind.after)))
      (Closes s (Scans removed forgotten) None (joined behind (answer behind.after)) (record { moment = moment; removes = refl; forgets = refl; placed = λ c here. not_forgotten s k (λ e. e.1 == occurrences e.0 (all_chunks (gone moment.0 (fin.entries s.durable.names.tree)))) c here }, (req, for)) refl
      (Then scan.after behind (answer behind.after) (closing_chain config heard (waiting_for s forgotten) refusals.NoReplica scan.after (some_pending (λ (p : Pending). waits_for_any forgotten p.waits) s.volatile.pending k.apart)) (Moves behind.after (AnswersCall req (answers.Scanned (length removed) (length forgotten)) false) None (((tt, tt, tt), tt), refl)))))

  -- ---- the calls of the tree

  pub edits_chain : (s : State) (req : ReqId) (edit : PlainEdit) (answer : Answer) → is_of_tree edit ≡ true → is_still_for s edit ≡ true → is_location answer ≡ false → IsFree s req [] (moved_by edit) → IsCalled heard s req → IsFor heard s (Edits req edit answer) → Chained config heard s (edited_by s req edit answer)
  edits_chain s req edit answer tree still plain free called for = edited_chain s req edit answer tree still plain free called for

  -- a rename's record holds its target as it was resolved
  pub renames_chain : (s : State) (req : ReqId) (from to : Path) → IsFree s req [] (from ∷ []) → IsCalled heard s req → IsNew heard s req (calls.Rename from to) → Chained config heard s (renames s req from to)
  renames_chain s req from to free called for = by_names (edited_names (Rename from to) s.durable.names) refl
    where
      by_names : (names : Result NamesView Refusal) → edited_names (Rename from to) s.durable.names ≡ names → Chained config heard s (edit_if s req (Rename from (target_of (fin.get s.durable.names.tree) from to)) answers.Nothing names)
      by_names (Err refusal) is = refused_chain config heard s req (called, free.new) refusal
      by_names (Ok after) is = edit_chain s req (Rename from (target_of (fin.get s.durable.names.tree) from to)) answers.Nothing refl refl refl free called (calls.Rename from to, for, refl) (Ok after) (resolved_does s.durable.names after from to is)

  pub deletes_chain : (s : State) (req : ReqId) (path : Path) (recursive : Bool) (moment : Moment) → IsFree s req [] (path ∷ []) → IsCalled heard s req → IsNew heard s req (calls.Delete path recursive) → Chained config heard s (deleted s req path recursive moment)
  deletes_chain s req path recursive moment free called for = deleted_chain s req path recursive moment free called for

  pub lists_chain : (s : State) (req : ReqId) → IsRefusable heard s req false → (path : Path) → Chained config heard s (looked_up s req (listing (fin.entries s.durable.names.tree) path (fin.get s.durable.names.tree path)))
  lists_chain s req may path = looked_chain config heard s req may _ (listed_plain s path (fin.get s.durable.names.tree path))

  pub status_chain : (s : State) (req : ReqId) → IsRefusable heard s req false → (path : Path) → Chained config heard s (looked_up s req (status s.durable (fin.get s.durable.names.tree path)))
  status_chain s req may path = looked_chain config heard s req may _ (status_plain s (fin.get s.durable.names.tree path))
