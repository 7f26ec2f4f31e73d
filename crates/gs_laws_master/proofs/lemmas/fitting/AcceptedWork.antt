-- The records of each call that begins a view and is accepted fit what they meet, and keep what stands.
use Rattle.std.proofs.Common.{◌≡◌, ◌∙◌, ◌&&◌, ◌||◌, ℕ, Bool, true, false, not, cond, List, [], ◌∷◌, ◌++◌, length, filter, refl, ap, subst, sym}
use Rattle.std.specs.Prelude.{find, fold, nat_le, nat_lt, is_some, Option, Some, None, Result, Ok, Err, if◌then◌else◌}
use Rattle.std.specs.declared.cmp.Ordering.{Ordering}
use Rattle.std.specs.declared.cmp.Ordering.TheVariants.{Less, Equal, Greater}
use Rattle.std.specs.Cmp.{nat_cmp_total}
use Rattle.std.specs.FinMap as fin
use Rattle.std.specs.List.{list_all, list_any}
use Rattle.std.specs.Option.{option_map}
use Rattle.std.specs.Ordering.{nat_cmp}
use Rattle.std.proofs.lemmas.Bool.{false≢true, true≢false, and_parts}
use Rattle.std.proofs.lemmas.List.Folds.{list_all-map}
use Rattle.gs_base.specs.declared.config.Config.{Config}
use Rattle.gs_base.specs.declared.numbers.Moment.{Moment}
use Rattle.gs_base.specs.declared.numbers.ReqId.{ReqId}
use Rattle.gs_base.specs.declared.numbers.Stamp.{Stamp}
use Rattle.gs_base.specs.declared.refusal.Refusal.{Refusal}
use Rattle.gs_base.specs.declared.refusal.Refusal.TheVariants as refusals
use Rattle.gs_path.specs.Path.{Path, text_cmp}
use Rattle.gs_tree.specs.Entry.{Entry, Dir, File}
use Rattle.gs_tree.specs.Find.{Rows}
use Rattle.gs_lease.specs.declared.view.Purpose.TheVariants as purposes
use Rattle.gs_lease.specs.declared.view.View.{View}
use Rattle.gs_msg.specs.declared.answer.Answer.TheVariants as answers
use Rattle.gs_place.specs.Needs.{is_needy, most_needed_of, needs_more}
use Rattle.gs_place.specs.declared.need.Need.{Need}
use Rattle.gs_master_record.specs.Plain.{Said, Snapshot}
use Rattle.gs_master_record.specs.Writable.{IsEdit}
use Rattle.gs_master_spec.specs.Applied.{applied, names_well, with_reply}
use Rattle.gs_master_spec.specs.Beginning.{all_begun, begin_at, copy_plan, counted_views, create_plan, has_versions, next_stamp, targets_for}
use Rattle.gs_master_spec.specs.Calls.{found_chunk, is_shared, location, looked_up, most_chunks}
use Rattle.gs_master_spec.specs.Chunks.{Chunk, chunk_at, has_entry, is_leased, is_quiet, is_wanted, members_of, view_of}
use Rattle.gs_master_spec.specs.Durable.{Durable, is_ordinary, is_rolling}
use Rattle.gs_master_spec.specs.Replies.{client_cmp}
use Rattle.gs_master_state.specs.Sane.{IsSane, is_waited_by, makes}
use Rattle.gs_master_spec.specs.Settling.{is_quiet_at, requests_of, source_chunks}
use Rattle.gs_master_spec.specs.State.{State, Plan, Turn, turned, and_then, fits, if_room, with_record, refused, ended_by, all_ended_by, keeps_refusal, first_of}
use Rattle.gs_master_spec.specs.Upgrades.{accepted_plan, all_unquiet, begin_tests, if_pending, lower_path, lowest_path, pending_paths, prepare_begin}
use Rattle.gs_master_spec.specs.Volatile.{is_call, paths_of}
use Rattle.gs_master_spec.specs.Working.{ascending, begin_pending, begins, begins_new, begins_snapshot, copied_on_write, created_on, extended_at, extends, found_for_writing, is_wanted_at, leased, may_use, need_of, needs_of, replicated_to, replicates_chunk, replicates_most, snapshot_if, unquiet, written_at}
use Rattle.gs_master_spec.specs.declared.change.Change.TheVariants as changes
use Rattle.gs_master_spec.specs.declared.asking.Asking.{Asking}
use Rattle.gs_master_spec.specs.declared.pending.Pending.{Pending}
use Rattle.gs_master_spec.specs.declared.pending.Waiting.{Waiting}
use Rattle.gs_master_spec.specs.declared.pending.Waiting.TheVariants as waits
use Rattle.gs_master_spec.specs.declared.reply.KeptReply.{KeptReply}
use Rattle.gs_laws_master.specs.Promises.{IsKept}
use Rattle.gs_laws_master.proofs.lemmas.fitting.Accepted.{Goes, all_ended_goes, answered_goes, edited_goes, looked_goes, may_so, none_goes, refused_goes, room_goes, test_goes, then_goes}
use Rattle.gs_laws_master.proofs.lemmas.fitting.AcceptedUpgrades.{first_test, unless_goes}
use Rattle.gs_laws_master.proofs.lemmas.fitting.AcceptedViews.{all_begun_goes, all_settled, ascending_all, begins_goes, begins_new_goes, fewer_rows, filter_holds, found_settled, is_settled, or_left, passes_all}
use Rattle.gs_laws_master.proofs.lemmas.versions.Fresh.{not_false}
use Rattle.gs_laws_master.proofs.lemmas.spelling.Retold.{each_found}

-- ---- finding a chunk for writing, and extending a file

module _ (T : Type 0) (s : State) (req : ReqId) (rolling : is_rolling s.durable.phase ≡ false) where
  leased_goes : (path : Path) (index : ℕ) (stamp : Option Stamp) (moment : Moment) (chunk : ℕ) (c : Chunk) → is_settled s.durable chunk ≡ true → Goes T s (leased s req path index stamp moment chunk c)
  leased_goes path index stamp moment chunk c known =
      let begin = begins s req (begin_at s chunk purposes.Lease (Some req)) (waits.Lease path index chunk) in
      test_goes T s (is_leased c && may_use stamp moment (view_of c)) (looked_up s req (location s.durable (Ok chunk))) (if is_wanted c then refused s req refusals.Locked else begin)
      (λ _. looked_goes T s req (location s.durable (Ok chunk)))
      (λ _. test_goes T s (is_wanted c) (refused s req refusals.Locked) begin (λ _. refused_goes T s req refusals.Locked)
      (λ _. begins_goes T s req chunk (begin_at s chunk purposes.Lease (Some req)) (waits.Lease path index chunk) rolling (or_left (is_settled s.durable chunk) _ known)))

  copied_goes : (path : Path) (index chunk : ℕ) (c : Chunk) (view : Option View) → is_settled s.durable chunk ≡ true → Goes T s (copied_on_write s req path index chunk c view)
  copied_goes path index chunk c None known = refused_goes T s req refusals.NoReplica
  copied_goes path index chunk c (Some view) known =
      let copy = copy_plan (next_stamp s.durable) chunk view s.durable.next_handle req in
      let begins_copy = begins_new s req copy (waits.Copy path index chunk s.durable.next_handle) in
      let begins_quiet = begins s req (begin_at s chunk purposes.Quiet (Some req)) (waits.Quiet path index chunk) in
      test_goes T s (is_wanted c) (refused s req refusals.Locked) (if is_quiet c then begins_copy else begins_quiet) (λ _. refused_goes T s req refusals.Locked)
      (λ _. test_goes T s (is_quiet c) begins_copy begins_quiet (λ _. begins_new_goes T s req copy (waits.Copy path index chunk s.durable.next_handle) rolling)
      (λ _. begins_goes T s req chunk (begin_at s chunk purposes.Quiet (Some req)) (waits.Quiet path index chunk) rolling (or_left (is_settled s.durable chunk) _ known)))

  written_goes : (path : Path) (index : ℕ) (stamp : Option Stamp) (moment : Moment) (chunk : ℕ) (c : Option Chunk) → is_settled s.durable chunk ≡ true → Goes T s (written_at s req path index stamp moment chunk c)
  written_goes path index stamp moment chunk None known = refused_goes T s req refusals.NoReplica
  written_goes path index stamp moment chunk (Some c) known =
      test_goes T s (is_shared s.durable.names chunk) (copied_on_write s req path index chunk c (view_of c)) (leased s req path index stamp moment chunk c)
      (λ _. copied_goes path index chunk c (view_of c) known) (λ _. leased_goes path index stamp moment chunk c known)

  pub found_goes : (path : Path) (index : ℕ) (stamp : Option Stamp) (moment : Moment) → IsKept s.durable → (chunk : Result ℕ Refusal) → found_chunk (fin.get s.durable.names.tree path) index ≡ chunk
      → Goes T s (found_for_writing s req path index stamp moment chunk)
  found_goes path index stamp moment k (Ok chunk) is = written_goes path index stamp moment chunk (chunk_at s chunk) (found_settled s.durable path index chunk k is)
  found_goes path index stamp moment k (Err refusal) is = refused_goes T s req refusal

  created_goes : (path : Path) (targets : Option (List ℕ)) → Goes T s (created_on s req path targets)
  created_goes path None = refused_goes T s req refusals.NoServer
  created_goes path (Some targets) = begins_new_goes T s req (create_plan (next_stamp s.durable) s.durable.next_handle targets req) (waits.Extend path s.durable.next_handle) rolling

  extended_goes : (config : Config) (path : Path) (chunks : List ℕ) (index : ℕ) → Goes T s (extended_at config s req path chunks index)
  extended_goes config path chunks index =
      let targets = targets_for config (counted_views s) [] config.replicas in
      let found = location s.durable (found_chunk (Some (File chunks)) index) in
      test_goes T s (nat_lt index (length chunks)) (looked_up s req found) (if nat_lt (length chunks) index || nat_le most_chunks index then refused s req refusals.Range else created_on s req path targets)
      (λ _. looked_goes T s req found)
      (λ _. test_goes T s (nat_lt (length chunks) index || nat_le most_chunks index) (refused s req refusals.Range) (created_on s req path targets) (λ _. refused_goes T s req refusals.Range) (λ _. created_goes path targets))

  pub extends_goes : (config : Config) (path : Path) (index : ℕ) (entry : Option (Entry ℕ)) → Goes T s (extends config s req path index entry)
  extends_goes config path index None = refused_goes T s req refusals.NotFound
  extends_goes config path index (Some Dir) = refused_goes T s req refusals.IsADirectory
  extends_goes config path index (Some (File chunks)) = extended_goes config path chunks index

  -- ---- copying a tree

  snapshot_goes : (from to : Path) (many : List ℕ) → list_all (is_settled s.durable) many ≡ true → names_well (Snapshot from to) ≡ true → (T → IsEdit (Snapshot from to)) → Goes T s (begins_snapshot s req from to many)
  snapshot_goes from to [] known well told = edited_goes T s req (Snapshot from to) answers.Nothing (λ names e. may_so s.durable (Snapshot from to) rolling well refl refl) told
  snapshot_goes from to (chunk ∷ chunks) known well told =
      let pending = begin_pending req (waits.Snapshot from to) in
      let all : State → Turn = λ next. all_begun next (chunk ∷ chunks) purposes.Quiet (Some req) in
      let begin = and_then (turned s pending) all in
      test_goes T s (list_any (is_wanted_at s) (chunk ∷ chunks)) (refused s req refusals.Locked)
      (if not (has_versions s.durable (length (chunk ∷ chunks))) then refused s req refusals.Exhausted else if_room s begin (refused s req refusals.Full)) (λ _. refused_goes T s req refusals.Locked)
      (λ _. test_goes T s (not (has_versions s.durable (length (chunk ∷ chunks)))) (refused s req refusals.Exhausted) (if_room s begin (refused s req refusals.Full)) (λ _. refused_goes T s req refusals.Exhausted)
      (λ left. room_goes T s req begin (then_goes T s (turned s pending) all (none_goes T s pending)
      (all_begun_goes T (chunk ∷ chunks) purposes.Quiet (Some req) (turned s pending).after rolling (not_false (has_versions s.durable (length (chunk ∷ chunks))) left) known))))

  pub snapshot_if_goes : (from to : Path) (rows : Result (Rows ℕ) Refusal) → IsKept s.durable → names_well (Snapshot from to) ≡ true → (T → IsEdit (Snapshot from to)) → Goes T s (snapshot_if s req from to rows)
  snapshot_if_goes from to (Ok rows) k well told =
      snapshot_goes from to (unquiet s from)
      (passes_all (is_settled s.durable) (λ chunk. not (is_quiet_at s chunk)) (ascending (source_chunks s from))
      (ascending_all (is_settled s.durable) (source_chunks s from) (fewer_rows (is_settled s.durable) _ (fin.entries s.durable.names.tree) (all_settled s.durable k)))) well told
  snapshot_if_goes from to (Err refusal) k well told = refused_goes T s req refusal

  -- ---- making a replica

  replicated_goes : (chunk : ℕ) (targets : Option (List ℕ)) → is_settled s.durable chunk ≡ true → Goes T s (replicated_to s req chunk targets)
  replicated_goes chunk None known = refused_goes T s req refusals.NoServer
  replicated_goes chunk (Some []) known = refused_goes T s req refusals.NoServer
  replicated_goes chunk (Some (target ∷ targets)) known =
      begins_goes T s req chunk (begin_at s chunk (purposes.Copy target) (Some req)) (waits.Replicate chunk target) rolling (or_left (is_settled s.durable chunk) _ known)

  replicates_goes : (config : Config) (chunk : ℕ) (c : Option Chunk) → is_settled s.durable chunk ≡ true → Goes T s (replicates_chunk config s req chunk c)
  replicates_goes config chunk None known = refused_goes T s req refusals.NoReplica
  replicates_goes config chunk (Some c) known =
      let targets = targets_for config (counted_views s) (members_of c) 1 in
      test_goes T s (is_wanted c) (refused s req refusals.Locked) (replicated_to s req chunk targets) (λ _. refused_goes T s req refusals.Locked) (λ _. replicated_goes chunk targets known)

  pub found_all : (f test : Need → Bool) (needs : List Need) (chunk : ℕ) → list_all f needs ≡ true → option_map (λ (n : Need). n.handle) (find test needs) ≡ Some chunk → (need : Need) × (f need ≡ true) × (need.handle ≡ chunk)
  found_all f test [] chunk all e = absurd (false≢true (ap is_some e))
  found_all f test (need ∷ needs) chunk all e = let parts = and_parts (f need) (list_all f needs) all in by_test (test need) parts.0 (found_all f test needs chunk parts.1) e
    where
      same : {a b : ℕ} → ◌≡◌ {A = Option ℕ} (Some a) (Some b) → a ≡ b
      same h = cc

      by_test : (b : Bool) → f need ≡ true → (option_map (λ (n : Need). n.handle) (find test needs) ≡ Some chunk → (other : Need) × (f other ≡ true) × (other.handle ≡ chunk)) → option_map (λ (n : Need). n.handle) (cond b (Some need) (find test needs)) ≡ Some chunk
          → (other : Need) × (f other ≡ true) × (other.handle ≡ chunk)
      by_test true here rest h = (need, here, same h)
      by_test false here rest h = rest h

  all_needs : list_all (λ (n : Need). is_settled s.durable n.handle) (needs_of s) ≡ true
  all_needs =
      list_all-map (λ (n : Need). is_settled s.durable n.handle) (need_of s.durable) (filter (λ e. has_entry s e.0) (fin.entries s.durable.chunks))
      ∙ passes_all (λ e. is_settled s.durable e.0) (λ e. has_entry s e.0) (fin.entries s.durable.chunks)
      (each_found nat_cmp nat_cmp_total fin.nat_cmp-IsAntisymmetric (λ e. is_settled s.durable e.0) (fin.entries s.durable.chunks) (fin.entries_sorted s.durable.chunks)
      (λ chunk settled found. ap is_some (fin.get-entries s.durable.chunks chunk ∙ found)))

  pub most_goes : (config : Config) (chunk : Option ℕ) → most_needed_of config.replicas (needs_of s) ≡ chunk → Goes T s (replicates_most config s req chunk)
  most_goes config None is = answered_goes T s req (answers.Copied None)
  most_goes config (Some chunk) is =
      let needy = filter (is_needy config.replicas) (needs_of s) in
      let found = found_all (λ (n : Need). is_settled s.durable n.handle) (λ need. list_all (λ other. not (needs_more config.replicas other need)) needy) needy chunk
      (passes_all (λ (n : Need). is_settled s.durable n.handle) (is_needy config.replicas) (needs_of s) all_needs) is in
      replicates_goes config chunk (chunk_at s chunk) (subst (λ c. is_settled s.durable c ≡ true) found.2 found.1)

-- ---- beginning to prepare: calls that end leave all but replies

module _ {X : Type 0} (f : Durable → X) (same : (d : Durable) (replies : fin.FinMap client_cmp KeptReply) → f (record d { replies = replies }) ≡ f d) where
  said_same : (b : Bool) (s : State) (req : ReqId) (refusal : Refusal) → f (fold with_record s (if b then Said req refusal ∷ [] else [])).durable ≡ f s.durable
  unfolding applied
  said_same true s req refusal = same s.durable (with_reply s.durable.replies req (Err refusal))
  said_same false s req refusal = refl

  pub all_ended_same : (reqs : List ReqId) (refusal : Refusal) (s : State) → f (all_ended_by s reqs refusal).after.durable ≡ f s.durable
  all_ended_same [] refusal s = refl
  all_ended_same (req ∷ reqs) refusal s =
      all_ended_same reqs refusal (ended_by s req refusal).after ∙ said_same (keeps_refusal s req refusal && fits s.log (Said req refusal ∷ [])) s req refusal

-- ---- no call that makes a chunk waits without a path

lower_some : (path : Path) (o : Option Path) → is_some (lower_path path o) ≡ true
lower_some path None = refl
lower_some path (Some other) = by_place (text_cmp path other) refl
  where
    by_place : (o : Ordering) → text_cmp path other ≡ o → is_some (lower_path path (Some other)) ≡ true
    by_place Less is = rw is refl
    by_place Equal is = rw is refl
    by_place Greater is = rw is refl

no_path : {P : Type 0} (path : Path) (paths : List Path) → lowest_path (path ∷ paths) ≡ None → P
no_path path paths e = absurd (false≢true (sym (ap is_some e) ∙ lower_some path (lowest_path paths)))

and_none : (a : Bool) → (a && false) ≡ false
and_none true = refl
and_none false = refl

pub no_makers : (chunk : ℕ) (call : Option ReqId) (pending : List Pending) → lowest_path (pending_paths pending) ≡ None → is_waited_by call (makes chunk) pending ≡ false
no_makers chunk call [] e = refl
no_makers chunk call (p ∷ pending) e = by_waits p.waits e (no_makers chunk call pending)
  where
    by_waits : (w : Waiting) → lowest_path (paths_of w ++ pending_paths pending) ≡ None → (lowest_path (pending_paths pending) ≡ None → is_waited_by call (makes chunk) pending ≡ false)
        → ((is_call p.req call && makes chunk w) || is_waited_by call (makes chunk) pending) ≡ false
    by_waits (waits.Extend path new) h rest = no_path path (pending_paths pending) h
    by_waits (waits.Lease path index leased) h rest = no_path path (pending_paths pending) h
    by_waits (waits.Quiet path index quiet) h rest = no_path path (pending_paths pending) h
    by_waits (waits.Copy path index old new) h rest = no_path path (pending_paths pending) h
    by_waits (waits.Snapshot from to) h rest = no_path from (to ∷ pending_paths pending) h
    by_waits (waits.Replicate copied target) h rest = ap (λ b. b || is_waited_by call (makes chunk) pending) (and_none (is_call p.req call)) ∙ rest h

abbrev pub AreMade : State → Type 0
AreMade s = (chunk : ℕ) (asking : Asking) → fin.get s.volatile.moving chunk ≡ Some asking → fin.get s.durable.chunks chunk ≡ None → is_waited_by asking.call (makes chunk) s.volatile.pending ≡ true

pub unquiet_settled : (s : State) (chunk : ℕ) → AreMade s → lowest_path (pending_paths s.volatile.pending) ≡ None → (has_entry s chunk && not (is_quiet_at s chunk)) ≡ true → is_settled s.durable chunk ≡ true
unfolding chunk_at
unquiet_settled s chunk made none h =
    let parts = and_parts (has_entry s chunk) (not (is_quiet_at s chunk)) h in by_settled (fin.get s.durable.chunks chunk) refl (fin.get s.volatile.moving chunk) refl parts.0 parts.1
  where
    by_settled : (settled : _) → fin.get s.durable.chunks chunk ≡ settled → (asking : Option Asking) → fin.get s.volatile.moving chunk ≡ asking → has_entry s chunk ≡ true → not (is_quiet_at s chunk) ≡ true → is_settled s.durable chunk ≡ true
    by_settled (Some settled) is asking moving entry loud = ap is_some is
    by_settled None is None moving entry loud = absurd (false≢true (rw (entry, is, moving) at loud))
    by_settled None is (Some asking) moving entry loud = absurd (false≢true (sym (no_makers chunk asking.call s.volatile.pending none) ∙ made chunk asking moving is))

pub pending_none : (o : Option Path) (exhausted : Bool) → first_of (if_pending o ++ (exhausted, refusals.Exhausted) ∷ []) ≡ None → (o ≡ None) × (exhausted ≡ false)
pending_none None exhausted e = (refl, (first_test exhausted refusals.Exhausted [] e).0)
pending_none (Some path) exhausted e = absurd (true≢false (ap is_some e))

pub prepare_goes : (T : Type 0) (s : State) (req : ReqId) → is_rolling s.durable.phase ≡ false → IsSane s → Goes T s (prepare_begin s req)
prepare_goes T s req rolling sane =
    let ended = all_ended_by s (requests_of s.volatile.pending) refusals.Preparing in
    let begin : State → Turn = λ next. all_begun next (all_unquiet s) purposes.Quiet None in
    let last : State → Plan = λ next. accepted_plan next req [] (changes.Prepare true ∷ []) [] s.durable.epoch in
    let accept : State → Turn = λ next. turned next (last next) in
    let exhausted = not (has_versions s.durable (length (all_unquiet s))) in
    unless_goes T s req (and_then (and_then ended begin) accept) (first_of (begin_tests s.durable.phase s.volatile.is_preparing s.volatile.pending exhausted))
    (λ passed.
    let more = if_pending (lowest_path (pending_paths s.volatile.pending)) ++ (exhausted, refusals.Exhausted) ∷ [] in
    let one = first_test (s.volatile.is_preparing || not (is_ordinary s.durable.phase)) refusals.AlreadyUpgrading more passed in
    let rest = pending_none (lowest_path (pending_paths s.volatile.pending)) exhausted one.1 in
    let left = not_false (has_versions s.durable (length (all_unquiet s))) rest.1 in
    let known = filter_holds (is_settled s.durable) (λ chunk. has_entry s chunk && not (is_quiet_at s chunk)) (ascending (fin.keys s.durable.chunks ++ fin.keys s.volatile.moving)) (λ chunk h. unquiet_settled s chunk (λ c a has. (sane.asked c a has).made) rest.0 h) in
    let reqs = requests_of s.volatile.pending in
    then_goes T s (and_then ended begin) accept
    (then_goes T s ended begin (all_ended_goes T reqs refusals.Preparing s)
    (all_begun_goes T (all_unquiet s) purposes.Quiet None ended.after
    (all_ended_same (λ d. is_rolling d.phase) (λ d replies. refl) reqs refusals.Preparing s ∙ rolling)
    (all_ended_same (λ d. has_versions d (length (all_unquiet s))) (λ d replies. refl) reqs refusals.Preparing s ∙ left)
    (all_ended_same (λ d. list_all (is_settled d) (all_unquiet s)) (λ d replies. refl) reqs refusals.Preparing s ∙ known)))
    (none_goes T (and_then ended begin).after (last (and_then ended begin).after)))
