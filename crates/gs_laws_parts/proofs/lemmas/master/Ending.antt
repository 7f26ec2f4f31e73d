-- Names are edited, a call ends, a checkpoint is written: an entry can only go.
use Rattle.std.proofs.Common.{◌≡◌, ℕ, ◌==◌, inl, Bool, true, false, not, cond, ◌&&◌, ◌||◌, List, [], ◌∷◌, ◌++◌, Option, Some, None, refl, sym, ap, subst, ◌∙◌, arith}
use Rattle.std.specs.Prelude.{Contains, flat_map, is_none, is_some, map, option_and_then, Ok, Err, if◌then◌else◌}
use Rattle.std.specs.Cmp.{nat_cmp_total, tied_itself}
use Rattle.std.specs.FinMap as fin
use Rattle.std.specs.List.{AllByRecursion, list_all}
use Rattle.std.specs.Ordering.{eq_by_cmp, is_eq, nat_cmp}
use Rattle.std.proofs.lemmas.Bool.{false≢true, true≢false, and_parts}
use Rattle.std.proofs.lemmas.Bool.Decides.{nat_tests}
use Rattle.gs_base.specs.Members.{is_member}
use Rattle.gs_base.specs.declared.config.Config.{Config}
use Rattle.gs_base.specs.declared.numbers.ReqId.{ReqId}
use Rattle.gs_base.specs.declared.refusal.Refusal.{Refusal}
use Rattle.gs_edit.proofs.References.{among}
use Rattle.gs_lease.specs.declared.view.View.{View}
use Rattle.gs_msg.specs.declared.answer.Answer.{Answer}
use Rattle.gs_path.specs.Path.{Path}
use Rattle.gs_master_record.specs.Plain.{PlainEdit, PlainEntry, Mkdirs, Create, Rename, Hide, Unhide, Remove, AddChunk, Cow, Snapshot, Forget, Edited, Said, Propose, Settle, Prepare, Finalize, RollbackBegin, RollbackCommit, Whole, Holder}
use Rattle.gs_master_spec.specs.Applied.{applied, forgotten_by, replayed, with_reply}
use Rattle.gs_master_spec.specs.Chunks.{has_entry}
use Rattle.gs_master_spec.specs.Durable.{Durable, Settled, is_listed}
use Rattle.gs_master_spec.specs.Handling.{awaits_first, without_place}
use Rattle.gs_master_spec.specs.Replies.{is_later}
use Rattle.gs_master_spec.specs.Settling.{own_request}
use Rattle.gs_master_spec.specs.State.{State, answer_changes, fits, keeps_refusal, kept_in_memory, last_reply, said_changes, said_records}
use Rattle.gs_master_spec.specs.Volatile.{Volatile, all_changed, changed, is_call, let_go, let_go_of, without_call}
use Rattle.gs_master_spec.specs.Working.{scan_edits}
use Rattle.gs_master_spec.specs.declared.asking.Asking.{Asking}
use Rattle.gs_master_spec.specs.declared.change.Change.{Change}
use Rattle.gs_master_spec.specs.declared.change.Change.TheVariants as changes
use Rattle.gs_laws_master.specs.Promises.{IsKept}
use Rattle.gs_laws_master.proofs.lemmas.upgrades.Beginnings.{fits_gives}
use Rattle.gs_laws_master.proofs.lemmas.keeping.KeptEdits.{add_lists, cow_lists, edit_kept_told, listed_after}
use Rattle.gs_laws_master.proofs.lemmas.keeping.KeptRecords.{said_kept}
use Rattle.gs_laws_master.proofs.lemmas.spelling.Retold.{each_entry}
use Rattle.gs_laws_master.proofs.lemmas.standing.Standing.{changed_more}
use Rattle.gs_laws_master.proofs.lemmas.standing.StandingCheckpoints.{member_stays}
use Rattle.gs_laws_master.proofs.lemmas.standing.StandingUpgrades.{kept_out}
use Rattle.gs_laws_moves.proofs.lemmas.moves.Asked.{ended_asked, said_moving}
use Rattle.gs_laws_moves.proofs.lemmas.moves.Awaited.{each_move_awaits}
use Rattle.gs_laws_moves.proofs.lemmas.moves.GivenNames.{names_given}
use Rattle.gs_laws_moves.proofs.lemmas.moves.Entries.{either}
use Rattle.gs_laws_moves.proofs.lemmas.moves.Leaving.{AskedFrom, all_removed, same_asked}
use Rattle.gs_laws_moves.proofs.lemmas.moves.Moved.{each_moved_so}
use Rattle.gs_laws_moves.proofs.lemmas.moves.Right.{one_fits}
use Rattle.gs_laws_moves.specs.moves.Asked.{WasHeard}
use Rattle.gs_laws_moves.specs.moves.Guards.{Heard, IsMade, is_of_tree}
use Rattle.gs_laws_moves.specs.moves.Laws.{IsMadeWell}
use Rattle.gs_laws_moves.specs.moves.Moved.{IsAwaited, is_commit, settled_after}
use Rattle.gs_laws_moves.specs.moves.Moves.{Move, Edits, Extends, CopiesTree, Replaces, Scans, Refuses, Answers as AnswersCall, Checkpoints, move_turn}
use Rattle.gs_laws_chunk.specs.machine.Machine.{ChunkWorld}
use Rattle.gs_laws_parts.proofs.lemmas.master.Marking.{same_epoch}
use Rattle.gs_laws_parts.proofs.lemmas.master.Fading.{FadesDurable, FadesMemory, Keeps, fades, fades_itself, fades_reaches, or_left, record_fades, records_fade, tidied_fades}
use Rattle.gs_laws_parts.proofs.lemmas.master.Leaving.{changes_leave}
use Rattle.gs_laws_parts.proofs.lemmas.master.Moving.{shown_then, unmoved_by}
use Rattle.gs_laws_parts.proofs.lemmas.master.Stamps.{same_number}
use Rattle.gs_laws_parts.specs.master.Laws.{FadingMovesFollow, is_plain_message}
use Rattle.gs_laws_parts.specs.master.Single.{FollowsAs, IsUnmoved}
use Rattle.gs_laws_parts.specs.master.Telling.{Says, Shows}

or_right : (a b : Bool) → b ≡ true → (a || b) ≡ true
or_right true b h = refl
or_right false b h = h

not_true : (b : Bool) → not b ≡ true → b ≡ false
not_true true h = absurd (false≢true h)
not_true false h = refl

-- ---- a chunk that isn't forgotten stays listed

module _ (chunk : ℕ) where
  -- an edit that doesn't forget it, or a refusal
  abbrev spares : PlainEntry → Bool
  spares (Edited by edit) = not (among chunk (forgotten_by edit))
  spares (Said to refusal) = true
  spares (Propose q version) = false
  spares (Settle v) = false
  spares (Prepare epoch moment many) = false
  spares (Finalize epoch) = false
  spares (RollbackBegin epoch) = false
  spares (RollbackCommit epoch answers) = false
  spares (Whole c) = false
  spares (Holder q server) = false

  abbrev StaysListed : Durable → Durable → Type 0
  StaysListed d next = is_listed d chunk ≡ true → is_listed next chunk ≡ true

  record_spares : (d next : Durable) (entry : PlainEntry) → spares entry ≡ true → applied d entry ≡ Some next → StaysListed d next
  unfolding applied
  record_spares d next (Edited by edit) spared fit = λ listed. listed_after edit d.names next.names chunk (names_given d next by edit fit) listed (not_true (among chunk (forgotten_by edit)) spared)
  record_spares d next (Said to refusal) spared fit = λ listed. ap (λ (x : Durable). is_listed x chunk) (sym (fits_gives true (record d { replies = with_reply d.replies to (Err refusal) }) next fit).1) ∙ listed
  record_spares d next entry spared fit = absurd (false≢true spared)

  durable_is : {a b : Durable} → ◌≡◌ {A = Option Durable} (Some a) (Some b) → a ≡ b
  durable_is k = cc

  records_spare : (entries : List PlainEntry) (d next : Durable) → list_all spares entries ≡ true → replayed d entries ≡ Some next → StaysListed d next
  records_spare [] d next spared fit listed = ap (λ (x : Durable). is_listed x chunk) (sym (durable_is fit)) ∙ listed
  records_spare (entry ∷ entries) d next spared fit listed =
      let parts = and_parts (spares entry) (list_all spares entries) spared in by_first (applied d entry) refl fit (λ n is rest. records_spare entries n next parts.1 rest (record_spares d n entry parts.0 is listed))
    where
      by_first : (o : Option Durable) → applied d entry ≡ o → option_and_then (λ n. replayed n entries) o ≡ Some next → ((n : Durable) → applied d entry ≡ Some n → replayed n entries ≡ Some next → is_listed next chunk ≡ true) → is_listed next chunk ≡ true
      by_first None is h rest = absurd (false≢true (ap is_some h))
      by_first (Some n) is h rest = rest n is h

  -- ---- records, by what they are

  tree_spares : (edit : PlainEdit) → is_of_tree edit ≡ true → among chunk (forgotten_by edit) ≡ false
  tree_spares (Mkdirs path) tree = refl
  tree_spares (Create path) tree = refl
  tree_spares (Rename from to) tree = refl
  tree_spares (Hide path moment number) tree = refl
  tree_spares (Unhide path) tree = refl
  tree_spares (Snapshot from to) tree = refl
  tree_spares edit tree = absurd (false≢true tree)

  scan_fades : (removed : List Path) (forgotten : List ℕ) → list_all (fades chunk) (map (Edited own_request) (scan_edits removed forgotten)) ≡ true
  scan_fades [] [] = refl
  scan_fades [] (c ∷ forgotten) = refl
  scan_fades (path ∷ removed) forgotten = scan_fades removed forgotten

  scan_spares : (removed : List Path) (forgotten : List ℕ) → among chunk forgotten ≡ false → list_all spares (map (Edited own_request) (scan_edits removed forgotten)) ≡ true
  scan_spares [] [] out = refl
  scan_spares [] (c ∷ forgotten) out = ap (λ b. not b && true) out
  scan_spares (path ∷ removed) forgotten out = scan_spares removed forgotten out

  -- what is taken out leaves what stands, and so does a refusal
  pub remove_keeps : (by : ReqId) (path : Path) → Keeps chunk (Edited by (Remove path))
  remove_keeps by path d next kept fit = edit_kept_told d next by (Remove path) tt (λ may a is. absurd (false≢true (ap is_some is))) kept fit

  pub forget_keeps : (by : ReqId) (chunks : List ℕ) → Keeps chunk (Edited by (Forget chunks))
  forget_keeps by chunks d next kept fit = edit_kept_told d next by (Forget chunks) tt (λ may a is. absurd (false≢true (ap is_some is))) kept fit

  pub scan_keeps : (removed : List Path) (forgotten : List ℕ) → AllByRecursion (Keeps chunk) (map (Edited own_request) (scan_edits removed forgotten))
  scan_keeps [] [] = tt
  scan_keeps [] (c ∷ forgotten) = (forget_keeps own_request (c ∷ forgotten), tt)
  scan_keeps (path ∷ removed) forgotten = (remove_keeps own_request path, scan_keeps removed forgotten)

  said_keeps : (s : State) (req : ReqId) (refusal : Refusal) → AllByRecursion (Keeps chunk) (said_records (keeps_refusal s req refusal) s.log req refusal)
  said_keeps s req refusal = by_test (keeps_refusal s req refusal && fits s.log (Said req refusal ∷ []))
    where
      by_test : (b : Bool) → AllByRecursion (Keeps chunk) (if b then Said req refusal ∷ [] else [])
      by_test true = (λ d next kept fit. said_kept d next req refusal kept fit, tt)
      by_test false = tt

  said_both : (s : State) (req : ReqId) (refusal : Refusal) → (list_all (fades chunk) (said_records (keeps_refusal s req refusal) s.log req refusal) ≡ true) × (list_all spares (said_records (keeps_refusal s req refusal) s.log req refusal) ≡ true)
  said_both s req refusal = by_test (keeps_refusal s req refusal && fits s.log (Said req refusal ∷ []))
    where
      by_test : (b : Bool) → (list_all (fades chunk) (if b then Said req refusal ∷ [] else []) ≡ true) × (list_all spares (if b then Said req refusal ∷ [] else []) ≡ true)
      by_test true = (refl, refl)
      by_test false = (refl, refl)

  -- ---- what is in memory

  said_unplaced : (s : State) (req : ReqId) (refusal : Refusal) → (all_changed s.volatile (said_changes (keeps_refusal s req refusal) s.log req refusal)).unplaced ≡ s.volatile.unplaced
  said_unplaced s req refusal = by_test (keeps_refusal s req refusal && not (fits s.log (Said req refusal ∷ [])))
    where
      by_test : (b : Bool) → (all_changed s.volatile (if b then kept_in_memory req (Err refusal) ∷ [] else [])).unplaced ≡ s.volatile.unplaced
      by_test true = refl
      by_test false = refl

  pub answer_both : (s : State) (v : Volatile) (req : ReqId) (answer : Answer) → ((all_changed v (answer_changes s req answer)).moving ≡ v.moving) × ((all_changed v (answer_changes s req answer)).unplaced ≡ v.unplaced)
  answer_both s v req answer = by_test (is_later (last_reply s req.client) req.number)
    where
      by_test : (b : Bool) → ((all_changed v (if b then kept_in_memory req (Ok answer) ∷ [] else [])).moving ≡ v.moving) × ((all_changed v (if b then kept_in_memory req (Ok answer) ∷ [] else [])).unplaced ≡ v.unplaced)
      by_test true = (refl, refl)
      by_test false = (refl, refl)

  gone_at : (m : fin.FinMap nat_cmp Asking) (q : ℕ) → (q == chunk) ≡ true → fin.get (fin.remove m q) chunk ≡ None
  gone_at m q same = ap (λ c. fin.get (fin.remove m c) chunk) (same_number q chunk same) ∙ fin.get-remove nat_cmp_total m chunk chunk ∙ ap (λ o. cond (is_eq o) None (fin.get m chunk)) (tied_itself nat_cmp_total chunk)

  -- what is asked for is listed or new
  abbrev IsKnownIn : Bool → Volatile → Type 0
  IsKnownIn listed v = is_some (fin.get v.moving chunk) ≡ true → (listed || is_member v.unplaced chunk) ≡ true

  same_known : (listed : Bool) (v u : Volatile) → (fin.get u.moving chunk ≡ fin.get v.moving chunk) × (is_member u.unplaced chunk ≡ is_member v.unplaced chunk) → IsKnownIn listed v → IsKnownIn listed u
  same_known listed v u same known some = ap (λ b. listed || b) same.1 ∙ known (sym (ap is_some same.0) ∙ some)

  -- a call ends: what moved for it is let go
  loosed_known : (listed : Bool) (m : fin.FinMap nat_cmp Asking) (new : List ℕ) (req : ReqId) → (is_some (fin.get m chunk) ≡ true → (listed || is_member new chunk) ≡ true) → (es : List (ℕ × Asking)) → AllByRecursion (λ e. fin.get m e.0 ≡ Some e.1) es
      → (v : Volatile) → IsKnownIn listed v → IsKnownIn listed (all_changed v (flat_map (let_go_of new req) es))
  loosed_known listed m new req asked [] all v known = known
  loosed_known listed m new req asked (e ∷ es) all v known = by_call (λ w k. loosed_known listed m new req asked es all.1 w k) (is_call req e.1.call) (is_member new e.0) refl
    where
      lost : (b : Bool) → (e.0 == chunk) ≡ b → IsKnownIn listed (changed v (changes.Lose (e.0)))
      lost true same = λ some. absurd (false≢true (sym (ap is_some (gone_at v.moving e.0 same)) ∙ some))
      lost false other = same_known listed v (changed v (changes.Lose (e.0))) (changes_leave chunk (changes.Lose (e.0) ∷ []) v (ap (λ b. not b && true) other)) known

      it_is : (a b : Bool) → b ≡ false → (a || b) ≡ true → a ≡ true
      it_is true b n h = refl
      it_is false b n h = absurd (true≢false (sym h ∙ n))

      is_listed_here : is_member new e.0 ≡ false → (e.0 == chunk) ≡ true → listed ≡ true
      is_listed_here old same = it_is listed (is_member new chunk) (ap (is_member new) (sym (same_number e.0 chunk same)) ∙ old) (asked (ap (λ c. is_some (fin.get m c)) (sym (same_number e.0 chunk same)) ∙ ap is_some all.0))

      asked_on : is_member new e.0 ≡ false → (b : Bool) → (e.0 == chunk) ≡ b → IsKnownIn listed (changed v (changes.Ask (e.0) (without_call e.1)))
      asked_on old true same = λ some. or_left listed (is_member v.unplaced chunk) (is_listed_here old same)
      asked_on old false other = same_known listed v (changed v (changes.Ask (e.0) (without_call e.1))) (changes_leave chunk (changes.Ask (e.0) (without_call e.1) ∷ []) v (ap (λ b. not b && true) other)) known

      by_call : ((w : Volatile) → IsKnownIn listed w → IsKnownIn listed (all_changed w (flat_map (let_go_of new req) es))) → (c n : Bool) → is_member new e.0 ≡ n
          → IsKnownIn listed (all_changed v ((if not c then [] else if n then changes.Lose e.0 ∷ [] else changes.Ask e.0 (without_call e.1) ∷ []) ++ flat_map (let_go_of new req) es))
      by_call rest false n is = rest v known
      by_call rest true true is = rest (changed v (changes.Lose (e.0))) (lost (e.0 == chunk) refl)
      by_call rest true false is = rest (changed v (changes.Ask (e.0) (without_call e.1))) (asked_on is (e.0 == chunk) refl)

  let_go_known : (listed : Bool) (v w : Volatile) (req : ReqId) → w.moving ≡ v.moving → w.unplaced ≡ v.unplaced → IsKnownIn listed v → IsKnownIn listed (all_changed w (let_go v req))
  let_go_known listed v w req moving unplaced known =
      loosed_known listed v.moving v.unplaced req known (fin.entries v.moving)
      (each_entry nat_cmp nat_cmp_total fin.nat_cmp-IsAntisymmetric (λ q a. fin.get v.moving q ≡ Some a) (fin.entries v.moving) (fin.entries_sorted v.moving) (λ q a found. fin.get-entries v.moving q ∙ found)) w
      (same_known listed v w (ap (λ m. fin.get m chunk) moving, ap (λ xs. is_member xs chunk) unplaced) known)

  member_among : (xs : List ℕ) → is_member xs chunk ≡ true → among chunk xs ≡ true
  member_among [] e = e
  member_among (x ∷ xs) e = by_head (x == chunk) refl (member_among xs) e
    where
      by_head : (h : Bool) → (x == chunk) ≡ h → (is_member xs chunk ≡ true → among chunk xs ≡ true) → (h || is_member xs chunk) ≡ true → (eq_by_cmp nat_cmp chunk x || among chunk xs) ≡ true
      by_head true is rest k = or_left (eq_by_cmp nat_cmp chunk x) (among chunk xs) (ap (eq_by_cmp nat_cmp chunk) (same_number x chunk is) ∙ ap is_eq (tied_itself nat_cmp_total chunk))
      by_head false is rest k = or_right (eq_by_cmp nat_cmp chunk x) (among chunk xs) (rest k)

-- ---- the moves

module _ (born chunk : ℕ) (whole : ℕ → Bool) (config : Config) (heard : Heard) (s : State) (w : ChunkWorld) (k : Shows chunk s w) (was : WasHeard (Says chunk w) heard) where
  abbrev Done : Move → Type 0
  Done move = FollowsAs born chunk whole w (move_turn config s move).after (move_turn config s move).sent (IsUnmoved w)

  asked_known : is_some (fin.get s.volatile.moving chunk) ≡ true → has_entry s chunk ≡ true
  asked_known some = by_asked (fin.get s.volatile.moving chunk) refl
    where
      by_asked : (o : Option Asking) → fin.get s.volatile.moving chunk ≡ o → has_entry s chunk ≡ true
      by_asked None none = absurd (false≢true (sym (ap is_some none) ∙ some))
      by_asked (Some a) has = sym k.entry.memory.known ∙ (k.entry.memory.asking a has).2

  awaited : IsAwaited s chunk
  awaited here none = k.entry.memory.sought (or_right (is_listed s.durable chunk) (is_member s.volatile.unplaced chunk) here) none

  abbrev Lasts : Move → Type 0
  Lasts move = is_some (fin.get (move_turn config s move).after.volatile.moving chunk) ≡ true → has_entry s chunk ≡ true → has_entry (move_turn config s move).after chunk ≡ true

  -- behind a move by which the entry can only go
  fades_follow : (move : Move) → IsMade config heard s move → is_commit move ≡ false → settled_after s move chunk ≡ fin.get s.durable.chunks chunk → list_all is_plain_message (move_turn config s move).sent ≡ true
      → FadesDurable chunk s.durable (move_turn config s move).after.durable × IsKept (move_turn config s move).after.durable → AskedFrom chunk s.volatile.moving (move_turn config s move).after.volatile.moving → Lasts move → Done move
  fades_follow move made within same plain durable asked lasts =
      let r = fades_reaches chunk s u w durable.0 memory k.entry in
      shown_then born chunk whole config heard s move w r.world k was made plain r.leads r.masters (λ j. inl (ap (λ ms. ms j) r.members)) (same_epoch whole w r.world r.epoch) (λ x there. subst (λ xs. Contains xs x) (sym r.sent) there) r.shows (IsUnmoved w) (unmoved_by w r.world r.view)
    where
      u : State
      u = (move_turn config s move).after

      gone : has_entry u chunk ≡ true → has_entry s chunk ≡ true
      gone = (each_moved_so config heard s move chunk made).gone within k.entry.durable.given

      asked_on : (o : Option Asking) → fin.get u.volatile.moving chunk ≡ o → is_some o ≡ true → has_entry u chunk ≡ true
      asked_on None has some = absurd (false≢true some)
      asked_on (Some b) has some = (let before = asked b has in lasts (ap is_some has) (asked_known (ap is_some before.1)))

      sought : (b c : Bool) → is_listed u.durable chunk ≡ b → is_member u.volatile.unplaced chunk ≡ c → (b || c) ≡ true → fin.get u.durable.chunks chunk ≡ None → is_some (fin.get u.volatile.moving chunk) ≡ true
      sought true c listed new entry none = absurd (false≢true (sym (ap is_some none) ∙ durable.1.settled chunk listed))
      sought false c listed new entry none = each_move_awaits config heard s move chunk made awaited (new ∙ entry) none

      memory : FadesMemory chunk s u
      memory = record {
        gone = gone;
        kept = λ entry. (each_moved_so config heard s move chunk made).settled within entry ∙ same;
        asked = asked;
        known = asked_on (fin.get u.volatile.moving chunk) refl;
        sought = sought (is_listed u.durable chunk) (is_member u.volatile.unplaced chunk) refl refl;
      }

  -- where the chunk stays listed, and new
  stays_known : (u : State) → (is_listed s.durable chunk ≡ true → is_listed u.durable chunk ≡ true) → (is_member s.volatile.unplaced chunk ≡ true → is_member u.volatile.unplaced chunk ≡ true) → has_entry s chunk ≡ true → has_entry u chunk ≡ true
  stays_known u listed new known = either (is_listed s.durable chunk) (is_member s.volatile.unplaced chunk) (is_listed u.durable chunk) (is_member u.volatile.unplaced chunk) known listed new

  pub edits_follow : (req : ReqId) (edit : PlainEdit) (answer : Answer) → IsMadeWell config heard s (Edits req edit answer) → Done (Edits req edit answer)
  edits_follow req edit answer well =
      let u = (move_turn config s (Edits req edit answer)).after in
      fades_follow (Edits req edit answer) well.made refl refl refl (record_fades chunk s.durable u.durable (Edited req edit) refl well.before (one_fits s.durable u.durable (Edited req edit) well.made.fits), well.behind) (same_asked chunk s.volatile.moving)
      (λ some. stays_known u (records_spare chunk (Edited req edit ∷ []) s.durable u.durable (ap (λ b. not b && true) (tree_spares chunk edit well.made.may.tree)) well.made.fits) (λ here. here))

  pub copies_follow : (req : ReqId) (from to : Path) → IsMadeWell config heard s (CopiesTree req from to) → Done (CopiesTree req from to)
  copies_follow req from to well =
      let u = (move_turn config s (CopiesTree req from to)).after in
      fades_follow (CopiesTree req from to) well.made refl refl refl (record_fades chunk s.durable u.durable (Edited req (Snapshot from to)) refl well.before (one_fits s.durable u.durable (Edited req (Snapshot from to)) well.made.fits), well.behind) (same_asked chunk s.volatile.moving)
      (λ some. stays_known u (records_spare chunk (Edited req (Snapshot from to) ∷ []) s.durable u.durable refl well.made.fits) (λ here. here))

  -- a chunk gets its place: it is listed then
  placed : (u : State) (q : ℕ) → ((q == chunk) ≡ true → is_listed u.durable chunk ≡ true) → (is_listed s.durable chunk ≡ true → is_listed u.durable chunk ≡ true) → u.volatile.unplaced ≡ (changed s.volatile (changes.Place q)).unplaced → has_entry s chunk ≡ true → has_entry u chunk ≡ true
  placed u q now listed unplaced known = by_key (q == chunk) refl
    where
      by_key : (b : Bool) → (q == chunk) ≡ b → has_entry u chunk ≡ true
      by_key true same = or_left (is_listed u.durable chunk) (is_member u.volatile.unplaced chunk) (now same)
      by_key false other = stays_known u listed (λ here. ap (λ xs. is_member xs chunk) unplaced ∙ member_stays (λ c. not (c == q)) s.volatile.unplaced chunk (ap not (other_way other)) here) known
        where
          other_way : (q == chunk) ≡ false → (chunk == q) ≡ false
          other_way h = grind (arith, nat_tests)

  pub extends_follow : (req : ReqId) (path : Path) (q : ℕ) (view : View) → IsMadeWell config heard s (Extends req path q view) → Done (Extends req path q view)
  extends_follow req path q view well =
      let u = (move_turn config s (Extends req path q view)).after in
      fades_follow (Extends req path q view) well.made refl refl refl (record_fades chunk s.durable u.durable (Edited req (AddChunk path q)) refl well.before (one_fits s.durable u.durable (Edited req (AddChunk path q)) well.made.fits), well.behind) (same_asked chunk s.volatile.moving)
      (λ some. placed u q (λ same. subst (λ c. is_listed u.durable c ≡ true) (same_number q chunk same) (add_lists path q s.durable.names u.durable.names (names_given s.durable u.durable req (AddChunk path q) (one_fits s.durable u.durable (Edited req (AddChunk path q)) well.made.fits))))
      (records_spare chunk (Edited req (AddChunk path q) ∷ []) s.durable u.durable refl well.made.fits) refl)

  pub replaces_follow : (path : Path) (index old new : ℕ) → IsMadeWell config heard s (Replaces path index old new) → Done (Replaces path index old new)
  replaces_follow path index old new well =
      let u = (move_turn config s (Replaces path index old new)).after in
      let edit = Cow path index old new in
      fades_follow (Replaces path index old new) well.made refl refl refl (record_fades chunk s.durable u.durable (Edited own_request edit) refl well.before (one_fits s.durable u.durable (Edited own_request edit) well.made.fits), well.behind) (same_asked chunk s.volatile.moving)
      (λ some. placed u new (λ same. subst (λ c. is_listed u.durable c ≡ true) (same_number new chunk same) (cow_lists path index old new s.durable.names u.durable.names (names_given s.durable u.durable own_request edit (one_fits s.durable u.durable (Edited own_request edit) well.made.fits))))
      (records_spare chunk (Edited own_request edit ∷ []) s.durable u.durable refl well.made.fits) refl)

  pub scans_follow : (removed : List Path) (forgotten : List ℕ) → IsMadeWell config heard s (Scans removed forgotten) → Done (Scans removed forgotten)
  scans_follow removed forgotten well =
      let u = (move_turn config s (Scans removed forgotten)).after in
      let entries = map (Edited own_request) (scan_edits removed forgotten) in
      fades_follow (Scans removed forgotten) well.made refl refl refl (records_fade chunk entries s.durable u.durable (scan_fades chunk removed forgotten) (scan_keeps chunk removed forgotten) well.before well.made.fits)
      (λ b has. (b, all_removed chunk forgotten s.volatile.moving b has, refl))
      (λ some. stays_known u (records_spare chunk entries s.durable u.durable (scan_spares chunk removed forgotten (kept_out forgotten s.volatile.moving chunk some).0) well.made.fits) (λ here. here))

  pub refuses_follow : (req : ReqId) (refusal : Refusal) (ends : Bool) → IsMadeWell config heard s (Refuses req refusal ends) → Done (Refuses req refusal ends)
  refuses_follow req refusal false well =
      let u = (move_turn config s (Refuses req refusal false)).after in
      let entries = said_records (keeps_refusal s req refusal) s.log req refusal in
      let first = said_changes (keeps_refusal s req refusal) s.log req refusal in
      let more = changed_more first [] s.volatile in
      fades_follow (Refuses req refusal false) well.made refl refl refl (records_fade chunk entries s.durable u.durable (said_both chunk s req refusal).0 (said_keeps chunk s req refusal) well.before well.made.fits)
      (subst (AskedFrom chunk s.volatile.moving) (sym (ap (λ (v : Volatile). v.moving) more ∙ (said_moving s req refusal).0)) (same_asked chunk s.volatile.moving))
      (λ some. stays_known u (records_spare chunk entries s.durable u.durable (said_both chunk s req refusal).1 well.made.fits) (λ here. ap (λ (v : Volatile). is_member v.unplaced chunk) more ∙ ap (λ xs. is_member xs chunk) (said_unplaced chunk s req refusal) ∙ here))
  refuses_follow req refusal true well =
      fades_follow (Refuses req refusal true) well.made refl refl refl (records_fade chunk entries s.durable u.durable (said_both chunk s req refusal).0 (said_keeps chunk s req refusal) well.before well.made.fits) (ended_asked chunk s req refusal).0
      (λ some known. either (is_listed s.durable chunk) (is_member u.volatile.unplaced chunk) (is_listed u.durable chunk) (is_member u.volatile.unplaced chunk) (in_memory some)
      (records_spare chunk entries s.durable u.durable (said_both chunk s req refusal).1 well.made.fits) (λ here. here))
    where
      u : State
      u = (move_turn config s (Refuses req refusal true)).after

      entries : List PlainEntry
      entries = said_records (keeps_refusal s req refusal) s.log req refusal

      first : List Change
      first = said_changes (keeps_refusal s req refusal) s.log req refusal

      v : Volatile
      v = all_changed s.volatile first

      is : u.volatile ≡ all_changed (all_changed v (let_go s.volatile req)) (changes.End req ∷ [])
      is = changed_more first (let_go s.volatile req ++ changes.End req ∷ []) s.volatile ∙ changed_more (let_go s.volatile req) (changes.End req ∷ []) v

      in_memory : IsKnownIn chunk (is_listed s.durable chunk) u.volatile
      in_memory = subst (IsKnownIn chunk (is_listed s.durable chunk)) (sym is) (let_go_known chunk (is_listed s.durable chunk) s.volatile v req (said_moving s req refusal).0 (said_unplaced chunk s req refusal) asked_known)

  pub answers_follow : (req : ReqId) (answer : Answer) (ends : Bool) → IsMadeWell config heard s (AnswersCall req answer ends) → Done (AnswersCall req answer ends)
  answers_follow req answer false well =
      let u = (move_turn config s (AnswersCall req answer false)).after in
      let both = answer_both chunk s s.volatile req answer in
      fades_follow (AnswersCall req answer false) well.made refl refl refl (fades_itself chunk s.durable, well.before)
      (subst (AskedFrom chunk s.volatile.moving) (sym both.0) (same_asked chunk s.volatile.moving)) (λ some. stays_known u (λ listed. listed) (λ here. ap (λ xs. is_member xs chunk) both.1 ∙ here))
  answers_follow req answer true well =
      let u = (move_turn config s (AnswersCall req answer true)).after in
      let both = answer_both chunk s s.volatile req answer in
      let more = changed_more (answer_changes s req answer) (changes.End req ∷ []) s.volatile in
      fades_follow (AnswersCall req answer true) well.made refl refl refl (fades_itself chunk s.durable, well.before)
      (subst (AskedFrom chunk s.volatile.moving) (sym (ap (λ (v : Volatile). v.moving) more ∙ both.0)) (same_asked chunk s.volatile.moving))
      (λ some. stays_known u (λ listed. listed) (λ here. ap (λ (v : Volatile). is_member v.unplaced chunk) more ∙ ap (λ xs. is_member xs chunk) both.1 ∙ here))

  -- of the new chunks a checkpoint leaves those that wait for their first view
  pub checkpoints_follow : IsMadeWell config heard s Checkpoints → Done Checkpoints
  checkpoints_follow well =
      fades_follow Checkpoints well.made refl refl refl (tidied_fades chunk s.durable, well.behind) (λ b has. (b, all_removed chunk (without_place s) s.volatile.moving b has, refl))
      (λ some. stays_known u (λ listed. listed) (λ here. member_stays (awaits_first s) s.volatile.unplaced chunk (waits some here) here))
    where
      u : State
      u = (move_turn config s Checkpoints).after

      by_settled : is_some (fin.get u.volatile.moving chunk) ≡ true → is_member s.volatile.unplaced chunk ≡ true → (o : Option Settled) → fin.get s.durable.chunks chunk ≡ o → is_none o ≡ true
      by_settled some here None none = refl
      by_settled some here (Some x) has =
          absurd (true≢false (sym (member_among chunk (without_place s) (member_stays (λ c. is_some (fin.get s.durable.chunks c)) s.volatile.unplaced chunk (ap is_some has) here)) ∙ (kept_out (without_place s) s.volatile.moving chunk some).0))

      both : (a b : Bool) → a ≡ true → b ≡ true → (a && b) ≡ true
      both true b h g = g
      both false b h g = absurd (false≢true h)

      waits : is_some (fin.get u.volatile.moving chunk) ≡ true → is_member s.volatile.unplaced chunk ≡ true → awaits_first s chunk ≡ true
      waits some here = both (is_none (fin.get s.durable.chunks chunk)) (is_some (fin.get s.volatile.moving chunk)) (by_settled some here (fin.get s.durable.chunks chunk) refl) (kept_out (without_place s) s.volatile.moving chunk some).1

-- ---- all of them

pub fading_moves_follow : FadingMovesFollow
fading_moves_follow born chunk whole config heard s (Edits req edit answer) w fading k was well = edits_follow born chunk whole config heard s w k was req edit answer well
fading_moves_follow born chunk whole config heard s (Extends req path q view) w fading k was well = extends_follow born chunk whole config heard s w k was req path q view well
fading_moves_follow born chunk whole config heard s (CopiesTree req from to) w fading k was well = copies_follow born chunk whole config heard s w k was req from to well
fading_moves_follow born chunk whole config heard s (Replaces path index old new) w fading k was well = replaces_follow born chunk whole config heard s w k was path index old new well
fading_moves_follow born chunk whole config heard s (Scans removed forgotten) w fading k was well = scans_follow born chunk whole config heard s w k was removed forgotten well
fading_moves_follow born chunk whole config heard s (Refuses req refusal over) w fading k was well = refuses_follow born chunk whole config heard s w k was req refusal over well
fading_moves_follow born chunk whole config heard s (AnswersCall req answer over) w fading k was well = answers_follow born chunk whole config heard s w k was req answer over well
fading_moves_follow born chunk whole config heard s Checkpoints w fading k was well = checkpoints_follow born chunk whole config heard s w k was well
fading_moves_follow born chunk whole config heard s move w fading k was well = absurd (false≢true fading)
