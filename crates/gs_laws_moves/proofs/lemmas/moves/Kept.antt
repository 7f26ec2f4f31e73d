-- What is settled of one chunk, through each move.
use Rattle.std.proofs.Common.{◌≡◌, arith, ◌∙◌, ◌==◌, ◌&&◌, ◌||◌, ◌++◌, inl, inr, ℕ, Bool, true, false, not, cond, List, [], ◌∷◌, refl, ap, sym, subst}
use Rattle.std.specs.Prelude.{filter, is_none, is_some, map, nat_lt, option_and_then, option_map, Option, Some, None, Result, Ok, Err, if◌then◌else◌}
use Rattle.std.specs.Cmp.{nat_cmp_total, tied_itself}
use Rattle.std.specs.FinMap as fin
use Rattle.std.specs.List.{list_all}
use Rattle.std.specs.Ordering.{eq_by_cmp, is_eq, nat_cmp}
use Rattle.std.proofs.lemmas.Bool.{false≢true, true≢false, and_parts}
use Rattle.std.proofs.lemmas.Bool.Decides.{nat_tests}
use Rattle.gs_base.specs.Members.{is_member}
use Rattle.gs_base.specs.declared.config.Config.{Config}
use Rattle.gs_base.specs.declared.epoch.EpochEnd.TheVariants as ends
use Rattle.gs_base.specs.declared.numbers.ReqId.{ReqId}
use Rattle.gs_base.specs.declared.refusal.Refusal.{Refusal}
use Rattle.gs_edit.specs.View.{NamesView}
use Rattle.gs_lease.specs.declared.view.View.{View}
use Rattle.gs_path.specs.Path.{Path}
use Rattle.gs_master_record.specs.Plain.{PlainEdit, PlainEntry, Create, Edited, Finalize, Forget, Hide, Holder, Mkdirs, Prepare, Propose, Remove, Rename, RollbackBegin, RollbackCommit, Said, Settle, Snapshot, Unhide, Whole}
use Rattle.gs_master_record.specs.declared.checkpoint.Phase.TheVariants.{Ordinary, Upgrade, Rolling}
use Rattle.gs_master_spec.specs.Applied.{after_edit, applied, are_at_rest, forgotten_by, held_by, is_next_epoch, may_be_settled, may_edit, may_propose, proposed, replayed, with_edit, with_epoch, with_proposal, with_view, without_chunks, without_prepared}
use Rattle.gs_master_spec.specs.Chunks.{has_entry, holder_records, is_holder, target_of}
use Rattle.gs_master_spec.specs.Durable.{Durable, Settled, is_listed, is_ordinary, is_upgrade, kept_before, prepared_view, with_prepared}
use Rattle.gs_master_spec.specs.Handling.{awaits_first, tidied}
use Rattle.gs_master_spec.specs.Settling.{own_request}
use Rattle.gs_master_spec.specs.State.{State, fits, keeps_refusal, said_records, turned}
use Rattle.gs_master_spec.specs.Undoing.{edited_names}
use Rattle.gs_master_spec.specs.Working.{forget_if, scan_plan}
use Rattle.gs_laws_master.specs.Promises.{AllFit}
use Rattle.gs_laws_master.proofs.lemmas.upgrades.Beginnings.{fits_gives}
use Rattle.gs_laws_master.proofs.lemmas.keeping.KeptViews.{same_key}
use Rattle.gs_edit.proofs.References.{among}
use Rattle.gs_laws_master.proofs.lemmas.keeping.KeptEdits.{WasListed, listed_before}
use Rattle.gs_master_spec.specs.Beginning.{begin_at, copy_plan, next_stamp}
use Rattle.gs_master_spec.specs.State.{Plan}
use Rattle.gs_master_spec.specs.declared.asking.Asking.{Asking}
use Rattle.gs_laws_moves.proofs.lemmas.moves.Entries.{tied}
use Rattle.gs_laws_moves.proofs.lemmas.moves.Right.{one_fits, settled_gives}
use Rattle.gs_laws_moves.proofs.lemmas.moves.Fitting.{split}
use Rattle.gs_laws_moves.specs.moves.Guards.{Heard, IsMade, IsNext, is_of_tree}
use Rattle.gs_laws_moves.specs.moves.Moved.{is_commit, proposed_now, settled_after}
use Rattle.gs_laws_moves.specs.moves.Moves.{Alone, Beside, FromNow, Further, Move, Begins, Makes, Copies, Settles, Edits, Scans, Refuses, Answers as AnswersCall, CommitsRollback, Checkpoints, move_turn, plan_of_settle, with_beside}

durable_is : {a b : Durable} → ◌≡◌ {A = Option Durable} (Some a) (Some b) → a ≡ b
durable_is k = cc

same_number : (a b : ℕ) → (a == b) ≡ true → a ≡ b
same_number a b h = grind (arith, nat_tests)

itself : (n : ℕ) → (n == n) ≡ true
itself n = grind (arith, nat_tests)

-- a record that leaves what is settled of the chunk
pub leaves : ℕ → PlainEntry → Bool
leaves chunk (Edited by edit) = not (is_member (forgotten_by edit) chunk)
leaves chunk (Propose q version) = not (q == chunk)
leaves chunk (Settle v) = not (v.handle == chunk)
leaves chunk (RollbackCommit epoch answers) = false
leaves chunk (Whole c) = false
leaves chunk entry = true

module _ (chunk : ℕ) where
  abbrev Same : Durable → Durable → Type 0
  Same d e = fin.get e.chunks chunk ≡ fin.get d.chunks chunk

  same_chunks : (d e : Durable) → e.chunks ≡ d.chunks → Same d e
  same_chunks d e same = ap (λ m. fin.get m chunk) same

  not_true : (b : Bool) → not b ≡ true → b ≡ false
  not_true true h = absurd (false≢true h)
  not_true false h = refl

  other_key : (q : ℕ) → (q == chunk) ≡ false → (b : Bool) → eq_by_cmp nat_cmp chunk q ≡ b → b ≡ false
  other_key q other true same = absurd (true≢false (sym (itself q) ∙ ap (λ x. q == x) (sym (same_key chunk q same)) ∙ other))
  other_key q other false is = refl

  put_other : (m : fin.FinMap nat_cmp Settled) (q : ℕ) (x : Settled) → (q == chunk) ≡ false → fin.get (fin.insert m q x) chunk ≡ fin.get m chunk
  put_other m q x other = fin.get-insert nat_cmp_total m q x chunk ∙ ap (λ b. cond b (Some x) (fin.get m chunk)) (other_key q other (eq_by_cmp nat_cmp chunk q) refl)

  take_other : (m : fin.FinMap nat_cmp Settled) (q : ℕ) → (q == chunk) ≡ false → fin.get (fin.remove m q) chunk ≡ fin.get m chunk
  take_other m q other = fin.get-remove nat_cmp_total m q chunk ∙ ap (λ b. cond b None (fin.get m chunk)) (other_key q other (eq_by_cmp nat_cmp chunk q) refl)

  either_none : (a b : Bool) → (a || b) ≡ false → (a ≡ false) × (b ≡ false)
  either_none true b h = absurd (true≢false h)
  either_none false b h = (refl, h)

  forgets_others : (qs : List ℕ) (d : Durable) → is_member qs chunk ≡ false → Same d (without_chunks d qs)
  forgets_others [] d out = refl
  forgets_others (q ∷ qs) d out =
      let parts = either_none (q == chunk) (is_member qs chunk) out in forgets_others qs (record d { chunks = fin.remove d.chunks q; prepared = kept_before d q }) parts.1 ∙ take_other d.chunks q parts.0

  proposed_other : (d : Durable) (q version : ℕ) → (q == chunk) ≡ false → Same d (proposed d q version)
  proposed_other d q version other = by_settled (fin.get d.chunks q)
    where
      by_settled : (o : Option Settled) → fin.get (with_proposal d q o) chunk ≡ fin.get d.chunks chunk
      by_settled None = refl
      by_settled (Some y) = put_other d.chunks q (record y { is_moving = true }) other

  edited_same : (d e : Durable) (by : ReqId) (edit : PlainEdit) → is_member (forgotten_by edit) chunk ≡ false → (names : Result NamesView Refusal) → after_edit d by edit names ≡ Some e → Same d e
  edited_same d e by edit out (Ok names) fit = subst (Same d) (fits_gives (may_edit d edit) (with_edit d by edit names) e fit).1 (forgets_others (forgotten_by edit) d out)
  edited_same d e by edit out (Err refusal) fit = absurd (false≢true (ap is_some fit))

  record_same : (d e : Durable) (entry : PlainEntry) → leaves chunk entry ≡ true → applied d entry ≡ Some e → Same d e
  unfolding applied leaves
  record_same d e (Edited by edit) out fit = edited_same d e by edit (not_true (is_member (forgotten_by edit) chunk) out) (edited_names edit d.names) fit
  record_same d e (Said to refusal) out fit = same_chunks d e (ap (λ (x : Durable). x.chunks) (sym (durable_is fit)))
  record_same d e (Propose q version) out fit =
      subst (Same d) (fits_gives (may_propose d.phase d.next_handle d.next_version q version (fin.get d.chunks q)) (proposed d q version) e fit).1 (proposed_other d q version (not_true (q == chunk) out))
  record_same d e (Settle v) out fit = subst (Same d) (fits_gives (may_be_settled d v) (with_view d v) e fit).1 (put_other d.chunks v.handle (record { view = v.view; is_moving = false }) (not_true (v.handle == chunk) out))
  record_same d e (Prepare epoch moment many) out fit =
      same_chunks d e (ap (λ (x : Durable). x.chunks) (sym (fits_gives (is_ordinary d.phase && (is_next_epoch d.epoch epoch && are_at_rest d)) (without_prepared (with_epoch d ends.Prepare Upgrade)) e fit).1))
  record_same d e (Finalize epoch) out fit = same_chunks d e (ap (λ (x : Durable). x.chunks) (sym (fits_gives (is_upgrade d.phase && is_next_epoch d.epoch epoch) (without_prepared (with_epoch d ends.Finalize Ordinary)) e fit).1))
  record_same d e (RollbackBegin epoch) out fit = same_chunks d e (ap (λ (x : Durable). x.chunks) (sym (fits_gives (is_upgrade d.phase && is_next_epoch d.epoch epoch) (with_epoch d ends.Rollback Rolling) e fit).1))
  record_same d e (RollbackCommit epoch answers) out fit = absurd (false≢true out)
  record_same d e (Whole c) out fit = absurd (false≢true out)
  record_same d e (Holder q server) out fit =
      same_chunks d e (ap (λ (x : Durable). x.chunks) (sym (fits_gives (is_upgrade d.phase && (nat_lt server 16 && is_some (prepared_view d q))) (record d { prepared = with_prepared d q (held_by server (prepared_view d q)) }) e fit).1))

  pub records_same : (entries : List PlainEntry) (d e : Durable) → list_all (leaves chunk) entries ≡ true → replayed d entries ≡ Some e → Same d e
  records_same [] d e all fit = same_chunks d e (ap (λ (x : Durable). x.chunks) (sym (durable_is fit)))
  records_same (entry ∷ entries) d e all fit =
      let parts = and_parts (leaves chunk entry) (list_all (leaves chunk) entries) all in by_first (applied d entry) refl fit (λ n is h. records_same entries n e parts.1 h ∙ record_same d n entry parts.0 is)
    where
      by_first : (o : Option Durable) → applied d entry ≡ o → option_and_then (λ n. replayed n entries) o ≡ Some e → ((n : Durable) → applied d entry ≡ Some n → replayed n entries ≡ Some e → Same d e) → Same d e
      by_first None is h rest = absurd (false≢true (ap is_some h))
      by_first (Some n) is h rest = rest n is h

  -- a view of it is proposed
  proposed_here : (d e : Durable) (version : ℕ) → applied d (Propose chunk version) ≡ Some e → fin.get e.chunks chunk ≡ option_map proposed_now (fin.get d.chunks chunk)
  unfolding applied
  proposed_here d e version fit =
      ap (λ (x : Durable). fin.get x.chunks chunk) (sym (fits_gives (may_propose d.phase d.next_handle d.next_version chunk version (fin.get d.chunks chunk)) (proposed d chunk version) e fit).1) ∙ by_settled (fin.get d.chunks chunk) refl
    where
      by_settled : (o : Option Settled) → fin.get d.chunks chunk ≡ o → fin.get (with_proposal d chunk o) chunk ≡ option_map proposed_now o
      by_settled None is = is
      by_settled (Some y) is = fin.get-insert nat_cmp_total d.chunks chunk (record y { is_moving = true }) chunk ∙ ap (λ o. cond (is_eq o) (Some (record y { is_moving = true })) (fin.get d.chunks chunk)) (tied_itself nat_cmp_total chunk)

  -- ---- a scan

  among_so : (qs : List ℕ) → is_member qs chunk ≡ true → among chunk qs ≡ true
  among_so [] here = absurd (false≢true here)
  among_so (q ∷ qs) here = by_head (q == chunk) refl here (among_so qs)
    where
      second : (a b : Bool) → b ≡ true → (a || b) ≡ true
      second true b e = refl
      second false b e = e

      by_head : (b : Bool) → (q == chunk) ≡ b → (b || is_member qs chunk) ≡ true → (is_member qs chunk ≡ true → among chunk qs ≡ true) → (eq_by_cmp nat_cmp chunk q || among chunk qs) ≡ true
      by_head true is k rest = ap (λ b. b || among chunk qs) (ap (eq_by_cmp nat_cmp chunk) (same_number q chunk is) ∙ tied chunk)
      by_head false is k rest = second (eq_by_cmp nat_cmp chunk q) (among chunk qs) (rest k)

  forget_unlists : (d e : Durable) (by : ReqId) (qs : List ℕ) → applied d (Edited by (Forget qs)) ≡ Some e → is_member qs chunk ≡ true → is_listed e chunk ≡ true → ⊥
  unfolding applied
  forget_unlists d e by qs fit here listed = by_names (edited_names (Forget qs) d.names) refl fit
    where
      by_was : WasListed (Forget qs) d.names.refs chunk → ⊥
      by_was (inl same) = false≢true (ap is_some same)
      by_was (inr was) = true≢false (sym (among_so qs here) ∙ was.1)

      by_names : (names : Result NamesView Refusal) → edited_names (Forget qs) d.names ≡ names → after_edit d by (Forget qs) names ≡ Some e → ⊥
      by_names (Ok names) is k = by_was (listed_before (Forget qs) d.names names chunk is (ap (λ (x : Durable). is_some (fin.get x.names.refs chunk)) (fits_gives (may_edit d (Forget qs)) (with_edit d by (Forget qs) names) e k).1 ∙ listed))
      by_names (Err refusal) is k = false≢true (ap is_some k)

  scan_unlists : (removed : List Path) (forgotten : List ℕ) (d e : Durable) → replayed d (map (Edited own_request) (map (λ path. Remove path) removed ++ forget_if forgotten)) ≡ Some e → is_member forgotten chunk ≡ true → is_listed e chunk ≡ true → ⊥
  scan_unlists [] [] d e fit here listed = false≢true here
  scan_unlists [] (c ∷ forgotten) d e fit here listed = forget_unlists d e own_request (c ∷ forgotten) (one_fits d e (Edited own_request (Forget (c ∷ forgotten))) fit) here listed
  scan_unlists (path ∷ removed) forgotten d e fit here listed = by_first (applied d (Edited own_request (Remove path))) fit (λ n h. scan_unlists removed forgotten n e h here listed)
    where
      rest : List PlainEntry
      rest = map (Edited own_request) (map (λ p. Remove p) removed ++ forget_if forgotten)

      by_first : (o : Option Durable) → option_and_then (λ n. replayed n rest) o ≡ Some e → ((n : Durable) → replayed n rest ≡ Some e → ⊥) → ⊥
      by_first None h f = false≢true (ap is_some h)
      by_first (Some n) h f = f n h

  scan_leaves : (removed : List Path) (forgotten : List ℕ) → is_member forgotten chunk ≡ false → list_all (leaves chunk) (map (Edited own_request) (map (λ path. Remove path) removed ++ forget_if forgotten)) ≡ true
  unfolding leaves
  scan_leaves [] [] out = refl
  scan_leaves [] (c ∷ forgotten) out = ap (λ b. not b && true) out
  scan_leaves (path ∷ removed) forgotten out = scan_leaves removed forgotten out

  said_leaves : (s : State) (req : ReqId) (refusal : Refusal) → list_all (leaves chunk) (said_records (keeps_refusal s req refusal) s.log req refusal) ≡ true
  unfolding leaves
  said_leaves s req refusal = by_test (keeps_refusal s req refusal && fits s.log (Said req refusal ∷ []))
    where
      by_test : (b : Bool) → list_all (leaves chunk) (if b then Said req refusal ∷ [] else []) ≡ true
      by_test true = refl
      by_test false = refl

  settle_leaves : (b : Bool) (q : ℕ) (target : Option ℕ) (view : View) → (q == chunk) ≡ false → list_all (leaves chunk) (holder_records b q target ++ Settle (record { handle = q; view = view }) ∷ []) ≡ true
  unfolding leaves
  settle_leaves b q None view other = ap (λ x. not x && true) other
  settle_leaves true q (Some target) view other = ap (λ x. not x && true) other
  settle_leaves false q (Some target) view other = ap (λ x. not x && true) other

  tree_leaves : (edit : PlainEdit) → is_of_tree edit ≡ true → (not (is_member (forgotten_by edit) chunk) && true) ≡ true
  tree_leaves (Mkdirs path) tree = refl
  tree_leaves (Create path) tree = refl
  tree_leaves (Rename from to) tree = refl
  tree_leaves (Hide path moment number) tree = refl
  tree_leaves (Unhide path) tree = refl
  tree_leaves (Snapshot from to) tree = refl
  tree_leaves edit tree = absurd (false≢true tree)

  passes : (f : ℕ → Bool) (xs : List ℕ) → is_member (filter f xs) chunk ≡ true → f chunk ≡ true
  passes f [] here = absurd (false≢true here)
  passes f (x ∷ xs) here = by_test (f x) refl here (passes f xs)
    where
      by_head : (b : Bool) → (x == chunk) ≡ b → f x ≡ true → (b || is_member (filter f xs) chunk) ≡ true → (is_member (filter f xs) chunk ≡ true → f chunk ≡ true) → f chunk ≡ true
      by_head true is pass k rest = subst (λ c. f c ≡ true) (same_number x chunk is) pass
      by_head false is pass k rest = rest k

      by_test : (b : Bool) → f x ≡ b → is_member (cond b (x ∷ filter f xs) (filter f xs)) chunk ≡ true → (is_member (filter f xs) chunk ≡ true → f chunk ≡ true) → f chunk ≡ true
      by_test true is k rest = by_head (x == chunk) refl is k rest
      by_test false is k rest = rest k

  module _ (config : Config) (heard : Heard) (s : State) where
    -- one proposal
    begin_fits : (q : ℕ) (plan : Plan) (beside : Beside) → plan.records ≡ Propose q s.durable.next_version ∷ [] → AllFit s (turned s (with_beside beside plan)) → applied s.durable (Propose q s.durable.next_version) ≡ Some (turned s (with_beside beside plan)).after.durable
    begin_fits q plan Alone is fit = one_fits s.durable (turned s plan).after.durable (Propose q s.durable.next_version) (ap (replayed s.durable) (sym is) ∙ fit)
    begin_fits q plan (FromNow req waiting) is fit = one_fits s.durable (turned s (with_beside (FromNow req waiting) plan)).after.durable (Propose q s.durable.next_version) (ap (replayed s.durable) (sym is) ∙ fit)
    begin_fits q plan (Further req waiting) is fit = one_fits s.durable (turned s (with_beside (Further req waiting) plan)).after.durable (Propose q s.durable.next_version) (ap (replayed s.durable) (sym is) ∙ fit)

    new_same : (e : Durable) → IsNext s → applied s.durable (Propose s.durable.next_handle s.durable.next_version) ≡ Some e → Same s.durable e
    unfolding leaves
    new_same e next fit = by_key (s.durable.next_handle == chunk) refl
      where
        by_key : (b : Bool) → (s.durable.next_handle == chunk) ≡ b → Same s.durable e
        by_key true is =
            let same = same_number s.durable.next_handle chunk is in
            let none = ap (fin.get s.durable.chunks) (sym same) ∙ next in
            proposed_here s.durable e s.durable.next_version (ap (λ q. applied s.durable (Propose q s.durable.next_version)) (sym same) ∙ fit) ∙ ap (option_map proposed_now) none ∙ sym none
        by_key false other = record_same s.durable e (Propose s.durable.next_handle s.durable.next_version) (ap not other) fit

    begun_so : (q : ℕ) (e : Durable) → applied s.durable (Propose q s.durable.next_version) ≡ Some e → (b : Bool) → (q == chunk) ≡ b → fin.get e.chunks chunk ≡ (if b then option_map proposed_now (fin.get s.durable.chunks chunk) else fin.get s.durable.chunks chunk)
    unfolding leaves
    begun_so q e fit true is = proposed_here s.durable e s.durable.next_version (ap (λ c. applied s.durable (Propose c s.durable.next_version)) (sym (same_number q chunk is)) ∙ fit)
    begun_so q e fit false other = record_same s.durable e (Propose q s.durable.next_version) (ap not other) fit

    settled_so : (q : ℕ) (asking : Asking) (carried : Bool) (view : View) → AllFit s (turned s (plan_of_settle s q asking carried view)) → (b : Bool) → (q == chunk) ≡ b
        → fin.get (turned s (plan_of_settle s q asking carried view)).after.durable.chunks chunk ≡ (if b then Some (record { view = view; is_moving = false }) else fin.get s.durable.chunks chunk)
    settled_so q asking carried view fit true is =
        let e = (turned s (plan_of_settle s q asking carried view)).after.durable in
        let holds = holder_records (is_holder s.durable.phase (prepared_view s.durable q) carried asking view) q (target_of asking.purpose) in
        let parts = split holds (Settle (record { handle = q; view = view }) ∷ []) s.durable e fit in
        ap (λ c. fin.get e.chunks c) (sym (same_number q chunk is)) ∙ settled_gives parts.mid e q view (one_fits parts.mid e (Settle (record { handle = q; view = view })) parts.then)
    settled_so q asking carried view fit false other =
        records_same _ s.durable (turned s (plan_of_settle s q asking carried view)).after.durable (settle_leaves (is_holder s.durable.phase (prepared_view s.durable q) carried asking view) q (target_of asking.purpose) view other) fit

    scanned_so : (removed : List Path) (forgotten : List ℕ) → (is_member s.volatile.unplaced chunk ≡ true → is_member forgotten chunk ≡ false) → AllFit s (turned s (scan_plan removed forgotten)) → has_entry (turned s (scan_plan removed forgotten)).after chunk ≡ true
        → fin.get (turned s (scan_plan removed forgotten)).after.durable.chunks chunk ≡ fin.get s.durable.chunks chunk
    scanned_so removed forgotten placed fit known = by_test (is_member forgotten chunk) refl
      where
        e : Durable
        e = (turned s (scan_plan removed forgotten)).after.durable

        by_either : (a b : Bool) → is_listed e chunk ≡ a → is_member s.volatile.unplaced chunk ≡ b → (a || b) ≡ true → is_member forgotten chunk ≡ true → ⊥
        by_either true b listed new k here = scan_unlists removed forgotten s.durable e fit here listed
        by_either false true listed new k here = true≢false (sym here ∙ placed new)
        by_either false false listed new k here = false≢true k

        by_test : (b : Bool) → is_member forgotten chunk ≡ b → Same s.durable e
        by_test true here = absurd (by_either (is_listed e chunk) (is_member s.volatile.unplaced chunk) refl refl known here)
        by_test false out = records_same _ s.durable e (scan_leaves removed forgotten out) fit

    written_so : has_entry (move_turn config s Checkpoints).after chunk ≡ true → fin.get (tidied s.durable).chunks chunk ≡ fin.get s.durable.chunks chunk
    written_so known =
        fin.get-retain_keys s.durable.chunks (is_listed s.durable) chunk (λ y tied_so. ap (is_listed s.durable) (sym (fin.nat_cmp-IsAntisymmetric chunk y tied_so))) ∙ by_listed (is_listed s.durable chunk) known
      where
        none_at : (o : Option Settled) → is_none o ≡ true → None ≡ o
        none_at None e = refl
        none_at (Some x) e = absurd (false≢true e)

        by_listed : (b : Bool) → (b || is_member (filter (awaits_first s) s.volatile.unplaced) chunk) ≡ true → cond b (fin.get s.durable.chunks chunk) None ≡ fin.get s.durable.chunks chunk
        by_listed true k = refl
        by_listed false k = none_at (fin.get s.durable.chunks chunk) (and_parts (is_none (fin.get s.durable.chunks chunk)) (is_some (fin.get s.volatile.moving chunk)) (passes (awaits_first s) s.volatile.unplaced k)).0

    pub settled_by : (move : Move) → IsMade config heard s move → is_commit move ≡ false → has_entry (move_turn config s move).after chunk ≡ true → fin.get (move_turn config s move).after.durable.chunks chunk ≡ settled_after s move chunk
    unfolding leaves
    settled_by (Begins q purpose call beside) made other known = begun_so q (move_turn config s (Begins q purpose call beside)).after.durable (begin_fits q (begin_at s q purpose call) beside refl made.fits) (q == chunk) refl
    settled_by (Makes targets req path) made other known = new_same (move_turn config s (Makes targets req path)).after.durable made.may.0 (one_fits s.durable _ (Propose s.durable.next_handle s.durable.next_version) made.fits)
    settled_by (Copies old view req beside) made other known =
        new_same (move_turn config s (Copies old view req beside)).after.durable made.may.0.fresh (begin_fits s.durable.next_handle (copy_plan (next_stamp s.durable) old view s.durable.next_handle req) beside refl made.fits)
    settled_by (Settles q asking carried view) made other known = settled_so q asking carried view made.fits (q == chunk) refl
    settled_by (Edits req edit answer) made other known = records_same (Edited req edit ∷ []) s.durable (move_turn config s (Edits req edit answer)).after.durable (tree_leaves edit made.may.tree) made.fits
    settled_by (Scans removed forgotten) made other known = scanned_so removed forgotten (made.may.placed chunk) made.fits known
    settled_by (Refuses req refusal over) made other known = records_same _ s.durable (move_turn config s (Refuses req refusal over)).after.durable (said_leaves s req refusal) made.fits
    settled_by (AnswersCall req answer true) made other known = refl
    settled_by (AnswersCall req answer false) made other known = refl
    settled_by (CommitsRollback req names) made other known = absurd (true≢false other)
    settled_by Checkpoints made other known = written_so known
    settled_by move made other known = records_same (move_turn config s move).records s.durable (move_turn config s move).after.durable refl made.fits
