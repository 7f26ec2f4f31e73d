-- What each move makes of one chunk.
use Rattle.std.proofs.Common.{◌≡◌, arith, ◌∙◌, ◌==◌, ◌&&◌, ◌||◌, ◌+◌, ◌++◌, ◌⊎◌, inl, inr, ℕ, Bool, true, false, not, List, [], ◌∷◌, refl, ap, sym, subst}
use Rattle.std.specs.Prelude.{flat_map, is_some, map, nat_lt, option_and_then, Option, Some, None, Result, Ok, Err, if◌then◌else◌}
use Rattle.std.specs.FinMap as fin
use Rattle.std.specs.List.{list_all}
use Rattle.std.specs.Ordering.{nat_cmp}
use Rattle.std.proofs.lemmas.Bool.{false≢true, true≢false, and_parts}
use Rattle.std.proofs.lemmas.Bool.Decides.{nat_tests}
use Rattle.gs_base.specs.Members.{is_member}
use Rattle.gs_base.specs.declared.config.Config.{Config}
use Rattle.gs_base.specs.declared.epoch.EpochEnd.TheVariants as ends
use Rattle.gs_base.specs.declared.numbers.ReqId.{ReqId}
use Rattle.gs_base.specs.declared.refusal.Refusal.{Refusal}
use Rattle.gs_edit.specs.View.{NamesView}
use Rattle.gs_lease.specs.declared.view.Purpose.TheVariants as purposes
use Rattle.gs_lease.specs.declared.view.View.{View}
use Rattle.gs_msg.specs.declared.answer.Answer.{Answer}
use Rattle.gs_msg.specs.declared.answer.Answer.TheVariants as answers
use Rattle.gs_master_record.specs.Plain.{AddChunk, Create, Hide, Mkdirs, PlainEdit, PlainEntry, Rename, Snapshot, Unhide, Edited, Finalize, Holder, Prepare, Propose, Remove, RollbackBegin, RollbackCommit, Said, Settle, Whole}
use Rattle.gs_master_record.specs.declared.checkpoint.Phase.TheVariants.{Ordinary, Upgrade, Rolling}
use Rattle.gs_master_spec.specs.Applied.{after_edit, applied, are_at_rest, chunk_of_edit, held_by, is_next_epoch, may_be_settled, may_edit, may_propose, proposed, replayed, with_edit, with_epoch, with_view, without_prepared}
use Rattle.gs_master_spec.specs.Beginning.{begin_at, copy_plan, members_at, next_stamp}
use Rattle.gs_master_spec.specs.Chunks.{asking_for, chunk_at, has_entry, heard_no, heard_yes, holder_records, is_holder, target_of, with_answers}
use Rattle.gs_master_spec.specs.Durable.{Durable, is_given, is_listed, is_ordinary, is_upgrade, prepared_view, with_prepared}
use Rattle.gs_master_spec.specs.Handling.{awaits_first, without_place}
use Rattle.gs_master_spec.specs.State.{State, Plan, answer_changes, answered, fits, keeps_refusal, kept_in_memory, last_reply, said_changes, said_records, turned}
use Rattle.gs_master_spec.specs.Replies.{is_later}
use Rattle.gs_master_spec.specs.Calls.{accept_plan}
use Rattle.gs_master_spec.specs.Settling.{edit_plan, end_plan, own_request, replace_plan}
use Rattle.gs_master_spec.specs.Upgrades.{accepted_plan, chunk_count, tell_all}
use Rattle.gs_master_spec.specs.Undoing.{edited_names}
use Rattle.gs_master_spec.specs.Volatile.{Volatile, all_changed, changed, is_call, let_go, let_go_of, without_call}
use Rattle.gs_master_spec.specs.Working.{forget_if, scan_plan}
use Rattle.gs_master_spec.specs.declared.asking.Asking.{Asking}
use Rattle.gs_master_spec.specs.declared.change.Change.{Change}
use Rattle.gs_master_spec.specs.declared.change.Change.TheVariants as changes
use Rattle.gs_view.specs.Spoken.{with_no, with_yes}
use Rattle.gs_path.specs.Path.{Path}
use Rattle.gs_laws_master.specs.Promises.{AllFit}
use Rattle.gs_laws_master.proofs.lemmas.upgrades.Beginnings.{fits_gives}
use Rattle.gs_laws_master.proofs.lemmas.keeping.KeptEdits.{WasListed, listed_before}
use Rattle.gs_laws_master.proofs.lemmas.standing.Standing.{changed_more}
use Rattle.gs_laws_master.proofs.lemmas.standing.StandingCheckpoints.{member_was}
use Rattle.gs_laws_moves.proofs.lemmas.moves.Asked.{accepted_moving, answer_moving, asking_is, beside_moving, ended_asked, got, said_moving}
use Rattle.gs_laws_moves.proofs.lemmas.moves.Entries.{either}
use Rattle.gs_laws_moves.proofs.lemmas.moves.Kept.{settled_by}
use Rattle.gs_laws_moves.proofs.lemmas.moves.Leaving.{AskedFrom, all_removed, change_asked, same_asked}
use Rattle.gs_laws_moves.specs.moves.Guards.{ComesOf, Heard, IsMade, is_of_tree}
use Rattle.gs_laws_moves.specs.moves.Moved.{EachMovedSo, gives_handle, is_commit, proposes}
use Rattle.gs_laws_moves.specs.moves.Moves.{Alone, Beside, FromNow, Further, Move, Begins, Makes, Copies, Hears, Sends, Settles, Edits, Extends, CopiesTree, Replaces, Scans, Refuses, Answers as AnswersCall, Flags, Prepares, Finalizes, BeginsRollback, TellsRollback, CommitsRollback, Checkpoints, move_turn, plan_of_begin, plan_of_copy, plan_of_make, plan_of_refusal, plan_of_rollback, plan_of_settle, with_beside}

durable_is : {a b : Durable} → ◌≡◌ {A = Option Durable} (Some a) (Some b) → a ≡ b
durable_is k = cc

same_number : (a b : ℕ) → (a == b) ≡ true → a ≡ b
same_number a b h = grind (arith, nat_tests)

itself : (n : ℕ) → (n == n) ≡ true
itself n = grind (arith, nat_tests)

-- ---- which chunks are listed

is_chunk : ℕ → Option ℕ → Bool
is_chunk chunk None = false
is_chunk chunk (Some q) = q == chunk

-- a record that may put the chunk into a file
puts : ℕ → PlainEntry → Bool
puts chunk (Edited by edit) = is_chunk chunk (chunk_of_edit edit)
puts chunk (RollbackCommit epoch answers) = true
puts chunk (Whole c) = true
puts chunk entry = false

module _ (chunk : ℕ) where
  abbrev ListedFrom : Durable → Durable → Type 0
  ListedFrom d e = is_listed e chunk ≡ true → is_listed d chunk ≡ true

  same_names : (d e : Durable) → e.names ≡ d.names → ListedFrom d e
  same_names d e same listed = ap (λ (n : NamesView). is_some (fin.get n.refs chunk)) (sym same) ∙ listed

  edited_listed : (d e : Durable) (by : ReqId) (edit : PlainEdit) → is_chunk chunk (chunk_of_edit edit) ≡ false → (names : Result NamesView Refusal) → edited_names edit d.names ≡ names → after_edit d by edit names ≡ Some e → ListedFrom d e
  unfolding is_chunk
  edited_listed d e by edit other (Ok names) is fit listed =
      by_was (listed_before edit d.names names chunk is (ap (λ (x : Durable). is_some (fin.get x.names.refs chunk)) (fits_gives (may_edit d edit) (with_edit d by edit names) e fit).1 ∙ listed))
    where
      by_was : WasListed edit d.names.refs chunk → is_listed d chunk ≡ true
      by_was (inl same) = absurd (true≢false (sym (itself chunk) ∙ ap (is_chunk chunk) (sym same) ∙ other))
      by_was (inr was) = was.0
  edited_listed d e by edit other (Err refusal) is fit listed = absurd (false≢true (ap is_some fit))

  record_listed : (d e : Durable) (entry : PlainEntry) → puts chunk entry ≡ false → applied d entry ≡ Some e → ListedFrom d e
  unfolding applied puts
  record_listed d e (Edited by edit) other fit = edited_listed d e by edit other (edited_names edit d.names) refl fit
  record_listed d e (Said to refusal) other fit = same_names d e (ap (λ (x : Durable). x.names) (sym (durable_is fit)))
  record_listed d e (Propose q version) other fit = same_names d e (ap (λ (x : Durable). x.names) (sym (fits_gives (may_propose d.phase d.next_handle d.next_version q version (fin.get d.chunks q)) (proposed d q version) e fit).1))
  record_listed d e (Settle v) other fit = same_names d e (ap (λ (x : Durable). x.names) (sym (fits_gives (may_be_settled d v) (with_view d v) e fit).1))
  record_listed d e (Prepare epoch moment many) other fit =
      same_names d e (ap (λ (x : Durable). x.names) (sym (fits_gives (is_ordinary d.phase && (is_next_epoch d.epoch epoch && are_at_rest d)) (without_prepared (with_epoch d ends.Prepare Upgrade)) e fit).1))
  record_listed d e (Finalize epoch) other fit = same_names d e (ap (λ (x : Durable). x.names) (sym (fits_gives (is_upgrade d.phase && is_next_epoch d.epoch epoch) (without_prepared (with_epoch d ends.Finalize Ordinary)) e fit).1))
  record_listed d e (RollbackBegin epoch) other fit = same_names d e (ap (λ (x : Durable). x.names) (sym (fits_gives (is_upgrade d.phase && is_next_epoch d.epoch epoch) (with_epoch d ends.Rollback Rolling) e fit).1))
  record_listed d e (RollbackCommit epoch answers) other fit = absurd (true≢false other)
  record_listed d e (Whole c) other fit = absurd (true≢false other)
  record_listed d e (Holder q server) other fit =
      same_names d e (ap (λ (x : Durable). x.names) (sym (fits_gives (is_upgrade d.phase && (nat_lt server 16 && is_some (prepared_view d q))) (record d { prepared = with_prepared d q (held_by server (prepared_view d q)) }) e fit).1))

  records_listed : (entries : List PlainEntry) (d e : Durable) → list_all (λ x. not (puts chunk x)) entries ≡ true → replayed d entries ≡ Some e → ListedFrom d e
  records_listed [] d e all fit = same_names d e (ap (λ (x : Durable). x.names) (sym (durable_is fit)))
  records_listed (entry ∷ entries) d e all fit =
      let parts = and_parts (not (puts chunk entry)) (list_all (λ x. not (puts chunk x)) entries) all in
      by_first (applied d entry) refl fit (λ n is h listed. record_listed d n entry (not_so (puts chunk entry) parts.0) is (records_listed entries n e parts.1 h listed))
    where
      not_so : (b : Bool) → not b ≡ true → b ≡ false
      not_so true h = absurd (false≢true h)
      not_so false h = refl

      by_first : (o : Option Durable) → applied d entry ≡ o → option_and_then (λ n. replayed n entries) o ≡ Some e → ((n : Durable) → applied d entry ≡ Some n → replayed n entries ≡ Some e → ListedFrom d e) → ListedFrom d e
      by_first None is h rest = absurd (false≢true (ap is_some h))
      by_first (Some n) is h rest = rest n is h

  -- ---- which chunks are new

  abbrev pub NewFrom : Volatile → Volatile → Type 0
  NewFrom v w = is_member w.unplaced chunk ≡ true → is_member v.unplaced chunk ≡ true

  enters : Change → Bool
  enters (changes.Enter q) = q == chunk
  enters change = false

  entered : (xs : List ℕ) (q : ℕ) → (q == chunk) ≡ false → is_member (xs ++ q ∷ []) chunk ≡ true → is_member xs chunk ≡ true
  entered [] q other here = absurd (true≢false (sym here ∙ ap (λ b. b || false) other))
  entered (x ∷ xs) q other here = by_head (x == chunk) here (entered xs q other)
    where
      by_head : (b : Bool) → (b || is_member (xs ++ q ∷ []) chunk) ≡ true → (is_member (xs ++ q ∷ []) chunk ≡ true → is_member xs chunk ≡ true) → (b || is_member xs chunk) ≡ true
      by_head true k rest = refl
      by_head false k rest = rest k

  change_new : (v : Volatile) (change : Change) → enters change ≡ false → NewFrom v (changed v change)
  unfolding enters
  change_new v (changes.Enter q) other here = entered v.unplaced q other here
  change_new v (changes.Place q) other here = member_was (λ c. not (c == q)) v.unplaced chunk here
  change_new v (changes.Lose q) other here = member_was (λ c. not (c == q)) v.unplaced chunk here
  change_new v changes.RolledBack other here = absurd (false≢true here)
  change_new v change other here = here

  changes_new : (all : List Change) (v : Volatile) → list_all (λ c. not (enters c)) all ≡ true → NewFrom v (all_changed v all)
  changes_new [] v none here = here
  changes_new (change ∷ all) v none here =
      let parts = and_parts (not (enters change)) (list_all (λ c. not (enters c)) all) none in change_new v change (not_so (enters change) parts.0) (changes_new all (changed v change) parts.1 here)
    where
      not_so : (b : Bool) → not b ≡ true → b ≡ false
      not_so true h = absurd (false≢true h)
      not_so false h = refl

  loosed_new : (new : List ℕ) (req : ReqId) (es : List (ℕ × Asking)) (v : Volatile) → NewFrom v (all_changed v (flat_map (let_go_of new req) es))
  loosed_new new req [] v here = here
  loosed_new new req (e ∷ es) v here = by_call (λ w. loosed_new new req es w) (is_call req e.1.call) (is_member new e.0) here
    where
      by_call : ((w : Volatile) → NewFrom w (all_changed w (flat_map (let_go_of new req) es))) → (c n : Bool)
          → NewFrom v (all_changed v ((if not c then [] else if n then changes.Lose e.0 ∷ [] else changes.Ask e.0 (without_call e.1) ∷ []) ++ flat_map (let_go_of new req) es))
      by_call rest false n here = rest v here
      by_call rest true true here = member_was (λ c. not (c == e.0)) v.unplaced chunk (rest (changed v (changes.Lose (e.0))) here)
      by_call rest true false here = rest (changed v (changes.Ask (e.0) (without_call e.1))) here

  answer_new : (s : State) (v : Volatile) (req : ReqId) (answer : Answer) → NewFrom v (all_changed v (answer_changes s req answer))
  answer_new s v req answer = by_test (is_later (last_reply s req.client) req.number)
    where
      by_test : (b : Bool) → NewFrom v (all_changed v (if b then kept_in_memory req (Ok answer) ∷ [] else []))
      by_test true here = here
      by_test false here = here

  said_new : (s : State) (v : Volatile) (req : ReqId) (refusal : Refusal) → NewFrom v (all_changed v (said_changes (keeps_refusal s req refusal) s.log req refusal))
  said_new s v req refusal = by_test (keeps_refusal s req refusal && not (fits s.log (Said req refusal ∷ [])))
    where
      by_test : (b : Bool) → NewFrom v (all_changed v (if b then kept_in_memory req (Err refusal) ∷ [] else []))
      by_test true here = here
      by_test false here = here

  -- one list of changes behind another
  more_new : (xs ys : List Change) (v : Volatile) → NewFrom v (all_changed v xs) → NewFrom (all_changed v xs) (all_changed (all_changed v xs) ys) → NewFrom v (all_changed v (xs ++ ys))
  more_new xs ys v a b here = a (b (ap (λ (w : Volatile). is_member w.unplaced chunk) (sym (changed_more xs ys v)) ∙ here))

  beside_new : (s : State) (plan : Plan) (beside : Beside) → NewFrom s.volatile (all_changed s.volatile plan.changes) → NewFrom s.volatile (all_changed s.volatile (with_beside beside plan).changes)
  beside_new s plan Alone a = a
  beside_new s plan (FromNow req waiting) a = more_new plan.changes (changes.Begin (record { req = req; waits = waiting }) ∷ []) s.volatile a (λ here. here)
  beside_new s plan (Further req waiting) a = more_new plan.changes (changes.Wait req waiting ∷ []) s.volatile a (λ here. here)

  pub beside_records : (plan : Plan) (beside : Beside) → (with_beside beside plan).records ≡ plan.records
  beside_records plan Alone = refl
  beside_records plan (FromNow req waiting) = refl
  beside_records plan (Further req waiting) = refl

  -- ---- what a plan leaves

  plan_gone : (s : State) (plan : Plan) → list_all (λ x. not (puts chunk x)) plan.records ≡ true → NewFrom s.volatile (all_changed s.volatile plan.changes) → AllFit s (turned s plan) → has_entry (turned s plan).after chunk ≡ true → has_entry s chunk ≡ true
  plan_gone s plan none new fit known =
      let u = (turned s plan).after in
      either (is_listed u.durable chunk) (is_member u.volatile.unplaced chunk) (is_listed s.durable chunk) (is_member s.volatile.unplaced chunk) known (records_listed plan.records s.durable u.durable none fit) new

  abbrev Stamped : State → State → Move → Type 0
  Stamped s u move =
      (new : Asking) → fin.get u.volatile.moving chunk ≡ Some new → ((old : Asking) × (fin.get s.volatile.moving chunk ≡ Some old) × (new.stamp ≡ old.stamp)) ⊎ ((proposes s move chunk ≡ true) × (new.stamp ≡ next_stamp s.durable))

  stamped_from : (s u : State) (move : Move) → AskedFrom chunk s.volatile.moving u.volatile.moving → Stamped s u move
  stamped_from s u move from new has = (let p = from new has in inl (p.0, p.1, ap (λ (z : Asking). z.stamp) p.2))

  stamped_same : (s u : State) (move : Move) → u.volatile.moving ≡ s.volatile.moving → Stamped s u move
  stamped_same s u move same = stamped_from s u move (subst (AskedFrom chunk s.volatile.moving) (sym same) (same_asked chunk s.volatile.moving))

  found_now : (s u : State) (q : ℕ) (asking new : Asking) → u.volatile.moving ≡ fin.insert s.volatile.moving q asking → q ≡ chunk → fin.get u.volatile.moving chunk ≡ Some new → asking ≡ new
  found_now s u q asking new moving same has = asking_is (sym (got s.volatile.moving chunk asking) ∙ ap (λ c. fin.get (fin.insert s.volatile.moving c asking) chunk) (sym same) ∙ ap (λ m. fin.get m chunk) (sym moving) ∙ has)

  -- a view is proposed for it, or for another
  stamped_begun : (s u : State) (move : Move) (q : ℕ) (asking : Asking) → proposes s move chunk ≡ (q == chunk) → asking.stamp ≡ next_stamp s.durable → u.volatile.moving ≡ fin.insert s.volatile.moving q asking → Stamped s u move
  stamped_begun s u move q asking proposed_so stamp moving new has = by_key (q == chunk) refl
    where
      by_key : (b : Bool) → (q == chunk) ≡ b → ((old : Asking) × (fin.get s.volatile.moving chunk ≡ Some old) × (new.stamp ≡ old.stamp)) ⊎ ((proposes s move chunk ≡ true) × (new.stamp ≡ next_stamp s.durable))
      by_key true same = inr (proposed_so ∙ same, ap (λ (z : Asking). z.stamp) (sym (found_now s u q asking new moving (same_number q chunk same) has)) ∙ stamp)
      by_key false other = stamped_from s u move (subst (AskedFrom chunk s.volatile.moving) (sym moving) (change_asked chunk s.volatile (changes.Ask q asking) other)) new has

  -- it is asked for under the same stamp
  stamped_again : (s u : State) (move : Move) (q : ℕ) (old asking : Asking) → fin.get s.volatile.moving q ≡ Some old → asking.stamp ≡ old.stamp → u.volatile.moving ≡ fin.insert s.volatile.moving q asking → Stamped s u move
  stamped_again s u move q old asking was stamp moving new has = by_key (q == chunk) refl
    where
      by_key : (b : Bool) → (q == chunk) ≡ b → ((a : Asking) × (fin.get s.volatile.moving chunk ≡ Some a) × (new.stamp ≡ a.stamp)) ⊎ ((proposes s move chunk ≡ true) × (new.stamp ≡ next_stamp s.durable))
      by_key true same = inl (old, ap (fin.get s.volatile.moving) (sym (same_number q chunk same)) ∙ was, ap (λ (z : Asking). z.stamp) (sym (found_now s u q asking new moving (same_number q chunk same) has)) ∙ stamp)
      by_key false other = stamped_from s u move (subst (AskedFrom chunk s.volatile.moving) (sym moving) (change_asked chunk s.volatile (changes.Ask q asking) other)) new has

  yes_stamp : (old : Asking) (server count : ℕ) → (heard_yes old server count).stamp ≡ old.stamp
  yes_stamp old server count = by_test (is_member old.asked server)
    where
      by_test : (b : Bool) → (if b then with_answers old (with_yes old.answers server count) else old).stamp ≡ old.stamp
      by_test true = refl
      by_test false = refl

  no_stamp : (old : Asking) (server : ℕ) → (heard_no old server).stamp ≡ old.stamp
  no_stamp old server = by_test (is_member old.asked server)
    where
      by_test : (b : Bool) → (if b then with_answers old (with_no old.answers server) else old).stamp ≡ old.stamp
      by_test true = refl
      by_test false = refl

  heard_stamp : (heard : Heard) (q : ℕ) (old new : Asking) → ComesOf heard q old new → new.stamp ≡ old.stamp
  heard_stamp heard q old new (inl one) = ap (λ (z : Asking). z.stamp) one.4 ∙ yes_stamp old one.0 one.1
  heard_stamp heard q old new (inr one) = ap (λ (z : Asking). z.stamp) one.2 ∙ no_stamp old one.0

  -- the next handle was given to none
  not_next : (n : ℕ) → is_given n chunk ≡ true → (n == chunk) ≡ false
  not_next n given = by_test (n == chunk) refl
    where
      by_test : (b : Bool) → (n == chunk) ≡ b → b ≡ false
      by_test true same = absurd (clash (subst (λ x. is_given x chunk ≡ true) (same_number n chunk same) given))
        where
          clash : is_given chunk chunk ≡ true → ⊥
          clash g = absurd (grind (arith, nat_tests))
      by_test false same = refl

  scan_puts : (removed : List Path) (forgotten : List ℕ) → list_all (λ x. not (puts chunk x)) (map (Edited own_request) (map (λ path. Remove path) removed ++ forget_if forgotten)) ≡ true
  unfolding puts is_chunk
  scan_puts [] [] = refl
  scan_puts [] (c ∷ forgotten) = refl
  scan_puts (path ∷ removed) forgotten = scan_puts removed forgotten

  said_puts : (s : State) (req : ReqId) (refusal : Refusal) → list_all (λ x. not (puts chunk x)) (said_records (keeps_refusal s req refusal) s.log req refusal) ≡ true
  unfolding puts
  said_puts s req refusal = by_test (keeps_refusal s req refusal && fits s.log (Said req refusal ∷ []))
    where
      by_test : (b : Bool) → list_all (λ x. not (puts chunk x)) (if b then Said req refusal ∷ [] else []) ≡ true
      by_test true = refl
      by_test false = refl

  settle_puts : (b : Bool) (q : ℕ) (target : Option ℕ) (view : View) → list_all (λ x. not (puts chunk x)) (holder_records b q target ++ Settle (record { handle = q; view = view }) ∷ []) ≡ true
  unfolding puts
  settle_puts b q None view = refl
  settle_puts true q (Some target) view = refl
  settle_puts false q (Some target) view = refl

  tree_puts : (edit : PlainEdit) → is_of_tree edit ≡ true → (not (is_chunk chunk (chunk_of_edit edit)) && true) ≡ true
  unfolding is_chunk
  tree_puts (Mkdirs path) tree = refl
  tree_puts (Create path) tree = refl
  tree_puts (Rename from to) tree = refl
  tree_puts (Hide path moment number) tree = refl
  tree_puts (Unhide path) tree = refl
  tree_puts (Snapshot from to) tree = refl
  tree_puts edit tree = absurd (false≢true tree)

  -- a chunk gets its place, which was known
  placed_gone : (s : State) (plan : Plan) (q : ℕ) → has_entry s q ≡ true → ((q == chunk) ≡ false → list_all (λ x. not (puts chunk x)) plan.records ≡ true) → NewFrom s.volatile (all_changed s.volatile plan.changes) → AllFit s (turned s plan) → has_entry (turned s plan).after chunk ≡ true → has_entry s chunk ≡ true
  placed_gone s plan q at_q none new fit known = by_key (q == chunk) refl
    where
      by_key : (b : Bool) → (q == chunk) ≡ b → has_entry s chunk ≡ true
      by_key true same = ap (has_entry s) (sym (same_number q chunk same)) ∙ at_q
      by_key false other = plan_gone s plan (none other) new fit known

  module _ (config : Config) (heard : Heard) (s : State) where
    stamped_by : (move : Move) → IsMade config heard s move → Stamped s (move_turn config s move).after move
    stamped_by (Begins q purpose call beside) made = stamped_begun s (move_turn config s (Begins q purpose call beside)).after (Begins q purpose call beside) q (asking_for (next_stamp s.durable) purpose (members_at (chunk_at s q)) call) refl refl (beside_moving s (begin_at s q purpose call) beside)
    stamped_by (Makes targets req path) made = stamped_begun s (move_turn config s (Makes targets req path)).after (Makes targets req path) s.durable.next_handle (asking_for (next_stamp s.durable) purposes.Quiet targets (Some req)) refl refl refl
    stamped_by (Copies old view req beside) made =
        stamped_begun s (move_turn config s (Copies old view req beside)).after (Copies old view req beside) s.durable.next_handle (asking_for (next_stamp s.durable) purposes.Quiet view.members (Some req)) refl refl
        (beside_moving s (copy_plan (next_stamp s.durable) old view s.durable.next_handle req) beside)
    stamped_by (Hears q new) made = stamped_again s (move_turn config s (Hears q new)).after (Hears q new) q made.may.old new made.may.has (heard_stamp heard q made.may.old new made.may.comes) refl
    stamped_by (Sends q asking source target) made = stamped_again s (move_turn config s (Sends q asking source target)).after (Sends q asking source target) q asking (record asking { source = Some source }) made.may.has refl refl
    stamped_by (Settles q asking carried view) made = stamped_from s (move_turn config s (Settles q asking carried view)).after (Settles q asking carried view) (change_asked chunk s.volatile (changes.Settled q) refl)
    stamped_by (Scans gone forgotten) made = stamped_from s (move_turn config s (Scans gone forgotten)).after (Scans gone forgotten) (change_asked chunk s.volatile (changes.Forget forgotten) refl)
    stamped_by (Refuses req refusal true) made = stamped_from s (move_turn config s (Refuses req refusal true)).after (Refuses req refusal true) (ended_asked chunk s req refusal).0
    stamped_by (Refuses req refusal false) made =
        stamped_same s (move_turn config s (Refuses req refusal false)).after (Refuses req refusal false) (ap (λ (v : Volatile). v.moving) (changed_more (said_changes (keeps_refusal s req refusal) s.log req refusal) [] s.volatile) ∙ (said_moving s req refusal).0)
    stamped_by (AnswersCall req answer true) made =
        stamped_same s (move_turn config s (AnswersCall req answer true)).after (AnswersCall req answer true) (ap (λ (v : Volatile). v.moving) (changed_more (answer_changes s req answer) (changes.End req ∷ []) s.volatile) ∙ (answer_moving s s.volatile req answer).0)
    stamped_by (AnswersCall req answer false) made = stamped_same s (move_turn config s (AnswersCall req answer false)).after (AnswersCall req answer false) (answer_moving s s.volatile req answer).0
    stamped_by (Flags req preparing epoch) made = stamped_same s (move_turn config s (Flags req preparing epoch)).after (Flags req preparing epoch) (accepted_moving s (changes.Prepare preparing ∷ []) req (answers.Epoch epoch)).0
    stamped_by (Prepares req moment) made = stamped_same s (move_turn config s (Prepares req moment)).after (Prepares req moment) (accepted_moving s (changes.Prepare false ∷ []) req (answers.Epoch (s.durable.epoch + 1))).0
    stamped_by (Finalizes req) made = stamped_same s (move_turn config s (Finalizes req)).after (Finalizes req) (accepted_moving s [] req (answers.Epoch (s.durable.epoch + 1))).0
    stamped_by (TellsRollback req epoch) made = stamped_same s (move_turn config s (TellsRollback req epoch)).after (TellsRollback req epoch) (accepted_moving s [] req (answers.Epoch epoch)).0
    stamped_by (CommitsRollback req names) made =
        λ new has. absurd (false≢true (sym (ap is_some (ap (λ x. fin.get x chunk) (accepted_moving s (changes.RolledBack ∷ []) req (answers.Epoch s.durable.epoch)).0 ∙ fin.get-empty nat_cmp chunk)) ∙ ap is_some has))
    stamped_by Checkpoints made = λ new has. inl (new, all_removed chunk (without_place s) s.volatile.moving new has, refl)
    stamped_by move made = stamped_same s (move_turn config s move).after move refl

    gone_by : (move : Move) → IsMade config heard s move → is_commit move ≡ false → is_given s.durable.next_handle chunk ≡ true → has_entry (move_turn config s move).after chunk ≡ true → has_entry s chunk ≡ true
    unfolding puts is_chunk enters
    gone_by (Begins q purpose call beside) made other given known = plan_gone s (plan_of_begin s q purpose call beside) (ap (list_all (λ x. not (puts chunk x))) (beside_records (begin_at s q purpose call) beside)) (beside_new s (begin_at s q purpose call) beside (λ here. here)) made.fits known
    gone_by (Makes targets req path) made other given known =
        plan_gone s (plan_of_make s targets req path) refl (changes_new (plan_of_make s targets req path).changes s.volatile (ap (λ b. not b && true) (not_next s.durable.next_handle given))) made.fits known
    gone_by (Copies old view req beside) made other given known =
        let plan = copy_plan (next_stamp s.durable) old view s.durable.next_handle req in
        plan_gone s (plan_of_copy s old view req beside) (ap (list_all (λ x. not (puts chunk x))) (beside_records plan beside)) (beside_new s plan beside (changes_new plan.changes s.volatile (ap (λ b. not b && true) (not_next s.durable.next_handle given)))) made.fits known
    gone_by (Settles q asking carried view) made other given known =
        plan_gone s (plan_of_settle s q asking carried view) (settle_puts (is_holder s.durable.phase (prepared_view s.durable q) carried asking view) q (target_of asking.purpose) view) (λ here. here) made.fits known
    gone_by (Edits req edit answer) made other given known = plan_gone s (accept_plan req edit answer) (tree_puts edit made.may.tree) (λ here. here) made.fits known
    gone_by (Extends req path q view) made other given known =
        let plan = edit_plan req (AddChunk path q) (answers.Location q view s.durable.epoch) (changes.Place q ∷ []) in
        placed_gone s plan q made.may.2 (λ apart. ap (λ b. not b && true) apart) (changes_new plan.changes s.volatile refl) made.fits known
    gone_by (Replaces path index old new) made other given known =
        let plan = replace_plan path index old new in placed_gone s plan new made.may.2 (λ apart. ap (λ b. not b && true) apart) (changes_new plan.changes s.volatile refl) made.fits known
    gone_by (Scans gone forgotten) made other given known = plan_gone s (scan_plan gone forgotten) (scan_puts gone forgotten) (λ here. here) made.fits known
    gone_by (Refuses req refusal true) made other given known =
        let first = said_changes (keeps_refusal s req refusal) s.log req refusal in
        let v = all_changed s.volatile first in
        plan_gone s (plan_of_refusal s req refusal true) (said_puts s req refusal)
        (more_new first (let_go s.volatile req ++ changes.End req ∷ []) s.volatile (said_new s s.volatile req refusal) (more_new (let_go s.volatile req) (changes.End req ∷ []) v (loosed_new s.volatile.unplaced req (fin.entries s.volatile.moving) v) (λ here. here))) made.fits known
    gone_by (Refuses req refusal false) made other given known =
        plan_gone s (plan_of_refusal s req refusal false) (said_puts s req refusal) (more_new (said_changes (keeps_refusal s req refusal) s.log req refusal) [] s.volatile (said_new s s.volatile req refusal) (λ here. here)) made.fits known
    gone_by (AnswersCall req answer true) made other given known =
        plan_gone s (end_plan s req answer) refl (more_new (answer_changes s req answer) (changes.End req ∷ []) s.volatile (answer_new s s.volatile req answer) (λ here. here)) made.fits known
    gone_by (AnswersCall req answer false) made other given known = plan_gone s (answered s req answer) refl (answer_new s s.volatile req answer) made.fits known
    gone_by (Flags req preparing epoch) made other given known =
        plan_gone s (accepted_plan s req [] (changes.Prepare preparing ∷ []) [] epoch) refl (more_new (changes.Prepare preparing ∷ []) (answer_changes s req (answers.Epoch epoch)) s.volatile (λ here. here) (answer_new s _ req (answers.Epoch epoch))) made.fits known
    gone_by (Prepares req moment) made other given known =
        let epoch = s.durable.epoch + 1 in
        plan_gone s (accepted_plan s req (Prepare epoch moment.0 (chunk_count s) ∷ []) (changes.Prepare false ∷ []) (tell_all config epoch ends.Prepare) epoch) refl
        (more_new (changes.Prepare false ∷ []) (answer_changes s req (answers.Epoch epoch)) s.volatile (λ here. here) (answer_new s _ req (answers.Epoch epoch))) made.fits known
    gone_by (Finalizes req) made other given known =
        let epoch = s.durable.epoch + 1 in plan_gone s (accepted_plan s req (Finalize epoch ∷ []) [] (tell_all config epoch ends.Finalize) epoch) refl (answer_new s s.volatile req (answers.Epoch epoch)) made.fits known
    gone_by (TellsRollback req epoch) made other given known = plan_gone s (accepted_plan s req [] [] (tell_all config epoch ends.Rollback) epoch) refl (answer_new s s.volatile req (answers.Epoch epoch)) made.fits known
    gone_by BeginsRollback made other given known = plan_gone s (plan_of_rollback s) refl (λ here. here) made.fits known
    gone_by (CopiesTree req from to) made other given known = plan_gone s (edit_plan req (Snapshot from to) answers.Nothing []) refl (λ here. here) made.fits known
    gone_by (CommitsRollback req names) made other given known = absurd (true≢false other)
    gone_by Checkpoints made other given known =
        either (is_listed s.durable chunk) (is_member (move_turn config s Checkpoints).after.volatile.unplaced chunk) (is_listed s.durable chunk) (is_member s.volatile.unplaced chunk) known (λ listed. listed) (λ here. member_was (awaits_first s) s.volatile.unplaced chunk here)
    gone_by move made other given known = known

    -- a chunk is new only where a handle is given
    pub new_by : (move : Move) → IsMade config heard s move → gives_handle move ≡ false → NewFrom s.volatile (move_turn config s move).after.volatile
    unfolding enters
    new_by (Begins q purpose call beside) made other = beside_new s (begin_at s q purpose call) beside (λ here. here)
    new_by (Makes targets req path) made other = absurd (true≢false other)
    new_by (Copies old view req beside) made other = absurd (true≢false other)
    new_by (Extends req path q view) made other = changes_new (changes.Place q ∷ []) s.volatile refl
    new_by (Replaces path index old new) made other = changes_new (changes.Place new ∷ []) s.volatile refl
    new_by (Refuses req refusal true) made other =
        let first = said_changes (keeps_refusal s req refusal) s.log req refusal in
        let v = all_changed s.volatile first in
        more_new first (let_go s.volatile req ++ changes.End req ∷ []) s.volatile (said_new s s.volatile req refusal) (more_new (let_go s.volatile req) (changes.End req ∷ []) v (loosed_new s.volatile.unplaced req (fin.entries s.volatile.moving) v) (λ here. here))
    new_by (Refuses req refusal false) made other = more_new (said_changes (keeps_refusal s req refusal) s.log req refusal) [] s.volatile (said_new s s.volatile req refusal) (λ here. here)
    new_by (AnswersCall req answer true) made other = more_new (answer_changes s req answer) (changes.End req ∷ []) s.volatile (answer_new s s.volatile req answer) (λ here. here)
    new_by (AnswersCall req answer false) made other = answer_new s s.volatile req answer
    new_by (Flags req preparing epoch) made other = more_new (changes.Prepare preparing ∷ []) (answer_changes s req (answers.Epoch epoch)) s.volatile (λ here. here) (answer_new s _ req (answers.Epoch epoch))
    new_by (Prepares req moment) made other = more_new (changes.Prepare false ∷ []) (answer_changes s req (answers.Epoch (s.durable.epoch + 1))) s.volatile (λ here. here) (answer_new s _ req (answers.Epoch (s.durable.epoch + 1)))
    new_by (Finalizes req) made other = answer_new s s.volatile req (answers.Epoch (s.durable.epoch + 1))
    new_by (TellsRollback req epoch) made other = answer_new s s.volatile req (answers.Epoch epoch)
    new_by (CommitsRollback req names) made other = λ here. absurd (false≢true (answer_new s (changed s.volatile changes.RolledBack) req (answers.Epoch s.durable.epoch) here))
    new_by Checkpoints made other = member_was (awaits_first s) s.volatile.unplaced chunk
    new_by move made other = λ here. here

pub each_moved_so : EachMovedSo
each_moved_so config heard s move chunk made = record { stamped = stamped_by chunk config heard s move made; gone = gone_by chunk config heard s move made; settled = settled_by chunk config heard s move made }
