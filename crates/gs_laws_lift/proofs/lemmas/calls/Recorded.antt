-- Each record is for its call.
use Rattle.std.proofs.Common.{◌≡◌, ◌∙◌, ◌⊎◌, inl, inr, ◌&&◌, ◌++◌, ℕ, Bool, true, false, List, [], ◌∷◌, map, refl, ap, sym, subst}
use Rattle.std.specs.Prelude.{is_none, is_some, slice_get, Option, Some, None, Ok, if◌then◌else◌}
use Rattle.std.specs.FinMap as fin
use Rattle.std.specs.List.{AllByRecursion}
use Rattle.std.proofs.lemmas.Bool.{and_parts, false≢true, true≢false}
use Rattle.gs_base.specs.declared.config.Config.{Config}
use Rattle.gs_base.specs.declared.numbers.Moment.{Moment}
use Rattle.gs_base.specs.declared.numbers.ReqId.{ReqId}
use Rattle.gs_base.specs.declared.refusal.Refusal.{Refusal}
use Rattle.gs_edit.specs.Edits.{has_reference, holds_chunk}
use Rattle.gs_edit.specs.View.{NamesView}
use Rattle.gs_edit.specs.declared.edit.Edit.TheVariants as edits
use Rattle.gs_lease.specs.declared.view.View.{View}
use Rattle.gs_msg.specs.declared.answer.Answer.{Answer}
use Rattle.gs_msg.specs.declared.call.Call.{Call}
use Rattle.gs_msg.specs.declared.call.Call.TheVariants as calls
use Rattle.gs_path.specs.Path.{Path}
use Rattle.gs_edit.proofs.Tables.{same_path-is}
use Rattle.gs_master_spec.specs.declared.pending.Waiting.{Waiting}
use Rattle.gs_master_spec.specs.declared.pending.Waiting.TheVariants as waits
use Rattle.gs_tree.specs.Edits.{chunks_in, same_path}
use Rattle.gs_tree.specs.Find.{at}
use Rattle.gs_laws_moves.proofs.lemmas.moves.GivenNames.{names_given}
use Rattle.gs_laws_master.proofs.lemmas.names.EditsBack.{admitted}
use Rattle.gs_laws_master.proofs.lemmas.names.Undone.{was_named}
use Rattle.gs_master_record.specs.Plain.{AddChunk, Cow, Create, Edited, Finalize, Forget, Hide, Holder, Mkdirs, PlainEdit, PlainEntry, Prepare, Propose, Remove, Rename, RollbackBegin, RollbackCommit, Said, Settle, Snapshot, Unhide, Whole}
use Rattle.gs_master_spec.specs.Chunks.{holder_records, is_holder, target_of}
use Rattle.gs_master_spec.specs.Durable.{prepared_view}
use Rattle.gs_master_spec.specs.Settling.{own_request}
use Rattle.gs_master_spec.specs.State.{State, Turn, fits, joined, keeps_refusal, said_records, reply_to}
use Rattle.gs_master_spec.specs.Undoing.{edited_names}
use Rattle.gs_master_spec.specs.Working.{scan_edits}
use Rattle.gs_laws_lift.proofs.lemmas.copies.Counted.{is_listed_there}
use Rattle.gs_laws_lift.proofs.lemmas.copies.Held.{is_that, within_commit}
use Rattle.gs_laws_lift.proofs.lemmas.copies.Locked.{one_so}
use Rattle.gs_laws_lift.proofs.lemmas.copies.Locks.{in_left, in_right}
use Rattle.gs_msg.specs.declared.message.Message.{Message}
use Rattle.gs_laws_lift.specs.copies.Held.{IsIn}
use Rattle.gs_laws_moves.proofs.lemmas.moves.Fitting.{mapped}
use Rattle.gs_laws_moves.proofs.lemmas.moves.Free.{cow_here}
use Rattle.gs_laws_moves.proofs.lemmas.moves.Locations.{located_are_right}
use Rattle.gs_laws_moves.proofs.lemmas.moves.Right.{one_fits}
use Rattle.gs_laws_moves.specs.moves.Epochs.{ByItself, Closes, EndsOnce, Within, closes, is_alone, is_followed}
use Rattle.gs_laws_moves.specs.moves.ForCalls.{HasChunks, IsEditOf, IsFor, IsMadeWellFor, StandsAt, waits_for_tree}
use Rattle.gs_msg.specs.declared.answer.Answer.TheVariants as answers
use Rattle.gs_laws_moves.specs.moves.Guards.{Heard, IsLocatedBy, IsMade, is_of_tree, waits_for_copy}
use Rattle.gs_laws_moves.specs.moves.Moved.{is_commit}
use Rattle.gs_laws_moves.specs.moves.Moves.{Alone, Chain, FromNow, Further, Move, Moves, Rests, Then, Begins, Makes, Copies, Hears, Sends, Settles, Edits, Extends, CopiesTree, Replaces, Scans, Refuses, Answers as AnswersCall, Waits, Restores, Says, Flags, Prepares, Finalizes, BeginsRollback, TellsRollback, CommitsRollback, Checkpoints, move_turn}
use Rattle.gs_laws_lift.proofs.lemmas.calls.Told.{added_for}
use Rattle.gs_laws_lift.proofs.lemmas.calls.Waits.{Usual, chain_asked}
use Rattle.gs_laws_lift.specs.calls.Recorded.{IsRecordedFor, IsWrittenWithin, RecordsAreFor}
use Rattle.gs_laws_lift.specs.calls.Waits.{AreAskedFor, HearsOneOf, WaitsFor, WasCalled, WasToWrite}

-- ---- which move writes which record

abbrev EntryBy : Move → PlainEntry → Type 0
EntryBy m (Edited by (AddChunk path chunk)) = (view : View) × (m ≡ Extends by path chunk view)
EntryBy m (Edited by (Cow path index old new)) = (by ≡ own_request) × (m ≡ Replaces path index old new)
EntryBy m (Edited by (Remove path)) = (by ≡ own_request) × (removed : List Path) × (forgotten : List ℕ) × (m ≡ Scans removed forgotten)
EntryBy m (Edited by (Forget chunks)) = (by ≡ own_request) × (removed : List Path) × (forgotten : List ℕ) × (m ≡ Scans removed forgotten)
EntryBy m (Edited by (Snapshot from to)) = ((answer : Answer) × (m ≡ Edits by (Snapshot from to) answer)) ⊎ (m ≡ CopiesTree by from to)
EntryBy m (Edited by edit) = (answer : Answer) × (m ≡ Edits by edit answer)
EntryBy m (Prepare epoch moment chunks) = (req : ReqId) × (now : Moment) × (m ≡ Prepares req now)
EntryBy m (Finalize epoch) = (req : ReqId) × (m ≡ Finalizes req)
EntryBy m (RollbackBegin epoch) = m ≡ BeginsRollback
EntryBy m (RollbackCommit epoch told) = (req : ReqId) × (names : NamesView) × (m ≡ CommitsRollback req names)
EntryBy m entry = Unit {0}

edit_entry : (req : ReqId) (edit : PlainEdit) (answer : Answer) → is_of_tree edit ≡ true → EntryBy (Edits req edit answer) (Edited req edit)
edit_entry req (Mkdirs p) answer is = (answer, refl)
edit_entry req (Create p) answer is = (answer, refl)
edit_entry req (Rename from to) answer is = (answer, refl)
edit_entry req (Hide p moment number) answer is = (answer, refl)
edit_entry req (Unhide p) answer is = (answer, refl)
edit_entry req (Snapshot from to) answer is = inl (answer, refl)
edit_entry req (AddChunk path chunk) answer is = absurd (false≢true is)
edit_entry req (Cow path index old new) answer is = absurd (false≢true is)
edit_entry req (Remove p) answer is = absurd (false≢true is)
edit_entry req (Forget chunks) answer is = absurd (false≢true is)

module _ (removed : List Path) (forgotten : List ℕ) where
  scan_entries : (paths : List Path) (chunks : List ℕ) → AllByRecursion (EntryBy (Scans removed forgotten)) (map (Edited own_request) (scan_edits paths chunks))
  scan_entries [] [] = tt
  scan_entries [] (c ∷ chunks) = ((refl, removed, forgotten, refl), tt)
  scan_entries (p ∷ paths) chunks = ((refl, removed, forgotten, refl), scan_entries paths chunks)

module _ (config : Config) (heard : Heard) (s : State) where
  settle_entries : (m : Move) (b : Bool) (q : ℕ) (target : Option ℕ) (view : View) → AllByRecursion (EntryBy m) (holder_records b q target ++ Settle (record { handle = q; view = view }) ∷ [])
  settle_entries m b q None view = (tt, tt)
  settle_entries m true q (Some target) view = (tt, (tt, tt))
  settle_entries m false q (Some target) view = (tt, tt)

  said_entries : (m : Move) (req : ReqId) (refusal : Refusal) → AllByRecursion (EntryBy m) (said_records (keeps_refusal s req refusal) s.log req refusal)
  said_entries m req refusal = by_test (keeps_refusal s req refusal && fits s.log (Said req refusal ∷ []))
    where
      by_test : (b : Bool) → AllByRecursion (EntryBy m) (if b then Said req refusal ∷ [] else [])
      by_test true = (tt, tt)
      by_test false = tt

  move_entries : (move : Move) → IsMade config heard s move → AllByRecursion (EntryBy move) (move_turn config s move).records
  move_entries (Begins q purpose call Alone) made = (tt, tt)
  move_entries (Begins q purpose call (FromNow req waiting)) made = (tt, tt)
  move_entries (Begins q purpose call (Further req waiting)) made = (tt, tt)
  move_entries (Makes targets req path) made = (tt, tt)
  move_entries (Copies old view req Alone) made = (tt, tt)
  move_entries (Copies old view req (FromNow by waiting)) made = (tt, tt)
  move_entries (Copies old view req (Further by waiting)) made = (tt, tt)
  move_entries (Hears q asking) made = tt
  move_entries (Sends q asking source target) made = tt
  move_entries (Settles q asking carried view) made = settle_entries (Settles q asking carried view) (is_holder s.durable.phase (prepared_view s.durable q) carried asking view) q (target_of asking.purpose) view
  move_entries (Edits req edit answer) made = (edit_entry req edit answer made.may.tree, tt)
  move_entries (Extends req path chunk view) made = ((view, refl), tt)
  move_entries (CopiesTree req from to) made = (inr refl, tt)
  move_entries (Replaces path index old new) made = ((refl, refl), tt)
  move_entries (Scans removed forgotten) made = scan_entries removed forgotten removed forgotten
  move_entries (Refuses req refusal over) made = said_entries (Refuses req refusal over) req refusal
  move_entries (AnswersCall req answer true) made = tt
  move_entries (AnswersCall req answer false) made = tt
  move_entries (Waits req waiting) made = tt
  move_entries (Restores server chunks) made = tt
  move_entries (Says messages) made = tt
  move_entries (Flags req preparing epoch) made = tt
  move_entries (Prepares req moment) made = ((req, moment, refl), tt)
  move_entries (Finalizes req) made = ((req, refl), tt)
  move_entries BeginsRollback made = (refl, tt)
  move_entries (TellsRollback req epoch) made = tt
  move_entries (CommitsRollback req names) made = ((req, names, refl), tt)
  move_entries Checkpoints made = (tt, tt)

-- ---- lists

each_entry : (P : PlainEntry → Type 0) (xs : List PlainEntry) → ((x : PlainEntry) → IsIn x xs → P x) → AllByRecursion P xs
each_entry P [] each = tt
each_entry P (x ∷ xs) each = (each x (inl refl), each_entry P xs (λ y here. each y (inr here)))

one_entry : (P : PlainEntry → Type 0) (xs : List PlainEntry) (x : PlainEntry) → AllByRecursion P xs → IsIn x xs → P x
one_entry P [] x all here = absurd here
one_entry P (y ∷ xs) x all (inl same) = subst P same all.0
one_entry P (y ∷ xs) x all (inr here) = one_entry P xs x all.1 here

all_weaker : (P Q : PlainEntry → Type 0) → ((x : PlainEntry) → P x → Q x) → (xs : List PlainEntry) → AllByRecursion P xs → AllByRecursion Q xs
all_weaker P Q f [] all = tt
all_weaker P Q f (x ∷ xs) all = (f x all.0, all_weaker P Q f xs all.1)

all_both : (P : PlainEntry → Type 0) (xs ys : List PlainEntry) → AllByRecursion P xs → AllByRecursion P ys → AllByRecursion P (xs ++ ys)
all_both P [] ys a b = b
all_both P (x ∷ xs) ys a b = (a.0, all_both P xs ys a.1 b)

-- ---- each record is one of a move

record Written (config : Config) (Holds : State → Move → Type 0) (s : State) (t : Turn) (entry : PlainEntry) : Type 0 where
  before : Turn
  first : Chain config Holds s before
  move : Move
  holds : Holds before.after move
  among : IsIn entry (move_turn config before.after move).records
  sends : (m : Message) → IsIn m (move_turn config before.after move).sent → IsIn m t.sent
  next : Turn
  rest : Chain config Holds (move_turn config before.after move).after next
  last : t.after ≡ next.after

module _ (config : Config) (Holds : State → Move → Type 0) where
  one_written : (s : State) (move : Move) (said : Option Refusal) (entry : PlainEntry) → Holds s move → IsIn entry (move_turn config s move).records → Written config Holds s (record (move_turn config s move) { said = said }) entry
  one_written s move said entry holds here = record {
    before = record { after = s; records = []; sent = []; said = None };
    first = Rests s None;
    move = move;
    holds = holds;
    among = here;
    sends = λ m there. there;
    next = record { after = (move_turn config s move).after; records = []; sent = []; said = None };
    rest = Rests (move_turn config s move).after None;
    last = refl;
  }

  then_written : (s : State) (t next : Turn) (entry : PlainEntry) → Chain config Holds t.after next → Written config Holds s t entry → Written config Holds s (joined t next) entry
  then_written s t next entry chain w = record {
    before = w.before;
    first = w.first;
    move = w.move;
    holds = w.holds;
    among = w.among;
    sends = λ m here. in_left m t.sent next.sent (w.sends m here);
    next = joined w.next next;
    rest = Then (move_turn config w.before.after w.move).after w.next next w.rest (subst (λ x. Chain config Holds x next) w.last chain);
    last = refl;
  }

  written_then : (s : State) (t next : Turn) (entry : PlainEntry) → Chain config Holds s t → Written config Holds t.after next entry → Written config Holds s (joined t next) entry
  written_then s t next entry chain w = record { before = joined t w.before; first = Then s t w.before chain w.first; move = w.move; holds = w.holds; among = w.among; sends = λ m here. in_right m t.sent next.sent (w.sends m here); next = w.next; rest = w.rest; last = w.last }

  chain_written : (s : State) (t : Turn) → Chain config Holds s t → AllByRecursion (Written config Holds s t) t.records
  chain_written s t (Rests u said) = tt
  chain_written s t (Moves u move said holds) = each_entry (Written config Holds u (record (move_turn config u move) { said = said })) (move_turn config u move).records (λ entry here. one_written u move said entry holds here)
  chain_written s t (Then u first next a b) =
      all_both (Written config Holds u (joined first next)) first.records next.records (all_weaker (Written config Holds u first) (Written config Holds u (joined first next)) (λ entry w. then_written u first next entry b w) first.records (chain_written u first a))
      (all_weaker (Written config Holds first.after next) (Written config Holds u (joined first next)) (λ entry w. written_then u first next entry a w) next.records (chain_written first.after next b))

-- ---- moves by which an epoch ends, a rollback is done, or chunks are forgotten

abbrev is_ending : Move → Bool
is_ending (Scans removed forgotten) = true
is_ending (Prepares req moment) = true
is_ending (Finalizes req) = true
is_ending BeginsRollback = true
is_ending (CommitsRollback req names) = true
is_ending move = false

within_ending : (move : Move) → is_alone move ≡ false → is_ending move ≡ false
within_ending (Scans removed forgotten) h = absurd (true≢false h)
within_ending (Prepares req moment) h = absurd (true≢false h)
within_ending (Finalizes req) h = absurd (true≢false h)
within_ending BeginsRollback h = absurd (true≢false h)
within_ending (CommitsRollback req names) h = absurd (true≢false h)
within_ending move h = refl

followed_ending : (move : Move) → is_followed move ≡ true → is_ending move ≡ true
followed_ending (Scans removed forgotten) h = refl
followed_ending BeginsRollback h = refl
followed_ending move h = absurd (false≢true h)

ending_commit : (move : Move) → is_ending move ≡ false → is_commit move ≡ false
ending_commit (CommitsRollback req names) h = absurd (true≢false h)
ending_commit move h = refl

-- a copy that takes its place was in no file
copied_out : (path : Path) (index old new : ℕ) (names after : NamesView) → edited_names (Cow path index old new) names ≡ Ok after → is_some (fin.get names.refs new) ≡ false
copied_out path index old new names after e =
    let n = was_named (Cow path index old new) names after e in
    let asked = (admitted (edits.Cow path index old new) (fin.entries names.tree) names.refs (n.rows, n.refs) n.made).asked in
    none_no (fin.get names.refs new) (and_parts (is_none (fin.get names.refs new)) (holds_chunk (slice_get (chunks_in (at (fin.entries names.tree) path)) index) old && has_reference (fin.get names.refs old)) asked).0
  where
    none_no : (o : Option ℕ) → is_none o ≡ true → is_some o ≡ false
    none_no None h = refl
    none_no (Some n) h = absurd (false≢true h)

module _ (all : List (ReqId × Call)) (config : Config) (heard : Heard) (hears : HearsOneOf all heard) where
  -- ---- what puts a chunk into a file

  add_for : (u : State) (m : Move) (by : ReqId) (path : Path) (chunk : ℕ) (view : View) → m ≡ Extends by path chunk view → IsMadeWellFor config heard u m → AreAskedFor all u
      → (index : ℕ) × WasCalled all by (calls.Extend path index) × HasChunks u.durable.names path index × StandsAt (move_turn config u m).after.durable.names path index chunk
      × IsIn (reply_to by (Ok (answers.Location chunk view u.durable.epoch))) (move_turn config u m).sent × IsLocatedBy (move_turn config u m).after chunk view u.durable.epoch
  add_for u m by path chunk view is well k =
      let P : Move → Type 0 = λ x. (index : ℕ) × WasCalled all by (calls.Extend path index) × HasChunks u.durable.names path index × StandsAt (move_turn config u x).after.durable.names path index chunk
      × IsIn (reply_to by (Ok (answers.Location chunk view u.durable.epoch))) (move_turn config u x).sent × IsLocatedBy (move_turn config u x).after chunk view u.durable.epoch in
      let one = added_for all config heard hears u by path chunk view (subst (IsMadeWellFor config heard u) is well) k in
      subst P (sym is) (one.0, one.1, one.2, one.3, inl refl, located_are_right config heard u (Extends by path chunk view) by chunk view u.durable.epoch (subst (IsMadeWellFor config heard u) is well).0.made (refl, refl, refl, refl))

  replaced_for : (u : State) (path : Path) (index old new : ℕ) → IsMadeWellFor config heard u (Replaces path index old new) → AreAskedFor all u
      → (req : ReqId) × WasToWrite all req path index × StandsAt u.durable.names path index old × StandsAt (move_turn config u (Replaces path index old new)).after.durable.names path index new
  replaced_for u path index old new well k =
      let v = (move_turn config u (Replaces path index old new)).after in
      let names = names_given u.durable v.durable own_request (Cow path index old new) (one_fits u.durable v.durable (Edited own_request (Cow path index old new)) well.0.made.fits) in
      let e = one_so well.0.made.may.3.0 (waits_for_copy path index old new) u.volatile.pending well.0.made.may.3.1 in
      let had = subst (WaitsFor all u.durable.names e.0.req) (is_that path index old new e.0.waits e.3) (k.calls e.0 e.1) in
      (e.0.req, had.1, which had.2 (copied_out path index old new u.durable.names v.durable.names names), cow_here path index old new u.durable.names v.durable.names names)
    where
      which : StandsAt u.durable.names path index new ⊎ StandsAt u.durable.names path index old → is_some (fin.get u.durable.names.refs new) ≡ false → StandsAt u.durable.names path index old
      which (inl here) out = absurd (true≢false (sym (is_listed_there u.durable.names well.0.before.names new path index here) ∙ out))
      which (inr here) out = here

  replace_for : (u : State) (m : Move) (path : Path) (index old new : ℕ) → m ≡ Replaces path index old new → IsMadeWellFor config heard u m → AreAskedFor all u
      → (req : ReqId) × WasToWrite all req path index × StandsAt u.durable.names path index old × StandsAt (move_turn config u m).after.durable.names path index new
  replace_for u m path index old new is well k =
      let P : Move → Type 0 = λ x. (req : ReqId) × WasToWrite all req path index × StandsAt u.durable.names path index old × StandsAt (move_turn config u x).after.durable.names path index new in
      subst P (sym is) (replaced_for u path index old new (subst (IsMadeWellFor config heard u) is well) k)

  -- ---- edits of the tree

  edited_for : (u : State) (m : Move) (by : ReqId) (edit : PlainEdit) (answer : Answer) → m ≡ Edits by edit answer → IsMadeWellFor config heard u m → (call : Call) × WasCalled all by call × IsEditOf u call edit
  edited_for u m by edit answer is well = (let for = (subst (IsMadeWellFor config heard u) is well).1 in (for.0, hears for.1.heard_so.0 by for.0 for.1.heard_so.1, for.2))

  is_tree : (from to : Path) (w : Waiting) → waits_for_tree from to w ≡ true → w ≡ waits.Snapshot from to
  is_tree from to (waits.Snapshot f t) is = (let one = and_parts (same_path f from) (same_path t to) is in λ j. waits.Snapshot (same_path-is f from one.0 j) (same_path-is t to one.1 j))
  is_tree from to w is = absurd (false≢true is)

  copied_for : (u : State) (m : Move) (by : ReqId) (from to : Path) → EntryBy m (Edited by (Snapshot from to)) → IsMadeWellFor config heard u m → AreAskedFor all u → (call : Call) × WasCalled all by call × IsEditOf u call (Snapshot from to)
  copied_for u m by from to (inl is) well k = edited_for u m by (Snapshot from to) is.0 is.1 well
  copied_for u m by from to (inr is) well k =
      let e = one_so by (waits_for_tree from to) u.volatile.pending (subst (IsMadeWellFor config heard u) is well).1 in
      let had = subst (WaitsFor all u.durable.names e.0.req) (is_tree from to e.0.waits e.3) (k.calls e.0 e.1) in
      (calls.Snapshot from to, subst (λ r. WasCalled all r (calls.Snapshot from to)) e.2 had, refl)

  -- ---- moves that end nothing

  abbrev Plainly : State → Move → Type 0
  Plainly u move = Usual all config heard hears u move × (is_ending move ≡ false)

  no_end : (m n : Move) → m ≡ n → is_ending n ≡ true → is_ending m ≡ false → ⊥
  no_end m n same is none = true≢false (sym is ∙ ap is_ending (sym same) ∙ none)

  module _ (s : State) (t : Turn) (k : AreAskedFor all s) where
    within_of : (entry : PlainEntry) → Written config Plainly s t entry → IsWrittenWithin config heard s t entry
    within_of entry w = record { before = w.before; first = weaker s w.before w.first; move = w.move; made = w.holds.0.0; among = w.among; sends = w.sends; next = w.next; rest = weaker (move_turn config w.before.after w.move).after w.next w.rest; last = w.last }
      where
        weaker : (u : State) (v : Turn) → Chain config Plainly u v → Chain config (IsMadeWellFor config heard) u v
        weaker = mapped config Plainly (IsMadeWellFor config heard) (λ z move made. made.0.0)

    asked_at : (entry : PlainEntry) (w : Written config Plainly s t entry) → AreAskedFor all w.before.after
    asked_at entry w = chain_asked all config heard hears s w.before (mapped config Plainly (Usual all config heard hears) (λ z move made. made.0) s w.before w.first) k

    by_of : (entry : PlainEntry) (w : Written config Plainly s t entry) → EntryBy w.move entry
    by_of entry w = one_entry (EntryBy w.move) (move_turn config w.before.after w.move).records entry (move_entries config heard w.before.after w.move w.holds.0.0.0.made) w.among

    rest_for : (entry : PlainEntry) → Written config Plainly s t entry → IsRecordedFor all config heard s t entry
    unfolding within_of
    rest_for (Edited by (AddChunk path chunk)) w =
        let is = by_of (Edited by (AddChunk path chunk)) w in
        let one = add_for w.before.after w.move by path chunk is.0 is.1 w.holds.0.0 (asked_at (Edited by (AddChunk path chunk)) w) in
        record { within = within_of (Edited by (AddChunk path chunk)) w; index = one.0; view = is.0; epoch = w.before.after.durable.epoch; was = one.1; had = one.2; here = one.3; says = w.sends (reply_to by (Ok (answers.Location chunk is.0 w.before.after.durable.epoch))) one.4; located = one.5 }
    rest_for (Edited by (Cow path index old new)) w =
        let is = by_of (Edited by (Cow path index old new)) w in
        let one = replace_for w.before.after w.move path index old new is.1 w.holds.0.0 (asked_at (Edited by (Cow path index old new)) w) in
        (is.0, record { within = within_of (Edited by (Cow path index old new)) w; req = one.0; was = one.1; stood = one.2; here = one.3 })
    rest_for (Edited by (Remove path)) w = (let is = by_of (Edited by (Remove path)) w in absurd (no_end w.move _ is.3 refl w.holds.1))
    rest_for (Edited by (Forget chunks)) w = (let is = by_of (Edited by (Forget chunks)) w in absurd (no_end w.move _ is.3 refl w.holds.1))
    rest_for (Edited by (Mkdirs p)) w = (let is = by_of (Edited by (Mkdirs p)) w in let one = edited_for w.before.after w.move by (Mkdirs p) is.0 is.1 w.holds.0.0 in record { within = within_of (Edited by (Mkdirs p)) w; call = one.0; was = one.1; edits = one.2 })
    rest_for (Edited by (Create p)) w = (let is = by_of (Edited by (Create p)) w in let one = edited_for w.before.after w.move by (Create p) is.0 is.1 w.holds.0.0 in record { within = within_of (Edited by (Create p)) w; call = one.0; was = one.1; edits = one.2 })
    rest_for (Edited by (Rename from to)) w = (let is = by_of (Edited by (Rename from to)) w in let one = edited_for w.before.after w.move by (Rename from to) is.0 is.1 w.holds.0.0 in record { within = within_of (Edited by (Rename from to)) w; call = one.0; was = one.1; edits = one.2 })
    rest_for (Edited by (Hide p moment number)) w = (let is = by_of (Edited by (Hide p moment number)) w in let one = edited_for w.before.after w.move by (Hide p moment number) is.0 is.1 w.holds.0.0 in record { within = within_of (Edited by (Hide p moment number)) w; call = one.0; was = one.1; edits = one.2 })
    rest_for (Edited by (Unhide p)) w = (let is = by_of (Edited by (Unhide p)) w in let one = edited_for w.before.after w.move by (Unhide p) is.0 is.1 w.holds.0.0 in record { within = within_of (Edited by (Unhide p)) w; call = one.0; was = one.1; edits = one.2 })
    rest_for (Edited by (Snapshot from to)) w = (let one = copied_for w.before.after w.move by from to (by_of (Edited by (Snapshot from to)) w) w.holds.0.0 (asked_at (Edited by (Snapshot from to)) w) in record { within = within_of (Edited by (Snapshot from to)) w; call = one.0; was = one.1; edits = one.2 })
    rest_for (Prepare epoch moment chunks) w = (let is = by_of (Prepare epoch moment chunks) w in absurd (no_end w.move _ is.2 refl w.holds.1))
    rest_for (Finalize epoch) w = (let is = by_of (Finalize epoch) w in absurd (no_end w.move _ is.1 refl w.holds.1))
    rest_for (RollbackBegin epoch) w = (let is = by_of (RollbackBegin epoch) w in absurd (no_end w.move _ is refl w.holds.1))
    rest_for (RollbackCommit epoch told) w = (let is = by_of (RollbackCommit epoch told) w in absurd (no_end w.move _ is.2 refl w.holds.1))
    rest_for (Said to refusal) w = tt
    rest_for (Propose chunk version) w = tt
    rest_for (Settle v) w = tt
    rest_for (Holder chunk server) w = tt
    rest_for (Whole c) w = tt

    all_rest : Chain config Plainly s t → AllByRecursion (IsRecordedFor all config heard s t) t.records
    all_rest chain = all_weaker (Written config Plainly s t) (IsRecordedFor all config heard s t) rest_for t.records (chain_written config Plainly s t chain)

  -- ---- the move by which something ends is the first, where the call comes

  module _ (s : State) (t : Turn) (move : Move) (well : IsMadeWellFor config heard s move) (ends : is_ending move ≡ true) where
    not_end : (n : Move) → move ≡ n → is_ending n ≡ false → ⊥
    not_end n same none = true≢false (sym ends ∙ ap is_ending same ∙ none)

    first_for : (entry : PlainEntry) → EntryBy move entry → IsRecordedFor all config heard s t entry
    first_for (Edited by (AddChunk path chunk)) is = absurd (not_end _ is.1 refl)
    first_for (Edited by (Cow path index old new)) is = absurd (not_end _ is.1 refl)
    first_for (Edited by (Remove path)) is = (is.0, subst (IsFor heard s) is.3 well.1)
    first_for (Edited by (Forget chunks)) is = (is.0, subst (IsFor heard s) is.3 well.1)
    first_for (Edited by (Mkdirs p)) is = absurd (not_end _ is.1 refl)
    first_for (Edited by (Create p)) is = absurd (not_end _ is.1 refl)
    first_for (Edited by (Rename from to)) is = absurd (not_end _ is.1 refl)
    first_for (Edited by (Hide p moment number)) is = absurd (not_end _ is.1 refl)
    first_for (Edited by (Unhide p)) is = absurd (not_end _ is.1 refl)
    first_for (Edited by (Snapshot from to)) (inl is) = absurd (not_end _ is.1 refl)
    first_for (Edited by (Snapshot from to)) (inr is) = absurd (not_end _ is refl)
    first_for (Prepare epoch moment chunks) is = (is.0, subst (IsFor heard s) is.2 well.1)
    first_for (Finalize epoch) is = (is.0, subst (IsFor heard s) is.1 well.1)
    first_for (RollbackBegin epoch) is = subst (IsFor heard s) is well.1
    first_for (RollbackCommit epoch told) is = (is.0, subst (IsFor heard s) is.2 well.1)
    first_for (Said to refusal) is = tt
    first_for (Propose chunk version) is = tt
    first_for (Settle v) is = tt
    first_for (Holder chunk server) is = tt
    first_for (Whole c) is = tt

    all_first : AllByRecursion (IsRecordedFor all config heard s t) (move_turn config s move).records
    all_first = all_weaker (EntryBy move) (IsRecordedFor all config heard s t) first_for (move_turn config s move).records (move_entries config heard s move well.0.made)

  -- after it calls end, which is recorded as refusals

  closing_entry : (s : State) (t : Turn) (m : Move) → closes m ≡ true → (entry : PlainEntry) → EntryBy m entry → IsRecordedFor all config heard s t entry
  closing_entry s t m ends (Edited by (AddChunk path chunk)) is = absurd (false≢true (ap closes (sym is.1) ∙ ends))
  closing_entry s t m ends (Edited by (Cow path index old new)) is = absurd (false≢true (ap closes (sym is.1) ∙ ends))
  closing_entry s t m ends (Edited by (Remove path)) is = absurd (false≢true (ap closes (sym is.3) ∙ ends))
  closing_entry s t m ends (Edited by (Forget chunks)) is = absurd (false≢true (ap closes (sym is.3) ∙ ends))
  closing_entry s t m ends (Edited by (Mkdirs p)) is = absurd (false≢true (ap closes (sym is.1) ∙ ends))
  closing_entry s t m ends (Edited by (Create p)) is = absurd (false≢true (ap closes (sym is.1) ∙ ends))
  closing_entry s t m ends (Edited by (Rename from to)) is = absurd (false≢true (ap closes (sym is.1) ∙ ends))
  closing_entry s t m ends (Edited by (Hide p moment number)) is = absurd (false≢true (ap closes (sym is.1) ∙ ends))
  closing_entry s t m ends (Edited by (Unhide p)) is = absurd (false≢true (ap closes (sym is.1) ∙ ends))
  closing_entry s t m ends (Edited by (Snapshot from to)) (inl is) = absurd (false≢true (ap closes (sym is.1) ∙ ends))
  closing_entry s t m ends (Edited by (Snapshot from to)) (inr is) = absurd (false≢true (ap closes (sym is) ∙ ends))
  closing_entry s t m ends (Prepare epoch moment chunks) is = absurd (false≢true (ap closes (sym is.2) ∙ ends))
  closing_entry s t m ends (Finalize epoch) is = absurd (false≢true (ap closes (sym is.1) ∙ ends))
  closing_entry s t m ends (RollbackBegin epoch) is = absurd (false≢true (ap closes (sym is) ∙ ends))
  closing_entry s t m ends (RollbackCommit epoch told) is = absurd (false≢true (ap closes (sym is.2) ∙ ends))
  closing_entry s t m ends (Said to refusal) is = tt
  closing_entry s t m ends (Propose chunk version) is = tt
  closing_entry s t m ends (Settle v) is = tt
  closing_entry s t m ends (Holder chunk server) is = tt
  closing_entry s t m ends (Whole c) is = tt

  all_closing : (s : State) (t : Turn) (u : State) (v : Turn) → Chain config (λ z move. IsMadeWellFor config heard z move × (closes move ≡ true)) u v → AllByRecursion (IsRecordedFor all config heard s t) v.records
  all_closing s t u v (Rests z said) = tt
  all_closing s t u v (Moves z move said made) = all_weaker (EntryBy move) (IsRecordedFor all config heard s t) (closing_entry s t move made.1) (move_turn config z move).records (move_entries config heard z move made.0.0.made)
  all_closing s t u v (Then z first next a b) = all_both (IsRecordedFor all config heard s t) first.records next.records (all_closing s t z first a) (all_closing s t first.after next b)

  -- ---- a turn

  turn_recorded : (s : State) (t : Turn) → EndsOnce config (IsMadeWellFor config heard) s t → AreAskedFor all s → AllByRecursion (IsRecordedFor all config heard s t) t.records
  turn_recorded s t (Within u v chain) k = all_rest u v k (mapped config _ Plainly (λ z move made. ((made.0, within_commit config heard move made.1), within_ending move made.1)) u v chain)
  turn_recorded s t (ByItself u move said made alone) k = by_test (is_ending move) refl
    where
      by_test : (b : Bool) → is_ending move ≡ b → AllByRecursion (IsRecordedFor all config heard u (record (move_turn config u move) { said = said })) (move_turn config u move).records
      by_test true is = all_first u (record (move_turn config u move) { said = said }) move made is
      by_test false is = all_rest u (record (move_turn config u move) { said = said }) k (Moves u move said ((made, ending_commit move is), is))
  turn_recorded s t (Closes u move said next made followed chain) k =
      let whole = joined (record (move_turn config u move) { said = said }) next in
      all_both (IsRecordedFor all config heard u whole) (move_turn config u move).records next.records (all_first u whole move made (followed_ending move followed)) (all_closing u whole (move_turn config u move).after next chain)

pub records_are_for : RecordsAreFor
records_are_for all config heard s t turn hears k = turn_recorded all config heard hears s t turn k
