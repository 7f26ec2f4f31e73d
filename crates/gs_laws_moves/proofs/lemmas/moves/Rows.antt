-- What moves make of the rows of one chunk.
use Rattle.std.proofs.Common.{◌≡◌, ◌≢◌, arith, ◌∙◌, ◌==◌, ◌&&◌, ◌||◌, ◌⊎◌, inl, inr, ◌+◌, ◌++◌, ℕ, Bool, true, false, List, [], ◌∷◌, refl, ap, sym, subst}
use Rattle.std.specs.Prelude.{if◌then◌else◌, is_some, option_and_then, option_map, Option, Some, None, Ok}
use Rattle.std.specs.FinMap as fin
use Rattle.std.specs.List.{AllByRecursion, list_all}
use Rattle.std.proofs.lemmas.Bool.{false≢true, true≢false, and_parts}
use Rattle.std.proofs.lemmas.Bool.Decides.{nat_tests}
use Rattle.gs_base.specs.Members.{count_from, is_member}
use Rattle.gs_base.specs.declared.config.Config.{Config}
use Rattle.gs_base.specs.declared.epoch.EpochEnd.{EpochEnd}
use Rattle.gs_base.specs.declared.epoch.EpochEnd.TheVariants as ends
use Rattle.gs_base.specs.declared.numbers.Moment.{Moment}
use Rattle.gs_base.specs.declared.numbers.ReqId.{ReqId}
use Rattle.gs_edit.specs.View.{NamesView}
use Rattle.gs_lease.specs.Transitions.{is_for_lease, settled_view}
use Rattle.gs_lease.specs.declared.view.Term.{Term}
use Rattle.gs_lease.specs.declared.view.View.{View}
use Rattle.gs_msg.specs.declared.answer.Answer.{Answer}
use Rattle.gs_msg.specs.declared.answer.Answer.TheVariants as answers
use Rattle.gs_msg.specs.declared.body.Body.{Body}
use Rattle.gs_msg.specs.declared.body.Body.TheVariants as bodies
use Rattle.gs_msg.specs.declared.chunk.Chunk.TheVariants as abouts
use Rattle.gs_msg.specs.declared.message.Message.{Message}
use Rattle.gs_msg.specs.declared.node.NodeId.TheVariants as nodes
use Rattle.gs_master_record.specs.Plain.{Finalize, Prepare, RollbackBegin}
use Rattle.gs_master_record.specs.declared.checkpoint.Phase.TheVariants.{Ordinary, Upgrade, Rolling}
use Rattle.gs_master_spec.specs.Applied.{applied, are_at_rest, is_next_epoch, view_in, with_epoch, without_prepared}
use Rattle.gs_master_spec.specs.Beginning.{begin_at, copy_plan, members_at, next_stamp}
use Rattle.gs_master_spec.specs.Chunks.{Chunk, chunk_at, has_entry, may_settle, proposed_in, view_by}
use Rattle.gs_master_spec.specs.Durable.{Durable, Settled, is_given, is_listed, is_ordinary, is_upgrade}
use Rattle.gs_master_spec.specs.Replies.{is_later}
use Rattle.gs_master_spec.specs.Settling.{grant_of, own_request}
use Rattle.gs_master_spec.specs.State.{State, Turn, about, answer_changes, kept_in_memory, last_reply, post, reply_to, to_each}
use Rattle.gs_master_spec.specs.Upgrades.{chunk_count, tell_all}
use Rattle.gs_master_spec.specs.Volatile.{Volatile, all_changed, changed}
use Rattle.gs_master_spec.specs.Working.{scan_edits}
use Rattle.gs_master_spec.specs.declared.asking.Asking.{Asking}
use Rattle.gs_master_spec.specs.declared.change.Change.TheVariants as changes
use Rattle.gs_view.specs.Choice.{answerers, greatest}
use Rattle.gs_view.specs.declared.poll.Poll.{Poll}
use Rattle.gs_laws_master.proofs.lemmas.upgrades.Beginnings.{fits_gives}
use Rattle.gs_laws_moves.proofs.lemmas.moves.Asked.{said_usual, scan_usual, settle_view, tidied_view}
use Rattle.gs_laws_moves.proofs.lemmas.moves.Entries.{settling_known}
use Rattle.gs_laws_moves.proofs.lemmas.moves.Leaving.{ViewFrom, leaves_view, records_view}
use Rattle.gs_laws_moves.proofs.lemmas.moves.Listed.{stays_given, stays_listed}
use Rattle.gs_laws_moves.proofs.lemmas.moves.Moved.{beside_records, each_moved_so}
use Rattle.gs_laws_moves.proofs.lemmas.moves.Right.{each_of, one_fits}
use Rattle.gs_laws_moves.proofs.lemmas.moves.Sharing.{view_term}
use Rattle.gs_laws_moves.specs.moves.Epochs.{is_alone}
use Rattle.gs_laws_moves.specs.moves.Guards.{Heard, IsMade, ask_nobody, asks_nobody, settled_chunk}
use Rattle.gs_laws_moves.specs.moves.Moved.{is_commit, proposed_now, settled_after}
use Rattle.gs_laws_moves.specs.moves.Moves.{Alone, FromNow, Further, Begins, BeginsRollback, Chain, Checkpoints, CommitsRollback, Copies, Finalizes, Hears, Makes, Move, Moves, Prepares, Refuses, Replaces, Restores, Rests, Says, Scans, Sends, Settles, TellsRollback, Then, Waits, Answers as AnswersCall, move_turn}
use Rattle.gs_laws_moves.specs.moves.Rows.{CopiesAreListed, CopiesAreNew, CopiesListed, CopiesNew, EachRowGoes, EpochsLeave, ListedStay, NewAreUnled, RowGoes, RowsGoOver}

same_number : (a b : ℕ) → (a == b) ≡ true → a ≡ b
same_number a b h = grind (arith, nat_tests)

settled_is : {a b : Settled} → ◌≡◌ {A = Option Settled} (Some a) (Some b) → a ≡ b
settled_is k = cc

view_is : {a b : View} → ◌≡◌ {A = Option View} (Some a) (Some b) → a ≡ b
view_is k = cc

-- ---- where the view of a row comes from

-- a view that is settled has a member
view_members : (c : Chunk) (asking : Asking) (by : Poll) (moment : Moment) (view : View) → view_by c asking by moment ≡ Some view → view.members ≢ []
view_members c asking by moment view e none = by_most (greatest by.counts) e
  where
    some : (members : List ℕ) → may_settle asking.asked members ≡ true → members ≡ [] → ⊥
    some [] may is = false≢true may
    some (x ∷ xs) may is = absurd (let h = is in cc)

    by_test : (members : List ℕ) (count : ℕ) (b : Bool) → may_settle asking.asked members ≡ b → (if b then Some (settled_view (proposed_in c asking) members count moment) else None) ≡ Some view → ⊥
    by_test members count true may h = some members may (ap (λ (v : View). v.members) (view_is h) ∙ none)
    by_test members count false may h = false≢true (ap is_some h)

    by_most : (most : Option ℕ) → option_and_then (λ (ch : List ℕ × ℕ). if may_settle asking.asked ch.0 then Some (settled_view (proposed_in c asking) ch.0 ch.1 moment) else None) (option_map (λ count. (answerers by.counts count, count)) most) ≡ Some view → ⊥
    by_most None h = false≢true (ap is_some h)
    by_most (Some count) h = by_test (answerers by.counts count) count (may_settle asking.asked (answerers by.counts count)) refl h

-- it was there before, or it has a member, and the chunk was known
abbrev IsRowFrom : State → ℕ → Settled → Type 0
IsRowFrom s chunk y = (view_in (fin.get s.durable.chunks chunk) ≡ Some y.view) ⊎ ((y.view.members ≢ []) × (has_entry s chunk ≡ true))

module _ (config : Config) (heard : Heard) (s : State) (chunk : ℕ) where
  RowsFrom : Move → Type 0
  RowsFrom move = (y : Settled) → fin.get (move_turn config s move).after.durable.chunks chunk ≡ Some y → IsRowFrom s chunk y

  came : (move : Move) → ViewFrom chunk s.durable (move_turn config s move).after.durable → RowsFrom move
  unfolding RowsFrom
  came move from y has = (let p = from y has in inl (ap view_in p.1 ∙ ap Some p.2))

  by_records : (move : Move) → IsMade config heard s move → list_all (leaves_view chunk) (move_turn config s move).records ≡ true → RowsFrom move
  by_records move made usual = came move (records_view chunk (move_turn config s move).records s.durable (move_turn config s move).after.durable usual made.fits)

  by_settling : (q : ℕ) (asking : Asking) (carried : Bool) (view : View) → IsMade config heard s (Settles q asking carried view) → (b : Bool) → (q == chunk) ≡ b → RowsFrom (Settles q asking carried view)
  unfolding RowsFrom
  by_settling q asking carried view made true same y has =
      let u = (move_turn config s (Settles q asking carried view)).after in
      let is = same_number q chunk same in
      let known : has_entry u chunk ≡ true = ap (has_entry u) (sym is) ∙ settling_known s q asking carried view made.may.known in
      let now = (each_moved_so config heard s (Settles q asking carried view) chunk made).settled refl known ∙ ap (λ b. if b then Some (record { view = view; is_moving = false }) else fin.get s.durable.chunks chunk) same in
      let its : y.view ≡ view = ap (λ (z : Settled). z.view) (settled_is (sym has ∙ now)) in
      inr (
        λ none. view_members (settled_chunk s q) asking made.may.by made.may.moment view made.may.view_is (ap (λ (v : View). v.members) (sym its) ∙ none),
        ap (has_entry s) (sym is) ∙ made.may.known,
      )
  by_settling q asking carried view made false other y has = came (Settles q asking carried view) (settle_view chunk s q asking carried view other made.fits) y has

  row_by : (move : Move) → IsMade config heard s move → is_commit move ≡ false → RowsFrom move
  row_by (Begins q purpose call beside) made other = by_records (Begins q purpose call beside) made (ap (list_all (leaves_view chunk)) (beside_records chunk (begin_at s q purpose call) beside))
  row_by (Copies old view req beside) made other = by_records (Copies old view req beside) made (ap (list_all (leaves_view chunk)) (beside_records chunk (copy_plan (next_stamp s.durable) old view s.durable.next_handle req) beside))
  row_by (Settles q asking carried view) made other = by_settling q asking carried view made (q == chunk) refl
  row_by (Scans removed forgotten) made other = by_records (Scans removed forgotten) made (scan_usual chunk own_request (scan_edits removed forgotten))
  row_by (Refuses req refusal over) made other = by_records (Refuses req refusal over) made (said_usual chunk s req refusal)
  row_by (AnswersCall req answer true) made other = by_records (AnswersCall req answer true) made refl
  row_by (AnswersCall req answer false) made other = by_records (AnswersCall req answer false) made refl
  row_by (CommitsRollback req names) made other = absurd (true≢false other)
  row_by Checkpoints made other = came Checkpoints (tidied_view chunk s.durable)
  row_by move made other = by_records move made refl

-- what has no row afterwards had none
none_before : (s : State) (move : Move) (chunk : ℕ) → settled_after s move chunk ≡ None → fin.get s.durable.chunks chunk ≡ None
none_before s (Begins q purpose call beside) chunk is = by_test (q == chunk) is
  where
    by_row : (o : Option Settled) → option_map proposed_now o ≡ None → o ≡ None
    by_row None h = refl
    by_row (Some x) h = absurd (false≢true (sym (ap is_some h)))

    by_test : (b : Bool) → (if b then option_map proposed_now (fin.get s.durable.chunks chunk) else fin.get s.durable.chunks chunk) ≡ None → fin.get s.durable.chunks chunk ≡ None
    by_test true h = by_row (fin.get s.durable.chunks chunk) h
    by_test false h = h
none_before s (Settles q asking carried view) chunk is = by_test (q == chunk) is
  where
    by_test : (b : Bool) → (if b then Some (record { view = view; is_moving = false }) else fin.get s.durable.chunks chunk) ≡ None → fin.get s.durable.chunks chunk ≡ None
    by_test true h = absurd (false≢true (sym (ap is_some h)))
    by_test false h = h
none_before s move chunk is = is

-- in one of two ways
either_way : {A B C D : Type 0} → A ⊎ B → (A → C) → (B → D) → C ⊎ D
either_way (inl a) f g = inl (f a)
either_way (inr b) f g = inr (g b)

pub each_row_goes : EachRowGoes
unfolding RowsFrom
each_row_goes config heard s move chunk made other =
    let so = each_moved_so config heard s move chunk made in
    let row = row_by config heard s chunk move made other in
    record {
      given = stays_given config heard s move chunk made;
      gone = so.gone other;
      none = λ given known none. none_before s move chunk (sym (so.settled other known) ∙ none);
      row = λ y has. either_way (row y has) (λ same. same) (λ both. both.0);
      known = λ given y has. either_way (row y has) (λ same. same) (λ both. both.1);
    }

-- ---- over a chain

-- a view that comes of an earlier one
its_row : (o : Option Settled) (view : View) → view_in o ≡ Some view → (z : Settled) × (o ≡ Some z) × (z.view ≡ view)
its_row None view is = absurd (false≢true (ap is_some is))
its_row (Some z) view is = (z, refl, view_is is)

rows_then : (s m u : State) (chunk : ℕ) → RowGoes s m chunk → RowGoes m u chunk → RowGoes s u chunk
rows_then s m u chunk a b = record {
  given = λ given. b.given (a.given given);
  gone = λ given known. a.gone given (b.gone (a.given given) known);
  none = λ given known none. a.none given (b.gone (a.given given) known) (b.none (a.given given) known none);
  row = λ y has. by_row y (b.row y has);
  known = λ given y has. by_known given y (b.known (a.given given) y has);
}
  where
    by_row : (y : Settled) → (view_in (fin.get m.durable.chunks chunk) ≡ Some y.view) ⊎ (y.view.members ≢ []) → (view_in (fin.get s.durable.chunks chunk) ≡ Some y.view) ⊎ (y.view.members ≢ [])
    by_row y (inl same) =
        let z = its_row (fin.get m.durable.chunks chunk) y.view same in either_way (a.row z.0 z.1) (λ was. was ∙ ap Some z.2) (λ some none. some (ap (λ (v : View). v.members) z.2 ∙ none))
    by_row y (inr some) = inr some

    by_known : is_given s.durable.next_handle chunk ≡ true → (y : Settled) → (view_in (fin.get m.durable.chunks chunk) ≡ Some y.view) ⊎ (has_entry m chunk ≡ true) → (view_in (fin.get s.durable.chunks chunk) ≡ Some y.view) ⊎ (has_entry s chunk ≡ true)
    by_known given y (inl same) = (let z = its_row (fin.get m.durable.chunks chunk) y.view same in either_way (a.known given z.0 z.1) (λ was. was ∙ ap Some z.2) (λ known. known))
    by_known given y (inr known) = inr (a.gone given known)

pub rows_go_over : RowsGoOver
rows_go_over config heard s t chunk (Rests u said) = record { given = λ given. given; gone = λ given known. known; none = λ given known none. none; row = λ y has. inl (ap view_in has); known = λ given y has. inl (ap view_in has) }
rows_go_over config heard s t chunk (Moves u move said both) =
    let goes = each_row_goes config heard s move chunk both.0 both.1 in record { given = goes.given; gone = goes.gone; none = goes.none; row = goes.row; known = goes.known }
rows_go_over config heard s t chunk (Then u first next a b) = rows_then s first.after next.after chunk (rows_go_over config heard s first chunk a) (rows_go_over config heard first.after next chunk b)

-- ---- files

pub listed_stay : ListedStay
listed_stay config heard s t chunk (Rests u said) listed = listed
listed_stay config heard s t chunk (Moves u move said both) listed = stays_listed config heard s move chunk both.0 both.1 listed
listed_stay config heard s t chunk (Then u first next a b) listed = listed_stay config heard first.after next chunk b (listed_stay config heard s first chunk a listed)

-- ---- epochs

-- what a record by which an epoch ends leaves
IsLeft : Durable → Durable → Type 0
IsLeft d e = (e.names ≡ d.names) × (e.chunks ≡ d.chunks)

left_by : (d n e : Durable) → IsLeft d n → n ≡ e → IsLeft d e
left_by d n e left is = subst (IsLeft d) is left

prepare_leaves : (d e : Durable) (epoch moment many : ℕ) → applied d (Prepare epoch moment many) ≡ Some e → IsLeft d e
unfolding applied IsLeft
prepare_leaves d e epoch moment many fit =
    let n = without_prepared (with_epoch d ends.Prepare Upgrade) in left_by d n e (refl, refl) (fits_gives (is_ordinary d.phase && (is_next_epoch d.epoch epoch && are_at_rest d)) n e fit).1

finalize_leaves : (d e : Durable) (epoch : ℕ) → applied d (Finalize epoch) ≡ Some e → IsLeft d e
unfolding applied IsLeft
finalize_leaves d e epoch fit = (let n = without_prepared (with_epoch d ends.Finalize Ordinary) in left_by d n e (refl, refl) (fits_gives (is_upgrade d.phase && is_next_epoch d.epoch epoch) n e fit).1)

begin_leaves : (d e : Durable) (epoch : ℕ) → applied d (RollbackBegin epoch) ≡ Some e → IsLeft d e
unfolding applied IsLeft
begin_leaves d e epoch fit = (let n = with_epoch d ends.Rollback Rolling in left_by d n e (refl, refl) (fits_gives (is_upgrade d.phase && is_next_epoch d.epoch epoch) n e fit).1)

answer_unplaced : (s : State) (v : Volatile) (req : ReqId) (answer : Answer) → (all_changed v (answer_changes s req answer)).unplaced ≡ v.unplaced
answer_unplaced s v req answer = by_test (is_later (last_reply s req.client) req.number)
  where
    by_test : (b : Bool) → (all_changed v (if b then kept_in_memory req (Ok answer) ∷ [] else [])).unplaced ≡ v.unplaced
    by_test true = refl
    by_test false = refl

leaves_row : (s u : State) (chunk : ℕ) → IsLeft s.durable u.durable → u.volatile.unplaced ≡ s.volatile.unplaced → (has_entry u chunk ≡ has_entry s chunk) × (fin.get u.durable.chunks chunk ≡ fin.get s.durable.chunks chunk)
unfolding IsLeft
leaves_row s u chunk left same = (
  ap (λ (n : NamesView). is_some (fin.get n.refs chunk) || is_member u.volatile.unplaced chunk) left.0 ∙ ap (λ l. is_some (fin.get s.durable.names.refs chunk) || is_member l chunk) same,
  ap (λ m. fin.get m chunk) left.1,
)

pub epochs_leave : EpochsLeave
epochs_leave config heard s (Prepares req moment) chunk made begins =
    let u = (move_turn config s (Prepares req moment)).after in
    leaves_row s u chunk (prepare_leaves s.durable u.durable (s.durable.epoch + 1) moment.0 (chunk_count s) (one_fits s.durable u.durable (Prepare (s.durable.epoch + 1) moment.0 (chunk_count s)) made.fits))
    (answer_unplaced s (changed s.volatile (changes.Prepare false)) req (answers.Epoch (s.durable.epoch + 1)))
epochs_leave config heard s (Finalizes req) chunk made begins =
    let u = (move_turn config s (Finalizes req)).after in
    leaves_row s u chunk (finalize_leaves s.durable u.durable (s.durable.epoch + 1) (one_fits s.durable u.durable (Finalize (s.durable.epoch + 1)) made.fits)) (answer_unplaced s s.volatile req (answers.Epoch (s.durable.epoch + 1)))
epochs_leave config heard s BeginsRollback chunk made begins =
    let u = (move_turn config s BeginsRollback).after in leaves_row s u chunk (begin_leaves s.durable u.durable (s.durable.epoch + 1) (one_fits s.durable u.durable (RollbackBegin (s.durable.epoch + 1)) made.fits)) refl
epochs_leave config heard s move chunk made begins = absurd (false≢true begins)

-- ---- leases

pub new_are_unled : NewAreUnled
new_are_unled config heard s chunk asking carried view made new = view_term (settled_chunk s chunk) asking made.may.by made.may.moment view made.may.view_is (not_so (is_for_lease asking.purpose) refl)
  where
    not_so : (b : Bool) → is_for_lease asking.purpose ≡ b → b ≡ false
    not_so true lease = absurd (true≢false (sym (made.may.leased lease) ∙ new))
    not_so false is = refl

-- ---- copies

abbrev AllListed : Durable → List Message → Type 0
AllListed d messages = AllByRecursion (λ (m : Message). CopiesListed d m.body) messages

all_both : (d : Durable) (xs ys : List Message) → AllListed d xs → AllListed d ys → AllListed d (xs ++ ys)
all_both d [] ys a b = b
all_both d (x ∷ xs) ys a b = (a.0, all_both d xs ys a.1 b)

still_listed : (d e : Durable) → ((chunk : ℕ) → is_listed d chunk ≡ true → is_listed e chunk ≡ true) → (messages : List Message) → AllListed d messages → AllListed e messages
still_listed d e stays [] all = tt
still_listed d e stays (m ∷ messages) all = (by_body m.body all.0, still_listed d e stays messages all.1)
  where
    by_body : (body : Body) → CopiesListed d body → CopiesListed e body
    by_body (bodies.MakeCopy old at new stamp) listed = stays old listed
    by_body body listed = tt

who_asks_nobody : (d : Durable) (messages : List Message) → ask_nobody messages ≡ true → AllListed d messages
who_asks_nobody d [] all = tt
who_asks_nobody d (m ∷ messages) all = (let parts = and_parts (asks_nobody m.body) (ask_nobody messages) all in (by_body m.body parts.0, who_asks_nobody d messages parts.1))
  where
    by_body : (body : Body) → asks_nobody body ≡ true → CopiesListed d body
    by_body (bodies.MakeCopy old at new stamp) none = absurd (false≢true none)
    by_body body none = tt

-- so of each move: only one that copies a chunk sends such a message
module _ (config : Config) (heard : Heard) (s : State) where
  to_members : (d : Durable) (message : ℕ → Message) (members : List ℕ) → ((server : ℕ) → CopiesListed d (message server).body) → AllListed d (to_each members message)
  to_members d message members f = each_of (λ (m : Message). CopiesListed d m.body) message members (λ server on. f server)

  begun_listed : (d : Durable) (q : ℕ) → AllListed d (to_each (members_at (chunk_at s q)) (about q (abouts.Advance (next_stamp s.durable))))
  begun_listed d q = to_members d (about q (abouts.Advance (next_stamp s.durable))) (members_at (chunk_at s q)) (λ server. tt)

  copied_listed : (d : Durable) (old : ℕ) (view : View) → is_listed d old ≡ true → AllListed d (to_each view.members (λ server. post (nodes.Server server) (bodies.MakeCopy old view.stamp s.durable.next_handle (next_stamp s.durable))))
  copied_listed d old view listed = to_members d (λ server. post (nodes.Server server) (bodies.MakeCopy old view.stamp s.durable.next_handle (next_stamp s.durable))) view.members (λ server. listed)

  granted_listed : (d : Durable) (q : ℕ) (view : View) (term : Option Term) → AllListed d (grant_of q view term)
  granted_listed d q view None = tt
  granted_listed d q view (Some term) = (tt, tt)

  sent_listed : (move : Move) → IsMade config heard s move → is_alone move ≡ false → AllListed (move_turn config s move).after.durable (move_turn config s move).sent
  sent_listed (Begins q purpose call Alone) made within = begun_listed (move_turn config s (Begins q purpose call Alone)).after.durable q
  sent_listed (Begins q purpose call (FromNow req waiting)) made within = begun_listed (move_turn config s (Begins q purpose call (FromNow req waiting))).after.durable q
  sent_listed (Begins q purpose call (Further req waiting)) made within = begun_listed (move_turn config s (Begins q purpose call (Further req waiting))).after.durable q
  sent_listed (Makes targets req path) made within = to_members (move_turn config s (Makes targets req path)).after.durable (about s.durable.next_handle (abouts.Create (next_stamp s.durable))) targets (λ server. tt)
  sent_listed (Copies old view req Alone) made within =
      copied_listed (move_turn config s (Copies old view req Alone)).after.durable old view (stays_listed config heard s (Copies old view req Alone) old made refl made.may.0.listed)
  sent_listed (Copies old view req (FromNow by waiting)) made within =
      copied_listed (move_turn config s (Copies old view req (FromNow by waiting))).after.durable old view (stays_listed config heard s (Copies old view req (FromNow by waiting)) old made refl made.may.0.listed)
  sent_listed (Copies old view req (Further by waiting)) made within =
      copied_listed (move_turn config s (Copies old view req (Further by waiting))).after.durable old view (stays_listed config heard s (Copies old view req (Further by waiting)) old made refl made.may.0.listed)
  sent_listed (Hears q asking) made within = tt
  sent_listed (Sends q asking source target) made within = (tt, tt)
  sent_listed (Settles q asking carried view) made within = granted_listed (move_turn config s (Settles q asking carried view)).after.durable q view view.term
  sent_listed (Replaces path index old new) made within = tt
  sent_listed (Scans removed forgotten) made within = absurd (true≢false within)
  sent_listed (AnswersCall req answer true) made within = (tt, tt)
  sent_listed (AnswersCall req answer false) made within = (tt, tt)
  sent_listed (Waits req waiting) made within = tt
  sent_listed (Restores server chunks) made within = tt
  sent_listed (Says messages) made within = who_asks_nobody s.durable messages made.may.1
  sent_listed (Prepares req moment) made within = absurd (true≢false within)
  sent_listed (Finalizes req) made within = absurd (true≢false within)
  sent_listed BeginsRollback made within = absurd (true≢false within)
  sent_listed (TellsRollback req epoch) made within =
      let d = (move_turn config s (TellsRollback req epoch)).after.durable in
      all_both d (tell_all config epoch ends.Rollback) (reply_to req (Ok (answers.Epoch epoch)) ∷ []) (to_members d (λ server. post (nodes.Server server) (bodies.Epoch epoch ends.Rollback)) (count_from 0 config.servers) (λ server. tt)) (tt, tt)
  sent_listed (CommitsRollback req names) made within = absurd (true≢false within)
  sent_listed Checkpoints made within = tt
  sent_listed move made within = (tt, tt)

pub copies_are_listed : CopiesAreListed
copies_are_listed config heard s t (Rests u said) = tt
copies_are_listed config heard s t (Moves u move said both) = sent_listed config heard s move both.0 both.1
copies_are_listed config heard s t (Then u first next a b) =
    all_both next.after.durable first.sent next.sent (still_listed first.after.durable next.after.durable (λ old listed. listed_stay config heard first.after next old b listed) first.sent (copies_are_listed config heard s first a)) (copies_are_listed config heard first.after next b)

-- ---- new chunks

abbrev AllNew : Durable → List Message → Type 0
AllNew d messages = AllByRecursion (λ (m : Message). CopiesNew d m.body) messages

both_new : (d : Durable) (xs ys : List Message) → AllNew d xs → AllNew d ys → AllNew d (xs ++ ys)
both_new d [] ys a b = b
both_new d (x ∷ xs) ys a b = (a.0, both_new d xs ys a.1 b)

-- a handle that isn't given later wasn't given before
before_given : (d e : Durable) → ((chunk : ℕ) → is_given d.next_handle chunk ≡ true → is_given e.next_handle chunk ≡ true) → (messages : List Message) → AllNew e messages → AllNew d messages
before_given d e stays [] all = tt
before_given d e stays (m ∷ messages) all = (by_body m.body all.0, before_given d e stays messages all.1)
  where
    by_given : (chunk : ℕ) (b : Bool) → is_given d.next_handle chunk ≡ b → is_given e.next_handle chunk ≡ false → b ≡ false
    by_given chunk true is out = absurd (true≢false (sym (stays chunk is) ∙ out))
    by_given chunk false is out = refl

    by_body : (body : Body) → CopiesNew e body → CopiesNew d body
    by_body (bodies.MakeCopy old at new stamp) out = by_given new (is_given d.next_handle new) refl out
    by_body body out = tt

none_new : (d : Durable) (messages : List Message) → ask_nobody messages ≡ true → AllNew d messages
none_new d [] all = tt
none_new d (m ∷ messages) all = (let parts = and_parts (asks_nobody m.body) (ask_nobody messages) all in (by_body m.body parts.0, none_new d messages parts.1))
  where
    by_body : (body : Body) → asks_nobody body ≡ true → CopiesNew d body
    by_body (bodies.MakeCopy old at new stamp) none = absurd (false≢true none)
    by_body body none = tt

-- the next handle isn't given
next_ungiven : (next : ℕ) → is_given next next ≡ false
next_ungiven next = grind (arith, nat_tests)

-- so each move makes new chunks only under the next handle
module _ (config : Config) (heard : Heard) (s : State) where
  news_to : (message : ℕ → Message) (members : List ℕ) → ((server : ℕ) → CopiesNew s.durable (message server).body) → AllNew s.durable (to_each members message)
  news_to message members f = each_of (λ (m : Message). CopiesNew s.durable m.body) message members (λ server on. f server)

  begun_new : (q : ℕ) → AllNew s.durable (to_each (members_at (chunk_at s q)) (about q (abouts.Advance (next_stamp s.durable))))
  begun_new q = news_to (about q (abouts.Advance (next_stamp s.durable))) (members_at (chunk_at s q)) (λ server. tt)

  copied_new : (old : ℕ) (view : View) → AllNew s.durable (to_each view.members (λ server. post (nodes.Server server) (bodies.MakeCopy old view.stamp s.durable.next_handle (next_stamp s.durable))))
  copied_new old view = news_to (λ server. post (nodes.Server server) (bodies.MakeCopy old view.stamp s.durable.next_handle (next_stamp s.durable))) view.members (λ server. next_ungiven s.durable.next_handle)

  granted_new : (q : ℕ) (view : View) (term : Option Term) → AllNew s.durable (grant_of q view term)
  granted_new q view None = tt
  granted_new q view (Some term) = (tt, tt)

  told_new : (req : ReqId) (epoch : ℕ) (end : EpochEnd) → AllNew s.durable (tell_all config epoch end ++ reply_to req (Ok (answers.Epoch epoch)) ∷ [])
  told_new req epoch end =
      both_new s.durable (tell_all config epoch end) (reply_to req (Ok (answers.Epoch epoch)) ∷ []) (news_to (λ server. post (nodes.Server server) (bodies.Epoch epoch end)) (count_from 0 config.servers) (λ server. tt)) (tt, tt)

  sent_new : (move : Move) → IsMade config heard s move → AllNew s.durable (move_turn config s move).sent
  sent_new (Begins q purpose call Alone) made = begun_new q
  sent_new (Begins q purpose call (FromNow req waiting)) made = begun_new q
  sent_new (Begins q purpose call (Further req waiting)) made = begun_new q
  sent_new (Makes targets req path) made = news_to (about s.durable.next_handle (abouts.Create (next_stamp s.durable))) targets (λ server. tt)
  sent_new (Copies old view req Alone) made = copied_new old view
  sent_new (Copies old view req (FromNow by waiting)) made = copied_new old view
  sent_new (Copies old view req (Further by waiting)) made = copied_new old view
  sent_new (Hears q asking) made = tt
  sent_new (Sends q asking source target) made = (tt, tt)
  sent_new (Settles q asking carried view) made = granted_new q view view.term
  sent_new (Replaces path index old new) made = tt
  sent_new (Scans removed forgotten) made = tt
  sent_new (AnswersCall req answer true) made = (tt, tt)
  sent_new (AnswersCall req answer false) made = (tt, tt)
  sent_new (Waits req waiting) made = tt
  sent_new (Restores server chunks) made = tt
  sent_new (Says messages) made = none_new s.durable messages made.may.1
  sent_new (Prepares req moment) made = told_new req (s.durable.epoch + 1) ends.Prepare
  sent_new (Finalizes req) made = told_new req (s.durable.epoch + 1) ends.Finalize
  sent_new BeginsRollback made = tt
  sent_new (TellsRollback req epoch) made = told_new req epoch ends.Rollback
  sent_new (CommitsRollback req names) made = (tt, tt)
  sent_new Checkpoints made = tt
  sent_new move made = (tt, tt)

over_given : (config : Config) (heard : Heard) (s : State) (t : Turn) (chunk : ℕ) → Chain config (IsMade config heard) s t → is_given s.durable.next_handle chunk ≡ true → is_given t.after.durable.next_handle chunk ≡ true
over_given config heard s t chunk (Rests u said) given = given
over_given config heard s t chunk (Moves u move said made) given = stays_given config heard s move chunk made given
over_given config heard s t chunk (Then u first next a b) given = over_given config heard first.after next chunk b (over_given config heard s first chunk a given)

pub copies_are_new : CopiesAreNew
copies_are_new config heard s t (Rests u said) = tt
copies_are_new config heard s t (Moves u move said made) = sent_new config heard s move made
copies_are_new config heard s t (Then u first next a b) =
    both_new s.durable first.sent next.sent (copies_are_new config heard s first a) (before_given s.durable first.after.durable (λ chunk. over_given config heard s first chunk a) next.sent (copies_are_new config heard first.after next b))
