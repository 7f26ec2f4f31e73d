-- How a chunk is settled, and how the calls that waited for it go on, are chains of moves.
use Rattle.std.proofs.Common.{◌≡◌, ◌∙◌, ◌==◌, ◌&&◌, ◌||◌, inl, inr, ℕ, Bool, true, false, not, cond, List, [], ◌∷◌, filter, refl, ap, sym, subst, ◌-◌}
use Rattle.std.specs.Prelude.{is_some, option_and_then, option_map, unwrap_or, Option, Some, None, Result, Ok, Err, if◌then◌else◌, is_none, nat_lt, slice_get}
use Rattle.std.specs.Cmp.{nat_cmp_total, tied_itself}
use Rattle.std.specs.FinMap as fin
use Rattle.gs_edit.specs.declared.edit.Edit.TheVariants as edits
use Rattle.gs_master_spec.specs.Calls.{chunks_at, is_shared}
use Rattle.gs_laws_master.proofs.lemmas.keeping.KeptViews.{same_key}
use Rattle.gs_laws_master.proofs.lemmas.names.Undone.{was_named}
use Rattle.gs_laws_master.proofs.lemmas.names.EditsBack.{admitted}
use Rattle.gs_tree.specs.Find.{at}
use Rattle.gs_tree.specs.Edits.{chunks_in}
use Rattle.gs_edit.specs.Edits.{has_reference, holds_chunk}
use Rattle.gs_refs.specs.Counts.{Counts, count_or_zero}
use Rattle.std.specs.List.{AllByRecursion, list_all}
use Rattle.std.specs.Ordering.{is_eq, eq_by_cmp, nat_cmp}
use Rattle.std.proofs.lemmas.Bool.{false≢true, true≢false, and_parts}
use Rattle.gs_base.specs.Members.{is_member}
use Rattle.gs_base.specs.Stamps.{is_same}
use Rattle.gs_base.specs.Told.{IsNumber}
use Rattle.gs_base.specs.declared.config.Config.{Config}
use Rattle.gs_base.specs.declared.numbers.Moment.{Moment}
use Rattle.gs_base.specs.declared.numbers.ReqId.{ReqId}
use Rattle.gs_base.specs.declared.numbers.Stamp.{Stamp}
use Rattle.gs_base.specs.declared.refusal.Refusal.{Refusal}
use Rattle.gs_base.specs.declared.refusal.Refusal.TheVariants as refusals
use Rattle.gs_edit.specs.View.{NamesView}
use Rattle.gs_lease.specs.Transitions.{settled_view, term_of}
use Rattle.gs_lease.specs.declared.view.Purpose.{Purpose}
use Rattle.gs_lease.specs.declared.view.Purpose.TheVariants as purposes
use Rattle.gs_lease.specs.declared.view.Term.{Term}
use Rattle.gs_lease.specs.declared.view.View.{View}
use Rattle.gs_msg.specs.declared.answer.Answer.TheVariants as answers
use Rattle.gs_msg.specs.declared.body.Body.TheVariants as bodies
use Rattle.gs_msg.specs.declared.chunk.Chunk.TheVariants as abouts
use Rattle.gs_path.specs.Path.{Path}
use Rattle.gs_master_record.specs.Plain.{AddChunk, Cow, Snapshot, Edited}
use Rattle.gs_master_spec.specs.Applied.{after_edit, applied, if_fits, is_visible, may_edit, view_in, with_edit}
use Rattle.gs_master_spec.specs.Beginning.{begin_at, copy_plan, has_handle, has_versions, next_stamp, waits_on}
use Rattle.gs_master_spec.specs.Chunks.{Chunk, chunk_at, ends_copy, has_entry, has_yes, have_all_spoken, heard_no, heard_yes, hears, is_target, may_begin, may_settle, once_spoken, proposed_in, sent_from, settling, source_in, step_after, step_at_tick, step_of_no, step_of_target, step_of_yes, view_by, with_answers}
use Rattle.gs_master_spec.specs.Durable.{Durable, Settled, is_given, is_listed, is_rolling, prepared_view}
use Rattle.gs_master_spec.specs.Handling.{pressed_if}
use Rattle.gs_master_spec.specs.Hearing.{ask_plan, heard, promised_for, stepped, unpromised_for}
use Rattle.gs_master_state.specs.Sane.{is_waited_by, makes, may_wait_for}
use Rattle.gs_master_spec.specs.Settling.{all_go_on, all_refused, concerned, copied, copied_where, edit_plan, edit_turn, ended_by_edit, ended_with, goes_on, if_room_for, is_copied_by, is_quiet_at, leased_next, own_request, replace_plan, replaced_if, requests_of, settle_plan, settled_by, settled_if, settled_on, source_chunks, quiet_view, quiet_view_at}
use Rattle.gs_master_spec.specs.State.{State, Turn, turned, unmoved, and_then, fits, ended_by}
use Rattle.gs_master_spec.specs.Undoing.{edited_names}
use Rattle.gs_master_spec.specs.Volatile.{is_call, is_pending, paths_of}
use Rattle.gs_master_spec.specs.declared.asking.Asking.{Asking}
use Rattle.gs_master_spec.specs.declared.asking.Step.{Step}
use Rattle.gs_master_spec.specs.declared.asking.Step.TheVariants as steps
use Rattle.gs_master_spec.specs.declared.change.Change.TheVariants as changes
use Rattle.gs_master_spec.specs.declared.pending.Pending.{Pending}
use Rattle.gs_master_spec.specs.declared.pending.Waiting.{Waiting}
use Rattle.gs_master_spec.specs.declared.pending.Waiting.TheVariants as waits
use Rattle.gs_view.specs.Spoken.{with_no, with_yes}
use Rattle.gs_view.specs.Choice.{answer_of, answerers, greatest}
use Rattle.gs_view.specs.declared.poll.Poll.{Poll}
use Rattle.gs_laws_master.specs.Standing.{IsSought, may_ask}
use Rattle.gs_laws_master.proofs.lemmas.fitting.Accepted.{edit_applies}
use Rattle.gs_laws_master.proofs.lemmas.fitting.AcceptedViews.{or_left}
use Rattle.gs_laws_master.proofs.lemmas.fitting.AcceptedWork.{all_ended_same}
use Rattle.gs_laws_master.proofs.lemmas.fitting.GoingOn.{Ready, left_true, may_place, viewed}
use Rattle.gs_laws_master.proofs.lemmas.keeping.KeptEdits.{cow_lists}
use Rattle.gs_laws_master.proofs.lemmas.standing.Standing.{same_call, same_number, same_parts, same_self}
use Rattle.gs_laws_master.proofs.lemmas.standing.StandingAnswers.{AreCounts, IsOne, IsToldStep, asked_so, each_one, no_told, settles_so, tick_told, yes_told}
use Rattle.gs_laws_master.proofs.lemmas.standing.StandingGoing.{Apart, CanGo, Going, is_snapshot, one_goes_so}
use Rattle.gs_laws_master.proofs.lemmas.standing.StandingTurns.{Holds}
use Rattle.gs_laws_moves.proofs.lemmas.moves.Calls.{next_is}
use Rattle.gs_laws_moves.proofs.lemmas.moves.Entries.{copied_listed, either as either_known, ended_known, settling_known, settling_names}
use Rattle.gs_laws_moves.proofs.lemmas.moves.Ended.{does_wait, some_pending}
use Rattle.gs_laws_moves.proofs.lemmas.moves.Chains.{Chained, all_ended_chain, ended_chain, rests, test_chain, then_chain}
use Rattle.gs_laws_moves.proofs.lemmas.moves.Free.{copied_itself, copies_itself, cow_here, extends_itself}
use Rattle.gs_laws_moves.specs.moves.Guards.{Heard, HasCarried, IsCalled, IsMadeBy, IsNext, IsOpenAt, IsSettledOn, IsWaiting, IsYes, May, settled_chunk, waits_for_copy, waits_to_copy, waits_to_extend, hears_call}
use Rattle.gs_laws_moves.specs.moves.FindingQuiet.{AllFindQuiet, FindsQuiet}
use Rattle.gs_laws_moves.specs.moves.ForCalls.{IsLed, StandsAt, waits_at_end, waits_for_lease, waits_for_tree}
use Rattle.gs_base.specs.MemberLaws.{eqb_itself}
use Rattle.gs_edit.proofs.Tables.{same_itself}
use Rattle.gs_tree.specs.Edits.{same_path}
use Rattle.gs_laws_moves.specs.moves.Moves.{Further, Moves, Answers as AnswersCall, Begins, Copies, CopiesTree, Extends, Hears, Replaces, Sends, Settles}

-- ---- what each step is made of

abbrev pub IsStepOf : Heard → ℕ → Asking → Step → Type 0
IsStepOf came chunk asking steps.Wait = Unit {0}
IsStepOf came chunk asking (steps.Send source target) = (asking.purpose ≡ purposes.Copy target) × (source_in asking ≡ Some source)
IsStepOf came chunk asking (steps.Settle by) = IsMadeBy came chunk asking by
IsStepOf came chunk asking steps.Fail = Unit {0}

module _ (came : Heard) (chunk : ℕ) where
  after_of : (asking : Asking) → IsStepOf came chunk asking (step_after asking)
  after_of asking = by_tests (not (have_all_spoken asking)) (not (has_yes asking)) asking.purpose refl asking.source
    where
      sent : (o : Option ℕ) (target : ℕ) → source_in asking ≡ o → asking.purpose ≡ purposes.Copy target → IsStepOf came chunk asking (sent_from o target)
      sent None target is copies = tt
      sent (Some source) target is copies = (copies, is)

      once : (purpose : Purpose) (source : Option ℕ) → asking.purpose ≡ purpose → IsStepOf came chunk asking (once_spoken asking purpose source)
      once purposes.Quiet source is = inl refl
      once purposes.Lease source is = inl refl
      once (purposes.Copy target) None is = sent (source_in asking) target refl is
      once (purposes.Copy target) (Some source) is = tt

      by_tests : (a b : Bool) (purpose : Purpose) → asking.purpose ≡ purpose → (source : Option ℕ) → IsStepOf came chunk asking (if a then steps.Wait else if b then steps.Fail else once_spoken asking purpose source)
      by_tests true b purpose is source = tt
      by_tests false true purpose is source = tt
      by_tests false false purpose is source = once purpose source is

  yes_of : (asking : Asking) (server count : ℕ) (carried : Bool) → IsYes came chunk asking server count carried → IsStepOf came chunk (heard_yes asking server count) (step_of_yes asking server count)
  yes_of asking server count carried told = by_member (is_member asking.asked server) refl
    where
      only : (a b : Bool) → (a && (false || b)) ≡ true → b ≡ true
      only true true e = refl
      only true false e = absurd (false≢true e)
      only false b e = absurd (false≢true e)

      is_it : is_member asking.asked server ≡ false → is_target asking server ≡ true
      is_it out = only (is_same asking.stamp told.stamp) (is_target asking server) (ap (λ b. is_same asking.stamp told.stamp && (b || is_target asking server)) (sym out) ∙ told.counts)

      of_target : (source : Option ℕ) → is_target asking server ≡ true → IsStepOf came chunk asking (step_of_target asking server count source)
      of_target None target = tt
      of_target (Some source) target = inr (record { server = server; count = count; carried = carried; yes = told; target = target; is = refl })

      by_member : (b : Bool) → is_member asking.asked server ≡ b
          → IsStepOf came chunk (if b then with_answers asking (with_yes asking.answers server count) else asking) (if b then step_after (if b then with_answers asking (with_yes asking.answers server count) else asking) else step_of_target asking server count asking.source)
      by_member true is = after_of (with_answers asking (with_yes asking.answers server count))
      by_member false is = of_target asking.source (is_it is)

  no_of : (asking : Asking) (server : ℕ) → IsStepOf came chunk (heard_no asking server) (step_of_no asking server)
  no_of asking server = by_tests (ends_copy asking server) (is_member asking.asked server)
    where
      same_counts : (b : Bool) → asking.answers.counts ≡ (if b then asking.answers else (record { counts = asking.answers.counts; refused = (with_no asking.answers server).refused })).counts
      same_counts true = refl
      same_counts false = refl

      kept : (b : Bool) (refused : List ℕ) → asking.answers.counts ≡ (if b then asking.answers else (record { counts = asking.answers.counts; refused = refused })).counts
      kept true refused = refl
      kept false refused = refl

      by_tests : (e b : Bool) → IsStepOf came chunk (if b then with_answers asking (with_no asking.answers server) else asking)
          (if e then steps.Settle asking.answers else if b then step_after (if b then with_answers asking (with_no asking.answers server) else asking) else steps.Wait)
      by_tests true true = inl (kept (is_some (answer_of asking.answers.counts server)) _)
      by_tests true false = inl refl
      by_tests false true = after_of (with_answers asking (with_no asking.answers server))
      by_tests false false = tt

  tick_of : (asking : Asking) → IsStepOf came chunk asking (step_at_tick asking)
  tick_of asking = by_test (has_yes asking)
    where
      by_test : (b : Bool) → IsStepOf came chunk asking (if b then steps.Settle asking.answers else steps.Fail)
      by_test true = inl refl
      by_test false = tt

-- ---- a snapshot leaves the chunk as it is

snapshot_leaves : (d : Durable) (by : ReqId) (from to : Path) (chunk : ℕ) → fin.get (unwrap_or (applied d (Edited by (Snapshot from to))) d).chunks chunk ≡ fin.get d.chunks chunk
unfolding applied
snapshot_leaves d by from to chunk = by_names (edited_names (Snapshot from to) d.names)
  where
    by_fit : (b : Bool) (names : NamesView) → fin.get (unwrap_or (if_fits b (with_edit d by (Snapshot from to) names)) d).chunks chunk ≡ fin.get d.chunks chunk
    by_fit true names = refl
    by_fit false names = refl

    by_names : (names : Result NamesView Refusal) → fin.get (unwrap_or (after_edit d by (Snapshot from to) names) d).chunks chunk ≡ fin.get d.chunks chunk
    by_names (Ok names) = by_fit (may_edit d (Snapshot from to)) names
    by_names (Err refusal) = refl

ended_has : (chunk : ℕ) (s : State) (req : ReqId) (refusal : Refusal) → fin.get (ended_by s req refusal).after.durable.chunks chunk ≡ fin.get s.durable.chunks chunk
ended_has chunk s req refusal = all_ended_same (λ d. fin.get d.chunks chunk) (λ d replies. refl) (req ∷ []) refusal s

either : (P : Turn → Type 0) (b : Bool) (t u : Turn) → P t → P u → P (if b then t else u)
either P true t u x y = x
either P false t u x y = y

snapshot_has : (chunk : ℕ) (view : View) (s : State) (req : ReqId) (waiting : Waiting) → is_snapshot waiting ≡ true → fin.get (goes_on s req view waiting).after.durable.chunks chunk ≡ fin.get s.durable.chunks chunk
unfolding goes_on
snapshot_has chunk view s req (waits.Snapshot from to) is =
    either (λ t. fin.get t.after.durable.chunks chunk ≡ fin.get s.durable.chunks chunk) (list_all (is_quiet_at s) (source_chunks s from)) (ended_by_edit s req (Snapshot from to) answers.Nothing []) (unmoved s) (by_names (edited_names (Snapshot from to) s.durable.names)) refl
  where
    by_names : (names : Result NamesView Refusal) → fin.get (edit_turn s req (edit_plan req (Snapshot from to) answers.Nothing []) names).after.durable.chunks chunk ≡ fin.get s.durable.chunks chunk
    by_names (Ok names) =
        either (λ t. fin.get t.after.durable.chunks chunk ≡ fin.get s.durable.chunks chunk) (fits s.log (Edited req (Snapshot from to) ∷ [])) (turned s (edit_plan req (Snapshot from to) answers.Nothing [])) (ended_by s req refusals.Full)
        (snapshot_leaves s.durable req from to chunk) (ended_has chunk s req refusals.Full)
    by_names (Err refusal) = ended_has chunk s req refusal
snapshot_has chunk view s req waiting is = absurd (false≢true is)

snapshot_known : (chunk : ℕ) (view : View) (s : State) (req : ReqId) (waiting : Waiting) → is_snapshot waiting ≡ true → fin.get s.volatile.moving chunk ≡ None → has_entry s chunk ≡ true → has_entry (goes_on s req view waiting).after chunk ≡ true
unfolding goes_on
snapshot_known chunk view s req (waits.Snapshot from to) is none known =
    either (λ t. has_entry t.after chunk ≡ true) (list_all (is_quiet_at s) (source_chunks s from)) (ended_by_edit s req (Snapshot from to) answers.Nothing []) (unmoved s) (by_names (edited_names (Snapshot from to) s.durable.names)) known
  where
    copied : has_entry (turned s (edit_plan req (Snapshot from to) answers.Nothing [])).after chunk ≡ true
    copied =
        either_known (is_listed s.durable chunk) (is_member s.volatile.unplaced chunk) (is_listed (turned s (edit_plan req (Snapshot from to) answers.Nothing [])).after.durable chunk) (is_member s.volatile.unplaced chunk) known
        (λ listed. copied_listed chunk s.durable req from to listed) (λ here. here)

    by_names : (names : Result NamesView Refusal) → has_entry (edit_turn s req (edit_plan req (Snapshot from to) answers.Nothing []) names).after chunk ≡ true
    by_names (Ok names) =
        either (λ t. has_entry t.after chunk ≡ true) (fits s.log (Edited req (Snapshot from to) ∷ [])) (turned s (edit_plan req (Snapshot from to) answers.Nothing [])) (ended_by s req refusals.Full) copied (ended_known chunk s req refusals.Full none known)
    by_names (Err refusal) = ended_known chunk s req refusal none known
snapshot_known chunk view s req waiting is none known = absurd (false≢true is)

snapshot_listed : (chunk : ℕ) (view : View) (s : State) (req : ReqId) (waiting : Waiting) → is_snapshot waiting ≡ true → is_listed s.durable chunk ≡ true → is_listed (goes_on s req view waiting).after.durable chunk ≡ true
unfolding goes_on
snapshot_listed chunk view s req (waits.Snapshot from to) is listed =
    either (λ t. is_listed t.after.durable chunk ≡ true) (list_all (is_quiet_at s) (source_chunks s from)) (ended_by_edit s req (Snapshot from to) answers.Nothing []) (unmoved s) (by_names (edited_names (Snapshot from to) s.durable.names)) listed
  where
    ended : (refusal : Refusal) → is_listed (ended_by s req refusal).after.durable chunk ≡ true
    ended refusal = all_ended_same (λ d. is_listed d chunk) (λ d replies. refl) (req ∷ []) refusal s ∙ listed

    by_names : (names : Result NamesView Refusal) → is_listed (edit_turn s req (edit_plan req (Snapshot from to) answers.Nothing []) names).after.durable chunk ≡ true
    by_names (Ok names) =
        either (λ t. is_listed t.after.durable chunk ≡ true) (fits s.log (Edited req (Snapshot from to) ∷ [])) (turned s (edit_plan req (Snapshot from to) answers.Nothing [])) (ended_by s req refusals.Full)
        (copied_listed chunk s.durable req from to listed) (ended refusals.Full)
    by_names (Err refusal) = ended refusal
snapshot_listed chunk view s req waiting is listed = absurd (false≢true is)

-- The chunk is known, and as it was settled. It stands in a file still, if it was placed in one.
record Stays (chunk : ℕ) (view : View) (placed : Bool) (s : State) : Type 0 where
  has : fin.get s.durable.chunks chunk ≡ Some (record { view = view; is_moving = false })
  unasked : fin.get s.volatile.moving chunk ≡ None
  known : has_entry s chunk ≡ true
  listed : placed ≡ true → is_listed s.durable chunk ≡ true

-- the view of a chunk that is quiet, by whether it is known, by what is settled of it and by what is asked
abbrev quiet_in : Bool → Option Settled → Option Asking → Option View
quiet_in known settled asking = option_and_then quiet_view (if known then Some (record { settled = settled; asking = asking }) else None)

-- a chunk that is known, and settled on a view without a primary, is quiet on it
quiet_on : (s : State) (chunk : ℕ) (view : View) → has_entry s chunk ≡ true → IsSettledOn s chunk view → view.term ≡ None → quiet_view_at s chunk ≡ Some view
unfolding chunk_at
quiet_on s chunk view known settled none =
    ap (λ b. quiet_in b (fin.get s.durable.chunks chunk) (fin.get s.volatile.moving chunk)) known
    ∙ ap (λ o. quiet_in true o (fin.get s.volatile.moving chunk)) settled.has
    ∙ ap (λ o. quiet_in true (Some (record { view = view; is_moving = false })) o) settled.unasked
    ∙ ap (λ (term : Option Term). if is_none term then Some view else None) none

-- a copy that takes its place stands nowhere else
cow_alone : (path : Path) (index old new : ℕ) (names after : NamesView) → edited_names (Cow path index old new) names ≡ Ok after → is_shared after new ≡ false
cow_alone path index old new names after e =
    let n = was_named (Cow path index old new) names after e in
    let parts = admitted (edits.Cow path index old new) (fin.entries names.tree) names.refs (n.rows, n.refs) n.made in
    let first = and_parts (is_none (fin.get names.refs new)) (holds_chunk (slice_get (chunks_in (at (fin.entries names.tree) path)) index) old && has_reference (fin.get names.refs old)) parts.asked in
    let referred = (and_parts (holds_chunk (slice_get (chunks_in (at (fin.entries names.tree) path)) index) old) (has_reference (fin.get names.refs old)) first.1).1 in
    ap (λ (x : NamesView). nat_lt 1 (count_or_zero (fin.get x.refs new))) (sym n.is) ∙ ap (λ (m : Counts). nat_lt 1 (count_or_zero (fin.get m new))) (sym (counts_are parts.counts))
    ∙ ap (λ o. nat_lt 1 (count_or_zero o)) (fin.get-insert nat_cmp_total (fin.insert names.refs new 1) old (count_or_zero (fin.get names.refs old) - 1) new ∙ by_key (eq_by_cmp nat_cmp new old) refl first.0 referred)
  where
    counts_are : {a b : Counts} → ◌≡◌ {A = Result Counts Refusal} (Ok a) (Ok b) → a ≡ b
    counts_are h = cc

    clash : (o : Option ℕ) → is_none o ≡ true → has_reference o ≡ true → ⊥
    clash None a b = false≢true b
    clash (Some x) a b = false≢true a

    by_key : (b : Bool) → eq_by_cmp nat_cmp new old ≡ b → is_none (fin.get names.refs new) ≡ true → has_reference (fin.get names.refs old) ≡ true
        → cond b (Some (count_or_zero (fin.get names.refs old) - 1)) (fin.get (fin.insert names.refs new 1) new) ≡ Some 1
    by_key true same none some = absurd (clash (fin.get names.refs new) none (ap (λ c. has_reference (fin.get names.refs c)) (same_key new old same) ∙ some))
    by_key false other none some = fin.get-insert nat_cmp_total names.refs new 1 new ∙ ap (λ o. cond (is_eq o) (Some 1) (fin.get names.refs new)) (tied_itself nat_cmp_total new)

-- it waits for a quiet chunk, to copy it
abbrev is_quieting : Waiting → Bool
is_quieting (waits.Quiet path index quiet) = true
is_quieting waiting = false

-- it waits for such a chunk, or for a lease: for a chunk of a file
abbrev is_of_file : Waiting → Bool
is_of_file (waits.Quiet path index quiet) = true
is_of_file (waits.Lease path index leased) = true
is_of_file waiting = false

-- who waits so waits so
ends_itself : (path : Path) (new : ℕ) → waits_at_end path new (waits.Extend path new) ≡ true
ends_itself path new = ap (λ b. b && (new == new)) (same_itself path) ∙ eqb_itself new

leases_itself : (path : Path) (index chunk : ℕ) → waits_for_lease path index chunk (waits.Lease path index chunk) ≡ true
leases_itself path index chunk = ap (λ b. b && (index == index && chunk == chunk)) (same_itself path) ∙ ap (λ b. b && (chunk == chunk)) (eqb_itself index) ∙ eqb_itself chunk

trees_itself : (from to : Path) → waits_for_tree from to (waits.Snapshot from to) ≡ true
trees_itself from to = ap (λ b. b && same_path to to) (same_itself from) ∙ same_itself to

-- it waits for a lease
abbrev is_leasing : Waiting → Bool
is_leasing (waits.Lease path index leased) = true
is_leasing waiting = false

turned_about : (a b : ReqId) → same_call a b ≡ true → same_call b a ≡ true
turned_about a b h = ap (same_call b) (same_parts a b h) ∙ same_self b

module _ (config : Config) (came : Heard) (silent : hears_call came ≡ false) (chunk : ℕ) (view : View) (placed : Bool) where
  -- ---- one call goes on

  room_for_chain : (s : State) (req : ReqId) → is_pending s.volatile.pending req ≡ true → (t : Turn) → Chained config came s t → Chained config came s (if_room_for s req t)
  room_for_chain s req there t a = test_chain config came s (fits s.log t.records) t (ended_by s req refusals.Full) (λ _. a) (λ _. ended_chain config came s req there refusals.Full)

  leased_next_chain : (req : ReqId) (path : Path) (index new : ℕ) (s : State) → is_pending s.volatile.pending req ≡ true → IsOpenAt s req new → has_entry s new ≡ true → is_shared s.durable.names new ≡ false → (old : ℕ) → IsWaiting s req (waits_for_copy path index old new) → StandsAt s.durable.names path index new → Chained config came s (leased_next req path index new s)
  leased_next_chain req path index new s there clear known alone old copies here =
      let t = turned s (waits_on (begin_at s new purposes.Lease (Some req)) req (waits.Lease path index new)) in
      let begin = if_room_for s req t in
      test_chain config came s (not (may_begin s.durable.phase)) (ended_by s req refusals.RollingBack) (if not (has_versions s.durable 1) then ended_by s req refusals.Exhausted else begin) (λ _. ended_chain config came s req there refusals.RollingBack)
      (λ _. test_chain config came s (not (has_versions s.durable 1)) (ended_by s req refusals.Exhausted) begin (λ _. ended_chain config came s req there refusals.Exhausted)
      (λ _. room_for_chain s req there t (Moves s (Begins new purposes.Lease (Some req) (Further req (waits.Lease path index new))) None (record { known = known; alone = alone; elsewhere = tt; called = tt; clear = clear; begun = refl }, (refl, (old, copies), here)))))

  -- the copy is listed once it has its place
  replaced_chain : (req : ReqId) (path : Path) (index old new : ℕ) (s : State) → IsWaiting s req (waits_for_copy path index old new) → new ≡ chunk → is_visible path ≡ true → Ready chunk s.durable → IsSettledOn s new view → has_entry s new ≡ true → (names : Result NamesView Refusal) → edited_names (Cow path index old new) s.durable.names ≡ names
      → Chained config came s (replaced_if s req path index old new names)
  replaced_chain req path index old new s waits_so same visible r settled at_new (Ok names) e =
      let there = does_wait s req (waits_for_copy path index old new) waits_so in
      let t = turned s (replace_plan path index old new) in
      let may = subst (λ c. may_edit s.durable (Cow path index old c) ≡ true) (sym same) (may_place chunk s.durable (Cow path index old chunk) r visible (viewed chunk s.durable r) refl) in
      let fit = edit_applies ⊥ s.durable own_request (Cow path index old new) names e may in
      let listed : is_listed t.after.durable new ≡ true = ap (λ o. is_listed (unwrap_or o s.durable) new) fit ∙ cow_lists path index old new s.durable.names names e in
      let alone : is_shared t.after.durable.names new ≡ false = ap (λ o. is_shared (unwrap_or o s.durable).names new) fit ∙ cow_alone path index old new s.durable.names names e in
      test_chain config came s (fits s.log (Edited own_request (Cow path index old new) ∷ [])) (and_then t (leased_next req path index new)) (ended_by s req refusals.Full)
      (λ _. then_chain config came s t (leased_next req path index new) (Moves s (Replaces path index old new) None (((names, e), (view, settled), at_new, (req, waits_so)), tt))
      (leased_next_chain req path index new t.after there (record { path = path; index = index; here = ap (λ o. slice_get (chunks_at (unwrap_or o s.durable).names path) index) fit ∙ cow_here path index old new s.durable.names names e; clear = inr (old, waits_so) }) (or_left (is_listed t.after.durable new) (is_member t.after.volatile.unplaced new) listed) alone old waits_so (ap (λ o. slice_get (chunks_at (unwrap_or o s.durable).names path) index) fit ∙ cow_here path index old new s.durable.names names e)))
      (λ _. ended_chain config came s req there refusals.Full)
  replaced_chain req path index old new s waits_so same visible r settled at_new (Err refusal) e = ended_chain config came s req (does_wait s req (waits_for_copy path index old new) waits_so) refusal

  extended_chain : (req : ReqId) (path : Path) (new : ℕ) (s : State) → IsCalled came s req → IsWaiting s req (waits_to_extend new) → IsWaiting s req (waits_at_end path new) → IsSettledOn s new view → has_entry s new ≡ true → (names : Result NamesView Refusal) → edited_names (AddChunk path new) s.durable.names ≡ names
      → Chained config came s (edit_turn s req (edit_plan req (AddChunk path new) (answers.Location new view s.durable.epoch) (changes.Place new ∷ [])) names)
  extended_chain req path new s called waits_so ends settled at_new (Ok names) e =
      room_for_chain s req (does_wait s req (waits_to_extend new) waits_so) (turned s (edit_plan req (AddChunk path new) (answers.Location new view s.durable.epoch) (changes.Place new ∷ []))) (Moves s (Extends req path new view) None (((names, e), settled, at_new, called, waits_so, silent), ends))
  extended_chain req path new s called waits_so ends settled at_new (Err refusal) e = ended_chain config came s req (does_wait s req (waits_to_extend new) waits_so) refusal

  copied_chain : (req : ReqId) (path : Path) (index old : ℕ) (s : State) → IsWaiting s req (waits_to_copy path index old) → has_entry s old ≡ true → is_listed s.durable old ≡ true → IsNext s → is_given s.durable.next_handle old ≡ true → IsSettledOn s old view → view.term ≡ None → Chained config came s (copied s req path index old)
  copied_chain req path index old s waits_so known listed fresh given settled none =
      let there = does_wait s req (waits_to_copy path index old) waits_so in
      let new = s.durable.next_handle in
      let t = turned s (waits_on (copy_plan (next_stamp s.durable) old view new req) req (waits.Copy path index old new)) in
      let copy = copied_where s req path index old (quiet_view_at s old) in
      test_chain config came s (not (may_begin s.durable.phase)) (ended_by s req refusals.RollingBack) (if not (has_handle s.durable && has_versions s.durable 1) then ended_by s req refusals.Exhausted else copy) (λ _. ended_chain config came s req there refusals.RollingBack)
      (λ _. test_chain config came s (not (has_handle s.durable && has_versions s.durable 1)) (ended_by s req refusals.Exhausted) copy (λ _. ended_chain config came s req there refusals.Exhausted)
      (λ _. subst (λ o. Chained config came s (copied_where s req path index old o)) (sym (quiet_on s old view known settled none))
      (room_for_chain s req there t (Moves s (Copies old view req (Further req (waits.Copy path index old new))) None ((record { known = known; listed = listed; fresh = fresh; given = given; settled = settled; quiet = none }, tt, (refl, refl, waits_so)), tt)))))

  tree_chain : (req : ReqId) (from to : Path) (s : State) → is_pending s.volatile.pending req ≡ true → IsWaiting s req (waits_for_tree from to) → list_all (is_quiet_at s) (source_chunks s from) ≡ true → (names : Result NamesView Refusal) → edited_names (Snapshot from to) s.durable.names ≡ names
      → Chained config came s (edit_turn s req (edit_plan req (Snapshot from to) answers.Nothing []) names)
  tree_chain req from to s called so still (Ok names) e = room_for_chain s req called (turned s (edit_plan req (Snapshot from to) answers.Nothing [])) (Moves s (CopiesTree req from to) None (((names, e), still, called, silent), so))
  tree_chain req from to s called so still (Err refusal) e = ended_chain config came s req called refusal

  settled_so : (s : State) (c : ℕ) → c ≡ chunk → Stays chunk view placed s → IsSettledOn s c view
  settled_so s c same k = subst (λ x. IsSettledOn s x view) (sym same) (record { has = k.has; unasked = k.unasked })

  known_so : (s : State) (c : ℕ) → c ≡ chunk → Stays chunk view placed s → has_entry s c ≡ true
  known_so s c same k = ap (has_entry s) same ∙ k.known

  -- a snapshot looks at no view
  snapshot_chain : (s : State) (req : ReqId) (waiting : Waiting) → is_pending s.volatile.pending req ≡ true → is_snapshot waiting ≡ true → ((test : Waiting → Bool) → is_waited_by (Some req) test s.volatile.pending ≡ test waiting) → Chained config came s (goes_on s req view waiting)
  unfolding goes_on
  snapshot_chain s req (waits.Snapshot from to) called is now =
      test_chain config came s (list_all (is_quiet_at s) (source_chunks s from)) (ended_by_edit s req (Snapshot from to) answers.Nothing []) (unmoved s)
      (λ still. tree_chain req from to s called (now (waits_for_tree from to) ∙ trees_itself from to) still (edited_names (Snapshot from to) s.durable.names) refl) (λ _. rests config came s)
  snapshot_chain s req waiting called is now = absurd (false≢true is)

  -- A call that copies the chunk waits for a view without a lease, one that waits for a chunk of a file waits for one that was placed in one, and one that waits for a lease waits for a view with a primary.
  abbrev IsQuiet : Pending → Type 0
  IsQuiet p = (is_quieting p.waits ≡ true → view.term ≡ None) × (is_of_file p.waits ≡ true → placed ≡ true) × (is_leasing p.waits ≡ true → IsLed view)

  -- it waits
  goes_called : (s : State) (p : Pending) → CanGo chunk s.volatile p → is_pending s.volatile.pending p.req ≡ true
  goes_called s p go = weaker s.volatile.pending (go.now (λ waiting. true))
    where
      weaker : (ps : List Pending) → is_waited_by (Some p.req) (λ waiting. true) ps ≡ true → is_pending ps p.req ≡ true
      weaker [] some = some
      weaker (q ∷ ps) some = by_head (is_call q.req (Some p.req)) (same_call p.req q.req) (turned_about q.req p.req) some (weaker ps)
        where
          by_head : (a b : Bool) → (a ≡ true → b ≡ true) → ((a && true) || is_waited_by (Some p.req) (λ waiting. true) ps) ≡ true → (is_waited_by (Some p.req) (λ waiting. true) ps ≡ true → is_pending ps p.req ≡ true) → (b || is_pending ps p.req) ≡ true
          by_head true b same some rest = ap (λ c. c || is_pending ps p.req) (same refl)
          by_head false true same some rest = refl
          by_head false false same some rest = rest some

  one_chain : (s : State) (p : Pending) → Holds true s → CanGo chunk s.volatile p → Ready chunk s.durable → Stays chunk view placed s → IsQuiet p → Chained config came s (goes_on s p.req view p.waits)
  unfolding goes_on
  one_chain s p h go r k quiet = by_waiting p.waits refl go.may go.can.0 quiet.0 quiet.1 quiet.2
    where
      called : IsCalled came s p.req
      called = inr (goes_called s p go)

      by_waiting : (w : Waiting) → w ≡ p.waits → may_wait_for chunk w ≡ true → list_all is_visible (paths_of w) ≡ true → (is_quieting w ≡ true → view.term ≡ None) → (is_of_file w ≡ true → placed ≡ true) → (is_leasing w ≡ true → IsLed view) → Chained config came s (goes_on s p.req view w)
      by_waiting (waits.Extend path new) e may visible quiet in_file led = extended_chain p.req path new s called (go.now (waits_to_extend new) ∙ ap (waits_to_extend new) (sym e) ∙ extends_itself path new) (go.now (waits_at_end path new) ∙ ap (waits_at_end path new) (sym e) ∙ ends_itself path new) (settled_so s new (same_number new chunk may) k) (known_so s new (same_number new chunk may) k) (edited_names (AddChunk path new) s.durable.names) refl
      by_waiting (waits.Lease path index leased) e may visible quiet in_file led =
          let settled = settled_so s leased (same_number leased chunk may) k in
          Moves s (AnswersCall p.req (answers.Location leased view s.durable.epoch) true) None (((record { settled = ap view_in settled.has; now = refl; listed = ap (is_listed s.durable) (same_number leased chunk may) ∙ k.listed (in_file refl); calm = r.rolling }, settled, called), refl), (path, index, go.now (waits_for_lease path index leased) ∙ ap (waits_for_lease path index leased) (sym e) ∙ leases_itself path index leased, led refl))
      by_waiting (waits.Quiet path index old) e may visible quiet in_file led = copied_chain p.req path index old s (go.now (waits_to_copy path index old) ∙ ap (waits_to_copy path index old) (sym e) ∙ copies_itself path index old) (known_so s old (same_number old chunk may) k) (ap (is_listed s.durable) (same_number old chunk may) ∙ k.listed (in_file refl)) (next_is s h.stands.kept) (h.stands.kept.handles old (ap is_some (settled_so s old (same_number old chunk may) k).has)) (settled_so s old (same_number old chunk may) k) (quiet refl)
      by_waiting (waits.Copy path index old new) e may visible quiet in_file led =
          replaced_chain p.req path index old new s (go.now (waits_for_copy path index old new) ∙ ap (waits_for_copy path index old new) (sym e) ∙ copied_itself path index old new) (same_number new chunk may) (left_true (is_visible path) visible) r (settled_so s new (same_number new chunk may) k) (known_so s new (same_number new chunk may) k) (edited_names (Cow path index old new) s.durable.names) refl
      by_waiting (waits.Snapshot from to) e may visible quiet in_file led = snapshot_chain s p.req (waits.Snapshot from to) (goes_called s p go) refl (λ test. go.now test ∙ ap test (sym e))
      by_waiting (waits.Replicate old target) e may visible quiet in_file led =
          test_chain config came s (is_member view.members target) (ended_with s p.req (answers.Copied (Some (record { handle = old; server = target })))) (ended_by s p.req refusals.NoReplica)
          (λ _. Moves s (AnswersCall p.req (answers.Copied (Some (record { handle = old; server = target }))) true) None (((tt, tt, tt), refl), tt)) (λ _. ended_chain config came s p.req (goes_called s p go) refusals.NoReplica)

  -- ---- one after the other

  abbrev AllSnapshots : List Pending → Type 0
  AllSnapshots ps = AllByRecursion (λ (p : Pending). is_snapshot p.waits ≡ true) ps

  others_snapshots : (p : Pending) (calls : List Pending) → is_snapshot p.waits ≡ false → AllByRecursion (Apart p) calls → AllSnapshots calls
  others_snapshots p [] other apart = tt
  others_snapshots p (q ∷ calls) other apart = (only (is_snapshot p.waits) (is_snapshot q.waits) other apart.0.1, others_snapshots p calls other apart.1)
    where
      only : (a b : Bool) → a ≡ false → (a || b) ≡ true → b ≡ true
      only true b e k = absurd (true≢false e)
      only false b e k = k

  snapshots_chain : (calls : List Pending) (s : State) → Holds true s → Going chunk s.volatile calls → Ready chunk s.durable → AllSnapshots calls → Chained config came s (all_go_on view calls s)
  snapshots_chain [] s h go r all = rests config came s
  snapshots_chain (p ∷ calls) s h go r all =
      let one = one_goes_so chunk view p calls s h go r in
      let t = goes_on s p.req view p.waits in
      then_chain config came s t (all_go_on view calls) (snapshot_chain s p.req p.waits (goes_called s p go.0) all.0 go.0.now) (snapshots_chain calls t.after one.held one.going one.ready all.1)

  abbrev AreQuiet : List Pending → Type 0
  AreQuiet ps = AllByRecursion IsQuiet ps

  all_chain : (calls : List Pending) (s : State) → Holds true s → Going chunk s.volatile calls → Ready chunk s.durable → Stays chunk view placed s → AreQuiet calls → Chained config came s (all_go_on view calls s)
  all_chain [] s h go r k quiet = rests config came s
  all_chain (p ∷ calls) s h go r k quiet =
      let one = one_goes_so chunk view p calls s h go r in
      then_chain config came s (goes_on s p.req view p.waits) (all_go_on view calls) (one_chain s p h go.0 r k quiet.0)
      (by_waiting (is_snapshot p.waits) refl
      (λ is. all_chain calls (goes_on s p.req view p.waits).after one.held one.going one.ready (record { has = snapshot_has chunk view s p.req p.waits is ∙ k.has; unasked = one.bare is chunk k.unasked; known = snapshot_known chunk view s p.req p.waits is k.unasked k.known; listed = λ there. snapshot_listed chunk view s p.req p.waits is (k.listed there) }) quiet.1)
      (λ other. snapshots_chain calls (goes_on s p.req view p.waits).after one.held one.going one.ready (others_snapshots p calls other go.1.0)))
    where
      by_waiting : (b : Bool) → is_snapshot p.waits ≡ b → (is_snapshot p.waits ≡ true → Chained config came (goes_on s p.req view p.waits).after (all_go_on view calls (goes_on s p.req view p.waits).after))
          → (is_snapshot p.waits ≡ false → Chained config came (goes_on s p.req view p.waits).after (all_go_on view calls (goes_on s p.req view p.waits).after)) → Chained config came (goes_on s p.req view p.waits).after (all_go_on view calls (goes_on s p.req view p.waits).after)
      by_waiting true is f g = f is
      by_waiting false is f g = g is

  -- ---- a call that waited to copy the chunk finds it quiet

  one_finds : (s : State) (w : Waiting) → may_wait_for chunk w ≡ true → Stays chunk view placed s → (is_quieting w ≡ true → view.term ≡ None) → FindsQuiet s view w
  one_finds s (waits.Quiet path index old) may k quiet = quiet_on s old view (known_so s old (same_number old chunk may) k) (settled_so s old (same_number old chunk may) k) (quiet refl)
  one_finds s waiting may k quiet = tt

  snapshots_find : (calls : List Pending) (s : State) → AllSnapshots calls → AllFindQuiet view calls s
  snapshots_find [] s all = tt
  snapshots_find (p ∷ calls) s all = (by_waiting p.waits all.0, snapshots_find calls (goes_on s p.req view p.waits).after all.1)
    where
      by_waiting : (w : Waiting) → is_snapshot w ≡ true → FindsQuiet s view w
      by_waiting (waits.Snapshot from to) is = tt
      by_waiting waiting is = absurd (false≢true is)

  all_find : (calls : List Pending) (s : State) → Holds true s → Going chunk s.volatile calls → Ready chunk s.durable → Stays chunk view placed s → AreQuiet calls → AllFindQuiet view calls s
  all_find [] s h go r k quiet = tt
  all_find (p ∷ calls) s h go r k quiet =
      let one = one_goes_so chunk view p calls s h go r in
      let after = (goes_on s p.req view p.waits).after in (
        one_finds s p.waits go.0.may k quiet.0.0,
        by_waiting (is_snapshot p.waits) refl
            (λ is. all_find calls after one.held one.going one.ready (record { has = snapshot_has chunk view s p.req p.waits is ∙ k.has; unasked = one.bare is chunk k.unasked; known = snapshot_known chunk view s p.req p.waits is k.unasked k.known; listed = λ there. snapshot_listed chunk view s p.req p.waits is (k.listed there) }) quiet.1)
            (λ other. snapshots_find calls after (others_snapshots p calls other go.1.0)),
      )
    where
      by_waiting : (b : Bool) → is_snapshot p.waits ≡ b → (is_snapshot p.waits ≡ true → AllFindQuiet view calls (goes_on s p.req view p.waits).after) → (is_snapshot p.waits ≡ false → AllFindQuiet view calls (goes_on s p.req view p.waits).after)
          → AllFindQuiet view calls (goes_on s p.req view p.waits).after
      by_waiting true is f g = f is
      by_waiting false is f g = g is

-- ---- a view that a call which copies waits for has no lease

is_lease : Purpose → Bool
is_lease purposes.Lease = true
is_lease purpose = false

not_leased : (purpose : Purpose) (waiting : Waiting) → is_quieting waiting ≡ true → may_ask purpose waiting ≡ true → is_lease purpose ≡ false
unfolding is_lease
not_leased purposes.Lease (waits.Quiet path index quiet) is may = absurd (false≢true may)
not_leased purposes.Lease (waits.Extend path new) is may = absurd (false≢true is)
not_leased purposes.Lease (waits.Lease path index leased) is may = absurd (false≢true is)
not_leased purposes.Lease (waits.Copy path index old new) is may = absurd (false≢true is)
not_leased purposes.Lease (waits.Snapshot from to) is may = absurd (false≢true is)
not_leased purposes.Lease (waits.Replicate copied target) is may = absurd (false≢true is)
not_leased purposes.Quiet waiting is may = refl
not_leased (purposes.Copy target) waiting is may = refl

no_term : (purpose : Purpose) (members : List ℕ) (moment : Moment) → is_lease purpose ≡ false → term_of purpose members moment ≡ None
unfolding is_lease
no_term purposes.Lease members moment e = absurd (true≢false e)
no_term purposes.Quiet members moment e = refl
no_term (purposes.Copy target) members moment e = refl

view_is : {a b : View} → ◌≡◌ {A = Option View} (Some a) (Some b) → a ≡ b
view_is e = cc

led_term : (purpose : Purpose) (asked members : List ℕ) (moment : Moment) → is_lease purpose ≡ true → may_settle asked members ≡ true → is_some (term_of purpose members moment) ≡ true
unfolding is_lease
led_term purposes.Lease asked [] moment e one = absurd (false≢true one)
led_term purposes.Lease asked (m ∷ members) moment e one = refl
led_term purposes.Quiet asked members moment e one = absurd (false≢true e)
led_term (purposes.Copy target) asked members moment e one = absurd (false≢true e)

view_led : (c : Chunk) (asking : Asking) (by : Poll) (moment : Moment) (view : View) → view_by c asking by moment ≡ Some view → is_lease asking.purpose ≡ true → IsLed view
view_led c asking by moment view e leased = by_most (greatest by.counts) e
  where
    some_term : (o : Option Term) → is_some o ≡ true → (t : Term) × (o ≡ Some t)
    some_term None h = absurd (false≢true h)
    some_term (Some t) h = (t, refl)

    by_test : (b : Bool) (made : View) → (b ≡ true → is_some made.term ≡ true) → (if b then Some made else None) ≡ Some view → IsLed view
    by_test true made some h = subst IsLed (view_is h) (some_term made.term (some refl))
    by_test false made some h = absurd (false≢true (ap is_some h))

    by_most : (most : Option ℕ) → option_and_then (λ (ch : List ℕ × ℕ). if may_settle asking.asked ch.0 then Some (settled_view (proposed_in c asking) ch.0 ch.1 moment) else None) (option_map (λ count. (answerers by.counts count, count)) most) ≡ Some view → IsLed view
    by_most None h = absurd (false≢true (ap is_some h))
    by_most (Some count) h = by_test (may_settle asking.asked (answerers by.counts count)) (settled_view (proposed_in c asking) (answerers by.counts count) count moment) (λ one. led_term asking.purpose asking.asked (answerers by.counts count) moment leased one) h

leases : (purpose : Purpose) (waiting : Waiting) → is_leasing waiting ≡ true → may_ask purpose waiting ≡ true → is_lease purpose ≡ true
unfolding is_lease
leases purposes.Lease (waits.Lease path index chunk) is may = refl
leases purposes.Quiet (waits.Lease path index chunk) is may = absurd (false≢true may)
leases (purposes.Copy target) (waits.Lease path index chunk) is may = absurd (false≢true may)
leases purpose waiting is may = absurd (false≢true is)

view_term : (c : Chunk) (asking : Asking) (by : Poll) (moment : Moment) (view : View) → view_by c asking by moment ≡ Some view → is_lease asking.purpose ≡ false → view.term ≡ None
view_term c asking by moment view e other = by_most (greatest by.counts) e
  where
    by_test : (b : Bool) (made : View) → made.term ≡ None → (if b then Some made else None) ≡ Some view → view.term ≡ None
    by_test true made none h = ap (λ (v : View). v.term) (sym (view_is h)) ∙ none
    by_test false made none h = absurd (false≢true (ap is_some h))

    by_most : (most : Option ℕ) → option_and_then (λ (ch : List ℕ × ℕ). if may_settle asking.asked ch.0 then Some (settled_view (proposed_in c asking) ch.0 ch.1 moment) else None) (option_map (λ count. (answerers by.counts count, count)) most) ≡ Some view → view.term ≡ None
    by_most None h = absurd (false≢true (ap is_some h))
    by_most (Some count) h = by_test (may_settle asking.asked (answerers by.counts count)) (settled_view (proposed_in c asking) (answerers by.counts count) count moment) (no_term asking.purpose (answerers by.counts count) moment other) h

-- ---- a chunk is settled

-- a call that waits for a chunk of a file makes none
makes_none : (chunk : ℕ) (waiting : Waiting) → is_of_file waiting ≡ true → makes chunk waiting ≡ false
makes_none chunk (waits.Extend path new) is = absurd (false≢true is)
makes_none chunk (waits.Copy path index old new) is = absurd (false≢true is)
makes_none chunk waiting is = refl

-- a chunk that moves for a call which makes none stands in a file
stands_in_file : (s : State) (chunk : ℕ) (asking : Asking) (p : Pending) → IsSought s.durable s.volatile chunk asking → IsOne s.volatile.pending p → is_call p.req asking.call ≡ true → makes chunk p.waits ≡ false → is_listed s.durable chunk ≡ true
stands_in_file s chunk asking p k one mine none = by_listed (is_listed s.durable chunk) k.known
  where
    of_call : (call : Option ReqId) → is_call p.req call ≡ true → call ≡ Some p.req
    of_call None e = absurd (false≢true e)
    of_call (Some r) e = ap Some (sym (same_parts p.req r e))

    own : asking.call ≡ Some p.req
    own = of_call asking.call mine

    by_listed : (b : Bool) → (b || is_member s.volatile.unplaced chunk) ≡ true → b ≡ true
    by_listed true e = refl
    by_listed false here = absurd (false≢true (sym (ap (λ c. is_waited_by c (makes chunk) s.volatile.pending) own ∙ one.now (makes chunk) ∙ none) ∙ k.own p.req own here))

module _ (config : Config) (came : Heard) (silent : hears_call came ≡ false) (s : State) (chunk : ℕ) (asking : Asking) (view : View) (none : is_lease asking.purpose ≡ false → view.term ≡ None) (led : is_lease asking.purpose ≡ true → IsLed view) (k : IsSought s.durable s.volatile chunk asking) where
  lease_file : (waiting : Waiting) → is_leasing waiting ≡ true → is_of_file waiting ≡ true
  lease_file (waits.Lease path index leased) is = refl
  lease_file waiting is = absurd (false≢true is)

  quiet_file : (waiting : Waiting) → is_quieting waiting ≡ true → is_of_file waiting ≡ true
  quiet_file (waits.Quiet path index quiet) is = refl
  quiet_file waiting is = absurd (false≢true is)

  alone : (waiting : Waiting) → is_of_file waiting ≡ true → is_copied_by s chunk waiting ≡ false
  alone (waits.Snapshot from to) is = absurd (false≢true is)
  alone waiting is = refl

  quiet_of : (ps : List Pending) → AllByRecursion (IsOne s.volatile.pending) ps → AreQuiet config came silent chunk view (is_listed s.durable chunk) (filter (λ (p : Pending). is_call p.req asking.call || is_copied_by s chunk p.waits) ps)
  quiet_of [] all = tt
  quiet_of (p ∷ ps) all = by_test (is_call p.req asking.call || is_copied_by s chunk p.waits) refl (quiet_of ps all.1)
    where
      calls_it : (a b : Bool) → (a || b) ≡ true → b ≡ false → a ≡ true
      calls_it true b e out = refl
      calls_it false b e out = absurd (false≢true (sym out ∙ e))

      may : is_call p.req asking.call ≡ true → may_ask asking.purpose p.waits ≡ true
      may mine = ap (λ b. not b || may_ask asking.purpose p.waits) (sym mine) ∙ all.0.each (λ (q : Pending). not (is_call q.req asking.call) || may_ask asking.purpose q.waits) k.purposed

      by_test : (b : Bool) → (is_call p.req asking.call || is_copied_by s chunk p.waits) ≡ b → AreQuiet config came silent chunk view (is_listed s.durable chunk) (filter (λ (q : Pending). is_call q.req asking.call || is_copied_by s chunk q.waits) ps)
          → AreQuiet config came silent chunk view (is_listed s.durable chunk) (cond b (p ∷ filter (λ (q : Pending). is_call q.req asking.call || is_copied_by s chunk q.waits) ps) (filter (λ (q : Pending). is_call q.req asking.call || is_copied_by s chunk q.waits) ps))
      by_test true concerned_so rest =
          let mine : is_of_file p.waits ≡ true → is_call p.req asking.call ≡ true = λ is. calls_it (is_call p.req asking.call) (is_copied_by s chunk p.waits) concerned_so (alone p.waits is) in
          ((λ is. none (not_leased asking.purpose p.waits is (may (mine (quiet_file p.waits is)))), λ is. stands_in_file s chunk asking p k all.0 (mine is) (makes_none chunk p.waits is), λ is. led (leases asking.purpose p.waits is (may (mine (lease_file p.waits is))))), rest)
      by_test false other rest = rest

module _ (config : Config) (came : Heard) (silent : hears_call came ≡ false) (s : State) (chunk : ℕ) (asking : Asking) (h : Holds true s) (has : fin.get s.volatile.moving chunk ≡ Some asking) (known : has_entry s chunk ≡ true) where
  c : Chunk
  c = record { settled = fin.get s.durable.chunks chunk; asking = Some asking }

  -- whom the chunk concerns
  abbrev concerns : Pending → Bool
  concerns p = is_call p.req asking.call || is_copied_by s chunk p.waits

  settled_chain : (by : Poll) (carried : Bool) (moment : Moment) (view : View) → AreCounts by → IsMadeBy came chunk asking by → (carried ≡ true → HasCarried came chunk asking) → view_by (settled_chunk s chunk) asking by moment ≡ Some view → Chained config came s (settled_on s chunk asking carried view)
  settled_chain by carried moment view told made carries e =
      let records = settling s.durable.phase (prepared_view s.durable chunk) carried chunk asking view in
      let t = turned s (settle_plan records chunk view) in
      let so = settles_so s chunk asking h has (settled_chunk s chunk) by carried moment view told e in
      let calls = concerned s chunk asking.call in
      test_chain config came s (fits s.log records) (and_then t (all_go_on view calls)) (all_refused s chunk asking.call refusals.Full)
      (λ _. then_chain config came s t (all_go_on view calls)
      (Moves s (Settles chunk asking carried view) None (record { by = by; moment = moment; known = known; has = has; made = made; view_is = e; carries = carries; leased = (h.stands.asked chunk asking has).leased }, tt))
      (by_rolling t.after (is_rolling s.durable.phase) refl
      (λ still. all_chain config came silent chunk view (is_listed s.durable chunk) calls t.after so.good.holds so.going (so.ready still) (record { has = so.exact; unasked = so.unasked; known = settling_known s chunk asking carried view known; listed = λ there. ap (λ (n : NamesView). is_some (fin.get n.refs chunk)) (settling_names s chunk asking carried view) ∙ there })
      (quiet_of config came silent s chunk asking view (view_term (settled_chunk s chunk) asking by moment view e) (view_led (settled_chunk s chunk) asking by moment view e) (h.stands.asked chunk asking has) s.volatile.pending (each_one s.volatile.pending h.stands.apart h.stands.calls)))))
      (λ _. all_ended_chain config came (requests_of calls) refusals.Full s (some_pending concerns s.volatile.pending h.stands.apart))
    where
      by_rolling : (next : State) (b : Bool) → is_rolling s.durable.phase ≡ b → (is_rolling s.durable.phase ≡ false → Chained config came next (all_go_on view (concerned s chunk asking.call) next)) → Chained config came next (all_go_on view (concerned s chunk asking.call) next)
      by_rolling next true is chain = subst (λ (ps : List Pending). Chained config came next (all_go_on view (filter (λ (p : Pending). is_call p.req asking.call || is_copied_by s chunk p.waits) ps) next)) (sym (h.rolling refl is)) (rests config came next)
      by_rolling next false is chain = chain is

  pub settled_finds : (by : Poll) (carried : Bool) (moment : Moment) (view : View) → AreCounts by → view_by (settled_chunk s chunk) asking by moment ≡ Some view
      → AllFindQuiet view (concerned s chunk asking.call) (turned s (settle_plan (settling s.durable.phase (prepared_view s.durable chunk) carried chunk asking view) chunk view)).after
  settled_finds by carried moment view told e =
      let t = turned s (settle_plan (settling s.durable.phase (prepared_view s.durable chunk) carried chunk asking view) chunk view) in
      let so = settles_so s chunk asking h has (settled_chunk s chunk) by carried moment view told e in
      by_rolling t.after (is_rolling s.durable.phase) refl
      (λ still. all_find config came silent chunk view (is_listed s.durable chunk) (concerned s chunk asking.call) t.after so.good.holds so.going (so.ready still) (record { has = so.exact; unasked = so.unasked; known = settling_known s chunk asking carried view known; listed = λ there. ap (λ (n : NamesView). is_some (fin.get n.refs chunk)) (settling_names s chunk asking carried view) ∙ there })
      (quiet_of config came silent s chunk asking view (view_term (settled_chunk s chunk) asking by moment view e) (view_led (settled_chunk s chunk) asking by moment view e) (h.stands.asked chunk asking has) s.volatile.pending (each_one s.volatile.pending h.stands.apart h.stands.calls)))
    where
      by_rolling : (next : State) (b : Bool) → is_rolling s.durable.phase ≡ b → (is_rolling s.durable.phase ≡ false → AllFindQuiet view (concerned s chunk asking.call) next) → AllFindQuiet view (concerned s chunk asking.call) next
      by_rolling next true is find = subst (λ (ps : List Pending). AllFindQuiet view (filter (λ (p : Pending). is_call p.req asking.call || is_copied_by s chunk p.waits) ps) next) (sym (h.rolling refl is)) tt
      by_rolling next false is find = find is

  if_chain : (by : Poll) (carried : Bool) (moment : Moment) (view : Option View) → AreCounts by → IsMadeBy came chunk asking by → (carried ≡ true → HasCarried came chunk asking) → view_by (settled_chunk s chunk) asking by moment ≡ view → Chained config came s (settled_if s chunk asking carried view)
  if_chain by carried moment None told made carries e = rests config came s
  if_chain by carried moment (Some view) told made carries e = settled_chain by carried moment view told made carries e

  pub stepped_chain : (moves : Option Asking) (carried : Bool) (moment : Moment) (step : Step) → IsToldStep step → IsStepOf came chunk asking step → (carried ≡ true → HasCarried came chunk asking)
      → Chained config came s (stepped s chunk (record { settled = fin.get s.durable.chunks chunk; asking = moves }) asking carried moment step)
  unfolding settled_by
  stepped_chain moves carried moment steps.Wait told of carries = rests config came s
  stepped_chain moves carried moment (steps.Send source target) told of carries = Moves s (Sends chunk asking source target) None (record { known = known; has = has; copies = of.0; chosen = of.1 }, tt)
  stepped_chain moves carried moment (steps.Settle by) told of carries = if_chain by carried moment (view_by (settled_chunk s chunk) asking by moment) told of carries refl
  stepped_chain moves carried moment steps.Fail told of carries = all_ended_chain config came (requests_of (concerned s chunk asking.call)) refusals.NoReplica s (some_pending concerns s.volatile.pending h.stands.apart)

-- ---- answers, and a step of a tick

hears_same : (b : Bool) (asking : Asking) (by : Poll) (stamp : Stamp) (server : ℕ) → hears (if b then with_answers asking by else asking) stamp server ≡ hears asking stamp server
hears_same true asking by stamp server = refl
hears_same false asking by stamp server = refl

target_same : (b : Bool) (asking : Asking) (by : Poll) (server : ℕ) → is_target (if b then with_answers asking by else asking) server ≡ is_target asking server
target_same true asking by server = refl
target_same false asking by server = refl

module _ (config : Config) (came : Heard) (silent : hears_call came ≡ false) (s : State) (h : Holds true s) (chunk : ℕ) (known : has_entry s chunk ≡ true) where
  heard_chain : (asking : Asking) (b : Bool) (by : Poll) (carried : Bool) (moment : Moment) (step : Step) → fin.get s.volatile.moving chunk ≡ Some asking
      → AreCounts (if b then with_answers asking by else asking).answers → IsToldStep step → IsStepOf came chunk (if b then with_answers asking by else asking) step → (carried ≡ true → HasCarried came chunk (if b then with_answers asking by else asking))
      → May config came s (Hears chunk (if b then with_answers asking by else asking)) → (moves : Option Asking)
      → Chained config came s (heard s chunk (record { settled = fin.get s.durable.chunks chunk; asking = moves }) (if b then with_answers asking by else asking) carried moment step)
  heard_chain asking b by carried moment step has told step_told of carries may moves = on (if b then with_answers asking by else asking) (stamps b) (calls_same b) (purposes_same b) told of carries may
    where
      stamps : (x : Bool) → (if x then with_answers asking by else asking).stamp ≡ asking.stamp
      stamps true = refl
      stamps false = refl

      calls_same : (x : Bool) → (if x then with_answers asking by else asking).call ≡ asking.call
      calls_same true = refl
      calls_same false = refl

      purposes_same : (x : Bool) → (if x then with_answers asking by else asking).purpose ≡ asking.purpose
      purposes_same true = refl
      purposes_same false = refl

      on : (new : Asking) → new.stamp ≡ asking.stamp → new.call ≡ asking.call → new.purpose ≡ asking.purpose → AreCounts new.answers → IsStepOf came chunk new step → (carried ≡ true → HasCarried came chunk new) → May config came s (Hears chunk new)
          → Chained config came s (heard s chunk (record { settled = fin.get s.durable.chunks chunk; asking = moves }) new carried moment step)
      on new stamp call purpose counts of carries may =
          let first = asked_so s h chunk asking new has stamp call purpose counts in
          let t = turned s (ask_plan chunk new) in
          let now : fin.get (fin.insert s.volatile.moving chunk new) chunk ≡ Some new = fin.get-insert nat_cmp_total s.volatile.moving chunk new chunk ∙ ap (λ o. cond (is_eq o) (Some new) (fin.get s.volatile.moving chunk)) (tied_itself nat_cmp_total chunk) in
          then_chain config came s t (λ next. stepped next chunk (record { settled = fin.get s.durable.chunks chunk; asking = moves }) new carried moment step) (Moves s (Hears chunk new) None (may, tt))
          (stepped_chain config came silent t.after chunk new first.holds now known moves carried moment step step_told of carries)

  pub yes_chain : (server : ℕ) (stamp : Stamp) (count : ℕ) (carried : Bool) (moment : Moment) (asking : Option Asking) → IsNumber count → fin.get s.volatile.moving chunk ≡ asking → came ≡ Some (server, bodies.About chunk (abouts.Promised stamp count carried))
      → (moves : Option Asking) → Chained config came s (promised_for s server chunk stamp count carried moment (record { settled = fin.get s.durable.chunks chunk; asking = moves }) asking)
  yes_chain server stamp count carried moment None low has said moves = rests config came s
  yes_chain server stamp count carried moment (Some asking) low has said moves =
      let told = yes_told asking server count (h.stands.asked chunk asking has).told low in
      let c : Chunk = record { settled = fin.get s.durable.chunks chunk; asking = moves } in
      test_chain config came s (hears asking stamp server) (heard s chunk c (heard_yes asking server count) (carried && is_target asking server) moment (step_of_yes asking server count)) (unmoved s)
      (λ counts. let said_yes : IsYes came chunk asking server count carried = record { stamp = stamp; said = said; counts = counts } in
      heard_chain asking (is_member asking.asked server) (with_yes asking.answers server count) (carried && is_target asking server) moment (step_of_yes asking server count) has told.0 told.1 (yes_of came chunk asking server count carried said_yes)
      (λ both. carries counts (and_parts carried (is_target asking server) both)) (record { old = asking; known = known; has = has; comes = inl (server, count, carried, said_yes, refl) }) moves)
      (λ _. rests config came s)
    where
      carries : hears asking stamp server ≡ true → (carried ≡ true) × (is_target asking server ≡ true) → HasCarried came chunk (heard_yes asking server count)
      carries counts both = record {
        server = server;
        count = count;
        yes = record { stamp = stamp; said = said ∙ ap (λ b. Some (server, bodies.About chunk (abouts.Promised stamp count b))) both.0; counts = hears_same (is_member asking.asked server) asking (with_yes asking.answers server count) stamp server ∙ counts };
        target = target_same (is_member asking.asked server) asking (with_yes asking.answers server count) server ∙ both.1;
      }

  pub no_chain : (server : ℕ) (stamp : Stamp) (refusal : Refusal) (moment : Moment) (asking : Option Asking) → fin.get s.volatile.moving chunk ≡ asking → came ≡ Some (server, bodies.About chunk (abouts.Unpromised stamp refusal))
      → (moves : Option Asking) → Chained config came s (unpromised_for s server chunk stamp moment (record { settled = fin.get s.durable.chunks chunk; asking = moves }) asking)
  no_chain server stamp refusal moment None has said moves = rests config came s
  no_chain server stamp refusal moment (Some asking) has said moves =
      let told = no_told asking server (h.stands.asked chunk asking has).told in
      let c : Chunk = record { settled = fin.get s.durable.chunks chunk; asking = moves } in
      test_chain config came s (hears asking stamp server) (heard s chunk c (heard_no asking server) false moment (step_of_no asking server)) (unmoved s)
      (λ counts. heard_chain asking (is_member asking.asked server) (with_no asking.answers server) false moment (step_of_no asking server) has told.0 told.1 (no_of came chunk asking server) (λ e. absurd (false≢true e))
      (record { old = asking; known = known; has = has; comes = inr (server, record { stamp = stamp; refusal = refusal; said = said; counts = counts }, refl) }) moves)
      (λ _. rests config came s)

  pub press_chain : (stamp : Stamp) (moment : Moment) (asking : Option Asking) → fin.get s.volatile.moving chunk ≡ asking → (moves : Option Asking) → Chained config came s (pressed_if s chunk stamp moment (record { settled = fin.get s.durable.chunks chunk; asking = moves }) asking)
  press_chain stamp moment None has moves = rests config came s
  press_chain stamp moment (Some asking) has moves =
      test_chain config came s (is_same asking.stamp stamp) (stepped s chunk (record { settled = fin.get s.durable.chunks chunk; asking = moves }) asking false moment (step_at_tick asking)) (unmoved s)
      (λ _. stepped_chain config came silent s chunk asking h has known moves false moment (step_at_tick asking) (tick_told asking (h.stands.asked chunk asking has).told) (tick_of came chunk asking) (λ e. absurd (false≢true e)))
      (λ _. rests config came s)
