-- The copies on write of which a firm master tells servers are of chunks at rest.
use Rattle.std.proofs.Common.{◌≡◌, ◌∙◌, ◌==◌, ◌&&◌, ◌||◌, ◌++◌, inl, inr, ℕ, Bool, true, false, not, cond, List, [], ◌∷◌, filter, length, refl, ap, sym, subst}
use Rattle.gs_base.specs.declared.epoch.EpochEnd.{EpochEnd}
use Rattle.gs_master_state.specs.Sane.{may_wait_for}
use Rattle.std.specs.Prelude.{◌⊎◌, is_some, nat_lt, map, slice_get, option_and_then, option_map, unwrap_or, Option, Some, None, Result, Ok, Err, if◌then◌else◌}
use Rattle.std.specs.Cmp.{nat_cmp_total, tied_itself}
use Rattle.std.specs.FinMap as fin
use Rattle.std.specs.List.{AllByRecursion, list_all}
use Rattle.std.specs.Ordering.{is_eq}
use Rattle.std.proofs.lemmas.Bool.{false≢true, true≢false, and_parts}
use Rattle.gs_base.specs.Members.{is_member}
use Rattle.gs_base.specs.Stamps.{is_same}
use Rattle.gs_base.specs.Told.{IsNumber}
use Rattle.gs_base.specs.declared.config.Config.{Config}
use Rattle.gs_base.specs.declared.numbers.Moment.{Moment}
use Rattle.gs_base.specs.declared.numbers.ReqId.{ReqId}
use Rattle.gs_base.specs.declared.numbers.Stamp.{Stamp}
use Rattle.gs_base.specs.declared.refusal.Refusal.{Refusal}
use Rattle.gs_base.specs.declared.refusal.Refusal.TheVariants as refusals
use Rattle.gs_path.specs.Path.{Path}
use Rattle.gs_edit.specs.View.{NamesView}
use Rattle.gs_lease.specs.Transitions.{end_of, settled_view, term_of}
use Rattle.gs_lease.specs.declared.view.Purpose.{Purpose}
use Rattle.gs_lease.specs.declared.view.Purpose.TheVariants as purposes
use Rattle.gs_lease.specs.declared.view.Term.{Term}
use Rattle.gs_lease.specs.declared.view.View.{View}
use Rattle.gs_msg.specs.declared.answer.Answer.{Answer}
use Rattle.gs_msg.specs.declared.answer.Answer.TheVariants as answers
use Rattle.gs_msg.specs.declared.body.Body.{Body}
use Rattle.gs_msg.specs.declared.body.Body.TheVariants as bodies
use Rattle.gs_msg.specs.declared.body.Reported.{Reported}
use Rattle.gs_msg.specs.declared.chunk.Chunk.{Chunk as Said_of_chunk}
use Rattle.gs_msg.specs.declared.chunk.Chunk.TheVariants as chunks
use Rattle.gs_msg.specs.declared.message.Message.{Message}
use Rattle.gs_msg.specs.declared.node.NodeId.{NodeId}
use Rattle.gs_msg.specs.declared.node.NodeId.TheVariants as nodes
use Rattle.gs_master_record.specs.Plain.{PlainEdit, AddChunk, Cow, Snapshot, Edited}
use Rattle.gs_master_spec.specs.Applied.{after_edit, applied, if_fits, may_edit, view_in, with_edit}
use Rattle.gs_master_spec.specs.Beginning.{next_stamp, has_versions, has_handle, begin_at, all_begun, copy_plan, waits_on}
use Rattle.gs_master_spec.specs.Chunks.{Chunk, chunk_at, has_entry, is_quiet, may_begin, may_settle, hears, heard_yes, heard_no, is_target, proposed_in, settling, step_of_yes, step_of_no, view_by, step_at_tick, with_answers}
use Rattle.gs_master_spec.specs.Durable.{Durable, Settled, is_rolling, prepared_view}
use Rattle.gs_master_spec.specs.Handling.{handle, about_turn, server_turn, from_client, from_node, pressed, pressed_at, pressed_if}
use Rattle.gs_master_spec.specs.Hearing.{stepped, heard, ask_plan, promised, promised_for, promised_at, unpromised, unpromised_for, unpromised_at, sends, next_epoch, learned, drops, lost, is_lost_at, made_quiet, reported, reported_now, is_stray, is_leased_under, end_told}
use Rattle.gs_master_spec.specs.Settling.{all_go_on, all_refused, concerned, copied, copied_where, edit_plan, edit_turn, ended_by_edit, ended_with, goes_on, grant_of, if_room_for, is_copied_by, is_quiet_at, leased_next, own_request, replace_plan, replaced_if, requests_of, settle_plan, settled_by, settled_if, settled_on, source_chunks, quiet_view, quiet_view_at}
use Rattle.gs_master_spec.specs.State.{State, Plan, Turn, turned, unmoved, and_then, fits, if_room, met_by, about, is_failed, ended_by}
use Rattle.gs_master_spec.specs.Undoing.{edited_names}
use Rattle.gs_master_spec.specs.Volatile.{is_call}
use Rattle.gs_view.specs.Choice.{answerers, greatest}
use Rattle.gs_view.specs.declared.poll.Poll.{Poll}
use Rattle.gs_view.specs.Spoken.{with_no, with_yes}
use Rattle.gs_master_spec.specs.declared.asking.Asking.{Asking}
use Rattle.gs_master_spec.specs.declared.asking.Step.{Step}
use Rattle.gs_master_spec.specs.declared.asking.Step.TheVariants as steps
use Rattle.gs_master_spec.specs.declared.change.Change.{Change}
use Rattle.gs_master_spec.specs.declared.change.Change.TheVariants as changes
use Rattle.gs_master_spec.specs.declared.pending.Pending.{Pending}
use Rattle.gs_master_spec.specs.declared.pending.Waiting.{Waiting}
use Rattle.gs_master_spec.specs.declared.pending.Waiting.TheVariants as waits
use Rattle.gs_laws_master.specs.Copying.{AreCopiesOf, CopiesAtRest, StepsCopyAtRest}
use Rattle.gs_laws_master.specs.Standing.{IsFirm, IsNamedAbout, IsNamedBody, may_ask}
use Rattle.gs_laws_master.proofs.lemmas.fitting.AcceptedWork.{all_ended_same}
use Rattle.gs_laws_master.proofs.lemmas.copies.CopyingCalls.{IsMute, Mute, Rests, all_begun_mute, all_ended_mute, begun_mute, call_rests, copies_of, mute_copies, mute_rests, new_leaves, then_mute}
use Rattle.gs_laws_master.proofs.lemmas.fitting.GoingOn.{Ready, same_number}
use Rattle.gs_laws_master.proofs.lemmas.rooms.RoomsOfCalls.{pick}
use Rattle.gs_laws_master.proofs.lemmas.standing.StandingAnswers.{AreCounts, IsToldStep, asked_so, no_told, settles_so, tick_told, yes_told}
use Rattle.gs_laws_master.proofs.lemmas.standing.StandingGoing.{Apart, Going, is_snapshot, one_goes_so}
use Rattle.gs_laws_master.proofs.lemmas.standing.StandingTurns.{Holds, given_up}

both_copies : (s : State) (xs ys : List Message) → AreCopiesOf s xs → AreCopiesOf s ys → AreCopiesOf s (xs ++ ys)
both_copies s [] ys a b = b
both_copies s (x ∷ xs) ys a b = (a.0, both_copies s xs ys a.1 b)

-- ---- how calls go on

-- it waits for a quiet chunk, to copy it
abbrev is_quieting : Waiting → Bool
is_quieting (waits.Quiet path index quiet) = true
is_quieting waiting = false

leased_mute : (req : ReqId) (path : Path) (index chunk : ℕ) (s : State) → IsMute (leased_next req path index chunk s)
leased_mute req path index chunk s =
    let plan : Plan = waits_on (begin_at s chunk purposes.Lease (Some req)) req (waits.Lease path index chunk) in
    let begin = if_room_for s req (turned s plan) in
    pick IsMute (not (may_begin s.durable.phase)) (ended_by s req refusals.RollingBack) (if not (has_versions s.durable 1) then ended_by s req refusals.Exhausted else begin) refl
    (pick IsMute (not (has_versions s.durable 1)) (ended_by s req refusals.Exhausted) begin refl (pick IsMute (fits s.log plan.records) (turned s plan) (ended_by s req refusals.Full) (begun_mute s chunk purposes.Lease (Some req)) refl))

edit_mute : (s : State) (req : ReqId) (edit : PlainEdit) (answer : Answer) (before : List Change) (names : Result NamesView Refusal) → IsMute (edit_turn s req (edit_plan req edit answer before) names)
edit_mute s req edit answer before (Ok names) = pick IsMute (fits s.log (Edited req edit ∷ [])) (turned s (edit_plan req edit answer before)) (ended_by s req refusals.Full) refl refl
edit_mute s req edit answer before (Err refusal) = refl

replaced_mute : (req : ReqId) (path : Path) (index old new : ℕ) (names : Result NamesView Refusal) (s : State) → IsMute (replaced_if s req path index old new names)
replaced_mute req path index old new (Ok names) s =
    let t = turned s (replace_plan path index old new) in
    pick IsMute (fits s.log (Edited own_request (Cow path index old new) ∷ [])) (and_then t (leased_next req path index new)) (ended_by s req refusals.Full) (then_mute t (leased_next req path index new) refl (leased_mute req path index new t.after)) refl
replaced_mute req path index old new (Err refusal) s = refl

-- any other call tells no server to copy
other_mute : (s : State) (req : ReqId) (view : View) (waiting : Waiting) → is_quieting waiting ≡ false → IsMute (goes_on s req view waiting)
unfolding goes_on
other_mute s req view (waits.Extend path new) other = edit_mute s req (AddChunk path new) (answers.Location new view s.durable.epoch) (changes.Place new ∷ []) (edited_names (AddChunk path new) s.durable.names)
other_mute s req view (waits.Lease path index leased) other = refl
other_mute s req view (waits.Quiet path index quiet) other = absurd (true≢false other)
other_mute s req view (waits.Copy path index old new) other = replaced_mute req path index old new (edited_names (Cow path index old new) s.durable.names) s
other_mute s req view (waits.Snapshot from to) other =
    pick IsMute (list_all (is_quiet_at s) (source_chunks s from)) (ended_by_edit s req (Snapshot from to) answers.Nothing []) (unmoved s) (edit_mute s req (Snapshot from to) answers.Nothing [] (edited_names (Snapshot from to) s.durable.names)) refl
other_mute s req view (waits.Replicate copied target) other =
    pick IsMute (is_member view.members target) (ended_with s req (answers.Copied (Some (record { handle = copied; server = target })))) (ended_by s req refusals.NoReplica) refl refl

-- ---- the chunk stays as it was settled

abbrev settled_on_it : View → Settled
settled_on_it view = record { view = view; is_moving = false }

pub record Stays (chunk : ℕ) (view : View) (s : State) : Type 0 where
  pub has : fin.get s.durable.chunks chunk ≡ Some (settled_on_it view)
  pub unasked : fin.get s.volatile.moving chunk ≡ None

-- a snapshot leaves all chunks
snapshot_leaves : (d : Durable) (by : ReqId) (from to : Path) (chunk : ℕ) → fin.get (unwrap_or (applied d (Edited by (Snapshot from to))) d).chunks chunk ≡ fin.get d.chunks chunk
unfolding applied
snapshot_leaves d by from to chunk = by_names (edited_names (Snapshot from to) d.names)
  where
    by_fit : (b : Bool) (names : NamesView) → fin.get (unwrap_or (if_fits b (with_edit d by (Snapshot from to) names)) d).chunks chunk ≡ fin.get d.chunks chunk
    by_fit true names = refl
    by_fit false names = refl

    by_names : (names : Result NamesView Refusal) → fin.get (unwrap_or (after_edit d by (Snapshot from to) names) d).chunks chunk ≡ fin.get d.chunks chunk
    by_names (Ok names) = by_fit (may_edit d (Snapshot from to)) names
    by_names (Err refusal) = refl

module _ (chunk : ℕ) (view : View) where
  ended_has : (s : State) (req : ReqId) (refusal : Refusal) → fin.get (ended_by s req refusal).after.durable.chunks chunk ≡ fin.get s.durable.chunks chunk
  ended_has s req refusal = all_ended_same (λ d. fin.get d.chunks chunk) (λ d replies. refl) (req ∷ []) refusal s

  ended_stays : (s : State) (req : ReqId) (refusal : Refusal) → Holds true s → Stays chunk view s → Stays chunk view (ended_by s req refusal).after
  ended_stays s req refusal h k = record { has = ended_has s req refusal ∙ k.has; unasked = (given_up true s req refusal h).bare chunk k.unasked }

  snapshot_has : (s : State) (req : ReqId) (waiting : Waiting) → is_snapshot waiting ≡ true → fin.get (goes_on s req view waiting).after.durable.chunks chunk ≡ fin.get s.durable.chunks chunk
  unfolding goes_on
  snapshot_has s req (waits.Snapshot from to) is =
      pick (λ t. fin.get t.after.durable.chunks chunk ≡ fin.get s.durable.chunks chunk) (list_all (is_quiet_at s) (source_chunks s from)) (ended_by_edit s req (Snapshot from to) answers.Nothing []) (unmoved s) (by_names (edited_names (Snapshot from to) s.durable.names)) refl
    where
      by_names : (names : Result NamesView Refusal) → fin.get (edit_turn s req (edit_plan req (Snapshot from to) answers.Nothing []) names).after.durable.chunks chunk ≡ fin.get s.durable.chunks chunk
      by_names (Ok names) =
          pick (λ t. fin.get t.after.durable.chunks chunk ≡ fin.get s.durable.chunks chunk) (fits s.log (Edited req (Snapshot from to) ∷ [])) (turned s (edit_plan req (Snapshot from to) answers.Nothing [])) (ended_by s req refusals.Full)
          (snapshot_leaves s.durable req from to chunk) (ended_has s req refusals.Full)
      by_names (Err refusal) = ended_has s req refusal
  snapshot_has s req waiting is = absurd (false≢true is)

  -- what the copy of the chunk tells, and leaves
  record Copied (t : Turn) : Type 0 where
    sent : (u : State) → Stays chunk view u → AreCopiesOf u t.sent
    stays : Stays chunk view t.after

  ended_copied : (s : State) (req : ReqId) (refusal : Refusal) → Holds true s → Stays chunk view s → Copied (ended_by s req refusal)
  ended_copied s req refusal h k = record { sent = λ u still. (tt, tt); stays = ended_stays s req refusal h k }

  -- such a chunk is quiet on its view, or isn't quiet
  quiet_on_it : (s : State) → Stays chunk view s → (quiet_view_at s chunk ≡ None) ⊎ (quiet_view_at s chunk ≡ Some view)
  unfolding chunk_at
  quiet_on_it s k = by_entry (has_entry s chunk) (fin.get s.durable.chunks chunk) k.has
    where
      by_entry : (known : Bool) (settled : Option Settled) → settled ≡ Some (settled_on_it view)
          → let found = option_and_then quiet_view (if known then Some (record { settled = settled; asking = fin.get s.volatile.moving chunk }) else None) in (found ≡ None) ⊎ (found ≡ Some view)
      by_entry false settled e = inl refl
      by_entry true None e = absurd (false≢true (ap is_some e))
      by_entry true (Some settled) e = by_rest (is_quiet (record { settled = Some settled; asking = fin.get s.volatile.moving chunk }))
        where
          by_rest : (quiet : Bool) → ((if quiet then Some settled.view else None) ≡ None) ⊎ ((if quiet then Some settled.view else None) ≡ Some view)
          by_rest true = inr (ap view_in e)
          by_rest false = inl refl

  copied_so : (s : State) (req : ReqId) (path : Path) (index : ℕ) → Holds true s → Stays chunk view s → view.term ≡ None → Copied (copied s req path index chunk)
  copied_so s req path index h k none =
      let copy = copied_where s req path index chunk (quiet_view_at s chunk) in
      let second = if not (has_handle s.durable && has_versions s.durable 1) then ended_by s req refusals.Exhausted else copy in
      pick Copied (not (may_begin s.durable.phase)) (ended_by s req refusals.RollingBack) second (ended_copied s req refusals.RollingBack h k) (by_left (has_handle s.durable && has_versions s.durable 1) refl)
    where
      on_view : (has_handle s.durable && has_versions s.durable 1) ≡ true → Copied (copied_where s req path index chunk (Some view))
      on_view left =
          let plan = waits_on (copy_plan (next_stamp s.durable) chunk view s.durable.next_handle req) req (waits.Copy path index chunk s.durable.next_handle) in
          let leaves = new_leaves s chunk (settled_on_it view) h.stands.kept (and_parts (has_handle s.durable) (has_versions s.durable 1) left).0 k.has in
          pick Copied (fits s.log plan.records) (turned s plan) (ended_by s req refusals.Full)
          (record { sent = λ u still. copies_of u chunk s.durable.next_handle view (next_stamp s.durable) still.has none still.unasked; stays = record { has = leaves.0; unasked = leaves.1 _ k.unasked } })
          (ended_copied s req refusals.Full h k)

      by_left : (b : Bool) → (has_handle s.durable && has_versions s.durable 1) ≡ b → Copied (if not b then ended_by s req refusals.Exhausted else copied_where s req path index chunk (quiet_view_at s chunk))
      by_left true left = by_view (quiet_on_it s k)
        where
          by_view : (quiet_view_at s chunk ≡ None) ⊎ (quiet_view_at s chunk ≡ Some view) → Copied (copied_where s req path index chunk (quiet_view_at s chunk))
          by_view (inl e) = subst (λ o. Copied (copied_where s req path index chunk o)) (sym e) (ended_copied s req refusals.NoReplica h k)
          by_view (inr e) = subst (λ o. Copied (copied_where s req path index chunk o)) (sym e) (on_view left)
      by_left false left = ended_copied s req refusals.Exhausted h k

  -- ---- one after the other

  abbrev AllSnapshots : List Pending → Type 0
  AllSnapshots ps = AllByRecursion (λ (p : Pending). is_snapshot p.waits ≡ true) ps

  not_quieting : (waiting : Waiting) → is_snapshot waiting ≡ true → is_quieting waiting ≡ false
  not_quieting (waits.Snapshot from to) e = refl
  not_quieting waiting e = absurd (false≢true e)

  snapshots_mute : (calls : List Pending) (s : State) → AllSnapshots calls → IsMute (all_go_on view calls s)
  snapshots_mute [] s all = refl
  snapshots_mute (p ∷ calls) s all =
      then_mute (goes_on s p.req view p.waits) (all_go_on view calls) (other_mute s p.req view p.waits (not_quieting p.waits all.0)) (snapshots_mute calls (goes_on s p.req view p.waits).after all.1)

  snapshots_stay : (calls : List Pending) (s : State) → Holds true s → Going chunk s.volatile calls → Ready chunk s.durable → AllSnapshots calls → Stays chunk view s → Stays chunk view (all_go_on view calls s).after
  snapshots_stay [] s h go r all k = k
  snapshots_stay (p ∷ calls) s h go r all k =
      let one = one_goes_so chunk view p calls s h go r in
      snapshots_stay calls (goes_on s p.req view p.waits).after one.held one.going one.ready all.1 (record { has = snapshot_has s p.req p.waits all.0 ∙ k.has; unasked = one.bare all.0 chunk k.unasked })

  others_snapshots : (p : Pending) (calls : List Pending) → is_snapshot p.waits ≡ false → AllByRecursion (Apart p) calls → AllSnapshots calls
  others_snapshots p [] other apart = tt
  others_snapshots p (q ∷ calls) other apart = (only (is_snapshot p.waits) (is_snapshot q.waits) other apart.0.1, others_snapshots p calls other apart.1)
    where
      only : (a b : Bool) → a ≡ false → (a || b) ≡ true → b ≡ true
      only true b e k = absurd (true≢false e)
      only false b e k = k

  -- the views of those that copy have no lease
  abbrev AreQuiet : List Pending → Type 0
  AreQuiet ps = AllByRecursion (λ (p : Pending). is_quieting p.waits ≡ true → view.term ≡ None) ps

  -- one that copies the chunk goes on
  goes_copied : (s : State) (req : ReqId) (waiting : Waiting) → may_wait_for chunk waiting ≡ true → Holds true s → Stays chunk view s → view.term ≡ None → is_quieting waiting ≡ true → Copied (goes_on s req view waiting)
  unfolding goes_on
  goes_copied s req (waits.Quiet path index quiet) may h k none is = subst (λ q. Copied (copied s req path index q)) (same_number quiet chunk may) (copied_so s req path index h k none)
  goes_copied s req waiting may h k none is = absurd (false≢true is)

  all_rest : (calls : List Pending) (s : State) → Holds true s → Going chunk s.volatile calls → Ready chunk s.durable → Stays chunk view s → AreQuiet calls → Rests (all_go_on view calls s)
  all_rest [] s h go r k quiet = tt
  all_rest (p ∷ calls) s h go r k quiet =
      let one = one_goes_so chunk view p calls s h go r in
      by_waiting one.held one.going one.ready (λ is still. all_rest calls (goes_on s p.req view p.waits).after one.held one.going one.ready still quiet.1) (λ is. one.bare is chunk k.unasked) (is_snapshot p.waits) refl (is_quieting p.waits) refl
    where
      t : Turn
      t = goes_on s p.req view p.waits

      last : State
      last = (all_go_on view calls t.after).after

      by_waiting : Holds true t.after → Going chunk t.after.volatile calls → Ready chunk t.after.durable → (is_snapshot p.waits ≡ true → Stays chunk view t.after → Rests (all_go_on view calls t.after)) → (is_snapshot p.waits ≡ true → fin.get t.after.volatile.moving chunk ≡ None)
          → (b : Bool) → is_snapshot p.waits ≡ b → (q : Bool) → is_quieting p.waits ≡ q → AreCopiesOf last (t.sent ++ (all_go_on view calls t.after).sent)
      by_waiting held going ready rest bare true is q which =
          both_copies last t.sent (all_go_on view calls t.after).sent (mute_copies last t.sent (other_mute s p.req view p.waits (not_quieting p.waits is))) (rest is (record { has = snapshot_has s p.req p.waits is ∙ k.has; unasked = bare is }))
      by_waiting held going ready rest bare false other true which =
          let c = goes_copied s p.req p.waits go.0.may h k (quiet.0 which) which in
          let all = others_snapshots p calls other go.1.0 in
          both_copies last t.sent (all_go_on view calls t.after).sent (c.sent last (snapshots_stay calls t.after held going ready all c.stays)) (mute_copies last (all_go_on view calls t.after).sent (snapshots_mute calls t.after all))
      by_waiting held going ready rest bare false other false which =
          let all = others_snapshots p calls other go.1.0 in
          both_copies last t.sent (all_go_on view calls t.after).sent (mute_copies last t.sent (other_mute s p.req view p.waits which)) (mute_copies last (all_go_on view calls t.after).sent (snapshots_mute calls t.after all))

-- ---- a view that a call which copies waits for has no lease

is_lease : Purpose → Bool
is_lease purposes.Lease = true
is_lease purpose = false

not_leased : (purpose : Purpose) (waiting : Waiting) → is_quieting waiting ≡ true → may_ask purpose waiting ≡ true → is_lease purpose ≡ false
unfolding is_lease
not_leased purposes.Lease (waits.Quiet path index quiet) is may = absurd (false≢true may)
not_leased purposes.Lease (waits.Extend path new) is may = absurd (false≢true is)
not_leased purposes.Lease (waits.Lease path index leased) is may = absurd (false≢true is)
not_leased purposes.Lease (waits.Copy path index old new) is may = absurd (false≢true is)
not_leased purposes.Lease (waits.Snapshot from to) is may = absurd (false≢true is)
not_leased purposes.Lease (waits.Replicate copied target) is may = absurd (false≢true is)
not_leased purposes.Quiet waiting is may = refl
not_leased (purposes.Copy target) waiting is may = refl

no_term : (purpose : Purpose) (members : List ℕ) (moment : Moment) → is_lease purpose ≡ false → term_of purpose members moment ≡ None
unfolding is_lease
no_term purposes.Lease members moment e = absurd (true≢false e)
no_term purposes.Quiet members moment e = refl
no_term (purposes.Copy target) members moment e = refl

view_is : {a b : View} → ◌≡◌ {A = Option View} (Some a) (Some b) → a ≡ b
view_is e = cc

view_term : (c : Chunk) (asking : Asking) (by : Poll) (moment : Moment) (view : View) → view_by c asking by moment ≡ Some view → is_lease asking.purpose ≡ false → view.term ≡ None
view_term c asking by moment view e other = by_most (greatest by.counts) e
  where
    by_test : (b : Bool) (made : View) → made.term ≡ None → (if b then Some made else None) ≡ Some view → view.term ≡ None
    by_test true made none h = ap (λ (v : View). v.term) (sym (view_is h)) ∙ none
    by_test false made none h = absurd (false≢true (ap is_some h))

    by_most : (most : Option ℕ) → option_and_then (λ (ch : List ℕ × ℕ). if may_settle asking.asked ch.0 then Some (settled_view (proposed_in c asking) ch.0 ch.1 moment) else None) (option_map (λ count. (answerers by.counts count, count)) most) ≡ Some view → view.term ≡ None
    by_most None h = absurd (false≢true (ap is_some h))
    by_most (Some count) h = by_test (may_settle asking.asked (answerers by.counts count)) (settled_view (proposed_in c asking) (answerers by.counts count) count moment) (no_term asking.purpose (answerers by.counts count) moment other) h

-- ---- settling

module _ (s : State) (chunk : ℕ) (asking : Asking) (view : View) (none : is_lease asking.purpose ≡ false → view.term ≡ None) where
  alone : (waiting : Waiting) → is_quieting waiting ≡ true → is_copied_by s chunk waiting ≡ false
  alone (waits.Snapshot from to) is = absurd (false≢true is)
  alone waiting is = refl

  quiet_of : (ps : List Pending) → list_all (λ (p : Pending). not (is_call p.req asking.call) || may_ask asking.purpose p.waits) ps ≡ true → AreQuiet chunk view (filter (λ (p : Pending). is_call p.req asking.call || is_copied_by s chunk p.waits) ps)
  quiet_of [] all = tt
  quiet_of (p ∷ ps) all =
      let parts = and_parts (not (is_call p.req asking.call) || may_ask asking.purpose p.waits) (list_all (λ (q : Pending). not (is_call q.req asking.call) || may_ask asking.purpose q.waits) ps) all in
      by_test (is_call p.req asking.call || is_copied_by s chunk p.waits) refl parts.0 (quiet_of ps parts.1)
    where
      calls_it : (a b : Bool) → (a || b) ≡ true → b ≡ false → a ≡ true
      calls_it true b e out = refl
      calls_it false b e out = absurd (false≢true (sym out ∙ e))

      by_test : (b : Bool) → (is_call p.req asking.call || is_copied_by s chunk p.waits) ≡ b → (not (is_call p.req asking.call) || may_ask asking.purpose p.waits) ≡ true → AreQuiet chunk view (filter (λ (q : Pending). is_call q.req asking.call || is_copied_by s chunk q.waits) ps)
          → AreQuiet chunk view (cond b (p ∷ filter (λ (q : Pending). is_call q.req asking.call || is_copied_by s chunk q.waits) ps) (filter (λ (q : Pending). is_call q.req asking.call || is_copied_by s chunk q.waits) ps))
      by_test true mine may rest =
          (λ is. none (not_leased asking.purpose p.waits is (ap (λ b. not b || may_ask asking.purpose p.waits) (sym (calls_it (is_call p.req asking.call) (is_copied_by s chunk p.waits) mine (alone p.waits is))) ∙ may)), rest)
      by_test false mine may rest = rest

grants_mute : (chunk : ℕ) (view : View) (term : Option Term) → Mute (grant_of chunk view term)
grants_mute chunk view None = refl
grants_mute chunk view (Some term) = refl

all_refused_mute : (s : State) (chunk : ℕ) (call : Option ReqId) (refusal : Refusal) → IsMute (all_refused s chunk call refusal)
all_refused_mute s chunk call refusal = all_ended_mute (requests_of (concerned s chunk call)) refusal s

module _ (s : State) (chunk : ℕ) (asking : Asking) (h : Holds true s) (has : fin.get s.volatile.moving chunk ≡ Some asking) where
  settled_rests : (c : Chunk) (by : Poll) (carried : Bool) (moment : Moment) (view : View) → AreCounts by → view_by c asking by moment ≡ Some view → Rests (settled_on s chunk asking carried view)
  settled_rests c by carried moment view told e =
      let records = settling s.durable.phase (prepared_view s.durable chunk) carried chunk asking view in
      let t = turned s (settle_plan records chunk view) in
      let so = settles_so s chunk asking h has c by carried moment view told e in
      let calls = concerned s chunk asking.call in
      pick Rests (fits s.log records) (and_then t (all_go_on view calls)) (all_refused s chunk asking.call refusals.Full)
      (both_copies (all_go_on view calls t.after).after t.sent (all_go_on view calls t.after).sent (mute_copies (all_go_on view calls t.after).after t.sent (grants_mute chunk view view.term))
      (by_rolling view t.after (is_rolling s.durable.phase) refl
      (λ still. all_rest chunk view calls t.after so.good.holds so.going (so.ready still) (record { has = so.exact; unasked = so.unasked })
      (quiet_of s chunk asking view (view_term c asking by moment view e) s.volatile.pending (h.stands.asked chunk asking has).purposed))))
      (mute_rests (all_refused s chunk asking.call refusals.Full) (all_refused_mute s chunk asking.call refusals.Full))
    where
      by_rolling : (view : View) (next : State) (b : Bool) → is_rolling s.durable.phase ≡ b → (is_rolling s.durable.phase ≡ false → Rests (all_go_on view (concerned s chunk asking.call) next)) → Rests (all_go_on view (concerned s chunk asking.call) next)
      by_rolling view next true is rests = subst (λ (ps : List Pending). Rests (all_go_on view (filter (λ (p : Pending). is_call p.req asking.call || is_copied_by s chunk p.waits) ps) next)) (sym (h.rolling refl is)) tt
      by_rolling view next false is rests = rests is

  if_rests : (c : Chunk) (by : Poll) (carried : Bool) (moment : Moment) (view : Option View) → AreCounts by → view_by c asking by moment ≡ view → Rests (settled_if s chunk asking carried view)
  if_rests c by carried moment None told e = tt
  if_rests c by carried moment (Some view) told e = settled_rests c by carried moment view told e

  stepped_rests : (c : Chunk) (carried : Bool) (moment : Moment) (step : Step) → IsToldStep step → Rests (stepped s chunk c asking carried moment step)
  unfolding settled_by
  stepped_rests c carried moment steps.Wait told = tt
  stepped_rests c carried moment (steps.Send source target) told = (tt, tt)
  stepped_rests c carried moment (steps.Settle by) told = if_rests c by carried moment (view_by c asking by moment) told refl
  stepped_rests c carried moment steps.Fail told = mute_rests (all_refused s chunk asking.call refusals.NoReplica) (all_refused_mute s chunk asking.call refusals.NoReplica)

-- ---- answers, and a step of a tick

module _ (s : State) (h : Holds true s) where
  heard_rests : (chunk : ℕ) (c : Chunk) (asking : Asking) (b : Bool) (by : Poll) (carried : Bool) (moment : Moment) (step : Step) → fin.get s.volatile.moving chunk ≡ Some asking
      → AreCounts (if b then with_answers asking by else asking).answers → IsToldStep step → Rests (heard s chunk c (if b then with_answers asking by else asking) carried moment step)
  heard_rests chunk c asking b by carried moment step has told step_told = on (if b then with_answers asking by else asking) (stamps b) (calls_same b) (purposes_same b) told
    where
      stamps : (x : Bool) → (if x then with_answers asking by else asking).stamp ≡ asking.stamp
      stamps true = refl
      stamps false = refl

      calls_same : (x : Bool) → (if x then with_answers asking by else asking).call ≡ asking.call
      calls_same true = refl
      calls_same false = refl

      purposes_same : (x : Bool) → (if x then with_answers asking by else asking).purpose ≡ asking.purpose
      purposes_same true = refl
      purposes_same false = refl

      on : (new : Asking) → new.stamp ≡ asking.stamp → new.call ≡ asking.call → new.purpose ≡ asking.purpose → AreCounts new.answers → Rests (heard s chunk c new carried moment step)
      on new stamp call purpose counts =
          let first = asked_so s h chunk asking new has stamp call purpose counts in
          let now : fin.get (fin.insert s.volatile.moving chunk new) chunk ≡ Some new = fin.get-insert nat_cmp_total s.volatile.moving chunk new chunk ∙ ap (λ o. cond (is_eq o) (Some new) (fin.get s.volatile.moving chunk)) (tied_itself nat_cmp_total chunk) in
          stepped_rests (turned s (ask_plan chunk new)).after chunk new first.holds now c carried moment step step_told

  yes_rests : (server chunk : ℕ) (stamp : Stamp) (count : ℕ) (carried : Bool) (moment : Moment) (c : Chunk) (asking : Option Asking) → IsNumber count → fin.get s.volatile.moving chunk ≡ asking → Rests (promised_for s server chunk stamp count carried moment c asking)
  yes_rests server chunk stamp count carried moment c None low has = tt
  yes_rests server chunk stamp count carried moment c (Some asking) low has =
      let told = yes_told asking server count (h.stands.asked chunk asking has).told low in
      pick Rests (hears asking stamp server) (heard s chunk c (heard_yes asking server count) (carried && is_target asking server) moment (step_of_yes asking server count)) (unmoved s)
      (heard_rests chunk c asking (is_member asking.asked server) (with_yes asking.answers server count) (carried && is_target asking server) moment (step_of_yes asking server count) has told.0 told.1) tt

  no_rests : (server chunk : ℕ) (stamp : Stamp) (moment : Moment) (c : Chunk) (asking : Option Asking) → fin.get s.volatile.moving chunk ≡ asking → Rests (unpromised_for s server chunk stamp moment c asking)
  no_rests server chunk stamp moment c None has = tt
  no_rests server chunk stamp moment c (Some asking) has =
      let told = no_told asking server (h.stands.asked chunk asking has).told in
      pick Rests (hears asking stamp server) (heard s chunk c (heard_no asking server) false moment (step_of_no asking server)) (unmoved s)
      (heard_rests chunk c asking (is_member asking.asked server) (with_no asking.answers server) false moment (step_of_no asking server) has told.0 told.1) tt

  promised_rests : (server chunk : ℕ) (stamp : Stamp) (count : ℕ) (carried : Bool) (moment : Moment) → IsNumber count → Rests (promised s server chunk stamp count carried moment)
  unfolding chunk_at
  promised_rests server chunk stamp count carried moment low = by_entry (has_entry s chunk)
    where
      by_entry : (b : Bool) → Rests (promised_at s server chunk stamp count carried moment (if b then Some (record { settled = fin.get s.durable.chunks chunk; asking = fin.get s.volatile.moving chunk }) else None))
      by_entry true = yes_rests server chunk stamp count carried moment (record { settled = fin.get s.durable.chunks chunk; asking = fin.get s.volatile.moving chunk }) (fin.get s.volatile.moving chunk) low refl
      by_entry false = tt

  unpromised_rests : (server chunk : ℕ) (stamp : Stamp) (moment : Moment) → Rests (unpromised s server chunk stamp moment)
  unfolding chunk_at
  unpromised_rests server chunk stamp moment = by_entry (has_entry s chunk)
    where
      by_entry : (b : Bool) → Rests (unpromised_at s server chunk stamp moment (if b then Some (record { settled = fin.get s.durable.chunks chunk; asking = fin.get s.volatile.moving chunk }) else None))
      by_entry true = no_rests server chunk stamp moment (record { settled = fin.get s.durable.chunks chunk; asking = fin.get s.volatile.moving chunk }) (fin.get s.volatile.moving chunk) refl
      by_entry false = tt

  pressed_on : (chunk : ℕ) (stamp : Stamp) (moment : Moment) (c : Chunk) (asking : Option Asking) → fin.get s.volatile.moving chunk ≡ asking → Rests (pressed_if s chunk stamp moment c asking)
  pressed_on chunk stamp moment c None has = tt
  pressed_on chunk stamp moment c (Some asking) has =
      pick Rests (is_same asking.stamp stamp) (stepped s chunk c asking false moment (step_at_tick asking)) (unmoved s)
      (stepped_rests s chunk asking h has c false moment (step_at_tick asking) (tick_told asking (h.stands.asked chunk asking has).told)) tt

  pressed_rests : (moment : Moment) (proposal : ℕ × Stamp) → Rests (pressed moment proposal s)
  unfolding chunk_at
  pressed_rests moment proposal = by_entry (has_entry s proposal.0)
    where
      by_entry : (b : Bool) → Rests (pressed_at s proposal.0 proposal.1 moment (if b then Some (record { settled = fin.get s.durable.chunks proposal.0; asking = fin.get s.volatile.moving proposal.0 }) else None))
      by_entry true = pressed_on proposal.0 proposal.1 moment (record { settled = fin.get s.durable.chunks proposal.0; asking = fin.get s.volatile.moving proposal.0 }) (fin.get s.volatile.moving proposal.0) refl
      by_entry false = tt

  -- ---- other messages of servers

  told_next : (d : Durable) (server epoch : ℕ) (end : Option EpochEnd) → Mute (end_told server epoch end)
  told_next d server epoch None = refl
  told_next d server epoch (Some end) = refl

  next_mute : (server epoch : ℕ) → IsMute (sends s (next_epoch s.durable server epoch))
  next_mute server epoch = told_next s.durable server epoch (slice_get s.durable.ends epoch)

  quiet_mute : (many : List ℕ) (now : State) → IsMute (made_quiet many now)
  quiet_mute many now =
      let begin = all_begun now many purposes.Quiet None in
      pick IsMute (has_versions now.durable (length many)) (if_room now begin (unmoved now)) (unmoved now) (pick IsMute (fits now.log begin.records) begin (unmoved now) (all_begun_mute many purposes.Quiet None now) refl) refl

  drops_mute : (server : ℕ) (replicas : List Reported) → Mute (map (λ (r : Reported). about r.handle (chunks.Drop s.durable.epoch r.promise) server) replicas)
  drops_mute server [] = refl
  drops_mute server (r ∷ replicas) = drops_mute server replicas

  reported_mute : (server epoch : ℕ) (replicas : List Reported) → IsMute (reported s server epoch replicas)
  reported_mute server epoch replicas =
      let dropped = sends s (drops s server replicas) in
      let quiet = made_quiet (lost s server replicas) in
      pick IsMute (nat_lt epoch s.durable.epoch) (sends s (next_epoch s.durable server epoch)) (if may_begin s.durable.phase && (epoch == s.durable.epoch) then reported_now s server replicas else unmoved s) (next_mute server epoch)
      (pick IsMute (may_begin s.durable.phase && (epoch == s.durable.epoch)) (reported_now s server replicas) (unmoved s)
      (then_mute dropped quiet (drops_mute server (filter (λ (r : Reported). is_stray (chunk_at s r.handle) server) replicas)) (quiet_mute (lost s server replicas) dropped.after)) refl)

  learned_mute : (server epoch : ℕ) (handles : List ℕ) → IsMute (learned s server epoch handles)
  learned_mute server epoch handles =
      let plan : Plan = record { records = []; changes = changes.Restored server handles ∷ []; sent = []; said = None } in
      pick IsMute (nat_lt epoch s.durable.epoch) (sends s (next_epoch s.durable server epoch)) (if is_rolling s.durable.phase && (epoch == s.durable.epoch) then turned s plan else unmoved s) (next_mute server epoch)
      (pick IsMute (is_rolling s.durable.phase && (epoch == s.durable.epoch)) (turned s plan) (unmoved s) refl refl)

  about_rests : (server chunk : ℕ) (moment : Moment) (said : Said_of_chunk) → IsNamedAbout said → Rests (about_turn s server chunk moment said)
  about_rests server chunk moment (chunks.Promised stamp count carried) low = promised_rests server chunk stamp count carried moment low
  about_rests server chunk moment (chunks.Unpromised stamp refusal) low = unpromised_rests server chunk stamp moment
  about_rests server chunk moment (chunks.Renew stamp) low =
      pick Rests (is_leased_under stamp (chunk_at s chunk) && not s.volatile.is_preparing) (sends s (about chunk (chunks.Renewed stamp (end_of moment)) server ∷ [])) (unmoved s) (tt, tt) tt
  about_rests server chunk moment (chunks.Bad stamp) low =
      pick Rests (may_begin s.durable.phase && is_lost_at server (chunk_at s chunk)) (made_quiet (chunk ∷ []) s) (unmoved s) (mute_rests (made_quiet (chunk ∷ []) s) (quiet_mute (chunk ∷ []) s)) tt
  about_rests server chunk moment said low = tt

  server_rests : (server : ℕ) (moment : Moment) (said : Body) → IsNamedBody said → Rests (server_turn s server moment said)
  server_rests server moment (bodies.About chunk said) named = about_rests server chunk moment said named
  server_rests server moment (bodies.Report epoch replicas) named = mute_rests (reported s server epoch replicas) (reported_mute server epoch replicas)
  server_rests server moment (bodies.Learned epoch handles) named = mute_rests (learned s server epoch handles) (learned_mute server epoch handles)
  server_rests server moment (bodies.Behind epoch) named =
      pick Rests (nat_lt epoch s.durable.epoch) (sends s (next_epoch s.durable server epoch)) (unmoved s) (mute_rests (sends s (next_epoch s.durable server epoch)) (next_mute server epoch)) tt
  server_rests server moment said named = tt

  client_rests : (config : Config) (moment : Moment) (said : Body) → Rests (from_client config s moment said)
  client_rests config moment (bodies.Call req call) = call_rests s req h.stands.kept config moment call
  client_rests config moment said = tt

  node_rests : (config : Config) (moment : Moment) (said : Body) (from : NodeId) → IsNamedBody said → Rests (from_node config s moment said from)
  node_rests config moment said nodes.Master named = tt
  node_rests config moment said (nodes.Server server) named = pick Rests (is_failed s.fault) (met_by s refusals.Device) (server_turn s server moment said) tt (server_rests server moment said named)
  node_rests config moment said (nodes.Client client) named = client_rests config moment said

  message_rests : (config : Config) (message : Message) (moment : Moment) → IsNamedBody message.body → Rests (handle config s message moment)
  unfolding handle
  message_rests config message moment named = node_rests config moment message.body message.from named

holds_of : (s : State) → IsFirm s → Holds true s
holds_of s f = record { stands = f.stands; rolling = λ c r. f.rolling r }

pub copies_at_rest : CopiesAtRest
copies_at_rest config s message moment named firm = message_rests s (holds_of s firm) config message moment named.0

pub steps_copy_at_rest : StepsCopyAtRest
steps_copy_at_rest s moment proposal firm = pressed_rests s (holds_of s firm) moment proposal
