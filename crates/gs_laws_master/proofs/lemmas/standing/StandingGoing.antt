-- What stands is kept where calls that waited go on.
use Rattle.std.proofs.Common.{◌≡◌, ◌==◌, ◌∙◌, ◌&&◌, ◌||◌, inl, ℕ, zero, Bool, true, false, not, cond, List, [], ◌∷◌, ◌++◌, refl, ap, subst, sym, arith}
use Rattle.std.specs.Prelude.{is_some, unwrap_or, Option, Some, None, Result, Ok, Err, if◌then◌else◌}
use Rattle.std.specs.Cmp.{nat_cmp_total}
use Rattle.std.specs.FinMap as fin
use Rattle.std.specs.List.{AllByRecursion, list_all}
use Rattle.std.specs.Ordering.{eq_by_cmp, nat_cmp}
use Rattle.std.proofs.lemmas.Bool.{false≢true, true≢false, and_parts}
use Rattle.gs_base.specs.Members.{is_member}
use Rattle.gs_base.specs.MemberLaws.{eqb_itself}
use Rattle.gs_base.specs.declared.numbers.ReqId.{ReqId}
use Rattle.gs_base.specs.declared.refusal.Refusal.{Refusal}
use Rattle.gs_base.specs.declared.refusal.Refusal.TheVariants as refusals
use Rattle.gs_edit.specs.View.{NamesView}
use Rattle.gs_path.specs.Path.{Path}
use Rattle.gs_tree.proofs.Levels.{both_true}
use Rattle.gs_lease.specs.declared.view.Purpose.{Purpose}
use Rattle.gs_lease.specs.declared.view.Purpose.TheVariants as purposes
use Rattle.gs_lease.specs.declared.view.View.{View}
use Rattle.gs_msg.specs.declared.answer.Answer.{Answer}
use Rattle.gs_msg.specs.declared.answer.Answer.TheVariants as answers
use Rattle.gs_master_record.specs.Plain.{PlainEdit, AddChunk, Cow, Snapshot, Propose, Edited}
use Rattle.gs_master_record.specs.Writable.{IsHandle, IsPath}
use Rattle.gs_master_spec.specs.Applied.{proposed, is_fresh, is_visible, may_edit, with_edit}
use Rattle.gs_master_spec.specs.Beginning.{begin_at, copy_plan, has_handle, has_versions, members_at, next_stamp, waits_on}
use Rattle.gs_master_spec.specs.Chunks.{asking_for, chunk_at, may_begin}
use Rattle.gs_master_spec.specs.Durable.{Durable, is_given, is_listed, is_rolling}
use Rattle.gs_master_state.specs.Sane.{are_apart, is_waited_by, makes, may_wait_for}
use Rattle.gs_master_spec.specs.Settling.{all_go_on, copied, copied_where, edit_plan, edit_turn, ended_by_edit, ended_with, extended, goes_on, if_room_for, is_quiet_at, leased_next, own_request, replace_plan, replaced, replaced_if, source_chunks, quiet_view_at}
use Rattle.gs_master_spec.specs.State.{State, Turn, turned, unmoved, and_then, fits, ended_by, kept_in_memory, last_reply}
use Rattle.gs_master_spec.specs.Replies.{is_later}
use Rattle.gs_master_spec.specs.Undoing.{edited_names}
use Rattle.gs_master_spec.specs.Volatile.{Volatile, all_changed, changed, is_call, is_pending, paths_of, with_waiting, without_handle, without_pending}
use Rattle.gs_master_spec.specs.declared.asking.Asking.{Asking}
use Rattle.gs_master_spec.specs.declared.change.Change.TheVariants as changes
use Rattle.gs_master_spec.specs.declared.pending.Pending.{Pending}
use Rattle.gs_master_spec.specs.declared.pending.Waiting.{Waiting}
use Rattle.gs_master_spec.specs.declared.pending.Waiting.TheVariants as waits
use Rattle.gs_master_spec.specs.declared.reply.KeptReply.{KeptReply}
use Rattle.gs_laws_master.specs.Standing.{CanWait, IsToldWaiting, Stands, may_ask}
use Rattle.gs_laws_master.proofs.lemmas.fitting.Accepted.{edit_applies}
use Rattle.gs_laws_master.proofs.lemmas.fitting.AcceptedViews.{is_settled, or_left, or_right, proposes}
use Rattle.gs_laws_master.proofs.lemmas.versions.Fresh.{next_is_fresh, not_false}
use Rattle.gs_laws_master.proofs.lemmas.fitting.GoingOn.{Ready, left_true, may_place, on_steps, viewed}
use Rattle.gs_laws_master.proofs.lemmas.keeping.KeptEdits.{add_lists, cow_lists, edit_told}
use Rattle.gs_laws_master.proofs.lemmas.spelling.Spelled.{read_path}
use Rattle.gs_laws_master.specs.Numbered.{HasNumbers}
use Rattle.gs_laws_master.proofs.lemmas.names.Numbered.{keeps_numbers}
use Rattle.gs_laws_master.proofs.lemmas.standing.Standing.{NotAsked, end, fewer_out, keep, member_gone, now_answered, others_still, others_wait, put_out, recorded, same_call, same_number, same_parts, same_self, set_pending, set_so, set_wanted, wait, waits_now}
use Rattle.gs_laws_master.proofs.lemmas.standing.StandingCalls.{answers_of}
use Rattle.gs_laws_master.proofs.lemmas.standing.StandingRecords.{edit_onto}
use Rattle.gs_laws_master.proofs.lemmas.standing.StandingTurns.{Good, Holds, given_up, same_good, then_good}
use Rattle.gs_laws_master.proofs.lemmas.standing.StandingViews.{IsFor, proposed_new, proposed_settled}

-- ---- what a step of one call leaves of the others

abbrev pub is_snapshot : Waiting → Bool
is_snapshot (waits.Snapshot from to) = true
is_snapshot waiting = false

pub record Others (req : ReqId) (v w : Volatile) : Type 0 where
  pub waits : (q : ReqId) (f : Waiting → Bool) → same_call req q ≡ false → is_waited_by (Some q) f w.pending ≡ is_waited_by (Some q) f v.pending
  pub asks : (q : ReqId) → same_call req q ≡ false → NotAsked v q → NotAsked w q

others_end : (req : ReqId) (v w : Volatile) → w.pending ≡ without_pending v.pending req → ((q : ReqId) → NotAsked v q → NotAsked w q) → Others req v w
others_end req v w pending fewer = record { waits = λ q f other. ap (is_waited_by (Some q) f) pending ∙ others_wait req q f v.pending other; asks = λ q other out. fewer q out }

others_then : (req : ReqId) (v w x : Volatile) → Others req v w → Others req w x → Others req v x
others_then req v w x a b = record { waits = λ q f other. b.waits q f other ∙ a.waits q f other; asks = λ q other out. b.asks q other (a.asks q other out) }

not_asked_more : (req q : ReqId) (v : Volatile) (chunk : ℕ) (asking : Asking) → asking.call ≡ Some req → same_call req q ≡ false → NotAsked v q → (c : ℕ) (a : Asking) → fin.get (fin.insert v.moving chunk asking) c ≡ Some a → is_call q a.call ≡ false
not_asked_more req q v chunk asking call other out c a has = by_key (eq_by_cmp nat_cmp c chunk) (sym (fin.get-insert nat_cmp_total v.moving chunk asking c) ∙ has)
  where
    asking_is : {a b : Asking} → ◌≡◌ {A = Option Asking} (Some a) (Some b) → a ≡ b
    asking_is e = cc

    back : (x y : ReqId) → same_call x y ≡ false → same_call y x ≡ false
    back x y h = by_test (same_call y x) refl
      where
        by_test : (b : Bool) → same_call y x ≡ b → b ≡ false
        by_test true is = sym (same_self y) ∙ ap (λ z. same_call z y) (same_parts y x is) ∙ h
        by_test false is = refl

    by_key : (b : Bool) → cond b (Some asking) (fin.get v.moving c) ≡ Some a → is_call q a.call ≡ false
    by_key true e = ap (λ (x : Asking). is_call q x.call) (sym (asking_is e)) ∙ ap (is_call q) call ∙ back req q other
    by_key false e = out c a e

others_waits : (req : ReqId) (waiting : Waiting) (v w : Volatile) (chunk : ℕ) (asking : Asking) → asking.call ≡ Some req → w.pending ≡ with_waiting v.pending req waiting → w.moving ≡ fin.insert v.moving chunk asking → Others req v w
others_waits req waiting v w chunk asking call pending moving = record {
  waits = λ q f other. ap (is_waited_by (Some q) f) (pending ∙ set_so v.pending req waiting) ∙ others_still req waiting q f v.pending other;
  asks = λ q other out c a has. not_asked_more req q v chunk asking call other out c a (ap (λ m. fin.get m c) (sym moving) ∙ has);
}

-- ---- a call that goes on

-- it waits so, alone
pub record CanGo (chunk : ℕ) (v : Volatile) (p : Pending) : Type 0 where
  pub can : CanWait p
  pub now : (f : Waiting → Bool) → is_waited_by (Some p.req) f v.pending ≡ f p.waits
  pub may : may_wait_for chunk p.waits ≡ true
  pub alone : is_snapshot p.waits ≡ false → NotAsked v p.req
  pub bare : is_snapshot p.waits ≡ false → fin.get v.moving chunk ≡ None

pub record Stepped (req : ReqId) (waiting : Waiting) (s : State) (t : Turn) : Type 0 where
  pub stands : Stands t.after.durable t.after.volatile
  pub others : Others req s.volatile t.after.volatile
  pub bare : is_snapshot waiting ≡ true → (c : ℕ) → fin.get s.volatile.moving c ≡ None → fin.get t.after.volatile.moving c ≡ None
  pub numbers : HasNumbers s.durable → HasNumbers t.after.durable

module _ (chunk : ℕ) (req : ReqId) (waiting : Waiting) where
  test_stepped : (s : State) (b : Bool) (t u : Turn) → (b ≡ true → Stepped req waiting s t) → (b ≡ false → Stepped req waiting s u) → Stepped req waiting s (if b then t else u)
  test_stepped s true t u f g = f refl
  test_stepped s false t u f g = g refl

  given_stepped : (s : State) (refusal : Refusal) → Holds true s → Stepped req waiting s (ended_by s req refusal)
  given_stepped s refusal h =
      let g = given_up true s req refusal h in record { stands = g.good.holds.stands; others = others_end req s.volatile (ended_by s req refusal).after.volatile g.pending g.fewer; bare = λ is c none. g.bare c none; numbers = g.good.numbers }

  room_stepped : (s : State) (t : Turn) → Holds true s → Stepped req waiting s t → Stepped req waiting s (if_room_for s req t)
  room_stepped s t h a = test_stepped s (fits s.log t.records) t (ended_by s req refusals.Full) (λ _. a) (λ _. given_stepped s refusals.Full h)

  same_stepped : (s : State) → Holds true s → Stepped req waiting s (unmoved s)
  same_stepped s h = record { stands = h.stands; others = record { waits = λ q f other. refl; asks = λ q other out. out }; bare = λ is c none. none; numbers = λ n. n }

  -- a call that is answered, for which nothing is asked
  record Answers_left (s : State) (w : Volatile) : Type 0 where
    stands : Stands s.durable w
    others : Others req s.volatile w
    bare : (c : ℕ) → fin.get s.volatile.moving c ≡ None → fin.get w.moving c ≡ None

  end_left : (s : State) (w : Volatile) → Stands s.durable w → w.pending ≡ s.volatile.pending → w.moving ≡ s.volatile.moving → NotAsked s.volatile req → Answers_left s (changed w (changes.End req))
  end_left s w stands pending moving none = record {
    stands = end req s.durable w stands (λ c a has call. absurd (true≢false (sym call ∙ none c a (ap (λ m. fin.get m c) (sym moving) ∙ has))));
    others = others_end req s.volatile (changed w (changes.End req)) (ap (λ ps. without_pending ps req) pending) (λ q out c a has. out c a (ap (λ m. fin.get m c) (sym moving) ∙ has));
    bare = λ c none. ap (λ m. fin.get m c) moving ∙ none;
  }

  answered_stepped : (s : State) (answer : Answer) → Holds true s → NotAsked s.volatile req → Stepped req waiting s (ended_with s req answer)
  answered_stepped s answer h none =
      let l = by_test (is_later (last_reply s req.client) req.number) refl in record { stands = l.stands; others = l.others; bare = λ is c out. l.bare c out; numbers = λ n. n }
    where
      reply : KeptReply
      reply = record { number = req.number; result = Ok answer }

      by_test : (c : Bool) → is_later (last_reply s req.client) req.number ≡ c → Answers_left s (all_changed s.volatile ((if c then kept_in_memory req (Ok answer) ∷ [] else []) ++ changes.End req ∷ []))
      by_test true new = end_left s (changed s.volatile (changes.Keep (req.client) reply)) (keep s.durable s.volatile h.stands req.client reply new) refl refl none
      by_test false new = end_left s s.volatile h.stands refl refl none

  -- ---- edits

  -- a snapshot is made: what is asked for its chunks goes on, and it was answered
  snapshot_stepped : (s : State) (from to : Path) → waiting ≡ waits.Snapshot from to → Holds true s → CanGo chunk s.volatile (record { req = req; waits = waiting }) → Ready chunk s.durable → Stepped req waiting s (ended_by_edit s req (Snapshot from to) answers.Nothing [])
  snapshot_stepped s from to is h go r = by_names (edited_names (Snapshot from to) s.durable.names) refl
    where
      edit : PlainEdit
      edit = Snapshot from to

      told : IsPath from × IsPath to
      told = subst IsToldWaiting is go.can.1

      visible : (is_visible from && (is_visible to && true)) ≡ true
      visible = ap (λ w. list_all is_visible (paths_of w)) (sym is) ∙ go.can.0

      no_maker : (c : ℕ) → is_waited_by (Some req) (makes c) s.volatile.pending ≡ false
      no_maker c = go.now (makes c) ∙ ap (makes c) is

      of_call : (call : Option ReqId) → is_call req call ≡ true → call ≡ Some req
      of_call None e = absurd (false≢true e)
      of_call (Some r) e = ap Some (sym (same_parts req r e))

      not_none : {A : Type 0} (o : Option A) → (o ≡ None → ⊥) → is_some o ≡ true
      not_none None f = absurd (f refl)
      not_none (Some x) f = refl

      not_true : (b : Bool) → (b ≡ true → ⊥) → b ≡ false
      not_true true f = absurd (f refl)
      not_true false f = refl

      by_names : (names : Result NamesView Refusal) → edited_names edit s.durable.names ≡ names → Stepped req waiting s (edit_turn s req (edit_plan req edit answers.Nothing []) names)
      by_names (Ok names) e =
          let parts = and_parts (is_visible from) (is_visible to && true) visible in
          let may = may_place chunk s.durable edit r (both_true (is_visible from) (is_visible to) parts.0 (left_true (is_visible to) parts.1)) refl refl in
          let fit = edit_applies ⊥ s.durable req edit names e may in
          let next = with_edit s.durable req edit names in
          let v = s.volatile in
          let on = recorded s.durable next v (edit_onto s.durable next v req edit h.stands (edit_told edit told) (answers_of s.durable edit h.stands.kept told) (record { asked = λ q some. refl; placed = λ q here k. false≢true (ap is_some k) }) fit) h.stands in
          let ended = end req next v on (λ c a has call.
          let k = h.stands.asked c a has in
          let own = of_call a.call call in (
            now_answered s.durable v req (Ok answers.Nothing),
            (
              not_none (fin.get s.durable.chunks c) (λ none. false≢true (sym (ap (λ x. is_waited_by x (makes c) v.pending) own ∙ no_maker c) ∙ k.made none)),
              not_true (is_member v.unplaced c) (λ here. false≢true (sym (ap (λ x. is_waited_by x (makes c) v.pending) own ∙ no_maker c) ∙ k.own req own here)),
            ),
          )) in
          room_stepped s (turned s (edit_plan req edit answers.Nothing [])) h (record {
            numbers = λ n. subst (λ o. HasNumbers (unwrap_or o s.durable)) (sym fit) (keeps_numbers (Edited req edit) refl s.durable next (edit_told edit told) h.stands.kept n fit);
            stands = subst (λ o. Stands (unwrap_or o s.durable) (changed v (changes.End req))) (sym fit) ended;
            others = others_end req v (changed v (changes.End req)) refl (λ q out. out);
            bare = λ is c none. none;
          })
      by_names (Err refusal) e = given_stepped s refusal h

  -- a chunk that is settled was given
  given_so : (d : Durable) (new : ℕ) {v : Volatile} → Stands d v → is_settled d new ≡ true → is_given d.next_handle new ≡ true
  given_so d new h some = h.kept.handles new some

  -- one that has its place is out no more
  back_in : (e : Durable) (w : Volatile) (new : ℕ) (outs : List ℕ) → Stands e (record w { taken_out = new ∷ outs }) → is_listed e new ≡ true → Stands e (record w { taken_out = outs })
  back_in e w new outs h listed = fewer_out e (record w { taken_out = new ∷ outs }) h outs (λ q here. or_right (new == q) (is_member outs q) here) (λ q some. by_test q (new == q) refl (h.counted q some))
    where
      by_test : (q : ℕ) (b : Bool) → (new == q) ≡ b → (is_listed e q || (is_member w.unplaced q || (b || is_member outs q))) ≡ true → (is_listed e q || (is_member w.unplaced q || is_member outs q)) ≡ true
      by_test q true is k = ap (λ b. b || (is_member w.unplaced q || is_member outs q)) (ap (is_listed e) (sym (same_number new q is)) ∙ listed)
      by_test q false is k = k

  -- the chunk of an extend gets its place
  extended_stepped : (s : State) (path : Path) (new : ℕ) (view : View) → IsPath path → is_visible path ≡ true → IsHandle new → new ≡ chunk → Holds true s → NotAsked s.volatile req → fin.get s.volatile.moving new ≡ None → is_snapshot waiting ≡ false → Ready chunk s.durable
      → Stepped req waiting s (extended s req path new view)
  extended_stepped s path new view told visible handle same h none still other r = by_names (edited_names edit s.durable.names) refl
    where
      edit : PlainEdit
      edit = AddChunk path new

      answer : Answer
      answer = answers.Location new view s.durable.epoch

      by_names : (names : Result NamesView Refusal) → edited_names edit s.durable.names ≡ names → Stepped req waiting s (edit_turn s req (edit_plan req edit answer (changes.Place new ∷ [])) names)
      by_names (Ok names) e =
          let may = subst (λ c. may_edit s.durable (AddChunk path c) ≡ true) (sym same) (may_place chunk s.durable (AddChunk path chunk) r visible (viewed chunk s.durable r) refl) in
          let fit = edit_applies ⊥ s.durable req edit names e may in
          let next = with_edit s.durable req edit names in
          let w = changed s.volatile (changes.Place new) in
          let wide = record w { taken_out = new ∷ s.volatile.taken_out } in
          let placed = put_out s.durable s.volatile h.stands new (given_so s.durable new h.stands (ap (is_settled s.durable) same ∙ r.known)) still in
          let into = recorded s.durable next wide (edit_onto s.durable next wide req edit placed (edit_told edit (told, handle)) (answers_of s.durable edit h.stands.kept (told, handle))
          (record { asked = λ q some. refl; placed = λ q here k. false≢true (sym (member_gone s.durable s.volatile h.stands s.volatile.unplaced new) ∙ ap (is_member (without_handle s.volatile.unplaced new)) (number_is k) ∙ here) }) fit) placed in
          let on = back_in next w new s.volatile.taken_out into (add_lists path new s.durable.names names e) in
          room_stepped s (turned s (edit_plan req edit answer (changes.Place new ∷ []))) h (record {
            numbers = λ n. subst (λ o. HasNumbers (unwrap_or o s.durable)) (sym fit) (keeps_numbers (Edited req edit) refl s.durable next (edit_told edit (told, handle)) h.stands.kept n fit);
            stands = subst (λ o. Stands (unwrap_or o s.durable) (changed w (changes.End req))) (sym fit) (end req next w on (λ c a has call. absurd (true≢false (sym call ∙ none c a has))));
            others = others_end req s.volatile (changed w (changes.End req)) refl (λ q out. out);
            bare = λ is. absurd (true≢false (sym is ∙ other));
          })
        where
          number_is : {a b : ℕ} → ◌≡◌ {A = Option ℕ} (Some a) (Some b) → a ≡ b
          number_is k = cc
      by_names (Err refusal) e = given_stepped s refusal h

  -- ---- views

  waits_wanted : (v : Volatile) (next : Waiting) (c : ℕ) (purpose : Purpose) → are_apart v.pending ≡ true → may_wait_for c next ≡ true → may_ask purpose next ≡ true → is_pending v.pending req ≡ true → (d : Durable) → IsFor d (changed v (changes.Wait req next)) c purpose (Some req)
  waits_wanted v next c purpose apart right asks here d = record {
    purposed = ap (λ ps. list_all (λ (p : Pending). not (same_call p.req req) || may_ask purpose p.waits) ps) (set_so v.pending req next) ∙ set_wanted req next (may_ask purpose) v.pending apart asks here;
    wanted = ap (λ ps. list_all (λ (p : Pending). not (same_call p.req req) || may_wait_for c p.waits) ps) (set_so v.pending req next) ∙ set_wanted req next (may_wait_for c) v.pending apart right here;
    past = λ r e. or_left (is_pending (with_waiting v.pending req next) r) _ (ap (λ ps. is_pending ps r) (set_so v.pending req next) ∙ set_pending req next r v.pending ∙ ap (is_pending v.pending) (sym (req_is e)) ∙ here);
  }
    where
      req_is : {a b : ReqId} → ◌≡◌ {A = Option ReqId} (Some a) (Some b) → a ≡ b
      req_is k = cc

  -- the chunk is quiet, and is copied
  where_stepped : (s : State) (path : Path) (index old : ℕ) (quiet : Option View) → IsPath path → (is_visible path && true) ≡ true → Holds true s → NotAsked s.volatile req → is_pending s.volatile.pending req ≡ true → is_snapshot waiting ≡ false → Ready chunk s.durable
      → (has_handle s.durable && has_versions s.durable 1) ≡ true → Stepped req waiting s (copied_where s req path index old quiet)
  where_stepped s path index old None told visible h none here other r left = given_stepped s refusals.NoReplica h
  where_stepped s path index old (Some view) told visible h none here other r left =
      let new = s.durable.next_handle in
      let next = waits.Copy path index old new in
      let plan = waits_on (copy_plan (next_stamp s.durable) old view new req) req next in
      let parts = and_parts (has_handle s.durable) (has_versions s.durable 1) left in
      let v = s.volatile in
      let w = changed v (changes.Wait req next) in
      let waited = wait req next s.durable v h.stands (visible, told) none in
      let fit = proposes s.durable new zero r.rolling parts.1 (or_right (is_settled s.durable new) (is_fresh new new) (next_is_fresh new 1 (omega arith) parts.0)) in
      let made = ap (is_waited_by (Some req) (makes new)) (set_so v.pending req next) ∙ waits_now req next (makes new) v.pending h.stands.apart here ∙ ap (λ b. b || false) (eqb_itself new) in
      let stands = proposed_new s.durable w purposes.Quiet view.members (Some req) waited r.rolling parts.1 parts.0 refl (waits_wanted v next new purposes.Quiet h.stands.apart (eqb_itself new) refl here s.durable) made in
      let asking = asking_for (next_stamp s.durable) purposes.Quiet view.members (Some req) in
      room_stepped s (turned s plan) h (record {
        numbers = λ n. subst (λ o. HasNumbers (unwrap_or o s.durable)) (sym fit) (keeps_numbers (Propose new s.durable.next_version) refl s.durable (proposed s.durable new s.durable.next_version) tt h.stands.kept n fit);
        stands = subst (λ o. Stands (unwrap_or o s.durable) (changed (changed w (changes.Enter new)) (changes.Ask new asking))) (sym fit) stands;
        others = others_waits req next v (changed (changed w (changes.Enter new)) (changes.Ask new asking)) new asking refl refl refl;
        bare = λ is. absurd (true≢false (sym is ∙ other));
      })

  copied_stepped : (s : State) (path : Path) (index old : ℕ) → IsPath path → (is_visible path && true) ≡ true → Holds true s → NotAsked s.volatile req → is_pending s.volatile.pending req ≡ true → is_snapshot waiting ≡ false → Ready chunk s.durable
      → Stepped req waiting s (copied s req path index old)
  copied_stepped s path index old told visible h none here other r =
      let copy = copied_where s req path index old (quiet_view_at s old) in
      let second = if not (has_handle s.durable && has_versions s.durable 1) then ended_by s req refusals.Exhausted else copy in
      test_stepped s (not (may_begin s.durable.phase)) (ended_by s req refusals.RollingBack) second (λ _. given_stepped s refusals.RollingBack h)
      (λ _. test_stepped s (not (has_handle s.durable && has_versions s.durable 1)) (ended_by s req refusals.Exhausted) copy (λ _. given_stepped s refusals.Exhausted h)
      (λ left. where_stepped s path index old (quiet_view_at s old) told visible h none here other r (not_false (has_handle s.durable && has_versions s.durable 1) left)))

  -- a lease is asked for, for a chunk that is listed
  leased_stepped : (s : State) (path : Path) (index new : ℕ) → IsPath path → (is_visible path && true) ≡ true → Holds true s → NotAsked s.volatile req → is_pending s.volatile.pending req ≡ true → is_snapshot waiting ≡ false → is_rolling s.durable.phase ≡ false
      → is_settled s.durable new ≡ true → is_listed s.durable new ≡ true → Stepped req waiting s (leased_next req path index new s)
  leased_stepped s path index new told visible h none here other rolling known listed =
      let next = waits.Lease path index new in
      let plan = waits_on (begin_at s new purposes.Lease (Some req)) req next in
      let begin = if_room_for s req (turned s plan) in
      let second = if not (has_versions s.durable 1) then ended_by s req refusals.Exhausted else begin in
      test_stepped s (not (may_begin s.durable.phase)) (ended_by s req refusals.RollingBack) second (λ _. given_stepped s refusals.RollingBack h)
      (λ _. test_stepped s (not (has_versions s.durable 1)) (ended_by s req refusals.Exhausted) begin (λ _. given_stepped s refusals.Exhausted h)
      (λ left. let some = not_false (has_versions s.durable 1) left in
      let v = s.volatile in
      let w = changed v (changes.Wait req next) in
      let members = members_at (chunk_at s new) in
      let waited = wait req next s.durable v h.stands (visible, told) none in
      let fit = proposes s.durable new zero rolling some (or_left (is_settled s.durable new) (is_fresh s.durable.next_handle new) known) in
      let stands = proposed_settled s.durable w purposes.Lease members (Some req) waited rolling some new known (or_left (is_listed s.durable new) (is_member v.unplaced new) listed) (inl listed) (λ lease. listed) (waits_wanted v next new purposes.Lease h.stands.apart (eqb_itself new) refl here s.durable) in
      let asking = asking_for (next_stamp s.durable) purposes.Lease members (Some req) in
      room_stepped s (turned s plan) h (record {
        numbers = λ n. subst (λ o. HasNumbers (unwrap_or o s.durable)) (sym fit) (keeps_numbers (Propose new s.durable.next_version) refl s.durable (proposed s.durable new s.durable.next_version) tt h.stands.kept n fit);
        stands = subst (λ o. Stands (unwrap_or o s.durable) (changed w (changes.Ask new asking))) (sym fit) stands;
        others = others_waits req next v (changed w (changes.Ask new asking)) new asking refl refl refl;
        bare = λ is. absurd (true≢false (sym is ∙ other));
      })))

  -- the copy takes the chunk's place
  replaced_stepped : (s : State) (path : Path) (index old new : ℕ) → IsPath path → (is_visible path && true) ≡ true → new ≡ chunk → Holds true s → NotAsked s.volatile req → is_pending s.volatile.pending req ≡ true → fin.get s.volatile.moving new ≡ None
      → is_snapshot waiting ≡ false → Ready chunk s.durable → Stepped req waiting s (replaced s req path index old new)
  replaced_stepped s path index old new told visible same h none here still other r = by_names (edited_names edit s.durable.names) refl
    where
      edit : PlainEdit
      edit = Cow path index old new

      by_names : (names : Result NamesView Refusal) → edited_names edit s.durable.names ≡ names → Stepped req waiting s (replaced_if s req path index old new names)
      by_names (Ok names) e =
          let plan = replace_plan path index old new in
          let then_lease = leased_next req path index new in
          let may = subst (λ c. may_edit s.durable (Cow path index old c) ≡ true) (sym same) (may_place chunk s.durable (Cow path index old chunk) r (left_true (is_visible path) visible) (viewed chunk s.durable r) refl) in
          let fit = edit_applies ⊥ s.durable own_request edit names e may in
          let next = with_edit s.durable own_request edit names in
          let w = changed s.volatile (changes.Place new) in
          let wide = record w { taken_out = new ∷ s.volatile.taken_out } in
          let placed = put_out s.durable s.volatile h.stands new (given_so s.durable new h.stands (ap (is_settled s.durable) same ∙ r.known)) still in
          let into = recorded s.durable next wide (edit_onto s.durable next wide own_request edit placed (read_path path told.1) (λ well a is. absurd (false≢true (ap is_some is)))
          (record { asked = λ q some. refl; placed = λ q out k. false≢true (sym (member_gone s.durable s.volatile h.stands s.volatile.unplaced new) ∙ ap (is_member (without_handle s.volatile.unplaced new)) (number_is k) ∙ out) }) fit) placed in
          let on = back_in next w new s.volatile.taken_out into (cow_lists path index old new s.durable.names names e) in
          let after = (turned s plan).after in
          let held : Holds true after = record {
            stands = subst (λ o. Stands (unwrap_or o s.durable) w) (sym fit) on;
            rolling = λ c k. absurd (true≢false (sym k ∙ ap (λ o. is_rolling (unwrap_or o s.durable).phase) fit ∙ r.rolling));
          } in
          let rest = leased_stepped after path index new told visible held none here other (ap (λ o. is_rolling (unwrap_or o s.durable).phase) fit ∙ r.rolling)
          (ap (λ o. is_settled (unwrap_or o s.durable) new) fit ∙ ap (is_settled s.durable) same ∙ r.known) (ap (λ o. is_listed (unwrap_or o s.durable) new) fit ∙ cow_lists path index old new s.durable.names names e) in
          test_stepped s (fits s.log (Edited own_request edit ∷ [])) (and_then (turned s plan) then_lease) (ended_by s req refusals.Full)
          (λ _. record { numbers = λ n. rest.numbers (subst (λ o. HasNumbers (unwrap_or o s.durable)) (sym fit) (keeps_numbers (Edited own_request edit) refl s.durable next (read_path path told.1) h.stands.kept n fit)); stands = rest.stands; others = record { waits = λ q f out. rest.others.waits q f out; asks = λ q out k. rest.others.asks q out k }; bare = λ is. absurd (true≢false (sym is ∙ other)) })
          (λ _. given_stepped s refusals.Full h)
        where
          number_is : {a b : ℕ} → ◌≡◌ {A = Option ℕ} (Some a) (Some b) → a ≡ b
          number_is k = cc
      by_names (Err refusal) e = given_stepped s refusal h

-- ---- any call

is_here : (v : Volatile) (p : Pending) → ((f : Waiting → Bool) → is_waited_by (Some p.req) f v.pending ≡ f p.waits) → is_pending v.pending p.req ≡ true
is_here v p now = turned_round v.pending (now (λ w. true))
  where
    back : (x y : ReqId) → same_call x y ≡ true → same_call y x ≡ true
    back x y k = ap (λ z. same_call z x) (sym (same_parts x y k)) ∙ same_self x

    turned_round : (ps : List Pending) → is_waited_by (Some p.req) (λ w. true) ps ≡ true → is_pending ps p.req ≡ true
    turned_round [] e = e
    turned_round (q ∷ ps) e = by_test (same_call q.req p.req) refl e (λ k. turned_round ps k)
      where
        by_test : (b : Bool) → same_call q.req p.req ≡ b → ((b && true) || is_waited_by (Some p.req) (λ w. true) ps) ≡ true → (is_waited_by (Some p.req) (λ w. true) ps ≡ true → is_pending ps p.req ≡ true) → (same_call p.req q.req || is_pending ps p.req) ≡ true
        by_test true is k rest = or_left (same_call p.req q.req) (is_pending ps p.req) (back q.req p.req is)
        by_test false is k rest = or_right (same_call p.req q.req) (is_pending ps p.req) (rest k)

goes_so : (chunk : ℕ) (s : State) (req : ReqId) (view : View) (waiting : Waiting) → Holds true s → CanGo chunk s.volatile (record { req = req; waits = waiting }) → Ready chunk s.durable → Stepped req waiting s (goes_on s req view waiting)
unfolding goes_on
goes_so chunk s req view (waits.Extend path new) h go r =
    let same = same_number new chunk go.may in
    extended_stepped chunk req (waits.Extend path new) s path new view go.can.1.0 (left_true (is_visible path) go.can.0) go.can.1.1 same h (go.alone refl) (ap (fin.get s.volatile.moving) same ∙ go.bare refl) refl r
goes_so chunk s req view (waits.Lease path index leased) h go r = answered_stepped chunk req (waits.Lease path index leased) s (answers.Location leased view s.durable.epoch) h (go.alone refl)
goes_so chunk s req view (waits.Quiet path index quiet) h go r =
    copied_stepped chunk req (waits.Quiet path index quiet) s path index quiet go.can.1 go.can.0 h (go.alone refl) (is_here s.volatile (record { req = req; waits = waits.Quiet path index quiet }) go.now) refl r
goes_so chunk s req view (waits.Copy path index old new) h go r =
    let same = same_number new chunk go.may in
    replaced_stepped chunk req (waits.Copy path index old new) s path index old new go.can.1 go.can.0 same h (go.alone refl) (is_here s.volatile (record { req = req; waits = waits.Copy path index old new }) go.now) (ap (fin.get s.volatile.moving) same ∙ go.bare refl) refl r
goes_so chunk s req view (waits.Snapshot from to) h go r =
    test_stepped chunk req (waits.Snapshot from to) s (list_all (is_quiet_at s) (source_chunks s from)) (ended_by_edit s req (Snapshot from to) answers.Nothing []) (unmoved s)
    (λ _. snapshot_stepped chunk req (waits.Snapshot from to) s from to refl h go r) (λ _. same_stepped chunk req (waits.Snapshot from to) s h)
goes_so chunk s req view (waits.Replicate copied target) h go r =
    let copied_to = ended_with s req (answers.Copied (Some (record { handle = copied; server = target }))) in
    test_stepped chunk req (waits.Replicate copied target) s (is_member view.members target) copied_to (ended_by s req refusals.NoReplica)
    (λ _. answered_stepped chunk req (waits.Replicate copied target) s (answers.Copied (Some (record { handle = copied; server = target }))) h (go.alone refl)) (λ _. given_stepped chunk req (waits.Replicate copied target) s refusals.NoReplica h)

-- ---- one after the other

abbrev pub Apart : Pending → Pending → Type 0
Apart p q = (same_call p.req q.req ≡ false) × ((is_snapshot p.waits || is_snapshot q.waits) ≡ true)

abbrev pub Going : ℕ → Volatile → List Pending → Type 0
Going chunk v [] = Unit {0}
Going chunk v (p ∷ ps) = CanGo chunk v p × (AllByRecursion (Apart p) ps × Going chunk v ps)

still_can : (chunk : ℕ) (v w : Volatile) (p q : Pending) → Others p.req v w → (is_snapshot p.waits ≡ true → (c : ℕ) → fin.get v.moving c ≡ None → fin.get w.moving c ≡ None) → Apart p q → CanGo chunk v q → CanGo chunk w q
still_can chunk v w p q o bare apart go = record {
  can = go.can;
  now = λ f. o.waits q.req f apart.0 ∙ go.now f;
  may = go.may;
  alone = λ other. o.asks q.req apart.0 (go.alone other);
  bare = λ other. bare (or_only (is_snapshot p.waits) (is_snapshot q.waits) other apart.1) chunk (go.bare other);
}
  where
    or_only : (a b : Bool) → b ≡ false → (a || b) ≡ true → a ≡ true
    or_only true b e k = refl
    or_only false b e k = absurd (false≢true (sym e ∙ k))

still_going : (chunk : ℕ) (v w : Volatile) (p : Pending) (ps : List Pending) → Others p.req v w → (is_snapshot p.waits ≡ true → (c : ℕ) → fin.get v.moving c ≡ None → fin.get w.moving c ≡ None) → AllByRecursion (Apart p) ps → Going chunk v ps → Going chunk w ps
still_going chunk v w p [] o bare apart go = tt
still_going chunk v w p (q ∷ ps) o bare apart go = (still_can chunk v w p q o bare apart.0 go.0, (go.1.0, still_going chunk v w p ps o bare apart.1 go.1.1))

-- one goes on, and what the rest meets
pub record GoesSo (chunk : ℕ) (view : View) (p : Pending) (calls : List Pending) (s : State) : Type 0 where
  pub held : Holds true (goes_on s p.req view p.waits).after
  pub going : Going chunk (goes_on s p.req view p.waits).after.volatile calls
  pub ready : Ready chunk (goes_on s p.req view p.waits).after.durable
  pub bare : is_snapshot p.waits ≡ true → (c : ℕ) → fin.get s.volatile.moving c ≡ None → fin.get (goes_on s p.req view p.waits).after.volatile.moving c ≡ None

pub one_goes_so : (chunk : ℕ) (view : View) (p : Pending) (calls : List Pending) (s : State) → Holds true s → Going chunk s.volatile (p ∷ calls) → Ready chunk s.durable → GoesSo chunk view p calls s
one_goes_so chunk view p calls s h go r =
    let t = goes_on s p.req view p.waits in
    let steps = on_steps chunk s p.req view p.waits (both_true (list_all is_visible (paths_of p.waits)) (may_wait_for chunk p.waits) go.0.can.0 go.0.may) r in
    let so = goes_so chunk s p.req view p.waits h go.0 r in
    record {
      held = record { stands = so.stands; rolling = λ c k. absurd (true≢false (sym k ∙ steps.ready.rolling)) };
      going = still_going chunk s.volatile t.after.volatile p calls so.others so.bare go.1.0 go.1.1;
      ready = steps.ready;
      bare = so.bare;
    }

pub all_going : (chunk : ℕ) (view : View) (calls : List Pending) (s : State) → Holds true s → Going chunk s.volatile calls → Ready chunk s.durable → Good true s (all_go_on view calls s)
all_going chunk view [] s h go r = same_good true s (unmoved s) refl refl h
all_going chunk view (p ∷ calls) s h go r =
    let t = goes_on s p.req view p.waits in
    let steps = on_steps chunk s p.req view p.waits (both_true (list_all is_visible (paths_of p.waits)) (may_wait_for chunk p.waits) go.0.can.0 go.0.may) r in
    let so = goes_so chunk s p.req view p.waits h go.0 r in
    let held : Holds true t.after = record { stands = so.stands; rolling = λ c k. absurd (true≢false (sym k ∙ steps.ready.rolling)) } in
    then_good true s t (all_go_on view calls) (record { numbers = so.numbers; fits = steps.goes.fits; holds = held })
    (all_going chunk view calls t.after held (still_going chunk s.volatile t.after.volatile p calls so.others so.bare go.1.0 go.1.1) steps.ready)
