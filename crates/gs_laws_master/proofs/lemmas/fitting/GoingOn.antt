-- How calls that waited go on once their chunk is settled: each record fits.
use Rattle.std.proofs.Common.{◌≡◌, ◌∙◌, ◌&&◌, ◌||◌, ◌==◌, ℕ, zero, Bool, true, false, not, List, [], ◌∷◌, refl, ap, subst, sym, arith}
use Rattle.std.specs.Prelude.{is_none, is_some, option_map, unwrap_or, Option, Some, None, Result, Ok, Err, if◌then◌else◌}
use Rattle.std.specs.FinMap as fin
use Rattle.std.specs.List.{list_all}
use Rattle.std.proofs.lemmas.Bool.{and_parts}
use Rattle.std.proofs.lemmas.Bool.Decides.{nat_tests}
use Rattle.gs_base.specs.Members.{is_member}
use Rattle.gs_base.specs.declared.numbers.ReqId.{ReqId}
use Rattle.gs_base.specs.declared.refusal.Refusal.{Refusal}
use Rattle.gs_base.specs.declared.refusal.Refusal.TheVariants as refusals
use Rattle.gs_path.specs.Path.{Path}
use Rattle.gs_tree.proofs.Levels.{both_true}
use Rattle.gs_edit.specs.View.{NamesView}
use Rattle.gs_lease.specs.declared.view.Purpose.TheVariants as purposes
use Rattle.gs_lease.specs.declared.view.View.{View}
use Rattle.gs_msg.specs.declared.answer.Answer.{Answer}
use Rattle.gs_msg.specs.declared.answer.Answer.TheVariants as answers
use Rattle.gs_master_record.specs.Plain.{PlainEdit, PlainEntry, AddChunk, Cow, Snapshot, Edited, Propose}
use Rattle.gs_master_spec.specs.Applied.{applied, chunk_of_edit, is_fresh, is_fresh_if, is_visible, may_edit, names_well, number_of_edit, proposed, view_for, with_edit}
use Rattle.gs_master_spec.specs.Beginning.{begin_at, copy_plan, has_handle, has_versions, next_stamp, waits_on}
use Rattle.gs_master_spec.specs.Chunks.{may_begin}
use Rattle.gs_master_spec.specs.Durable.{Durable, Settled, is_rolling}
use Rattle.gs_master_state.specs.Sane.{may_wait_for}
use Rattle.gs_master_spec.specs.Settling.{all_go_on, copied, copied_where, copied_tree, edit_plan, edit_turn, ended_by_edit, ended_with, extended, goes_on, if_room_for, is_quiet_at, leased_next, own_request, replace_plan, replaced, replaced_if, source_chunks, quiet_view_at}
use Rattle.gs_master_spec.specs.State.{State, Plan, Turn, turned, unmoved, and_then, fits, ended_by}
use Rattle.gs_master_spec.specs.Undoing.{edited_names}
use Rattle.gs_master_spec.specs.Volatile.{paths_of}
use Rattle.gs_master_spec.specs.declared.change.Change.{Change}
use Rattle.gs_master_spec.specs.declared.change.Change.TheVariants as changes
use Rattle.gs_master_spec.specs.declared.pending.Pending.{Pending}
use Rattle.gs_master_spec.specs.declared.pending.Waiting.{Waiting}
use Rattle.gs_master_spec.specs.declared.pending.Waiting.TheVariants as waits
use Rattle.gs_laws_master.proofs.lemmas.fitting.Accepted.{Goes, edit_applies, ended_goes, one_goes, same_goes, then_goes}
use Rattle.gs_laws_master.proofs.lemmas.fitting.AcceptedViews.{is_settled, or_left, or_right, proposes}
use Rattle.gs_laws_master.proofs.lemmas.fitting.AcceptedWork.{all_ended_same}
use Rattle.gs_laws_master.proofs.lemmas.versions.Fresh.{next_is_fresh, not_false}
use Rattle.gs_laws_master.proofs.lemmas.keeping.KeptRecords.{proposed_some}

-- nothing is rolled back, and the chunk is settled
pub record Ready (chunk : ℕ) (d : Durable) : Type 0 where
  pub rolling : is_rolling d.phase ≡ false
  pub known : is_settled d chunk ≡ true

-- the records fit, and so it is afterwards
pub record Steps (chunk : ℕ) (s : State) (t : Turn) : Type 0 where
  pub goes : Goes ⊥ s t
  pub ready : Ready chunk t.after.durable

-- a call that waits may go on once the chunk is settled
abbrev pub may_go_on : ℕ → Waiting → Bool
may_go_on chunk waiting = list_all is_visible (paths_of waiting) && may_wait_for chunk waiting

same_some : {A B : Type 0} (f : A → B) (o : Option A) → is_some (option_map f o) ≡ is_some o
same_some f None = refl
same_some f (Some x) = refl

pub left_true : (b : Bool) → (b && true) ≡ true → b ≡ true
left_true true h = refl
left_true false h = h

pub same_number : (a b : ℕ) → (a == b) ≡ true → b ≡ a
same_number a b h = grind (arith, nat_tests)

module _ (chunk : ℕ) where
  same_steps : (s : State) (t : Turn) → t.after.durable ≡ s.durable → t.records ≡ [] → Ready chunk s.durable → Steps chunk s t
  same_steps s t same none r = record { goes = same_goes ⊥ s t same none; ready = subst (Ready chunk) (sym same) r }

  ended_steps : (s : State) (req : ReqId) (refusal : Refusal) → Ready chunk s.durable → Steps chunk s (ended_by s req refusal)
  ended_steps s req refusal r = record {
    goes = ended_goes ⊥ s req refusal;
    ready = record {
      rolling = all_ended_same (λ d. is_rolling d.phase) (λ d replies. refl) (req ∷ []) refusal s ∙ r.rolling;
      known = all_ended_same (λ d. is_settled d chunk) (λ d replies. refl) (req ∷ []) refusal s ∙ r.known;
    };
  }

  one_steps : (s : State) (entry : PlainEntry) (plan : Plan) (next : Durable) → applied s.durable entry ≡ Some next → Ready chunk next → Steps chunk s (turned s (record plan { records = entry ∷ [] }))
  one_steps s entry plan next e r = record { goes = one_goes ⊥ s entry plan next e (λ t k. absurd t); ready = subst (λ o. Ready chunk (unwrap_or o s.durable)) (sym e) r }

  test_steps : (s : State) (b : Bool) (t u : Turn) → (b ≡ true → Steps chunk s t) → (b ≡ false → Steps chunk s u) → Steps chunk s (if b then t else u)
  test_steps s true t u a b = a refl
  test_steps s false t u a b = b refl

  then_steps : (s : State) (t : Turn) (f : State → Turn) → Steps chunk s t → (Ready chunk t.after.durable → Steps chunk t.after (f t.after)) → Steps chunk s (and_then t f)
  then_steps s t f a b = let next = b a.ready in record { goes = then_goes ⊥ s t f a.goes next.goes; ready = next.ready }

  room_steps : (s : State) (req : ReqId) (t : Turn) → Ready chunk s.durable → Steps chunk s t → Steps chunk s (if_room_for s req t)
  room_steps s req t r a = test_steps s (fits s.log t.records) t (ended_by s req refusals.Full) (λ _. a) (λ _. ended_steps s req refusals.Full r)

  -- ---- edits

  pub may_place : (d : Durable) (edit : PlainEdit) → Ready chunk d → names_well edit ≡ true → (is_none (chunk_of_edit edit) || is_some (view_for d (chunk_of_edit edit))) ≡ true → is_fresh_if d.next_hidden (number_of_edit edit) ≡ true → may_edit d edit ≡ true
  may_place d edit r well settled fresh =
      both_true (not (is_rolling d.phase)) _ (ap not r.rolling)
      (both_true (names_well edit) _ well (both_true (is_none (chunk_of_edit edit) || is_some (view_for d (chunk_of_edit edit))) (is_fresh_if d.next_hidden (number_of_edit edit)) settled fresh))

  pub viewed : (d : Durable) → Ready chunk d → is_some (view_for d (Some chunk)) ≡ true
  viewed d r = same_some (λ (s : Settled). s.view) (fin.get d.chunks chunk) ∙ r.known

  edit_steps : (s : State) (req : ReqId) (edit : PlainEdit) (answer : Answer) (before : List Change) → Ready chunk s.durable → may_edit s.durable edit ≡ true → ((names : NamesView) → Ready chunk (with_edit s.durable req edit names))
      → (names : Result NamesView Refusal) → edited_names edit s.durable.names ≡ names → Steps chunk s (edit_turn s req (edit_plan req edit answer before) names)
  edit_steps s req edit answer before r may next (Ok names) e =
      let plan = edit_plan req edit answer before in
      room_steps s req (turned s plan) r (one_steps s (Edited req edit) plan (with_edit s.durable req edit names) (edit_applies ⊥ s.durable req edit names e may) (next names))
  edit_steps s req edit answer before r may next (Err refusal) e = ended_steps s req refusal r

  extended_steps : (s : State) (req : ReqId) (path : Path) (view : View) → is_visible path ≡ true → Ready chunk s.durable → Steps chunk s (extended s req path chunk view)
  extended_steps s req path view well r =
      edit_steps s req (AddChunk path chunk) (answers.Location chunk view s.durable.epoch) (changes.Place chunk ∷ []) r (may_place s.durable (AddChunk path chunk) r well (viewed s.durable r) refl) (λ names. record { rolling = r.rolling; known = r.known })
      (edited_names (AddChunk path chunk) s.durable.names) refl

  tree_steps : (s : State) (req : ReqId) (from to : Path) → (is_visible from && is_visible to) ≡ true → Ready chunk s.durable → Steps chunk s (copied_tree s req from to)
  tree_steps s req from to well r =
      test_steps s (list_all (is_quiet_at s) (source_chunks s from)) (ended_by_edit s req (Snapshot from to) answers.Nothing []) (unmoved s)
      (λ _. edit_steps s req (Snapshot from to) answers.Nothing [] r (may_place s.durable (Snapshot from to) r well refl refl) (λ names. record { rolling = r.rolling; known = r.known }) (edited_names (Snapshot from to) s.durable.names) refl)
      (λ _. same_steps s (unmoved s) refl refl r)

  -- ---- proposals

  proposed_ready : (d : Durable) (new : ℕ) → Ready chunk d → Ready chunk (proposed d new d.next_version)
  proposed_ready d new r = record { rolling = r.rolling; known = proposed_some d new chunk (fin.get d.chunks new) refl ∙ r.known }

  where_steps : (s : State) (req : ReqId) (path : Path) (index old : ℕ) (quiet : Option View) → (has_handle s.durable && has_versions s.durable 1) ≡ true → Ready chunk s.durable → Steps chunk s (copied_where s req path index old quiet)
  where_steps s req path index old None left r = ended_steps s req refusals.NoReplica r
  where_steps s req path index old (Some view) left r =
      let plan = waits_on (copy_plan (next_stamp s.durable) old view s.durable.next_handle req) req (waits.Copy path index old s.durable.next_handle) in
      let new = s.durable.next_handle in
      let parts = and_parts (has_handle s.durable) (has_versions s.durable 1) left in
      room_steps s req (turned s plan) r (one_steps s (Propose new s.durable.next_version) plan (proposed s.durable new s.durable.next_version)
      (proposes s.durable new zero r.rolling parts.1 (or_right (is_settled s.durable new) (is_fresh new new) (next_is_fresh new 1 (omega arith) parts.0))) (proposed_ready s.durable new r))

  copied_steps : (s : State) (req : ReqId) (path : Path) (index old : ℕ) → Ready chunk s.durable → Steps chunk s (copied s req path index old)
  copied_steps s req path index old r =
      let copy = copied_where s req path index old (quiet_view_at s old) in
      let second = if not (has_handle s.durable && has_versions s.durable 1) then ended_by s req refusals.Exhausted else copy in
      test_steps s (not (may_begin s.durable.phase)) (ended_by s req refusals.RollingBack) second (λ _. ended_steps s req refusals.RollingBack r)
      (λ _. test_steps s (not (has_handle s.durable && has_versions s.durable 1)) (ended_by s req refusals.Exhausted) copy (λ _. ended_steps s req refusals.Exhausted r)
      (λ left. where_steps s req path index old (quiet_view_at s old) (not_false (has_handle s.durable && has_versions s.durable 1) left) r))

  leased_steps : (s : State) (req : ReqId) (path : Path) (index : ℕ) → Ready chunk s.durable → Steps chunk s (leased_next req path index chunk s)
  leased_steps s req path index r =
      let plan = waits_on (begin_at s chunk purposes.Lease (Some req)) req (waits.Lease path index chunk) in
      let begin = if_room_for s req (turned s plan) in
      let second = if not (has_versions s.durable 1) then ended_by s req refusals.Exhausted else begin in
      test_steps s (not (may_begin s.durable.phase)) (ended_by s req refusals.RollingBack) second (λ _. ended_steps s req refusals.RollingBack r)
      (λ _. test_steps s (not (has_versions s.durable 1)) (ended_by s req refusals.Exhausted) begin (λ _. ended_steps s req refusals.Exhausted r)
      (λ left. room_steps s req (turned s plan) r (one_steps s (Propose chunk s.durable.next_version) plan (proposed s.durable chunk s.durable.next_version)
      (proposes s.durable chunk zero r.rolling (not_false (has_versions s.durable 1) left) (or_left (is_settled s.durable chunk) (is_fresh s.durable.next_handle chunk) r.known)) (proposed_ready s.durable chunk r))))

  replaced_steps : (s : State) (req : ReqId) (path : Path) (index old : ℕ) → is_visible path ≡ true → Ready chunk s.durable → (names : Result NamesView Refusal) → edited_names (Cow path index old chunk) s.durable.names ≡ names
      → Steps chunk s (replaced_if s req path index old chunk names)
  replaced_steps s req path index old well r (Ok names) e =
      let plan = replace_plan path index old chunk in
      let edit = Cow path index old chunk in
      let next = leased_next req path index chunk in
      test_steps s (fits s.log (Edited own_request edit ∷ [])) (and_then (turned s plan) next) (ended_by s req refusals.Full)
      (λ _. then_steps s (turned s plan) next
      (one_steps s (Edited own_request edit) plan (with_edit s.durable own_request edit names) (edit_applies ⊥ s.durable own_request edit names e (may_place s.durable edit r well (viewed s.durable r) refl)) (record { rolling = r.rolling; known = r.known }))
      (λ after. leased_steps (turned s plan).after req path index after))
      (λ _. ended_steps s req refusals.Full r)
  replaced_steps s req path index old well r (Err refusal) e = ended_steps s req refusal r

  -- ---- any call

  pub on_steps : (s : State) (req : ReqId) (view : View) (waiting : Waiting) → may_go_on chunk waiting ≡ true → Ready chunk s.durable → Steps chunk s (goes_on s req view waiting)
  unfolding goes_on
  on_steps s req view (waits.Extend path new) may r =
      let parts = and_parts (list_all is_visible (path ∷ [])) (new == chunk) may in
      subst (λ c. Steps chunk s (extended s req path c view)) (same_number new chunk parts.1) (extended_steps s req path view (left_true (is_visible path) parts.0) r)
  on_steps s req view (waits.Lease path index leased) may r = same_steps s (ended_with s req (answers.Location leased view s.durable.epoch)) refl refl r
  on_steps s req view (waits.Quiet path index quiet) may r = copied_steps s req path index quiet r
  on_steps s req view (waits.Copy path index old new) may r =
      let parts = and_parts (list_all is_visible (path ∷ [])) (new == chunk) may in
      subst (λ c. Steps chunk s (replaced s req path index old c)) (same_number new chunk parts.1) (replaced_steps s req path index old (left_true (is_visible path) parts.0) r (edited_names (Cow path index old chunk) s.durable.names) refl)
  on_steps s req view (waits.Snapshot from to) may r =
      let parts = and_parts (is_visible from) (is_visible to && true) (and_parts (list_all is_visible (from ∷ to ∷ [])) true may).0 in
      tree_steps s req from to (both_true (is_visible from) (is_visible to) parts.0 (left_true (is_visible to) parts.1)) r
  on_steps s req view (waits.Replicate copied target) may r =
      let copied_to = ended_with s req (answers.Copied (Some (record { handle = copied; server = target }))) in
      test_steps s (is_member view.members target) copied_to (ended_by s req refusals.NoReplica) (λ _. same_steps s copied_to refl refl r) (λ _. ended_steps s req refusals.NoReplica r)

  pub all_steps : (view : View) (calls : List Pending) (s : State) → list_all (λ (p : Pending). may_go_on chunk p.waits) calls ≡ true → Ready chunk s.durable → Steps chunk s (all_go_on view calls s)
  all_steps view [] s all r = same_steps s (unmoved s) refl refl r
  all_steps view (p ∷ calls) s all r =
      let parts = and_parts (may_go_on chunk p.waits) (list_all (λ (q : Pending). may_go_on chunk q.waits) calls) all in
      then_steps s (goes_on s p.req view p.waits) (all_go_on view calls) (on_steps s p.req view p.waits parts.0 r) (λ after. all_steps view calls (goes_on s p.req view p.waits).after parts.1 after)
